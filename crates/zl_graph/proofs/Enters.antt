-- A walk that puts a new node on the stack.
use Rattle.std.proofs.Common.{◌≡◌, ◌⊎◌, inl, inr, ℕ, ◌<◌, ◌≤◌, List, [], ◌∷◌, ◌++◌, length, set, slice_get, Some, sym, ap, ◌∙◌, subst, arith, length-set, length-append}
use Rattle.std.proofs.lemmas.Option.{slice_get_within}
use Rattle.std.proofs.lemmas.Bool.Decides.{eqb_tells}
use Rattle.zl_graph.specs.declared.graph.Link.{Link}
use Rattle.zl_graph.specs.declared.marks.Mark.{Mark}
use Rattle.zl_graph.specs.declared.marks.Mark.TheVariants.{New, Standing, Done}
use Rattle.zl_graph.specs.declared.walk.Part.{Part}
use Rattle.zl_graph.specs.Graph.{IsLinked, Reaches, Here, HasNodes}
use Rattle.zl_graph.specs.Chains.{HasAdded}
use Rattle.zl_graph.specs.Walking.{Stage, IsWalk, IsNext, IsFollowed, ToDone, ToStack, ToWaiting, Waits, IsAsHigh, WaitsAsHigh}
use Rattle.zl_graph.proofs.Positions.{get-left, get-push, get-push_cases, get-set_same, get-set_other}
use Rattle.zl_graph.proofs.Ways.{Reaches-more}

-- the mark of another node
other_kept : (marks : List Mark) (v u : ℕ) (mark to : Mark) → slice_get marks v ≡ Some New → slice_get marks u ≡ Some mark → (mark ≡ New → ⊥) → slice_get (set marks v to) u ≡ Some mark
other_kept marks v u mark to new is old = get-set_other marks v u to (λ e. old (apart e)) ∙ is
  where
    apart : u ≡ v → mark ≡ New
    apart e = let here : slice_get marks v ≡ Some mark = subst (λ w. slice_get marks w ≡ Some mark) e is in cc

pub mark_from : (marks : List Mark) (v u : ℕ) (mark to : Mark) → slice_get marks v ≡ Some New → slice_get (set marks v to) u ≡ Some mark
    → ((u ≡ v) × (mark ≡ to)) ⊎ (slice_get marks u ≡ Some mark)
mark_from marks v u mark to new is =
    elim (eqb_tells u v) [
      | inl h ↦ (let at : slice_get (set marks v to) v ≡ Some mark = subst (λ w. slice_get (set marks v to) w ≡ Some mark) h.1 is in
          let same = get-set_same marks v to (slice_get_within marks v New new) in
          let equal : mark ≡ to = cc in
          inl (h.1, equal))
      | inr h ↦ inr (sym (get-set_other marks v u to h.1) ∙ is)
    ]

-- the stage after it
abbrev pub entered : Stage → ℕ → List ℕ → Stage
entered s v waiting = record {
  marks = set s.marks v (Standing (length s.stack));
  stack = s.stack ++ v ∷ [];
  waiting = waiting;
  parts = s.parts ++ (record { first = length s.stack; waiting = length s.waiting }) ∷ [];
  count = s.count;
}

-- the new part
abbrev IsTop : Stage → ℕ → Part → Type 0
IsTop s i p = (i ≡ length s.parts) × (p ≡ record { first = length s.stack; waiting = length s.waiting })

-- a part is one of the old ones, or the new one
part_cases : (s : Stage) (v : ℕ) (waiting : List ℕ) (P : Part → Type 0) → ((i : ℕ) (p : Part) → slice_get s.parts i ≡ Some p → P p)
    → P (record { first = length s.stack; waiting = length s.waiting }) → (i : ℕ) (p : Part) → slice_get (entered s v waiting).parts i ≡ Some p → P p
part_cases s v waiting P old new i p e = by_case (get-push_cases s.parts _ i p e)
  where
    by_case : (slice_get s.parts i ≡ Some p) ⊎ ((i ≡ length s.parts) × (p ≡ record { first = length s.stack; waiting = length s.waiting })) → P p
    by_case (inl h) = old i p h
    by_case (inr h) = subst P (sym h.1) new

module _ (links : List Link) (s : Stage) (v : ℕ) (waiting : List ℕ) (w : IsWalk links s) (new : slice_get s.marks v ≡ Some New)
    (from : (length s.stack ≡ 0) ⊎ IsNext links s v) (added : HasAdded links v s.waiting waiting) where
  marked_after : (a u : ℕ) → slice_get (s.stack ++ v ∷ []) a ≡ Some u → slice_get (set s.marks v (Standing (length s.stack))) u ≡ Some (Standing a)
  marked_after a u e = by_case (get-push_cases s.stack v a u e)
    where
      by_case : (slice_get s.stack a ≡ Some u) ⊎ ((a ≡ length s.stack) × (u ≡ v)) → slice_get (set s.marks v (Standing (length s.stack))) u ≡ Some (Standing a)
      by_case (inl h) = other_kept s.marks v u (Standing a) (Standing (length s.stack)) new (w.marked a u h) (λ x. cc)
      by_case (inr h) = rw (h.0, h.1) (get-set_same s.marks v (Standing (length s.stack)) (slice_get_within s.marks v New new))

  stands_after : (u a : ℕ) → slice_get (set s.marks v (Standing (length s.stack))) u ≡ Some (Standing a) → slice_get (s.stack ++ v ∷ []) a ≡ Some u
  stands_after u a e = by_case (mark_from s.marks v u (Standing a) (Standing (length s.stack)) new e)
    where
      by_case : ((u ≡ v) × (Standing a ≡ Standing (length s.stack))) ⊎ (slice_get s.marks u ≡ Some (Standing a)) → slice_get (s.stack ++ v ∷ []) a ≡ Some u
      by_case (inl h) = let here : a ≡ length s.stack = let g = h.1 in cc in rw (here, h.0) (get-push s.stack v)
      by_case (inr h) = get-left s.stack (v ∷ []) a u (w.stands u a h)

  done_after : (u n : ℕ) → slice_get s.marks u ≡ Some (Done n) → slice_get (set s.marks v (Standing (length s.stack))) u ≡ Some (Done n)
  done_after u n e = other_kept s.marks v u (Done n) (Standing (length s.stack)) new e (λ x. cc)

  done_before : (u n : ℕ) → slice_get (set s.marks v (Standing (length s.stack))) u ≡ Some (Done n) → slice_get s.marks u ≡ Some (Done n)
  done_before u n e = by_case (mark_from s.marks v u (Done n) (Standing (length s.stack)) new e)
    where
      by_case : ((u ≡ v) × (Done n ≡ Standing (length s.stack))) ⊎ (slice_get s.marks u ≡ Some (Done n)) → slice_get s.marks u ≡ Some (Done n)
      by_case (inl h) = let g = h.1 in absurd (cc)
      by_case (inr h) = h

  -- positions of the old stack stay apart from the new part
  as_high : (a b : ℕ) → a < length s.stack → IsAsHigh s.parts a b → IsAsHigh (entered s v waiting).parts a b
  as_high a b l high = part_cases s v waiting (λ p. p.first ≤ a → p.first ≤ b) high (λ m. absurd (omega (arith, l, m)))

  waits_as_high : (a c : ℕ) → a < length s.stack → WaitsAsHigh s.parts a c → WaitsAsHigh (entered s v waiting).parts a c
  waits_as_high a c l high = part_cases s v waiting (λ p. p.first ≤ a → p.waiting ≤ c) high (λ m. absurd (omega (arith, l, m)))

  followed_after : (a u x : ℕ) → slice_get (s.stack ++ v ∷ []) a ≡ Some u → IsLinked links u x → IsFollowed (entered s v waiting) a x
  followed_after a u x e linked = by_case (get-push_cases s.stack v a u e)
    where
      old : slice_get s.stack a ≡ Some u → IsFollowed s a x → IsFollowed (entered s v waiting) a x
      old h (ToDone n d) = ToDone n (done_after x n d)
      old h (ToStack b at high) = ToStack b (get-left s.stack (v ∷ []) b x at) (as_high a b (slice_get_within s.stack a u h) high)
      old h (ToWaiting c at high) = ToWaiting c (added.kept c x at) (waits_as_high a c (slice_get_within s.stack a u h) high)

      by_case : (slice_get s.stack a ≡ Some u) ⊎ ((a ≡ length s.stack) × (u ≡ v)) → IsFollowed (entered s v waiting) a x
      by_case (inl h) = old h (w.followed a u x h linked)
      by_case (inr h) =
          let there = added.all x (subst (λ y. IsLinked links y x) h.1 linked) in
          ToWaiting there.0 there.2 (part_cases s v waiting (λ p. p.first ≤ a → p.waiting ≤ there.0) (λ i p g m. omega (arith, (w.bounds i p g).1, there.1)) (λ m. there.1))

  waits_after : (c x : ℕ) → slice_get waiting c ≡ Some x → Waits links (entered s v waiting) c x
  waits_after c x e = by_case (added.linked c x e)
    where
      by_case : (slice_get s.waiting c ≡ Some x) ⊎ ((length s.waiting ≤ c) × IsLinked links v x) → Waits links (entered s v waiting) c x
      by_case (inl h) =
          let wait = w.waits c x h in
          record {
            position = wait.position;
            node = wait.node;
            stands = get-left s.stack (v ∷ []) wait.position wait.node wait.stands;
            linked = wait.linked;
            up = part_cases s v waiting (λ p. p.waiting ≤ c → p.first ≤ wait.position) wait.up (λ m. absurd (omega (arith, m, slice_get_within s.waiting c x h)));
            down = waits_as_high wait.position c (slice_get_within s.stack wait.position wait.node wait.stands) wait.down;
          }
      by_case (inr h) =
          record {
            position = length s.stack;
            node = v;
            stands = get-push s.stack v;
            linked = h.1;
            up = part_cases s v waiting (λ p. p.waiting ≤ c → p.first ≤ length s.stack) (λ i p g m. omega (arith, (w.bounds i p g).0)) (λ m. omega arith);
            down = part_cases s v waiting (λ p. p.first ≤ length s.stack → p.waiting ≤ c) (λ i p g m. omega (arith, (w.bounds i p g).1, h.0)) (λ m. h.0);
          }

  reach_after : (a b u x : ℕ) → slice_get (s.stack ++ v ∷ []) a ≡ Some u → slice_get (s.stack ++ v ∷ []) b ≡ Some x
      → IsAsHigh (entered s v waiting).parts a b → Reaches links u x
  reach_after a b u x ea eb high = by_case (get-push_cases s.stack v a u ea) (get-push_cases s.stack v b x eb)
    where
      before : IsAsHigh s.parts a b
      before i p g m = high i p (get-left s.parts _ i p g) m

      on_top : length s.stack ≤ a → length s.stack ≤ b
      on_top m = high (length s.parts) _ (get-push s.parts (record { first = length s.stack; waiting = length s.waiting })) m

      to_new : slice_get s.stack a ≡ Some u → (length s.stack ≡ 0) ⊎ IsNext links s v → Reaches links u v
      to_new h (inl none) = absurd (omega (arith, none, slice_get_within s.stack a u h))
      to_new h (inr next) = Reaches-more links u next.node v (w.reach a next.position u next.node h next.stands (λ i p g m. next.top i p g)) next.linked

      by_case : (slice_get s.stack a ≡ Some u) ⊎ ((a ≡ length s.stack) × (u ≡ v)) → (slice_get s.stack b ≡ Some x) ⊎ ((b ≡ length s.stack) × (x ≡ v)) → Reaches links u x
      by_case (inl h) (inl g) = w.reach a b u x h g before
      by_case (inl h) (inr g) = subst (Reaches links u) (sym g.1) (to_new h from)
      by_case (inr h) (inl g) = absurd (omega (arith, slice_get_within s.stack b x g, h.0, on_top (let l : length s.stack ≤ a = omega (arith, h.0) in l)))
      by_case (inr h) (inr g) = subst (Reaches links u) (h.1 ∙ sym g.1) (Here u)

  order_after : (i j : ℕ) (p q : Part) → slice_get (entered s v waiting).parts i ≡ Some p → slice_get (entered s v waiting).parts j ≡ Some q → i < j
      → (p.first < q.first) × (p.waiting ≤ q.waiting)
  order_after i j p q ei ej l = by_case (get-push_cases s.parts _ i p ei) (get-push_cases s.parts _ j q ej)
    where
      by_case : (slice_get s.parts i ≡ Some p) ⊎ IsTop s i p → (slice_get s.parts j ≡ Some q) ⊎ IsTop s j q → (p.first < q.first) × (p.waiting ≤ q.waiting)
      by_case (inl h) (inl g) = w.order i j p q h g l
      by_case (inl h) (inr g) = subst (λ (r : Part). (p.first < r.first) × (p.waiting ≤ r.waiting)) (sym g.1) (w.bounds i p h)
      by_case (inr h) (inl g) = absurd (omega (arith, l, h.0, slice_get_within s.parts j q g))
      by_case (inr h) (inr g) = absurd (omega (arith, l, h.0, g.0))

  -- a walk that entered a new node, which the part on top leads to, is a walk
  pub entered_is_walk : IsWalk links (entered s v waiting)
  entered_is_walk = record {
    nodes = subst (HasNodes links) (sym (length-set s.marks v (Standing (length s.stack)))) w.nodes;
    marked = marked_after;
    stands = stands_after;
    below = λ u n e. w.below u n (done_before u n e);
    fall = λ u x n e linked. let h = w.fall u x n (done_before u n e) linked in (h.0, done_after x h.0 h.1, h.2);
    joined = λ u x n e g. w.joined u x n (done_before u n e) (done_before x n g);
    followed = followed_after;
    waits = waits_after;
    reach = reach_after;
    order = order_after;
    bounds = part_cases s v waiting (λ p. (p.first < length (s.stack ++ v ∷ [])) × (p.waiting ≤ length waiting))
        (λ i p g. (omega (arith, (w.bounds i p g).0, length-append s.stack (v ∷ [])), omega (arith, (w.bounds i p g).1, added.more)))
        (omega (arith, length-append s.stack (v ∷ [])), added.more);
    floor = floor_after;
    empty = λ e. absurd (omega (arith, e, length-append s.parts ((record { first = length s.stack; waiting = length s.waiting }) ∷ [])));
  }
    where
      floor_after : (p : Part) → slice_get (entered s v waiting).parts 0 ≡ Some p → p.first ≡ 0
      floor_after p e = by_case (get-push_cases s.parts _ 0 p e)
        where
          by_case : (slice_get s.parts 0 ≡ Some p) ⊎ ((0 ≡ length s.parts) × (p ≡ record { first = length s.stack; waiting = length s.waiting })) → p.first ≡ 0
          by_case (inl h) = w.floor p h
          by_case (inr h) = ap (λ (r : Part). r.first) h.1 ∙ w.empty (sym h.0)
