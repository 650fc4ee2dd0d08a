-- A walk that closes the part on top.
use Rattle.std.proofs.Common.{◌≡◌, ◌⊎◌, inl, inr, ℕ, ◌+◌, ◌<◌, ◌≤◌, List, length, take, slice_get, Some, sym, ap, ◌∙◌, subst, arith}
use Rattle.std.proofs.lemmas.List.{length-take-le}
use Rattle.std.proofs.lemmas.Option.{slice_get_within}
use Rattle.std.proofs.lemmas.Bool.{cases_lt}
use Rattle.zl_graph.specs.declared.graph.Link.{Link}
use Rattle.zl_graph.specs.declared.marks.Mark.{Mark}
use Rattle.zl_graph.specs.declared.marks.Mark.TheVariants.{New, Standing, Done}
use Rattle.zl_graph.specs.declared.walk.Part.{Part}
use Rattle.zl_graph.specs.Graph.{IsLinked, Reaches, HasNodes}
use Rattle.zl_graph.specs.Walking.{Stage, IsWalk, IsFollowed, ToDone, ToStack, ToWaiting, Waits, IsAsHigh, AreClosed, IsClosedMark}
use Rattle.zl_graph.proofs.Positions.{get-take, get-take_from, get-inside}
use Rattle.zl_graph.proofs.Ways.{below_last, each_part}

-- ---- the marks of nodes when a part is closed

module _ (first count : ℕ) (old new : List Mark) (closed : AreClosed first count old new) where
  there_after : (v : ℕ) (mark : Mark) → slice_get old v ≡ Some mark → (other : Mark) × (slice_get new v ≡ Some other) × IsClosedMark first count mark other
  there_after v mark e =
      let h = get-inside new v (let l : v < length new = omega (arith, slice_get_within old v mark e, closed.nodes) in l) in
      (h.0, h.1, closed.each v mark h.0 e h.1)

  there_before : (v : ℕ) (other : Mark) → slice_get new v ≡ Some other → (mark : Mark) × (slice_get old v ≡ Some mark) × IsClosedMark first count mark other
  there_before v other e =
      let h = get-inside old v (let l : v < length old = omega (arith, slice_get_within new v other e, closed.nodes) in l) in
      (h.0, h.1, closed.each v h.0 other h.1 e)

  pub done_stays : (v n : ℕ) → slice_get old v ≡ Some (Done n) → slice_get new v ≡ Some (Done n)
  done_stays v n e = let h = there_after v (Done n) e in h.1 ∙ ap (λ m. Some m) h.2

  pub standing_stays : (v a : ℕ) → slice_get old v ≡ Some (Standing a) → a < first → slice_get new v ≡ Some (Standing a)
  standing_stays v a e l = let h = there_after v (Standing a) e in h.1 ∙ ap (λ m. Some m) (h.2.0 l)

  pub standing_is_done : (v a : ℕ) → slice_get old v ≡ Some (Standing a) → first ≤ a → slice_get new v ≡ Some (Done count)
  standing_is_done v a e l = let h = there_after v (Standing a) e in h.1 ∙ ap (λ m. Some m) (h.2.1 l)

  pub done_cases : (v n : ℕ) → slice_get new v ≡ Some (Done n) → (slice_get old v ≡ Some (Done n)) ⊎ ((a : ℕ) × (slice_get old v ≡ Some (Standing a)) × (first ≤ a) × (n ≡ count))
  done_cases v n e = let h = there_before v (Done n) e in by_mark h.0 h.1 h.2
    where
      by_place : (a : ℕ) → slice_get old v ≡ Some (Standing a) → IsClosedMark first count (Standing a) (Done n) → (a < first) ⊎ (first ≤ a)
          → (slice_get old v ≡ Some (Done n)) ⊎ ((a : ℕ) × (slice_get old v ≡ Some (Standing a)) × (first ≤ a) × (n ≡ count))
      by_place a was c (inl l) = let g = c.0 l in absurd (cc)
      by_place a was c (inr l) = let g = c.1 l in inr (a, was, l, (let same : n ≡ count = cc in same))

      by_mark : (mark : Mark) → slice_get old v ≡ Some mark → IsClosedMark first count mark (Done n)
          → (slice_get old v ≡ Some (Done n)) ⊎ ((a : ℕ) × (slice_get old v ≡ Some (Standing a)) × (first ≤ a) × (n ≡ count))
      by_mark New was c = absurd (cc)
      by_mark (Standing a) was c = by_place a was c (cases_lt a first)
      by_mark (Done m) was c = inl (was ∙ ap (λ x. Some x) (sym c))

  pub standing_before : (v a : ℕ) → slice_get new v ≡ Some (Standing a) → (slice_get old v ≡ Some (Standing a)) × (a < first)
  standing_before v a e = let h = there_before v (Standing a) e in by_mark h.0 h.1 h.2
    where
      by_place : (b : ℕ) → slice_get old v ≡ Some (Standing b) → IsClosedMark first count (Standing b) (Standing a) → (b < first) ⊎ (first ≤ b) → (slice_get old v ≡ Some (Standing a)) × (a < first)
      by_place b was c (inl l) = let g = c.0 l in let same : b ≡ a = cc in (was ∙ ap (λ x. Some (Standing x)) same, subst (λ x. x < first) same l)
      by_place b was c (inr l) = let g = c.1 l in absurd (cc)

      by_mark : (mark : Mark) → slice_get old v ≡ Some mark → IsClosedMark first count mark (Standing a) → (slice_get old v ≡ Some (Standing a)) × (a < first)
      by_mark New was c = absurd (cc)
      by_mark (Standing b) was c = by_place b was c (cases_lt b first)
      by_mark (Done m) was c = absurd (cc)

  -- what is new was new
  pub new_before : (v : ℕ) → slice_get new v ≡ Some New → slice_get old v ≡ Some New
  new_before v e = let h = there_before v New e in by_mark h.0 h.1 h.2
    where
      by_place : (b : ℕ) → IsClosedMark first count (Standing b) New → (b < first) ⊎ (first ≤ b) → slice_get old v ≡ Some New
      by_place b c (inl l) = let g = c.0 l in absurd (cc)
      by_place b c (inr l) = let g = c.1 l in absurd (cc)

      by_mark : (mark : Mark) → slice_get old v ≡ Some mark → IsClosedMark first count mark New → slice_get old v ≡ Some New
      by_mark New was c = was
      by_mark (Standing b) was c = by_place b c (cases_lt b first)
      by_mark (Done m) was c = absurd (cc)

-- ---- a part is closed

-- the stage after it
abbrev pub closed_stage : Stage → ℕ → Part → List Mark → Stage
closed_stage s n q marks = record { marks = marks; stack = take q.first s.stack; waiting = s.waiting; parts = take n s.parts; count = s.count + 1 }

module _ (links : List Link) (s : Stage) (n : ℕ) (q : Part) (marks : List Mark) (w : IsWalk links s) (size : length s.parts ≡ n + 1)
    (last : slice_get s.parts n ≡ Some q) (done : length s.waiting ≡ q.waiting) (closed : AreClosed q.first s.count s.marks marks) where
  fewer : (i : ℕ) (p : Part) → slice_get (take n s.parts) i ≡ Some p → slice_get s.parts i ≡ Some p
  fewer i p e = (get-take n s.parts i p e).1

  low : q.first ≤ length s.stack
  low = omega (arith, (w.bounds n q last).0)

  fall_closed : (v x k : ℕ) → slice_get marks v ≡ Some (Done k) → IsLinked links v x → (m : ℕ) × (slice_get marks x ≡ Some (Done m)) × (m ≤ k)
  fall_closed v x k e linked = by_case (done_cases q.first s.count s.marks marks closed v k e)
    where
      from_stack : (a : ℕ) → q.first ≤ a → k ≡ s.count → IsFollowed s a x → (m : ℕ) × (slice_get marks x ≡ Some (Done m)) × (m ≤ k)
      from_stack a l same (ToDone m d) = (m, done_stays q.first s.count s.marks marks closed x m d, omega (arith, w.below x m d, same))
      from_stack a l same (ToStack b at high) = (s.count, standing_is_done q.first s.count s.marks marks closed x b (w.marked b x at) (high n q last l), omega (arith, same))
      from_stack a l same (ToWaiting c at high) = absurd (omega (arith, high n q last l, slice_get_within s.waiting c x at, done))

      by_case : (slice_get s.marks v ≡ Some (Done k)) ⊎ ((a : ℕ) × (slice_get s.marks v ≡ Some (Standing a)) × (q.first ≤ a) × (k ≡ s.count))
          → (m : ℕ) × (slice_get marks x ≡ Some (Done m)) × (m ≤ k)
      by_case (inl d) = let h = w.fall v x k d linked in (h.0, done_stays q.first s.count s.marks marks closed x h.0 h.1, h.2)
      by_case (inr h) = from_stack h.0 h.2 h.3 (w.followed h.0 v x (w.stands v h.0 h.1) linked)

  joined_closed : (v x k : ℕ) → slice_get marks v ≡ Some (Done k) → slice_get marks x ≡ Some (Done k) → Reaches links v x
  joined_closed v x k e g = by_case (done_cases q.first s.count s.marks marks closed v k e) (done_cases q.first s.count s.marks marks closed x k g)
    where
      by_case : (slice_get s.marks v ≡ Some (Done k)) ⊎ ((a : ℕ) × (slice_get s.marks v ≡ Some (Standing a)) × (q.first ≤ a) × (k ≡ s.count))
          → (slice_get s.marks x ≡ Some (Done k)) ⊎ ((a : ℕ) × (slice_get s.marks x ≡ Some (Standing a)) × (q.first ≤ a) × (k ≡ s.count)) → Reaches links v x
      by_case (inl d) (inl f) = w.joined v x k d f
      by_case (inl d) (inr h) = absurd (omega (arith, w.below v k d, h.3))
      by_case (inr h) (inl f) = absurd (omega (arith, w.below x k f, h.3))
      by_case (inr h) (inr f) = w.reach h.0 f.0 v x (w.stands v h.0 h.1) (w.stands x f.0 f.1)
          (λ i p m o. omega (arith, (below_last links s n q w size last i p m).0, f.2))

  followed_closed : (a v x : ℕ) → slice_get (take q.first s.stack) a ≡ Some v → IsLinked links v x → IsFollowed (closed_stage s n q marks) a x
  followed_closed a v x e linked = by_case (w.followed a v x (get-take q.first s.stack a v e).1 linked)
    where
      on_stack : (b : ℕ) → slice_get s.stack b ≡ Some x → IsAsHigh s.parts a b → (b < q.first) ⊎ (q.first ≤ b) → IsFollowed (closed_stage s n q marks) a x
      on_stack b at high (inl l) = ToStack b (get-take_from q.first s.stack b x l at) (λ i p g. high i p (fewer i p g))
      on_stack b at high (inr l) = ToDone s.count (standing_is_done q.first s.count s.marks marks closed x b (w.marked b x at) l)

      by_case : IsFollowed s a x → IsFollowed (closed_stage s n q marks) a x
      by_case (ToDone m d) = ToDone m (done_stays q.first s.count s.marks marks closed x m d)
      by_case (ToStack b at high) = on_stack b at high (cases_lt b q.first)
      by_case (ToWaiting c at high) = ToWaiting c at (λ i p g. high i p (fewer i p g))

  waits_closed : (c x : ℕ) → slice_get s.waiting c ≡ Some x → Waits links (closed_stage s n q marks) c x
  waits_closed c x e =
      let h = w.waits c x e in
      record {
        position = h.position;
        node = h.node;
        stands = get-take_from q.first s.stack h.position h.node (lower h.position (h.down n q last) (cases_lt h.position q.first)) h.stands;
        linked = h.linked;
        up = λ i p g. h.up i p (fewer i p g);
        down = λ i p g. h.down i p (fewer i p g);
      }
    where
      lower : (a : ℕ) → (q.first ≤ a → q.waiting ≤ c) → (a < q.first) ⊎ (q.first ≤ a) → a < q.first
      lower a down (inl l) = l
      lower a down (inr l) = absurd (omega (arith, down l, slice_get_within s.waiting c x e, done))

  reach_closed : (a b u x : ℕ) → slice_get (take q.first s.stack) a ≡ Some u → slice_get (take q.first s.stack) b ≡ Some x
      → IsAsHigh (take n s.parts) a b → Reaches links u x
  reach_closed a b u x ea eb high =
      let ga = get-take q.first s.stack a u ea in
      w.reach a b u x ga.1 (get-take q.first s.stack b x eb).1
      (each_part s n q (λ p. p.first ≤ a → p.first ≤ b) size last high (λ m. absurd (omega (arith, m, ga.0))))

  bounds_closed : (i : ℕ) (p : Part) → slice_get (take n s.parts) i ≡ Some p → (p.first < length (take q.first s.stack)) × (p.waiting ≤ length s.waiting)
  bounds_closed i p e =
      let g = get-take n s.parts i p e in
      (omega (arith, (w.order i n p q g.1 last g.0).0, length-take-le q.first s.stack low), (w.bounds i p g.1).1)

  -- a walk that closed the part on top, from which nothing waits, is a walk
  pub closed_is_walk : IsWalk links (closed_stage s n q marks)
  closed_is_walk = record {
    nodes = subst (HasNodes links) (sym closed.nodes) w.nodes;
    marked = λ a v e. let g = get-take q.first s.stack a v e in standing_stays q.first s.count s.marks marks closed v a (w.marked a v g.1) g.0;
    stands = λ v a e. let g = standing_before q.first s.count s.marks marks closed v a e in get-take_from q.first s.stack a v g.1 (w.stands v a g.0);
    below = below_closed;
    fall = fall_closed;
    joined = joined_closed;
    followed = followed_closed;
    waits = waits_closed;
    reach = reach_closed;
    order = λ i j p r ei ej l. w.order i j p r (fewer i p ei) (fewer j r ej) l;
    bounds = bounds_closed;
    floor = λ p e. w.floor p (fewer 0 p e);
    empty = empty_closed;
  }
    where
      below_closed : (v k : ℕ) → slice_get marks v ≡ Some (Done k) → k < s.count + 1
      below_closed v k e = by_case (done_cases q.first s.count s.marks marks closed v k e)
        where
          by_case : (slice_get s.marks v ≡ Some (Done k)) ⊎ ((a : ℕ) × (slice_get s.marks v ≡ Some (Standing a)) × (q.first ≤ a) × (k ≡ s.count)) → k < s.count + 1
          by_case (inl d) = omega (arith, w.below v k d)
          by_case (inr h) = omega (arith, h.3)

      empty_closed : length (take n s.parts) ≡ 0 → length (take q.first s.stack) ≡ 0
      empty_closed e =
          let here : n ≡ 0 = sym (length-take-le n s.parts (let l : n ≤ length s.parts = omega (arith, size) in l)) ∙ e in
          let bottom : slice_get s.parts 0 ≡ Some q = subst (λ i. slice_get s.parts i ≡ Some q) here last in
          length-take-le q.first s.stack low ∙ w.floor q bottom
