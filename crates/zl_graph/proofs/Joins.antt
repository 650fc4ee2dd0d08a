-- A walk that joins the part on top to the one below it, and one that passes over a node that waits.
use Rattle.std.proofs.Common.{◌≡◌, ◌⊎◌, inl, inr, ℕ, ◌+◌, ◌<◌, ◌≤◌, List, length, take, slice_get, Some, sym, ◌∙◌, subst, arith}
use Rattle.std.proofs.lemmas.List.{length-take-le}
use Rattle.std.proofs.lemmas.Option.{slice_get_within}
use Rattle.std.proofs.lemmas.Bool.{cases_lt}
use Rattle.zl_graph.specs.declared.graph.Link.{Link}
use Rattle.zl_graph.specs.declared.marks.Mark.TheVariants.{Done}
use Rattle.zl_graph.specs.declared.walk.Part.{Part}
use Rattle.zl_graph.specs.Graph.{Reaches}
use Rattle.zl_graph.specs.Walking.{Stage, IsWalk, IsNext, IsFollowed, ToDone, ToStack, ToWaiting, Waits, IsAsHigh, WaitsAsHigh}
use Rattle.zl_graph.proofs.Positions.{get-take, get-take_from}
use Rattle.zl_graph.proofs.Ways.{Reaches-trans, Reaches-more, each_part}

module _ (links : List Link) (s : Stage) (n : ℕ) (q : Part) (w : IsWalk links s) (size : length s.parts ≡ n + 1) (last : slice_get s.parts n ≡ Some q)
    (b x : ℕ) (at : slice_get s.stack b ≡ Some x) (low : b < q.first) (next : IsNext links s x) where
  fewer : (i : ℕ) (p : Part) → slice_get (take n s.parts) i ≡ Some p → slice_get s.parts i ≡ Some p
  fewer i p e = (get-take n s.parts i p e).1

  reach_joined : (a c u v : ℕ) → slice_get s.stack a ≡ Some u → slice_get s.stack c ≡ Some v → IsAsHigh (take n s.parts) a c → Reaches links u v
  reach_joined a c u v ea ec high = by_place (cases_lt c q.first) (cases_lt a q.first)
    where
      by_place : (c < q.first) ⊎ (q.first ≤ c) → (a < q.first) ⊎ (q.first ≤ a) → Reaches links u v
      by_place (inr above) _ = w.reach a c u v ea ec (each_part s n q (λ p. p.first ≤ a → p.first ≤ c) size last high (λ m. above))
      by_place (inl below) (inl under) = w.reach a c u v ea ec (each_part s n q (λ p. p.first ≤ a → p.first ≤ c) size last high (λ m. absurd (omega (arith, m, under))))
      by_place (inl below) (inr over) =
          let up : Reaches links u next.node = w.reach a next.position u next.node ea next.stands (λ i p e m. next.top i p e) in
          let down : Reaches links x v = w.reach b c x v at ec
          (each_part s n q (λ p. p.first ≤ b → p.first ≤ c) size last
          (λ i p e m. high i p e (let l : p.first ≤ a = omega (arith, over, low, m) in l))
          (λ m. absurd (omega (arith, m, low)))) in
          Reaches-trans links u x v (Reaches-more links u next.node x up next.linked) down

  -- a walk whose part on top leads further down is a walk where that part is one with the part below it
  pub joined_is_walk : IsWalk links (record s { parts = take n s.parts })
  joined_is_walk = record {
    nodes = w.nodes;
    marked = w.marked;
    stands = w.stands;
    below = w.below;
    fall = w.fall;
    joined = w.joined;
    followed = λ a u v e linked. followed_joined a v (w.followed a u v e linked);
    waits = λ c v e. waits_joined c v (w.waits c v e);
    reach = reach_joined;
    order = λ i j p r ei ej l. w.order i j p r (fewer i p ei) (fewer j r ej) l;
    bounds = λ i p e. w.bounds i p (fewer i p e);
    floor = λ p e. w.floor p (fewer 0 p e);
    empty = λ e. absurd (none e);
  }
    where
      followed_joined : (a v : ℕ) → IsFollowed s a v → IsFollowed (record s { parts = take n s.parts }) a v
      followed_joined a v (ToDone m d) = ToDone m d
      followed_joined a v (ToStack c e high) = ToStack c e (λ i p g. high i p (fewer i p g))
      followed_joined a v (ToWaiting c e high) = ToWaiting c e (λ i p g. high i p (fewer i p g))

      waits_joined : (c v : ℕ) → Waits links s c v → Waits links (record s { parts = take n s.parts }) c v
      waits_joined c v h = record {
        position = h.position;
        node = h.node;
        stands = h.stands;
        linked = h.linked;
        up = λ i p g. h.up i p (fewer i p g);
        down = λ i p g. h.down i p (fewer i p g);
      }

      none : length (take n s.parts) ≡ 0 → ⊥
      none e =
          let here : n ≡ 0 = sym (length-take-le n s.parts (let l : n ≤ length s.parts = omega (arith, size) in l)) ∙ e in
          let bottom : slice_get s.parts 0 ≡ Some q = subst (λ i. slice_get s.parts i ≡ Some q) here last in
          omega (arith, w.floor q bottom, low)

  pub joined_has_next : IsNext links (record s { parts = take n s.parts }) x
  joined_has_next = record {
    position = next.position;
    node = next.node;
    stands = next.stands;
    linked = next.linked;
    top = λ i p g. next.top i p (fewer i p g);
  }

-- a node that waits is done, or stands in the part on top
pub data IsMet (s : Stage) (x : ℕ) : Type 0 where
  IsDone : (m : ℕ) → slice_get s.marks x ≡ Some (Done m) → IsMet s x
  OnTop : (b : ℕ) → slice_get s.stack b ≡ Some x → ((i : ℕ) (p : Part) → slice_get s.parts i ≡ Some p → p.first ≤ b) → IsMet s x

module _ (links : List Link) (s : Stage) (c x : ℕ) (w : IsWalk links s) (size : length s.waiting ≡ c + 1) (last : slice_get s.waiting c ≡ Some x)
    (low : (i : ℕ) (p : Part) → slice_get s.parts i ≡ Some p → p.waiting ≤ c) (met : IsMet s x) where
  -- a walk that passes over such a node is a walk
  pub passed_is_walk : IsWalk links (record s { waiting = take c s.waiting })
  passed_is_walk = record {
    nodes = w.nodes;
    marked = w.marked;
    stands = w.stands;
    below = w.below;
    fall = w.fall;
    joined = w.joined;
    followed = λ a u v e linked. followed_passed a v (w.followed a u v e linked);
    waits = λ d v e. waits_passed d v (w.waits d v (get-take c s.waiting d v e).1);
    reach = w.reach;
    order = w.order;
    bounds = λ i p e. ((w.bounds i p e).0, omega (arith, low i p e, length-take-le c s.waiting (let l : c ≤ length s.waiting = omega (arith, size) in l)));
    floor = w.floor;
    empty = w.empty;
  }
    where
      met_now : (a v : ℕ) → x ≡ v → IsMet s x → IsFollowed (record s { waiting = take c s.waiting }) a v
      met_now a v same (IsDone m d) = ToDone m (subst (λ y. slice_get s.marks y ≡ Some (Done m)) same d)
      met_now a v same (OnTop b e top) = ToStack b (subst (λ y. slice_get s.stack b ≡ Some y) same e) (λ i p g m. top i p g)

      by_place : (a v d : ℕ) → slice_get s.waiting d ≡ Some v → WaitsAsHigh s.parts a d → (d < c) ⊎ (c ≤ d) → IsFollowed (record s { waiting = take c s.waiting }) a v
      by_place a v d e high (inl less) = ToWaiting d (get-take_from c s.waiting d v less e) high
      by_place a v d e high (inr more) =
          let here : d ≡ c = omega (arith, more, slice_get_within s.waiting d v e, size) in
          let there : slice_get s.waiting c ≡ Some v = subst (λ i. slice_get s.waiting i ≡ Some v) here e in
          met_now a v (let same : x ≡ v = cc in same) met

      followed_passed : (a v : ℕ) → IsFollowed s a v → IsFollowed (record s { waiting = take c s.waiting }) a v
      followed_passed a v (ToDone m d) = ToDone m d
      followed_passed a v (ToStack b e high) = ToStack b e high
      followed_passed a v (ToWaiting d e high) = by_place a v d e high (cases_lt d c)

      waits_passed : (d v : ℕ) → Waits links s d v → Waits links (record s { waiting = take c s.waiting }) d v
      waits_passed d v h = record { position = h.position; node = h.node; stands = h.stands; linked = h.linked; up = h.up; down = h.down }
