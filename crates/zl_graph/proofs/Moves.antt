-- The steps of a walk, as its code makes them.
use Rattle.std.proofs.Common.{◌≡◌, ◌⊎◌, inl, inr, ℕ, suc, zero, ◌+◌, ◌-◌, ◌*◌, ◌<◌, ◌≤◌, List, [], ◌∷◌, ◌++◌, length, take, set, get_or, slice_get, Some, refl, sym, ap, ◌∙◌, subst, arith, length-set, length-append}
use Rattle.std.proofs.Math.Nat.{mul-le-mul_left}
use Rattle.std.proofs.lemmas.List.{length-take-le, take_all, take-take}
use Rattle.std.proofs.lemmas.Option.{slice_get_within, slice_get_read}
use Rattle.zl_graph.specs.declared.graph.Link.{Link}
use Rattle.zl_graph.specs.declared.marks.Mark.{Mark}
use Rattle.zl_graph.specs.declared.marks.Mark.TheVariants.{New, Standing, Done}
use Rattle.zl_graph.specs.declared.walk.Part.{Part}
use Rattle.zl_graph.specs.Chains.{HasAdded}
use Rattle.zl_graph.specs.Walking.{Stage, IsWalk, IsNext, Moves, NoneIsNew, AreClosed, IsLowered, new_count}
use Rattle.zl_graph.proofs.Positions.{get-take, get-inside, get-set_same}
use Rattle.zl_graph.proofs.Ways.{below_last}
use Rattle.zl_graph.proofs.Enters.{entered, entered_is_walk, mark_from}
use Rattle.zl_graph.proofs.Joins.{joined_is_walk, joined_has_next, IsMet, IsDone, OnTop, passed_is_walk}
use Rattle.zl_graph.proofs.Closes.{closed_stage, closed_is_walk, new_before}
use Rattle.zl_graph.proofs.Ends.{new_most, new_fewer}

-- ---- a node is entered

entered_none : (marks : List Mark) (v a : ℕ) → slice_get marks v ≡ Some New → NoneIsNew marks (set marks v (Standing a))
entered_none marks v a new = record { nodes = length-set marks v (Standing a); none = λ u e. by_case u (mark_from marks v u New (Standing a) new e) }
  where
    by_case : (u : ℕ) → ((u ≡ v) × (New ≡ Standing a)) ⊎ (slice_get marks u ≡ Some New) → slice_get marks u ≡ Some New
    by_case u (inl h) = let e = h.1 in absurd (cc)
    by_case u (inr h) = h

entered_met : (marks : List Mark) (v a : ℕ) → slice_get marks v ≡ Some New → slice_get (set marks v (Standing a)) v ≡ Some New → ⊥
entered_met marks v a new e = let h = get-set_same marks v (Standing a) (slice_get_within marks v New new) in cc

entered_moves : (links : List Link) (s : Stage) (v : ℕ) (waiting : List ℕ) → IsWalk links s → slice_get s.marks v ≡ Some New
    → (length s.stack ≡ 0) ⊎ IsNext links s v → HasAdded links v s.waiting waiting → Moves links s (entered s v waiting)
entered_moves links s v waiting w new from added =
    let none = entered_none s.marks v (length s.stack) new in
    let fewer = new_fewer s.marks (set s.marks v (Standing (length s.stack))) v none new (entered_met s.marks v (length s.stack) new) in
    let k = length links + 2 in
    let product : k * (new_count (set s.marks v (Standing (length s.stack))) + 1) ≤ k * new_count s.marks = mul-le-mul_left k (let l : new_count (set s.marks v (Standing (length s.stack))) + 1 ≤ new_count s.marks = omega (arith, fewer) in l) in
    record {
      walk = entered_is_walk links s v waiting w new from added;
      none = none;
      less = omega (arith, product, added.few, length-append s.parts ((record { first = length s.stack; waiting = length s.waiting }) ∷ []));
    }

-- the stage as the code makes it
pub entered_by : (links : List Link) (s : Stage) (v first waits : ℕ) (marks : List Mark) (stack waiting : List ℕ) (parts : List Part) → IsWalk links s
    → slice_get s.marks v ≡ Some New → (length s.stack ≡ 0) ⊎ IsNext links s v → first ≡ length s.stack → waits ≡ length s.waiting
    → marks ≡ set s.marks v (Standing first) → stack ≡ s.stack ++ v ∷ [] → parts ≡ s.parts ++ (record { first = first; waiting = waits }) ∷ []
    → HasAdded links v s.waiting waiting → Moves links s (record { marks = marks; stack = stack; waiting = waiting; parts = parts; count = s.count })
entered_by links s v first waits marks stack waiting parts w new from is_first is_waits is_marks is_stack is_parts added =
    let all_marks : set s.marks v (Standing (length s.stack)) ≡ marks = ap (λ a. set s.marks v (Standing a)) (sym is_first) ∙ sym is_marks in
    let all_parts : s.parts ++ (record { first = length s.stack; waiting = length s.waiting }) ∷ [] ≡ parts =
    ap (λ a. s.parts ++ (record { first = a; waiting = length s.waiting }) ∷ []) (sym is_first) ∙ ap (λ a. s.parts ++ (record { first = first; waiting = a }) ∷ []) (sym is_waits) ∙ sym is_parts in
    subst (λ (m : List Mark). Moves links s (record { marks = m; stack = stack; waiting = waiting; parts = parts; count = s.count })) all_marks
    (subst (λ (t : List ℕ). Moves links s (record { marks = set s.marks v (Standing (length s.stack)); stack = t; waiting = waiting; parts = parts; count = s.count })) (sym is_stack)
    (subst (λ (p : List Part). Moves links s (record { marks = set s.marks v (Standing (length s.stack)); stack = s.stack ++ v ∷ []; waiting = waiting; parts = p; count = s.count })) all_parts
    (entered_moves links s v waiting w new from added)))

pub entered_by_met : (old marks : List Mark) (v first : ℕ) → slice_get old v ≡ Some New → marks ≡ set old v (Standing first) → slice_get marks v ≡ Some New → ⊥
entered_by_met old marks v first new is e = entered_met old v first new (subst (λ m. slice_get m v ≡ Some New) is e)

-- ---- a part is closed

pub closed_by : (links : List Link) (s : Stage) (n : ℕ) (q : Part) (marks : List Mark) (stack : List ℕ) (parts : List Part) (count : ℕ) → IsWalk links s → length s.parts ≡ n + 1
    → slice_get s.parts n ≡ Some q → length s.waiting ≡ q.waiting → AreClosed q.first s.count s.marks marks → stack ≡ take q.first s.stack → parts ≡ take n s.parts → count ≡ s.count + 1
    → Moves links s (record { marks = marks; stack = stack; waiting = s.waiting; parts = parts; count = count })
closed_by links s n q marks stack parts count w size last done closed is_stack is_parts is_count =
    let none : NoneIsNew s.marks marks = record { nodes = closed.nodes; none = new_before q.first s.count s.marks marks closed } in
    let product : (length links + 2) * new_count marks ≤ (length links + 2) * new_count s.marks = mul-le-mul_left (length links + 2) (new_most s.marks marks none) in
    let moved : Moves links s (closed_stage s n q marks) = record {
      walk = closed_is_walk links s n q marks w size last done closed;
      none = none;
      less = omega (arith, product, size, length-take-le n s.parts (let l : n ≤ length s.parts = omega (arith, size) in l));
    } in
    subst (λ (t : List ℕ). Moves links s (record { marks = marks; stack = t; waiting = s.waiting; parts = parts; count = count })) (sym is_stack)
    (subst (λ (p : List Part). Moves links s (record { marks = marks; stack = take q.first s.stack; waiting = s.waiting; parts = p; count = count })) (sym is_parts)
    (subst (λ (k : ℕ). Moves links s (record { marks = marks; stack = take q.first s.stack; waiting = s.waiting; parts = take n s.parts; count = k })) (sym is_count) moved))

-- ---- a node that waits on top

pub record IsWaiting (links : List Link) (s : Stage) (x : ℕ) : Type 0 where
  pub place : ℕ
  pub size : length s.waiting ≡ place + 1
  pub last : slice_get s.waiting place ≡ Some x
  pub low : (i : ℕ) (p : Part) → slice_get s.parts i ≡ Some p → p.waiting ≤ place
  pub next : IsNext links s x
  pub within : x < length s.marks

pub waiting_next : (links : List Link) (s : Stage) (r : Part) (x : ℕ) → IsWalk links s → 0 < length s.parts → r ≡ get_or s.parts (length s.parts - 1) r
    → (length s.waiting ≡ r.waiting → ⊥) → (0 < length s.waiting → x ≡ get_or s.waiting (length s.waiting - 1) x) → IsWaiting links s x
waiting_next links s r x w some is more read =
    let n = length s.parts - 1 in
    let size : length s.parts ≡ n + 1 = omega arith in
    let last : slice_get s.parts n ≡ Some r = slice_get_read s.parts (length s.parts) n r refl (omega arith) is in
    let bound = (w.bounds n r last).1 in
    let up : r.waiting < length s.waiting = omega (arith, bound, more) in
    let c = length s.waiting - 1 in
    let at : slice_get s.waiting c ≡ Some x = slice_get_read s.waiting (length s.waiting) c x refl (omega (arith, up)) (read (omega (arith, up))) in
    let h = w.waits c x at in
    let low : (i : ℕ) (p : Part) → slice_get s.parts i ≡ Some p → p.waiting ≤ c = λ i p e. omega (arith, (below_last links s n r w size last i p e).1, up) in
    record {
      place = c;
      size = omega (arith, up);
      last = at;
      low = low;
      next = record { position = h.position; node = h.node; stands = h.stands; linked = h.linked; top = λ i p e. h.up i p e (low i p e) };
      within = w.nodes.to h.node x h.linked;
    }

passed_moves : (links : List Link) (s : Stage) (x c : ℕ) → IsWalk links s → length s.waiting ≡ c + 1 → slice_get s.waiting c ≡ Some x
    → ((i : ℕ) (p : Part) → slice_get s.parts i ≡ Some p → p.waiting ≤ c) → IsMet s x → Moves links s (record s { waiting = take c s.waiting })
passed_moves links s x c w size last low met = record {
  walk = passed_is_walk links s c x w size last low met;
  none = record { nodes = refl; none = λ v e. e };
  less = omega (arith, size, length-take-le c s.waiting (let l : c ≤ length s.waiting = omega (arith, size) in l));
}

-- it is done
pub passed_by : (links : List Link) (s : Stage) (x m : ℕ) (waiting : List ℕ) → IsWalk links s → IsWaiting links s x → slice_get s.marks x ≡ Some (Done m)
    → waiting ≡ take (length s.waiting - 1) s.waiting → Moves links s (record s { waiting = waiting })
passed_by links s x m waiting w h done is =
    let same : take h.place s.waiting ≡ waiting = ap (λ c. take c s.waiting) (let e : h.place ≡ length s.waiting - 1 = omega (arith, h.size) in e) ∙ sym is in
    subst (λ (t : List ℕ). Moves links s (record s { waiting = t })) same (passed_moves links s x h.place w h.size h.last h.low (IsDone m done))

-- it stands further down
lowered_is_walk : (k : ℕ) (links : List Link) (s : Stage) (n b x : ℕ) → k + n ≡ length s.parts → slice_get s.stack b ≡ Some x
    → ((i : ℕ) (p : Part) → n ≤ i → slice_get s.parts i ≡ Some p → b < p.first) → IsWalk links s → IsNext links s x → IsWalk links (record s { parts = take n s.parts })
lowered_is_walk zero links s n b x size at above w next =
    subst (λ (p : List Part). IsWalk links (record s { parts = p })) (sym (take_all n s.parts (let l : length s.parts ≤ n = omega (arith, size) in l))) w
lowered_is_walk (suc k) links s n b x size at above w next =
    let m = k + n in
    let big : length s.parts ≡ m + 1 = omega (arith, size) in
    let last = get-inside s.parts m (let l : m < length s.parts = omega (arith, big) in l) in
    let low : b < last.0.first = above m last.0 (omega arith) last.1 in
    let t : Stage = record s { parts = take m s.parts } in
    let walk : IsWalk links t = joined_is_walk links s m last.0 w big last.1 b x at low next in
    let more : IsNext links t x = joined_has_next links s m last.0 w big last.1 b x at low next in
    let rest = lowered_is_walk k links t n b x (sym (length-take-le m s.parts (let l : m ≤ length s.parts = omega (arith, big) in l))) at
    (λ i p l e. above i p l (get-take m s.parts i p e).1) walk more in
    subst (λ (p : List Part). IsWalk links (record s { parts = p })) (take-take n m s.parts (let l : n ≤ m = omega arith in l)) rest

pub lowered_by : (links : List Link) (s : Stage) (x b : ℕ) (waiting : List ℕ) (parts : List Part) → IsWalk links s → IsWaiting links s x → slice_get s.marks x ≡ Some (Standing b)
    → IsLowered b s.parts parts → waiting ≡ take (length s.waiting - 1) s.waiting → Moves links s (record s { waiting = waiting; parts = parts })
lowered_by links s x b waiting parts w h standing low is =
    let n = low.number + 1 in
    let at : slice_get s.stack b ≡ Some x = w.stands x b standing in
    let k = length s.parts - n in
    let walk : IsWalk links (record s { parts = take n s.parts }) =
    lowered_is_walk k links s n b x (omega (arith, low.within)) at (λ i p l e. low.above i p (let g : low.number < i = omega (arith, l) in g) e) w h.next in
    let t : Stage = record s { parts = take n s.parts } in
    let length_is : length (take n s.parts) ≡ n = length-take-le n s.parts (let l : n ≤ length s.parts = omega (arith, low.within) in l) in
    let last = get-inside (take n s.parts) low.number (let l : low.number < length (take n s.parts) = omega (arith, length_is) in l) in
    let top : (i : ℕ) (p : Part) → slice_get (take n s.parts) i ≡ Some p → p.first ≤ b = λ i p e.
    omega (arith, (below_last links t low.number last.0 walk length_is last.1 i p e).0, low.low last.0 (get-take n s.parts low.number last.0 last.1).1) in
    let moved = passed_moves links t x h.place walk h.size h.last (λ i p e. h.low i p (get-take n s.parts i p e).1) (OnTop b at top) in
    let final : Moves links s (record s { waiting = take h.place s.waiting; parts = take n s.parts }) =
    record { walk = moved.walk; none = moved.none; less = omega (arith, moved.less, length_is, low.within) } in
    let same : take h.place s.waiting ≡ waiting = ap (λ c. take c s.waiting) (let e : h.place ≡ length s.waiting - 1 = omega (arith, h.size) in e) ∙ sym is in
    subst (λ (t : List ℕ). Moves links s (record s { waiting = t; parts = parts })) same
    (subst (λ (p : List Part). Moves links s (record s { waiting = take h.place s.waiting; parts = p })) (sym low.is) final)

-- a node that waits on top, as the code reads it
pub waiting_by : (links : List Link) (s : Stage) (r : Part) (x parts waiting : ℕ) → IsWalk links s → 0 < length s.parts → parts ≡ length s.parts → r ≡ get_or s.parts (parts - 1) r
    → waiting ≡ length s.waiting → (waiting ≡ r.waiting → ⊥) → x ≡ get_or s.waiting (waiting - 1) x → IsWaiting links s x
waiting_by links s r x parts waiting w some is_parts is is_waiting more read =
    waiting_next links s r x w some (is ∙ ap (λ n. get_or s.parts (n - 1) r) is_parts) (λ e. more (is_waiting ∙ e)) (λ _. read ∙ ap (λ n. get_or s.waiting (n - 1) x) is_waiting)
