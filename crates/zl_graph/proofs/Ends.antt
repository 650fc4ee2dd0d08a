-- The work that is left of a walk, and its end.
use Rattle.std.proofs.Common.{◌≡◌, ℕ, suc, zero, ◌<◌, ◌≤◌, List, [], ◌∷◌, length, get_or, slice_get, Some, refl, sym, ap, ◌∙◌, subst, arith}
use Rattle.std.proofs.lemmas.Option.{slice_get_within}
use Rattle.zl_graph.specs.declared.graph.Link.{Link}
use Rattle.zl_graph.specs.declared.marks.Mark.{Mark}
use Rattle.zl_graph.specs.declared.marks.Mark.TheVariants.{New, Standing, Done}
use Rattle.zl_graph.specs.Graph.{HasNodes, AreParts}
use Rattle.zl_graph.specs.Walking.{Stage, IsWalk, IsAtRest, NoneIsNew, new_count, one_if_new}
use Rattle.zl_graph.proofs.Positions.{get-inside}

rest_of : (mark other : Mark) (old new : List Mark) → NoneIsNew (mark ∷ old) (other ∷ new) → NoneIsNew old new
rest_of mark other old new h = record { nodes = omega (arith, h.nodes); none = λ v e. h.none (suc v) e }

first_of_two : (mark other : Mark) → (other ≡ New → mark ≡ New) → one_if_new other ≤ one_if_new mark
first_of_two New New h = omega arith
first_of_two (Standing a) New h = let e = h refl in absurd (cc)
first_of_two (Done n) New h = let e = h refl in absurd (cc)
first_of_two mark (Standing b) h = omega arith
first_of_two mark (Done m) h = omega arith

heads : (mark other : Mark) (old new : List Mark) → NoneIsNew (mark ∷ old) (other ∷ new) → other ≡ New → mark ≡ New
heads mark other old new h e = let was = h.none 0 (ap (λ m. Some m) e) in cc

-- where no node is new again, as many are new at most
pub new_most : (old new : List Mark) → NoneIsNew old new → new_count new ≤ new_count old
new_most old [] h = omega arith
new_most [] (other ∷ new) h = absurd (omega (arith, h.nodes))
new_most (mark ∷ old) (other ∷ new) h = omega (arith, first_of_two mark other (heads mark other old new h), new_most old new (rest_of mark other old new h))

-- and fewer where one isn't any more
pub new_fewer : (old new : List Mark) (v : ℕ) → NoneIsNew old new → slice_get old v ≡ Some New → (slice_get new v ≡ Some New → ⊥) → new_count new < new_count old
new_fewer [] new v h was isnt = absurd (cc)
new_fewer (mark ∷ old) [] v h was isnt = absurd (omega (arith, h.nodes))
new_fewer (mark ∷ old) (other ∷ new) zero h was isnt = omega (arith, here mark other was isnt, new_most old new (rest_of mark other old new h))
  where
    here : (mark other : Mark) → Some mark ≡ Some New → (Some other ≡ Some New → ⊥) → one_if_new other < one_if_new mark
    here New New e n = absurd (n refl)
    here New (Standing a) e n = omega arith
    here New (Done m) e n = omega arith
    here (Standing a) other e n = absurd (cc)
    here (Done m) other e n = absurd (cc)
new_fewer (mark ∷ old) (other ∷ new) (suc v) h was isnt =
    omega (arith, first_of_two mark other (heads mark other old new h), new_fewer old new v (rest_of mark other old new h) was isnt)

-- a walk that met all nodes, with nothing left on the stack, has found the parts
pub walked : (links : List Link) (s : Stage) (numbers : List ℕ) → IsWalk links s → length s.parts ≡ 0 → ((v : ℕ) → slice_get s.marks v ≡ Some New → ⊥)
    → length numbers ≡ length s.marks → ((v n : ℕ) → slice_get s.marks v ≡ Some (Done n) → get_or numbers v 0 ≡ n) → AreParts links numbers
walked links s numbers w over met size is = record {
  nodes = subst (HasNodes links) (sym size) w.nodes;
  fall = λ a b linked.
      let d = done a (let l : a < length s.marks = w.nodes.from a b linked in l) in
      let h = w.fall a b d.0 d.1 linked in
      let from = is a d.0 d.1 in
      let to = is b h.0 h.1 in
      omega (arith, from, to, h.2);
  joined = λ a b la lb e.
      let d = done a (let l : a < length s.marks = omega (arith, la, size) in l) in
      let g = done b (let l : b < length s.marks = omega (arith, lb, size) in l) in
      let same : g.0 ≡ d.0 = sym (is b g.0 g.1) ∙ sym e ∙ is a d.0 d.1 in
      w.joined a b d.0 d.1 (g.1 ∙ ap (λ n. Some (Done n)) same);
}
  where
    by_mark : (v : ℕ) (mark : Mark) → slice_get s.marks v ≡ Some mark → (n : ℕ) × (slice_get s.marks v ≡ Some (Done n))
    by_mark v New e = absurd (met v e)
    by_mark v (Standing a) e = absurd (omega (arith, slice_get_within s.stack a v (w.stands v a e), w.empty over))
    by_mark v (Done n) e = (n, e)

    done : (v : ℕ) → v < length s.marks → (n : ℕ) × (slice_get s.marks v ≡ Some (Done n))
    done v l = let h = get-inside s.marks v l in by_mark v h.0 h.1

-- before the first node
pub started : (links : List Link) (s : Stage) → HasNodes links (length s.marks) → ((v : ℕ) (mark : Mark) → slice_get s.marks v ≡ Some mark → mark ≡ New)
    → s.parts ≡ [] → s.stack ≡ [] → s.waiting ≡ [] → IsAtRest links s
started links s nodes new no_parts no_stack no_waiting = record {
  rest = ap length no_parts;
  walk = record {
    nodes = nodes;
    marked = λ a v e. absurd (nothing s.stack no_stack a v e);
    stands = λ v a e. let h = new v (Standing a) e in absurd (cc);
    below = λ v n e. let h = new v (Done n) e in absurd (cc);
    fall = λ v w n e l. let h = new v (Done n) e in absurd (cc);
    joined = λ v w n e f. let h = new v (Done n) e in absurd (cc);
    followed = λ a v w e l. absurd (nothing s.stack no_stack a v e);
    waits = λ d w e. absurd (nothing s.waiting no_waiting d w e);
    reach = λ a b v w e f h. absurd (nothing s.stack no_stack a v e);
    order = λ i j p q e f l. absurd (nothing s.parts no_parts i p e);
    bounds = λ i p e. absurd (nothing s.parts no_parts i p e);
    floor = λ p e. absurd (nothing s.parts no_parts 0 p e);
    empty = λ e. ap length no_stack;
  };
}
  where
    nothing : {X : Type 0} (xs : List X) → xs ≡ [] → (i : ℕ) (x : X) → slice_get xs i ≡ Some x → ⊥
    nothing xs none i x e = let g : slice_get [] i ≡ Some x = subst (λ ys. slice_get ys i ≡ Some x) none e in cc
