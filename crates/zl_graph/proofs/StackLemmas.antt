-- What is left of a stack while a part is taken from it.
use Rattle.std.proofs.Common.{◌≡◌, ◌⊎◌, inl, inr, ℕ, ◌+◌, ◌<◌, ◌≤◌, List, [], ◌∷◌, ◌++◌, length, length-append, take, set, slice_get, Some, refl, sym, ap, ◌∙◌, subst, arith, length-set}
use Rattle.std.proofs.lemmas.List.{take_at, take-take}
use Rattle.std.proofs.lemmas.Option.{slice_get_within}
use Rattle.std.proofs.lemmas.Bool.{cases_lt}
use Rattle.std.proofs.lemmas.Bool.Decides.{eqb_tells}
use Rattle.zl_graph.specs.declared.marks.Mark.{Mark}
use Rattle.zl_graph.specs.declared.marks.Mark.TheVariants.{New, Standing, Done}
use Rattle.zl_graph.specs.Walking.{AreClosed, AreMarked, IsClosedMark}
use Rattle.zl_graph.proofs.Positions.{get-push, get-take, get-set_same, get-set_other}

-- nothing is closed
pub closed_none : (stack : List ℕ) (marks : List Mark) (count : ℕ) → AreMarked stack marks → AreClosed (length stack) count marks marks
closed_none stack marks count h = record { nodes = refl; each = λ v mark other e g. by_mark v mark e (let same : other ≡ mark = cc in same) }
  where
    by_mark : (v : ℕ) (mark : Mark) → slice_get marks v ≡ Some mark → {other : Mark} → other ≡ mark → IsClosedMark (length stack) count mark other
    by_mark v New e same = same
    by_mark v (Standing a) e same = (λ l. same, λ l. absurd (omega (arith, l, slice_get_within stack a v (h.stands v a e))))
    by_mark v (Done n) e same = same

-- one more node is closed
pub closed_more : (stack : List ℕ) (old marks : List Mark) (count h x : ℕ) → AreMarked stack old → AreClosed (h + 1) count old marks → slice_get stack h ≡ Some x
    → AreClosed h count old (set marks x (Done count))
closed_more stack old marks count h x m closed at = record { nodes = length-set marks x (Done count) ∙ closed.nodes; each = λ v mark other e g. by_node v mark other e g (eqb_tells_at v) }
  where
    eqb_tells_at : (v : ℕ) → (v ≡ x) ⊎ (v ≡ x → ⊥)
    eqb_tells_at v = elim (eqb_tells v x) [ inl h ↦ inl h.1 | inr h ↦ inr h.1 ]

    here : slice_get old x ≡ Some (Standing h)
    here = m.marked h x at

    within : x < length marks
    within = omega (arith, slice_get_within old x (Standing h) here, closed.nodes)

    lower : (v : ℕ) (mark other : Mark) → slice_get old v ≡ Some mark → (v ≡ x → ⊥) → IsClosedMark (h + 1) count mark other → IsClosedMark h count mark other
    lower v New other e ne c = c
    lower v (Standing a) other e ne c = (λ l. c.0 (omega (arith, l)), λ l. c.1 (above (cases_lt h a) l))
      where
        above : (h < a) ⊎ (a ≤ h) → h ≤ a → h + 1 ≤ a
        above (inl l) ge = omega (arith, l)
        above (inr l) ge =
            let same : a ≡ h = omega (arith, l, ge) in
            let there : slice_get stack h ≡ Some v = subst (λ b. slice_get stack b ≡ Some v) same (m.stands v a e) in
            absurd (ne (let equal : v ≡ x = cc in equal))
    lower v (Done n) other e ne c = c

    by_node : (v : ℕ) (mark other : Mark) → slice_get old v ≡ Some mark → slice_get (set marks x (Done count)) v ≡ Some other → (v ≡ x) ⊎ (v ≡ x → ⊥) → IsClosedMark h count mark other
    by_node v mark other e g (inl same) =
        let was : slice_get old v ≡ Some (Standing h) = subst (λ u. slice_get old u ≡ Some (Standing h)) (sym same) here in
        let is : slice_get (set marks x (Done count)) v ≡ Some (Done count) = subst (λ u. slice_get (set marks x (Done count)) u ≡ Some (Done count)) (sym same) (get-set_same marks x (Done count) within) in
        let standing : Standing h ≡ mark = cc in
        let done : other ≡ Done count = cc in
        subst (λ k. IsClosedMark h count k other) standing (λ l. absurd (omega (arith, l)), λ l. done)
    by_node v mark other e g (inr ne) = lower v mark other e ne (closed.each v mark other e (sym (get-set_other marks x v (Done count) ne) ∙ g))

-- the last of what is left of a stack is away
pub record IsPopped (all stack rest : List ℕ) (x : ℕ) : Type 0 where
  pub size : length stack ≡ length rest + 1
  pub is : rest ≡ take (length rest) all
  pub at : slice_get all (length rest) ≡ Some x

pub popped : (all stack rest : List ℕ) (x : ℕ) → stack ≡ take (length stack) all → stack ≡ rest ++ x ∷ [] → IsPopped all stack rest x
popped all stack rest x is pushed =
    let size : length stack ≡ length rest + 1 = ap length pushed ∙ length-append rest (x ∷ []) in
    let there : slice_get stack (length rest) ≡ Some x = subst (λ s. slice_get s (length rest) ≡ Some x) (sym pushed) (get-push rest x) in
    let taken : slice_get (take (length stack) all) (length rest) ≡ Some x = subst (λ s. slice_get s (length rest) ≡ Some x) is there in
    let front : take (length rest) stack ≡ rest = ap (take (length rest)) pushed ∙ take_at rest (x ∷ []) (length rest) refl in
    let deep : take (length rest) (take (length stack) all) ≡ take (length rest) all = take-take (length rest) (length stack) all (let l : length rest ≤ length stack = omega (arith, size) in l) in
    record {
      size = size;
      is = sym front ∙ ap (take (length rest)) is ∙ deep;
      at = (get-take (length stack) all (length rest) x taken).1;
    }
