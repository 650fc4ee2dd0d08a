-- What stands in an order of the wires.
use Rattle.std.specs.Prelude.{◌≡◌, ℕ, zero, suc, ◌<◌, ◌+◌, true, List, [], ◌∷◌, ◌++◌, length, get_or, slice_get, Option, Some, None}
use Rattle.std.proofs.Common.{refl, sym, ap, ◌∙◌, arith, subst}
use Rattle.std.proofs.lemmas.List.Sorted.{Contains-permutation, All-permutation}
use Rattle.std.proofs.lemmas.List.Elements.{All-get_or, All-from_get_or}
use Rattle.zl_value.specs.Lists.{Has, among}
use Rattle.zl_kernel.specs.KernelForm.{KernelForm}
use Rattle.zl_kernel.specs.FlowWires.{listed_in, operands, reads}
use Rattle.zl_kernel.specs.declared.wire.Wire.{Wire}
use Rattle.zl_codegen.specs.Orders.{IsOrder, numbers}
use Rattle.zl_codegen.proofs.Listed.{get-listed, length-listed, get_from, get_to, within_from}
use Rattle.zl_codegen.proofs.Ranked.{has_cases, has_none}
use Rattle.zl_codegen.proofs.Solving.{among_at}

-- a guard is among what a wire reads
pub guard_read : (wire : Wire) (j : ℕ) → Has (listed_in wire.guard) j → Has (reads wire) j
guard_read wire j has = by wire.guard has
  where
    by : (guard : Option ℕ) → Has (listed_in guard) j → Has (listed_in guard ++ operands wire.def) j
    by None has = absurd (has_none j has)
    by (Some g) has = has_cases (λ i. Has (g ∷ operands wire.def) i) g [] j (record { index = 0; is = refl }) (λ none. absurd (has_none j none)) has

pub order_within : (k : KernelForm) (list : List ℕ) → IsOrder k list → (i n : ℕ) → slice_get list i ≡ Some n → n < length k.wires
order_within k list order i n at =
    let less = within_from list i n at in
    subst (λ j. j < length k.wires) (get_from list i n n at)
    (All-get_or (λ j. j < length k.wires) list i n less (All-permutation (λ j. j < length k.wires) (numbers k) list order.permutation (All-from_get_or (λ j. j < length k.wires) (numbers k) 0 below)))
  where
    below : (j : ℕ) → j < length (numbers k) → get_or (numbers k) j 0 < length k.wires
    below j less =
        let few : j < length k.wires = subst (λ l. j < l) (length-listed (length k.wires) 0 (λ n. n)) less in
        let same : get_or (numbers k) j 0 ≡ 0 + j = get-listed (length k.wires) 0 (λ n. n) 0 j few in
        subst (λ x. x < length k.wires) (sym same) (omega arith)

pub order_has : (k : KernelForm) (list : List ℕ) → IsOrder k list → (n : ℕ) → n < length k.wires → among n list ≡ true
order_has k list order n less =
    let c = Contains-permutation (numbers k) list n order.permutation (n, subst (λ m. n < m) (sym (length-listed (length k.wires) 0 (λ n. n))) less, get-listed (length k.wires) 0 (λ n. n) n n less ∙ (let e : 0 + n ≡ n = omega arith in e)) in
    among_at list c.0 n (get_to list c.0 n c.1 ∙ ap Some c.2)

-- a wire that there is
pub wire_at : (k : KernelForm) (n : ℕ) → n < length k.wires → (wire : Wire) × (slice_get k.wires n ≡ Some wire)
wire_at k n less = by (slice_get k.wires n) refl
  where
    by : (w : Option Wire) → slice_get k.wires n ≡ w → (wire : Wire) × (slice_get k.wires n ≡ Some wire)
    by None e = absurd (none_at k.wires n less e)
      where
        none_at : (ws : List Wire) (i : ℕ) → i < length ws → slice_get ws i ≡ None → ⊥
        none_at [] i l e = omega arith
        none_at (w ∷ ws) zero l e = cc
        none_at (w ∷ ws) (suc i) l e = none_at ws i (omega arith) e
    by (Some w) e = (w, e)

pub numbers_have : (k : KernelForm) (n : ℕ) → n < length k.wires → among n (numbers k) ≡ true
numbers_have k n less =
    let at = get-listed (length k.wires) 0 (λ i. i) n n less ∙ (let e : 0 + n ≡ n = omega arith in e) in
    among_at (numbers k) n n (get_to (numbers k) n n (subst (λ m. n < m) (sym (length-listed (length k.wires) 0 (λ i. i))) less) ∙ ap Some at)
