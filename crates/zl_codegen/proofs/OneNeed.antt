-- A method needs the same wires in whatever order: the least that is closed over what it needs for itself.
use Rattle.std.specs.Prelude.{◌≡◌, ℕ, zero, suc, ◌<◌, Bool, true, false, not, ◌||◌, if◌then◌else◌, List, [], ◌∷◌, length, get_or, slice_get, Option, Some, None}
use Rattle.std.proofs.Common.{refl, sym, ap₂, ◌∙◌, arith, subst}
use Rattle.std.proofs.lemmas.Bool.{and_parts, and_from}
use Rattle.zl_value.specs.Lists.{Has, among}
use Rattle.zl_kernel.specs.KernelForm.{KernelForm}
use Rattle.zl_kernel.specs.FlowWires.{reads}
use Rattle.zl_kernel.specs.WellFormed.{IsWellFormed}
use Rattle.zl_kernel.specs.Wires.{Mode}
use Rattle.zl_kernel.specs.declared.wire.Wire.{Wire}
use Rattle.zl_codegen.specs.Orders.{IsOrder}
use Rattle.zl_codegen.specs.Needs.{marked, is_marked, is_taken, reads_of, needed, roots, needs, left_out}
use Rattle.zl_codegen.proofs.Closed.{long_all, long_roots, grows, needs_closed}
use Rattle.zl_codegen.proofs.Listed.{within_from}
use Rattle.zl_codegen.proofs.MarkTests.{marked_is}
use Rattle.zl_codegen.proofs.Solving.{at_among}

-- lists are equal that are entry by entry
pub lists_same : {X : Type 0} (d : X) (xs ys : List X) → length xs ≡ length ys → ((j : ℕ) → j < length xs → get_or xs j d ≡ get_or ys j d) → xs ≡ ys
lists_same d [] [] long e = refl
lists_same d [] (y ∷ ys) long e = absurd (omega arith)
lists_same d (x ∷ xs) [] long e = absurd (omega arith)
lists_same d (x ∷ xs) (y ∷ ys) long e = ap₂ (λ z zs. z ∷ zs) (e zero (omega arith)) (lists_same d xs ys (omega arith) (λ j less. e (suc j) (omega arith)))

bools_same : (a b : Bool) → (a ≡ true → b ≡ true) → (b ≡ true → a ≡ true) → a ≡ b
bools_same true b p q = sym (p refl)
bools_same false true p q = q refl
bools_same false false p q = refl

module _ (k : KernelForm) (list : List ℕ) (well : IsWellFormed k) (order : IsOrder k list) (mode : Mode) where
  begun : List Bool
  begun = roots k mode

  long_now : (l : List ℕ) → length (needed k.wires (left_out k mode) l (roots k mode)) ≡ length k.wires
  long_now l = long_all k list well order (left_out k mode) (roots k mode) (long_roots k mode) l

  pub long_needs : length (needs k mode list) ≡ length k.wires
  long_needs = long_now list

  -- what it needs for itself is marked
  pub roots_marked : (l : List ℕ) (j : ℕ) → j < length k.wires → is_marked (roots k mode) j ≡ true → is_marked (needed k.wires (left_out k mode) l (roots k mode)) j ≡ true
  roots_marked [] j less is = is
  roots_marked (n ∷ l) j less is =
      grows k list well order (left_out k mode) (roots k mode) (long_roots k mode) n j (needed k.wires (left_out k mode) l (roots k mode)) (subst (λ m. j < m) (sym (long_now l)) less) (roots_marked l j less is)

  -- no other marks that are closed are fewer
  module _ (marks : List Bool) (closed : (n j : ℕ) (wire : Wire) → slice_get k.wires n ≡ Some wire → is_taken marks (left_out k mode) n ≡ true → Has (reads wire) j → is_marked marks j ≡ true) (has : (j : ℕ) → j < length k.wires → is_marked (roots k mode) j ≡ true → is_marked marks j ≡ true) where
    pub fewest : (l : List ℕ) (j : ℕ) → j < length k.wires → is_marked (needed k.wires (left_out k mode) l (roots k mode)) j ≡ true → is_marked marks j ≡ true
    fewest [] j less is = has j less is
    fewest (n ∷ l) j less is = by (λ i low. fewest l i low) (is_taken before (left_out k mode) n) refl is
      where
        before : List Bool
        before = needed k.wires (left_out k mode) l (roots k mode)

        or_either : (a b : Bool) → (a || b) ≡ true → (P : Type 0) → (a ≡ true → P) → (b ≡ true → P) → P
        or_either true b is P p q = p refl
        or_either false b is P p q = q is

        read_too : ((i : ℕ) → i < length k.wires → is_marked before i ≡ true → is_marked marks i ≡ true) → is_taken before (left_out k mode) n ≡ true → (w : Option Wire) → slice_get k.wires n ≡ w → among j (reads_of w) ≡ true → is_marked marks j ≡ true
        read_too more taken None at in' = absurd cc
        read_too more taken (Some w) at in' =
            let both = and_parts (is_marked before n) (not (is_marked (left_out k mode) n)) taken in
            let found = at_among (reads w) j in' in
            closed n j w at (and_from (is_marked marks n) (not (is_marked (left_out k mode) n)) (more n (within_from k.wires n w at) both.0) both.1) (record { index = found.0; is = found.1 })

        by : ((i : ℕ) → i < length k.wires → is_marked before i ≡ true → is_marked marks i ≡ true) → (t : Bool) → is_taken before (left_out k mode) n ≡ t → is_marked (if t then marked (reads_of (slice_get k.wires n)) before else before) j ≡ true → is_marked marks j ≡ true
        by more false e is = more j less is
        by more true e is =
            or_either (among j (reads_of (slice_get k.wires n))) (is_marked before j) (sym (marked_is (reads_of (slice_get k.wires n)) before j (subst (λ m. j < m) (sym (long_now l)) less)) ∙ is) (is_marked marks j ≡ true)
            (λ in'. read_too more e (slice_get k.wires n) refl in') (λ old. more j less old)

pub one_need : (k : KernelForm) (xs ys : List ℕ) → IsWellFormed k → IsOrder k xs → IsOrder k ys → (mode : Mode) → needs k mode xs ≡ needs k mode ys
one_need k xs ys well p q mode =
    lists_same false (needs k mode xs) (needs k mode ys) (long_needs k xs well p mode ∙ sym (long_needs k ys well q mode))
    (λ j less.
    let low : j < length k.wires = subst (λ m. j < m) (long_needs k xs well p mode) less in
    bools_same (is_marked (needs k mode xs) j) (is_marked (needs k mode ys) j)
    (fewest k xs well p mode (needs k mode ys) (needs_closed k ys well q mode).reads (roots_marked k ys well q mode ys) xs j low)
    (fewest k ys well q mode (needs k mode xs) (needs_closed k xs well p mode).reads (roots_marked k xs well p mode xs) ys j low))
