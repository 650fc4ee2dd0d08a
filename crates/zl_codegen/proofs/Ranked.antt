-- The wires in the order of their numbers are an order of the kernel.
use Rattle.std.specs.Prelude.{◌≡◌, ℕ, zero, suc, ◌+◌, ◌*◌, ◌<◌, ◌≤◌, List, [], ◌∷◌, ◌++◌, length, get_or, slice_get, map, Option, Some, None}
use Rattle.std.specs.List.{Contains, All}
use Rattle.std.specs.List.Sorted.{IsPermutation, IsNonDecreasingBy}
use Rattle.std.proofs.Common.{refl, sym, ap, ◌∙◌, arith, subst, inl, inr}
use Rattle.std.proofs.lemmas.List.Sorted.{IsPermutation-map, All-permutation, Contains-permutation}
use Rattle.std.proofs.lemmas.List.Elements.{All-from_recursion, All-get_or, All-push}
use Rattle.std.proofs.lemmas.Bool.{cases_lt}
use Rattle.std.proofs.lemmas.List.{map-append}
use Rattle.zl_value.specs.Lists.{Has, listed}
use Rattle.zl_kernel.specs.KernelForm.{KernelForm}
use Rattle.zl_kernel.specs.FlowWires.{operands, listed_in, reads}
use Rattle.zl_kernel.specs.WellFormed.{HasWire, HaveWires, IsWellFormed, IsWire, IsDef, IsGuard}
use Rattle.zl_kernel.specs.WireRanks.{AreWireRanks}
use Rattle.zl_kernel.specs.declared.wire.Def.{Def}
use Rattle.zl_kernel.specs.declared.wire.Def.TheVariants.{Lit, Copy, Mem, In, Event, Step, Op as Apply, If}
use Rattle.zl_kernel.specs.declared.wire.Wire.{Wire}
use Rattle.zl_value.specs.declared.value.Ty.{Ty}
use Rattle.zl_codegen.specs.Orders.{IsOrder, StandsBefore, numbers}
use Rattle.zl_codegen.specs.Ranking.{AreEntries, IsKey, wire_of}
use Rattle.zl_codegen.specs.declared.entry.Entry.{Entry}
use Rattle.zl_codegen.proofs.Listed.{listed_more, length-listed, get-listed, get_from, get_to, within_from, get-map}

-- an entry is the first, or one of the rest
pub has_cases : {X : Type 0} (P : X → Type 0) (x : X) (xs : List X) (y : X) → P x → (Has xs y → P y) → Has (x ∷ xs) y → P y
has_cases {X} P x xs y first rest has = by has.index has.is
  where
    by : (i : ℕ) → slice_get (x ∷ xs) i ≡ Some y → P y
    by zero is = subst P (let e : x ≡ y = cc in e) first
    by (suc i) is = rest (record { index = i; is = is })

pub has_none : {X : Type 0} (y : X) → Has [] y → ⊥
has_none y has = let p = has.is in cc

pub has_appended : {X : Type 0} (P : X → Type 0) (xs ys : List X) (y : X) → (Has xs y → P y) → (Has ys y → P y) → Has (xs ++ ys) y → P y
has_appended P [] ys y left right has = right has
has_appended P (x ∷ xs) ys y left right has = by has.index has.is (λ rest. has_appended P xs ys y (λ h. left (record { index = suc h.index; is = h.is })) right rest)
  where
    by : (i : ℕ) → slice_get (x ∷ (xs ++ ys)) i ≡ Some y → (Has (xs ++ ys) y → P y) → P y
    by zero is more = left (record { index = 0; is = is })
    by (suc i) is more = more (record { index = i; is = is })

module _ (k : KernelForm) where
  abbrev IsThere : ℕ → Type 0
  IsThere n = n < length k.wires

  there : (ty : Ty) (n : ℕ) → HasWire k ty n → IsThere n
  there ty n has = within_from k.wires n has.wire has.is

  all_there : (tys : List Ty) (ns : List ℕ) (j : ℕ) → HaveWires k tys ns → Has ns j → IsThere j
  all_there [] [] j have has = absurd (has_none j has)
  all_there [] (n ∷ ns) j have has = absurd have
  all_there (ty ∷ tys) [] j have has = absurd have
  all_there (ty ∷ tys) (n ∷ ns) j have has = has_cases IsThere n ns j (there ty n have.0) (λ rest. all_there tys ns j have.1 rest) has

  operand_there : (ty : Ty) (def : Def) (j : ℕ) → IsDef k ty def → Has (operands def) j → IsThere j
  operand_there ty (Lit v) j is has = absurd (has_none j has)
  operand_there ty (Copy n) j is has = has_cases IsThere n [] j (there ty n is) (λ rest. absurd (has_none j rest)) has
  operand_there ty (Mem m) j is has = absurd (has_none j has)
  operand_there ty (In i) j is has = absurd (has_none j has)
  operand_there ty (Event s) j is has = absurd (has_none j has)
  operand_there ty Step j is has = absurd (has_none j has)
  operand_there ty (Apply op ns) j is has = all_there _ ns j is.0 has
  operand_there ty (If c x y) j is has =
      has_cases IsThere c (x ∷ y ∷ []) j (there _ c is.0)
      (λ rest. has_cases IsThere x (y ∷ []) j (there ty x is.1) (λ last. has_cases IsThere y [] j (there ty y is.2) (λ none. absurd (has_none j none)) last) rest) has

  guard_there : (guard : Option ℕ) (j : ℕ) → IsGuard k guard → Has (listed_in guard) j → IsThere j
  guard_there None j is has = absurd (has_none j has)
  guard_there (Some g) j is has = has_cases IsThere g [] j (there _ g is) (λ rest. absurd (has_none j rest)) has

  -- each wire that a wire reads is there
  pub read_there : IsWellFormed k → (n j : ℕ) (wire : Wire) → slice_get k.wires n ≡ Some wire → Has (reads wire) j → j < length k.wires
  read_there well n j wire is has =
      let less = within_from k.wires n wire is in
      let w : IsWire k wire = subst (IsWire k) (get_from k.wires n wire wire is) (All-get_or (IsWire k) k.wires n wire less (All-from_recursion (IsWire k) k.wires well.wires)) in
      has_appended IsThere (listed_in wire.guard) (operands wire.def) j (guard_there wire.guard j w.guard) (operand_there wire.ty wire.def j w.def) has

module _ (k : KernelForm) (ranks : List ℕ) (well : IsWellFormed k) (are : AreWireRanks k ranks) (entries sorted : List Entry) (made : AreEntries ranks (length k.wires) entries) (moved : IsPermutation entries sorted) (rises : IsNonDecreasingBy (λ (e : Entry). e.key) sorted) where
  permuted : IsPermutation (numbers k) (map wire_of sorted)
  permuted = subst (λ ns. IsPermutation ns (map wire_of sorted)) made.wires (IsPermutation-map wire_of entries sorted moved)

  keys : All (IsKey ranks) sorted
  keys = All-permutation (IsKey ranks) entries sorted moved made.keys

  length-wires : (xs : List Entry) → length (map wire_of xs) ≡ length xs
  length-wires [] = refl
  length-wires (x ∷ xs) = ap suc (length-wires xs)

  -- the entry of a place
  entry_at : (i n : ℕ) (d : Entry) → slice_get (map wire_of sorted) i ≡ Some n → (i < length sorted) × (wire_of (get_or sorted i d) ≡ n)
  entry_at i n d is =
      let less : i < length sorted = subst (λ m. i < m) (length-wires sorted) (within_from (map wire_of sorted) i n is) in
      (less, sym (get-map wire_of sorted i d n less) ∙ get_from (map wire_of sorted) i n n is)

  place_of : (j : ℕ) → j < length k.wires → Contains (map wire_of sorted) j
  place_of j less =
      Contains-permutation (numbers k) (map wire_of sorted) j permuted
      (j, subst (λ m. j < m) (sym (length-listed (length k.wires) 0 (λ n. n))) less, get-listed (length k.wires) 0 (λ n. n) j j less ∙ (let e : 0 + j ≡ j = omega arith in e))

  earlier : (i n j p : ℕ) (d : Entry) → i < length sorted → p < length sorted → wire_of (get_or sorted i d) ≡ n → wire_of (get_or sorted p d) ≡ j → get_or ranks j 0 < get_or ranks n 0 → p < i
  earlier i n j p d one other at to lower = elim (cases_lt p i) [
    | inl less ↦ less
    | inr more ↦ (
        let up : (get_or sorted i d).key ≤ (get_or sorted p d).key = rises i p d more other in
        let a = keys i d one in
        let b = keys p d other in
        let low : get_or ranks n 0 * 4294967296 ≤ (get_or sorted i d).key = subst (λ w. get_or ranks w 0 * 4294967296 ≤ (get_or sorted i d).key) at a.low in
        let high : (get_or sorted p d).key < (get_or ranks j 0 + 1) * 4294967296 = subst (λ w. (get_or sorted p d).key < (get_or ranks w 0 + 1) * 4294967296) to b.high in
        absurd (omega arith))
  ]

  behind : (i n j : ℕ) (wire : Wire) → slice_get (map wire_of sorted) i ≡ Some n → slice_get k.wires n ≡ Some wire → Has (reads wire) j → StandsBefore (map wire_of sorted) i j
  behind i n j wire is wired has =
      let c = place_of j (read_there k well n j wire wired has) in
      let some = get_to (map wire_of sorted) c.0 j c.1 ∙ ap Some c.2 in
      let d : Entry = record { key = 0; wire = 0 } in
      let one = entry_at i n d is in
      let other = entry_at c.0 j d some in
      record { place = c.0; before = earlier i n j c.0 d one.0 other.0 one.1 other.1 (are.lower n j wire wired has); is = some }

  pub sorted_order : IsOrder k (map wire_of sorted)
  sorted_order = record { permutation = permuted; behind = behind }

-- one entry more
pub entry_more : (ranks : List ℕ) (i : ℕ) (entries : List Entry) (entry : Entry) (new : List Entry) → AreEntries ranks i entries → new ≡ entries ++ entry ∷ [] → entry.wire ≡ i → get_or ranks i 0 * 4294967296 ≤ entry.key → entry.key < (get_or ranks i 0 + 1) * 4294967296 → AreEntries ranks (i + 1) new
entry_more ranks i entries entry new are is at low high = record {
  wires =
      ap (map wire_of) is ∙ map-append wire_of entries (entry ∷ []) ∙ ap (λ w. map wire_of entries ++ w ∷ []) at ∙ ap (λ ws. ws ++ i ∷ []) are.wires
      ∙ sym (listed_more i 0 (λ j. j) ∙ ap (λ w. listed i 0 (λ j. j) ++ w ∷ []) (let e : 0 + i ≡ i = omega arith in e)) ∙ ap (λ n. listed n 0 (λ j. j)) (let e : suc i ≡ i + 1 = omega arith in e);
  keys = subst (λ es. All (IsKey ranks) es) (sym is) (All-push (IsKey ranks) entries entry are.keys (record {
    low = subst (λ w. get_or ranks w 0 * 4294967296 ≤ entry.key) (sym at) low;
    high = subst (λ w. entry.key < (get_or ranks w 0 + 1) * 4294967296) (sym at) high;
  }));
}
