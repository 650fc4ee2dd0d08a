-- One memory more of a list has its number, where no two have one entry.
use Rattle.std.proofs.Common.{◌≡◌, ◌⊎◌, inl, inr, ℕ, suc, ◌+◌, ◌*◌, ◌<◌, ◌≤◌, nat_eq, if◌then◌else◌, List, length, get_or, slice_get, Some, refl, sym, ap, subst, ◌∙◌, arith}
use Rattle.std.proofs.lemmas.Bool.{cases_eq, cases_lt}
use Rattle.std.proofs.lemmas.Option.{slice_get_within}
use Rattle.zl_normal.specs.NumberTables.{KeyTables, wire_number, memory_number}
use Rattle.zl_normal.specs.Slots.{slot, offset, entry, kept_slot, no_offset, IsKept, AreInTurn}
use Rattle.zl_normal.specs.declared.key.Key.{Key}
use Rattle.zl_normal.specs.declared.key.Kept.{Kept}
use Rattle.zl_normal.specs.declared.key.Kept.TheVariants.{First, Before, Moving, Derivative, Pre}
use Rattle.zl_normal.specs.declared.slot.Slot.{Slot}
use Rattle.zl_normal.specs.declared.slot.Slot.TheVariants.{Fixed, OfOcc, OfPlace, OfAgain}
use Rattle.zl_normal.proofs.Sweep.{counted, chosen, left}

-- two memories are one, or not
same_kept : (a b : Kept) → (a ≡ b) ⊎ (a ≡ b → ⊥)
same_kept First First = inl refl
same_kept First (Before q) = inr (λ e. cc)
same_kept First (Moving q) = inr (λ e. cc)
same_kept First (Derivative q) = inr (λ e. cc)
same_kept First (Pre i) = inr (λ e. cc)
same_kept (Before p) First = inr (λ e. cc)
same_kept (Before p) (Before q) = by_case (cases_eq p q) where
  by_case : (p ≡ q) ⊎ (p ≡ q → ⊥) → (Before p ≡ Before q) ⊎ (Before p ≡ Before q → ⊥)
  by_case (inl e) = inl (cc)
  by_case (inr n) = inr (λ e. n (cc))
same_kept (Before p) (Moving q) = inr (λ e. cc)
same_kept (Before p) (Derivative q) = inr (λ e. cc)
same_kept (Before p) (Pre i) = inr (λ e. cc)
same_kept (Moving p) First = inr (λ e. cc)
same_kept (Moving p) (Before q) = inr (λ e. cc)
same_kept (Moving p) (Moving q) = by_case (cases_eq p q) where
  by_case : (p ≡ q) ⊎ (p ≡ q → ⊥) → (Moving p ≡ Moving q) ⊎ (Moving p ≡ Moving q → ⊥)
  by_case (inl e) = inl (cc)
  by_case (inr n) = inr (λ e. n (cc))
same_kept (Moving p) (Derivative q) = inr (λ e. cc)
same_kept (Moving p) (Pre i) = inr (λ e. cc)
same_kept (Derivative p) First = inr (λ e. cc)
same_kept (Derivative p) (Before q) = inr (λ e. cc)
same_kept (Derivative p) (Moving q) = inr (λ e. cc)
same_kept (Derivative p) (Derivative q) = by_case (cases_eq p q) where
  by_case : (p ≡ q) ⊎ (p ≡ q → ⊥) → (Derivative p ≡ Derivative q) ⊎ (Derivative p ≡ Derivative q → ⊥)
  by_case (inl e) = inl (cc)
  by_case (inr n) = inr (λ e. n (cc))
same_kept (Derivative p) (Pre i) = inr (λ e. cc)
same_kept (Pre j) First = inr (λ e. cc)
same_kept (Pre j) (Before q) = inr (λ e. cc)
same_kept (Pre j) (Moving q) = inr (λ e. cc)
same_kept (Pre j) (Derivative q) = inr (λ e. cc)
same_kept (Pre j) (Pre i) = by_case (cases_eq j i) where
  by_case : (j ≡ i) ⊎ (j ≡ i → ⊥) → (Pre j ≡ Pre i) ⊎ (Pre j ≡ Pre i → ⊥)
  by_case (inl e) = inl (cc)
  by_case (inr n) = inr (λ e. n (cc))

same_wires : (old new : KeyTables) → ((s : Slot) → entry new s ≡ entry old s) → (key : Key) → wire_number new key ≡ wire_number old key
same_wires old new same key = counted new key ∙ ap (λ m. m + offset key) (same (slot key)) ∙ sym (counted old key)

-- a number is put at a place of the list of memories of places, or of occurrences
abbrev IsPut : List ℕ → List ℕ → ℕ → ℕ → Type 0
IsPut old new at number = (i : ℕ) → get_or new i 0 ≡ (if nat_eq i at then number else get_or old i 0)

put_own : (old new : List ℕ) (at number : ℕ) → IsPut old new at number → get_or new at 0 ≡ number
put_own old new at number all = all at ∙ chosen at at number (get_or old at 0) refl

put_other : (old new : List ℕ) (at number i : ℕ) → IsPut old new at number → (i ≡ at → ⊥) → get_or new i 0 ≡ get_or old i 0
put_other old new at number i all n = all i ∙ left at i number (get_or old i 0) n

wires_of_places : (old : KeyTables) (items : List ℕ) (s : Slot) → entry (record old { place_memories = items }) s ≡ entry old s
wires_of_places old items Fixed = refl
wires_of_places old items (OfOcc j kind) = refl
wires_of_places old items (OfPlace p kind) = refl
wires_of_places old items OfAgain = refl

wires_of_occs : (old : KeyTables) (items : List ℕ) (s : Slot) → entry (record old { occ_memories = items }) s ≡ entry old s
wires_of_occs old items Fixed = refl
wires_of_occs old items (OfOcc j kind) = refl
wires_of_occs old items (OfPlace p kind) = refl
wires_of_occs old items OfAgain = refl

pub keep_before : (old : KeyTables) (items : List ℕ) (p number : ℕ) → IsPut old.place_memories items (p * 3) number → IsKept old (record old { place_memories = items }) (Before p) number
keep_before old items p number all = record { own = λ n. put_own old.place_memories items (p * 3) number all; others = others; wires = same_wires old (record old { place_memories = items }) (wires_of_places old items) }
  where
    others : (other : Kept) → (other ≡ Before p → ⊥) → memory_number (record old { place_memories = items }) other ≡ memory_number old other
    others First n = refl
    others (Before q) n = put_other old.place_memories items (p * 3) number (q * 3) all (λ e. n (ap Before (omega arith)))
    others (Moving q) n = put_other old.place_memories items (p * 3) number (q * 3 + 1) all (λ e. omega arith)
    others (Derivative q) n = put_other old.place_memories items (p * 3) number (q * 3 + 2) all (λ e. omega arith)
    others (Pre j) n = refl

pub keep_moving : (old : KeyTables) (items : List ℕ) (p number : ℕ) → IsPut old.place_memories items (p * 3 + 1) number → IsKept old (record old { place_memories = items }) (Moving p) number
keep_moving old items p number all = record { own = λ n. put_own old.place_memories items (p * 3 + 1) number all; others = others; wires = same_wires old (record old { place_memories = items }) (wires_of_places old items) }
  where
    others : (other : Kept) → (other ≡ Moving p → ⊥) → memory_number (record old { place_memories = items }) other ≡ memory_number old other
    others First n = refl
    others (Before q) n = put_other old.place_memories items (p * 3 + 1) number (q * 3) all (λ e. omega arith)
    others (Moving q) n = put_other old.place_memories items (p * 3 + 1) number (q * 3 + 1) all (λ e. n (ap Moving (omega arith)))
    others (Derivative q) n = put_other old.place_memories items (p * 3 + 1) number (q * 3 + 2) all (λ e. omega arith)
    others (Pre j) n = refl

pub keep_derivative : (old : KeyTables) (items : List ℕ) (p number : ℕ) → IsPut old.place_memories items (p * 3 + 2) number → IsKept old (record old { place_memories = items }) (Derivative p) number
keep_derivative old items p number all = record { own = λ n. put_own old.place_memories items (p * 3 + 2) number all; others = others; wires = same_wires old (record old { place_memories = items }) (wires_of_places old items) }
  where
    others : (other : Kept) → (other ≡ Derivative p → ⊥) → memory_number (record old { place_memories = items }) other ≡ memory_number old other
    others First n = refl
    others (Before q) n = put_other old.place_memories items (p * 3 + 2) number (q * 3) all (λ e. omega arith)
    others (Moving q) n = put_other old.place_memories items (p * 3 + 2) number (q * 3 + 1) all (λ e. omega arith)
    others (Derivative q) n = put_other old.place_memories items (p * 3 + 2) number (q * 3 + 2) all (λ e. n (ap Derivative (omega arith)))
    others (Pre j) n = refl

pub keep_pre : (old : KeyTables) (items : List ℕ) (j number : ℕ) → IsPut old.occ_memories items j number → IsKept old (record old { occ_memories = items }) (Pre j) number
keep_pre old items j number all = record { own = λ n. put_own old.occ_memories items j number all; others = others; wires = same_wires old (record old { occ_memories = items }) (wires_of_occs old items) }
  where
    others : (other : Kept) → (other ≡ Pre j → ⊥) → memory_number (record old { occ_memories = items }) other ≡ memory_number old other
    others First n = refl
    others (Before q) n = refl
    others (Moving q) n = refl
    others (Derivative q) n = refl
    others (Pre i) n = put_other old.occ_memories items j number i all (λ e. n (ap Pre e))

pub keep_none : (old : KeyTables) (number : ℕ) → IsKept old old First number
keep_none old number = record { own = λ n. absurd (n refl); others = λ other n. refl; wires = λ key. refl }

-- those before this place in the list have their numbers, and wires have those that they had
pub record AreKept (first now : KeyTables) (kepts : List Kept) (i : ℕ) : Type 0 where
  pub memories : (n : ℕ) (kept : Kept) → n < i → slice_get kepts n ≡ Some kept → memory_number now kept ≡ n
  pub wires : (key : Key) → wire_number now key ≡ wire_number first key

pub one_kept : (first old new : KeyTables) (kepts : List Kept) (i : ℕ) (kept : Kept) → AreInTurn kept_slot no_offset kepts → slice_get kepts i ≡ Some kept → IsKept old new kept i → AreKept first old kepts i → AreKept first new kepts (i + 1)
one_kept first old new kepts i kept turn here set before = record { memories = memories; wires = λ key. set.wires key ∙ before.wires key }
  where
    earlier : (n : ℕ) (b : Kept) → slice_get kepts n ≡ Some b → n < i + 1 → (b ≡ kept → ⊥) → (n < i) ⊎ (i ≤ n) → memory_number old b ≡ n
    earlier n b is less other (inl below) = before.memories n b below is
    earlier n b is less other (inr past) =
        let one : n ≡ i = omega arith in
        let there : slice_get kepts i ≡ Some b = subst (λ m. slice_get kepts m ≡ Some b) one is in
        let both : b ≡ kept = cc in
        absurd (other both)

    the_same : (n : ℕ) (b : Kept) → slice_get kepts n ≡ Some b → b ≡ kept → (b ≡ First) ⊎ (b ≡ First → ⊥) → memory_number new b ≡ n
    the_same n b is e (inl first_one) =
        let none : memory_number new b ≡ 0 = ap (λ k. memory_number new k) first_one in
        let begins : 0 ≡ n = turn.fixed n b is (ap (λ k. kept_slot k) first_one) in
        omega arith
    the_same n b is e (inr other) =
        let number : memory_number new b ≡ i = ap (λ k. memory_number new k) e ∙ set.own (λ d. other (e ∙ d)) in
        let places : n + 0 ≡ i + 0 = turn.same n i b kept is here (ap (λ k. kept_slot k) e) in
        omega arith

    by_kept : (n : ℕ) (b : Kept) → n < i + 1 → slice_get kepts n ≡ Some b → (b ≡ kept) ⊎ (b ≡ kept → ⊥) → memory_number new b ≡ n
    by_kept n b less is (inl e) = the_same n b is e (same_kept b First)
    by_kept n b less is (inr other) = set.others b other ∙ earlier n b is less other (cases_lt n i)

    memories : (n : ℕ) (b : Kept) → n < i + 1 → slice_get kepts n ≡ Some b → memory_number new b ≡ n
    memories n b less is = by_kept n b less is (same_kept b kept)

pub none_kept : (t : KeyTables) (kepts : List Kept) → AreKept t t kepts 0
none_kept t kepts = record { memories = λ n kept less is. absurd (omega arith); wires = λ key. refl }

-- what stands in a list stands before its end
pub in_kept : (kepts : List Kept) (i n : ℕ) (kept : Kept) → slice_get kepts n ≡ Some kept → length kepts ≤ i → n < i
in_kept kepts i n kept is end = let h : n < length kepts = slice_get_within kepts n kept is in omega arith
