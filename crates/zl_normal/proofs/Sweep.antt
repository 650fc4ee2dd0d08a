-- One wire more of a list has its number, where those of one entry stand in turn.
use Rattle.std.proofs.Common.{◌≡◌, ◌⊎◌, inl, inr, ℕ, zero, suc, ◌+◌, ◌-◌, ◌*◌, ◌<◌, ◌≤◌, nat_eq, Bool, true, false, if◌then◌else◌, List, [], ◌∷◌, ◌++◌, length, get_or, slice_get, slice_set, Some, refl, sym, ap, subst, ◌∙◌, arith}
use Rattle.std.proofs.lemmas.Bool.{cases_eq, cases_lt, eqb-true, eq-eqb}
use Rattle.std.proofs.lemmas.Grind.{get_or-set_at}
use Rattle.std.proofs.lemmas.List.{get_or-set_other}
use Rattle.std.proofs.lemmas.Option.{slice_get_within}
use Rattle.zl_normal.specs.NumberTables.{KeyTables, wire_number}
use Rattle.zl_normal.specs.Slots.{slot, offset, entry, IsSlot, IsSet, AreInTurn}
use Rattle.zl_normal.specs.declared.key.Key.{Key}
use Rattle.zl_normal.specs.declared.key.Key.TheVariants.{Step, Fresh, No, Zero, Value, Rest, Next, Other, Guard, Place, Between, Taken, Passed, Chosen, Last, Remembered, Again, Present, Slope, Motion}
use Rattle.zl_normal.specs.declared.slot.Slot.{Slot}
use Rattle.zl_normal.specs.declared.slot.Slot.TheVariants.{Fixed, OfOcc, OfPlace, OfAgain}

-- one zero more at the end changes no number
pub zero_more : (xs : List ℕ) (i : ℕ) → get_or (xs ++ 0 ∷ []) i 0 ≡ get_or xs i 0
zero_more [] zero = refl
zero_more [] (suc i) = refl
zero_more (x ∷ xs) zero = refl
zero_more (x ∷ xs) (suc i) = zero_more xs i

-- the numbers after one is set
pub put_at : (xs old : List ℕ) (at number : ℕ) → at < length xs → ((i : ℕ) → get_or xs i 0 ≡ get_or old i 0) → (i : ℕ) → get_or (slice_set xs at number) i 0 ≡ (if nat_eq i at then number else get_or old i 0)
put_at xs old at number less same i = by_case (nat_eq i at) refl
  where
    by_case : (b : Bool) → nat_eq i at ≡ b → get_or (slice_set xs at number) i 0 ≡ (if nat_eq i at then number else get_or old i 0)
    by_case true e = rw e (get_or-set_at xs at i number 0 (eqb-true i at e) less)
    by_case false e = rw e (get_or-set_other xs at i number 0 (λ d. let t : nat_eq i at ≡ true = eq-eqb i at d in absurd cc) ∙ same i)

-- each key's entry is one
pub known : (key : Key) → IsSlot (slot key)
known Step = tt
known Fresh = tt
known No = tt
known Zero = tt
known (Value j) = omega arith
known (Rest j i) = omega arith
known (Next j) = omega arith
known (Other j) = omega arith
known (Guard j) = omega arith
known (Present j) = omega arith
known (Slope j) = omega arith
known (Place p) = omega arith
known (Between p) = omega arith
known (Motion p) = omega arith
known (Last p) = omega arith
known (Remembered p) = omega arith
known (Taken p i) = omega arith
known (Passed p i) = omega arith
known (Chosen p i) = omega arith
known (Again i) = tt

none-more : (n : ℕ) → n ≡ n + 0
none-more n = omega arith

-- a number is that of the entry and how far it is from there
pub counted : (t : KeyTables) (key : Key) → wire_number t key ≡ entry t (slot key) + offset key
counted t Step = refl
counted t Fresh = refl
counted t No = refl
counted t Zero = refl
counted t (Value j) = ap (λ n. get_or t.occs n 0) (none-more (j * 7)) ∙ none-more (get_or t.occs (j * 7 + 0) 0)
counted t (Rest j i) = refl
counted t (Next j) = none-more (get_or t.occs (j * 7 + 2) 0)
counted t (Other j) = none-more (get_or t.occs (j * 7 + 3) 0)
counted t (Guard j) = none-more (get_or t.occs (j * 7 + 4) 0)
counted t (Present j) = none-more (get_or t.occs (j * 7 + 5) 0)
counted t (Slope j) = none-more (get_or t.occs (j * 7 + 6) 0)
counted t (Place p) = ap (λ n. get_or t.places n 0) (none-more (p * 6)) ∙ none-more (get_or t.places (p * 6 + 0) 0)
counted t (Between p) = none-more (get_or t.places (p * 6 + 1) 0)
counted t (Motion p) = none-more (get_or t.places (p * 6 + 2) 0)
counted t (Last p) = none-more (get_or t.places (p * 6 + 3) 0)
counted t (Remembered p) = none-more (get_or t.places (p * 6 + 4) 0)
counted t (Taken p i) = refl
counted t (Passed p i) = omega arith
counted t (Chosen p i) = omega arith
counted t (Again i) = refl

-- two entries are one, or not
pub same_slot : (a b : Slot) → (a ≡ b) ⊎ (a ≡ b → ⊥)
same_slot Fixed Fixed = inl refl
same_slot OfAgain OfAgain = inl refl
same_slot (OfOcc j k) (OfOcc i l) = by_case (cases_eq j i) (cases_eq k l) where
  by_case : (j ≡ i) ⊎ (j ≡ i → ⊥) → (k ≡ l) ⊎ (k ≡ l → ⊥) → (OfOcc j k ≡ OfOcc i l) ⊎ (OfOcc j k ≡ OfOcc i l → ⊥)
  by_case (inl e) (inl d) = inl (cc)
  by_case (inr n) d = inr (λ e. n (cc))
  by_case e (inr n) = inr (λ e. n (cc))
same_slot (OfPlace j k) (OfPlace i l) = by_case (cases_eq j i) (cases_eq k l) where
  by_case : (j ≡ i) ⊎ (j ≡ i → ⊥) → (k ≡ l) ⊎ (k ≡ l → ⊥) → (OfPlace j k ≡ OfPlace i l) ⊎ (OfPlace j k ≡ OfPlace i l → ⊥)
  by_case (inl e) (inl d) = inl (cc)
  by_case (inr n) d = inr (λ e. n (cc))
  by_case e (inr n) = inr (λ e. n (cc))
same_slot Fixed (OfOcc i l) = inr (λ e. cc)
same_slot Fixed (OfPlace i l) = inr (λ e. cc)
same_slot Fixed OfAgain = inr (λ e. cc)
same_slot (OfOcc j k) Fixed = inr (λ e. cc)
same_slot (OfOcc j k) (OfPlace i l) = inr (λ e. cc)
same_slot (OfOcc j k) OfAgain = inr (λ e. cc)
same_slot (OfPlace j k) Fixed = inr (λ e. cc)
same_slot (OfPlace j k) (OfOcc i l) = inr (λ e. cc)
same_slot (OfPlace j k) OfAgain = inr (λ e. cc)
same_slot OfAgain Fixed = inr (λ e. cc)
same_slot OfAgain (OfOcc i l) = inr (λ e. cc)
same_slot OfAgain (OfPlace i l) = inr (λ e. cc)

-- those before this place in the list have their numbers
abbrev pub AreBefore : KeyTables → List Key → ℕ → Type 0
AreBefore t keys i = (n : ℕ) (key : Key) → n < i → slice_get keys n ≡ Some key → wire_number t key ≡ n

-- one that stands beside this one in an entry
own_number : (old new : KeyTables) (i n : ℕ) (a b : Key) → IsSet old new (slot a) (i - offset a) → offset a ≤ i → (slot b ≡ Fixed → offset b ≡ n) → i + offset b ≡ n + offset a → slot a ≡ slot b → entry new (slot b) + offset b ≡ n
own_number old new i n a b set after fixed apart same = by_case (same_slot (slot b) Fixed)
  where
    by_case : (slot b ≡ Fixed) ⊎ (slot b ≡ Fixed → ⊥) → entry new (slot b) + offset b ≡ n
    by_case (inl e) =
        let none : entry new (slot b) ≡ 0 = ap (λ s. entry new s) e in
        let far : offset b ≡ n = fixed e in
        omega arith
    by_case (inr other) =
        let there : entry new (slot b) ≡ i - offset a = ap (λ s. entry new s) (sym same) ∙ set.own (λ e. other (sym same ∙ e)) in
        omega arith

-- one that stands in another
other_number : (old new : KeyTables) (n number : ℕ) (a b : Key) → IsSet old new (slot a) number → (slot b ≡ slot a → ⊥) → wire_number old b ≡ n → entry new (slot b) + offset b ≡ n
other_number old new n number a b set other is = ap (λ m. m + offset b) (set.others (slot b) (known b) other) ∙ sym (counted old b) ∙ is

pub one_more : (keys : List Key) (old new : KeyTables) (i : ℕ) (key : Key) → AreInTurn slot offset keys → slice_get keys i ≡ Some key → IsSet old new (slot key) (i - offset key) → AreBefore old keys i → AreBefore new keys (i + 1)
one_more keys old new i key turn here set before n b less is = counted new b ∙ by_slot (same_slot (slot b) (slot key))
  where
    earlier : (slot b ≡ slot key → ⊥) → (n < i) ⊎ (i ≤ n) → wire_number old b ≡ n
    earlier other (inl below) = before n b below is
    earlier other (inr past) =
        let one : n ≡ i = omega arith in
        let there : slice_get keys i ≡ Some b = subst (λ m. slice_get keys m ≡ Some b) one is in
        let both : b ≡ key = cc in
        absurd (other (ap (λ k. slot k) both))

    by_slot : (slot b ≡ slot key) ⊎ (slot b ≡ slot key → ⊥) → entry new (slot b) + offset b ≡ n
    by_slot (inl same) = own_number old new i n key b set (turn.after i key here) (turn.fixed n b is) (turn.same i n key b here is (sym same)) (sym same)
    by_slot (inr other) = other_number old new n (i - offset key) key b set other (earlier other (cases_lt n i))

pub none_yet : (t : KeyTables) (keys : List Key) → AreBefore t keys 0
none_yet t keys n key less is = absurd (omega arith)

-- a number is put into one entry of occurrences, of places, or of `again`
at_entry : (j kind i k : ℕ) → kind < 7 → k < 7 → j * 7 + kind ≡ i * 7 + k → (j ≡ i) × (kind ≡ k)
at_entry j kind i k a b e = (omega arith, omega arith)

at_place : (p kind i k : ℕ) → kind < 6 → k < 6 → p * 6 + kind ≡ i * 6 + k → (p ≡ i) × (kind ≡ k)
at_place p kind i k a b e = (omega arith, omega arith)

pub chosen : (at i number other : ℕ) → i ≡ at → (if nat_eq i at then number else other) ≡ number
chosen at i number other e = rw (eq-eqb i at e) refl

pub left : (at i number other : ℕ) → (i ≡ at → ⊥) → (if nat_eq i at then number else other) ≡ other
left at i number other n = by_case (nat_eq i at) refl
  where
    by_case : (b : Bool) → nat_eq i at ≡ b → (if nat_eq i at then number else other) ≡ other
    by_case true e = absurd (n (eqb-true i at e))
    by_case false e = rw e refl

pub set_occ : (old : KeyTables) (items : List ℕ) (j kind number : ℕ) → kind < 7 → ((i : ℕ) → get_or items i 0 ≡ (if nat_eq i (j * 7 + kind) then number else get_or old.occs i 0)) → IsSet old (record old { occs = items }) (OfOcc j kind) number
set_occ old items j kind number low all = record { own = λ n. all (j * 7 + kind) ∙ chosen (j * 7 + kind) (j * 7 + kind) number (get_or old.occs (j * 7 + kind) 0) refl; others = others }
  where
    others : (other : Slot) → IsSlot other → (other ≡ OfOcc j kind → ⊥) → entry (record old { occs = items }) other ≡ entry old other
    others Fixed o n = refl
    others (OfPlace p k) o n = refl
    others OfAgain o n = refl
    others (OfOcc i k) o n =
        all (i * 7 + k) ∙ left (j * 7 + kind) (i * 7 + k) number (get_or old.occs (i * 7 + k) 0) (λ e. let b = at_entry i k j kind o low e in let x = b.0 in let y = b.1 in n cc)

pub set_place : (old : KeyTables) (items : List ℕ) (p kind number : ℕ) → kind < 6 → ((i : ℕ) → get_or items i 0 ≡ (if nat_eq i (p * 6 + kind) then number else get_or old.places i 0)) → IsSet old (record old { places = items }) (OfPlace p kind) number
set_place old items p kind number low all = record { own = λ n. all (p * 6 + kind) ∙ chosen (p * 6 + kind) (p * 6 + kind) number (get_or old.places (p * 6 + kind) 0) refl; others = others }
  where
    others : (other : Slot) → IsSlot other → (other ≡ OfPlace p kind → ⊥) → entry (record old { places = items }) other ≡ entry old other
    others Fixed o n = refl
    others (OfOcc j k) o n = refl
    others OfAgain o n = refl
    others (OfPlace i k) o n =
        all (i * 6 + k) ∙ left (p * 6 + kind) (i * 6 + k) number (get_or old.places (i * 6 + k) 0) (λ e. let b = at_place i k p kind o low e in let x = b.0 in let y = b.1 in n cc)

pub set_again : (old : KeyTables) (number : ℕ) → IsSet old (record old { again = number }) OfAgain number
set_again old number = record { own = λ n. refl; others = others }
  where
    others : (other : Slot) → IsSlot other → (other ≡ OfAgain → ⊥) → entry (record old { again = number }) other ≡ entry old other
    others Fixed o n = refl
    others (OfOcc j k) o n = refl
    others (OfPlace p k) o n = refl
    others OfAgain o n = absurd (n refl)

pub set_none : (old : KeyTables) (number : ℕ) → IsSet old old Fixed number
set_none old number = record { own = λ n. absurd (n refl); others = λ other o n. refl }

-- what stands in a list stands before its end
pub in_list : (keys : List Key) (i n : ℕ) (key : Key) → slice_get keys n ≡ Some key → length keys ≤ i → n < i
in_list keys i n key is end = let h : n < length keys = slice_get_within keys n key is in omega arith
