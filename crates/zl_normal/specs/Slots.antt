-- The entries of the tables of numbers, and which lists can be numbered by them.
use Rattle.std.specs.Prelude.{◌≡◌, ℕ, ◌+◌, ◌*◌, ◌<◌, ◌≤◌, List, slice_get, get_or, Some}
use Rattle.zl_normal.specs.NumberTables.{KeyTables, wire_number, memory_number}
use Rattle.zl_normal.specs.declared.key.Key.{Key}
use Rattle.zl_normal.specs.declared.key.Key.TheVariants.{Step, Fresh, No, Zero, Value, Rest, Next, Other, Guard, Place, Between, Taken, Passed, Chosen, Last, Remembered, Again, Present, Slope, Motion}
use Rattle.zl_normal.specs.declared.key.Kept.{Kept}
use Rattle.zl_normal.specs.declared.key.Kept.TheVariants.{First, Before, Moving, Derivative, Pre}
use Rattle.zl_normal.specs.declared.slot.Slot.{Slot}
use Rattle.zl_normal.specs.declared.slot.Slot.TheVariants.{Fixed, OfOcc, OfPlace, OfAgain}

-- the entry that the number of a wire counts from, and how far it is from there
abbrev pub slot : Key → Slot
slot Step = Fixed
slot Fresh = Fixed
slot No = Fixed
slot Zero = Fixed
slot (Value j) = OfOcc j 0
slot (Rest j i) = OfOcc j 1
slot (Next j) = OfOcc j 2
slot (Other j) = OfOcc j 3
slot (Guard j) = OfOcc j 4
slot (Present j) = OfOcc j 5
slot (Slope j) = OfOcc j 6
slot (Place p) = OfPlace p 0
slot (Between p) = OfPlace p 1
slot (Motion p) = OfPlace p 2
slot (Last p) = OfPlace p 3
slot (Remembered p) = OfPlace p 4
slot (Taken p i) = OfPlace p 5
slot (Passed p i) = OfPlace p 5
slot (Chosen p i) = OfPlace p 5
slot (Again i) = OfAgain

abbrev pub offset : Key → ℕ
offset Fresh = 1
offset No = 2
offset Zero = 3
offset (Rest j i) = i
offset (Taken p i) = i * 3
offset (Passed p i) = i * 3 + 1
offset (Chosen p i) = i * 3 + 2
offset (Again i) = i
offset key = 0

-- the number in an entry
abbrev pub entry : KeyTables → Slot → ℕ
entry t Fixed = 0
entry t (OfOcc j kind) = get_or t.occs (j * 7 + kind) 0
entry t (OfPlace p kind) = get_or t.places (p * 6 + kind) 0
entry t OfAgain = t.again

-- there is such an entry
abbrev pub IsSlot : Slot → Type 0
IsSlot Fixed = Unit {0}
IsSlot (OfOcc j kind) = kind < 7
IsSlot (OfPlace p kind) = kind < 6
IsSlot OfAgain = Unit {0}

-- this entry has this number, and all others are as before
pub record IsSet (old new : KeyTables) (to : Slot) (number : ℕ) : Type 0 where
  pub own : (to ≡ Fixed → ⊥) → entry new to ≡ number
  pub others : (other : Slot) → IsSlot other → (other ≡ to → ⊥) → entry new other ≡ entry old other

-- those of one entry stand as far from each other as they count
pub record AreInTurn {X : Type 0} (slot : X → Slot) (offset : X → ℕ) (xs : List X) : Type 0 where
  pub same : (m n : ℕ) (a b : X) → slice_get xs m ≡ Some a → slice_get xs n ≡ Some b → slot a ≡ slot b → m + offset b ≡ n + offset a
  pub after : (n : ℕ) (b : X) → slice_get xs n ≡ Some b → offset b ≤ n
  pub fixed : (n : ℕ) (b : X) → slice_get xs n ≡ Some b → slot b ≡ Fixed → offset b ≡ n

-- the entry of a memory, which is its own
abbrev pub kept_slot : Kept → Slot
kept_slot First = Fixed
kept_slot (Before p) = OfPlace p 0
kept_slot (Moving p) = OfPlace p 1
kept_slot (Derivative p) = OfPlace p 2
kept_slot (Pre j) = OfOcc j 0

abbrev pub no_offset : Kept → ℕ
no_offset kept = 0

-- this memory has this number, and the numbers of all others and of wires are as before
pub record IsKept (old new : KeyTables) (kept : Kept) (number : ℕ) : Type 0 where
  pub own : (kept ≡ First → ⊥) → memory_number new kept ≡ number
  pub others : (other : Kept) → (other ≡ kept → ⊥) → memory_number new other ≡ memory_number old other
  pub wires : (key : Key) → wire_number new key ≡ wire_number old key
