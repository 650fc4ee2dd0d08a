-- How the table of grades is made: all grades begin at the least, and each rises to the one that its equation gives.
use Rattle.std.specs.Prelude.{◌≡◌, ℕ, ◌<◌, ◌≤◌, Bool, true, false, List, length, get_or, slice_get, Option, Some, None}
use Rattle.zl_value.specs.Lists.{Has}
use Rattle.zl_meaning.specs.FlatForm.{FlatForm}
use Rattle.zl_meaning.specs.Uses.{parts}
use Rattle.zl_meaning.specs.declared.occurrence.Occ.{Occ}
use Rattle.zl_meaning.specs.Grades.{Grading, grade_of, place_grade}
use Rattle.zl_grade.specs.Equations.{grade_at, given}
use Rattle.zl_grade.specs.declared.node.Node.{Node}
use Rattle.zl_grade.specs.declared.node.Node.TheVariants.{Occ as OfOcc, Place as OfPlace}
use Rattle.zl_grade.specs.declared.table.Rise.{Rise}

-- the first grade of an occurrence that is marked, and of one that isn't
abbrev pub first_grade : Bool → ℕ
first_grade true = 0
first_grade false = 3

-- no node but those on the list has to rise
abbrev pub AreSettled : FlatForm → List Bool → Grading → List Node → Type 0
AreSettled f marks g waiting = (node : Node) → (Has waiting node → ⊥) → given f marks g node ≤ grade_at g node

-- occurrences that are marked, and places, have grades up to 2, and any other occurrence has 3
pub record AreInRange (marks : List Bool) (g : Grading) : Type 0 where
  pub graded : (k : ℕ) → get_or marks k false ≡ true → grade_of g k ≤ 2
  pub others : (k : ℕ) → get_or marks k false ≡ false → grade_of g k ≡ 3
  pub places : (p : ℕ) → place_grade g p ≤ 2

-- the grades have the form's lengths, and none is greater than the one that its equation gives
pub record IsBelow (f : FlatForm) (marks : List Bool) (g : Grading) : Type 0 where
  pub occs_length : length g.occs ≡ length f.occs
  pub places_length : length g.places ≡ length f.places
  pub range : AreInRange marks g
  pub below : (node : Node) → grade_at g node ≤ given f marks g node

-- the occurrences that a marked one reads are marked
abbrev pub AreClosed : FlatForm → List Bool → Type 0
AreClosed f marks = (k j : ℕ) (occ : Occ) → get_or marks k false ≡ true → slice_get f.occs k ≡ Some occ → Has (parts occ.form) j → get_or marks j false ≡ true

-- the list keeps its nodes and has those of so many numbers
pub record HasNumbers (make : ℕ → Node) (count : ℕ) (old new : List Node) : Type 0 where
  pub kept : (node : Node) → Has old node → Has new node
  pub all : (n : ℕ) → n < count → Has new (make n)

-- the list has all nodes of so many occurrences and places
pub record HasAll (occs places : ℕ) (waiting : List Node) : Type 0 where
  pub of_occs : (k : ℕ) → k < occs → Has waiting (OfOcc k)
  pub of_places : (p : ℕ) → p < places → Has waiting (OfPlace p)

-- the next node that rises to the grade of its equation, and no other has to but those on the list; or none has to
abbrev pub IsNext : FlatForm → List Bool → Grading → List Node → Option Rise → Type 0
IsNext f marks g waiting None = (node : Node) → given f marks g node ≤ grade_at g node
IsNext f marks g waiting (Some rise) =
    (rise.grade ≡ given f marks g rise.node) × (grade_at g rise.node < rise.grade)
    × ((node : Node) → (node ≡ rise.node → ⊥) → (Has waiting node → ⊥) → given f marks g node ≤ grade_at g node)
