-- The equation of each node, an occurrence or a place: the grade that it has by the grades of others.
use Rattle.std.specs.Prelude.{ℕ, ◌<◌, nat_lt, Bool, true, false, if◌then◌else◌, List, [], ◌∷◌, ◌++◌, length, get_or, slice_get, slice_set, Option, Some, None}
use Rattle.zl_meaning.specs.FlatForm.{FlatForm}
use Rattle.zl_meaning.specs.Grades.{Grading, grade_of, place_grade, form_grade, greatest_grade}
use Rattle.zl_meaning.specs.declared.occurrence.Occ.{Occ as Occurrence}
use Rattle.zl_meaning.specs.declared.place.PlaceInfo.{PlaceInfo}
use Rattle.zl_grade.specs.declared.node.Node.{Node}
use Rattle.zl_grade.specs.declared.node.Node.TheVariants.{Occ, Place}

-- the grade of a node
abbrev pub grade_at : Grading → Node → ℕ
grade_at g (Occ k) = grade_of g k
grade_at g (Place p) = place_grade g p

-- there is such a node
abbrev pub IsInside : Grading → Node → Type 0
IsInside g (Occ k) = k < length g.occs
IsInside g (Place p) = p < length g.places

-- with this grade for the node
abbrev pub with_grade : Grading → Node → ℕ → Grading
with_grade g (Occ k) grade = record { occs = slice_set g.occs k grade; places = g.places }
with_grade g (Place p) grade = record { occs = g.occs; places = slice_set g.places p grade }

-- what its equation gives an occurrence, which is marked if it is graded, and a place
abbrev pub given_occ : Grading → Bool → Option Occurrence → ℕ
given_occ g false occ = 3
given_occ g true None = 0
given_occ g true (Some occ) = form_grade g occ.form

abbrev pub given_place : Grading → Option PlaceInfo → ℕ
given_place g None = 0
given_place g (Some place) = greatest_grade g place.definers

-- what its equation gives a node
abbrev pub given : FlatForm → List Bool → Grading → Node → ℕ
given f marks g (Occ k) = given_occ g (get_or marks k false) (slice_get f.occs k)
given f marks g (Place p) = given_place g (slice_get f.places p)

-- a node may have to rise where one that it reads rises to this grade, but for a place that has as great a grade
abbrev pub may_rise : Grading → Node → ℕ → Bool
may_rise g (Occ k) grade = true
may_rise g (Place p) grade = nat_lt (place_grade g p) grade

-- the list with this node, if it may have to rise
abbrev pub with_reader : Grading → ℕ → Node → List Node → List Node
with_reader g grade reader nodes = if may_rise g reader grade then nodes ++ reader ∷ [] else nodes
