-- The equation of a place gives no more than before, or than the grade to which one node rises.
use Rattle.std.proofs.Common.{◌≡◌, ◌⊎◌, inl, inr, ℕ, ◌≤◌, max, nat_le, if◌then◌else◌, Bool, true, false, List, [], ◌∷◌, slice_get, Option, Some, None, ap, arith}
use Rattle.zl_meaning.specs.FlatForm.{FlatForm}
use Rattle.zl_meaning.specs.Grades.{Grading, grade_of, if_graded, definer_grade, greatest_grade}
use Rattle.zl_meaning.specs.declared.place.Definer.{Definer}
use Rattle.zl_meaning.specs.declared.place.Definer.TheVariants.{Input, Plain, Der, Start}
use Rattle.zl_meaning.specs.declared.place.PlaceInfo.{PlaceInfo}
use Rattle.zl_grade.specs.Equations.{given_place, given}
use Rattle.zl_grade.specs.declared.node.Node.TheVariants.{Place}

-- what a definer adds is no more than its grade
graded_low : (n : ℕ) → if_graded n ≤ n
graded_low n = by_test (nat_le n 2)
  where
    by_test : (b : Bool) → (if b then n else 0) ≤ n
    by_test true = omega arith
    by_test false = omega arith

-- all grades of occurrences are as before, or this one
module _ (g h : Grading) (v : ℕ) (same : (k : ℕ) → (grade_of h k ≡ v) ⊎ (grade_of h k ≡ grade_of g k)) where
  definer_bound : (d : Definer) → definer_grade h d ≤ max (definer_grade g d) v
  definer_bound (Input n) = omega arith
  definer_bound (Der b slope resets) = omega arith
  definer_bound (Start b k) = omega arith
  definer_bound (Plain b k) = by_grade (same k)
    where
      by_grade : (grade_of h k ≡ v) ⊎ (grade_of h k ≡ grade_of g k) → if_graded (grade_of h k) ≤ max (if_graded (grade_of g k)) v
      by_grade (inl e) = let low = graded_low (grade_of h k) in omega (arith, low, e)
      by_grade (inr e) = let now : if_graded (grade_of h k) ≡ if_graded (grade_of g k) = ap if_graded e in omega (arith, now)

  greatest_bound : (ds : List Definer) → greatest_grade h ds ≤ max (greatest_grade g ds) v
  greatest_bound [] = omega arith
  greatest_bound (d ∷ ds) = let one = definer_bound d in let rest = greatest_bound ds in omega (arith, one, rest)

  pub place_bound : (f : FlatForm) (marks : List Bool) (p : ℕ) → given f marks h (Place p) ≤ max (given f marks g (Place p)) v
  place_bound f marks p = by_case (slice_get f.places p)
    where
      by_case : (o : Option PlaceInfo) → given_place h o ≤ max (given_place g o) v
      by_case None = omega arith
      by_case (Some place) = greatest_bound place.definers
