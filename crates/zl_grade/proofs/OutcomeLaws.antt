-- A form is allowed where nothing that is needed is exceeded, and is refused at the first occurrence that exceeds it.
use Rattle.std.proofs.Common.{◌≡◌, inl, inr, ℕ, ◌<◌, ◌≤◌, Bool, List, length, slice_get, Some, refl, sym, subst, arith}
use Rattle.std.proofs.lemmas.Option.{slice_get_within, slice_get_cases}
use Rattle.zl_value.specs.Lists.{Has}
use Rattle.zl_value.specs.declared.position.Pos.{Pos}
use Rattle.zl_meaning.specs.FlatForm.{FlatForm}
use Rattle.zl_meaning.specs.Uses.{parts}
use Rattle.zl_meaning.specs.WellFormed.{IsWellFormed}
use Rattle.zl_meaning.specs.Regular.{IsRegular}
use Rattle.zl_meaning.specs.Single.{IsSingle}
use Rattle.zl_meaning.specs.Grades.{Grading, AreGrades, IsNeeded, Condition, Operand, Derivative, Argument, IsOverGraded}
use Rattle.zl_meaning.specs.GradesLaw.{AreAllowed}
use Rattle.zl_meaning.specs.declared.occurrence.Occ.{Occ}
use Rattle.zl_meaning.proofs.GradesKept.GradeTable.{graded_part}
use Rattle.zl_meaning.proofs.GradesKept.Starts.{keeps-starts}
use Rattle.zl_meaning.proofs.GradesKept.UsesSay.{slope-stands, argument-stands}
use Rattle.zl_grade.specs.Marks.{AreMarks}
use Rattle.zl_grade.specs.Needs.{need, IsOver, IsFirstOver, needs_of}
use Rattle.zl_grade.specs.Refused.{IsFirstOverGraded, IsOverGradedAt}
use Rattle.zl_grade.specs.declared.needs.Need.{Need}
use Rattle.zl_grade.proofs.NeedLaws.{listed_needed, needed_listed}

-- of what something is needed is there
pub needed_there : (f : FlatForm) → IsWellFormed f → IsSingle f → IsRegular f → (k limit : ℕ) → IsNeeded f k limit → k < length f.occs
needed_there f formed single regular _ _ (Condition k whole x y occ gr is e) =
    let starts = keeps-starts f formed regular.copies single in
    let part = graded_part f formed regular starts k whole gr (record { occ = occ; is = is; part = subst (λ form. Has (parts form) k) (sym e) (record { index = 0; is = refl }) }) in
    slice_get_within f.occs k part.occ part.is
needed_there f formed single regular _ _ (Operand k whole op ks occ gr is e keeps has) =
    let starts = keeps-starts f formed regular.copies single in
    let part = graded_part f formed regular starts k whole gr (record { occ = occ; is = is; part = subst (λ form. Has (parts form) k) (sym e) has }) in
    slice_get_within f.occs k part.occ part.is
needed_there f formed single regular _ _ (Derivative k call used) = let s = slope-stands f k formed call used in slice_get_within f.occs k s.1.occ s.1.is
needed_there f formed single regular _ _ (Argument k used) = let s = argument-stands f k formed used in slice_get_within f.occs k s.1.occ s.1.is

module _ (f : FlatForm) (marks : List Bool) (m : AreMarks f marks) (g : Grading) (grades : AreGrades f g) where
  -- none exceeds what is needed of it
  pub allowed : ((one : Need) → Has (needs_of f marks) one → IsOver g one → ⊥) → AreAllowed f g
  allowed none = record { table = grades; fine = λ k over. none (need k over.0) (needed_listed f marks m k over.0 over.1) over.2 }

  -- the number is that of an occurrence
  pub over_there : IsWellFormed f → IsSingle f → IsRegular f → (k : ℕ) → IsFirstOver g (needs_of f marks) k → k < length f.occs
  over_there formed single regular k first =
      let low = needed_there f formed single regular first.one.occ first.one.limit (listed_needed f marks m first.one first.is) in
      let same = first.number in
      omega (arith, low, same)

  -- the first that exceeds it
  pub first_over_graded : (k : ℕ) → IsFirstOver g (needs_of f marks) k → IsFirstOverGraded f g k
  first_over_graded k first = record {
    holds = subst (IsOverGraded f g) first.number (first.one.limit, listed_needed f marks m first.one first.is, first.over);
    before = λ j less over.
        let high : k ≤ j = first.before (need j over.0) (needed_listed f marks m j over.0 over.1) over.2 in
        let none : ⊥ = omega (arith, less, high) in
        none;
  }

  -- with its position
  pub over_at : (k : ℕ) (occ : Occ) (at : Pos) → IsFirstOver g (needs_of f marks) k → slice_get f.occs k ≡ Some occ → occ.at ≡ at → IsOverGradedAt f at
  over_at k occ at first is stands = record {
    grading = g;
    table = grades;
    number = k;
    occ = occ;
    is = is;
    stands = stands;
    first = first_over_graded k first;
  }

  -- which is that of the occurrence
  pub over_found : (k : ℕ) (at : Pos) → k < length f.occs → IsFirstOver g (needs_of f marks) k → ((occ : Occ) → slice_get f.occs k ≡ Some occ → occ.at ≡ at) → IsOverGradedAt f at
  over_found k at low first stands =
      elim (slice_get_cases f.occs k).1 [ inl there ↦ over_at k there.0 at first there.2 (stands there.0 there.2) | inr past ↦ absurd (let high = past.0 in let none : ⊥ = omega (arith, low, high) in none) ]
