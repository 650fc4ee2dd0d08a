-- What marks say: an occurrence is marked where it is graded, so what a marked one reads is marked.
use Rattle.std.proofs.Common.{◌≡◌, ℕ, zero, suc, ◌<◌, Bool, true, false, List, [], ◌∷◌, length, get_or, slice_get, Some, refl, ap, ◌∙◌, arith}
use Rattle.std.proofs.lemmas.Option.{slice_get_within, slice_get-get_or}
use Rattle.zl_meaning.specs.FlatForm.{FlatForm}
use Rattle.zl_meaning.specs.WellFormed.{IsWellFormed}
use Rattle.zl_meaning.specs.Regular.{IsRegular}
use Rattle.zl_meaning.specs.Single.{IsSingle}
use Rattle.zl_meaning.specs.Grades.{IsGraded}
use Rattle.zl_meaning.proofs.GradesKept.GradeTable.{graded_part}
use Rattle.zl_meaning.proofs.GradesKept.Starts.{keeps-starts}
use Rattle.zl_grade.specs.Marks.{AreMarks}
use Rattle.zl_grade.specs.Table.{AreClosed}

-- a mark that is found is there
pub mark_at : (marks : List Bool) (k : ℕ) → get_or marks k false ≡ true → slice_get marks k ≡ Some true
mark_at [] k e = absurd (cc)
mark_at (m ∷ ms) zero e = ap (λ b. Some b) e
mark_at (m ∷ ms) (suc k) e = mark_at ms k e

module _ (f : FlatForm) (marks : List Bool) (m : AreMarks f marks) where
  pub marked : (k : ℕ) → get_or marks k false ≡ true → IsGraded f k
  marked k e = m.graded k (mark_at marks k e)

  -- what is graded is marked
  pub graded_marked : (k : ℕ) → IsGraded f k → get_or marks k false ≡ true
  graded_marked k gr = by_mark (get_or marks k false) refl
    where
      low : k < length marks
      low = let within = slice_get_within f.occs k gr.occ gr.is in let size = m.size in omega (arith, within, size)

      by_mark : (b : Bool) → get_or marks k false ≡ b → get_or marks k false ≡ true
      by_mark true e = e
      by_mark false e = absurd (m.others k (slice_get-get_or marks k false low ∙ ap (λ b. Some b) e) gr)

  -- what isn't marked isn't graded
  pub unmarked : (k : ℕ) → (IsGraded f k → ⊥) → get_or marks k false ≡ false
  unmarked k not = by_mark (get_or marks k false) refl
    where
      by_mark : (b : Bool) → get_or marks k false ≡ b → get_or marks k false ≡ false
      by_mark true e = absurd (not (marked k e))
      by_mark false e = e

  pub marks_closed : IsWellFormed f → IsSingle f → IsRegular f → AreClosed f marks
  marks_closed formed single regular k j occ e is has =
      let starts = keeps-starts f formed regular.copies single in
      graded_marked j (graded_part f formed regular starts j k (marked k e) (record { occ = occ; is = is; part = has }))
