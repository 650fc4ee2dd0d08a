-- Which occurrences are graded, as marks.
use Rattle.std.specs.Prelude.{◌≡◌, ◌&&◌, ◌<◌, ℕ, Bool, true, false, not, List, length, slice_get, Some}
use Rattle.zl_meaning.specs.FlatForm.{FlatForm}
use Rattle.zl_meaning.specs.Grades.{IsGraded}
use Rattle.zl_meaning.specs.Regular.{is_hybrid_in, is_value}
use Rattle.zl_meaning.specs.declared.block.Block.{Block}
use Rattle.zl_meaning.specs.declared.occurrence.Occ.{Occ}

-- each occurrence is marked exactly where it is graded
pub record AreMarks (f : FlatForm) (marks : List Bool) : Type 0 where
  pub size : length marks ≡ length f.occs
  pub graded : (k : ℕ) → slice_get marks k ≡ Some true → IsGraded f k
  pub others : (k : ℕ) → slice_get marks k ≡ Some false → IsGraded f k → ⊥

-- the mark of an occurrence that stands under an `init` value or a reset value, or doesn't
abbrev pub mark_of : List Block → Occ → Bool → Bool
mark_of blocks occ is_apart = is_hybrid_in (slice_get blocks occ.block) && is_value occ.form && not is_apart

-- the marks of the first `n` occurrences, of which these stand under an `init` value or a reset value
pub record HasMarks (blocks : List Block) (occs : List Occ) (apart : List Bool) (n : ℕ) (marks : List Bool) : Type 0 where
  pub size : length marks ≡ n
  pub each : (k : ℕ) (occ : Occ) (is_apart : Bool) → k < n → slice_get occs k ≡ Some occ → slice_get apart k ≡ Some is_apart → slice_get marks k ≡ Some (mark_of blocks occ is_apart)
