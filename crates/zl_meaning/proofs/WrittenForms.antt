-- Words on forms that are written out, and on the moments of their flows.
use Rattle.std.specs.Prelude.{◌≡◌, ℕ, pos, Bool, true, false, List, [], Option, Some, None}
use Rattle.std.proofs.Common.{refl, ⊎_elim}
use Rattle.zl_value.specs.Times.{nought, unit}
use Rattle.zl_value.specs.declared.value.Ty.TheVariants.{Float, Zero}
use Rattle.zl_value.proofs.FractionLaws.{IsReduced-whole}
use Rattle.zl_meaning.specs.KeepsGrades.{IsMoment, can_fail, is_operator, passed_by, IsStillType}
use Rattle.zl_meaning.specs.declared.occurrence.Occ.{Occ}

pub at-start : IsMoment nought
at-start = record { reduced = IsReduced-whole (pos 0); after = refl }

pub at-unit : IsMoment unit
at-unit = record { reduced = IsReduced-whole (pos 1); after = refl }

pub some-same : {X : Type 0} {x y : X} → Some x ≡ Some y → x ≡ y
some-same e = cc

pub true-false : {R : Type 0} {b : Bool} → b ≡ true → b ≡ false → R
true-false p q = absurd (cc)

-- of the occurrence that stands at a number: nothing, where none does
abbrev pub fails_in : Option Occ → Bool
fails_in None = false
fails_in (Some occ) = can_fail occ.form

abbrev pub operator_in : Option Occ → Bool
operator_in None = false
operator_in (Some occ) = is_operator occ.form

abbrev pub passed_in : Option Occ → List ℕ
passed_in None = []
passed_in (Some occ) = passed_by occ.form

pub still-float : {R : Type 0} → IsStillType Float → R
still-float t = ⊎_elim (λ e. absurd (cc)) (λ e. absurd (cc)) t

pub still-zero : {R : Type 0} → IsStillType Zero → R
still-zero t = ⊎_elim (λ e. absurd (cc)) (λ e. absurd (cc)) t
