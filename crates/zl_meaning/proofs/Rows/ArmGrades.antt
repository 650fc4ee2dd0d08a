-- The table of grades of the form with an arm's variable in an `up`.
use Rattle.std.specs.Option.{option_and_then}
use Rattle.std.specs.Prelude.{List, ◌≡◌, ℕ, zero, suc, true, false, [], ◌∷◌, slice_get, Option, Some, None}
use Rattle.std.proofs.Common.{refl, sym, ap, ◌∙◌, subst, arith}
use Rattle.zl_value.specs.Lists.{Has}
use Rattle.zl_meaning.specs.FlatForm.{HasDefiner, call_of}
use Rattle.zl_meaning.specs.Uses.{StartOf, ResetOf, IsUse, AsStart, AsReset, parts}
use Rattle.zl_meaning.specs.Branches.{IsPart, Under, Is, Part, Called}
use Rattle.zl_meaning.specs.Regular.{is_hybrid_block, is_value}
use Rattle.zl_meaning.specs.Blocks.{under}
use Rattle.zl_meaning.specs.Grades.{AreGrades, IsGraded, form_grade, grade_of, greatest_grade, place_grade}
use Rattle.zl_meaning.specs.declared.place.Definer.TheVariants.{Plain, Der, Start}
use Rattle.zl_meaning.specs.declared.place.DerArm.{DerArm}
use Rattle.zl_meaning.specs.declared.place.PlaceInfo.{PlaceInfo}
use Rattle.zl_meaning.specs.declared.occurrence.Occ.{Occ}
use Rattle.zl_meaning.specs.Worked.UpOfAnArm.{form, grading}
use Rattle.zl_meaning.proofs.Members.{has-none, has-cases}
use Rattle.zl_meaning.proofs.NodeRanks.{numbered}
use Rattle.zl_meaning.proofs.WrittenForms.{some-same, true-false}

no-call : (k call : ℕ) → call_of form k ≡ Some call → ⊥
no-call k call is =
    let none : call_of form k ≡ None = numbered (λ n o. option_and_then (λ (occ : Occ). occ.call) o ≡ None) form.occs (λ n. refl) (refl, (refl, (refl, (refl, (refl, (refl, tt)))))) k in cc

-- the initial value alone is one, and nothing is a part of it
start-use : (k b : ℕ) (call : Option ℕ) → IsUse form k (StartOf call b) → 1 ≡ k
start-use k b _ (AsStart zero _ call has at) =
    has-cases (1 ≡ k) (Start 0 1) (Plain 1 4 ∷ []) (Start b k) (subst (λ (x : PlaceInfo). Has x.definers (Start b k)) (sym (some-same has.1)) has.2) (λ e. cc)
    (λ h. has-cases (1 ≡ k) (Plain 1 4) [] (Start b k) h (λ e. absurd (cc)) (λ h. absurd (has-none (Start b k) h)))
start-use k b _ (AsStart (suc p) _ call has at) = let none = has.1 in absurd (cc)

no-part : (k whole : ℕ) → 1 ≡ whole → IsPart form k whole → ⊥
no-part k whole e part =
    let is : slice_get form.occs 1 ≡ Some part.occ = ap (λ n. slice_get form.occs n) e ∙ part.is in
    has-none k (subst (λ (o : Occ). Has (parts o.form) k) (sym (some-same is)) part.part)

start-under : (call : Option ℕ) (b k : ℕ) → Under form (StartOf call b) k → 1 ≡ k
start-under call b k (Is _ u) = start-use k b call u
start-under call b k (Part _ whole part under) = absurd (no-part k whole (start-under call b whole under) part)
start-under call b k (Called _ c is under) = absurd (no-call k c is)

no-reset : (k p b slope : ℕ) (arms : List DerArm) → HasDefiner form p (Der b slope arms) → ⊥
no-reset k zero b slope arms has =
    has-cases ⊥ (Start 0 1) (Plain 1 4 ∷ []) (Der b slope arms) (subst (λ (x : PlaceInfo). Has x.definers (Der b slope arms)) (sym (some-same has.1)) has.2) (λ e. cc)
    (λ h. has-cases ⊥ (Plain 1 4) [] (Der b slope arms) h (λ e. cc) (λ h. has-none (Der b slope arms) h))
no-reset k (suc p) b slope arms has = let none = has.1 in cc

reset-under : (call : Option ℕ) (events : List ℕ) (arm k : ℕ) → Under form (ResetOf call events arm) k → ⊥
reset-under _ _ _ k (Is _ (AsReset p b slope n arms arm call has there e at)) = no-reset k p b slope arms has
reset-under call events arm k (Part _ whole part under) = reset-under call events arm whole under
reset-under call events arm k (Called _ c is under) = reset-under call events arm c under

result-graded : IsGraded form 0
result-graded = record { occ = _; is = refl; hybrid = refl; value = refl; start = λ call b u. (let e = start-under call b 0 u in absurd (omega (arith, e))); reset = λ call events arm u. reset-under call events arm 0 u }

argument-graded : IsGraded form 3
argument-graded = record { occ = _; is = refl; hybrid = refl; value = refl; start = λ call b u. (let e = start-under call b 3 u in absurd (omega (arith, e))); reset = λ call events arm u. reset-under call events arm 3 u }

start-ungraded : IsGraded form 1 → ⊥
start-ungraded g = g.start None 0 (Is 1 (AsStart 0 0 None (_, refl, record { index = 0; is = refl }) refl))

no-value : (k : ℕ) (o : Occ) → slice_get form.occs k ≡ Some o → is_value o.form ≡ false → IsGraded form k → ⊥
no-value k o is none g = true-false (subst (λ (x : Occ). is_value x.form ≡ true) (some-same (sym g.is ∙ is)) g.value) none

arm-ungraded : IsGraded form 4 → ⊥
arm-ungraded g = true-false (subst (λ (x : Occ). is_hybrid_block form x.block ≡ true) (sym (some-same g.is)) g.hybrid) refl

graded-is : (k : ℕ) (occ : Occ) → slice_get form.occs k ≡ Some occ → IsGraded form k → grade_of grading k ≡ form_grade grading occ.form
graded-is zero occ is g = subst (λ (o : Occ). 0 ≡ form_grade grading o.form) (some-same is) refl
graded-is (suc zero) occ is g = absurd (start-ungraded g)
graded-is (suc (suc zero)) occ is g = absurd (no-value 2 _ refl refl g)
graded-is (suc (suc (suc zero))) occ is g = subst (λ (o : Occ). 0 ≡ form_grade grading o.form) (some-same is) refl
graded-is (suc (suc (suc (suc zero)))) occ is g = absurd (arm-ungraded g)
graded-is (suc (suc (suc (suc (suc zero))))) occ is g = absurd (no-value 5 _ refl refl g)
graded-is (suc (suc (suc (suc (suc (suc k)))))) occ is g = absurd (cc)

others-are : (k : ℕ) → (IsGraded form k → ⊥) → grade_of grading k ≡ 3
others-are zero n = absurd (n result-graded)
others-are (suc zero) n = refl
others-are (suc (suc zero)) n = refl
others-are (suc (suc (suc zero))) n = absurd (n argument-graded)
others-are (suc (suc (suc (suc zero)))) n = refl
others-are (suc (suc (suc (suc (suc zero))))) n = refl
others-are (suc (suc (suc (suc (suc (suc k)))))) n = refl

places-are : (p : ℕ) (place : PlaceInfo) → slice_get form.places p ≡ Some place → place_grade grading p ≡ greatest_grade grading place.definers
places-are zero place is = subst (λ (x : PlaceInfo). 0 ≡ greatest_grade grading x.definers) (some-same is) refl
places-are (suc p) place is = absurd (cc)

pub are-grades : AreGrades form grading
are-grades = record { occs_length = refl; places_length = refl; graded = graded-is; others = others-are; places = places-are }
