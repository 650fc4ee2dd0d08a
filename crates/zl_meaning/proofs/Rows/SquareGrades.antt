-- The table of grades of the form with a name of a square.
use Rattle.std.specs.Option.{option_and_then}
use Rattle.std.specs.Prelude.{List, ◌≡◌, ℕ, zero, suc, true, [], ◌∷◌, slice_get, Option, Some, None}
use Rattle.std.proofs.Common.{refl, sym, ap, ◌∙◌, subst, arith}
use Rattle.zl_value.specs.Fraction.{whole}
use Rattle.zl_value.specs.Lists.{Has}
use Rattle.zl_meaning.specs.FlatForm.{HasDefiner, call_of}
use Rattle.zl_meaning.specs.Uses.{StartOf, ResetOf, IsUse, AsStart, AsReset, parts}
use Rattle.zl_meaning.specs.Branches.{IsPart, Under, Is, Part, Called}
use Rattle.zl_meaning.specs.Regular.{is_hybrid_block, is_value}
use Rattle.zl_meaning.specs.Grades.{AreGrades, IsGraded, form_grade, grade_of, greatest_grade, place_grade}
use Rattle.zl_meaning.specs.declared.place.Definer.TheVariants.{Plain, Der, Start}
use Rattle.zl_meaning.specs.declared.place.DerArm.{DerArm}
use Rattle.zl_meaning.specs.declared.place.PlaceInfo.{PlaceInfo}
use Rattle.zl_meaning.specs.declared.occurrence.Occ.{Occ}
use Rattle.zl_meaning.specs.Worked.NameOfASquare.{form, grading}
use Rattle.zl_meaning.proofs.Members.{has-none, has-cases}
use Rattle.zl_meaning.proofs.NodeRanks.{numbered}
use Rattle.zl_meaning.proofs.WrittenForms.{some-same}

no-call : (k call : ℕ) → call_of form k ≡ Some call → ⊥
no-call k call is =
    let none : call_of form k ≡ None = numbered (λ n o. option_and_then (λ (occ : Occ). occ.call) o ≡ None) form.occs (λ n. refl) (refl, (refl, (refl, (refl, (refl, (refl, (refl, tt))))))) k in cc

-- the initial value alone is one, and nothing is a part of it
start-use : (k b : ℕ) (call : Option ℕ) → IsUse form k (StartOf call b) → 2 ≡ k
start-use k b _ (AsStart p _ call has at) = by_place p has
  where
    by_place : (p : ℕ) → HasDefiner form p (Start b k) → 2 ≡ k
    by_place zero has =
        has-cases (2 ≡ k) (Der 0 1 []) (Start 0 2 ∷ []) (Start b k) (subst (λ (x : PlaceInfo). Has x.definers (Start b k)) (sym (some-same has.1)) has.2) (λ e. absurd (cc))
        (λ h. has-cases (2 ≡ k) (Start 0 2) [] (Start b k) h (λ e. cc) (λ h. absurd (has-none (Start b k) h)))
    by_place (suc zero) has =
        has-cases (2 ≡ k) (Plain 0 4) [] (Start b k) (subst (λ (x : PlaceInfo). Has x.definers (Start b k)) (sym (some-same has.1)) has.2) (λ e. absurd (cc)) (λ h. absurd (has-none (Start b k) h))
    by_place (suc (suc zero)) has =
        has-cases (2 ≡ k) (Plain 0 6) [] (Start b k) (subst (λ (x : PlaceInfo). Has x.definers (Start b k)) (sym (some-same has.1)) has.2) (λ e. absurd (cc)) (λ h. absurd (has-none (Start b k) h))
    by_place (suc (suc (suc p))) has = let none = has.1 in absurd (cc)

no-part : (k whole : ℕ) → 2 ≡ whole → IsPart form k whole → ⊥
no-part k whole e part =
    let is : slice_get form.occs 2 ≡ Some part.occ = ap (λ n. slice_get form.occs n) e ∙ part.is in
    has-none k (subst (λ (o : Occ). Has (parts o.form) k) (sym (some-same is)) part.part)

start-under : (call : Option ℕ) (b k : ℕ) → Under form (StartOf call b) k → 2 ≡ k
start-under call b k (Is _ u) = start-use k b call u
start-under call b k (Part _ whole part under) = absurd (no-part k whole (start-under call b whole under) part)
start-under call b k (Called _ c is under) = absurd (no-call k c is)

-- no `der` has a reset arm
no-arm : (p b slope n : ℕ) (arms : List DerArm) (arm : DerArm) → HasDefiner form p (Der b slope arms) → slice_get arms n ≡ Some arm → ⊥
no-arm zero b slope n arms arm has there =
    has-cases ⊥ (Der 0 1 []) (Start 0 2 ∷ []) (Der b slope arms) (subst (λ (x : PlaceInfo). Has x.definers (Der b slope arms)) (sym (some-same has.1)) has.2)
    (λ e. has-none arm (subst (λ xs. Has xs arm) (let same : arms ≡ [] = cc in same) (record { index = n; is = there })))
    (λ h. has-cases ⊥ (Start 0 2) [] (Der b slope arms) h (λ e. cc) (λ h. has-none (Der b slope arms) h))
no-arm (suc zero) b slope n arms arm has there =
    has-cases ⊥ (Plain 0 4) [] (Der b slope arms) (subst (λ (x : PlaceInfo). Has x.definers (Der b slope arms)) (sym (some-same has.1)) has.2) (λ e. cc) (λ h. has-none (Der b slope arms) h)
no-arm (suc (suc zero)) b slope n arms arm has there =
    has-cases ⊥ (Plain 0 6) [] (Der b slope arms) (subst (λ (x : PlaceInfo). Has x.definers (Der b slope arms)) (sym (some-same has.1)) has.2) (λ e. cc) (λ h. has-none (Der b slope arms) h)
no-arm (suc (suc (suc p))) b slope n arms arm has there = let none = has.1 in cc

reset-under : (call : Option ℕ) (events : List ℕ) (arm k : ℕ) → Under form (ResetOf call events arm) k → ⊥
reset-under _ _ _ k (Is _ (AsReset p b slope n arms arm call has there e at)) = no-arm p b slope n arms arm has there
reset-under call events arm k (Part _ whole part under) = reset-under call events arm whole under
reset-under call events arm k (Called _ c is under) = reset-under call events arm c under

graded-at : (k : ℕ) (o : Occ) → slice_get form.occs k ≡ Some o → o.block ≡ 0 → is_value o.form ≡ true → (2 ≡ k → ⊥) → IsGraded form k
graded-at k o is at value other = record {
  occ = o;
  is = is;
  hybrid = ap (is_hybrid_block form) at;
  value = value;
  start = λ call b u. other (start-under call b k u);
  reset = λ call events arm u. reset-under call events arm k u;
}

start-ungraded : IsGraded form 2 → ⊥
start-ungraded g = g.start None 0 (Is 2 (AsStart 0 0 None (_, refl, record { index = 1; is = refl }) refl))

graded-is : (k : ℕ) (occ : Occ) → slice_get form.occs k ≡ Some occ → IsGraded form k → grade_of grading k ≡ form_grade grading occ.form
graded-is zero occ is g = subst (λ (o : Occ). 2 ≡ form_grade grading o.form) (some-same is) refl
graded-is (suc zero) occ is g = subst (λ (o : Occ). 0 ≡ form_grade grading o.form) (some-same is) refl
graded-is (suc (suc zero)) occ is g = absurd (start-ungraded g)
graded-is (suc (suc (suc zero))) occ is g = subst (λ (o : Occ). 1 ≡ form_grade grading o.form) (some-same is) refl
graded-is (suc (suc (suc (suc zero)))) occ is g = subst (λ (o : Occ). 2 ≡ form_grade grading o.form) (some-same is) refl
graded-is (suc (suc (suc (suc (suc zero))))) occ is g = subst (λ (o : Occ). 1 ≡ form_grade grading o.form) (some-same is) refl
graded-is (suc (suc (suc (suc (suc (suc zero)))))) occ is g = subst (λ (o : Occ). 2 ≡ form_grade grading o.form) (some-same is) refl
graded-is (suc (suc (suc (suc (suc (suc (suc k))))))) occ is g = absurd (cc)

others-are : (k : ℕ) → (IsGraded form k → ⊥) → grade_of grading k ≡ 3
others-are zero n = absurd (n (graded-at 0 _ refl refl refl (λ e. omega (arith, e))))
others-are (suc zero) n = absurd (n (graded-at 1 _ refl refl refl (λ e. omega (arith, e))))
others-are (suc (suc zero)) n = refl
others-are (suc (suc (suc zero))) n = absurd (n (graded-at 3 _ refl refl refl (λ e. omega (arith, e))))
others-are (suc (suc (suc (suc zero)))) n = absurd (n (graded-at 4 _ refl refl refl (λ e. omega (arith, e))))
others-are (suc (suc (suc (suc (suc zero))))) n = absurd (n (graded-at 5 _ refl refl refl (λ e. omega (arith, e))))
others-are (suc (suc (suc (suc (suc (suc zero)))))) n = absurd (n (graded-at 6 _ refl refl refl (λ e. omega (arith, e))))
others-are (suc (suc (suc (suc (suc (suc (suc k))))))) n = refl

places-are : (p : ℕ) (place : PlaceInfo) → slice_get form.places p ≡ Some place → place_grade grading p ≡ greatest_grade grading place.definers
places-are zero place is = subst (λ (x : PlaceInfo). 1 ≡ greatest_grade grading x.definers) (some-same is) refl
places-are (suc zero) place is = subst (λ (x : PlaceInfo). 2 ≡ greatest_grade grading x.definers) (some-same is) refl
places-are (suc (suc zero)) place is = subst (λ (x : PlaceInfo). 2 ≡ greatest_grade grading x.definers) (some-same is) refl
places-are (suc (suc (suc p))) place is = absurd (cc)

pub are-grades : AreGrades form grading
are-grades = record { occs_length = refl; places_length = refl; graded = graded-is; others = others-are; places = places-are }
