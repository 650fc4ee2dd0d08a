-- What is evaluated where a flow begins had at the instant the operands that it has then, and no fault.
use Rattle.std.specs.Prelude.{◌≡◌, ℕ, List, [], ◌∷◌, Option, Some, None}
use Rattle.std.specs.Option.{option_map, option_and_then}
use Rattle.std.proofs.Common.{refl, sym, ap, ap₂, ◌∙◌}
use Rattle.zl_value.specs.Lists.{Has}
use Rattle.zl_value.specs.Times.{nought}
use Rattle.zl_value.specs.Instants.{Kind, Step, Left}
use Rattle.zl_value.specs.declared.value.Value.{Value}
use Rattle.zl_value.specs.declared.op.Op.{Op}
use Rattle.zl_meaning.specs.FlatForm.{FlatForm}
use Rattle.zl_meaning.specs.State.{State, AtValue, state_in}
use Rattle.zl_meaning.specs.History.{state_of}
use Rattle.zl_meaning.specs.Moment.{AtStep}
use Rattle.zl_meaning.specs.Occurrences.{gathered, applied, answer}
use Rattle.zl_meaning.specs.Solves.{fault_of, mode_of, moment_of}
use Rattle.zl_meaning.specs.Decided.{HasTests, HasDerivatives}
use Rattle.zl_meaning.specs.Grades.{Grading}
use Rattle.zl_meaning.specs.GradesLaw.{IsGradable, AreAllowed}
use Rattle.zl_meaning.specs.Regular.{is_value}
use Rattle.zl_meaning.proofs.Members.{has-later}
use Rattle.zl_meaning.proofs.GradesKept.AtStart.{no_fault}
use Rattle.zl_meaning.proofs.GradesKept.StartValues.{failing_used, failing_operands}
use Rattle.zl_normal.specs.Starts.{StartsRight}
use Rattle.zl_premises.proofs.Grounded.{begins}

-- equal values are gathered alike
pub gathered_same : (s t : State) (ks : List ℕ) → ((j : ℕ) → Has ks j → s (AtValue j) ≡ t (AtValue j)) → gathered s ks ≡ gathered t ks
gathered_same s t [] same = refl
gathered_same s t (k ∷ ks) same =
    ap₂ (λ (x : Option Value) (y : Option (List Value)). option_and_then (λ v. option_map (λ vs. v ∷ vs) y) x) (same k (record { index = 0; is = refl })) (gathered_same s t ks (λ j h. same j (has-later k ks j h)))

-- the width is asked of at a left end as it is at a step
pub asked_alike : (kind : Kind) (op : Op) (o : Option (List Value)) → applied (mode_of kind) op o ≡ applied AtStep op o
asked_alike kind op None = refl
asked_alike Step op (Some values) = refl
asked_alike Left op (Some values) = refl

pub grades_start_right : (f : FlatForm) (g : Grading) → IsGradable f → AreAllowed f g → HasTests f g.occs → HasDerivatives f g.occs → StartsRight f g.occs
grades_start_right f g form grades tests slopes script h i at suits prefix fine demanded flow k occ op ks is e used =
    let start = begins f g form grades tests slopes script h i at suits prefix fine flow in
    let was = failing_used f g h i at start k occ is (ap (λ x. is_value x) e) used in
    let same = gathered_same (state_in (at nought)) (state_of i) ks (λ j has. failing_operands f g h i at start k j op ks occ is e used has) in
    ap (λ o. fault_of occ.at (applied AtStep op o)) same
    ∙ ap (λ x. fault_of occ.at x) (sym (asked_alike i.kind op (gathered (state_of i) ks)))
    ∙ ap (λ x. fault_of occ.at (answer f (moment_of f h nought i) (state_of i) occ.block x)) (sym e)
    ∙ no_fault f g h i at start k occ is was
