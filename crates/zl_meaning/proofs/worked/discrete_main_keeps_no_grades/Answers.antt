use Rattle.std.specs.Prelude.{◌≡◌, ℕ, pos, List, [], ◌∷◌, true, false}
use Rattle.std.proofs.Common.{refl, sym, subst, lit<, arith}
use Rattle.zl_value.specs.Fraction.{whole}
use Rattle.zl_value.specs.Times.{nought}
use Rattle.zl_value.specs.Script.{IsScriptFor}
use Rattle.zl_value.specs.declared.script.Script.{Script}
use Rattle.zl_meaning.specs.History.{Instant}
use Rattle.zl_meaning.specs.Run.{IsPrefix}
use Rattle.zl_meaning.specs.Flow.{Flow}
use Rattle.zl_meaning.specs.Inputs.{input_types}
use Rattle.zl_meaning.specs.Grades.{IsGraded}
use Rattle.zl_meaning.specs.KeepsGrades.{FlowKeeps}
use Rattle.zl_meaning.specs.Regular.{is_hybrid_block}
use Rattle.zl_meaning.specs.declared.occurrence.Occ.{Occ}
use Rattle.zl_meaning.specs.Worked.DiscreteMain.{form}
use Rattle.zl_meaning.proofs.Compute.{computing, step_on}
use Rattle.zl_meaning.proofs.WrittenForms.{at-start, some-same, true-false}
use Rattle.zl_meaning.proofs.worked.discrete_main_keeps_no_grades.Goals as goal

abbrev script : Script
script = record { horizon = whole (pos 1); steps = 1; lines = [] }

fits : IsScriptFor (input_types form) script
unfolding computing
fits = record {
  horizon = record { number = record { reduced = record { above = lit< tt; lowest = refl }; fits = refl }; start = refl };
  some_step = omega arith;
  few_steps = omega arith;
  lines = tt;
  ascending = tt;
  given = λ input low. absurd (omega (arith, low));
}

abbrev first : Instant
first = step_on form script [] 6

begins : (grades : List ℕ) → IsPrefix form grades script (first ∷ [])
unfolding computing
begins grades = record { due = refl; kind = refl; time = refl; inputs = refl; fired = refl; solves = refl }

-- in the flow after the first step all stands still, and the sum is evaluated
stays : Flow form [] first (λ s. first.table)
unfolding computing
stays = record { table = λ s r after. refl }

-- no occurrence of it is graded
none-graded : IsGraded form 2 → ⊥
none-graded g = true-false (subst (λ (o : Occ). is_hybrid_block form o.block ≡ true) (sym (some-same g.is)) g.hybrid) refl

pub returns : goal.returns
unfolding computing
returns c = λ grading are keeps.
    (let flow : FlowKeeps form grading keeps.whole first false (λ s. first.table) = keeps.flows script [] first (λ s. first.table) fits (begins grading.occs) refl stays in
    let count = are.occs_length in
    true-false refl (flow.others 2 nought _ at-start (omega (arith, count)) (are.others 2 none-graded) refl refl))
