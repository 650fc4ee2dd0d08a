use Rattle.std.specs.Prelude.{◌∷◌, [], pos}
use Rattle.std.proofs.Common.{refl, inr}
use Rattle.zl_value.specs.Fraction.{whole}
use Rattle.zl_value.specs.declared.arith.Arith.TheVariants.{Range}
use Rattle.zl_value.specs.declared.script.Mark.TheVariants.{Flow}
use Rattle.zl_value.specs.declared.script.Ending.TheVariants.{Fault}
use Rattle.zl_meaning.specs.History.{Instant}
use Rattle.zl_meaning.specs.System.{system_of}
use Rattle.zl_value.specs.Runs.{StepAfter, EndsInFlow, ByFault}
use Rattle.zl_meaning.specs.Worked.{at}
use Rattle.zl_meaning.proofs.Compute.{computing, step_on, flow_on}
use Rattle.zl_meaning.specs.Worked.SlopeTooWide.{form, grades, script, SlopeTooWideRuns}
use Rattle.zl_meaning.proofs.worked.slope_too_wide.Goals as goal

abbrev i0 : Instant
i0 = step_on form script [] 9

s0 : StepAfter (system_of form grades) script [] i0
unfolding computing
s0 = record { due = refl; kind = refl; time = refl; inputs = refl; fired = refl; solves = refl }

ending : EndsInFlow (system_of form grades) script [] i0 (Fault (record { kind = Range; at = at 1 69 }) (whole (pos 0)) Flow)
unfolding computing
ending = ByFault (flow_on form [] i0 8) (record { kind = Range; at = at 1 69 }) (record { due = refl; solves = λ s r l. refl }) refl

pub row : SlopeTooWideRuns
unfolding computing
row = record {
  history = i0 ∷ [];
  ending = Fault (record { kind = Range; at = at 1 69 }) (whole (pos 0)) Flow;
  run = record { instants = s0; ends = inr ending };
  trace = refl;
}

pub returns : goal.returns
returns c = row
