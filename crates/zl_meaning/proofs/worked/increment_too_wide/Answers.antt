use Rattle.std.specs.Prelude.{◌∷◌, [], pos}
use Rattle.std.proofs.Common.{lit<, refl, inr}
use Rattle.zl_value.specs.Fraction.{whole}
use Rattle.zl_value.specs.declared.arith.Arith.TheVariants.{Range}
use Rattle.zl_value.specs.declared.script.Mark.TheVariants.{Flow}
use Rattle.zl_value.specs.declared.script.Ending.TheVariants.{Fault}
use Rattle.zl_meaning.specs.History.{Instant}
use Rattle.zl_meaning.specs.System.{system_of}
use Rattle.zl_value.specs.Runs.{StepAfter, MoveAfter, EndsInFlow, ByMove}
use Rattle.zl_meaning.specs.Worked.{at}
use Rattle.zl_meaning.proofs.Compute.{computing, step_on, flow_on}
use Rattle.zl_meaning.specs.Worked.IncrementTooWide.{form, grades, script, IncrementTooWideRuns}
use Rattle.zl_meaning.proofs.worked.increment_too_wide.Goals as goal

abbrev i0 : Instant
i0 = step_on form script [] 4

s0 : StepAfter (system_of form grades) script [] i0
unfolding computing
s0 = record { due = refl; kind = refl; time = refl; inputs = refl; fired = refl; solves = refl }

move : MoveAfter (system_of form grades) script [] i0 (flow_on form [] i0 8) (whole (pos 9223372036854775807))
unfolding computing
move = record {
  flow = record { due = refl; solves = λ s r l. refl };
  right = refl;
  whole = refl;
  lasts = record { reduced = record { above = lit< tt; lowest = refl }; positive = refl; reached = refl; clear = refl; first = λ s r l u. refl };
}

ending : EndsInFlow (system_of form grades) script [] i0 (Fault (record { kind = Range; at = at 1 37 }) (whole (pos 0)) Flow)
unfolding computing
ending = ByMove (flow_on form [] i0 8) (whole (pos 9223372036854775807)) (record { kind = Range; at = at 1 37 }) move refl

pub row : IncrementTooWideRuns
unfolding computing
row = record {
  history = i0 ∷ [];
  ending = Fault (record { kind = Range; at = at 1 37 }) (whole (pos 0)) Flow;
  run = record { instants = s0; ends = inr ending };
  trace = refl;
}

pub returns : goal.returns
returns c = row
