use Rattle.std.specs.Prelude.{◌∷◌, [], pos}
use Rattle.std.proofs.Common.{refl, inl}
use Rattle.zl_value.specs.Fraction.{whole}
use Rattle.zl_value.specs.declared.arith.Arith.TheVariants.{Range}
use Rattle.zl_value.specs.declared.script.Mark.TheVariants.{Step}
use Rattle.zl_value.specs.declared.script.Ending.TheVariants.{Fault}
use Rattle.zl_meaning.specs.History.{Instant}
use Rattle.zl_meaning.specs.System.{system_of}
use Rattle.zl_value.specs.Runs.{StepAfter}
use Rattle.zl_meaning.specs.Worked.{at}
use Rattle.zl_meaning.proofs.Compute.{computing, step_on}
use Rattle.zl_meaning.specs.Worked.TwoFaults.{form, grades, script, TwoFaultsRuns}
use Rattle.zl_meaning.proofs.worked.two_faults.Goals as goal

abbrev i0 : Instant
i0 = step_on form script [] 6

s0 : StepAfter (system_of form grades) script [] i0
unfolding computing
s0 = record { due = refl; kind = refl; time = refl; inputs = refl; fired = refl; solves = refl }

pub row : TwoFaultsRuns
unfolding computing
row = record {
  history = i0 ∷ [];
  ending = Fault (record { kind = Range; at = at 2 9 }) (whole (pos 0)) (Step 0);
  run = record { instants = s0; ends = inl refl };
  trace = refl;
}

pub returns : goal.returns
returns c = row
