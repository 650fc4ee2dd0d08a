use Rattle.std.specs.Prelude.{◌∷◌, []}
use Rattle.std.proofs.Common.{refl, inr}
use Rattle.zl_value.specs.Instants.{Instant}
use Rattle.zl_value.specs.Runs.{StepAfter, ByLack}
use Rattle.zl_value.specs.declared.script.Ending.TheVariants.{Empty}
use Rattle.zl_kernel.specs.Wires.{Registers}
use Rattle.zl_kernel.specs.System.{system_of_kernel}
use Rattle.zl_kernel.specs.Worked.NoSlope.{kernel, script, NoSlopeRuns}
use Rattle.zl_kernel.proofs.Compute.{computing, step_on, flow_on}
use Rattle.zl_kernel.proofs.worked.no_slope.Goals as goal

abbrev i0 : Instant Registers
i0 = step_on kernel script [] 4

s0 : StepAfter (system_of_kernel kernel) script [] i0
unfolding computing
s0 = record { due = refl; kind = refl; time = refl; inputs = refl; fired = refl; solves = refl }

row : NoSlopeRuns
unfolding computing
row = record {
  history = i0 ∷ [];
  ending = Empty;
  run = record { instants = s0; ends = inr (ByLack (λ s. flow_on kernel i0 4) (record { due = refl; solves = λ s r l. refl }) refl refl) };
  trace = refl;
}

pub returns : goal.returns
returns c = row
