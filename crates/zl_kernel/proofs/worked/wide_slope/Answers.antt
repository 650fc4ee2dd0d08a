use Rattle.std.specs.Prelude.{◌∷◌, [], pos}
use Rattle.std.proofs.Common.{refl, inr}
use Rattle.zl_value.specs.Fraction.{whole}
use Rattle.zl_value.specs.Instants.{Instant}
use Rattle.zl_value.specs.Runs.{StepAfter, ByFault}
use Rattle.zl_value.specs.declared.script.Ending.TheVariants.{Fault as EndsInFault}
use Rattle.zl_value.specs.declared.arith.Arith.TheVariants.{Range}
use Rattle.zl_value.specs.declared.script.Mark.TheVariants.{Flow as FlowMark}
use Rattle.zl_kernel.specs.Worked.{at}
use Rattle.zl_kernel.specs.Wires.{Registers}
use Rattle.zl_kernel.specs.System.{system_of_kernel}
use Rattle.zl_kernel.specs.Worked.WideSlope.{kernel, script, WideSlopeRuns}
use Rattle.zl_kernel.proofs.Compute.{computing, step_on, flow_on}
use Rattle.zl_kernel.proofs.worked.wide_slope.Goals as goal

abbrev i0 : Instant Registers
i0 = step_on kernel script [] 4

s0 : StepAfter (system_of_kernel kernel) script [] i0
unfolding computing
s0 = record { due = refl; kind = refl; time = refl; inputs = refl; fired = refl; solves = refl }

row : WideSlopeRuns
unfolding computing
row = record {
  history = i0 ∷ [];
  ending = EndsInFault (record { kind = Range; at = at 1 40 }) (whole (pos 0)) FlowMark;
  run = record { instants = s0; ends = inr (ByFault (λ s. flow_on kernel i0 4) _ (record { due = refl; solves = λ s r l. refl }) refl) };
  trace = refl;
}

pub returns : goal.returns
returns c = row
