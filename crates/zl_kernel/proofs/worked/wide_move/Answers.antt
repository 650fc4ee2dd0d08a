use Rattle.std.specs.Prelude.{◌∷◌, [], pos}
use Rattle.std.proofs.Common.{lit<, refl, inr}
use Rattle.zl_value.specs.Fraction.{whole}
use Rattle.zl_value.specs.Instants.{Instant}
use Rattle.zl_value.specs.Runs.{StepAfter, ByMove}
use Rattle.zl_value.specs.declared.arith.Arith.TheVariants.{Range}
use Rattle.zl_value.specs.declared.script.Mark.TheVariants.{Flow as FlowMark}
use Rattle.zl_value.specs.declared.script.Ending.TheVariants.{Fault as EndsInFault}
use Rattle.zl_kernel.specs.Wires.{Registers}
use Rattle.zl_kernel.specs.System.{system_of_kernel}
use Rattle.zl_kernel.specs.Worked.{at}
use Rattle.zl_kernel.specs.Worked.WideMove.{kernel, script, WideMoveRuns}
use Rattle.zl_kernel.proofs.Compute.{computing, step_on, flow_on}
use Rattle.zl_kernel.proofs.worked.wide_move.Goals as goal

abbrev i0 : Instant Registers
i0 = step_on kernel script [] 4

s0 : StepAfter (system_of_kernel kernel) script [] i0
unfolding computing
s0 = record { due = refl; kind = refl; time = refl; inputs = refl; fired = refl; solves = refl }

row : WideMoveRuns
unfolding computing
row = record {
  history = i0 ∷ [];
  ending = EndsInFault (record { kind = Range; at = at 1 20 }) (whole (pos 0)) FlowMark;
  run = record {
    instants = s0;
    ends = inr (ByMove (λ s. flow_on kernel i0 4) (whole (pos 1)) _ (record {
      flow = record { due = refl; solves = λ s r l. refl };
      right = refl;
      whole = refl;
      lasts = record { reduced = record { above = lit< tt; lowest = refl }; positive = refl; reached = refl; clear = refl; first = λ s r l u. refl };
    }) refl);
  };
  trace = refl;
}

pub returns : goal.returns
returns c = row
