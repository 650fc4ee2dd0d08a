use Rattle.std.specs.Prelude.{◌∷◌, [], pos}
use Rattle.std.proofs.Common.{lit<, refl, inl, inr}
use Rattle.zl_value.specs.Fraction.{whole}
use Rattle.zl_value.specs.Instants.{Instant}
use Rattle.zl_value.specs.Runs.{StepAfter, LeftAfter}
use Rattle.zl_value.specs.declared.script.Ending.TheVariants.{Empty}
use Rattle.zl_kernel.specs.Wires.{Registers}
use Rattle.zl_kernel.specs.System.{system_of_kernel}
use Rattle.zl_kernel.specs.Worked.Forgotten.{kernel, script, ForgottenRuns}
use Rattle.zl_kernel.proofs.Compute.{computing, step_on, flow_on, left_on}
use Rattle.zl_kernel.proofs.worked.forgotten.Goals as goal

abbrev i0 : Instant Registers
i0 = step_on kernel script [] 4

abbrev i1 : Instant Registers
i1 = left_on kernel (i0 ∷ []) (flow_on kernel i0 4) (whole (pos 1)) 4

abbrev i2 : Instant Registers
i2 = step_on kernel script (i1 ∷ i0 ∷ []) 4

s0 : StepAfter (system_of_kernel kernel) script [] i0
unfolding computing
s0 = record { due = refl; kind = refl; time = refl; inputs = refl; fired = refl; solves = refl }

s1 : LeftAfter (system_of_kernel kernel) script [] i0 i1
unfolding computing
s1 = record {
  flow = λ s. flow_on kernel i0 4;
  duration = whole (pos 1);
  move = record {
    flow = record { due = refl; solves = λ s r l. refl };
    right = refl;
    whole = refl;
    lasts = record { reduced = record { above = lit< tt; lowest = refl }; positive = refl; reached = refl; clear = refl; first = λ s r l u. refl };
  };
  fits = refl;
  kind = refl;
  time = refl;
  inputs = refl;
  fired = refl;
  solves = refl;
}

s2 : StepAfter (system_of_kernel kernel) script (i1 ∷ i0 ∷ []) i2
unfolding computing
s2 = record { due = refl; kind = refl; time = refl; inputs = refl; fired = refl; solves = refl }

row : ForgottenRuns
unfolding computing
row = record {
  history = i2 ∷ i1 ∷ i0 ∷ [];
  ending = Empty;
  run = record { instants = ((s0, inr s1), inl s2); ends = inl refl };
  trace = refl;
}

pub returns : goal.returns
returns c = row
