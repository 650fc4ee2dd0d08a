use Rattle.std.specs.Prelude.{◌∷◌, [], pos}
use Rattle.std.proofs.Common.{lit<, refl, inl, inr}
use Rattle.zl_value.specs.Fraction.{whole}
use Rattle.zl_value.specs.declared.script.Ending.TheVariants.{Horizon}
use Rattle.zl_meaning.specs.History.{Instant}
use Rattle.zl_meaning.specs.System.{system_of}
use Rattle.zl_value.specs.Runs.{StepAfter, LeftAfter}
use Rattle.zl_meaning.proofs.Compute.{computing, step_on, left_on, flow_on}
use Rattle.zl_meaning.specs.Worked.UntakenBranchFault.{form, grades, script, UntakenBranchFaultRuns}
use Rattle.zl_meaning.proofs.worked.untaken_branch_fault.Goals as goal

abbrev i0 : Instant
i0 = step_on form script [] 10

abbrev i1 : Instant
i1 = left_on form (i0 ∷ []) (whole (pos 1)) 10

s0 : StepAfter (system_of form grades) script [] i0
unfolding computing
s0 = record { due = refl; kind = refl; time = refl; inputs = refl; fired = refl; solves = refl }

s1 : LeftAfter (system_of form grades) script [] i0 i1
unfolding computing
s1 = record {
  flow = flow_on form [] i0 10;
  duration = whole (pos 1);
  move = record {
    flow = record { due = refl; solves = λ s r l. refl };
    right = refl;
    whole = refl;
    lasts = record { reduced = record { above = lit< tt; lowest = refl }; positive = refl; reached = refl; clear = refl; first = λ s r l u. refl };
  };
  fits = refl;
  kind = refl;
  time = refl;
  inputs = refl;
  fired = refl;
  solves = refl;
}

pub row : UntakenBranchFaultRuns
unfolding computing
row = record {
  history = i1 ∷ i0 ∷ [];
  ending = Horizon;
  run = record { instants = (s0, inr s1); ends = inl refl };
  trace = refl;
}

pub returns : goal.returns
returns c = row
