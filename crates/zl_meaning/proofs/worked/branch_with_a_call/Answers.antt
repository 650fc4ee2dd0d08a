use Rattle.std.specs.Prelude.{◌∷◌, [], pos}
use Rattle.std.proofs.Common.{lit<, refl, inl, inr}
use Rattle.zl_value.specs.Fraction.{whole}
use Rattle.zl_value.specs.declared.script.Ending.TheVariants.{Horizon}
use Rattle.zl_meaning.specs.History.{Instant}
use Rattle.zl_meaning.specs.System.{system_of}
use Rattle.zl_value.specs.Runs.{StepAfter, LeftAfter}
use Rattle.zl_meaning.proofs.Compute.{computing, step_on, left_on, flow_on}
use Rattle.zl_meaning.specs.Worked.BranchWithACall.{form, grades, script, BranchWithACallRuns}
use Rattle.zl_meaning.proofs.worked.branch_with_a_call.Goals as goal

abbrev i0 : Instant
i0 = step_on form script [] 14

abbrev i1 : Instant
i1 = left_on form (i0 ∷ []) (whole (pos 1)) 14

abbrev i2 : Instant
i2 = step_on form script (i1 ∷ i0 ∷ []) 14

s0 : StepAfter (system_of form grades) script [] i0
unfolding computing
s0 = record { due = refl; kind = refl; time = refl; inputs = refl; fired = refl; solves = refl }

s1 : LeftAfter (system_of form grades) script [] i0 i1
unfolding computing
s1 = record {
  flow = flow_on form [] i0 8;
  duration = whole (pos 1);
  move = record {
    flow = record { due = refl; solves = λ s r l. refl };
    right = refl;
    whole = refl;
    lasts = record { reduced = record { above = lit< tt; lowest = refl }; positive = refl; reached = refl; clear = refl; first = λ s r l u. refl };
  };
  fits = refl;
  kind = refl;
  time = refl;
  inputs = refl;
  fired = refl;
  solves = refl;
}

s2 : StepAfter (system_of form grades) script (i1 ∷ i0 ∷ []) i2
unfolding computing
s2 = record { due = refl; kind = refl; time = refl; inputs = refl; fired = refl; solves = refl }

pub row : BranchWithACallRuns
unfolding computing
row = record {
  history = i2 ∷ i1 ∷ i0 ∷ [];
  ending = Horizon;
  run = record { instants = ((s0, inr s1), inl s2); ends = inl refl };
  trace = refl;
}

pub returns : goal.returns
returns c = row
