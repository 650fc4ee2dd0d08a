use Rattle.std.specs.Prelude.{◌∷◌, [], pos}
use Rattle.std.proofs.Common.{lit<, refl, inl, inr, arith}
use Rattle.std.proofs.lemmas.Int.{ints}
use Rattle.zl_value.specs.Fraction.{whole, over}
use Rattle.zl_value.specs.declared.arith.Arith.TheVariants.{Division}
use Rattle.zl_value.specs.declared.script.Mark.TheVariants.{Step}
use Rattle.zl_value.specs.declared.script.Ending.TheVariants.{Fault}
use Rattle.zl_meaning.specs.History.{Instant}
use Rattle.zl_meaning.specs.System.{system_of}
use Rattle.zl_value.specs.Runs.{StepAfter, LeftAfter}
use Rattle.zl_meaning.specs.Worked.{at}
use Rattle.zl_value.proofs.Ratios.{is_self, is_add, is_sub, is_mul}
use Rattle.zl_meaning.proofs.Lines.{crossed, negative_is, both, not_false, self}
use Rattle.zl_meaning.proofs.Compute.{computing, step_on, left_on, flow_on}
use Rattle.zl_meaning.specs.Worked.BlankArmHoldsNothing.{form, grades, script, BlankArmHoldsNothingRuns}
use Rattle.zl_meaning.proofs.worked.blank_arm_holds_nothing.Goals as goal

abbrev i0 : Instant
i0 = step_on form script [] 14

abbrev i1 : Instant
i1 = left_on form (i0 ∷ []) (over (pos 1) 2) 14

abbrev i2 : Instant
i2 = step_on form script (i1 ∷ i0 ∷ []) 14

s0 : StepAfter (system_of form grades) script [] i0
unfolding computing
s0 = record { due = refl; kind = refl; time = refl; inputs = refl; fired = refl; solves = refl }

s1 : LeftAfter (system_of form grades) script [] i0 i1
unfolding computing
s1 = record {
  flow = flow_on form [] i0 14;
  duration = over (pos 1) 2;
  move = record {
    flow = record { due = refl; solves = λ s r l. refl };
    right = refl;
    whole = refl;
    lasts = record { reduced = record { above = lit< tt; lowest = refl }; positive = refl; reached = refl; clear = refl; first = λ s r l u. both (negative_is (is_sub (is_add (self (whole (pos 0)) (lit< tt)) (is_mul (is_self s r.above) (self (whole (pos 1)) (lit< tt)))) (self (whole (pos 1)) (lit< tt))) (not_false _ (λ w. omega (arith, ints, w, l, crossed s (over (pos 1) 2) u, r.above)))) (both (negative_is (is_sub (is_add (self (whole (pos 0)) (lit< tt)) (is_mul (is_self s r.above) (self (whole (pos 1)) (lit< tt)))) (self (over (pos 1) 2) (lit< tt))) (not_false _ (λ w. omega (arith, ints, w, l, crossed s (over (pos 1) 2) u, r.above)))) (refl)) };
  };
  fits = refl;
  kind = refl;
  time = refl;
  inputs = refl;
  fired = refl;
  solves = refl;
}

s2 : StepAfter (system_of form grades) script (i1 ∷ i0 ∷ []) i2
unfolding computing
s2 = record { due = refl; kind = refl; time = refl; inputs = refl; fired = refl; solves = refl }

pub row : BlankArmHoldsNothingRuns
unfolding computing
row = record {
  history = i2 ∷ i1 ∷ i0 ∷ [];
  ending = Fault (record { kind = Division; at = at 1 98 }) (over (pos 1) 2) (Step 0);
  run = record { instants = ((s0, inr s1), inl s2); ends = inl refl };
  trace = refl;
}

pub returns : goal.returns
returns c = row
