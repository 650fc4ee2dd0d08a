-- The run of the saw tooth code, by computation.
use Rattle.std.specs.Prelude.{◌∷◌, [], pos}
use Rattle.std.proofs.Common.{lit<, refl, inl, inr, arith}
use Rattle.std.proofs.lemmas.Int.{ints}
use Rattle.zl_value.specs.Fraction.{whole, over}
use Rattle.zl_value.specs.declared.script.Ending.TheVariants.{Horizon}
use Rattle.zl_code.specs.Method.{Doing}
use Rattle.zl_value.specs.Instants.{Instant}
use Rattle.zl_value.specs.Runs.{StepAfter, LeftAfter}
use Rattle.zl_code.specs.System.{system_of}
use Rattle.zl_value.proofs.Ratios.{is_self, is_add, is_sub, is_mul}
use Rattle.zl_code.proofs.Lines.{crossed, negative_is, both, not_false}
use Rattle.zl_code.proofs.Compute.{computing, step_on, flow_on, left_on}
use Rattle.zl_code.specs.Worked.SawTooth.{code, script, SawToothRuns}
use Rattle.zl_code.proofs.worked.saw_tooth.Goals as goal

abbrev i0 : Instant Doing
i0 = step_on code script []

abbrev i1 : Instant Doing
i1 = left_on code [] i0 (whole (pos 1))

abbrev i2 : Instant Doing
i2 = step_on code script (i1 ∷ i0 ∷ [])

abbrev i3 : Instant Doing
i3 = left_on code (i1 ∷ i0 ∷ []) i2 (whole (pos 1))

abbrev i4 : Instant Doing
i4 = step_on code script (i3 ∷ i2 ∷ i1 ∷ i0 ∷ [])

abbrev i5 : Instant Doing
i5 = left_on code (i3 ∷ i2 ∷ i1 ∷ i0 ∷ []) i4 (over (pos 1) 2)

s0 : StepAfter (system_of code) script [] i0
unfolding computing
s0 = record { due = refl; kind = refl; time = refl; inputs = refl; fired = refl; solves = refl }

s1 : LeftAfter (system_of code) script [] i0 i1
unfolding computing
s1 = record {
  flow = λ s. flow_on code i0;
  duration = whole (pos 1);
  move = record {
    flow = record { due = refl; solves = λ s r l. refl };
    right = refl;
    whole = refl;
    lasts = record { reduced = record { above = lit< tt; lowest = refl }; positive = refl; reached = refl; clear = refl; first = λ s r l u. both (negative_is (is_add (is_sub (is_self (whole (pos 0)) (lit< tt)) (is_self (whole (pos 1)) (lit< tt))) (is_mul (is_self s r.above) (is_self (whole (pos 1)) (lit< tt)))) (not_false _ (λ w. omega (arith, ints, w, l, crossed s (whole (pos 1)) u, r.above)))) refl };
  };
  fits = refl;
  kind = refl;
  time = refl;
  inputs = refl;
  fired = refl;
  solves = refl;
}

s2 : StepAfter (system_of code) script (i1 ∷ i0 ∷ []) i2
unfolding computing
s2 = record { due = refl; kind = refl; time = refl; inputs = refl; fired = refl; solves = refl }

s3 : LeftAfter (system_of code) script (i1 ∷ i0 ∷ []) i2 i3
unfolding computing
s3 = record {
  flow = λ s. flow_on code i2;
  duration = whole (pos 1);
  move = record {
    flow = record { due = refl; solves = λ s r l. refl };
    right = refl;
    whole = refl;
    lasts = record { reduced = record { above = lit< tt; lowest = refl }; positive = refl; reached = refl; clear = refl; first = λ s r l u. both (negative_is (is_add (is_sub (is_self (whole (pos 0)) (lit< tt)) (is_self (whole (pos 1)) (lit< tt))) (is_mul (is_self s r.above) (is_self (whole (pos 1)) (lit< tt)))) (not_false _ (λ w. omega (arith, ints, w, l, crossed s (whole (pos 1)) u, r.above)))) refl };
  };
  fits = refl;
  kind = refl;
  time = refl;
  inputs = refl;
  fired = refl;
  solves = refl;
}

s4 : StepAfter (system_of code) script (i3 ∷ i2 ∷ i1 ∷ i0 ∷ []) i4
unfolding computing
s4 = record { due = refl; kind = refl; time = refl; inputs = refl; fired = refl; solves = refl }

s5 : LeftAfter (system_of code) script (i3 ∷ i2 ∷ i1 ∷ i0 ∷ []) i4 i5
unfolding computing
s5 = record {
  flow = λ s. flow_on code i4;
  duration = over (pos 1) 2;
  move = record {
    flow = record { due = refl; solves = λ s r l. refl };
    right = refl;
    whole = refl;
    lasts = record { reduced = record { above = lit< tt; lowest = refl }; positive = refl; reached = refl; clear = refl; first = λ s r l u. both (negative_is (is_add (is_sub (is_self (whole (pos 0)) (lit< tt)) (is_self (whole (pos 1)) (lit< tt))) (is_mul (is_self s r.above) (is_self (whole (pos 1)) (lit< tt)))) (not_false _ (λ w. omega (arith, ints, w, l, crossed s (over (pos 1) 2) u, r.above)))) refl };
  };
  fits = refl;
  kind = refl;
  time = refl;
  inputs = refl;
  fired = refl;
  solves = refl;
}

pub row : SawToothRuns
unfolding computing
row = record {
  history = i5 ∷ i4 ∷ i3 ∷ i2 ∷ i1 ∷ i0 ∷ [];
  ending = Horizon;
  run = record { instants = (((((s0, inr s1), inl s2), inr s3), inl s4), inr s5); ends = inl refl };
  trace = refl;
}

pub returns : goal.returns
returns c = row
