use Rattle.std.specs.Prelude.{◌∷◌, [], pos, negsuc}
use Rattle.std.proofs.Common.{lit<, refl, inl, inr, arith}
use Rattle.std.proofs.lemmas.Int.{ints}
use Rattle.zl_value.specs.Fraction.{whole, over}
use Rattle.zl_value.specs.declared.script.Ending.TheVariants.{Bound}
use Rattle.zl_meaning.specs.History.{Instant}
use Rattle.zl_meaning.specs.System.{system_of}
use Rattle.zl_value.specs.Runs.{StepAfter, LeftAfter}
use Rattle.zl_value.proofs.Ratios.{is_self, is_add, is_mul, is_neg}
use Rattle.zl_meaning.proofs.Lines.{crossed, negative_is, both, not_false, self}
use Rattle.zl_meaning.proofs.Compute.{computing, step_on, left_on, flow_on}
use Rattle.zl_meaning.specs.Worked.TwoTanks.{form, grades, script, TwoTanksRuns}
use Rattle.zl_meaning.proofs.worked.two_tanks.Goals as goal

abbrev i0 : Instant
i0 = step_on form script [] 7

abbrev i1 : Instant
i1 = left_on form (i0 ∷ []) (whole (pos 2)) 7

abbrev i2 : Instant
i2 = step_on form script (i1 ∷ i0 ∷ []) 7

abbrev i3 : Instant
i3 = step_on form script (i2 ∷ i1 ∷ i0 ∷ []) 7

abbrev i4 : Instant
i4 = left_on form (i3 ∷ i2 ∷ i1 ∷ i0 ∷ []) (whole (pos 1)) 7

abbrev i5 : Instant
i5 = step_on form script (i4 ∷ i3 ∷ i2 ∷ i1 ∷ i0 ∷ []) 7

abbrev i6 : Instant
i6 = step_on form script (i5 ∷ i4 ∷ i3 ∷ i2 ∷ i1 ∷ i0 ∷ []) 7

abbrev i7 : Instant
i7 = left_on form (i6 ∷ i5 ∷ i4 ∷ i3 ∷ i2 ∷ i1 ∷ i0 ∷ []) (over (pos 1) 2) 7

abbrev i8 : Instant
i8 = step_on form script (i7 ∷ i6 ∷ i5 ∷ i4 ∷ i3 ∷ i2 ∷ i1 ∷ i0 ∷ []) 7

abbrev i9 : Instant
i9 = step_on form script (i8 ∷ i7 ∷ i6 ∷ i5 ∷ i4 ∷ i3 ∷ i2 ∷ i1 ∷ i0 ∷ []) 7

abbrev i10 : Instant
i10 = left_on form (i9 ∷ i8 ∷ i7 ∷ i6 ∷ i5 ∷ i4 ∷ i3 ∷ i2 ∷ i1 ∷ i0 ∷ []) (over (pos 1) 4) 7

s0 : StepAfter (system_of form grades) script [] i0
unfolding computing
s0 = record { due = refl; kind = refl; time = refl; inputs = refl; fired = refl; solves = refl }

s1 : LeftAfter (system_of form grades) script [] i0 i1
unfolding computing
s1 = record {
  flow = flow_on form [] i0 8;
  duration = whole (pos 2);
  move = record {
    flow = record { due = refl; solves = λ s r l. refl };
    right = refl;
    whole = refl;
    lasts = record { reduced = record { above = lit< tt; lowest = refl }; positive = refl; reached = refl; clear = refl; first = λ s r l u. both (negative_is (is_neg (is_add (self (whole (pos 1)) (lit< tt)) (is_mul (is_self s r.above) (self (over (negsuc 0) 2) (lit< tt))))) (not_false _ (λ w. omega (arith, ints, w, l, crossed s (whole (pos 2)) u, r.above)))) (refl) };
  };
  fits = refl;
  kind = refl;
  time = refl;
  inputs = refl;
  fired = refl;
  solves = refl;
}

s2 : StepAfter (system_of form grades) script (i1 ∷ i0 ∷ []) i2
unfolding computing
s2 = record { due = refl; kind = refl; time = refl; inputs = refl; fired = refl; solves = refl }

s3 : StepAfter (system_of form grades) script (i2 ∷ i1 ∷ i0 ∷ []) i3
unfolding computing
s3 = record { due = refl; kind = refl; time = refl; inputs = refl; fired = refl; solves = refl }

s4 : LeftAfter (system_of form grades) script (i2 ∷ i1 ∷ i0 ∷ []) i3 i4
unfolding computing
s4 = record {
  flow = flow_on form (i2 ∷ i1 ∷ i0 ∷ []) i3 8;
  duration = whole (pos 1);
  move = record {
    flow = record { due = refl; solves = λ s r l. refl };
    right = refl;
    whole = refl;
    lasts = record { reduced = record { above = lit< tt; lowest = refl }; positive = refl; reached = refl; clear = refl; first = λ s r l u. both (negative_is (is_neg (is_add (self (over (pos 1) 2) (lit< tt)) (is_mul (is_self s r.above) (self (over (negsuc 0) 2) (lit< tt))))) (not_false _ (λ w. omega (arith, ints, w, l, crossed s (whole (pos 1)) u, r.above)))) (refl) };
  };
  fits = refl;
  kind = refl;
  time = refl;
  inputs = refl;
  fired = refl;
  solves = refl;
}

s5 : StepAfter (system_of form grades) script (i4 ∷ i3 ∷ i2 ∷ i1 ∷ i0 ∷ []) i5
unfolding computing
s5 = record { due = refl; kind = refl; time = refl; inputs = refl; fired = refl; solves = refl }

s6 : StepAfter (system_of form grades) script (i5 ∷ i4 ∷ i3 ∷ i2 ∷ i1 ∷ i0 ∷ []) i6
unfolding computing
s6 = record { due = refl; kind = refl; time = refl; inputs = refl; fired = refl; solves = refl }

s7 : LeftAfter (system_of form grades) script (i5 ∷ i4 ∷ i3 ∷ i2 ∷ i1 ∷ i0 ∷ []) i6 i7
unfolding computing
s7 = record {
  flow = flow_on form (i5 ∷ i4 ∷ i3 ∷ i2 ∷ i1 ∷ i0 ∷ []) i6 8;
  duration = over (pos 1) 2;
  move = record {
    flow = record { due = refl; solves = λ s r l. refl };
    right = refl;
    whole = refl;
    lasts = record { reduced = record { above = lit< tt; lowest = refl }; positive = refl; reached = refl; clear = refl; first = λ s r l u. both (negative_is (is_neg (is_add (self (over (pos 1) 4) (lit< tt)) (is_mul (is_self s r.above) (self (over (negsuc 0) 2) (lit< tt))))) (not_false _ (λ w. omega (arith, ints, w, l, crossed s (over (pos 1) 2) u, r.above)))) (refl) };
  };
  fits = refl;
  kind = refl;
  time = refl;
  inputs = refl;
  fired = refl;
  solves = refl;
}

s8 : StepAfter (system_of form grades) script (i7 ∷ i6 ∷ i5 ∷ i4 ∷ i3 ∷ i2 ∷ i1 ∷ i0 ∷ []) i8
unfolding computing
s8 = record { due = refl; kind = refl; time = refl; inputs = refl; fired = refl; solves = refl }

s9 : StepAfter (system_of form grades) script (i8 ∷ i7 ∷ i6 ∷ i5 ∷ i4 ∷ i3 ∷ i2 ∷ i1 ∷ i0 ∷ []) i9
unfolding computing
s9 = record { due = refl; kind = refl; time = refl; inputs = refl; fired = refl; solves = refl }

s10 : LeftAfter (system_of form grades) script (i8 ∷ i7 ∷ i6 ∷ i5 ∷ i4 ∷ i3 ∷ i2 ∷ i1 ∷ i0 ∷ []) i9 i10
unfolding computing
s10 = record {
  flow = flow_on form (i8 ∷ i7 ∷ i6 ∷ i5 ∷ i4 ∷ i3 ∷ i2 ∷ i1 ∷ i0 ∷ []) i9 8;
  duration = over (pos 1) 4;
  move = record {
    flow = record { due = refl; solves = λ s r l. refl };
    right = refl;
    whole = refl;
    lasts = record { reduced = record { above = lit< tt; lowest = refl }; positive = refl; reached = refl; clear = refl; first = λ s r l u. both (negative_is (is_neg (is_add (self (over (pos 1) 8) (lit< tt)) (is_mul (is_self s r.above) (self (over (negsuc 0) 2) (lit< tt))))) (not_false _ (λ w. omega (arith, ints, w, l, crossed s (over (pos 1) 4) u, r.above)))) (refl) };
  };
  fits = refl;
  kind = refl;
  time = refl;
  inputs = refl;
  fired = refl;
  solves = refl;
}

pub row : TwoTanksRuns
unfolding computing
row = record {
  history = i10 ∷ i9 ∷ i8 ∷ i7 ∷ i6 ∷ i5 ∷ i4 ∷ i3 ∷ i2 ∷ i1 ∷ i0 ∷ [];
  ending = Bound;
  run = record { instants = ((((((((((s0, inr s1), inl s2), inl s3), inr s4), inl s5), inl s6), inr s7), inl s8), inl s9), inr s10); ends = inl refl };
  trace = refl;
}

pub returns : goal.returns
returns c = row
