use Rattle.std.specs.Prelude.{◌∷◌, [], pos, negsuc}
use Rattle.std.proofs.Common.{lit<, refl, inl, inr, arith}
use Rattle.std.proofs.lemmas.Int.{ints}
use Rattle.zl_value.specs.Fraction.{whole, over}
use Rattle.zl_value.specs.declared.script.Ending.TheVariants.{Horizon}
use Rattle.zl_meaning.specs.History.{Instant}
use Rattle.zl_meaning.specs.System.{system_of}
use Rattle.zl_value.specs.Runs.{StepAfter, LeftAfter}
use Rattle.zl_value.proofs.Ratios.{is_self, is_add, is_sub, is_mul, is_neg}
use Rattle.zl_meaning.proofs.Lines.{crossed, negative_is, both, not_false, self}
use Rattle.zl_meaning.proofs.Compute.{computing, step_on, left_on, flow_on}
use Rattle.zl_meaning.specs.Worked.FeedbackThroughDeclarations.{form, grades, script, FeedbackThroughDeclarationsRuns}
use Rattle.zl_meaning.proofs.worked.feedback_through_declarations.Goals as goal

abbrev i0 : Instant
i0 = step_on form script [] 12

abbrev i1 : Instant
i1 = left_on form (i0 ∷ []) (whole (pos 1)) 12

abbrev i2 : Instant
i2 = step_on form script (i1 ∷ i0 ∷ []) 12

abbrev i3 : Instant
i3 = left_on form (i2 ∷ i1 ∷ i0 ∷ []) (whole (pos 1)) 12

abbrev i4 : Instant
i4 = step_on form script (i3 ∷ i2 ∷ i1 ∷ i0 ∷ []) 12

abbrev i5 : Instant
i5 = left_on form (i4 ∷ i3 ∷ i2 ∷ i1 ∷ i0 ∷ []) (over (pos 1) 2) 12

s0 : StepAfter (system_of form grades) script [] i0
unfolding computing
s0 = record { due = refl; kind = refl; time = refl; inputs = refl; fired = refl; solves = refl }

s1 : LeftAfter (system_of form grades) script [] i0 i1
unfolding computing
s1 = record {
  flow = flow_on form [] i0 8;
  duration = whole (pos 1);
  move = record {
    flow = record { due = refl; solves = λ s r l. refl };
    right = refl;
    whole = refl;
    lasts = record { reduced = record { above = lit< tt; lowest = refl }; positive = refl; reached = refl; clear = refl; first = λ s r l u. both (negative_is (is_sub (is_add (self (whole (pos 0)) (lit< tt)) (is_mul (is_self s r.above) (self (whole (pos 1)) (lit< tt)))) (self (whole (pos 1)) (lit< tt))) (not_false _ (λ w. omega (arith, ints, w, l, crossed s (whole (pos 1)) u, r.above)))) (refl) };
  };
  fits = refl;
  kind = refl;
  time = refl;
  inputs = refl;
  fired = refl;
  solves = refl;
}

s2 : StepAfter (system_of form grades) script (i1 ∷ i0 ∷ []) i2
unfolding computing
s2 = record { due = refl; kind = refl; time = refl; inputs = refl; fired = refl; solves = refl }

s3 : LeftAfter (system_of form grades) script (i1 ∷ i0 ∷ []) i2 i3
unfolding computing
s3 = record {
  flow = flow_on form (i1 ∷ i0 ∷ []) i2 8;
  duration = whole (pos 1);
  move = record {
    flow = record { due = refl; solves = λ s r l. refl };
    right = refl;
    whole = refl;
    lasts = record { reduced = record { above = lit< tt; lowest = refl }; positive = refl; reached = refl; clear = refl; first = λ s r l u. both (negative_is (is_neg (is_add (self (whole (pos 1)) (lit< tt)) (is_mul (is_self s r.above) (self (whole (negsuc 0)) (lit< tt))))) (not_false _ (λ w. omega (arith, ints, w, l, crossed s (whole (pos 1)) u, r.above)))) (refl) };
  };
  fits = refl;
  kind = refl;
  time = refl;
  inputs = refl;
  fired = refl;
  solves = refl;
}

s4 : StepAfter (system_of form grades) script (i3 ∷ i2 ∷ i1 ∷ i0 ∷ []) i4
unfolding computing
s4 = record { due = refl; kind = refl; time = refl; inputs = refl; fired = refl; solves = refl }

s5 : LeftAfter (system_of form grades) script (i3 ∷ i2 ∷ i1 ∷ i0 ∷ []) i4 i5
unfolding computing
s5 = record {
  flow = flow_on form (i3 ∷ i2 ∷ i1 ∷ i0 ∷ []) i4 8;
  duration = over (pos 1) 2;
  move = record {
    flow = record { due = refl; solves = λ s r l. refl };
    right = refl;
    whole = refl;
    lasts = record { reduced = record { above = lit< tt; lowest = refl }; positive = refl; reached = refl; clear = refl; first = λ s r l u. both (negative_is (is_sub (is_add (self (whole (pos 0)) (lit< tt)) (is_mul (is_self s r.above) (self (whole (pos 1)) (lit< tt)))) (self (whole (pos 1)) (lit< tt))) (not_false _ (λ w. omega (arith, ints, w, l, crossed s (over (pos 1) 2) u, r.above)))) (refl) };
  };
  fits = refl;
  kind = refl;
  time = refl;
  inputs = refl;
  fired = refl;
  solves = refl;
}

pub row : FeedbackThroughDeclarationsRuns
unfolding computing
row = record {
  history = i5 ∷ i4 ∷ i3 ∷ i2 ∷ i1 ∷ i0 ∷ [];
  ending = Horizon;
  run = record { instants = (((((s0, inr s1), inl s2), inr s3), inl s4), inr s5); ends = inl refl };
  trace = refl;
}

pub returns : goal.returns
returns c = row
