use Rattle.std.specs.Prelude.{◌≡◌, ◌∷◌, [], pos, negsuc, true, false}
use Rattle.std.proofs.Common.{lit<, refl, inl, inr, arith}
use Rattle.std.proofs.lemmas.Int.{ints}
use Rattle.zl_value.specs.Fraction.{Fraction, IsReduced, add, mul, whole}
use Rattle.zl_value.specs.Order.{below}
use Rattle.zl_value.specs.Times.{is_negative}
use Rattle.zl_value.specs.Instants.{Instant}
use Rattle.zl_value.specs.Runs.{StepAfter, LeftAfter}
use Rattle.zl_value.specs.declared.script.Ending.TheVariants.{Fault as EndsInFault}
use Rattle.zl_value.specs.declared.arith.Arith.TheVariants.{Division}
use Rattle.zl_value.specs.declared.script.Mark.TheVariants.{Step as StepMark}
use Rattle.zl_kernel.specs.Worked.{at}
use Rattle.zl_kernel.specs.Wires.{Registers}
use Rattle.zl_kernel.specs.System.{system_of_kernel}
use Rattle.zl_kernel.specs.Worked.Counter.{kernel, script, CounterRuns}
use Rattle.zl_kernel.proofs.Compute.{computing, step_on, flow_on, left_on}
use Rattle.zl_kernel.proofs.Lines.{crossed, negative_is, both, not_false, self}
use Rattle.zl_value.proofs.Ratios.{is_self, is_add, is_mul}
use Rattle.zl_kernel.proofs.worked.counter.Goals as goal

-- before time 1 the number is below zero
before_zero : (s : Fraction) → IsReduced s → is_negative s ≡ false → below s (whole (pos 1)) ≡ true → is_negative (add (whole (negsuc 0)) (mul s (whole (pos 1)))) ≡ true
before_zero s r l u =
    negative_is (is_add (self (whole (negsuc 0)) (lit< tt)) (is_mul (is_self s r.above) (self (whole (pos 1)) (lit< tt))))
    (not_false _ (λ w. omega (arith, ints, w, l, crossed s (whole (pos 1)) u, r.above)))

abbrev i0 : Instant Registers
i0 = step_on kernel script [] 9

abbrev i1 : Instant Registers
i1 = left_on kernel (i0 ∷ []) (flow_on kernel i0 9) (whole (pos 1)) 9

abbrev i2 : Instant Registers
i2 = step_on kernel script (i1 ∷ i0 ∷ []) 9

abbrev i3 : Instant Registers
i3 = left_on kernel (i2 ∷ i1 ∷ i0 ∷ []) (flow_on kernel i2 9) (whole (pos 1)) 9

abbrev i4 : Instant Registers
i4 = step_on kernel script (i3 ∷ i2 ∷ i1 ∷ i0 ∷ []) 9

s0 : StepAfter (system_of_kernel kernel) script [] i0
unfolding computing
s0 = record { due = refl; kind = refl; time = refl; inputs = refl; fired = refl; solves = refl }

s1 : LeftAfter (system_of_kernel kernel) script [] i0 i1
unfolding computing
s1 = record {
  flow = λ s. flow_on kernel i0 9;
  duration = whole (pos 1);
  move = record {
    flow = record { due = refl; solves = λ s r l. refl };
    right = refl;
    whole = refl;
    lasts = record { reduced = record { above = lit< tt; lowest = refl }; positive = refl; reached = refl; clear = refl; first = λ s r l u. both (before_zero s r l u) (both (before_zero s r l u) refl) };
  };
  fits = refl;
  kind = refl;
  time = refl;
  inputs = refl;
  fired = refl;
  solves = refl;
}

s2 : StepAfter (system_of_kernel kernel) script (i1 ∷ i0 ∷ []) i2
unfolding computing
s2 = record { due = refl; kind = refl; time = refl; inputs = refl; fired = refl; solves = refl }

s3 : LeftAfter (system_of_kernel kernel) script (i1 ∷ i0 ∷ []) i2 i3
unfolding computing
s3 = record {
  flow = λ s. flow_on kernel i2 9;
  duration = whole (pos 1);
  move = record {
    flow = record { due = refl; solves = λ s r l. refl };
    right = refl;
    whole = refl;
    lasts = record { reduced = record { above = lit< tt; lowest = refl }; positive = refl; reached = refl; clear = refl; first = λ s r l u. both (before_zero s r l u) (both (before_zero s r l u) refl) };
  };
  fits = refl;
  kind = refl;
  time = refl;
  inputs = refl;
  fired = refl;
  solves = refl;
}

s4 : StepAfter (system_of_kernel kernel) script (i3 ∷ i2 ∷ i1 ∷ i0 ∷ []) i4
unfolding computing
s4 = record { due = refl; kind = refl; time = refl; inputs = refl; fired = refl; solves = refl }

row : CounterRuns
unfolding computing
row = record {
  history = i4 ∷ i3 ∷ i2 ∷ i1 ∷ i0 ∷ [];
  ending = EndsInFault (record { kind = Division; at = at 1 30 }) (whole (pos 2)) (StepMark 0);
  run = record { instants = ((((s0, inr s1), inl s2), inr s3), inl s4); ends = inl refl };
  trace = refl;
}

pub returns : goal.returns
returns c = row
