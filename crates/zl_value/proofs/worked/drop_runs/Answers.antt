use Rattle.std.specs.Prelude.{◌≡◌, ◌&&◌, pos, negsuc, true, false, [], ◌∷◌}
use Rattle.std.specs.Fmt.{digits}
use Rattle.std.proofs.Common.{lit<, refl, sym, ap, ◌∙◌, inl, inr}
use Rattle.zl_value.specs.Fraction.{Fraction, IsReduced, whole, gcd_in, gcd, reduced, add, sub, mul, compare, fits}
use Rattle.zl_value.specs.Order.{below}
use Rattle.zl_value.specs.Times.{is_negative}
use Rattle.zl_value.specs.Instants.{Step, Left, Instant}
use Rattle.zl_value.specs.System.{System}
use Rattle.zl_value.specs.Runs.{StepAfter, LeftAfter}
use Rattle.zl_value.specs.Worked.{mover, line_script, DropRuns}
use Rattle.zl_value.specs.declared.script.Ending.TheVariants.{Horizon}
use Rattle.zl_value.proofs.FractionLaws.{IsReduced-whole}
use Rattle.zl_value.proofs.FractionOrder.{below-zero, line_negative}
use Rattle.zl_value.proofs.worked.drop_runs.Goals as goal

abbrev sys : System Fraction Fraction
sys = mover 2 (whole (negsuc 0)) (whole (pos 1))

abbrev i0 : Instant Fraction
i0 = record { kind = Step; time = whole (pos 0); inputs = []; fired = []; table = whole (negsuc 0) }

abbrev i1 : Instant Fraction
i1 = record { kind = Left; time = whole (pos 1); inputs = []; fired = []; table = whole (pos 0) }

abbrev i2 : Instant Fraction
i2 = record { kind = Step; time = whole (pos 1); inputs = []; fired = 0 ∷ []; table = whole (negsuc 0) }

abbrev i3 : Instant Fraction
i3 = record { kind = Step; time = whole (pos 1); inputs = []; fired = 1 ∷ []; table = whole (negsuc 0) }

comes_to : below (whole (pos 0)) (add (whole (negsuc 0)) (mul (whole (pos 1)) (whole (pos 1)))) ≡ false
unfolding gcd_in gcd reduced add mul compare
comes_to = refl

-- before time 1 the height is below zero
stays_below : (s : Fraction) → IsReduced s → is_negative s ≡ false → below s (whole (pos 1)) ≡ true → is_negative (add (whole (negsuc 0)) (mul s (whole (pos 1)))) ≡ true
stays_below s r l u =
    sym (below-zero (add (whole (negsuc 0)) (mul s (whole (pos 1)))))
    ∙ line_negative (whole (negsuc 0)) (whole (pos 1)) (whole (pos 1)) s (IsReduced-whole (negsuc 0)) r (lit< tt) (lit< tt) (below-zero (whole (negsuc 0))) comes_to (below-zero s ∙ l) u

s0 : StepAfter sys line_script [] i0
unfolding gcd_in gcd reduced add sub mul compare fits
s0 = record { due = refl; kind = refl; time = refl; inputs = refl; fired = refl; solves = refl }

s1 : LeftAfter sys line_script [] i0 i1
unfolding gcd_in gcd reduced add sub mul compare fits
s1 = record {
  flow = λ s. add (whole (negsuc 0)) (mul s (whole (pos 1)));
  duration = whole (pos 1);
  move = record {
    flow = record { due = refl; solves = λ s r l. refl };
    right = refl;
    whole = refl;
    lasts = record { reduced = IsReduced-whole (pos 1); positive = refl; reached = refl; clear = refl; first = λ s r l u. ap (λ b. b && true) (stays_below s r l u) };
  };
  fits = refl;
  kind = refl;
  time = refl;
  inputs = refl;
  fired = refl;
  solves = refl;
}

s2 : StepAfter sys line_script (i1 ∷ i0 ∷ []) i2
unfolding gcd_in gcd reduced add sub mul compare fits
s2 = record { due = refl; kind = refl; time = refl; inputs = refl; fired = refl; solves = refl }

s3 : StepAfter sys line_script (i2 ∷ i1 ∷ i0 ∷ []) i3
unfolding gcd_in gcd reduced add sub mul compare fits
s3 = record { due = refl; kind = refl; time = refl; inputs = refl; fired = refl; solves = refl }

drop : DropRuns
unfolding gcd_in gcd reduced add sub mul compare fits digits
drop = record {
  history = i3 ∷ i2 ∷ i1 ∷ i0 ∷ [];
  ending = Horizon;
  run = record { instants = (((s0, inr s1), inl s2), inl s3); ends = inl refl };
  trace = refl;
}

pub returns : goal.returns
returns c = drop
