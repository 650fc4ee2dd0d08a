use Rattle.std.specs.Prelude.{pos, negsuc, [], ◌∷◌}
use Rattle.std.specs.Fmt.{digits}
use Rattle.std.proofs.Common.{refl, inr}
use Rattle.zl_value.specs.Fraction.{Fraction, whole, gcd_in, gcd, reduced, add, sub, mul, compare, fits}
use Rattle.zl_value.specs.Instants.{Step, Instant}
use Rattle.zl_value.specs.System.{Course, System}
use Rattle.zl_value.specs.Runs.{StepAfter, MoveAfter, EndsInFlow, ByMove}
use Rattle.zl_value.specs.Worked.{mover, long_script, LeapRuns}
use Rattle.zl_value.specs.declared.arith.Arith.TheVariants.{Range}
use Rattle.zl_value.specs.declared.value.Fault.{Fault}
use Rattle.zl_value.specs.declared.script.Mark.TheVariants.{Flow}
use Rattle.zl_value.specs.declared.script.Ending.TheVariants.{Fault as EndsInFault}
use Rattle.zl_value.proofs.FractionLaws.{IsReduced-whole}
use Rattle.zl_value.proofs.worked.leap_runs.Goals as goal

abbrev low : Fraction
low = whole (negsuc 9223372036854775806)

abbrev sys : System Fraction Fraction
sys = mover 0 low (whole (pos 2))

abbrev i0 : Instant Fraction
i0 = record { kind = Step; time = whole (pos 0); inputs = []; fired = []; table = low }

abbrev flow : Course Fraction
flow s = add low (mul s (whole (pos 2)))

abbrev wide : Fault
wide = record { kind = Range; at = record { line = 1; column = 1 } }

s0 : StepAfter sys long_script [] i0
unfolding gcd_in gcd reduced add sub mul compare fits
s0 = record { due = refl; kind = refl; time = refl; inputs = refl; fired = refl; solves = refl }

move : MoveAfter sys long_script [] i0 flow (whole (pos 9223372036854775807))
unfolding gcd_in gcd reduced add sub mul compare fits
move = record {
  flow = record { due = refl; solves = λ s r l. refl };
  right = refl;
  whole = refl;
  lasts = record { reduced = IsReduced-whole (pos 9223372036854775807); positive = refl; reached = refl; clear = refl; first = λ s r l u. refl };
}

ending : EndsInFlow sys long_script [] i0 (EndsInFault wide (whole (pos 0)) Flow)
unfolding gcd_in gcd reduced add sub mul compare fits
ending = ByMove flow (whole (pos 9223372036854775807)) wide move refl

leap : LeapRuns
unfolding gcd_in gcd reduced add sub mul compare fits digits
leap = record {
  history = i0 ∷ [];
  ending = EndsInFault wide (whole (pos 0)) Flow;
  run = record { instants = s0; ends = inr ending };
  trace = refl;
}

pub returns : goal.returns
returns c = leap
