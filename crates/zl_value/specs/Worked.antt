-- Two worked runs of small systems. They show what a run is, and hold the definitions to it. This project's own.
use Rattle.std.specs.Prelude.{ℕ, zero, suc, pos, negsuc, false, if◌then◌else◌, List, [], ◌∷◌, ◌++◌, codes, Option, Some, None}
use Rattle.zl_value.specs.Fraction.{Fraction, add, sub, mul, whole, over}
use Rattle.zl_value.specs.Lists.{among}
use Rattle.zl_value.specs.Lines.{Shown}
use Rattle.zl_value.specs.Instants.{History}
use Rattle.zl_value.specs.System.{System}
use Rattle.zl_value.specs.Traces.{HasTrace}
use Rattle.zl_value.specs.declared.value.Value.{Value}
use Rattle.zl_value.specs.declared.value.Value.TheVariants.{F}
use Rattle.zl_value.specs.declared.script.Script.{Script}

-- the height at the latest instant, and the one at which all begins
abbrev pub height_before : Fraction → History Fraction → Fraction
height_before start [] = start
height_before start (i ∷ h) = i.table

-- site 0 is the height, which comes to zero from below. The others are half as much below zero as the height is above -1:
-- they come to zero where the height falls past -1/2
abbrev pub height_site : Fraction → ℕ → Option Value
height_site height zero = Some (F height)
height_site height (suc n) = Some (F (sub (over (negsuc 0) 2) height))

-- what begins at a height and moves with a speed in each flow. Where site 0 fires, a step takes it to -1
abbrev pub mover : ℕ → Fraction → Fraction → System Fraction Fraction
mover sites start speed = record {
  inputs = 0;
  sites = sites;
  step = λ h i. if among 0 i.fired then whole (negsuc 0) else height_before start h;
  flow = λ h i y s. add i.table (mul s speed);
  left = λ h y d i. add (height_before start h) (mul d speed);
  fault = λ h i. None;
  flow_fault = λ h i y. None;
  lacks = λ i. false;
  flow_lacks = λ i y. false;
  demands = λ height. false;
  value = λ height n. height_site height n;
  fresh = λ h i n. false;
  values = λ i y s n. height_site (y s) n;
  motions = λ i y. record { from = i.table; slope = speed; at = record { line = 1; column = 1 } } ∷ [];
}

abbrev pub shown_height : Fraction → List Shown
shown_height height = record { name = codes "h"; value = F height } ∷ []

-- a script with a line at time 1, which sets nothing
abbrev pub line_script : Script
line_script = record { horizon = whole (pos 1); steps = 10; lines = record { time = whole (pos 1); sets = [] } ∷ [] }

-- it comes to zero at time 1. The step there takes the line of the script and drops it, and by that the other site fires: so
-- one more step follows, and no third one
abbrev pub DropRuns : Type 0
DropRuns =
    HasTrace (mover 2 (whole (negsuc 0)) (whole (pos 1))) shown_height line_script
    (codes "0 #0 h=-1\n"
    ++ codes "1 - h=0\n"
    ++ codes "1 #0 h=-1\n"
    ++ codes "1 #1 h=-1\n"
    ++ codes "end horizon\n")

abbrev pub long_script : Script
long_script = record { horizon = whole (pos 9223372036854775807); steps = 10; lines = [] }

-- where it comes to is in the width, and how far it moves isn't
abbrev pub LeapRuns : Type 0
LeapRuns =
    HasTrace (mover 0 (whole (negsuc 9223372036854775806)) (whole (pos 2))) shown_height long_script
    (codes "0 #0 h=-9223372036854775807\n"
    ++ codes "fault range 0 ~ 1:1\n")
