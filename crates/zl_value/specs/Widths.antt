-- Numbers that must be in the width, each with the position that a fault has if it isn't.
use Rattle.std.specs.Prelude.{List, [], ◌∷◌, if◌then◌else◌, Option, Some, None}
use Rattle.zl_value.specs.Fraction.{Fraction, fits}
use Rattle.zl_value.specs.declared.arith.Arith.TheVariants.{Range}
use Rattle.zl_value.specs.declared.position.Pos.{Pos}
use Rattle.zl_value.specs.declared.value.Fault.{Fault}

pub record Tested : Type 0 where
  pub number : Fraction
  pub at : Pos

-- the position of what stands nowhere in the text
abbrev pub nowhere : Pos
nowhere = record { line = 0; column = 0 }

-- the fault of the first number that isn't in the width
abbrev pub first_wide : List Tested → Option Fault
first_wide [] = None
first_wide (tested ∷ rest) = if fits tested.number then first_wide rest else Some (record { kind = Range; at = tested.at })
