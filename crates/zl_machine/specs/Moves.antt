-- What moving a memory comes to.
use Rattle.std.specs.Prelude.{◌≡◌, List, Option, Some, None}
use Rattle.zl_value.specs.Fraction.{Fraction}
use Rattle.zl_value.specs.Widths.{first_wide}
use Rattle.zl_value.specs.System.{Motion, increments, arrivals}
use Rattle.zl_value.specs.declared.arith.Arith.TheVariants.{Range}
use Rattle.zl_value.specs.declared.position.Pos.{Pos}
use Rattle.zl_value.specs.declared.value.Value.{Value}
use Rattle.zl_value.specs.declared.value.Fault.{Fault}
use Rattle.zl_machine.specs.declared.moving.Moved.{Moved}
use Rattle.zl_machine.specs.declared.moving.Moved.TheVariants.{To, Late, Wide}

abbrev pub out_of_width : Pos → Fault
out_of_width at = record { kind = Range; at = at }

-- the first fault, if there is one, else the other
abbrev pub first_of : Option Fault → Option Fault → Option Fault
first_of (Some fault) other = Some fault
first_of None other = other

-- it comes to `there`; or that isn't in the width; or how far it moves isn't
abbrev pub HasMoved : Fraction → List Motion → Pos → Option Value → Moved → Type 0
HasMoved by ms at there (To v) = (first_wide (increments by ms) ≡ None) × (first_wide (arrivals by ms) ≡ None) × (v ≡ there)
HasMoved by ms at there Late = (first_wide (increments by ms) ≡ None) × (first_wide (arrivals by ms) ≡ Some (out_of_width at))
HasMoved by ms at there Wide = first_wide (increments by ms) ≡ Some (out_of_width at)
