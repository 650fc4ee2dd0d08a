-- The answer of an operator, as the machine keeps it.
use Rattle.std.specs.Prelude.{ℤ, Bool, List, [], ◌∷◌, Option, Some, None, Result, Ok, Err}
use Rattle.zl_value.specs.Operators.{Answer, Gives, Faults, Nothing}
use Rattle.zl_value.specs.Fraction.{Fraction}
use Rattle.zl_value.specs.Times.{nought}
use Rattle.zl_value.specs.declared.arith.Arith.{Arith}
use Rattle.zl_value.specs.declared.value.Value.{Value}
use Rattle.zl_value.specs.declared.value.Value.TheVariants.{B, I, F}

abbrev pub as_answer : Result (Option Value) Arith → Answer
as_answer (Ok (Some v)) = Gives v
as_answer (Ok None) = Nothing
as_answer (Err kind) = Faults kind

-- the answer of an operator on fractions
abbrev pub made : Result Fraction Arith → Answer
made (Ok f) = Gives (F f)
made (Err kind) = Faults kind

-- one operand, two operands, if each is there
abbrev pub alone : Option Value → Option (List Value)
alone (Some a) = Some (a ∷ [])
alone None = None

abbrev pub both : Option Value → Option Value → Option (List Value)
both (Some a) (Some b) = Some (a ∷ b ∷ [])
both _ _ = None

abbrev pub float_of : Option Value → Option Fraction
float_of (Some (F f)) = Some f
float_of _ = None

-- a slope, by what its register holds; a site without one stays where it is, as `moved_value` has it
abbrev pub slope_of : Option Value → Fraction
slope_of (Some (F slope)) = slope
slope_of _ = nought

abbrev pub int_of : Option Value → Option ℤ
int_of (Some (I n)) = Some n
int_of _ = None

abbrev pub bool_of : Option Value → Option Bool
bool_of (Some (B b)) = Some b
bool_of _ = None
