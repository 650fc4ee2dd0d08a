-- The texts of values. This project's own.
use Rattle.std.specs.Prelude.{ℕ, Bool, true, false, ◌==◌, if◌then◌else◌, List, ◌++◌, codes, decimal}
use Rattle.std.specs.Fmt.{signed_decimal}
use Rattle.zl_value.specs.Fraction.{Fraction}
use Rattle.zl_value.specs.declared.position.Pos.{Pos}
use Rattle.zl_value.specs.declared.value.Value.{Value}
use Rattle.zl_value.specs.declared.value.Value.TheVariants.{B, I, F}

-- the numerator alone where the denominator is 1
abbrev pub fraction_text : Fraction → List ℕ
fraction_text f =
    if f.den == 1 then signed_decimal f.num else signed_decimal f.num ++ codes "/" ++ decimal f.den

abbrev pub bool_text : Bool → List ℕ
bool_text true = codes "true"
bool_text false = codes "false"

-- what is printed for a value
abbrev pub value_text : Value → List ℕ
value_text (B b) = bool_text b
value_text (I n) = signed_decimal n
value_text (F f) = fraction_text f

-- what is printed for a position
abbrev pub position_text : Pos → List ℕ
position_text at = decimal at.line ++ codes ":" ++ decimal at.column
