-- Which numbers are accepted in a file. This project's own.
use Rattle.std.specs.Prelude.{ℕ, pos, if◌then◌else◌, nat_le, List, Option, Some, None, option_map}
use Rattle.std.specs.Str.Parse.{digits_value}
use Rattle.zl_value.specs.Decimal.{decimal_value}
use Rattle.zl_lexer.specs.declared.token.TokenKind.{TokenKind}
use Rattle.zl_lexer.specs.declared.token.TokenKind.TheVariants.{Int, Float}

-- a whole number, up to the greatest one of 64 bits with a sign
abbrev pub int_kind : List ℕ → Option TokenKind
int_kind digits =
    if nat_le (digits_value 10 digits) 9223372036854775807 then Some (Int (pos (digits_value 10 digits))) else None

-- a number with a point or an exponent
abbrev pub float_kind : List ℕ → Option TokenKind
float_kind text = option_map Float (decimal_value text)
