-- The signs. After Zélus.
use Rattle.std.specs.Prelude.{ℕ, List, [], ◌∷◌, Option, None, codes}
use Rattle.std.specs.Map.{lookup}
use Rattle.std.specs.Str.{bytes_eq}
use Rattle.zl_lexer.specs.declared.token.Sign.{Sign}
use Rattle.zl_lexer.specs.declared.token.Sign.TheVariants as sign

abbrev pub signs : List (List ℕ × Sign)
signs =
    (codes "(", sign.Open) ∷ (codes ")", sign.Close) ∷ (codes ",", sign.Comma) ∷ (codes ":", sign.Colon)
    ∷ (codes "=", sign.Equal) ∷ (codes "<>", sign.Unequal) ∷ (codes "<=", sign.AtMost) ∷ (codes ">=", sign.AtLeast)
    ∷ (codes "<", sign.Less) ∷ (codes ">", sign.Greater) ∷ (codes "->", sign.Arrow)
    ∷ (codes "|", sign.Bar) ∷ (codes "||", sign.Bars) ∷ (codes "&", sign.Ampersand) ∷ (codes "&&", sign.Ampersands)
    ∷ (codes "+", sign.Plus) ∷ (codes "-", sign.Minus) ∷ (codes "*", sign.Star) ∷ (codes "/", sign.Slash)
    ∷ (codes "+.", sign.PlusDot) ∷ (codes "-.", sign.MinusDot) ∷ (codes "*.", sign.StarDot)
    ∷ (codes "/.", sign.SlashDot) ∷ []

-- the sign that a whole text is
abbrev pub sign_of : List ℕ → Option Sign
sign_of text = lookup (bytes_eq text) signs

-- the sign of two characters at the front of a text
abbrev pub long_sign : ℕ → List ℕ → Option Sign
long_sign c [] = None
long_sign c (d ∷ text) = sign_of (c ∷ d ∷ [])
