-- What is true of the tokens of every text.
use Rattle.std.specs.Prelude.{ℕ, ◌<◌, pos, ◌≤ℤ◌, List, [], ◌∷◌, length}
use Rattle.std.specs.List.{AllByRecursion, IsDistinct}
use Rattle.std.specs.Str.{bytes_eq}
use Rattle.zl_value.specs.declared.position.Pos.{Pos}
use Rattle.zl_value.specs.Fraction.{IsFrac}
use Rattle.zl_lexer.specs.declared.token.Token.{Token}
use Rattle.zl_lexer.specs.declared.token.TokenKind.{TokenKind}
use Rattle.zl_lexer.specs.declared.token.TokenKind.TheVariants as kind
use Rattle.zl_lexer.specs.Positions.{Before}

-- each token stands before those behind it, and before the end of the text
abbrev pub InOrder : List Token → Pos → Type 0
InOrder [] end = Unit {0}
InOrder (t ∷ ts) end = Before t.at end × AllByRecursion (λ u. Before t.at u.at) ts × InOrder ts end

-- the number of a name is that of one of so many names, and numbers are within their ranges
abbrev pub IsKind : ℕ → TokenKind → Type 0
IsKind count (kind.Name n) = n < count
IsKind count (kind.Int z) = (pos 0 ≤ℤ z) × (z ≤ℤ pos 9223372036854775807)
IsKind count (kind.Float f) = IsFrac f
IsKind count (kind.Word w) = Unit {0}
IsKind count (kind.Sign s) = Unit {0}

pub record AreTokens (tokens : List Token) (names : List (List ℕ)) (end : Pos) : Type 0 where
  pub in_order : InOrder tokens end
  pub kinds : AllByRecursion (λ t. IsKind (length names) t.kind) tokens
  pub distinct : IsDistinct bytes_eq names
