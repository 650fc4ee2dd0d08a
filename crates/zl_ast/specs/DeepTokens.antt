-- A token that opens a construct too many, and how far reading goes where more may be nested.
use Rattle.std.specs.Prelude.{◌≡◌, ℕ, suc, ◌≤◌, ◌-◌, Bool, true, false, List, length, slice_get, Some, Result, Ok, Err}
use Rattle.zl_lexer.specs.declared.token.Token.{Token}
use Rattle.zl_lexer.specs.declared.token.TokenKind.{TokenKind}
use Rattle.zl_lexer.specs.declared.token.TokenKind.TheVariants.{Word, Sign}
use Rattle.zl_lexer.specs.declared.token.Word.TheVariants as word
use Rattle.zl_lexer.specs.declared.token.Sign.TheVariants as sign
use Rattle.zl_ast.specs.Reading.{Fault, parse, deep}
use Rattle.zl_ast.specs.ReadingDeclarations.{read_program}

-- the tokens that open the constructs that are counted: "(", a prefix operator, "if", "->", "fby", "do", "reset"
abbrev pub opens : TokenKind → Bool
opens (Sign sign.Open) = true
opens (Sign sign.Minus) = true
opens (Sign sign.MinusDot) = true
opens (Word word.Not) = true
opens (Word word.Pre) = true
opens (Word word.If) = true
opens (Sign sign.Arrow) = true
opens (Word word.Fby) = true
opens (Word word.Do) = true
opens (Word word.Reset) = true
opens _ = false

-- the token of this number opens a construct
pub record OpensAt (ts : List Token) (token : ℕ) : Type 0 where
  pub opening : Token
  pub found : slice_get ts token ≡ Some opening
  pub opens_it : opens opening.kind ≡ true

-- reading stops where at most so many tokens are left, the one at fault included, or it doesn't stop
abbrev pub StopsWithin : {A : Type 0} → ℕ → Result A Fault → Type 0
StopsWithin count (Ok x) = Unit {0}
StopsWithin count (Err (parse left)) = left ≤ count
StopsWithin count (Err (deep left)) = left ≤ count

-- With at most n constructs open, reading takes the token of this number: it stops behind it, or nowhere.
abbrev pub ReadsPast : ℕ → List Token → ℕ → Type 0
ReadsPast n ts token = StopsWithin (length ts - suc token) (read_program n ts)

-- A token that opens a construct too many opens one, and with one construct more reading takes it.
abbrev pub DeepTokens : Type 0
DeepTokens = (n left : ℕ) (ts : List Token) → read_program n ts ≡ Err (deep left) →
    OpensAt ts (length ts - left) × ReadsPast (suc n) ts (length ts - left)
