-- What a function of the parser returns against what reading its tokens gives. Any function may run out of memory.
use Rattle.std.specs.Prelude.{◌≡◌, true, List, ◌∷◌, ◌++◌, Result, Ok, Err}
use Rattle.zl_value.specs.declared.position.Pos.{Pos}
use Rattle.zl_ast.specs.Reading.{Fault, parse, deep, ◌>>=◌, next_is, take}
use Rattle.zl_lexer.specs.declared.token.Token.{Token}
use Rattle.zl_lexer.specs.declared.token.TokenKind.{TokenKind}
use Rattle.zl_parser.specs.declared.stop.Stop.{Stop}
use Rattle.zl_parser.specs.declared.stop.Stop.TheVariants as stop

-- reading stops where the function does
abbrev pub Fails : {Y : Type 0} → Stop → Result Y Fault → Type 0
Fails stop.Memory read = Unit {0}
Fails (stop.Parse left) read = read ≡ Err (parse left)
Fails (stop.Deep left) read = read ≡ Err (deep left)

-- reading gives what the function returns, as view shows it
abbrev pub Gives : {X Y : Type 0} → (X → Y) → Result X Stop → Result Y Fault → Type 0
Gives view (Ok x) read = read ≡ Ok (view x)
Gives view (Err e) read = Fails e read

-- what was read before, and the list that is read now
abbrev pub with_front : {A : Type 0} → List A → Result (List A × List Token) Fault → Result (List A × List Token) Fault
with_front front read = read >>= λ x. Ok (front ++ x.0, x.1)

-- the word or sign is next, at this place, and these are the tokens behind it
pub record IsBehind (mark : TokenKind) (ts : List Token) (at : Pos) (rest : List Token) : Type 0 where
  pub first : Token
  pub tokens : ts ≡ first ∷ rest
  pub place : first.at ≡ at
  pub is_next : next_is mark ts ≡ true
  pub taken : take mark ts ≡ Ok (at, rest)
