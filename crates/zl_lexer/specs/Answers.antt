-- What `lex` answers for a text. It may be without memory at any text.
use Rattle.std.specs.Prelude.{◌≡◌, ℕ, List, Result, Ok, Err}
use Rattle.zl_value.specs.declared.position.Pos.{Pos}
use Rattle.zl_lexer.specs.declared.token.LexAnswer.{LexAnswer}
use Rattle.zl_lexer.specs.declared.token.LexAnswer.TheVariants as answer
use Rattle.zl_lexer.specs.declared.token.Lexed.{Lexed}
use Rattle.zl_lexer.specs.declared.token.Token.{Token}
use Rattle.zl_lexer.specs.Tokens.{StopsAt}

-- the text stops where the answer says, and for this reason
abbrev pub IsRefusal : List ℕ → LexAnswer → Type 0
IsRefusal text answer.Memory = Unit {0}
IsRefusal text (answer.BadToken at) = StopsAt text (answer.BadToken at)
IsRefusal text (answer.Literal at) = StopsAt text (answer.Literal at)

-- the result is these tokens
abbrev pub GivesTokens : Result Lexed LexAnswer → List Token → List (List ℕ) → Pos → Type 0
GivesTokens (Ok l) tokens names end = (l.tokens ≡ tokens) × (l.names ≡ names) × (l.end ≡ end)
GivesTokens (Err answer.Memory) tokens names end = Unit {0}
GivesTokens (Err (answer.BadToken at)) tokens names end = ⊥
GivesTokens (Err (answer.Literal at)) tokens names end = ⊥

-- the result is this refusal
abbrev pub Refuses : Result Lexed LexAnswer → LexAnswer → Type 0
Refuses (Ok l) a = ⊥
Refuses (Err answer.Memory) a = Unit {0}
Refuses (Err (answer.BadToken at)) a = answer.BadToken at ≡ a
Refuses (Err (answer.Literal at)) a = answer.Literal at ≡ a
