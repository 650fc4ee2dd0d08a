-- An answer is the only one of its text.
use Rattle.std.proofs.Common.{ℕ, List, Result, Ok, Err}
use Rattle.std.specs.Prelude.{IfOk, IfErr}
use Rattle.zl_value.specs.declared.position.Pos.{Pos}
use Rattle.zl_lexer.specs.declared.token.LexAnswer.{LexAnswer}
use Rattle.zl_lexer.specs.declared.token.LexAnswer.TheVariants as answer
use Rattle.zl_lexer.specs.declared.token.Lexed.{Lexed}
use Rattle.zl_lexer.specs.declared.token.Token.{Token}
use Rattle.zl_lexer.specs.Answers.{IsRefusal, GivesTokens, Refuses}
use Rattle.zl_lexer.specs.Tokens.{IsLexed, StopsAt}
use Rattle.zl_lexer.proofs.ReadingLemmas.{one_list, one_stop, never_both}

pub gives_tokens : (text : List ℕ) (r : Result Lexed LexAnswer) → IfOk r (λ l. IsLexed text l.tokens l.names l.end) → IfErr r (IsRefusal text)
    → (tokens : List Token) (names : List (List ℕ)) (end : Pos) → IsLexed text tokens names end → GivesTokens r tokens names end
gives_tokens text (Ok l) ok err tokens names end h = one_list text l.tokens tokens l.names names l.end end ok h
gives_tokens text (Err answer.Memory) ok err tokens names end h = tt
gives_tokens text (Err (answer.BadToken at)) ok err tokens names end h = never_both text tokens names end (answer.BadToken at) h err
gives_tokens text (Err (answer.Literal at)) ok err tokens names end h = never_both text tokens names end (answer.Literal at) h err

pub gives_refusal : (text : List ℕ) (r : Result Lexed LexAnswer) → IfOk r (λ l. IsLexed text l.tokens l.names l.end) → IfErr r (IsRefusal text)
    → (a : LexAnswer) → StopsAt text a → Refuses r a
gives_refusal text (Ok l) ok err a h = never_both text l.tokens l.names l.end a ok h
gives_refusal text (Err answer.Memory) ok err a h = tt
gives_refusal text (Err (answer.BadToken at)) ok err a h = one_stop text (answer.BadToken at) a err h
gives_refusal text (Err (answer.Literal at)) ok err a h = one_stop text (answer.Literal at) a err h
