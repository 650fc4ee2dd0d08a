use Rattle.std.proofs.Common.{◌≡◌, ◌-◌}
use Rattle.zl_lexer.specs.declared.token.TokenKind.TheVariants as kind
use Rattle.zl_lexer.specs.declared.token.Sign.TheVariants as sign
use Rattle.zl_ast.specs.Reading.{others, list_of}
use Rattle.zl_ast.specs.ReadingEquations.{up}
use Rattle.zl_parser.specs.Giving.{with_front}
use Rattle.zl_parser.proofs.cond.event.Given as goal

abbrev pub invariant-loop-turn : goal.invariant-loop-turn
invariant-loop-turn l =
    with_front l.ups.items (others (kind.Sign sign.Bar) (up l.depth) (l._turn-end - l._turn) l.rest) ≡ list_of (kind.Sign sign.Bar) (up l.depth) l.tokens
