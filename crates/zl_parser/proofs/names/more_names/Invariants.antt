use Rattle.std.proofs.Common.{◌≡◌, ◌-◌}
use Rattle.zl_lexer.specs.declared.token.TokenKind.TheVariants as kind
use Rattle.zl_lexer.specs.declared.token.Sign.TheVariants as sign
use Rattle.zl_ast.specs.Reading.{others, list_of, name}
use Rattle.zl_parser.specs.Giving.{with_front}
use Rattle.zl_parser.proofs.names.more_names.Given as goal

abbrev pub invariant-loop-turn : goal.invariant-loop-turn
invariant-loop-turn l =
    with_front l.names.items (others (kind.Sign sign.Comma) name (l._turn-end - l._turn) l.rest)
    ≡ with_front l.fn.names.items (list_of (kind.Sign sign.Comma) name l.tokens)
