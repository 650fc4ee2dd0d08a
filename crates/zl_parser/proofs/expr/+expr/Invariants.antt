use Rattle.std.proofs.Common.{◌≡◌, ◌+◌, ◌*◌, ◌-◌, length}
use Rattle.zl_lexer.specs.declared.token.TokenKind.TheVariants as kind
use Rattle.zl_lexer.specs.declared.token.Sign.TheVariants as sign
use Rattle.zl_ast.specs.Reading.{others, list_of}
use Rattle.zl_ast.specs.ReadingExpressions.{links}
use Rattle.zl_ast.specs.ReadingEquations.{expr_below}
use Rattle.zl_parser.specs.Giving.{with_front}
use Rattle.zl_parser.specs.Levels.{operator_of, part_of}
use Rattle.zl_parser.proofs.Ranks.{rank}
use Rattle.zl_parser.proofs.expr.+expr.Given as goal

abbrev pub decreases-expr : goal.decreases-expr
decreases-expr l = l.depth * 1024 + 31

abbrev pub decreases-choice : goal.decreases-choice
decreases-choice l = l.depth * 1024 + 30

abbrev pub decreases-flow : goal.decreases-flow
decreases-flow l = l.depth * 1024 + 30

abbrev pub decreases-chain : goal.decreases-chain
decreases-chain l = l.depth * 1024 + rank l.level + 1

abbrev pub decreases-part : goal.decreases-part
decreases-part l = l.depth * 1024 + rank l.level

abbrev pub decreases-comparison : goal.decreases-comparison
decreases-comparison l = l.depth * 1024 + 25

abbrev pub decreases-pref : goal.decreases-pref
decreases-pref l = l.depth * 1024 + 19

abbrev pub decreases-atom : goal.decreases-atom
decreases-atom l = l.depth * 1024 + 18

abbrev pub decreases-name_or_call : goal.decreases-name_or_call
decreases-name_or_call l = l.depth * 1024 + 17

abbrev pub decreases-args : goal.decreases-args
decreases-args l = l.depth * 1024 + 16

abbrev pub decreases-exprs : goal.decreases-exprs
decreases-exprs l = l.depth * 1024 + 15

abbrev pub decreases-operand : goal.decreases-operand
decreases-operand l = l.depth * 1024 + 2

abbrev pub decreases-below : goal.decreases-below
decreases-below l = l.depth * 1024 + 2

abbrev pub invariant-chain-loop-turn : goal.invariant-chain-loop-turn
invariant-chain-loop-turn l =
    (with_front l.links.items (links (operator_of l.level) (part_of l.level l.depth) (l._turn-end - l._turn) l.rest)
    ≡ links (operator_of l.level) (part_of l.level l.depth) (length l.initial.rest) l.initial.rest) × (l.first ≡ l.initial.first)

abbrev pub invariant-exprs-loop-turn : goal.invariant-exprs-loop-turn
invariant-exprs-loop-turn l =
    with_front l.exprs.items (others (kind.Sign sign.Comma) (expr_below l.depth) (l._turn-end - l._turn) l.rest)
    ≡ list_of (kind.Sign sign.Comma) (expr_below l.depth) l.fn.tokens
