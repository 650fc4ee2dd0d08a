use Rattle.std.proofs.Common.{◌≡◌, ◌-◌, length}
use Rattle.zl_ast.specs.ReadingEquations.{moves}
use Rattle.zl_parser.specs.Giving.{with_front}
use Rattle.zl_parser.proofs.moves.more_moves.Given as goal

abbrev pub invariant-loop-turn : goal.invariant-loop-turn
invariant-loop-turn l =
    with_front l.moves (moves l.depth (l._turn-end - l._turn) l.rest) ≡ with_front l.fn.moves (moves l.depth (length l.tokens) l.tokens)
