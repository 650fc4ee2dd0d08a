use Rattle.std.proofs.Common.{◌≡◌, ◌-◌}
use Rattle.zl_ast.specs.ReadingEquations.{alts, move_from}
use Rattle.zl_parser.specs.Giving.{with_front}
use Rattle.zl_parser.proofs.moves.alternatives.Given as goal

abbrev pub invariant-loop-turn : goal.invariant-loop-turn
invariant-loop-turn l =
    with_front l.moves.items (alts l.depth l.strong (l._turn-end - l._turn) l.rest) ≡ move_from l.depth l.strong l.fn.at l.tokens
