use Rattle.std.proofs.Common.{◌≡◌, ◌-◌, ◌+◌, length, sym, subst, arith}
use Rattle.zl_ast.specs.ReadingEquations.{moves}
use Rattle.zl_parser.specs.Giving.{with_front}
use Rattle.zl_parser.proofs.MoveLoops.{moves_are_done, moves_are_over, move_fails, moves_go_on}
use Rattle.zl_parser.proofs.Stops.{stops}
use Rattle.zl_parser.proofs.moves.more_moves.Goals.{else-loop-turn-test, then-loop-turn-test+in_default}
use Rattle.zl_parser.proofs.moves.more_moves.Goals as goal

pub returns-in_err-next : goal.returns-in_err-next
returns-in_err-next c =
    stops _ c.from_residual.result c.in_err-next.field-0.0 _ c.from_residual.ensures.1
    (move_fails c.args.depth c.loop-turn.moves (with_front c.args.moves (moves c.args.depth (length c.args.tokens.now) c.args.tokens.now)) c.in_err-next.field-0.0 c.loop-turn._turn (length c.args.tokens.now)
    c.loop-turn.rest.now c.in-Some.behind.now c.in-Some.strong c.in-Some.at c.loop-turn-test.true c.in-Some.ensures c.in_err-next.ensures c.loop-turn.invariant)

pub loop-turn-preserved : goal.loop-turn-preserved
loop-turn-preserved c =
    subst (λ xs. with_front xs (moves c.args.depth (length c.args.tokens.now - (c.loop-turn._turn + 1)) c.in_ok-next.behind.now) ≡ with_front c.args.moves (moves c.args.depth (length c.args.tokens.now) c.args.tokens.now))
    (sym c.in_ok-append.ensures)
    (moves_go_on c.args.depth c.loop-turn.moves (with_front c.args.moves (moves c.args.depth (length c.args.tokens.now) c.args.tokens.now)) c.loop-turn._turn (length c.args.tokens.now)
    c.loop-turn.rest.now c.in-Some.behind.now c.in-Some.strong c.in-Some.at c.in_ok-next.next c.in_ok-next.behind.now c.loop-turn-test.true c.in-Some.ensures c.in_ok-next.ensures c.loop-turn.invariant)

pub returns : goal.returns
returns c =
    (elim c.loop-turn-test.branch [
      | else-loop-turn-test w ↦ moves_are_done c.args.depth c.loop-turn.moves (with_front c.args.moves (moves c.args.depth (length c.args.tokens.now) c.args.tokens.now)) c.loop-turn._turn (length c.args.tokens.now)
          c.loop-turn.rest.now (let h = w.loop-turn-test.false in omega arith) c.loop-turn.invariant
      | then-loop-turn-test+in_default w ↦ moves_are_over c.args.depth c.loop-turn.moves (with_front c.args.moves (moves c.args.depth (length c.args.tokens.now) c.args.tokens.now))
          (length c.args.tokens.now - c.loop-turn._turn) c.loop-turn.rest.now w.in_default.ensures.is_next c.loop-turn.invariant
    ])
