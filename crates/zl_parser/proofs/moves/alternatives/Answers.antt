use Rattle.std.proofs.Common.{◌≡◌, ◌-◌, ◌+◌, length, Ok, sym, subst, arith}
use Rattle.zl_ast.specs.ReadingEquations.{alts, move_from}
use Rattle.zl_parser.specs.Giving.{with_front}
use Rattle.zl_parser.proofs.MoveLoops.{alternatives_done, alternatives_end, alternative_fails, alternatives_go_on}
use Rattle.zl_parser.proofs.Stops.{stops}
use Rattle.zl_parser.proofs.moves.alternatives.Goals.{else-loop-turn-test, then-loop-turn-test+in_default}
use Rattle.zl_parser.proofs.moves.alternatives.Goals as goal

pub returns-in_err-next : goal.returns-in_err-next
returns-in_err-next c =
    stops _ c.from_residual-in_err-next.result c.in_err-next.field-0.0 _ c.from_residual-in_err-next.ensures.1
    (alternative_fails c.args.depth c.args.strong c.loop-turn.moves.items (move_from c.args.depth c.args.strong c.args.at c.args.tokens.now) c.in_err-next.field-0.0 c.loop-turn._turn (length c.in_ok-first.after.now)
    c.loop-turn.rest.now c.in-Some.behind.now c.in-Some.at c.loop-turn-test.true c.in-Some.ensures c.in_err-next.ensures c.loop-turn.invariant)

pub loop-turn-preserved : goal.loop-turn-preserved
loop-turn-preserved c =
    subst (λ xs. with_front xs (alts c.args.depth c.args.strong (length c.in_ok-first.after.now - (c.loop-turn._turn + 1)) c.in_ok-next.behind.now) ≡ move_from c.args.depth c.args.strong c.args.at c.args.tokens.now)
    (sym c.in_ok-push.ensures.items)
    (alternatives_go_on c.args.depth c.args.strong c.loop-turn.moves.items (move_from c.args.depth c.args.strong c.args.at c.args.tokens.now) c.loop-turn._turn (length c.in_ok-first.after.now)
    c.loop-turn.rest.now c.in-Some.behind.now c.in-Some.at c.in_ok-next.next c.in_ok-next.behind.now c.loop-turn-test.true c.in-Some.ensures c.in_ok-next.ensures c.loop-turn.invariant)

pub returns : goal.returns
returns c =
    subst (λ xs. move_from c.args.depth c.args.strong c.args.at c.args.tokens.now ≡ Ok (xs, c.loop-turn.rest.now)) (sym c.from_vec.ensures)
    (elim c.loop-turn-test.branch [
      | else-loop-turn-test w ↦ alternatives_done c.args.depth c.args.strong c.loop-turn.moves.items (move_from c.args.depth c.args.strong c.args.at c.args.tokens.now) c.loop-turn._turn (length c.in_ok-first.after.now)
          c.loop-turn.rest.now (let h = w.loop-turn-test.false in omega arith) c.loop-turn.invariant
      | then-loop-turn-test+in_default w ↦ alternatives_end c.args.depth c.args.strong c.loop-turn.moves.items (move_from c.args.depth c.args.strong c.args.at c.args.tokens.now)
          (length c.in_ok-first.after.now - c.loop-turn._turn) c.loop-turn.rest.now w.in_default.ensures c.loop-turn.invariant
    ])
