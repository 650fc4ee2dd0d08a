use Rattle.std.proofs.Common.{◌≡◌, ◌-◌, ◌+◌, length, Ok, sym, subst, arith}
use Rattle.zl_lexer.specs.declared.token.TokenKind.TheVariants as kind
use Rattle.zl_lexer.specs.declared.token.Sign.TheVariants as sign
use Rattle.zl_ast.specs.Reading.{others, list_of}
use Rattle.zl_ast.specs.ReadingEquations.{reset_arm}
use Rattle.zl_parser.specs.Giving.{with_front}
use Rattle.zl_parser.proofs.Loops.{list_done, list_ends, list_fails, list_goes_on}
use Rattle.zl_parser.proofs.Stops.{stops}
use Rattle.zl_parser.proofs.variable.reset_arms.Goals.{else-loop-turn-test, then-loop-turn-test+in_default}
use Rattle.zl_parser.proofs.variable.reset_arms.Goals as goal

pub returns-in_err-next : goal.returns-in_err-next
returns-in_err-next c =
    stops _ c.from_residual-in_err-next.result c.in_err-next.field-0.0 _ c.from_residual-in_err-next.ensures.1
    (list_fails (kind.Sign sign.Bar) (reset_arm c.args.depth) c.loop-turn.arms.items (list_of (kind.Sign sign.Bar) (reset_arm c.args.depth) c.args.tokens.now) c.in_err-next.field-0.0 c.loop-turn._turn (length c.in_ok-first.after.now) c.loop-turn.rest.now c.in-Some.behind.now c.in-Some.field-0-0
    c.loop-turn-test.true c.in-Some.ensures c.in_err-next.ensures c.loop-turn.invariant)

pub loop-turn-preserved : goal.loop-turn-preserved
loop-turn-preserved c =
    subst (λ xs. with_front xs (others (kind.Sign sign.Bar) (reset_arm c.args.depth) ((length c.in_ok-first.after.now) - (c.loop-turn._turn + 1)) c.in_ok-next.behind.now) ≡ (list_of (kind.Sign sign.Bar) (reset_arm c.args.depth) c.args.tokens.now)) (sym c.in_ok-push.ensures.items)
    (list_goes_on (kind.Sign sign.Bar) (reset_arm c.args.depth) c.loop-turn.arms.items (list_of (kind.Sign sign.Bar) (reset_arm c.args.depth) c.args.tokens.now) c.loop-turn._turn (length c.in_ok-first.after.now) c.loop-turn.rest.now c.in-Some.behind.now c.in-Some.field-0-0 c.in_ok-next.next c.in_ok-next.behind.now
    c.loop-turn-test.true c.in-Some.ensures c.in_ok-next.ensures c.loop-turn.invariant)

pub returns : goal.returns
returns c =
    subst (λ xs. (list_of (kind.Sign sign.Bar) (reset_arm c.args.depth) c.args.tokens.now) ≡ Ok (xs, c.loop-turn.rest.now)) (sym c.from_vec.ensures)
    (elim c.loop-turn-test.branch [
      | else-loop-turn-test w ↦ list_done (kind.Sign sign.Bar) (reset_arm c.args.depth) c.loop-turn.arms.items (list_of (kind.Sign sign.Bar) (reset_arm c.args.depth) c.args.tokens.now) c.loop-turn._turn (length c.in_ok-first.after.now) c.loop-turn.rest.now (let h = w.loop-turn-test.false in omega arith) c.loop-turn.invariant
      | then-loop-turn-test+in_default w ↦ list_ends (kind.Sign sign.Bar) (reset_arm c.args.depth) c.loop-turn.arms.items (list_of (kind.Sign sign.Bar) (reset_arm c.args.depth) c.args.tokens.now) ((length c.in_ok-first.after.now) - c.loop-turn._turn) c.loop-turn.rest.now w.in_default.ensures c.loop-turn.invariant
    ])
