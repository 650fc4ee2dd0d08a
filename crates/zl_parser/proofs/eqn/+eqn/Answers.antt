use Rattle.std.proofs.Common.{◌≡◌, ◌-◌, ◌+◌, length, Ok, sym, ap, subst, ◌∙◌, arith}
use Rattle.zl_lexer.specs.declared.token.TokenKind.TheVariants as kind
use Rattle.zl_lexer.specs.declared.token.Sign.TheVariants as sign
use Rattle.zl_lexer.specs.declared.token.Word.TheVariants as word
use Rattle.zl_ast.specs.Reading.{others, list_of}
use Rattle.zl_ast.specs.ReadingEquations.{eqn, arm, state, do_eqs, read_eqs}
use Rattle.zl_parser.specs.Giving.{Fails, Gives, with_front}
use Rattle.zl_parser.specs.Blocks.{eqs_below}
use Rattle.zl_parser.proofs.Loops.{list_done, list_ends, list_fails, list_goes_on, list_stops}
use Rattle.zl_parser.proofs.Stops.{stops}
use Rattle.zl_parser.proofs.Depths.{none_inside}
use Rattle.zl_parser.proofs.BlockDepths.{read_eqs_is, eqs_inside, no_eqs, some_eqs}
use Rattle.zl_parser.proofs.eqn.+eqn.Goals.{eqs-else-loop-turn-test, eqs-then-loop-turn-test+in_default, arms-else-loop-turn-test, arms-then-loop-turn-test+in_default, states-else-loop-turn-test, states-then-loop-turn-test+in_default}
use Rattle.zl_parser.proofs.eqn.+eqn.Goals as goal

pub eqs-returns-in_err-first : goal.eqs-returns-in_err-first
eqs-returns-in_err-first t c =
    stops _ c.from_residual.result c.in_err-first.field-0.0 _ c.from_residual.ensures.1
    (subst (Fails c.in_err-first.field-0.0) (sym (read_eqs_is c.args.depth c.args.tokens.now)) (list_stops (kind.Word word.And) (eqn c.args.depth (eqs_below c.args.depth)) c.in_err-first.field-0.0 c.args.tokens.now c.in_err-first.ensures))

pub eqs-returns-in_err-next : goal.eqs-returns-in_err-next
eqs-returns-in_err-next t c =
    stops _ c.from_residual-in_err-next.result c.in_err-next.field-0.0 _ c.from_residual-in_err-next.ensures.1
    (subst (Fails c.in_err-next.field-0.0) (sym (read_eqs_is c.args.depth c.args.tokens.now)) (list_fails (kind.Word word.And) (eqn c.args.depth (eqs_below c.args.depth)) c.loop-turn.eqs.items (list_of (kind.Word word.And) (eqn c.args.depth (eqs_below c.args.depth)) c.args.tokens.now) c.in_err-next.field-0.0 c.loop-turn._turn (length c.in_ok-first.after.now) c.loop-turn.rest.now c.in-Some.behind.now c.in-Some.field-0-0
    c.loop-turn-test.true c.in-Some.ensures c.in_err-next.ensures c.loop-turn.invariant))

pub eqs-loop-turn-preserved : goal.eqs-loop-turn-preserved
eqs-loop-turn-preserved t c =
    subst (λ xs. with_front xs (others (kind.Word word.And) (eqn c.args.depth (eqs_below c.args.depth)) ((length c.in_ok-first.after.now) - (c.loop-turn._turn + 1)) c.in_ok-next.behind.now) ≡ (list_of (kind.Word word.And) (eqn c.args.depth (eqs_below c.args.depth)) c.args.tokens.now)) (sym c.in_ok-push.ensures.items)
    (list_goes_on (kind.Word word.And) (eqn c.args.depth (eqs_below c.args.depth)) c.loop-turn.eqs.items (list_of (kind.Word word.And) (eqn c.args.depth (eqs_below c.args.depth)) c.args.tokens.now) c.loop-turn._turn (length c.in_ok-first.after.now) c.loop-turn.rest.now c.in-Some.behind.now c.in-Some.field-0-0 c.in_ok-next.next c.in_ok-next.behind.now
    c.loop-turn-test.true c.in-Some.ensures c.in_ok-next.ensures c.loop-turn.invariant)

pub eqs-returns : goal.eqs-returns
eqs-returns t c =
    subst (λ xs. read_eqs c.args.depth c.args.tokens.now ≡ Ok (xs, c.loop-turn.rest.now)) (sym c.from_vec.ensures)
    (read_eqs_is c.args.depth c.args.tokens.now ∙ elim c.loop-turn-test.branch [
      | eqs-else-loop-turn-test w ↦ list_done (kind.Word word.And) (eqn c.args.depth (eqs_below c.args.depth)) c.loop-turn.eqs.items (list_of (kind.Word word.And) (eqn c.args.depth (eqs_below c.args.depth)) c.args.tokens.now) c.loop-turn._turn (length c.in_ok-first.after.now) c.loop-turn.rest.now (let h = w.loop-turn-test.false in omega arith) c.loop-turn.invariant
      | eqs-then-loop-turn-test+in_default w ↦ list_ends (kind.Word word.And) (eqn c.args.depth (eqs_below c.args.depth)) c.loop-turn.eqs.items (list_of (kind.Word word.And) (eqn c.args.depth (eqs_below c.args.depth)) c.args.tokens.now) ((length c.in_ok-first.after.now) - c.loop-turn._turn) c.loop-turn.rest.now w.in_default.ensures c.loop-turn.invariant
    ])

pub arms-returns-in_err-next : goal.arms-returns-in_err-next
arms-returns-in_err-next t c =
    stops _ c.from_residual-in_err-next.result c.in_err-next.field-0.0 _ c.from_residual-in_err-next.ensures.1
    (list_fails (kind.Sign sign.Bar) (arm c.args.depth (eqs_below c.args.depth)) c.loop-turn.arms.items (list_of (kind.Sign sign.Bar) (arm c.args.depth (eqs_below c.args.depth)) c.args.tokens.now) c.in_err-next.field-0.0 c.loop-turn._turn (length c.in_ok-first.after.now) c.loop-turn.rest.now c.in-Some.behind.now c.in-Some.field-0-0
    c.loop-turn-test.true c.in-Some.ensures c.in_err-next.ensures c.loop-turn.invariant)

pub arms-loop-turn-preserved : goal.arms-loop-turn-preserved
arms-loop-turn-preserved t c =
    subst (λ xs. with_front xs (others (kind.Sign sign.Bar) (arm c.args.depth (eqs_below c.args.depth)) ((length c.in_ok-first.after.now) - (c.loop-turn._turn + 1)) c.in_ok-next.behind.now) ≡ (list_of (kind.Sign sign.Bar) (arm c.args.depth (eqs_below c.args.depth)) c.args.tokens.now)) (sym c.in_ok-push.ensures.items)
    (list_goes_on (kind.Sign sign.Bar) (arm c.args.depth (eqs_below c.args.depth)) c.loop-turn.arms.items (list_of (kind.Sign sign.Bar) (arm c.args.depth (eqs_below c.args.depth)) c.args.tokens.now) c.loop-turn._turn (length c.in_ok-first.after.now) c.loop-turn.rest.now c.in-Some.behind.now c.in-Some.field-0-0 c.in_ok-next.next c.in_ok-next.behind.now
    c.loop-turn-test.true c.in-Some.ensures c.in_ok-next.ensures c.loop-turn.invariant)

pub arms-returns : goal.arms-returns
arms-returns t c =
    subst (λ xs. (list_of (kind.Sign sign.Bar) (arm c.args.depth (eqs_below c.args.depth)) c.args.tokens.now) ≡ Ok (xs, c.loop-turn.rest.now)) (sym c.from_vec.ensures)
    (elim c.loop-turn-test.branch [
      | arms-else-loop-turn-test w ↦ list_done (kind.Sign sign.Bar) (arm c.args.depth (eqs_below c.args.depth)) c.loop-turn.arms.items (list_of (kind.Sign sign.Bar) (arm c.args.depth (eqs_below c.args.depth)) c.args.tokens.now) c.loop-turn._turn (length c.in_ok-first.after.now) c.loop-turn.rest.now (let h = w.loop-turn-test.false in omega arith) c.loop-turn.invariant
      | arms-then-loop-turn-test+in_default w ↦ list_ends (kind.Sign sign.Bar) (arm c.args.depth (eqs_below c.args.depth)) c.loop-turn.arms.items (list_of (kind.Sign sign.Bar) (arm c.args.depth (eqs_below c.args.depth)) c.args.tokens.now) ((length c.in_ok-first.after.now) - c.loop-turn._turn) c.loop-turn.rest.now w.in_default.ensures c.loop-turn.invariant
    ])

pub states-returns-in_err-next : goal.states-returns-in_err-next
states-returns-in_err-next t c =
    stops _ c.from_residual-in_err-next.result c.in_err-next.field-0.0 _ c.from_residual-in_err-next.ensures.1
    (list_fails (kind.Sign sign.Bar) (state c.args.depth (eqs_below c.args.depth)) c.loop-turn.states.items (list_of (kind.Sign sign.Bar) (state c.args.depth (eqs_below c.args.depth)) c.args.tokens.now) c.in_err-next.field-0.0 c.loop-turn._turn (length c.in_ok-first.after.now) c.loop-turn.rest.now c.in-Some.behind.now c.in-Some.field-0-0
    c.loop-turn-test.true c.in-Some.ensures c.in_err-next.ensures c.loop-turn.invariant)

pub states-loop-turn-preserved : goal.states-loop-turn-preserved
states-loop-turn-preserved t c =
    subst (λ xs. with_front xs (others (kind.Sign sign.Bar) (state c.args.depth (eqs_below c.args.depth)) ((length c.in_ok-first.after.now) - (c.loop-turn._turn + 1)) c.in_ok-next.behind.now) ≡ (list_of (kind.Sign sign.Bar) (state c.args.depth (eqs_below c.args.depth)) c.args.tokens.now)) (sym c.in_ok-push.ensures.items)
    (list_goes_on (kind.Sign sign.Bar) (state c.args.depth (eqs_below c.args.depth)) c.loop-turn.states.items (list_of (kind.Sign sign.Bar) (state c.args.depth (eqs_below c.args.depth)) c.args.tokens.now) c.loop-turn._turn (length c.in_ok-first.after.now) c.loop-turn.rest.now c.in-Some.behind.now c.in-Some.field-0-0 c.in_ok-next.next c.in_ok-next.behind.now
    c.loop-turn-test.true c.in-Some.ensures c.in_ok-next.ensures c.loop-turn.invariant)

pub states-returns : goal.states-returns
states-returns t c =
    subst (λ xs. (list_of (kind.Sign sign.Bar) (state c.args.depth (eqs_below c.args.depth)) c.args.tokens.now) ≡ Ok (xs, c.loop-turn.rest.now)) (sym c.from_vec.ensures)
    (elim c.loop-turn-test.branch [
      | states-else-loop-turn-test w ↦ list_done (kind.Sign sign.Bar) (state c.args.depth (eqs_below c.args.depth)) c.loop-turn.states.items (list_of (kind.Sign sign.Bar) (state c.args.depth (eqs_below c.args.depth)) c.args.tokens.now) c.loop-turn._turn (length c.in_ok-first.after.now) c.loop-turn.rest.now (let h = w.loop-turn-test.false in omega arith) c.loop-turn.invariant
      | states-then-loop-turn-test+in_default w ↦ list_ends (kind.Sign sign.Bar) (state c.args.depth (eqs_below c.args.depth)) c.loop-turn.states.items (list_of (kind.Sign sign.Bar) (state c.args.depth (eqs_below c.args.depth)) c.args.tokens.now) ((length c.in_ok-first.after.now) - c.loop-turn._turn) c.loop-turn.rest.now w.in_default.ensures c.loop-turn.invariant
    ])

pub do_eqs-returns-then-depth-eq0-clause-eqs : goal.do_eqs-returns-then-depth-eq0-clause-eqs
do_eqs-returns-then-depth-eq0-clause-eqs t c = none_inside c.args.depth (do_eqs (eqs_below c.args.depth)) c.args.tokens.now c.if-depth-eq0.true

pub do_eqs-returns-then-ends_do-clause-eqs : goal.do_eqs-returns-then-ends_do-clause-eqs
do_eqs-returns-then-ends_do-clause-eqs t c =
    no_eqs c.args.depth c.args.tokens.now (omega arith) (sym c.ends_do.ensures ∙ c.if-ends_do.true) ∙ ap (λ xs. Ok (xs, c.args.tokens.now)) (sym c.new.ensures)

pub do_eqs-returns-clause-eqs : goal.do_eqs-returns-clause-eqs
do_eqs-returns-clause-eqs t c =
    subst (Gives _ c.eqs.result) (sym (some_eqs c.args.depth c.args.tokens.now (omega arith) (sym c.ends_do.ensures ∙ c.if-ends_do.false))) c.eqs.ensures

pub below-returns-then-depth-eq0-clause-eqs : goal.below-returns-then-depth-eq0-clause-eqs
below-returns-then-depth-eq0-clause-eqs t c = none_inside c.args.depth (eqs_below c.args.depth) c.args.tokens.now c.if-depth-eq0.true

pub below-returns-clause-eqs : goal.below-returns-clause-eqs
below-returns-clause-eqs t c = subst (Gives _ c.eqs.result) (sym (eqs_inside c.args.depth c.args.tokens.now (omega arith))) c.eqs.ensures
