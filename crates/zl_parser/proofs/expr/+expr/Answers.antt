use Rattle.std.proofs.Common.{◌≡◌, ◌-◌, ◌+◌, length, true, false, Ok, sym, ap, subst, ◌∙◌, arith}
use Rattle.zl_lexer.specs.declared.token.TokenKind.TheVariants as kind
use Rattle.zl_lexer.specs.declared.token.Sign.TheVariants as sign
use Rattle.zl_ast.specs.Reading.{others, list_of}
use Rattle.zl_ast.specs.ReadingEquations.{expr_below}
use Rattle.zl_ast.specs.ReadingExpressions as spec
use Rattle.zl_ast.specs.declared.expr.Expr.TheVariants as tree
use Rattle.zl_ast.specs.Expressions.{chained}
use Rattle.zl_parser.specs.Giving.{Gives, with_front}
use Rattle.zl_parser.specs.Levels.{operator_of, part_of, pref_below}
use Rattle.zl_parser.proofs.Links.{chain_done, chain_ends, chain_fails, chain_goes_on}
use Rattle.zl_parser.proofs.Depths.{expr_is, pref_is, none_inside, read_inside, expr_below_is, pref_below_is, no_prefix, negative, operand_fails, prefixed}
use Rattle.zl_parser.proofs.Loops.{list_done, list_ends, list_fails, list_goes_on}
use Rattle.zl_parser.proofs.Stops.{stops}
use Rattle.zl_parser.proofs.expr.+expr.Goals.{exprs-else-loop-turn-test, exprs-then-loop-turn-test+in_default, chain-else-loop-turn-test, chain-then-loop-turn-test+in_default}
use Rattle.zl_parser.proofs.expr.+expr.Goals as goal

pub exprs-returns-in_err-next : goal.exprs-returns-in_err-next
exprs-returns-in_err-next t c =
    stops _ c.from_residual-in_err-next.result c.in_err-next.field-0.0 _ c.from_residual-in_err-next.ensures.1
    (list_fails (kind.Sign sign.Comma) (expr_below c.args.depth) c.loop-turn.exprs.items (list_of (kind.Sign sign.Comma) (expr_below c.args.depth) c.args.tokens.now) c.in_err-next.field-0.0 c.loop-turn._turn (length c.in_ok-first.after.now) c.loop-turn.rest.now c.in-Some.behind.now c.in-Some.field-0-0
    c.loop-turn-test.true c.in-Some.ensures c.in_err-next.ensures.expr c.loop-turn.invariant)

pub exprs-loop-turn-preserved : goal.exprs-loop-turn-preserved
exprs-loop-turn-preserved t c =
    subst (λ xs. with_front xs (others (kind.Sign sign.Comma) (expr_below c.args.depth) ((length c.in_ok-first.after.now) - (c.loop-turn._turn + 1)) c.in_ok-next.behind.now) ≡ (list_of (kind.Sign sign.Comma) (expr_below c.args.depth) c.args.tokens.now)) (sym c.in_ok-push.ensures.items)
    (list_goes_on (kind.Sign sign.Comma) (expr_below c.args.depth) c.loop-turn.exprs.items (list_of (kind.Sign sign.Comma) (expr_below c.args.depth) c.args.tokens.now) c.loop-turn._turn (length c.in_ok-first.after.now) c.loop-turn.rest.now c.in-Some.behind.now c.in-Some.field-0-0 c.in_ok-next.next c.in_ok-next.behind.now
    c.loop-turn-test.true c.in-Some.ensures c.in_ok-next.ensures.expr c.loop-turn.invariant)

pub exprs-returns : goal.exprs-returns
exprs-returns t c =
    subst (λ xs. (list_of (kind.Sign sign.Comma) (expr_below c.args.depth) c.args.tokens.now) ≡ Ok (xs, c.loop-turn.rest.now)) (sym c.from_vec.ensures)
    (elim c.loop-turn-test.branch [
      | exprs-else-loop-turn-test w ↦ list_done (kind.Sign sign.Comma) (expr_below c.args.depth) c.loop-turn.exprs.items (list_of (kind.Sign sign.Comma) (expr_below c.args.depth) c.args.tokens.now) c.loop-turn._turn (length c.in_ok-first.after.now) c.loop-turn.rest.now (let h = w.loop-turn-test.false in omega arith) c.loop-turn.invariant
      | exprs-then-loop-turn-test+in_default w ↦ list_ends (kind.Sign sign.Comma) (expr_below c.args.depth) c.loop-turn.exprs.items (list_of (kind.Sign sign.Comma) (expr_below c.args.depth) c.args.tokens.now) ((length c.in_ok-first.after.now) - c.loop-turn._turn) c.loop-turn.rest.now w.in_default.ensures c.loop-turn.invariant
    ])

pub expr-returns-then-has_word : goal.expr-returns-then-has_word
expr-returns-then-has_word t c =
    subst (Gives _ c.choice.result) (sym (expr_is c.args.depth c.args.tokens.now true (sym c.has_word.ensures ∙ c.if-has_word.true))) c.choice.ensures

pub expr-returns-else-has_word : goal.expr-returns-else-has_word
expr-returns-else-has_word t c =
    subst (Gives _ c.flow.result) (sym (expr_is c.args.depth c.args.tokens.now false (sym c.has_word.ensures ∙ c.if-has_word.false))) c.flow.ensures

pub chain-returns-in_err-arg : goal.chain-returns-in_err-arg
chain-returns-in_err-arg t c =
    stops _ c.from_residual-in_err-arg.result c.in_err-arg.field-0.0 _ c.from_residual-in_err-arg.ensures.1
    (chain_fails (operator_of c.args.level) (part_of c.args.level c.args.depth) c.in_err-arg.field-0.0 c.loop-turn.links.items c.loop-turn._turn (length c.in_ok-first.after.now) c.args.tokens.now c.in_ok-first.first c.in_ok-first.after.now
    c.loop-turn.rest.now c.in-Some.behind.now c.in-Some.op c.in-Some.at c.in_ok-first.ensures c.loop-turn-test.true c.in-Some.ensures c.in_err-arg.ensures c.loop-turn.invariant.0)

pub chain-loop-turn-preserved : goal.chain-loop-turn-preserved
chain-loop-turn-preserved t c = (
  subst (λ xs. with_front xs (spec.links (operator_of c.args.level) (part_of c.args.level c.args.depth) (length c.in_ok-first.after.now - (c.loop-turn._turn + 1)) c.in_ok-arg.behind.now) ≡ spec.links (operator_of c.args.level) (part_of c.args.level c.args.depth) (length c.in_ok-first.after.now) c.in_ok-first.after.now) (sym c.in_ok-put.ensures)
      (chain_goes_on (operator_of c.args.level) (part_of c.args.level c.args.depth) c.loop-turn.links.items c.loop-turn._turn (length c.in_ok-first.after.now) c.in_ok-first.after.now c.loop-turn.rest.now c.in-Some.behind.now c.in-Some.op c.in-Some.at
      c.in_ok-arg.arg c.in_ok-arg.behind.now c.loop-turn-test.true c.in-Some.ensures c.in_ok-arg.ensures c.loop-turn.invariant.0),
  c.loop-turn.invariant.1,
)

pub chain-returns : goal.chain-returns
chain-returns t c =
    subst (λ x. spec.level (operator_of c.args.level) (part_of c.args.level c.args.depth) c.args.tokens.now ≡ Ok (x, c.loop-turn.rest.now)) (ap (λ x. chained x c.loop-turn.links.items) (sym c.loop-turn.invariant.1) ∙ sym c.in_ok-chained.ensures)
    (elim c.loop-turn-test.branch [
      | chain-else-loop-turn-test w ↦ chain_done (operator_of c.args.level) (part_of c.args.level c.args.depth) c.loop-turn.links.items c.loop-turn._turn (length c.in_ok-first.after.now) c.args.tokens.now c.in_ok-first.first c.in_ok-first.after.now c.loop-turn.rest.now
          c.in_ok-first.ensures (let h = w.loop-turn-test.false in omega arith) c.loop-turn.invariant.0
      | chain-then-loop-turn-test+in_default w ↦ chain_ends (operator_of c.args.level) (part_of c.args.level c.args.depth) c.loop-turn.links.items (length c.in_ok-first.after.now - c.loop-turn._turn) c.args.tokens.now c.in_ok-first.first c.in_ok-first.after.now c.loop-turn.rest.now
          c.in_ok-first.ensures w.in_default.ensures.is_next c.loop-turn.invariant.0
    ])

pub pref-returns-in_default : goal.pref-returns-in_default
pref-returns-in_default t c =
    subst (Gives _ c.atom.result) (sym (no_prefix c.args.depth (expr_below c.args.depth) (pref_below c.args.depth) c.args.tokens.now c.in_default.ensures.is_next)) c.atom.ensures

pub pref-returns-in-Some-negative : goal.pref-returns-in-Some-negative
pref-returns-in-Some-negative t c =
    negative c.args.depth (expr_below c.args.depth) (pref_below c.args.depth) c.args.tokens.now c.in-Some.op c.in-Some.at c.in-Some.rest.now c.in-Some-negative.literal.0 c.in-Some.ensures c.in-Some-negative.ensures.0
    ∙ ap (λ ts. Ok (c.in-Some-negative.literal.0, ts)) (sym c.in-Some-negative.ensures.1)

pub pref-returns-in_err-arg : goal.pref-returns-in_err-arg
pref-returns-in_err-arg t c =
    stops _ c.from_residual.result c.in_err-arg.field-0.0 _ c.from_residual.ensures.1
    (operand_fails c.in_err-arg.field-0.0 c.args.depth (expr_below c.args.depth) (pref_below c.args.depth) c.args.tokens.now c.in-Some.op c.in-Some.at c.in-Some.rest.now c.in-Some.ensures
    c.in_default-negative.ensures c.in_err-arg.ensures)

pub pref-returns : goal.pref-returns
pref-returns t c =
    prefixed c.args.depth (expr_below c.args.depth) (pref_below c.args.depth) c.args.tokens.now c.in-Some.op c.in-Some.at c.in-Some.rest.now c.in_ok-arg.arg c.in_ok-arg.rest.now c.in-Some.ensures
    c.in_default-negative.ensures c.in_ok-arg.ensures ∙ ap (λ x. Ok (tree.Prefix c.in-Some.op c.in-Some.at x, c.in_ok-arg.rest.now)) (sym c.in_ok-arg-2.ensures)

pub operand-returns : goal.operand-returns
operand-returns t c =
    subst (Gives _ c.pref.result) (sym (read_inside c.args.depth (pref_below c.args.depth) c.args.tokens.now (omega arith) ∙ pref_below_is c.args.depth c.args.tokens.now (omega arith)
    ∙ pref_is (c.args.depth - 1) c.args.tokens.now)) c.pref.ensures

pub below-returns-then-depth-eq0-clause-inside : goal.below-returns-then-depth-eq0-clause-inside
below-returns-then-depth-eq0-clause-inside t c = none_inside c.args.depth (expr_below c.args.depth) c.args.tokens.now c.if-depth-eq0.true

pub below-returns-clause-inside : goal.below-returns-clause-inside
below-returns-clause-inside t c =
    subst (Gives _ c.expr.result) (sym (read_inside c.args.depth (expr_below c.args.depth) c.args.tokens.now (omega arith) ∙ expr_below_is c.args.depth c.args.tokens.now (omega arith))) c.expr.ensures
