use Rattle.std.proofs.Common.{◌≡◌, ◌-◌, ◌+◌, length, [], Ok, sym, ap, subst, ◌∙◌, arith}
use Rattle.zl_ast.specs.ReadingDeclarations.{decls, read_program}
use Rattle.zl_parser.proofs.DeclLoops.{with_decls, decls_begin, decls_end, decls_left, decl_fails, decls_go_on, is_empty, not_empty}
use Rattle.zl_parser.proofs.Stops.{stops}
use Rattle.zl_parser.proofs.decl.decls.Goals.{else-loop-turn-test, then-loop-turn-test+then-is_empty}
use Rattle.zl_parser.proofs.decl.decls.Goals as goal

pub loop-turn-init : goal.loop-turn-init
loop-turn-init c =
    subst (λ ds. with_decls ds (decls c.args.depth (length c.args.tokens.now - 0) c.args.tokens.now) ≡ read_program c.args.depth c.args.tokens.now) (sym c.new-decls.ensures.items)
    (let none : length c.args.tokens.now - 0 ≡ length c.args.tokens.now = omega arith in
    ap (λ k. with_decls [] (decls c.args.depth k c.args.tokens.now)) none ∙ decls_begin c.args.depth c.args.tokens.now)

pub returns-in_err-next : goal.returns-in_err-next
returns-in_err-next c =
    stops _ c.from_residual.result c.in_err-next.field-0.0 _ c.from_residual.ensures.1
    (decl_fails c.args.depth c.loop-turn.decls.items (read_program c.args.depth c.args.tokens.now) c.in_err-next.field-0.0 c.loop-turn._turn (length c.args.tokens.now) c.loop-turn.rest.now
    c.loop-turn-test.true (not_empty c.loop-turn.rest.now (sym c.is_empty.ensures ∙ c.if-is_empty.false)) c.in_err-next.ensures c.loop-turn.invariant)

pub loop-turn-preserved : goal.loop-turn-preserved
loop-turn-preserved c =
    subst (λ ds. with_decls ds (decls c.args.depth (length c.args.tokens.now - (c.loop-turn._turn + 1)) c.in_ok-next.behind.now) ≡ read_program c.args.depth c.args.tokens.now) (sym c.in_ok-push.ensures.items)
    (decls_go_on c.args.depth c.loop-turn.decls.items (read_program c.args.depth c.args.tokens.now) c.loop-turn._turn (length c.args.tokens.now) c.loop-turn.rest.now c.in_ok-next.next c.in_ok-next.behind.now
    c.loop-turn-test.true (not_empty c.loop-turn.rest.now (sym c.is_empty.ensures ∙ c.if-is_empty.false)) c.in_ok-next.ensures c.loop-turn.invariant)

pub returns-then-not-is_empty : goal.returns-then-not-is_empty
returns-then-not-is_empty c =
    let some = not_empty c.loop-turn.rest.now (sym c.is_empty-2.ensures ∙ c.if-not-is_empty.true) in
    elim c.loop-turn-test.branch [
      | else-loop-turn-test w ↦ decls_left c.args.depth c.loop-turn.decls.items (read_program c.args.depth c.args.tokens.now) c.loop-turn._turn (length c.args.tokens.now) c.loop-turn.rest.now
          (let h = w.loop-turn-test.false in omega arith) some c.loop-turn.invariant
      | then-loop-turn-test+then-is_empty w ↦
          let none = is_empty c.loop-turn.rest.now (sym w.is_empty.ensures ∙ w.if-is_empty.true) in absurd (omega arith)
    ]

pub returns : goal.returns
returns c =
    decls_end c.args.depth c.loop-turn.decls.items (read_program c.args.depth c.args.tokens.now) (length c.args.tokens.now - c.loop-turn._turn) c.loop-turn.rest.now
    (is_empty c.loop-turn.rest.now (sym c.is_empty-2.ensures ∙ c.if-not-is_empty.false)) c.loop-turn.invariant ∙ ap (λ ds. Ok ds) (sym c.from_vec.ensures)
