-- A literal goes to the end of the table.
use Rattle.std.specs.Prelude.{◌≡◌, length, reverse, ◌∷◌, Some}
use Rattle.std.proofs.Common.{rules, sym, subst}
use Rattle.zl_code.specs.declared.stmt.Stmt.TheVariants as stmt
use Rattle.zl_machine.specs.declared.instr.Instr.TheVariants.{Lit}
use Rattle.zl_machine.specs.Building.{Built, Leads}
use Rattle.zl_machine.proofs.Built.{built_literal}
use Rattle.zl_machine.proofs.Taking.{on_ok, lit_leads}
use Rattle.zl_machine.proofs.decoding.put_literal.Goals as goal

pub returns : goal.returns
returns c =
    let lits = c.args.b.now.lits.items in
    let len : c.in_ok-number.number ≡ length c.args.b.now.lits.items = search rules in
    on_ok c.put.result (λ f stmts b.
    f stmts (stmt.Lit c.args.to c.args.value ∷ stmts)
    (subst (λ ls. Built c.args.b.now.code.items ls stmts c.args.b.now.next (reverse c.args.b.now.frames.items)) (sym c.in_ok-push.ensures.items) (built_literal c.args.b.now.code.items lits (Some c.args.value) stmts c.args.b.now.next (reverse c.args.b.now.frames.items) b))
    (subst (λ ls. Leads ls (Lit c.args.to c.in_ok-number.number) stmts (stmt.Lit c.args.to c.args.value ∷ stmts)) (sym c.in_ok-push.ensures.items) (lit_leads lits c.args.to c.in_ok-number.number c.args.value len stmts)))
    c.put.ensures
