-- The registers begin empty and the memories as they are.
use Rattle.std.specs.Prelude.{length, None}
use Rattle.std.proofs.Common.{sym, ap₂, ◌∙◌, subst}
use Rattle.zl_code.specs.Method.{Cells}
use Rattle.zl_machine.specs.Instructions.{StandsFor}
use Rattle.zl_machine.proofs.Methods.{method_done}
use Rattle.zl_machine.proofs.method.run_method.Goals as goal

pub returns : goal.returns
returns c stmts s =
    let t : StandsFor c.as_slice.result.now c.as_slice-2.result.now stmts =
    subst (λ code. StandsFor code c.as_slice-2.result.now stmts) (sym c.as_slice.ensures.value)
    (subst (λ lits. StandsFor c.args.program.now.code.items lits stmts) (sym c.as_slice-2.ensures.value) s) in
    method_done c.as_slice.result.now c.as_slice-2.result.now stmts (record { mems = c.args.mems.now; inputs = c.args.inputs.now; events = c.args.events.now }) _ (record { regs = c.execute.new.regs; mems = c.execute.new.next; found = c.execute.result }) (length c.args.regs.now) t c.execute.ensures.does
    (ap₂ (λ (regs mems : Cells). record { regs = regs; mems = mems; found = None }) (c.copy_from_slice.ensures.after ∙ c.requires.blank) c.copy_from_slice-2.ensures.after)
