-- The statements of a code have as many registers as their operators take.
use Rattle.std.specs.List.{AllByRecursion}
use Rattle.std.proofs.Common.{sym, subst}
use Rattle.zl_machine.specs.Building.{HasOperands}
use Rattle.zl_machine.proofs.Codes.{method_operands}
use Rattle.zl_machine.proofs.machine.Machine.make.Goals as goal

pub decode-requires : goal.decode-requires
decode-requires c = subst (λ stmts. AllByRecursion HasOperands stmts) (sym c.as_slice.ensures) (method_operands c.code.invariant.step)

pub decode-requires-2 : goal.decode-requires-2
decode-requires-2 c = subst (λ stmts. AllByRecursion HasOperands stmts) (sym c.as_slice-2.ensures) (method_operands c.code.invariant.left)

pub decode-requires-3 : goal.decode-requires-3
decode-requires-3 c = subst (λ stmts. AllByRecursion HasOperands stmts) (sym c.as_slice-3.ensures) (method_operands c.code.invariant.flow)
