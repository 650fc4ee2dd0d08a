-- Each instruction does what is said of it.
use Rattle.std.specs.Prelude.{◌-◌, set, Some, None}
use Rattle.std.proofs.Common.{◌∙◌, sym, ap, refl, arith}
use Rattle.zl_value.specs.Operators.{operate}
use Rattle.zl_value.specs.declared.value.Value.TheVariants.{B}
use Rattle.zl_value.specs.declared.op.Op.TheVariants.{SubFloat as SubFloatOp, NegFloat as NegFloatOp, EqInt as EqIntOp, Or as OrOp, Not as NotOp}
use Rattle.zl_code.specs.Method.{cell}
use Rattle.zl_machine.proofs.Steps.{after, leads_down, putting, settling, one_answer, two_answer, by_true, by_false, by_none}
use Rattle.zl_machine.proofs.execution.execute.Goals as goal

pub loop-pc-preserved-in-Lit : goal.loop-pc-preserved-in-Lit
loop-pc-preserved-in-Lit c =
    record { low = omega (arith, c.loop-pc.invariant.low); same = after c.args.code.now c.args.lits.now (record { mems = c.args.mems.now; inputs = c.args.inputs.now; events = c.args.events.now }) (record { regs = c.args.regs.now; mems = c.args.next.now; found = None }) c.loop-pc.pc _ (record { regs = c.loop-pc.regs; mems = c.loop-pc.next; found = c.loop-pc.found }) (record { regs = c.write.new.cells; mems = c.loop-pc.next; found = c.loop-pc.found }) _ (c.loop-pc-test.true) c.loop-pc.invariant.low c.in-Lit.is c.loop-pc.invariant.same (λ rest. putting rest _ (record { regs = c.loop-pc.regs; mems = c.loop-pc.next; found = c.loop-pc.found }) c.in-Lit.to (cell c.args.lits.now c.in-Lit.number) _ _ c.write.ensures (c.read.ensures)) }

pub loop-pc-preserved-in-Get : goal.loop-pc-preserved-in-Get
loop-pc-preserved-in-Get c =
    record { low = omega (arith, c.loop-pc.invariant.low); same = after c.args.code.now c.args.lits.now (record { mems = c.args.mems.now; inputs = c.args.inputs.now; events = c.args.events.now }) (record { regs = c.args.regs.now; mems = c.args.next.now; found = None }) c.loop-pc.pc _ (record { regs = c.loop-pc.regs; mems = c.loop-pc.next; found = c.loop-pc.found }) (record { regs = c.write-in-Get.new.cells; mems = c.loop-pc.next; found = c.loop-pc.found }) _ (c.loop-pc-test.true) c.loop-pc.invariant.low c.in-Get.is c.loop-pc.invariant.same (λ rest. putting rest _ (record { regs = c.loop-pc.regs; mems = c.loop-pc.next; found = c.loop-pc.found }) c.in-Get.to (cell c.loop-pc.regs c.in-Get.from) _ _ c.write-in-Get.ensures (c.read-in-Get.ensures)) }

pub loop-pc-preserved-in-Mem : goal.loop-pc-preserved-in-Mem
loop-pc-preserved-in-Mem c =
    record { low = omega (arith, c.loop-pc.invariant.low); same = after c.args.code.now c.args.lits.now (record { mems = c.args.mems.now; inputs = c.args.inputs.now; events = c.args.events.now }) (record { regs = c.args.regs.now; mems = c.args.next.now; found = None }) c.loop-pc.pc _ (record { regs = c.loop-pc.regs; mems = c.loop-pc.next; found = c.loop-pc.found }) (record { regs = c.write-in-Mem.new.cells; mems = c.loop-pc.next; found = c.loop-pc.found }) _ (c.loop-pc-test.true) c.loop-pc.invariant.low c.in-Mem.is c.loop-pc.invariant.same (λ rest. putting rest _ (record { regs = c.loop-pc.regs; mems = c.loop-pc.next; found = c.loop-pc.found }) c.in-Mem.to (cell c.args.mems.now c.in-Mem.mem) _ _ c.write-in-Mem.ensures (c.read-in-Mem.ensures)) }

pub loop-pc-preserved-in-In : goal.loop-pc-preserved-in-In
loop-pc-preserved-in-In c =
    record { low = omega (arith, c.loop-pc.invariant.low); same = after c.args.code.now c.args.lits.now (record { mems = c.args.mems.now; inputs = c.args.inputs.now; events = c.args.events.now }) (record { regs = c.args.regs.now; mems = c.args.next.now; found = None }) c.loop-pc.pc _ (record { regs = c.loop-pc.regs; mems = c.loop-pc.next; found = c.loop-pc.found }) (record { regs = c.write-in-In.new.cells; mems = c.loop-pc.next; found = c.loop-pc.found }) _ (c.loop-pc-test.true) c.loop-pc.invariant.low c.in-In.is c.loop-pc.invariant.same (λ rest. putting rest _ (record { regs = c.loop-pc.regs; mems = c.loop-pc.next; found = c.loop-pc.found }) c.in-In.to (cell c.args.inputs.now c.in-In.input) _ _ c.write-in-In.ensures (c.read-in-In.ensures)) }

pub loop-pc-preserved-in-Event : goal.loop-pc-preserved-in-Event
loop-pc-preserved-in-Event c =
    record { low = omega (arith, c.loop-pc.invariant.low); same = after c.args.code.now c.args.lits.now (record { mems = c.args.mems.now; inputs = c.args.inputs.now; events = c.args.events.now }) (record { regs = c.args.regs.now; mems = c.args.next.now; found = None }) c.loop-pc.pc _ (record { regs = c.loop-pc.regs; mems = c.loop-pc.next; found = c.loop-pc.found }) (record { regs = c.write-in-Event.new.cells; mems = c.loop-pc.next; found = c.loop-pc.found }) _ (c.loop-pc-test.true) c.loop-pc.invariant.low c.in-Event.is c.loop-pc.invariant.same (λ rest. putting rest _ (record { regs = c.loop-pc.regs; mems = c.loop-pc.next; found = c.loop-pc.found }) c.in-Event.to (_) _ _ c.write-in-Event.ensures (ap (λ b. Some (B b)) c.event.ensures)) }

pub loop-pc-preserved-in-One : goal.loop-pc-preserved-in-One
loop-pc-preserved-in-One c =
    record { low = omega (arith, c.loop-pc.invariant.low); same = after c.args.code.now c.args.lits.now (record { mems = c.args.mems.now; inputs = c.args.inputs.now; events = c.args.events.now }) (record { regs = c.args.regs.now; mems = c.args.next.now; found = None }) c.loop-pc.pc _ (record { regs = c.loop-pc.regs; mems = c.loop-pc.next; found = c.loop-pc.found }) (record { regs = c.write-in-One.new.cells; mems = c.loop-pc.next; found = c.loop-pc.found }) _ (c.loop-pc-test.true) c.loop-pc.invariant.low c.in-One.is c.loop-pc.invariant.same (λ rest. settling rest _ (record { regs = c.loop-pc.regs; mems = c.loop-pc.next; found = c.loop-pc.found }) c.in-One.to _ _ None _ _ _ c.write-in-One.ensures c.calm.ensures refl (one_answer c.loop-pc.regs (operate c.in-One.op) c.in-One.a _ _ c.one.ensures c.read-in-One.ensures)) }

pub loop-pc-preserved-in-OneFault : goal.loop-pc-preserved-in-OneFault
loop-pc-preserved-in-OneFault c =
    record { low = omega (arith, c.loop-pc.invariant.low); same = after c.args.code.now c.args.lits.now (record { mems = c.args.mems.now; inputs = c.args.inputs.now; events = c.args.events.now }) (record { regs = c.args.regs.now; mems = c.args.next.now; found = None }) c.loop-pc.pc _ (record { regs = c.loop-pc.regs; mems = c.loop-pc.next; found = c.loop-pc.found }) (record { regs = c.write-in-OneFault.new.cells; mems = c.loop-pc.next; found = c.note-found.result }) _ (c.loop-pc-test.true) c.loop-pc.invariant.low c.in-OneFault.is c.loop-pc.invariant.same (λ rest. settling rest _ (record { regs = c.loop-pc.regs; mems = c.loop-pc.next; found = c.loop-pc.found }) c.in-OneFault.to _ _ (Some c.in-OneFault.fault) _ _ _ c.write-in-OneFault.ensures c.calm-in-OneFault.ensures c.note-found.ensures (one_answer c.loop-pc.regs (operate c.in-OneFault.op) c.in-OneFault.a _ _ c.one-made.ensures c.read-in-OneFault.ensures)) }

pub loop-pc-preserved-in-Two : goal.loop-pc-preserved-in-Two
loop-pc-preserved-in-Two c =
    record { low = omega (arith, c.loop-pc.invariant.low); same = after c.args.code.now c.args.lits.now (record { mems = c.args.mems.now; inputs = c.args.inputs.now; events = c.args.events.now }) (record { regs = c.args.regs.now; mems = c.args.next.now; found = None }) c.loop-pc.pc _ (record { regs = c.loop-pc.regs; mems = c.loop-pc.next; found = c.loop-pc.found }) (record { regs = c.write-in-Two.new.cells; mems = c.loop-pc.next; found = c.loop-pc.found }) _ (c.loop-pc-test.true) c.loop-pc.invariant.low c.in-Two.is c.loop-pc.invariant.same (λ rest. settling rest _ (record { regs = c.loop-pc.regs; mems = c.loop-pc.next; found = c.loop-pc.found }) c.in-Two.to _ _ None _ _ _ c.write-in-Two.ensures c.calm-in-Two.ensures refl (two_answer c.loop-pc.regs (operate c.in-Two.op) c.in-Two.a c.in-Two.b _ _ _ c.two.ensures c.read-in-Two.ensures c.read-in-Two-2.ensures)) }

pub loop-pc-preserved-in-TwoFault : goal.loop-pc-preserved-in-TwoFault
loop-pc-preserved-in-TwoFault c =
    record { low = omega (arith, c.loop-pc.invariant.low); same = after c.args.code.now c.args.lits.now (record { mems = c.args.mems.now; inputs = c.args.inputs.now; events = c.args.events.now }) (record { regs = c.args.regs.now; mems = c.args.next.now; found = None }) c.loop-pc.pc _ (record { regs = c.loop-pc.regs; mems = c.loop-pc.next; found = c.loop-pc.found }) (record { regs = c.write-in-TwoFault.new.cells; mems = c.loop-pc.next; found = c.note-found-in-TwoFault.result }) _ (c.loop-pc-test.true) c.loop-pc.invariant.low c.in-TwoFault.is c.loop-pc.invariant.same (λ rest. settling rest _ (record { regs = c.loop-pc.regs; mems = c.loop-pc.next; found = c.loop-pc.found }) c.in-TwoFault.to _ _ (Some c.in-TwoFault.fault) _ _ _ c.write-in-TwoFault.ensures c.calm-in-TwoFault.ensures c.note-found-in-TwoFault.ensures (two_answer c.loop-pc.regs (operate c.in-TwoFault.op) c.in-TwoFault.a c.in-TwoFault.b _ _ _ c.two-made.ensures c.read-in-TwoFault.ensures c.read-in-TwoFault-2.ensures)) }

pub loop-pc-preserved-in-SubFloat : goal.loop-pc-preserved-in-SubFloat
loop-pc-preserved-in-SubFloat c =
    record { low = omega (arith, c.loop-pc.invariant.low); same = after c.args.code.now c.args.lits.now (record { mems = c.args.mems.now; inputs = c.args.inputs.now; events = c.args.events.now }) (record { regs = c.args.regs.now; mems = c.args.next.now; found = None }) c.loop-pc.pc _ (record { regs = c.loop-pc.regs; mems = c.loop-pc.next; found = c.loop-pc.found }) (record { regs = c.write-in-SubFloat.new.cells; mems = c.loop-pc.next; found = c.note-found-in-SubFloat.result }) _ (c.loop-pc-test.true) c.loop-pc.invariant.low c.in-SubFloat.is c.loop-pc.invariant.same (λ rest. settling rest _ (record { regs = c.loop-pc.regs; mems = c.loop-pc.next; found = c.loop-pc.found }) c.in-SubFloat.to _ _ (Some c.in-SubFloat.fault) _ _ _ c.write-in-SubFloat.ensures c.calm-in-SubFloat.ensures c.note-found-in-SubFloat.ensures (two_answer c.loop-pc.regs (operate SubFloatOp) c.in-SubFloat.a c.in-SubFloat.b _ _ _ c.sub_floats-made.ensures c.read-in-SubFloat.ensures c.read-in-SubFloat-2.ensures)) }

pub loop-pc-preserved-in-NegFloat : goal.loop-pc-preserved-in-NegFloat
loop-pc-preserved-in-NegFloat c =
    record { low = omega (arith, c.loop-pc.invariant.low); same = after c.args.code.now c.args.lits.now (record { mems = c.args.mems.now; inputs = c.args.inputs.now; events = c.args.events.now }) (record { regs = c.args.regs.now; mems = c.args.next.now; found = None }) c.loop-pc.pc _ (record { regs = c.loop-pc.regs; mems = c.loop-pc.next; found = c.loop-pc.found }) (record { regs = c.write-in-NegFloat.new.cells; mems = c.loop-pc.next; found = c.loop-pc.found }) _ (c.loop-pc-test.true) c.loop-pc.invariant.low c.in-NegFloat.is c.loop-pc.invariant.same (λ rest. settling rest _ (record { regs = c.loop-pc.regs; mems = c.loop-pc.next; found = c.loop-pc.found }) c.in-NegFloat.to _ _ None _ _ _ c.write-in-NegFloat.ensures c.neg_float.ensures refl (one_answer c.loop-pc.regs (operate NegFloatOp) c.in-NegFloat.a _ _ refl c.read-in-NegFloat.ensures)) }

pub loop-pc-preserved-in-EqInt : goal.loop-pc-preserved-in-EqInt
loop-pc-preserved-in-EqInt c =
    record { low = omega (arith, c.loop-pc.invariant.low); same = after c.args.code.now c.args.lits.now (record { mems = c.args.mems.now; inputs = c.args.inputs.now; events = c.args.events.now }) (record { regs = c.args.regs.now; mems = c.args.next.now; found = None }) c.loop-pc.pc _ (record { regs = c.loop-pc.regs; mems = c.loop-pc.next; found = c.loop-pc.found }) (record { regs = c.write-in-EqInt.new.cells; mems = c.loop-pc.next; found = c.loop-pc.found }) _ (c.loop-pc-test.true) c.loop-pc.invariant.low c.in-EqInt.is c.loop-pc.invariant.same (λ rest. settling rest _ (record { regs = c.loop-pc.regs; mems = c.loop-pc.next; found = c.loop-pc.found }) c.in-EqInt.to _ _ None _ _ _ c.write-in-EqInt.ensures c.eq_ints.ensures refl (two_answer c.loop-pc.regs (operate EqIntOp) c.in-EqInt.a c.in-EqInt.b _ _ _ refl c.read-in-EqInt.ensures c.read-in-EqInt-2.ensures)) }

pub loop-pc-preserved-in-Or : goal.loop-pc-preserved-in-Or
loop-pc-preserved-in-Or c =
    record { low = omega (arith, c.loop-pc.invariant.low); same = after c.args.code.now c.args.lits.now (record { mems = c.args.mems.now; inputs = c.args.inputs.now; events = c.args.events.now }) (record { regs = c.args.regs.now; mems = c.args.next.now; found = None }) c.loop-pc.pc _ (record { regs = c.loop-pc.regs; mems = c.loop-pc.next; found = c.loop-pc.found }) (record { regs = c.write-in-Or.new.cells; mems = c.loop-pc.next; found = c.loop-pc.found }) _ (c.loop-pc-test.true) c.loop-pc.invariant.low c.in-Or.is c.loop-pc.invariant.same (λ rest. settling rest _ (record { regs = c.loop-pc.regs; mems = c.loop-pc.next; found = c.loop-pc.found }) c.in-Or.to _ _ None _ _ _ c.write-in-Or.ensures c.or.ensures refl (two_answer c.loop-pc.regs (operate OrOp) c.in-Or.a c.in-Or.b _ _ _ refl c.read-in-Or.ensures c.read-in-Or-2.ensures)) }

pub loop-pc-preserved-in-Not : goal.loop-pc-preserved-in-Not
loop-pc-preserved-in-Not c =
    record { low = omega (arith, c.loop-pc.invariant.low); same = after c.args.code.now c.args.lits.now (record { mems = c.args.mems.now; inputs = c.args.inputs.now; events = c.args.events.now }) (record { regs = c.args.regs.now; mems = c.args.next.now; found = None }) c.loop-pc.pc _ (record { regs = c.loop-pc.regs; mems = c.loop-pc.next; found = c.loop-pc.found }) (record { regs = c.write-in-Not.new.cells; mems = c.loop-pc.next; found = c.loop-pc.found }) _ (c.loop-pc-test.true) c.loop-pc.invariant.low c.in-Not.is c.loop-pc.invariant.same (λ rest. settling rest _ (record { regs = c.loop-pc.regs; mems = c.loop-pc.next; found = c.loop-pc.found }) c.in-Not.to _ _ None _ _ _ c.write-in-Not.ensures c.not.ensures refl (one_answer c.loop-pc.regs (operate NotOp) c.in-Not.a _ _ refl c.read-in-Not.ensures)) }

pub loop-pc-preserved-in-Set : goal.loop-pc-preserved-in-Set
loop-pc-preserved-in-Set c =
    record { low = omega (arith, c.loop-pc.invariant.low); same = after c.args.code.now c.args.lits.now (record { mems = c.args.mems.now; inputs = c.args.inputs.now; events = c.args.events.now }) (record { regs = c.args.regs.now; mems = c.args.next.now; found = None }) c.loop-pc.pc _ (record { regs = c.loop-pc.regs; mems = c.loop-pc.next; found = c.loop-pc.found }) (record { regs = c.loop-pc.regs; mems = c.write-in-Set.new.cells; found = c.loop-pc.found }) _ (c.loop-pc-test.true) c.loop-pc.invariant.low c.in-Set.is c.loop-pc.invariant.same (λ rest. ap (λ ms. rest (c.loop-pc.pc - 1) (record { regs = c.loop-pc.regs; mems = ms; found = c.loop-pc.found })) (ap (λ x. set c.loop-pc.next c.in-Set.mem x) (sym c.read-in-Set.ensures) ∙ sym c.write-in-Set.ensures)) }

pub loop-pc-preserved-in-Some-true : goal.loop-pc-preserved-in-Some-true
loop-pc-preserved-in-Some-true c =
    record { low = omega (arith, c.loop-pc.invariant.low); same = after c.args.code.now c.args.lits.now (record { mems = c.args.mems.now; inputs = c.args.inputs.now; events = c.args.events.now }) (record { regs = c.args.regs.now; mems = c.args.next.now; found = None }) c.loop-pc.pc _ (record { regs = c.loop-pc.regs; mems = c.loop-pc.next; found = c.loop-pc.found }) (record { regs = c.loop-pc.regs; mems = c.loop-pc.next; found = c.loop-pc.found }) _ (c.loop-pc-test.true) c.loop-pc.invariant.low c.in-If.is c.loop-pc.invariant.same (λ rest. by_true _ _ _ _ _ _ c.read-in-If.ensures c.in-Some-true.ensures c.in-Some-true.field-0-test) }

pub loop-pc-smaller-in-Some-false : goal.loop-pc-smaller-in-Some-false
loop-pc-smaller-in-Some-false c = let d = leads_down c.args.code.now c.args.lits.now c.loop-pc.pc _ c.loop-pc-test.true c.loop-pc.invariant.low c.in-If.is c.requires.down in omega (arith, d.0, c.loop-pc-test.true)

pub loop-pc-preserved-in-Some-false : goal.loop-pc-preserved-in-Some-false
loop-pc-preserved-in-Some-false c =
    record { low = let d = leads_down c.args.code.now c.args.lits.now c.loop-pc.pc _ c.loop-pc-test.true c.loop-pc.invariant.low c.in-If.is c.requires.down in omega (arith, d.0, c.loop-pc.invariant.low); same = after c.args.code.now c.args.lits.now (record { mems = c.args.mems.now; inputs = c.args.inputs.now; events = c.args.events.now }) (record { regs = c.args.regs.now; mems = c.args.next.now; found = None }) c.loop-pc.pc _ (record { regs = c.loop-pc.regs; mems = c.loop-pc.next; found = c.loop-pc.found }) (record { regs = c.loop-pc.regs; mems = c.loop-pc.next; found = c.loop-pc.found }) _ (c.loop-pc-test.true) c.loop-pc.invariant.low c.in-If.is c.loop-pc.invariant.same (λ rest. by_false _ _ _ _ _ _ c.read-in-If.ensures c.in-Some-false.ensures c.in-Some-false.field-0-test) }

pub loop-pc-smaller-in-None : goal.loop-pc-smaller-in-None
loop-pc-smaller-in-None c = let d = leads_down c.args.code.now c.args.lits.now c.loop-pc.pc _ c.loop-pc-test.true c.loop-pc.invariant.low c.in-If.is c.requires.down in omega (arith, d.1, c.loop-pc-test.true)

pub loop-pc-preserved-in-None : goal.loop-pc-preserved-in-None
loop-pc-preserved-in-None c =
    record { low = let d = leads_down c.args.code.now c.args.lits.now c.loop-pc.pc _ c.loop-pc-test.true c.loop-pc.invariant.low c.in-If.is c.requires.down in omega (arith, d.1, c.loop-pc.invariant.low); same = after c.args.code.now c.args.lits.now (record { mems = c.args.mems.now; inputs = c.args.inputs.now; events = c.args.events.now }) (record { regs = c.args.regs.now; mems = c.args.next.now; found = None }) c.loop-pc.pc _ (record { regs = c.loop-pc.regs; mems = c.loop-pc.next; found = c.loop-pc.found }) (record { regs = c.loop-pc.regs; mems = c.loop-pc.next; found = c.loop-pc.found }) _ (c.loop-pc-test.true) c.loop-pc.invariant.low c.in-If.is c.loop-pc.invariant.same (λ rest. by_none _ _ _ _ _ c.read-in-If.ensures c.in-None.ensures) }

pub loop-pc-smaller-in-Jump : goal.loop-pc-smaller-in-Jump
loop-pc-smaller-in-Jump c = let d = leads_down c.args.code.now c.args.lits.now c.loop-pc.pc _ c.loop-pc-test.true c.loop-pc.invariant.low c.in-Jump.is c.requires.down in omega (arith, d, c.loop-pc-test.true)

pub loop-pc-preserved-in-Jump : goal.loop-pc-preserved-in-Jump
loop-pc-preserved-in-Jump c =
    record { low = let d = leads_down c.args.code.now c.args.lits.now c.loop-pc.pc _ c.loop-pc-test.true c.loop-pc.invariant.low c.in-Jump.is c.requires.down in omega (arith, d, c.loop-pc.invariant.low); same = after c.args.code.now c.args.lits.now (record { mems = c.args.mems.now; inputs = c.args.inputs.now; events = c.args.events.now }) (record { regs = c.args.regs.now; mems = c.args.next.now; found = None }) c.loop-pc.pc _ (record { regs = c.loop-pc.regs; mems = c.loop-pc.next; found = c.loop-pc.found }) (record { regs = c.loop-pc.regs; mems = c.loop-pc.next; found = c.loop-pc.found }) _ (c.loop-pc-test.true) c.loop-pc.invariant.low c.in-Jump.is c.loop-pc.invariant.same (λ rest. refl) }

pub loop-pc-preserved-in-Some-true-truth : goal.loop-pc-preserved-in-Some-true-truth
loop-pc-preserved-in-Some-true-truth c =
    record { low = omega (arith, c.loop-pc.invariant.low); same = after c.args.code.now c.args.lits.now (record { mems = c.args.mems.now; inputs = c.args.inputs.now; events = c.args.events.now }) (record { regs = c.args.regs.now; mems = c.args.next.now; found = None }) c.loop-pc.pc _ (record { regs = c.loop-pc.regs; mems = c.loop-pc.next; found = c.loop-pc.found }) (record { regs = c.write-in-Some-true-truth.new.cells; mems = c.loop-pc.next; found = c.loop-pc.found }) _ (c.loop-pc-test.true) c.loop-pc.invariant.low c.in-Choose.is c.loop-pc.invariant.same (λ rest. ap (λ d. rest (c.loop-pc.pc - 1) d) (by_true _ _ _ _ _ _ c.read-in-Choose.ensures c.in-Some-true-truth.ensures c.in-Some-true-truth.field-0-test) ∙ putting rest _ (record { regs = c.loop-pc.regs; mems = c.loop-pc.next; found = c.loop-pc.found }) c.in-Choose.to (cell c.loop-pc.regs c.in-Choose.yes) _ _ c.write-in-Some-true-truth.ensures c.read-in-Some-true-truth.ensures) }

pub loop-pc-preserved-in-Some-false-truth : goal.loop-pc-preserved-in-Some-false-truth
loop-pc-preserved-in-Some-false-truth c =
    record { low = omega (arith, c.loop-pc.invariant.low); same = after c.args.code.now c.args.lits.now (record { mems = c.args.mems.now; inputs = c.args.inputs.now; events = c.args.events.now }) (record { regs = c.args.regs.now; mems = c.args.next.now; found = None }) c.loop-pc.pc _ (record { regs = c.loop-pc.regs; mems = c.loop-pc.next; found = c.loop-pc.found }) (record { regs = c.write-in-Some-false-truth.new.cells; mems = c.loop-pc.next; found = c.loop-pc.found }) _ (c.loop-pc-test.true) c.loop-pc.invariant.low c.in-Choose.is c.loop-pc.invariant.same (λ rest. ap (λ d. rest (c.loop-pc.pc - 1) d) (by_false _ _ _ _ _ _ c.read-in-Choose.ensures c.in-Some-false-truth.ensures c.in-Some-false-truth.field-0-test) ∙ putting rest _ (record { regs = c.loop-pc.regs; mems = c.loop-pc.next; found = c.loop-pc.found }) c.in-Choose.to (cell c.loop-pc.regs c.in-Choose.no) _ _ c.write-in-Some-false-truth.ensures c.read-in-Some-false-truth.ensures) }

pub loop-pc-preserved : goal.loop-pc-preserved
loop-pc-preserved c =
    record { low = omega (arith, c.loop-pc.invariant.low); same = after c.args.code.now c.args.lits.now (record { mems = c.args.mems.now; inputs = c.args.inputs.now; events = c.args.events.now }) (record { regs = c.args.regs.now; mems = c.args.next.now; found = None }) c.loop-pc.pc _ (record { regs = c.loop-pc.regs; mems = c.loop-pc.next; found = c.loop-pc.found }) (record { regs = c.loop-pc.regs; mems = c.loop-pc.next; found = c.loop-pc.found }) _ (c.loop-pc-test.true) c.loop-pc.invariant.low c.in-Choose.is c.loop-pc.invariant.same (λ rest. ap (λ d. rest (c.loop-pc.pc - 1) d) (by_none _ _ _ _ _ c.read-in-Choose.ensures c.in-None-truth.ensures)) }
