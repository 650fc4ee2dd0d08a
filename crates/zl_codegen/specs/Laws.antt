-- What is proved of the code of an order, for all kernels.
use Rattle.std.specs.Prelude.{◌≡◌, ℕ, ◌<◌, true, false, if◌then◌else◌, List, Bool, [], length, get_or, slice_get, Some, None}
use Rattle.zl_value.specs.Lists.{Has, among}
use Rattle.zl_value.specs.Instants.{History}
use Rattle.zl_value.specs.Runs.{IsRun}
use Rattle.zl_value.specs.declared.script.Script.{Script}
use Rattle.zl_value.specs.declared.script.Ending.{Ending}
use Rattle.zl_kernel.specs.KernelForm.{KernelForm}
use Rattle.zl_kernel.specs.FlowWires.{reads}
use Rattle.zl_kernel.specs.WellFormed.{IsWellFormed, can_fail}
use Rattle.zl_value.specs.Operators.{Faults}
use Rattle.zl_value.specs.declared.arith.Arith.{Arith}
use Rattle.zl_kernel.specs.Wires.{Registers, held, Mode, is_at_step, Moment, wire_answer, turn}
use Rattle.zl_kernel.specs.Faults.{fault_of as kernel_fault}
use Rattle.zl_kernel.specs.declared.memory.KMem.{KMem}
use Rattle.zl_kernel.specs.declared.wire.Def.TheVariants.{Mem, Event}
use Rattle.zl_kernel.specs.declared.wire.Wire.{Wire}
use Rattle.zl_kernel.specs.WireRanks.{AreWireRanks}
use Rattle.zl_code.specs.CodeForm.{CodeForm}
use Rattle.zl_code.specs.Method.{cell, Given, Doing, method}
use Rattle.zl_code.specs.System.{fault_of as code_fault, system_of}
use Rattle.zl_code.specs.Trace.{trace}
use Rattle.zl_codegen.specs.CodeOf.{method_of, code_of}
use Rattle.zl_codegen.specs.Orders.{IsOrder}
use Rattle.zl_codegen.specs.Needs.{is_marked, is_taken, needs, left_out}
use Rattle.zl_codegen.specs.Statements.{body, sets}

-- a method is given what the wires read: the inputs, of the memories those that some wire holds, and at a step which of the sites fired that some wire asks for
pub record IsGiven (k : KernelForm) (m : Moment) (g : Given) : Type 0 where
  pub inputs : g.inputs ≡ m.inputs
  pub mems : (n j : ℕ) (wire : Wire) → slice_get k.wires n ≡ Some wire → wire.def ≡ Mem j → cell g.mems j ≡ held m.memories j
  pub events : (n site : ℕ) (wire : Wire) → slice_get k.wires n ≡ Some wire → wire.def ≡ Event site → is_at_step m.mode ≡ true → get_or g.events site false ≡ among site m.fired

-- all that a method's wires read is marked
pub record IsClosed (k : KernelForm) (mode : Mode) (marks : List Bool) : Type 0 where
  pub reads : (n j : ℕ) (wire : Wire) → slice_get k.wires n ≡ Some wire → is_taken marks (left_out k mode) n ≡ true → Has (reads wire) j → is_marked marks j ≡ true

-- after the statements of marked wires the register of each that is solved holds what the kernel says, and every other one is
-- empty: whatever the order
abbrev pub MethodsSolve : Type 0
MethodsSolve = (k : KernelForm) (list : List ℕ) → IsWellFormed k → IsOrder k list → (m : Moment) (r : Registers) → r ≡ turn k m r → (g : Given) → IsGiven k m g → (marks : List Bool) → IsClosed k m.mode marks → (n : ℕ) → n < length k.wires → cell (method (length k.wires) (body k.wires (is_at_step m.mode) marks (left_out k m.mode) [] list []) g).regs n ≡ (if is_taken marks (left_out k m.mode) n then held r n else None)

-- the wires that a method needs are such
abbrev pub NeedsAreClosed : Type 0
NeedsAreClosed = (k : KernelForm) (list : List ℕ) → IsWellFormed k → IsOrder k list → (mode : Mode) → IsClosed k mode (needs k mode list)

-- two codes that are one system: each run of the one is a run of the other, and the same is printed of it
pub record AreOneSystem (a b : CodeForm) : Type 0 where
  pub systems : system_of a ≡ system_of b
  pub runs : (script : Script) (h : History Doing) (ending : Ending) → IsRun (system_of a) script h ending → IsRun (system_of b) script h ending
  pub traces : (h : History Doing) (ending : Ending) → trace a h ending ≡ trace b h ending

-- the codes of two orders of one kernel are one system
abbrev pub AnyOrder : Type 0
AnyOrder = (k : KernelForm) (ranks xs ys : List ℕ) → IsWellFormed k → AreWireRanks k ranks → IsOrder k xs → IsOrder k ys → AreOneSystem (code_of k xs) (code_of k ys)

-- no operator that can't fault has a fault over what the wires hold: what it is applied to is in the width
pub record IsSound (k : KernelForm) (m : Moment) (r : Registers) : Type 0 where
  pub never : (n : ℕ) (wire : Wire) (kind : Arith) → slice_get k.wires n ≡ Some wire → can_fail wire.def ≡ false → wire_answer k m (held r) n wire ≡ Faults kind → ⊥

-- the fault to report after a method is the kernel's, whatever memories it sets at its end
abbrev pub MethodsReport : Type 0
MethodsReport = (k : KernelForm) (list : List ℕ) → IsWellFormed k → IsOrder k list → (m : Moment) (r : Registers) → r ≡ turn k m r → IsSound k m r → (g : Given) → IsGiven k m g → (marks : List Bool) (mems : List KMem) → code_fault (method (length k.wires) (method_of k m.mode list (sets marks 0 mems)) g) ≡ kernel_fault k m r
