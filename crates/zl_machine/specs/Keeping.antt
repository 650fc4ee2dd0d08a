-- What each machine keeps beside what contracts see.
use Rattle.std.specs.Prelude.{◌≡◌, true, false, List, length, replicate, None}
use Rattle.std.specs.List.{list_any}
use Rattle.zl_code.specs.Method.{Cells}
use Rattle.zl_code.specs.System.{lacks_output}
use Rattle.zl_machine.specs.declared.decoding.Program.{Program}
use Rattle.zl_machine.specs.Instructions.{StandsFor}
use Rattle.zl_machine.specs.MachineForm.{MachineForm, has_instant}
use Rattle.zl_code.specs.declared.stmt.Stmt.{Stmt}

abbrev pub IsProgramOf : Program → List Stmt → Type 0
IsProgramOf p stmts = StandsFor p.code.items p.lits.items stmts

-- the instructions stand for the methods, the buffers have their lengths, and a ready instant shows all outputs
pub record IsMachine (m : MachineForm) (stepping leaving flowing : Program) (empty after : Cells) : Type 0 where
  pub step : IsProgramOf stepping m.code.step
  pub left : IsProgramOf leaving m.code.left
  pub flow : IsProgramOf flowing m.code.flow
  pub blank : empty ≡ replicate (length m.code.regs) None
  pub next : length after ≡ length m.code.mems
  pub mems : length m.mems ≡ length m.code.mems
  pub inputs : length m.inputs ≡ length m.code.ins
  pub regs : length m.regs ≡ length m.code.regs
  pub rates : length m.rates ≡ length m.code.regs
  pub shows : has_instant m.mode ≡ true → list_any (lacks_output m.regs) m.code.outs ≡ false
