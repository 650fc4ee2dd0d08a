-- The code that an order of the wires of a kernel gives.
use Rattle.std.specs.Prelude.{ℕ, List, [], map, Option, Some, None}
use Rattle.zl_value.specs.Widths.{nowhere}
use Rattle.zl_value.specs.declared.position.Pos.{Pos}
use Rattle.zl_kernel.specs.KernelForm.{KernelForm}
use Rattle.zl_kernel.specs.Wires.{Mode, AtStep, AtLeft, InFlow, is_at_step}
use Rattle.zl_kernel.specs.declared.wire.Wire.{Wire}
use Rattle.zl_kernel.specs.declared.memory.KMem.{KMem}
use Rattle.zl_kernel.specs.declared.site.KSite.{KSite}
use Rattle.zl_code.specs.declared.stmt.Stmt.{Stmt}
use Rattle.zl_code.specs.declared.code.CMem.{CMem}
use Rattle.zl_code.specs.declared.code.CSite.{CSite}
use Rattle.zl_code.specs.CodeForm.{CodeForm}
use Rattle.zl_codegen.specs.Needs.{held_memories, left_out, needs}
use Rattle.zl_codegen.specs.Statements.{body, sets}

-- a memory that doesn't move has no position
abbrev pub position_of : Pos → Option ℕ → Pos
position_of at None = nowhere
position_of at (Some slope) = at

abbrev pub memory_of : KMem → CMem
memory_of mem = record { ty = mem.ty; start = mem.start; slope = mem.slope; at = position_of mem.at mem.slope }

abbrev pub site_of : KSite → CSite
site_of site = record { value = site.value; fresh = site.fresh; slope = site.slope }

abbrev pub method_of : KernelForm → Mode → List ℕ → List Stmt → List Stmt
method_of k mode list rest = body k.wires (is_at_step mode) (needs k mode list) (left_out k mode) [] list rest

-- what an instant ends with
abbrev pub sets_of : KernelForm → List Stmt
sets_of k = sets (held_memories k) 0 k.mems

-- a register for each wire; in a flow no memory is set
abbrev pub code_of : KernelForm → List ℕ → CodeForm
code_of k list = record {
  regs = map (λ (wire : Wire). wire.ty) k.wires;
  mems = map memory_of k.mems;
  ins = k.ins;
  outs = k.outs;
  sites = map site_of k.sites;
  again = k.again;
  step = method_of k AtStep list (sets_of k);
  left = method_of k AtLeft list (sets_of k);
  flow = method_of k InFlow list [];
}
