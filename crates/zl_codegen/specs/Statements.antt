-- The statements of the wires of an order.
use Rattle.std.specs.Prelude.{ℕ, suc, Bool, true, false, if◌then◌else◌, List, [], ◌∷◌, slice_get, Option, Some, None}
use Rattle.zl_value.specs.OperatorTypes.{can_fault}
use Rattle.zl_value.specs.declared.value.Value.TheVariants.{B}
use Rattle.zl_value.specs.declared.op.Op.{Op}
use Rattle.zl_kernel.specs.declared.wire.Def.{Def}
use Rattle.zl_kernel.specs.declared.wire.Def.TheVariants as is
use Rattle.zl_kernel.specs.declared.wire.Wire.{Wire}
use Rattle.zl_kernel.specs.declared.memory.KMem.{KMem}
use Rattle.zl_code.specs.declared.stmt.OpFault.{OpFault}
use Rattle.zl_code.specs.declared.stmt.Stmt.{Stmt}
use Rattle.zl_code.specs.declared.stmt.Stmt.TheVariants.{Lit, Get, Mem, In, Event, Op as Apply, Set, If, Else, Fi}
use Rattle.zl_codegen.specs.Guards.{guard_of, chain, change, close}
use Rattle.zl_codegen.specs.Needs.{is_needed_memory, is_taken}

-- an operator that can fault names the place of its fault among all faults, and its position
abbrev pub fault_of : Wire → Op → Option OpFault
fault_of wire op = if can_fault op then Some (record { ord = wire.ord; at = wire.at }) else None

-- sites fire at steps alone
abbrev pub event : Bool → ℕ → ℕ → Stmt
event true n site = Event n site
event false n site = Lit n (B false)

-- register `n` gets what the definition of the wire says; `stepping` is whether the method is that of steps
abbrev pub define : Bool → ℕ → Wire → Def → List Stmt → List Stmt
define stepping n wire (is.Lit value) rest = Lit n value ∷ rest
define stepping n wire (is.Copy from) rest = Get n from ∷ rest
define stepping n wire (is.Mem m) rest = Mem n m ∷ rest
define stepping n wire (is.In i) rest = In n i ∷ rest
define stepping n wire (is.Event site) rest = event stepping n site ∷ rest
define stepping n wire is.Step rest = Lit n (B stepping) ∷ rest
define stepping n wire (is.Op op args) rest = Apply n op args (fault_of wire op) ∷ rest
define stepping n wire (is.If test this other) rest = If test ∷ Get n this ∷ Else ∷ Get n other ∷ Fi ∷ rest

abbrev pub define_in : Bool → ℕ → Option Wire → List Stmt → List Stmt
define_in stepping n None rest = rest
define_in stepping n (Some wire) rest = define stepping n wire wire.def rest

-- those wires of the list that the method solves, each under its guards; `opened` are the guards that are open
abbrev pub body : List Wire → Bool → List Bool → List Bool → List ℕ → List ℕ → List Stmt → List Stmt
body wires stepping marks out opened [] rest = close opened rest
body wires stepping marks out opened (n ∷ behind) rest =
    if is_taken marks out n then
    change opened (chain wires (guard_of wires n)) (define_in stepping n (slice_get wires n) (body wires stepping marks out (chain wires (guard_of wires n)) behind rest))
    else
    body wires stepping marks out opened behind rest

-- each memory that something needs takes its wire; the first is memory `m`
abbrev pub sets : List Bool → ℕ → List KMem → List Stmt
sets held m [] = []
sets held m (mem ∷ mems) = if is_needed_memory held m mem then Set m mem.next ∷ sets held (suc m) mems else sets held (suc m) mems
