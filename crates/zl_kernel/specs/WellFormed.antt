-- What each `Kernel` keeps: its numbers name entries, types agree, it has an output, and its inputs and its faults are told
-- apart.
use Rattle.std.specs.Prelude.{◌≡◌, ℕ, ◌<◌, Bool, true, false, List, [], ◌∷◌, length, slice_get, Option, Some, None}
use Rattle.std.specs.List.{AllByRecursion}
use Rattle.zl_lexer.specs.Words.{IsIdentifier}
use Rattle.zl_value.specs.Script.{IsOfType}
use Rattle.zl_value.specs.OperatorTypes.{type_of, can_fault}
use Rattle.zl_value.specs.declared.value.Ty.{Ty}
use Rattle.zl_value.specs.declared.value.Ty.TheVariants.{Bool as BoolTy, Float, Zero}
use Rattle.zl_value.specs.declared.value.Value.{Value}
use Rattle.zl_value.specs.declared.script.Input.{Input}
use Rattle.zl_value.specs.declared.script.Output.{Output}
use Rattle.zl_kernel.specs.KernelForm.{KernelForm}
use Rattle.zl_kernel.specs.declared.wire.Def.{Def}
use Rattle.zl_kernel.specs.declared.wire.Def.TheVariants.{Lit, Copy, Mem, In, Event, Step, Op as Apply, If}
use Rattle.zl_kernel.specs.declared.wire.Wire.{Wire}
use Rattle.zl_kernel.specs.declared.memory.KMem.{KMem}
use Rattle.zl_kernel.specs.declared.site.KSite.{KSite}

-- variables have this type: `Zero` belongs to crossings in a program's text alone
abbrev pub IsOfValues : Ty → Type 0
IsOfValues ty = ty ≡ Zero → ⊥

-- there is a wire, a memory, an input of this number, and it has this type
pub record HasWire (k : KernelForm) (ty : Ty) (n : ℕ) : Type 0 where
  pub wire : Wire
  pub is : slice_get k.wires n ≡ Some wire
  pub typed : wire.ty ≡ ty

pub record HasMemory (k : KernelForm) (ty : Ty) (n : ℕ) : Type 0 where
  pub mem : KMem
  pub is : slice_get k.mems n ≡ Some mem
  pub typed : mem.ty ≡ ty

pub record HasInput (k : KernelForm) (ty : Ty) (n : ℕ) : Type 0 where
  pub input : Input
  pub is : slice_get k.ins n ≡ Some input
  pub typed : input.ty ≡ ty

-- the wires have these types
abbrev pub HaveWires : KernelForm → List Ty → List ℕ → Type 0
HaveWires k [] [] = Unit {0}
HaveWires k (ty ∷ tys) (n ∷ ns) = HasWire k ty n × HaveWires k tys ns
HaveWires k _ _ = ⊥

-- the types of what a wire of this type is made from agree with its own
abbrev pub IsDef : KernelForm → Ty → Def → Type 0
IsDef k ty (Lit v) = IsOfType ty v
IsDef k ty (Copy n) = HasWire k ty n
IsDef k ty (Mem n) = HasMemory k ty n
IsDef k ty (In n) = HasInput k ty n
IsDef k ty (Event site) = (site < length k.sites) × (ty ≡ BoolTy)
IsDef k ty Step = ty ≡ BoolTy
IsDef k ty (Apply op ns) = HaveWires k (type_of op).operands ns × ((type_of op).result ≡ ty)
IsDef k ty (If c x y) = HasWire k BoolTy c × HasWire k ty x × HasWire k ty y

-- a guard is a bool
abbrev pub IsGuard : KernelForm → Option ℕ → Type 0
IsGuard k None = Unit {0}
IsGuard k (Some n) = HasWire k BoolTy n

-- what has a slope is a number, and so is its slope
abbrev pub IsSlope : KernelForm → Ty → Option ℕ → Type 0
IsSlope k ty None = Unit {0}
IsSlope k ty (Some n) = (ty ≡ Float) × HasWire k Float n

pub record IsWire (k : KernelForm) (wire : Wire) : Type 0 where
  pub value : IsOfValues wire.ty
  pub def : IsDef k wire.ty wire.def
  pub guard : IsGuard k wire.guard
  pub slope : IsSlope k wire.ty wire.slope

-- a memory begins empty, or with a value of its type
abbrev pub IsStart : Ty → Option Value → Type 0
IsStart ty None = Unit {0}
IsStart ty (Some v) = IsOfType ty v

pub record IsMemory (k : KernelForm) (mem : KMem) : Type 0 where
  pub value : IsOfValues mem.ty
  pub start : IsStart mem.ty mem.start
  pub next : HasWire k mem.ty mem.next
  pub slope : IsSlope k mem.ty mem.slope

pub record IsSite (k : KernelForm) (site : KSite) : Type 0 where
  pub value : HasWire k Float site.value
  pub fresh : HasWire k BoolTy site.fresh
  pub slope : HasWire k Float site.slope

pub record IsInput (input : Input) : Type 0 where
  pub name : IsIdentifier input.name
  pub value : IsOfValues input.ty

pub record IsOutput (k : KernelForm) (out : Output) : Type 0 where
  pub name : IsIdentifier out.name
  pub wire : out.«from» < length k.wires

-- no two inputs have one name
abbrev pub AreDifferent : List Input → Type 0
AreDifferent [] = Unit {0}
AreDifferent (input ∷ inputs) = AllByRecursion (λ (other : Input). other.name ≡ input.name → ⊥) inputs × AreDifferent inputs

abbrev pub can_fail : Def → Bool
can_fail (Apply op ns) = can_fault op
can_fail _ = false

pub record IsWellFormed (k : KernelForm) : Type 0 where
  pub wires : AllByRecursion (IsWire k) k.wires
  pub mems : AllByRecursion (IsMemory k) k.mems
  pub sites : AllByRecursion (IsSite k) k.sites
  pub ins : AllByRecursion IsInput k.ins
  pub names : AreDifferent k.ins
  pub outs : AllByRecursion (IsOutput k) k.outs
  pub some : 0 < length k.outs
  pub again : HasWire k BoolTy k.again
  -- no two wires whose operators can fault have one place in the order of faults
  pub order : (m n : ℕ) (a b : Wire) → slice_get k.wires m ≡ Some a → slice_get k.wires n ≡ Some b → can_fail a.def ≡ true → can_fail b.def ≡ true → a.ord ≡ b.ord → m ≡ n
