-- What each `Code` keeps: every number names an entry of its list, types agree, and each `if` has one `else` and one `fi`.
-- This project's own.
use Rattle.std.specs.Prelude.{◌≡◌, ℕ, ◌≤◌, Bool, true, false, List, [], ◌∷◌, length, slice_get, Option, Some, None}
use Rattle.std.specs.List.{AllByRecursion}
use Rattle.zl_lexer.specs.Words.{IsIdentifier}
use Rattle.zl_value.specs.Script.{IsOfType}
use Rattle.zl_value.specs.Widths.{nowhere}
use Rattle.zl_value.specs.OperatorTypes.{type_of, can_fault}
use Rattle.zl_value.specs.declared.value.Ty.{Ty}
use Rattle.zl_value.specs.declared.value.Value.{Value}
use Rattle.zl_value.specs.declared.value.Ty.TheVariants.{Bool as BoolTy, Float, Zero}
use Rattle.zl_value.specs.declared.script.Input.{Input}
use Rattle.zl_value.specs.declared.script.Output.{Output}
use Rattle.zl_code.specs.declared.stmt.OpFault.{OpFault}
use Rattle.zl_code.specs.declared.stmt.Stmt.{Stmt}
use Rattle.zl_code.specs.declared.stmt.Stmt.TheVariants.{Lit, Get, Mem, In, Event, Op as Apply, Set, If, Else, Fi}
use Rattle.zl_code.specs.declared.code.CMem.{CMem}
use Rattle.zl_code.specs.declared.code.CSite.{CSite}
use Rattle.zl_code.specs.CodeForm.{CodeForm}

-- the three methods: at steps, at left ends, in flows
pub data Method : Type 0 where
  AtStep AtLeft InFlow : Method

-- a register, a memory, an input of this type
abbrev pub HoldsReg : CodeForm → Ty → ℕ → Type 0
HoldsReg c ty r = slice_get c.regs r ≡ Some ty

abbrev pub HoldsMem : CodeForm → Ty → ℕ → Type 0
HoldsMem c ty m = (mem : CMem) × (slice_get c.mems m ≡ Some mem) × (mem.ty ≡ ty)

abbrev pub HoldsIn : CodeForm → Ty → ℕ → Type 0
HoldsIn c ty i = (input : Input) × (slice_get c.ins i ≡ Some input) × (input.ty ≡ ty)

abbrev pub AllHold : CodeForm → List Ty → List ℕ → Type 0
AllHold c [] [] = Unit {0}
AllHold c (ty ∷ tys) (r ∷ rs) = HoldsReg c ty r × AllHold c tys rs
AllHold c _ _ = ⊥

-- the fault of an operator is there exactly if the operator can have one
abbrev pub IsFaultFor : Bool → Option OpFault → Type 0
IsFaultFor true (Some fault) = Unit {0}
IsFaultFor false None = Unit {0}
IsFaultFor _ _ = ⊥

-- numbers and types of a statement; sites fire at steps alone, and flows set nothing
abbrev pub IsStmt : CodeForm → Method → Stmt → Type 0
IsStmt c m (Lit to value) = (ty : Ty) × HoldsReg c ty to × IsOfType ty value
IsStmt c m (Get to from) = (ty : Ty) × HoldsReg c ty to × HoldsReg c ty from
IsStmt c m (Mem to mem) = (ty : Ty) × HoldsReg c ty to × HoldsMem c ty mem
IsStmt c m (In to input) = (ty : Ty) × HoldsReg c ty to × HoldsIn c ty input
IsStmt c AtStep (Event to site) = HoldsReg c BoolTy to × (s : CSite) × (slice_get c.sites site ≡ Some s)
IsStmt c _ (Event to site) = ⊥
IsStmt c m (Apply to op args fault) = HoldsReg c (type_of op).result to × AllHold c (type_of op).operands args × IsFaultFor (can_fault op) fault
IsStmt c InFlow (Set mem from) = ⊥
IsStmt c _ (Set mem from) = (ty : Ty) × HoldsMem c ty mem × HoldsReg c ty from
IsStmt c m (If r) = HoldsReg c BoolTy r
IsStmt c m Else = Unit {0}
IsStmt c m Fi = Unit {0}

-- each `if` has one `else` and one `fi`: `opened` says of the open ones, innermost first, whether their `else` has come
abbrev pub closes : List Bool → List Stmt → Bool
closes [] [] = true
closes (o ∷ os) [] = false
closes opened (If r ∷ rest) = closes (false ∷ opened) rest
closes (false ∷ opened) (Else ∷ rest) = closes (true ∷ opened) rest
closes (true ∷ opened) (Else ∷ rest) = false
closes [] (Else ∷ rest) = false
closes (true ∷ opened) (Fi ∷ rest) = closes opened rest
closes (false ∷ opened) (Fi ∷ rest) = false
closes [] (Fi ∷ rest) = false
closes opened (stmt ∷ rest) = closes opened rest

pub record IsMethod (c : CodeForm) (m : Method) (stmts : List Stmt) : Type 0 where
  pub each : AllByRecursion (IsStmt c m) stmts
  pub nested : closes [] stmts ≡ true

-- a memory that moves is float, and so is the register of its slope; one that doesn't has no position
abbrev pub IsSlope : CodeForm → CMem → Option ℕ → Type 0
IsSlope c mem None = mem.at ≡ nowhere
IsSlope c mem (Some r) = (mem.ty ≡ Float) × HoldsReg c Float r

abbrev pub IsStart : Ty → Option Value → Type 0
IsStart ty None = Unit {0}
IsStart ty (Some v) = IsOfType ty v

pub record IsMem (c : CodeForm) (mem : CMem) : Type 0 where
  pub ty : mem.ty ≡ Zero → ⊥
  pub start : IsStart mem.ty mem.start
  pub slope : IsSlope c mem mem.slope

pub record IsSite (c : CodeForm) (site : CSite) : Type 0 where
  pub value : HoldsReg c Float site.value
  pub fresh : HoldsReg c BoolTy site.fresh
  pub slope : HoldsReg c Float site.slope

pub record IsInput (input : Input) : Type 0 where
  pub ty : input.ty ≡ Zero → ⊥
  pub name : IsIdentifier input.name

pub record IsOutput (c : CodeForm) (output : Output) : Type 0 where
  pub ty : Ty
  pub from : HoldsReg c ty output.from
  pub name : IsIdentifier output.name

-- two inputs have different names; outputs may share one
abbrev pub AreNamedOnce : List Input → Type 0
AreNamedOnce [] = Unit {0}
AreNamedOnce (input ∷ inputs) = AllByRecursion (λ (other : Input). other.name ≡ input.name → ⊥) inputs × AreNamedOnce inputs

-- as many as have numbers
abbrev pub IsNumbered : {X : Type 0} → List X → Type 0
IsNumbered xs = length xs ≤ 4294967296

pub record AreNumbered (c : CodeForm) : Type 0 where
  pub regs : IsNumbered c.regs
  pub mems : IsNumbered c.mems
  pub ins : IsNumbered c.ins
  pub sites : IsNumbered c.sites

pub record IsCode (c : CodeForm) : Type 0 where
  pub counts : AreNumbered c
  pub regs : AllByRecursion (λ ty. ty ≡ Zero → ⊥) c.regs
  pub mems : AllByRecursion (IsMem c) c.mems
  pub ins : AllByRecursion IsInput c.ins
  pub names : AreNamedOnce c.ins
  pub some_out : c.outs ≡ [] → ⊥
  pub outs : AllByRecursion (IsOutput c) c.outs
  pub sites : AllByRecursion (IsSite c) c.sites
  pub again : HoldsReg c BoolTy c.again
  pub step : IsMethod c AtStep c.step
  pub left : IsMethod c AtLeft c.left
  pub flow : IsMethod c InFlow c.flow
