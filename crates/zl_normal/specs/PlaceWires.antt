-- The wires of places, and of `last` of them.
use Rattle.std.specs.Prelude.{◌≡◌, ℕ, true, List, [], ◌∷◌, slice_get, Option, Some, None}
use Rattle.zl_value.specs.declared.value.Value.{Value}
use Rattle.zl_value.specs.declared.value.Value.TheVariants.{B}
use Rattle.zl_meaning.specs.FlatForm.{FlatForm}
use Rattle.zl_meaning.specs.declared.place.Definer.{Definer}
use Rattle.zl_meaning.specs.declared.place.Definer.TheVariants.{Input, Plain, Der, Start}
use Rattle.zl_meaning.specs.declared.place.DerArm.{DerArm}
use Rattle.zl_meaning.specs.declared.place.PlaceInfo.{PlaceInfo}
use Rattle.zl_meaning.specs.declared.occurrence.Form.TheVariants.{Lit}
use Rattle.zl_meaning.specs.declared.occurrence.Occ.{Occ}
use Rattle.zl_kernel.specs.KernelForm.{KernelForm}
use Rattle.zl_kernel.specs.declared.wire.Def.TheVariants.{Mem, In, If as IfWire}
use Rattle.zl_kernel.specs.declared.wire.Wire.{Wire}
use Rattle.zl_normal.specs.Wiring.{Wiring, call_guard}
use Rattle.zl_normal.specs.KernelParts.{IsWire, IsLit, IsMemory}
use Rattle.zl_normal.specs.Guards.{IsUnder, IsBut, IsGuarded}
use Rattle.zl_normal.specs.FormWires.{IsOcc}
use Rattle.zl_normal.specs.UseGuards.{IsPartOf}

-- the first definer beside `init`, and the occurrence of the first `init`
abbrev pub definer_of : List Definer → Option Definer
definer_of [] = None
definer_of (Start b j ∷ definers) = definer_of definers
definer_of (definer ∷ definers) = Some definer

abbrev pub start_of : List Definer → Option ℕ
start_of [] = None
start_of (Start b j ∷ definers) = Some j
start_of (definer ∷ definers) = start_of definers

module _ (f : FlatForm) (k : KernelForm) (N : Wiring) where
  -- `last` of place number `p`, whose `init` is this occurrence: a memory of the place, which begins with the `init` where that
  -- is a literal
  pub data IsLast (p : ℕ) (call : Option ℕ) : Option ℕ → ℕ → Type 0 where
    NoStart : (n m : ℕ) → IsWire k n (Mem m) None → IsMemory k m None (N.P p) None → IsLast p call None n
    LitStart : (j n m : ℕ) (occ : Occ) (v : Value) → slice_get f.occs j ≡ Some occ → occ.form ≡ Lit v → IsWire k n (Mem m) None → IsMemory k m (Some v) (N.P p) None → IsLast p call (Some j) n
    ByStart : (j n x m : ℕ) → IsOcc f j → IsUnder k (call_guard N call) N.fresh (N.G j) → IsWire k n (IfWire N.fresh (N.w j) x) None → IsWire k x (Mem m) None → IsMemory k m None (N.P p) None → IsLast p call (Some j) n

  -- the value at a step of a place with a `der`: that of the arm that is taken, else `last`. Where `rest` is true none of the
  -- arms before these is
  pub data IsReset (last : ℕ) (call : Option ℕ) : List DerArm → ℕ → ℕ → Type 0 where
    Stays : (rest : ℕ) → IsReset last call [] rest last
    Sure : (arm : DerArm) (arms : List DerArm) (rest : ℕ) → IsPartOf f k N call arm.event → IsLit k (N.w arm.event) (B true) → IsOcc f arm.value → IsUnder k (call_guard N call) rest (N.G arm.value) → IsReset last call (arm ∷ arms) rest (N.w arm.value)
    Tested : (arm : DerArm) (arms : List DerArm) (rest h n x y : ℕ) → IsPartOf f k N call arm.event → IsUnder k (Some rest) (N.w arm.event) (Some h) → IsBut k (Some rest) (N.w arm.event) (Some n) → IsOcc f arm.value → IsUnder k (call_guard N call) h (N.G arm.value) → IsReset last call arms n y → IsWire k x (IfWire h (N.w arm.value) y) None → IsReset last call (arm ∷ arms) rest x

  -- a place with a `der`: at a step what its arms give, else its memory, which moves
  pub record IsMoving (p : ℕ) (call : Option ℕ) (start : Option ℕ) (arms : List DerArm) : Type 0 where
    pub at_step : ℕ
    pub between : ℕ
    pub memory : ℕ
    pub slope : ℕ
    pub last : IsLast p call start (N.L p)
    pub reset : IsReset (N.L p) call arms N.step at_step
    pub wire : IsWire k (N.P p) (IfWire N.step at_step between) (call_guard N call)
    pub kept : IsWire k between (Mem memory) None
    pub moves : IsMemory k memory None (N.P p) (Some slope)

  -- what place number `p` has by its definer
  abbrev pub IsDefined : ℕ → PlaceInfo → Option Definer → Type 0
  IsDefined p place None = IsLast p place.call (start_of place.definers) (N.L p) × IsGuarded k (N.L p) (call_guard N place.call) (N.P p)
  IsDefined p place (Some (Input n)) = IsWire k (N.P p) (In n) (call_guard N place.call)
  IsDefined p place (Some (Plain b j)) = IsOcc f j × (N.G j ≡ call_guard N place.call) × IsGuarded k (N.w j) (call_guard N place.call) (N.P p)
  IsDefined p place (Some (Der b j arms)) = IsMoving p place.call (start_of place.definers) arms
  IsDefined p place (Some (Start b j)) = ⊥

  -- the slope of a place with a `der`: a memory of its derivative, which the flow doesn't move. The derivative's own wire would
  -- be one of flows alone
  pub record IsDer (place : PlaceInfo) (a slope : ℕ) : Type 0 where
    pub wire : Wire
    pub is : slice_get k.wires slope ≡ Some wire
    pub m : ℕ
    pub def : wire.def ≡ Mem m
    pub free : wire.guard ≡ None
    pub mem : IsMemory k m None (N.w a) None
    pub there : IsOcc f a
    pub guard : N.G a ≡ call_guard N place.call
