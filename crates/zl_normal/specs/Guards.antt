-- Wires that are true exactly where others are, and wires that hold something exactly where others are true.
use Rattle.std.specs.Prelude.{◌≡◌, ℕ, true, false, List, [], ◌∷◌, Option, Some, None}
use Rattle.zl_value.specs.declared.value.Value.{Value}
use Rattle.zl_value.specs.declared.value.Value.TheVariants.{B}
use Rattle.zl_value.specs.declared.op.Op.TheVariants.{Or, Not}
use Rattle.zl_kernel.specs.KernelForm.{KernelForm}
use Rattle.zl_kernel.specs.declared.wire.Def.{Def}
use Rattle.zl_kernel.specs.declared.wire.Def.TheVariants.{Lit as LitWire, Copy, Op as OpWire, If as IfWire}
use Rattle.zl_normal.specs.KernelParts.{IsWire, IsLit}

-- where wire `n` is true, `g` is: they are one, or `g` is in the chain of the guard of `n`, of the wire that it copies, or of
-- both parts of an `if` that is false elsewhere
pub data InChain (k : KernelForm) (g : ℕ) : ℕ → Type 0 where
  Same : InChain k g g
  ByGuard : (n h : ℕ) (def : Def) → IsWire k n def (Some h) → InChain k g h → InChain k g n
  ByCopy : (n c : ℕ) (guard : Option ℕ) → IsWire k n (Copy c) guard → InChain k g c → InChain k g n
  ByTest : (n c x y : ℕ) (guard : Option ℕ) → IsWire k n (IfWire c x y) guard → IsLit k y (B false) → InChain k g c → InChain k g n
  ByYes : (n c x y : ℕ) (guard : Option ℕ) → IsWire k n (IfWire c x y) guard → IsLit k y (B false) → InChain k g x → InChain k g n

-- the same of a guard, which there may not be
abbrev pub Implied : KernelForm → Option ℕ → ℕ → Type 0
Implied k None c = Unit {0}
Implied k (Some g) c = InChain k g c

-- `n` is true exactly where the guard `g` and the wire `c` are
pub data IsUnder (k : KernelForm) (g : Option ℕ) (c : ℕ) : Option ℕ → Type 0 where
  Chained : Implied k g c → IsUnder k g c (Some c)
  Copied : (n : ℕ) → IsWire k n (Copy c) g → IsUnder k g c (Some n)
  Known : IsLit k c (B true) → IsUnder k g c g

-- `n` is true exactly where the guard `g` is and the wire `c` is false
pub data IsBut (k : KernelForm) (g : Option ℕ) (c : ℕ) : Option ℕ → Type 0 where
  Turned : (n : ℕ) → IsWire k n (OpWire Not (c ∷ [])) g → IsBut k g c (Some n)
  Known : IsLit k c (B false) → IsBut k g c g

-- `n` is true exactly where the guard `g` is and the wire `c` holds a bool
pub data IsEither (k : KernelForm) (g : Option ℕ) (c : ℕ) : Option ℕ → Type 0 where
  Made : (n u : ℕ) → IsWire k u (OpWire Not (c ∷ [])) g → IsWire k n (OpWire Or (c ∷ u ∷ [])) g → IsEither k g c (Some n)

-- `n` holds what `x` holds where the guard `g` is true, and is empty elsewhere
pub data IsGuarded (k : KernelForm) (x : ℕ) (g : Option ℕ) : ℕ → Type 0 where
  Free : g ≡ None → IsGuarded k x g x
  Chained : (def : Def) (h : ℕ) → IsWire k x def (Some h) → Implied k g h → IsGuarded k x g x
  Copied : (n : ℕ) → IsWire k n (Copy x) g → IsGuarded k x g n
  Literal : (n : ℕ) (v : Value) → IsLit k x v → IsWire k n (LitWire v) g → IsGuarded k x g n
  Never : (def : Def) (u : ℕ) → IsWire k x def (Some u) → IsLit k u (B false) → IsGuarded k x g x

-- `n` is the `or` of these wires
pub data IsAny (k : KernelForm) : List ℕ → ℕ → Type 0 where
  NoneOf : (n : ℕ) → IsLit k n (B false) → IsAny k [] n
  OneOf : (u : ℕ) → IsAny k (u ∷ []) u
  SomeOf : (u v n m : ℕ) (us : List ℕ) → IsAny k (v ∷ us) m → IsWire k n (OpWire Or (u ∷ m ∷ [])) None → IsAny k (u ∷ v ∷ us) n
