-- Words in which worked kernels are proved to be normal forms: what holds of each entry of a list that is written out.
use Rattle.std.specs.Prelude.{◌≡◌, ℕ, ◌<◌, zero, suc, ◌+◌, false, length, List, [], ◌∷◌, slice_get, Option, Some, None}
use Rattle.std.proofs.Common.{refl, ap, subst, arith}
use Rattle.zl_value.specs.declared.op.Op.{Op}
use Rattle.zl_kernel.specs.KernelForm.{KernelForm}
use Rattle.zl_kernel.specs.FlowWires.{is_of_flows}
use Rattle.zl_kernel.specs.declared.wire.Wire.{Wire}
use Rattle.zl_kernel.specs.declared.wire.Def.{Def}
use Rattle.zl_kernel.specs.declared.wire.Def.TheVariants.{Op as OpWire}
use Rattle.zl_kernel.specs.declared.memory.KMem.{KMem}
use Rattle.zl_normal.specs.KernelParts.{IsWire, IsFlowWire, IsMemory}

pub some_is : {X : Type 0} (a b : X) → Some a ≡ Some b → a ≡ b
some_is {X = X} a b e = ap (λ x. or_else x) e
  where
    or_else : Option X → X
    or_else None = a
    or_else (Some y) = y

abbrev pub All : {A : Type 0} → (ℕ → A → Type 0) → ℕ → List A → Type 0
All Q base [] = Unit {0}
All Q base (x ∷ xs) = Q base x × All Q (suc base) xs

each_from : {A : Type 0} (Q : ℕ → A → Type 0) (base : ℕ) (xs : List A) → All Q base xs → (j : ℕ) (x : A) → slice_get xs j ≡ Some x → Q (base + j) x
each_from Q base [] all j x e = absurd cc
each_from Q base (y ∷ xs) all zero x e = subst (λ z. Q (base + 0) z) (some_is y x e) (let z : base ≡ base + 0 = omega arith in subst (λ n. Q n y) z all.0)
each_from Q base (y ∷ xs) all (suc j) x e = let z : suc base + j ≡ base + suc j = omega arith in subst (λ n. Q n x) z (each_from Q (suc base) xs all.1 j x e)

pub each : {A : Type 0} (Q : ℕ → A → Type 0) (xs : List A) → All Q 0 xs → (j : ℕ) (x : A) → slice_get xs j ≡ Some x → Q j x
each Q xs all j x e = let z : 0 + j ≡ j = omega arith in subst (λ n. Q n x) z (each_from Q 0 xs all j x e)

unfoldable pub wired : (k : KernelForm) (n : ℕ) (wire : Wire) → slice_get k.wires n ≡ Some wire → is_of_flows k n ≡ false → IsWire k n wire.def wire.guard
wired k n wire is kept = record { wire = wire; is = is; def_is = refl; guard_is = refl; kept = kept }

unfoldable pub flow_wired : (k : KernelForm) (n : ℕ) (wire : Wire) → slice_get k.wires n ≡ Some wire → IsFlowWire k n wire.def wire.guard
flow_wired k n wire is = record { wire = wire; is = is; def_is = refl; guard_is = refl }

unfoldable pub remembered : (k : KernelForm) (n : ℕ) (mem : KMem) → slice_get k.mems n ≡ Some mem → IsMemory k n mem.start mem.next mem.slope
remembered k n mem is = record { mem = mem; is = is; start_is = refl; next_is = refl; slope_is = refl }

pub of_op : {a b : Op} {x y : List ℕ} → OpWire a x ≡ OpWire b y → a ≡ b
of_op {a} {b} e = ap (λ d. op_in d) e
  where
    op_in : Def → Op
    op_in (OpWire o ns) = o
    op_in d = a

pub within : {A : Type 0} (xs : List A) (j : ℕ) (x : A) → slice_get xs j ≡ Some x → j < length xs
within [] j x e = absurd cc
within (y ∷ xs) zero x e = omega arith
within (y ∷ xs) (suc j) x e = let z = within xs j x e in omega (arith, z)
