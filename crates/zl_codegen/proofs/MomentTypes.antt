-- What the wires of a kernel hold at a moment has their types, if what they read beside each other has.
use Rattle.std.specs.Prelude.{◌≡◌, ℕ, zero, suc, ◌<◌, Bool, true, false, ◌&&◌, if◌then◌else◌, List, [], ◌∷◌, slice_get, get_or, Option, Some, None}
use Rattle.std.proofs.Common.{refl, sym, ap, ◌∙◌, arith, subst}
use Rattle.zl_value.specs.Lists.{Has}
use Rattle.zl_value.specs.Operators.{Faults, Nothing, answered}
use Rattle.zl_value.specs.OperatorTypes.{type_of, can_fault}
use Rattle.zl_value.specs.declared.arith.Arith.{Arith}
use Rattle.zl_value.specs.declared.value.Ty.{Ty}
use Rattle.zl_value.specs.declared.value.Value.{Value}
use Rattle.zl_value.specs.declared.value.Value.TheVariants.{B, I, F}
use Rattle.zl_value.specs.declared.op.Op.{Op}
use Rattle.zl_value.specs.declared.script.Input.{Input}
use Rattle.zl_kernel.specs.KernelForm.{KernelForm}
use Rattle.zl_kernel.specs.FlowWires.{operands, reads}
use Rattle.zl_kernel.specs.WellFormed.{IsWellFormed, IsWire, IsDef, HasWire, HaveWires, can_fail}
use Rattle.zl_kernel.specs.Wires.{Registers, held, Moment, is_solved, is_open, given, branch, gathered, applied, answer, wire_value, turn}
use Rattle.zl_kernel.specs.WireRanks.{AreWireRanks}
use Rattle.zl_kernel.specs.declared.wire.Def.{Def}
use Rattle.zl_kernel.specs.declared.wire.Def.TheVariants as is
use Rattle.zl_kernel.specs.declared.wire.Wire.{Wire}
use Rattle.zl_kernel.specs.declared.memory.KMem.{KMem}
use Rattle.zl_kernel.proofs.OneSolution.{solved_at}
use Rattle.zl_codegen.specs.Laws.{IsSound}
use Rattle.zl_codegen.specs.RunLaws.{IsHeld, HoldTypes}
use Rattle.zl_codegen.proofs.HeldTypes.{AllOf, of_next, operate_of, never_faults}
use Rattle.zl_codegen.proofs.Reports.{operand_read}
use Rattle.zl_codegen.proofs.Typed.{entry_has}

-- what is read beside the wires has the types that it is to have
pub record ReadsTypes (k : KernelForm) (m : Moment) : Type 0 where
  pub inputs : (n : ℕ) (input : Input) → slice_get k.ins n ≡ Some input → IsHeld input.ty (held m.inputs n)
  pub memories : (n : ℕ) (mem : KMem) → slice_get k.mems n ≡ Some mem → IsHeld mem.ty (held m.memories n)

pub held_same : {a b : Ty} (v : Option Value) → a ≡ b → IsHeld a v → IsHeld b v
held_same v e is = subst (λ ty. IsHeld ty v) e is

held_given : (ty : Ty) (v : Option Value) → IsHeld ty v → IsHeld ty (answered (given v))
held_given ty None is = tt
held_given ty (Some v) is = is

held_branch : (ty : Ty) (c x y : Option Value) → IsHeld ty x → IsHeld ty y → IsHeld ty (branch c x y)
held_branch ty (Some (B true)) x y p q = p
held_branch ty (Some (B false)) x y p q = q
held_branch ty None x y p q = tt
held_branch ty (Some (I n)) x y p q = tt
held_branch ty (Some (F n)) x y p q = tt

held_applied : (op : Op) (vs : Option (List Value)) → AllOf (type_of op).operands vs → IsHeld (type_of op).result (answered (applied op vs))
held_applied op None all = tt
held_applied op (Some vs) all = operate_of op vs all

-- the wires `P` hold values of their types
module _ (k : KernelForm) (m : Moment) (reads_types : ReadsTypes k m) (s : ℕ → Option Value) (P : ℕ → Type 0) (below : (j : ℕ) (wire : Wire) → P j → slice_get k.wires j ≡ Some wire → IsHeld wire.ty (s j)) where
  value_held : (ty : Ty) (j : ℕ) → HasWire k ty j → P j → IsHeld ty (s j)
  value_held ty j has p = held_same (s j) has.typed (below j has.wire p has.is)

  pub gathered_held : (tys : List Ty) (ns : List ℕ) → HaveWires k tys ns → ((j : ℕ) → Has ns j → P j) → AllOf tys (gathered s ns)
  gathered_held [] [] have p = tt
  gathered_held (ty ∷ tys) (n ∷ ns) have p =
      of_next ty tys (s n) (gathered s ns) (value_held ty n have.0 (p n (record { index = 0; is = refl })))
      (gathered_held tys ns have.1 (λ j has. p j (record { index = suc has.index; is = has.is })))
  gathered_held [] (n ∷ ns) have p = absurd have
  gathered_held (ty ∷ tys) [] have p = absurd have

  answer_held : (ty : Ty) (def : Def) → IsDef k ty def → ((j : ℕ) → Has (operands def) j → P j) → IsHeld ty (answered (answer m s def))
  answer_held ty (is.Lit v) of p = of
  answer_held ty (is.Copy n) of p = held_given ty (s n) (value_held ty n of (p n (record { index = 0; is = refl })))
  answer_held ty (is.Mem n) of p = held_given ty (held m.memories n) (held_same (held m.memories n) of.typed (reads_types.memories n of.mem of.is))
  answer_held ty (is.In n) of p = held_given ty (held m.inputs n) (held_same (held m.inputs n) of.typed (reads_types.inputs n of.input of.is))
  answer_held ty (is.Event site) of p = held_same (Some (B _)) (sym of.1) tt
  answer_held ty is.Step of p = held_same (Some (B _)) (sym of) tt
  answer_held ty (is.Op op ns) of p = held_same (answered (applied op (gathered s ns))) of.1 (held_applied op (gathered s ns) (gathered_held (type_of op).operands ns of.0 p))
  answer_held ty (is.If c x y) of p =
      held_given ty _
      (held_branch ty (s c) (s x) (s y) (value_held ty x of.1 (p x (record { index = 1; is = refl }))) (value_held ty y of.2 (p y (record { index = 2; is = refl }))))

  pub wire_held : (n : ℕ) (wire : Wire) → IsWire k wire → ((j : ℕ) → Has (reads wire) j → P j) → IsHeld wire.ty (wire_value k m s n (Some wire))
  wire_held n wire of p = by (is_solved k m.mode n && is_open s wire.guard)
    where
      by : (t : Bool) → IsHeld wire.ty (answered (if t then answer m s wire.def else Nothing))
      by true = answer_held wire.ty wire.def of.def (λ j has. p j (operand_read wire j has))
      by false = tt

module _ (k : KernelForm) (well : IsWellFormed k) (m : Moment) (reads_types : ReadsTypes k m) (r : Registers) (solves : r ≡ turn k m r) where
  module _ (ranks : List ℕ) (are : AreWireRanks k ranks) where
    held_below : (room j : ℕ) (wire : Wire) → get_or ranks j 0 < room → slice_get k.wires j ≡ Some wire → IsHeld wire.ty (held r j)
    held_below zero j wire less at = absurd (omega (arith, less))
    held_below (suc room) j wire less at =
        subst (λ v. IsHeld wire.ty v) (sym (solved_at k m r solves j ∙ ap (λ w. wire_value k m (held r) j w) at))
        (wire_held k m reads_types (held r) (λ i. get_or ranks i 0 < get_or ranks j 0) (λ i w low is. held_below room i w (omega (arith, less, low)) is) j wire (entry_has (IsWire k) k.wires j wire well.wires at) (λ i has. are.lower j i wire at has))

    -- by rank
    pub hold_types : HoldTypes k r
    hold_types j wire at = held_below (suc (get_or ranks j 0)) j wire (omega arith) at

  -- and where an operator can't fault there is none
  pub sound : HoldTypes k r → IsSound k m r
  sound types = record { never = λ n wire kind at fails is. never n wire kind at fails (is_solved k m.mode n && is_open (held r) wire.guard) is }
    where
      fault : (kind : Arith) (vs : Option (List Value)) (op : Op) → can_fault op ≡ false → AllOf (type_of op).operands vs → applied op vs ≡ Faults kind → ⊥
      fault kind None op e all is = cc
      fault kind (Some vs) op e all is = never_faults op vs kind e all is

      gave : (kind : Arith) (v : Option Value) → given v ≡ Faults kind → ⊥
      gave kind None is = cc
      gave kind (Some v) is = cc

      by : (kind : Arith) (ty : Ty) (def : Def) → IsDef k ty def → can_fail def ≡ false → answer m (held r) def ≡ Faults kind → ⊥
      by kind ty (is.Lit v) of e is = cc
      by kind ty (is.Copy n) of e is = gave kind _ is
      by kind ty (is.Mem n) of e is = gave kind _ is
      by kind ty (is.In n) of e is = gave kind _ is
      by kind ty (is.Event site) of e is = cc
      by kind ty is.Step of e is = cc
      by kind ty (is.Op op ns) of e is =
          fault kind (gathered (held r) ns) op e
          (gathered_held k m reads_types (held r) (λ j. Unit {0}) (λ j w p at. types j w at) (type_of op).operands ns of.0 (λ j has. tt)) is
      by kind ty (is.If c x y) of e is = gave kind _ is

      never : (n : ℕ) (wire : Wire) (kind : Arith) → slice_get k.wires n ≡ Some wire → can_fail wire.def ≡ false → (t : Bool) → (if t then answer m (held r) wire.def else Nothing) ≡ Faults kind → ⊥
      never n wire kind at fails true is = by kind wire.ty wire.def (entry_has (IsWire k) k.wires n wire well.wires at).def fails is
      never n wire kind at fails false is = cc
