-- The fault of a wire that a method solves.
use Rattle.std.specs.Prelude.{◌≡◌, ℕ, suc, if◌then◌else◌, List, [], ◌∷◌, ◌++◌, slice_get, Bool, Option, Some, None}
use Rattle.std.specs.Option.{option_map, option_and_then}
use Rattle.std.proofs.Common.{refl, ap, ap₂}
use Rattle.zl_value.specs.Lists.{Has}
use Rattle.zl_value.specs.Operators.{Nothing}
use Rattle.zl_value.specs.declared.value.Value.{Value}
use Rattle.zl_kernel.specs.KernelForm.{KernelForm}
use Rattle.zl_kernel.specs.FlowWires.{listed_in, operands, reads}
use Rattle.zl_kernel.specs.Wires.{Registers, held, gathered, applied, answer as answer_in, wire_answer, Moment}
use Rattle.zl_kernel.specs.declared.wire.Def.{Def}
use Rattle.zl_kernel.specs.declared.wire.Def.TheVariants as is
use Rattle.zl_kernel.specs.declared.wire.Wire.{Wire}
use Rattle.zl_code.specs.declared.stmt.OpFault.{OpFault}
use Rattle.zl_code.specs.declared.stmt.Found.{Found}
use Rattle.zl_codegen.specs.Needs.{is_taken, left_out}
use Rattle.zl_codegen.specs.Statements.{fault_of}
use Rattle.zl_codegen.proofs.Solving.{reported, report}

-- what a wire's value is made from is among what it reads
pub operand_read : (wire : Wire) (j : ℕ) → Has (operands wire.def) j → Has (reads wire) j
operand_read wire j has = by wire.guard
  where
    by : (guard : Option ℕ) → Has (listed_in guard ++ operands wire.def) j
    by None = has
    by (Some g) = record { index = suc has.index; is = has.is }

-- a wire has one fault over any values that agree at what it is made from
gathered_same : (s t : ℕ → Option Value) (ns : List ℕ) → ((j : ℕ) → Has ns j → s j ≡ t j) → gathered s ns ≡ gathered t ns
gathered_same s t [] e = refl
gathered_same s t (n ∷ ns) e =
    ap₂ (λ rest v. option_and_then (λ x. option_map (λ vs. x ∷ vs) rest) v) (gathered_same s t ns (λ j has. e j (record { index = suc has.index; is = has.is }))) (e n (record { index = 0; is = refl }))

pub report_same : (s t : ℕ → Option Value) (m : Moment) (wire : Wire) (def : Def) → ((j : ℕ) → Has (operands def) j → s j ≡ t j) → report wire def (answer_in m s def) ≡ report wire def (answer_in m t def)
report_same s t m wire (is.Lit v) e = refl
report_same s t m wire (is.Copy n) e = refl
report_same s t m wire (is.Mem n) e = refl
report_same s t m wire (is.In n) e = refl
report_same s t m wire (is.Event n) e = refl
report_same s t m wire is.Step e = refl
report_same s t m wire (is.Op op ns) e = ap (λ vs. reported (applied op vs) (fault_of wire op)) (gathered_same s t ns e)
report_same s t m wire (is.If c x y) e = refl

pub report_none : (wire : Wire) (def : Def) → report wire def Nothing ≡ None
report_none wire (is.Lit v) = refl
report_none wire (is.Copy n) = refl
report_none wire (is.Mem n) = refl
report_none wire (is.In n) = refl
report_none wire (is.Event n) = refl
report_none wire is.Step = refl
report_none wire (is.Op op ns) = by (fault_of wire op)
  where
    by : (at : Option OpFault) → reported Nothing at ≡ None
    by None = refl
    by (Some at) = refl
report_none wire (is.If c x y) = refl

-- the fault of a wire, if the method solves it
abbrev pub fault_in : KernelForm → Moment → Registers → ℕ → Option Wire → Option Found
fault_in k m r n None = None
fault_in k m r n (Some wire) = report wire wire.def (wire_answer k m (held r) n wire)

abbrev pub fault_at : KernelForm → Moment → Registers → List Bool → ℕ → Option Found
fault_at k m r marks n = if is_taken marks (left_out k m.mode) n then fault_in k m r n (slice_get k.wires n) else None
