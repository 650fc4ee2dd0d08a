-- The fault of an instant or of a flow of a kernel: of all its wires' faults the one whose number is least.
use Rattle.std.specs.Prelude.{ℕ, suc, nat_le, if◌then◌else◌, List, [], ◌∷◌, Option, Some, None}
use Rattle.std.specs.Option.{option_map}
use Rattle.zl_value.specs.Operators.{Answer, Gives, Faults, Nothing}
use Rattle.zl_value.specs.declared.value.Fault.{Fault}
use Rattle.zl_value.specs.declared.value.Value.{Value}
use Rattle.zl_kernel.specs.KernelForm.{KernelForm}
use Rattle.zl_kernel.specs.Wires.{Registers, held, Moment, wire_answer}
use Rattle.zl_kernel.specs.declared.wire.Wire.{Wire}

-- a fault, with its place in the order of faults
pub record Ranked : Type 0 where
  pub ord : ℕ
  pub fault : Fault

abbrev pub ranked : Wire → Answer → Option Ranked
ranked wire (Gives v) = None
ranked wire (Faults kind) = Some (record { ord = wire.ord; fault = record { kind = kind; at = wire.at } })
ranked wire Nothing = None

-- the one whose number is less
abbrev pub lower : Option Ranked → Option Ranked → Option Ranked
lower None other = other
lower (Some a) None = Some a
lower (Some a) (Some b) = if nat_le a.ord b.ord then Some a else Some b

-- the fault of least number among these wires, of which the first is wire `n`
abbrev pub least_from : KernelForm → Moment → (ℕ → Option Value) → ℕ → List Wire → Option Ranked
least_from k m s n [] = None
least_from k m s n (wire ∷ wires) = lower (ranked wire (wire_answer k m s n wire)) (least_from k m s (suc n) wires)

abbrev pub fault_of : KernelForm → Moment → Registers → Option Fault
fault_of k m r = option_map (λ (a : Ranked). a.fault) (least_from k m (held r) 0 k.wires)
