-- The memories that move in a flow, in order.
use Rattle.std.specs.Prelude.{ℕ, List, [], ◌∷◌, Option, Some, None}
use Rattle.std.specs.List.{flat_map}
use Rattle.zl_value.specs.System.{Motion}
use Rattle.zl_value.specs.declared.position.Pos.{Pos}
use Rattle.zl_value.specs.declared.value.Value.{Value}
use Rattle.zl_value.specs.declared.value.Value.TheVariants.{F}
use Rattle.zl_kernel.specs.Wires.{Registers, held}
use Rattle.zl_kernel.specs.declared.memory.KMem.{KMem}

abbrev pub motion : Pos → Option Value → Option Value → List Motion
motion at (Some (F «from»)) (Some (F slope)) = record { «from» = «from»; slope = slope; at = at } ∷ []
motion at _ _ = []

abbrev pub motion_by : Registers → Registers → KMem → Option ℕ → List Motion
motion_by r y mem None = []
motion_by r y mem (Some slope) = motion mem.at (held r mem.next) (held y slope)

-- `r` is what the wires hold at the instant before, `y` what they hold in the flow
abbrev pub motions : Registers → Registers → List KMem → List Motion
motions r y mems = flat_map (λ (mem : KMem). motion_by r y mem mem.slope) mems
