-- What is printed of a kernel's instant.
use Rattle.std.specs.Prelude.{List, Option}
use Rattle.std.specs.List.{filter_map}
use Rattle.std.specs.Option.{option_map}
use Rattle.zl_value.specs.Lines.{Shown}
use Rattle.zl_value.specs.declared.script.Output.{Output}
use Rattle.zl_kernel.specs.KernelForm.{KernelForm}
use Rattle.zl_kernel.specs.Wires.{Registers, held}

-- an output with its value
abbrev pub shown : Registers → Output → Option Shown
shown r out = option_map (λ v. record { name = out.name; value = v }) (held r out.«from»)

-- the outputs that have a value
abbrev pub outputs : KernelForm → Registers → List Shown
outputs k r = filter_map (shown r) k.outs
