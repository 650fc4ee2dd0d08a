-- What follows an instant of a run. This project's own.
use Rattle.std.specs.Prelude.{ℕ, nat_eq, Bool, if◌then◌else◌, Option, Some, None}
use Rattle.zl_value.specs.Fraction.{Fraction}
use Rattle.zl_value.specs.Times.{is_same}
use Rattle.zl_value.specs.declared.value.Fault.{Fault}
use Rattle.zl_value.specs.declared.script.Script.{Script}
use Rattle.zl_value.specs.declared.script.Mark.{Mark}
use Rattle.zl_value.specs.declared.script.Ending.{Ending}
use Rattle.zl_value.specs.declared.script.Ending.TheVariants.{Horizon, Bound, Fault as EndsInFault}

-- the run ends; a step follows at the same time; or a flow
pub data Next : Type 0 where
  Ends : Ending → Next
  Steps : Next
  Flows : Next

-- with `made` steps so far: a demanded step is made, if the script still allows one
abbrev pub step_or_bound : Script → ℕ → Next
step_or_bound script made = if nat_eq made script.steps then Ends Bound else Steps

-- at this time: a flow begins, before the horizon
abbrev pub flow_or_horizon : Script → Fraction → Next
flow_or_horizon script time = if is_same time script.horizon then Ends Horizon else Flows

-- after an instant at this time and mark, with this fault or none, after which a step is demanded or not, `made` steps
-- having been made
abbrev pub next_after : Script → Fraction → Mark → Option Fault → Bool → ℕ → Next
next_after script time mark (Some fault) demanded made = Ends (EndsInFault fault time mark)
next_after script time mark None demanded made = if demanded then step_or_bound script made else flow_or_horizon script time
