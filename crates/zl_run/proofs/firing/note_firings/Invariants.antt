-- The sites up to here are noted.
use Rattle.std.specs.Prelude.{◌≡◌, false, length, take, get_or}
use Rattle.zl_value.specs.Lists.{listed}
use Rattle.zl_run.specs.Firing.{fires_at}
use Rattle.zl_run.proofs.firing.note_firings.Given as goal

abbrev pub invariant-loop-k : goal.invariant-loop-k
invariant-loop-k l =
    (length l.events ≡ length l.machine.code.sites) × (take l.k l.events ≡ listed l.k 0 (λ n. fires_at l.machine.code (get_or l.below n false) l.machine.regs n))
