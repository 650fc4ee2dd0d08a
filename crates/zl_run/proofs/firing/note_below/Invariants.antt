-- The sites up to here are noted.
use Rattle.std.specs.Prelude.{◌≡◌, length, take}
use Rattle.zl_value.specs.Lists.{listed}
use Rattle.zl_value.specs.Times.{is_below}
use Rattle.zl_code.specs.System.{site_value}
use Rattle.zl_run.proofs.firing.note_below.Given as goal

abbrev pub invariant-loop-k : goal.invariant-loop-k
invariant-loop-k l =
    (length l.below ≡ length l.machine.code.sites) × (take l.k l.below ≡ listed l.k 0 (λ n. is_below (site_value l.machine.code l.machine.regs n)))
