-- The sites up to here are noted.
use Rattle.std.specs.Prelude.{◌≡◌, length, take}
use Rattle.zl_value.specs.Lists.{listed}
use Rattle.zl_machine.specs.Calls.{site_line}
use Rattle.zl_run.specs.Flowing.{AreLines}
use Rattle.zl_run.proofs.flowing.note_lines.Given as goal

abbrev pub invariant-loop-k : goal.invariant-loop-k
invariant-loop-k l =
    (length l.lines ≡ length l.machine.code.sites) × (take l.k l.lines ≡ listed l.k 0 (λ n. site_line l.machine n)) × AreLines l.machine l.k
