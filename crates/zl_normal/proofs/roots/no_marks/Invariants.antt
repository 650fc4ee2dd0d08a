use Rattle.std.proofs.Common.{None}
use Rattle.zl_normal.specs.Table.{IsTable}
use Rattle.zl_normal.proofs.roots.no_marks.Given as goal

abbrev pub invariant-loop-i : goal.invariant-loop-i
invariant-loop-i l = IsTable l.marks.items l.i (λ i. None)
