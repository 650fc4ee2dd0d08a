use Rattle.zl_normal.specs.Roots.{root_of}
use Rattle.zl_normal.specs.Table.{IsTable}
use Rattle.zl_normal.proofs.roots.read_roots.Given as goal

abbrev pub invariant-loop-i : goal.invariant-loop-i
invariant-loop-i l = IsTable l.roots.items l.i (root_of l.marks l.ends)
