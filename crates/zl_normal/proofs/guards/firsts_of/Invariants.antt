use Rattle.zl_normal.specs.Table.{IsTable}
use Rattle.zl_normal.proofs.guards.firsts_of.Given as goal

abbrev pub invariant-loop-j : goal.invariant-loop-j
invariant-loop-j l = IsTable l.firsts.items l.j (λ j. j)
