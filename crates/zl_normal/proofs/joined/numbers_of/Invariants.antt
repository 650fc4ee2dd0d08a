use Rattle.std.proofs.Common.{◌+◌, ◌++◌}
use Rattle.zl_normal.specs.Joined.{number_by}
use Rattle.zl_normal.specs.Table.{IsTable}
use Rattle.zl_normal.proofs.joined.numbers_of.Given as goal

abbrev pub invariant-loop-i : goal.invariant-loop-i
invariant-loop-i l = IsTable l.numbers.items l.i (λ i. number_by (l.occs ++ l.places) l.roots (l.first + i))
