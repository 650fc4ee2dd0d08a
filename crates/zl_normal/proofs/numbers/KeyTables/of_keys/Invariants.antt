use Rattle.zl_normal.proofs.Sweep.{AreBefore}
use Rattle.zl_normal.proofs.numbers.KeyTables.of_keys.Given as goal

abbrev pub invariant-loop-i : goal.invariant-loop-i
invariant-loop-i l = AreBefore l.tables l.keys l.i
