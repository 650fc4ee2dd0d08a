use Rattle.zl_normal.proofs.Keeping.{AreKept}
use Rattle.zl_normal.proofs.numbers.KeyTables.keep_all.Given as goal

abbrev pub invariant-loop-i : goal.invariant-loop-i
invariant-loop-i l = AreKept l.fn.self l.self l.kept l.i
