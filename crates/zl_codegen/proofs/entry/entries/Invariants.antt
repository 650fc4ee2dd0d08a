-- The wires up to here have their entries.
use Rattle.zl_codegen.specs.Ranking.{AreEntries}
use Rattle.zl_codegen.proofs.entry.entries.Given as goal

abbrev pub invariant-loop-i : goal.invariant-loop-i
invariant-loop-i l = AreEntries l.ranks l.i l.entries.items
