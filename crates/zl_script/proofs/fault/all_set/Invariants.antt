use Rattle.std.proofs.Common.{take}
use Rattle.zl_script.proofs.FaultLemmas.{AreMarks}
use Rattle.zl_script.proofs.fault.all_set.Given as goal

abbrev pub invariant-loop-set : goal.invariant-loop-set
invariant-loop-set l = AreMarks l.count (take l.set-index l.sets) l.given.items
