use Rattle.zl_normal.proofs.Chains.{open_count, IsChaining}
use Rattle.zl_normal.proofs.roots.mark_chain.Given as goal

abbrev pub invariant-loop-marks : goal.invariant-loop-marks
invariant-loop-marks l = IsChaining l.links l.marks.items l.ends l.at

abbrev pub decreases-loop-marks : goal.decreases-loop-marks
decreases-loop-marks l = open_count l.marks.items
