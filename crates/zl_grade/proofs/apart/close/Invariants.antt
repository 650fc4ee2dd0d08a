use Rattle.zl_grade.specs.Closed.{IsClosing}
use Rattle.zl_grade.proofs.apart.close.Given as goal

abbrev pub invariant-loop-index : goal.invariant-loop-index
invariant-loop-index l = IsClosing l.children.occs.now l.fn.reached l.reached l.index
