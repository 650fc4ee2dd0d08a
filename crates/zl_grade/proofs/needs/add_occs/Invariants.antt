use Rattle.std.proofs.Common.{◌≡◌, ◌++◌, drop}
use Rattle.zl_grade.specs.Numbered.{numbered}
use Rattle.zl_grade.specs.Needs as spec
use Rattle.zl_grade.proofs.needs.add_occs.Given as goal

abbrev pub invariant-loop-k : goal.invariant-loop-k
invariant-loop-k l = l.needs.items ++ numbered (spec.occ_needs l.marks) l.k (drop l.k l.occs) ≡ l.initial.needs.items ++ numbered (spec.occ_needs l.marks) 0 l.occs
