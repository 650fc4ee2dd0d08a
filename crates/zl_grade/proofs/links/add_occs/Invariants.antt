use Rattle.std.proofs.Common.{◌≡◌, ◌++◌, drop}
use Rattle.zl_grade.specs.Numbered.{numbered}
use Rattle.zl_grade.specs.Links as spec
use Rattle.zl_grade.proofs.links.add_occs.Given as goal

abbrev pub invariant-loop-k : goal.invariant-loop-k
invariant-loop-k l = l.links.items ++ numbered spec.occ_links l.k (drop l.k l.occs) ≡ l.initial.links.items ++ numbered spec.occ_links 0 l.occs
