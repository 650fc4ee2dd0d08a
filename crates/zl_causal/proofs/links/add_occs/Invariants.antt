use Rattle.std.proofs.Common.{◌≡◌, ◌++◌, drop}
use Rattle.zl_causal.specs.FormLinks as spec
use Rattle.zl_causal.proofs.links.add_occs.Given as goal

abbrev pub invariant-loop-occ : goal.invariant-loop-occ
invariant-loop-occ l = l.links.items ++ spec.occs_links l.k (drop l.occ-index l.occs) ≡ l.initial.links.items ++ spec.occs_links 0 l.occs
