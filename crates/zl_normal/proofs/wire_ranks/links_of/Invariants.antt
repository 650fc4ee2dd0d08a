use Rattle.std.proofs.Common.{◌≡◌, ◌++◌, drop}
use Rattle.zl_normal.specs.WireLinks as spec
use Rattle.zl_normal.proofs.wire_ranks.links_of.Given as goal

abbrev pub invariant-loop-wire : goal.invariant-loop-wire
invariant-loop-wire l = l.links.items ++ spec.links_from l.n (drop l.wire-index l.wires) ≡ spec.links_from 0 l.wires
