use Rattle.std.proofs.Common.{◌≡◌, ◌++◌, drop}
use Rattle.std.specs.List.{flat_map}
use Rattle.zl_normal.specs.WireLinks as spec
use Rattle.zl_normal.proofs.wire_ranks.add_reads.Given as goal

abbrev pub invariant-loop-read : goal.invariant-loop-read
invariant-loop-read l = l.links.items ++ flat_map (spec.reading l.n) (drop l.read-index l.reads) ≡ l.initial.links.items ++ flat_map (spec.reading l.n) l.reads
