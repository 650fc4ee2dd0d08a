use Rattle.std.proofs.Common.{length, ◌++◌, slice_get}
use Rattle.zl_normal.specs.Joined.{link_of}
use Rattle.zl_normal.specs.Table.{IsTable}
use Rattle.zl_normal.proofs.joined.links_of.Given as goal

abbrev pub invariant-loop-i : goal.invariant-loop-i
invariant-loop-i l = IsTable l.links.items l.i (λ i. link_of (length l.occs) (slice_get (l.occs ++ l.places) i))
