use Rattle.std.proofs.Common.{◌≡◌, length}
use Rattle.zl_normal.specs.Roots.{AreChained}
use Rattle.zl_normal.proofs.roots.roots.Given as goal

abbrev pub invariant-loop-i : goal.invariant-loop-i
invariant-loop-i l = (length l.ends.items ≡ l.i) × AreChained l.links l.marks.items l.ends.items
