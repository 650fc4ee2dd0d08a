use Rattle.std.proofs.Common.{◌≡◌, ◌++◌, drop, map, get_or}
use Rattle.zl_normal.proofs.made_wire.looked_up.Given as goal

abbrev pub invariant-loop-i : goal.invariant-loop-i
invariant-loop-i l = l.items.items ++ map (λ j. get_or l.numbers j 0) (drop l.i l.parts) ≡ map (λ j. get_or l.numbers j 0) l.parts
