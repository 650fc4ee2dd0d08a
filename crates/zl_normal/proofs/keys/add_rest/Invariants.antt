use Rattle.std.proofs.Common.{◌≡◌, ◌++◌, drop}
use Rattle.zl_normal.specs.Keys as spec
use Rattle.zl_normal.specs.declared.key.Key.TheVariants as key
use Rattle.zl_normal.proofs.keys.add_rest.Given as goal

abbrev pub invariant-loop-i : goal.invariant-loop-i
invariant-loop-i l = l.keys.items ++ spec.joints (key.Rest l.j) l.i (drop l.i l.parts) ≡ l.initial.keys.items ++ spec.joints (key.Rest l.j) 0 l.parts
