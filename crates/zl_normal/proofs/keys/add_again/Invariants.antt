use Rattle.std.proofs.Common.{◌≡◌, ◌++◌, drop}
use Rattle.zl_normal.specs.Keys as spec
use Rattle.zl_normal.specs.declared.key.Key.TheVariants as key
use Rattle.zl_normal.proofs.keys.add_again.Given as goal

abbrev pub invariant-loop-i : goal.invariant-loop-i
invariant-loop-i l = l.keys.items ++ spec.joints key.Again l.i (drop l.i l.again) ≡ l.initial.keys.items ++ spec.joints key.Again 0 l.again
