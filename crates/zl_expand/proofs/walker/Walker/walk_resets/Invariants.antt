use Rattle.std.proofs.Common.{◌≡◌, ◌≤◌, ◌++◌, drop, map}
use Rattle.zl_flat.specs.Parts.{joined}
use Rattle.zl_flat.specs.Equations as spec
use Rattle.zl_flat.specs.Counted.{count}
use Rattle.zl_expand.specs.Kept.{counters, instance_in, names_in}
use Rattle.zl_expand.proofs.walker.Walker.walk_resets.Given as goal

abbrev pub invariant-loop-reset : goal.invariant-loop-reset
invariant-loop-reset g l =
    (joined l.out (spec.resets_made l.instance.base (names_in l.instance) (instance_in l.instance) (map (spec.reset_arm_walk l.instance.base (names_in l.instance) (instance_in l.instance)) (drop l.reset-index l.resets)) l.here (counters l.out)).parts ≡ joined l.initial.out (spec.resets_made l.instance.base (names_in l.instance) (instance_in l.instance) (map (spec.reset_arm_walk l.instance.base (names_in l.instance) (instance_in l.instance)) l.resets) l.here (counters l.initial.out)).parts)
    × (l.arms.items ++ (spec.resets_made l.instance.base (names_in l.instance) (instance_in l.instance) (map (spec.reset_arm_walk l.instance.base (names_in l.instance) (instance_in l.instance)) (drop l.reset-index l.resets)) l.here (counters l.out)).arms ≡ (spec.resets_made l.instance.base (names_in l.instance) (instance_in l.instance) (map (spec.reset_arm_walk l.instance.base (names_in l.instance) (instance_in l.instance)) l.resets) l.here (counters l.initial.out)).arms)
    × (count l.initial.out ≤ count l.out)
