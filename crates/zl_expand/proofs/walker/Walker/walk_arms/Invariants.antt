use Rattle.std.proofs.Common.{◌≡◌, ◌≤◌, ◌++◌, drop, map}
use Rattle.zl_flat.specs.Parts.{joined}
use Rattle.zl_flat.specs.Equations as spec
use Rattle.zl_flat.specs.Counted.{count}
use Rattle.zl_expand.specs.Kept.{counters, instance_in, names_in}
use Rattle.zl_expand.proofs.walker.Walker.walk_arms.Given as goal

abbrev pub invariant-loop-arm : goal.invariant-loop-arm
invariant-loop-arm g l =
    (joined l.out (spec.arms_made (map (spec.arm_walk l.instance.base (names_in l.instance) (instance_in l.instance)) (drop l.arm-index l.arms)) l.of l.number l.here (counters l.out)).parts ≡ joined l.initial.out (spec.arms_made (map (spec.arm_walk l.instance.base (names_in l.instance) (instance_in l.instance)) l.arms) l.of 0 l.here (counters l.initial.out)).parts)
    × (l.conds.items ++ (spec.arms_made (map (spec.arm_walk l.instance.base (names_in l.instance) (instance_in l.instance)) (drop l.arm-index l.arms)) l.of l.number l.here (counters l.out)).tests ≡ (spec.arms_made (map (spec.arm_walk l.instance.base (names_in l.instance) (instance_in l.instance)) l.arms) l.of 0 l.here (counters l.initial.out)).tests)
    × (l.number ≡ l.arm-index)
    × (count l.initial.out ≤ count l.out)
