use Rattle.std.proofs.Common.{◌≡◌, ◌≤◌, ◌++◌, drop, map}
use Rattle.zl_flat.specs.Parts.{joined}
use Rattle.zl_flat.specs.Equations as spec
use Rattle.zl_flat.specs.Counted.{count}
use Rattle.zl_expand.specs.Kept.{counters, instance_in, names_in}
use Rattle.zl_expand.proofs.walker.Walker.walk_ups.Given as goal

abbrev pub invariant-loop-up : goal.invariant-loop-up
invariant-loop-up g l =
    (joined l.out (spec.test_all (map (spec.up_walk l.instance.base (names_in l.instance) (instance_in l.instance)) (drop l.up-index l.ups)) l.here (counters l.out)).parts ≡ joined l.initial.out (spec.test_all (map (spec.up_walk l.instance.base (names_in l.instance) (instance_in l.instance)) l.ups) l.here (counters l.initial.out)).parts)
    × (l.tests.items ++ (spec.test_all (map (spec.up_walk l.instance.base (names_in l.instance) (instance_in l.instance)) (drop l.up-index l.ups)) l.here (counters l.out)).tests ≡ (spec.test_all (map (spec.up_walk l.instance.base (names_in l.instance) (instance_in l.instance)) l.ups) l.here (counters l.initial.out)).tests)
    × (count l.initial.out ≤ count l.out)
