use Rattle.std.proofs.Common.{◌≡◌, ◌≤◌, drop}
use Rattle.zl_flat.specs.Parts.{joined}
use Rattle.zl_flat.specs.Equations as spec
use Rattle.zl_flat.specs.Counted.{count}
use Rattle.zl_expand.specs.Kept.{counters, instance_in, names_in}
use Rattle.zl_expand.proofs.walker.Walker.walk_eqns.Given as goal

abbrev pub invariant-loop-eqn : goal.invariant-loop-eqn
invariant-loop-eqn g l =
    (joined l.out (spec.eqns_walk l.instance.base (names_in l.instance) (instance_in l.instance) (drop l.eqn-index l.eqns) l.here (counters l.out)) ≡ joined l.initial.out (spec.eqns_walk l.instance.base (names_in l.instance) (instance_in l.instance) l.eqns l.here (counters l.initial.out)))
    × (count l.initial.out ≤ count l.out)
