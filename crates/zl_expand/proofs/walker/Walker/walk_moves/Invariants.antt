use Rattle.std.proofs.Common.{◌≡◌, ◌≤◌, ◌++◌, drop, map}
use Rattle.zl_flat.specs.Parts.{joined}
use Rattle.zl_flat.specs.Equations as spec
use Rattle.zl_flat.specs.Counted.{count}
use Rattle.zl_expand.specs.Kept.{counters, instance_in, names_in}
use Rattle.zl_expand.proofs.walker.Walker.walk_moves.Given as goal

abbrev pub invariant-loop-one : goal.invariant-loop-one
invariant-loop-one g l =
    (joined l.out (spec.moves_made l.instance.base (names_in l.instance) (instance_in l.instance) (map (spec.move_walk l.instance.base (names_in l.instance) (instance_in l.instance)) (drop l.one-index l.moves)) l.blocks.guard l.blocks.body l.names l.here (counters l.out)).parts ≡ joined l.initial.out (spec.moves_made l.instance.base (names_in l.instance) (instance_in l.instance) (map (spec.move_walk l.instance.base (names_in l.instance) (instance_in l.instance)) l.moves) l.blocks.guard l.blocks.body l.names l.here (counters l.initial.out)).parts)
    × (l.made.items ++ (spec.moves_made l.instance.base (names_in l.instance) (instance_in l.instance) (map (spec.move_walk l.instance.base (names_in l.instance) (instance_in l.instance)) (drop l.one-index l.moves)) l.blocks.guard l.blocks.body l.names l.here (counters l.out)).moves ≡ (spec.moves_made l.instance.base (names_in l.instance) (instance_in l.instance) (map (spec.move_walk l.instance.base (names_in l.instance) (instance_in l.instance)) l.moves) l.blocks.guard l.blocks.body l.names l.here (counters l.initial.out)).moves)
    × (count l.initial.out ≤ count l.out)
