use Rattle.std.proofs.Common.{◌≡◌, ◌≤◌, drop, map}
use Rattle.zl_flat.specs.Parts.{joined}
use Rattle.zl_flat.specs.Expressions.{links, link_walk}
use Rattle.zl_flat.specs.Counted.{count}
use Rattle.zl_expand.specs.Kept.{counters, instance_in, names_in}
use Rattle.zl_expand.proofs.walker.Walker.walk_chain.Given as goal

abbrev pub invariant-loop-link : goal.invariant-loop-link
invariant-loop-link g l =
    (joined l.out (links (map (link_walk l.instance.base (names_in l.instance) (instance_in l.instance)) (drop l.link-index l.rest)) l.here l.left (counters l.out)).parts ≡ joined l.initial.out (links (map (link_walk l.instance.base (names_in l.instance) (instance_in l.instance)) l.rest) l.here l.initial.left (counters l.initial.out)).parts)
    × ((links (map (link_walk l.instance.base (names_in l.instance) (instance_in l.instance)) (drop l.link-index l.rest)) l.here l.left (counters l.out)).root ≡ (links (map (link_walk l.instance.base (names_in l.instance) (instance_in l.instance)) l.rest) l.here l.initial.left (counters l.initial.out)).root)
    × (count l.initial.out ≤ count l.out)
