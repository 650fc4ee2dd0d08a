use Rattle.std.proofs.Common.{◌≡◌, drop, map}
use Rattle.zl_flat.specs.Parts.{joined, some_places}
use Rattle.zl_flat.specs.Expansion.{param_place}
use Rattle.zl_expand.specs.Kept.{instance_in}
use Rattle.zl_expand.proofs.copy.add_params.Given as goal

abbrev pub invariant-loop-param : goal.invariant-loop-param
invariant-loop-param l = joined l.out (some_places (map (param_place (instance_in l.instance) l.here) (drop l.param-index l.params))) ≡ joined l.initial.out (some_places (map (param_place (instance_in l.instance) l.here) l.params))
