use Rattle.std.proofs.Common.{◌≡◌, ◌++◌, drop}
use Rattle.zl_flat.specs.Expansion.{result_places}
use Rattle.zl_expand.specs.Kept.{instance_in}
use Rattle.zl_expand.proofs.expansion.result_places.Given as goal

abbrev pub invariant-loop-one : goal.invariant-loop-one
invariant-loop-one l = l.places.items ++ result_places (instance_in l.instance).variables (drop l.one-index l.results) ≡ result_places (instance_in l.instance).variables l.results
