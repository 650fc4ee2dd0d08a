use Rattle.std.proofs.Common.{◌≡◌, ◌++◌, drop}
use Rattle.std.specs.List.{flat_map}
use Rattle.zl_grade.specs.Needs as spec
use Rattle.zl_grade.proofs.needs.add_places.Given as goal

abbrev pub invariant-loop-place : goal.invariant-loop-place
invariant-loop-place l = l.needs.items ++ flat_map spec.place_needs (drop l.place-index l.places) ≡ l.initial.needs.items ++ flat_map spec.place_needs l.places
