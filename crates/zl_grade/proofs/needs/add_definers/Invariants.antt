use Rattle.std.proofs.Common.{◌≡◌, ◌++◌, drop}
use Rattle.std.specs.List.{flat_map}
use Rattle.zl_grade.specs.Needs as spec
use Rattle.zl_grade.proofs.needs.add_definers.Given as goal

abbrev pub invariant-loop-definer : goal.invariant-loop-definer
invariant-loop-definer l = l.needs.items ++ flat_map spec.definer_needs (drop l.definer-index l.definers) ≡ l.initial.needs.items ++ flat_map spec.definer_needs l.definers
