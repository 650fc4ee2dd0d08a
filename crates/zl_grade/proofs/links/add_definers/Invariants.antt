use Rattle.std.proofs.Common.{◌≡◌, ◌++◌, drop}
use Rattle.std.specs.List.{flat_map}
use Rattle.zl_grade.specs.Links as spec
use Rattle.zl_grade.proofs.links.add_definers.Given as goal

abbrev pub invariant-loop-definer : goal.invariant-loop-definer
invariant-loop-definer l = l.links.items ++ flat_map (spec.definer_links l.p) (drop l.definer-index l.definers) ≡ l.initial.links.items ++ flat_map (spec.definer_links l.p) l.definers
