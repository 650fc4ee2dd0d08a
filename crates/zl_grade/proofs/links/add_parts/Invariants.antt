use Rattle.std.proofs.Common.{◌≡◌, ◌++◌, map, drop}
use Rattle.zl_grade.specs.Links as spec
use Rattle.zl_grade.proofs.links.add_parts.Given as goal

abbrev pub invariant-loop-part : goal.invariant-loop-part
invariant-loop-part l = l.links.items ++ map (spec.part_link l.k) (drop l.part-index l.parts) ≡ l.initial.links.items ++ map (spec.part_link l.k) l.parts
