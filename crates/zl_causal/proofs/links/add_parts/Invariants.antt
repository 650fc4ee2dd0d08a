use Rattle.std.proofs.Common.{◌≡◌, ◌++◌, drop}
use Rattle.std.specs.List.{flat_map}
use Rattle.zl_causal.specs.FormLinks as spec
use Rattle.zl_causal.proofs.links.add_parts.Given as goal

abbrev pub invariant-loop-part : goal.invariant-loop-part
invariant-loop-part l = l.links.items ++ flat_map (spec.reading l.k) (drop l.part-index l.parts) ≡ l.initial.links.items ++ flat_map (spec.reading l.k) l.parts
