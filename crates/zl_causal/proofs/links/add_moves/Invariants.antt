use Rattle.std.proofs.Common.{◌≡◌, ◌++◌, drop}
use Rattle.std.specs.List.{flat_map}
use Rattle.zl_causal.specs.FormLinks as spec
use Rattle.zl_causal.proofs.links.add_moves.Given as goal

abbrev pub invariant-loop-one : goal.invariant-loop-one
invariant-loop-one l = l.links.items ++ flat_map (spec.move_links l.of) (drop l.one-index l.moves) ≡ l.initial.links.items ++ flat_map (spec.move_links l.of) l.moves
