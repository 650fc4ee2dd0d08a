use Rattle.std.proofs.Common.{◌≡◌, ◌++◌, drop}
use Rattle.std.specs.List.{flat_map}
use Rattle.zl_causal.specs.FormLinks as spec
use Rattle.zl_causal.proofs.links.add_states.Given as goal

abbrev pub invariant-loop-moves : goal.invariant-loop-moves
invariant-loop-moves l = l.links.items ++ flat_map (flat_map (spec.move_links l.of)) (drop l.moves-index l.states) ≡ l.initial.links.items ++ flat_map (flat_map (spec.move_links l.of)) l.states
