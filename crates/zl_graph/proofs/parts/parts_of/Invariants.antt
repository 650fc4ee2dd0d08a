use Rattle.std.proofs.Common.{◌≡◌, ◌<◌, ℕ, length, slice_get, Some}
use Rattle.zl_graph.specs.declared.marks.Mark.TheVariants.{New}
use Rattle.zl_graph.specs.Walking.{IsAtRest}
use Rattle.zl_graph.proofs.parts.parts_of.Given as goal

abbrev pub invariant-loop-node : goal.invariant-loop-node
invariant-loop-node l = record {
  walk : IsAtRest l.links l.walk;
  nodes : length l.walk.marks ≡ l.nodes;
  met : (v : ℕ) → v < l.node → slice_get l.walk.marks v ≡ Some New → ⊥;
}
