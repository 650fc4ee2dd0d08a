use Rattle.std.proofs.Common.{◌≡◌, ◌⊎◌, ℕ, ◌≤◌, ◌+◌, length, slice_get, Some}
use Rattle.zl_graph.specs.Graph.{IsLinked}
use Rattle.zl_graph.specs.Chains.{IsLast}
use Rattle.zl_graph.specs.declared.graph.Link.{Link}
use Rattle.zl_graph.proofs.graph.Graph.add_next.Given as goal

abbrev pub invariant-loop-at : goal.invariant-loop-at
invariant-loop-at l = record {
  more : length l.fn.nodes.items ≤ length l.nodes.items;
  few : length l.nodes.items + l.at ≤ length l.fn.nodes.items + length l.self.links.now;
  last : IsLast l.self.links.now l.at l.node l.at;
  kept : (i b : ℕ) → slice_get l.fn.nodes.items i ≡ Some b → slice_get l.nodes.items i ≡ Some b;
  linked : (i b : ℕ) → slice_get l.nodes.items i ≡ Some b → (slice_get l.fn.nodes.items i ≡ Some b) ⊎ ((length l.fn.nodes.items ≤ i) × IsLinked l.self.links.now l.node b);
  all : (j : ℕ) (link : Link) → l.at ≤ j → slice_get l.self.links.now j ≡ Some link → link.from ≡ l.node → (i : ℕ) × (length l.fn.nodes.items ≤ i) × (slice_get l.nodes.items i ≡ Some link.to);
}

abbrev pub decreases-loop-at : goal.decreases-loop-at
decreases-loop-at l = l.at
