use Rattle.std.proofs.Common.{◌≤◌, ◌^◌, take}
use Rattle.zl_graph.specs.Graph.{HasNodes}
use Rattle.zl_graph.proofs.graph.node_count.Given as goal

abbrev pub invariant-loop-link : goal.invariant-loop-link
invariant-loop-link l = record {
  nodes : HasNodes (take l.link-index l.links) l.count;
  small : l.count ≤ 2 ^ 32;
}
