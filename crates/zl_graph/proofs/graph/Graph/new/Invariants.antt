use Rattle.zl_graph.specs.Chains.{HasFirst}
use Rattle.zl_graph.proofs.graph.Graph.new.Given as goal

abbrev pub invariant-loop-link : goal.invariant-loop-link
invariant-loop-link l = HasFirst l.links l.nodes l.link-index l.last.items l.before.items
