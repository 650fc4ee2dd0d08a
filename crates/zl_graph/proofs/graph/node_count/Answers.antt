use Rattle.std.proofs.Common.{arith}
use Rattle.zl_graph.proofs.ChainLemmas.{nodes_more}
use Rattle.zl_graph.proofs.graph.node_count.Goals as goal

pub loop-link-preserved : goal.loop-link-preserved
loop-link-preserved c =
    let from = c.past-count.ensures in
    let to = c.past-count-in-loop-link.ensures in
    record {
      nodes = nodes_more c.args.links.now c.loop-link.link-index c.loop-link.count c.past-count-in-loop-link.result (record { from = 0; to = 0 }) (omega arith) c.loop-link.invariant.nodes (omega arith) (omega arith) (omega arith);
      small = to.small (from.small c.loop-link.invariant.small);
    }
