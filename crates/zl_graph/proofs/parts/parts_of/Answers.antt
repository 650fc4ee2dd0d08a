use Rattle.std.proofs.Common.{◌<◌, sym, subst, arith}
use Rattle.std.proofs.lemmas.Option.{slice_get_within}
use Rattle.std.proofs.lemmas.Result.{IfOk-weaker}
use Rattle.zl_graph.specs.Graph.{HasNodes, AreParts}
use Rattle.zl_graph.specs.Walking.{AreNumbers}
use Rattle.zl_graph.specs.declared.marks.Mark.TheVariants.{New}
use Rattle.zl_graph.proofs.Ends.{started, walked}
use Rattle.zl_graph.proofs.parts.parts_of.Goals as goal

pub loop-node-init : goal.loop-node-init
loop-node-init c =
    let w = c.in_ok-walk.ensures in
    record {
      walk = started c.args.links.now c.in_ok-walk.walk (subst (HasNodes c.args.links.now) (sym w.nodes) c.node_count-nodes.ensures.nodes) w.new w.parts w.stack w.waiting;
      nodes = w.nodes;
      met = λ v l e. absurd (omega (arith, l));
    }

pub returns : goal.returns
returns c =
    let h = c.loop-node.invariant in
    IfOk-weaker c.numbers.result (λ ns. AreNumbers c.loop-node.walk.marks ns.items) (λ ns. AreParts c.args.links.now ns.items)
    (λ ns g. walked c.args.links.now c.loop-node.walk ns.items h.walk.walk h.walk.rest
    (λ v e. h.met v (let l : v < c.loop-node.node = omega (arith, slice_get_within c.loop-node.walk.marks v New e, h.nodes) in l) e)
    g.size g.each)
    c.numbers.ensures
