use Rattle.std.proofs.Common.{◌<◌, ◌∙◌, get_or, length, arith}
use Rattle.zl_graph.specs.declared.graph.Link.{Link}
use Rattle.zl_graph.proofs.ChainLemmas.{link_at}
use Rattle.zl_graph.proofs.Loops.{StepsOn, loops_step}
use Rattle.zl_graph.proofs.circles.mark.Goals as goal

pub mark_one-requires-clause-from : goal.mark_one-requires-clause-from
mark_one-requires-clause-from c =
    let d : Link = record { from = 0; to = 0 } in
    c.requires.parts.nodes.from _ _ (link_at c.args.links.now c.loop-link.link-index d (omega arith))

pub mark_one-requires-clause-to : goal.mark_one-requires-clause-to
mark_one-requires-clause-to c =
    let d : Link = record { from = 0; to = 0 } in
    c.requires.parts.nodes.to _ _ (link_at c.args.links.now c.loop-link.link-index d (omega arith))

pub loop-link-preserved : goal.loop-link-preserved
loop-link-preserved c =
    let d : Link = record { from = 0; to = 0 } in
    let i = c.loop-link.link-index in
    let low : (get_or c.args.links.now i d).from < length c.args.numbers.now = c.requires.parts.nodes.from _ _ (link_at c.args.links.now i d (omega arith)) in
    let h : StepsOn c.args.links.now c.args.numbers.now c.loop-link.marks.items c.mark_one.new.marks.items i =
    loops_step c.args.links.now c.args.numbers.now c.loop-link.marks.items c.mark_one.new.marks.items i d (omega arith) c.loop-link.invariant.loops
    (omega (arith, low, c.loop-link.invariant.size)) c.mark_one.ensures.looped c.mark_one.ensures.other in
    record { size = h.size ∙ c.loop-link.invariant.size; loops = h.loops }
