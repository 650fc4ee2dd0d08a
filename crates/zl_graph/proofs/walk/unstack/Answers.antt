use Rattle.std.proofs.Common.{◌+◌, length, sym, subst, arith}
use Rattle.std.proofs.lemmas.List.{take_all}
use Rattle.std.proofs.lemmas.Option.{slice_get_within}
use Rattle.zl_graph.specs.Walking.{AreClosed}
use Rattle.zl_graph.proofs.StackLemmas.{popped, closed_none, closed_more}
use Rattle.zl_graph.proofs.walk.unstack.Goals as goal

pub loop-stack-init : goal.loop-stack-init
loop-stack-init c = record {
  more = c.requires.within;
  within = omega arith;
  is = sym (take_all (length c.args.stack.now.items) c.args.stack.now.items (omega arith));
  closed = closed_none c.args.stack.now.items c.args.marks.now c.args.number c.requires.stands;
}

pub put-requires : goal.put-requires
put-requires c =
    let h = popped c.args.stack.now.items c.loop-stack.stack.items c.pop.new.self.items c.in-Some.node c.loop-stack.invariant.is c.in-Some.ensures.items in
    let e = c.requires.stands.marked (length c.pop.new.self.items) c.in-Some.node h.at in
    omega (arith, slice_get_within c.args.marks.now c.in-Some.node _ e, c.loop-stack.invariant.closed.nodes)

pub loop-stack-preserved-in-Some : goal.loop-stack-preserved-in-Some
loop-stack-preserved-in-Some c =
    let rest = c.pop.new.self.items in
    let h = popped c.args.stack.now.items c.loop-stack.stack.items rest c.in-Some.node c.loop-stack.invariant.is c.in-Some.ensures.items in
    let before : AreClosed (length rest + 1) c.args.number c.args.marks.now c.loop-stack.marks =
    subst (λ n. AreClosed n c.args.number c.args.marks.now c.loop-stack.marks) h.size c.loop-stack.invariant.closed in
    let after = closed_more c.args.stack.now.items c.args.marks.now c.loop-stack.marks c.args.number (length rest) c.in-Some.node c.requires.stands before h.at in
    record {
      more = omega arith;
      within = omega (arith, h.size, c.loop-stack.invariant.within);
      is = h.is;
      closed = subst (AreClosed (length rest) c.args.number c.args.marks.now) (sym c.put.ensures) after;
    }
