use Rattle.std.proofs.Common.{subst, List, ℕ}
use Rattle.zl_graph.specs.Circles.{AreLoops}
use Rattle.zl_graph.proofs.Loops.{circles_are}
use Rattle.zl_graph.proofs.circles.Circles.of.Goals as goal

pub returns : goal.returns
returns c = circles_are c.args.links.now c.in_ok-numbers.numbers.items c.mark.new.marks.items c.in_ok-numbers.ensures
    (subst (λ (ns : List ℕ). AreLoops c.args.links.now ns c.mark.new.marks.items) c.as_slice.ensures.value c.mark.ensures)
