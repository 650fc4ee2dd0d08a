use Rattle.std.proofs.Common.{◌≡◌, slice_get, Some}
use Rattle.zl_graph.specs.declared.marks.Mark.TheVariants.{New}
use Rattle.zl_graph.specs.Walking.{IsWalk, NoneIsNew, work}
use Rattle.zl_graph.proofs.walk.Walk.visit.Given as goal

abbrev pub invariant-loop-self : goal.invariant-loop-self
invariant-loop-self l = record {
  walk : IsWalk l.graph.links.now l.self;
  none : NoneIsNew l.fn.self.marks l.self.marks;
  met : slice_get l.self.marks l.node ≡ Some New → ⊥;
}

abbrev pub decreases-loop-self : goal.decreases-loop-self
decreases-loop-self l = work l.graph.links.now l.self
