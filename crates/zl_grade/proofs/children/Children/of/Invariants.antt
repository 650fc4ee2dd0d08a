use Rattle.zl_grade.specs.Children.{HasChains}
use Rattle.zl_grade.proofs.children.Children.of.Given as goal

abbrev pub invariant-loop-k : goal.invariant-loop-k
invariant-loop-k l = HasChains l.occs l.k l.last.items l.before.items
