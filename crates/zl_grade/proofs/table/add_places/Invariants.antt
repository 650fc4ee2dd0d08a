use Rattle.zl_grade.specs.Table.{HasNumbers}
use Rattle.zl_grade.specs.declared.node.Node.TheVariants as node
use Rattle.zl_grade.proofs.table.add_places.Given as goal

abbrev pub invariant-loop-p : goal.invariant-loop-p
invariant-loop-p l = HasNumbers node.Place l.p l.initial.waiting.items l.waiting.items
