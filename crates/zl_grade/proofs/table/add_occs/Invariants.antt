use Rattle.zl_grade.specs.Table.{HasNumbers}
use Rattle.zl_grade.specs.declared.node.Node.TheVariants as node
use Rattle.zl_grade.proofs.table.add_occs.Given as goal

abbrev pub invariant-loop-k : goal.invariant-loop-k
invariant-loop-k l = HasNumbers node.Occ l.k l.initial.waiting.items l.waiting.items
