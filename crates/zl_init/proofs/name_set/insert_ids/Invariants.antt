use Rattle.std.proofs.Common.{◌≡◌, drop}
use Rattle.zl_ast.specs.Names.{with_ids}
use Rattle.zl_init.proofs.name_set.insert_ids.Given as goal

abbrev pub invariant-loop-id : goal.invariant-loop-id
invariant-loop-id l = with_ids l.set (drop l.id-index l.ids) ≡ with_ids l.initial.set l.ids
