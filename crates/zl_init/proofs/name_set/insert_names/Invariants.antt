use Rattle.std.proofs.Common.{◌≡◌, drop}
use Rattle.zl_ast.specs.Names.{with_ids, ids_of}
use Rattle.zl_init.proofs.name_set.insert_names.Given as goal

abbrev pub invariant-loop-name : goal.invariant-loop-name
invariant-loop-name l = with_ids l.set (ids_of (drop l.name-index l.names)) ≡ with_ids l.initial.set (ids_of l.names)
