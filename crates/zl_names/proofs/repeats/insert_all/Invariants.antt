use Rattle.std.proofs.Common.{◌≡◌, drop}
use Rattle.zl_ast.specs.Names.{with_ids, ids_of}
use Rattle.zl_names.proofs.repeats.insert_all.Given as goal

abbrev pub invariant-loop-name : goal.invariant-loop-name
invariant-loop-name l = with_ids l.ids (ids_of (drop l.name-index l.names)) ≡ with_ids l.initial.ids (ids_of l.names)
