use Rattle.std.proofs.Common.{◌≡◌, ◌++◌, drop}
use Rattle.zl_ast.specs.Names.{ids_of}
use Rattle.zl_init.proofs.anchored.push_names.Given as goal

abbrev pub invariant-loop-name : goal.invariant-loop-name
invariant-loop-name l = l.ids ++ ids_of (drop l.name-index l.names) ≡ l.initial.ids ++ ids_of l.names
