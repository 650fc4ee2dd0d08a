use Rattle.std.proofs.Common.{◌≡◌, ◌++◌, drop, map}
use Rattle.zl_ast.specs.NamesDefined.{entry}
use Rattle.zl_names.proofs.outline.entries_of.Given as goal

abbrev pub invariant-loop-name : goal.invariant-loop-name
invariant-loop-name l = l.entries ++ map (entry l.class) (drop l.name-index l.names) ≡ map (entry l.class) l.names
