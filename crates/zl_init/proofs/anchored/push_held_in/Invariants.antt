use Rattle.std.proofs.Common.{◌≡◌, ◌++◌, drop}
use Rattle.zl_ast.specs.Names.{ids_of}
use Rattle.zl_init.specs.Kept.{shared_with}
use Rattle.zl_init.proofs.anchored.push_held_in.Given as goal

abbrev pub invariant-loop-local : goal.invariant-loop-local
invariant-loop-local l = l.held ++ shared_with l.set (ids_of (drop l.local-index l.locals)) ≡ l.initial.held ++ shared_with l.set (ids_of l.locals)
