use Rattle.std.proofs.Common.{◌≡◌, None, drop}
use Rattle.zl_ast.specs.Kinds.{none_declared, decls_misplaced}
use Rattle.zl_types.specs.Contexts.{declared_of}
use Rattle.zl_types.specs.ContextsFirst.{earliest}
use Rattle.zl_types.proofs.kind.find_first.Given as goal

abbrev pub invariant-loop-decl : goal.invariant-loop-decl
invariant-loop-decl l =
    earliest l.first.found (decls_misplaced (declared_of l.declared) (drop l.decl-index l.decl-items))
    ≡ earliest None (decls_misplaced none_declared l.decl-items)
