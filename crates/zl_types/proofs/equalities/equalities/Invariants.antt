use Rattle.std.proofs.Common.{◌≡◌, ◌++◌, drop}
use Rattle.zl_ast.specs.TypeEqualities.{equalities, decls_equalities}
use Rattle.zl_types.specs.Environments.{environment_of}
use Rattle.zl_types.proofs.equalities.equalities.Given as goal

abbrev pub invariant-loop-decl : goal.invariant-loop-decl
invariant-loop-decl l =
    (l.list ++ decls_equalities (environment_of l.env) (drop l.decl-index l.decl-items) ≡ equalities l.program)
    × (l.index ≡ l.decl-index)
