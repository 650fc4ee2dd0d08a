use Rattle.std.proofs.Common.{◌≡◌, ◌++◌, drop}
use Rattle.zl_ast.specs.Initialised.{decls_requirements, requirements}
use Rattle.zl_init.proofs.requirements.requirements_of.Given as goal

abbrev pub invariant-loop-decl : goal.invariant-loop-decl
invariant-loop-decl l =
    (l.out.items ++ decls_requirements l.program.names (drop l.decl-index l.decl-items) ≡ requirements l.program)
    × (l.number ≡ l.decl-index)
