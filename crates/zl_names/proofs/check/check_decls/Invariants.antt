use Rattle.std.proofs.Common.{◌≡◌, ◌||◌, ◌++◌, None, drop, map}
use Rattle.zl_ast.specs.NamesRules.{decls_broken, built_in, has_main}
use Rattle.zl_ast.specs.Scopes.{variables}
use Rattle.zl_names.specs.Earliest.{earliest}
use Rattle.zl_names.specs.Kept.{known_of}
use Rattle.zl_names.proofs.check.check_decls.Given as goal

abbrev pub invariant-loop-decl : goal.invariant-loop-decl
invariant-loop-decl l =
    (l.decls.items ++ map variables (drop l.decl-index l.decl-items) ≡ map variables l.decl-items)
    × (earliest l.first.found (decls_broken l.program.names (known_of l.known) (drop l.decl-index l.decl-items)) ≡ earliest None (decls_broken l.program.names (built_in l.program.names) l.decl-items))
    × ((l.has_main || has_main l.program.names (drop l.decl-index l.decl-items)) ≡ has_main l.program.names l.decl-items)
    × (l.known.names.now ≡ l.program.names)
