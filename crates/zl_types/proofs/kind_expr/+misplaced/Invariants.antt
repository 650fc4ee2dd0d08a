use Rattle.std.proofs.Common.{◌≡◌, drop, map}
use Rattle.zl_ast.specs.Kinds.{exprs_misplaced, link_misplaced, all_misplaced}
use Rattle.zl_types.specs.Contexts.{context_of, declared_of}
use Rattle.zl_types.specs.ContextsFirst.{earliest}
use Rattle.zl_types.proofs.kind_expr.+misplaced.Given as goal

abbrev pub invariant-note_exprs-loop-expr : goal.invariant-note_exprs-loop-expr
invariant-note_exprs-loop-expr l =
    earliest l.first.found (exprs_misplaced (declared_of l.declared) (drop l.expr-index l.exprs) (context_of l.context))
    ≡ earliest l.initial.first.found (exprs_misplaced (declared_of l.declared) l.exprs (context_of l.context))

abbrev pub invariant-note_links-loop-link : goal.invariant-note_links-loop-link
invariant-note_links-loop-link l =
    earliest l.first.found (all_misplaced (map (link_misplaced (declared_of l.declared)) (drop l.link-index l.links)) (context_of l.context))
    ≡ earliest l.initial.first.found (all_misplaced (map (link_misplaced (declared_of l.declared)) l.links) (context_of l.context))
