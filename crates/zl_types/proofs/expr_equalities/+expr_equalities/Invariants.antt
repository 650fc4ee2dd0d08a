use Rattle.std.proofs.Common.{◌≡◌, ◌++◌, drop, map}
use Rattle.zl_ast.specs.TypeEqualities.{exprs_equalities, links_equalities, link_part}
use Rattle.zl_types.specs.Environments.{environment_of}
use Rattle.zl_types.proofs.expr_equalities.+expr_equalities.Given as goal

abbrev pub invariant-push_exprs-loop-expr : goal.invariant-push_exprs-loop-expr
invariant-push_exprs-loop-expr l =
    l.list ++ exprs_equalities (environment_of l.env) (drop l.expr-index l.exprs) ≡ l.initial.list ++ exprs_equalities (environment_of l.env) l.exprs

abbrev pub invariant-push_links-loop-link : goal.invariant-push_links-loop-link
invariant-push_links-loop-link l =
    l.list ++ links_equalities l.left (map (link_part (environment_of l.env)) (drop l.link-index l.links))
    ≡ l.initial.list ++ links_equalities l.initial.left (map (link_part (environment_of l.env)) l.links)
