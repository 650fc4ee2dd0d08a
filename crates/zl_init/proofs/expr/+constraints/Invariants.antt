use Rattle.std.proofs.Common.{◌≡◌, ◌++◌, drop}
use Rattle.zl_ast.specs.Initialised.{exprs_constraints, links_of}
use Rattle.zl_init.specs.Kept.{known_of, free_of}
use Rattle.zl_init.proofs.expr.+constraints.Given as goal

abbrev pub invariant-push_exprs-loop-expr : goal.invariant-push_exprs-loop-expr
invariant-push_exprs-loop-expr l =
    l.out.items ++ exprs_constraints (known_of l.known) (drop l.expr-index l.exprs) (free_of l.free)
    ≡ l.initial.out.items ++ exprs_constraints (known_of l.known) l.exprs (free_of l.free)

abbrev pub invariant-push_links-loop-link : goal.invariant-push_links-loop-link
invariant-push_links-loop-link l =
    l.out.items ++ links_of (known_of l.known) l.left (drop l.link-index l.links) (free_of l.free)
    ≡ l.initial.out.items ++ links_of (known_of l.known) l.fn.begin l.links (free_of l.free)
