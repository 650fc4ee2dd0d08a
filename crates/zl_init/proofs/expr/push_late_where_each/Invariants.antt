use Rattle.std.proofs.Common.{◌≡◌, ◌++◌, drop, map}
use Rattle.zl_ast.specs.NamesRules.{place_of}
use Rattle.zl_ast.specs.Initialised.{late_where_each}
use Rattle.zl_init.proofs.expr.push_late_where_each.Given as goal

abbrev pub invariant-loop-expr : goal.invariant-loop-expr
invariant-loop-expr l = l.out.items ++ late_where_each l.at (map place_of (drop l.expr-index l.exprs)) ≡ l.initial.out.items ++ late_where_each l.at (map place_of l.exprs)
