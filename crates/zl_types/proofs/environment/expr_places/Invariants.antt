use Rattle.std.proofs.Common.{◌≡◌, ◌++◌, drop, map}
use Rattle.zl_ast.specs.NamesRules.{place_of}
use Rattle.zl_types.proofs.environment.expr_places.Given as goal

abbrev pub invariant-loop-expr : goal.invariant-loop-expr
invariant-loop-expr l = l.places.items ++ map place_of (drop l.expr-index l.exprs) ≡ map place_of l.exprs
