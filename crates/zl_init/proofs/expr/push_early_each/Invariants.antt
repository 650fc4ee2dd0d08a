use Rattle.std.proofs.Common.{◌≡◌, ◌++◌, drop, map}
use Rattle.zl_ast.specs.declared.constraint.Asked.TheVariants as asked
use Rattle.zl_ast.specs.NamesRules.{place_of}
use Rattle.zl_ast.specs.Initialised.{ask_each}
use Rattle.zl_init.proofs.expr.push_early_each.Given as goal

abbrev pub invariant-loop-expr : goal.invariant-loop-expr
invariant-loop-expr l = l.out.items ++ ask_each l.at asked.Early (map place_of (drop l.expr-index l.exprs)) ≡ l.initial.out.items ++ ask_each l.at asked.Early (map place_of l.exprs)
