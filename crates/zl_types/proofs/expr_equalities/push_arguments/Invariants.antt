use Rattle.std.proofs.Common.{◌≡◌, ◌++◌, drop, map}
use Rattle.zl_ast.specs.NamesRules.{place_of}
use Rattle.zl_ast.specs.TypeEqualities.{same_pairs}
use Rattle.zl_types.proofs.expr_equalities.push_arguments.Given as goal

abbrev pub invariant-loop-arg : goal.invariant-loop-arg
invariant-loop-arg l =
    (l.list ++ same_pairs l.at (map place_of (drop l.arg-index l.args)) (drop l.index l.params) ≡ l.initial.list ++ same_pairs l.at (map place_of l.args) l.params)
    × (l.index ≡ l.arg-index)
