use Rattle.std.proofs.Common.{◌≡◌, ◌++◌, drop, map}
use Rattle.zl_ast.specs.NamesRules.{place_of}
use Rattle.zl_ast.specs.TypeEqualities.{from_to}
use Rattle.zl_types.proofs.expr_equalities.push_from_to.Given as goal

abbrev pub invariant-loop-arg : goal.invariant-loop-arg
invariant-loop-arg l =
    l.list ++ from_to l.from l.to l.at (map place_of (drop l.arg-index l.args)) ≡ l.initial.list ++ from_to l.from l.to l.at (map place_of l.args)
