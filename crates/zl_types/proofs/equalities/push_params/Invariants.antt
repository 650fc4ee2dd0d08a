use Rattle.std.proofs.Common.{◌≡◌, ◌++◌, drop}
use Rattle.zl_ast.specs.TypeEqualities.{params_equalities}
use Rattle.zl_types.proofs.equalities.push_params.Given as goal

abbrev pub invariant-loop-param : goal.invariant-loop-param
invariant-loop-param l = l.list ++ params_equalities (drop l.param-index l.params) ≡ l.initial.list ++ params_equalities l.params
