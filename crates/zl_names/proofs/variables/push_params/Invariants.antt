use Rattle.std.proofs.Common.{◌≡◌, ◌++◌, drop, map}
use Rattle.zl_ast.specs.Scopes.{parameter}
use Rattle.zl_names.proofs.variables.push_params.Given as goal

abbrev pub invariant-loop-param : goal.invariant-loop-param
invariant-loop-param l = l.vars.items ++ map parameter (drop l.param-index l.params) ≡ l.initial.vars.items ++ map parameter l.params
