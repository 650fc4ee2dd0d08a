use Rattle.std.proofs.Common.{◌≡◌, [], drop}
use Rattle.zl_ast.specs.Names.{with_ids}
use Rattle.zl_ast.specs.Scopes.{param_ids}
use Rattle.zl_names.proofs.variables.param_ids.Given as goal

abbrev pub invariant-loop-param : goal.invariant-loop-param
invariant-loop-param l = with_ids l.ids (param_ids (drop l.param-index l.params)) ≡ with_ids [] (param_ids l.params)
