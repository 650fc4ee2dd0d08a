use Rattle.std.proofs.Common.{◌≡◌, ◌++◌, drop}
use Rattle.zl_ast.specs.Initialised.{params_needs}
use Rattle.zl_init.proofs.requirements.push_params.Given as goal

abbrev pub invariant-loop-param : goal.invariant-loop-param
invariant-loop-param l = l.out.items ++ params_needs (drop l.param-index l.params) ≡ l.initial.out.items ++ params_needs l.params
