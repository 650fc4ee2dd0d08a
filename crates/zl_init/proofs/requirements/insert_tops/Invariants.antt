use Rattle.std.proofs.Common.{◌≡◌, drop}
use Rattle.zl_ast.specs.NamesDefined.{with_defined}
use Rattle.zl_init.proofs.requirements.insert_tops.Given as goal

abbrev pub invariant-loop-var : goal.invariant-loop-var
invariant-loop-var l = with_defined l.ids (drop l.var-index l.vars) ≡ with_defined l.initial.ids l.vars
