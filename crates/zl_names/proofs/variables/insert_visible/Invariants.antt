use Rattle.std.proofs.Common.{◌≡◌, drop}
use Rattle.zl_ast.specs.NamesRules.{with_visible}
use Rattle.zl_names.proofs.variables.insert_visible.Given as goal

abbrev pub invariant-loop-var : goal.invariant-loop-var
invariant-loop-var l = with_visible l.ids (drop l.var-index l.vars) ≡ with_visible l.initial.ids l.vars
