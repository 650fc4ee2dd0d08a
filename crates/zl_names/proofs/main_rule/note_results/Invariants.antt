use Rattle.std.proofs.Common.{◌≡◌, drop}
use Rattle.zl_ast.specs.NamesRules.{results_broken}
use Rattle.zl_names.specs.Earliest.{earliest}
use Rattle.zl_names.proofs.main_rule.note_results.Given as goal

abbrev pub invariant-loop-expr : goal.invariant-loop-expr
invariant-loop-expr l = earliest l.first.found (results_broken l.visible (drop l.expr-index l.results)) ≡ earliest l.initial.first.found (results_broken l.visible l.results)
