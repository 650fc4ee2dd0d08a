use Rattle.std.proofs.Common.{◌≡◌, [], drop}
use Rattle.zl_ast.specs.NamesRules.{twice}
use Rattle.zl_names.specs.Earliest.{earliest}
use Rattle.zl_names.proofs.variables.note_twice.Given as goal

abbrev pub invariant-loop-var : goal.invariant-loop-var
invariant-loop-var l = earliest l.first.found (twice l.constants l.seen (drop l.var-index l.vars)) ≡ earliest l.initial.first.found (twice l.constants [] l.vars)
