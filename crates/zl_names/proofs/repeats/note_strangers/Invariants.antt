use Rattle.std.proofs.Common.{◌≡◌, drop}
use Rattle.zl_ast.specs.Names.{strangers}
use Rattle.zl_names.specs.Earliest.{earliest}
use Rattle.zl_names.proofs.repeats.note_strangers.Given as goal

abbrev pub invariant-loop-name : goal.invariant-loop-name
invariant-loop-name l = earliest l.first.found (strangers l.rule l.ids (drop l.name-index l.names)) ≡ earliest l.initial.first.found (strangers l.rule l.ids l.names)
