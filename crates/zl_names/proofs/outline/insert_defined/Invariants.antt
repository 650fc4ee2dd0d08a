use Rattle.std.proofs.Common.{◌≡◌, drop}
use Rattle.zl_ast.specs.NamesDefined.{with_defined}
use Rattle.zl_names.proofs.outline.insert_defined.Given as goal

abbrev pub invariant-loop-entry : goal.invariant-loop-entry
invariant-loop-entry l = with_defined l.ids (drop l.entry-index l.entries) ≡ with_defined l.initial.ids l.entries
