use Rattle.std.proofs.Common.{◌≡◌, drop}
use Rattle.zl_ast.specs.NamesDefined.{with_shared}
use Rattle.zl_names.proofs.outline.insert_shared.Given as goal

abbrev pub invariant-loop-id : goal.invariant-loop-id
invariant-loop-id l = with_shared l.ids l.known (drop l.id-index l.more) ≡ with_shared l.initial.ids l.known l.more
