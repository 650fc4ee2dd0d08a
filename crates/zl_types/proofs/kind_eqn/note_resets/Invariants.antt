use Rattle.std.proofs.Common.{◌≡◌, drop}
use Rattle.zl_ast.specs.Kinds.{resets_misplaced}
use Rattle.zl_types.specs.Contexts.{declared_of}
use Rattle.zl_types.specs.ContextsFirst.{earliest}
use Rattle.zl_types.proofs.kind_eqn.note_resets.Given as goal

abbrev pub invariant-loop-reset : goal.invariant-loop-reset
invariant-loop-reset l =
    earliest l.first.found (resets_misplaced (declared_of l.declared) (drop l.reset-index l.resets))
    ≡ earliest l.initial.first.found (resets_misplaced (declared_of l.declared) l.resets)
