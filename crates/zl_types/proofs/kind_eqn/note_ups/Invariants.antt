use Rattle.std.proofs.Common.{◌≡◌, drop}
use Rattle.zl_ast.specs.Kinds.{ups_misplaced}
use Rattle.zl_types.specs.Contexts.{declared_of}
use Rattle.zl_types.specs.ContextsFirst.{earliest}
use Rattle.zl_types.proofs.kind_eqn.note_ups.Given as goal

abbrev pub invariant-loop-up : goal.invariant-loop-up
invariant-loop-up l =
    earliest l.first.found (ups_misplaced (declared_of l.declared) (drop l.up-index l.ups))
    ≡ earliest l.initial.first.found (ups_misplaced (declared_of l.declared) l.ups)
