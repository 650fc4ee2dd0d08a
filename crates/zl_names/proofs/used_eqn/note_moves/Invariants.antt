use Rattle.std.proofs.Common.{◌≡◌, drop}
use Rattle.zl_ast.specs.NamesUsed.{moves_uses}
use Rattle.zl_names.specs.Kept.{known_of}
use Rattle.zl_names.specs.Earliest.{earliest}
use Rattle.zl_names.proofs.used_eqn.note_moves.Given as goal

abbrev pub invariant-loop-one : goal.invariant-loop-one
invariant-loop-one l =
    earliest l.first.found (moves_uses (known_of l.known) l.strong (drop l.one-index l.moves) l.visible)
    ≡ earliest l.initial.first.found (moves_uses (known_of l.known) l.strong l.moves l.visible)
