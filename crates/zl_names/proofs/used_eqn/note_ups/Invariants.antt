use Rattle.std.proofs.Common.{◌≡◌, drop}
use Rattle.zl_ast.specs.NamesUsed.{ups_uses}
use Rattle.zl_names.specs.Kept.{known_of}
use Rattle.zl_names.specs.Earliest.{earliest}
use Rattle.zl_names.proofs.used_eqn.note_ups.Given as goal

abbrev pub invariant-loop-up : goal.invariant-loop-up
invariant-loop-up l =
    earliest l.first.found (ups_uses (known_of l.known) (drop l.up-index l.ups) l.visible)
    ≡ earliest l.initial.first.found (ups_uses (known_of l.known) l.ups l.visible)
