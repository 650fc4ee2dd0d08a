use Rattle.std.proofs.Common.{◌≡◌, drop, map}
use Rattle.zl_ast.specs.NamesUsed.{all_uses, reset_arm_uses}
use Rattle.zl_names.specs.Kept.{known_of}
use Rattle.zl_names.specs.Earliest.{earliest}
use Rattle.zl_names.proofs.used_eqn.note_resets.Given as goal

abbrev pub invariant-loop-reset : goal.invariant-loop-reset
invariant-loop-reset l =
    earliest l.first.found (all_uses (map (reset_arm_uses (known_of l.known)) (drop l.reset-index l.resets)) l.visible)
    ≡ earliest l.initial.first.found (all_uses (map (reset_arm_uses (known_of l.known)) l.resets) l.visible)
