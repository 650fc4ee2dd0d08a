use Rattle.std.proofs.Common.{◌≡◌, ◌++◌, drop}
use Rattle.zl_ast.specs.Initialised.{resets_constraints, free_at}
use Rattle.zl_init.specs.Kept.{known_of}
use Rattle.zl_init.proofs.eqn.push_resets.Given as goal

abbrev pub invariant-loop-reset : goal.invariant-loop-reset
invariant-loop-reset l =
    l.out.items ++ resets_constraints (known_of l.known) (drop l.reset-index l.resets) (free_at l.setting.handler l.inside)
    ≡ l.initial.out.items ++ resets_constraints (known_of l.known) l.resets (free_at l.setting.handler l.inside)
