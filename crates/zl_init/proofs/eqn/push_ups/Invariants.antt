use Rattle.std.proofs.Common.{◌≡◌, ◌++◌, drop}
use Rattle.zl_ast.specs.Initialised.{ups_constraints, free_at}
use Rattle.zl_init.specs.Kept.{known_of}
use Rattle.zl_init.proofs.eqn.push_ups.Given as goal

abbrev pub invariant-loop-up : goal.invariant-loop-up
invariant-loop-up l =
    l.out.items ++ ups_constraints (known_of l.known) (drop l.up-index l.ups) (free_at l.setting.handler l.inside)
    ≡ l.initial.out.items ++ ups_constraints (known_of l.known) l.ups (free_at l.setting.handler l.inside)
