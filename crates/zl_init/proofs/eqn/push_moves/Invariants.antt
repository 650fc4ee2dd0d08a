use Rattle.std.proofs.Common.{◌≡◌, ◌++◌, drop}
use Rattle.zl_ast.specs.Initialised.{moves_constraints, free_at}
use Rattle.zl_init.specs.Kept.{known_of}
use Rattle.zl_init.proofs.eqn.push_moves.Given as goal

abbrev pub invariant-loop-one : goal.invariant-loop-one
invariant-loop-one l =
    l.out.items ++ moves_constraints (known_of l.known) (drop l.one-index l.moves) (free_at l.setting.handler l.inside)
    ≡ l.initial.out.items ++ moves_constraints (known_of l.known) l.moves (free_at l.setting.handler l.inside)
