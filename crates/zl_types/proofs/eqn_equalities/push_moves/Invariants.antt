use Rattle.std.proofs.Common.{◌≡◌, ◌++◌, drop}
use Rattle.zl_ast.specs.TypeEqualities.{moves_equalities}
use Rattle.zl_types.specs.Environments.{environment_of}
use Rattle.zl_types.proofs.eqn_equalities.push_moves.Given as goal

abbrev pub invariant-loop-one : goal.invariant-loop-one
invariant-loop-one l = l.list ++ moves_equalities (environment_of l.env) (drop l.one-index l.moves) ≡ l.initial.list ++ moves_equalities (environment_of l.env) l.moves
