use Rattle.std.proofs.Common.{◌≡◌, ◌++◌, drop}
use Rattle.zl_ast.specs.TypeEqualities.{names_equalities}
use Rattle.zl_types.specs.Environments.{environment_of}
use Rattle.zl_types.proofs.eqn_equalities.push_names.Given as goal

abbrev pub invariant-loop-name : goal.invariant-loop-name
invariant-loop-name l = (l.list ++ names_equalities (environment_of l.env) l.at (drop l.name-index l.names) (drop l.index l.results) ≡ l.initial.list ++ names_equalities (environment_of l.env) l.at l.names l.results) × (l.index ≡ l.name-index)
