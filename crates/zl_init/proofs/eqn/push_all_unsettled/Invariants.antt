use Rattle.std.proofs.Common.{◌≡◌, ◌++◌, drop}
use Rattle.zl_ast.specs.Initialised.{all_unsettled}
use Rattle.zl_init.specs.Kept.{known_of}
use Rattle.zl_init.proofs.eqn.push_all_unsettled.Given as goal

abbrev pub invariant-loop-name : goal.invariant-loop-name
invariant-loop-name l = l.out.items ++ all_unsettled (known_of l.known) (drop l.name-index l.names) ≡ l.initial.out.items ++ all_unsettled (known_of l.known) l.names
