use Rattle.std.proofs.Common.{◌≡◌, ◌++◌, drop, map}
use Rattle.zl_ast.specs.declared.eqn.State.{out-State}
use Rattle.zl_names.proofs.defined.names_of.Given as goal

abbrev pub invariant-loop-state : goal.invariant-loop-state
invariant-loop-state l = l.names.items ++ map (λ s. (out-State s).name) (drop l.state-index l.states) ≡ map (λ s. (out-State s).name) l.states
