use Rattle.std.proofs.Common.{◌≡◌, drop, map}
use Rattle.zl_ast.specs.Kinds.{all_misplaced, eqns_misplaced, arm_misplaced, state_misplaced}
use Rattle.zl_types.specs.Contexts.{context_of, declared_of}
use Rattle.zl_types.specs.ContextsFirst.{earliest}
use Rattle.zl_types.proofs.kind_eqn.+misplaced_equations.Given as goal

abbrev pub invariant-note_eqns-loop-eqn : goal.invariant-note_eqns-loop-eqn
invariant-note_eqns-loop-eqn l =
    earliest l.first.found (eqns_misplaced (declared_of l.declared) (drop l.eqn-index l.eqns) (context_of l.context))
    ≡ earliest l.initial.first.found (eqns_misplaced (declared_of l.declared) l.eqns (context_of l.context))

abbrev pub invariant-note_arms-loop-arm : goal.invariant-note_arms-loop-arm
invariant-note_arms-loop-arm l =
    earliest l.first.found (all_misplaced (map (arm_misplaced (declared_of l.declared)) (drop l.arm-index l.arms)) (context_of l.context))
    ≡ earliest l.initial.first.found (all_misplaced (map (arm_misplaced (declared_of l.declared)) l.arms) (context_of l.context))

abbrev pub invariant-note_states-loop-state : goal.invariant-note_states-loop-state
invariant-note_states-loop-state l =
    earliest l.first.found (all_misplaced (map (state_misplaced (declared_of l.declared)) (drop l.state-index l.states)) (context_of l.context))
    ≡ earliest l.initial.first.found (all_misplaced (map (state_misplaced (declared_of l.declared)) l.states) (context_of l.context))
