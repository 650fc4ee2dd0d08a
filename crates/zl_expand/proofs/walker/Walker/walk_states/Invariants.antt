use Rattle.std.proofs.Common.{◌≡◌, ◌≤◌, ◌++◌, drop, map}
use Rattle.zl_ast.specs.declared.eqn.State.{out-State}
use Rattle.zl_flat.specs.Parts.{joined}
use Rattle.zl_flat.specs.Equations as spec
use Rattle.zl_flat.specs.Counted.{count}
use Rattle.zl_expand.specs.Kept.{counters, instance_in, names_in}
use Rattle.zl_expand.proofs.walker.Walker.walk_states.Given as goal

abbrev pub invariant-loop-state : goal.invariant-loop-state
invariant-loop-state g l =
    (joined l.out (spec.states_made (map (spec.one_state_walk l.instance.base (names_in l.instance) (instance_in l.instance)) (drop l.state-index l.states)) l.of l.state_number (map (λ s. (out-State s).name.id) l.states) l.here (counters l.out)).parts ≡ joined l.initial.out (spec.states_made (map (spec.one_state_walk l.instance.base (names_in l.instance) (instance_in l.instance)) l.states) l.of 0 (map (λ s. (out-State s).name.id) l.states) l.here (counters l.initial.out)).parts)
    × (l.made.items ++ (spec.states_made (map (spec.one_state_walk l.instance.base (names_in l.instance) (instance_in l.instance)) (drop l.state-index l.states)) l.of l.state_number (map (λ s. (out-State s).name.id) l.states) l.here (counters l.out)).states ≡ (spec.states_made (map (spec.one_state_walk l.instance.base (names_in l.instance) (instance_in l.instance)) l.states) l.of 0 (map (λ s. (out-State s).name.id) l.states) l.here (counters l.initial.out)).states)
    × (count l.initial.out ≤ count l.out)
    × (l.state_number ≡ l.state-index)
