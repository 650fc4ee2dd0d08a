-- The worked programs of EquationContextWorked, by computation of their misplaced constructs.
use Rattle.std.proofs.Common.{[], ◌∷◌, refl, arith}
use Rattle.zl_ast.specs.Kinds.{IsMisplacedAt, allows_present, none_declared, declared_with}
use Rattle.zl_ast.specs.WorkedTrees.{at}
use Rattle.zl_ast.specs.Verdicts.{KeepsContexts, BreaksContexts}
use Rattle.zl_ast.specs.EquationContextWorked.{values_with_last, start_with_pre, start_with_hybrid, reset_value_with_pre, reset_up_with_last, init_with_last, init_in_function, init_with_pre, present_in_node, present_in_function, present_test_with_pre, present_event_in_node, present_in_hybrid, arm_with_derivative, arm_with_hybrid, else_in_hybrid, test_in_hybrid, up_of_sum, up_with_last, up_with_hybrid, automaton_in_node, automaton_in_function, until_with_pre, unless_with_pre, until_event_in_node, automaton_in_hybrid, state_with_pre, until_test_in_hybrid, unless_test_in_hybrid, reset_in_node, reset_in_function, reset_test_with_pre, reset_event_in_node, reset_in_hybrid, reset_with_pre, reset_test_in_hybrid, two_misplaced, EquationContextWorked}
use Rattle.zl_ast.proofs.ContextSteps.{context_steps}
use Rattle.zl_ast.proofs.FirstPlaces.{misplaced_at, in_line}

is_values_with_last_keeps : KeepsContexts values_with_last
unfolding allows_present none_declared declared_with
is_values_with_last_keeps = simp context_steps

is_start_with_pre_breaks : BreaksContexts (at 1 43 ∷ []) start_with_pre
unfolding allows_present none_declared declared_with
is_start_with_pre_breaks = simp context_steps

is_start_with_hybrid_breaks : BreaksContexts (at 2 43 ∷ []) start_with_hybrid
unfolding allows_present none_declared declared_with
is_start_with_hybrid_breaks = simp context_steps

is_reset_value_with_pre_breaks : BreaksContexts (at 1 64 ∷ []) reset_value_with_pre
unfolding allows_present none_declared declared_with
is_reset_value_with_pre_breaks = simp context_steps

is_reset_up_with_last_breaks : BreaksContexts (at 1 56 ∷ []) reset_up_with_last
unfolding allows_present none_declared declared_with
is_reset_up_with_last_breaks = simp context_steps

is_init_with_last_keeps : KeepsContexts init_with_last
unfolding allows_present none_declared declared_with
is_init_with_last_keeps = simp context_steps

is_init_in_function_breaks : BreaksContexts (at 1 36 ∷ []) init_in_function
unfolding allows_present none_declared declared_with
is_init_in_function_breaks = simp context_steps

is_init_with_pre_breaks : BreaksContexts (at 1 40 ∷ []) init_with_pre
unfolding allows_present none_declared declared_with
is_init_with_pre_breaks = simp context_steps

is_present_in_node_keeps : KeepsContexts present_in_node
unfolding allows_present none_declared declared_with
is_present_in_node_keeps = simp context_steps

is_present_in_function_breaks : BreaksContexts (at 1 27 ∷ []) present_in_function
unfolding allows_present none_declared declared_with
is_present_in_function_breaks = simp context_steps

is_present_test_with_pre_breaks : BreaksContexts (at 1 41 ∷ []) present_test_with_pre
unfolding allows_present none_declared declared_with
is_present_test_with_pre_breaks = simp context_steps

is_present_event_in_node_breaks : BreaksContexts (at 1 40 ∷ []) present_event_in_node
unfolding allows_present none_declared declared_with
is_present_event_in_node_breaks = simp context_steps

is_present_in_hybrid_keeps : KeepsContexts present_in_hybrid
unfolding allows_present none_declared declared_with
is_present_in_hybrid_keeps = simp context_steps

is_arm_with_derivative_breaks : BreaksContexts (at 1 65 ∷ []) arm_with_derivative
unfolding allows_present none_declared declared_with
is_arm_with_derivative_breaks = simp context_steps

is_arm_with_hybrid_breaks : BreaksContexts (at 2 69 ∷ []) arm_with_hybrid
unfolding allows_present none_declared declared_with
is_arm_with_hybrid_breaks = simp context_steps

is_else_in_hybrid_breaks : BreaksContexts (at 1 26 ∷ []) else_in_hybrid
unfolding allows_present none_declared declared_with
is_else_in_hybrid_breaks = simp context_steps

is_test_in_hybrid_breaks : BreaksContexts (at 1 34 ∷ []) test_in_hybrid
unfolding allows_present none_declared declared_with
is_test_in_hybrid_breaks = simp context_steps

is_up_of_sum_keeps : KeepsContexts up_of_sum
unfolding allows_present none_declared declared_with
is_up_of_sum_keeps = simp context_steps

is_up_with_last_breaks : BreaksContexts (at 1 62 ∷ []) up_with_last
unfolding allows_present none_declared declared_with
is_up_with_last_breaks = simp context_steps

is_up_with_hybrid_breaks : BreaksContexts (at 2 37 ∷ []) up_with_hybrid
unfolding allows_present none_declared declared_with
is_up_with_hybrid_breaks = simp context_steps

is_automaton_in_node_keeps : KeepsContexts automaton_in_node
unfolding allows_present none_declared declared_with
is_automaton_in_node_keeps = simp context_steps

is_automaton_in_function_breaks : BreaksContexts (at 1 26 ∷ []) automaton_in_function
unfolding allows_present none_declared declared_with
is_automaton_in_function_breaks = simp context_steps

is_until_with_pre_breaks : BreaksContexts (at 1 57 ∷ []) until_with_pre
unfolding allows_present none_declared declared_with
is_until_with_pre_breaks = simp context_steps

is_unless_with_pre_breaks : BreaksContexts (at 1 58 ∷ []) unless_with_pre
unfolding allows_present none_declared declared_with
is_unless_with_pre_breaks = simp context_steps

is_until_event_in_node_breaks : BreaksContexts (at 1 55 ∷ []) until_event_in_node
unfolding allows_present none_declared declared_with
is_until_event_in_node_breaks = simp context_steps

is_automaton_in_hybrid_keeps : KeepsContexts automaton_in_hybrid
unfolding allows_present none_declared declared_with
is_automaton_in_hybrid_keeps = simp context_steps

is_state_with_pre_breaks : BreaksContexts (at 1 48 ∷ []) state_with_pre
unfolding allows_present none_declared declared_with
is_state_with_pre_breaks = simp context_steps

is_until_test_in_hybrid_breaks : BreaksContexts (at 1 50 ∷ []) until_test_in_hybrid
unfolding allows_present none_declared declared_with
is_until_test_in_hybrid_breaks = simp context_steps

is_unless_test_in_hybrid_breaks : BreaksContexts (at 1 51 ∷ []) unless_test_in_hybrid
unfolding allows_present none_declared declared_with
is_unless_test_in_hybrid_breaks = simp context_steps

is_reset_in_node_keeps : KeepsContexts reset_in_node
unfolding allows_present none_declared declared_with
is_reset_in_node_keeps = simp context_steps

is_reset_in_function_breaks : BreaksContexts (at 1 27 ∷ []) reset_in_function
unfolding allows_present none_declared declared_with
is_reset_in_function_breaks = simp context_steps

is_reset_test_with_pre_breaks : BreaksContexts (at 1 51 ∷ []) reset_test_with_pre
unfolding allows_present none_declared declared_with
is_reset_test_with_pre_breaks = simp context_steps

is_reset_event_in_node_breaks : BreaksContexts (at 1 42 ∷ []) reset_event_in_node
unfolding allows_present none_declared declared_with
is_reset_event_in_node_breaks = simp context_steps

is_reset_in_hybrid_keeps : KeepsContexts reset_in_hybrid
unfolding allows_present none_declared declared_with
is_reset_in_hybrid_keeps = simp context_steps

is_reset_with_pre_breaks : BreaksContexts (at 1 36 ∷ []) reset_with_pre
unfolding allows_present none_declared declared_with
is_reset_with_pre_breaks = simp context_steps

is_reset_test_in_hybrid_breaks : BreaksContexts (at 1 44 ∷ []) reset_test_in_hybrid
unfolding allows_present none_declared declared_with
is_reset_test_in_hybrid_breaks = simp context_steps

is_two_misplaced_breaks : BreaksContexts (at 1 18 ∷ at 1 34 ∷ []) two_misplaced
unfolding allows_present none_declared declared_with
is_two_misplaced_breaks = simp context_steps

is_two_misplaced_first : IsMisplacedAt two_misplaced (at 1 18)
is_two_misplaced_first = misplaced_at two_misplaced (at 1 18) _ is_two_misplaced_breaks (0, omega arith, refl) (in_line 1 18 18 (omega arith), (in_line 1 18 34 (omega arith), tt))

pub equation_context_worked : EquationContextWorked
equation_context_worked = record {
  values_with_last_keeps = is_values_with_last_keeps;
  start_with_pre_breaks = is_start_with_pre_breaks;
  start_with_hybrid_breaks = is_start_with_hybrid_breaks;
  reset_value_with_pre_breaks = is_reset_value_with_pre_breaks;
  reset_up_with_last_breaks = is_reset_up_with_last_breaks;
  init_with_last_keeps = is_init_with_last_keeps;
  init_in_function_breaks = is_init_in_function_breaks;
  init_with_pre_breaks = is_init_with_pre_breaks;
  present_in_node_keeps = is_present_in_node_keeps;
  present_in_function_breaks = is_present_in_function_breaks;
  present_test_with_pre_breaks = is_present_test_with_pre_breaks;
  present_event_in_node_breaks = is_present_event_in_node_breaks;
  present_in_hybrid_keeps = is_present_in_hybrid_keeps;
  arm_with_derivative_breaks = is_arm_with_derivative_breaks;
  arm_with_hybrid_breaks = is_arm_with_hybrid_breaks;
  else_in_hybrid_breaks = is_else_in_hybrid_breaks;
  test_in_hybrid_breaks = is_test_in_hybrid_breaks;
  up_of_sum_keeps = is_up_of_sum_keeps;
  up_with_last_breaks = is_up_with_last_breaks;
  up_with_hybrid_breaks = is_up_with_hybrid_breaks;
  automaton_in_node_keeps = is_automaton_in_node_keeps;
  automaton_in_function_breaks = is_automaton_in_function_breaks;
  until_with_pre_breaks = is_until_with_pre_breaks;
  unless_with_pre_breaks = is_unless_with_pre_breaks;
  until_event_in_node_breaks = is_until_event_in_node_breaks;
  automaton_in_hybrid_keeps = is_automaton_in_hybrid_keeps;
  state_with_pre_breaks = is_state_with_pre_breaks;
  until_test_in_hybrid_breaks = is_until_test_in_hybrid_breaks;
  unless_test_in_hybrid_breaks = is_unless_test_in_hybrid_breaks;
  reset_in_node_keeps = is_reset_in_node_keeps;
  reset_in_function_breaks = is_reset_in_function_breaks;
  reset_test_with_pre_breaks = is_reset_test_with_pre_breaks;
  reset_event_in_node_breaks = is_reset_event_in_node_breaks;
  reset_in_hybrid_keeps = is_reset_in_hybrid_keeps;
  reset_with_pre_breaks = is_reset_with_pre_breaks;
  reset_test_in_hybrid_breaks = is_reset_test_in_hybrid_breaks;
  two_misplaced_breaks = is_two_misplaced_breaks;
  two_misplaced_first = is_two_misplaced_first;
}
