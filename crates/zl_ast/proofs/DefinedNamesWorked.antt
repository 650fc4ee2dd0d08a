-- The worked programs of DefinedNamesWorked, by computation of their violations.
use Rattle.zl_value.specs.declared.rule.Rule.TheVariants.{DefinedTwice, Undefined, Arity, Branch, Main, Last}
use Rattle.zl_ast.specs.Scopes.{variables}
use Rattle.zl_ast.specs.NamesRules.{variables_broken, uses_broken}
use Rattle.zl_ast.specs.WorkedTrees.{at}
use Rattle.zl_ast.specs.Verdicts.{KeepsNames, BreaksNames}
use Rattle.zl_ast.specs.DefinedNamesWorked.{value_and_init, two_values, value_and_derivative, value_and_arm, two_in_reset, reset_and_value, derivative_and_init, two_inits, two_forms, init_and_inside, left_names, left_names_twice, local_defined_inside, local_undefined, local_of_state, arguments, too_few_arguments, too_many_arguments, built_in_arguments, results, two_for_one_name, two_in_expression, two_for_three_names, one_for_two_names, two_for_argument, moves, move_to_none, move_outwards, states_of_two, state_again, main_of_parameter, main_missing, main_of_node, main_of_sum, main_of_constant, last_of_variable, last_of_parameter, DefinedNamesWorked}
use Rattle.zl_ast.proofs.NamesSteps.{outline_steps, rolled_places, uses_steps}

is_value_and_init_keeps : KeepsNames value_and_init
unfolding variables_broken uses_broken variables
is_value_and_init_keeps = simp (uses_steps, outline_steps, rolled_places)

is_two_values_breaks : BreaksNames DefinedTwice (at 1 34) two_values
unfolding variables_broken uses_broken variables
is_two_values_breaks = simp (uses_steps, outline_steps, rolled_places)

is_value_and_derivative_breaks : BreaksNames DefinedTwice (at 1 42) value_and_derivative
unfolding variables_broken uses_broken variables
is_value_and_derivative_breaks = simp (uses_steps, outline_steps, rolled_places)

is_value_and_arm_breaks : BreaksNames DefinedTwice (at 1 63) value_and_arm
unfolding variables_broken uses_broken variables
is_value_and_arm_breaks = simp (uses_steps, outline_steps, rolled_places)

is_two_in_reset_breaks : BreaksNames DefinedTwice (at 1 41) two_in_reset
unfolding variables_broken uses_broken variables
is_two_in_reset_breaks = simp (uses_steps, outline_steps, rolled_places)

is_reset_and_value_breaks : BreaksNames DefinedTwice (at 1 51) reset_and_value
unfolding variables_broken uses_broken variables
is_reset_and_value_breaks = simp (uses_steps, outline_steps, rolled_places)

is_derivative_and_init_keeps : KeepsNames derivative_and_init
unfolding variables_broken uses_broken variables
is_derivative_and_init_keeps = simp (uses_steps, outline_steps, rolled_places)

is_two_inits_breaks : BreaksNames DefinedTwice (at 1 44) two_inits
unfolding variables_broken uses_broken variables
is_two_inits_breaks = simp (uses_steps, outline_steps, rolled_places)

is_two_forms_breaks : BreaksNames DefinedTwice (at 1 56) two_forms
unfolding variables_broken uses_broken variables
is_two_forms_breaks = simp (uses_steps, outline_steps, rolled_places)

is_init_and_inside_breaks : BreaksNames DefinedTwice (at 1 51) init_and_inside
unfolding variables_broken uses_broken variables
is_init_and_inside_breaks = simp (uses_steps, outline_steps, rolled_places)

is_left_names_keeps : KeepsNames left_names
unfolding variables_broken uses_broken variables
is_left_names_keeps = simp (uses_steps, outline_steps, rolled_places)

is_left_names_twice_breaks : BreaksNames DefinedTwice (at 2 24) left_names_twice
unfolding variables_broken uses_broken variables
is_left_names_twice_breaks = simp (uses_steps, outline_steps, rolled_places)

is_local_defined_inside_keeps : KeepsNames local_defined_inside
unfolding variables_broken uses_broken variables
is_local_defined_inside_keeps = simp (uses_steps, outline_steps, rolled_places)

is_local_undefined_breaks : BreaksNames Undefined (at 1 49) local_undefined
unfolding variables_broken uses_broken variables
is_local_undefined_breaks = simp (uses_steps, outline_steps, rolled_places)

is_local_of_state_breaks : BreaksNames Undefined (at 1 46) local_of_state
unfolding variables_broken uses_broken variables
is_local_of_state_breaks = simp (uses_steps, outline_steps, rolled_places)

is_arguments_keeps : KeepsNames arguments
unfolding variables_broken uses_broken variables
is_arguments_keeps = simp (uses_steps, outline_steps, rolled_places)

is_too_few_arguments_breaks : BreaksNames Arity (at 2 12) too_few_arguments
unfolding variables_broken uses_broken variables
is_too_few_arguments_breaks = simp (uses_steps, outline_steps, rolled_places)

is_too_many_arguments_breaks : BreaksNames Arity (at 2 12) too_many_arguments
unfolding variables_broken uses_broken variables
is_too_many_arguments_breaks = simp (uses_steps, outline_steps, rolled_places)

is_built_in_arguments_breaks : BreaksNames Arity (at 1 12) built_in_arguments
unfolding variables_broken uses_broken variables
is_built_in_arguments_breaks = simp (uses_steps, outline_steps, rolled_places)

is_results_keeps : KeepsNames results
unfolding variables_broken uses_broken variables
is_results_keeps = simp (uses_steps, outline_steps, rolled_places)

is_two_for_one_name_breaks : BreaksNames Arity (at 2 24) two_for_one_name
unfolding variables_broken uses_broken variables
is_two_for_one_name_breaks = simp (uses_steps, outline_steps, rolled_places)

is_two_in_expression_breaks : BreaksNames Arity (at 2 16) two_in_expression
unfolding variables_broken uses_broken variables
is_two_in_expression_breaks = simp (uses_steps, outline_steps, rolled_places)

is_two_for_three_names_breaks : BreaksNames Arity (at 2 32) two_for_three_names
unfolding variables_broken uses_broken variables
is_two_for_three_names_breaks = simp (uses_steps, outline_steps, rolled_places)

is_one_for_two_names_breaks : BreaksNames Arity (at 2 29) one_for_two_names
unfolding variables_broken uses_broken variables
is_one_for_two_names_breaks = simp (uses_steps, outline_steps, rolled_places)

is_two_for_argument_breaks : BreaksNames Arity (at 2 31) two_for_argument
unfolding variables_broken uses_broken variables
is_two_for_argument_breaks = simp (uses_steps, outline_steps, rolled_places)

is_moves_keeps : KeepsNames moves
unfolding variables_broken uses_broken variables
is_moves_keeps = simp (uses_steps, outline_steps, rolled_places)

is_move_to_none_breaks : BreaksNames Branch (at 1 58) move_to_none
unfolding variables_broken uses_broken variables
is_move_to_none_breaks = simp (uses_steps, outline_steps, rolled_places)

is_move_outwards_breaks : BreaksNames Branch (at 1 76) move_outwards
unfolding variables_broken uses_broken variables
is_move_outwards_breaks = simp (uses_steps, outline_steps, rolled_places)

is_states_of_two_keeps : KeepsNames states_of_two
unfolding variables_broken uses_broken variables
is_states_of_two_keeps = simp (uses_steps, outline_steps, rolled_places)

is_state_again_breaks : BreaksNames Branch (at 1 50) state_again
unfolding variables_broken uses_broken variables
is_state_again_breaks = simp (uses_steps, outline_steps, rolled_places)

is_main_of_parameter_keeps : KeepsNames main_of_parameter
unfolding variables_broken uses_broken variables
is_main_of_parameter_keeps = simp (uses_steps, outline_steps, rolled_places)

is_main_missing_breaks : BreaksNames Main (at 1 1) main_missing
unfolding variables_broken uses_broken variables
is_main_missing_breaks = simp (uses_steps, outline_steps, rolled_places)

is_main_of_node_breaks : BreaksNames Main (at 1 10) main_of_node
unfolding variables_broken uses_broken variables
is_main_of_node_breaks = simp (uses_steps, outline_steps, rolled_places)

is_main_of_sum_breaks : BreaksNames Main (at 1 28) main_of_sum
unfolding variables_broken uses_broken variables
is_main_of_sum_breaks = simp (uses_steps, outline_steps, rolled_places)

is_main_of_constant_breaks : BreaksNames Main (at 2 22) main_of_constant
unfolding variables_broken uses_broken variables
is_main_of_constant_breaks = simp (uses_steps, outline_steps, rolled_places)

is_last_of_variable_keeps : KeepsNames last_of_variable
unfolding variables_broken uses_broken variables
is_last_of_variable_keeps = simp (uses_steps, outline_steps, rolled_places)

is_last_of_parameter_breaks : BreaksNames Last (at 1 17) last_of_parameter
unfolding variables_broken uses_broken variables
is_last_of_parameter_breaks = simp (uses_steps, outline_steps, rolled_places)

pub defined_names_worked : DefinedNamesWorked
defined_names_worked = record {
  value_and_init_keeps = is_value_and_init_keeps;
  two_values_breaks = is_two_values_breaks;
  value_and_derivative_breaks = is_value_and_derivative_breaks;
  value_and_arm_breaks = is_value_and_arm_breaks;
  two_in_reset_breaks = is_two_in_reset_breaks;
  reset_and_value_breaks = is_reset_and_value_breaks;
  derivative_and_init_keeps = is_derivative_and_init_keeps;
  two_inits_breaks = is_two_inits_breaks;
  two_forms_breaks = is_two_forms_breaks;
  init_and_inside_breaks = is_init_and_inside_breaks;
  left_names_keeps = is_left_names_keeps;
  left_names_twice_breaks = is_left_names_twice_breaks;
  local_defined_inside_keeps = is_local_defined_inside_keeps;
  local_undefined_breaks = is_local_undefined_breaks;
  local_of_state_breaks = is_local_of_state_breaks;
  arguments_keeps = is_arguments_keeps;
  too_few_arguments_breaks = is_too_few_arguments_breaks;
  too_many_arguments_breaks = is_too_many_arguments_breaks;
  built_in_arguments_breaks = is_built_in_arguments_breaks;
  results_keeps = is_results_keeps;
  two_for_one_name_breaks = is_two_for_one_name_breaks;
  two_in_expression_breaks = is_two_in_expression_breaks;
  two_for_three_names_breaks = is_two_for_three_names_breaks;
  one_for_two_names_breaks = is_one_for_two_names_breaks;
  two_for_argument_breaks = is_two_for_argument_breaks;
  moves_keeps = is_moves_keeps;
  move_to_none_breaks = is_move_to_none_breaks;
  move_outwards_breaks = is_move_outwards_breaks;
  states_of_two_keeps = is_states_of_two_keeps;
  state_again_breaks = is_state_again_breaks;
  main_of_parameter_keeps = is_main_of_parameter_keeps;
  main_missing_breaks = is_main_missing_breaks;
  main_of_node_breaks = is_main_of_node_breaks;
  main_of_sum_breaks = is_main_of_sum_breaks;
  main_of_constant_breaks = is_main_of_constant_breaks;
  last_of_variable_keeps = is_last_of_variable_keeps;
  last_of_parameter_breaks = is_last_of_parameter_breaks;
}
