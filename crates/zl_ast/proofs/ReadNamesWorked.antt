-- The worked programs of ReadNamesWorked, by computation of their violations.
use Rattle.zl_value.specs.declared.rule.Rule.TheVariants.{NameUnknown, NameTwice, DefinedTwice}
use Rattle.zl_ast.specs.Scopes.{variables}
use Rattle.zl_ast.specs.NamesRules.{variables_broken, uses_broken}
use Rattle.zl_ast.specs.WorkedTrees.{at}
use Rattle.zl_ast.specs.Verdicts.{KeepsNames, BreaksNames}
use Rattle.zl_ast.specs.ReadNamesWorked.{read_before, read_unknown, last_unknown, constant_behind, constant_before, last_of_constant, call_behind, call_before, call_inside, call_of_variable, call_of_constant, function_read, built_in_called, built_in_read, local_inside, local_outside, local_in_its_test, until_sees_local, unless_sees_none, other_state_sees_none, two_names, name_again, constant_again, built_in_again, defined_in_two_arms, two_parameters, local_of_top, two_locals, constant_comes_later, constant_came_before, parameter_read, parameter_defined, parameter_started, parameter_in_arm, ReadNamesWorked}
use Rattle.zl_ast.proofs.NamesSteps.{outline_steps, rolled_places, uses_steps}

is_read_before_keeps : KeepsNames read_before
unfolding variables_broken uses_broken variables
is_read_before_keeps = simp (uses_steps, outline_steps, rolled_places)

is_read_unknown_breaks : BreaksNames NameUnknown (at 1 33) read_unknown
unfolding variables_broken uses_broken variables
is_read_unknown_breaks = simp (uses_steps, outline_steps, rolled_places)

is_last_unknown_breaks : BreaksNames NameUnknown (at 1 38) last_unknown
unfolding variables_broken uses_broken variables
is_last_unknown_breaks = simp (uses_steps, outline_steps, rolled_places)

is_constant_behind_keeps : KeepsNames constant_behind
unfolding variables_broken uses_broken variables
is_constant_behind_keeps = simp (uses_steps, outline_steps, rolled_places)

is_constant_before_breaks : BreaksNames NameUnknown (at 1 33) constant_before
unfolding variables_broken uses_broken variables
is_constant_before_breaks = simp (uses_steps, outline_steps, rolled_places)

is_last_of_constant_breaks : BreaksNames NameUnknown (at 2 38) last_of_constant
unfolding variables_broken uses_broken variables
is_last_of_constant_breaks = simp (uses_steps, outline_steps, rolled_places)

is_call_behind_keeps : KeepsNames call_behind
unfolding variables_broken uses_broken variables
is_call_behind_keeps = simp (uses_steps, outline_steps, rolled_places)

is_call_before_breaks : BreaksNames NameUnknown (at 1 33) call_before
unfolding variables_broken uses_broken variables
is_call_before_breaks = simp (uses_steps, outline_steps, rolled_places)

is_call_inside_breaks : BreaksNames NameUnknown (at 1 12) call_inside
unfolding variables_broken uses_broken variables
is_call_inside_breaks = simp (uses_steps, outline_steps, rolled_places)

is_call_of_variable_breaks : BreaksNames NameUnknown (at 1 12) call_of_variable
unfolding variables_broken uses_broken variables
is_call_of_variable_breaks = simp (uses_steps, outline_steps, rolled_places)

is_call_of_constant_breaks : BreaksNames NameUnknown (at 2 12) call_of_constant
unfolding variables_broken uses_broken variables
is_call_of_constant_breaks = simp (uses_steps, outline_steps, rolled_places)

is_function_read_breaks : BreaksNames NameUnknown (at 2 12) function_read
unfolding variables_broken uses_broken variables
is_function_read_breaks = simp (uses_steps, outline_steps, rolled_places)

is_built_in_called_keeps : KeepsNames built_in_called
unfolding variables_broken uses_broken variables
is_built_in_called_keeps = simp (uses_steps, outline_steps, rolled_places)

is_built_in_read_breaks : BreaksNames NameUnknown (at 1 12) built_in_read
unfolding variables_broken uses_broken variables
is_built_in_read_breaks = simp (uses_steps, outline_steps, rolled_places)

is_local_inside_keeps : KeepsNames local_inside
unfolding variables_broken uses_broken variables
is_local_inside_keeps = simp (uses_steps, outline_steps, rolled_places)

is_local_outside_breaks : BreaksNames NameUnknown (at 1 17) local_outside
unfolding variables_broken uses_broken variables
is_local_outside_breaks = simp (uses_steps, outline_steps, rolled_places)

is_local_in_its_test_breaks : BreaksNames NameUnknown (at 1 34) local_in_its_test
unfolding variables_broken uses_broken variables
is_local_in_its_test_breaks = simp (uses_steps, outline_steps, rolled_places)

is_until_sees_local_keeps : KeepsNames until_sees_local
unfolding variables_broken uses_broken variables
is_until_sees_local_keeps = simp (uses_steps, outline_steps, rolled_places)

is_unless_sees_none_breaks : BreaksNames NameUnknown (at 1 68) unless_sees_none
unfolding variables_broken uses_broken variables
is_unless_sees_none_breaks = simp (uses_steps, outline_steps, rolled_places)

is_other_state_sees_none_breaks : BreaksNames NameUnknown (at 1 82) other_state_sees_none
unfolding variables_broken uses_broken variables
is_other_state_sees_none_breaks = simp (uses_steps, outline_steps, rolled_places)

is_two_names_keeps : KeepsNames two_names
unfolding variables_broken uses_broken variables
is_two_names_keeps = simp (uses_steps, outline_steps, rolled_places)

is_name_again_breaks : BreaksNames NameTwice (at 2 5) name_again
unfolding variables_broken uses_broken variables
is_name_again_breaks = simp (uses_steps, outline_steps, rolled_places)

is_constant_again_breaks : BreaksNames NameTwice (at 2 5) constant_again
unfolding variables_broken uses_broken variables
is_constant_again_breaks = simp (uses_steps, outline_steps, rolled_places)

is_built_in_again_breaks : BreaksNames NameTwice (at 1 5) built_in_again
unfolding variables_broken uses_broken variables
is_built_in_again_breaks = simp (uses_steps, outline_steps, rolled_places)

is_defined_in_two_arms_keeps : KeepsNames defined_in_two_arms
unfolding variables_broken uses_broken variables
is_defined_in_two_arms_keeps = simp (uses_steps, outline_steps, rolled_places)

is_two_parameters_breaks : BreaksNames NameTwice (at 1 10) two_parameters
unfolding variables_broken uses_broken variables
is_two_parameters_breaks = simp (uses_steps, outline_steps, rolled_places)

is_local_of_top_breaks : BreaksNames NameTwice (at 1 56) local_of_top
unfolding variables_broken uses_broken variables
is_local_of_top_breaks = simp (uses_steps, outline_steps, rolled_places)

is_two_locals_breaks : BreaksNames NameTwice (at 1 76) two_locals
unfolding variables_broken uses_broken variables
is_two_locals_breaks = simp (uses_steps, outline_steps, rolled_places)

is_constant_comes_later_keeps : KeepsNames constant_comes_later
unfolding variables_broken uses_broken variables
is_constant_comes_later_keeps = simp (uses_steps, outline_steps, rolled_places)

is_constant_came_before_breaks : BreaksNames NameTwice (at 2 7) constant_came_before
unfolding variables_broken uses_broken variables
is_constant_came_before_breaks = simp (uses_steps, outline_steps, rolled_places)

is_parameter_read_keeps : KeepsNames parameter_read
unfolding variables_broken uses_broken variables
is_parameter_read_keeps = simp (uses_steps, outline_steps, rolled_places)

is_parameter_defined_breaks : BreaksNames DefinedTwice (at 1 20) parameter_defined
unfolding variables_broken uses_broken variables
is_parameter_defined_breaks = simp (uses_steps, outline_steps, rolled_places)

is_parameter_started_breaks : BreaksNames DefinedTwice (at 1 30) parameter_started
unfolding variables_broken uses_broken variables
is_parameter_started_breaks = simp (uses_steps, outline_steps, rolled_places)

is_parameter_in_arm_breaks : BreaksNames DefinedTwice (at 1 46) parameter_in_arm
unfolding variables_broken uses_broken variables
is_parameter_in_arm_breaks = simp (uses_steps, outline_steps, rolled_places)

pub read_names_worked : ReadNamesWorked
read_names_worked = record {
  read_before_keeps = is_read_before_keeps;
  read_unknown_breaks = is_read_unknown_breaks;
  last_unknown_breaks = is_last_unknown_breaks;
  constant_behind_keeps = is_constant_behind_keeps;
  constant_before_breaks = is_constant_before_breaks;
  last_of_constant_breaks = is_last_of_constant_breaks;
  call_behind_keeps = is_call_behind_keeps;
  call_before_breaks = is_call_before_breaks;
  call_inside_breaks = is_call_inside_breaks;
  call_of_variable_breaks = is_call_of_variable_breaks;
  call_of_constant_breaks = is_call_of_constant_breaks;
  function_read_breaks = is_function_read_breaks;
  built_in_called_keeps = is_built_in_called_keeps;
  built_in_read_breaks = is_built_in_read_breaks;
  local_inside_keeps = is_local_inside_keeps;
  local_outside_breaks = is_local_outside_breaks;
  local_in_its_test_breaks = is_local_in_its_test_breaks;
  until_sees_local_keeps = is_until_sees_local_keeps;
  unless_sees_none_breaks = is_unless_sees_none_breaks;
  other_state_sees_none_breaks = is_other_state_sees_none_breaks;
  two_names_keeps = is_two_names_keeps;
  name_again_breaks = is_name_again_breaks;
  constant_again_breaks = is_constant_again_breaks;
  built_in_again_breaks = is_built_in_again_breaks;
  defined_in_two_arms_keeps = is_defined_in_two_arms_keeps;
  two_parameters_breaks = is_two_parameters_breaks;
  local_of_top_breaks = is_local_of_top_breaks;
  two_locals_breaks = is_two_locals_breaks;
  constant_comes_later_keeps = is_constant_comes_later_keeps;
  constant_came_before_breaks = is_constant_came_before_breaks;
  parameter_read_keeps = is_parameter_read_keeps;
  parameter_defined_breaks = is_parameter_defined_breaks;
  parameter_started_breaks = is_parameter_started_breaks;
  parameter_in_arm_breaks = is_parameter_in_arm_breaks;
}
