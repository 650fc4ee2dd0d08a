-- The worked programs of ContextWorked, by computation of their misplaced constructs.
use Rattle.std.proofs.Common.{[], ◌∷◌}
use Rattle.zl_ast.specs.Kinds.{allows_present, none_declared, declared_with}
use Rattle.zl_ast.specs.WorkedTrees.{at}
use Rattle.zl_ast.specs.Verdicts.{KeepsContexts, BreaksContexts}
use Rattle.zl_ast.specs.ContextWorked.{without_memory, constant_with_pre, function_with_pre, function_with_arrow, function_with_fby, function_with_last, node_with_memory, hybrid_with_pre, hybrid_with_arrow, hybrid_with_fby, hybrid_with_last, parts_in_node, parts_of_pre, parts_of_arrow, node_called, node_in_function, node_in_hybrid, hybrid_called, hybrid_in_function, hybrid_in_node, function_called, argument_of_function, argument_of_built_in, operands_in_node, operand_of_minus, operand_of_plus, if_in_node, branch_with_pre, branch_with_fby, branch_with_node, branch_of_branch, if_in_hybrid, branch_with_hybrid, branch_with_last, derivative, derivative_in_node, derivative_in_function, slope_with_pre, ContextWorked}
use Rattle.zl_ast.proofs.ContextSteps.{context_steps}

is_without_memory_keeps : KeepsContexts without_memory
unfolding allows_present none_declared declared_with
is_without_memory_keeps = simp context_steps

is_constant_with_pre_breaks : BreaksContexts (at 1 9 ∷ []) constant_with_pre
unfolding allows_present none_declared declared_with
is_constant_with_pre_breaks = simp context_steps

is_function_with_pre_breaks : BreaksContexts (at 1 18 ∷ []) function_with_pre
unfolding allows_present none_declared declared_with
is_function_with_pre_breaks = simp context_steps

is_function_with_arrow_breaks : BreaksContexts (at 1 20 ∷ []) function_with_arrow
unfolding allows_present none_declared declared_with
is_function_with_arrow_breaks = simp context_steps

is_function_with_fby_breaks : BreaksContexts (at 1 20 ∷ []) function_with_fby
unfolding allows_present none_declared declared_with
is_function_with_fby_breaks = simp context_steps

is_function_with_last_breaks : BreaksContexts (at 1 40 ∷ []) function_with_last
unfolding allows_present none_declared declared_with
is_function_with_last_breaks = simp context_steps

is_node_with_memory_keeps : KeepsContexts node_with_memory
unfolding allows_present none_declared declared_with
is_node_with_memory_keeps = simp context_steps

is_hybrid_with_pre_breaks : BreaksContexts (at 1 25 ∷ []) hybrid_with_pre
unfolding allows_present none_declared declared_with
is_hybrid_with_pre_breaks = simp context_steps

is_hybrid_with_arrow_breaks : BreaksContexts (at 1 27 ∷ []) hybrid_with_arrow
unfolding allows_present none_declared declared_with
is_hybrid_with_arrow_breaks = simp context_steps

is_hybrid_with_fby_breaks : BreaksContexts (at 1 27 ∷ []) hybrid_with_fby
unfolding allows_present none_declared declared_with
is_hybrid_with_fby_breaks = simp context_steps

is_hybrid_with_last_breaks : BreaksContexts (at 1 45 ∷ []) hybrid_with_last
unfolding allows_present none_declared declared_with
is_hybrid_with_last_breaks = simp context_steps

is_parts_in_node_keeps : KeepsContexts parts_in_node
unfolding allows_present none_declared declared_with
is_parts_in_node_keeps = simp context_steps

is_parts_of_pre_breaks : BreaksContexts (at 1 18 ∷ []) parts_of_pre
unfolding allows_present none_declared declared_with
is_parts_of_pre_breaks = simp context_steps

is_parts_of_arrow_breaks : BreaksContexts (at 1 24 ∷ []) parts_of_arrow
unfolding allows_present none_declared declared_with
is_parts_of_arrow_breaks = simp context_steps

is_node_called_keeps : KeepsContexts node_called
unfolding allows_present none_declared declared_with
is_node_called_keeps = simp context_steps

is_node_in_function_breaks : BreaksContexts (at 2 18 ∷ []) node_in_function
unfolding allows_present none_declared declared_with
is_node_in_function_breaks = simp context_steps

is_node_in_hybrid_breaks : BreaksContexts (at 2 25 ∷ []) node_in_hybrid
unfolding allows_present none_declared declared_with
is_node_in_hybrid_breaks = simp context_steps

is_hybrid_called_keeps : KeepsContexts hybrid_called
unfolding allows_present none_declared declared_with
is_hybrid_called_keeps = simp context_steps

is_hybrid_in_function_breaks : BreaksContexts (at 2 11 ∷ []) hybrid_in_function
unfolding allows_present none_declared declared_with
is_hybrid_in_function_breaks = simp context_steps

is_hybrid_in_node_breaks : BreaksContexts (at 2 16 ∷ at 2 18 ∷ []) hybrid_in_node
unfolding allows_present none_declared declared_with
is_hybrid_in_node_breaks = simp context_steps

is_function_called_keeps : KeepsContexts function_called
unfolding allows_present none_declared declared_with
is_function_called_keeps = simp context_steps

is_argument_of_function_breaks : BreaksContexts (at 2 20 ∷ []) argument_of_function
unfolding allows_present none_declared declared_with
is_argument_of_function_breaks = simp context_steps

is_argument_of_built_in_breaks : BreaksContexts (at 1 29 ∷ []) argument_of_built_in
unfolding allows_present none_declared declared_with
is_argument_of_built_in_breaks = simp context_steps

is_operands_in_node_keeps : KeepsContexts operands_in_node
unfolding allows_present none_declared declared_with
is_operands_in_node_keeps = simp context_steps

is_operand_of_minus_breaks : BreaksContexts (at 1 20 ∷ []) operand_of_minus
unfolding allows_present none_declared declared_with
is_operand_of_minus_breaks = simp context_steps

is_operand_of_plus_breaks : BreaksContexts (at 1 22 ∷ []) operand_of_plus
unfolding allows_present none_declared declared_with
is_operand_of_plus_breaks = simp context_steps

is_if_in_node_keeps : KeepsContexts if_in_node
unfolding allows_present none_declared declared_with
is_if_in_node_keeps = simp context_steps

is_branch_with_pre_breaks : BreaksContexts (at 1 43 ∷ []) branch_with_pre
unfolding allows_present none_declared declared_with
is_branch_with_pre_breaks = simp context_steps

is_branch_with_fby_breaks : BreaksContexts (at 1 52 ∷ []) branch_with_fby
unfolding allows_present none_declared declared_with
is_branch_with_fby_breaks = simp context_steps

is_branch_with_node_breaks : BreaksContexts (at 2 50 ∷ []) branch_with_node
unfolding allows_present none_declared declared_with
is_branch_with_node_breaks = simp context_steps

is_branch_of_branch_breaks : BreaksContexts (at 1 38 ∷ []) branch_of_branch
unfolding allows_present none_declared declared_with
is_branch_of_branch_breaks = simp context_steps

is_if_in_hybrid_keeps : KeepsContexts if_in_hybrid
unfolding allows_present none_declared declared_with
is_if_in_hybrid_keeps = simp context_steps

is_branch_with_hybrid_breaks : BreaksContexts (at 2 31 ∷ []) branch_with_hybrid
unfolding allows_present none_declared declared_with
is_branch_with_hybrid_breaks = simp context_steps

is_branch_with_last_breaks : BreaksContexts (at 1 58 ∷ []) branch_with_last
unfolding allows_present none_declared declared_with
is_branch_with_last_breaks = simp context_steps

is_derivative_keeps : KeepsContexts derivative
unfolding allows_present none_declared declared_with
is_derivative_keeps = simp context_steps

is_derivative_in_node_breaks : BreaksContexts (at 1 24 ∷ []) derivative_in_node
unfolding allows_present none_declared declared_with
is_derivative_in_node_breaks = simp context_steps

is_derivative_in_function_breaks : BreaksContexts (at 1 19 ∷ []) derivative_in_function
unfolding allows_present none_declared declared_with
is_derivative_in_function_breaks = simp context_steps

is_slope_with_pre_breaks : BreaksContexts (at 1 34 ∷ []) slope_with_pre
unfolding allows_present none_declared declared_with
is_slope_with_pre_breaks = simp context_steps

pub context_worked : ContextWorked
context_worked = record {
  without_memory_keeps = is_without_memory_keeps;
  constant_with_pre_breaks = is_constant_with_pre_breaks;
  function_with_pre_breaks = is_function_with_pre_breaks;
  function_with_arrow_breaks = is_function_with_arrow_breaks;
  function_with_fby_breaks = is_function_with_fby_breaks;
  function_with_last_breaks = is_function_with_last_breaks;
  node_with_memory_keeps = is_node_with_memory_keeps;
  hybrid_with_pre_breaks = is_hybrid_with_pre_breaks;
  hybrid_with_arrow_breaks = is_hybrid_with_arrow_breaks;
  hybrid_with_fby_breaks = is_hybrid_with_fby_breaks;
  hybrid_with_last_breaks = is_hybrid_with_last_breaks;
  parts_in_node_keeps = is_parts_in_node_keeps;
  parts_of_pre_breaks = is_parts_of_pre_breaks;
  parts_of_arrow_breaks = is_parts_of_arrow_breaks;
  node_called_keeps = is_node_called_keeps;
  node_in_function_breaks = is_node_in_function_breaks;
  node_in_hybrid_breaks = is_node_in_hybrid_breaks;
  hybrid_called_keeps = is_hybrid_called_keeps;
  hybrid_in_function_breaks = is_hybrid_in_function_breaks;
  hybrid_in_node_breaks = is_hybrid_in_node_breaks;
  function_called_keeps = is_function_called_keeps;
  argument_of_function_breaks = is_argument_of_function_breaks;
  argument_of_built_in_breaks = is_argument_of_built_in_breaks;
  operands_in_node_keeps = is_operands_in_node_keeps;
  operand_of_minus_breaks = is_operand_of_minus_breaks;
  operand_of_plus_breaks = is_operand_of_plus_breaks;
  if_in_node_keeps = is_if_in_node_keeps;
  branch_with_pre_breaks = is_branch_with_pre_breaks;
  branch_with_fby_breaks = is_branch_with_fby_breaks;
  branch_with_node_breaks = is_branch_with_node_breaks;
  branch_of_branch_breaks = is_branch_of_branch_breaks;
  if_in_hybrid_keeps = is_if_in_hybrid_keeps;
  branch_with_hybrid_breaks = is_branch_with_hybrid_breaks;
  branch_with_last_breaks = is_branch_with_last_breaks;
  derivative_keeps = is_derivative_keeps;
  derivative_in_node_breaks = is_derivative_in_node_breaks;
  derivative_in_function_breaks = is_derivative_in_function_breaks;
  slope_with_pre_breaks = is_slope_with_pre_breaks;
}
