-- The worked programs of ExpressionTypesWorked, by computation of their equalities.
use Rattle.std.proofs.Common.{◌≡◌, [], ◌∷◌, ◌++◌, refl}
use Rattle.zl_value.specs.declared.value.Ty.TheVariants.{Bool, Int, Float}
use Rattle.zl_ast.specs.declared.scope.VarClass.TheVariants.{Param, Top}
use Rattle.zl_ast.specs.Scopes.{variables, scopes}
use Rattle.zl_ast.specs.NamesDefined.{entry}
use Rattle.zl_ast.specs.TypeEqualities.{fixed, same, equalities}
use Rattle.zl_ast.specs.WorkedTrees.{at, name}
use Rattle.zl_ast.specs.Verdicts.{KeepsTypes, Clashes}
use Rattle.zl_ast.specs.ExpressionTypesWorked.{int_operators, float_to_plus, int_result, float_operators, int_to_plus_dot, bool_operators, int_to_and, int_to_not, minus_signs, float_to_minus, int_to_minus_dot, comparisons, more_comparisons, int_and_float, int_of_comparison, if_typed, if_of_int, if_of_two, if_result, flows_typed, arrow_of_two, arrow_result, fby_of_two, pre_typed, last_typed, pre_of_float, last_of_float, built_ins_typed, float_to_float_of_int, int_to_truncate, float_of_truncate, calls_typed, second_argument, call_result, two_calls, ExpressionTypesWorked}
use Rattle.zl_ast.proofs.NamesSteps.{outline_steps, rolled_places}
use Rattle.zl_ast.proofs.EqualitySteps.{equality_steps}
use Rattle.zl_ast.proofs.TypingByTable.{is_typing, typed_by, clash_at}

equalities_of_int_operators : equalities int_operators ≡ fixed (at 1 15) Int (at 1 15) ∷ fixed (at 1 17) Int (at 1 15) ∷ fixed (at 1 17) Int (at 1 19) ∷ fixed (at 1 17) Int (at 1 17) ∷ fixed (at 1 19) Int (at 1 19) ∷ fixed (at 1 21) Int (at 1 17) ∷ fixed (at 1 21) Int (at 1 33) ∷ fixed (at 1 21) Int (at 1 21) ∷ same (at 1 23) (at 1 23) (at 1 7) ∷ fixed (at 1 25) Int (at 1 23) ∷ fixed (at 1 25) Int (at 1 27) ∷ fixed (at 1 25) Int (at 1 25) ∷ fixed (at 1 27) Int (at 1 27) ∷ fixed (at 1 29) Int (at 1 25) ∷ fixed (at 1 29) Int (at 1 31) ∷ fixed (at 1 29) Int (at 1 29) ∷ fixed (at 1 31) Int (at 1 31) ∷ fixed (at 1 33) Int (at 1 29) ∷ fixed (at 1 33) Int (at 1 37) ∷ fixed (at 1 33) Int (at 1 33) ∷ same (at 1 37) (at 1 37) (at 1 10) ∷ []
unfolding variables
equalities_of_int_operators = simp (equality_steps, rolled_places, outline_steps)

scopes_of_int_operators : scopes int_operators ≡ (entry Param (name 1 1 7) ∷ entry Param (name 2 1 10) ∷ []) ∷ []
unfolding variables
scopes_of_int_operators = refl

is_int_operators_keeps : KeepsTypes ((Int ∷ Int ∷ []) ∷ []) int_operators
is_int_operators_keeps = typed_by int_operators equalities_of_int_operators scopes_of_int_operators (is_typing 2 _ _ ((Int ∷ Int ∷ []) ∷ []) refl refl)

equalities_of_float_to_plus : equalities float_to_plus ≡ (same (at 1 12) (at 1 12) (at 1 7) ∷ fixed (at 1 14) Int (at 1 12) ∷ fixed (at 1 14) Int (at 1 16) ∷ fixed (at 1 14) Int (at 1 14) ∷ []) ++ (fixed (at 1 16) Float (at 1 16)) ∷ []
unfolding variables
equalities_of_float_to_plus = simp (equality_steps, rolled_places, outline_steps)

is_float_to_plus_breaks : Clashes (at 1 16) float_to_plus
is_float_to_plus_breaks = clash_at 1 ((at 1 12, Int) ∷ (at 1 7, Int) ∷ (at 1 16, Int) ∷ (at 1 14, Int) ∷ []) (equalities float_to_plus) (same (at 1 12) (at 1 12) (at 1 7) ∷ fixed (at 1 14) Int (at 1 12) ∷ fixed (at 1 14) Int (at 1 16) ∷ fixed (at 1 14) Int (at 1 14) ∷ []) [] (fixed (at 1 16) Float (at 1 16)) equalities_of_float_to_plus refl refl

equalities_of_int_result : equalities int_result ≡ (fixed (at 1 12) Bool (at 1 12) ∷ fixed (at 1 17) Bool (at 1 12) ∷ fixed (at 1 17) Bool (at 1 23) ∷ fixed (at 1 17) Bool (at 1 17) ∷ same (at 1 21) (at 1 21) (at 1 7) ∷ fixed (at 1 23) Int (at 1 21) ∷ fixed (at 1 23) Int (at 1 25) ∷ []) ++ (fixed (at 1 23) Int (at 1 23)) ∷ (fixed (at 1 25) Int (at 1 25) ∷ [])
unfolding variables
equalities_of_int_result = simp (equality_steps, rolled_places, outline_steps)

is_int_result_breaks : Clashes (at 1 23) int_result
is_int_result_breaks = clash_at 1 ((at 1 12, Bool) ∷ (at 1 23, Bool) ∷ (at 1 17, Bool) ∷ (at 1 21, Int) ∷ (at 1 7, Int) ∷ (at 1 25, Int) ∷ []) (equalities int_result) (fixed (at 1 12) Bool (at 1 12) ∷ fixed (at 1 17) Bool (at 1 12) ∷ fixed (at 1 17) Bool (at 1 23) ∷ fixed (at 1 17) Bool (at 1 17) ∷ same (at 1 21) (at 1 21) (at 1 7) ∷ fixed (at 1 23) Int (at 1 21) ∷ fixed (at 1 23) Int (at 1 25) ∷ []) (fixed (at 1 25) Int (at 1 25) ∷ []) (fixed (at 1 23) Int (at 1 23)) equalities_of_int_result refl refl

equalities_of_float_operators : equalities float_operators ≡ fixed (at 1 15) Float (at 1 15) ∷ fixed (at 1 19) Float (at 1 15) ∷ fixed (at 1 19) Float (at 1 22) ∷ fixed (at 1 19) Float (at 1 19) ∷ fixed (at 1 22) Float (at 1 22) ∷ fixed (at 1 26) Float (at 1 19) ∷ fixed (at 1 26) Float (at 1 38) ∷ fixed (at 1 26) Float (at 1 26) ∷ same (at 1 29) (at 1 29) (at 1 7) ∷ fixed (at 1 31) Float (at 1 29) ∷ fixed (at 1 31) Float (at 1 34) ∷ fixed (at 1 31) Float (at 1 31) ∷ fixed (at 1 34) Float (at 1 34) ∷ fixed (at 1 38) Float (at 1 31) ∷ fixed (at 1 38) Float (at 1 41) ∷ fixed (at 1 38) Float (at 1 38) ∷ same (at 1 41) (at 1 41) (at 1 10) ∷ []
unfolding variables
equalities_of_float_operators = simp (equality_steps, rolled_places, outline_steps)

scopes_of_float_operators : scopes float_operators ≡ (entry Param (name 1 1 7) ∷ entry Param (name 2 1 10) ∷ []) ∷ []
unfolding variables
scopes_of_float_operators = refl

is_float_operators_keeps : KeepsTypes ((Float ∷ Float ∷ []) ∷ []) float_operators
is_float_operators_keeps = typed_by float_operators equalities_of_float_operators scopes_of_float_operators (is_typing 2 _ _ ((Float ∷ Float ∷ []) ∷ []) refl refl)

equalities_of_int_to_plus_dot : equalities int_to_plus_dot ≡ (same (at 1 12) (at 1 12) (at 1 7) ∷ fixed (at 1 14) Float (at 1 12) ∷ fixed (at 1 14) Float (at 1 17) ∷ fixed (at 1 14) Float (at 1 14) ∷ []) ++ (fixed (at 1 17) Int (at 1 17)) ∷ []
unfolding variables
equalities_of_int_to_plus_dot = simp (equality_steps, rolled_places, outline_steps)

is_int_to_plus_dot_breaks : Clashes (at 1 17) int_to_plus_dot
is_int_to_plus_dot_breaks = clash_at 1 ((at 1 12, Float) ∷ (at 1 7, Float) ∷ (at 1 17, Float) ∷ (at 1 14, Float) ∷ []) (equalities int_to_plus_dot) (same (at 1 12) (at 1 12) (at 1 7) ∷ fixed (at 1 14) Float (at 1 12) ∷ fixed (at 1 14) Float (at 1 17) ∷ fixed (at 1 14) Float (at 1 14) ∷ []) [] (fixed (at 1 17) Int (at 1 17)) equalities_of_int_to_plus_dot refl refl

equalities_of_bool_operators : equalities bool_operators ≡ same (at 1 15) (at 1 15) (at 1 7) ∷ fixed (at 1 17) Bool (at 1 15) ∷ fixed (at 1 17) Bool (at 1 20) ∷ fixed (at 1 17) Bool (at 1 17) ∷ fixed (at 1 20) Bool (at 1 20) ∷ fixed (at 1 25) Bool (at 1 17) ∷ fixed (at 1 25) Bool (at 1 28) ∷ fixed (at 1 25) Bool (at 1 25) ∷ fixed (at 1 28) Bool (at 1 32) ∷ fixed (at 1 28) Bool (at 1 28) ∷ same (at 1 32) (at 1 32) (at 1 10) ∷ []
unfolding variables
equalities_of_bool_operators = simp (equality_steps, rolled_places, outline_steps)

scopes_of_bool_operators : scopes bool_operators ≡ (entry Param (name 1 1 7) ∷ entry Param (name 2 1 10) ∷ []) ∷ []
unfolding variables
scopes_of_bool_operators = refl

is_bool_operators_keeps : KeepsTypes ((Bool ∷ Bool ∷ []) ∷ []) bool_operators
is_bool_operators_keeps = typed_by bool_operators equalities_of_bool_operators scopes_of_bool_operators (is_typing 2 _ _ ((Bool ∷ Bool ∷ []) ∷ []) refl refl)

equalities_of_int_to_and : equalities int_to_and ≡ (same (at 1 12) (at 1 12) (at 1 7) ∷ fixed (at 1 14) Bool (at 1 12) ∷ fixed (at 1 14) Bool (at 1 17) ∷ fixed (at 1 14) Bool (at 1 14) ∷ []) ++ (fixed (at 1 17) Int (at 1 17)) ∷ []
unfolding variables
equalities_of_int_to_and = simp (equality_steps, rolled_places, outline_steps)

is_int_to_and_breaks : Clashes (at 1 17) int_to_and
is_int_to_and_breaks = clash_at 1 ((at 1 12, Bool) ∷ (at 1 7, Bool) ∷ (at 1 17, Bool) ∷ (at 1 14, Bool) ∷ []) (equalities int_to_and) (same (at 1 12) (at 1 12) (at 1 7) ∷ fixed (at 1 14) Bool (at 1 12) ∷ fixed (at 1 14) Bool (at 1 17) ∷ fixed (at 1 14) Bool (at 1 14) ∷ []) [] (fixed (at 1 17) Int (at 1 17)) equalities_of_int_to_and refl refl

equalities_of_int_to_not : equalities int_to_not ≡ (fixed (at 1 11) Bool (at 1 15) ∷ fixed (at 1 11) Bool (at 1 11) ∷ []) ++ (fixed (at 1 15) Int (at 1 15)) ∷ []
unfolding variables
equalities_of_int_to_not = simp (equality_steps, rolled_places, outline_steps)

is_int_to_not_breaks : Clashes (at 1 15) int_to_not
is_int_to_not_breaks = clash_at 1 ((at 1 15, Bool) ∷ (at 1 11, Bool) ∷ []) (equalities int_to_not) (fixed (at 1 11) Bool (at 1 15) ∷ fixed (at 1 11) Bool (at 1 11) ∷ []) [] (fixed (at 1 15) Int (at 1 15)) equalities_of_int_to_not refl refl

equalities_of_minus_signs : equalities minus_signs ≡ same (at 1 15) (at 1 15) (at 1 23) ∷ same (at 1 23) (at 1 27) (at 1 23) ∷ fixed (at 1 27) Int (at 1 29) ∷ fixed (at 1 27) Int (at 1 27) ∷ same (at 1 29) (at 1 29) (at 1 7) ∷ same (at 1 35) (at 1 39) (at 1 35) ∷ fixed (at 1 39) Float (at 1 42) ∷ fixed (at 1 39) Float (at 1 39) ∷ same (at 1 42) (at 1 42) (at 1 10) ∷ []
unfolding variables
equalities_of_minus_signs = simp (equality_steps, rolled_places, outline_steps)

scopes_of_minus_signs : scopes minus_signs ≡ (entry Param (name 1 1 7) ∷ entry Param (name 2 1 10) ∷ entry Top (name 3 1 23) ∷ entry Top (name 4 1 35) ∷ []) ∷ []
unfolding variables
scopes_of_minus_signs = simp outline_steps

is_minus_signs_keeps : KeepsTypes ((Int ∷ Float ∷ Int ∷ Float ∷ []) ∷ []) minus_signs
is_minus_signs_keeps = typed_by minus_signs equalities_of_minus_signs scopes_of_minus_signs (is_typing 3 _ _ ((Int ∷ Float ∷ Int ∷ Float ∷ []) ∷ []) refl refl)

equalities_of_float_to_minus : equalities float_to_minus ≡ (same (at 1 12) (at 1 12) (at 1 20) ∷ same (at 1 20) (at 1 24) (at 1 20) ∷ fixed (at 1 24) Float (at 1 27) ∷ fixed (at 1 24) Float (at 1 24) ∷ same (at 1 27) (at 1 27) (at 1 7) ∷ same (at 1 33) (at 1 37) (at 1 33) ∷ fixed (at 1 37) Int (at 1 39) ∷ fixed (at 1 37) Int (at 1 37) ∷ []) ++ (same (at 1 39) (at 1 39) (at 1 20)) ∷ []
unfolding variables
equalities_of_float_to_minus = simp (equality_steps, rolled_places, outline_steps)

is_float_to_minus_breaks : Clashes (at 1 39) float_to_minus
is_float_to_minus_breaks = clash_at 1 ((at 1 12, Float) ∷ (at 1 20, Float) ∷ (at 1 24, Float) ∷ (at 1 27, Float) ∷ (at 1 7, Float) ∷ (at 1 37, Int) ∷ (at 1 33, Int) ∷ (at 1 39, Int) ∷ []) (equalities float_to_minus) (same (at 1 12) (at 1 12) (at 1 20) ∷ same (at 1 20) (at 1 24) (at 1 20) ∷ fixed (at 1 24) Float (at 1 27) ∷ fixed (at 1 24) Float (at 1 24) ∷ same (at 1 27) (at 1 27) (at 1 7) ∷ same (at 1 33) (at 1 37) (at 1 33) ∷ fixed (at 1 37) Int (at 1 39) ∷ fixed (at 1 37) Int (at 1 37) ∷ []) [] (same (at 1 39) (at 1 39) (at 1 20)) equalities_of_float_to_minus refl refl

equalities_of_int_to_minus_dot : equalities int_to_minus_dot ≡ (fixed (at 1 11) Float (at 1 14) ∷ fixed (at 1 11) Float (at 1 11) ∷ []) ++ (fixed (at 1 14) Int (at 1 14)) ∷ []
unfolding variables
equalities_of_int_to_minus_dot = simp (equality_steps, rolled_places, outline_steps)

is_int_to_minus_dot_breaks : Clashes (at 1 14) int_to_minus_dot
is_int_to_minus_dot_breaks = clash_at 1 ((at 1 14, Float) ∷ (at 1 11, Float) ∷ []) (equalities int_to_minus_dot) (fixed (at 1 11) Float (at 1 14) ∷ fixed (at 1 11) Float (at 1 11) ∷ []) [] (fixed (at 1 14) Int (at 1 14)) equalities_of_int_to_minus_dot refl refl

equalities_of_comparisons : equalities comparisons ≡ same (at 1 19) (at 1 19) (at 1 7) ∷ same (at 1 21) (at 1 19) (at 1 23) ∷ fixed (at 1 21) Bool (at 1 21) ∷ fixed (at 1 23) Int (at 1 23) ∷ fixed (at 1 26) Bool (at 1 21) ∷ fixed (at 1 26) Bool (at 1 32) ∷ fixed (at 1 26) Bool (at 1 26) ∷ same (at 1 30) (at 1 30) (at 1 10) ∷ same (at 1 32) (at 1 30) (at 1 35) ∷ fixed (at 1 32) Bool (at 1 32) ∷ fixed (at 1 35) Float (at 1 35) ∷ fixed (at 1 40) Bool (at 1 26) ∷ fixed (at 1 40) Bool (at 1 46) ∷ fixed (at 1 40) Bool (at 1 40) ∷ same (at 1 44) (at 1 44) (at 1 13) ∷ same (at 1 46) (at 1 44) (at 1 48) ∷ fixed (at 1 46) Bool (at 1 46) ∷ fixed (at 1 48) Bool (at 1 48) ∷ []
unfolding variables
equalities_of_comparisons = simp (equality_steps, rolled_places, outline_steps)

scopes_of_comparisons : scopes comparisons ≡ (entry Param (name 1 1 7) ∷ entry Param (name 2 1 10) ∷ entry Param (name 3 1 13) ∷ []) ∷ []
unfolding variables
scopes_of_comparisons = refl

is_comparisons_keeps : KeepsTypes ((Int ∷ Float ∷ Bool ∷ []) ∷ []) comparisons
is_comparisons_keeps = typed_by comparisons equalities_of_comparisons scopes_of_comparisons (is_typing 3 _ _ ((Int ∷ Float ∷ Bool ∷ []) ∷ []) refl refl)

equalities_of_more_comparisons : equalities more_comparisons ≡ same (at 1 19) (at 1 19) (at 1 7) ∷ same (at 1 21) (at 1 19) (at 1 24) ∷ fixed (at 1 21) Bool (at 1 21) ∷ fixed (at 1 24) Int (at 1 24) ∷ fixed (at 1 27) Bool (at 1 21) ∷ fixed (at 1 27) Bool (at 1 33) ∷ fixed (at 1 27) Bool (at 1 27) ∷ same (at 1 31) (at 1 31) (at 1 10) ∷ same (at 1 33) (at 1 31) (at 1 35) ∷ fixed (at 1 33) Bool (at 1 33) ∷ fixed (at 1 35) Float (at 1 35) ∷ fixed (at 1 40) Bool (at 1 27) ∷ fixed (at 1 40) Bool (at 1 46) ∷ fixed (at 1 40) Bool (at 1 40) ∷ same (at 1 44) (at 1 44) (at 1 13) ∷ same (at 1 46) (at 1 44) (at 1 49) ∷ fixed (at 1 46) Bool (at 1 46) ∷ fixed (at 1 49) Bool (at 1 49) ∷ []
unfolding variables
equalities_of_more_comparisons = simp (equality_steps, rolled_places, outline_steps)

scopes_of_more_comparisons : scopes more_comparisons ≡ (entry Param (name 1 1 7) ∷ entry Param (name 2 1 10) ∷ entry Param (name 3 1 13) ∷ []) ∷ []
unfolding variables
scopes_of_more_comparisons = refl

is_more_comparisons_keeps : KeepsTypes ((Int ∷ Float ∷ Bool ∷ []) ∷ []) more_comparisons
is_more_comparisons_keeps = typed_by more_comparisons equalities_of_more_comparisons scopes_of_more_comparisons (is_typing 3 _ _ ((Int ∷ Float ∷ Bool ∷ []) ∷ []) refl refl)

equalities_of_int_and_float : equalities int_and_float ≡ (fixed (at 1 11) Int (at 1 11) ∷ same (at 1 13) (at 1 11) (at 1 15) ∷ fixed (at 1 13) Bool (at 1 13) ∷ []) ++ (fixed (at 1 15) Float (at 1 15)) ∷ []
unfolding variables
equalities_of_int_and_float = simp (equality_steps, rolled_places, outline_steps)

is_int_and_float_breaks : Clashes (at 1 15) int_and_float
is_int_and_float_breaks = clash_at 1 ((at 1 11, Int) ∷ (at 1 15, Int) ∷ (at 1 13, Bool) ∷ []) (equalities int_and_float) (fixed (at 1 11) Int (at 1 11) ∷ same (at 1 13) (at 1 11) (at 1 15) ∷ fixed (at 1 13) Bool (at 1 13) ∷ []) [] (fixed (at 1 15) Float (at 1 15)) equalities_of_int_and_float refl refl

equalities_of_int_of_comparison : equalities int_of_comparison ≡ (fixed (at 1 12) Int (at 1 12) ∷ same (at 1 14) (at 1 12) (at 1 16) ∷ fixed (at 1 14) Bool (at 1 14) ∷ fixed (at 1 16) Int (at 1 16) ∷ []) ++ (fixed (at 1 19) Int (at 1 14)) ∷ (fixed (at 1 19) Int (at 1 21) ∷ fixed (at 1 19) Int (at 1 19) ∷ fixed (at 1 21) Int (at 1 21) ∷ [])
unfolding variables
equalities_of_int_of_comparison = simp (equality_steps, rolled_places, outline_steps)

is_int_of_comparison_breaks : Clashes (at 1 19) int_of_comparison
is_int_of_comparison_breaks = clash_at 1 ((at 1 12, Int) ∷ (at 1 16, Int) ∷ (at 1 14, Bool) ∷ []) (equalities int_of_comparison) (fixed (at 1 12) Int (at 1 12) ∷ same (at 1 14) (at 1 12) (at 1 16) ∷ fixed (at 1 14) Bool (at 1 14) ∷ fixed (at 1 16) Int (at 1 16) ∷ []) (fixed (at 1 19) Int (at 1 21) ∷ fixed (at 1 19) Int (at 1 19) ∷ fixed (at 1 21) Int (at 1 21) ∷ []) (fixed (at 1 19) Int (at 1 14)) equalities_of_int_of_comparison refl refl

equalities_of_if_typed : equalities if_typed ≡ same (at 1 15) (at 1 15) (at 1 23) ∷ same (at 1 23) (at 1 27) (at 1 23) ∷ fixed (at 1 27) Bool (at 1 30) ∷ same (at 1 27) (at 1 27) (at 1 37) ∷ same (at 1 27) (at 1 27) (at 1 44) ∷ same (at 1 30) (at 1 30) (at 1 7) ∷ same (at 1 37) (at 1 37) (at 1 10) ∷ fixed (at 1 44) Int (at 1 44) ∷ []
unfolding variables
equalities_of_if_typed = simp (equality_steps, rolled_places, outline_steps)

scopes_of_if_typed : scopes if_typed ≡ (entry Param (name 1 1 7) ∷ entry Param (name 2 1 10) ∷ entry Top (name 3 1 23) ∷ []) ∷ []
unfolding variables
scopes_of_if_typed = simp outline_steps

is_if_typed_keeps : KeepsTypes ((Bool ∷ Int ∷ Int ∷ []) ∷ []) if_typed
is_if_typed_keeps = typed_by if_typed equalities_of_if_typed scopes_of_if_typed (is_typing 4 _ _ ((Bool ∷ Int ∷ Int ∷ []) ∷ []) refl refl)

equalities_of_if_of_int : equalities if_of_int ≡ (fixed (at 1 11) Bool (at 1 14) ∷ same (at 1 11) (at 1 11) (at 1 21) ∷ same (at 1 11) (at 1 11) (at 1 28) ∷ []) ++ (fixed (at 1 14) Int (at 1 14)) ∷ (fixed (at 1 21) Int (at 1 21) ∷ fixed (at 1 28) Int (at 1 28) ∷ [])
unfolding variables
equalities_of_if_of_int = simp (equality_steps, rolled_places, outline_steps)

is_if_of_int_breaks : Clashes (at 1 14) if_of_int
is_if_of_int_breaks = clash_at 1 ((at 1 14, Bool) ∷ []) (equalities if_of_int) (fixed (at 1 11) Bool (at 1 14) ∷ same (at 1 11) (at 1 11) (at 1 21) ∷ same (at 1 11) (at 1 11) (at 1 28) ∷ []) (fixed (at 1 21) Int (at 1 21) ∷ fixed (at 1 28) Int (at 1 28) ∷ []) (fixed (at 1 14) Int (at 1 14)) equalities_of_if_of_int refl refl

equalities_of_if_of_two : equalities if_of_two ≡ (fixed (at 1 11) Bool (at 1 14) ∷ same (at 1 11) (at 1 11) (at 1 24) ∷ same (at 1 11) (at 1 11) (at 1 31) ∷ fixed (at 1 14) Bool (at 1 14) ∷ fixed (at 1 24) Int (at 1 24) ∷ []) ++ (fixed (at 1 31) Float (at 1 31)) ∷ []
unfolding variables
equalities_of_if_of_two = simp (equality_steps, rolled_places, outline_steps)

is_if_of_two_breaks : Clashes (at 1 31) if_of_two
is_if_of_two_breaks = clash_at 2 ((at 1 14, Bool) ∷ (at 1 11, Int) ∷ (at 1 24, Int) ∷ (at 1 31, Int) ∷ []) (equalities if_of_two) (fixed (at 1 11) Bool (at 1 14) ∷ same (at 1 11) (at 1 11) (at 1 24) ∷ same (at 1 11) (at 1 11) (at 1 31) ∷ fixed (at 1 14) Bool (at 1 14) ∷ fixed (at 1 24) Int (at 1 24) ∷ []) [] (fixed (at 1 31) Float (at 1 31)) equalities_of_if_of_two refl refl

equalities_of_if_result : equalities if_result ≡ (fixed (at 1 13) Bool (at 1 16) ∷ same (at 1 13) (at 1 13) (at 1 26) ∷ same (at 1 13) (at 1 13) (at 1 33) ∷ fixed (at 1 16) Bool (at 1 16) ∷ fixed (at 1 26) Int (at 1 26) ∷ same (at 1 33) (at 1 33) (at 1 7) ∷ []) ++ (fixed (at 1 36) Float (at 1 13)) ∷ (fixed (at 1 36) Float (at 1 39) ∷ fixed (at 1 36) Float (at 1 36) ∷ fixed (at 1 39) Float (at 1 39) ∷ [])
unfolding variables
equalities_of_if_result = simp (equality_steps, rolled_places, outline_steps)

is_if_result_breaks : Clashes (at 1 36) if_result
is_if_result_breaks = clash_at 1 ((at 1 16, Bool) ∷ (at 1 13, Int) ∷ (at 1 26, Int) ∷ (at 1 33, Int) ∷ (at 1 7, Int) ∷ []) (equalities if_result) (fixed (at 1 13) Bool (at 1 16) ∷ same (at 1 13) (at 1 13) (at 1 26) ∷ same (at 1 13) (at 1 13) (at 1 33) ∷ fixed (at 1 16) Bool (at 1 16) ∷ fixed (at 1 26) Int (at 1 26) ∷ same (at 1 33) (at 1 33) (at 1 7) ∷ []) (fixed (at 1 36) Float (at 1 39) ∷ fixed (at 1 36) Float (at 1 36) ∷ fixed (at 1 39) Float (at 1 39) ∷ []) (fixed (at 1 36) Float (at 1 13)) equalities_of_if_result refl refl

equalities_of_flows_typed : equalities flows_typed ≡ same (at 1 17) (at 1 17) (at 1 12) ∷ same (at 1 19) (at 1 19) (at 1 17) ∷ same (at 1 19) (at 1 19) (at 1 22) ∷ fixed (at 1 22) Int (at 1 22) ∷ same (at 2 17) (at 2 17) (at 2 12) ∷ same (at 2 19) (at 2 19) (at 2 17) ∷ same (at 2 19) (at 2 19) (at 2 23) ∷ fixed (at 2 23) Float (at 2 23) ∷ []
unfolding variables
equalities_of_flows_typed = simp (equality_steps, rolled_places, outline_steps)

scopes_of_flows_typed : scopes flows_typed ≡ (entry Param (name 1 1 12) ∷ []) ∷ (entry Param (name 3 2 12) ∷ []) ∷ []
unfolding variables
scopes_of_flows_typed = refl

is_flows_typed_keeps : KeepsTypes ((Int ∷ []) ∷ (Float ∷ []) ∷ []) flows_typed
is_flows_typed_keeps = typed_by flows_typed equalities_of_flows_typed scopes_of_flows_typed (is_typing 4 _ _ ((Int ∷ []) ∷ (Float ∷ []) ∷ []) refl refl)

equalities_of_arrow_of_two : equalities arrow_of_two ≡ (fixed (at 1 16) Int (at 1 16) ∷ same (at 1 18) (at 1 18) (at 1 16) ∷ same (at 1 18) (at 1 18) (at 1 21) ∷ []) ++ (fixed (at 1 21) Float (at 1 21)) ∷ []
unfolding variables
equalities_of_arrow_of_two = simp (equality_steps, rolled_places, outline_steps)

is_arrow_of_two_breaks : Clashes (at 1 21) arrow_of_two
is_arrow_of_two_breaks = clash_at 1 ((at 1 16, Int) ∷ (at 1 18, Int) ∷ (at 1 21, Int) ∷ []) (equalities arrow_of_two) (fixed (at 1 16) Int (at 1 16) ∷ same (at 1 18) (at 1 18) (at 1 16) ∷ same (at 1 18) (at 1 18) (at 1 21) ∷ []) [] (fixed (at 1 21) Float (at 1 21)) equalities_of_arrow_of_two refl refl

equalities_of_arrow_result : equalities arrow_result ≡ (fixed (at 1 17) Int (at 1 17) ∷ same (at 1 19) (at 1 19) (at 1 17) ∷ same (at 1 19) (at 1 19) (at 1 22) ∷ fixed (at 1 22) Int (at 1 22) ∷ []) ++ (fixed (at 1 25) Float (at 1 19)) ∷ (fixed (at 1 25) Float (at 1 28) ∷ fixed (at 1 25) Float (at 1 25) ∷ fixed (at 1 28) Float (at 1 28) ∷ [])
unfolding variables
equalities_of_arrow_result = simp (equality_steps, rolled_places, outline_steps)

is_arrow_result_breaks : Clashes (at 1 25) arrow_result
is_arrow_result_breaks = clash_at 1 ((at 1 17, Int) ∷ (at 1 19, Int) ∷ (at 1 22, Int) ∷ []) (equalities arrow_result) (fixed (at 1 17) Int (at 1 17) ∷ same (at 1 19) (at 1 19) (at 1 17) ∷ same (at 1 19) (at 1 19) (at 1 22) ∷ fixed (at 1 22) Int (at 1 22) ∷ []) (fixed (at 1 25) Float (at 1 28) ∷ fixed (at 1 25) Float (at 1 25) ∷ fixed (at 1 28) Float (at 1 28) ∷ []) (fixed (at 1 25) Float (at 1 19)) equalities_of_arrow_result refl refl

equalities_of_fby_of_two : equalities fby_of_two ≡ (fixed (at 1 16) Int (at 1 16) ∷ same (at 1 18) (at 1 18) (at 1 16) ∷ same (at 1 18) (at 1 18) (at 1 22) ∷ []) ++ (fixed (at 1 22) Bool (at 1 22)) ∷ []
unfolding variables
equalities_of_fby_of_two = simp (equality_steps, rolled_places, outline_steps)

is_fby_of_two_breaks : Clashes (at 1 22) fby_of_two
is_fby_of_two_breaks = clash_at 1 ((at 1 16, Int) ∷ (at 1 18, Int) ∷ (at 1 22, Int) ∷ []) (equalities fby_of_two) (fixed (at 1 16) Int (at 1 16) ∷ same (at 1 18) (at 1 18) (at 1 16) ∷ same (at 1 18) (at 1 18) (at 1 22) ∷ []) [] (fixed (at 1 22) Bool (at 1 22)) equalities_of_fby_of_two refl refl

equalities_of_pre_typed : equalities pre_typed ≡ fixed (at 1 17) Int (at 1 17) ∷ same (at 1 19) (at 1 19) (at 1 17) ∷ same (at 1 19) (at 1 19) (at 1 22) ∷ same (at 1 22) (at 1 22) (at 1 26) ∷ same (at 1 26) (at 1 26) (at 1 12) ∷ []
unfolding variables
equalities_of_pre_typed = simp (equality_steps, rolled_places, outline_steps)

scopes_of_pre_typed : scopes pre_typed ≡ (entry Param (name 1 1 12) ∷ []) ∷ []
unfolding variables
scopes_of_pre_typed = refl

is_pre_typed_keeps : KeepsTypes ((Int ∷ []) ∷ []) pre_typed
is_pre_typed_keeps = typed_by pre_typed equalities_of_pre_typed scopes_of_pre_typed (is_typing 1 _ _ ((Int ∷ []) ∷ []) refl refl)

equalities_of_last_typed : equalities last_typed ≡ same (at 1 17) (at 1 17) (at 1 42) ∷ fixed (at 1 24) Float (at 1 17) ∷ fixed (at 1 24) Float (at 1 27) ∷ fixed (at 1 24) Float (at 1 24) ∷ fixed (at 1 27) Float (at 1 27) ∷ same (at 1 37) (at 1 46) (at 1 42) ∷ same (at 1 46) (at 1 46) (at 1 12) ∷ []
unfolding variables
equalities_of_last_typed = simp (equality_steps, rolled_places, outline_steps)

scopes_of_last_typed : scopes last_typed ≡ (entry Param (name 1 1 12) ∷ entry Top (name 2 1 42) ∷ []) ∷ []
unfolding variables
scopes_of_last_typed = simp outline_steps

is_last_typed_keeps : KeepsTypes ((Float ∷ Float ∷ []) ∷ []) last_typed
is_last_typed_keeps = typed_by last_typed equalities_of_last_typed scopes_of_last_typed (is_typing 2 _ _ ((Float ∷ Float ∷ []) ∷ []) refl refl)

equalities_of_pre_of_float : equalities pre_of_float ≡ (fixed (at 1 12) Float (at 1 12) ∷ fixed (at 1 26) Float (at 1 26) ∷ same (at 1 30) (at 1 30) (at 1 26) ∷ same (at 1 30) (at 1 30) (at 1 33) ∷ same (at 1 33) (at 1 33) (at 1 37) ∷ same (at 1 37) (at 1 37) (at 1 12) ∷ []) ++ (fixed (at 1 40) Int (at 1 30)) ∷ (fixed (at 1 40) Int (at 1 42) ∷ fixed (at 1 40) Int (at 1 40) ∷ fixed (at 1 42) Int (at 1 42) ∷ [])
unfolding variables
equalities_of_pre_of_float = simp (equality_steps, rolled_places, outline_steps)

is_pre_of_float_breaks : Clashes (at 1 40) pre_of_float
is_pre_of_float_breaks = clash_at 1 ((at 1 12, Float) ∷ (at 1 26, Float) ∷ (at 1 30, Float) ∷ (at 1 33, Float) ∷ (at 1 37, Float) ∷ []) (equalities pre_of_float) (fixed (at 1 12) Float (at 1 12) ∷ fixed (at 1 26) Float (at 1 26) ∷ same (at 1 30) (at 1 30) (at 1 26) ∷ same (at 1 30) (at 1 30) (at 1 33) ∷ same (at 1 33) (at 1 33) (at 1 37) ∷ same (at 1 37) (at 1 37) (at 1 12) ∷ []) (fixed (at 1 40) Int (at 1 42) ∷ fixed (at 1 40) Int (at 1 40) ∷ fixed (at 1 42) Int (at 1 42) ∷ []) (fixed (at 1 40) Int (at 1 30)) equalities_of_pre_of_float refl refl

equalities_of_last_of_float : equalities last_of_float ≡ (same (at 1 16) (at 1 16) (at 1 38) ∷ fixed (at 1 23) Int (at 1 16) ∷ fixed (at 1 23) Int (at 1 25) ∷ fixed (at 1 23) Int (at 1 23) ∷ fixed (at 1 25) Int (at 1 25) ∷ same (at 1 33) (at 1 42) (at 1 38) ∷ []) ++ (fixed (at 1 42) Float (at 1 42)) ∷ []
unfolding variables
equalities_of_last_of_float = simp (equality_steps, rolled_places, outline_steps)

is_last_of_float_breaks : Clashes (at 1 42) last_of_float
is_last_of_float_breaks = clash_at 2 ((at 1 16, Int) ∷ (at 1 38, Int) ∷ (at 1 25, Int) ∷ (at 1 23, Int) ∷ (at 1 42, Int) ∷ []) (equalities last_of_float) (same (at 1 16) (at 1 16) (at 1 38) ∷ fixed (at 1 23) Int (at 1 16) ∷ fixed (at 1 23) Int (at 1 25) ∷ fixed (at 1 23) Int (at 1 23) ∷ fixed (at 1 25) Int (at 1 25) ∷ same (at 1 33) (at 1 42) (at 1 38) ∷ []) [] (fixed (at 1 42) Float (at 1 42)) equalities_of_last_of_float refl refl

equalities_of_built_ins_typed : equalities built_ins_typed ≡ same (at 1 15) (at 1 15) (at 1 23) ∷ same (at 1 23) (at 1 27) (at 1 23) ∷ fixed (at 1 27) Int (at 1 40) ∷ fixed (at 1 27) Float (at 1 27) ∷ same (at 1 40) (at 1 40) (at 1 7) ∷ same (at 1 47) (at 1 51) (at 1 47) ∷ fixed (at 1 51) Float (at 1 60) ∷ fixed (at 1 51) Int (at 1 51) ∷ same (at 1 60) (at 1 60) (at 1 10) ∷ []
unfolding variables
equalities_of_built_ins_typed = simp (equality_steps, rolled_places, outline_steps)

scopes_of_built_ins_typed : scopes built_ins_typed ≡ (entry Param (name 1 1 7) ∷ entry Param (name 2 1 10) ∷ entry Top (name 3 1 23) ∷ entry Top (name 5 1 47) ∷ []) ∷ []
unfolding variables
scopes_of_built_ins_typed = simp outline_steps

is_built_ins_typed_keeps : KeepsTypes ((Int ∷ Float ∷ Float ∷ Int ∷ []) ∷ []) built_ins_typed
is_built_ins_typed_keeps = typed_by built_ins_typed equalities_of_built_ins_typed scopes_of_built_ins_typed (is_typing 3 _ _ ((Int ∷ Float ∷ Float ∷ Int ∷ []) ∷ []) refl refl)

equalities_of_float_to_float_of_int : equalities float_to_float_of_int ≡ (fixed (at 1 11) Int (at 1 24) ∷ fixed (at 1 11) Float (at 1 11) ∷ []) ++ (fixed (at 1 24) Float (at 1 24)) ∷ []
unfolding variables
equalities_of_float_to_float_of_int = simp (equality_steps, rolled_places, outline_steps)

is_float_to_float_of_int_breaks : Clashes (at 1 24) float_to_float_of_int
is_float_to_float_of_int_breaks = clash_at 1 ((at 1 24, Int) ∷ (at 1 11, Float) ∷ []) (equalities float_to_float_of_int) (fixed (at 1 11) Int (at 1 24) ∷ fixed (at 1 11) Float (at 1 11) ∷ []) [] (fixed (at 1 24) Float (at 1 24)) equalities_of_float_to_float_of_int refl refl

equalities_of_int_to_truncate : equalities int_to_truncate ≡ (fixed (at 1 11) Float (at 1 20) ∷ fixed (at 1 11) Int (at 1 11) ∷ []) ++ (fixed (at 1 20) Int (at 1 20)) ∷ []
unfolding variables
equalities_of_int_to_truncate = simp (equality_steps, rolled_places, outline_steps)

is_int_to_truncate_breaks : Clashes (at 1 20) int_to_truncate
is_int_to_truncate_breaks = clash_at 1 ((at 1 20, Float) ∷ (at 1 11, Int) ∷ []) (equalities int_to_truncate) (fixed (at 1 11) Float (at 1 20) ∷ fixed (at 1 11) Int (at 1 11) ∷ []) [] (fixed (at 1 20) Int (at 1 20)) equalities_of_int_to_truncate refl refl

equalities_of_float_of_truncate : equalities float_of_truncate ≡ (fixed (at 1 11) Float (at 1 20) ∷ fixed (at 1 11) Int (at 1 11) ∷ fixed (at 1 20) Float (at 1 20) ∷ []) ++ (fixed (at 1 25) Float (at 1 11)) ∷ (fixed (at 1 25) Float (at 1 28) ∷ fixed (at 1 25) Float (at 1 25) ∷ fixed (at 1 28) Float (at 1 28) ∷ [])
unfolding variables
equalities_of_float_of_truncate = simp (equality_steps, rolled_places, outline_steps)

is_float_of_truncate_breaks : Clashes (at 1 25) float_of_truncate
is_float_of_truncate_breaks = clash_at 1 ((at 1 20, Float) ∷ (at 1 11, Int) ∷ []) (equalities float_of_truncate) (fixed (at 1 11) Float (at 1 20) ∷ fixed (at 1 11) Int (at 1 11) ∷ fixed (at 1 20) Float (at 1 20) ∷ []) (fixed (at 1 25) Float (at 1 28) ∷ fixed (at 1 25) Float (at 1 25) ∷ fixed (at 1 28) Float (at 1 28) ∷ []) (fixed (at 1 25) Float (at 1 11)) equalities_of_float_of_truncate refl refl

equalities_of_calls_typed : equalities calls_typed ≡ same (at 1 15) (at 1 15) (at 1 7) ∷ same (at 2 11) (at 2 13) (at 1 7) ∷ same (at 2 11) (at 2 16) (at 1 10) ∷ same (at 2 11) (at 2 11) (at 1 15) ∷ fixed (at 2 13) Int (at 2 13) ∷ fixed (at 2 16) Float (at 2 16) ∷ []
unfolding variables
equalities_of_calls_typed = simp (equality_steps, rolled_places, outline_steps)

scopes_of_calls_typed : scopes calls_typed ≡ (entry Param (name 1 1 7) ∷ entry Param (name 2 1 10) ∷ []) ∷ [] ∷ []
unfolding variables
scopes_of_calls_typed = refl

is_calls_typed_keeps : KeepsTypes ((Int ∷ Float ∷ []) ∷ [] ∷ []) calls_typed
is_calls_typed_keeps = typed_by calls_typed equalities_of_calls_typed scopes_of_calls_typed (is_typing 3 _ _ ((Int ∷ Float ∷ []) ∷ [] ∷ []) refl refl)

equalities_of_second_argument : equalities second_argument ≡ (same (at 1 15) (at 1 15) (at 1 7) ∷ fixed (at 1 17) Int (at 1 15) ∷ fixed (at 1 17) Int (at 1 19) ∷ fixed (at 1 17) Int (at 1 17) ∷ fixed (at 1 19) Float (at 1 28) ∷ fixed (at 1 19) Int (at 1 19) ∷ same (at 1 28) (at 1 28) (at 1 10) ∷ same (at 2 11) (at 2 13) (at 1 7) ∷ same (at 2 11) (at 2 16) (at 1 10) ∷ same (at 2 11) (at 2 11) (at 1 17) ∷ fixed (at 2 13) Int (at 2 13) ∷ []) ++ (fixed (at 2 16) Int (at 2 16)) ∷ []
unfolding variables
equalities_of_second_argument = simp (equality_steps, rolled_places, outline_steps)

is_second_argument_breaks : Clashes (at 2 16) second_argument
is_second_argument_breaks = clash_at 1 ((at 1 15, Int) ∷ (at 1 7, Int) ∷ (at 1 19, Int) ∷ (at 1 17, Int) ∷ (at 1 28, Float) ∷ (at 1 10, Float) ∷ (at 2 13, Int) ∷ (at 2 16, Float) ∷ (at 2 11, Int) ∷ []) (equalities second_argument) (same (at 1 15) (at 1 15) (at 1 7) ∷ fixed (at 1 17) Int (at 1 15) ∷ fixed (at 1 17) Int (at 1 19) ∷ fixed (at 1 17) Int (at 1 17) ∷ fixed (at 1 19) Float (at 1 28) ∷ fixed (at 1 19) Int (at 1 19) ∷ same (at 1 28) (at 1 28) (at 1 10) ∷ same (at 2 11) (at 2 13) (at 1 7) ∷ same (at 2 11) (at 2 16) (at 1 10) ∷ same (at 2 11) (at 2 11) (at 1 17) ∷ fixed (at 2 13) Int (at 2 13) ∷ []) [] (fixed (at 2 16) Int (at 2 16)) equalities_of_second_argument refl refl

equalities_of_call_result : equalities call_result ≡ (same (at 1 12) (at 1 12) (at 1 7) ∷ fixed (at 1 14) Int (at 1 12) ∷ fixed (at 1 14) Int (at 1 16) ∷ fixed (at 1 14) Int (at 1 14) ∷ fixed (at 1 16) Int (at 1 16) ∷ same (at 2 11) (at 2 13) (at 1 7) ∷ same (at 2 11) (at 2 11) (at 1 14) ∷ fixed (at 2 13) Int (at 2 13) ∷ []) ++ (fixed (at 2 16) Float (at 2 11)) ∷ (fixed (at 2 16) Float (at 2 19) ∷ fixed (at 2 16) Float (at 2 16) ∷ fixed (at 2 19) Float (at 2 19) ∷ [])
unfolding variables
equalities_of_call_result = simp (equality_steps, rolled_places, outline_steps)

is_call_result_breaks : Clashes (at 2 16) call_result
is_call_result_breaks = clash_at 1 ((at 1 12, Int) ∷ (at 1 7, Int) ∷ (at 1 16, Int) ∷ (at 1 14, Int) ∷ (at 2 13, Int) ∷ (at 2 11, Int) ∷ []) (equalities call_result) (same (at 1 12) (at 1 12) (at 1 7) ∷ fixed (at 1 14) Int (at 1 12) ∷ fixed (at 1 14) Int (at 1 16) ∷ fixed (at 1 14) Int (at 1 14) ∷ fixed (at 1 16) Int (at 1 16) ∷ same (at 2 11) (at 2 13) (at 1 7) ∷ same (at 2 11) (at 2 11) (at 1 14) ∷ fixed (at 2 13) Int (at 2 13) ∷ []) (fixed (at 2 16) Float (at 2 19) ∷ fixed (at 2 16) Float (at 2 16) ∷ fixed (at 2 19) Float (at 2 19) ∷ []) (fixed (at 2 16) Float (at 2 11)) equalities_of_call_result refl refl

equalities_of_two_calls : equalities two_calls ≡ (same (at 1 12) (at 1 12) (at 1 7) ∷ same (at 2 11) (at 2 11) (at 2 19) ∷ same (at 2 19) (at 2 23) (at 2 19) ∷ same (at 2 23) (at 2 25) (at 1 7) ∷ same (at 2 23) (at 2 23) (at 1 12) ∷ fixed (at 2 25) Int (at 2 25) ∷ same (at 2 32) (at 2 36) (at 2 32) ∷ same (at 2 36) (at 2 38) (at 1 7) ∷ same (at 2 36) (at 2 36) (at 1 12) ∷ []) ++ (fixed (at 2 38) Float (at 2 38)) ∷ []
unfolding variables
equalities_of_two_calls = simp (equality_steps, rolled_places, outline_steps)

is_two_calls_breaks : Clashes (at 2 38) two_calls
is_two_calls_breaks = clash_at 2 ((at 1 12, Int) ∷ (at 1 7, Int) ∷ (at 2 11, Int) ∷ (at 2 19, Int) ∷ (at 2 23, Int) ∷ (at 2 25, Int) ∷ (at 2 36, Int) ∷ (at 2 32, Int) ∷ (at 2 38, Int) ∷ []) (equalities two_calls) (same (at 1 12) (at 1 12) (at 1 7) ∷ same (at 2 11) (at 2 11) (at 2 19) ∷ same (at 2 19) (at 2 23) (at 2 19) ∷ same (at 2 23) (at 2 25) (at 1 7) ∷ same (at 2 23) (at 2 23) (at 1 12) ∷ fixed (at 2 25) Int (at 2 25) ∷ same (at 2 32) (at 2 36) (at 2 32) ∷ same (at 2 36) (at 2 38) (at 1 7) ∷ same (at 2 36) (at 2 36) (at 1 12) ∷ []) [] (fixed (at 2 38) Float (at 2 38)) equalities_of_two_calls refl refl

pub expression_types_worked : ExpressionTypesWorked
expression_types_worked = record {
  int_operators_keeps = is_int_operators_keeps;
  float_to_plus_breaks = is_float_to_plus_breaks;
  int_result_breaks = is_int_result_breaks;
  float_operators_keeps = is_float_operators_keeps;
  int_to_plus_dot_breaks = is_int_to_plus_dot_breaks;
  bool_operators_keeps = is_bool_operators_keeps;
  int_to_and_breaks = is_int_to_and_breaks;
  int_to_not_breaks = is_int_to_not_breaks;
  minus_signs_keeps = is_minus_signs_keeps;
  float_to_minus_breaks = is_float_to_minus_breaks;
  int_to_minus_dot_breaks = is_int_to_minus_dot_breaks;
  comparisons_keeps = is_comparisons_keeps;
  more_comparisons_keeps = is_more_comparisons_keeps;
  int_and_float_breaks = is_int_and_float_breaks;
  int_of_comparison_breaks = is_int_of_comparison_breaks;
  if_typed_keeps = is_if_typed_keeps;
  if_of_int_breaks = is_if_of_int_breaks;
  if_of_two_breaks = is_if_of_two_breaks;
  if_result_breaks = is_if_result_breaks;
  flows_typed_keeps = is_flows_typed_keeps;
  arrow_of_two_breaks = is_arrow_of_two_breaks;
  arrow_result_breaks = is_arrow_result_breaks;
  fby_of_two_breaks = is_fby_of_two_breaks;
  pre_typed_keeps = is_pre_typed_keeps;
  last_typed_keeps = is_last_typed_keeps;
  pre_of_float_breaks = is_pre_of_float_breaks;
  last_of_float_breaks = is_last_of_float_breaks;
  built_ins_typed_keeps = is_built_ins_typed_keeps;
  float_to_float_of_int_breaks = is_float_to_float_of_int_breaks;
  int_to_truncate_breaks = is_int_to_truncate_breaks;
  float_of_truncate_breaks = is_float_of_truncate_breaks;
  calls_typed_keeps = is_calls_typed_keeps;
  second_argument_breaks = is_second_argument_breaks;
  call_result_breaks = is_call_result_breaks;
  two_calls_breaks = is_two_calls_breaks;
}
