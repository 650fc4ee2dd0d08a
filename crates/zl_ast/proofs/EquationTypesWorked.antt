-- The worked programs of EquationTypesWorked, by computation of their equalities.
use Rattle.std.proofs.Common.{◌≡◌, [], ◌∷◌, ◌++◌, refl, arith}
use Rattle.zl_value.specs.declared.value.Ty.TheVariants.{Bool, Int, Float}
use Rattle.zl_ast.specs.declared.scope.VarClass.TheVariants.{Param, Top}
use Rattle.zl_ast.specs.Scopes.{variables, scopes}
use Rattle.zl_ast.specs.NamesDefined.{entry, eqns_outline}
use Rattle.zl_ast.specs.TypeEqualities.{before_all, with_variables, decl_equalities, fixed, same, equalities}
use Rattle.zl_ast.specs.WorkedTrees.{at, name}
use Rattle.zl_ast.specs.Verdicts.{KeepsTypes, Clashes, StaysOpen}
use Rattle.zl_ast.specs.EquationTypesWorked.{constant_typed, constant_of_two, results_typed, results_exchanged, sides_typed, sides_of_two, derivative_typed, int_slope, int_start, int_reset, int_derivative, init_typed, init_of_two, present_typed, until_typed, reset_typed, present_of_int, until_of_int, reset_of_int, up_typed, up_of_int, reset_up_of_int, annotations, annotation_broken, first_clash, open_parameter, open_variable, open_before_kind, clash_before_kind, kind_behind_types, EquationTypesWorked}
use Rattle.zl_ast.proofs.NamesSteps.{outline_steps, rolled_places}
use Rattle.zl_ast.proofs.EqualitySteps.{equality_steps}
use Rattle.zl_ast.proofs.TypingByTable.{is_typing, typed_by, clash_at, open_at, open_by}
use Rattle.zl_value.specs.declared.rule.Rule.TheVariants.{Kind}
use Rattle.zl_ast.specs.Kinds.{misplaced, allows_present, none_declared, declared_with}
use Rattle.zl_ast.specs.TypesRules.{IsTypesRefusedAt}
use Rattle.zl_ast.proofs.ContextSteps.{context_steps}
use Rattle.zl_ast.proofs.FirstPlaces.{in_line, misplaced_at}
use Rattle.zl_ast.proofs.InTurn.{nth, variables_by, variables_are, equalities_by}

equalities_of_constant_typed : equalities constant_typed ≡ fixed (at 1 9) Int (at 1 9) ∷ same (at 2 12) (at 2 12) (at 2 7) ∷ fixed (at 2 14) Int (at 2 12) ∷ fixed (at 2 14) Int (at 2 16) ∷ fixed (at 2 14) Int (at 2 14) ∷ same (at 2 16) (at 2 16) (at 1 9) ∷ []
unfolding variables
equalities_of_constant_typed = simp (equality_steps, rolled_places, outline_steps)

scopes_of_constant_typed : scopes constant_typed ≡ [] ∷ (entry Param (name 2 2 7) ∷ []) ∷ []
unfolding variables
scopes_of_constant_typed = refl

is_constant_typed_keeps : KeepsTypes ([] ∷ (Int ∷ []) ∷ []) constant_typed
is_constant_typed_keeps = typed_by constant_typed equalities_of_constant_typed scopes_of_constant_typed (is_typing 2 _ _ ([] ∷ (Int ∷ []) ∷ []) refl refl)

equalities_of_constant_of_two : equalities constant_of_two ≡ (fixed (at 1 9) Int (at 1 9) ∷ same (at 2 11) (at 2 11) (at 1 9) ∷ []) ++ (fixed (at 2 13) Float (at 2 11)) ∷ (fixed (at 2 13) Float (at 2 16) ∷ fixed (at 2 13) Float (at 2 13) ∷ fixed (at 2 16) Float (at 2 16) ∷ [])
unfolding variables
equalities_of_constant_of_two = simp (equality_steps, rolled_places, outline_steps)

is_constant_of_two_breaks : Clashes (at 2 13) constant_of_two
is_constant_of_two_breaks = clash_at 1 ((at 1 9, Int) ∷ (at 2 11, Int) ∷ []) (equalities constant_of_two) (fixed (at 1 9) Int (at 1 9) ∷ same (at 2 11) (at 2 11) (at 1 9) ∷ []) (fixed (at 2 13) Float (at 2 16) ∷ fixed (at 2 13) Float (at 2 13) ∷ fixed (at 2 16) Float (at 2 16) ∷ []) (fixed (at 2 13) Float (at 2 11)) equalities_of_constant_of_two refl refl

equalities_of_results_typed : equalities results_typed ≡ fixed (at 1 7) Int (at 1 7) ∷ fixed (at 1 16) Float (at 1 16) ∷ same (at 1 30) (at 1 30) (at 1 7) ∷ same (at 1 33) (at 1 33) (at 1 16) ∷ same (at 2 15) (at 2 15) (at 2 24) ∷ same (at 2 32) (at 1 30) (at 2 24) ∷ same (at 2 32) (at 1 33) (at 2 27) ∷ same (at 2 32) (at 2 34) (at 1 7) ∷ same (at 2 32) (at 2 37) (at 1 16) ∷ same (at 2 32) (at 2 32) (at 1 30) ∷ same (at 2 34) (at 2 34) (at 2 7) ∷ same (at 2 37) (at 2 37) (at 2 10) ∷ []
unfolding variables
equalities_of_results_typed = simp (equality_steps, rolled_places, outline_steps)

scopes_of_results_typed : scopes results_typed ≡ (entry Param (name 1 1 7) ∷ entry Param (name 2 1 16) ∷ []) ∷ (entry Param (name 4 2 7) ∷ entry Param (name 5 2 10) ∷ entry Top (name 6 2 24) ∷ entry Top (name 7 2 27) ∷ []) ∷ []
unfolding variables
scopes_of_results_typed = simp outline_steps

is_results_typed_keeps : KeepsTypes ((Int ∷ Float ∷ []) ∷ (Int ∷ Float ∷ Int ∷ Float ∷ []) ∷ []) results_typed
is_results_typed_keeps = typed_by results_typed equalities_of_results_typed scopes_of_results_typed (is_typing 2 _ _ ((Int ∷ Float ∷ []) ∷ (Int ∷ Float ∷ Int ∷ Float ∷ []) ∷ []) refl refl)

equalities_of_results_exchanged : equalities results_exchanged ≡ (same (at 1 12) (at 1 12) (at 1 24) ∷ same (at 1 15) (at 1 15) (at 1 34) ∷ same (at 1 24) (at 1 28) (at 1 24) ∷ fixed (at 1 28) Int (at 1 28) ∷ same (at 1 34) (at 1 38) (at 1 34) ∷ fixed (at 1 38) Float (at 1 38) ∷ same (at 2 11) (at 2 11) (at 2 27) ∷ fixed (at 2 13) Float (at 2 11) ∷ fixed (at 2 13) Float (at 2 16) ∷ fixed (at 2 13) Float (at 2 13) ∷ fixed (at 2 16) Float (at 2 16) ∷ []) ++ (same (at 2 35) (at 1 12) (at 2 27)) ∷ (same (at 2 35) (at 1 15) (at 2 30) ∷ same (at 2 35) (at 2 35) (at 1 12) ∷ [])
unfolding variables
equalities_of_results_exchanged = simp (equality_steps, rolled_places, outline_steps)

is_results_exchanged_breaks : Clashes (at 2 35) results_exchanged
is_results_exchanged_breaks = clash_at 2 ((at 1 12, Int) ∷ (at 1 24, Int) ∷ (at 1 15, Float) ∷ (at 1 34, Float) ∷ (at 1 28, Int) ∷ (at 1 38, Float) ∷ (at 2 11, Float) ∷ (at 2 27, Float) ∷ (at 2 16, Float) ∷ (at 2 13, Float) ∷ []) (equalities results_exchanged) (same (at 1 12) (at 1 12) (at 1 24) ∷ same (at 1 15) (at 1 15) (at 1 34) ∷ same (at 1 24) (at 1 28) (at 1 24) ∷ fixed (at 1 28) Int (at 1 28) ∷ same (at 1 34) (at 1 38) (at 1 34) ∷ fixed (at 1 38) Float (at 1 38) ∷ same (at 2 11) (at 2 11) (at 2 27) ∷ fixed (at 2 13) Float (at 2 11) ∷ fixed (at 2 13) Float (at 2 16) ∷ fixed (at 2 13) Float (at 2 13) ∷ fixed (at 2 16) Float (at 2 16) ∷ []) (same (at 2 35) (at 1 15) (at 2 30) ∷ same (at 2 35) (at 2 35) (at 1 12) ∷ []) (same (at 2 35) (at 1 12) (at 2 27)) equalities_of_results_exchanged refl refl

equalities_of_sides_typed : equalities sides_typed ≡ same (at 1 12) (at 1 12) (at 1 24) ∷ fixed (at 1 14) Int (at 1 12) ∷ fixed (at 1 14) Int (at 1 16) ∷ fixed (at 1 14) Int (at 1 14) ∷ fixed (at 1 16) Int (at 1 16) ∷ same (at 1 24) (at 1 28) (at 1 24) ∷ same (at 1 28) (at 1 28) (at 1 7) ∷ []
unfolding variables
equalities_of_sides_typed = simp (equality_steps, rolled_places, outline_steps)

scopes_of_sides_typed : scopes sides_typed ≡ (entry Param (name 1 1 7) ∷ entry Top (name 2 1 24) ∷ []) ∷ []
unfolding variables
scopes_of_sides_typed = simp outline_steps

is_sides_typed_keeps : KeepsTypes ((Int ∷ Int ∷ []) ∷ []) sides_typed
is_sides_typed_keeps = typed_by sides_typed equalities_of_sides_typed scopes_of_sides_typed (is_typing 2 _ _ ((Int ∷ Int ∷ []) ∷ []) refl refl)

equalities_of_sides_of_two : equalities sides_of_two ≡ (same (at 1 11) (at 1 11) (at 1 26) ∷ fixed (at 1 13) Float (at 1 11) ∷ fixed (at 1 13) Float (at 1 16) ∷ fixed (at 1 13) Float (at 1 13) ∷ fixed (at 1 16) Float (at 1 16) ∷ same (at 1 26) (at 1 30) (at 1 26) ∷ []) ++ (fixed (at 1 30) Int (at 1 30)) ∷ []
unfolding variables
equalities_of_sides_of_two = simp (equality_steps, rolled_places, outline_steps)

is_sides_of_two_breaks : Clashes (at 1 30) sides_of_two
is_sides_of_two_breaks = clash_at 2 ((at 1 11, Float) ∷ (at 1 26, Float) ∷ (at 1 16, Float) ∷ (at 1 13, Float) ∷ (at 1 30, Float) ∷ []) (equalities sides_of_two) (same (at 1 11) (at 1 11) (at 1 26) ∷ fixed (at 1 13) Float (at 1 11) ∷ fixed (at 1 13) Float (at 1 16) ∷ fixed (at 1 13) Float (at 1 13) ∷ fixed (at 1 16) Float (at 1 16) ∷ same (at 1 26) (at 1 30) (at 1 26) ∷ []) [] (fixed (at 1 30) Int (at 1 30)) equalities_of_sides_of_two refl refl

equalities_of_derivative_typed : equalities derivative_typed ≡ same (at 1 25) (at 1 25) (at 1 37) ∷ fixed (at 1 33) Float (at 1 37) ∷ fixed (at 1 33) Float (at 1 41) ∷ fixed (at 1 33) Float (at 1 48) ∷ fixed (at 1 33) Float (at 1 67) ∷ same (at 1 41) (at 1 41) (at 1 14) ∷ same (at 1 48) (at 1 48) (at 1 17) ∷ fixed (at 1 56) Float (at 1 59) ∷ fixed (at 1 59) Float (at 1 59) ∷ same (at 1 67) (at 1 67) (at 1 20) ∷ []
unfolding variables
equalities_of_derivative_typed = simp (equality_steps, rolled_places, outline_steps)

scopes_of_derivative_typed : scopes derivative_typed ≡ (entry Param (name 1 1 14) ∷ entry Param (name 2 1 17) ∷ entry Param (name 3 1 20) ∷ entry Top (name 4 1 37) ∷ []) ∷ []
unfolding variables
scopes_of_derivative_typed = simp outline_steps

is_derivative_typed_keeps : KeepsTypes ((Float ∷ Float ∷ Float ∷ Float ∷ []) ∷ []) derivative_typed
is_derivative_typed_keeps = typed_by derivative_typed equalities_of_derivative_typed scopes_of_derivative_typed (is_typing 2 _ _ ((Float ∷ Float ∷ Float ∷ Float ∷ []) ∷ []) refl refl)

equalities_of_int_slope : equalities int_slope ≡ (same (at 1 18) (at 1 18) (at 1 30) ∷ fixed (at 1 26) Float (at 1 30) ∷ fixed (at 1 26) Float (at 1 34) ∷ fixed (at 1 26) Float (at 1 41) ∷ []) ++ (fixed (at 1 34) Int (at 1 34)) ∷ (fixed (at 1 41) Float (at 1 41) ∷ [])
unfolding variables
equalities_of_int_slope = simp (equality_steps, rolled_places, outline_steps)

is_int_slope_breaks : Clashes (at 1 34) int_slope
is_int_slope_breaks = clash_at 1 ((at 1 18, Float) ∷ (at 1 30, Float) ∷ (at 1 34, Float) ∷ (at 1 41, Float) ∷ []) (equalities int_slope) (same (at 1 18) (at 1 18) (at 1 30) ∷ fixed (at 1 26) Float (at 1 30) ∷ fixed (at 1 26) Float (at 1 34) ∷ fixed (at 1 26) Float (at 1 41) ∷ []) (fixed (at 1 41) Float (at 1 41) ∷ []) (fixed (at 1 34) Int (at 1 34)) equalities_of_int_slope refl refl

equalities_of_int_start : equalities int_start ≡ (same (at 1 18) (at 1 18) (at 1 30) ∷ fixed (at 1 26) Float (at 1 30) ∷ fixed (at 1 26) Float (at 1 34) ∷ fixed (at 1 26) Float (at 1 43) ∷ fixed (at 1 34) Float (at 1 34) ∷ []) ++ (fixed (at 1 43) Int (at 1 43)) ∷ []
unfolding variables
equalities_of_int_start = simp (equality_steps, rolled_places, outline_steps)

is_int_start_breaks : Clashes (at 1 43) int_start
is_int_start_breaks = clash_at 1 ((at 1 18, Float) ∷ (at 1 30, Float) ∷ (at 1 34, Float) ∷ (at 1 43, Float) ∷ []) (equalities int_start) (same (at 1 18) (at 1 18) (at 1 30) ∷ fixed (at 1 26) Float (at 1 30) ∷ fixed (at 1 26) Float (at 1 34) ∷ fixed (at 1 26) Float (at 1 43) ∷ fixed (at 1 34) Float (at 1 34) ∷ []) [] (fixed (at 1 43) Int (at 1 43)) equalities_of_int_start refl refl

equalities_of_int_reset : equalities int_reset ≡ (same (at 1 18) (at 1 18) (at 1 30) ∷ fixed (at 1 26) Float (at 1 30) ∷ fixed (at 1 26) Float (at 1 34) ∷ fixed (at 1 26) Float (at 1 43) ∷ fixed (at 1 26) Float (at 1 64) ∷ fixed (at 1 34) Float (at 1 34) ∷ fixed (at 1 43) Float (at 1 43) ∷ fixed (at 1 53) Float (at 1 56) ∷ fixed (at 1 56) Float (at 1 56) ∷ []) ++ (fixed (at 1 64) Int (at 1 64)) ∷ []
unfolding variables
equalities_of_int_reset = simp (equality_steps, rolled_places, outline_steps)

is_int_reset_breaks : Clashes (at 1 64) int_reset
is_int_reset_breaks = clash_at 1 ((at 1 18, Float) ∷ (at 1 30, Float) ∷ (at 1 34, Float) ∷ (at 1 43, Float) ∷ (at 1 64, Float) ∷ (at 1 56, Float) ∷ []) (equalities int_reset) (same (at 1 18) (at 1 18) (at 1 30) ∷ fixed (at 1 26) Float (at 1 30) ∷ fixed (at 1 26) Float (at 1 34) ∷ fixed (at 1 26) Float (at 1 43) ∷ fixed (at 1 26) Float (at 1 64) ∷ fixed (at 1 34) Float (at 1 34) ∷ fixed (at 1 43) Float (at 1 43) ∷ fixed (at 1 53) Float (at 1 56) ∷ fixed (at 1 56) Float (at 1 56) ∷ []) [] (fixed (at 1 64) Int (at 1 64)) equalities_of_int_reset refl refl

equalities_of_int_derivative : equalities int_derivative ≡ (same (at 1 18) (at 1 18) (at 1 34) ∷ fixed (at 1 20) Int (at 1 18) ∷ fixed (at 1 20) Int (at 1 22) ∷ fixed (at 1 20) Int (at 1 20) ∷ fixed (at 1 22) Int (at 1 22) ∷ []) ++ (fixed (at 1 30) Float (at 1 34)) ∷ (fixed (at 1 30) Float (at 1 38) ∷ fixed (at 1 30) Float (at 1 47) ∷ fixed (at 1 38) Float (at 1 38) ∷ fixed (at 1 47) Float (at 1 47) ∷ [])
unfolding variables
equalities_of_int_derivative = simp (equality_steps, rolled_places, outline_steps)

is_int_derivative_breaks : Clashes (at 1 30) int_derivative
is_int_derivative_breaks = clash_at 1 ((at 1 18, Int) ∷ (at 1 34, Int) ∷ (at 1 22, Int) ∷ (at 1 20, Int) ∷ []) (equalities int_derivative) (same (at 1 18) (at 1 18) (at 1 34) ∷ fixed (at 1 20) Int (at 1 18) ∷ fixed (at 1 20) Int (at 1 22) ∷ fixed (at 1 20) Int (at 1 20) ∷ fixed (at 1 22) Int (at 1 22) ∷ []) (fixed (at 1 30) Float (at 1 38) ∷ fixed (at 1 30) Float (at 1 47) ∷ fixed (at 1 38) Float (at 1 38) ∷ fixed (at 1 47) Float (at 1 47) ∷ []) (fixed (at 1 30) Float (at 1 34)) equalities_of_int_derivative refl refl

equalities_of_init_typed : equalities init_typed ≡ same (at 1 17) (at 1 17) (at 1 30) ∷ same (at 1 25) (at 1 34) (at 1 30) ∷ same (at 1 34) (at 1 34) (at 1 12) ∷ same (at 1 40) (at 1 44) (at 1 30) ∷ fixed (at 1 44) Int (at 1 44) ∷ []
unfolding variables
equalities_of_init_typed = simp (equality_steps, rolled_places, outline_steps)

scopes_of_init_typed : scopes init_typed ≡ (entry Param (name 1 1 12) ∷ entry Top (name 2 1 30) ∷ []) ∷ []
unfolding variables
scopes_of_init_typed = simp outline_steps

is_init_typed_keeps : KeepsTypes ((Int ∷ Int ∷ []) ∷ []) init_typed
is_init_typed_keeps = typed_by init_typed equalities_of_init_typed scopes_of_init_typed (is_typing 3 _ _ ((Int ∷ Int ∷ []) ∷ []) refl refl)

equalities_of_init_of_two : equalities init_of_two ≡ (same (at 1 16) (at 1 16) (at 1 29) ∷ same (at 1 24) (at 1 33) (at 1 29) ∷ fixed (at 1 33) Float (at 1 33) ∷ same (at 1 41) (at 1 45) (at 1 29) ∷ []) ++ (fixed (at 1 45) Int (at 1 45)) ∷ []
unfolding variables
equalities_of_init_of_two = simp (equality_steps, rolled_places, outline_steps)

is_init_of_two_breaks : Clashes (at 1 45) init_of_two
is_init_of_two_breaks = clash_at 2 ((at 1 16, Float) ∷ (at 1 29, Float) ∷ (at 1 33, Float) ∷ (at 1 45, Float) ∷ []) (equalities init_of_two) (same (at 1 16) (at 1 16) (at 1 29) ∷ same (at 1 24) (at 1 33) (at 1 29) ∷ fixed (at 1 33) Float (at 1 33) ∷ same (at 1 41) (at 1 45) (at 1 29) ∷ []) [] (fixed (at 1 45) Int (at 1 45)) equalities_of_init_of_two refl refl

equalities_of_present_typed : equalities present_typed ≡ fixed (at 1 17) Int (at 1 17) ∷ fixed (at 1 33) Bool (at 1 34) ∷ same (at 1 34) (at 1 34) (at 1 12) ∷ []
unfolding variables
equalities_of_present_typed = simp (equality_steps, rolled_places, outline_steps)

scopes_of_present_typed : scopes present_typed ≡ (entry Param (name 1 1 12) ∷ []) ∷ []
unfolding variables
scopes_of_present_typed = simp outline_steps

is_present_typed_keeps : KeepsTypes ((Bool ∷ []) ∷ []) present_typed
is_present_typed_keeps = typed_by present_typed equalities_of_present_typed scopes_of_present_typed (is_typing 1 _ _ ((Bool ∷ []) ∷ []) refl refl)

outline_of_until_typed : eqns_outline (nth 0 until_typed.decls).eqs ≡ record { entries = []; valued = []; started = []; broken = [] }
outline_of_until_typed = simp outline_steps

part_of_until_typed : decl_equalities (with_variables (before_all until_typed.names) (variables_by (nth 0 until_typed.decls) (record { entries = []; valued = []; started = []; broken = [] }))) (nth 0 until_typed.decls) ≡ fixed (at 1 17) Int (at 1 17) ∷ fixed (at 1 49) Bool (at 1 50) ∷ same (at 1 50) (at 1 50) (at 1 12) ∷ []
part_of_until_typed = simp (equality_steps, rolled_places)

equalities_of_until_typed : equalities until_typed ≡ fixed (at 1 17) Int (at 1 17) ∷ fixed (at 1 49) Bool (at 1 50) ∷ same (at 1 50) (at 1 50) (at 1 12) ∷ []
equalities_of_until_typed = equalities_by until_typed.names (nth 0 until_typed.decls) (record { entries = []; valued = []; started = []; broken = [] }) _ outline_of_until_typed part_of_until_typed

scopes_of_until_typed : scopes until_typed ≡ (entry Param (name 1 1 12) ∷ []) ∷ []
scopes_of_until_typed = λ j. variables_are (nth 0 until_typed.decls) (record { entries = []; valued = []; started = []; broken = [] }) outline_of_until_typed j ∷ []

is_until_typed_keeps : KeepsTypes ((Bool ∷ []) ∷ []) until_typed
is_until_typed_keeps = typed_by until_typed equalities_of_until_typed scopes_of_until_typed (is_typing 1 _ _ ((Bool ∷ []) ∷ []) refl refl)

equalities_of_reset_typed : equalities reset_typed ≡ fixed (at 1 17) Int (at 1 17) ∷ same (at 1 31) (at 1 35) (at 1 31) ∷ fixed (at 1 35) Int (at 1 35) ∷ fixed (at 1 43) Bool (at 1 44) ∷ same (at 1 44) (at 1 44) (at 1 12) ∷ []
unfolding variables
equalities_of_reset_typed = simp (equality_steps, rolled_places, outline_steps)

scopes_of_reset_typed : scopes reset_typed ≡ (entry Param (name 1 1 12) ∷ entry Top (name 2 1 31) ∷ []) ∷ []
unfolding variables
scopes_of_reset_typed = simp outline_steps

is_reset_typed_keeps : KeepsTypes ((Bool ∷ Int ∷ []) ∷ []) reset_typed
is_reset_typed_keeps = typed_by reset_typed equalities_of_reset_typed scopes_of_reset_typed (is_typing 2 _ _ ((Bool ∷ Int ∷ []) ∷ []) refl refl)

equalities_of_present_of_int : equalities present_of_int ≡ (fixed (at 1 16) Int (at 1 16) ∷ fixed (at 1 32) Bool (at 1 33) ∷ []) ++ (fixed (at 1 33) Int (at 1 33)) ∷ []
unfolding variables
equalities_of_present_of_int = simp (equality_steps, rolled_places, outline_steps)

is_present_of_int_breaks : Clashes (at 1 33) present_of_int
is_present_of_int_breaks = clash_at 1 ((at 1 16, Int) ∷ (at 1 33, Bool) ∷ []) (equalities present_of_int) (fixed (at 1 16) Int (at 1 16) ∷ fixed (at 1 32) Bool (at 1 33) ∷ []) [] (fixed (at 1 33) Int (at 1 33)) equalities_of_present_of_int refl refl

equalities_of_until_of_int : equalities until_of_int ≡ (fixed (at 1 16) Int (at 1 16) ∷ fixed (at 1 48) Bool (at 1 49) ∷ []) ++ (fixed (at 1 49) Int (at 1 49)) ∷ []
unfolding variables
equalities_of_until_of_int = simp (equality_steps, rolled_places, outline_steps)

is_until_of_int_breaks : Clashes (at 1 49) until_of_int
is_until_of_int_breaks = clash_at 1 ((at 1 16, Int) ∷ (at 1 49, Bool) ∷ []) (equalities until_of_int) (fixed (at 1 16) Int (at 1 16) ∷ fixed (at 1 48) Bool (at 1 49) ∷ []) [] (fixed (at 1 49) Int (at 1 49)) equalities_of_until_of_int refl refl

equalities_of_reset_of_int : equalities reset_of_int ≡ (fixed (at 1 16) Int (at 1 16) ∷ same (at 1 30) (at 1 34) (at 1 30) ∷ fixed (at 1 34) Int (at 1 34) ∷ fixed (at 1 42) Bool (at 1 43) ∷ []) ++ (fixed (at 1 43) Int (at 1 43)) ∷ []
unfolding variables
equalities_of_reset_of_int = simp (equality_steps, rolled_places, outline_steps)

is_reset_of_int_breaks : Clashes (at 1 43) reset_of_int
is_reset_of_int_breaks = clash_at 1 ((at 1 16, Int) ∷ (at 1 34, Int) ∷ (at 1 30, Int) ∷ (at 1 43, Bool) ∷ []) (equalities reset_of_int) (fixed (at 1 16) Int (at 1 16) ∷ same (at 1 30) (at 1 34) (at 1 30) ∷ fixed (at 1 34) Int (at 1 34) ∷ fixed (at 1 42) Bool (at 1 43) ∷ []) [] (fixed (at 1 43) Int (at 1 43)) equalities_of_reset_of_int refl refl

equalities_of_up_typed : equalities up_typed ≡ fixed (at 1 22) Int (at 1 22) ∷ fixed (at 1 38) Float (at 1 41) ∷ same (at 1 41) (at 1 41) (at 1 14) ∷ fixed (at 1 59) Float (at 1 63) ∷ fixed (at 1 59) Float (at 1 67) ∷ fixed (at 1 59) Float (at 1 76) ∷ fixed (at 1 59) Float (at 1 95) ∷ fixed (at 1 67) Float (at 1 67) ∷ fixed (at 1 76) Float (at 1 76) ∷ fixed (at 1 86) Float (at 1 89) ∷ same (at 1 89) (at 1 89) (at 1 17) ∷ fixed (at 1 95) Float (at 1 95) ∷ []
unfolding variables
equalities_of_up_typed = simp (equality_steps, rolled_places, outline_steps)

scopes_of_up_typed : scopes up_typed ≡ (entry Param (name 1 1 14) ∷ entry Param (name 2 1 17) ∷ entry Top (name 3 1 63) ∷ []) ∷ []
unfolding variables
scopes_of_up_typed = simp outline_steps

is_up_typed_keeps : KeepsTypes ((Float ∷ Float ∷ Float ∷ []) ∷ []) up_typed
is_up_typed_keeps = typed_by up_typed equalities_of_up_typed scopes_of_up_typed (is_typing 1 _ _ ((Float ∷ Float ∷ Float ∷ []) ∷ []) refl refl)

equalities_of_up_of_int : equalities up_of_int ≡ (fixed (at 1 18) Int (at 1 18) ∷ fixed (at 1 34) Float (at 1 37) ∷ []) ++ (fixed (at 1 37) Int (at 1 37)) ∷ []
unfolding variables
equalities_of_up_of_int = simp (equality_steps, rolled_places, outline_steps)

is_up_of_int_breaks : Clashes (at 1 37) up_of_int
is_up_of_int_breaks = clash_at 1 ((at 1 18, Int) ∷ (at 1 37, Float) ∷ []) (equalities up_of_int) (fixed (at 1 18) Int (at 1 18) ∷ fixed (at 1 34) Float (at 1 37) ∷ []) [] (fixed (at 1 37) Int (at 1 37)) equalities_of_up_of_int refl refl

equalities_of_reset_up_of_int : equalities reset_up_of_int ≡ (same (at 1 18) (at 1 18) (at 1 30) ∷ fixed (at 1 26) Float (at 1 30) ∷ fixed (at 1 26) Float (at 1 34) ∷ fixed (at 1 26) Float (at 1 43) ∷ fixed (at 1 26) Float (at 1 62) ∷ fixed (at 1 34) Float (at 1 34) ∷ fixed (at 1 43) Float (at 1 43) ∷ fixed (at 1 53) Float (at 1 56) ∷ []) ++ (fixed (at 1 56) Int (at 1 56)) ∷ (fixed (at 1 62) Float (at 1 62) ∷ [])
unfolding variables
equalities_of_reset_up_of_int = simp (equality_steps, rolled_places, outline_steps)

is_reset_up_of_int_breaks : Clashes (at 1 56) reset_up_of_int
is_reset_up_of_int_breaks = clash_at 1 ((at 1 18, Float) ∷ (at 1 30, Float) ∷ (at 1 34, Float) ∷ (at 1 43, Float) ∷ (at 1 62, Float) ∷ (at 1 56, Float) ∷ []) (equalities reset_up_of_int) (same (at 1 18) (at 1 18) (at 1 30) ∷ fixed (at 1 26) Float (at 1 30) ∷ fixed (at 1 26) Float (at 1 34) ∷ fixed (at 1 26) Float (at 1 43) ∷ fixed (at 1 26) Float (at 1 62) ∷ fixed (at 1 34) Float (at 1 34) ∷ fixed (at 1 43) Float (at 1 43) ∷ fixed (at 1 53) Float (at 1 56) ∷ []) (fixed (at 1 62) Float (at 1 62) ∷ []) (fixed (at 1 56) Int (at 1 56)) equalities_of_reset_up_of_int refl refl

equalities_of_annotations : equalities annotations ≡ fixed (at 1 7) Int (at 1 7) ∷ fixed (at 1 16) Float (at 1 16) ∷ fixed (at 1 27) Bool (at 1 27) ∷ fixed (at 1 39) Int (at 1 39) ∷ []
unfolding variables
equalities_of_annotations = simp (equality_steps, rolled_places, outline_steps)

scopes_of_annotations : scopes annotations ≡ (entry Param (name 1 1 7) ∷ entry Param (name 2 1 16) ∷ entry Param (name 3 1 27) ∷ []) ∷ []
unfolding variables
scopes_of_annotations = refl

is_annotations_keeps : KeepsTypes ((Int ∷ Float ∷ Bool ∷ []) ∷ []) annotations
is_annotations_keeps = typed_by annotations equalities_of_annotations scopes_of_annotations (is_typing 1 _ _ ((Int ∷ Float ∷ Bool ∷ []) ∷ []) refl refl)

equalities_of_annotation_broken : equalities annotation_broken ≡ (fixed (at 1 7) Int (at 1 7) ∷ same (at 1 18) (at 1 18) (at 1 7) ∷ []) ++ (fixed (at 1 20) Float (at 1 18)) ∷ (fixed (at 1 20) Float (at 1 23) ∷ fixed (at 1 20) Float (at 1 20) ∷ fixed (at 1 23) Float (at 1 23) ∷ [])
unfolding variables
equalities_of_annotation_broken = simp (equality_steps, rolled_places, outline_steps)

is_annotation_broken_breaks : Clashes (at 1 20) annotation_broken
is_annotation_broken_breaks = clash_at 1 ((at 1 7, Int) ∷ (at 1 18, Int) ∷ []) (equalities annotation_broken) (fixed (at 1 7) Int (at 1 7) ∷ same (at 1 18) (at 1 18) (at 1 7) ∷ []) (fixed (at 1 20) Float (at 1 23) ∷ fixed (at 1 20) Float (at 1 20) ∷ fixed (at 1 23) Float (at 1 23) ∷ []) (fixed (at 1 20) Float (at 1 18)) equalities_of_annotation_broken refl refl

equalities_of_first_clash : equalities first_clash ≡ (fixed (at 1 12) Int (at 1 12) ∷ fixed (at 1 14) Int (at 1 12) ∷ fixed (at 1 14) Int (at 1 16) ∷ fixed (at 1 14) Int (at 1 14) ∷ []) ++ (fixed (at 1 16) Float (at 1 16)) ∷ (fixed (at 1 21) Int (at 1 14) ∷ fixed (at 1 21) Int (at 1 26) ∷ fixed (at 1 21) Int (at 1 21) ∷ fixed (at 1 24) Int (at 1 24) ∷ fixed (at 1 26) Int (at 1 24) ∷ fixed (at 1 26) Int (at 1 28) ∷ fixed (at 1 26) Int (at 1 26) ∷ fixed (at 1 28) Bool (at 1 28) ∷ [])
unfolding variables
equalities_of_first_clash = simp (equality_steps, rolled_places, outline_steps)

is_first_clash_breaks : Clashes (at 1 16) first_clash
is_first_clash_breaks = clash_at 1 ((at 1 12, Int) ∷ (at 1 16, Int) ∷ (at 1 14, Int) ∷ []) (equalities first_clash) (fixed (at 1 12) Int (at 1 12) ∷ fixed (at 1 14) Int (at 1 12) ∷ fixed (at 1 14) Int (at 1 16) ∷ fixed (at 1 14) Int (at 1 14) ∷ []) (fixed (at 1 21) Int (at 1 14) ∷ fixed (at 1 21) Int (at 1 26) ∷ fixed (at 1 21) Int (at 1 21) ∷ fixed (at 1 24) Int (at 1 24) ∷ fixed (at 1 26) Int (at 1 24) ∷ fixed (at 1 26) Int (at 1 28) ∷ fixed (at 1 26) Int (at 1 26) ∷ fixed (at 1 28) Bool (at 1 28) ∷ []) (fixed (at 1 16) Float (at 1 16)) equalities_of_first_clash refl refl

equalities_of_open_parameter : equalities open_parameter ≡ fixed (at 1 7) Int (at 1 7) ∷ same (at 1 24) (at 1 24) (at 1 7) ∷ []
unfolding variables
equalities_of_open_parameter = simp (equality_steps, rolled_places, outline_steps)

scopes_of_open_parameter : scopes open_parameter ≡ (entry Param (name 1 1 7) ∷ entry Param (name 2 1 16) ∷ entry Param (name 3 1 19) ∷ []) ∷ []
unfolding variables
scopes_of_open_parameter = refl

is_open_parameter_breaks : StaysOpen (at 1 16) open_parameter
is_open_parameter_breaks = open_by open_parameter equalities_of_open_parameter scopes_of_open_parameter (open_at 1 ((at 1 7, Int) ∷ (at 1 24, Int) ∷ []) ((at 1 7, Int) ∷ (at 1 24, Int) ∷ (at 1 16, Int) ∷ []) _ _ ((at 1 7) ∷ []) ((at 1 19) ∷ []) (at 1 16) refl refl refl refl refl)

equalities_of_open_variable : equalities open_variable ≡ fixed (at 1 16) Int (at 1 16) ∷ same (at 1 24) (at 1 33) (at 1 29) ∷ same (at 1 33) (at 1 33) (at 1 49) ∷ same (at 1 44) (at 1 53) (at 1 49) ∷ same (at 1 53) (at 1 53) (at 1 29) ∷ []
unfolding variables
equalities_of_open_variable = simp (equality_steps, rolled_places, outline_steps)

scopes_of_open_variable : scopes open_variable ≡ (entry Top (name 1 1 29) ∷ entry Top (name 2 1 49) ∷ []) ∷ []
unfolding variables
scopes_of_open_variable = simp outline_steps

is_open_variable_breaks : StaysOpen (at 1 29) open_variable
is_open_variable_breaks = open_by open_variable equalities_of_open_variable scopes_of_open_variable (open_at 0 ((at 1 16, Int) ∷ []) ((at 1 16, Int) ∷ (at 1 33, Int) ∷ (at 1 29, Int) ∷ (at 1 49, Int) ∷ (at 1 53, Int) ∷ []) _ _ [] ((at 1 49) ∷ []) (at 1 29) refl refl refl refl refl)

equalities_of_open_before_kind : equalities open_before_kind ≡ same (at 1 12) (at 1 12) (at 1 16) ∷ same (at 1 16) (at 1 16) (at 1 7) ∷ []
unfolding variables
equalities_of_open_before_kind = simp (equality_steps, rolled_places, outline_steps)

scopes_of_open_before_kind : scopes open_before_kind ≡ (entry Param (name 1 1 7) ∷ []) ∷ []
unfolding variables
scopes_of_open_before_kind = refl

is_open_before_kind_breaks : StaysOpen (at 1 7) open_before_kind
is_open_before_kind_breaks = open_by open_before_kind equalities_of_open_before_kind scopes_of_open_before_kind (open_at 0 [] ((at 1 12, Int) ∷ (at 1 16, Int) ∷ (at 1 7, Int) ∷ []) _ _ [] [] (at 1 7) refl refl refl refl refl)

equalities_of_clash_before_kind : equalities clash_before_kind ≡ (fixed (at 1 7) Int (at 1 7) ∷ same (at 1 18) (at 1 18) (at 1 22) ∷ same (at 1 22) (at 1 22) (at 1 7) ∷ fixed (at 1 24) Int (at 1 18) ∷ fixed (at 1 24) Int (at 1 26) ∷ fixed (at 1 24) Int (at 1 24) ∷ []) ++ (fixed (at 1 26) Float (at 1 26)) ∷ []
unfolding variables
equalities_of_clash_before_kind = simp (equality_steps, rolled_places, outline_steps)

is_clash_before_kind_breaks : Clashes (at 1 26) clash_before_kind
is_clash_before_kind_breaks = clash_at 1 ((at 1 7, Int) ∷ (at 1 18, Int) ∷ (at 1 22, Int) ∷ (at 1 26, Int) ∷ (at 1 24, Int) ∷ []) (equalities clash_before_kind) (fixed (at 1 7) Int (at 1 7) ∷ same (at 1 18) (at 1 18) (at 1 22) ∷ same (at 1 22) (at 1 22) (at 1 7) ∷ fixed (at 1 24) Int (at 1 18) ∷ fixed (at 1 24) Int (at 1 26) ∷ fixed (at 1 24) Int (at 1 24) ∷ []) [] (fixed (at 1 26) Float (at 1 26)) equalities_of_clash_before_kind refl refl

equalities_of_kind_behind_types : equalities kind_behind_types ≡ fixed (at 1 7) Int (at 1 7) ∷ same (at 1 18) (at 1 18) (at 1 22) ∷ same (at 1 22) (at 1 22) (at 1 7) ∷ []
unfolding variables
equalities_of_kind_behind_types = simp (equality_steps, rolled_places)

misplaced_of_kind_behind_types : misplaced kind_behind_types ≡ at 1 18 ∷ []
unfolding allows_present none_declared declared_with
misplaced_of_kind_behind_types = simp context_steps

is_kind_behind_types_refused : IsTypesRefusedAt kind_behind_types Kind (at 1 18)
unfolding variables
is_kind_behind_types_refused = record {
  types = ((Int ∷ []) ∷ []);
  typing = typed_by kind_behind_types equalities_of_kind_behind_types refl (is_typing 2 _ ((entry Param (name 1 1 7) ∷ []) ∷ []) ((Int ∷ []) ∷ []) refl refl);
  misplaced = misplaced_at kind_behind_types (at 1 18) _ misplaced_of_kind_behind_types (0, omega arith, refl) (in_line 1 18 18 (omega arith), tt);
}

pub equation_types_worked : EquationTypesWorked
equation_types_worked = record {
  constant_typed_keeps = is_constant_typed_keeps;
  constant_of_two_breaks = is_constant_of_two_breaks;
  results_typed_keeps = is_results_typed_keeps;
  results_exchanged_breaks = is_results_exchanged_breaks;
  sides_typed_keeps = is_sides_typed_keeps;
  sides_of_two_breaks = is_sides_of_two_breaks;
  derivative_typed_keeps = is_derivative_typed_keeps;
  int_slope_breaks = is_int_slope_breaks;
  int_start_breaks = is_int_start_breaks;
  int_reset_breaks = is_int_reset_breaks;
  int_derivative_breaks = is_int_derivative_breaks;
  init_typed_keeps = is_init_typed_keeps;
  init_of_two_breaks = is_init_of_two_breaks;
  present_typed_keeps = is_present_typed_keeps;
  until_typed_keeps = is_until_typed_keeps;
  reset_typed_keeps = is_reset_typed_keeps;
  present_of_int_breaks = is_present_of_int_breaks;
  until_of_int_breaks = is_until_of_int_breaks;
  reset_of_int_breaks = is_reset_of_int_breaks;
  up_typed_keeps = is_up_typed_keeps;
  up_of_int_breaks = is_up_of_int_breaks;
  reset_up_of_int_breaks = is_reset_up_of_int_breaks;
  annotations_keeps = is_annotations_keeps;
  annotation_broken_breaks = is_annotation_broken_breaks;
  first_clash_breaks = is_first_clash_breaks;
  open_parameter_breaks = is_open_parameter_breaks;
  open_variable_breaks = is_open_variable_breaks;
  open_before_kind_breaks = is_open_before_kind_breaks;
  clash_before_kind_breaks = is_clash_before_kind_breaks;
  kind_behind_types_refused = is_kind_behind_types_refused;
}
