-- The worked programs of EquationLevelsWorked, by computation of their constraints.
use Rattle.std.proofs.Common.{◌≡◌, true, false, [], ◌∷◌, ◌++◌, Some, refl, sym, subst}
use Rattle.zl_ast.specs.declared.constraint.Asked.TheVariants.{Early, Late, LateWhere, Never}
use Rattle.zl_ast.specs.declared.scope.VarClass.TheVariants.{Top, Local}
use Rattle.zl_ast.specs.Names.{among, is_built_in}
use Rattle.zl_ast.specs.NamesDefined.{entry, eqns_outline}
use Rattle.zl_ast.specs.Anchored.{eqns_given}
use Rattle.zl_ast.specs.Levels.{HasLevels}
use Rattle.zl_ast.specs.Initialised.{Known, ask, decl_parts, requirements}
use Rattle.zl_ast.specs.WorkedTrees.{at, name}
use Rattle.zl_ast.specs.Verdicts.{KeepsInit, BreaksInit}
use Rattle.zl_ast.specs.EquationLevelsWorked.{late_every, early_derivative, late_slope, late_start, late_reset_value, late_reset_up, late_up, settled, settled_by_else, settled_by_names, settled_by_starts, without_else, not_in_all_arms, not_in_else, not_in_all_states, second_name_unsettled, derivative_without_start, local_unsettled, EquationLevelsWorked}
use Rattle.zl_ast.proofs.NamesSteps.{outline_steps, rolled_places}
use Rattle.zl_ast.proofs.ConstraintSteps.{given_steps, constraint_steps}
use Rattle.zl_ast.proofs.InTurn.{nth, behind, in_turn}
use Rattle.zl_ast.proofs.LevelsByList.{has_levels, unmet_at}
use Rattle.zl_ast.proofs.EquationLevelsFirst.{is_last_in_arm_keeps, is_last_of_outer_local_keeps, is_last_of_inner_local_breaks, is_last_in_node_arm_breaks, is_last_in_reset_value_keeps, is_last_in_start_breaks, is_late_in_own_list_keeps, is_late_in_arm_breaks, is_late_in_else_breaks, is_late_in_state_breaks, is_late_in_reset_breaks, is_late_local_in_arm_breaks, is_early_init_keeps, is_late_init_breaks, is_early_tests_keeps, is_late_present_breaks, is_late_until_breaks, is_late_unless_breaks}

outline_0_of_late_every : eqns_outline (nth 0 late_every.decls).eqs ≡ record { entries = (entry Top (name 2 1 32) ∷ entry Top (name 3 1 52) ∷ []); valued = (2 ∷ 3 ∷ []); started = []; broken = [] }
outline_0_of_late_every = simp outline_steps

given_0_of_late_every : eqns_given (nth 0 late_every.decls).eqs ≡ record { defined = (2 ∷ 3 ∷ []); started = []; anchored = []; settled = [] }
given_0_of_late_every = simp given_steps

part_0_of_late_every : (k : Known) → k.place 1 ≡ Some (at 1 12) → k.place 2 ≡ Some (at 1 32) → k.place 3 ≡ Some (at 1 52) → among k.settled 2 ≡ true → among k.settled 3 ≡ true → decl_parts k (record { hybrid = false; handler = false; inside = []; own = (2 ∷ 3 ∷ []) }) (nth 0 late_every.decls) ≡ ask (at 1 10) (at 1 24) Early ∷ ask (at 1 12) (at 1 12) Early ∷ ask (at 1 24) (at 1 24) (LateWhere (at 1 12)) ∷ ask (at 1 32) (at 1 32) (LateWhere (at 1 36)) ∷ ask (at 1 36) (at 1 36) Late ∷ ask (at 1 36) (at 1 40) Early ∷ ask (at 1 40) (at 1 40) (LateWhere (at 1 12)) ∷ ask (at 1 52) (at 1 56) Early ∷ ask (at 1 56) (at 1 56) Early ∷ ask (at 1 64) (at 1 65) Early ∷ ask (at 1 65) (at 1 65) (LateWhere (at 1 32)) ∷ []
unfolding decl_parts
part_0_of_late_every k h0 h1 h2 h3 h4 = simp (h0, h1, h2, h3, h4, constraint_steps, rolled_places)

requirements_of_late_every : requirements late_every ≡ (ask (at 1 10) (at 1 24) Early ∷ ask (at 1 12) (at 1 12) Early ∷ ask (at 1 24) (at 1 24) (LateWhere (at 1 12)) ∷ ask (at 1 32) (at 1 32) (LateWhere (at 1 36)) ∷ ask (at 1 36) (at 1 36) Late ∷ ask (at 1 36) (at 1 40) Early ∷ ask (at 1 40) (at 1 40) (LateWhere (at 1 12)) ∷ ask (at 1 52) (at 1 56) Early ∷ ask (at 1 56) (at 1 56) Early ∷ ask (at 1 64) (at 1 65) Early ∷ []) ++ (ask (at 1 65) (at 1 65) (LateWhere (at 1 32))) ∷ []
requirements_of_late_every = in_turn late_every.names (nth 0 late_every.decls) (behind 0 late_every.decls) (record { entries = (entry Top (name 2 1 32) ∷ entry Top (name 3 1 52) ∷ []); valued = (2 ∷ 3 ∷ []); started = []; broken = [] }) (record { defined = (2 ∷ 3 ∷ []); started = []; anchored = []; settled = [] }) _ _ outline_0_of_late_every given_0_of_late_every (part_0_of_late_every _ refl refl refl refl refl) refl

is_late_every_breaks : BreaksInit (at 1 65) late_every
is_late_every_breaks = unmet_at 2 (at 1 36 ∷ at 1 32 ∷ []) (requirements late_every) (ask (at 1 10) (at 1 24) Early ∷ ask (at 1 12) (at 1 12) Early ∷ ask (at 1 24) (at 1 24) (LateWhere (at 1 12)) ∷ ask (at 1 32) (at 1 32) (LateWhere (at 1 36)) ∷ ask (at 1 36) (at 1 36) Late ∷ ask (at 1 36) (at 1 40) Early ∷ ask (at 1 40) (at 1 40) (LateWhere (at 1 12)) ∷ ask (at 1 52) (at 1 56) Early ∷ ask (at 1 56) (at 1 56) Early ∷ ask (at 1 64) (at 1 65) Early ∷ []) [] (ask (at 1 65) (at 1 65) (LateWhere (at 1 32))) requirements_of_late_every refl refl

outline_0_of_early_derivative : eqns_outline (nth 0 early_derivative.decls).eqs ≡ record { entries = (entry Top (name 2 1 39) ∷ []); valued = (2 ∷ []); started = (2 ∷ []); broken = [] }
outline_0_of_early_derivative = simp outline_steps

given_0_of_early_derivative : eqns_given (nth 0 early_derivative.decls).eqs ≡ record { defined = (2 ∷ []); started = (2 ∷ []); anchored = []; settled = [] }
given_0_of_early_derivative = simp given_steps

part_0_of_early_derivative : (k : Known) → k.place 1 ≡ Some (at 1 14) → k.place 2 ≡ Some (at 1 39) → among k.settled 2 ≡ true → decl_parts k (record { hybrid = true; handler = false; inside = []; own = (2 ∷ []) }) (nth 0 early_derivative.decls) ≡ ask (at 1 12) (at 1 27) Early ∷ ask (at 1 14) (at 1 14) Early ∷ ask (at 1 27) (at 1 27) (LateWhere (at 1 39)) ∷ ask (at 1 35) (at 1 43) Early ∷ ask (at 1 35) (at 1 50) Early ∷ ask (at 1 35) (at 1 67) Early ∷ ask (at 1 43) (at 1 43) (LateWhere (at 1 14)) ∷ ask (at 1 50) (at 1 50) (LateWhere (at 1 14)) ∷ ask (at 1 58) (at 1 61) Early ∷ ask (at 1 61) (at 1 61) (LateWhere (at 1 14)) ∷ ask (at 1 67) (at 1 67) (LateWhere (at 1 14)) ∷ []
unfolding decl_parts
part_0_of_early_derivative k h0 h1 h2 = simp (h0, h1, h2, constraint_steps, rolled_places)

requirements_of_early_derivative : requirements early_derivative ≡ ask (at 1 12) (at 1 27) Early ∷ ask (at 1 14) (at 1 14) Early ∷ ask (at 1 27) (at 1 27) (LateWhere (at 1 39)) ∷ ask (at 1 35) (at 1 43) Early ∷ ask (at 1 35) (at 1 50) Early ∷ ask (at 1 35) (at 1 67) Early ∷ ask (at 1 43) (at 1 43) (LateWhere (at 1 14)) ∷ ask (at 1 50) (at 1 50) (LateWhere (at 1 14)) ∷ ask (at 1 58) (at 1 61) Early ∷ ask (at 1 61) (at 1 61) (LateWhere (at 1 14)) ∷ ask (at 1 67) (at 1 67) (LateWhere (at 1 14)) ∷ []
requirements_of_early_derivative = in_turn early_derivative.names (nth 0 early_derivative.decls) (behind 0 early_derivative.decls) (record { entries = (entry Top (name 2 1 39) ∷ []); valued = (2 ∷ []); started = (2 ∷ []); broken = [] }) (record { defined = (2 ∷ []); started = (2 ∷ []); anchored = []; settled = [] }) _ _ outline_0_of_early_derivative given_0_of_early_derivative (part_0_of_early_derivative _ refl refl refl) refl

is_early_derivative_keeps : KeepsInit early_derivative
is_early_derivative_keeps = subst HasLevels (sym requirements_of_early_derivative) (has_levels [] _ refl)

outline_0_of_late_slope : eqns_outline (nth 0 late_slope.decls).eqs ≡ record { entries = (entry Top (name 2 1 35) ∷ entry Top (name 3 1 53) ∷ []); valued = (2 ∷ 3 ∷ []); started = (3 ∷ []); broken = [] }
outline_0_of_late_slope = simp outline_steps

given_0_of_late_slope : eqns_given (nth 0 late_slope.decls).eqs ≡ record { defined = (2 ∷ 3 ∷ []); started = (3 ∷ []); anchored = []; settled = [] }
given_0_of_late_slope = simp given_steps

part_0_of_late_slope : (k : Known) → k.place 1 ≡ Some (at 1 14) → k.place 2 ≡ Some (at 1 35) → k.place 3 ≡ Some (at 1 53) → among k.settled 2 ≡ true → among k.settled 3 ≡ true → decl_parts k (record { hybrid = true; handler = false; inside = []; own = (2 ∷ 3 ∷ []) }) (nth 0 late_slope.decls) ≡ ask (at 1 12) (at 1 27) Early ∷ ask (at 1 14) (at 1 14) Early ∷ ask (at 1 27) (at 1 27) Early ∷ ask (at 1 35) (at 1 35) (LateWhere (at 1 39)) ∷ ask (at 1 39) (at 1 39) Late ∷ ask (at 1 39) (at 1 43) Early ∷ ask (at 1 43) (at 1 43) (LateWhere (at 1 14)) ∷ ask (at 1 49) (at 1 57) Early ∷ ask (at 1 49) (at 1 64) Early ∷ ask (at 1 57) (at 1 57) (LateWhere (at 1 35)) ∷ ask (at 1 64) (at 1 64) Early ∷ []
unfolding decl_parts
part_0_of_late_slope k h0 h1 h2 h3 h4 = simp (h0, h1, h2, h3, h4, constraint_steps, rolled_places)

requirements_of_late_slope : requirements late_slope ≡ (ask (at 1 12) (at 1 27) Early ∷ ask (at 1 14) (at 1 14) Early ∷ ask (at 1 27) (at 1 27) Early ∷ ask (at 1 35) (at 1 35) (LateWhere (at 1 39)) ∷ ask (at 1 39) (at 1 39) Late ∷ ask (at 1 39) (at 1 43) Early ∷ ask (at 1 43) (at 1 43) (LateWhere (at 1 14)) ∷ ask (at 1 49) (at 1 57) Early ∷ ask (at 1 49) (at 1 64) Early ∷ []) ++ (ask (at 1 57) (at 1 57) (LateWhere (at 1 35))) ∷ (ask (at 1 64) (at 1 64) Early ∷ [])
requirements_of_late_slope = in_turn late_slope.names (nth 0 late_slope.decls) (behind 0 late_slope.decls) (record { entries = (entry Top (name 2 1 35) ∷ entry Top (name 3 1 53) ∷ []); valued = (2 ∷ 3 ∷ []); started = (3 ∷ []); broken = [] }) (record { defined = (2 ∷ 3 ∷ []); started = (3 ∷ []); anchored = []; settled = [] }) _ _ outline_0_of_late_slope given_0_of_late_slope (part_0_of_late_slope _ refl refl refl refl refl) refl

is_late_slope_breaks : BreaksInit (at 1 57) late_slope
is_late_slope_breaks = unmet_at 2 (at 1 39 ∷ at 1 35 ∷ []) (requirements late_slope) (ask (at 1 12) (at 1 27) Early ∷ ask (at 1 14) (at 1 14) Early ∷ ask (at 1 27) (at 1 27) Early ∷ ask (at 1 35) (at 1 35) (LateWhere (at 1 39)) ∷ ask (at 1 39) (at 1 39) Late ∷ ask (at 1 39) (at 1 43) Early ∷ ask (at 1 43) (at 1 43) (LateWhere (at 1 14)) ∷ ask (at 1 49) (at 1 57) Early ∷ ask (at 1 49) (at 1 64) Early ∷ []) (ask (at 1 64) (at 1 64) Early ∷ []) (ask (at 1 57) (at 1 57) (LateWhere (at 1 35))) requirements_of_late_slope refl refl

outline_0_of_late_start : eqns_outline (nth 0 late_start.decls).eqs ≡ record { entries = (entry Top (name 2 1 35) ∷ entry Top (name 3 1 53) ∷ []); valued = (2 ∷ 3 ∷ []); started = (3 ∷ []); broken = [] }
outline_0_of_late_start = simp outline_steps

given_0_of_late_start : eqns_given (nth 0 late_start.decls).eqs ≡ record { defined = (2 ∷ 3 ∷ []); started = (3 ∷ []); anchored = []; settled = [] }
given_0_of_late_start = simp given_steps

part_0_of_late_start : (k : Known) → k.place 1 ≡ Some (at 1 14) → k.place 2 ≡ Some (at 1 35) → k.place 3 ≡ Some (at 1 53) → among k.settled 2 ≡ true → among k.settled 3 ≡ true → decl_parts k (record { hybrid = true; handler = false; inside = []; own = (2 ∷ 3 ∷ []) }) (nth 0 late_start.decls) ≡ ask (at 1 12) (at 1 27) Early ∷ ask (at 1 14) (at 1 14) Early ∷ ask (at 1 27) (at 1 27) Early ∷ ask (at 1 35) (at 1 35) (LateWhere (at 1 39)) ∷ ask (at 1 39) (at 1 39) Late ∷ ask (at 1 39) (at 1 43) Early ∷ ask (at 1 43) (at 1 43) (LateWhere (at 1 14)) ∷ ask (at 1 49) (at 1 57) Early ∷ ask (at 1 49) (at 1 66) Early ∷ ask (at 1 57) (at 1 57) Early ∷ ask (at 1 66) (at 1 66) (LateWhere (at 1 35)) ∷ []
unfolding decl_parts
part_0_of_late_start k h0 h1 h2 h3 h4 = simp (h0, h1, h2, h3, h4, constraint_steps, rolled_places)

requirements_of_late_start : requirements late_start ≡ (ask (at 1 12) (at 1 27) Early ∷ ask (at 1 14) (at 1 14) Early ∷ ask (at 1 27) (at 1 27) Early ∷ ask (at 1 35) (at 1 35) (LateWhere (at 1 39)) ∷ ask (at 1 39) (at 1 39) Late ∷ ask (at 1 39) (at 1 43) Early ∷ ask (at 1 43) (at 1 43) (LateWhere (at 1 14)) ∷ ask (at 1 49) (at 1 57) Early ∷ ask (at 1 49) (at 1 66) Early ∷ ask (at 1 57) (at 1 57) Early ∷ []) ++ (ask (at 1 66) (at 1 66) (LateWhere (at 1 35))) ∷ []
requirements_of_late_start = in_turn late_start.names (nth 0 late_start.decls) (behind 0 late_start.decls) (record { entries = (entry Top (name 2 1 35) ∷ entry Top (name 3 1 53) ∷ []); valued = (2 ∷ 3 ∷ []); started = (3 ∷ []); broken = [] }) (record { defined = (2 ∷ 3 ∷ []); started = (3 ∷ []); anchored = []; settled = [] }) _ _ outline_0_of_late_start given_0_of_late_start (part_0_of_late_start _ refl refl refl refl refl) refl

is_late_start_breaks : BreaksInit (at 1 66) late_start
is_late_start_breaks = unmet_at 2 (at 1 39 ∷ at 1 35 ∷ []) (requirements late_start) (ask (at 1 12) (at 1 27) Early ∷ ask (at 1 14) (at 1 14) Early ∷ ask (at 1 27) (at 1 27) Early ∷ ask (at 1 35) (at 1 35) (LateWhere (at 1 39)) ∷ ask (at 1 39) (at 1 39) Late ∷ ask (at 1 39) (at 1 43) Early ∷ ask (at 1 43) (at 1 43) (LateWhere (at 1 14)) ∷ ask (at 1 49) (at 1 57) Early ∷ ask (at 1 49) (at 1 66) Early ∷ ask (at 1 57) (at 1 57) Early ∷ []) [] (ask (at 1 66) (at 1 66) (LateWhere (at 1 35))) requirements_of_late_start refl refl

outline_0_of_late_reset_value : eqns_outline (nth 0 late_reset_value.decls).eqs ≡ record { entries = (entry Top (name 2 1 35) ∷ entry Top (name 3 1 53) ∷ []); valued = (2 ∷ 3 ∷ []); started = (3 ∷ []); broken = [] }
outline_0_of_late_reset_value = simp outline_steps

given_0_of_late_reset_value : eqns_given (nth 0 late_reset_value.decls).eqs ≡ record { defined = (2 ∷ 3 ∷ []); started = (3 ∷ []); anchored = []; settled = [] }
given_0_of_late_reset_value = simp given_steps

part_0_of_late_reset_value : (k : Known) → k.place 1 ≡ Some (at 1 14) → k.place 2 ≡ Some (at 1 35) → k.place 3 ≡ Some (at 1 53) → among k.settled 2 ≡ true → among k.settled 3 ≡ true → decl_parts k (record { hybrid = true; handler = false; inside = []; own = (2 ∷ 3 ∷ []) }) (nth 0 late_reset_value.decls) ≡ ask (at 1 12) (at 1 27) Early ∷ ask (at 1 14) (at 1 14) Early ∷ ask (at 1 27) (at 1 27) Early ∷ ask (at 1 35) (at 1 35) (LateWhere (at 1 39)) ∷ ask (at 1 39) (at 1 39) Late ∷ ask (at 1 39) (at 1 43) Early ∷ ask (at 1 43) (at 1 43) (LateWhere (at 1 14)) ∷ ask (at 1 49) (at 1 57) Early ∷ ask (at 1 49) (at 1 66) Early ∷ ask (at 1 49) (at 1 85) Early ∷ ask (at 1 57) (at 1 57) Early ∷ ask (at 1 66) (at 1 66) Early ∷ ask (at 1 76) (at 1 79) Early ∷ ask (at 1 79) (at 1 79) (LateWhere (at 1 14)) ∷ ask (at 1 85) (at 1 85) (LateWhere (at 1 35)) ∷ []
unfolding decl_parts
part_0_of_late_reset_value k h0 h1 h2 h3 h4 = simp (h0, h1, h2, h3, h4, constraint_steps, rolled_places)

requirements_of_late_reset_value : requirements late_reset_value ≡ (ask (at 1 12) (at 1 27) Early ∷ ask (at 1 14) (at 1 14) Early ∷ ask (at 1 27) (at 1 27) Early ∷ ask (at 1 35) (at 1 35) (LateWhere (at 1 39)) ∷ ask (at 1 39) (at 1 39) Late ∷ ask (at 1 39) (at 1 43) Early ∷ ask (at 1 43) (at 1 43) (LateWhere (at 1 14)) ∷ ask (at 1 49) (at 1 57) Early ∷ ask (at 1 49) (at 1 66) Early ∷ ask (at 1 49) (at 1 85) Early ∷ ask (at 1 57) (at 1 57) Early ∷ ask (at 1 66) (at 1 66) Early ∷ ask (at 1 76) (at 1 79) Early ∷ ask (at 1 79) (at 1 79) (LateWhere (at 1 14)) ∷ []) ++ (ask (at 1 85) (at 1 85) (LateWhere (at 1 35))) ∷ []
requirements_of_late_reset_value = in_turn late_reset_value.names (nth 0 late_reset_value.decls) (behind 0 late_reset_value.decls) (record { entries = (entry Top (name 2 1 35) ∷ entry Top (name 3 1 53) ∷ []); valued = (2 ∷ 3 ∷ []); started = (3 ∷ []); broken = [] }) (record { defined = (2 ∷ 3 ∷ []); started = (3 ∷ []); anchored = []; settled = [] }) _ _ outline_0_of_late_reset_value given_0_of_late_reset_value (part_0_of_late_reset_value _ refl refl refl refl refl) refl

is_late_reset_value_breaks : BreaksInit (at 1 85) late_reset_value
is_late_reset_value_breaks = unmet_at 2 (at 1 39 ∷ at 1 35 ∷ []) (requirements late_reset_value) (ask (at 1 12) (at 1 27) Early ∷ ask (at 1 14) (at 1 14) Early ∷ ask (at 1 27) (at 1 27) Early ∷ ask (at 1 35) (at 1 35) (LateWhere (at 1 39)) ∷ ask (at 1 39) (at 1 39) Late ∷ ask (at 1 39) (at 1 43) Early ∷ ask (at 1 43) (at 1 43) (LateWhere (at 1 14)) ∷ ask (at 1 49) (at 1 57) Early ∷ ask (at 1 49) (at 1 66) Early ∷ ask (at 1 49) (at 1 85) Early ∷ ask (at 1 57) (at 1 57) Early ∷ ask (at 1 66) (at 1 66) Early ∷ ask (at 1 76) (at 1 79) Early ∷ ask (at 1 79) (at 1 79) (LateWhere (at 1 14)) ∷ []) [] (ask (at 1 85) (at 1 85) (LateWhere (at 1 35))) requirements_of_late_reset_value refl refl

outline_0_of_late_reset_up : eqns_outline (nth 0 late_reset_up.decls).eqs ≡ record { entries = (entry Top (name 2 1 35) ∷ entry Top (name 3 1 53) ∷ []); valued = (2 ∷ 3 ∷ []); started = (3 ∷ []); broken = [] }
outline_0_of_late_reset_up = simp outline_steps

given_0_of_late_reset_up : eqns_given (nth 0 late_reset_up.decls).eqs ≡ record { defined = (2 ∷ 3 ∷ []); started = (3 ∷ []); anchored = []; settled = [] }
given_0_of_late_reset_up = simp given_steps

part_0_of_late_reset_up : (k : Known) → k.place 1 ≡ Some (at 1 14) → k.place 2 ≡ Some (at 1 35) → k.place 3 ≡ Some (at 1 53) → among k.settled 2 ≡ true → among k.settled 3 ≡ true → decl_parts k (record { hybrid = true; handler = false; inside = []; own = (2 ∷ 3 ∷ []) }) (nth 0 late_reset_up.decls) ≡ ask (at 1 12) (at 1 27) Early ∷ ask (at 1 14) (at 1 14) Early ∷ ask (at 1 27) (at 1 27) Early ∷ ask (at 1 35) (at 1 35) (LateWhere (at 1 39)) ∷ ask (at 1 39) (at 1 39) Late ∷ ask (at 1 39) (at 1 43) Early ∷ ask (at 1 43) (at 1 43) (LateWhere (at 1 14)) ∷ ask (at 1 49) (at 1 57) Early ∷ ask (at 1 49) (at 1 66) Early ∷ ask (at 1 49) (at 1 85) Early ∷ ask (at 1 57) (at 1 57) Early ∷ ask (at 1 66) (at 1 66) Early ∷ ask (at 1 76) (at 1 79) Early ∷ ask (at 1 79) (at 1 79) (LateWhere (at 1 35)) ∷ ask (at 1 85) (at 1 85) (LateWhere (at 1 14)) ∷ []
unfolding decl_parts
part_0_of_late_reset_up k h0 h1 h2 h3 h4 = simp (h0, h1, h2, h3, h4, constraint_steps, rolled_places)

requirements_of_late_reset_up : requirements late_reset_up ≡ (ask (at 1 12) (at 1 27) Early ∷ ask (at 1 14) (at 1 14) Early ∷ ask (at 1 27) (at 1 27) Early ∷ ask (at 1 35) (at 1 35) (LateWhere (at 1 39)) ∷ ask (at 1 39) (at 1 39) Late ∷ ask (at 1 39) (at 1 43) Early ∷ ask (at 1 43) (at 1 43) (LateWhere (at 1 14)) ∷ ask (at 1 49) (at 1 57) Early ∷ ask (at 1 49) (at 1 66) Early ∷ ask (at 1 49) (at 1 85) Early ∷ ask (at 1 57) (at 1 57) Early ∷ ask (at 1 66) (at 1 66) Early ∷ ask (at 1 76) (at 1 79) Early ∷ []) ++ (ask (at 1 79) (at 1 79) (LateWhere (at 1 35))) ∷ (ask (at 1 85) (at 1 85) (LateWhere (at 1 14)) ∷ [])
requirements_of_late_reset_up = in_turn late_reset_up.names (nth 0 late_reset_up.decls) (behind 0 late_reset_up.decls) (record { entries = (entry Top (name 2 1 35) ∷ entry Top (name 3 1 53) ∷ []); valued = (2 ∷ 3 ∷ []); started = (3 ∷ []); broken = [] }) (record { defined = (2 ∷ 3 ∷ []); started = (3 ∷ []); anchored = []; settled = [] }) _ _ outline_0_of_late_reset_up given_0_of_late_reset_up (part_0_of_late_reset_up _ refl refl refl refl refl) refl

is_late_reset_up_breaks : BreaksInit (at 1 79) late_reset_up
is_late_reset_up_breaks = unmet_at 2 (at 1 39 ∷ at 1 35 ∷ []) (requirements late_reset_up) (ask (at 1 12) (at 1 27) Early ∷ ask (at 1 14) (at 1 14) Early ∷ ask (at 1 27) (at 1 27) Early ∷ ask (at 1 35) (at 1 35) (LateWhere (at 1 39)) ∷ ask (at 1 39) (at 1 39) Late ∷ ask (at 1 39) (at 1 43) Early ∷ ask (at 1 43) (at 1 43) (LateWhere (at 1 14)) ∷ ask (at 1 49) (at 1 57) Early ∷ ask (at 1 49) (at 1 66) Early ∷ ask (at 1 49) (at 1 85) Early ∷ ask (at 1 57) (at 1 57) Early ∷ ask (at 1 66) (at 1 66) Early ∷ ask (at 1 76) (at 1 79) Early ∷ []) (ask (at 1 85) (at 1 85) (LateWhere (at 1 14)) ∷ []) (ask (at 1 79) (at 1 79) (LateWhere (at 1 35))) requirements_of_late_reset_up refl refl

outline_0_of_late_up : eqns_outline (nth 0 late_up.decls).eqs ≡ record { entries = (entry Top (name 2 1 35) ∷ []); valued = (2 ∷ []); started = []; broken = [] }
outline_0_of_late_up = simp outline_steps

given_0_of_late_up : eqns_given (nth 0 late_up.decls).eqs ≡ record { defined = (2 ∷ []); started = []; anchored = []; settled = [] }
given_0_of_late_up = simp given_steps

part_0_of_late_up : (k : Known) → k.place 1 ≡ Some (at 1 14) → k.place 2 ≡ Some (at 1 35) → among k.settled 2 ≡ true → decl_parts k (record { hybrid = true; handler = false; inside = []; own = (2 ∷ []) }) (nth 0 late_up.decls) ≡ ask (at 1 12) (at 1 27) Early ∷ ask (at 1 14) (at 1 14) Early ∷ ask (at 1 27) (at 1 27) Early ∷ ask (at 1 35) (at 1 35) (LateWhere (at 1 39)) ∷ ask (at 1 39) (at 1 39) Late ∷ ask (at 1 39) (at 1 43) Early ∷ ask (at 1 43) (at 1 43) (LateWhere (at 1 14)) ∷ ask (at 1 57) (at 1 60) Early ∷ ask (at 1 60) (at 1 60) (LateWhere (at 1 35)) ∷ []
unfolding decl_parts
part_0_of_late_up k h0 h1 h2 = simp (h0, h1, h2, constraint_steps, rolled_places)

requirements_of_late_up : requirements late_up ≡ (ask (at 1 12) (at 1 27) Early ∷ ask (at 1 14) (at 1 14) Early ∷ ask (at 1 27) (at 1 27) Early ∷ ask (at 1 35) (at 1 35) (LateWhere (at 1 39)) ∷ ask (at 1 39) (at 1 39) Late ∷ ask (at 1 39) (at 1 43) Early ∷ ask (at 1 43) (at 1 43) (LateWhere (at 1 14)) ∷ ask (at 1 57) (at 1 60) Early ∷ []) ++ (ask (at 1 60) (at 1 60) (LateWhere (at 1 35))) ∷ []
requirements_of_late_up = in_turn late_up.names (nth 0 late_up.decls) (behind 0 late_up.decls) (record { entries = (entry Top (name 2 1 35) ∷ []); valued = (2 ∷ []); started = []; broken = [] }) (record { defined = (2 ∷ []); started = []; anchored = []; settled = [] }) _ _ outline_0_of_late_up given_0_of_late_up (part_0_of_late_up _ refl refl refl) refl

is_late_up_breaks : BreaksInit (at 1 60) late_up
is_late_up_breaks = unmet_at 2 (at 1 39 ∷ at 1 35 ∷ []) (requirements late_up) (ask (at 1 12) (at 1 27) Early ∷ ask (at 1 14) (at 1 14) Early ∷ ask (at 1 27) (at 1 27) Early ∷ ask (at 1 35) (at 1 35) (LateWhere (at 1 39)) ∷ ask (at 1 39) (at 1 39) Late ∷ ask (at 1 39) (at 1 43) Early ∷ ask (at 1 43) (at 1 43) (LateWhere (at 1 14)) ∷ ask (at 1 57) (at 1 60) Early ∷ []) [] (ask (at 1 60) (at 1 60) (LateWhere (at 1 35))) requirements_of_late_up refl refl

outline_0_of_settled : eqns_outline (nth 0 settled.decls).eqs ≡ record { entries = (entry Top (name 3 1 37) ∷ entry Top (name 5 2 25) ∷ entry Top (name 5 2 58) ∷ entry Top (name 2 2 83) ∷ []); valued = (5 ∷ 5 ∷ 2 ∷ []); started = (3 ∷ []); broken = [] }
outline_0_of_settled = simp outline_steps

given_0_of_settled : eqns_given (nth 0 settled.decls).eqs ≡ record { defined = (5 ∷ 2 ∷ []); started = (3 ∷ []); anchored = []; settled = [] }
given_0_of_settled = simp given_steps

part_0_of_settled : (k : Known) → k.place 1 ≡ Some (at 1 12) → k.place 2 ≡ Some (at 2 83) → k.place 3 ≡ Some (at 1 37) → k.place 5 ≡ Some (at 2 25) → among k.settled 2 ≡ true → among k.settled 3 ≡ true → among k.settled 5 ≡ true → decl_parts k (record { hybrid = false; handler = false; inside = []; own = (3 ∷ 5 ∷ 2 ∷ []) }) (nth 0 settled.decls) ≡ ask (at 1 10) (at 1 24) Early ∷ ask (at 1 12) (at 1 12) Early ∷ ask (at 1 24) (at 1 24) (LateWhere (at 2 83)) ∷ ask (at 1 32) (at 1 41) Early ∷ ask (at 1 41) (at 1 41) Early ∷ ask (at 2 25) (at 2 29) Early ∷ ask (at 2 29) (at 2 29) Early ∷ ask (at 2 37) (at 2 38) Early ∷ ask (at 2 38) (at 2 38) (LateWhere (at 1 12)) ∷ ask (at 2 58) (at 2 62) Early ∷ ask (at 2 62) (at 2 62) Early ∷ ask (at 2 83) (at 2 87) Early ∷ ask (at 2 87) (at 2 87) (LateWhere (at 2 25)) ∷ ask (at 2 95) (at 2 96) Early ∷ ask (at 2 96) (at 2 96) (LateWhere (at 1 12)) ∷ []
unfolding decl_parts
part_0_of_settled k h0 h1 h2 h3 h4 h5 h6 = simp (h0, h1, h2, h3, h4, h5, h6, constraint_steps, rolled_places)

requirements_of_settled : requirements settled ≡ ask (at 1 10) (at 1 24) Early ∷ ask (at 1 12) (at 1 12) Early ∷ ask (at 1 24) (at 1 24) (LateWhere (at 2 83)) ∷ ask (at 1 32) (at 1 41) Early ∷ ask (at 1 41) (at 1 41) Early ∷ ask (at 2 25) (at 2 29) Early ∷ ask (at 2 29) (at 2 29) Early ∷ ask (at 2 37) (at 2 38) Early ∷ ask (at 2 38) (at 2 38) (LateWhere (at 1 12)) ∷ ask (at 2 58) (at 2 62) Early ∷ ask (at 2 62) (at 2 62) Early ∷ ask (at 2 83) (at 2 87) Early ∷ ask (at 2 87) (at 2 87) (LateWhere (at 2 25)) ∷ ask (at 2 95) (at 2 96) Early ∷ ask (at 2 96) (at 2 96) (LateWhere (at 1 12)) ∷ []
requirements_of_settled = in_turn settled.names (nth 0 settled.decls) (behind 0 settled.decls) (record { entries = (entry Top (name 3 1 37) ∷ entry Top (name 5 2 25) ∷ entry Top (name 5 2 58) ∷ entry Top (name 2 2 83) ∷ []); valued = (5 ∷ 5 ∷ 2 ∷ []); started = (3 ∷ []); broken = [] }) (record { defined = (5 ∷ 2 ∷ []); started = (3 ∷ []); anchored = []; settled = [] }) _ _ outline_0_of_settled given_0_of_settled (part_0_of_settled _ refl refl refl refl refl refl refl) refl

is_settled_keeps : KeepsInit settled
is_settled_keeps = subst HasLevels (sym requirements_of_settled) (has_levels [] _ refl)

outline_0_of_settled_by_else : eqns_outline (nth 0 settled_by_else.decls).eqs ≡ record { entries = (entry Top (name 2 1 50) ∷ entry Top (name 2 1 69) ∷ []); valued = (2 ∷ 2 ∷ []); started = []; broken = [] }
outline_0_of_settled_by_else = simp outline_steps

given_0_of_settled_by_else : eqns_given (nth 0 settled_by_else.decls).eqs ≡ record { defined = (2 ∷ []); started = []; anchored = []; settled = [] }
given_0_of_settled_by_else = simp given_steps

part_0_of_settled_by_else : (k : Known) → k.place 1 ≡ Some (at 1 12) → k.place 2 ≡ Some (at 1 50) → among k.settled 2 ≡ true → decl_parts k (record { hybrid = false; handler = false; inside = []; own = (2 ∷ []) }) (nth 0 settled_by_else.decls) ≡ ask (at 1 10) (at 1 24) Early ∷ ask (at 1 12) (at 1 12) Early ∷ ask (at 1 24) (at 1 24) (LateWhere (at 1 50)) ∷ ask (at 1 40) (at 1 41) Early ∷ ask (at 1 41) (at 1 41) (LateWhere (at 1 12)) ∷ ask (at 1 50) (at 1 54) Early ∷ ask (at 1 54) (at 1 54) Early ∷ ask (at 1 69) (at 1 73) Early ∷ ask (at 1 73) (at 1 73) Early ∷ []
unfolding decl_parts
part_0_of_settled_by_else k h0 h1 h2 = simp (h0, h1, h2, constraint_steps, rolled_places)

requirements_of_settled_by_else : requirements settled_by_else ≡ ask (at 1 10) (at 1 24) Early ∷ ask (at 1 12) (at 1 12) Early ∷ ask (at 1 24) (at 1 24) (LateWhere (at 1 50)) ∷ ask (at 1 40) (at 1 41) Early ∷ ask (at 1 41) (at 1 41) (LateWhere (at 1 12)) ∷ ask (at 1 50) (at 1 54) Early ∷ ask (at 1 54) (at 1 54) Early ∷ ask (at 1 69) (at 1 73) Early ∷ ask (at 1 73) (at 1 73) Early ∷ []
requirements_of_settled_by_else = in_turn settled_by_else.names (nth 0 settled_by_else.decls) (behind 0 settled_by_else.decls) (record { entries = (entry Top (name 2 1 50) ∷ entry Top (name 2 1 69) ∷ []); valued = (2 ∷ 2 ∷ []); started = []; broken = [] }) (record { defined = (2 ∷ []); started = []; anchored = []; settled = [] }) _ _ outline_0_of_settled_by_else given_0_of_settled_by_else (part_0_of_settled_by_else _ refl refl refl) refl

is_settled_by_else_keeps : KeepsInit settled_by_else
is_settled_by_else_keeps = subst HasLevels (sym requirements_of_settled_by_else) (has_levels [] _ refl)

outline_0_of_settled_by_names : eqns_outline (nth 0 settled_by_names.decls).eqs ≡ record { entries = (entry Top (name 2 1 31) ∷ []); valued = (2 ∷ []); started = []; broken = [] }
outline_0_of_settled_by_names = simp outline_steps

given_0_of_settled_by_names : eqns_given (nth 0 settled_by_names.decls).eqs ≡ record { defined = (2 ∷ []); started = []; anchored = []; settled = [] }
given_0_of_settled_by_names = simp given_steps

part_0_of_settled_by_names : (k : Known) → k.place 1 ≡ Some (at 1 7) → k.place 2 ≡ Some (at 1 31) → among k.settled 2 ≡ true → decl_parts k (record { hybrid = false; handler = false; inside = []; own = (2 ∷ []) }) (nth 0 settled_by_names.decls) ≡ ask (at 1 5) (at 1 19) Early ∷ ask (at 1 5) (at 1 22) Early ∷ ask (at 1 7) (at 1 7) Early ∷ ask (at 1 19) (at 1 19) (LateWhere (at 1 7)) ∷ ask (at 1 22) (at 1 22) (LateWhere (at 1 31)) ∷ ask (at 1 31) (at 1 31) (LateWhere (at 1 35)) ∷ ask (at 1 35) (at 1 35) (LateWhere (at 1 7)) ∷ []
unfolding decl_parts
part_0_of_settled_by_names k h0 h1 h2 = simp (h0, h1, h2, constraint_steps, rolled_places)

outline_1_of_settled_by_names : eqns_outline (nth 1 settled_by_names.decls).eqs ≡ record { entries = (entry Top (name 6 2 51) ∷ entry Top (name 5 2 54) ∷ entry Top (name 5 2 78) ∷ entry Top (name 6 2 81) ∷ []); valued = (6 ∷ 5 ∷ 5 ∷ 6 ∷ []); started = []; broken = [] }
outline_1_of_settled_by_names = simp outline_steps

given_1_of_settled_by_names : eqns_given (nth 1 settled_by_names.decls).eqs ≡ record { defined = (5 ∷ 6 ∷ []); started = []; anchored = []; settled = [] }
given_1_of_settled_by_names = simp given_steps

part_1_of_settled_by_names : (k : Known) → k.place 4 ≡ Some (at 2 12) → k.place 5 ≡ Some (at 2 54) → k.place 6 ≡ Some (at 2 51) → among k.settled 5 ≡ true → among k.settled 6 ≡ true → is_built_in k.names 0 ≡ false → decl_parts k (record { hybrid = false; handler = false; inside = []; own = (6 ∷ 5 ∷ []) }) (nth 1 settled_by_names.decls) ≡ ask (at 2 10) (at 2 24) Early ∷ ask (at 2 12) (at 2 12) Early ∷ ask (at 2 24) (at 2 24) (LateWhere (at 2 54)) ∷ ask (at 2 40) (at 2 41) Early ∷ ask (at 2 41) (at 2 41) (LateWhere (at 2 12)) ∷ ask (at 2 51) (at 2 59) Early ∷ ask (at 2 51) (at 2 59) Early ∷ ask (at 2 59) (at 2 59) Early ∷ ask (at 2 59) (at 2 61) Early ∷ ask (at 2 61) (at 2 61) Early ∷ ask (at 2 78) (at 2 86) Early ∷ ask (at 2 78) (at 2 86) Early ∷ ask (at 2 86) (at 2 86) Early ∷ ask (at 2 86) (at 2 88) Early ∷ ask (at 2 88) (at 2 88) Early ∷ []
unfolding decl_parts
part_1_of_settled_by_names k h0 h1 h2 h3 h4 h5 = simp (h0, h1, h2, h3, h4, h5, constraint_steps, rolled_places)

requirements_of_settled_by_names : requirements settled_by_names ≡ ask (at 1 5) (at 1 19) Early ∷ ask (at 1 5) (at 1 22) Early ∷ ask (at 1 7) (at 1 7) Early ∷ ask (at 1 19) (at 1 19) (LateWhere (at 1 7)) ∷ ask (at 1 22) (at 1 22) (LateWhere (at 1 31)) ∷ ask (at 1 31) (at 1 31) (LateWhere (at 1 35)) ∷ ask (at 1 35) (at 1 35) (LateWhere (at 1 7)) ∷ ask (at 2 10) (at 2 24) Early ∷ ask (at 2 12) (at 2 12) Early ∷ ask (at 2 24) (at 2 24) (LateWhere (at 2 54)) ∷ ask (at 2 40) (at 2 41) Early ∷ ask (at 2 41) (at 2 41) (LateWhere (at 2 12)) ∷ ask (at 2 51) (at 2 59) Early ∷ ask (at 2 51) (at 2 59) Early ∷ ask (at 2 59) (at 2 59) Early ∷ ask (at 2 59) (at 2 61) Early ∷ ask (at 2 61) (at 2 61) Early ∷ ask (at 2 78) (at 2 86) Early ∷ ask (at 2 78) (at 2 86) Early ∷ ask (at 2 86) (at 2 86) Early ∷ ask (at 2 86) (at 2 88) Early ∷ ask (at 2 88) (at 2 88) Early ∷ []
requirements_of_settled_by_names = in_turn settled_by_names.names (nth 0 settled_by_names.decls) (behind 0 settled_by_names.decls) (record { entries = (entry Top (name 2 1 31) ∷ []); valued = (2 ∷ []); started = []; broken = [] }) (record { defined = (2 ∷ []); started = []; anchored = []; settled = [] }) _ _ outline_0_of_settled_by_names given_0_of_settled_by_names (part_0_of_settled_by_names _ refl refl refl) (in_turn settled_by_names.names (nth 1 settled_by_names.decls) (behind 1 settled_by_names.decls) (record { entries = (entry Top (name 6 2 51) ∷ entry Top (name 5 2 54) ∷ entry Top (name 5 2 78) ∷ entry Top (name 6 2 81) ∷ []); valued = (6 ∷ 5 ∷ 5 ∷ 6 ∷ []); started = []; broken = [] }) (record { defined = (5 ∷ 6 ∷ []); started = []; anchored = []; settled = [] }) _ _ outline_1_of_settled_by_names given_1_of_settled_by_names (part_1_of_settled_by_names _ refl refl refl refl refl refl) refl)

is_settled_by_names_keeps : KeepsInit settled_by_names
is_settled_by_names_keeps = subst HasLevels (sym requirements_of_settled_by_names) (has_levels [] _ refl)

outline_0_of_settled_by_starts : eqns_outline (nth 0 settled_by_starts.decls).eqs ≡ record { entries = (entry Top (name 1 1 48) ∷ entry Top (name 1 1 101) ∷ []); valued = (1 ∷ 1 ∷ []); started = (1 ∷ []); broken = [] }
outline_0_of_settled_by_starts = simp outline_steps

given_0_of_settled_by_starts : eqns_given (nth 0 settled_by_starts.decls).eqs ≡ record { defined = (1 ∷ []); started = []; anchored = []; settled = [] }
given_0_of_settled_by_starts = simp given_steps

part_0_of_settled_by_starts : (k : Known) → k.place 1 ≡ Some (at 1 48) → among k.settled 1 ≡ true → decl_parts k (record { hybrid = true; handler = false; inside = []; own = (1 ∷ []) }) (nth 0 settled_by_starts.decls) ≡ ask (at 1 12) (at 1 18) Early ∷ ask (at 1 18) (at 1 18) (LateWhere (at 1 48)) ∷ ask (at 1 44) (at 1 52) Early ∷ ask (at 1 44) (at 1 61) Early ∷ ask (at 1 52) (at 1 52) Early ∷ ask (at 1 61) (at 1 61) Early ∷ ask (at 1 71) (at 1 76) Early ∷ ask (at 1 74) (at 1 74) (LateWhere (at 1 48)) ∷ ask (at 1 76) (at 1 76) (LateWhere (at 1 74)) ∷ ask (at 1 76) (at 1 76) (LateWhere (at 1 79)) ∷ ask (at 1 79) (at 1 79) Early ∷ ask (at 1 101) (at 1 105) Early ∷ ask (at 1 105) (at 1 105) Early ∷ []
unfolding decl_parts
part_0_of_settled_by_starts k h0 h1 = simp (h0, h1, constraint_steps, rolled_places)

requirements_of_settled_by_starts : requirements settled_by_starts ≡ ask (at 1 12) (at 1 18) Early ∷ ask (at 1 18) (at 1 18) (LateWhere (at 1 48)) ∷ ask (at 1 44) (at 1 52) Early ∷ ask (at 1 44) (at 1 61) Early ∷ ask (at 1 52) (at 1 52) Early ∷ ask (at 1 61) (at 1 61) Early ∷ ask (at 1 71) (at 1 76) Early ∷ ask (at 1 74) (at 1 74) (LateWhere (at 1 48)) ∷ ask (at 1 76) (at 1 76) (LateWhere (at 1 74)) ∷ ask (at 1 76) (at 1 76) (LateWhere (at 1 79)) ∷ ask (at 1 79) (at 1 79) Early ∷ ask (at 1 101) (at 1 105) Early ∷ ask (at 1 105) (at 1 105) Early ∷ []
requirements_of_settled_by_starts = in_turn settled_by_starts.names (nth 0 settled_by_starts.decls) (behind 0 settled_by_starts.decls) (record { entries = (entry Top (name 1 1 48) ∷ entry Top (name 1 1 101) ∷ []); valued = (1 ∷ 1 ∷ []); started = (1 ∷ []); broken = [] }) (record { defined = (1 ∷ []); started = []; anchored = []; settled = [] }) _ _ outline_0_of_settled_by_starts given_0_of_settled_by_starts (part_0_of_settled_by_starts _ refl refl) refl

is_settled_by_starts_keeps : KeepsInit settled_by_starts
is_settled_by_starts_keeps = subst HasLevels (sym requirements_of_settled_by_starts) (has_levels [] _ refl)

outline_0_of_without_else : eqns_outline (nth 0 without_else.decls).eqs ≡ record { entries = (entry Top (name 2 1 50) ∷ []); valued = (2 ∷ []); started = []; broken = [] }
outline_0_of_without_else = simp outline_steps

given_0_of_without_else : eqns_given (nth 0 without_else.decls).eqs ≡ record { defined = []; started = []; anchored = []; settled = [] }
given_0_of_without_else = simp given_steps

part_0_of_without_else : (k : Known) → k.place 1 ≡ Some (at 1 12) → k.place 2 ≡ Some (at 1 50) → among k.settled 2 ≡ false → decl_parts k (record { hybrid = false; handler = false; inside = []; own = (2 ∷ []) }) (nth 0 without_else.decls) ≡ ask (at 1 10) (at 1 24) Early ∷ ask (at 1 12) (at 1 12) Early ∷ ask (at 1 24) (at 1 24) (LateWhere (at 1 12)) ∷ ask (at 1 40) (at 1 41) Early ∷ ask (at 1 41) (at 1 41) (LateWhere (at 1 12)) ∷ ask (at 1 50) (at 1 54) Early ∷ ask (at 1 50) (at 1 50) Never ∷ ask (at 1 54) (at 1 54) Early ∷ []
unfolding decl_parts
part_0_of_without_else k h0 h1 h2 = simp (h0, h1, h2, constraint_steps, rolled_places)

requirements_of_without_else : requirements without_else ≡ (ask (at 1 10) (at 1 24) Early ∷ ask (at 1 12) (at 1 12) Early ∷ ask (at 1 24) (at 1 24) (LateWhere (at 1 12)) ∷ ask (at 1 40) (at 1 41) Early ∷ ask (at 1 41) (at 1 41) (LateWhere (at 1 12)) ∷ ask (at 1 50) (at 1 54) Early ∷ []) ++ (ask (at 1 50) (at 1 50) Never) ∷ (ask (at 1 54) (at 1 54) Early ∷ [])
requirements_of_without_else = in_turn without_else.names (nth 0 without_else.decls) (behind 0 without_else.decls) (record { entries = (entry Top (name 2 1 50) ∷ []); valued = (2 ∷ []); started = []; broken = [] }) (record { defined = []; started = []; anchored = []; settled = [] }) _ _ outline_0_of_without_else given_0_of_without_else (part_0_of_without_else _ refl refl refl) refl

is_without_else_breaks : BreaksInit (at 1 50) without_else
is_without_else_breaks = unmet_at 1 [] (requirements without_else) (ask (at 1 10) (at 1 24) Early ∷ ask (at 1 12) (at 1 12) Early ∷ ask (at 1 24) (at 1 24) (LateWhere (at 1 12)) ∷ ask (at 1 40) (at 1 41) Early ∷ ask (at 1 41) (at 1 41) (LateWhere (at 1 12)) ∷ ask (at 1 50) (at 1 54) Early ∷ []) (ask (at 1 54) (at 1 54) Early ∷ []) (ask (at 1 50) (at 1 50) Never) requirements_of_without_else refl refl

outline_0_of_not_in_all_arms : eqns_outline (nth 0 not_in_all_arms.decls).eqs ≡ record { entries = (entry Top (name 2 1 50) ∷ entry Top (name 2 1 86) ∷ []); valued = (2 ∷ 2 ∷ []); started = []; broken = [] }
outline_0_of_not_in_all_arms = simp outline_steps

given_0_of_not_in_all_arms : eqns_given (nth 0 not_in_all_arms.decls).eqs ≡ record { defined = []; started = []; anchored = []; settled = [] }
given_0_of_not_in_all_arms = simp given_steps

part_0_of_not_in_all_arms : (k : Known) → k.place 1 ≡ Some (at 1 12) → k.place 2 ≡ Some (at 1 50) → among k.settled 2 ≡ false → decl_parts k (record { hybrid = false; handler = false; inside = []; own = (2 ∷ []) }) (nth 0 not_in_all_arms.decls) ≡ ask (at 1 10) (at 1 24) Early ∷ ask (at 1 12) (at 1 12) Early ∷ ask (at 1 24) (at 1 24) (LateWhere (at 1 12)) ∷ ask (at 1 40) (at 1 41) Early ∷ ask (at 1 41) (at 1 41) (LateWhere (at 1 12)) ∷ ask (at 1 50) (at 1 54) Early ∷ ask (at 1 50) (at 1 50) Never ∷ ask (at 1 54) (at 1 54) Early ∷ ask (at 1 63) (at 1 64) Early ∷ ask (at 1 64) (at 1 64) (LateWhere (at 1 12)) ∷ ask (at 1 86) (at 1 90) Early ∷ ask (at 1 90) (at 1 90) Early ∷ []
unfolding decl_parts
part_0_of_not_in_all_arms k h0 h1 h2 = simp (h0, h1, h2, constraint_steps, rolled_places)

requirements_of_not_in_all_arms : requirements not_in_all_arms ≡ (ask (at 1 10) (at 1 24) Early ∷ ask (at 1 12) (at 1 12) Early ∷ ask (at 1 24) (at 1 24) (LateWhere (at 1 12)) ∷ ask (at 1 40) (at 1 41) Early ∷ ask (at 1 41) (at 1 41) (LateWhere (at 1 12)) ∷ ask (at 1 50) (at 1 54) Early ∷ []) ++ (ask (at 1 50) (at 1 50) Never) ∷ (ask (at 1 54) (at 1 54) Early ∷ ask (at 1 63) (at 1 64) Early ∷ ask (at 1 64) (at 1 64) (LateWhere (at 1 12)) ∷ ask (at 1 86) (at 1 90) Early ∷ ask (at 1 90) (at 1 90) Early ∷ [])
requirements_of_not_in_all_arms = in_turn not_in_all_arms.names (nth 0 not_in_all_arms.decls) (behind 0 not_in_all_arms.decls) (record { entries = (entry Top (name 2 1 50) ∷ entry Top (name 2 1 86) ∷ []); valued = (2 ∷ 2 ∷ []); started = []; broken = [] }) (record { defined = []; started = []; anchored = []; settled = [] }) _ _ outline_0_of_not_in_all_arms given_0_of_not_in_all_arms (part_0_of_not_in_all_arms _ refl refl refl) refl

is_not_in_all_arms_breaks : BreaksInit (at 1 50) not_in_all_arms
is_not_in_all_arms_breaks = unmet_at 1 [] (requirements not_in_all_arms) (ask (at 1 10) (at 1 24) Early ∷ ask (at 1 12) (at 1 12) Early ∷ ask (at 1 24) (at 1 24) (LateWhere (at 1 12)) ∷ ask (at 1 40) (at 1 41) Early ∷ ask (at 1 41) (at 1 41) (LateWhere (at 1 12)) ∷ ask (at 1 50) (at 1 54) Early ∷ []) (ask (at 1 54) (at 1 54) Early ∷ ask (at 1 63) (at 1 64) Early ∷ ask (at 1 64) (at 1 64) (LateWhere (at 1 12)) ∷ ask (at 1 86) (at 1 90) Early ∷ ask (at 1 90) (at 1 90) Early ∷ []) (ask (at 1 50) (at 1 50) Never) requirements_of_not_in_all_arms refl refl

outline_0_of_not_in_else : eqns_outline (nth 0 not_in_else.decls).eqs ≡ record { entries = (entry Top (name 2 1 50) ∷ []); valued = (2 ∷ []); started = []; broken = [] }
outline_0_of_not_in_else = simp outline_steps

given_0_of_not_in_else : eqns_given (nth 0 not_in_else.decls).eqs ≡ record { defined = []; started = []; anchored = []; settled = [] }
given_0_of_not_in_else = simp given_steps

part_0_of_not_in_else : (k : Known) → k.place 1 ≡ Some (at 1 12) → k.place 2 ≡ Some (at 1 50) → among k.settled 2 ≡ false → decl_parts k (record { hybrid = false; handler = false; inside = []; own = (2 ∷ []) }) (nth 0 not_in_else.decls) ≡ ask (at 1 10) (at 1 24) Early ∷ ask (at 1 12) (at 1 12) Early ∷ ask (at 1 24) (at 1 24) (LateWhere (at 1 12)) ∷ ask (at 1 40) (at 1 41) Early ∷ ask (at 1 41) (at 1 41) (LateWhere (at 1 12)) ∷ ask (at 1 50) (at 1 54) Early ∷ ask (at 1 50) (at 1 50) Never ∷ ask (at 1 54) (at 1 54) Early ∷ []
unfolding decl_parts
part_0_of_not_in_else k h0 h1 h2 = simp (h0, h1, h2, constraint_steps, rolled_places)

requirements_of_not_in_else : requirements not_in_else ≡ (ask (at 1 10) (at 1 24) Early ∷ ask (at 1 12) (at 1 12) Early ∷ ask (at 1 24) (at 1 24) (LateWhere (at 1 12)) ∷ ask (at 1 40) (at 1 41) Early ∷ ask (at 1 41) (at 1 41) (LateWhere (at 1 12)) ∷ ask (at 1 50) (at 1 54) Early ∷ []) ++ (ask (at 1 50) (at 1 50) Never) ∷ (ask (at 1 54) (at 1 54) Early ∷ [])
requirements_of_not_in_else = in_turn not_in_else.names (nth 0 not_in_else.decls) (behind 0 not_in_else.decls) (record { entries = (entry Top (name 2 1 50) ∷ []); valued = (2 ∷ []); started = []; broken = [] }) (record { defined = []; started = []; anchored = []; settled = [] }) _ _ outline_0_of_not_in_else given_0_of_not_in_else (part_0_of_not_in_else _ refl refl refl) refl

is_not_in_else_breaks : BreaksInit (at 1 50) not_in_else
is_not_in_else_breaks = unmet_at 1 [] (requirements not_in_else) (ask (at 1 10) (at 1 24) Early ∷ ask (at 1 12) (at 1 12) Early ∷ ask (at 1 24) (at 1 24) (LateWhere (at 1 12)) ∷ ask (at 1 40) (at 1 41) Early ∷ ask (at 1 41) (at 1 41) (LateWhere (at 1 12)) ∷ ask (at 1 50) (at 1 54) Early ∷ []) (ask (at 1 54) (at 1 54) Early ∷ []) (ask (at 1 50) (at 1 50) Never) requirements_of_not_in_else refl refl

outline_0_of_not_in_all_states : eqns_outline (nth 0 not_in_all_states.decls).eqs ≡ record { entries = (entry Top (name 3 1 50) ∷ []); valued = (3 ∷ []); started = []; broken = [] }
outline_0_of_not_in_all_states = simp outline_steps

given_0_of_not_in_all_states : eqns_given (nth 0 not_in_all_states.decls).eqs ≡ record { defined = []; started = []; anchored = []; settled = [] }
given_0_of_not_in_all_states = simp given_steps

part_0_of_not_in_all_states : (k : Known) → k.place 1 ≡ Some (at 1 12) → k.place 3 ≡ Some (at 1 50) → among k.settled 3 ≡ false → decl_parts k (record { hybrid = false; handler = false; inside = []; own = (3 ∷ []) }) (nth 0 not_in_all_states.decls) ≡ ask (at 1 10) (at 1 24) Early ∷ ask (at 1 12) (at 1 12) Early ∷ ask (at 1 24) (at 1 24) (LateWhere (at 1 12)) ∷ ask (at 1 50) (at 1 54) Early ∷ ask (at 1 50) (at 1 50) Never ∷ ask (at 1 54) (at 1 54) Early ∷ ask (at 1 62) (at 1 63) Early ∷ ask (at 1 63) (at 1 63) (LateWhere (at 1 12)) ∷ []
unfolding decl_parts
part_0_of_not_in_all_states k h0 h1 h2 = simp (h0, h1, h2, constraint_steps, rolled_places)

requirements_of_not_in_all_states : requirements not_in_all_states ≡ (ask (at 1 10) (at 1 24) Early ∷ ask (at 1 12) (at 1 12) Early ∷ ask (at 1 24) (at 1 24) (LateWhere (at 1 12)) ∷ ask (at 1 50) (at 1 54) Early ∷ []) ++ (ask (at 1 50) (at 1 50) Never) ∷ (ask (at 1 54) (at 1 54) Early ∷ ask (at 1 62) (at 1 63) Early ∷ ask (at 1 63) (at 1 63) (LateWhere (at 1 12)) ∷ [])
requirements_of_not_in_all_states = in_turn not_in_all_states.names (nth 0 not_in_all_states.decls) (behind 0 not_in_all_states.decls) (record { entries = (entry Top (name 3 1 50) ∷ []); valued = (3 ∷ []); started = []; broken = [] }) (record { defined = []; started = []; anchored = []; settled = [] }) _ _ outline_0_of_not_in_all_states given_0_of_not_in_all_states (part_0_of_not_in_all_states _ refl refl refl) refl

is_not_in_all_states_breaks : BreaksInit (at 1 50) not_in_all_states
is_not_in_all_states_breaks = unmet_at 1 [] (requirements not_in_all_states) (ask (at 1 10) (at 1 24) Early ∷ ask (at 1 12) (at 1 12) Early ∷ ask (at 1 24) (at 1 24) (LateWhere (at 1 12)) ∷ ask (at 1 50) (at 1 54) Early ∷ []) (ask (at 1 54) (at 1 54) Early ∷ ask (at 1 62) (at 1 63) Early ∷ ask (at 1 63) (at 1 63) (LateWhere (at 1 12)) ∷ []) (ask (at 1 50) (at 1 50) Never) requirements_of_not_in_all_states refl refl

outline_0_of_second_name_unsettled : eqns_outline (nth 0 second_name_unsettled.decls).eqs ≡ record { entries = (entry Top (name 2 1 31) ∷ []); valued = (2 ∷ []); started = []; broken = [] }
outline_0_of_second_name_unsettled = simp outline_steps

given_0_of_second_name_unsettled : eqns_given (nth 0 second_name_unsettled.decls).eqs ≡ record { defined = (2 ∷ []); started = []; anchored = []; settled = [] }
given_0_of_second_name_unsettled = simp given_steps

part_0_of_second_name_unsettled : (k : Known) → k.place 1 ≡ Some (at 1 7) → k.place 2 ≡ Some (at 1 31) → among k.settled 2 ≡ true → decl_parts k (record { hybrid = false; handler = false; inside = []; own = (2 ∷ []) }) (nth 0 second_name_unsettled.decls) ≡ ask (at 1 5) (at 1 19) Early ∷ ask (at 1 5) (at 1 22) Early ∷ ask (at 1 7) (at 1 7) Early ∷ ask (at 1 19) (at 1 19) (LateWhere (at 1 7)) ∷ ask (at 1 22) (at 1 22) (LateWhere (at 1 31)) ∷ ask (at 1 31) (at 1 31) (LateWhere (at 1 35)) ∷ ask (at 1 35) (at 1 35) (LateWhere (at 1 7)) ∷ []
unfolding decl_parts
part_0_of_second_name_unsettled k h0 h1 h2 = simp (h0, h1, h2, constraint_steps, rolled_places)

outline_1_of_second_name_unsettled : eqns_outline (nth 1 second_name_unsettled.decls).eqs ≡ record { entries = (entry Top (name 6 2 51) ∷ entry Top (name 7 2 54) ∷ entry Top (name 6 2 91) ∷ []); valued = (6 ∷ 7 ∷ 6 ∷ []); started = []; broken = [] }
outline_1_of_second_name_unsettled = simp outline_steps

given_1_of_second_name_unsettled : eqns_given (nth 1 second_name_unsettled.decls).eqs ≡ record { defined = (6 ∷ []); started = []; anchored = []; settled = [] }
given_1_of_second_name_unsettled = simp given_steps

part_1_of_second_name_unsettled : (k : Known) → k.place 4 ≡ Some (at 2 12) → k.place 6 ≡ Some (at 2 51) → k.place 7 ≡ Some (at 2 54) → among k.settled 6 ≡ true → among k.settled 7 ≡ false → is_built_in k.names 0 ≡ false → decl_parts k (record { hybrid = false; handler = false; inside = []; own = (6 ∷ 7 ∷ []) }) (nth 1 second_name_unsettled.decls) ≡ ask (at 2 10) (at 2 24) Early ∷ ask (at 2 12) (at 2 12) Early ∷ ask (at 2 24) (at 2 24) (LateWhere (at 2 12)) ∷ ask (at 2 51) (at 2 59) Early ∷ ask (at 2 51) (at 2 59) Early ∷ ask (at 2 54) (at 2 54) Never ∷ ask (at 2 59) (at 2 59) Early ∷ ask (at 2 59) (at 2 61) Early ∷ ask (at 2 61) (at 2 61) Early ∷ ask (at 2 70) (at 2 71) Early ∷ ask (at 2 71) (at 2 71) (LateWhere (at 2 12)) ∷ ask (at 2 91) (at 2 95) Early ∷ ask (at 2 95) (at 2 95) Early ∷ []
unfolding decl_parts
part_1_of_second_name_unsettled k h0 h1 h2 h3 h4 h5 = simp (h0, h1, h2, h3, h4, h5, constraint_steps, rolled_places)

requirements_of_second_name_unsettled : requirements second_name_unsettled ≡ (ask (at 1 5) (at 1 19) Early ∷ ask (at 1 5) (at 1 22) Early ∷ ask (at 1 7) (at 1 7) Early ∷ ask (at 1 19) (at 1 19) (LateWhere (at 1 7)) ∷ ask (at 1 22) (at 1 22) (LateWhere (at 1 31)) ∷ ask (at 1 31) (at 1 31) (LateWhere (at 1 35)) ∷ ask (at 1 35) (at 1 35) (LateWhere (at 1 7)) ∷ ask (at 2 10) (at 2 24) Early ∷ ask (at 2 12) (at 2 12) Early ∷ ask (at 2 24) (at 2 24) (LateWhere (at 2 12)) ∷ ask (at 2 51) (at 2 59) Early ∷ ask (at 2 51) (at 2 59) Early ∷ []) ++ (ask (at 2 54) (at 2 54) Never) ∷ (ask (at 2 59) (at 2 59) Early ∷ ask (at 2 59) (at 2 61) Early ∷ ask (at 2 61) (at 2 61) Early ∷ ask (at 2 70) (at 2 71) Early ∷ ask (at 2 71) (at 2 71) (LateWhere (at 2 12)) ∷ ask (at 2 91) (at 2 95) Early ∷ ask (at 2 95) (at 2 95) Early ∷ [])
requirements_of_second_name_unsettled = in_turn second_name_unsettled.names (nth 0 second_name_unsettled.decls) (behind 0 second_name_unsettled.decls) (record { entries = (entry Top (name 2 1 31) ∷ []); valued = (2 ∷ []); started = []; broken = [] }) (record { defined = (2 ∷ []); started = []; anchored = []; settled = [] }) _ _ outline_0_of_second_name_unsettled given_0_of_second_name_unsettled (part_0_of_second_name_unsettled _ refl refl refl) (in_turn second_name_unsettled.names (nth 1 second_name_unsettled.decls) (behind 1 second_name_unsettled.decls) (record { entries = (entry Top (name 6 2 51) ∷ entry Top (name 7 2 54) ∷ entry Top (name 6 2 91) ∷ []); valued = (6 ∷ 7 ∷ 6 ∷ []); started = []; broken = [] }) (record { defined = (6 ∷ []); started = []; anchored = []; settled = [] }) _ _ outline_1_of_second_name_unsettled given_1_of_second_name_unsettled (part_1_of_second_name_unsettled _ refl refl refl refl refl refl) refl)

is_second_name_unsettled_breaks : BreaksInit (at 2 54) second_name_unsettled
is_second_name_unsettled_breaks = unmet_at 1 [] (requirements second_name_unsettled) (ask (at 1 5) (at 1 19) Early ∷ ask (at 1 5) (at 1 22) Early ∷ ask (at 1 7) (at 1 7) Early ∷ ask (at 1 19) (at 1 19) (LateWhere (at 1 7)) ∷ ask (at 1 22) (at 1 22) (LateWhere (at 1 31)) ∷ ask (at 1 31) (at 1 31) (LateWhere (at 1 35)) ∷ ask (at 1 35) (at 1 35) (LateWhere (at 1 7)) ∷ ask (at 2 10) (at 2 24) Early ∷ ask (at 2 12) (at 2 12) Early ∷ ask (at 2 24) (at 2 24) (LateWhere (at 2 12)) ∷ ask (at 2 51) (at 2 59) Early ∷ ask (at 2 51) (at 2 59) Early ∷ []) (ask (at 2 59) (at 2 59) Early ∷ ask (at 2 59) (at 2 61) Early ∷ ask (at 2 61) (at 2 61) Early ∷ ask (at 2 70) (at 2 71) Early ∷ ask (at 2 71) (at 2 71) (LateWhere (at 2 12)) ∷ ask (at 2 91) (at 2 95) Early ∷ ask (at 2 95) (at 2 95) Early ∷ []) (ask (at 2 54) (at 2 54) Never) requirements_of_second_name_unsettled refl refl

outline_0_of_derivative_without_start : eqns_outline (nth 0 derivative_without_start.decls).eqs ≡ record { entries = (entry Top (name 1 1 30) ∷ []); valued = (1 ∷ []); started = []; broken = [] }
outline_0_of_derivative_without_start = simp outline_steps

given_0_of_derivative_without_start : eqns_given (nth 0 derivative_without_start.decls).eqs ≡ record { defined = []; started = []; anchored = []; settled = [] }
given_0_of_derivative_without_start = simp given_steps

part_0_of_derivative_without_start : (k : Known) → k.place 1 ≡ Some (at 1 30) → among k.settled 1 ≡ false → decl_parts k (record { hybrid = true; handler = false; inside = []; own = (1 ∷ []) }) (nth 0 derivative_without_start.decls) ≡ ask (at 1 12) (at 1 18) Early ∷ ask (at 1 18) (at 1 18) Early ∷ ask (at 1 26) (at 1 34) Early ∷ ask (at 1 30) (at 1 30) Never ∷ ask (at 1 34) (at 1 34) Early ∷ []
unfolding decl_parts
part_0_of_derivative_without_start k h0 h1 = simp (h0, h1, constraint_steps, rolled_places)

requirements_of_derivative_without_start : requirements derivative_without_start ≡ (ask (at 1 12) (at 1 18) Early ∷ ask (at 1 18) (at 1 18) Early ∷ ask (at 1 26) (at 1 34) Early ∷ []) ++ (ask (at 1 30) (at 1 30) Never) ∷ (ask (at 1 34) (at 1 34) Early ∷ [])
requirements_of_derivative_without_start = in_turn derivative_without_start.names (nth 0 derivative_without_start.decls) (behind 0 derivative_without_start.decls) (record { entries = (entry Top (name 1 1 30) ∷ []); valued = (1 ∷ []); started = []; broken = [] }) (record { defined = []; started = []; anchored = []; settled = [] }) _ _ outline_0_of_derivative_without_start given_0_of_derivative_without_start (part_0_of_derivative_without_start _ refl refl) refl

is_derivative_without_start_breaks : BreaksInit (at 1 30) derivative_without_start
is_derivative_without_start_breaks = unmet_at 1 [] (requirements derivative_without_start) (ask (at 1 12) (at 1 18) Early ∷ ask (at 1 18) (at 1 18) Early ∷ ask (at 1 26) (at 1 34) Early ∷ []) (ask (at 1 34) (at 1 34) Early ∷ []) (ask (at 1 30) (at 1 30) Never) requirements_of_derivative_without_start refl refl

outline_0_of_local_unsettled : eqns_outline (nth 0 local_unsettled.decls).eqs ≡ record { entries = (entry Local (name 2 1 53) ∷ []); valued = []; started = []; broken = [] }
outline_0_of_local_unsettled = simp outline_steps

given_0_of_local_unsettled : eqns_given (nth 0 local_unsettled.decls).eqs ≡ record { defined = []; started = []; anchored = []; settled = [] }
given_0_of_local_unsettled = simp given_steps

part_0_of_local_unsettled : (k : Known) → k.place 1 ≡ Some (at 1 12) → k.place 2 ≡ Some (at 1 53) → among k.settled 2 ≡ false → decl_parts k (record { hybrid = false; handler = false; inside = []; own = [] }) (nth 0 local_unsettled.decls) ≡ ask (at 1 10) (at 1 24) Early ∷ ask (at 1 12) (at 1 12) Early ∷ ask (at 1 24) (at 1 24) (LateWhere (at 1 12)) ∷ ask (at 1 40) (at 1 41) Early ∷ ask (at 1 41) (at 1 41) (LateWhere (at 1 12)) ∷ ask (at 1 53) (at 1 53) Never ∷ ask (at 1 69) (at 1 70) Early ∷ ask (at 1 70) (at 1 70) (LateWhere (at 1 12)) ∷ ask (at 1 79) (at 1 83) Early ∷ ask (at 1 83) (at 1 83) Early ∷ []
unfolding decl_parts
part_0_of_local_unsettled k h0 h1 h2 = simp (h0, h1, h2, constraint_steps, rolled_places)

requirements_of_local_unsettled : requirements local_unsettled ≡ (ask (at 1 10) (at 1 24) Early ∷ ask (at 1 12) (at 1 12) Early ∷ ask (at 1 24) (at 1 24) (LateWhere (at 1 12)) ∷ ask (at 1 40) (at 1 41) Early ∷ ask (at 1 41) (at 1 41) (LateWhere (at 1 12)) ∷ []) ++ (ask (at 1 53) (at 1 53) Never) ∷ (ask (at 1 69) (at 1 70) Early ∷ ask (at 1 70) (at 1 70) (LateWhere (at 1 12)) ∷ ask (at 1 79) (at 1 83) Early ∷ ask (at 1 83) (at 1 83) Early ∷ [])
requirements_of_local_unsettled = in_turn local_unsettled.names (nth 0 local_unsettled.decls) (behind 0 local_unsettled.decls) (record { entries = (entry Local (name 2 1 53) ∷ []); valued = []; started = []; broken = [] }) (record { defined = []; started = []; anchored = []; settled = [] }) _ _ outline_0_of_local_unsettled given_0_of_local_unsettled (part_0_of_local_unsettled _ refl refl refl) refl

is_local_unsettled_breaks : BreaksInit (at 1 53) local_unsettled
is_local_unsettled_breaks = unmet_at 1 [] (requirements local_unsettled) (ask (at 1 10) (at 1 24) Early ∷ ask (at 1 12) (at 1 12) Early ∷ ask (at 1 24) (at 1 24) (LateWhere (at 1 12)) ∷ ask (at 1 40) (at 1 41) Early ∷ ask (at 1 41) (at 1 41) (LateWhere (at 1 12)) ∷ []) (ask (at 1 69) (at 1 70) Early ∷ ask (at 1 70) (at 1 70) (LateWhere (at 1 12)) ∷ ask (at 1 79) (at 1 83) Early ∷ ask (at 1 83) (at 1 83) Early ∷ []) (ask (at 1 53) (at 1 53) Never) requirements_of_local_unsettled refl refl

pub equation_levels_worked : EquationLevelsWorked
equation_levels_worked = record {
  last_in_arm_keeps = is_last_in_arm_keeps;
  last_of_outer_local_keeps = is_last_of_outer_local_keeps;
  last_of_inner_local_breaks = is_last_of_inner_local_breaks;
  last_in_node_arm_breaks = is_last_in_node_arm_breaks;
  last_in_reset_value_keeps = is_last_in_reset_value_keeps;
  last_in_start_breaks = is_last_in_start_breaks;
  late_in_own_list_keeps = is_late_in_own_list_keeps;
  late_in_arm_breaks = is_late_in_arm_breaks;
  late_in_else_breaks = is_late_in_else_breaks;
  late_in_state_breaks = is_late_in_state_breaks;
  late_in_reset_breaks = is_late_in_reset_breaks;
  late_local_in_arm_breaks = is_late_local_in_arm_breaks;
  early_init_keeps = is_early_init_keeps;
  late_init_breaks = is_late_init_breaks;
  early_tests_keeps = is_early_tests_keeps;
  late_present_breaks = is_late_present_breaks;
  late_until_breaks = is_late_until_breaks;
  late_unless_breaks = is_late_unless_breaks;
  late_every_breaks = is_late_every_breaks;
  early_derivative_keeps = is_early_derivative_keeps;
  late_slope_breaks = is_late_slope_breaks;
  late_start_breaks = is_late_start_breaks;
  late_reset_value_breaks = is_late_reset_value_breaks;
  late_reset_up_breaks = is_late_reset_up_breaks;
  late_up_breaks = is_late_up_breaks;
  settled_keeps = is_settled_keeps;
  settled_by_else_keeps = is_settled_by_else_keeps;
  settled_by_names_keeps = is_settled_by_names_keeps;
  settled_by_starts_keeps = is_settled_by_starts_keeps;
  without_else_breaks = is_without_else_breaks;
  not_in_all_arms_breaks = is_not_in_all_arms_breaks;
  not_in_else_breaks = is_not_in_else_breaks;
  not_in_all_states_breaks = is_not_in_all_states_breaks;
  second_name_unsettled_breaks = is_second_name_unsettled_breaks;
  derivative_without_start_breaks = is_derivative_without_start_breaks;
  local_unsettled_breaks = is_local_unsettled_breaks;
}
