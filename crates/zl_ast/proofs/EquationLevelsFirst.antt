-- The worked programs of EquationLevelsWorked, by computation of their constraints: the first of them.
use Rattle.std.proofs.Common.{◌≡◌, true, false, [], ◌∷◌, ◌++◌, Some, refl, sym, subst}
use Rattle.zl_ast.specs.declared.constraint.Asked.TheVariants.{Early, Late, LateWhere}
use Rattle.zl_ast.specs.declared.scope.VarClass.TheVariants.{Top, Local}
use Rattle.zl_ast.specs.Names.{among}
use Rattle.zl_ast.specs.NamesDefined.{entry, eqns_outline}
use Rattle.zl_ast.specs.Anchored.{eqns_given}
use Rattle.zl_ast.specs.Levels.{HasLevels}
use Rattle.zl_ast.specs.Initialised.{Known, ask, decl_parts, requirements}
use Rattle.zl_ast.specs.WorkedTrees.{at, name}
use Rattle.zl_ast.specs.Verdicts.{KeepsInit, BreaksInit}
use Rattle.zl_ast.specs.EquationLevelsWorked.{last_in_arm, last_of_outer_local, last_of_inner_local, last_in_node_arm, last_in_reset_value, last_in_start, late_in_own_list, late_in_arm, late_in_else, late_in_state, late_in_reset, late_local_in_arm, early_init, late_init, early_tests, late_present, late_until, late_unless}
use Rattle.zl_ast.proofs.NamesSteps.{outline_steps, rolled_places}
use Rattle.zl_ast.proofs.ConstraintSteps.{given_steps, constraint_steps}
use Rattle.zl_ast.proofs.InTurn.{nth, behind, in_turn}
use Rattle.zl_ast.proofs.LevelsByList.{has_levels, unmet_at}

outline_0_of_last_in_arm : eqns_outline (nth 0 last_in_arm.decls).eqs ≡ record { entries = (entry Top (name 2 1 26) ∷ entry Top (name 1 1 41) ∷ entry Top (name 1 1 94) ∷ []); valued = (2 ∷ 1 ∷ []); started = (1 ∷ []); broken = [] }
outline_0_of_last_in_arm = simp outline_steps

given_0_of_last_in_arm : eqns_given (nth 0 last_in_arm.decls).eqs ≡ record { defined = (2 ∷ []); started = (1 ∷ []); anchored = []; settled = [] }
given_0_of_last_in_arm = simp given_steps

part_0_of_last_in_arm : (k : Known) → k.place 1 ≡ Some (at 1 41) → k.place 2 ≡ Some (at 1 26) → among k.anchored 2 ≡ false → among k.settled 1 ≡ true → among k.settled 2 ≡ true → decl_parts k (record { hybrid = true; handler = false; inside = []; own = (2 ∷ 1 ∷ []) }) (nth 0 last_in_arm.decls) ≡ ask (at 1 12) (at 1 18) Early ∷ ask (at 1 18) (at 1 18) (LateWhere (at 1 41)) ∷ ask (at 1 26) (at 1 26) (LateWhere (at 1 30)) ∷ ask (at 1 30) (at 1 30) Early ∷ ask (at 1 36) (at 1 45) Early ∷ ask (at 1 45) (at 1 45) Early ∷ ask (at 1 59) (at 1 62) Early ∷ ask (at 1 62) (at 1 62) Early ∷ ask (at 1 81) (at 1 82) Early ∷ ask (at 1 82) (at 1 82) Early ∷ ask (at 1 94) (at 1 98) Early ∷ ask (at 1 98) (at 1 26) Early ∷ ask (at 1 98) (at 1 98) Early ∷ []
unfolding decl_parts
part_0_of_last_in_arm k h0 h1 h2 h3 h4 = simp (h0, h1, h2, h3, h4, constraint_steps, rolled_places)

requirements_of_last_in_arm : requirements last_in_arm ≡ ask (at 1 12) (at 1 18) Early ∷ ask (at 1 18) (at 1 18) (LateWhere (at 1 41)) ∷ ask (at 1 26) (at 1 26) (LateWhere (at 1 30)) ∷ ask (at 1 30) (at 1 30) Early ∷ ask (at 1 36) (at 1 45) Early ∷ ask (at 1 45) (at 1 45) Early ∷ ask (at 1 59) (at 1 62) Early ∷ ask (at 1 62) (at 1 62) Early ∷ ask (at 1 81) (at 1 82) Early ∷ ask (at 1 82) (at 1 82) Early ∷ ask (at 1 94) (at 1 98) Early ∷ ask (at 1 98) (at 1 26) Early ∷ ask (at 1 98) (at 1 98) Early ∷ []
requirements_of_last_in_arm = in_turn last_in_arm.names (nth 0 last_in_arm.decls) (behind 0 last_in_arm.decls) (record { entries = (entry Top (name 2 1 26) ∷ entry Top (name 1 1 41) ∷ entry Top (name 1 1 94) ∷ []); valued = (2 ∷ 1 ∷ []); started = (1 ∷ []); broken = [] }) (record { defined = (2 ∷ []); started = (1 ∷ []); anchored = []; settled = [] }) _ _ outline_0_of_last_in_arm given_0_of_last_in_arm (part_0_of_last_in_arm _ refl refl refl refl refl) refl

pub is_last_in_arm_keeps : KeepsInit last_in_arm
is_last_in_arm_keeps = subst HasLevels (sym requirements_of_last_in_arm) (has_levels [] _ refl)

outline_0_of_last_of_outer_local : eqns_outline (nth 0 last_of_outer_local.decls).eqs ≡ record { entries = (entry Top (name 1 1 31) ∷ entry Local (name 3 2 28) ∷ entry Top (name 1 2 68) ∷ []); valued = (1 ∷ []); started = (1 ∷ []); broken = [] }
outline_0_of_last_of_outer_local = simp outline_steps

given_0_of_last_of_outer_local : eqns_given (nth 0 last_of_outer_local.decls).eqs ≡ record { defined = (3 ∷ []); started = (1 ∷ []); anchored = []; settled = (3 ∷ []) }
given_0_of_last_of_outer_local = simp given_steps

part_0_of_last_of_outer_local : (k : Known) → k.place 1 ≡ Some (at 1 31) → k.place 3 ≡ Some (at 2 28) → among k.anchored 3 ≡ false → among k.settled 1 ≡ true → among k.settled 3 ≡ true → decl_parts k (record { hybrid = true; handler = false; inside = []; own = (1 ∷ []) }) (nth 0 last_of_outer_local.decls) ≡ ask (at 1 12) (at 1 18) Early ∷ ask (at 1 18) (at 1 18) (LateWhere (at 1 31)) ∷ ask (at 1 26) (at 1 35) Early ∷ ask (at 1 35) (at 1 35) Early ∷ ask (at 2 36) (at 2 28) (LateWhere (at 2 40)) ∷ ask (at 2 40) (at 2 40) Early ∷ ask (at 2 54) (at 2 57) Early ∷ ask (at 2 57) (at 2 57) Early ∷ ask (at 2 68) (at 2 72) Early ∷ ask (at 2 72) (at 2 28) Early ∷ ask (at 2 72) (at 2 72) Early ∷ []
unfolding decl_parts
part_0_of_last_of_outer_local k h0 h1 h2 h3 h4 = simp (h0, h1, h2, h3, h4, constraint_steps, rolled_places)

requirements_of_last_of_outer_local : requirements last_of_outer_local ≡ ask (at 1 12) (at 1 18) Early ∷ ask (at 1 18) (at 1 18) (LateWhere (at 1 31)) ∷ ask (at 1 26) (at 1 35) Early ∷ ask (at 1 35) (at 1 35) Early ∷ ask (at 2 36) (at 2 28) (LateWhere (at 2 40)) ∷ ask (at 2 40) (at 2 40) Early ∷ ask (at 2 54) (at 2 57) Early ∷ ask (at 2 57) (at 2 57) Early ∷ ask (at 2 68) (at 2 72) Early ∷ ask (at 2 72) (at 2 28) Early ∷ ask (at 2 72) (at 2 72) Early ∷ []
requirements_of_last_of_outer_local = in_turn last_of_outer_local.names (nth 0 last_of_outer_local.decls) (behind 0 last_of_outer_local.decls) (record { entries = (entry Top (name 1 1 31) ∷ entry Local (name 3 2 28) ∷ entry Top (name 1 2 68) ∷ []); valued = (1 ∷ []); started = (1 ∷ []); broken = [] }) (record { defined = (3 ∷ []); started = (1 ∷ []); anchored = []; settled = (3 ∷ []) }) _ _ outline_0_of_last_of_outer_local given_0_of_last_of_outer_local (part_0_of_last_of_outer_local _ refl refl refl refl refl) refl

pub is_last_of_outer_local_keeps : KeepsInit last_of_outer_local
is_last_of_outer_local_keeps = subst HasLevels (sym requirements_of_last_of_outer_local) (has_levels [] _ refl)

outline_0_of_last_of_inner_local : eqns_outline (nth 0 last_of_inner_local.decls).eqs ≡ record { entries = (entry Top (name 1 1 31) ∷ entry Local (name 2 1 66) ∷ entry Top (name 1 1 84) ∷ []); valued = (1 ∷ []); started = (1 ∷ []); broken = [] }
outline_0_of_last_of_inner_local = simp outline_steps

given_0_of_last_of_inner_local : eqns_given (nth 0 last_of_inner_local.decls).eqs ≡ record { defined = []; started = (1 ∷ []); anchored = []; settled = (2 ∷ []) }
given_0_of_last_of_inner_local = simp given_steps

part_0_of_last_of_inner_local : (k : Known) → k.place 1 ≡ Some (at 1 31) → k.place 2 ≡ Some (at 1 66) → among k.anchored 2 ≡ false → among k.settled 1 ≡ true → among k.settled 2 ≡ true → decl_parts k (record { hybrid = true; handler = false; inside = []; own = (1 ∷ []) }) (nth 0 last_of_inner_local.decls) ≡ ask (at 1 12) (at 1 18) Early ∷ ask (at 1 18) (at 1 18) (LateWhere (at 1 31)) ∷ ask (at 1 26) (at 1 35) Early ∷ ask (at 1 35) (at 1 35) Early ∷ ask (at 1 49) (at 1 52) Early ∷ ask (at 1 52) (at 1 52) Early ∷ ask (at 1 74) (at 1 66) (LateWhere (at 1 78)) ∷ ask (at 1 78) (at 1 78) Early ∷ ask (at 1 84) (at 1 88) Early ∷ ask (at 1 88) (at 1 66) Early ∷ ask (at 1 88) (at 1 88) Late ∷ []
unfolding decl_parts
part_0_of_last_of_inner_local k h0 h1 h2 h3 h4 = simp (h0, h1, h2, h3, h4, constraint_steps, rolled_places)

requirements_of_last_of_inner_local : requirements last_of_inner_local ≡ (ask (at 1 12) (at 1 18) Early ∷ ask (at 1 18) (at 1 18) (LateWhere (at 1 31)) ∷ ask (at 1 26) (at 1 35) Early ∷ ask (at 1 35) (at 1 35) Early ∷ ask (at 1 49) (at 1 52) Early ∷ ask (at 1 52) (at 1 52) Early ∷ ask (at 1 74) (at 1 66) (LateWhere (at 1 78)) ∷ ask (at 1 78) (at 1 78) Early ∷ ask (at 1 84) (at 1 88) Early ∷ ask (at 1 88) (at 1 66) Early ∷ []) ++ (ask (at 1 88) (at 1 88) Late) ∷ []
requirements_of_last_of_inner_local = in_turn last_of_inner_local.names (nth 0 last_of_inner_local.decls) (behind 0 last_of_inner_local.decls) (record { entries = (entry Top (name 1 1 31) ∷ entry Local (name 2 1 66) ∷ entry Top (name 1 1 84) ∷ []); valued = (1 ∷ []); started = (1 ∷ []); broken = [] }) (record { defined = []; started = (1 ∷ []); anchored = []; settled = (2 ∷ []) }) _ _ outline_0_of_last_of_inner_local given_0_of_last_of_inner_local (part_0_of_last_of_inner_local _ refl refl refl refl refl) refl

pub is_last_of_inner_local_breaks : BreaksInit (at 1 88) last_of_inner_local
is_last_of_inner_local_breaks = unmet_at 1 [] (requirements last_of_inner_local) (ask (at 1 12) (at 1 18) Early ∷ ask (at 1 18) (at 1 18) (LateWhere (at 1 31)) ∷ ask (at 1 26) (at 1 35) Early ∷ ask (at 1 35) (at 1 35) Early ∷ ask (at 1 49) (at 1 52) Early ∷ ask (at 1 52) (at 1 52) Early ∷ ask (at 1 74) (at 1 66) (LateWhere (at 1 78)) ∷ ask (at 1 78) (at 1 78) Early ∷ ask (at 1 84) (at 1 88) Early ∷ ask (at 1 88) (at 1 66) Early ∷ []) [] (ask (at 1 88) (at 1 88) Late) requirements_of_last_of_inner_local refl refl

outline_0_of_last_in_node_arm : eqns_outline (nth 0 last_in_node_arm.decls).eqs ≡ record { entries = (entry Top (name 3 1 32) ∷ entry Top (name 2 1 47) ∷ entry Top (name 2 1 75) ∷ []); valued = (3 ∷ 2 ∷ []); started = (2 ∷ []); broken = [] }
outline_0_of_last_in_node_arm = simp outline_steps

given_0_of_last_in_node_arm : eqns_given (nth 0 last_in_node_arm.decls).eqs ≡ record { defined = (3 ∷ []); started = (2 ∷ []); anchored = []; settled = [] }
given_0_of_last_in_node_arm = simp given_steps

part_0_of_last_in_node_arm : (k : Known) → k.place 1 ≡ Some (at 1 12) → k.place 2 ≡ Some (at 1 47) → k.place 3 ≡ Some (at 1 32) → among k.anchored 3 ≡ false → among k.settled 2 ≡ true → among k.settled 3 ≡ true → decl_parts k (record { hybrid = false; handler = false; inside = []; own = (3 ∷ 2 ∷ []) }) (nth 0 last_in_node_arm.decls) ≡ ask (at 1 10) (at 1 24) Early ∷ ask (at 1 12) (at 1 12) Early ∷ ask (at 1 24) (at 1 24) (LateWhere (at 1 47)) ∷ ask (at 1 32) (at 1 32) (LateWhere (at 1 36)) ∷ ask (at 1 36) (at 1 36) Early ∷ ask (at 1 42) (at 1 51) Early ∷ ask (at 1 51) (at 1 51) Early ∷ ask (at 1 65) (at 1 66) Early ∷ ask (at 1 66) (at 1 66) (LateWhere (at 1 12)) ∷ ask (at 1 75) (at 1 79) Early ∷ ask (at 1 79) (at 1 32) Early ∷ ask (at 1 79) (at 1 79) Late ∷ []
unfolding decl_parts
part_0_of_last_in_node_arm k h0 h1 h2 h3 h4 h5 = simp (h0, h1, h2, h3, h4, h5, constraint_steps, rolled_places)

requirements_of_last_in_node_arm : requirements last_in_node_arm ≡ (ask (at 1 10) (at 1 24) Early ∷ ask (at 1 12) (at 1 12) Early ∷ ask (at 1 24) (at 1 24) (LateWhere (at 1 47)) ∷ ask (at 1 32) (at 1 32) (LateWhere (at 1 36)) ∷ ask (at 1 36) (at 1 36) Early ∷ ask (at 1 42) (at 1 51) Early ∷ ask (at 1 51) (at 1 51) Early ∷ ask (at 1 65) (at 1 66) Early ∷ ask (at 1 66) (at 1 66) (LateWhere (at 1 12)) ∷ ask (at 1 75) (at 1 79) Early ∷ ask (at 1 79) (at 1 32) Early ∷ []) ++ (ask (at 1 79) (at 1 79) Late) ∷ []
requirements_of_last_in_node_arm = in_turn last_in_node_arm.names (nth 0 last_in_node_arm.decls) (behind 0 last_in_node_arm.decls) (record { entries = (entry Top (name 3 1 32) ∷ entry Top (name 2 1 47) ∷ entry Top (name 2 1 75) ∷ []); valued = (3 ∷ 2 ∷ []); started = (2 ∷ []); broken = [] }) (record { defined = (3 ∷ []); started = (2 ∷ []); anchored = []; settled = [] }) _ _ outline_0_of_last_in_node_arm given_0_of_last_in_node_arm (part_0_of_last_in_node_arm _ refl refl refl refl refl refl) refl

pub is_last_in_node_arm_breaks : BreaksInit (at 1 79) last_in_node_arm
is_last_in_node_arm_breaks = unmet_at 1 [] (requirements last_in_node_arm) (ask (at 1 10) (at 1 24) Early ∷ ask (at 1 12) (at 1 12) Early ∷ ask (at 1 24) (at 1 24) (LateWhere (at 1 47)) ∷ ask (at 1 32) (at 1 32) (LateWhere (at 1 36)) ∷ ask (at 1 36) (at 1 36) Early ∷ ask (at 1 42) (at 1 51) Early ∷ ask (at 1 51) (at 1 51) Early ∷ ask (at 1 65) (at 1 66) Early ∷ ask (at 1 66) (at 1 66) (LateWhere (at 1 12)) ∷ ask (at 1 75) (at 1 79) Early ∷ ask (at 1 79) (at 1 32) Early ∷ []) [] (ask (at 1 79) (at 1 79) Late) requirements_of_last_in_node_arm refl refl

outline_0_of_last_in_reset_value : eqns_outline (nth 0 last_in_reset_value.decls).eqs ≡ record { entries = (entry Top (name 2 1 26) ∷ entry Top (name 1 1 42) ∷ []); valued = (2 ∷ 1 ∷ []); started = (1 ∷ []); broken = [] }
outline_0_of_last_in_reset_value = simp outline_steps

given_0_of_last_in_reset_value : eqns_given (nth 0 last_in_reset_value.decls).eqs ≡ record { defined = (2 ∷ 1 ∷ []); started = (1 ∷ []); anchored = []; settled = [] }
given_0_of_last_in_reset_value = simp given_steps

part_0_of_last_in_reset_value : (k : Known) → k.place 1 ≡ Some (at 1 42) → k.place 2 ≡ Some (at 1 26) → among k.anchored 2 ≡ false → among k.settled 1 ≡ true → among k.settled 2 ≡ true → decl_parts k (record { hybrid = true; handler = false; inside = []; own = (2 ∷ 1 ∷ []) }) (nth 0 last_in_reset_value.decls) ≡ ask (at 1 12) (at 1 18) Early ∷ ask (at 1 18) (at 1 18) (LateWhere (at 1 42)) ∷ ask (at 1 26) (at 1 26) (LateWhere (at 1 30)) ∷ ask (at 1 30) (at 1 30) Early ∷ ask (at 1 38) (at 1 46) Early ∷ ask (at 1 38) (at 1 55) Early ∷ ask (at 1 38) (at 1 81) Early ∷ ask (at 1 46) (at 1 46) Early ∷ ask (at 1 55) (at 1 55) Early ∷ ask (at 1 65) (at 1 70) Early ∷ ask (at 1 68) (at 1 68) (LateWhere (at 1 42)) ∷ ask (at 1 70) (at 1 70) (LateWhere (at 1 68)) ∷ ask (at 1 70) (at 1 70) (LateWhere (at 1 73)) ∷ ask (at 1 73) (at 1 73) Early ∷ ask (at 1 81) (at 1 26) Early ∷ ask (at 1 81) (at 1 81) Early ∷ []
unfolding decl_parts
part_0_of_last_in_reset_value k h0 h1 h2 h3 h4 = simp (h0, h1, h2, h3, h4, constraint_steps, rolled_places)

requirements_of_last_in_reset_value : requirements last_in_reset_value ≡ ask (at 1 12) (at 1 18) Early ∷ ask (at 1 18) (at 1 18) (LateWhere (at 1 42)) ∷ ask (at 1 26) (at 1 26) (LateWhere (at 1 30)) ∷ ask (at 1 30) (at 1 30) Early ∷ ask (at 1 38) (at 1 46) Early ∷ ask (at 1 38) (at 1 55) Early ∷ ask (at 1 38) (at 1 81) Early ∷ ask (at 1 46) (at 1 46) Early ∷ ask (at 1 55) (at 1 55) Early ∷ ask (at 1 65) (at 1 70) Early ∷ ask (at 1 68) (at 1 68) (LateWhere (at 1 42)) ∷ ask (at 1 70) (at 1 70) (LateWhere (at 1 68)) ∷ ask (at 1 70) (at 1 70) (LateWhere (at 1 73)) ∷ ask (at 1 73) (at 1 73) Early ∷ ask (at 1 81) (at 1 26) Early ∷ ask (at 1 81) (at 1 81) Early ∷ []
requirements_of_last_in_reset_value = in_turn last_in_reset_value.names (nth 0 last_in_reset_value.decls) (behind 0 last_in_reset_value.decls) (record { entries = (entry Top (name 2 1 26) ∷ entry Top (name 1 1 42) ∷ []); valued = (2 ∷ 1 ∷ []); started = (1 ∷ []); broken = [] }) (record { defined = (2 ∷ 1 ∷ []); started = (1 ∷ []); anchored = []; settled = [] }) _ _ outline_0_of_last_in_reset_value given_0_of_last_in_reset_value (part_0_of_last_in_reset_value _ refl refl refl refl refl) refl

pub is_last_in_reset_value_keeps : KeepsInit last_in_reset_value
is_last_in_reset_value_keeps = subst HasLevels (sym requirements_of_last_in_reset_value) (has_levels [] _ refl)

outline_0_of_last_in_start : eqns_outline (nth 0 last_in_start.decls).eqs ≡ record { entries = (entry Top (name 2 1 26) ∷ entry Top (name 1 1 42) ∷ []); valued = (2 ∷ 1 ∷ []); started = (1 ∷ []); broken = [] }
outline_0_of_last_in_start = simp outline_steps

given_0_of_last_in_start : eqns_given (nth 0 last_in_start.decls).eqs ≡ record { defined = (2 ∷ 1 ∷ []); started = (1 ∷ []); anchored = []; settled = [] }
given_0_of_last_in_start = simp given_steps

part_0_of_last_in_start : (k : Known) → k.place 1 ≡ Some (at 1 42) → k.place 2 ≡ Some (at 1 26) → among k.anchored 2 ≡ false → among k.settled 1 ≡ true → among k.settled 2 ≡ true → decl_parts k (record { hybrid = true; handler = false; inside = []; own = (2 ∷ 1 ∷ []) }) (nth 0 last_in_start.decls) ≡ ask (at 1 12) (at 1 18) Early ∷ ask (at 1 18) (at 1 18) (LateWhere (at 1 42)) ∷ ask (at 1 26) (at 1 26) (LateWhere (at 1 30)) ∷ ask (at 1 30) (at 1 30) Early ∷ ask (at 1 38) (at 1 46) Early ∷ ask (at 1 38) (at 1 55) Early ∷ ask (at 1 46) (at 1 46) Early ∷ ask (at 1 55) (at 1 26) Early ∷ ask (at 1 55) (at 1 55) Late ∷ []
unfolding decl_parts
part_0_of_last_in_start k h0 h1 h2 h3 h4 = simp (h0, h1, h2, h3, h4, constraint_steps, rolled_places)

requirements_of_last_in_start : requirements last_in_start ≡ (ask (at 1 12) (at 1 18) Early ∷ ask (at 1 18) (at 1 18) (LateWhere (at 1 42)) ∷ ask (at 1 26) (at 1 26) (LateWhere (at 1 30)) ∷ ask (at 1 30) (at 1 30) Early ∷ ask (at 1 38) (at 1 46) Early ∷ ask (at 1 38) (at 1 55) Early ∷ ask (at 1 46) (at 1 46) Early ∷ ask (at 1 55) (at 1 26) Early ∷ []) ++ (ask (at 1 55) (at 1 55) Late) ∷ []
requirements_of_last_in_start = in_turn last_in_start.names (nth 0 last_in_start.decls) (behind 0 last_in_start.decls) (record { entries = (entry Top (name 2 1 26) ∷ entry Top (name 1 1 42) ∷ []); valued = (2 ∷ 1 ∷ []); started = (1 ∷ []); broken = [] }) (record { defined = (2 ∷ 1 ∷ []); started = (1 ∷ []); anchored = []; settled = [] }) _ _ outline_0_of_last_in_start given_0_of_last_in_start (part_0_of_last_in_start _ refl refl refl refl refl) refl

pub is_last_in_start_breaks : BreaksInit (at 1 55) last_in_start
is_last_in_start_breaks = unmet_at 1 [] (requirements last_in_start) (ask (at 1 12) (at 1 18) Early ∷ ask (at 1 18) (at 1 18) (LateWhere (at 1 42)) ∷ ask (at 1 26) (at 1 26) (LateWhere (at 1 30)) ∷ ask (at 1 30) (at 1 30) Early ∷ ask (at 1 38) (at 1 46) Early ∷ ask (at 1 38) (at 1 55) Early ∷ ask (at 1 46) (at 1 46) Early ∷ ask (at 1 55) (at 1 26) Early ∷ []) [] (ask (at 1 55) (at 1 55) Late) requirements_of_last_in_start refl refl

outline_0_of_late_in_own_list : eqns_outline (nth 0 late_in_own_list.decls).eqs ≡ record { entries = (entry Top (name 2 1 36) ∷ entry Local (name 4 1 71) ∷ entry Top (name 5 1 93) ∷ []); valued = (2 ∷ 5 ∷ []); started = []; broken = [] }
outline_0_of_late_in_own_list = simp outline_steps

given_0_of_late_in_own_list : eqns_given (nth 0 late_in_own_list.decls).eqs ≡ record { defined = (2 ∷ 4 ∷ 5 ∷ []); started = []; anchored = []; settled = (4 ∷ []) }
given_0_of_late_in_own_list = simp given_steps

part_0_of_late_in_own_list : (k : Known) → k.place 1 ≡ Some (at 1 12) → k.place 2 ≡ Some (at 1 36) → k.place 4 ≡ Some (at 1 71) → k.place 5 ≡ Some (at 1 93) → among k.settled 2 ≡ true → among k.settled 4 ≡ true → among k.settled 5 ≡ true → decl_parts k (record { hybrid = false; handler = false; inside = []; own = (2 ∷ 5 ∷ []) }) (nth 0 late_in_own_list.decls) ≡ ask (at 1 10) (at 1 25) Early ∷ ask (at 1 12) (at 1 12) Early ∷ ask (at 1 23) (at 1 23) Early ∷ ask (at 1 25) (at 1 25) (LateWhere (at 1 23)) ∷ ask (at 1 28) (at 1 28) (LateWhere (at 1 36)) ∷ ask (at 1 36) (at 1 36) (LateWhere (at 1 40)) ∷ ask (at 1 40) (at 1 40) Late ∷ ask (at 1 40) (at 1 44) Early ∷ ask (at 1 44) (at 1 44) (LateWhere (at 1 12)) ∷ ask (at 1 79) (at 1 71) (LateWhere (at 1 83)) ∷ ask (at 1 83) (at 1 83) Late ∷ ask (at 1 83) (at 1 87) Early ∷ ask (at 1 87) (at 1 87) (LateWhere (at 1 12)) ∷ ask (at 1 93) (at 1 99) Early ∷ ask (at 1 97) (at 1 97) Early ∷ ask (at 1 99) (at 1 99) (LateWhere (at 1 97)) ∷ ask (at 1 102) (at 1 102) (LateWhere (at 1 71)) ∷ []
unfolding decl_parts
part_0_of_late_in_own_list k h0 h1 h2 h3 h4 h5 h6 = simp (h0, h1, h2, h3, h4, h5, h6, constraint_steps, rolled_places)

requirements_of_late_in_own_list : requirements late_in_own_list ≡ ask (at 1 10) (at 1 25) Early ∷ ask (at 1 12) (at 1 12) Early ∷ ask (at 1 23) (at 1 23) Early ∷ ask (at 1 25) (at 1 25) (LateWhere (at 1 23)) ∷ ask (at 1 28) (at 1 28) (LateWhere (at 1 36)) ∷ ask (at 1 36) (at 1 36) (LateWhere (at 1 40)) ∷ ask (at 1 40) (at 1 40) Late ∷ ask (at 1 40) (at 1 44) Early ∷ ask (at 1 44) (at 1 44) (LateWhere (at 1 12)) ∷ ask (at 1 79) (at 1 71) (LateWhere (at 1 83)) ∷ ask (at 1 83) (at 1 83) Late ∷ ask (at 1 83) (at 1 87) Early ∷ ask (at 1 87) (at 1 87) (LateWhere (at 1 12)) ∷ ask (at 1 93) (at 1 99) Early ∷ ask (at 1 97) (at 1 97) Early ∷ ask (at 1 99) (at 1 99) (LateWhere (at 1 97)) ∷ ask (at 1 102) (at 1 102) (LateWhere (at 1 71)) ∷ []
requirements_of_late_in_own_list = in_turn late_in_own_list.names (nth 0 late_in_own_list.decls) (behind 0 late_in_own_list.decls) (record { entries = (entry Top (name 2 1 36) ∷ entry Local (name 4 1 71) ∷ entry Top (name 5 1 93) ∷ []); valued = (2 ∷ 5 ∷ []); started = []; broken = [] }) (record { defined = (2 ∷ 4 ∷ 5 ∷ []); started = []; anchored = []; settled = (4 ∷ []) }) _ _ outline_0_of_late_in_own_list given_0_of_late_in_own_list (part_0_of_late_in_own_list _ refl refl refl refl refl refl refl) refl

pub is_late_in_own_list_keeps : KeepsInit late_in_own_list
is_late_in_own_list_keeps = subst HasLevels (sym requirements_of_late_in_own_list) (has_levels (at 1 40 ∷ at 1 83 ∷ at 1 36 ∷ at 1 71 ∷ at 1 102 ∷ at 1 28 ∷ []) _ refl)

outline_0_of_late_in_arm : eqns_outline (nth 0 late_in_arm.decls).eqs ≡ record { entries = (entry Top (name 3 1 64) ∷ entry Top (name 3 1 87) ∷ []); valued = (3 ∷ 3 ∷ []); started = []; broken = [] }
outline_0_of_late_in_arm = simp outline_steps

given_0_of_late_in_arm : eqns_given (nth 0 late_in_arm.decls).eqs ≡ record { defined = (3 ∷ []); started = []; anchored = []; settled = [] }
given_0_of_late_in_arm = simp given_steps

part_0_of_late_in_arm : (k : Known) → k.place 1 ≡ Some (at 1 12) → k.place 2 ≡ Some (at 1 21) → k.place 3 ≡ Some (at 1 64) → among k.settled 3 ≡ true → decl_parts k (record { hybrid = false; handler = false; inside = []; own = (3 ∷ []) }) (nth 0 late_in_arm.decls) ≡ ask (at 1 10) (at 1 35) Early ∷ ask (at 1 12) (at 1 12) Early ∷ ask (at 1 21) (at 1 21) Early ∷ ask (at 1 33) (at 1 33) Early ∷ ask (at 1 35) (at 1 35) (LateWhere (at 1 33)) ∷ ask (at 1 38) (at 1 38) (LateWhere (at 1 64)) ∷ ask (at 1 54) (at 1 55) Early ∷ ask (at 1 55) (at 1 55) (LateWhere (at 1 21)) ∷ ask (at 1 64) (at 1 68) Early ∷ ask (at 1 68) (at 1 68) Late ∷ ask (at 1 68) (at 1 72) Early ∷ ask (at 1 72) (at 1 72) (LateWhere (at 1 12)) ∷ ask (at 1 87) (at 1 91) Early ∷ ask (at 1 91) (at 1 91) Early ∷ []
unfolding decl_parts
part_0_of_late_in_arm k h0 h1 h2 h3 = simp (h0, h1, h2, h3, constraint_steps, rolled_places)

requirements_of_late_in_arm : requirements late_in_arm ≡ (ask (at 1 10) (at 1 35) Early ∷ ask (at 1 12) (at 1 12) Early ∷ ask (at 1 21) (at 1 21) Early ∷ ask (at 1 33) (at 1 33) Early ∷ ask (at 1 35) (at 1 35) (LateWhere (at 1 33)) ∷ ask (at 1 38) (at 1 38) (LateWhere (at 1 64)) ∷ ask (at 1 54) (at 1 55) Early ∷ ask (at 1 55) (at 1 55) (LateWhere (at 1 21)) ∷ ask (at 1 64) (at 1 68) Early ∷ []) ++ (ask (at 1 68) (at 1 68) Late) ∷ (ask (at 1 68) (at 1 72) Early ∷ ask (at 1 72) (at 1 72) (LateWhere (at 1 12)) ∷ ask (at 1 87) (at 1 91) Early ∷ ask (at 1 91) (at 1 91) Early ∷ [])
requirements_of_late_in_arm = in_turn late_in_arm.names (nth 0 late_in_arm.decls) (behind 0 late_in_arm.decls) (record { entries = (entry Top (name 3 1 64) ∷ entry Top (name 3 1 87) ∷ []); valued = (3 ∷ 3 ∷ []); started = []; broken = [] }) (record { defined = (3 ∷ []); started = []; anchored = []; settled = [] }) _ _ outline_0_of_late_in_arm given_0_of_late_in_arm (part_0_of_late_in_arm _ refl refl refl refl) refl

pub is_late_in_arm_breaks : BreaksInit (at 1 68) late_in_arm
is_late_in_arm_breaks = unmet_at 1 [] (requirements late_in_arm) (ask (at 1 10) (at 1 35) Early ∷ ask (at 1 12) (at 1 12) Early ∷ ask (at 1 21) (at 1 21) Early ∷ ask (at 1 33) (at 1 33) Early ∷ ask (at 1 35) (at 1 35) (LateWhere (at 1 33)) ∷ ask (at 1 38) (at 1 38) (LateWhere (at 1 64)) ∷ ask (at 1 54) (at 1 55) Early ∷ ask (at 1 55) (at 1 55) (LateWhere (at 1 21)) ∷ ask (at 1 64) (at 1 68) Early ∷ []) (ask (at 1 68) (at 1 72) Early ∷ ask (at 1 72) (at 1 72) (LateWhere (at 1 12)) ∷ ask (at 1 87) (at 1 91) Early ∷ ask (at 1 91) (at 1 91) Early ∷ []) (ask (at 1 68) (at 1 68) Late) requirements_of_late_in_arm refl refl

outline_0_of_late_in_else : eqns_outline (nth 0 late_in_else.decls).eqs ≡ record { entries = (entry Top (name 3 1 64) ∷ entry Top (name 3 1 83) ∷ []); valued = (3 ∷ 3 ∷ []); started = []; broken = [] }
outline_0_of_late_in_else = simp outline_steps

given_0_of_late_in_else : eqns_given (nth 0 late_in_else.decls).eqs ≡ record { defined = (3 ∷ []); started = []; anchored = []; settled = [] }
given_0_of_late_in_else = simp given_steps

part_0_of_late_in_else : (k : Known) → k.place 1 ≡ Some (at 1 12) → k.place 2 ≡ Some (at 1 21) → k.place 3 ≡ Some (at 1 64) → among k.settled 3 ≡ true → decl_parts k (record { hybrid = false; handler = false; inside = []; own = (3 ∷ []) }) (nth 0 late_in_else.decls) ≡ ask (at 1 10) (at 1 35) Early ∷ ask (at 1 12) (at 1 12) Early ∷ ask (at 1 21) (at 1 21) Early ∷ ask (at 1 33) (at 1 33) Early ∷ ask (at 1 35) (at 1 35) (LateWhere (at 1 33)) ∷ ask (at 1 38) (at 1 38) (LateWhere (at 1 64)) ∷ ask (at 1 54) (at 1 55) Early ∷ ask (at 1 55) (at 1 55) (LateWhere (at 1 21)) ∷ ask (at 1 64) (at 1 68) Early ∷ ask (at 1 68) (at 1 68) Early ∷ ask (at 1 83) (at 1 87) Early ∷ ask (at 1 87) (at 1 87) Late ∷ ask (at 1 87) (at 1 91) Early ∷ ask (at 1 91) (at 1 91) (LateWhere (at 1 12)) ∷ []
unfolding decl_parts
part_0_of_late_in_else k h0 h1 h2 h3 = simp (h0, h1, h2, h3, constraint_steps, rolled_places)

requirements_of_late_in_else : requirements late_in_else ≡ (ask (at 1 10) (at 1 35) Early ∷ ask (at 1 12) (at 1 12) Early ∷ ask (at 1 21) (at 1 21) Early ∷ ask (at 1 33) (at 1 33) Early ∷ ask (at 1 35) (at 1 35) (LateWhere (at 1 33)) ∷ ask (at 1 38) (at 1 38) (LateWhere (at 1 64)) ∷ ask (at 1 54) (at 1 55) Early ∷ ask (at 1 55) (at 1 55) (LateWhere (at 1 21)) ∷ ask (at 1 64) (at 1 68) Early ∷ ask (at 1 68) (at 1 68) Early ∷ ask (at 1 83) (at 1 87) Early ∷ []) ++ (ask (at 1 87) (at 1 87) Late) ∷ (ask (at 1 87) (at 1 91) Early ∷ ask (at 1 91) (at 1 91) (LateWhere (at 1 12)) ∷ [])
requirements_of_late_in_else = in_turn late_in_else.names (nth 0 late_in_else.decls) (behind 0 late_in_else.decls) (record { entries = (entry Top (name 3 1 64) ∷ entry Top (name 3 1 83) ∷ []); valued = (3 ∷ 3 ∷ []); started = []; broken = [] }) (record { defined = (3 ∷ []); started = []; anchored = []; settled = [] }) _ _ outline_0_of_late_in_else given_0_of_late_in_else (part_0_of_late_in_else _ refl refl refl refl) refl

pub is_late_in_else_breaks : BreaksInit (at 1 87) late_in_else
is_late_in_else_breaks = unmet_at 1 [] (requirements late_in_else) (ask (at 1 10) (at 1 35) Early ∷ ask (at 1 12) (at 1 12) Early ∷ ask (at 1 21) (at 1 21) Early ∷ ask (at 1 33) (at 1 33) Early ∷ ask (at 1 35) (at 1 35) (LateWhere (at 1 33)) ∷ ask (at 1 38) (at 1 38) (LateWhere (at 1 64)) ∷ ask (at 1 54) (at 1 55) Early ∷ ask (at 1 55) (at 1 55) (LateWhere (at 1 21)) ∷ ask (at 1 64) (at 1 68) Early ∷ ask (at 1 68) (at 1 68) Early ∷ ask (at 1 83) (at 1 87) Early ∷ []) (ask (at 1 87) (at 1 91) Early ∷ ask (at 1 91) (at 1 91) (LateWhere (at 1 12)) ∷ []) (ask (at 1 87) (at 1 87) Late) requirements_of_late_in_else refl refl

outline_0_of_late_in_state : eqns_outline (nth 0 late_in_state.decls).eqs ≡ record { entries = (entry Top (name 2 1 54) ∷ []); valued = (2 ∷ []); started = []; broken = [] }
outline_0_of_late_in_state = simp outline_steps

given_0_of_late_in_state : eqns_given (nth 0 late_in_state.decls).eqs ≡ record { defined = (2 ∷ []); started = []; anchored = []; settled = [] }
given_0_of_late_in_state = simp given_steps

part_0_of_late_in_state : (k : Known) → k.place 1 ≡ Some (at 1 12) → k.place 2 ≡ Some (at 1 54) → among k.settled 2 ≡ true → decl_parts k (record { hybrid = false; handler = false; inside = []; own = (2 ∷ []) }) (nth 0 late_in_state.decls) ≡ ask (at 1 10) (at 1 25) Early ∷ ask (at 1 12) (at 1 12) Early ∷ ask (at 1 23) (at 1 23) Early ∷ ask (at 1 25) (at 1 25) (LateWhere (at 1 23)) ∷ ask (at 1 28) (at 1 28) (LateWhere (at 1 54)) ∷ ask (at 1 54) (at 1 58) Early ∷ ask (at 1 58) (at 1 58) Late ∷ ask (at 1 58) (at 1 62) Early ∷ ask (at 1 62) (at 1 62) (LateWhere (at 1 12)) ∷ []
unfolding decl_parts
part_0_of_late_in_state k h0 h1 h2 = simp (h0, h1, h2, constraint_steps, rolled_places)

requirements_of_late_in_state : requirements late_in_state ≡ (ask (at 1 10) (at 1 25) Early ∷ ask (at 1 12) (at 1 12) Early ∷ ask (at 1 23) (at 1 23) Early ∷ ask (at 1 25) (at 1 25) (LateWhere (at 1 23)) ∷ ask (at 1 28) (at 1 28) (LateWhere (at 1 54)) ∷ ask (at 1 54) (at 1 58) Early ∷ []) ++ (ask (at 1 58) (at 1 58) Late) ∷ (ask (at 1 58) (at 1 62) Early ∷ ask (at 1 62) (at 1 62) (LateWhere (at 1 12)) ∷ [])
requirements_of_late_in_state = in_turn late_in_state.names (nth 0 late_in_state.decls) (behind 0 late_in_state.decls) (record { entries = (entry Top (name 2 1 54) ∷ []); valued = (2 ∷ []); started = []; broken = [] }) (record { defined = (2 ∷ []); started = []; anchored = []; settled = [] }) _ _ outline_0_of_late_in_state given_0_of_late_in_state (part_0_of_late_in_state _ refl refl refl) refl

pub is_late_in_state_breaks : BreaksInit (at 1 58) late_in_state
is_late_in_state_breaks = unmet_at 1 [] (requirements late_in_state) (ask (at 1 10) (at 1 25) Early ∷ ask (at 1 12) (at 1 12) Early ∷ ask (at 1 23) (at 1 23) Early ∷ ask (at 1 25) (at 1 25) (LateWhere (at 1 23)) ∷ ask (at 1 28) (at 1 28) (LateWhere (at 1 54)) ∷ ask (at 1 54) (at 1 58) Early ∷ []) (ask (at 1 58) (at 1 62) Early ∷ ask (at 1 62) (at 1 62) (LateWhere (at 1 12)) ∷ []) (ask (at 1 58) (at 1 58) Late) requirements_of_late_in_state refl refl

outline_0_of_late_in_reset : eqns_outline (nth 0 late_in_reset.decls).eqs ≡ record { entries = (entry Top (name 3 1 52) ∷ []); valued = (3 ∷ []); started = []; broken = [] }
outline_0_of_late_in_reset = simp outline_steps

given_0_of_late_in_reset : eqns_given (nth 0 late_in_reset.decls).eqs ≡ record { defined = (3 ∷ []); started = []; anchored = []; settled = [] }
given_0_of_late_in_reset = simp given_steps

part_0_of_late_in_reset : (k : Known) → k.place 1 ≡ Some (at 1 12) → k.place 2 ≡ Some (at 1 21) → k.place 3 ≡ Some (at 1 52) → among k.settled 3 ≡ true → decl_parts k (record { hybrid = false; handler = false; inside = []; own = (3 ∷ []) }) (nth 0 late_in_reset.decls) ≡ ask (at 1 10) (at 1 35) Early ∷ ask (at 1 12) (at 1 12) Early ∷ ask (at 1 21) (at 1 21) Early ∷ ask (at 1 33) (at 1 33) Early ∷ ask (at 1 35) (at 1 35) (LateWhere (at 1 33)) ∷ ask (at 1 38) (at 1 38) (LateWhere (at 1 52)) ∷ ask (at 1 52) (at 1 56) Early ∷ ask (at 1 56) (at 1 56) Late ∷ ask (at 1 56) (at 1 60) Early ∷ ask (at 1 60) (at 1 60) (LateWhere (at 1 12)) ∷ ask (at 1 68) (at 1 69) Early ∷ ask (at 1 69) (at 1 69) (LateWhere (at 1 21)) ∷ []
unfolding decl_parts
part_0_of_late_in_reset k h0 h1 h2 h3 = simp (h0, h1, h2, h3, constraint_steps, rolled_places)

requirements_of_late_in_reset : requirements late_in_reset ≡ (ask (at 1 10) (at 1 35) Early ∷ ask (at 1 12) (at 1 12) Early ∷ ask (at 1 21) (at 1 21) Early ∷ ask (at 1 33) (at 1 33) Early ∷ ask (at 1 35) (at 1 35) (LateWhere (at 1 33)) ∷ ask (at 1 38) (at 1 38) (LateWhere (at 1 52)) ∷ ask (at 1 52) (at 1 56) Early ∷ []) ++ (ask (at 1 56) (at 1 56) Late) ∷ (ask (at 1 56) (at 1 60) Early ∷ ask (at 1 60) (at 1 60) (LateWhere (at 1 12)) ∷ ask (at 1 68) (at 1 69) Early ∷ ask (at 1 69) (at 1 69) (LateWhere (at 1 21)) ∷ [])
requirements_of_late_in_reset = in_turn late_in_reset.names (nth 0 late_in_reset.decls) (behind 0 late_in_reset.decls) (record { entries = (entry Top (name 3 1 52) ∷ []); valued = (3 ∷ []); started = []; broken = [] }) (record { defined = (3 ∷ []); started = []; anchored = []; settled = [] }) _ _ outline_0_of_late_in_reset given_0_of_late_in_reset (part_0_of_late_in_reset _ refl refl refl refl) refl

pub is_late_in_reset_breaks : BreaksInit (at 1 56) late_in_reset
is_late_in_reset_breaks = unmet_at 1 [] (requirements late_in_reset) (ask (at 1 10) (at 1 35) Early ∷ ask (at 1 12) (at 1 12) Early ∷ ask (at 1 21) (at 1 21) Early ∷ ask (at 1 33) (at 1 33) Early ∷ ask (at 1 35) (at 1 35) (LateWhere (at 1 33)) ∷ ask (at 1 38) (at 1 38) (LateWhere (at 1 52)) ∷ ask (at 1 52) (at 1 56) Early ∷ []) (ask (at 1 56) (at 1 60) Early ∷ ask (at 1 60) (at 1 60) (LateWhere (at 1 12)) ∷ ask (at 1 68) (at 1 69) Early ∷ ask (at 1 69) (at 1 69) (LateWhere (at 1 21)) ∷ []) (ask (at 1 56) (at 1 56) Late) requirements_of_late_in_reset refl refl

outline_0_of_late_local_in_arm : eqns_outline (nth 0 late_local_in_arm.decls).eqs ≡ record { entries = (entry Local (name 3 2 24) ∷ []); valued = []; started = []; broken = [] }
outline_0_of_late_local_in_arm = simp outline_steps

given_0_of_late_local_in_arm : eqns_given (nth 0 late_local_in_arm.decls).eqs ≡ record { defined = []; started = []; anchored = []; settled = (3 ∷ []) }
given_0_of_late_local_in_arm = simp given_steps

part_0_of_late_local_in_arm : (k : Known) → k.place 1 ≡ Some (at 1 12) → k.place 2 ≡ Some (at 1 21) → k.place 3 ≡ Some (at 2 24) → among k.settled 3 ≡ true → decl_parts k (record { hybrid = false; handler = false; inside = []; own = [] }) (nth 0 late_local_in_arm.decls) ≡ ask (at 1 10) (at 1 33) Early ∷ ask (at 1 12) (at 1 12) Early ∷ ask (at 1 21) (at 1 21) Early ∷ ask (at 1 33) (at 1 33) (LateWhere (at 1 12)) ∷ ask (at 2 11) (at 2 12) Early ∷ ask (at 2 12) (at 2 12) (LateWhere (at 1 21)) ∷ ask (at 2 40) (at 2 41) Early ∷ ask (at 2 41) (at 2 41) (LateWhere (at 1 21)) ∷ ask (at 2 50) (at 2 54) Early ∷ ask (at 2 54) (at 2 54) Late ∷ ask (at 2 54) (at 2 58) Early ∷ ask (at 2 58) (at 2 58) (LateWhere (at 1 12)) ∷ ask (at 2 73) (at 2 77) Early ∷ ask (at 2 77) (at 2 77) Early ∷ []
unfolding decl_parts
part_0_of_late_local_in_arm k h0 h1 h2 h3 = simp (h0, h1, h2, h3, constraint_steps, rolled_places)

requirements_of_late_local_in_arm : requirements late_local_in_arm ≡ (ask (at 1 10) (at 1 33) Early ∷ ask (at 1 12) (at 1 12) Early ∷ ask (at 1 21) (at 1 21) Early ∷ ask (at 1 33) (at 1 33) (LateWhere (at 1 12)) ∷ ask (at 2 11) (at 2 12) Early ∷ ask (at 2 12) (at 2 12) (LateWhere (at 1 21)) ∷ ask (at 2 40) (at 2 41) Early ∷ ask (at 2 41) (at 2 41) (LateWhere (at 1 21)) ∷ ask (at 2 50) (at 2 54) Early ∷ []) ++ (ask (at 2 54) (at 2 54) Late) ∷ (ask (at 2 54) (at 2 58) Early ∷ ask (at 2 58) (at 2 58) (LateWhere (at 1 12)) ∷ ask (at 2 73) (at 2 77) Early ∷ ask (at 2 77) (at 2 77) Early ∷ [])
requirements_of_late_local_in_arm = in_turn late_local_in_arm.names (nth 0 late_local_in_arm.decls) (behind 0 late_local_in_arm.decls) (record { entries = (entry Local (name 3 2 24) ∷ []); valued = []; started = []; broken = [] }) (record { defined = []; started = []; anchored = []; settled = (3 ∷ []) }) _ _ outline_0_of_late_local_in_arm given_0_of_late_local_in_arm (part_0_of_late_local_in_arm _ refl refl refl refl) refl

pub is_late_local_in_arm_breaks : BreaksInit (at 2 54) late_local_in_arm
is_late_local_in_arm_breaks = unmet_at 1 [] (requirements late_local_in_arm) (ask (at 1 10) (at 1 33) Early ∷ ask (at 1 12) (at 1 12) Early ∷ ask (at 1 21) (at 1 21) Early ∷ ask (at 1 33) (at 1 33) (LateWhere (at 1 12)) ∷ ask (at 2 11) (at 2 12) Early ∷ ask (at 2 12) (at 2 12) (LateWhere (at 1 21)) ∷ ask (at 2 40) (at 2 41) Early ∷ ask (at 2 41) (at 2 41) (LateWhere (at 1 21)) ∷ ask (at 2 50) (at 2 54) Early ∷ []) (ask (at 2 54) (at 2 58) Early ∷ ask (at 2 58) (at 2 58) (LateWhere (at 1 12)) ∷ ask (at 2 73) (at 2 77) Early ∷ ask (at 2 77) (at 2 77) Early ∷ []) (ask (at 2 54) (at 2 54) Late) requirements_of_late_local_in_arm refl refl

outline_0_of_early_init : eqns_outline (nth 0 early_init.decls).eqs ≡ record { entries = (entry Top (name 2 1 36) ∷ []); valued = []; started = (2 ∷ []); broken = [] }
outline_0_of_early_init = simp outline_steps

given_0_of_early_init : eqns_given (nth 0 early_init.decls).eqs ≡ record { defined = []; started = (2 ∷ []); anchored = []; settled = [] }
given_0_of_early_init = simp given_steps

part_0_of_early_init : (k : Known) → k.place 1 ≡ Some (at 1 12) → k.place 2 ≡ Some (at 1 36) → among k.settled 2 ≡ true → decl_parts k (record { hybrid = false; handler = false; inside = []; own = (2 ∷ []) }) (nth 0 early_init.decls) ≡ ask (at 1 10) (at 1 23) Early ∷ ask (at 1 12) (at 1 12) Early ∷ ask (at 1 23) (at 1 23) (LateWhere (at 1 36)) ∷ ask (at 1 31) (at 1 40) Early ∷ ask (at 1 40) (at 1 40) (LateWhere (at 1 12)) ∷ []
unfolding decl_parts
part_0_of_early_init k h0 h1 h2 = simp (h0, h1, h2, constraint_steps, rolled_places)

requirements_of_early_init : requirements early_init ≡ ask (at 1 10) (at 1 23) Early ∷ ask (at 1 12) (at 1 12) Early ∷ ask (at 1 23) (at 1 23) (LateWhere (at 1 36)) ∷ ask (at 1 31) (at 1 40) Early ∷ ask (at 1 40) (at 1 40) (LateWhere (at 1 12)) ∷ []
requirements_of_early_init = in_turn early_init.names (nth 0 early_init.decls) (behind 0 early_init.decls) (record { entries = (entry Top (name 2 1 36) ∷ []); valued = []; started = (2 ∷ []); broken = [] }) (record { defined = []; started = (2 ∷ []); anchored = []; settled = [] }) _ _ outline_0_of_early_init given_0_of_early_init (part_0_of_early_init _ refl refl refl) refl

pub is_early_init_keeps : KeepsInit early_init
is_early_init_keeps = subst HasLevels (sym requirements_of_early_init) (has_levels [] _ refl)

outline_0_of_late_init : eqns_outline (nth 0 late_init.decls).eqs ≡ record { entries = (entry Top (name 3 1 31) ∷ entry Top (name 2 1 50) ∷ []); valued = (3 ∷ []); started = (2 ∷ []); broken = [] }
outline_0_of_late_init = simp outline_steps

given_0_of_late_init : eqns_given (nth 0 late_init.decls).eqs ≡ record { defined = (3 ∷ []); started = (2 ∷ []); anchored = []; settled = [] }
given_0_of_late_init = simp given_steps

part_0_of_late_init : (k : Known) → k.place 1 ≡ Some (at 1 12) → k.place 2 ≡ Some (at 1 50) → k.place 3 ≡ Some (at 1 31) → among k.settled 2 ≡ true → among k.settled 3 ≡ true → decl_parts k (record { hybrid = false; handler = false; inside = []; own = (3 ∷ 2 ∷ []) }) (nth 0 late_init.decls) ≡ ask (at 1 10) (at 1 23) Early ∷ ask (at 1 12) (at 1 12) Early ∷ ask (at 1 23) (at 1 23) (LateWhere (at 1 50)) ∷ ask (at 1 31) (at 1 31) (LateWhere (at 1 35)) ∷ ask (at 1 35) (at 1 35) Late ∷ ask (at 1 35) (at 1 39) Early ∷ ask (at 1 39) (at 1 39) (LateWhere (at 1 12)) ∷ ask (at 1 45) (at 1 54) Early ∷ ask (at 1 54) (at 1 54) (LateWhere (at 1 31)) ∷ []
unfolding decl_parts
part_0_of_late_init k h0 h1 h2 h3 h4 = simp (h0, h1, h2, h3, h4, constraint_steps, rolled_places)

requirements_of_late_init : requirements late_init ≡ (ask (at 1 10) (at 1 23) Early ∷ ask (at 1 12) (at 1 12) Early ∷ ask (at 1 23) (at 1 23) (LateWhere (at 1 50)) ∷ ask (at 1 31) (at 1 31) (LateWhere (at 1 35)) ∷ ask (at 1 35) (at 1 35) Late ∷ ask (at 1 35) (at 1 39) Early ∷ ask (at 1 39) (at 1 39) (LateWhere (at 1 12)) ∷ ask (at 1 45) (at 1 54) Early ∷ []) ++ (ask (at 1 54) (at 1 54) (LateWhere (at 1 31))) ∷ []
requirements_of_late_init = in_turn late_init.names (nth 0 late_init.decls) (behind 0 late_init.decls) (record { entries = (entry Top (name 3 1 31) ∷ entry Top (name 2 1 50) ∷ []); valued = (3 ∷ []); started = (2 ∷ []); broken = [] }) (record { defined = (3 ∷ []); started = (2 ∷ []); anchored = []; settled = [] }) _ _ outline_0_of_late_init given_0_of_late_init (part_0_of_late_init _ refl refl refl refl refl) refl

pub is_late_init_breaks : BreaksInit (at 1 54) late_init
is_late_init_breaks = unmet_at 2 (at 1 35 ∷ at 1 31 ∷ []) (requirements late_init) (ask (at 1 10) (at 1 23) Early ∷ ask (at 1 12) (at 1 12) Early ∷ ask (at 1 23) (at 1 23) (LateWhere (at 1 50)) ∷ ask (at 1 31) (at 1 31) (LateWhere (at 1 35)) ∷ ask (at 1 35) (at 1 35) Late ∷ ask (at 1 35) (at 1 39) Early ∷ ask (at 1 39) (at 1 39) (LateWhere (at 1 12)) ∷ ask (at 1 45) (at 1 54) Early ∷ []) [] (ask (at 1 54) (at 1 54) (LateWhere (at 1 31))) requirements_of_late_init refl refl

outline_0_of_early_tests : eqns_outline (nth 0 early_tests.decls).eqs ≡ record { entries = (entry Top (name 3 2 56) ∷ []); valued = (3 ∷ []); started = []; broken = [] }
outline_0_of_early_tests = simp outline_steps

given_0_of_early_tests : eqns_given (nth 0 early_tests.decls).eqs ≡ record { defined = (3 ∷ []); started = []; anchored = []; settled = [] }
given_0_of_early_tests = simp given_steps

part_0_of_early_tests : (k : Known) → k.place 1 ≡ Some (at 1 12) → k.place 3 ≡ Some (at 2 56) → among k.settled 3 ≡ true → decl_parts k (record { hybrid = false; handler = false; inside = []; own = (3 ∷ []) }) (nth 0 early_tests.decls) ≡ ask (at 1 10) (at 1 24) Early ∷ ask (at 1 12) (at 1 12) Early ∷ ask (at 1 24) (at 1 24) (LateWhere (at 1 12)) ∷ ask (at 1 40) (at 1 41) Early ∷ ask (at 1 41) (at 1 41) (LateWhere (at 1 12)) ∷ ask (at 2 31) (at 2 32) Early ∷ ask (at 2 32) (at 2 32) (LateWhere (at 1 12)) ∷ ask (at 2 56) (at 2 60) Early ∷ ask (at 2 60) (at 2 60) Early ∷ ask (at 2 68) (at 2 69) Early ∷ ask (at 2 69) (at 2 69) (LateWhere (at 1 12)) ∷ []
unfolding decl_parts
part_0_of_early_tests k h0 h1 h2 = simp (h0, h1, h2, constraint_steps, rolled_places)

requirements_of_early_tests : requirements early_tests ≡ ask (at 1 10) (at 1 24) Early ∷ ask (at 1 12) (at 1 12) Early ∷ ask (at 1 24) (at 1 24) (LateWhere (at 1 12)) ∷ ask (at 1 40) (at 1 41) Early ∷ ask (at 1 41) (at 1 41) (LateWhere (at 1 12)) ∷ ask (at 2 31) (at 2 32) Early ∷ ask (at 2 32) (at 2 32) (LateWhere (at 1 12)) ∷ ask (at 2 56) (at 2 60) Early ∷ ask (at 2 60) (at 2 60) Early ∷ ask (at 2 68) (at 2 69) Early ∷ ask (at 2 69) (at 2 69) (LateWhere (at 1 12)) ∷ []
requirements_of_early_tests = in_turn early_tests.names (nth 0 early_tests.decls) (behind 0 early_tests.decls) (record { entries = (entry Top (name 3 2 56) ∷ []); valued = (3 ∷ []); started = []; broken = [] }) (record { defined = (3 ∷ []); started = []; anchored = []; settled = [] }) _ _ outline_0_of_early_tests given_0_of_early_tests (part_0_of_early_tests _ refl refl refl) refl

pub is_early_tests_keeps : KeepsInit early_tests
is_early_tests_keeps = subst HasLevels (sym requirements_of_early_tests) (has_levels [] _ refl)

outline_0_of_late_present : eqns_outline (nth 0 late_present.decls).eqs ≡ record { entries = (entry Top (name 2 1 32) ∷ []); valued = (2 ∷ []); started = []; broken = [] }
outline_0_of_late_present = simp outline_steps

given_0_of_late_present : eqns_given (nth 0 late_present.decls).eqs ≡ record { defined = (2 ∷ []); started = []; anchored = []; settled = [] }
given_0_of_late_present = simp given_steps

part_0_of_late_present : (k : Known) → k.place 1 ≡ Some (at 1 12) → k.place 2 ≡ Some (at 1 32) → among k.settled 2 ≡ true → decl_parts k (record { hybrid = false; handler = false; inside = []; own = (2 ∷ []) }) (nth 0 late_present.decls) ≡ ask (at 1 10) (at 1 24) Early ∷ ask (at 1 12) (at 1 12) Early ∷ ask (at 1 24) (at 1 24) (LateWhere (at 1 12)) ∷ ask (at 1 32) (at 1 32) (LateWhere (at 1 36)) ∷ ask (at 1 36) (at 1 36) Late ∷ ask (at 1 36) (at 1 40) Early ∷ ask (at 1 40) (at 1 40) (LateWhere (at 1 12)) ∷ ask (at 1 54) (at 1 55) Early ∷ ask (at 1 55) (at 1 55) (LateWhere (at 1 32)) ∷ []
unfolding decl_parts
part_0_of_late_present k h0 h1 h2 = simp (h0, h1, h2, constraint_steps, rolled_places)

requirements_of_late_present : requirements late_present ≡ (ask (at 1 10) (at 1 24) Early ∷ ask (at 1 12) (at 1 12) Early ∷ ask (at 1 24) (at 1 24) (LateWhere (at 1 12)) ∷ ask (at 1 32) (at 1 32) (LateWhere (at 1 36)) ∷ ask (at 1 36) (at 1 36) Late ∷ ask (at 1 36) (at 1 40) Early ∷ ask (at 1 40) (at 1 40) (LateWhere (at 1 12)) ∷ ask (at 1 54) (at 1 55) Early ∷ []) ++ (ask (at 1 55) (at 1 55) (LateWhere (at 1 32))) ∷ []
requirements_of_late_present = in_turn late_present.names (nth 0 late_present.decls) (behind 0 late_present.decls) (record { entries = (entry Top (name 2 1 32) ∷ []); valued = (2 ∷ []); started = []; broken = [] }) (record { defined = (2 ∷ []); started = []; anchored = []; settled = [] }) _ _ outline_0_of_late_present given_0_of_late_present (part_0_of_late_present _ refl refl refl) refl

pub is_late_present_breaks : BreaksInit (at 1 55) late_present
is_late_present_breaks = unmet_at 2 (at 1 36 ∷ at 1 32 ∷ []) (requirements late_present) (ask (at 1 10) (at 1 24) Early ∷ ask (at 1 12) (at 1 12) Early ∷ ask (at 1 24) (at 1 24) (LateWhere (at 1 12)) ∷ ask (at 1 32) (at 1 32) (LateWhere (at 1 36)) ∷ ask (at 1 36) (at 1 36) Late ∷ ask (at 1 36) (at 1 40) Early ∷ ask (at 1 40) (at 1 40) (LateWhere (at 1 12)) ∷ ask (at 1 54) (at 1 55) Early ∷ []) [] (ask (at 1 55) (at 1 55) (LateWhere (at 1 32))) requirements_of_late_present refl refl

outline_0_of_late_until : eqns_outline (nth 0 late_until.decls).eqs ≡ record { entries = (entry Top (name 2 1 32) ∷ []); valued = (2 ∷ []); started = []; broken = [] }
outline_0_of_late_until = simp outline_steps

given_0_of_late_until : eqns_given (nth 0 late_until.decls).eqs ≡ record { defined = (2 ∷ []); started = []; anchored = []; settled = [] }
given_0_of_late_until = simp given_steps

part_0_of_late_until : (k : Known) → k.place 1 ≡ Some (at 1 12) → k.place 2 ≡ Some (at 1 32) → among k.settled 2 ≡ true → decl_parts k (record { hybrid = false; handler = false; inside = []; own = (2 ∷ []) }) (nth 0 late_until.decls) ≡ ask (at 1 10) (at 1 24) Early ∷ ask (at 1 12) (at 1 12) Early ∷ ask (at 1 24) (at 1 24) (LateWhere (at 1 12)) ∷ ask (at 1 32) (at 1 32) (LateWhere (at 1 36)) ∷ ask (at 1 36) (at 1 36) Late ∷ ask (at 1 36) (at 1 40) Early ∷ ask (at 1 40) (at 1 40) (LateWhere (at 1 12)) ∷ ask (at 1 70) (at 1 71) Early ∷ ask (at 1 71) (at 1 71) (LateWhere (at 1 32)) ∷ []
unfolding decl_parts
part_0_of_late_until k h0 h1 h2 = simp (h0, h1, h2, constraint_steps, rolled_places)

requirements_of_late_until : requirements late_until ≡ (ask (at 1 10) (at 1 24) Early ∷ ask (at 1 12) (at 1 12) Early ∷ ask (at 1 24) (at 1 24) (LateWhere (at 1 12)) ∷ ask (at 1 32) (at 1 32) (LateWhere (at 1 36)) ∷ ask (at 1 36) (at 1 36) Late ∷ ask (at 1 36) (at 1 40) Early ∷ ask (at 1 40) (at 1 40) (LateWhere (at 1 12)) ∷ ask (at 1 70) (at 1 71) Early ∷ []) ++ (ask (at 1 71) (at 1 71) (LateWhere (at 1 32))) ∷ []
requirements_of_late_until = in_turn late_until.names (nth 0 late_until.decls) (behind 0 late_until.decls) (record { entries = (entry Top (name 2 1 32) ∷ []); valued = (2 ∷ []); started = []; broken = [] }) (record { defined = (2 ∷ []); started = []; anchored = []; settled = [] }) _ _ outline_0_of_late_until given_0_of_late_until (part_0_of_late_until _ refl refl refl) refl

pub is_late_until_breaks : BreaksInit (at 1 71) late_until
is_late_until_breaks = unmet_at 2 (at 1 36 ∷ at 1 32 ∷ []) (requirements late_until) (ask (at 1 10) (at 1 24) Early ∷ ask (at 1 12) (at 1 12) Early ∷ ask (at 1 24) (at 1 24) (LateWhere (at 1 12)) ∷ ask (at 1 32) (at 1 32) (LateWhere (at 1 36)) ∷ ask (at 1 36) (at 1 36) Late ∷ ask (at 1 36) (at 1 40) Early ∷ ask (at 1 40) (at 1 40) (LateWhere (at 1 12)) ∷ ask (at 1 70) (at 1 71) Early ∷ []) [] (ask (at 1 71) (at 1 71) (LateWhere (at 1 32))) requirements_of_late_until refl refl

outline_0_of_late_unless : eqns_outline (nth 0 late_unless.decls).eqs ≡ record { entries = (entry Top (name 2 1 32) ∷ []); valued = (2 ∷ []); started = []; broken = [] }
outline_0_of_late_unless = simp outline_steps

given_0_of_late_unless : eqns_given (nth 0 late_unless.decls).eqs ≡ record { defined = (2 ∷ []); started = []; anchored = []; settled = [] }
given_0_of_late_unless = simp given_steps

part_0_of_late_unless : (k : Known) → k.place 1 ≡ Some (at 1 12) → k.place 2 ≡ Some (at 1 32) → among k.settled 2 ≡ true → decl_parts k (record { hybrid = false; handler = false; inside = []; own = (2 ∷ []) }) (nth 0 late_unless.decls) ≡ ask (at 1 10) (at 1 24) Early ∷ ask (at 1 12) (at 1 12) Early ∷ ask (at 1 24) (at 1 24) (LateWhere (at 1 12)) ∷ ask (at 1 32) (at 1 32) (LateWhere (at 1 36)) ∷ ask (at 1 36) (at 1 36) Late ∷ ask (at 1 36) (at 1 40) Early ∷ ask (at 1 40) (at 1 40) (LateWhere (at 1 12)) ∷ ask (at 1 71) (at 1 72) Early ∷ ask (at 1 72) (at 1 72) (LateWhere (at 1 32)) ∷ []
unfolding decl_parts
part_0_of_late_unless k h0 h1 h2 = simp (h0, h1, h2, constraint_steps, rolled_places)

requirements_of_late_unless : requirements late_unless ≡ (ask (at 1 10) (at 1 24) Early ∷ ask (at 1 12) (at 1 12) Early ∷ ask (at 1 24) (at 1 24) (LateWhere (at 1 12)) ∷ ask (at 1 32) (at 1 32) (LateWhere (at 1 36)) ∷ ask (at 1 36) (at 1 36) Late ∷ ask (at 1 36) (at 1 40) Early ∷ ask (at 1 40) (at 1 40) (LateWhere (at 1 12)) ∷ ask (at 1 71) (at 1 72) Early ∷ []) ++ (ask (at 1 72) (at 1 72) (LateWhere (at 1 32))) ∷ []
requirements_of_late_unless = in_turn late_unless.names (nth 0 late_unless.decls) (behind 0 late_unless.decls) (record { entries = (entry Top (name 2 1 32) ∷ []); valued = (2 ∷ []); started = []; broken = [] }) (record { defined = (2 ∷ []); started = []; anchored = []; settled = [] }) _ _ outline_0_of_late_unless given_0_of_late_unless (part_0_of_late_unless _ refl refl refl) refl

pub is_late_unless_breaks : BreaksInit (at 1 72) late_unless
is_late_unless_breaks = unmet_at 2 (at 1 36 ∷ at 1 32 ∷ []) (requirements late_unless) (ask (at 1 10) (at 1 24) Early ∷ ask (at 1 12) (at 1 12) Early ∷ ask (at 1 24) (at 1 24) (LateWhere (at 1 12)) ∷ ask (at 1 32) (at 1 32) (LateWhere (at 1 36)) ∷ ask (at 1 36) (at 1 36) Late ∷ ask (at 1 36) (at 1 40) Early ∷ ask (at 1 40) (at 1 40) (LateWhere (at 1 12)) ∷ ask (at 1 71) (at 1 72) Early ∷ []) [] (ask (at 1 72) (at 1 72) (LateWhere (at 1 32))) requirements_of_late_unless refl refl
