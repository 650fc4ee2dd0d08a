-- The worked programs of ExpressionLevelsWorked, by computation of their constraints: the first of them.
use Rattle.std.proofs.Common.{◌≡◌, true, false, [], ◌∷◌, ◌++◌, Some, None, refl, sym, subst}
use Rattle.zl_ast.specs.declared.constraint.Asked.TheVariants.{Early, Late, LateWhere}
use Rattle.zl_ast.specs.declared.scope.VarClass.TheVariants.{Top}
use Rattle.zl_ast.specs.Names.{among, is_built_in}
use Rattle.zl_ast.specs.NamesDefined.{entry, eqns_outline}
use Rattle.zl_ast.specs.Anchored.{eqns_given}
use Rattle.zl_ast.specs.Levels.{HasLevels}
use Rattle.zl_ast.specs.Initialised.{Known, ask, decl_parts, requirements}
use Rattle.zl_ast.specs.WorkedTrees.{at, name}
use Rattle.zl_ast.specs.Verdicts.{KeepsInit, BreaksInit}
use Rattle.zl_ast.specs.ExpressionLevelsWorked.{early_parts, late_result, second_late_result, late_operands, late_right_operand, late_left_operand, late_first_operand, late_under_minus, early_if, late_condition, late_branch, late_other_branch, calls_early, late_built_in}
use Rattle.zl_ast.proofs.NamesSteps.{outline_steps, rolled_places}
use Rattle.zl_ast.proofs.ConstraintSteps.{given_steps, constraint_steps}
use Rattle.zl_ast.proofs.InTurn.{nth, behind, in_turn}
use Rattle.zl_ast.proofs.LevelsByList.{has_levels, unmet_at}

part_0_of_early_parts : (k : Known) → decl_parts k (record { hybrid = false; handler = false; inside = []; own = [] }) (nth 0 early_parts.decls) ≡ ask (at 1 5) (at 1 9) Early ∷ ask (at 1 9) (at 1 9) Early ∷ []
unfolding decl_parts
part_0_of_early_parts k = simp (constraint_steps, rolled_places)

part_1_of_early_parts : (k : Known) → k.place 2 ≡ Some (at 2 12) → decl_parts k (record { hybrid = false; handler = false; inside = []; own = [] }) (nth 1 early_parts.decls) ≡ ask (at 2 10) (at 2 25) Early ∷ ask (at 2 12) (at 2 12) Early ∷ ask (at 2 23) (at 2 23) Early ∷ ask (at 2 25) (at 2 25) (LateWhere (at 2 23)) ∷ ask (at 2 28) (at 2 28) Late ∷ ask (at 2 28) (at 2 32) Early ∷ ask (at 2 32) (at 2 32) (LateWhere (at 2 12)) ∷ []
unfolding decl_parts
part_1_of_early_parts k h0 = simp (h0, constraint_steps, rolled_places)

part_2_of_early_parts : (k : Known) → k.place 0 ≡ None → k.place 2 ≡ Some (at 3 12) → is_built_in k.names 1 ≡ false → decl_parts k (record { hybrid = false; handler = false; inside = []; own = [] }) (nth 2 early_parts.decls) ≡ ask (at 3 10) (at 3 28) Early ∷ ask (at 3 12) (at 3 12) Early ∷ ask (at 3 23) (at 3 23) Early ∷ ask (at 3 23) (at 3 25) Early ∷ ask (at 3 25) (at 3 25) (LateWhere (at 3 12)) ∷ ask (at 3 28) (at 3 28) (LateWhere (at 3 23)) ∷ ask (at 3 28) (at 3 28) (LateWhere (at 3 30)) ∷ ask (at 3 30) (at 3 30) Early ∷ []
unfolding decl_parts
part_2_of_early_parts k h0 h1 h2 = simp (h0, h1, h2, constraint_steps, rolled_places)

requirements_of_early_parts : requirements early_parts ≡ ask (at 1 5) (at 1 9) Early ∷ ask (at 1 9) (at 1 9) Early ∷ ask (at 2 10) (at 2 25) Early ∷ ask (at 2 12) (at 2 12) Early ∷ ask (at 2 23) (at 2 23) Early ∷ ask (at 2 25) (at 2 25) (LateWhere (at 2 23)) ∷ ask (at 2 28) (at 2 28) Late ∷ ask (at 2 28) (at 2 32) Early ∷ ask (at 2 32) (at 2 32) (LateWhere (at 2 12)) ∷ ask (at 3 10) (at 3 28) Early ∷ ask (at 3 12) (at 3 12) Early ∷ ask (at 3 23) (at 3 23) Early ∷ ask (at 3 23) (at 3 25) Early ∷ ask (at 3 25) (at 3 25) (LateWhere (at 3 12)) ∷ ask (at 3 28) (at 3 28) (LateWhere (at 3 23)) ∷ ask (at 3 28) (at 3 28) (LateWhere (at 3 30)) ∷ ask (at 3 30) (at 3 30) Early ∷ []
requirements_of_early_parts = in_turn early_parts.names (nth 0 early_parts.decls) (behind 0 early_parts.decls) (record { entries = []; valued = []; started = []; broken = [] }) (record { defined = []; started = []; anchored = []; settled = [] }) _ _ refl refl (part_0_of_early_parts _) (in_turn early_parts.names (nth 1 early_parts.decls) (behind 1 early_parts.decls) (record { entries = []; valued = []; started = []; broken = [] }) (record { defined = []; started = []; anchored = []; settled = [] }) _ _ refl refl (part_1_of_early_parts _ refl) (in_turn early_parts.names (nth 2 early_parts.decls) (behind 2 early_parts.decls) (record { entries = []; valued = []; started = []; broken = [] }) (record { defined = []; started = []; anchored = []; settled = [] }) _ _ refl refl (part_2_of_early_parts _ refl refl refl) refl))

pub is_early_parts_keeps : KeepsInit early_parts
is_early_parts_keeps = subst HasLevels (sym requirements_of_early_parts) (has_levels (at 2 28 ∷ []) _ refl)

part_0_of_late_result : (k : Known) → k.place 1 ≡ Some (at 1 12) → decl_parts k (record { hybrid = false; handler = false; inside = []; own = [] }) (nth 0 late_result.decls) ≡ ask (at 1 10) (at 1 23) Early ∷ ask (at 1 12) (at 1 12) Early ∷ ask (at 1 23) (at 1 23) Late ∷ ask (at 1 23) (at 1 27) Early ∷ ask (at 1 27) (at 1 27) (LateWhere (at 1 12)) ∷ []
unfolding decl_parts
part_0_of_late_result k h0 = simp (h0, constraint_steps, rolled_places)

requirements_of_late_result : requirements late_result ≡ (ask (at 1 10) (at 1 23) Early ∷ ask (at 1 12) (at 1 12) Early ∷ []) ++ (ask (at 1 23) (at 1 23) Late) ∷ (ask (at 1 23) (at 1 27) Early ∷ ask (at 1 27) (at 1 27) (LateWhere (at 1 12)) ∷ [])
requirements_of_late_result = in_turn late_result.names (nth 0 late_result.decls) (behind 0 late_result.decls) (record { entries = []; valued = []; started = []; broken = [] }) (record { defined = []; started = []; anchored = []; settled = [] }) _ _ refl refl (part_0_of_late_result _ refl) refl

pub is_late_result_breaks : BreaksInit (at 1 23) late_result
is_late_result_breaks = unmet_at 1 [] (requirements late_result) (ask (at 1 10) (at 1 23) Early ∷ ask (at 1 12) (at 1 12) Early ∷ []) (ask (at 1 23) (at 1 27) Early ∷ ask (at 1 27) (at 1 27) (LateWhere (at 1 12)) ∷ []) (ask (at 1 23) (at 1 23) Late) requirements_of_late_result refl refl

outline_0_of_second_late_result : eqns_outline (nth 0 second_late_result.decls).eqs ≡ record { entries = (entry Top (name 2 1 36) ∷ []); valued = (2 ∷ []); started = []; broken = [] }
outline_0_of_second_late_result = simp outline_steps

given_0_of_second_late_result : eqns_given (nth 0 second_late_result.decls).eqs ≡ record { defined = (2 ∷ []); started = []; anchored = []; settled = [] }
given_0_of_second_late_result = simp given_steps

part_0_of_second_late_result : (k : Known) → k.place 1 ≡ Some (at 1 12) → k.place 2 ≡ Some (at 1 36) → among k.settled 2 ≡ true → decl_parts k (record { hybrid = false; handler = false; inside = []; own = (2 ∷ []) }) (nth 0 second_late_result.decls) ≡ ask (at 1 10) (at 1 24) Early ∷ ask (at 1 10) (at 1 27) Early ∷ ask (at 1 12) (at 1 12) Early ∷ ask (at 1 24) (at 1 24) (LateWhere (at 1 12)) ∷ ask (at 1 27) (at 1 27) (LateWhere (at 1 36)) ∷ ask (at 1 36) (at 1 36) (LateWhere (at 1 40)) ∷ ask (at 1 40) (at 1 40) Late ∷ ask (at 1 40) (at 1 44) Early ∷ ask (at 1 44) (at 1 44) (LateWhere (at 1 12)) ∷ []
unfolding decl_parts
part_0_of_second_late_result k h0 h1 h2 = simp (h0, h1, h2, constraint_steps, rolled_places)

requirements_of_second_late_result : requirements second_late_result ≡ (ask (at 1 10) (at 1 24) Early ∷ ask (at 1 10) (at 1 27) Early ∷ ask (at 1 12) (at 1 12) Early ∷ ask (at 1 24) (at 1 24) (LateWhere (at 1 12)) ∷ ask (at 1 27) (at 1 27) (LateWhere (at 1 36)) ∷ ask (at 1 36) (at 1 36) (LateWhere (at 1 40)) ∷ []) ++ (ask (at 1 40) (at 1 40) Late) ∷ (ask (at 1 40) (at 1 44) Early ∷ ask (at 1 44) (at 1 44) (LateWhere (at 1 12)) ∷ [])
requirements_of_second_late_result = in_turn second_late_result.names (nth 0 second_late_result.decls) (behind 0 second_late_result.decls) (record { entries = (entry Top (name 2 1 36) ∷ []); valued = (2 ∷ []); started = []; broken = [] }) (record { defined = (2 ∷ []); started = []; anchored = []; settled = [] }) _ _ outline_0_of_second_late_result given_0_of_second_late_result (part_0_of_second_late_result _ refl refl refl) refl

pub is_second_late_result_breaks : BreaksInit (at 1 40) second_late_result
is_second_late_result_breaks = unmet_at 3 [] (requirements second_late_result) (ask (at 1 10) (at 1 24) Early ∷ ask (at 1 10) (at 1 27) Early ∷ ask (at 1 12) (at 1 12) Early ∷ ask (at 1 24) (at 1 24) (LateWhere (at 1 12)) ∷ ask (at 1 27) (at 1 27) (LateWhere (at 1 36)) ∷ ask (at 1 36) (at 1 36) (LateWhere (at 1 40)) ∷ []) (ask (at 1 40) (at 1 44) Early ∷ ask (at 1 44) (at 1 44) (LateWhere (at 1 12)) ∷ []) (ask (at 1 40) (at 1 40) Late) requirements_of_second_late_result refl refl

outline_0_of_late_operands : eqns_outline (nth 0 late_operands.decls).eqs ≡ record { entries = (entry Top (name 2 1 31) ∷ entry Top (name 3 1 48) ∷ []); valued = (2 ∷ 3 ∷ []); started = []; broken = [] }
outline_0_of_late_operands = simp outline_steps

given_0_of_late_operands : eqns_given (nth 0 late_operands.decls).eqs ≡ record { defined = (2 ∷ 3 ∷ []); started = []; anchored = []; settled = [] }
given_0_of_late_operands = simp given_steps

part_0_of_late_operands : (k : Known) → k.place 1 ≡ Some (at 1 12) → k.place 2 ≡ Some (at 1 31) → k.place 3 ≡ Some (at 1 48) → among k.settled 2 ≡ true → among k.settled 3 ≡ true → decl_parts k (record { hybrid = false; handler = false; inside = []; own = (2 ∷ 3 ∷ []) }) (nth 0 late_operands.decls) ≡ ask (at 1 10) (at 1 23) Early ∷ ask (at 1 12) (at 1 12) Early ∷ ask (at 1 23) (at 1 23) (LateWhere (at 1 31)) ∷ ask (at 1 31) (at 1 31) (LateWhere (at 1 37)) ∷ ask (at 1 35) (at 1 35) Early ∷ ask (at 1 37) (at 1 37) (LateWhere (at 1 35)) ∷ ask (at 1 40) (at 1 40) (LateWhere (at 1 42)) ∷ ask (at 1 42) (at 1 42) (LateWhere (at 1 48)) ∷ ask (at 1 48) (at 1 48) (LateWhere (at 1 54)) ∷ ask (at 1 52) (at 1 52) Early ∷ ask (at 1 54) (at 1 54) (LateWhere (at 1 52)) ∷ ask (at 1 54) (at 1 54) (LateWhere (at 1 56)) ∷ ask (at 1 56) (at 1 56) Late ∷ ask (at 1 56) (at 1 60) Early ∷ ask (at 1 60) (at 1 60) (LateWhere (at 1 12)) ∷ []
unfolding decl_parts
part_0_of_late_operands k h0 h1 h2 h3 h4 = simp (h0, h1, h2, h3, h4, constraint_steps, rolled_places)

requirements_of_late_operands : requirements late_operands ≡ ask (at 1 10) (at 1 23) Early ∷ ask (at 1 12) (at 1 12) Early ∷ ask (at 1 23) (at 1 23) (LateWhere (at 1 31)) ∷ ask (at 1 31) (at 1 31) (LateWhere (at 1 37)) ∷ ask (at 1 35) (at 1 35) Early ∷ ask (at 1 37) (at 1 37) (LateWhere (at 1 35)) ∷ ask (at 1 40) (at 1 40) (LateWhere (at 1 42)) ∷ ask (at 1 42) (at 1 42) (LateWhere (at 1 48)) ∷ ask (at 1 48) (at 1 48) (LateWhere (at 1 54)) ∷ ask (at 1 52) (at 1 52) Early ∷ ask (at 1 54) (at 1 54) (LateWhere (at 1 52)) ∷ ask (at 1 54) (at 1 54) (LateWhere (at 1 56)) ∷ ask (at 1 56) (at 1 56) Late ∷ ask (at 1 56) (at 1 60) Early ∷ ask (at 1 60) (at 1 60) (LateWhere (at 1 12)) ∷ []
requirements_of_late_operands = in_turn late_operands.names (nth 0 late_operands.decls) (behind 0 late_operands.decls) (record { entries = (entry Top (name 2 1 31) ∷ entry Top (name 3 1 48) ∷ []); valued = (2 ∷ 3 ∷ []); started = []; broken = [] }) (record { defined = (2 ∷ 3 ∷ []); started = []; anchored = []; settled = [] }) _ _ outline_0_of_late_operands given_0_of_late_operands (part_0_of_late_operands _ refl refl refl refl refl) refl

pub is_late_operands_keeps : KeepsInit late_operands
is_late_operands_keeps = subst HasLevels (sym requirements_of_late_operands) (has_levels (at 1 56 ∷ at 1 54 ∷ at 1 48 ∷ at 1 42 ∷ at 1 40 ∷ []) _ refl)

part_0_of_late_right_operand : (k : Known) → k.place 1 ≡ Some (at 1 12) → decl_parts k (record { hybrid = false; handler = false; inside = []; own = [] }) (nth 0 late_right_operand.decls) ≡ ask (at 1 10) (at 1 25) Early ∷ ask (at 1 12) (at 1 12) Early ∷ ask (at 1 23) (at 1 23) Early ∷ ask (at 1 25) (at 1 25) (LateWhere (at 1 23)) ∷ ask (at 1 25) (at 1 25) (LateWhere (at 1 27)) ∷ ask (at 1 27) (at 1 27) Late ∷ ask (at 1 27) (at 1 31) Early ∷ ask (at 1 31) (at 1 31) (LateWhere (at 1 12)) ∷ []
unfolding decl_parts
part_0_of_late_right_operand k h0 = simp (h0, constraint_steps, rolled_places)

requirements_of_late_right_operand : requirements late_right_operand ≡ (ask (at 1 10) (at 1 25) Early ∷ ask (at 1 12) (at 1 12) Early ∷ ask (at 1 23) (at 1 23) Early ∷ ask (at 1 25) (at 1 25) (LateWhere (at 1 23)) ∷ ask (at 1 25) (at 1 25) (LateWhere (at 1 27)) ∷ []) ++ (ask (at 1 27) (at 1 27) Late) ∷ (ask (at 1 27) (at 1 31) Early ∷ ask (at 1 31) (at 1 31) (LateWhere (at 1 12)) ∷ [])
requirements_of_late_right_operand = in_turn late_right_operand.names (nth 0 late_right_operand.decls) (behind 0 late_right_operand.decls) (record { entries = []; valued = []; started = []; broken = [] }) (record { defined = []; started = []; anchored = []; settled = [] }) _ _ refl refl (part_0_of_late_right_operand _ refl) refl

pub is_late_right_operand_breaks : BreaksInit (at 1 27) late_right_operand
is_late_right_operand_breaks = unmet_at 2 [] (requirements late_right_operand) (ask (at 1 10) (at 1 25) Early ∷ ask (at 1 12) (at 1 12) Early ∷ ask (at 1 23) (at 1 23) Early ∷ ask (at 1 25) (at 1 25) (LateWhere (at 1 23)) ∷ ask (at 1 25) (at 1 25) (LateWhere (at 1 27)) ∷ []) (ask (at 1 27) (at 1 31) Early ∷ ask (at 1 31) (at 1 31) (LateWhere (at 1 12)) ∷ []) (ask (at 1 27) (at 1 27) Late) requirements_of_late_right_operand refl refl

part_0_of_late_left_operand : (k : Known) → k.place 1 ≡ Some (at 1 12) → decl_parts k (record { hybrid = false; handler = false; inside = []; own = [] }) (nth 0 late_left_operand.decls) ≡ ask (at 1 10) (at 1 29) Early ∷ ask (at 1 12) (at 1 12) Early ∷ ask (at 1 23) (at 1 23) Late ∷ ask (at 1 23) (at 1 27) Early ∷ ask (at 1 27) (at 1 27) (LateWhere (at 1 12)) ∷ ask (at 1 29) (at 1 29) (LateWhere (at 1 23)) ∷ ask (at 1 29) (at 1 29) (LateWhere (at 1 31)) ∷ ask (at 1 31) (at 1 31) Early ∷ []
unfolding decl_parts
part_0_of_late_left_operand k h0 = simp (h0, constraint_steps, rolled_places)

requirements_of_late_left_operand : requirements late_left_operand ≡ (ask (at 1 10) (at 1 29) Early ∷ ask (at 1 12) (at 1 12) Early ∷ ask (at 1 23) (at 1 23) Late ∷ ask (at 1 23) (at 1 27) Early ∷ ask (at 1 27) (at 1 27) (LateWhere (at 1 12)) ∷ []) ++ (ask (at 1 29) (at 1 29) (LateWhere (at 1 23))) ∷ (ask (at 1 29) (at 1 29) (LateWhere (at 1 31)) ∷ ask (at 1 31) (at 1 31) Early ∷ [])
requirements_of_late_left_operand = in_turn late_left_operand.names (nth 0 late_left_operand.decls) (behind 0 late_left_operand.decls) (record { entries = []; valued = []; started = []; broken = [] }) (record { defined = []; started = []; anchored = []; settled = [] }) _ _ refl refl (part_0_of_late_left_operand _ refl) refl

pub is_late_left_operand_breaks : BreaksInit (at 1 29) late_left_operand
is_late_left_operand_breaks = unmet_at 1 (at 1 23 ∷ []) (requirements late_left_operand) (ask (at 1 10) (at 1 29) Early ∷ ask (at 1 12) (at 1 12) Early ∷ ask (at 1 23) (at 1 23) Late ∷ ask (at 1 23) (at 1 27) Early ∷ ask (at 1 27) (at 1 27) (LateWhere (at 1 12)) ∷ []) (ask (at 1 29) (at 1 29) (LateWhere (at 1 31)) ∷ ask (at 1 31) (at 1 31) Early ∷ []) (ask (at 1 29) (at 1 29) (LateWhere (at 1 23))) requirements_of_late_left_operand refl refl

part_0_of_late_first_operand : (k : Known) → k.place 1 ≡ Some (at 1 12) → decl_parts k (record { hybrid = false; handler = false; inside = []; own = [] }) (nth 0 late_first_operand.decls) ≡ ask (at 1 10) (at 1 33) Early ∷ ask (at 1 12) (at 1 12) Early ∷ ask (at 1 23) (at 1 23) Late ∷ ask (at 1 23) (at 1 27) Early ∷ ask (at 1 27) (at 1 27) (LateWhere (at 1 12)) ∷ ask (at 1 29) (at 1 29) (LateWhere (at 1 23)) ∷ ask (at 1 29) (at 1 29) (LateWhere (at 1 31)) ∷ ask (at 1 31) (at 1 31) Early ∷ ask (at 1 33) (at 1 33) (LateWhere (at 1 29)) ∷ ask (at 1 33) (at 1 33) (LateWhere (at 1 35)) ∷ ask (at 1 35) (at 1 35) Early ∷ []
unfolding decl_parts
part_0_of_late_first_operand k h0 = simp (h0, constraint_steps, rolled_places)

requirements_of_late_first_operand : requirements late_first_operand ≡ (ask (at 1 10) (at 1 33) Early ∷ ask (at 1 12) (at 1 12) Early ∷ ask (at 1 23) (at 1 23) Late ∷ ask (at 1 23) (at 1 27) Early ∷ ask (at 1 27) (at 1 27) (LateWhere (at 1 12)) ∷ ask (at 1 29) (at 1 29) (LateWhere (at 1 23)) ∷ ask (at 1 29) (at 1 29) (LateWhere (at 1 31)) ∷ ask (at 1 31) (at 1 31) Early ∷ []) ++ (ask (at 1 33) (at 1 33) (LateWhere (at 1 29))) ∷ (ask (at 1 33) (at 1 33) (LateWhere (at 1 35)) ∷ ask (at 1 35) (at 1 35) Early ∷ [])
requirements_of_late_first_operand = in_turn late_first_operand.names (nth 0 late_first_operand.decls) (behind 0 late_first_operand.decls) (record { entries = []; valued = []; started = []; broken = [] }) (record { defined = []; started = []; anchored = []; settled = [] }) _ _ refl refl (part_0_of_late_first_operand _ refl) refl

pub is_late_first_operand_breaks : BreaksInit (at 1 33) late_first_operand
is_late_first_operand_breaks = unmet_at 1 (at 1 23 ∷ at 1 29 ∷ []) (requirements late_first_operand) (ask (at 1 10) (at 1 33) Early ∷ ask (at 1 12) (at 1 12) Early ∷ ask (at 1 23) (at 1 23) Late ∷ ask (at 1 23) (at 1 27) Early ∷ ask (at 1 27) (at 1 27) (LateWhere (at 1 12)) ∷ ask (at 1 29) (at 1 29) (LateWhere (at 1 23)) ∷ ask (at 1 29) (at 1 29) (LateWhere (at 1 31)) ∷ ask (at 1 31) (at 1 31) Early ∷ []) (ask (at 1 33) (at 1 33) (LateWhere (at 1 35)) ∷ ask (at 1 35) (at 1 35) Early ∷ []) (ask (at 1 33) (at 1 33) (LateWhere (at 1 29))) requirements_of_late_first_operand refl refl

part_0_of_late_under_minus : (k : Known) → k.place 1 ≡ Some (at 1 12) → decl_parts k (record { hybrid = false; handler = false; inside = []; own = [] }) (nth 0 late_under_minus.decls) ≡ ask (at 1 10) (at 1 23) Early ∷ ask (at 1 12) (at 1 12) Early ∷ ask (at 1 23) (at 1 23) (LateWhere (at 1 25)) ∷ ask (at 1 25) (at 1 25) Late ∷ ask (at 1 25) (at 1 29) Early ∷ ask (at 1 29) (at 1 29) (LateWhere (at 1 12)) ∷ []
unfolding decl_parts
part_0_of_late_under_minus k h0 = simp (h0, constraint_steps, rolled_places)

requirements_of_late_under_minus : requirements late_under_minus ≡ (ask (at 1 10) (at 1 23) Early ∷ ask (at 1 12) (at 1 12) Early ∷ ask (at 1 23) (at 1 23) (LateWhere (at 1 25)) ∷ []) ++ (ask (at 1 25) (at 1 25) Late) ∷ (ask (at 1 25) (at 1 29) Early ∷ ask (at 1 29) (at 1 29) (LateWhere (at 1 12)) ∷ [])
requirements_of_late_under_minus = in_turn late_under_minus.names (nth 0 late_under_minus.decls) (behind 0 late_under_minus.decls) (record { entries = []; valued = []; started = []; broken = [] }) (record { defined = []; started = []; anchored = []; settled = [] }) _ _ refl refl (part_0_of_late_under_minus _ refl) refl

pub is_late_under_minus_breaks : BreaksInit (at 1 25) late_under_minus
is_late_under_minus_breaks = unmet_at 2 [] (requirements late_under_minus) (ask (at 1 10) (at 1 23) Early ∷ ask (at 1 12) (at 1 12) Early ∷ ask (at 1 23) (at 1 23) (LateWhere (at 1 25)) ∷ []) (ask (at 1 25) (at 1 29) Early ∷ ask (at 1 29) (at 1 29) (LateWhere (at 1 12)) ∷ []) (ask (at 1 25) (at 1 25) Late) requirements_of_late_under_minus refl refl

part_0_of_early_if : (k : Known) → k.place 1 ≡ Some (at 1 12) → decl_parts k (record { hybrid = false; handler = false; inside = []; own = [] }) (nth 0 early_if.decls) ≡ ask (at 1 10) (at 1 23) Early ∷ ask (at 1 12) (at 1 12) Early ∷ ask (at 1 23) (at 1 23) (LateWhere (at 1 39)) ∷ ask (at 1 23) (at 1 23) (LateWhere (at 1 48)) ∷ ask (at 1 23) (at 1 23) (LateWhere (at 1 55)) ∷ ask (at 1 27) (at 1 27) Early ∷ ask (at 1 29) (at 1 29) (LateWhere (at 1 27)) ∷ ask (at 1 32) (at 1 32) Late ∷ ask (at 1 32) (at 1 36) Early ∷ ask (at 1 36) (at 1 36) (LateWhere (at 1 12)) ∷ ask (at 1 39) (at 1 39) (LateWhere (at 1 29)) ∷ ask (at 1 39) (at 1 39) (LateWhere (at 1 41)) ∷ ask (at 1 41) (at 1 41) Early ∷ ask (at 1 48) (at 1 48) (LateWhere (at 1 12)) ∷ ask (at 1 55) (at 1 55) Early ∷ []
unfolding decl_parts
part_0_of_early_if k h0 = simp (h0, constraint_steps, rolled_places)

requirements_of_early_if : requirements early_if ≡ ask (at 1 10) (at 1 23) Early ∷ ask (at 1 12) (at 1 12) Early ∷ ask (at 1 23) (at 1 23) (LateWhere (at 1 39)) ∷ ask (at 1 23) (at 1 23) (LateWhere (at 1 48)) ∷ ask (at 1 23) (at 1 23) (LateWhere (at 1 55)) ∷ ask (at 1 27) (at 1 27) Early ∷ ask (at 1 29) (at 1 29) (LateWhere (at 1 27)) ∷ ask (at 1 32) (at 1 32) Late ∷ ask (at 1 32) (at 1 36) Early ∷ ask (at 1 36) (at 1 36) (LateWhere (at 1 12)) ∷ ask (at 1 39) (at 1 39) (LateWhere (at 1 29)) ∷ ask (at 1 39) (at 1 39) (LateWhere (at 1 41)) ∷ ask (at 1 41) (at 1 41) Early ∷ ask (at 1 48) (at 1 48) (LateWhere (at 1 12)) ∷ ask (at 1 55) (at 1 55) Early ∷ []
requirements_of_early_if = in_turn early_if.names (nth 0 early_if.decls) (behind 0 early_if.decls) (record { entries = []; valued = []; started = []; broken = [] }) (record { defined = []; started = []; anchored = []; settled = [] }) _ _ refl refl (part_0_of_early_if _ refl) refl

pub is_early_if_keeps : KeepsInit early_if
is_early_if_keeps = subst HasLevels (sym requirements_of_early_if) (has_levels (at 1 32 ∷ []) _ refl)

part_0_of_late_condition : (k : Known) → k.place 1 ≡ Some (at 1 12) → decl_parts k (record { hybrid = false; handler = false; inside = []; own = [] }) (nth 0 late_condition.decls) ≡ ask (at 1 10) (at 1 23) Early ∷ ask (at 1 12) (at 1 12) Early ∷ ask (at 1 23) (at 1 23) (LateWhere (at 1 32)) ∷ ask (at 1 23) (at 1 23) (LateWhere (at 1 41)) ∷ ask (at 1 23) (at 1 23) (LateWhere (at 1 48)) ∷ ask (at 1 26) (at 1 26) Late ∷ ask (at 1 26) (at 1 30) Early ∷ ask (at 1 30) (at 1 30) (LateWhere (at 1 12)) ∷ ask (at 1 32) (at 1 32) (LateWhere (at 1 26)) ∷ ask (at 1 32) (at 1 32) (LateWhere (at 1 34)) ∷ ask (at 1 34) (at 1 34) Early ∷ ask (at 1 41) (at 1 41) Early ∷ ask (at 1 48) (at 1 48) Early ∷ []
unfolding decl_parts
part_0_of_late_condition k h0 = simp (h0, constraint_steps, rolled_places)

requirements_of_late_condition : requirements late_condition ≡ (ask (at 1 10) (at 1 23) Early ∷ ask (at 1 12) (at 1 12) Early ∷ ask (at 1 23) (at 1 23) (LateWhere (at 1 32)) ∷ ask (at 1 23) (at 1 23) (LateWhere (at 1 41)) ∷ ask (at 1 23) (at 1 23) (LateWhere (at 1 48)) ∷ ask (at 1 26) (at 1 26) Late ∷ ask (at 1 26) (at 1 30) Early ∷ ask (at 1 30) (at 1 30) (LateWhere (at 1 12)) ∷ []) ++ (ask (at 1 32) (at 1 32) (LateWhere (at 1 26))) ∷ (ask (at 1 32) (at 1 32) (LateWhere (at 1 34)) ∷ ask (at 1 34) (at 1 34) Early ∷ ask (at 1 41) (at 1 41) Early ∷ ask (at 1 48) (at 1 48) Early ∷ [])
requirements_of_late_condition = in_turn late_condition.names (nth 0 late_condition.decls) (behind 0 late_condition.decls) (record { entries = []; valued = []; started = []; broken = [] }) (record { defined = []; started = []; anchored = []; settled = [] }) _ _ refl refl (part_0_of_late_condition _ refl) refl

pub is_late_condition_breaks : BreaksInit (at 1 32) late_condition
is_late_condition_breaks = unmet_at 2 (at 1 26 ∷ []) (requirements late_condition) (ask (at 1 10) (at 1 23) Early ∷ ask (at 1 12) (at 1 12) Early ∷ ask (at 1 23) (at 1 23) (LateWhere (at 1 32)) ∷ ask (at 1 23) (at 1 23) (LateWhere (at 1 41)) ∷ ask (at 1 23) (at 1 23) (LateWhere (at 1 48)) ∷ ask (at 1 26) (at 1 26) Late ∷ ask (at 1 26) (at 1 30) Early ∷ ask (at 1 30) (at 1 30) (LateWhere (at 1 12)) ∷ []) (ask (at 1 32) (at 1 32) (LateWhere (at 1 34)) ∷ ask (at 1 34) (at 1 34) Early ∷ ask (at 1 41) (at 1 41) Early ∷ ask (at 1 48) (at 1 48) Early ∷ []) (ask (at 1 32) (at 1 32) (LateWhere (at 1 26))) requirements_of_late_condition refl refl

outline_0_of_late_branch : eqns_outline (nth 0 late_branch.decls).eqs ≡ record { entries = (entry Top (name 2 1 51) ∷ []); valued = (2 ∷ []); started = []; broken = [] }
outline_0_of_late_branch = simp outline_steps

given_0_of_late_branch : eqns_given (nth 0 late_branch.decls).eqs ≡ record { defined = (2 ∷ []); started = []; anchored = []; settled = [] }
given_0_of_late_branch = simp given_steps

part_0_of_late_branch : (k : Known) → k.place 1 ≡ Some (at 1 12) → k.place 2 ≡ Some (at 1 51) → among k.settled 2 ≡ true → decl_parts k (record { hybrid = false; handler = false; inside = []; own = (2 ∷ []) }) (nth 0 late_branch.decls) ≡ ask (at 1 10) (at 1 23) Early ∷ ask (at 1 12) (at 1 12) Early ∷ ask (at 1 23) (at 1 23) (LateWhere (at 1 26)) ∷ ask (at 1 23) (at 1 23) (LateWhere (at 1 36)) ∷ ask (at 1 23) (at 1 23) (LateWhere (at 1 43)) ∷ ask (at 1 26) (at 1 26) Early ∷ ask (at 1 36) (at 1 36) (LateWhere (at 1 51)) ∷ ask (at 1 43) (at 1 43) Early ∷ ask (at 1 51) (at 1 51) (LateWhere (at 1 55)) ∷ ask (at 1 55) (at 1 55) Late ∷ ask (at 1 55) (at 1 59) Early ∷ ask (at 1 59) (at 1 59) (LateWhere (at 1 12)) ∷ []
unfolding decl_parts
part_0_of_late_branch k h0 h1 h2 = simp (h0, h1, h2, constraint_steps, rolled_places)

requirements_of_late_branch : requirements late_branch ≡ (ask (at 1 10) (at 1 23) Early ∷ ask (at 1 12) (at 1 12) Early ∷ ask (at 1 23) (at 1 23) (LateWhere (at 1 26)) ∷ ask (at 1 23) (at 1 23) (LateWhere (at 1 36)) ∷ ask (at 1 23) (at 1 23) (LateWhere (at 1 43)) ∷ ask (at 1 26) (at 1 26) Early ∷ ask (at 1 36) (at 1 36) (LateWhere (at 1 51)) ∷ ask (at 1 43) (at 1 43) Early ∷ ask (at 1 51) (at 1 51) (LateWhere (at 1 55)) ∷ []) ++ (ask (at 1 55) (at 1 55) Late) ∷ (ask (at 1 55) (at 1 59) Early ∷ ask (at 1 59) (at 1 59) (LateWhere (at 1 12)) ∷ [])
requirements_of_late_branch = in_turn late_branch.names (nth 0 late_branch.decls) (behind 0 late_branch.decls) (record { entries = (entry Top (name 2 1 51) ∷ []); valued = (2 ∷ []); started = []; broken = [] }) (record { defined = (2 ∷ []); started = []; anchored = []; settled = [] }) _ _ outline_0_of_late_branch given_0_of_late_branch (part_0_of_late_branch _ refl refl refl) refl

pub is_late_branch_breaks : BreaksInit (at 1 55) late_branch
is_late_branch_breaks = unmet_at 4 [] (requirements late_branch) (ask (at 1 10) (at 1 23) Early ∷ ask (at 1 12) (at 1 12) Early ∷ ask (at 1 23) (at 1 23) (LateWhere (at 1 26)) ∷ ask (at 1 23) (at 1 23) (LateWhere (at 1 36)) ∷ ask (at 1 23) (at 1 23) (LateWhere (at 1 43)) ∷ ask (at 1 26) (at 1 26) Early ∷ ask (at 1 36) (at 1 36) (LateWhere (at 1 51)) ∷ ask (at 1 43) (at 1 43) Early ∷ ask (at 1 51) (at 1 51) (LateWhere (at 1 55)) ∷ []) (ask (at 1 55) (at 1 59) Early ∷ ask (at 1 59) (at 1 59) (LateWhere (at 1 12)) ∷ []) (ask (at 1 55) (at 1 55) Late) requirements_of_late_branch refl refl

outline_0_of_late_other_branch : eqns_outline (nth 0 late_other_branch.decls).eqs ≡ record { entries = (entry Top (name 2 1 51) ∷ []); valued = (2 ∷ []); started = []; broken = [] }
outline_0_of_late_other_branch = simp outline_steps

given_0_of_late_other_branch : eqns_given (nth 0 late_other_branch.decls).eqs ≡ record { defined = (2 ∷ []); started = []; anchored = []; settled = [] }
given_0_of_late_other_branch = simp given_steps

part_0_of_late_other_branch : (k : Known) → k.place 1 ≡ Some (at 1 12) → k.place 2 ≡ Some (at 1 51) → among k.settled 2 ≡ true → decl_parts k (record { hybrid = false; handler = false; inside = []; own = (2 ∷ []) }) (nth 0 late_other_branch.decls) ≡ ask (at 1 10) (at 1 23) Early ∷ ask (at 1 12) (at 1 12) Early ∷ ask (at 1 23) (at 1 23) (LateWhere (at 1 26)) ∷ ask (at 1 23) (at 1 23) (LateWhere (at 1 36)) ∷ ask (at 1 23) (at 1 23) (LateWhere (at 1 43)) ∷ ask (at 1 26) (at 1 26) Early ∷ ask (at 1 36) (at 1 36) Early ∷ ask (at 1 43) (at 1 43) (LateWhere (at 1 51)) ∷ ask (at 1 51) (at 1 51) (LateWhere (at 1 55)) ∷ ask (at 1 55) (at 1 55) Late ∷ ask (at 1 55) (at 1 59) Early ∷ ask (at 1 59) (at 1 59) (LateWhere (at 1 12)) ∷ []
unfolding decl_parts
part_0_of_late_other_branch k h0 h1 h2 = simp (h0, h1, h2, constraint_steps, rolled_places)

requirements_of_late_other_branch : requirements late_other_branch ≡ (ask (at 1 10) (at 1 23) Early ∷ ask (at 1 12) (at 1 12) Early ∷ ask (at 1 23) (at 1 23) (LateWhere (at 1 26)) ∷ ask (at 1 23) (at 1 23) (LateWhere (at 1 36)) ∷ ask (at 1 23) (at 1 23) (LateWhere (at 1 43)) ∷ ask (at 1 26) (at 1 26) Early ∷ ask (at 1 36) (at 1 36) Early ∷ ask (at 1 43) (at 1 43) (LateWhere (at 1 51)) ∷ ask (at 1 51) (at 1 51) (LateWhere (at 1 55)) ∷ []) ++ (ask (at 1 55) (at 1 55) Late) ∷ (ask (at 1 55) (at 1 59) Early ∷ ask (at 1 59) (at 1 59) (LateWhere (at 1 12)) ∷ [])
requirements_of_late_other_branch = in_turn late_other_branch.names (nth 0 late_other_branch.decls) (behind 0 late_other_branch.decls) (record { entries = (entry Top (name 2 1 51) ∷ []); valued = (2 ∷ []); started = []; broken = [] }) (record { defined = (2 ∷ []); started = []; anchored = []; settled = [] }) _ _ outline_0_of_late_other_branch given_0_of_late_other_branch (part_0_of_late_other_branch _ refl refl refl) refl

pub is_late_other_branch_breaks : BreaksInit (at 1 55) late_other_branch
is_late_other_branch_breaks = unmet_at 4 [] (requirements late_other_branch) (ask (at 1 10) (at 1 23) Early ∷ ask (at 1 12) (at 1 12) Early ∷ ask (at 1 23) (at 1 23) (LateWhere (at 1 26)) ∷ ask (at 1 23) (at 1 23) (LateWhere (at 1 36)) ∷ ask (at 1 23) (at 1 23) (LateWhere (at 1 43)) ∷ ask (at 1 26) (at 1 26) Early ∷ ask (at 1 36) (at 1 36) Early ∷ ask (at 1 43) (at 1 43) (LateWhere (at 1 51)) ∷ ask (at 1 51) (at 1 51) (LateWhere (at 1 55)) ∷ []) (ask (at 1 55) (at 1 59) Early ∷ ask (at 1 59) (at 1 59) (LateWhere (at 1 12)) ∷ []) (ask (at 1 55) (at 1 55) Late) requirements_of_late_other_branch refl refl

part_0_of_calls_early : (k : Known) → k.place 1 ≡ Some (at 1 7) → decl_parts k (record { hybrid = false; handler = false; inside = []; own = [] }) (nth 0 calls_early.decls) ≡ ask (at 1 5) (at 1 20) Early ∷ ask (at 1 7) (at 1 7) Early ∷ ask (at 1 20) (at 1 20) (LateWhere (at 1 7)) ∷ []
unfolding decl_parts
part_0_of_calls_early k h0 = simp (h0, constraint_steps, rolled_places)

part_1_of_calls_early : (k : Known) → k.place 1 ≡ Some (at 2 12) → is_built_in k.names 0 ≡ false → is_built_in k.names 3 ≡ true → decl_parts k (record { hybrid = false; handler = false; inside = []; own = [] }) (nth 1 calls_early.decls) ≡ ask (at 2 10) (at 2 27) Early ∷ ask (at 2 12) (at 2 12) Early ∷ ask (at 2 25) (at 2 25) Early ∷ ask (at 2 27) (at 2 27) (LateWhere (at 2 25)) ∷ ask (at 2 30) (at 2 30) (LateWhere (at 2 39)) ∷ ask (at 2 39) (at 2 39) Late ∷ ask (at 2 39) (at 2 43) Early ∷ ask (at 2 43) (at 2 43) (LateWhere (at 2 12)) ∷ ask (at 2 46) (at 2 46) (LateWhere (at 2 30)) ∷ ask (at 2 46) (at 2 46) (LateWhere (at 2 48)) ∷ ask (at 2 48) (at 2 48) (LateWhere (at 2 57)) ∷ ask (at 2 57) (at 2 57) Early ∷ ask (at 2 57) (at 2 59) Early ∷ ask (at 2 59) (at 2 59) (LateWhere (at 2 12)) ∷ []
unfolding decl_parts
part_1_of_calls_early k h0 h1 h2 = simp (h0, h1, h2, constraint_steps, rolled_places)

requirements_of_calls_early : requirements calls_early ≡ ask (at 1 5) (at 1 20) Early ∷ ask (at 1 7) (at 1 7) Early ∷ ask (at 1 20) (at 1 20) (LateWhere (at 1 7)) ∷ ask (at 2 10) (at 2 27) Early ∷ ask (at 2 12) (at 2 12) Early ∷ ask (at 2 25) (at 2 25) Early ∷ ask (at 2 27) (at 2 27) (LateWhere (at 2 25)) ∷ ask (at 2 30) (at 2 30) (LateWhere (at 2 39)) ∷ ask (at 2 39) (at 2 39) Late ∷ ask (at 2 39) (at 2 43) Early ∷ ask (at 2 43) (at 2 43) (LateWhere (at 2 12)) ∷ ask (at 2 46) (at 2 46) (LateWhere (at 2 30)) ∷ ask (at 2 46) (at 2 46) (LateWhere (at 2 48)) ∷ ask (at 2 48) (at 2 48) (LateWhere (at 2 57)) ∷ ask (at 2 57) (at 2 57) Early ∷ ask (at 2 57) (at 2 59) Early ∷ ask (at 2 59) (at 2 59) (LateWhere (at 2 12)) ∷ []
requirements_of_calls_early = in_turn calls_early.names (nth 0 calls_early.decls) (behind 0 calls_early.decls) (record { entries = []; valued = []; started = []; broken = [] }) (record { defined = []; started = []; anchored = []; settled = [] }) _ _ refl refl (part_0_of_calls_early _ refl) (in_turn calls_early.names (nth 1 calls_early.decls) (behind 1 calls_early.decls) (record { entries = []; valued = []; started = []; broken = [] }) (record { defined = []; started = []; anchored = []; settled = [] }) _ _ refl refl (part_1_of_calls_early _ refl refl refl) refl)

pub is_calls_early_keeps : KeepsInit calls_early
is_calls_early_keeps = subst HasLevels (sym requirements_of_calls_early) (has_levels (at 2 39 ∷ at 2 30 ∷ at 2 46 ∷ []) _ refl)

part_0_of_late_built_in : (k : Known) → k.place 1 ≡ Some (at 1 12) → is_built_in k.names 2 ≡ true → decl_parts k (record { hybrid = false; handler = false; inside = []; own = [] }) (nth 0 late_built_in.decls) ≡ ask (at 1 10) (at 1 25) Early ∷ ask (at 1 12) (at 1 12) Early ∷ ask (at 1 25) (at 1 25) (LateWhere (at 1 34)) ∷ ask (at 1 34) (at 1 34) Late ∷ ask (at 1 34) (at 1 38) Early ∷ ask (at 1 38) (at 1 38) (LateWhere (at 1 12)) ∷ []
unfolding decl_parts
part_0_of_late_built_in k h0 h1 = simp (h0, h1, constraint_steps, rolled_places)

requirements_of_late_built_in : requirements late_built_in ≡ (ask (at 1 10) (at 1 25) Early ∷ ask (at 1 12) (at 1 12) Early ∷ ask (at 1 25) (at 1 25) (LateWhere (at 1 34)) ∷ []) ++ (ask (at 1 34) (at 1 34) Late) ∷ (ask (at 1 34) (at 1 38) Early ∷ ask (at 1 38) (at 1 38) (LateWhere (at 1 12)) ∷ [])
requirements_of_late_built_in = in_turn late_built_in.names (nth 0 late_built_in.decls) (behind 0 late_built_in.decls) (record { entries = []; valued = []; started = []; broken = [] }) (record { defined = []; started = []; anchored = []; settled = [] }) _ _ refl refl (part_0_of_late_built_in _ refl refl) refl

pub is_late_built_in_breaks : BreaksInit (at 1 34) late_built_in
is_late_built_in_breaks = unmet_at 2 [] (requirements late_built_in) (ask (at 1 10) (at 1 25) Early ∷ ask (at 1 12) (at 1 12) Early ∷ ask (at 1 25) (at 1 25) (LateWhere (at 1 34)) ∷ []) (ask (at 1 34) (at 1 38) Early ∷ ask (at 1 38) (at 1 38) (LateWhere (at 1 12)) ∷ []) (ask (at 1 34) (at 1 34) Late) requirements_of_late_built_in refl refl
