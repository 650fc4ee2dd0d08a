-- The worked programs of ExpressionLevelsWorked, by computation of their constraints.
use Rattle.std.proofs.Common.{◌≡◌, true, false, [], ◌∷◌, ◌++◌, Some, refl, sym, subst}
use Rattle.zl_ast.specs.declared.constraint.Asked.TheVariants.{Early, Late, LateWhere}
use Rattle.zl_ast.specs.declared.scope.VarClass.TheVariants.{Top, Local}
use Rattle.zl_ast.specs.Names.{among, is_built_in}
use Rattle.zl_ast.specs.NamesDefined.{entry, eqns_outline}
use Rattle.zl_ast.specs.Anchored.{eqns_given}
use Rattle.zl_ast.specs.Levels.{HasLevels}
use Rattle.zl_ast.specs.Initialised.{Known, ask, decl_parts, requirements}
use Rattle.zl_ast.specs.WorkedTrees.{at, name}
use Rattle.zl_ast.specs.Verdicts.{KeepsInit, BreaksInit}
use Rattle.zl_ast.specs.ExpressionLevelsWorked.{late_argument, pre_behind_arrow, pre_of_pre, flows_early, late_arrow, late_fby, fby_of_late, last_anchored, last_of_derivative, last_behind_arrow, last_unanchored, last_of_late, arm_anchors_not, state_anchors_not, local_anchored, ExpressionLevelsWorked}
use Rattle.zl_ast.proofs.NamesSteps.{outline_steps, rolled_places}
use Rattle.zl_ast.proofs.ConstraintSteps.{given_steps, constraint_steps}
use Rattle.zl_ast.proofs.InTurn.{nth, behind, in_turn}
use Rattle.zl_ast.proofs.LevelsByList.{has_levels, unmet_at}
use Rattle.zl_ast.proofs.ExpressionLevelsFirst.{is_early_parts_keeps, is_late_result_breaks, is_second_late_result_breaks, is_late_operands_keeps, is_late_right_operand_breaks, is_late_left_operand_breaks, is_late_first_operand_breaks, is_late_under_minus_breaks, is_early_if_keeps, is_late_condition_breaks, is_late_branch_breaks, is_late_other_branch_breaks, is_calls_early_keeps, is_late_built_in_breaks}

part_0_of_late_argument : (k : Known) → k.place 1 ≡ Some (at 1 7) → decl_parts k (record { hybrid = false; handler = false; inside = []; own = [] }) (nth 0 late_argument.decls) ≡ ask (at 1 5) (at 1 18) Early ∷ ask (at 1 7) (at 1 7) Early ∷ ask (at 1 18) (at 1 18) (LateWhere (at 1 7)) ∷ []
unfolding decl_parts
part_0_of_late_argument k h0 = simp (h0, constraint_steps, rolled_places)

part_1_of_late_argument : (k : Known) → k.place 1 ≡ Some (at 2 12) → is_built_in k.names 0 ≡ false → decl_parts k (record { hybrid = false; handler = false; inside = []; own = [] }) (nth 1 late_argument.decls) ≡ ask (at 2 10) (at 2 25) Early ∷ ask (at 2 12) (at 2 12) Early ∷ ask (at 2 23) (at 2 23) Early ∷ ask (at 2 25) (at 2 25) (LateWhere (at 2 23)) ∷ ask (at 2 28) (at 2 28) Early ∷ ask (at 2 28) (at 2 30) Early ∷ ask (at 2 30) (at 2 30) Late ∷ ask (at 2 30) (at 2 34) Early ∷ ask (at 2 34) (at 2 34) (LateWhere (at 2 12)) ∷ []
unfolding decl_parts
part_1_of_late_argument k h0 h1 = simp (h0, h1, constraint_steps, rolled_places)

requirements_of_late_argument : requirements late_argument ≡ (ask (at 1 5) (at 1 18) Early ∷ ask (at 1 7) (at 1 7) Early ∷ ask (at 1 18) (at 1 18) (LateWhere (at 1 7)) ∷ ask (at 2 10) (at 2 25) Early ∷ ask (at 2 12) (at 2 12) Early ∷ ask (at 2 23) (at 2 23) Early ∷ ask (at 2 25) (at 2 25) (LateWhere (at 2 23)) ∷ ask (at 2 28) (at 2 28) Early ∷ ask (at 2 28) (at 2 30) Early ∷ []) ++ (ask (at 2 30) (at 2 30) Late) ∷ (ask (at 2 30) (at 2 34) Early ∷ ask (at 2 34) (at 2 34) (LateWhere (at 2 12)) ∷ [])
requirements_of_late_argument = in_turn late_argument.names (nth 0 late_argument.decls) (behind 0 late_argument.decls) (record { entries = []; valued = []; started = []; broken = [] }) (record { defined = []; started = []; anchored = []; settled = [] }) _ _ refl refl (part_0_of_late_argument _ refl) (in_turn late_argument.names (nth 1 late_argument.decls) (behind 1 late_argument.decls) (record { entries = []; valued = []; started = []; broken = [] }) (record { defined = []; started = []; anchored = []; settled = [] }) _ _ refl refl (part_1_of_late_argument _ refl refl) refl)

is_late_argument_breaks : BreaksInit (at 2 30) late_argument
is_late_argument_breaks = unmet_at 1 [] (requirements late_argument) (ask (at 1 5) (at 1 18) Early ∷ ask (at 1 7) (at 1 7) Early ∷ ask (at 1 18) (at 1 18) (LateWhere (at 1 7)) ∷ ask (at 2 10) (at 2 25) Early ∷ ask (at 2 12) (at 2 12) Early ∷ ask (at 2 23) (at 2 23) Early ∷ ask (at 2 25) (at 2 25) (LateWhere (at 2 23)) ∷ ask (at 2 28) (at 2 28) Early ∷ ask (at 2 28) (at 2 30) Early ∷ []) (ask (at 2 30) (at 2 34) Early ∷ ask (at 2 34) (at 2 34) (LateWhere (at 2 12)) ∷ []) (ask (at 2 30) (at 2 30) Late) requirements_of_late_argument refl refl

part_0_of_pre_behind_arrow : (k : Known) → k.place 1 ≡ Some (at 1 12) → decl_parts k (record { hybrid = false; handler = false; inside = []; own = [] }) (nth 0 pre_behind_arrow.decls) ≡ ask (at 1 10) (at 1 25) Early ∷ ask (at 1 12) (at 1 12) Early ∷ ask (at 1 23) (at 1 23) Early ∷ ask (at 1 25) (at 1 25) (LateWhere (at 1 23)) ∷ ask (at 1 28) (at 1 28) Late ∷ ask (at 1 28) (at 1 35) Early ∷ ask (at 1 33) (at 1 33) Early ∷ ask (at 1 35) (at 1 35) (LateWhere (at 1 33)) ∷ ask (at 1 38) (at 1 38) Late ∷ ask (at 1 38) (at 1 42) Early ∷ ask (at 1 42) (at 1 42) (LateWhere (at 1 12)) ∷ []
unfolding decl_parts
part_0_of_pre_behind_arrow k h0 = simp (h0, constraint_steps, rolled_places)

requirements_of_pre_behind_arrow : requirements pre_behind_arrow ≡ ask (at 1 10) (at 1 25) Early ∷ ask (at 1 12) (at 1 12) Early ∷ ask (at 1 23) (at 1 23) Early ∷ ask (at 1 25) (at 1 25) (LateWhere (at 1 23)) ∷ ask (at 1 28) (at 1 28) Late ∷ ask (at 1 28) (at 1 35) Early ∷ ask (at 1 33) (at 1 33) Early ∷ ask (at 1 35) (at 1 35) (LateWhere (at 1 33)) ∷ ask (at 1 38) (at 1 38) Late ∷ ask (at 1 38) (at 1 42) Early ∷ ask (at 1 42) (at 1 42) (LateWhere (at 1 12)) ∷ []
requirements_of_pre_behind_arrow = in_turn pre_behind_arrow.names (nth 0 pre_behind_arrow.decls) (behind 0 pre_behind_arrow.decls) (record { entries = []; valued = []; started = []; broken = [] }) (record { defined = []; started = []; anchored = []; settled = [] }) _ _ refl refl (part_0_of_pre_behind_arrow _ refl) refl

is_pre_behind_arrow_keeps : KeepsInit pre_behind_arrow
is_pre_behind_arrow_keeps = subst HasLevels (sym requirements_of_pre_behind_arrow) (has_levels (at 1 28 ∷ at 1 38 ∷ []) _ refl)

part_0_of_pre_of_pre : (k : Known) → k.place 1 ≡ Some (at 1 12) → decl_parts k (record { hybrid = false; handler = false; inside = []; own = [] }) (nth 0 pre_of_pre.decls) ≡ ask (at 1 10) (at 1 25) Early ∷ ask (at 1 12) (at 1 12) Early ∷ ask (at 1 23) (at 1 23) Early ∷ ask (at 1 25) (at 1 25) (LateWhere (at 1 23)) ∷ ask (at 1 28) (at 1 28) Late ∷ ask (at 1 28) (at 1 33) Early ∷ ask (at 1 33) (at 1 33) Late ∷ ask (at 1 33) (at 1 37) Early ∷ ask (at 1 37) (at 1 37) (LateWhere (at 1 12)) ∷ []
unfolding decl_parts
part_0_of_pre_of_pre k h0 = simp (h0, constraint_steps, rolled_places)

requirements_of_pre_of_pre : requirements pre_of_pre ≡ (ask (at 1 10) (at 1 25) Early ∷ ask (at 1 12) (at 1 12) Early ∷ ask (at 1 23) (at 1 23) Early ∷ ask (at 1 25) (at 1 25) (LateWhere (at 1 23)) ∷ ask (at 1 28) (at 1 28) Late ∷ ask (at 1 28) (at 1 33) Early ∷ []) ++ (ask (at 1 33) (at 1 33) Late) ∷ (ask (at 1 33) (at 1 37) Early ∷ ask (at 1 37) (at 1 37) (LateWhere (at 1 12)) ∷ [])
requirements_of_pre_of_pre = in_turn pre_of_pre.names (nth 0 pre_of_pre.decls) (behind 0 pre_of_pre.decls) (record { entries = []; valued = []; started = []; broken = [] }) (record { defined = []; started = []; anchored = []; settled = [] }) _ _ refl refl (part_0_of_pre_of_pre _ refl) refl

is_pre_of_pre_breaks : BreaksInit (at 1 33) pre_of_pre
is_pre_of_pre_breaks = unmet_at 1 (at 1 28 ∷ []) (requirements pre_of_pre) (ask (at 1 10) (at 1 25) Early ∷ ask (at 1 12) (at 1 12) Early ∷ ask (at 1 23) (at 1 23) Early ∷ ask (at 1 25) (at 1 25) (LateWhere (at 1 23)) ∷ ask (at 1 28) (at 1 28) Late ∷ ask (at 1 28) (at 1 33) Early ∷ []) (ask (at 1 33) (at 1 37) Early ∷ ask (at 1 37) (at 1 37) (LateWhere (at 1 12)) ∷ []) (ask (at 1 33) (at 1 33) Late) requirements_of_pre_of_pre refl refl

part_0_of_flows_early : (k : Known) → k.place 1 ≡ Some (at 1 12) → decl_parts k (record { hybrid = false; handler = false; inside = []; own = [] }) (nth 0 flows_early.decls) ≡ ask (at 1 10) (at 1 36) Early ∷ ask (at 1 12) (at 1 12) Early ∷ ask (at 1 24) (at 1 24) Early ∷ ask (at 1 26) (at 1 26) (LateWhere (at 1 24)) ∷ ask (at 1 29) (at 1 29) Late ∷ ask (at 1 29) (at 1 33) Early ∷ ask (at 1 33) (at 1 33) (LateWhere (at 1 12)) ∷ ask (at 1 36) (at 1 36) (LateWhere (at 1 26)) ∷ ask (at 1 36) (at 1 36) (LateWhere (at 1 41)) ∷ ask (at 1 39) (at 1 39) Early ∷ ask (at 1 41) (at 1 41) (LateWhere (at 1 39)) ∷ ask (at 1 41) (at 1 45) Early ∷ ask (at 1 45) (at 1 45) (LateWhere (at 1 12)) ∷ []
unfolding decl_parts
part_0_of_flows_early k h0 = simp (h0, constraint_steps, rolled_places)

requirements_of_flows_early : requirements flows_early ≡ ask (at 1 10) (at 1 36) Early ∷ ask (at 1 12) (at 1 12) Early ∷ ask (at 1 24) (at 1 24) Early ∷ ask (at 1 26) (at 1 26) (LateWhere (at 1 24)) ∷ ask (at 1 29) (at 1 29) Late ∷ ask (at 1 29) (at 1 33) Early ∷ ask (at 1 33) (at 1 33) (LateWhere (at 1 12)) ∷ ask (at 1 36) (at 1 36) (LateWhere (at 1 26)) ∷ ask (at 1 36) (at 1 36) (LateWhere (at 1 41)) ∷ ask (at 1 39) (at 1 39) Early ∷ ask (at 1 41) (at 1 41) (LateWhere (at 1 39)) ∷ ask (at 1 41) (at 1 45) Early ∷ ask (at 1 45) (at 1 45) (LateWhere (at 1 12)) ∷ []
requirements_of_flows_early = in_turn flows_early.names (nth 0 flows_early.decls) (behind 0 flows_early.decls) (record { entries = []; valued = []; started = []; broken = [] }) (record { defined = []; started = []; anchored = []; settled = [] }) _ _ refl refl (part_0_of_flows_early _ refl) refl

is_flows_early_keeps : KeepsInit flows_early
is_flows_early_keeps = subst HasLevels (sym requirements_of_flows_early) (has_levels (at 1 29 ∷ []) _ refl)

part_0_of_late_arrow : (k : Known) → k.place 1 ≡ Some (at 1 12) → decl_parts k (record { hybrid = false; handler = false; inside = []; own = [] }) (nth 0 late_arrow.decls) ≡ ask (at 1 10) (at 1 29) Early ∷ ask (at 1 12) (at 1 12) Early ∷ ask (at 1 23) (at 1 23) Late ∷ ask (at 1 23) (at 1 27) Early ∷ ask (at 1 27) (at 1 27) (LateWhere (at 1 12)) ∷ ask (at 1 29) (at 1 29) (LateWhere (at 1 23)) ∷ ask (at 1 32) (at 1 32) Early ∷ []
unfolding decl_parts
part_0_of_late_arrow k h0 = simp (h0, constraint_steps, rolled_places)

requirements_of_late_arrow : requirements late_arrow ≡ (ask (at 1 10) (at 1 29) Early ∷ ask (at 1 12) (at 1 12) Early ∷ ask (at 1 23) (at 1 23) Late ∷ ask (at 1 23) (at 1 27) Early ∷ ask (at 1 27) (at 1 27) (LateWhere (at 1 12)) ∷ []) ++ (ask (at 1 29) (at 1 29) (LateWhere (at 1 23))) ∷ (ask (at 1 32) (at 1 32) Early ∷ [])
requirements_of_late_arrow = in_turn late_arrow.names (nth 0 late_arrow.decls) (behind 0 late_arrow.decls) (record { entries = []; valued = []; started = []; broken = [] }) (record { defined = []; started = []; anchored = []; settled = [] }) _ _ refl refl (part_0_of_late_arrow _ refl) refl

is_late_arrow_breaks : BreaksInit (at 1 29) late_arrow
is_late_arrow_breaks = unmet_at 1 (at 1 23 ∷ []) (requirements late_arrow) (ask (at 1 10) (at 1 29) Early ∷ ask (at 1 12) (at 1 12) Early ∷ ask (at 1 23) (at 1 23) Late ∷ ask (at 1 23) (at 1 27) Early ∷ ask (at 1 27) (at 1 27) (LateWhere (at 1 12)) ∷ []) (ask (at 1 32) (at 1 32) Early ∷ []) (ask (at 1 29) (at 1 29) (LateWhere (at 1 23))) requirements_of_late_arrow refl refl

part_0_of_late_fby : (k : Known) → k.place 1 ≡ Some (at 1 12) → decl_parts k (record { hybrid = false; handler = false; inside = []; own = [] }) (nth 0 late_fby.decls) ≡ ask (at 1 10) (at 1 29) Early ∷ ask (at 1 12) (at 1 12) Early ∷ ask (at 1 23) (at 1 23) Late ∷ ask (at 1 23) (at 1 27) Early ∷ ask (at 1 27) (at 1 27) (LateWhere (at 1 12)) ∷ ask (at 1 29) (at 1 29) (LateWhere (at 1 23)) ∷ ask (at 1 29) (at 1 33) Early ∷ ask (at 1 33) (at 1 33) Early ∷ []
unfolding decl_parts
part_0_of_late_fby k h0 = simp (h0, constraint_steps, rolled_places)

requirements_of_late_fby : requirements late_fby ≡ (ask (at 1 10) (at 1 29) Early ∷ ask (at 1 12) (at 1 12) Early ∷ ask (at 1 23) (at 1 23) Late ∷ ask (at 1 23) (at 1 27) Early ∷ ask (at 1 27) (at 1 27) (LateWhere (at 1 12)) ∷ []) ++ (ask (at 1 29) (at 1 29) (LateWhere (at 1 23))) ∷ (ask (at 1 29) (at 1 33) Early ∷ ask (at 1 33) (at 1 33) Early ∷ [])
requirements_of_late_fby = in_turn late_fby.names (nth 0 late_fby.decls) (behind 0 late_fby.decls) (record { entries = []; valued = []; started = []; broken = [] }) (record { defined = []; started = []; anchored = []; settled = [] }) _ _ refl refl (part_0_of_late_fby _ refl) refl

is_late_fby_breaks : BreaksInit (at 1 29) late_fby
is_late_fby_breaks = unmet_at 1 (at 1 23 ∷ []) (requirements late_fby) (ask (at 1 10) (at 1 29) Early ∷ ask (at 1 12) (at 1 12) Early ∷ ask (at 1 23) (at 1 23) Late ∷ ask (at 1 23) (at 1 27) Early ∷ ask (at 1 27) (at 1 27) (LateWhere (at 1 12)) ∷ []) (ask (at 1 29) (at 1 33) Early ∷ ask (at 1 33) (at 1 33) Early ∷ []) (ask (at 1 29) (at 1 29) (LateWhere (at 1 23))) requirements_of_late_fby refl refl

part_0_of_fby_of_late : (k : Known) → k.place 1 ≡ Some (at 1 12) → decl_parts k (record { hybrid = false; handler = false; inside = []; own = [] }) (nth 0 fby_of_late.decls) ≡ ask (at 1 10) (at 1 25) Early ∷ ask (at 1 12) (at 1 12) Early ∷ ask (at 1 23) (at 1 23) Early ∷ ask (at 1 25) (at 1 25) (LateWhere (at 1 23)) ∷ ask (at 1 25) (at 1 29) Early ∷ ask (at 1 29) (at 1 29) Late ∷ ask (at 1 29) (at 1 33) Early ∷ ask (at 1 33) (at 1 33) (LateWhere (at 1 12)) ∷ []
unfolding decl_parts
part_0_of_fby_of_late k h0 = simp (h0, constraint_steps, rolled_places)

requirements_of_fby_of_late : requirements fby_of_late ≡ (ask (at 1 10) (at 1 25) Early ∷ ask (at 1 12) (at 1 12) Early ∷ ask (at 1 23) (at 1 23) Early ∷ ask (at 1 25) (at 1 25) (LateWhere (at 1 23)) ∷ ask (at 1 25) (at 1 29) Early ∷ []) ++ (ask (at 1 29) (at 1 29) Late) ∷ (ask (at 1 29) (at 1 33) Early ∷ ask (at 1 33) (at 1 33) (LateWhere (at 1 12)) ∷ [])
requirements_of_fby_of_late = in_turn fby_of_late.names (nth 0 fby_of_late.decls) (behind 0 fby_of_late.decls) (record { entries = []; valued = []; started = []; broken = [] }) (record { defined = []; started = []; anchored = []; settled = [] }) _ _ refl refl (part_0_of_fby_of_late _ refl) refl

is_fby_of_late_breaks : BreaksInit (at 1 29) fby_of_late
is_fby_of_late_breaks = unmet_at 1 [] (requirements fby_of_late) (ask (at 1 10) (at 1 25) Early ∷ ask (at 1 12) (at 1 12) Early ∷ ask (at 1 23) (at 1 23) Early ∷ ask (at 1 25) (at 1 25) (LateWhere (at 1 23)) ∷ ask (at 1 25) (at 1 29) Early ∷ []) (ask (at 1 29) (at 1 33) Early ∷ ask (at 1 33) (at 1 33) (LateWhere (at 1 12)) ∷ []) (ask (at 1 29) (at 1 29) Late) requirements_of_fby_of_late refl refl

outline_0_of_last_anchored : eqns_outline (nth 0 last_anchored.decls).eqs ≡ record { entries = (entry Top (name 2 1 37) ∷ entry Top (name 2 1 47) ∷ entry Top (name 3 1 82) ∷ entry Top (name 3 1 92) ∷ []); valued = (2 ∷ 3 ∷ []); started = (2 ∷ 3 ∷ []); broken = [] }
outline_0_of_last_anchored = simp outline_steps

given_0_of_last_anchored : eqns_given (nth 0 last_anchored.decls).eqs ≡ record { defined = (2 ∷ 3 ∷ []); started = (2 ∷ 3 ∷ []); anchored = []; settled = [] }
given_0_of_last_anchored = simp given_steps

part_0_of_last_anchored : (k : Known) → k.place 1 ≡ Some (at 1 12) → k.place 2 ≡ Some (at 1 37) → k.place 3 ≡ Some (at 1 82) → among k.anchored 2 ≡ true → among k.anchored 3 ≡ true → among k.settled 2 ≡ true → among k.settled 3 ≡ true → decl_parts k (record { hybrid = false; handler = false; inside = []; own = (2 ∷ 3 ∷ []) }) (nth 0 last_anchored.decls) ≡ ask (at 1 10) (at 1 24) Early ∷ ask (at 1 12) (at 1 12) Early ∷ ask (at 1 24) (at 1 24) (LateWhere (at 1 37)) ∷ ask (at 1 32) (at 1 41) Early ∷ ask (at 1 41) (at 1 41) Early ∷ ask (at 1 47) (at 1 37) (LateWhere (at 1 58)) ∷ ask (at 1 51) (at 1 37) Early ∷ ask (at 1 51) (at 1 51) Early ∷ ask (at 1 58) (at 1 58) (LateWhere (at 1 51)) ∷ ask (at 1 58) (at 1 58) (LateWhere (at 1 60)) ∷ ask (at 1 60) (at 1 82) Early ∷ ask (at 1 60) (at 1 60) Early ∷ ask (at 1 77) (at 1 86) Early ∷ ask (at 1 86) (at 1 86) Early ∷ ask (at 1 92) (at 1 103) Early ∷ ask (at 1 96) (at 1 82) Early ∷ ask (at 1 96) (at 1 96) Early ∷ ask (at 1 103) (at 1 103) (LateWhere (at 1 96)) ∷ ask (at 1 103) (at 1 103) (LateWhere (at 1 105)) ∷ ask (at 1 105) (at 1 105) Early ∷ ask (at 1 113) (at 1 114) Early ∷ ask (at 1 114) (at 1 114) (LateWhere (at 1 12)) ∷ []
unfolding decl_parts
part_0_of_last_anchored k h0 h1 h2 h3 h4 h5 h6 = simp (h0, h1, h2, h3, h4, h5, h6, constraint_steps, rolled_places)

requirements_of_last_anchored : requirements last_anchored ≡ ask (at 1 10) (at 1 24) Early ∷ ask (at 1 12) (at 1 12) Early ∷ ask (at 1 24) (at 1 24) (LateWhere (at 1 37)) ∷ ask (at 1 32) (at 1 41) Early ∷ ask (at 1 41) (at 1 41) Early ∷ ask (at 1 47) (at 1 37) (LateWhere (at 1 58)) ∷ ask (at 1 51) (at 1 37) Early ∷ ask (at 1 51) (at 1 51) Early ∷ ask (at 1 58) (at 1 58) (LateWhere (at 1 51)) ∷ ask (at 1 58) (at 1 58) (LateWhere (at 1 60)) ∷ ask (at 1 60) (at 1 82) Early ∷ ask (at 1 60) (at 1 60) Early ∷ ask (at 1 77) (at 1 86) Early ∷ ask (at 1 86) (at 1 86) Early ∷ ask (at 1 92) (at 1 103) Early ∷ ask (at 1 96) (at 1 82) Early ∷ ask (at 1 96) (at 1 96) Early ∷ ask (at 1 103) (at 1 103) (LateWhere (at 1 96)) ∷ ask (at 1 103) (at 1 103) (LateWhere (at 1 105)) ∷ ask (at 1 105) (at 1 105) Early ∷ ask (at 1 113) (at 1 114) Early ∷ ask (at 1 114) (at 1 114) (LateWhere (at 1 12)) ∷ []
requirements_of_last_anchored = in_turn last_anchored.names (nth 0 last_anchored.decls) (behind 0 last_anchored.decls) (record { entries = (entry Top (name 2 1 37) ∷ entry Top (name 2 1 47) ∷ entry Top (name 3 1 82) ∷ entry Top (name 3 1 92) ∷ []); valued = (2 ∷ 3 ∷ []); started = (2 ∷ 3 ∷ []); broken = [] }) (record { defined = (2 ∷ 3 ∷ []); started = (2 ∷ 3 ∷ []); anchored = []; settled = [] }) _ _ outline_0_of_last_anchored given_0_of_last_anchored (part_0_of_last_anchored _ refl refl refl refl refl refl refl) refl

is_last_anchored_keeps : KeepsInit last_anchored
is_last_anchored_keeps = subst HasLevels (sym requirements_of_last_anchored) (has_levels [] _ refl)

outline_0_of_last_of_derivative : eqns_outline (nth 0 last_of_derivative.decls).eqs ≡ record { entries = (entry Top (name 2 1 30) ∷ entry Top (name 1 1 55) ∷ []); valued = (2 ∷ 1 ∷ []); started = (2 ∷ 1 ∷ []); broken = [] }
outline_0_of_last_of_derivative = simp outline_steps

given_0_of_last_of_derivative : eqns_given (nth 0 last_of_derivative.decls).eqs ≡ record { defined = (2 ∷ 1 ∷ []); started = (2 ∷ 1 ∷ []); anchored = []; settled = [] }
given_0_of_last_of_derivative = simp given_steps

part_0_of_last_of_derivative : (k : Known) → k.place 1 ≡ Some (at 1 55) → k.place 2 ≡ Some (at 1 30) → among k.anchored 2 ≡ true → among k.settled 1 ≡ true → among k.settled 2 ≡ true → decl_parts k (record { hybrid = true; handler = false; inside = []; own = (2 ∷ 1 ∷ []) }) (nth 0 last_of_derivative.decls) ≡ ask (at 1 12) (at 1 18) Early ∷ ask (at 1 18) (at 1 18) (LateWhere (at 1 55)) ∷ ask (at 1 26) (at 1 34) Early ∷ ask (at 1 26) (at 1 43) Early ∷ ask (at 1 34) (at 1 34) Early ∷ ask (at 1 43) (at 1 43) Early ∷ ask (at 1 51) (at 1 59) Early ∷ ask (at 1 51) (at 1 68) Early ∷ ask (at 1 59) (at 1 59) Early ∷ ask (at 1 68) (at 1 30) Early ∷ ask (at 1 68) (at 1 68) Early ∷ []
unfolding decl_parts
part_0_of_last_of_derivative k h0 h1 h2 h3 h4 = simp (h0, h1, h2, h3, h4, constraint_steps, rolled_places)

requirements_of_last_of_derivative : requirements last_of_derivative ≡ ask (at 1 12) (at 1 18) Early ∷ ask (at 1 18) (at 1 18) (LateWhere (at 1 55)) ∷ ask (at 1 26) (at 1 34) Early ∷ ask (at 1 26) (at 1 43) Early ∷ ask (at 1 34) (at 1 34) Early ∷ ask (at 1 43) (at 1 43) Early ∷ ask (at 1 51) (at 1 59) Early ∷ ask (at 1 51) (at 1 68) Early ∷ ask (at 1 59) (at 1 59) Early ∷ ask (at 1 68) (at 1 30) Early ∷ ask (at 1 68) (at 1 68) Early ∷ []
requirements_of_last_of_derivative = in_turn last_of_derivative.names (nth 0 last_of_derivative.decls) (behind 0 last_of_derivative.decls) (record { entries = (entry Top (name 2 1 30) ∷ entry Top (name 1 1 55) ∷ []); valued = (2 ∷ 1 ∷ []); started = (2 ∷ 1 ∷ []); broken = [] }) (record { defined = (2 ∷ 1 ∷ []); started = (2 ∷ 1 ∷ []); anchored = []; settled = [] }) _ _ outline_0_of_last_of_derivative given_0_of_last_of_derivative (part_0_of_last_of_derivative _ refl refl refl refl refl) refl

is_last_of_derivative_keeps : KeepsInit last_of_derivative
is_last_of_derivative_keeps = subst HasLevels (sym requirements_of_last_of_derivative) (has_levels [] _ refl)

outline_0_of_last_behind_arrow : eqns_outline (nth 0 last_behind_arrow.decls).eqs ≡ record { entries = (entry Top (name 1 1 24) ∷ []); valued = (1 ∷ []); started = []; broken = [] }
outline_0_of_last_behind_arrow = simp outline_steps

given_0_of_last_behind_arrow : eqns_given (nth 0 last_behind_arrow.decls).eqs ≡ record { defined = (1 ∷ []); started = []; anchored = []; settled = [] }
given_0_of_last_behind_arrow = simp given_steps

part_0_of_last_behind_arrow : (k : Known) → k.place 1 ≡ Some (at 1 24) → among k.anchored 1 ≡ false → among k.settled 1 ≡ true → decl_parts k (record { hybrid = false; handler = false; inside = []; own = (1 ∷ []) }) (nth 0 last_behind_arrow.decls) ≡ ask (at 1 10) (at 1 16) Early ∷ ask (at 1 16) (at 1 16) (LateWhere (at 1 24)) ∷ ask (at 1 24) (at 1 24) (LateWhere (at 1 30)) ∷ ask (at 1 28) (at 1 28) Early ∷ ask (at 1 30) (at 1 30) (LateWhere (at 1 28)) ∷ ask (at 1 33) (at 1 24) Early ∷ ask (at 1 33) (at 1 33) Late ∷ []
unfolding decl_parts
part_0_of_last_behind_arrow k h0 h1 h2 = simp (h0, h1, h2, constraint_steps, rolled_places)

requirements_of_last_behind_arrow : requirements last_behind_arrow ≡ ask (at 1 10) (at 1 16) Early ∷ ask (at 1 16) (at 1 16) (LateWhere (at 1 24)) ∷ ask (at 1 24) (at 1 24) (LateWhere (at 1 30)) ∷ ask (at 1 28) (at 1 28) Early ∷ ask (at 1 30) (at 1 30) (LateWhere (at 1 28)) ∷ ask (at 1 33) (at 1 24) Early ∷ ask (at 1 33) (at 1 33) Late ∷ []
requirements_of_last_behind_arrow = in_turn last_behind_arrow.names (nth 0 last_behind_arrow.decls) (behind 0 last_behind_arrow.decls) (record { entries = (entry Top (name 1 1 24) ∷ []); valued = (1 ∷ []); started = []; broken = [] }) (record { defined = (1 ∷ []); started = []; anchored = []; settled = [] }) _ _ outline_0_of_last_behind_arrow given_0_of_last_behind_arrow (part_0_of_last_behind_arrow _ refl refl refl) refl

is_last_behind_arrow_keeps : KeepsInit last_behind_arrow
is_last_behind_arrow_keeps = subst HasLevels (sym requirements_of_last_behind_arrow) (has_levels (at 1 33 ∷ []) _ refl)

outline_0_of_last_unanchored : eqns_outline (nth 0 last_unanchored.decls).eqs ≡ record { entries = (entry Top (name 1 1 24) ∷ []); valued = (1 ∷ []); started = []; broken = [] }
outline_0_of_last_unanchored = simp outline_steps

given_0_of_last_unanchored : eqns_given (nth 0 last_unanchored.decls).eqs ≡ record { defined = (1 ∷ []); started = []; anchored = []; settled = [] }
given_0_of_last_unanchored = simp given_steps

part_0_of_last_unanchored : (k : Known) → k.place 1 ≡ Some (at 1 24) → among k.anchored 1 ≡ false → among k.settled 1 ≡ true → decl_parts k (record { hybrid = false; handler = false; inside = []; own = (1 ∷ []) }) (nth 0 last_unanchored.decls) ≡ ask (at 1 10) (at 1 16) Early ∷ ask (at 1 16) (at 1 16) (LateWhere (at 1 24)) ∷ ask (at 1 24) (at 1 24) (LateWhere (at 1 35)) ∷ ask (at 1 28) (at 1 24) Early ∷ ask (at 1 28) (at 1 28) Late ∷ ask (at 1 35) (at 1 35) (LateWhere (at 1 28)) ∷ ask (at 1 35) (at 1 35) (LateWhere (at 1 37)) ∷ ask (at 1 37) (at 1 37) Early ∷ []
unfolding decl_parts
part_0_of_last_unanchored k h0 h1 h2 = simp (h0, h1, h2, constraint_steps, rolled_places)

requirements_of_last_unanchored : requirements last_unanchored ≡ (ask (at 1 10) (at 1 16) Early ∷ ask (at 1 16) (at 1 16) (LateWhere (at 1 24)) ∷ ask (at 1 24) (at 1 24) (LateWhere (at 1 35)) ∷ ask (at 1 28) (at 1 24) Early ∷ ask (at 1 28) (at 1 28) Late ∷ []) ++ (ask (at 1 35) (at 1 35) (LateWhere (at 1 28))) ∷ (ask (at 1 35) (at 1 35) (LateWhere (at 1 37)) ∷ ask (at 1 37) (at 1 37) Early ∷ [])
requirements_of_last_unanchored = in_turn last_unanchored.names (nth 0 last_unanchored.decls) (behind 0 last_unanchored.decls) (record { entries = (entry Top (name 1 1 24) ∷ []); valued = (1 ∷ []); started = []; broken = [] }) (record { defined = (1 ∷ []); started = []; anchored = []; settled = [] }) _ _ outline_0_of_last_unanchored given_0_of_last_unanchored (part_0_of_last_unanchored _ refl refl refl) refl

is_last_unanchored_breaks : BreaksInit (at 1 35) last_unanchored
is_last_unanchored_breaks = unmet_at 2 (at 1 28 ∷ []) (requirements last_unanchored) (ask (at 1 10) (at 1 16) Early ∷ ask (at 1 16) (at 1 16) (LateWhere (at 1 24)) ∷ ask (at 1 24) (at 1 24) (LateWhere (at 1 35)) ∷ ask (at 1 28) (at 1 24) Early ∷ ask (at 1 28) (at 1 28) Late ∷ []) (ask (at 1 35) (at 1 35) (LateWhere (at 1 37)) ∷ ask (at 1 37) (at 1 37) Early ∷ []) (ask (at 1 35) (at 1 35) (LateWhere (at 1 28))) requirements_of_last_unanchored refl refl

outline_0_of_last_of_late : eqns_outline (nth 0 last_of_late.decls).eqs ≡ record { entries = (entry Top (name 2 1 41) ∷ []); valued = (2 ∷ []); started = []; broken = [] }
outline_0_of_last_of_late = simp outline_steps

given_0_of_last_of_late : eqns_given (nth 0 last_of_late.decls).eqs ≡ record { defined = (2 ∷ []); started = []; anchored = []; settled = [] }
given_0_of_last_of_late = simp given_steps

part_0_of_last_of_late : (k : Known) → k.place 1 ≡ Some (at 1 12) → k.place 2 ≡ Some (at 1 41) → among k.anchored 2 ≡ false → among k.settled 2 ≡ true → decl_parts k (record { hybrid = false; handler = false; inside = []; own = (2 ∷ []) }) (nth 0 last_of_late.decls) ≡ ask (at 1 10) (at 1 25) Early ∷ ask (at 1 12) (at 1 12) Early ∷ ask (at 1 23) (at 1 23) Early ∷ ask (at 1 25) (at 1 25) (LateWhere (at 1 23)) ∷ ask (at 1 28) (at 1 41) Early ∷ ask (at 1 28) (at 1 28) Late ∷ ask (at 1 41) (at 1 41) (LateWhere (at 1 45)) ∷ ask (at 1 45) (at 1 45) Late ∷ ask (at 1 45) (at 1 49) Early ∷ ask (at 1 49) (at 1 49) (LateWhere (at 1 12)) ∷ []
unfolding decl_parts
part_0_of_last_of_late k h0 h1 h2 h3 = simp (h0, h1, h2, h3, constraint_steps, rolled_places)

requirements_of_last_of_late : requirements last_of_late ≡ (ask (at 1 10) (at 1 25) Early ∷ ask (at 1 12) (at 1 12) Early ∷ ask (at 1 23) (at 1 23) Early ∷ ask (at 1 25) (at 1 25) (LateWhere (at 1 23)) ∷ ask (at 1 28) (at 1 41) Early ∷ ask (at 1 28) (at 1 28) Late ∷ ask (at 1 41) (at 1 41) (LateWhere (at 1 45)) ∷ []) ++ (ask (at 1 45) (at 1 45) Late) ∷ (ask (at 1 45) (at 1 49) Early ∷ ask (at 1 49) (at 1 49) (LateWhere (at 1 12)) ∷ [])
requirements_of_last_of_late = in_turn last_of_late.names (nth 0 last_of_late.decls) (behind 0 last_of_late.decls) (record { entries = (entry Top (name 2 1 41) ∷ []); valued = (2 ∷ []); started = []; broken = [] }) (record { defined = (2 ∷ []); started = []; anchored = []; settled = [] }) _ _ outline_0_of_last_of_late given_0_of_last_of_late (part_0_of_last_of_late _ refl refl refl refl) refl

is_last_of_late_breaks : BreaksInit (at 1 45) last_of_late
is_last_of_late_breaks = unmet_at 2 (at 1 28 ∷ []) (requirements last_of_late) (ask (at 1 10) (at 1 25) Early ∷ ask (at 1 12) (at 1 12) Early ∷ ask (at 1 23) (at 1 23) Early ∷ ask (at 1 25) (at 1 25) (LateWhere (at 1 23)) ∷ ask (at 1 28) (at 1 41) Early ∷ ask (at 1 28) (at 1 28) Late ∷ ask (at 1 41) (at 1 41) (LateWhere (at 1 45)) ∷ []) (ask (at 1 45) (at 1 49) Early ∷ ask (at 1 49) (at 1 49) (LateWhere (at 1 12)) ∷ []) (ask (at 1 45) (at 1 45) Late) requirements_of_last_of_late refl refl

outline_0_of_arm_anchors_not : eqns_outline (nth 0 arm_anchors_not.decls).eqs ≡ record { entries = (entry Top (name 2 1 55) ∷ entry Top (name 2 1 65) ∷ entry Top (name 2 1 89) ∷ []); valued = (2 ∷ 2 ∷ []); started = (2 ∷ []); broken = [] }
outline_0_of_arm_anchors_not = simp outline_steps

given_0_of_arm_anchors_not : eqns_given (nth 0 arm_anchors_not.decls).eqs ≡ record { defined = (2 ∷ []); started = []; anchored = []; settled = [] }
given_0_of_arm_anchors_not = simp given_steps

part_0_of_arm_anchors_not : (k : Known) → k.place 1 ≡ Some (at 1 12) → k.place 2 ≡ Some (at 1 55) → among k.anchored 2 ≡ false → among k.settled 2 ≡ true → decl_parts k (record { hybrid = false; handler = false; inside = []; own = (2 ∷ []) }) (nth 0 arm_anchors_not.decls) ≡ ask (at 1 10) (at 1 24) Early ∷ ask (at 1 12) (at 1 12) Early ∷ ask (at 1 24) (at 1 24) (LateWhere (at 1 55)) ∷ ask (at 1 40) (at 1 41) Early ∷ ask (at 1 41) (at 1 41) (LateWhere (at 1 12)) ∷ ask (at 1 50) (at 1 59) Early ∷ ask (at 1 59) (at 1 59) Early ∷ ask (at 1 65) (at 1 69) Early ∷ ask (at 1 69) (at 1 55) Early ∷ ask (at 1 69) (at 1 69) Late ∷ ask (at 1 89) (at 1 93) Early ∷ ask (at 1 93) (at 1 93) Early ∷ []
unfolding decl_parts
part_0_of_arm_anchors_not k h0 h1 h2 h3 = simp (h0, h1, h2, h3, constraint_steps, rolled_places)

requirements_of_arm_anchors_not : requirements arm_anchors_not ≡ (ask (at 1 10) (at 1 24) Early ∷ ask (at 1 12) (at 1 12) Early ∷ ask (at 1 24) (at 1 24) (LateWhere (at 1 55)) ∷ ask (at 1 40) (at 1 41) Early ∷ ask (at 1 41) (at 1 41) (LateWhere (at 1 12)) ∷ ask (at 1 50) (at 1 59) Early ∷ ask (at 1 59) (at 1 59) Early ∷ ask (at 1 65) (at 1 69) Early ∷ ask (at 1 69) (at 1 55) Early ∷ []) ++ (ask (at 1 69) (at 1 69) Late) ∷ (ask (at 1 89) (at 1 93) Early ∷ ask (at 1 93) (at 1 93) Early ∷ [])
requirements_of_arm_anchors_not = in_turn arm_anchors_not.names (nth 0 arm_anchors_not.decls) (behind 0 arm_anchors_not.decls) (record { entries = (entry Top (name 2 1 55) ∷ entry Top (name 2 1 65) ∷ entry Top (name 2 1 89) ∷ []); valued = (2 ∷ 2 ∷ []); started = (2 ∷ []); broken = [] }) (record { defined = (2 ∷ []); started = []; anchored = []; settled = [] }) _ _ outline_0_of_arm_anchors_not given_0_of_arm_anchors_not (part_0_of_arm_anchors_not _ refl refl refl refl) refl

is_arm_anchors_not_breaks : BreaksInit (at 1 69) arm_anchors_not
is_arm_anchors_not_breaks = unmet_at 1 [] (requirements arm_anchors_not) (ask (at 1 10) (at 1 24) Early ∷ ask (at 1 12) (at 1 12) Early ∷ ask (at 1 24) (at 1 24) (LateWhere (at 1 55)) ∷ ask (at 1 40) (at 1 41) Early ∷ ask (at 1 41) (at 1 41) (LateWhere (at 1 12)) ∷ ask (at 1 50) (at 1 59) Early ∷ ask (at 1 59) (at 1 59) Early ∷ ask (at 1 65) (at 1 69) Early ∷ ask (at 1 69) (at 1 55) Early ∷ []) (ask (at 1 89) (at 1 93) Early ∷ ask (at 1 93) (at 1 93) Early ∷ []) (ask (at 1 69) (at 1 69) Late) requirements_of_arm_anchors_not refl refl

outline_0_of_state_anchors_not : eqns_outline (nth 0 state_anchors_not.decls).eqs ≡ record { entries = (entry Top (name 2 1 55) ∷ entry Top (name 2 1 65) ∷ []); valued = (2 ∷ []); started = (2 ∷ []); broken = [] }
outline_0_of_state_anchors_not = simp outline_steps

given_0_of_state_anchors_not : eqns_given (nth 0 state_anchors_not.decls).eqs ≡ record { defined = (2 ∷ []); started = []; anchored = []; settled = [] }
given_0_of_state_anchors_not = simp given_steps

part_0_of_state_anchors_not : (k : Known) → k.place 1 ≡ Some (at 1 12) → k.place 2 ≡ Some (at 1 55) → among k.anchored 2 ≡ false → among k.settled 2 ≡ true → decl_parts k (record { hybrid = false; handler = false; inside = []; own = (2 ∷ []) }) (nth 0 state_anchors_not.decls) ≡ ask (at 1 10) (at 1 24) Early ∷ ask (at 1 12) (at 1 12) Early ∷ ask (at 1 24) (at 1 24) (LateWhere (at 1 55)) ∷ ask (at 1 50) (at 1 59) Early ∷ ask (at 1 59) (at 1 59) Early ∷ ask (at 1 65) (at 1 69) Early ∷ ask (at 1 69) (at 1 55) Early ∷ ask (at 1 69) (at 1 69) Late ∷ ask (at 1 82) (at 1 83) Early ∷ ask (at 1 83) (at 1 83) (LateWhere (at 1 12)) ∷ []
unfolding decl_parts
part_0_of_state_anchors_not k h0 h1 h2 h3 = simp (h0, h1, h2, h3, constraint_steps, rolled_places)

requirements_of_state_anchors_not : requirements state_anchors_not ≡ (ask (at 1 10) (at 1 24) Early ∷ ask (at 1 12) (at 1 12) Early ∷ ask (at 1 24) (at 1 24) (LateWhere (at 1 55)) ∷ ask (at 1 50) (at 1 59) Early ∷ ask (at 1 59) (at 1 59) Early ∷ ask (at 1 65) (at 1 69) Early ∷ ask (at 1 69) (at 1 55) Early ∷ []) ++ (ask (at 1 69) (at 1 69) Late) ∷ (ask (at 1 82) (at 1 83) Early ∷ ask (at 1 83) (at 1 83) (LateWhere (at 1 12)) ∷ [])
requirements_of_state_anchors_not = in_turn state_anchors_not.names (nth 0 state_anchors_not.decls) (behind 0 state_anchors_not.decls) (record { entries = (entry Top (name 2 1 55) ∷ entry Top (name 2 1 65) ∷ []); valued = (2 ∷ []); started = (2 ∷ []); broken = [] }) (record { defined = (2 ∷ []); started = []; anchored = []; settled = [] }) _ _ outline_0_of_state_anchors_not given_0_of_state_anchors_not (part_0_of_state_anchors_not _ refl refl refl refl) refl

is_state_anchors_not_breaks : BreaksInit (at 1 69) state_anchors_not
is_state_anchors_not_breaks = unmet_at 1 [] (requirements state_anchors_not) (ask (at 1 10) (at 1 24) Early ∷ ask (at 1 12) (at 1 12) Early ∷ ask (at 1 24) (at 1 24) (LateWhere (at 1 55)) ∷ ask (at 1 50) (at 1 59) Early ∷ ask (at 1 59) (at 1 59) Early ∷ ask (at 1 65) (at 1 69) Early ∷ ask (at 1 69) (at 1 55) Early ∷ []) (ask (at 1 82) (at 1 83) Early ∷ ask (at 1 83) (at 1 83) (LateWhere (at 1 12)) ∷ []) (ask (at 1 69) (at 1 69) Late) requirements_of_state_anchors_not refl refl

outline_0_of_local_anchored : eqns_outline (nth 0 local_anchored.decls).eqs ≡ record { entries = (entry Top (name 2 1 37) ∷ entry Local (name 3 1 68) ∷ entry Top (name 2 1 110) ∷ []); valued = (2 ∷ []); started = (2 ∷ []); broken = [] }
outline_0_of_local_anchored = simp outline_steps

given_0_of_local_anchored : eqns_given (nth 0 local_anchored.decls).eqs ≡ record { defined = []; started = (2 ∷ []); anchored = (3 ∷ []); settled = (3 ∷ []) }
given_0_of_local_anchored = simp given_steps

part_0_of_local_anchored : (k : Known) → k.place 1 ≡ Some (at 1 12) → k.place 2 ≡ Some (at 1 37) → k.place 3 ≡ Some (at 1 68) → among k.anchored 3 ≡ true → among k.settled 2 ≡ true → among k.settled 3 ≡ true → decl_parts k (record { hybrid = false; handler = false; inside = []; own = (2 ∷ []) }) (nth 0 local_anchored.decls) ≡ ask (at 1 10) (at 1 24) Early ∷ ask (at 1 12) (at 1 12) Early ∷ ask (at 1 24) (at 1 24) (LateWhere (at 1 37)) ∷ ask (at 1 32) (at 1 41) Early ∷ ask (at 1 41) (at 1 41) Early ∷ ask (at 1 55) (at 1 56) Early ∷ ask (at 1 56) (at 1 56) (LateWhere (at 1 12)) ∷ ask (at 1 76) (at 1 85) Early ∷ ask (at 1 85) (at 1 85) Early ∷ ask (at 1 91) (at 1 68) (LateWhere (at 1 102)) ∷ ask (at 1 95) (at 1 68) Early ∷ ask (at 1 95) (at 1 95) Early ∷ ask (at 1 102) (at 1 102) (LateWhere (at 1 95)) ∷ ask (at 1 102) (at 1 102) (LateWhere (at 1 104)) ∷ ask (at 1 104) (at 1 104) Early ∷ ask (at 1 110) (at 1 114) Early ∷ ask (at 1 114) (at 1 68) Early ∷ ask (at 1 114) (at 1 114) Early ∷ []
unfolding decl_parts
part_0_of_local_anchored k h0 h1 h2 h3 h4 h5 = simp (h0, h1, h2, h3, h4, h5, constraint_steps, rolled_places)

requirements_of_local_anchored : requirements local_anchored ≡ ask (at 1 10) (at 1 24) Early ∷ ask (at 1 12) (at 1 12) Early ∷ ask (at 1 24) (at 1 24) (LateWhere (at 1 37)) ∷ ask (at 1 32) (at 1 41) Early ∷ ask (at 1 41) (at 1 41) Early ∷ ask (at 1 55) (at 1 56) Early ∷ ask (at 1 56) (at 1 56) (LateWhere (at 1 12)) ∷ ask (at 1 76) (at 1 85) Early ∷ ask (at 1 85) (at 1 85) Early ∷ ask (at 1 91) (at 1 68) (LateWhere (at 1 102)) ∷ ask (at 1 95) (at 1 68) Early ∷ ask (at 1 95) (at 1 95) Early ∷ ask (at 1 102) (at 1 102) (LateWhere (at 1 95)) ∷ ask (at 1 102) (at 1 102) (LateWhere (at 1 104)) ∷ ask (at 1 104) (at 1 104) Early ∷ ask (at 1 110) (at 1 114) Early ∷ ask (at 1 114) (at 1 68) Early ∷ ask (at 1 114) (at 1 114) Early ∷ []
requirements_of_local_anchored = in_turn local_anchored.names (nth 0 local_anchored.decls) (behind 0 local_anchored.decls) (record { entries = (entry Top (name 2 1 37) ∷ entry Local (name 3 1 68) ∷ entry Top (name 2 1 110) ∷ []); valued = (2 ∷ []); started = (2 ∷ []); broken = [] }) (record { defined = []; started = (2 ∷ []); anchored = (3 ∷ []); settled = (3 ∷ []) }) _ _ outline_0_of_local_anchored given_0_of_local_anchored (part_0_of_local_anchored _ refl refl refl refl refl refl) refl

is_local_anchored_keeps : KeepsInit local_anchored
is_local_anchored_keeps = subst HasLevels (sym requirements_of_local_anchored) (has_levels [] _ refl)

pub expression_levels_worked : ExpressionLevelsWorked
expression_levels_worked = record {
  early_parts_keeps = is_early_parts_keeps;
  late_result_breaks = is_late_result_breaks;
  second_late_result_breaks = is_second_late_result_breaks;
  late_operands_keeps = is_late_operands_keeps;
  late_right_operand_breaks = is_late_right_operand_breaks;
  late_left_operand_breaks = is_late_left_operand_breaks;
  late_first_operand_breaks = is_late_first_operand_breaks;
  late_under_minus_breaks = is_late_under_minus_breaks;
  early_if_keeps = is_early_if_keeps;
  late_condition_breaks = is_late_condition_breaks;
  late_branch_breaks = is_late_branch_breaks;
  late_other_branch_breaks = is_late_other_branch_breaks;
  calls_early_keeps = is_calls_early_keeps;
  late_built_in_breaks = is_late_built_in_breaks;
  late_argument_breaks = is_late_argument_breaks;
  pre_behind_arrow_keeps = is_pre_behind_arrow_keeps;
  pre_of_pre_breaks = is_pre_of_pre_breaks;
  flows_early_keeps = is_flows_early_keeps;
  late_arrow_breaks = is_late_arrow_breaks;
  late_fby_breaks = is_late_fby_breaks;
  fby_of_late_breaks = is_fby_of_late_breaks;
  last_anchored_keeps = is_last_anchored_keeps;
  last_of_derivative_keeps = is_last_of_derivative_keeps;
  last_behind_arrow_keeps = is_last_behind_arrow_keeps;
  last_unanchored_breaks = is_last_unanchored_breaks;
  last_of_late_breaks = is_last_of_late_breaks;
  arm_anchors_not_breaks = is_arm_anchors_not_breaks;
  state_anchors_not_breaks = is_state_anchors_not_breaks;
  local_anchored_keeps = is_local_anchored_keeps;
}
