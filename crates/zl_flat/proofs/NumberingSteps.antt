-- The places of variables in an equation, by its form.
use Rattle.std.proofs.Common.{◌≡◌, ℕ, List, map, Option, Some, None, sym, ap, ◌∙◌}
use Rattle.zl_flat.specs.declared.size.Size.{Size}
use Rattle.zl_value.specs.declared.position.Pos.{Pos}
use Rattle.zl_ast.specs.declared.name.Name.{Name}
use Rattle.zl_ast.specs.declared.scope.VarInfo.{VarInfo}
use Rattle.zl_ast.specs.declared.expr.Expr.{Expr}
use Rattle.zl_ast.specs.declared.eqn.Eqn.{Eqn}
use Rattle.zl_ast.specs.declared.eqn.Eqn.TheVariants as eqn
use Rattle.zl_ast.specs.declared.eqn.Eqn.TheOpen as open_eqn
use Rattle.zl_ast.specs.declared.eqn.Eqn.TheFolds.{fold-roll-Eqn, fold_out-Arm, fold_out-Body, fold_out-State}
use Rattle.zl_ast.specs.declared.eqn.Cond.{Cond}
use Rattle.zl_ast.specs.declared.eqn.ResetArm.{ResetArm}
use Rattle.zl_ast.specs.declared.eqn.Arm.{Arm, out-Arm}
use Rattle.zl_ast.specs.declared.eqn.Body.{Body, out-Body}
use Rattle.zl_ast.specs.declared.eqn.State.{State, out-State}
use Rattle.zl_flat.specs.Sizes.{total, expr_size, start_size, reset_arm_size, cond_size, move_size}
use Rattle.zl_flat.specs.Numbering.{Numbering, both, in_turn, no_places, of_calls, of_name, of_names, eqn_step, arm_step, body_step, state_step, eqn_numbering, arm_numbering, body_numbering, state_numbering}

module _ (vars : List VarInfo) (known : ℕ → Option Size) (n : ℕ) where
  pub numbering-plain : (left : List Name) (right : Expr) → eqn_numbering vars known (eqn.Plain left right) n ≡ both (of_names vars known left) (of_calls (expr_size vars known right)) n
  unfolding eqn_numbering arm_numbering body_numbering state_numbering
  numbering-plain left right = ap (λ x. eqn_numbering vars known x n) (sym (eqn.rolls-Plain left right)) ∙ ap (λ u. u n) (fold-roll-Eqn Numbering Numbering Numbering Numbering (eqn_step vars known) (arm_step vars known) (body_step vars known) (state_step vars known) (open_eqn.Plain left right))

  pub numbering-der : (at : Pos) (x : Name) (slope : Expr) (start : Option Expr) (resets : List ResetArm) → eqn_numbering vars known (eqn.Der at x slope start resets) n ≡ both (of_name vars known x) (both (of_calls (expr_size vars known slope)) (both (of_calls (start_size vars known start)) (of_calls (total (map (reset_arm_size vars known) resets))))) n
  unfolding eqn_numbering arm_numbering body_numbering state_numbering
  numbering-der at x slope start resets = ap (λ x. eqn_numbering vars known x n) (sym (eqn.rolls-Der at x slope start resets)) ∙ ap (λ u. u n) (fold-roll-Eqn Numbering Numbering Numbering Numbering (eqn_step vars known) (arm_step vars known) (body_step vars known) (state_step vars known) (open_eqn.Der at x slope start resets))

  pub numbering-start : (at : Pos) (x : Name) (value : Expr) → eqn_numbering vars known (eqn.Start at x value) n ≡ both (of_name vars known x) (of_calls (expr_size vars known value)) n
  unfolding eqn_numbering arm_numbering body_numbering state_numbering
  numbering-start at x value = ap (λ x. eqn_numbering vars known x n) (sym (eqn.rolls-Start at x value)) ∙ ap (λ u. u n) (fold-roll-Eqn Numbering Numbering Numbering Numbering (eqn_step vars known) (arm_step vars known) (body_step vars known) (state_step vars known) (open_eqn.Start at x value))

  pub numbering-automaton : (at : Pos) (states : List State) → eqn_numbering vars known (eqn.Automaton at states) n ≡ in_turn (map (state_numbering vars known) states) n
  unfolding eqn_numbering arm_numbering body_numbering state_numbering
  numbering-automaton at states = ap (λ x. eqn_numbering vars known x n) (sym (eqn.rolls-Automaton at states)) ∙ ap (λ u. u n) (fold-roll-Eqn Numbering Numbering Numbering Numbering (eqn_step vars known) (arm_step vars known) (body_step vars known) (state_step vars known) (open_eqn.Automaton at states))

  pub numbering-reset : (at : Pos) (eqs : List Eqn) (c : Cond) → eqn_numbering vars known (eqn.Reset at eqs c) n ≡ both (in_turn (map (eqn_numbering vars known) eqs)) (of_calls (cond_size vars known c)) n
  unfolding eqn_numbering arm_numbering body_numbering state_numbering
  numbering-reset at eqs c = ap (λ x. eqn_numbering vars known x n) (sym (eqn.rolls-Reset at eqs c)) ∙ ap (λ u. u n) (fold-roll-Eqn Numbering Numbering Numbering Numbering (eqn_step vars known) (arm_step vars known) (body_step vars known) (state_step vars known) (open_eqn.Reset at eqs c))

  pub numbering-present : (at : Pos) (arms : List Arm) → eqn_numbering vars known (eqn.Present at arms None) n ≡ both (in_turn (map (arm_numbering vars known) arms)) no_places n
  unfolding eqn_numbering arm_numbering body_numbering state_numbering
  numbering-present at arms = ap (λ x. eqn_numbering vars known x n) (sym (eqn.rolls-Present at arms None)) ∙ ap (λ u. u n) (fold-roll-Eqn Numbering Numbering Numbering Numbering (eqn_step vars known) (arm_step vars known) (body_step vars known) (state_step vars known) (open_eqn.Present at arms None))

  pub numbering-present_else : (at : Pos) (arms : List Arm) (b : Body) → eqn_numbering vars known (eqn.Present at arms (Some b)) n ≡ both (in_turn (map (arm_numbering vars known) arms)) (body_numbering vars known b) n
  unfolding eqn_numbering arm_numbering body_numbering state_numbering
  numbering-present_else at arms b = ap (λ x. eqn_numbering vars known x n) (sym (eqn.rolls-Present at arms (Some b))) ∙ ap (λ u. u n) (fold-roll-Eqn Numbering Numbering Numbering Numbering (eqn_step vars known) (arm_step vars known) (body_step vars known) (state_step vars known) (open_eqn.Present at arms (Some b)))

  pub numbering-arm : (a : Arm) → arm_numbering vars known a n ≡ both (of_calls (cond_size vars known (out-Arm a).cond)) (body_numbering vars known (out-Arm a).body) n
  unfolding eqn_numbering arm_numbering body_numbering state_numbering
  numbering-arm a = ap (λ u. u n) (fold_out-Arm Numbering Numbering Numbering Numbering (eqn_step vars known) (arm_step vars known) (body_step vars known) (state_step vars known) a)

  pub numbering-body : (b : Body) → body_numbering vars known b n ≡ both (of_names vars known (out-Body b).locals) (in_turn (map (eqn_numbering vars known) (out-Body b).eqs)) n
  unfolding eqn_numbering arm_numbering body_numbering state_numbering
  numbering-body b = ap (λ u. u n) (fold_out-Body Numbering Numbering Numbering Numbering (eqn_step vars known) (arm_step vars known) (body_step vars known) (state_step vars known) b)

  pub numbering-state : (s : State) → state_numbering vars known s n ≡ both (body_numbering vars known (out-State s).body) (of_calls (total (map (move_size vars known) (out-State s).moves))) n
  unfolding eqn_numbering arm_numbering body_numbering state_numbering
  numbering-state s = ap (λ u. u n) (fold_out-State Numbering Numbering Numbering Numbering (eqn_step vars known) (arm_step vars known) (body_step vars known) (state_step vars known) s)

pub ruleset numbering_steps = (numbering-plain, numbering-der, numbering-start, numbering-automaton, numbering-reset, numbering-present, numbering-present_else, numbering-arm, numbering-body, numbering-state)
