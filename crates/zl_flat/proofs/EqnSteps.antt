-- The walk of an equation, by its form.
use Rattle.std.specs.Option.{option_map}
use Rattle.std.proofs.Common.{◌≡◌, ℕ, refl, List, [], ◌∷◌, map, Option, Some, None, sym, ap, ◌∙◌}
use Rattle.zl_flat.specs.declared.here.Here.{Here}
use Rattle.zl_value.specs.declared.position.Pos.{Pos}
use Rattle.zl_ast.specs.declared.name.Name.{Name}
use Rattle.zl_ast.specs.declared.expr.Expr.{Expr}
use Rattle.zl_ast.specs.declared.eqn.Eqn.{Eqn}
use Rattle.zl_ast.specs.declared.eqn.Eqn.TheVariants as eqn
use Rattle.zl_ast.specs.declared.eqn.Eqn.TheOpen as open_eqn
use Rattle.zl_ast.specs.declared.eqn.Eqn.TheFolds.{fold-roll-Eqn, fold_out-Arm, fold_out-Body, fold_out-State}
use Rattle.zl_ast.specs.declared.eqn.Cond.{Cond}
use Rattle.zl_ast.specs.declared.eqn.ResetArm.{ResetArm}
use Rattle.zl_ast.specs.declared.eqn.Arm.{Arm, out-Arm}
use Rattle.zl_ast.specs.declared.eqn.Body.{Body, out-Body}
use Rattle.zl_ast.specs.declared.eqn.State.{State, out-State}
use Rattle.zl_flat.specs.Parts.{Counters}
use Rattle.zl_flat.specs.Expressions.{expr_walk}
use Rattle.zl_flat.specs.Instances.{Instance}
use Rattle.zl_flat.specs.Equations.{Making, ArmWalk, StateWalk, plain, der, init, present, automaton, reset, cond_walk, start_walk, reset_arm_walk, move_walk, arm_made, body_made, state_made, state_names, eqn_step, arm_step, body_step, state_step, eqn_walk, arm_walk, body_walk, one_state_walk}

module _ (base : ℕ) (names : List (List ℕ)) (i : Instance) (here : Here) (s : Counters) where
  pub make-plain : (left : List Name) (right : Expr) → eqn_walk base names i (eqn.Plain left right) here s ≡ plain base names i left (expr_walk base names i right) here s
  unfolding eqn_walk arm_walk body_walk one_state_walk
  make-plain left right = ap (λ x. eqn_walk base names i x here s) (sym (eqn.rolls-Plain left right)) ∙ ap (λ u. u here s) (fold-roll-Eqn Making ArmWalk Making StateWalk (eqn_step base names i) (arm_step base names i) (body_step base names i) (state_step base names i) (open_eqn.Plain left right))

  pub make-der : (at : Pos) (x : Name) (slope : Expr) (start : Option Expr) (resets : List ResetArm) → eqn_walk base names i (eqn.Der at x slope start resets) here s ≡ der base names i x (expr_walk base names i slope) (start_walk base names i start) (map (reset_arm_walk base names i) resets) here s
  unfolding eqn_walk arm_walk body_walk one_state_walk
  make-der at x slope start resets = ap (λ x. eqn_walk base names i x here s) (sym (eqn.rolls-Der at x slope start resets)) ∙ ap (λ u. u here s) (fold-roll-Eqn Making ArmWalk Making StateWalk (eqn_step base names i) (arm_step base names i) (body_step base names i) (state_step base names i) (open_eqn.Der at x slope start resets))

  pub make-start : (at : Pos) (x : Name) (value : Expr) → eqn_walk base names i (eqn.Start at x value) here s ≡ init base names i x (expr_walk base names i value) here s
  unfolding eqn_walk arm_walk body_walk one_state_walk
  make-start at x value = ap (λ x. eqn_walk base names i x here s) (sym (eqn.rolls-Start at x value)) ∙ ap (λ u. u here s) (fold-roll-Eqn Making ArmWalk Making StateWalk (eqn_step base names i) (arm_step base names i) (body_step base names i) (state_step base names i) (open_eqn.Start at x value))

  pub make-automaton : (at : Pos) (states : List State) → eqn_walk base names i (eqn.Automaton at states) here s ≡ automaton base names i (map (one_state_walk base names i) states) here s
  unfolding eqn_walk arm_walk body_walk one_state_walk
  make-automaton at states = ap (λ x. eqn_walk base names i x here s) (sym (eqn.rolls-Automaton at states)) ∙ ap (λ u. u here s) (fold-roll-Eqn Making ArmWalk Making StateWalk (eqn_step base names i) (arm_step base names i) (body_step base names i) (state_step base names i) (open_eqn.Automaton at states))

  pub make-reset : (at : Pos) (eqs : List Eqn) (c : Cond) → eqn_walk base names i (eqn.Reset at eqs c) here s ≡ reset base names i (map (eqn_walk base names i) eqs) (cond_walk base names i c) here s
  unfolding eqn_walk arm_walk body_walk one_state_walk
  make-reset at eqs c = ap (λ x. eqn_walk base names i x here s) (sym (eqn.rolls-Reset at eqs c)) ∙ ap (λ u. u here s) (fold-roll-Eqn Making ArmWalk Making StateWalk (eqn_step base names i) (arm_step base names i) (body_step base names i) (state_step base names i) (open_eqn.Reset at eqs c))

  pub make-present : (at : Pos) (arms : List Arm) (other : Option Body) → eqn_walk base names i (eqn.Present at arms other) here s ≡ present base names i (map (arm_walk base names i) arms) (option_map (body_walk base names i) other) here s
  unfolding eqn_walk arm_walk body_walk one_state_walk
  make-present at arms None = ap (λ x. eqn_walk base names i x here s) (sym (eqn.rolls-Present at arms None)) ∙ ap (λ u. u here s) (fold-roll-Eqn Making ArmWalk Making StateWalk (eqn_step base names i) (arm_step base names i) (body_step base names i) (state_step base names i) (open_eqn.Present at arms None))
  make-present at arms (Some b) = ap (λ x. eqn_walk base names i x here s) (sym (eqn.rolls-Present at arms (Some b))) ∙ ap (λ u. u here s) (fold-roll-Eqn Making ArmWalk Making StateWalk (eqn_step base names i) (arm_step base names i) (body_step base names i) (state_step base names i) (open_eqn.Present at arms (Some b)))

  pub make-arm : (a : Arm) (of number : ℕ) → arm_walk base names i a of number here s ≡ arm_made base names i (cond_walk base names i (out-Arm a).cond) (body_walk base names i (out-Arm a).body) of number here s
  unfolding eqn_walk arm_walk body_walk one_state_walk
  make-arm a of number = ap (λ u. u of number here s) (fold_out-Arm Making ArmWalk Making StateWalk (eqn_step base names i) (arm_step base names i) (body_step base names i) (state_step base names i) a)

  pub make-body : (b : Body) → body_walk base names i b here s ≡ body_made base names i (out-Body b).locals (map (eqn_walk base names i) (out-Body b).eqs) here s
  unfolding eqn_walk arm_walk body_walk one_state_walk
  make-body b = ap (λ u. u here s) (fold_out-Body Making ArmWalk Making StateWalk (eqn_step base names i) (arm_step base names i) (body_step base names i) (state_step base names i) b)

  pub make-state : (s : State) → one_state_walk base names i s ≡ record { name = (out-State s).name; walk = state_made base names i (body_walk base names i (out-State s).body) (map (move_walk base names i) (out-State s).moves) }
  unfolding eqn_walk arm_walk body_walk one_state_walk
  make-state s = fold_out-State Making ArmWalk Making StateWalk (eqn_step base names i) (arm_step base names i) (body_step base names i) (state_step base names i) s

  pub make-state_walk : (t : State) (of number : ℕ) (ids : List ℕ) → (one_state_walk base names i t).walk of number ids here s ≡ state_made base names i (body_walk base names i (out-State t).body) (map (move_walk base names i) (out-State t).moves) of number ids here s
  make-state_walk t of number ids = ap (λ w. w.walk of number ids here s) (make-state t)

  pub make-state_names : (ts : List State) → state_names (map (one_state_walk base names i) ts) ≡ map (λ t. (out-State t).name.id) ts
  make-state_names [] = refl
  make-state_names (t ∷ ts) = λ j. (make-state t j).name.id ∷ make-state_names ts j

pub ruleset make_steps = (make-state_walk, make-state_names, make-plain, make-der, make-start, make-automaton, make-reset, make-present, make-arm, make-body, make-state)
