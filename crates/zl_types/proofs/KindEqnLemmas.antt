-- The misplaced constructs in an equation, by its form.
use Rattle.std.proofs.Common.{◌≡◌, List, ◌++◌, map, is_some, Option, Some, None, sym, ap, ◌∙◌}
use Rattle.zl_value.specs.declared.position.Pos.{Pos}
use Rattle.zl_ast.specs.declared.name.Name.{Name}
use Rattle.zl_ast.specs.declared.expr.Expr.{Expr}
use Rattle.zl_ast.specs.declared.eqn.Eqn.{Eqn}
use Rattle.zl_ast.specs.declared.eqn.Eqn.TheVariants as eqn
use Rattle.zl_ast.specs.declared.eqn.Eqn.TheOpen as open_eqn
use Rattle.zl_ast.specs.declared.eqn.Eqn.TheFolds.{fold-roll-Eqn, fold_out-Arm, fold_out-Body, fold_out-State}
use Rattle.zl_ast.specs.declared.eqn.Cond.{Cond}
use Rattle.zl_ast.specs.declared.eqn.ResetArm.{ResetArm}
use Rattle.zl_ast.specs.declared.eqn.Arm.{Arm, out-Arm}
use Rattle.zl_ast.specs.declared.eqn.Body.{Body, out-Body}
use Rattle.zl_ast.specs.declared.eqn.State.{State, out-State}
use Rattle.zl_ast.specs.Kinds.{Context, discrete, recalling, hybrid, Declared, Misplaced, is_hybrid, allows_state, allows_present, unless_allowed, all_misplaced, expr_misplaced, cond_misplaced, start_misplaced, resets_misplaced, eqn_step, arm_step, body_step, state_step, eqn_misplaced, arm_misplaced, body_misplaced, state_misplaced, in_other, eqns_misplaced}
use Rattle.zl_types.proofs.KindFirstLemmas.{noting}

module _ (d : Declared) (c : Context) where
  pub misplaced-plain : (left : List Name) (right : Expr) → eqn_misplaced d (eqn.Plain left right) c ≡ expr_misplaced d right c
  unfolding eqn_misplaced state_misplaced
  misplaced-plain left right =
      ap (λ x. eqn_misplaced d x c) (sym (eqn.rolls-Plain left right)) ∙ ap (λ m. m c) (fold-roll-Eqn Misplaced Misplaced Misplaced Misplaced (eqn_step d) (arm_step d) (body_step d) (state_step d) (open_eqn.Plain left right))

  pub misplaced-der : (at : Pos) (x : Name) (slope : Expr) (start : Option Expr) (resets : List ResetArm) → eqn_misplaced d (eqn.Der at x slope start resets) c
      ≡ unless_allowed (is_hybrid c) at ++ (expr_misplaced d slope hybrid ++ (start_misplaced d start ++ resets_misplaced d resets))
  unfolding eqn_misplaced state_misplaced
  misplaced-der at x slope start resets =
      ap (λ x. eqn_misplaced d x c) (sym (eqn.rolls-Der at x slope start resets)) ∙ ap (λ m. m c) (fold-roll-Eqn Misplaced Misplaced Misplaced Misplaced (eqn_step d) (arm_step d) (body_step d) (state_step d) (open_eqn.Der at x slope start resets))

  pub misplaced-start : (at : Pos) (x : Name) (value : Expr) → eqn_misplaced d (eqn.Start at x value) c ≡ unless_allowed (allows_state c) at ++ expr_misplaced d value recalling
  unfolding eqn_misplaced state_misplaced
  misplaced-start at x value =
      ap (λ x. eqn_misplaced d x c) (sym (eqn.rolls-Start at x value)) ∙ ap (λ m. m c) (fold-roll-Eqn Misplaced Misplaced Misplaced Misplaced (eqn_step d) (arm_step d) (body_step d) (state_step d) (open_eqn.Start at x value))

  pub misplaced-present : (at : Pos) (arms : List Arm) (other : Option Body) → eqn_misplaced d (eqn.Present at arms other) c
      ≡ unless_allowed (allows_present (is_some other) c) at ++ (all_misplaced (map (arm_misplaced d) arms) c ++ in_other d other)
  unfolding eqn_misplaced arm_misplaced body_misplaced
  misplaced-present at arms None =
      ap (λ x. eqn_misplaced d x c) (sym (eqn.rolls-Present at arms None)) ∙ ap (λ m. m c) (fold-roll-Eqn Misplaced Misplaced Misplaced Misplaced (eqn_step d) (arm_step d) (body_step d) (state_step d) (open_eqn.Present at arms None))
  misplaced-present at arms (Some b) =
      ap (λ x. eqn_misplaced d x c) (sym (eqn.rolls-Present at arms (Some b))) ∙ ap (λ m. m c) (fold-roll-Eqn Misplaced Misplaced Misplaced Misplaced (eqn_step d) (arm_step d) (body_step d) (state_step d) (open_eqn.Present at arms (Some b)))

  pub misplaced-automaton : (at : Pos) (states : List State) → eqn_misplaced d (eqn.Automaton at states) c ≡ unless_allowed (allows_state c) at ++ all_misplaced (map (state_misplaced d) states) c
  unfolding eqn_misplaced state_misplaced
  misplaced-automaton at states =
      ap (λ x. eqn_misplaced d x c) (sym (eqn.rolls-Automaton at states)) ∙ ap (λ m. m c) (fold-roll-Eqn Misplaced Misplaced Misplaced Misplaced (eqn_step d) (arm_step d) (body_step d) (state_step d) (open_eqn.Automaton at states))

  pub misplaced-reset : (at : Pos) (eqs : List Eqn) (b : Cond) → eqn_misplaced d (eqn.Reset at eqs b) c ≡ unless_allowed (allows_state c) at ++ (eqns_misplaced d eqs c ++ cond_misplaced d b c)
  unfolding eqn_misplaced state_misplaced
  misplaced-reset at eqs b =
      ap (λ x. eqn_misplaced d x c) (sym (eqn.rolls-Reset at eqs b)) ∙ ap (λ m. m c) (fold-roll-Eqn Misplaced Misplaced Misplaced Misplaced (eqn_step d) (arm_step d) (body_step d) (state_step d) (open_eqn.Reset at eqs b))

  pub misplaced-arm : (a : Arm) → arm_misplaced d a c ≡ cond_misplaced d (out-Arm a).cond c ++ body_misplaced d (out-Arm a).body discrete
  unfolding arm_misplaced body_misplaced
  misplaced-arm a = ap (λ m. m c) (fold_out-Arm Misplaced Misplaced Misplaced Misplaced (eqn_step d) (arm_step d) (body_step d) (state_step d) a)

  pub misplaced-body : (b : Body) → body_misplaced d b c ≡ eqns_misplaced d (out-Body b).eqs c
  unfolding eqn_misplaced body_misplaced
  misplaced-body b = ap (λ m. m c) (fold_out-Body Misplaced Misplaced Misplaced Misplaced (eqn_step d) (arm_step d) (body_step d) (state_step d) b)

  pub misplaced-state : (s : State) → state_misplaced d s c
      ≡ body_misplaced d (out-State s).body c ++ all_misplaced (map (λ m. cond_misplaced d m.cond) (out-State s).moves) c
  unfolding state_misplaced body_misplaced
  misplaced-state s = ap (λ m. m c) (fold_out-State Misplaced Misplaced Misplaced Misplaced (eqn_step d) (arm_step d) (body_step d) (state_step d) s)

pub ruleset eqn_steps = (noting, misplaced-plain, misplaced-der, misplaced-start, misplaced-present, misplaced-automaton, misplaced-reset, misplaced-arm, misplaced-body, misplaced-state)
