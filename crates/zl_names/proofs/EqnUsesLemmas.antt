-- The violations in an equation, by its form.
use Rattle.std.proofs.Common.{◌≡◌, ℕ, true, false, List, ◌++◌, map, length, Option, Some, None, sym, ap, ◌∙◌}
use Rattle.std.proofs.lemmas.Grind.{common_steps}
use Rattle.zl_value.specs.declared.position.Pos.{Pos}
use Rattle.zl_ast.specs.declared.name.Name.{Name}
use Rattle.zl_ast.specs.declared.expr.Expr.{Expr}
use Rattle.zl_ast.specs.declared.eqn.Eqn.{Eqn}
use Rattle.zl_ast.specs.declared.eqn.Eqn.TheVariants as eqn
use Rattle.zl_ast.specs.declared.eqn.Eqn.TheOpen as open_eqn
use Rattle.zl_ast.specs.declared.eqn.Eqn.TheFolds.{fold-roll-Eqn, fold_out-Arm, fold_out-Body, fold_out-State}
use Rattle.zl_ast.specs.declared.eqn.Cond.{Cond}
use Rattle.zl_ast.specs.declared.eqn.ResetArm.{ResetArm}
use Rattle.zl_ast.specs.declared.eqn.Arm.{Arm, out-Arm}
use Rattle.zl_ast.specs.declared.eqn.Body.{Body, out-Body}
use Rattle.zl_ast.specs.declared.eqn.State.{State, out-State}
use Rattle.zl_ast.specs.Names.{ids_of, with_ids}
use Rattle.zl_ast.specs.NamesUsed.{Known, Uses, BodyUses, all_uses, expr_uses, cond_uses, start_uses, reset_arm_uses, moves_uses, eqn_step, arm_step, body_step, state_step, eqn_uses, arm_uses, body_uses, state_uses, eqns_uses, inside, in_body, in_other}
use Rattle.zl_names.proofs.EarliestLemmas.{earliest-append, earliest-none}
use Rattle.zl_names.proofs.SetLemmas.{take-with_ids}

module _ (k : Known) (visible : List ℕ) where
  pub uses-plain : (left : List Name) (right : Expr) → eqn_uses k (eqn.Plain left right) visible ≡ expr_uses k right (length left) visible
  unfolding eqn_uses state_uses
  uses-plain left right =
      ap (λ x. eqn_uses k x visible) (sym (eqn.rolls-Plain left right)) ∙ ap (λ u. u visible) (fold-roll-Eqn Uses Uses BodyUses Uses (eqn_step k) (arm_step k) (body_step k) (state_step k) (open_eqn.Plain left right))

  pub uses-der : (at : Pos) (x : Name) (slope : Expr) (start : Option Expr) (resets : List ResetArm) → eqn_uses k (eqn.Der at x slope start resets) visible ≡ expr_uses k slope 1 visible ++ (start_uses k start visible ++ all_uses (map (reset_arm_uses k) resets) visible)
  unfolding eqn_uses state_uses
  uses-der at x slope start resets =
      ap (λ x. eqn_uses k x visible) (sym (eqn.rolls-Der at x slope start resets)) ∙ ap (λ u. u visible) (fold-roll-Eqn Uses Uses BodyUses Uses (eqn_step k) (arm_step k) (body_step k) (state_step k) (open_eqn.Der at x slope start resets))

  pub uses-start : (at : Pos) (x : Name) (value : Expr) → eqn_uses k (eqn.Start at x value) visible ≡ expr_uses k value 1 visible
  unfolding eqn_uses state_uses
  uses-start at x value =
      ap (λ x. eqn_uses k x visible) (sym (eqn.rolls-Start at x value)) ∙ ap (λ u. u visible) (fold-roll-Eqn Uses Uses BodyUses Uses (eqn_step k) (arm_step k) (body_step k) (state_step k) (open_eqn.Start at x value))

  pub uses-automaton : (at : Pos) (states : List State) → eqn_uses k (eqn.Automaton at states) visible ≡ all_uses (map (state_uses k) states) visible
  unfolding eqn_uses state_uses
  uses-automaton at states =
      ap (λ x. eqn_uses k x visible) (sym (eqn.rolls-Automaton at states)) ∙ ap (λ u. u visible) (fold-roll-Eqn Uses Uses BodyUses Uses (eqn_step k) (arm_step k) (body_step k) (state_step k) (open_eqn.Automaton at states))

  pub uses-reset : (at : Pos) (eqs : List Eqn) (c : Cond) → eqn_uses k (eqn.Reset at eqs c) visible ≡ eqns_uses k eqs visible ++ cond_uses k c visible
  unfolding eqn_uses state_uses
  uses-reset at eqs c =
      ap (λ x. eqn_uses k x visible) (sym (eqn.rolls-Reset at eqs c)) ∙ ap (λ u. u visible) (fold-roll-Eqn Uses Uses BodyUses Uses (eqn_step k) (arm_step k) (body_step k) (state_step k) (open_eqn.Reset at eqs c))

  pub uses-present : (at : Pos) (arms : List Arm) (other : Option Body) → eqn_uses k (eqn.Present at arms other) visible ≡ all_uses (map (arm_uses k) arms) visible ++ in_other k other visible
  unfolding eqn_uses arm_uses body_uses in_body
  uses-present at arms None =
      ap (λ x. eqn_uses k x visible) (sym (eqn.rolls-Present at arms None)) ∙ ap (λ u. u visible) (fold-roll-Eqn Uses Uses BodyUses Uses (eqn_step k) (arm_step k) (body_step k) (state_step k) (open_eqn.Present at arms None))
  uses-present at arms (Some b) =
      ap (λ x. eqn_uses k x visible) (sym (eqn.rolls-Present at arms (Some b))) ∙ ap (λ u. u visible) (fold-roll-Eqn Uses Uses BodyUses Uses (eqn_step k) (arm_step k) (body_step k) (state_step k) (open_eqn.Present at arms (Some b)))

  pub uses-arm : (a : Arm) → arm_uses k a visible ≡ cond_uses k (out-Arm a).cond visible ++ in_body k (out-Arm a).body visible
  unfolding arm_uses body_uses in_body
  uses-arm a = ap (λ u. u visible) (fold_out-Arm Uses Uses BodyUses Uses (eqn_step k) (arm_step k) (body_step k) (state_step k) a)

  pub uses-body : (b : Body) → in_body k b visible ≡ eqns_uses k (out-Body b).eqs (with_ids visible (ids_of (out-Body b).locals))
  unfolding eqn_uses body_uses in_body
  uses-body b = ap (λ u. inside u visible) (fold_out-Body Uses Uses BodyUses Uses (eqn_step k) (arm_step k) (body_step k) (state_step k) b)

  pub uses-state : (s : State) → state_uses k s visible
      ≡ eqns_uses k (out-Body (out-State s).body).eqs (with_ids visible (ids_of (out-Body (out-State s).body).locals))
      ++ (moves_uses k false (out-State s).moves (with_ids visible (ids_of (out-Body (out-State s).body).locals)) ++ moves_uses k true (out-State s).moves visible)
  unfolding state_uses body_uses eqn_uses
  uses-state s =
      ap (λ u. u visible) (fold_out-State Uses Uses BodyUses Uses (eqn_step k) (arm_step k) (body_step k) (state_step k) s)
      ∙ ap (λ b. inside b visible ++ (moves_uses k false (out-State s).moves (with_ids visible (ids_of b.locals)) ++ moves_uses k true (out-State s).moves visible)) (fold_out-Body Uses Uses BodyUses Uses (eqn_step k) (arm_step k) (body_step k) (state_step k) (out-State s).body)

pub ruleset eqn_steps = (common_steps, earliest-append, earliest-none, take-with_ids, uses-plain, uses-der, uses-start, uses-present, uses-automaton, uses-reset, uses-arm, uses-body, uses-state)
