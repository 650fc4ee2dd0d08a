-- The constraints in an equation, by its form.
use Rattle.std.proofs.Common.{◌≡◌, ℕ, List, [], ◌∷◌, ◌++◌, map, Option, Some, None, sym, ap, ◌∙◌}
use Rattle.std.proofs.lemmas.Grind.{common_steps}
use Rattle.std.proofs.lemmas.List.{append-nil}
use Rattle.zl_value.specs.declared.position.Pos.{Pos}
use Rattle.zl_ast.specs.declared.name.Name.{Name}
use Rattle.zl_ast.specs.declared.constraint.Asked.TheVariants as asked
use Rattle.zl_ast.specs.declared.expr.Expr.{Expr}
use Rattle.zl_ast.specs.declared.eqn.Eqn.{Eqn}
use Rattle.zl_ast.specs.declared.eqn.Eqn.TheVariants as eqn
use Rattle.zl_ast.specs.declared.eqn.Eqn.TheOpen as open_eqn
use Rattle.zl_ast.specs.declared.eqn.Eqn.TheFolds.{fold-roll-Eqn, fold_out-Arm, fold_out-Body, fold_out-State}
use Rattle.zl_ast.specs.declared.eqn.Cond.{Cond}
use Rattle.zl_ast.specs.declared.eqn.ResetArm.{ResetArm}
use Rattle.zl_ast.specs.declared.eqn.Arm.{Arm, out-Arm}
use Rattle.zl_ast.specs.declared.eqn.Body.{Body, out-Body}
use Rattle.zl_ast.specs.declared.eqn.State.{State, out-State}
use Rattle.zl_ast.specs.NamesRules.{place_of}
use Rattle.zl_ast.specs.Initialised.{Known, Setting, Needs, BodyNeeds, ask, ask_each, all_needs, within, in_arm, in_reset, free_in, expr_constraints, cond_constraints, start_places, start_constraints, reset_places, resets_constraints, moves_constraints, left_needs, unsettled, all_unsettled, inside_body, eqn_step, arm_step, body_step, state_step, eqn_needs, arm_needs, body_needs, state_needs, eqns_needs, in_body, in_other}
use Rattle.zl_init.proofs.ListLemmas.{take-with_ids}

module _ (k : Known) (s : Setting) where
  pub needs-plain : (left : List Name) (right : Expr) → eqn_needs k (eqn.Plain left right) s ≡ left_needs k left (place_of right) s.own ++ expr_constraints k right (free_in s)
  unfolding eqn_needs state_needs
  needs-plain left right = ap (λ x. eqn_needs k x s) (sym (eqn.rolls-Plain left right)) ∙ ap (λ u. u s) (fold-roll-Eqn Needs Needs BodyNeeds Needs (eqn_step k) (arm_step k) (body_step k) (state_step k) (open_eqn.Plain left right))

  pub needs-der : (at : Pos) (x : Name) (slope : Expr) (start : Option Expr) (resets : List ResetArm) → eqn_needs k (eqn.Der at x slope start resets) s ≡ ask_each at asked.Early (place_of slope ∷ (start_places start ++ reset_places resets))
      ++ (unsettled k x ++ (expr_constraints k slope (free_in s) ++ (start_constraints k start (free_in s) ++ resets_constraints k resets (free_in s))))
  unfolding eqn_needs state_needs
  needs-der at x slope start resets = ap (λ x. eqn_needs k x s) (sym (eqn.rolls-Der at x slope start resets)) ∙ ap (λ u. u s) (fold-roll-Eqn Needs Needs BodyNeeds Needs (eqn_step k) (arm_step k) (body_step k) (state_step k) (open_eqn.Der at x slope start resets))

  pub needs-start : (at : Pos) (x : Name) (value : Expr) → eqn_needs k (eqn.Start at x value) s ≡ ask at (place_of value) asked.Early ∷ (unsettled k x ++ expr_constraints k value (free_in s))
  unfolding eqn_needs state_needs
  needs-start at x value = ap (λ x. eqn_needs k x s) (sym (eqn.rolls-Start at x value)) ∙ ap (λ u. u s) (fold-roll-Eqn Needs Needs BodyNeeds Needs (eqn_step k) (arm_step k) (body_step k) (state_step k) (open_eqn.Start at x value))

  pub needs-automaton : (at : Pos) (states : List State) → eqn_needs k (eqn.Automaton at states) s ≡ all_needs (map (state_needs k) states) s
  unfolding eqn_needs state_needs
  needs-automaton at states = ap (λ x. eqn_needs k x s) (sym (eqn.rolls-Automaton at states)) ∙ ap (λ u. u s) (fold-roll-Eqn Needs Needs BodyNeeds Needs (eqn_step k) (arm_step k) (body_step k) (state_step k) (open_eqn.Automaton at states))

  pub needs-reset : (at : Pos) (eqs : List Eqn) (c : Cond) → eqn_needs k (eqn.Reset at eqs c) s ≡ eqns_needs k eqs (in_reset s) ++ cond_constraints k c (free_in s)
  unfolding eqn_needs state_needs
  needs-reset at eqs c = ap (λ x. eqn_needs k x s) (sym (eqn.rolls-Reset at eqs c)) ∙ ap (λ u. u s) (fold-roll-Eqn Needs Needs BodyNeeds Needs (eqn_step k) (arm_step k) (body_step k) (state_step k) (open_eqn.Reset at eqs c))

  pub needs-present : (at : Pos) (arms : List Arm) (other : Option Body) → eqn_needs k (eqn.Present at arms other) s ≡ all_needs (map (arm_needs k) arms) s ++ in_other k other s
  unfolding eqn_needs arm_needs body_needs in_body
  needs-present at arms None = ap (λ x. eqn_needs k x s) (sym (eqn.rolls-Present at arms None)) ∙ ap (λ u. u s) (fold-roll-Eqn Needs Needs BodyNeeds Needs (eqn_step k) (arm_step k) (body_step k) (state_step k) (open_eqn.Present at arms None))
  needs-present at arms (Some b) = ap (λ x. eqn_needs k x s) (sym (eqn.rolls-Present at arms (Some b))) ∙ ap (λ u. u s) (fold-roll-Eqn Needs Needs BodyNeeds Needs (eqn_step k) (arm_step k) (body_step k) (state_step k) (open_eqn.Present at arms (Some b)))

  pub needs-arm : (a : Arm) → arm_needs k a s ≡ cond_constraints k (out-Arm a).cond (free_in s) ++ in_body k (out-Arm a).body (in_arm s)
  unfolding arm_needs body_needs in_body
  needs-arm a = ap (λ u. u s) (fold_out-Arm Needs Needs BodyNeeds Needs (eqn_step k) (arm_step k) (body_step k) (state_step k) a)

  pub needs-body : (b : Body) → in_body k b s ≡ all_unsettled k (out-Body b).locals ++ eqns_needs k (out-Body b).eqs (within (out-Body b).locals s)
  unfolding eqn_needs body_needs in_body
  needs-body b = ap (λ u. inside_body k u s) (fold_out-Body Needs Needs BodyNeeds Needs (eqn_step k) (arm_step k) (body_step k) (state_step k) b)

  pub needs-state : (t : State) → state_needs k t s ≡ in_body k (out-State t).body s ++ moves_constraints k (out-State t).moves (free_in (within (out-Body (out-State t).body).locals s))
  unfolding state_needs body_needs in_body
  needs-state t =
      ap (λ u. u s) (fold_out-State Needs Needs BodyNeeds Needs (eqn_step k) (arm_step k) (body_step k) (state_step k) t)
      ∙ ap (λ b. in_body k (out-State t).body s ++ moves_constraints k (out-State t).moves (free_in (within b.locals s))) (fold_out-Body Needs Needs BodyNeeds Needs (eqn_step k) (arm_step k) (body_step k) (state_step k) (out-State t).body)

pub ruleset need_steps = (common_steps, append-nil, take-with_ids, needs-present, needs-arm, needs-body, needs-state, needs-plain, needs-der, needs-start, needs-automaton, needs-reset)
