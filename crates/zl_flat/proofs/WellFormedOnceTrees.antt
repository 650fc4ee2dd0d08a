-- Down an equation: its walk makes no body of a choice or automaton twice.
use Rattle.std.proofs.Common.{◌≡◌, ℕ, List, [], ◌∷◌, map, Option, Some, None, sym, subst}
use Rattle.std.specs.List.{AllByRecursion}
use Rattle.zl_ast.specs.declared.expr.Expr.{Expr}
use Rattle.zl_ast.specs.declared.eqn.Eqn.{Eqn, roll-Eqn}
use Rattle.zl_ast.specs.declared.eqn.Arm.{Arm, roll-Arm}
use Rattle.zl_ast.specs.declared.eqn.Body.{Body, roll-Body}
use Rattle.zl_ast.specs.declared.eqn.State.{State, roll-State}
use Rattle.zl_ast.specs.declared.eqn.Cond.{Cond}
use Rattle.zl_ast.specs.declared.eqn.Cond.TheVariants.{Event, Test}
use Rattle.zl_ast.specs.declared.eqn.Up.{Up}
use Rattle.zl_ast.specs.declared.eqn.ResetArm.{ResetArm}
use Rattle.zl_ast.specs.declared.eqn.Move.{Move}
use Rattle.zl_ast.specs.declared.eqn.Eqn.TheOpen.{Eqn-F, Arm-F, Body-F, State-F}
use Rattle.zl_ast.specs.declared.eqn.Eqn.TheOpen as open_eqn
use Rattle.zl_ast.specs.declared.eqn.Eqn.TheFolds.{fold-roll-Eqn, fold-roll-Arm, fold-roll-Body, fold-roll-State, ind-Eqn, map-Eqn, map-Arm, map-Body, map-State}
use Rattle.zl_flat.specs.Instances.{Callee, Instance}
use Rattle.zl_flat.specs.Expressions.{expr_walk}
use Rattle.zl_flat.specs.Equations as make
use Rattle.zl_flat.specs.Equations.{Making, ArmWalk, StateWalk, up_walk, first_at, event_walk, cond_walk, reset_arm_walk, start_walk, move_walk, eqn_walk, arm_walk, body_walk, one_state_walk}
use Rattle.zl_flat.proofs.WellFormedOnceExprs.{CalleeOnce, expr-once}
use Rattle.zl_flat.proofs.WellFormedOnceEqns.{MakingOnce, TestingOnce, ArmWalkOnce, StateWalkOnce, ResetWalkOnce, MoveWalkOnce, StartOnce, crossing-once, event-once, tested-once, plain-once, init-once, der-once, resetting-once, arm-once, present-once, state-once, automaton_made-once, body-once}

module _ (base : ℕ) (names : List (List ℕ)) (i : Instance) (known : (id : ℕ) (c : Callee) → i.callees id ≡ Some c → CalleeOnce c) where
  ups-once : (us : List Up) → AllByRecursion TestingOnce (map (up_walk base names i) us)
  ups-once [] = tt
  ups-once (u ∷ us) = (crossing-once base names i u.at (expr_walk base names i u.arg) (expr-once base names i known u.arg), ups-once us)

  event_walk-once : (us : List Up) → TestingOnce (event_walk base names i us)
  event_walk-once us here s = event-once base names i (first_at us) (map (up_walk base names i) us) (ups-once us) here s

  cond-once : (z : Cond) → TestingOnce (cond_walk base names i z)
  cond-once (Event us) here s = event_walk-once us here s
  cond-once (Test at x) here s = tested-once base names i (expr_walk base names i x) (expr-once base names i known x) here s

  start_walk-once : (start : Option Expr) → StartOnce base names i (start_walk base names i start)
  start_walk-once None = tt
  start_walk-once (Some x) = expr-once base names i known x

  resets-once : (rs : List ResetArm) → AllByRecursion ResetWalkOnce (map (reset_arm_walk base names i) rs)
  resets-once [] = tt
  resets-once (r ∷ rs) = (record { event = event_walk-once r.event; value = expr-once base names i known r.value }, resets-once rs)

  moves-once : (ms : List Move) → AllByRecursion MoveWalkOnce (map (move_walk base names i) ms)
  moves-once [] = tt
  moves-once (m ∷ ms) = (record { test = cond-once m.cond }, moves-once ms)

  abbrev pub EqnOnce : Eqn → Type 0
  EqnOnce e = MakingOnce (eqn_walk base names i e)

  abbrev pub ArmOnce : Arm → Type 0
  ArmOnce a = ArmWalkOnce (arm_walk base names i a)

  abbrev pub BodyOnce : Body → Type 0
  BodyOnce b = MakingOnce (body_walk base names i b)

  abbrev pub StateOnce : State → Type 0
  StateOnce s = StateWalkOnce (one_state_walk base names i s)

  abbrev TheEqn : Type 0
  TheEqn = (e : Eqn) × EqnOnce e

  abbrev TheArm : Type 0
  TheArm = (a : Arm) × ArmOnce a

  abbrev TheBody : Type 0
  TheBody = (b : Body) × BodyOnce b

  abbrev TheState : Type 0
  TheState = (s : State) × StateOnce s

  eqs-once : (es : List TheEqn) → AllByRecursion MakingOnce (map (eqn_walk base names i) (map (λ e. e.0) es))
  eqs-once [] = tt
  eqs-once (e ∷ es) = (e.1, eqs-once es)

  arms-once : (es : List TheArm) → AllByRecursion ArmWalkOnce (map (arm_walk base names i) (map (λ e. e.0) es))
  arms-once [] = tt
  arms-once (e ∷ es) = (e.1, arms-once es)

  states-once : (es : List TheState) → AllByRecursion StateWalkOnce (map (one_state_walk base names i) (map (λ e. e.0) es))
  states-once [] = tt
  states-once (e ∷ es) = (e.1, states-once es)

  eqn-layer : (e : Eqn-F TheEqn TheArm TheBody TheState) → MakingOnce (make.eqn_step base names i (map-Eqn Eqn Arm Body State Making ArmWalk Making StateWalk (eqn_walk base names i) (arm_walk base names i) (body_walk base names i) (one_state_walk base names i) (map-Eqn TheEqn TheArm TheBody TheState Eqn Arm Body State (λ e. e.0) (λ a. a.0) (λ b. b.0) (λ s. s.0) e)))
  eqn-layer (open_eqn.Plain left right) here s = plain-once base names i left (expr_walk base names i right) (expr-once base names i known right) here s
  eqn-layer (open_eqn.Der at x slope start resets) here s = der-once base names i x (expr_walk base names i slope) (start_walk base names i start) (map (reset_arm_walk base names i) resets) (expr-once base names i known slope) (start_walk-once start) (resets-once resets) here s
  eqn-layer (open_eqn.Start at x value) here s = init-once base names i x (expr_walk base names i value) (expr-once base names i known value) here s
  eqn-layer (open_eqn.Present at arms None) here s = present-once base names i (map (arm_walk base names i) (map (λ a. a.0) arms)) None (arms-once arms) tt here s
  eqn-layer (open_eqn.Present at arms (Some b)) here s = present-once base names i (map (arm_walk base names i) (map (λ a. a.0) arms)) (Some (body_walk base names i b.0)) (arms-once arms) b.1 here s
  eqn-layer (open_eqn.Automaton at states) here s = automaton_made-once base names i (map (one_state_walk base names i) (map (λ s. s.0) states)) (states-once states) here s
  eqn-layer (open_eqn.Reset at eqs z) here s = resetting-once base names i (map (eqn_walk base names i) (map (λ e. e.0) eqs)) (cond_walk base names i z) (eqs-once eqs) (cond-once z) here s

  arm-layer : (a : Arm-F TheEqn TheArm TheBody TheState) → ArmWalkOnce (make.arm_step base names i (map-Arm Eqn Arm Body State Making ArmWalk Making StateWalk (eqn_walk base names i) (arm_walk base names i) (body_walk base names i) (one_state_walk base names i) (map-Arm TheEqn TheArm TheBody TheState Eqn Arm Body State (λ e. e.0) (λ a. a.0) (λ b. b.0) (λ s. s.0) a)))
  arm-layer a of number here s h = arm-once base names i (cond_walk base names i a.cond) (body_walk base names i a.body.0) (cond-once a.cond) a.body.1 of number here s h

  body-layer : (b : Body-F TheEqn TheArm TheBody TheState) → MakingOnce (make.body_step base names i (map-Body Eqn Arm Body State Making ArmWalk Making StateWalk (eqn_walk base names i) (arm_walk base names i) (body_walk base names i) (one_state_walk base names i) (map-Body TheEqn TheArm TheBody TheState Eqn Arm Body State (λ e. e.0) (λ a. a.0) (λ b. b.0) (λ s. s.0) b)))
  body-layer b here s = body-once base names i b.locals (map (eqn_walk base names i) (map (λ e. e.0) b.eqs)) (eqs-once b.eqs) here s

  state-layer : (s : State-F TheEqn TheArm TheBody TheState) → StateWalkOnce (make.state_step base names i (map-State Eqn Arm Body State Making ArmWalk Making StateWalk (eqn_walk base names i) (arm_walk base names i) (body_walk base names i) (one_state_walk base names i) (map-State TheEqn TheArm TheBody TheState Eqn Arm Body State (λ e. e.0) (λ a. a.0) (λ b. b.0) (λ s. s.0) s)))
  state-layer s of number states here t h = state-once base names i s.name (body_walk base names i s.body.0) (map (move_walk base names i) s.moves) s.body.1 (moves-once s.moves) of number states here t h

  pub eqn-once : (e : Eqn) → EqnOnce e
  unfolding eqn_walk arm_walk body_walk one_state_walk
  eqn-once = ind-Eqn EqnOnce ArmOnce BodyOnce StateOnce
      (λ x y is. subst (λ z. EqnOnce (roll-Eqn z)) is (subst MakingOnce (sym (fold-roll-Eqn Making ArmWalk Making StateWalk (make.eqn_step base names i) (make.arm_step base names i) (make.body_step base names i) (make.state_step base names i) (map-Eqn TheEqn TheArm TheBody TheState Eqn Arm Body State (λ e. e.0) (λ a. a.0) (λ b. b.0) (λ s. s.0) y))) (eqn-layer y)))
      (λ x y is. subst (λ z. ArmOnce (roll-Arm z)) is (subst ArmWalkOnce (sym (fold-roll-Arm Making ArmWalk Making StateWalk (make.eqn_step base names i) (make.arm_step base names i) (make.body_step base names i) (make.state_step base names i) (map-Arm TheEqn TheArm TheBody TheState Eqn Arm Body State (λ e. e.0) (λ a. a.0) (λ b. b.0) (λ s. s.0) y))) (arm-layer y)))
      (λ x y is. subst (λ z. BodyOnce (roll-Body z)) is (subst MakingOnce (sym (fold-roll-Body Making ArmWalk Making StateWalk (make.eqn_step base names i) (make.arm_step base names i) (make.body_step base names i) (make.state_step base names i) (map-Body TheEqn TheArm TheBody TheState Eqn Arm Body State (λ e. e.0) (λ a. a.0) (λ b. b.0) (λ s. s.0) y))) (body-layer y)))
      (λ x y is. subst (λ z. StateOnce (roll-State z)) is (subst StateWalkOnce (sym (fold-roll-State Making ArmWalk Making StateWalk (make.eqn_step base names i) (make.arm_step base names i) (make.body_step base names i) (make.state_step base names i) (map-State TheEqn TheArm TheBody TheState Eqn Arm Body State (λ e. e.0) (λ a. a.0) (λ b. b.0) (λ s. s.0) y))) (state-layer y)))
