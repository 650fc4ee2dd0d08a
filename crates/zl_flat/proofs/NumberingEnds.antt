-- The numbers of the places in a copy go on by as many places as the size says.
use Rattle.std.proofs.Common.{◌≡◌, ℕ, ◌+◌, Bool, true, false, if◌then◌else◌, List, [], ◌∷◌, map, Option, Some, None, sym, subst, arith}
use Rattle.zl_ast.specs.declared.name.Name.{Name}
use Rattle.zl_ast.specs.declared.scope.VarInfo.{VarInfo}
use Rattle.zl_ast.specs.declared.eqn.Eqn.{Eqn, roll-Eqn}
use Rattle.zl_ast.specs.declared.eqn.Arm.{Arm, roll-Arm}
use Rattle.zl_ast.specs.declared.eqn.Body.{Body, roll-Body}
use Rattle.zl_ast.specs.declared.eqn.State.{State, roll-State}
use Rattle.zl_ast.specs.declared.eqn.Eqn.TheOpen.{Eqn-F, Arm-F, Body-F, State-F}
use Rattle.zl_ast.specs.declared.eqn.Eqn.TheOpen as open_eqn
use Rattle.zl_ast.specs.declared.eqn.Eqn.TheFolds.{fold-roll-Eqn, fold-roll-Arm, fold-roll-Body, fold-roll-State, ind-Eqn, ind-Arm, ind-Body, ind-State, map-Eqn, map-Arm, map-Body, map-State}
use Rattle.zl_ast.specs.declared.program.Decl.{Decl}
use Rattle.zl_ast.specs.declared.program.Param.{Param}
use Rattle.zl_flat.specs.declared.size.Size.{Size}
use Rattle.zl_flat.specs.Variables.{is_first}
use Rattle.zl_flat.specs.Sizes as sizes
use Rattle.zl_flat.specs.Sizes.{none, plus, total, a_place, a_block, expr_size, exprs_size, start_size, reset_arm_size, cond_size, move_size, name_size, names_size, eqn_size, arm_size, body_size, state_size, decl_size}
use Rattle.zl_flat.specs.Numbering as number
use Rattle.zl_flat.specs.Numbering.{Numbering, no_places, both, in_turn, a_variable, of_calls, of_name, of_names, eqn_numbering, arm_numbering, body_numbering, state_numbering, decl_numbering}

-- the next place is behind as many as the size says
pub record Ends (f : Numbering) (z : Size) : Type 0 where
  pub next : (n : ℕ) → (f n).next ≡ n + z.places

ends-none : Ends no_places none
unfolding none
ends-none = record { next = λ n. omega arith }

pub ends-calls : (z : Size) → Ends (of_calls z) z
ends-calls z = record { next = λ n. omega arith }

ends-both : (f g : Numbering) (x y : Size) → Ends f x → Ends g y → Ends (both f g) (plus x y)
unfolding plus
ends-both f g x y h k = record { next = λ n. let a = h.next n in let b = k.next (f n).next in omega (arith, a, b) }

pub ends-variable : Ends a_variable a_place
unfolding a_place
ends-variable = record { next = λ n. omega arith }

-- a block has no place
ends-block : (f : Numbering) (z : Size) → Ends f z → Ends f (plus a_block z)
unfolding plus a_block
ends-block f z h = record { next = λ n. let a = h.next n in omega (arith, a) }

-- what stands in turn goes on by as many as all
pub turn-ends : {A : Type 0} (f : A → Numbering) (z : A → Size) (each : (x : A) → Ends (f x) (z x)) (xs : List A) → Ends (in_turn (map f xs)) (total (map z xs))
turn-ends f z each [] = ends-none
turn-ends f z each (x ∷ xs) = ends-both _ _ _ _ (each x) (turn-ends f z each xs)

module _ (vars : List VarInfo) (known : ℕ → Option Size) where
  one-name : (b : Bool) → Ends (if b then a_variable else no_places) (if b then a_place else none)
  one-name true = ends-variable
  one-name false = ends-none

  pub ends-name : (x : Name) → Ends (of_name vars known x) (name_size vars known x)
  ends-name x = one-name (is_first vars x)

  pub ends-names : (xs : List Name) → Ends (of_names vars known xs) (names_size vars known xs)
  ends-names [] = ends-none
  ends-names (x ∷ xs) = ends-both _ _ _ _ (ends-name x) (ends-names xs)

  abbrev pub EqnEnds : Eqn → Type 0
  EqnEnds e = Ends (eqn_numbering vars known e) (eqn_size vars known e)

  abbrev pub ArmEnds : Arm → Type 0
  ArmEnds a = Ends (arm_numbering vars known a) (arm_size vars known a)

  abbrev pub BodyEnds : Body → Type 0
  BodyEnds b = Ends (body_numbering vars known b) (body_size vars known b)

  abbrev pub StateEnds : State → Type 0
  StateEnds s = Ends (state_numbering vars known s) (state_size vars known s)

  abbrev TheEqn : Type 0
  TheEqn = (e : Eqn) × EqnEnds e

  abbrev TheArm : Type 0
  TheArm = (a : Arm) × ArmEnds a

  abbrev TheBody : Type 0
  TheBody = (b : Body) × BodyEnds b

  abbrev TheState : Type 0
  TheState = (s : State) × StateEnds s

  eqs-end : (es : List TheEqn) → Ends (in_turn (map (eqn_numbering vars known) (map (λ e. e.0) es))) (total (map (eqn_size vars known) (map (λ e. e.0) es)))
  eqs-end [] = ends-none
  eqs-end (e ∷ es) = ends-both _ _ _ _ e.1 (eqs-end es)

  arms-end : (es : List TheArm) → Ends (in_turn (map (arm_numbering vars known) (map (λ e. e.0) es))) (total (map (arm_size vars known) (map (λ e. e.0) es)))
  arms-end [] = ends-none
  arms-end (e ∷ es) = ends-both _ _ _ _ e.1 (arms-end es)

  states-end : (es : List TheState) → Ends (in_turn (map (state_numbering vars known) (map (λ e. e.0) es))) (total (map (state_size vars known) (map (λ e. e.0) es)))
  states-end [] = ends-none
  states-end (e ∷ es) = ends-both _ _ _ _ e.1 (states-end es)

  abbrev bare_eqn : Eqn-F TheEqn TheArm TheBody TheState → Eqn-F Eqn Arm Body State
  bare_eqn x = map-Eqn TheEqn TheArm TheBody TheState Eqn Arm Body State (λ e. e.0) (λ a. a.0) (λ b. b.0) (λ s. s.0) x

  abbrev bare_arm : Arm-F TheEqn TheArm TheBody TheState → Arm-F Eqn Arm Body State
  bare_arm x = map-Arm TheEqn TheArm TheBody TheState Eqn Arm Body State (λ e. e.0) (λ a. a.0) (λ b. b.0) (λ s. s.0) x

  abbrev bare_body : Body-F TheEqn TheArm TheBody TheState → Body-F Eqn Arm Body State
  bare_body x = map-Body TheEqn TheArm TheBody TheState Eqn Arm Body State (λ e. e.0) (λ a. a.0) (λ b. b.0) (λ s. s.0) x

  abbrev bare_state : State-F TheEqn TheArm TheBody TheState → State-F Eqn Arm Body State
  bare_state x = map-State TheEqn TheArm TheBody TheState Eqn Arm Body State (λ e. e.0) (λ a. a.0) (λ b. b.0) (λ s. s.0) x

  eqn-layer : (e : Eqn-F TheEqn TheArm TheBody TheState) →
      Ends (number.eqn_step vars known (map-Eqn Eqn Arm Body State Numbering Numbering Numbering Numbering (eqn_numbering vars known) (arm_numbering vars known) (body_numbering vars known) (state_numbering vars known) (bare_eqn e)))
      (sizes.eqn_step vars known (map-Eqn Eqn Arm Body State Size Size Size Size (eqn_size vars known) (arm_size vars known) (body_size vars known) (state_size vars known) (bare_eqn e)))
  eqn-layer (open_eqn.Plain left right) = ends-both _ _ _ _ (ends-names left) (ends-calls (expr_size vars known right))
  eqn-layer (open_eqn.Der at x slope start resets) =
      ends-both _ _ _ _ (ends-name x) (ends-both _ _ _ _ (ends-calls (expr_size vars known slope)) (ends-both _ _ _ _ (ends-calls (start_size vars known start)) (ends-calls (total (map (reset_arm_size vars known) resets)))))
  eqn-layer (open_eqn.Start at x value) = ends-both _ _ _ _ (ends-name x) (ends-calls (expr_size vars known value))
  eqn-layer (open_eqn.Present at arms None) = ends-both _ _ _ _ (arms-end arms) ends-none
  eqn-layer (open_eqn.Present at arms (Some b)) = ends-both _ _ _ _ (arms-end arms) (ends-block _ _ b.1)
  eqn-layer (open_eqn.Automaton at states) = states-end states
  eqn-layer (open_eqn.Reset at eqs c) = ends-block _ _ (ends-both _ _ _ _ (eqs-end eqs) (ends-calls (cond_size vars known c)))

  arm-layer : (a : Arm-F TheEqn TheArm TheBody TheState) →
      Ends (number.arm_step vars known (map-Arm Eqn Arm Body State Numbering Numbering Numbering Numbering (eqn_numbering vars known) (arm_numbering vars known) (body_numbering vars known) (state_numbering vars known) (bare_arm a)))
      (sizes.arm_step vars known (map-Arm Eqn Arm Body State Size Size Size Size (eqn_size vars known) (arm_size vars known) (body_size vars known) (state_size vars known) (bare_arm a)))
  arm-layer a = ends-both _ _ _ _ (ends-calls (cond_size vars known a.cond)) (ends-block _ _ a.body.1)

  body-layer : (b : Body-F TheEqn TheArm TheBody TheState) →
      Ends (number.body_step vars known (map-Body Eqn Arm Body State Numbering Numbering Numbering Numbering (eqn_numbering vars known) (arm_numbering vars known) (body_numbering vars known) (state_numbering vars known) (bare_body b)))
      (sizes.body_step vars known (map-Body Eqn Arm Body State Size Size Size Size (eqn_size vars known) (arm_size vars known) (body_size vars known) (state_size vars known) (bare_body b)))
  body-layer b = ends-both _ _ _ _ (ends-names b.locals) (eqs-end b.eqs)

  state-layer : (s : State-F TheEqn TheArm TheBody TheState) →
      Ends (number.state_step vars known (map-State Eqn Arm Body State Numbering Numbering Numbering Numbering (eqn_numbering vars known) (arm_numbering vars known) (body_numbering vars known) (state_numbering vars known) (bare_state s)))
      (sizes.state_step vars known (map-State Eqn Arm Body State Size Size Size Size (eqn_size vars known) (arm_size vars known) (body_size vars known) (state_size vars known) (bare_state s)))
  state-layer s = ends-block _ _ (ends-block _ _ (ends-both _ _ _ _ s.body.1 (ends-calls (total (map (move_size vars known) s.moves)))))

  eqn-case : (x : Eqn-F Eqn Arm Body State) (y : Eqn-F TheEqn TheArm TheBody TheState) → bare_eqn y ≡ x → EqnEnds (roll-Eqn x)
  unfolding eqn_numbering arm_numbering body_numbering state_numbering eqn_size arm_size body_size state_size
  eqn-case x y is =
      subst (λ z. EqnEnds (roll-Eqn z)) is
      (subst (λ f. Ends f (eqn_size vars known (roll-Eqn (bare_eqn y)))) (sym (fold-roll-Eqn Numbering Numbering Numbering Numbering (number.eqn_step vars known) (number.arm_step vars known) (number.body_step vars known) (number.state_step vars known) (bare_eqn y)))
      (subst (Ends (number.eqn_step vars known (map-Eqn Eqn Arm Body State Numbering Numbering Numbering Numbering (eqn_numbering vars known) (arm_numbering vars known) (body_numbering vars known) (state_numbering vars known) (bare_eqn y))))
      (sym (fold-roll-Eqn Size Size Size Size (sizes.eqn_step vars known) (sizes.arm_step vars known) (sizes.body_step vars known) (sizes.state_step vars known) (bare_eqn y)))
      (eqn-layer y)))

  arm-case : (x : Arm-F Eqn Arm Body State) (y : Arm-F TheEqn TheArm TheBody TheState) → bare_arm y ≡ x → ArmEnds (roll-Arm x)
  unfolding eqn_numbering arm_numbering body_numbering state_numbering eqn_size arm_size body_size state_size
  arm-case x y is =
      subst (λ z. ArmEnds (roll-Arm z)) is
      (subst (λ f. Ends f (arm_size vars known (roll-Arm (bare_arm y)))) (sym (fold-roll-Arm Numbering Numbering Numbering Numbering (number.eqn_step vars known) (number.arm_step vars known) (number.body_step vars known) (number.state_step vars known) (bare_arm y)))
      (subst (Ends (number.arm_step vars known (map-Arm Eqn Arm Body State Numbering Numbering Numbering Numbering (eqn_numbering vars known) (arm_numbering vars known) (body_numbering vars known) (state_numbering vars known) (bare_arm y))))
      (sym (fold-roll-Arm Size Size Size Size (sizes.eqn_step vars known) (sizes.arm_step vars known) (sizes.body_step vars known) (sizes.state_step vars known) (bare_arm y)))
      (arm-layer y)))

  body-case : (x : Body-F Eqn Arm Body State) (y : Body-F TheEqn TheArm TheBody TheState) → bare_body y ≡ x → BodyEnds (roll-Body x)
  unfolding eqn_numbering arm_numbering body_numbering state_numbering eqn_size arm_size body_size state_size
  body-case x y is =
      subst (λ z. BodyEnds (roll-Body z)) is
      (subst (λ f. Ends f (body_size vars known (roll-Body (bare_body y)))) (sym (fold-roll-Body Numbering Numbering Numbering Numbering (number.eqn_step vars known) (number.arm_step vars known) (number.body_step vars known) (number.state_step vars known) (bare_body y)))
      (subst (Ends (number.body_step vars known (map-Body Eqn Arm Body State Numbering Numbering Numbering Numbering (eqn_numbering vars known) (arm_numbering vars known) (body_numbering vars known) (state_numbering vars known) (bare_body y))))
      (sym (fold-roll-Body Size Size Size Size (sizes.eqn_step vars known) (sizes.arm_step vars known) (sizes.body_step vars known) (sizes.state_step vars known) (bare_body y)))
      (body-layer y)))

  state-case : (x : State-F Eqn Arm Body State) (y : State-F TheEqn TheArm TheBody TheState) → bare_state y ≡ x → StateEnds (roll-State x)
  unfolding eqn_numbering arm_numbering body_numbering state_numbering eqn_size arm_size body_size state_size
  state-case x y is =
      subst (λ z. StateEnds (roll-State z)) is
      (subst (λ f. Ends f (state_size vars known (roll-State (bare_state y)))) (sym (fold-roll-State Numbering Numbering Numbering Numbering (number.eqn_step vars known) (number.arm_step vars known) (number.body_step vars known) (number.state_step vars known) (bare_state y)))
      (subst (Ends (number.state_step vars known (map-State Eqn Arm Body State Numbering Numbering Numbering Numbering (eqn_numbering vars known) (arm_numbering vars known) (body_numbering vars known) (state_numbering vars known) (bare_state y))))
      (sym (fold-roll-State Size Size Size Size (sizes.eqn_step vars known) (sizes.arm_step vars known) (sizes.body_step vars known) (sizes.state_step vars known) (bare_state y)))
      (state-layer y)))

  -- the numbers of the places of an equation, an arm, a body and a state
  pub eqn-ends : (e : Eqn) → EqnEnds e
  eqn-ends = ind-Eqn EqnEnds ArmEnds BodyEnds StateEnds eqn-case arm-case body-case state-case

  pub arm-ends : (a : Arm) → ArmEnds a
  arm-ends = ind-Arm EqnEnds ArmEnds BodyEnds StateEnds eqn-case arm-case body-case state-case

  pub body-ends : (b : Body) → BodyEnds b
  body-ends = ind-Body EqnEnds ArmEnds BodyEnds StateEnds eqn-case arm-case body-case state-case

  pub state-ends : (s : State) → StateEnds s
  state-ends = ind-State EqnEnds ArmEnds BodyEnds StateEnds eqn-case arm-case body-case state-case

  params-end : (ps : List Param) → Ends (in_turn (map (λ (p : Param). a_variable) ps)) (total (map (λ (p : Param). a_place) ps))
  params-end [] = ends-none
  params-end (p ∷ ps) = ends-both _ _ _ _ ends-variable (params-end ps)

  -- the numbers of the places of a copy
  pub decl-ends : (d : Decl) → Ends (decl_numbering vars known d) (decl_size vars known d)
  unfolding decl_numbering decl_size
  decl-ends d = ends-both _ _ _ _ (params-end d.params) (ends-both _ _ _ _ (ends-calls (exprs_size vars known d.results)) (turn-ends (eqn_numbering vars known) (eqn_size vars known) eqn-ends d.eqs))
