-- Down an equation that breaks no rule of names: its walk makes own definers of the names of its outline, and those of one
-- place are never active together.
use Rattle.std.proofs.Common.{◌≡◌, ℕ, true, false, List, [], ◌∷◌, map, Some, None, subst}
use Rattle.std.specs.List.{AllByRecursion}
use Rattle.zl_value.specs.declared.rule.Rule.TheVariants as rule
use Rattle.zl_ast.specs.declared.eqn.Eqn.{Eqn, roll-Eqn}
use Rattle.zl_ast.specs.declared.eqn.Arm.{Arm, roll-Arm}
use Rattle.zl_ast.specs.declared.eqn.Body.{Body, roll-Body}
use Rattle.zl_ast.specs.declared.eqn.State.{State, roll-State}
use Rattle.zl_ast.specs.declared.eqn.Cond.{Cond}
use Rattle.zl_ast.specs.declared.eqn.Cond.TheVariants.{Event, Test}
use Rattle.zl_ast.specs.declared.eqn.Up.{Up}
use Rattle.zl_ast.specs.declared.eqn.ResetArm.{ResetArm}
use Rattle.zl_ast.specs.declared.eqn.Move.{Move}
use Rattle.zl_ast.specs.declared.eqn.Eqn.TheOpen.{Eqn-F, Arm-F, Body-F, State-F}
use Rattle.zl_ast.specs.declared.eqn.Eqn.TheOpen as open_eqn
use Rattle.zl_ast.specs.declared.eqn.Eqn.TheFolds.{fold-roll-Eqn, fold-roll-Arm, fold-roll-Body, fold-roll-State, ind-Eqn, map-Eqn, map-Arm, map-Body, map-State}
use Rattle.zl_ast.specs.Names.{with_ids, ids_of, repeats, strangers}
use Rattle.zl_ast.specs.NamesDefined as defined
use Rattle.zl_ast.specs.NamesDefined.{Outline, StateOutline, both, together, list_from, states_among, state_among, state_names, eqn_outline, arm_outline, body_outline, state_outline}
use Rattle.zl_meaning.specs.FlatForm.{FlatForm}
use Rattle.zl_flat.specs.Instances.{Callee, Instance}
use Rattle.zl_flat.specs.Expressions.{expr_walk}
use Rattle.zl_flat.specs.Equations as make
use Rattle.zl_flat.specs.Equations.{Making, ArmWalk, StateWalk, up_walk, first_at, event_walk, cond_walk, reset_arm_walk, start_walk, move_walk, eqn_walk, arm_walk, body_walk, one_state_walk}
use Rattle.zl_flat.proofs.RulesKept.{IsVariable}
use Rattle.zl_flat.proofs.DefinersOutlines.{HasEntries, IsSound, entries-nothing, entries-both, entries-together, entries-list, entries-under, entries-states, entries-left, entries-one, sound-both, sound-after, sound-under, sound-first, sound-others}
use Rattle.zl_flat.proofs.DefinersExprs.{CalleeDefines, expr-defines}
use Rattle.zl_flat.proofs.DefinersOwn.{of-both}
use Rattle.zl_flat.proofs.DefinersEqns.{Pairwise, MakingDefines, TestingDefines, ArmWalkDefines, StateWalkDefines, ResetWalkDefines, MoveWalkDefines, crossing-defines, event-defines, tested-defines, plain-defines, init-defines, der-defines, reset-defines, arm-defines, present-defines, state-defines, automaton-defines, body-defines}

module _ (f : FlatForm) (base : ℕ) (names : List (List ℕ)) (i : Instance) (known : (id : ℕ) (c : Callee) → i.callees id ≡ Some c → CalleeDefines f base c) where
  -- ---- conditions

  -- conditions
  ups-define : (us : List Up) → AllByRecursion (TestingDefines f base i) (map (up_walk base names i) us)
  ups-define [] = tt
  ups-define (u ∷ us) = (crossing-defines f base i names u.at (expr_walk base names i u.arg) (expr-defines f base names i known u.arg), ups-define us)

  event_walk-defines : (us : List Up) → TestingDefines f base i (event_walk base names i us)
  event_walk-defines us here s = event-defines f base i names (first_at us) (map (up_walk base names i) us) (ups-define us) here s

  cond-defines : (z : Cond) → TestingDefines f base i (cond_walk base names i z)
  cond-defines (Event us) here s = event_walk-defines us here s
  cond-defines (Test at x) here s = tested-defines f base i names (expr_walk base names i x) (expr-defines f base names i known x) here s

  -- reset arms, and moves
  resets-define : (rs : List ResetArm) → AllByRecursion (ResetWalkDefines f base i) (map (reset_arm_walk base names i) rs)
  resets-define [] = tt
  resets-define (r ∷ rs) = (record { event = event_walk-defines r.event; value = expr-defines f base names i known r.value }, resets-define rs)

  moves-define : (ms : List Move) → AllByRecursion (MoveWalkDefines f base i) (map (move_walk base names i) ms)
  moves-define [] = tt
  moves-define (m ∷ ms) = (record { test = cond-defines m.cond }, moves-define ms)

  -- ---- trees

  -- no rule of names is broken, and each name is that of a variable
  abbrev Sound : Outline → Type 0
  Sound o = IsSound (IsVariable i) o

  -- its names have entries, and it makes definers of them if no rule is broken
  abbrev ByNames : Making → Outline → Type 0
  ByNames m o = HasEntries o × (Sound o → MakingDefines f base i m o)

  abbrev ArmByNames : ArmWalk → Outline → Type 0
  ArmByNames w o = HasEntries o × (Sound o → ArmWalkDefines f base i w o)

  abbrev StateByNames : StateWalk → StateOutline → Type 0
  StateByNames w o = HasEntries o.outline × (Sound o.outline → StateWalkDefines f base i w o.outline)

  -- it holds of an equation, an arm, a body, a state
  abbrev pub EqnDefines : Eqn → Type 0
  EqnDefines e = ByNames (eqn_walk base names i e) (eqn_outline e)

  abbrev pub ArmDefines : Arm → Type 0
  ArmDefines a = ArmByNames (arm_walk base names i a) (arm_outline a)

  abbrev pub BodyDefines : Body → Type 0
  BodyDefines b = ByNames (body_walk base names i b) (body_outline b)

  abbrev pub StateDefines : State → Type 0
  StateDefines s = StateByNames (one_state_walk base names i s) (state_outline s)

  abbrev TheEqn : Type 0
  TheEqn = (e : Eqn) × EqnDefines e

  abbrev TheArm : Type 0
  TheArm = (a : Arm) × ArmDefines a

  abbrev TheBody : Type 0
  TheBody = (b : Body) × BodyDefines b

  abbrev TheState : Type 0
  TheState = (s : State) × StateDefines s

  -- equations of one list
  eqs-entries : (es : List TheEqn) → AllByRecursion HasEntries (map eqn_outline (map (λ e. e.0) es))
  eqs-entries [] = tt
  eqs-entries (e ∷ es) = (e.1.0, eqs-entries es)

  eqs-define : (valued started : List ℕ) (es : List TheEqn) → Sound (list_from valued started (map eqn_outline (map (λ e. e.0) es))) → Pairwise (MakingDefines f base i) (map (eqn_walk base names i) (map (λ e. e.0) es)) (map eqn_outline (map (λ e. e.0) es))
  eqs-define valued started [] h = tt
  eqs-define valued started (e ∷ es) h =
      let o = eqn_outline e.0 in
      let os = map eqn_outline (map (λ e. e.0) es) in
      (e.1.1 (sound-first (IsVariable i) valued started o os h), eqs-define (with_ids valued o.valued) (with_ids started o.started) es (sound-others (IsVariable i) valued started o os h))

  -- arms
  arms-entries : (es : List TheArm) → AllByRecursion HasEntries (map arm_outline (map (λ e. e.0) es))
  arms-entries [] = tt
  arms-entries (e ∷ es) = (e.1.0, arms-entries es)

  arms-define : (es : List TheArm) → Sound (together (map arm_outline (map (λ e. e.0) es))) → Pairwise (ArmWalkDefines f base i) (map (arm_walk base names i) (map (λ e. e.0) es)) (map arm_outline (map (λ e. e.0) es))
  arms-define [] h = tt
  arms-define (e ∷ es) h = let parts = sound-both (IsVariable i) (arm_outline e.0) (together (map arm_outline (map (λ e. e.0) es))) h in (e.1.1 parts.0, arms-define es parts.1)

  -- states
  states-entries : (es : List TheState) → AllByRecursion (λ (s : StateOutline). HasEntries s.outline) (map state_outline (map (λ e. e.0) es))
  states-entries [] = tt
  states-entries (e ∷ es) = (e.1.0, states-entries es)

  states-define : (ids : List ℕ) (es : List TheState) → Sound (states_among ids (map state_outline (map (λ e. e.0) es))) →
      Pairwise (λ w (o : StateOutline). StateWalkDefines f base i w o.outline) (map (one_state_walk base names i) (map (λ e. e.0) es)) (map state_outline (map (λ e. e.0) es))
  states-define ids [] h = tt
  states-define ids (e ∷ es) h =
      let o = state_outline e.0 in
      let parts = sound-both (IsVariable i) (state_among ids o) (states_among ids (map state_outline (map (λ e. e.0) es))) h in
      (e.1.1 (sound-after (IsVariable i) (strangers rule.Branch ids o.targets) o.outline parts.0), states-define ids es parts.1)

  -- ---- one layer of a tree

  -- what is made of one layer of a tree, and its outline
  abbrev eqn_made : Eqn-F TheEqn TheArm TheBody TheState → Making
  eqn_made e = make.eqn_step base names i (map-Eqn Eqn Arm Body State Making ArmWalk Making StateWalk (eqn_walk base names i) (arm_walk base names i) (body_walk base names i) (one_state_walk base names i) (map-Eqn TheEqn TheArm TheBody TheState Eqn Arm Body State (λ e. e.0) (λ a. a.0) (λ b. b.0) (λ s. s.0) e))

  abbrev eqn_outlined : Eqn-F TheEqn TheArm TheBody TheState → Outline
  eqn_outlined e = defined.eqn_step (map-Eqn Eqn Arm Body State Outline Outline Outline StateOutline eqn_outline arm_outline body_outline state_outline (map-Eqn TheEqn TheArm TheBody TheState Eqn Arm Body State (λ e. e.0) (λ a. a.0) (λ b. b.0) (λ s. s.0) e))

  abbrev arm_walked : Arm-F TheEqn TheArm TheBody TheState → ArmWalk
  arm_walked a = make.arm_step base names i (map-Arm Eqn Arm Body State Making ArmWalk Making StateWalk (eqn_walk base names i) (arm_walk base names i) (body_walk base names i) (one_state_walk base names i) (map-Arm TheEqn TheArm TheBody TheState Eqn Arm Body State (λ e. e.0) (λ a. a.0) (λ b. b.0) (λ s. s.0) a))

  abbrev arm_outlined : Arm-F TheEqn TheArm TheBody TheState → Outline
  arm_outlined a = defined.arm_step (map-Arm Eqn Arm Body State Outline Outline Outline StateOutline eqn_outline arm_outline body_outline state_outline (map-Arm TheEqn TheArm TheBody TheState Eqn Arm Body State (λ e. e.0) (λ a. a.0) (λ b. b.0) (λ s. s.0) a))

  abbrev body_walked : Body-F TheEqn TheArm TheBody TheState → Making
  body_walked b = make.body_step base names i (map-Body Eqn Arm Body State Making ArmWalk Making StateWalk (eqn_walk base names i) (arm_walk base names i) (body_walk base names i) (one_state_walk base names i) (map-Body TheEqn TheArm TheBody TheState Eqn Arm Body State (λ e. e.0) (λ a. a.0) (λ b. b.0) (λ s. s.0) b))

  abbrev body_outlined : Body-F TheEqn TheArm TheBody TheState → Outline
  body_outlined b = defined.body_step (map-Body Eqn Arm Body State Outline Outline Outline StateOutline eqn_outline arm_outline body_outline state_outline (map-Body TheEqn TheArm TheBody TheState Eqn Arm Body State (λ e. e.0) (λ a. a.0) (λ b. b.0) (λ s. s.0) b))

  abbrev state_walked : State-F TheEqn TheArm TheBody TheState → StateWalk
  state_walked s = make.state_step base names i (map-State Eqn Arm Body State Making ArmWalk Making StateWalk (eqn_walk base names i) (arm_walk base names i) (body_walk base names i) (one_state_walk base names i) (map-State TheEqn TheArm TheBody TheState Eqn Arm Body State (λ e. e.0) (λ a. a.0) (λ b. b.0) (λ s. s.0) s))

  abbrev state_outlined : State-F TheEqn TheArm TheBody TheState → StateOutline
  state_outlined s = defined.state_step (map-State Eqn Arm Body State Outline Outline Outline StateOutline eqn_outline arm_outline body_outline state_outline (map-State TheEqn TheArm TheBody TheState Eqn Arm Body State (λ e. e.0) (λ a. a.0) (λ b. b.0) (λ s. s.0) s))

  eqn-layer : (e : Eqn-F TheEqn TheArm TheBody TheState) → ByNames (eqn_made e) (eqn_outlined e)
  eqn-layer (open_eqn.Plain left right) = (entries-left left, plain-defines f base i names left (expr_walk base names i right) (expr-defines f base names i known right))
  eqn-layer (open_eqn.Der at x slope None resets) =
      (entries-one x true false, der-defines f base i names x (expr_walk base names i slope) None (map (reset_arm_walk base names i) resets) (expr-defines f base names i known slope) tt (resets-define resets))
  eqn-layer (open_eqn.Der at x slope (Some e) resets) =
      (entries-one x true true, der-defines f base i names x (expr_walk base names i slope) (Some (expr_walk base names i e)) (map (reset_arm_walk base names i) resets) (expr-defines f base names i known slope) (expr-defines f base names i known e) (resets-define resets))
  eqn-layer (open_eqn.Start at x value) = (entries-one x false true, init-defines f base i names x (expr_walk base names i value) (expr-defines f base names i known value))
  eqn-layer (open_eqn.Present at arms None) =
      let os = map arm_outline (map (λ a. a.0) arms) in (
        entries-both (together os) defined.nothing (entries-together os (arms-entries arms)) entries-nothing,
        λ h. present-defines f base i names (map (arm_walk base names i) (map (λ a. a.0) arms)) os None None (arms-define arms (sound-both (IsVariable i) (together os) defined.nothing h).0) tt,
      )
  eqn-layer (open_eqn.Present at arms (Some b)) =
      let os = map arm_outline (map (λ a. a.0) arms) in
      let o = body_outline b.0 in (
        entries-both (together os) o (entries-together os (arms-entries arms)) b.1.0,
        λ h. let parts = sound-both (IsVariable i) (together os) o h in present-defines f base i names (map (arm_walk base names i) (map (λ a. a.0) arms)) os (Some (body_walk base names i b.0)) (Some o) (arms-define arms parts.0) (b.1.1 parts.1),
      )
  eqn-layer (open_eqn.Automaton at states) =
      let os = map state_outline (map (λ s. s.0) states) in
      let ids = with_ids [] (ids_of (state_names os)) in (
        entries-states ids os (states-entries states),
        λ h. automaton-defines f base i names (map (one_state_walk base names i) (map (λ s. s.0) states)) os (states-define ids states (sound-after (IsVariable i) (repeats rule.Branch [] (state_names os)) (states_among ids os) h)),
      )
  eqn-layer (open_eqn.Reset at eqs z) =
      let os = map eqn_outline (map (λ e. e.0) eqs) in (
        entries-list [] [] os (eqs-entries eqs),
        λ h. reset-defines f base i names (map (eqn_walk base names i) (map (λ e. e.0) eqs)) os (cond_walk base names i z) h (eqs-entries eqs) (eqs-define [] [] eqs h) (cond-defines z),
      )

  arm-layer : (a : Arm-F TheEqn TheArm TheBody TheState) → ArmByNames (arm_walked a) (arm_outlined a)
  arm-layer a = (a.body.1.0, λ h. arm-defines f base i names (cond_walk base names i a.cond) (body_walk base names i a.body.0) (body_outline a.body.0) (cond-defines a.cond) (a.body.1.1 h))

  body-layer : (b : Body-F TheEqn TheArm TheBody TheState) → ByNames (body_walked b) (body_outlined b)
  body-layer b =
      let os = map eqn_outline (map (λ e. e.0) b.eqs) in (
        entries-under b.locals (list_from [] [] os) (entries-list [] [] os (eqs-entries b.eqs)),
        λ h. let sound = sound-under (IsVariable i) b.locals (list_from [] [] os) h in body-defines f base i names b.locals (map (eqn_walk base names i) (map (λ e. e.0) b.eqs)) os sound (eqs-entries b.eqs) (eqs-define [] [] b.eqs sound),
      )

  state-layer : (s : State-F TheEqn TheArm TheBody TheState) → StateByNames (state_walked s) (state_outlined s)
  state-layer s = (s.body.1.0, λ h. state-defines f base i names s.name (body_walk base names i s.body.0) (body_outline s.body.0) (map (move_walk base names i) s.moves) (s.body.1.1 h) (moves-define s.moves))

  -- an equation makes own definers of the names of its outline, if no rule of names is broken
  pub eqn-defines : (e : Eqn) → EqnDefines e
  unfolding eqn_walk arm_walk body_walk one_state_walk eqn_outline arm_outline body_outline state_outline
  eqn-defines = ind-Eqn EqnDefines ArmDefines BodyDefines StateDefines
      (λ x y is. subst (λ z. EqnDefines (roll-Eqn z)) is (of-both ByNames _ (eqn_made y) _ (eqn_outlined y)
      (fold-roll-Eqn Making ArmWalk Making StateWalk (make.eqn_step base names i) (make.arm_step base names i) (make.body_step base names i) (make.state_step base names i) (map-Eqn TheEqn TheArm TheBody TheState Eqn Arm Body State (λ e. e.0) (λ a. a.0) (λ b. b.0) (λ s. s.0) y))
      (fold-roll-Eqn Outline Outline Outline StateOutline defined.eqn_step defined.arm_step defined.body_step defined.state_step (map-Eqn TheEqn TheArm TheBody TheState Eqn Arm Body State (λ e. e.0) (λ a. a.0) (λ b. b.0) (λ s. s.0) y)) (eqn-layer y)))
      (λ x y is. subst (λ z. ArmDefines (roll-Arm z)) is (of-both ArmByNames _ (arm_walked y) _ (arm_outlined y)
      (fold-roll-Arm Making ArmWalk Making StateWalk (make.eqn_step base names i) (make.arm_step base names i) (make.body_step base names i) (make.state_step base names i) (map-Arm TheEqn TheArm TheBody TheState Eqn Arm Body State (λ e. e.0) (λ a. a.0) (λ b. b.0) (λ s. s.0) y))
      (fold-roll-Arm Outline Outline Outline StateOutline defined.eqn_step defined.arm_step defined.body_step defined.state_step (map-Arm TheEqn TheArm TheBody TheState Eqn Arm Body State (λ e. e.0) (λ a. a.0) (λ b. b.0) (λ s. s.0) y)) (arm-layer y)))
      (λ x y is. subst (λ z. BodyDefines (roll-Body z)) is (of-both ByNames _ (body_walked y) _ (body_outlined y)
      (fold-roll-Body Making ArmWalk Making StateWalk (make.eqn_step base names i) (make.arm_step base names i) (make.body_step base names i) (make.state_step base names i) (map-Body TheEqn TheArm TheBody TheState Eqn Arm Body State (λ e. e.0) (λ a. a.0) (λ b. b.0) (λ s. s.0) y))
      (fold-roll-Body Outline Outline Outline StateOutline defined.eqn_step defined.arm_step defined.body_step defined.state_step (map-Body TheEqn TheArm TheBody TheState Eqn Arm Body State (λ e. e.0) (λ a. a.0) (λ b. b.0) (λ s. s.0) y)) (body-layer y)))
      (λ x y is. subst (λ z. StateDefines (roll-State z)) is (of-both StateByNames _ (state_walked y) _ (state_outlined y)
      (fold-roll-State Making ArmWalk Making StateWalk (make.eqn_step base names i) (make.arm_step base names i) (make.body_step base names i) (make.state_step base names i) (map-State TheEqn TheArm TheBody TheState Eqn Arm Body State (λ e. e.0) (λ a. a.0) (λ b. b.0) (λ s. s.0) y))
      (fold-roll-State Outline Outline Outline StateOutline defined.eqn_step defined.arm_step defined.body_step defined.state_step (map-State TheEqn TheArm TheBody TheState Eqn Arm Body State (λ e. e.0) (λ a. a.0) (λ b. b.0) (λ s. s.0) y)) (state-layer y)))
