-- Down an equation that breaks no rule of names: what holds of the walk of each form of equation holds of its walk.
use Rattle.std.proofs.Common.{◌≡◌, ℕ, Bool, true, false, if◌then◌else◌, List, [], ◌∷◌, ◌++◌, map, length, Option, Some, None, sym, subst}
use Rattle.std.specs.List.{AllByRecursion}
use Rattle.zl_value.specs.declared.position.Pos.{Pos}
use Rattle.zl_ast.specs.declared.name.Name.{Name}
use Rattle.zl_ast.specs.declared.scope.VarInfo.{VarInfo}
use Rattle.zl_ast.specs.declared.scope.VarClass.TheVariants as class
use Rattle.zl_ast.specs.declared.expr.Expr.{Expr}
use Rattle.zl_ast.specs.declared.eqn.Eqn.{Eqn, roll-Eqn}
use Rattle.zl_ast.specs.declared.eqn.Arm.{Arm, roll-Arm}
use Rattle.zl_ast.specs.declared.eqn.Body.{Body, roll-Body}
use Rattle.zl_ast.specs.declared.eqn.State.{State, roll-State}
use Rattle.zl_ast.specs.declared.eqn.Cond.{Cond}
use Rattle.zl_ast.specs.declared.eqn.Cond.TheVariants.{Event, Test}
use Rattle.zl_ast.specs.declared.eqn.Up.{Up}
use Rattle.zl_ast.specs.declared.eqn.ResetArm.{ResetArm}
use Rattle.zl_ast.specs.declared.eqn.Move.{Move}
use Rattle.zl_ast.specs.declared.eqn.Eqn.TheOpen.{Eqn-F, Arm-F, Body-F, State-F}
use Rattle.zl_ast.specs.declared.eqn.Eqn.TheOpen as open_eqn
use Rattle.zl_ast.specs.declared.eqn.Eqn.TheFolds.{fold-roll-Eqn, fold-roll-Arm, fold-roll-Body, fold-roll-State, ind-Eqn, map-Eqn, map-Arm, map-Body, map-State}
use Rattle.zl_ast.specs.Names.{Violation, with_ids, ids_of}
use Rattle.zl_ast.specs.NamesDefined as defined
use Rattle.zl_ast.specs.NamesDefined.{Outline, StateOutline, entry, free_entries, together, list_from, states_among, eqn_outline, arm_outline, body_outline, state_outline}
use Rattle.zl_ast.specs.NamesUsed as used
use Rattle.zl_ast.specs.NamesUsed.{Known, Uses, BodyUses, all_uses, value_uses, ups_uses, cond_uses, start_uses, reset_arm_uses, moves_uses, same_strength, within, inside, eqn_uses, arm_uses, body_uses, state_uses}
use Rattle.zl_flat.specs.declared.here.Here.{Here}
use Rattle.zl_flat.specs.Parts.{Parts, Counters}
use Rattle.zl_flat.specs.Instances.{Instance}
use Rattle.zl_flat.specs.Expressions.{Walk, expr_walk}
use Rattle.zl_flat.specs.Equations as make
use Rattle.zl_flat.specs.Equations.{Making, Tested, Testing, StateMade, ArmWalk, StateWalk, ResetWalk, MoveWalk, crossing, event, tested, plain, der, init, present, automaton, reset, state_made, arm_made, body_made, up_walk, first_at, event_walk, cond_walk, reset_arm_walk, start_walk, move_walk, eqn_walk, arm_walk, body_walk, one_state_walk}
use Rattle.zl_flat.proofs.WellFormedParts.{all-left, all-right}
use Rattle.zl_flat.proofs.RulesKept.{none-left, none-right, IsVariable, Covers}
use Rattle.zl_flat.proofs.UsesNames.{NamesKnown, EntriesKnown, OutlineKnown, names-known, covers-none, covers-names, free-known, list-known, together-known, states-known}
use Rattle.zl_flat.proofs.UsesExprTrees.{Kinds, Copied, OfWalk, OfForms, HasCalls, expr-holds}

-- ---- what holds of walks

-- What holds of what equations make, of a condition, of an `up`, of an arm of this choice with this number, and of a state
-- of this automaton with this number, where these are the numbers of the names of the states.
pub record EqnKinds : Type 1 where
  pub exprs : Kinds
  pub made : Here → Counters → Parts → Type 0
  pub tested : Here → Counters → Tested → Type 0
  pub crossed : Here → Counters → Tested → Type 0
  pub armed : ℕ → ℕ → Here → Counters → Tested → Type 0
  pub stated : ℕ → ℕ → List ℕ → Here → Counters → StateMade → Type 0

-- of equations
abbrev pub OfMaking : EqnKinds → Making → Type 0
OfMaking q m = (here : Here) (s : Counters) → q.made here s (m here s)

-- of a condition
abbrev pub OfTesting : EqnKinds → Testing → Type 0
OfTesting q t = (here : Here) (s : Counters) → q.tested here s (t here s)

-- of an `up`
abbrev pub OfCrossing : EqnKinds → Testing → Type 0
OfCrossing q t = (here : Here) (s : Counters) → q.crossed here s (t here s)

-- of an arm
abbrev pub OfArm : EqnKinds → ArmWalk → Type 0
OfArm q w = (of number : ℕ) (here : Here) (s : Counters) → q.armed of number here s (w of number here s)

-- of a state
abbrev pub OfState : EqnKinds → StateWalk → Type 0
OfState q w = (of number : ℕ) (states : List ℕ) (here : Here) (s : Counters) → q.stated of number states here s (w.walk of number states here s)

-- of a reset arm
pub record OfReset (q : EqnKinds) (w : ResetWalk) : Type 0 where
  pub event : OfTesting q w.event
  pub value : OfWalk q.exprs w.value

-- of the condition of a move
pub record OfMove (q : EqnKinds) (m : MoveWalk) : Type 0 where
  pub test : OfTesting q m.test

-- of the `init` value behind a `der`
abbrev pub OfStart : EqnKinds → Option Walk → Type 0
OfStart q None = Unit {0}
OfStart q (Some x) = OfWalk q.exprs x

-- of the `else` body
abbrev pub OfOther : EqnKinds → Option Making → Type 0
OfOther q None = Unit {0}
OfOther q (Some b) = OfMaking q b

-- it holds of each form of equation, where it holds of what is in it, and the names that it defines are variables
pub record OfEquations (q : EqnKinds) (base : ℕ) (names : List (List ℕ)) (i : Instance) : Type 0 where
  pub crossing : (at : Pos) (x : Walk) → OfWalk q.exprs x → OfCrossing q (crossing base names i at x)
  pub event : (at : Pos) (ts : List Testing) → AllByRecursion (OfCrossing q) ts → OfTesting q (event base names i at ts)
  pub testing : (x : Walk) → OfWalk q.exprs x → OfTesting q (tested base names i x)
  pub plain : (left : List Name) (right : Walk) → NamesKnown i left → OfWalk q.exprs right → OfMaking q (plain base names i left right)
  pub der : (x : Name) (slope : Walk) (start : Option Walk) (resets : List ResetWalk) → IsVariable i x.id → OfWalk q.exprs slope → OfStart q start → AllByRecursion (OfReset q) resets → OfMaking q (der base names i x slope start resets)
  pub init : (x : Name) (value : Walk) → IsVariable i x.id → OfWalk q.exprs value → OfMaking q (init base names i x value)
  pub present : (arms : List ArmWalk) (other : Option Making) → AllByRecursion (OfArm q) arms → OfOther q other → OfMaking q (present base names i arms other)
  pub arm : (c : Testing) (body : Making) → OfTesting q c → OfMaking q body → OfArm q (arm_made base names i c body)
  pub automaton : (states : List StateWalk) → AllByRecursion (OfState q) states → OfMaking q (automaton base names i states)
  pub state : (name : Name) (body : Making) (moves : List MoveWalk) → OfMaking q body → AllByRecursion (OfMove q) moves → OfState q (record { name = name; walk = state_made base names i body moves })
  pub reset : (eqs : List Making) (c : Testing) → AllByRecursion (OfMaking q) eqs → OfTesting q c → OfMaking q (reset base names i eqs c)
  pub body : (locals : List Name) (eqs : List Making) → NamesKnown i locals → AllByRecursion (OfMaking q) eqs → OfMaking q (body_made base names i locals eqs)

-- ---- trees

module _ (q : EqnKinds) (r : Copied) (base : ℕ) (names : List (List ℕ)) (i : Instance) (k : Known) (forms : OfForms q.exprs r base names i) (eqns : OfEquations q base names i) (knows : HasCalls r names i k) where
  -- of an expression of which one result is wanted
  value-holds : (x : Expr) (visible : List ℕ) → Covers i visible → value_uses k x visible ≡ [] → OfWalk q.exprs (expr_walk base names i x)
  value-holds x visible c h = expr-holds q.exprs r base names i k forms knows x 1 visible c h

  -- ---- conditions

  -- of the `up`s of an event
  of-ups : (us : List Up) (visible : List ℕ) → Covers i visible → ups_uses k us visible ≡ [] → AllByRecursion (OfCrossing q) (map (up_walk base names i) us)
  of-ups [] visible c h = tt
  of-ups (u ∷ us) visible c h = (
    eqns.crossing u.at (expr_walk base names i u.arg) (value-holds u.arg visible c (none-left (value_uses k u.arg visible) (ups_uses k us visible) h)),
    of-ups us visible c (none-right (value_uses k u.arg visible) (ups_uses k us visible) h),
  )

  -- of an event
  of-event : (us : List Up) (visible : List ℕ) → Covers i visible → ups_uses k us visible ≡ [] → OfTesting q (event_walk base names i us)
  of-event us visible c h = eqns.event (first_at us) (map (up_walk base names i) us) (of-ups us visible c h)

  -- of a condition
  of-cond : (z : Cond) (visible : List ℕ) → Covers i visible → cond_uses k z visible ≡ [] → OfTesting q (cond_walk base names i z)
  of-cond (Event us) visible c h = of-event us visible c h
  of-cond (Test at x) visible c h = eqns.testing (expr_walk base names i x) (value-holds x visible c h)

  -- of the `init` value of a `der`
  of-start : (start : Option Expr) (visible : List ℕ) → Covers i visible → start_uses k start visible ≡ [] → OfStart q (start_walk base names i start)
  of-start None visible c h = tt
  of-start (Some x) visible c h = value-holds x visible c h

  -- of the reset arms of a `der`
  of-resets : (rs : List ResetArm) (visible : List ℕ) → Covers i visible → all_uses (map (reset_arm_uses k) rs) visible ≡ [] → AllByRecursion (OfReset q) (map (reset_arm_walk base names i) rs)
  of-resets [] visible c h = tt
  of-resets (a ∷ arms) visible c h =
      let rest = all_uses (map (reset_arm_uses k) arms) visible in
      let one = none-left (reset_arm_uses k a visible) rest h in (
        record {
          event = of-event a.event visible c (none-left (ups_uses k a.event visible) (value_uses k a.value visible) one);
          value = value-holds a.value visible c (none-right (ups_uses k a.event visible) (value_uses k a.value visible) one);
        },
        of-resets arms visible c (none-right (reset_arm_uses k a visible) rest h),
      )

  -- of a move, which sees the locals of the state if it is weak
  of-move : (m : Move) (strong : Bool) (inner visible : List ℕ) (rest rest2 : List Violation) → Covers i inner → Covers i visible →
      (if same_strength false strong then cond_uses k m.cond inner else []) ++ rest ≡ [] → (if same_strength true strong then cond_uses k m.cond visible else []) ++ rest2 ≡ [] → OfMove q (move_walk base names i m)
  of-move m true inner visible rest rest2 ci cv hi hv = record { test = of-cond m.cond visible cv (none-left (cond_uses k m.cond visible) rest2 hv) }
  of-move m false inner visible rest rest2 ci cv hi hv = record { test = of-cond m.cond inner ci (none-left (cond_uses k m.cond inner) rest hi) }

  -- of the moves of a state
  of-moves : (ms : List Move) (inner visible : List ℕ) → Covers i inner → Covers i visible → moves_uses k false ms inner ≡ [] → moves_uses k true ms visible ≡ [] → AllByRecursion (OfMove q) (map (move_walk base names i) ms)
  of-moves [] inner visible ci cv hi hv = tt
  of-moves (m ∷ ms) inner visible ci cv hi hv = (
    of-move m m.strong inner visible (moves_uses k false ms inner) (moves_uses k true ms visible) ci cv hi hv,
    of-moves ms inner visible ci cv
        (none-right (if same_strength false m.strong then cond_uses k m.cond inner else []) (moves_uses k false ms inner) hi)
        (none-right (if same_strength true m.strong then cond_uses k m.cond visible else []) (moves_uses k true ms visible) hv),
  )

  -- ---- equations

  -- of the walk of an equation that breaks no rule of names
  abbrev pub OfEqn : Eqn → Type 0
  OfEqn e = (visible : List ℕ) → Covers i visible → eqn_uses k e visible ≡ [] → EntriesKnown i (eqn_outline e).entries → OfMaking q (eqn_walk base names i e)

  -- of the walk of such an arm
  abbrev pub OfArmTree : Arm → Type 0
  OfArmTree a = (visible : List ℕ) → Covers i visible → arm_uses k a visible ≡ [] → EntriesKnown i (arm_outline a).entries → OfArm q (arm_walk base names i a)

  -- also its locals are visible behind it
  abbrev pub OfBodyTree : Body → Type 0
  OfBodyTree b = (visible : List ℕ) → Covers i visible → inside (body_uses k b) visible ≡ [] → EntriesKnown i (body_outline b).entries → OfMaking q (body_walk base names i b) × Covers i (within (body_uses k b).locals visible)

  -- of the walk of such a state
  abbrev pub OfStateTree : State → Type 0
  OfStateTree s = (visible : List ℕ) → Covers i visible → state_uses k s visible ≡ [] → EntriesKnown i (state_outline s).outline.entries → OfState q (one_state_walk base names i s)

  -- what is known of the equations in an equation
  abbrev TheEqn : Type 0
  TheEqn = (e : Eqn) × OfEqn e

  -- of its arms
  abbrev TheArm : Type 0
  TheArm = (a : Arm) × OfArmTree a

  -- of its bodies
  abbrev TheBody : Type 0
  TheBody = (b : Body) × OfBodyTree b

  -- of its states
  abbrev TheState : Type 0
  TheState = (s : State) × OfStateTree s

  -- of equations
  of-eqs : (es : List TheEqn) (visible : List ℕ) → Covers i visible → all_uses (map (eqn_uses k) (map (λ e. e.0) es)) visible ≡ [] → AllByRecursion (OutlineKnown i) (map eqn_outline (map (λ e. e.0) es)) →
      AllByRecursion (OfMaking q) (map (eqn_walk base names i) (map (λ e. e.0) es))
  of-eqs [] visible c h l = tt
  of-eqs (e ∷ es) visible c h l =
      let rest = all_uses (map (eqn_uses k) (map (λ e. e.0) es)) visible in
      (e.1 visible c (none-left (eqn_uses k e.0 visible) rest h) l.0, of-eqs es visible c (none-right (eqn_uses k e.0 visible) rest h) l.1)

  -- of arms
  of-arms : (es : List TheArm) (visible : List ℕ) → Covers i visible → all_uses (map (arm_uses k) (map (λ e. e.0) es)) visible ≡ [] → AllByRecursion (OutlineKnown i) (map arm_outline (map (λ e. e.0) es)) →
      AllByRecursion (OfArm q) (map (arm_walk base names i) (map (λ e. e.0) es))
  of-arms [] visible c h l = tt
  of-arms (e ∷ es) visible c h l =
      let rest = all_uses (map (arm_uses k) (map (λ e. e.0) es)) visible in
      (e.1 visible c (none-left (arm_uses k e.0 visible) rest h) l.0, of-arms es visible c (none-right (arm_uses k e.0 visible) rest h) l.1)

  -- of states
  of-states : (es : List TheState) (visible : List ℕ) → Covers i visible → all_uses (map (state_uses k) (map (λ e. e.0) es)) visible ≡ [] → AllByRecursion (λ (s : StateOutline). OutlineKnown i s.outline) (map state_outline (map (λ e. e.0) es)) →
      AllByRecursion (OfState q) (map (one_state_walk base names i) (map (λ e. e.0) es))
  of-states [] visible c h l = tt
  of-states (e ∷ es) visible c h l =
      let rest = all_uses (map (state_uses k) (map (λ e. e.0) es)) visible in
      (e.1 visible c (none-left (state_uses k e.0 visible) rest h) l.0, of-states es visible c (none-right (state_uses k e.0 visible) rest h) l.1)

  -- an equation without what is known of its parts
  abbrev plain_eqn : Eqn-F TheEqn TheArm TheBody TheState → Eqn-F Eqn Arm Body State
  plain_eqn e = map-Eqn TheEqn TheArm TheBody TheState Eqn Arm Body State (λ e. e.0) (λ a. a.0) (λ b. b.0) (λ s. s.0) e

  -- one form of equation
  eqn-layer : (e : Eqn-F TheEqn TheArm TheBody TheState) (visible : List ℕ) → Covers i visible →
      used.eqn_step k (map-Eqn Eqn Arm Body State Uses Uses BodyUses Uses (eqn_uses k) (arm_uses k) (body_uses k) (state_uses k) (plain_eqn e)) visible ≡ [] →
      EntriesKnown i (defined.eqn_step (map-Eqn Eqn Arm Body State Outline Outline Outline StateOutline eqn_outline arm_outline body_outline state_outline (plain_eqn e))).entries →
      OfMaking q (make.eqn_step base names i (map-Eqn Eqn Arm Body State Making ArmWalk Making StateWalk (eqn_walk base names i) (arm_walk base names i) (body_walk base names i) (one_state_walk base names i) (plain_eqn e)))
  eqn-layer (open_eqn.Plain left right) visible c h l = eqns.plain left (expr_walk base names i right) (names-known i class.Top left l) (expr-holds q.exprs r base names i k forms knows right (length left) visible c h)
  eqn-layer (open_eqn.Der at x slope start resets) visible c h l =
      let rest = start_uses k start visible ++ all_uses (map (reset_arm_uses k) resets) visible in
      let behind = none-right (value_uses k slope visible) rest h in
      eqns.der x (expr_walk base names i slope) (start_walk base names i start) (map (reset_arm_walk base names i) resets) l.0
      (value-holds slope visible c (none-left (value_uses k slope visible) rest h))
      (of-start start visible c (none-left (start_uses k start visible) (all_uses (map (reset_arm_uses k) resets) visible) behind))
      (of-resets resets visible c (none-right (start_uses k start visible) (all_uses (map (reset_arm_uses k) resets) visible) behind))
  eqn-layer (open_eqn.Start at x value) visible c h l = eqns.init x (expr_walk base names i value) l.0 (value-holds value visible c h)
  eqn-layer (open_eqn.Present at arms None) visible c h l =
      let os = map arm_outline (map (λ a. a.0) arms) in
      let uses = all_uses (map (arm_uses k) (map (λ a. a.0) arms)) visible in
      eqns.present (map (arm_walk base names i) (map (λ a. a.0) arms)) None
      (of-arms arms visible c (none-left uses [] h) (together-known i os (all-left (λ (v : VarInfo). IsVariable i v.name) (together os).entries [] l))) tt
  eqn-layer (open_eqn.Present at arms (Some b)) visible c h l =
      let os = map arm_outline (map (λ a. a.0) arms) in
      let uses = all_uses (map (arm_uses k) (map (λ a. a.0) arms)) visible in
      let other = inside (body_uses k b.0) visible in
      eqns.present (map (arm_walk base names i) (map (λ a. a.0) arms)) (Some (body_walk base names i b.0))
      (of-arms arms visible c (none-left uses other h) (together-known i os (all-left (λ (v : VarInfo). IsVariable i v.name) (together os).entries (body_outline b.0).entries l)))
      (b.1 visible c (none-right uses other h) (all-right (λ (v : VarInfo). IsVariable i v.name) (together os).entries (body_outline b.0).entries l)).0
  eqn-layer (open_eqn.Automaton at states) visible c h l =
      let os = map state_outline (map (λ s. s.0) states) in
      eqns.automaton (map (one_state_walk base names i) (map (λ s. s.0) states)) (of-states states visible c h (states-known i (with_ids [] (ids_of (defined.state_names os))) os l))
  eqn-layer (open_eqn.Reset at eqs z) visible c h l =
      let uses = all_uses (map (eqn_uses k) (map (λ e. e.0) eqs)) visible in
      eqns.reset (map (eqn_walk base names i) (map (λ e. e.0) eqs)) (cond_walk base names i z)
      (of-eqs eqs visible c (none-left uses (cond_uses k z visible) h) (list-known i [] [] (map eqn_outline (map (λ e. e.0) eqs)) l))
      (of-cond z visible c (none-right uses (cond_uses k z visible) h))

  -- an arm without what is known of its parts
  abbrev plain_arm : Arm-F TheEqn TheArm TheBody TheState → Arm-F Eqn Arm Body State
  plain_arm a = map-Arm TheEqn TheArm TheBody TheState Eqn Arm Body State (λ e. e.0) (λ a. a.0) (λ b. b.0) (λ s. s.0) a

  -- an arm
  arm-layer : (a : Arm-F TheEqn TheArm TheBody TheState) (visible : List ℕ) → Covers i visible →
      used.arm_step k (map-Arm Eqn Arm Body State Uses Uses BodyUses Uses (eqn_uses k) (arm_uses k) (body_uses k) (state_uses k) (plain_arm a)) visible ≡ [] →
      EntriesKnown i (defined.arm_step (map-Arm Eqn Arm Body State Outline Outline Outline StateOutline eqn_outline arm_outline body_outline state_outline (plain_arm a))).entries →
      OfArm q (make.arm_step base names i (map-Arm Eqn Arm Body State Making ArmWalk Making StateWalk (eqn_walk base names i) (arm_walk base names i) (body_walk base names i) (one_state_walk base names i) (plain_arm a)))
  arm-layer a visible c h l =
      let uses = cond_uses k a.cond visible in
      let rest = inside (body_uses k a.body.0) visible in
      eqns.arm (cond_walk base names i a.cond) (body_walk base names i a.body.0) (of-cond a.cond visible c (none-left uses rest h)) (a.body.1 visible c (none-right uses rest h) l).0

  -- a body without what is known of its parts
  abbrev plain_body : Body-F TheEqn TheArm TheBody TheState → Body-F Eqn Arm Body State
  plain_body b = map-Body TheEqn TheArm TheBody TheState Eqn Arm Body State (λ e. e.0) (λ a. a.0) (λ b. b.0) (λ s. s.0) b

  -- a body
  body-layer : (b : Body-F TheEqn TheArm TheBody TheState) (visible : List ℕ) → Covers i visible →
      inside (used.body_step k (map-Body Eqn Arm Body State Uses Uses BodyUses Uses (eqn_uses k) (arm_uses k) (body_uses k) (state_uses k) (plain_body b))) visible ≡ [] →
      EntriesKnown i (defined.body_step (map-Body Eqn Arm Body State Outline Outline Outline StateOutline eqn_outline arm_outline body_outline state_outline (plain_body b))).entries →
      OfMaking q (make.body_step base names i (map-Body Eqn Arm Body State Making ArmWalk Making StateWalk (eqn_walk base names i) (arm_walk base names i) (body_walk base names i) (one_state_walk base names i) (plain_body b))) × Covers i (within b.locals visible)
  body-layer b visible c h l =
      let own = map (entry class.Local) b.locals in
      let o = list_from [] [] (map eqn_outline (map (λ e. e.0) b.eqs)) in
      let held = with_ids [] (ids_of b.locals) in
      let free = free_entries held o.entries in
      let locals = names-known i class.Local b.locals (all-left (λ (v : VarInfo). IsVariable i v.name) own free l) in
      let inner = covers-names i b.locals visible locals c in
      let below = free-known i held o.entries (covers-names i b.locals [] locals (covers-none i)) (all-right (λ (v : VarInfo). IsVariable i v.name) own free l) in (
        eqns.body b.locals (map (eqn_walk base names i) (map (λ e. e.0) b.eqs)) locals
            (of-eqs b.eqs (within b.locals visible) inner h (list-known i [] [] (map eqn_outline (map (λ e. e.0) b.eqs)) below)),
        inner,
      )

  -- a state without what is known of its parts
  abbrev plain_state : State-F TheEqn TheArm TheBody TheState → State-F Eqn Arm Body State
  plain_state s = map-State TheEqn TheArm TheBody TheState Eqn Arm Body State (λ e. e.0) (λ a. a.0) (λ b. b.0) (λ s. s.0) s

  -- a state
  state-layer : (s : State-F TheEqn TheArm TheBody TheState) (visible : List ℕ) → Covers i visible →
      used.state_step k (map-State Eqn Arm Body State Uses Uses BodyUses Uses (eqn_uses k) (arm_uses k) (body_uses k) (state_uses k) (plain_state s)) visible ≡ [] →
      EntriesKnown i (defined.state_step (map-State Eqn Arm Body State Outline Outline Outline StateOutline eqn_outline arm_outline body_outline state_outline (plain_state s))).outline.entries →
      OfState q (make.state_step base names i (map-State Eqn Arm Body State Making ArmWalk Making StateWalk (eqn_walk base names i) (arm_walk base names i) (body_walk base names i) (one_state_walk base names i) (plain_state s)))
  state-layer s visible c h l =
      let inner = within (body_uses k s.body.0).locals visible in
      let uses = inside (body_uses k s.body.0) visible in
      let weak = moves_uses k false s.moves inner in
      let strong = moves_uses k true s.moves visible in
      let behind = none-right uses (weak ++ strong) h in
      let body = s.body.1 visible c (none-left uses (weak ++ strong) h) l in
      eqns.state s.name (body_walk base names i s.body.0) (map (move_walk base names i) s.moves) body.0
      (of-moves s.moves inner visible body.1 c (none-left weak strong behind) (none-right weak strong behind))

  -- it holds of the walk of an equation that breaks no rule of names, where the names that it defines are variables
  pub eqn-holds : (e : Eqn) → OfEqn e
  unfolding eqn_uses arm_uses body_uses state_uses eqn_walk arm_walk body_walk one_state_walk eqn_outline arm_outline body_outline state_outline
  eqn-holds = ind-Eqn OfEqn OfArmTree OfBodyTree OfStateTree
      (λ x y is. subst (λ z. OfEqn (roll-Eqn z)) is (λ visible c h l.
      subst (OfMaking q) (sym (fold-roll-Eqn Making ArmWalk Making StateWalk (make.eqn_step base names i) (make.arm_step base names i) (make.body_step base names i) (make.state_step base names i) (plain_eqn y)))
      (eqn-layer y visible c
      (subst (λ (u : Uses). u visible ≡ []) (fold-roll-Eqn Uses Uses BodyUses Uses (used.eqn_step k) (used.arm_step k) (used.body_step k) (used.state_step k) (plain_eqn y)) h)
      (subst (OutlineKnown i) (fold-roll-Eqn Outline Outline Outline StateOutline defined.eqn_step defined.arm_step defined.body_step defined.state_step (plain_eqn y)) l))))
      (λ x y is. subst (λ z. OfArmTree (roll-Arm z)) is (λ visible c h l.
      subst (OfArm q) (sym (fold-roll-Arm Making ArmWalk Making StateWalk (make.eqn_step base names i) (make.arm_step base names i) (make.body_step base names i) (make.state_step base names i) (plain_arm y)))
      (arm-layer y visible c
      (subst (λ (u : Uses). u visible ≡ []) (fold-roll-Arm Uses Uses BodyUses Uses (used.eqn_step k) (used.arm_step k) (used.body_step k) (used.state_step k) (plain_arm y)) h)
      (subst (OutlineKnown i) (fold-roll-Arm Outline Outline Outline StateOutline defined.eqn_step defined.arm_step defined.body_step defined.state_step (plain_arm y)) l))))
      (λ x y is. subst (λ z. OfBodyTree (roll-Body z)) is (λ visible c h l.
      let uses = fold-roll-Body Uses Uses BodyUses Uses (used.eqn_step k) (used.arm_step k) (used.body_step k) (used.state_step k) (plain_body y) in
      let a = body-layer y visible c
      (subst (λ (u : BodyUses). inside u visible ≡ []) uses h)
      (subst (OutlineKnown i) (fold-roll-Body Outline Outline Outline StateOutline defined.eqn_step defined.arm_step defined.body_step defined.state_step (plain_body y)) l) in (
        subst (OfMaking q) (sym (fold-roll-Body Making ArmWalk Making StateWalk (make.eqn_step base names i) (make.arm_step base names i) (make.body_step base names i) (make.state_step base names i) (plain_body y))) a.0,
        subst (λ (u : BodyUses). Covers i (within u.locals visible)) (sym uses) a.1,
      )))
      (λ x y is. subst (λ z. OfStateTree (roll-State z)) is (λ visible c h l.
      subst (OfState q) (sym (fold-roll-State Making ArmWalk Making StateWalk (make.eqn_step base names i) (make.arm_step base names i) (make.body_step base names i) (make.state_step base names i) (plain_state y)))
      (state-layer y visible c
      (subst (λ (u : Uses). u visible ≡ []) (fold-roll-State Uses Uses BodyUses Uses (used.eqn_step k) (used.arm_step k) (used.body_step k) (used.state_step k) (plain_state y)) h)
      (subst (λ (o : StateOutline). OutlineKnown i o.outline) (fold-roll-State Outline Outline Outline StateOutline defined.eqn_step defined.arm_step defined.body_step defined.state_step (plain_state y)) l))))
