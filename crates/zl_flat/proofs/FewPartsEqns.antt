-- What the walk of an equation makes has no more hidden occurrences than others, and no more choices or automata than blocks,
-- where it was made of the tokens of a text: each event has an `up`, each choice an arm and each automaton a state.
use Rattle.std.proofs.Common.{◌≡◌, ℕ, ◌+◌, ◌<◌, Bool, true, false, if◌then◌else◌, List, [], ◌∷◌, ◌++◌, map, length, Option, Some, None, sym, subst, arith}
use Rattle.zl_ast.specs.declared.name.Name.{Name}
use Rattle.zl_ast.specs.declared.expr.Expr.{Expr}
use Rattle.zl_ast.specs.declared.eqn.Eqn.{Eqn, roll-Eqn}
use Rattle.zl_ast.specs.declared.eqn.Arm.{Arm, roll-Arm}
use Rattle.zl_ast.specs.declared.eqn.Body.{Body, roll-Body}
use Rattle.zl_ast.specs.declared.eqn.State.{State, roll-State}
use Rattle.zl_ast.specs.declared.eqn.Cond.{Cond}
use Rattle.zl_ast.specs.declared.eqn.Cond.TheVariants.{Event, Test}
use Rattle.zl_ast.specs.declared.eqn.Up.{Up}
use Rattle.zl_ast.specs.declared.eqn.ResetArm.{ResetArm}
use Rattle.zl_ast.specs.declared.eqn.Move.{Move}
use Rattle.zl_ast.specs.declared.eqn.Eqn.TheOpen.{Eqn-F, Arm-F, Body-F, State-F}
use Rattle.zl_ast.specs.declared.eqn.Eqn.TheOpen as open_eqn
use Rattle.zl_ast.specs.declared.eqn.Eqn.TheFolds.{fold-roll-Eqn, fold-roll-Arm, fold-roll-Body, fold-roll-State, ind-Eqn, map-Eqn, map-Arm, map-Body, map-State}
use Rattle.zl_ast.specs.Assignments.{joined as all_joined}
use Rattle.zl_meaning.specs.declared.occurrence.Occ.{Occ}
use Rattle.zl_meaning.specs.declared.occurrence.SiteInfo.{SiteInfo}
use Rattle.zl_meaning.specs.declared.block.Block.{Block}
use Rattle.zl_meaning.specs.declared.place.PlaceInfo.{PlaceInfo}
use Rattle.zl_flat.specs.declared.here.Here.{Here}
use Rattle.zl_flat.specs.declared.given.Given.{Given}
use Rattle.zl_flat.specs.Parts.{Parts, Counters, nothing, joined, one_block, one_place, some_definers, one_occ, one_site, past_block, past_hidden, past_choice, past_automaton}
use Rattle.zl_flat.specs.Variables.{variable_of, is_first}
use Rattle.zl_flat.specs.Instances.{Instance, in_body, in_block, place_here}
use Rattle.zl_flat.specs.Expressions.{expr_walk}
use Rattle.zl_flat.specs.Equations as make
use Rattle.zl_flat.specs.Equations.{Making, in_turn, Testing, test_all, place_type, ArmWalk, arms_made, StateWalk, states_made, condition_place, name_made, names_made, up_walk, event_walk, cond_walk, reset_arm_walk, start_walk, start_made, resets_made, moves_made, move_walk, eqn_walk, arm_walk, body_walk, one_state_walk}
use Rattle.zl_flat.proofs.WellFormedParts.{all-left, all-right}
use Rattle.zl_flat.proofs.WellFormedGrammar as grammar
use Rattle.zl_flat.proofs.WellFormedGrammar.{Written, IsWritten, AllWritten, expr_written, ups_written, event_written, cond_written, start_written, reset_arm_written, moves_written, eqn_written, arm_written, body_written, state_written}
use Rattle.zl_flat.proofs.FewParts.{Spares, IsFew, few-nothing, few-joined, few-less, few-both, few-block, few-place, few-definers, few-site, few-hidden, few-choice, few-automaton, few-whole, CallsFew, expr-few}

-- ---- what these make

abbrev pub MakingFew : Making → Type 0
MakingFew m = (here : Here) (s : Counters) → IsFew (m here s)

abbrev TestingFew : Testing → Type 0
TestingFew t = (here : Here) (s : Counters) → IsFew (t here s).parts

-- an arm and a state spare a choice and an automaton: their blocks do
abbrev ArmWalkFew : ArmWalk → Type 0
ArmWalkFew w = (of number : ℕ) (here : Here) (s : Counters) → Spares 0 1 1 (w of number here s).parts

abbrev StateWalkFew : StateWalk → Type 0
StateWalkFew w = (of number : ℕ) (states : List ℕ) (here : Here) (s : Counters) → Spares 0 1 1 (w.walk of number states here s).parts

-- no definer is counted
before-definers : (p : Parts) (xs : List Given) → IsFew p → IsFew (joined p (some_definers xs))
before-definers p xs h = few-both p _ h (few-definers xs)

-- a block before what stands in it
in-block : (x : Block) (q : Parts) → IsFew q → Spares 0 1 1 (joined (one_block x) q)
in-block x q h = few-joined (one_block x) q 0 1 1 0 0 0 (few-block x) h

behind-few : (p q : Parts) → IsFew p → Spares 0 1 1 q → Spares 0 1 1 (joined p q)
behind-few p q h k = few-joined p q 0 0 0 0 1 1 h k

before-few : (p q : Parts) → Spares 0 1 1 p → IsFew q → Spares 0 1 1 (joined p q)
before-few p q h k = few-joined p q 0 1 1 0 0 0 h k

spared : (p : Parts) → Spares 0 1 1 p → IsFew p
spared p h = few-less p 0 1 1 h

module _ (base : ℕ) (names : List (List ℕ)) (i : Instance) (called : CallsFew i) where
  one-place : (b : Bool) (x : PlaceInfo) → IsFew (if b then one_place x else nothing)
  one-place true x = few-place x
  one-place false x = few-nothing

  name-few : (x : Name) → MakingFew (name_made base names i x)
  name-few x here s = one-place (is_first i.infos x) (place_here here (place_type (variable_of i.variables x.id)) x.id x.at)

  names-few : (xs : List Name) → MakingFew (names_made base names i xs)
  names-few [] here s = few-nothing
  names-few (x ∷ xs) here s = few-both _ _ (name-few x here s) (names-few xs here _)

  expr-makes-few : (x : Expr) (here : Here) (s : Counters) → IsFew (expr_walk base names i x here s).parts
  expr-makes-few x here s = expr-few base names i called x here s

  -- ---- conditions

  up-few : (x : Occ) (y : SiteInfo) (q : Parts) → IsFew q → Spares 1 0 0 (joined (one_occ x) (joined (one_site y) q))
  up-few x y q h = few-whole x _ (few-both (one_site y) q (few-site y) h)

  ups-few : (us : List Up) (here : Here) (s : Counters) → IsFew (test_all (map (up_walk base names i) us) here s).parts
  ups-few [] here s = few-nothing
  ups-few (u ∷ us) here s = few-both _ _ (few-less _ 1 0 0 (up-few _ _ _ (expr-makes-few u.arg here _))) (ups-few us here _)

  some-ups : (us : List Up) → 0 < length us → (here : Here) (s : Counters) → Spares 1 0 0 (test_all (map (up_walk base names i) us) here s).parts
  some-ups [] some here s = absurd (omega (arith, some))
  some-ups (u ∷ us) some here s = few-joined _ _ 1 0 0 0 0 0 (up-few _ _ _ (expr-makes-few u.arg here _)) (ups-few us here _)

  event-few : (us : List Up) → AllWritten (event_written us) → TestingFew (event_walk base names i us)
  event-few us w here s = few-hidden _ _ (some-ups us w.0 here (past_hidden s))

  cond-few : (z : Cond) → AllWritten (cond_written z) → TestingFew (cond_walk base names i z)
  cond-few (Event us) w here s = event-few us w here s
  cond-few (Test at x) w here s = expr-makes-few x here s

  start-few : (start : Option Expr) (here : Here) (s : Counters) → IsFew (start_made base names i (start_walk base names i start) here s).parts
  start-few None here s = few-nothing
  start-few (Some x) here s = expr-makes-few x here s

  resets-few : (rs : List ResetArm) → AllWritten (all_joined (map reset_arm_written rs)) → (here : Here) (s : Counters) → IsFew (resets_made base names i (map (reset_arm_walk base names i) rs) here s).parts
  resets-few [] w here s = few-nothing
  resets-few (r ∷ rs) w here s =
      let first = all-left IsWritten (reset_arm_written r) (all_joined (map reset_arm_written rs)) w in
      few-both _ _ (event-few r.event (all-left IsWritten (event_written r.event) (expr_written r.value) first) here s)
      (few-both _ _ (expr-makes-few r.value here _) (resets-few rs (all-right IsWritten (reset_arm_written r) (all_joined (map reset_arm_written rs)) w) here _))

  moves-few : (ms : List Move) → AllWritten (moves_written ms) → (guard body : ℕ) (states : List ℕ) (here : Here) (s : Counters) →
      IsFew (moves_made base names i (map (move_walk base names i) ms) guard body states here s).parts
  moves-few [] w guard body states here s = few-nothing
  moves-few (m ∷ ms) w guard body states here s =
      few-both _ _ (cond-few m.cond (all-left IsWritten (cond_written m.cond) (moves_written ms) w) (condition_place m.strong guard body here) s)
      (moves-few ms (all-right IsWritten (cond_written m.cond) (moves_written ms) w) guard body states here _)

  -- ---- equations

  abbrev pub EqnFew : Eqn → Type 0
  EqnFew e = AllWritten (eqn_written e) → MakingFew (eqn_walk base names i e)

  abbrev ArmFew : Arm → Type 0
  ArmFew a = AllWritten (arm_written a) → ArmWalkFew (arm_walk base names i a)

  abbrev BodyFew : Body → Type 0
  BodyFew b = AllWritten (body_written b) → MakingFew (body_walk base names i b)

  abbrev StateFew : State → Type 0
  StateFew s = AllWritten (state_written s) → StateWalkFew (one_state_walk base names i s)

  abbrev TheEqn : Type 0
  TheEqn = (e : Eqn) × EqnFew e

  abbrev TheArm : Type 0
  TheArm = (a : Arm) × ArmFew a

  abbrev TheBody : Type 0
  TheBody = (b : Body) × BodyFew b

  abbrev TheState : Type 0
  TheState = (s : State) × StateFew s

  abbrev bare_eqn : Eqn-F TheEqn TheArm TheBody TheState → Eqn-F Eqn Arm Body State
  bare_eqn x = map-Eqn TheEqn TheArm TheBody TheState Eqn Arm Body State (λ e. e.0) (λ a. a.0) (λ b. b.0) (λ s. s.0) x

  abbrev bare_arm : Arm-F TheEqn TheArm TheBody TheState → Arm-F Eqn Arm Body State
  bare_arm x = map-Arm TheEqn TheArm TheBody TheState Eqn Arm Body State (λ e. e.0) (λ a. a.0) (λ b. b.0) (λ s. s.0) x

  abbrev bare_body : Body-F TheEqn TheArm TheBody TheState → Body-F Eqn Arm Body State
  bare_body x = map-Body TheEqn TheArm TheBody TheState Eqn Arm Body State (λ e. e.0) (λ a. a.0) (λ b. b.0) (λ s. s.0) x

  abbrev bare_state : State-F TheEqn TheArm TheBody TheState → State-F Eqn Arm Body State
  bare_state x = map-State TheEqn TheArm TheBody TheState Eqn Arm Body State (λ e. e.0) (λ a. a.0) (λ b. b.0) (λ s. s.0) x

  eqs-few : (es : List TheEqn) → AllWritten (all_joined (map eqn_written (map (λ e. e.0) es))) → MakingFew (in_turn (map (eqn_walk base names i) (map (λ e. e.0) es)))
  eqs-few [] w here s = few-nothing
  eqs-few (e ∷ es) w here s =
      let rest = all_joined (map eqn_written (map (λ e. e.0) es)) in
      few-both _ _ (e.1 (all-left IsWritten (eqn_written e.0) rest w) here s) (eqs-few es (all-right IsWritten (eqn_written e.0) rest w) here _)

  arms-few : (es : List TheArm) → AllWritten (all_joined (map arm_written (map (λ e. e.0) es))) → (of number : ℕ) (here : Here) (s : Counters) → IsFew (arms_made (map (arm_walk base names i) (map (λ e. e.0) es)) of number here s).parts
  arms-few [] w of number here s = few-nothing
  arms-few (e ∷ es) w of number here s =
      let rest = all_joined (map arm_written (map (λ e. e.0) es)) in
      few-both _ _ (spared _ (e.1 (all-left IsWritten (arm_written e.0) rest w) of number here s)) (arms-few es (all-right IsWritten (arm_written e.0) rest w) of (number + 1) here _)

  -- some arms spare a choice
  some-arms : (es : List TheArm) → 0 < length (map arm_written (map (λ e. e.0) es)) → AllWritten (all_joined (map arm_written (map (λ e. e.0) es))) → (of number : ℕ) (here : Here) (s : Counters) →
      Spares 0 1 1 (arms_made (map (arm_walk base names i) (map (λ e. e.0) es)) of number here s).parts
  some-arms [] some w of number here s = absurd (omega (arith, some))
  some-arms (e ∷ es) some w of number here s =
      let rest = all_joined (map arm_written (map (λ e. e.0) es)) in
      before-few _ _ (e.1 (all-left IsWritten (arm_written e.0) rest w) of number here s) (arms-few es (all-right IsWritten (arm_written e.0) rest w) of (number + 1) here _)

  states-few : (es : List TheState) → AllWritten (all_joined (map state_written (map (λ e. e.0) es))) → (of number : ℕ) (all : List ℕ) (here : Here) (s : Counters) →
      IsFew (states_made (map (one_state_walk base names i) (map (λ e. e.0) es)) of number all here s).parts
  states-few [] w of number all here s = few-nothing
  states-few (e ∷ es) w of number all here s =
      let rest = all_joined (map state_written (map (λ e. e.0) es)) in
      few-both _ _ (spared _ (e.1 (all-left IsWritten (state_written e.0) rest w) of number all here s)) (states-few es (all-right IsWritten (state_written e.0) rest w) of (number + 1) all here _)

  -- some states spare an automaton
  some-states : (es : List TheState) → 0 < length (map state_written (map (λ e. e.0) es)) → AllWritten (all_joined (map state_written (map (λ e. e.0) es))) → (of number : ℕ) (all : List ℕ) (here : Here) (s : Counters) →
      Spares 0 1 1 (states_made (map (one_state_walk base names i) (map (λ e. e.0) es)) of number all here s).parts
  some-states [] some w of number all here s = absurd (omega (arith, some))
  some-states (e ∷ es) some w of number all here s =
      let rest = all_joined (map state_written (map (λ e. e.0) es)) in
      before-few _ _ (e.1 (all-left IsWritten (state_written e.0) rest w) of number all here s) (states-few es (all-right IsWritten (state_written e.0) rest w) of (number + 1) all here _)

  eqn-layer : (e : Eqn-F TheEqn TheArm TheBody TheState) →
      AllWritten (grammar.eqn_step (map-Eqn Eqn Arm Body State (List Written) (List Written) (List Written) (List Written) eqn_written arm_written body_written state_written (bare_eqn e))) →
      MakingFew (make.eqn_step base names i (map-Eqn Eqn Arm Body State Making ArmWalk Making StateWalk (eqn_walk base names i) (arm_walk base names i) (body_walk base names i) (one_state_walk base names i) (bare_eqn e)))
  eqn-layer (open_eqn.Plain left right) w here s = few-both _ _ (names-few left (in_body i here) s) (before-definers _ _ (expr-makes-few right here _))
  eqn-layer (open_eqn.Der at x slope start resets) w here s =
      let written = all-right IsWritten (expr_written slope) (start_written start ++ all_joined (map reset_arm_written resets)) w in
      few-both _ _ (name-few x (in_body i here) s)
      (few-both _ _ (expr-makes-few slope here _)
      (few-both _ _ (start-few start here _)
      (before-definers _ _ (resets-few resets (all-right IsWritten (start_written start) (all_joined (map reset_arm_written resets)) written) here _))))
  eqn-layer (open_eqn.Start at x value) w here s = few-both _ _ (name-few x (in_body i here) s) (before-definers _ _ (expr-makes-few value here _))
  eqn-layer (open_eqn.Present at arms None) w here s =
      few-choice _ _ (before-few _ _ (some-arms arms w.0 (all-left IsWritten (all_joined (map arm_written (map (λ a. a.0) arms))) [] w.1) s.choices 0 here (past_choice s)) few-nothing)
  eqn-layer (open_eqn.Present at arms (Some b)) w here s =
      let written = all_joined (map arm_written (map (λ a. a.0) arms)) in
      few-choice _ _
      (before-few _ _ (some-arms arms w.0 (all-left IsWritten written (body_written b.0) w.1) s.choices 0 here (past_choice s))
      (spared _ (in-block _ _ (b.1 (all-right IsWritten written (body_written b.0) w.1) _ _))))
  eqn-layer (open_eqn.Automaton at states) w here s = few-automaton _ _ (some-states states w.0 w.1 s.automata 0 _ here (past_automaton s))
  eqn-layer (open_eqn.Reset at eqs z) w here s =
      let written = all_joined (map eqn_written (map (λ e. e.0) eqs)) in
      spared _ (in-block _ _ (few-both _ _ (eqs-few eqs (all-left IsWritten written (cond_written z) w) (in_block s.blocks here.hybrid here) (past_block s)) (cond-few z (all-right IsWritten written (cond_written z) w) here _)))

  arm-layer : (a : Arm-F TheEqn TheArm TheBody TheState) →
      AllWritten (grammar.arm_step (map-Arm Eqn Arm Body State (List Written) (List Written) (List Written) (List Written) eqn_written arm_written body_written state_written (bare_arm a))) →
      ArmWalkFew (make.arm_step base names i (map-Arm Eqn Arm Body State Making ArmWalk Making StateWalk (eqn_walk base names i) (arm_walk base names i) (body_walk base names i) (one_state_walk base names i) (bare_arm a)))
  arm-layer a w of number here s =
      let written = body_written a.body.0 in
      behind-few _ _ (cond-few a.cond (all-left IsWritten (cond_written a.cond) written w) here s) (in-block _ _ (a.body.1 (all-right IsWritten (cond_written a.cond) written w) _ _))

  body-layer : (b : Body-F TheEqn TheArm TheBody TheState) →
      AllWritten (grammar.body_step (map-Body Eqn Arm Body State (List Written) (List Written) (List Written) (List Written) eqn_written arm_written body_written state_written (bare_body b))) →
      MakingFew (make.body_step base names i (map-Body Eqn Arm Body State Making ArmWalk Making StateWalk (eqn_walk base names i) (arm_walk base names i) (body_walk base names i) (one_state_walk base names i) (bare_body b)))
  body-layer b w here s = few-both _ _ (names-few b.locals here s) (eqs-few b.eqs w here _)

  state-layer : (s : State-F TheEqn TheArm TheBody TheState) →
      AllWritten (grammar.state_step (map-State Eqn Arm Body State (List Written) (List Written) (List Written) (List Written) eqn_written arm_written body_written state_written (bare_state s))) →
      StateWalkFew (make.state_step base names i (map-State Eqn Arm Body State Making ArmWalk Making StateWalk (eqn_walk base names i) (arm_walk base names i) (body_walk base names i) (one_state_walk base names i) (bare_state s)))
  state-layer s w of number states here t =
      let written = body_written s.body.0 in
      in-block _ _ (spared _ (in-block _ _ (few-both _ _ (s.body.1 (all-left IsWritten written (moves_written s.moves) w) _ _) (moves-few s.moves (all-right IsWritten written (moves_written s.moves) w) _ _ _ here _))))

  eqn-case : (x : Eqn-F Eqn Arm Body State) (y : Eqn-F TheEqn TheArm TheBody TheState) → bare_eqn y ≡ x → EqnFew (roll-Eqn x)
  unfolding eqn_walk arm_walk body_walk one_state_walk eqn_written arm_written body_written state_written
  eqn-case x y is =
      subst (λ z. EqnFew (roll-Eqn z)) is
      (λ w.
      subst MakingFew (sym (fold-roll-Eqn Making ArmWalk Making StateWalk (make.eqn_step base names i) (make.arm_step base names i) (make.body_step base names i) (make.state_step base names i) (bare_eqn y)))
      (eqn-layer y (subst AllWritten (fold-roll-Eqn (List Written) (List Written) (List Written) (List Written) grammar.eqn_step grammar.arm_step grammar.body_step grammar.state_step (bare_eqn y)) w)))

  arm-case : (x : Arm-F Eqn Arm Body State) (y : Arm-F TheEqn TheArm TheBody TheState) → bare_arm y ≡ x → ArmFew (roll-Arm x)
  unfolding eqn_walk arm_walk body_walk one_state_walk eqn_written arm_written body_written state_written
  arm-case x y is =
      subst (λ z. ArmFew (roll-Arm z)) is
      (λ w.
      subst ArmWalkFew (sym (fold-roll-Arm Making ArmWalk Making StateWalk (make.eqn_step base names i) (make.arm_step base names i) (make.body_step base names i) (make.state_step base names i) (bare_arm y)))
      (arm-layer y (subst AllWritten (fold-roll-Arm (List Written) (List Written) (List Written) (List Written) grammar.eqn_step grammar.arm_step grammar.body_step grammar.state_step (bare_arm y)) w)))

  body-case : (x : Body-F Eqn Arm Body State) (y : Body-F TheEqn TheArm TheBody TheState) → bare_body y ≡ x → BodyFew (roll-Body x)
  unfolding eqn_walk arm_walk body_walk one_state_walk eqn_written arm_written body_written state_written
  body-case x y is =
      subst (λ z. BodyFew (roll-Body z)) is
      (λ w.
      subst MakingFew (sym (fold-roll-Body Making ArmWalk Making StateWalk (make.eqn_step base names i) (make.arm_step base names i) (make.body_step base names i) (make.state_step base names i) (bare_body y)))
      (body-layer y (subst AllWritten (fold-roll-Body (List Written) (List Written) (List Written) (List Written) grammar.eqn_step grammar.arm_step grammar.body_step grammar.state_step (bare_body y)) w)))

  state-case : (x : State-F Eqn Arm Body State) (y : State-F TheEqn TheArm TheBody TheState) → bare_state y ≡ x → StateFew (roll-State x)
  unfolding eqn_walk arm_walk body_walk one_state_walk eqn_written arm_written body_written state_written
  state-case x y is =
      subst (λ z. StateFew (roll-State z)) is
      (λ w.
      subst StateWalkFew (sym (fold-roll-State Making ArmWalk Making StateWalk (make.eqn_step base names i) (make.arm_step base names i) (make.body_step base names i) (make.state_step base names i) (bare_state y)))
      (state-layer y (subst AllWritten (fold-roll-State (List Written) (List Written) (List Written) (List Written) grammar.eqn_step grammar.arm_step grammar.body_step grammar.state_step (bare_state y)) w)))

  -- the walk of an equation makes few
  pub eqn-few : (e : Eqn) → EqnFew e
  eqn-few = ind-Eqn EqnFew ArmFew BodyFew StateFew eqn-case arm-case body-case state-case
