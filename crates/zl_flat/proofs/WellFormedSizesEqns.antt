-- What the walk of an equation makes is as many as its size says.
use Rattle.std.proofs.Common.{◌≡◌, ℕ, ◌+◌, Bool, true, false, if◌then◌else◌, List, [], ◌∷◌, map, Option, Some, None, sym, subst}
use Rattle.zl_ast.specs.declared.name.Name.{Name}
use Rattle.zl_ast.specs.declared.expr.Expr.{Expr}
use Rattle.zl_ast.specs.declared.eqn.Eqn.{Eqn, roll-Eqn}
use Rattle.zl_ast.specs.declared.eqn.Arm.{Arm, roll-Arm}
use Rattle.zl_ast.specs.declared.eqn.Body.{Body, roll-Body}
use Rattle.zl_ast.specs.declared.eqn.State.{State, roll-State}
use Rattle.zl_ast.specs.declared.eqn.Cond.{Cond}
use Rattle.zl_ast.specs.declared.eqn.Cond.TheVariants.{Event, Test}
use Rattle.zl_ast.specs.declared.eqn.Up.{Up}
use Rattle.zl_ast.specs.declared.eqn.ResetArm.{ResetArm}
use Rattle.zl_ast.specs.declared.eqn.Move.{Move}
use Rattle.zl_ast.specs.declared.eqn.Eqn.TheOpen.{Eqn-F, Arm-F, Body-F, State-F}
use Rattle.zl_ast.specs.declared.eqn.Eqn.TheOpen as open_eqn
use Rattle.zl_ast.specs.declared.eqn.Eqn.TheFolds.{fold-roll-Eqn, fold-roll-Arm, fold-roll-Body, fold-roll-State, ind-Eqn, ind-Arm, ind-Body, ind-State, map-Eqn, map-Arm, map-Body, map-State}
use Rattle.zl_meaning.specs.declared.place.PlaceInfo.{PlaceInfo}
use Rattle.zl_flat.specs.declared.here.Here.{Here}
use Rattle.zl_flat.specs.declared.size.Size.{Size}
use Rattle.zl_flat.specs.declared.given.Given.{Given}
use Rattle.zl_flat.specs.Parts.{Parts, Counters, nothing, joined, one_place, some_definers, past_block, past_hidden, past_choice, past_automaton}
use Rattle.zl_flat.specs.Variables.{variable_of, is_first}
use Rattle.zl_flat.specs.Sizes as sizes
use Rattle.zl_flat.specs.Sizes.{none, plus, total, a_place, a_block, expr_size, up_size, ups_size, cond_size, start_size, reset_arm_size, move_size, name_size, names_size, other_size, eqn_size, arm_size, body_size, state_size}
use Rattle.zl_flat.specs.Instances.{Instance, in_body, in_block, place_here}
use Rattle.zl_flat.specs.Equations as make
use Rattle.zl_flat.specs.Equations.{Making, in_turn, Testing, test_all, place_type, ArmWalk, arms_made, StateWalk, states_made, body_of_choice, condition_place, name_made, names_made, up_walk, event_walk, cond_walk, reset_arm_walk, start_walk, start_made, resets_made, other_made, moves_made, move_walk, eqn_walk, arm_walk, body_walk, one_state_walk}
use Rattle.zl_flat.proofs.PartsLaws.{joined-assoc}
use Rattle.zl_flat.proofs.WellFormedSizes.{AsMany, many-nothing, many-joined, many-place, many-block, many-up, many-hidden, many-choice, many-automaton, many-some_definers, plus-none, IsSized, expr-makes}

-- what these make anywhere is as many as this size says
abbrev pub MakingMakes : Making → Size → Type 0
MakingMakes m z = (here : Here) (s : Counters) → AsMany (m here s) z

abbrev pub TestingMakes : Testing → Size → Type 0
TestingMakes t z = (here : Here) (s : Counters) → AsMany (t here s).parts z

abbrev pub ArmWalkMakes : ArmWalk → Size → Type 0
ArmWalkMakes w z = (of number : ℕ) (here : Here) (s : Counters) → AsMany (w of number here s).parts z

abbrev pub StateWalkMakes : StateWalk → Size → Type 0
StateWalkMakes w z = (of number : ℕ) (states : List ℕ) (here : Here) (s : Counters) → AsMany (w.walk of number states here s).parts z

-- definers behind parts are not counted
pub before-definers : (p : Parts) (xs : List Given) (z : Size) → AsMany p z → AsMany (joined p (some_definers xs)) z
before-definers p xs z h = subst (AsMany (joined p (some_definers xs))) (plus-none z) (many-joined p (some_definers xs) z none h (many-some_definers xs))

many-three : (p q r : Parts) (x y z : Size) → AsMany p x → AsMany q y → AsMany r z → AsMany (joined p (joined q r)) (plus (plus x y) z)
many-three p q r x y z a b c = subst (λ t. AsMany t (plus (plus x y) z)) (joined-assoc p q r) (many-joined (joined p q) r (plus x y) z (many-joined p q x y a b) c)

module _ (base : ℕ) (names : List (List ℕ)) (i : Instance) (known : ℕ → Option Size) where
  place-makes : (b : Bool) (x : PlaceInfo) → AsMany (if b then one_place x else nothing) (if b then a_place else none)
  place-makes true x = many-place x
  place-makes false x = many-nothing

  -- a name makes one place where it is the first of its variable
  pub name-makes : (x : Name) → MakingMakes (name_made base names i x) (name_size i.infos known x)
  name-makes x here s = place-makes (is_first i.infos x) (place_here here (place_type (variable_of i.variables x.id)) x.id x.at)

  pub names-make : (xs : List Name) → MakingMakes (names_made base names i xs) (names_size i.infos known xs)
  names-make [] here s = many-nothing
  names-make (x ∷ xs) here s = many-joined _ _ _ _ (name-makes x here s) (names-make xs here _)

  module _ (sized : IsSized names i known) where
    -- ---- conditions

    ups-make : (us : List Up) (here : Here) (s : Counters) → AsMany (test_all (map (up_walk base names i) us) here s).parts (ups_size i.infos known us)
    ups-make [] here s = many-nothing
    ups-make (u ∷ us) here s = many-joined _ _ _ _ (many-up _ _ _ _ (expr-makes base names i known sized u.arg here _)) (ups-make us here _)

    event-makes : (us : List Up) → TestingMakes (event_walk base names i us) (ups_size i.infos known us)
    event-makes us here s = many-hidden _ _ _ (ups-make us here (past_hidden s))

    -- a condition makes as many as its size says
    pub cond-makes : (z : Cond) → TestingMakes (cond_walk base names i z) (cond_size i.infos known z)
    cond-makes (Event us) here s = event-makes us here s
    cond-makes (Test at x) here s = expr-makes base names i known sized x here s

    start-makes : (start : Option Expr) (here : Here) (s : Counters) → AsMany (start_made base names i (start_walk base names i start) here s).parts (start_size i.infos known start)
    start-makes None here s = many-nothing
    start-makes (Some x) here s = expr-makes base names i known sized x here s

    resets-make : (rs : List ResetArm) (here : Here) (s : Counters) → AsMany (resets_made base names i (map (reset_arm_walk base names i) rs) here s).parts (total (map (reset_arm_size i.infos known) rs))
    resets-make [] here s = many-nothing
    resets-make (r ∷ rs) here s = many-three _ _ _ _ _ _ (event-makes r.event here s) (expr-makes base names i known sized r.value here _) (resets-make rs here _)

    moves-make : (ms : List Move) (guard body : ℕ) (states : List ℕ) (here : Here) (s : Counters) →
        AsMany (moves_made base names i (map (move_walk base names i) ms) guard body states here s).parts (total (map (move_size i.infos known) ms))
    moves-make [] guard body states here s = many-nothing
    moves-make (m ∷ ms) guard body states here s = many-joined _ _ _ _ (cond-makes m.cond (condition_place m.strong guard body here) s) (moves-make ms guard body states here _)

    -- ---- equations

    abbrev pub EqnMakes : Eqn → Type 0
    EqnMakes e = MakingMakes (eqn_walk base names i e) (eqn_size i.infos known e)

    abbrev pub ArmMakes : Arm → Type 0
    ArmMakes a = ArmWalkMakes (arm_walk base names i a) (arm_size i.infos known a)

    abbrev pub BodyMakes : Body → Type 0
    BodyMakes b = MakingMakes (body_walk base names i b) (body_size i.infos known b)

    abbrev pub StateMakes : State → Type 0
    StateMakes s = StateWalkMakes (one_state_walk base names i s) (state_size i.infos known s)

    abbrev TheEqn : Type 0
    TheEqn = (e : Eqn) × EqnMakes e

    abbrev TheArm : Type 0
    TheArm = (a : Arm) × ArmMakes a

    abbrev TheBody : Type 0
    TheBody = (b : Body) × BodyMakes b

    abbrev TheState : Type 0
    TheState = (s : State) × StateMakes s

    eqs-make : (es : List TheEqn) → MakingMakes (in_turn (map (eqn_walk base names i) (map (λ e. e.0) es))) (total (map (eqn_size i.infos known) (map (λ e. e.0) es)))
    eqs-make [] here s = many-nothing
    eqs-make (e ∷ es) here s = many-joined _ _ _ _ (e.1 here s) (eqs-make es here _)

    arms-make : (es : List TheArm) (of number : ℕ) (here : Here) (s : Counters) → AsMany (arms_made (map (arm_walk base names i) (map (λ e. e.0) es)) of number here s).parts (total (map (arm_size i.infos known) (map (λ e. e.0) es)))
    arms-make [] of number here s = many-nothing
    arms-make (e ∷ es) of number here s = many-joined _ _ _ _ (e.1 of number here s) (arms-make es of (number + 1) here _)

    states-make : (es : List TheState) (of number : ℕ) (all : List ℕ) (here : Here) (s : Counters) →
        AsMany (states_made (map (one_state_walk base names i) (map (λ e. e.0) es)) of number all here s).parts (total (map (state_size i.infos known) (map (λ e. e.0) es)))
    states-make [] of number all here s = many-nothing
    states-make (e ∷ es) of number all here s = many-joined _ _ _ _ (e.1 of number all here s) (states-make es of (number + 1) all here _)

    eqn-layer : (e : Eqn-F TheEqn TheArm TheBody TheState) →
        MakingMakes (make.eqn_step base names i (map-Eqn Eqn Arm Body State Making ArmWalk Making StateWalk (eqn_walk base names i) (arm_walk base names i) (body_walk base names i) (one_state_walk base names i) (map-Eqn TheEqn TheArm TheBody TheState Eqn Arm Body State (λ e. e.0) (λ a. a.0) (λ b. b.0) (λ s. s.0) e)))
        (sizes.eqn_step i.infos known (map-Eqn Eqn Arm Body State Size Size Size Size (eqn_size i.infos known) (arm_size i.infos known) (body_size i.infos known) (state_size i.infos known) (map-Eqn TheEqn TheArm TheBody TheState Eqn Arm Body State (λ e. e.0) (λ a. a.0) (λ b. b.0) (λ s. s.0) e)))
    eqn-layer (open_eqn.Plain left right) here s = many-joined _ _ _ _ (names-make left (in_body i here) s) (before-definers _ _ _ (expr-makes base names i known sized right here _))
    eqn-layer (open_eqn.Der at x slope start resets) here s =
        many-joined _ _ _ _ (name-makes x (in_body i here) s)
        (many-joined _ _ _ _ (expr-makes base names i known sized slope here _)
        (many-joined _ _ _ _ (start-makes start here _)
        (before-definers _ _ _ (resets-make resets here _))))
    eqn-layer (open_eqn.Start at x value) here s = many-joined _ _ _ _ (name-makes x (in_body i here) s) (before-definers _ _ _ (expr-makes base names i known sized value here _))
    eqn-layer (open_eqn.Present at arms None) here s = many-choice _ _ _ (many-joined _ _ _ _ (arms-make arms s.choices 0 here (past_choice s)) many-nothing)
    eqn-layer (open_eqn.Present at arms (Some b)) here s =
        many-choice _ _ _
        (many-joined _ _ _ _ (arms-make arms s.choices 0 here (past_choice s))
        (many-joined _ _ _ _ (many-block _) (b.1 _ _)))
    eqn-layer (open_eqn.Automaton at states) here s = many-automaton _ _ _ (states-make states s.automata 0 _ here (past_automaton s))
    eqn-layer (open_eqn.Reset at eqs z) here s = many-joined _ _ _ _ (many-block _) (many-joined _ _ _ _ (eqs-make eqs (in_block s.blocks here.hybrid here) (past_block s)) (cond-makes z here _))

    arm-layer : (a : Arm-F TheEqn TheArm TheBody TheState) →
        ArmWalkMakes (make.arm_step base names i (map-Arm Eqn Arm Body State Making ArmWalk Making StateWalk (eqn_walk base names i) (arm_walk base names i) (body_walk base names i) (one_state_walk base names i) (map-Arm TheEqn TheArm TheBody TheState Eqn Arm Body State (λ e. e.0) (λ a. a.0) (λ b. b.0) (λ s. s.0) a)))
        (sizes.arm_step i.infos known (map-Arm Eqn Arm Body State Size Size Size Size (eqn_size i.infos known) (arm_size i.infos known) (body_size i.infos known) (state_size i.infos known) (map-Arm TheEqn TheArm TheBody TheState Eqn Arm Body State (λ e. e.0) (λ a. a.0) (λ b. b.0) (λ s. s.0) a)))
    arm-layer a of number here s = many-joined _ _ _ _ (cond-makes a.cond here s) (many-joined _ _ _ _ (many-block _) (a.body.1 _ _))

    body-layer : (b : Body-F TheEqn TheArm TheBody TheState) →
        MakingMakes (make.body_step base names i (map-Body Eqn Arm Body State Making ArmWalk Making StateWalk (eqn_walk base names i) (arm_walk base names i) (body_walk base names i) (one_state_walk base names i) (map-Body TheEqn TheArm TheBody TheState Eqn Arm Body State (λ e. e.0) (λ a. a.0) (λ b. b.0) (λ s. s.0) b)))
        (sizes.body_step i.infos known (map-Body Eqn Arm Body State Size Size Size Size (eqn_size i.infos known) (arm_size i.infos known) (body_size i.infos known) (state_size i.infos known) (map-Body TheEqn TheArm TheBody TheState Eqn Arm Body State (λ e. e.0) (λ a. a.0) (λ b. b.0) (λ s. s.0) b)))
    body-layer b here s = many-joined _ _ _ _ (names-make b.locals here s) (eqs-make b.eqs here _)

    state-layer : (s : State-F TheEqn TheArm TheBody TheState) →
        StateWalkMakes (make.state_step base names i (map-State Eqn Arm Body State Making ArmWalk Making StateWalk (eqn_walk base names i) (arm_walk base names i) (body_walk base names i) (one_state_walk base names i) (map-State TheEqn TheArm TheBody TheState Eqn Arm Body State (λ e. e.0) (λ a. a.0) (λ b. b.0) (λ s. s.0) s)))
        (sizes.state_step i.infos known (map-State Eqn Arm Body State Size Size Size Size (eqn_size i.infos known) (arm_size i.infos known) (body_size i.infos known) (state_size i.infos known) (map-State TheEqn TheArm TheBody TheState Eqn Arm Body State (λ e. e.0) (λ a. a.0) (λ b. b.0) (λ s. s.0) s)))
    state-layer s of number states here t = many-joined _ _ _ _ (many-block _) (many-joined _ _ _ _ (many-block _) (many-joined _ _ _ _ (s.body.1 _ _) (moves-make s.moves _ _ _ here _)))

    eqn-case : (x : Eqn-F Eqn Arm Body State) (y : Eqn-F TheEqn TheArm TheBody TheState) → map-Eqn TheEqn TheArm TheBody TheState Eqn Arm Body State (λ e. e.0) (λ a. a.0) (λ b. b.0) (λ s. s.0) y ≡ x → EqnMakes (roll-Eqn x)
    unfolding eqn_walk arm_walk body_walk one_state_walk eqn_size arm_size body_size state_size
    eqn-case x y is =
        let step = map-Eqn TheEqn TheArm TheBody TheState Eqn Arm Body State (λ e. e.0) (λ a. a.0) (λ b. b.0) (λ s. s.0) y in
        subst (λ z. EqnMakes (roll-Eqn z)) is
        (subst (λ w. MakingMakes w (eqn_size i.infos known (roll-Eqn step))) (sym (fold-roll-Eqn Making ArmWalk Making StateWalk (make.eqn_step base names i) (make.arm_step base names i) (make.body_step base names i) (make.state_step base names i) step))
        (subst (MakingMakes (make.eqn_step base names i (map-Eqn Eqn Arm Body State Making ArmWalk Making StateWalk (eqn_walk base names i) (arm_walk base names i) (body_walk base names i) (one_state_walk base names i) step)))
        (sym (fold-roll-Eqn Size Size Size Size (sizes.eqn_step i.infos known) (sizes.arm_step i.infos known) (sizes.body_step i.infos known) (sizes.state_step i.infos known) step))
        (eqn-layer y)))

    arm-case : (x : Arm-F Eqn Arm Body State) (y : Arm-F TheEqn TheArm TheBody TheState) → map-Arm TheEqn TheArm TheBody TheState Eqn Arm Body State (λ e. e.0) (λ a. a.0) (λ b. b.0) (λ s. s.0) y ≡ x → ArmMakes (roll-Arm x)
    unfolding eqn_walk arm_walk body_walk one_state_walk eqn_size arm_size body_size state_size
    arm-case x y is =
        let step = map-Arm TheEqn TheArm TheBody TheState Eqn Arm Body State (λ e. e.0) (λ a. a.0) (λ b. b.0) (λ s. s.0) y in
        subst (λ z. ArmMakes (roll-Arm z)) is
        (subst (λ w. ArmWalkMakes w (arm_size i.infos known (roll-Arm step))) (sym (fold-roll-Arm Making ArmWalk Making StateWalk (make.eqn_step base names i) (make.arm_step base names i) (make.body_step base names i) (make.state_step base names i) step))
        (subst (ArmWalkMakes (make.arm_step base names i (map-Arm Eqn Arm Body State Making ArmWalk Making StateWalk (eqn_walk base names i) (arm_walk base names i) (body_walk base names i) (one_state_walk base names i) step)))
        (sym (fold-roll-Arm Size Size Size Size (sizes.eqn_step i.infos known) (sizes.arm_step i.infos known) (sizes.body_step i.infos known) (sizes.state_step i.infos known) step))
        (arm-layer y)))

    body-case : (x : Body-F Eqn Arm Body State) (y : Body-F TheEqn TheArm TheBody TheState) → map-Body TheEqn TheArm TheBody TheState Eqn Arm Body State (λ e. e.0) (λ a. a.0) (λ b. b.0) (λ s. s.0) y ≡ x → BodyMakes (roll-Body x)
    unfolding eqn_walk arm_walk body_walk one_state_walk eqn_size arm_size body_size state_size
    body-case x y is =
        let step = map-Body TheEqn TheArm TheBody TheState Eqn Arm Body State (λ e. e.0) (λ a. a.0) (λ b. b.0) (λ s. s.0) y in
        subst (λ z. BodyMakes (roll-Body z)) is
        (subst (λ w. MakingMakes w (body_size i.infos known (roll-Body step))) (sym (fold-roll-Body Making ArmWalk Making StateWalk (make.eqn_step base names i) (make.arm_step base names i) (make.body_step base names i) (make.state_step base names i) step))
        (subst (MakingMakes (make.body_step base names i (map-Body Eqn Arm Body State Making ArmWalk Making StateWalk (eqn_walk base names i) (arm_walk base names i) (body_walk base names i) (one_state_walk base names i) step)))
        (sym (fold-roll-Body Size Size Size Size (sizes.eqn_step i.infos known) (sizes.arm_step i.infos known) (sizes.body_step i.infos known) (sizes.state_step i.infos known) step))
        (body-layer y)))

    state-case : (x : State-F Eqn Arm Body State) (y : State-F TheEqn TheArm TheBody TheState) → map-State TheEqn TheArm TheBody TheState Eqn Arm Body State (λ e. e.0) (λ a. a.0) (λ b. b.0) (λ s. s.0) y ≡ x → StateMakes (roll-State x)
    unfolding eqn_walk arm_walk body_walk one_state_walk eqn_size arm_size body_size state_size
    state-case x y is =
        let step = map-State TheEqn TheArm TheBody TheState Eqn Arm Body State (λ e. e.0) (λ a. a.0) (λ b. b.0) (λ s. s.0) y in
        subst (λ z. StateMakes (roll-State z)) is
        (subst (λ w. StateWalkMakes w (state_size i.infos known (roll-State step))) (sym (fold-roll-State Making ArmWalk Making StateWalk (make.eqn_step base names i) (make.arm_step base names i) (make.body_step base names i) (make.state_step base names i) step))
        (subst (StateWalkMakes (make.state_step base names i (map-State Eqn Arm Body State Making ArmWalk Making StateWalk (eqn_walk base names i) (arm_walk base names i) (body_walk base names i) (one_state_walk base names i) step)))
        (sym (fold-roll-State Size Size Size Size (sizes.eqn_step i.infos known) (sizes.arm_step i.infos known) (sizes.body_step i.infos known) (sizes.state_step i.infos known) step))
        (state-layer y)))

    -- the walks of an equation, an arm, a body and a state make as many as their sizes say
    pub eqn-makes : (e : Eqn) → EqnMakes e
    eqn-makes = ind-Eqn EqnMakes ArmMakes BodyMakes StateMakes eqn-case arm-case body-case state-case

    pub arm-makes : (a : Arm) → ArmMakes a
    arm-makes = ind-Arm EqnMakes ArmMakes BodyMakes StateMakes eqn-case arm-case body-case state-case

    pub body-makes : (b : Body) → BodyMakes b
    body-makes = ind-Body EqnMakes ArmMakes BodyMakes StateMakes eqn-case arm-case body-case state-case

    pub state-makes : (s : State) → StateMakes s
    state-makes = ind-State EqnMakes ArmMakes BodyMakes StateMakes eqn-case arm-case body-case state-case
