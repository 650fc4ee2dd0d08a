-- Depths for what the walk of equations makes.
use Rattle.std.proofs.Common.{ℕ, ◌+◌, ◌<◌, ◌≤◌, Bool, true, false, if◌then◌else◌, List, [], ◌∷◌, map, length, Option, Some, None, arith}
use Rattle.std.specs.List.{AllByRecursion}
use Rattle.zl_value.specs.declared.position.Pos.{Pos}
use Rattle.zl_value.specs.declared.value.Ty.TheVariants.{Bool as BoolTy, Zero}
use Rattle.zl_ast.specs.declared.name.Name.{Name}
use Rattle.zl_meaning.specs.declared.place.PlaceInfo.{PlaceInfo}
use Rattle.zl_meaning.specs.declared.occurrence.Form.TheVariants.{Up as UpOf, Fired}
use Rattle.zl_flat.specs.declared.here.Here.{Here}
use Rattle.zl_flat.specs.Parts.{Counters, nothing, one_place, after, past_block, past_occ, past_hidden, past_site, past_choice, past_automaton}
use Rattle.zl_flat.specs.Variables.{variable_of, is_first}
use Rattle.zl_flat.specs.Instances.{Instance, in_body, in_block, place_here}
use Rattle.zl_flat.specs.Expressions.{Walk}
use Rattle.zl_flat.specs.Equations.{Making, in_turn, Testing, test_all, place_type, StateWalk, states_made, state_names, ArmWalk, arms_made, body_of_choice, ResetWalk, MoveWalk, condition_place, name_made, names_made, crossing, event, tested, plain, resets_made, start_made, der, init, other_made, present, automaton, reset, moves_made, state_made, arm_made, body_made}
use Rattle.zl_flat.proofs.UsesEqnTrees.{EqnKinds, OfStart, OfOther, OfReset, OfMove}
use Rattle.zl_flat.proofs.WellFormedHeights.{Depths, Nothing, asking, giving, in-turn, one-and-other, nothing-depths, place-depths, definers-depths, occ-before, hidden-before, block-before, site-before, choice-before, automaton-before}
use Rattle.zl_flat.proofs.WellFormedHeightsExprs.{Below, below-next, lies-deep, WalkDepths, deep_exprs}

-- these occurrences lie at this depth, or deeper
abbrev pub TestsLie : ℕ → List ℕ → (ℕ → ℕ) → Type 0
TestsLie d ks depth = AllByRecursion (λ k. d ≤ depth k) ks

module _ (base : ℕ) where
  -- what is made has depths from each depth on that lies below the call
  abbrev pub MakingDepths : Making → Type 0
  MakingDepths m = (here : Here) (s : Counters) (d : ℕ) → Depths base s (m here s) (Below here d) Nothing

  -- a condition lies at the depth of its walk, or deeper
  abbrev pub TestingDepths : Testing → Type 0
  TestingDepths t = (here : Here) (s : Counters) (d : ℕ) → Depths base s (t here s).parts (Below here d) (λ depth. d ≤ depth (t here s).test)

  -- so for arms of a choice and states of an automaton
  abbrev pub ArmWalkDepths : ArmWalk → Type 0
  ArmWalkDepths w = (of number : ℕ) (here : Here) (s : Counters) (d : ℕ) → Depths base s (w of number here s).parts (Below here d) Nothing

  abbrev pub StateWalkDepths : StateWalk → Type 0
  StateWalkDepths w = (of number : ℕ) (states : List ℕ) (here : Here) (s : Counters) (d : ℕ) → Depths base s (w.walk of number states here s).parts (Below here d) Nothing

  abbrev pub deep : EqnKinds
  deep = record {
    exprs = deep_exprs base;
    made = λ here s p. (d : ℕ) → Depths base s p (Below here d) Nothing;
    tested = λ here s t. (d : ℕ) → Depths base s t.parts (Below here d) (λ depth. d ≤ depth t.test);
    crossed = λ here s t. (d : ℕ) → Depths base s t.parts (Below here d) (λ depth. d ≤ depth t.test);
    armed = λ of number here s t. (d : ℕ) → Depths base s t.parts (Below here d) Nothing;
    stated = λ of number states here s m. (d : ℕ) → Depths base s m.parts (Below here d) Nothing;
  }

  -- ---- one behind the other

  -- what is made one behind the other
  pub in_turn-depths : (ms : List Making) → AllByRecursion MakingDepths ms → MakingDepths (in_turn ms)
  in_turn-depths [] hs here s d = nothing-depths base s (Below here d)
  in_turn-depths (m ∷ ms) hs here s d = one-and-other base (hs.0 here s d) (in_turn-depths ms hs.1 here (after s (m here s)) d)

  test_all-depths : (ts : List Testing) → AllByRecursion TestingDepths ts → (here : Here) (s : Counters) (d : ℕ) → Depths base s (test_all ts here s).parts (Below here d) (TestsLie d (test_all ts here s).tests)
  test_all-depths [] hs here s d = nothing-depths base s (Below here d)
  test_all-depths (t ∷ ts) hs here s d =
      giving base (λ depth a g. (g.first, g.second))
      (in-turn base (hs.0 here s d) (asking base (λ depth a. a.first) (test_all-depths ts hs.1 here (after s (t here s).parts) d)))

  place_or_nothing : (b : Bool) (x : PlaceInfo) (s : Counters) (A : (ℕ → ℕ) → Type 0) → Depths base s (if b then one_place x else nothing) A Nothing
  place_or_nothing true x s A = place-depths base s x A
  place_or_nothing false x s A = nothing-depths base s A

  -- what lies deeper than this depth
  tests-deeper : (d : ℕ) (depth : ℕ → ℕ) (ks : List ℕ) → TestsLie (d + 1) ks depth → AllByRecursion (λ k. d < depth k) ks
  tests-deeper d depth [] h = tt
  tests-deeper d depth (k ∷ ks) h = let le = h.0 in (omega (arith, le), tests-deeper d depth ks h.1)

  module _ (names : List (List ℕ)) (i : Instance) where
    name-depths : (x : Name) → MakingDepths (name_made base names i x)
    name-depths x here s d = place_or_nothing (is_first i.infos x) (place_here here (place_type (variable_of i.variables x.id)) x.id x.at) s (Below here d)

    all-names : (xs : List Name) → AllByRecursion MakingDepths (map (name_made base names i) xs)
    all-names [] = tt
    all-names (x ∷ xs) = (name-depths x, all-names xs)

    names-depths : (xs : List Name) → MakingDepths (names_made base names i xs)
    names-depths xs = in_turn-depths (map (name_made base names i) xs) (all-names xs)

    -- ---- conditions

    -- an `up` stands at the depth of its walk; its argument is no part of it
    pub crossing-depths : (at : Pos) (x : Walk) → WalkDepths base x → TestingDepths (crossing base names i at x)
    crossing-depths at x hx here s d =
        giving base (λ depth a g. let e = g.first in omega (arith, e))
        (occ-before base d (λ depth a e g. lies-deep base depth s.occs d here Zero at (UpOf s.sites) e a tt)
        (asking base (λ depth a. a.first) (site-before base _ (hx here (past_site (past_occ s)) d))))

    -- an event stands above its `up`s
    pub event-depths : (at : Pos) (ts : List Testing) → AllByRecursion TestingDepths ts → TestingDepths (event base names i at ts)
    event-depths at ts hs here s d =
        let ups = test_all ts here (past_hidden s) in
        giving base (λ depth a g. let e = g.first in omega (arith, e))
        (hidden-before base d (λ depth a e g. lies-deep base depth (base + s.hidden) d here BoolTy at (Fired ups.tests) e a (tests-deeper d depth ups.tests g))
        (asking base (λ depth a. below-next here d depth a.first) (test_all-depths ts hs here (past_hidden s) (d + 1))))

    -- a test is an expression
    pub tested-depths : (x : Walk) → WalkDepths base x → TestingDepths (tested base names i x)
    tested-depths x hx here s d = giving base (λ depth a g. g.root) (hx here s d)

    -- ---- plain equations, `init`, `der`

    -- `x = e`
    pub plain-depths : (left : List Name) (right : Walk) → WalkDepths base right → MakingDepths (plain base names i left right)
    plain-depths left right hr here s d =
        let t = after s (names_made base names i left (in_body i here) s) in
        one-and-other base (names-depths left (in_body i here) s d) (one-and-other base (hr here t d) (definers-depths base _ _ (Below here d)))

    -- `init x = e`
    pub init-depths : (x : Name) (value : Walk) → WalkDepths base value → MakingDepths (init base names i x value)
    init-depths x value hr here s d =
        let t = after s (name_made base names i x (in_body i here) s) in
        one-and-other base (name-depths x (in_body i here) s d) (one-and-other base (hr here t d) (definers-depths base _ _ (Below here d)))

    resets-depths : (rs : List ResetWalk) → AllByRecursion (OfReset deep) rs → (here : Here) (s : Counters) (d : ℕ) → Depths base s (resets_made base names i rs here s).parts (Below here d) Nothing
    resets-depths [] hs here s d = nothing-depths base s (Below here d)
    resets-depths (r ∷ rs) hs here s d =
        let t = after s (r.event here s).parts in
        let u = after t (r.value here t).parts in
        one-and-other base (hs.0.event here s d) (one-and-other base (hs.0.value here t d) (resets-depths rs hs.1 here u d))

    start-depths : (start : Option Walk) → OfStart deep start → (here : Here) (s : Counters) (d : ℕ) → Depths base s (start_made base names i start here s).parts (Below here d) Nothing
    start-depths None hx here s d = nothing-depths base s (Below here d)
    start-depths (Some x) hx here s d = giving base (λ depth a g. tt) (hx here s d)

    -- `der x = e init v reset ..`
    pub der-depths : (x : Name) (slope : Walk) (start : Option Walk) (resets : List ResetWalk) → WalkDepths base slope → OfStart deep start → AllByRecursion (OfReset deep) resets → MakingDepths (der base names i x slope start resets)
    der-depths x slope start resets hslope hstart hresets here s d =
        let t = after s (name_made base names i x (in_body i here) s) in
        let u = after t (slope here t).parts in
        let v = after u (start_made base names i start here u).parts in
        one-and-other base (name-depths x (in_body i here) s d) (one-and-other base (hslope here t d) (one-and-other base (start-depths start hstart here u d)
        (one-and-other base (resets-depths resets hresets here v d) (definers-depths base _ _ (Below here d)))))

    -- ---- blocks

    -- a `reset` body with its condition
    pub reset-depths : (eqs : List Making) (c : Testing) → AllByRecursion MakingDepths eqs → TestingDepths c → MakingDepths (reset base names i eqs c)
    reset-depths eqs c heqs hc here s d =
        let t = past_block s in
        let below = in_block s.blocks here.hybrid here in
        block-before base _ (one-and-other base (in_turn-depths eqs heqs below t d) (hc here (after t (in_turn eqs below t)) d))

    body_of_choice-depths : (body : Making) → MakingDepths body → (of number : ℕ) → MakingDepths (body_of_choice body of number)
    body_of_choice-depths body hb of number here s d = block-before base _ (hb (in_block s.blocks false here) (past_block s) d)

    -- an arm: its condition, and its body
    pub arm-depths : (c : Testing) (body : Making) → TestingDepths c → MakingDepths body → ArmWalkDepths (arm_made base names i c body)
    arm-depths c body hc hb of number here s d = one-and-other base (hc here s d) (body_of_choice-depths body hb of number here (after s (c here s).parts) d)

    arms-depths : (ws : List ArmWalk) → AllByRecursion ArmWalkDepths ws → (of number : ℕ) (here : Here) (s : Counters) (d : ℕ) → Depths base s (arms_made ws of number here s).parts (Below here d) Nothing
    arms-depths [] hs of number here s d = nothing-depths base s (Below here d)
    arms-depths (w ∷ ws) hs of number here s d = one-and-other base (hs.0 of number here s d) (arms-depths ws hs.1 of (number + 1) here (after s (w of number here s).parts) d)

    other-depths : (other : Option Making) → OfOther deep other → (of number : ℕ) → MakingDepths (other_made base names i other of number)
    other-depths None hb of number here s d = nothing-depths base s (Below here d)
    other-depths (Some b) hb of number here s d = body_of_choice-depths b hb of number here s d

    -- `present` and its arms
    pub present-depths : (arms : List ArmWalk) (other : Option Making) → AllByRecursion ArmWalkDepths arms → OfOther deep other → MakingDepths (present base names i arms other)
    present-depths arms other ha ho here s d =
        let t = past_choice s in
        let u = after t (arms_made arms s.choices 0 here t).parts in
        choice-before base _ (one-and-other base (arms-depths arms ha s.choices 0 here t d) (other-depths other ho s.choices (length arms) here u d))

    -- ---- `automaton`

    condition-depths : (strong : Bool) (t : Testing) → TestingDepths t → (guard body : ℕ) (here : Here) (s : Counters) (d : ℕ) → Depths base s (t (condition_place strong guard body here) s).parts (Below here d) Nothing
    condition-depths true t ht guard body here s d = giving base (λ depth a g. tt) (ht (in_block guard here.hybrid here) s d)
    condition-depths false t ht guard body here s d = giving base (λ depth a g. tt) (ht (in_block body here.hybrid here) s d)

    moves-depths : (ms : List MoveWalk) → AllByRecursion (OfMove deep) ms → (guard body : ℕ) (states : List ℕ) (here : Here) (s : Counters) (d : ℕ) → Depths base s (moves_made base names i ms guard body states here s).parts (Below here d) Nothing
    moves-depths [] hs guard body states here s d = nothing-depths base s (Below here d)
    moves-depths (m ∷ ms) hs guard body states here s d =
        let t = after s (m.test (condition_place m.strong guard body here) s).parts in
        one-and-other base (condition-depths m.strong m.test hs.0.test guard body here s d) (moves-depths ms hs.1 guard body states here t d)

    -- a state: its body, and the conditions of its moves
    pub state-depths : (name : Name) (body : Making) (moves : List MoveWalk) → MakingDepths body → AllByRecursion (OfMove deep) moves → StateWalkDepths (record { name = name; walk = state_made base names i body moves })
    state-depths name body moves hb hm of number states here s d =
        let t = past_block (past_block s) in
        let below = in_block (s.blocks + 1) here.hybrid here in
        block-before base _ (block-before base _ (one-and-other base (hb below t d) (moves-depths moves hm s.blocks (s.blocks + 1) states here (after t (body below t)) d)))

    states-depths : (ws : List StateWalk) → AllByRecursion StateWalkDepths ws → (of number : ℕ) (all : List ℕ) (here : Here) (s : Counters) (d : ℕ) → Depths base s (states_made ws of number all here s).parts (Below here d) Nothing
    states-depths [] hs of number all here s d = nothing-depths base s (Below here d)
    states-depths (w ∷ ws) hs of number all here s d = one-and-other base (hs.0 of number all here s d) (states-depths ws hs.1 of (number + 1) all here (after s (w.walk of number all here s).parts) d)

    -- `automaton` and its states
    pub automaton-depths : (states : List StateWalk) → AllByRecursion StateWalkDepths states → MakingDepths (automaton base names i states)
    automaton-depths states hs here s d = automaton-before base _ (states-depths states hs s.automata 0 (state_names states) here (past_automaton s) d)

    -- ---- bodies

    -- a body: locals, and then equations
    pub body-depths : (locals : List Name) (eqs : List Making) → AllByRecursion MakingDepths eqs → MakingDepths (body_made base names i locals eqs)
    body-depths locals eqs hs here s d = one-and-other base (names-depths locals here s d) (in_turn-depths eqs hs here (after s (names_made base names i locals here s)) d)
