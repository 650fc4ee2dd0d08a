-- Down an equation that breaks no rule of names or kinds: what its walk makes stands in its context.
use Rattle.std.proofs.Common.{◌≡◌, ℕ, Bool, true, false, not, ◌&&◌, if◌then◌else◌, List, [], ◌∷◌, ◌++◌, map, length, Option, Some, None, refl, sym, subst, ◌∙◌}
use Rattle.std.specs.List.{AllByRecursion}
use Rattle.zl_value.specs.declared.position.Pos.{Pos}
use Rattle.zl_ast.specs.declared.name.Name.{Name}
use Rattle.zl_ast.specs.declared.scope.VarInfo.{VarInfo}
use Rattle.zl_ast.specs.declared.scope.VarClass.TheVariants as class
use Rattle.zl_ast.specs.declared.expr.Expr.{Expr}
use Rattle.zl_ast.specs.declared.eqn.Eqn.{Eqn, roll-Eqn}
use Rattle.zl_ast.specs.declared.eqn.Arm.{Arm, roll-Arm}
use Rattle.zl_ast.specs.declared.eqn.Body.{Body, roll-Body}
use Rattle.zl_ast.specs.declared.eqn.State.{State, roll-State}
use Rattle.zl_ast.specs.declared.eqn.Cond.{Cond}
use Rattle.zl_ast.specs.declared.eqn.Cond.TheVariants.{Event, Test}
use Rattle.zl_ast.specs.declared.eqn.Up.{Up}
use Rattle.zl_ast.specs.declared.eqn.ResetArm.{ResetArm}
use Rattle.zl_ast.specs.declared.eqn.Move.{Move}
use Rattle.zl_ast.specs.declared.eqn.Eqn.TheOpen.{Eqn-F, Arm-F, Body-F, State-F}
use Rattle.zl_ast.specs.declared.eqn.Eqn.TheOpen as open_eqn
use Rattle.zl_ast.specs.declared.eqn.Eqn.TheFolds.{fold-Eqn, fold-Arm, fold-Body, fold-State, fold-roll-Eqn, fold-roll-Arm, fold-roll-Body, fold-roll-State, ind-Eqn, map-Eqn, map-Arm, map-Body, map-State}
use Rattle.zl_ast.specs.Names.{Violation, among, with_id, with_ids, ids_of}
use Rattle.zl_ast.specs.NamesDefined as defined
use Rattle.zl_ast.specs.NamesDefined.{Outline, StateOutline, entry, is_defined, free_entries, together, list_from, states_among, eqn_outline, arm_outline, body_outline, state_outline}
use Rattle.zl_ast.specs.NamesUsed as used
use Rattle.zl_ast.specs.NamesUsed.{Known, Uses, BodyUses, all_uses, value_uses, ups_uses, cond_uses, start_uses, reset_arm_uses, moves_uses, same_strength, within, inside, eqn_uses, arm_uses, body_uses, state_uses}
use Rattle.zl_ast.specs.Kinds as kinds
use Rattle.zl_ast.specs.Kinds.{Declared, Misplaced, unless_allowed, all_misplaced, event_place, expr_misplaced, ups_misplaced, cond_misplaced, start_misplaced, resets_misplaced, eqn_misplaced, arm_misplaced, body_misplaced, state_misplaced}
use Rattle.zl_meaning.specs.FlatForm.{FlatForm}
use Rattle.zl_meaning.specs.Regular.{Context}
use Rattle.zl_flat.specs.Instances.{Instance}
use Rattle.zl_flat.specs.Expressions.{expr_walk}
use Rattle.zl_flat.specs.Equations as make
use Rattle.zl_flat.specs.Equations.{Making, Testing, ArmWalk, StateWalk, up_walk, first_at, event_walk, cond_walk, reset_arm_walk, start_walk, move_walk, eqn_walk, arm_walk, body_walk, one_state_walk}
use Rattle.zl_flat.proofs.WellFormedParts.{all-left, all-right}
use Rattle.zl_flat.proofs.RulesKept.{none-left, none-right, IsVariable, Covers}
use Rattle.zl_flat.proofs.RulesKept.{covers-one}
use Rattle.zl_flat.proofs.RegularLift.{allowed}
use Rattle.zl_flat.proofs.RegularExprs.{WalkIn}
use Rattle.zl_flat.proofs.RegularExprTrees.{KnowsCopies, Recalls, not-calm, vacuous, expr-regular}
use Rattle.zl_flat.proofs.RegularEqns.{CrossingIn, EventIn, TestingIn, ResetIn, MakingIn, ArmIn, StateIn, StartIn, crossing-regular, event-regular, event-tests, tested-tests, plain-regular, init-regular, der-regular}
use Rattle.zl_flat.proofs.RegularBlocks.{MoveIn, reset-regular, arm-regular, present-state, present-regular, state-regular, automaton-regular, body-regular}

-- ---- events

-- an event has a zero-crossing
abbrev pub is_crossed : List Up → Bool
is_crossed [] = false
is_crossed (u ∷ us) = true

-- a condition that is an event has a zero-crossing
abbrev pub cond_crossed : Cond → Bool
cond_crossed (Event us) = is_crossed us
cond_crossed (Test at x) = true

-- all of these hold
abbrev pub all_true : List Bool → Bool
all_true [] = true
all_true (b ∷ bs) = b && all_true bs

-- so do those of moves, and of an `else` body
abbrev pub moves_crossed : List Move → Bool
moves_crossed [] = true
moves_crossed (m ∷ ms) = cond_crossed m.cond && moves_crossed ms

abbrev pub other_crossed : Option Bool → Bool
other_crossed None = true
other_crossed (Some b) = b

-- so do those of an equation, an arm, a body and a state, where those of their parts do
abbrev pub crossed_eqn : Eqn-F Bool Bool Bool Bool → Bool
crossed_eqn (open_eqn.Plain left right) = true
crossed_eqn (open_eqn.Der at x slope start resets) = true
crossed_eqn (open_eqn.Start at x value) = true
crossed_eqn (open_eqn.Present at arms other) = all_true arms && other_crossed other
crossed_eqn (open_eqn.Automaton at states) = all_true states
crossed_eqn (open_eqn.Reset at eqs c) = all_true eqs && cond_crossed c

abbrev pub crossed_arm : Arm-F Bool Bool Bool Bool → Bool
crossed_arm a = cond_crossed a.cond && a.body

abbrev pub crossed_body : Body-F Bool Bool Bool Bool → Bool
crossed_body b = all_true b.eqs

abbrev pub crossed_state : State-F Bool Bool Bool Bool → Bool
crossed_state s = s.body && moves_crossed s.moves

-- so does each of an equation
unfoldable pub eqn_crossed : Eqn → Bool
eqn_crossed = fold-Eqn Bool Bool Bool Bool crossed_eqn crossed_arm crossed_body crossed_state

unfoldable pub arm_crossed : Arm → Bool
arm_crossed = fold-Arm Bool Bool Bool Bool crossed_eqn crossed_arm crossed_body crossed_state

unfoldable pub body_crossed : Body → Bool
body_crossed = fold-Body Bool Bool Bool Bool crossed_eqn crossed_arm crossed_body crossed_state

unfoldable pub state_crossed : State → Bool
state_crossed = fold-State Bool Bool Bool Bool crossed_eqn crossed_arm crossed_body crossed_state

-- so do those of equations
abbrev pub eqns_crossed : List Eqn → Bool
eqns_crossed es = all_true (map eqn_crossed es)

-- both of two truths
pub and-left : (a b : Bool) → (a && b) ≡ true → a ≡ true
and-left true b h = refl
and-left false b h = cc

pub and-right : (a b : Bool) → (a && b) ≡ true → b ≡ true
and-right true b h = h
and-right false b h = cc

-- ---- names

-- the names of these entries are variables of the instance
abbrev pub Named : Instance → List VarInfo → Type 0
Named i vs = AllByRecursion (λ (v : VarInfo). IsVariable i v.name) vs

-- the name of one entry
abbrev NamedIn : Instance → VarInfo → Type 0
NamedIn i v = IsVariable i v.name

-- of entries one behind the other
pub named-left : (i : Instance) (xs ys : List VarInfo) → Named i (xs ++ ys) → Named i xs
named-left i xs ys h = all-left (NamedIn i) xs ys h

pub named-right : (i : Instance) (xs ys : List VarInfo) → Named i (xs ++ ys) → Named i ys
named-right i xs ys h = all-right (NamedIn i) xs ys h

-- of the outlines of equations, arms and states
pub list-named : (i : Instance) (valued started : List ℕ) (os : List Outline) → Named i (list_from valued started os).entries → AllByRecursion (λ (o : Outline). Named i o.entries) os
list-named i valued started [] h = tt
list-named i valued started (o ∷ os) h =
    let rest = list_from (with_ids valued o.valued) (with_ids started o.started) os in
    (named-left i o.entries rest.entries h, list-named i (with_ids valued o.valued) (with_ids started o.started) os (named-right i o.entries rest.entries h))

together-named : (i : Instance) (os : List Outline) → Named i (together os).entries → AllByRecursion (λ (o : Outline). Named i o.entries) os
together-named i [] h = tt
together-named i (o ∷ os) h = (named-left i o.entries (together os).entries h, together-named i os (named-right i o.entries (together os).entries h))

states-named : (i : Instance) (ids : List ℕ) (ss : List StateOutline) → Named i (states_among ids ss).entries → AllByRecursion (λ (s : StateOutline). Named i s.outline.entries) ss
states-named i ids [] h = tt
states-named i ids (s ∷ ss) h = (named-left i s.outline.entries (states_among ids ss).entries h, states-named i ids ss (named-right i s.outline.entries (states_among ids ss).entries h))

-- the variables that are visible, with others
pub covers-ids : (i : Instance) (ids visible : List ℕ) → AllByRecursion (IsVariable i) ids → Covers i visible → Covers i (with_ids visible ids)
covers-ids i [] visible h c = c
covers-ids i (id ∷ ids) visible h c = covers-ids i ids (with_id visible id) h.1 (covers-one (IsVariable i) visible id (among visible id) c h.0)

-- locals are those of their entries
entry-ids : (i : Instance) (xs : List Name) → Named i (map (entry class.Local) xs) → AllByRecursion (IsVariable i) (ids_of xs)
entry-ids i [] h = tt
entry-ids i (x ∷ xs) h = (h.0, entry-ids i xs h.1)

-- what the locals hold is named by them
free-named : (i : Instance) (held : List ℕ) (vs : List VarInfo) → Covers i held → Named i (free_entries held vs) → Named i vs
free-named i held [] c h = tt
free-named i held (v ∷ vs) c h = by_case (is_defined v) (among held v.name) refl h (free-named i held vs c)
  where
    by_case : (d m : Bool) → among held v.name ≡ m → Named i (if not (d && m) then v ∷ free_entries held vs else free_entries held vs) → (Named i (free_entries held vs) → Named i vs) → IsVariable i v.name × Named i vs
    by_case true true e h more = (c v.name e, more h)
    by_case true false e h more = (h.0, more h.1)
    by_case false m e h more = (h.0, more h.1)

-- so are names that are defined
tops-named : (i : Instance) (xs : List Name) → Named i (map (entry class.Top) xs) → AllByRecursion (λ (x : Name). IsVariable i x.id) xs
tops-named i [] h = tt
tops-named i (x ∷ xs) h = (h.0, tops-named i xs h.1)

-- none is visible
pub covers-none : (i : Instance) → Covers i []
covers-none i id h = absurd (cc)

module _ (f : FlatForm) (base : ℕ) (know : (ℕ → Context) → Type 0) (names : List (List ℕ)) (i : Instance) (k : Known) (declared : Declared) (knows : KnowsCopies f base names i.callees k declared) (calm : Bool) (recalls : calm ≡ false → Recalls f know i) where
  -- in a body that isn't calm
  module _ (busy : calm ≡ false) where
    -- an expression of which one result is wanted
    value-regular : (x : Expr) (c : kinds.Context) (visible : List ℕ) → Covers i visible → value_uses k x visible ≡ [] → expr_misplaced declared x c ≡ [] → WalkIn f base know c (expr_walk base names i x)
    value-regular x c visible v h m = expr-regular f base know names i k declared knows calm recalls x c 1 visible v h m (vacuous f base know names i k declared knows calm recalls (expr_misplaced declared x) busy)

    -- ---- conditions

    -- zero-crossings, and events
    ups-regular : (us : List Up) (visible : List ℕ) → Covers i visible → ups_uses k us visible ≡ [] → ups_misplaced declared us ≡ [] → AllByRecursion (CrossingIn f base know) (map (up_walk base names i) us)
    ups-regular [] visible v h m = tt
    ups-regular (u ∷ us) visible v h m =
        let one = value_uses k u.arg visible in
        let more = ups_uses k us visible in
        let first = expr_misplaced declared u.arg kinds.combinatorial in
        let rest = ups_misplaced declared us in
        (crossing-regular f base know names i u.at (expr_walk base names i u.arg) (value-regular u.arg kinds.combinatorial visible v (none-left one more h) (none-left first rest m)), ups-regular us visible v (none-right one more h) (none-right first rest m))

    event_walk-regular : (us : List Up) (visible : List ℕ) → Covers i visible → ups_uses k us visible ≡ [] → ups_misplaced declared us ≡ [] → EventIn f base know (event_walk base names i us)
    event_walk-regular us visible v h m = event-regular f base know names i (first_at us) (map (up_walk base names i) us) (ups-regular us visible v h m)

    -- a condition where states may stand: an event in hybrid context, a test in discrete context
    cond-regular : (z : Cond) (c : kinds.Context) → kinds.allows_state c ≡ true → (visible : List ℕ) → Covers i visible → cond_uses k z visible ≡ [] → cond_misplaced declared z c ≡ [] → cond_crossed z ≡ true → TestingIn f base know c (cond_walk base names i z)
    cond-regular z kinds.combinatorial ok visible v h m e = absurd (cc)
    cond-regular z kinds.recalling ok visible v h m e = absurd (cc)
    cond-regular (Event []) kinds.discrete ok visible v h m e = absurd (cc)
    cond-regular (Event (u ∷ us)) kinds.discrete ok visible v h m e = absurd (cc)
    cond-regular (Event us) kinds.hybrid ok visible v h m e = event-tests f base know names i (event_walk base names i us) (event_walk-regular us visible v h m)
    cond-regular (Test at x) kinds.discrete ok visible v h m e = tested-tests f base know names i (expr_walk base names i x) (value-regular x kinds.recalling visible v h m)
    cond-regular (Test at x) kinds.hybrid ok visible v h m e = absurd (cc)

    -- the value of an `init` behind a `der`
    start_walk-regular : (start : Option Expr) (visible : List ℕ) → Covers i visible → start_uses k start visible ≡ [] → start_misplaced declared start ≡ [] → StartIn f base know names i (start_walk base names i start)
    start_walk-regular None visible v h m = tt
    start_walk-regular (Some x) visible v h m = value-regular x kinds.recalling visible v h m

    -- reset arms
    resets-regular : (rs : List ResetArm) (visible : List ℕ) → Covers i visible → all_uses (map (reset_arm_uses k) rs) visible ≡ [] → resets_misplaced declared rs ≡ [] → AllByRecursion (ResetIn f base know) (map (reset_arm_walk base names i) rs)
    resets-regular [] visible v h m = tt
    resets-regular (r ∷ rs) visible v h m =
        let rest = all_uses (map (reset_arm_uses k) rs) visible in
        let one = none-left (reset_arm_uses k r visible) rest h in
        let ups = ups_misplaced declared r.event in
        let value = expr_misplaced declared r.value kinds.recalling in
        let more = resets_misplaced declared rs in
        let own = none-left (ups ++ value) more m in (
          record {
            event = event_walk-regular r.event visible v (none-left (ups_uses k r.event visible) (value_uses k r.value visible) one) (none-left ups value own);
            value = value-regular r.value kinds.recalling visible v (none-right (ups_uses k r.event visible) (value_uses k r.value visible) one) (none-right ups value own);
          },
          resets-regular rs visible v (none-right (reset_arm_uses k r visible) rest h) (none-right (ups ++ value) more m),
        )

    -- a move by `unless` sees no locals of the body, one by `until` does
    one_move-regular : (c : kinds.Context) (m : Move) (strong : Bool) (inner visible : List ℕ) (rest rest2 : List Violation) → kinds.allows_state c ≡ true → Covers i inner → Covers i visible →
        (if same_strength false strong then cond_uses k m.cond inner else []) ++ rest ≡ [] → (if same_strength true strong then cond_uses k m.cond visible else []) ++ rest2 ≡ [] → cond_misplaced declared m.cond c ≡ [] → cond_crossed m.cond ≡ true →
        MoveIn f base know names i c (move_walk base names i m)
    one_move-regular c m true inner visible rest rest2 ok ci cv hi hv p e = record { test = cond-regular m.cond c ok visible cv (none-left (cond_uses k m.cond visible) rest2 hv) p e }
    one_move-regular c m false inner visible rest rest2 ok ci cv hi hv p e = record { test = cond-regular m.cond c ok inner ci (none-left (cond_uses k m.cond inner) rest hi) p e }

    moves-regular : (c : kinds.Context) (ms : List Move) (inner visible : List ℕ) → kinds.allows_state c ≡ true → Covers i inner → Covers i visible → moves_uses k false ms inner ≡ [] → moves_uses k true ms visible ≡ [] →
        all_misplaced (map (λ (m : Move). cond_misplaced declared m.cond) ms) c ≡ [] → moves_crossed ms ≡ true → AllByRecursion (MoveIn f base know names i c) (map (move_walk base names i) ms)
    moves-regular c [] inner visible ok ci cv hi hv p e = tt
    moves-regular c (m ∷ ms) inner visible ok ci cv hi hv p e =
        let one = cond_misplaced declared m.cond c in
        let more = all_misplaced (map (λ (m : Move). cond_misplaced declared m.cond) ms) c in (
          one_move-regular c m m.strong inner visible (moves_uses k false ms inner) (moves_uses k true ms visible) ok ci cv hi hv (none-left one more p) (and-left (cond_crossed m.cond) (moves_crossed ms) e),
          moves-regular c ms inner visible ok ci cv
              (none-right (if same_strength false m.strong then cond_uses k m.cond inner else []) (moves_uses k false ms inner) hi)
              (none-right (if same_strength true m.strong then cond_uses k m.cond visible else []) (moves_uses k true ms visible) hv)
              (none-right one more p) (and-right (cond_crossed m.cond) (moves_crossed ms) e),
        )

  -- ---- equations

  -- what an equation makes stands in its context, where it breaks no rule of names or kinds
  abbrev pub EqnRegular : Eqn → Type 0
  EqnRegular e = (c : kinds.Context) (visible : List ℕ) → Covers i visible → eqn_uses k e visible ≡ [] → eqn_misplaced declared e c ≡ [] → Named i (eqn_outline e).entries → eqn_crossed e ≡ true → (calm ≡ true → eqn_misplaced declared e kinds.combinatorial ≡ []) → MakingIn f base know names i c (eqn_walk base names i e)

  -- so does an arm, a body, a state
  abbrev pub ArmTreeRegular : Arm → Type 0
  ArmTreeRegular a = calm ≡ false → (c : kinds.Context) (visible : List ℕ) → kinds.allows_state c ≡ true → Covers i visible → arm_uses k a visible ≡ [] → arm_misplaced declared a c ≡ [] → Named i (arm_outline a).entries → arm_crossed a ≡ true → ArmIn f base know names i c (arm_walk base names i a)

  abbrev pub BodyTreeRegular : Body → Type 0
  BodyTreeRegular b = calm ≡ false → (c : kinds.Context) (visible : List ℕ) → Covers i visible → inside (body_uses k b) visible ≡ [] → body_misplaced declared b c ≡ [] → Named i (body_outline b).entries → body_crossed b ≡ true →
      MakingIn f base know names i c (body_walk base names i b) × Covers i (within (body_uses k b).locals visible)

  abbrev pub StateTreeRegular : State → Type 0
  StateTreeRegular s = calm ≡ false → (c : kinds.Context) (visible : List ℕ) → kinds.allows_state c ≡ true → Covers i visible → state_uses k s visible ≡ [] → state_misplaced declared s c ≡ [] → Named i (state_outline s).outline.entries → state_crossed s ≡ true → StateIn f base know names i c (one_state_walk base names i s)

  abbrev TheEqn : Type 0
  TheEqn = (e : Eqn) × EqnRegular e

  abbrev TheArm : Type 0
  TheArm = (a : Arm) × ArmTreeRegular a

  abbrev TheBody : Type 0
  TheBody = (b : Body) × BodyTreeRegular b

  abbrev TheState : Type 0
  TheState = (s : State) × StateTreeRegular s

  -- so do several equations, arms, states
  eqs-regular : calm ≡ false → (c : kinds.Context) (es : List TheEqn) (visible : List ℕ) → Covers i visible → all_uses (map (eqn_uses k) (map (λ e. e.0) es)) visible ≡ [] → all_misplaced (map (eqn_misplaced declared) (map (λ e. e.0) es)) c ≡ [] →
      AllByRecursion (λ (o : Outline). Named i o.entries) (map eqn_outline (map (λ e. e.0) es)) → all_true (map eqn_crossed (map (λ e. e.0) es)) ≡ true → AllByRecursion (MakingIn f base know names i c) (map (eqn_walk base names i) (map (λ e. e.0) es))
  eqs-regular busy c [] visible v h m l t = tt
  eqs-regular busy c (e ∷ es) visible v h m l t =
      let rest = all_uses (map (eqn_uses k) (map (λ e. e.0) es)) visible in
      let one = eqn_misplaced declared e.0 c in
      let more = all_misplaced (map (eqn_misplaced declared) (map (λ e. e.0) es)) c in
      let others = all_true (map eqn_crossed (map (λ e. e.0) es)) in (
        e.1 c visible v (none-left (eqn_uses k e.0 visible) rest h) (none-left one more m) l.0 (and-left (eqn_crossed e.0) others t) (vacuous f base know names i k declared knows calm recalls (eqn_misplaced declared e.0) busy),
        eqs-regular busy c es visible v (none-right (eqn_uses k e.0 visible) rest h) (none-right one more m) l.1 (and-right (eqn_crossed e.0) others t),
      )

  arms-regular : calm ≡ false → (c : kinds.Context) (es : List TheArm) (visible : List ℕ) → kinds.allows_state c ≡ true → Covers i visible → all_uses (map (arm_uses k) (map (λ e. e.0) es)) visible ≡ [] → all_misplaced (map (arm_misplaced declared) (map (λ e. e.0) es)) c ≡ [] →
      AllByRecursion (λ (o : Outline). Named i o.entries) (map arm_outline (map (λ e. e.0) es)) → all_true (map arm_crossed (map (λ e. e.0) es)) ≡ true → AllByRecursion (ArmIn f base know names i c) (map (arm_walk base names i) (map (λ e. e.0) es))
  arms-regular busy c [] visible ok v h m l t = tt
  arms-regular busy c (e ∷ es) visible ok v h m l t =
      let rest = all_uses (map (arm_uses k) (map (λ e. e.0) es)) visible in
      let one = arm_misplaced declared e.0 c in
      let more = all_misplaced (map (arm_misplaced declared) (map (λ e. e.0) es)) c in
      let others = all_true (map arm_crossed (map (λ e. e.0) es)) in (
        e.1 busy c visible ok v (none-left (arm_uses k e.0 visible) rest h) (none-left one more m) l.0 (and-left (arm_crossed e.0) others t),
        arms-regular busy c es visible ok v (none-right (arm_uses k e.0 visible) rest h) (none-right one more m) l.1 (and-right (arm_crossed e.0) others t),
      )

  states-regular : calm ≡ false → (c : kinds.Context) (es : List TheState) (visible : List ℕ) → kinds.allows_state c ≡ true → Covers i visible → all_uses (map (state_uses k) (map (λ e. e.0) es)) visible ≡ [] → all_misplaced (map (state_misplaced declared) (map (λ e. e.0) es)) c ≡ [] →
      AllByRecursion (λ (s : StateOutline). Named i s.outline.entries) (map state_outline (map (λ e. e.0) es)) → all_true (map state_crossed (map (λ e. e.0) es)) ≡ true → AllByRecursion (StateIn f base know names i c) (map (one_state_walk base names i) (map (λ e. e.0) es))
  states-regular busy c [] visible ok v h m l t = tt
  states-regular busy c (e ∷ es) visible ok v h m l t =
      let rest = all_uses (map (state_uses k) (map (λ e. e.0) es)) visible in
      let one = state_misplaced declared e.0 c in
      let more = all_misplaced (map (state_misplaced declared) (map (λ e. e.0) es)) c in
      let others = all_true (map state_crossed (map (λ e. e.0) es)) in (
        e.1 busy c visible ok v (none-left (state_uses k e.0 visible) rest h) (none-left one more m) l.0 (and-left (state_crossed e.0) others t),
        states-regular busy c es visible ok v (none-right (state_uses k e.0 visible) rest h) (none-right one more m) l.1 (and-right (state_crossed e.0) others t),
      )

  -- a construct that isn't allowed is misplaced
  no-state : (at : Pos) (more : List Pos) → unless_allowed false at ++ more ≡ [] → ⊥
  no-state at more h = cc

  no-present : (other : Bool) (at : Pos) (more : List Pos) → unless_allowed (kinds.allows_present other kinds.combinatorial) at ++ more ≡ [] → ⊥
  unfolding kinds.allows_present
  no-present true at more h = cc
  no-present false at more h = cc

  -- what is hybrid
  hybrid-only : (P : kinds.Context → Type 0) (c : kinds.Context) → kinds.is_hybrid c ≡ true → P kinds.hybrid → P c
  hybrid-only P kinds.combinatorial e h = absurd (cc)
  hybrid-only P kinds.recalling e h = absurd (cc)
  hybrid-only P kinds.discrete e h = absurd (cc)
  hybrid-only P kinds.hybrid e h = h

  -- one layer of an equation, an arm, a body, a state, where its parts do
  eqn-layer : (e : Eqn-F TheEqn TheArm TheBody TheState) (c : kinds.Context) (visible : List ℕ) → Covers i visible →
      used.eqn_step k (map-Eqn Eqn Arm Body State Uses Uses BodyUses Uses (eqn_uses k) (arm_uses k) (body_uses k) (state_uses k) (map-Eqn TheEqn TheArm TheBody TheState Eqn Arm Body State (λ e. e.0) (λ a. a.0) (λ b. b.0) (λ s. s.0) e)) visible ≡ [] →
      kinds.eqn_step declared (map-Eqn Eqn Arm Body State Misplaced Misplaced Misplaced Misplaced (eqn_misplaced declared) (arm_misplaced declared) (body_misplaced declared) (state_misplaced declared) (map-Eqn TheEqn TheArm TheBody TheState Eqn Arm Body State (λ e. e.0) (λ a. a.0) (λ b. b.0) (λ s. s.0) e)) c ≡ [] →
      Named i (defined.eqn_step (map-Eqn Eqn Arm Body State Outline Outline Outline StateOutline eqn_outline arm_outline body_outline state_outline (map-Eqn TheEqn TheArm TheBody TheState Eqn Arm Body State (λ e. e.0) (λ a. a.0) (λ b. b.0) (λ s. s.0) e))).entries →
      crossed_eqn (map-Eqn Eqn Arm Body State Bool Bool Bool Bool eqn_crossed arm_crossed body_crossed state_crossed (map-Eqn TheEqn TheArm TheBody TheState Eqn Arm Body State (λ e. e.0) (λ a. a.0) (λ b. b.0) (λ s. s.0) e)) ≡ true →
      (calm ≡ true → kinds.eqn_step declared (map-Eqn Eqn Arm Body State Misplaced Misplaced Misplaced Misplaced (eqn_misplaced declared) (arm_misplaced declared) (body_misplaced declared) (state_misplaced declared) (map-Eqn TheEqn TheArm TheBody TheState Eqn Arm Body State (λ e. e.0) (λ a. a.0) (λ b. b.0) (λ s. s.0) e)) kinds.combinatorial ≡ []) →
      MakingIn f base know names i c (make.eqn_step base names i (map-Eqn Eqn Arm Body State Making ArmWalk Making StateWalk (eqn_walk base names i) (arm_walk base names i) (body_walk base names i) (one_state_walk base names i) (map-Eqn TheEqn TheArm TheBody TheState Eqn Arm Body State (λ e. e.0) (λ a. a.0) (λ b. b.0) (λ s. s.0) e)))
  eqn-layer (open_eqn.Plain left right) c visible v h m l t q = plain-regular f base know names i c left (expr_walk base names i right) (tops-named i left l) (expr-regular f base know names i k declared knows calm recalls right c (length left) visible v h m q)
  eqn-layer (open_eqn.Der at x slope start resets) c visible v h m l t q =
      let busy = not-calm f base know names i k declared knows calm recalls (λ e. no-state at _ (q e)) in
      let later = start_uses k start visible ++ all_uses (map (reset_arm_uses k) resets) visible in
      let behind = none-right (value_uses k slope visible) later h in
      let wrong = unless_allowed (kinds.is_hybrid c) at in
      let slope_wrong = expr_misplaced declared slope kinds.hybrid in
      let start_wrong = start_misplaced declared start in
      let resets_wrong = resets_misplaced declared resets in
      let in2 = none-right wrong (slope_wrong ++ (start_wrong ++ resets_wrong)) m in
      let in3 = none-right slope_wrong (start_wrong ++ resets_wrong) in2 in
      hybrid-only (λ c. MakingIn f base know names i c (make.der base names i x (expr_walk base names i slope) (start_walk base names i start) (map (reset_arm_walk base names i) resets))) c (allowed (kinds.is_hybrid c) at (none-left wrong (slope_wrong ++ (start_wrong ++ resets_wrong)) m))
      (der-regular f base know names i x (expr_walk base names i slope) (start_walk base names i start) (map (reset_arm_walk base names i) resets) l.0
      (value-regular busy slope kinds.hybrid visible v (none-left (value_uses k slope visible) later h) (none-left slope_wrong (start_wrong ++ resets_wrong) in2))
      (start_walk-regular busy start visible v (none-left (start_uses k start visible) (all_uses (map (reset_arm_uses k) resets) visible) behind) (none-left start_wrong resets_wrong in3))
      (resets-regular busy resets visible v (none-right (start_uses k start visible) (all_uses (map (reset_arm_uses k) resets) visible) behind) (none-right start_wrong resets_wrong in3)))
  eqn-layer (open_eqn.Start at x value) c visible v h m l t q =
      let busy = not-calm f base know names i k declared knows calm recalls (λ e. no-state at _ (q e)) in
      let wrong = unless_allowed (kinds.allows_state c) at in
      let more = expr_misplaced declared value kinds.recalling in
      init-regular f base know names i c x (expr_walk base names i value) (allowed (kinds.allows_state c) at (none-left wrong more m)) l.0 (value-regular busy value kinds.recalling visible v h (none-right wrong more m))
  eqn-layer (open_eqn.Present at arms None) c visible v h m l t q =
      let busy = not-calm f base know names i k declared knows calm recalls (λ e. no-present false at _ (q e)) in
      let trees = map (λ a. a.0) arms in
      let os = map arm_outline trees in
      let uses = all_uses (map (arm_uses k) trees) visible in
      let wrong = unless_allowed (kinds.allows_present false c) at in
      let arms_wrong = all_misplaced (map (arm_misplaced declared) trees) c in
      let ok = allowed (kinds.allows_present false c) at (none-left wrong (arms_wrong ++ []) m) in
      present-regular f base know names i c (map (arm_walk base names i) trees) None ok
      (arms-regular busy c arms visible (present-state f base know names i false c ok) v (none-left uses [] h) (none-left arms_wrong [] (none-right wrong (arms_wrong ++ []) m)) (together-named i os (named-left i (together os).entries [] l)) (and-left (all_true (map arm_crossed trees)) true t)) tt
  eqn-layer (open_eqn.Present at arms (Some b)) c visible v h m l t q =
      let busy = not-calm f base know names i k declared knows calm recalls (λ e. no-present true at _ (q e)) in
      let trees = map (λ a. a.0) arms in
      let os = map arm_outline trees in
      let uses = all_uses (map (arm_uses k) trees) visible in
      let other = inside (body_uses k b.0) visible in
      let wrong = unless_allowed (kinds.allows_present true c) at in
      let arms_wrong = all_misplaced (map (arm_misplaced declared) trees) c in
      let other_wrong = body_misplaced declared b.0 kinds.discrete in
      let ok = allowed (kinds.allows_present true c) at (none-left wrong (arms_wrong ++ other_wrong) m) in
      let behind = none-right wrong (arms_wrong ++ other_wrong) m in
      let all_arms = all_true (map arm_crossed trees) in
      present-regular f base know names i c (map (arm_walk base names i) trees) (Some (body_walk base names i b.0)) ok
      (arms-regular busy c arms visible (present-state f base know names i true c ok) v (none-left uses other h) (none-left arms_wrong other_wrong behind) (together-named i os (named-left i (together os).entries (body_outline b.0).entries l)) (and-left all_arms (body_crossed b.0) t))
      (b.1 busy kinds.discrete visible v (none-right uses other h) (none-right arms_wrong other_wrong behind) (named-right i (together os).entries (body_outline b.0).entries l) (and-right all_arms (body_crossed b.0) t)).0
  eqn-layer (open_eqn.Automaton at states) c visible v h m l t q =
      let busy = not-calm f base know names i k declared knows calm recalls (λ e. no-state at _ (q e)) in
      let os = map state_outline (map (λ s. s.0) states) in
      let wrong = unless_allowed (kinds.allows_state c) at in
      let more = all_misplaced (map (state_misplaced declared) (map (λ s. s.0) states)) c in
      automaton-regular f base know names i c (map (one_state_walk base names i) (map (λ s. s.0) states))
      (states-regular busy c states visible (allowed (kinds.allows_state c) at (none-left wrong more m)) v h (none-right wrong more m) (states-named i (with_ids [] (ids_of (defined.state_names os))) os l) t)
  eqn-layer (open_eqn.Reset at eqs z) c visible v h m l t q =
      let busy = not-calm f base know names i k declared knows calm recalls (λ e. no-state at _ (q e)) in
      let es = map (λ e. e.0) eqs in
      let uses = all_uses (map (eqn_uses k) es) visible in
      let wrong = unless_allowed (kinds.allows_state c) at in
      let eqs_wrong = all_misplaced (map (eqn_misplaced declared) es) c in
      let cond_wrong = cond_misplaced declared z c in
      let ok = allowed (kinds.allows_state c) at (none-left wrong (eqs_wrong ++ cond_wrong) m) in
      let behind = none-right wrong (eqs_wrong ++ cond_wrong) m in
      let all_eqs = all_true (map eqn_crossed es) in
      reset-regular f base know names i c (map (eqn_walk base names i) es) (cond_walk base names i z)
      (eqs-regular busy c eqs visible v (none-left uses (cond_uses k z visible) h) (none-left eqs_wrong cond_wrong behind) (list-named i [] [] (map eqn_outline es) l) (and-left all_eqs (cond_crossed z) t))
      (cond-regular busy z c ok visible v (none-right uses (cond_uses k z visible) h) (none-right eqs_wrong cond_wrong behind) (and-right all_eqs (cond_crossed z) t))

  arm-layer : calm ≡ false → (a : Arm-F TheEqn TheArm TheBody TheState) (c : kinds.Context) (visible : List ℕ) → kinds.allows_state c ≡ true → Covers i visible →
      used.arm_step k (map-Arm Eqn Arm Body State Uses Uses BodyUses Uses (eqn_uses k) (arm_uses k) (body_uses k) (state_uses k) (map-Arm TheEqn TheArm TheBody TheState Eqn Arm Body State (λ e. e.0) (λ a. a.0) (λ b. b.0) (λ s. s.0) a)) visible ≡ [] →
      kinds.arm_step declared (map-Arm Eqn Arm Body State Misplaced Misplaced Misplaced Misplaced (eqn_misplaced declared) (arm_misplaced declared) (body_misplaced declared) (state_misplaced declared) (map-Arm TheEqn TheArm TheBody TheState Eqn Arm Body State (λ e. e.0) (λ a. a.0) (λ b. b.0) (λ s. s.0) a)) c ≡ [] →
      Named i (defined.arm_step (map-Arm Eqn Arm Body State Outline Outline Outline StateOutline eqn_outline arm_outline body_outline state_outline (map-Arm TheEqn TheArm TheBody TheState Eqn Arm Body State (λ e. e.0) (λ a. a.0) (λ b. b.0) (λ s. s.0) a))).entries →
      crossed_arm (map-Arm Eqn Arm Body State Bool Bool Bool Bool eqn_crossed arm_crossed body_crossed state_crossed (map-Arm TheEqn TheArm TheBody TheState Eqn Arm Body State (λ e. e.0) (λ a. a.0) (λ b. b.0) (λ s. s.0) a)) ≡ true →
      ArmIn f base know names i c (make.arm_step base names i (map-Arm Eqn Arm Body State Making ArmWalk Making StateWalk (eqn_walk base names i) (arm_walk base names i) (body_walk base names i) (one_state_walk base names i) (map-Arm TheEqn TheArm TheBody TheState Eqn Arm Body State (λ e. e.0) (λ a. a.0) (λ b. b.0) (λ s. s.0) a)))
  arm-layer busy a c visible ok v h m l t =
      let uses = cond_uses k a.cond visible in
      let rest = inside (body_uses k a.body.0) visible in
      let wrong = cond_misplaced declared a.cond c in
      let more = body_misplaced declared a.body.0 kinds.discrete in
      arm-regular f base know names i c (cond_walk base names i a.cond) (body_walk base names i a.body.0) ok (cond-regular busy a.cond c ok visible v (none-left uses rest h) (none-left wrong more m) (and-left (cond_crossed a.cond) (body_crossed a.body.0) t))
      (a.body.1 busy kinds.discrete visible v (none-right uses rest h) (none-right wrong more m) l (and-right (cond_crossed a.cond) (body_crossed a.body.0) t)).0

  body-layer : calm ≡ false → (b : Body-F TheEqn TheArm TheBody TheState) (c : kinds.Context) (visible : List ℕ) → Covers i visible →
      inside (used.body_step k (map-Body Eqn Arm Body State Uses Uses BodyUses Uses (eqn_uses k) (arm_uses k) (body_uses k) (state_uses k) (map-Body TheEqn TheArm TheBody TheState Eqn Arm Body State (λ e. e.0) (λ a. a.0) (λ b. b.0) (λ s. s.0) b))) visible ≡ [] →
      kinds.body_step declared (map-Body Eqn Arm Body State Misplaced Misplaced Misplaced Misplaced (eqn_misplaced declared) (arm_misplaced declared) (body_misplaced declared) (state_misplaced declared) (map-Body TheEqn TheArm TheBody TheState Eqn Arm Body State (λ e. e.0) (λ a. a.0) (λ b. b.0) (λ s. s.0) b)) c ≡ [] →
      Named i (defined.body_step (map-Body Eqn Arm Body State Outline Outline Outline StateOutline eqn_outline arm_outline body_outline state_outline (map-Body TheEqn TheArm TheBody TheState Eqn Arm Body State (λ e. e.0) (λ a. a.0) (λ b. b.0) (λ s. s.0) b))).entries →
      crossed_body (map-Body Eqn Arm Body State Bool Bool Bool Bool eqn_crossed arm_crossed body_crossed state_crossed (map-Body TheEqn TheArm TheBody TheState Eqn Arm Body State (λ e. e.0) (λ a. a.0) (λ b. b.0) (λ s. s.0) b)) ≡ true →
      MakingIn f base know names i c (make.body_step base names i (map-Body Eqn Arm Body State Making ArmWalk Making StateWalk (eqn_walk base names i) (arm_walk base names i) (body_walk base names i) (one_state_walk base names i) (map-Body TheEqn TheArm TheBody TheState Eqn Arm Body State (λ e. e.0) (λ a. a.0) (λ b. b.0) (λ s. s.0) b)))
      × Covers i (within b.locals visible)
  body-layer busy b c visible v h m l t =
      let own = map (entry class.Local) b.locals in
      let es = map (λ e. e.0) b.eqs in
      let o = list_from [] [] (map eqn_outline es) in
      let held = with_ids [] (ids_of b.locals) in
      let locals = entry-ids i b.locals (named-left i own (free_entries held o.entries) l) in
      let inner = covers-ids i (ids_of b.locals) visible locals v in
      let below = free-named i held o.entries (covers-ids i (ids_of b.locals) [] locals (covers-none i)) (named-right i own (free_entries held o.entries) l) in
      (body-regular f base know names i c b.locals (map (eqn_walk base names i) es) (eqs-regular busy c b.eqs (within b.locals visible) inner h m (list-named i [] [] (map eqn_outline es) below) t), inner)

  state-layer : calm ≡ false → (s : State-F TheEqn TheArm TheBody TheState) (c : kinds.Context) (visible : List ℕ) → kinds.allows_state c ≡ true → Covers i visible →
      used.state_step k (map-State Eqn Arm Body State Uses Uses BodyUses Uses (eqn_uses k) (arm_uses k) (body_uses k) (state_uses k) (map-State TheEqn TheArm TheBody TheState Eqn Arm Body State (λ e. e.0) (λ a. a.0) (λ b. b.0) (λ s. s.0) s)) visible ≡ [] →
      kinds.state_step declared (map-State Eqn Arm Body State Misplaced Misplaced Misplaced Misplaced (eqn_misplaced declared) (arm_misplaced declared) (body_misplaced declared) (state_misplaced declared) (map-State TheEqn TheArm TheBody TheState Eqn Arm Body State (λ e. e.0) (λ a. a.0) (λ b. b.0) (λ s. s.0) s)) c ≡ [] →
      Named i (defined.state_step (map-State Eqn Arm Body State Outline Outline Outline StateOutline eqn_outline arm_outline body_outline state_outline (map-State TheEqn TheArm TheBody TheState Eqn Arm Body State (λ e. e.0) (λ a. a.0) (λ b. b.0) (λ s. s.0) s))).outline.entries →
      crossed_state (map-State Eqn Arm Body State Bool Bool Bool Bool eqn_crossed arm_crossed body_crossed state_crossed (map-State TheEqn TheArm TheBody TheState Eqn Arm Body State (λ e. e.0) (λ a. a.0) (λ b. b.0) (λ s. s.0) s)) ≡ true →
      StateIn f base know names i c (make.state_step base names i (map-State Eqn Arm Body State Making ArmWalk Making StateWalk (eqn_walk base names i) (arm_walk base names i) (body_walk base names i) (one_state_walk base names i) (map-State TheEqn TheArm TheBody TheState Eqn Arm Body State (λ e. e.0) (λ a. a.0) (λ b. b.0) (λ s. s.0) s)))
  state-layer busy s c visible ok v h m l t =
      let inner = within (body_uses k s.body.0).locals visible in
      let uses = inside (body_uses k s.body.0) visible in
      let weak = moves_uses k false s.moves inner in
      let strong = moves_uses k true s.moves visible in
      let behind = none-right uses (weak ++ strong) h in
      let wrong = body_misplaced declared s.body.0 c in
      let more = all_misplaced (map (λ (m : Move). cond_misplaced declared m.cond) s.moves) c in
      let body = s.body.1 busy c visible v (none-left uses (weak ++ strong) h) (none-left wrong more m) l (and-left (body_crossed s.body.0) (moves_crossed s.moves) t) in
      state-regular f base know names i c s.name (body_walk base names i s.body.0) (map (move_walk base names i) s.moves) body.0
      (moves-regular busy c s.moves inner visible ok body.1 v (none-left weak strong behind) (none-right weak strong behind) (none-right wrong more m) (and-right (body_crossed s.body.0) (moves_crossed s.moves) t))

  -- an equation that breaks no rule of names or kinds, where the names that it declares and defines are variables
  pub eqn-regular : (e : Eqn) → EqnRegular e
  unfolding eqn_uses arm_uses body_uses state_uses eqn_misplaced arm_misplaced body_misplaced state_misplaced eqn_walk arm_walk body_walk one_state_walk eqn_outline arm_outline body_outline state_outline eqn_crossed arm_crossed body_crossed state_crossed
  eqn-regular = ind-Eqn EqnRegular ArmTreeRegular BodyTreeRegular StateTreeRegular
      (λ x y is. subst (λ z. EqnRegular (roll-Eqn z)) is (λ c visible v h m l t q.
      subst (MakingIn f base know names i c) (sym (fold-roll-Eqn Making ArmWalk Making StateWalk (make.eqn_step base names i) (make.arm_step base names i) (make.body_step base names i) (make.state_step base names i) (map-Eqn TheEqn TheArm TheBody TheState Eqn Arm Body State (λ e. e.0) (λ a. a.0) (λ b. b.0) (λ s. s.0) y)))
      (eqn-layer y c visible v
      (subst (λ (u : Uses). u visible ≡ []) (fold-roll-Eqn Uses Uses BodyUses Uses (used.eqn_step k) (used.arm_step k) (used.body_step k) (used.state_step k) (map-Eqn TheEqn TheArm TheBody TheState Eqn Arm Body State (λ e. e.0) (λ a. a.0) (λ b. b.0) (λ s. s.0) y)) h)
      (subst (λ (u : Misplaced). u c ≡ []) (fold-roll-Eqn Misplaced Misplaced Misplaced Misplaced (kinds.eqn_step declared) (kinds.arm_step declared) (kinds.body_step declared) (kinds.state_step declared) (map-Eqn TheEqn TheArm TheBody TheState Eqn Arm Body State (λ e. e.0) (λ a. a.0) (λ b. b.0) (λ s. s.0) y)) m)
      (subst (λ (o : Outline). Named i o.entries) (fold-roll-Eqn Outline Outline Outline StateOutline defined.eqn_step defined.arm_step defined.body_step defined.state_step (map-Eqn TheEqn TheArm TheBody TheState Eqn Arm Body State (λ e. e.0) (λ a. a.0) (λ b. b.0) (λ s. s.0) y)) l)
      (sym (fold-roll-Eqn Bool Bool Bool Bool crossed_eqn crossed_arm crossed_body crossed_state (map-Eqn TheEqn TheArm TheBody TheState Eqn Arm Body State (λ e. e.0) (λ a. a.0) (λ b. b.0) (λ s. s.0) y)) ∙ t)
      (λ g. subst (λ (u : Misplaced). u kinds.combinatorial ≡ []) (fold-roll-Eqn Misplaced Misplaced Misplaced Misplaced (kinds.eqn_step declared) (kinds.arm_step declared) (kinds.body_step declared) (kinds.state_step declared) (map-Eqn TheEqn TheArm TheBody TheState Eqn Arm Body State (λ e. e.0) (λ a. a.0) (λ b. b.0) (λ s. s.0) y)) (q g)))))
      (λ x y is. subst (λ z. ArmTreeRegular (roll-Arm z)) is (λ busy c visible ok v h m l t.
      subst (ArmIn f base know names i c) (sym (fold-roll-Arm Making ArmWalk Making StateWalk (make.eqn_step base names i) (make.arm_step base names i) (make.body_step base names i) (make.state_step base names i) (map-Arm TheEqn TheArm TheBody TheState Eqn Arm Body State (λ e. e.0) (λ a. a.0) (λ b. b.0) (λ s. s.0) y)))
      (arm-layer busy y c visible ok v
      (subst (λ (u : Uses). u visible ≡ []) (fold-roll-Arm Uses Uses BodyUses Uses (used.eqn_step k) (used.arm_step k) (used.body_step k) (used.state_step k) (map-Arm TheEqn TheArm TheBody TheState Eqn Arm Body State (λ e. e.0) (λ a. a.0) (λ b. b.0) (λ s. s.0) y)) h)
      (subst (λ (u : Misplaced). u c ≡ []) (fold-roll-Arm Misplaced Misplaced Misplaced Misplaced (kinds.eqn_step declared) (kinds.arm_step declared) (kinds.body_step declared) (kinds.state_step declared) (map-Arm TheEqn TheArm TheBody TheState Eqn Arm Body State (λ e. e.0) (λ a. a.0) (λ b. b.0) (λ s. s.0) y)) m)
      (subst (λ (o : Outline). Named i o.entries) (fold-roll-Arm Outline Outline Outline StateOutline defined.eqn_step defined.arm_step defined.body_step defined.state_step (map-Arm TheEqn TheArm TheBody TheState Eqn Arm Body State (λ e. e.0) (λ a. a.0) (λ b. b.0) (λ s. s.0) y)) l)
      (sym (fold-roll-Arm Bool Bool Bool Bool crossed_eqn crossed_arm crossed_body crossed_state (map-Arm TheEqn TheArm TheBody TheState Eqn Arm Body State (λ e. e.0) (λ a. a.0) (λ b. b.0) (λ s. s.0) y)) ∙ t))))
      (λ x y is. subst (λ z. BodyTreeRegular (roll-Body z)) is (λ busy c visible v h m l t.
      let uses = fold-roll-Body Uses Uses BodyUses Uses (used.eqn_step k) (used.arm_step k) (used.body_step k) (used.state_step k) (map-Body TheEqn TheArm TheBody TheState Eqn Arm Body State (λ e. e.0) (λ a. a.0) (λ b. b.0) (λ s. s.0) y) in
      let a = body-layer busy y c visible v
      (subst (λ (u : BodyUses). inside u visible ≡ []) uses h)
      (subst (λ (u : Misplaced). u c ≡ []) (fold-roll-Body Misplaced Misplaced Misplaced Misplaced (kinds.eqn_step declared) (kinds.arm_step declared) (kinds.body_step declared) (kinds.state_step declared) (map-Body TheEqn TheArm TheBody TheState Eqn Arm Body State (λ e. e.0) (λ a. a.0) (λ b. b.0) (λ s. s.0) y)) m)
      (subst (λ (o : Outline). Named i o.entries) (fold-roll-Body Outline Outline Outline StateOutline defined.eqn_step defined.arm_step defined.body_step defined.state_step (map-Body TheEqn TheArm TheBody TheState Eqn Arm Body State (λ e. e.0) (λ a. a.0) (λ b. b.0) (λ s. s.0) y)) l)
      (sym (fold-roll-Body Bool Bool Bool Bool crossed_eqn crossed_arm crossed_body crossed_state (map-Body TheEqn TheArm TheBody TheState Eqn Arm Body State (λ e. e.0) (λ a. a.0) (λ b. b.0) (λ s. s.0) y)) ∙ t) in (
        subst (MakingIn f base know names i c) (sym (fold-roll-Body Making ArmWalk Making StateWalk (make.eqn_step base names i) (make.arm_step base names i) (make.body_step base names i) (make.state_step base names i) (map-Body TheEqn TheArm TheBody TheState Eqn Arm Body State (λ e. e.0) (λ a. a.0) (λ b. b.0) (λ s. s.0) y))) a.0,
        subst (λ (u : BodyUses). Covers i (within u.locals visible)) (sym uses) a.1,
      )))
      (λ x y is. subst (λ z. StateTreeRegular (roll-State z)) is (λ busy c visible ok v h m l t.
      subst (StateIn f base know names i c) (sym (fold-roll-State Making ArmWalk Making StateWalk (make.eqn_step base names i) (make.arm_step base names i) (make.body_step base names i) (make.state_step base names i) (map-State TheEqn TheArm TheBody TheState Eqn Arm Body State (λ e. e.0) (λ a. a.0) (λ b. b.0) (λ s. s.0) y)))
      (state-layer busy y c visible ok v
      (subst (λ (u : Uses). u visible ≡ []) (fold-roll-State Uses Uses BodyUses Uses (used.eqn_step k) (used.arm_step k) (used.body_step k) (used.state_step k) (map-State TheEqn TheArm TheBody TheState Eqn Arm Body State (λ e. e.0) (λ a. a.0) (λ b. b.0) (λ s. s.0) y)) h)
      (subst (λ (u : Misplaced). u c ≡ []) (fold-roll-State Misplaced Misplaced Misplaced Misplaced (kinds.eqn_step declared) (kinds.arm_step declared) (kinds.body_step declared) (kinds.state_step declared) (map-State TheEqn TheArm TheBody TheState Eqn Arm Body State (λ e. e.0) (λ a. a.0) (λ b. b.0) (λ s. s.0) y)) m)
      (subst (λ (o : StateOutline). Named i o.outline.entries) (fold-roll-State Outline Outline Outline StateOutline defined.eqn_step defined.arm_step defined.body_step defined.state_step (map-State TheEqn TheArm TheBody TheState Eqn Arm Body State (λ e. e.0) (λ a. a.0) (λ b. b.0) (λ s. s.0) y)) l)
      (sym (fold-roll-State Bool Bool Bool Bool crossed_eqn crossed_arm crossed_body crossed_state (map-State TheEqn TheArm TheBody TheState Eqn Arm Body State (λ e. e.0) (λ a. a.0) (λ b. b.0) (λ s. s.0) y)) ∙ t))))
