-- What the walk of an equation makes keeps what a flat form keeps of types, form by form.
use Rattle.std.proofs.Common.{◌≡◌, ℕ, ◌+◌, ◌<◌, arith, Bool, true, false, if◌then◌else◌, is_some, List, [], ◌∷◌, map, length, Option, Some, None, refl}
use Rattle.std.specs.List.{AllByRecursion}
use Rattle.zl_value.specs.declared.position.Pos.{Pos}
use Rattle.zl_value.specs.declared.value.Ty.{Ty}
use Rattle.zl_value.specs.declared.value.Ty.TheVariants.{Bool as BoolTy, Float, Zero}
use Rattle.zl_ast.specs.declared.name.Name.{Name}
use Rattle.zl_meaning.specs.FlatForm.{FlatForm}
use Rattle.zl_meaning.specs.WellFormed.{HasType}
use Rattle.zl_meaning.specs.declared.block.BlockKind.TheVariants.{Arm as ArmOf, Guard, State as StateOf, Reset}
use Rattle.zl_meaning.specs.declared.block.Choice.{Choice}
use Rattle.zl_meaning.specs.declared.block.Auto.{Auto}
use Rattle.zl_meaning.specs.declared.place.Definer.TheVariants.{Der}
use Rattle.zl_meaning.specs.declared.occurrence.Form.TheVariants.{Up as UpOf, Fired}
use Rattle.zl_flat.specs.declared.here.Here.{Here}
use Rattle.zl_flat.specs.declared.here.Root.{Root}
use Rattle.zl_flat.specs.Parts.{Counters, nothing, joined, one_block, one_place, some_definers, one_site, after, past_block, past_occ, past_hidden, past_site, past_choice, past_automaton}
use Rattle.zl_flat.specs.Variables.{variable_of, is_first}
use Rattle.zl_flat.specs.Instances.{Instance, in_body, in_block, inner_block, place_here, occ_here, site_here}
use Rattle.zl_flat.specs.Expressions.{Walk}
use Rattle.zl_flat.specs.Equations.{Making, in_turn, Tested, TestedAll, Testing, test_all, place_number, place_type, plain_definers, right_roots, StateMade, StateWalk, StatesMade, states_made, state_names, ArmWalk, arms_made, body_of_choice, ResetWalk, ResetsMade, start_definers, MoveWalk, name_made, names_made, crossing, event, tested, plain, resets_made, start_made, der, init, other_made, present, automaton, reset, condition_place, moves_made, state_made, arm_made, body_made}
use Rattle.zl_flat.proofs.WellFormedParts.{each-nothing, each-joined, each-left, each-right, each-one_place, each-some_definers, occ-first, behind-occ, hidden-first, behind-hidden, site-first, behind-site, block-first, behind-block, choice-first, behind-choice, automaton-first, behind-automaton}
use Rattle.zl_flat.proofs.WellFormedGround.{standing, Sits}
use Rattle.zl_flat.proofs.WellFormedTypes.{OfType, ArmTyped, GivenTyped, StateTyped, typing, KeepsTypes, RootTyped, RootsTyped}
use Rattle.zl_flat.proofs.WellFormedTypesExprs.{WalkTyped, ResultsTyped, here-of-type, occ-typed}

pub record TestTypes (f : FlatForm) (ty : Ty) (s : Counters) (t : Tested) : Type 0 where
  pub parts : KeepsTypes f s t.parts
  pub test : OfType f ty t.test

pub record TestsTypes (f : FlatForm) (ty : Ty) (s : Counters) (t : TestedAll) : Type 0 where
  pub parts : KeepsTypes f s t.parts
  pub tests : AllByRecursion (OfType f ty) t.tests

pub record ResetsTypes (f : FlatForm) (s : Counters) (r : ResetsMade) : Type 0 where
  pub parts : KeepsTypes f s r.parts
  pub arms : AllByRecursion (ArmTyped f) r.arms

pub record StateTypes (f : FlatForm) (s : Counters) (m : StateMade) : Type 0 where
  pub parts : KeepsTypes f s m.parts
  pub moves : StateTyped f m.moves

pub record StatesTypes (f : FlatForm) (s : Counters) (m : StatesMade) : Type 0 where
  pub parts : KeepsTypes f s m.parts
  pub states : AllByRecursion (StateTyped f) m.states

module _ (f : FlatForm) (base : ℕ) where
  abbrev pub MakingTyped : Making → Type 0
  MakingTyped m = (here : Here) (s : Counters) → Sits f base s (m here s) → KeepsTypes f s (m here s)

  abbrev pub TestingTyped : Ty → Testing → Type 0
  TestingTyped ty t = (here : Here) (s : Counters) → Sits f base s (t here s).parts → TestTypes f ty s (t here s)

  abbrev pub ArmWalkTyped : ArmWalk → Type 0
  ArmWalkTyped w = (of number : ℕ) (here : Here) (s : Counters) → Sits f base s (w of number here s).parts → TestTypes f BoolTy s (w of number here s)

  abbrev pub StateWalkTyped : StateWalk → Type 0
  StateWalkTyped w = (of number : ℕ) (states : List ℕ) (here : Here) (s : Counters) → Sits f base s (w.walk of number states here s).parts → StateTypes f s (w.walk of number states here s)

  pub record ResetWalkTyped (w : ResetWalk) : Type 0 where
    pub event : TestingTyped BoolTy w.event
    pub value : WalkTyped f base Float w.value

  pub record MoveWalkTyped (m : MoveWalk) : Type 0 where
    pub test : TestingTyped BoolTy m.test

  -- ---- one behind the other

  -- what is made one behind the other keeps types where each does
  pub in_turn-typed : (ms : List Making) → AllByRecursion MakingTyped ms → MakingTyped (in_turn ms)
  in_turn-typed [] hs here s sits = each-nothing (typing f) s
  in_turn-typed (m ∷ ms) hs here s sits =
      let first = m here s in
      let rest = in_turn ms here (after s first) in
      each-joined (typing f) s first rest (hs.0 here s (each-left (standing f base) s first rest sits)) (in_turn-typed ms hs.1 here (after s first) (each-right (standing f base) s first rest sits))

  -- tests of one type one behind the other
  test_all-typed : (ty : Ty) (ts : List Testing) → AllByRecursion (TestingTyped ty) ts → (here : Here) (s : Counters) → Sits f base s (test_all ts here s).parts → TestsTypes f ty s (test_all ts here s)
  test_all-typed ty [] hs here s sits = record { parts = each-nothing (typing f) s; tests = tt }
  test_all-typed ty (t ∷ ts) hs here s sits =
      let first = t here s in
      let rest = test_all ts here (after s first.parts) in
      let a = hs.0 here s (each-left (standing f base) s first.parts rest.parts sits) in
      let b = test_all-typed ty ts hs.1 here (after s first.parts) (each-right (standing f base) s first.parts rest.parts sits) in
      record { parts = each-joined (typing f) s first.parts rest.parts a.parts b.parts; tests = (a.test, b.tests) }

  -- ---- conditions

  module _ (names : List (List ℕ)) (i : Instance) where
    -- an `up` of a float has its type
    pub crossing-typed : (at : Pos) (x : Walk) → WalkTyped f base Float x → TestingTyped Zero (crossing base names i at x)
    crossing-typed at x hx here s sits =
        let t = past_occ s in
        let arg = x here (past_site t) in
        let own = occ_here here Zero at (UpOf s.sites) in
        let site = site_here here arg.root.occ at in
        let both = behind-occ (standing f base) s own (joined (one_site site) arg.parts) sits in
        let inner = behind-site (standing f base) t site arg.parts both.1 in
        let a = hx here (past_site t) inner.1 in
        record {
          parts = occ-first (typing f) s own (joined (one_site site) arg.parts) (record { form = refl; crossing = λ e. (s.sites, refl) }) (site-first (typing f) t site arg.parts a.root.occ a.parts);
          test = here-of-type f base s.occs here Zero at (UpOf s.sites) both.0;
        }

    -- an event of `up`s is bool
    pub event-typed : (at : Pos) (ts : List Testing) → AllByRecursion (TestingTyped Zero) ts → TestingTyped BoolTy (event base names i at ts)
    event-typed at ts hs here s sits =
        let ups = test_all ts here (past_hidden s) in
        let own = occ_here here BoolTy at (Fired ups.tests) in
        let both = behind-hidden (standing f base) s own ups.parts sits in
        let a = test_all-typed Zero ts hs here (past_hidden s) both.1 in
        record {
          parts = hidden-first (typing f) s own ups.parts (occ-typed f base here BoolTy at (Fired ups.tests) (λ e. differ e) (a.tests, refl)) a.parts;
          test = here-of-type f base (base + s.hidden) here BoolTy at (Fired ups.tests) both.0;
        }
      where
        differ : BoolTy ≡ Zero → ⊥
        differ e = cc

    -- a test is bool
    pub tested-typed : (x : Walk) → WalkTyped f base BoolTy x → TestingTyped BoolTy (tested base names i x)
    tested-typed x hx here s sits = let a = hx here s sits in record { parts = a.parts; test = a.root.occ }

    -- ---- names

    -- no variable of the copy has the type of an `up`
    abbrev pub VariablesTyped : Type 0
    VariablesTyped = (id : ℕ) → place_type (variable_of i.variables id) ≡ Zero → ⊥

    -- the place of the variable with this name has this type
    abbrev pub NameTyped : Ty → Name → Type 0
    NameTyped ty x = HasType f ty (place_number (variable_of i.variables x.id))

    -- as far as both lists go
    abbrev pub NamesTyped : List Ty → List Name → Type 0
    NamesTyped (ty ∷ tys) (x ∷ xs) = NameTyped ty x × NamesTyped tys xs
    NamesTyped _ _ = Unit {0}

    -- a variable's place doesn't have the type of an `up`
    place-typed : (b : Bool) (ty : Ty) (name : ℕ) (at : Pos) (here : Here) (s : Counters) → (ty ≡ Zero → ⊥) → KeepsTypes f s (if b then one_place (place_here here ty name at) else nothing)
    place-typed true ty name at here s z = each-one_place (typing f) s (place_here here ty name at) z
    place-typed false ty name at here s z = each-nothing (typing f) s

    -- a name makes at most its place
    name-typed : VariablesTyped → (x : Name) → MakingTyped (name_made base names i x)
    name-typed z x here s sits = place-typed (is_first i.infos x) (place_type (variable_of i.variables x.id)) x.id x.at here s (z x.id)

    -- so does each of these names
    all-names : VariablesTyped → (xs : List Name) → AllByRecursion MakingTyped (map (name_made base names i) xs)
    all-names z [] = tt
    all-names z (x ∷ xs) = (name-typed z x, all-names z xs)

    -- names make their places alone
    names-typed : VariablesTyped → (xs : List Name) → MakingTyped (names_made base names i xs)
    names-typed z xs = in_turn-typed (map (name_made base names i) xs) (all-names z xs)

    -- ---- plain equations

    -- each definer has the type of its place
    plain_definers-typed : (here : Here) (tys : List Ty) (xs : List Name) (rs : List Root) → NamesTyped tys xs → RootsTyped f tys rs → AllByRecursion (GivenTyped f) (plain_definers i here xs rs)
    plain_definers-typed here tys [] rs n h = tt
    plain_definers-typed here tys (x ∷ xs) [] n h = tt
    plain_definers-typed here [] (x ∷ xs) (r ∷ rs) n h = absurd h
    plain_definers-typed here (ty ∷ tys) (x ∷ xs) (r ∷ rs) n h = let a = h.0 in (record { ty = ty; place = n.0; definer = a.occ }, plain_definers-typed here tys xs rs n.1 h.1)

    -- what stands on the left has the types of what stands on the right, which has this type if it has one result
    abbrev pub LeftTyped : List Name → Ty → Walk → Type 0
    LeftTyped [] ty w = Unit {0}
    LeftTyped (x ∷ []) ty w = NameTyped ty x
    LeftTyped (x ∷ y ∷ xs) ty w = (tys : List Ty) × NamesTyped tys (x ∷ y ∷ xs) × ResultsTyped f base tys w

    -- the definers of a left side have the types of its places
    left-definers : (left : List Name) (ty : Ty) (w : Walk) (here : Here) (s : Counters) → LeftTyped left ty w → Sits f base s (w here s).parts → RootTyped f ty (w here s).root → AllByRecursion (GivenTyped f) (plain_definers i here left (right_roots left (w here s)))
    left-definers [] ty w here s l sits r = tt
    left-definers (x ∷ []) ty w here s l sits r = plain_definers-typed here (ty ∷ []) (x ∷ []) ((w here s).root ∷ []) (l, tt) (r, tt)
    left-definers (x ∷ y ∷ xs) ty w here s l sits r = plain_definers-typed here l.0 (x ∷ y ∷ xs) (w here s).results l.1 (l.2 here s sits)

    -- a plain equation keeps types
    pub plain-typed : VariablesTyped → (left : List Name) (ty : Ty) (right : Walk) → WalkTyped f base ty right → LeftTyped left ty right → MakingTyped (plain base names i left right)
    plain-typed z left ty right hr l here s sits =
        let first = names_made base names i left (in_body i here) s in
        let t = after s first in
        let e = right here t in
        let definers = plain_definers i here left (right_roots left e) in
        let rest = joined e.parts (some_definers definers) in
        let inner = each-right (standing f base) s first rest sits in
        let own = each-left (standing f base) t e.parts (some_definers definers) inner in
        let a = hr here t own in
        each-joined (typing f) s first rest (names-typed z left (in_body i here) s (each-left (standing f base) s first rest sits))
        (each-joined (typing f) t e.parts (some_definers definers) a.parts (each-some_definers (typing f) (after t e.parts) definers (left-definers left ty right here t l own a.root)))

    -- an `init` keeps types
    pub init-typed : VariablesTyped → (x : Name) (ty : Ty) (value : Walk) → WalkTyped f base ty value → NameTyped ty x → MakingTyped (init base names i x value)
    init-typed z x ty value hr n here s sits =
        let first = name_made base names i x (in_body i here) s in
        let t = after s first in
        let e = value here t in
        let definers = start_definers (place_number (variable_of i.variables x.id)) here (Some e.root.occ) in
        let rest = joined e.parts (some_definers definers) in
        let inner = each-right (standing f base) s first rest sits in
        let a = hr here t (each-left (standing f base) t e.parts (some_definers definers) inner) in
        each-joined (typing f) s first rest (name-typed z x (in_body i here) s (each-left (standing f base) s first rest sits))
        (each-joined (typing f) t e.parts (some_definers definers) a.parts (each-some_definers (typing f) (after t e.parts) definers (record { ty = ty; place = n; definer = a.root.occ }, tt)))

    -- ---- `der`

    -- reset arms keep types
    resets-typed : (rs : List ResetWalk) → AllByRecursion ResetWalkTyped rs → (here : Here) (s : Counters) → Sits f base s (resets_made base names i rs here s).parts → ResetsTypes f s (resets_made base names i rs here s)
    resets-typed [] hs here s sits = record { parts = each-nothing (typing f) s; arms = tt }
    resets-typed (r ∷ rs) hs here s sits =
        let test = r.event here s in
        let t = after s test.parts in
        let value = r.value here t in
        let u = after t value.parts in
        let rest = resets_made base names i rs here u in
        let inner = each-right (standing f base) s test.parts (joined value.parts rest.parts) sits in
        let a = hs.0.event here s (each-left (standing f base) s test.parts (joined value.parts rest.parts) sits) in
        let b = hs.0.value here t (each-left (standing f base) t value.parts rest.parts inner) in
        let c = resets-typed rs hs.1 here u (each-right (standing f base) t value.parts rest.parts inner) in
        record {
          parts = each-joined (typing f) s test.parts (joined value.parts rest.parts) a.parts (each-joined (typing f) t value.parts rest.parts b.parts c.parts);
          arms = ((a.test, b.root.occ), c.arms);
        }

    abbrev pub StartTyped : Option Walk → Type 0
    StartTyped None = Unit {0}
    StartTyped (Some x) = WalkTyped f base Float x

    -- an `init` behind a `der` keeps types
    start-typed : (start : Option Walk) → StartTyped start → (p : ℕ) → HasType f Float p → (here : Here) (s : Counters) → Sits f base s (start_made base names i start here s).parts →
        KeepsTypes f s (start_made base names i start here s).parts × AllByRecursion (GivenTyped f) (start_definers p here (start_made base names i start here s).value)
    start-typed None hx p n here s sits = (each-nothing (typing f) s, tt)
    start-typed (Some x) hx p n here s sits = let a = hx here s sits in (a.parts, (record { ty = Float; place = n; definer = a.root.occ }, tt))

    -- a `der` keeps types
    pub der-typed : VariablesTyped → (x : Name) (slope : Walk) (start : Option Walk) (resets : List ResetWalk) → NameTyped Float x → WalkTyped f base Float slope → StartTyped start → AllByRecursion ResetWalkTyped resets → MakingTyped (der base names i x slope start resets)
    der-typed z x slope start resets n hslope hstart hresets here s sits =
        let first = name_made base names i x (in_body i here) s in
        let p = place_number (variable_of i.variables x.id) in
        let t = after s first in
        let e = slope here t in
        let u = after t e.parts in
        let begin = start_made base names i start here u in
        let v = after u begin.parts in
        let arms = resets_made base names i resets here v in
        let definers = record { place = p; definer = Der here.block e.root.occ arms.arms } ∷ start_definers p here begin.value in
        let rest4 = joined arms.parts (some_definers definers) in
        let rest3 = joined begin.parts rest4 in
        let rest2 = joined e.parts rest3 in
        let in2 = each-right (standing f base) s first rest2 sits in
        let in3 = each-right (standing f base) t e.parts rest3 in2 in
        let in4 = each-right (standing f base) u begin.parts rest4 in3 in
        let a = hslope here t (each-left (standing f base) t e.parts rest3 in2) in
        let b = start-typed start hstart p n here u (each-left (standing f base) u begin.parts rest4 in3) in
        let c = resets-typed resets hresets here v (each-left (standing f base) v arms.parts (some_definers definers) in4) in
        each-joined (typing f) s first rest2 (name-typed z x (in_body i here) s (each-left (standing f base) s first rest2 sits))
        (each-joined (typing f) t e.parts rest3 a.parts
        (each-joined (typing f) u begin.parts rest4 b.0
        (each-joined (typing f) v arms.parts (some_definers definers) c.parts
        (each-some_definers (typing f) (after v arms.parts) definers (record { ty = Float; place = n; definer = (refl, a.root.occ, c.arms) }, b.1)))))

    -- ---- blocks

    -- a `reset` keeps types
    pub reset-typed : (eqs : List Making) (c : Testing) → AllByRecursion MakingTyped eqs → TestingTyped BoolTy c → MakingTyped (reset base names i eqs c)
    reset-typed eqs c heqs hc here s sits =
        let t = past_block s in
        let below = in_block s.blocks here.hybrid here in
        let inside = in_turn eqs below t in
        let test = c here (after t inside) in
        let own = inner_block here (Reset test.test) here.hybrid in
        let both = behind-block (standing f base) s own (joined inside test.parts) sits in
        let a = in_turn-typed eqs heqs below t (each-left (standing f base) t inside test.parts both.1) in
        let b = hc here (after t inside) (each-right (standing f base) t inside test.parts both.1) in
        block-first (typing f) s own (joined inside test.parts) b.test (each-joined (typing f) t inside test.parts a b.parts)

    -- a body of a choice keeps types
    body_of_choice-typed : (body : Making) → MakingTyped body → (of number : ℕ) (here : Here) (s : Counters) → Sits f base s (body_of_choice body of number here s) → KeepsTypes f s (body_of_choice body of number here s)
    body_of_choice-typed body hb of number here s sits =
        let t = past_block s in
        let below = in_block s.blocks false here in
        let own = inner_block here (ArmOf of number) false in
        let both = behind-block (standing f base) s own (body below t) sits in
        block-first (typing f) s own (body below t) tt (hb below t both.1)

    -- an arm keeps types, and its test is bool
    pub arm-typed : (c : Testing) (body : Making) → TestingTyped BoolTy c → MakingTyped body → ArmWalkTyped (arm_made base names i c body)
    arm-typed c body hc hb of number here s sits =
        let test = c here s in
        let t = after s test.parts in
        let rest = body_of_choice body of number here t in
        let a = hc here s (each-left (standing f base) s test.parts rest sits) in
        record { parts = each-joined (typing f) s test.parts rest a.parts (body_of_choice-typed body hb of number here t (each-right (standing f base) s test.parts rest sits)); test = a.test }

    -- ---- `present`

    -- arms keep types, and their tests are bool
    arms-typed : (ws : List ArmWalk) → AllByRecursion ArmWalkTyped ws → (of number : ℕ) (here : Here) (s : Counters) → Sits f base s (arms_made ws of number here s).parts → TestsTypes f BoolTy s (arms_made ws of number here s)
    arms-typed [] hs of number here s sits = record { parts = each-nothing (typing f) s; tests = tt }
    arms-typed (w ∷ ws) hs of number here s sits =
        let first = w of number here s in
        let t = after s first.parts in
        let rest = arms_made ws of (number + 1) here t in
        let a = hs.0 of number here s (each-left (standing f base) s first.parts rest.parts sits) in
        let b = arms-typed ws hs.1 of (number + 1) here t (each-right (standing f base) s first.parts rest.parts sits) in
        record { parts = each-joined (typing f) s first.parts rest.parts a.parts b.parts; tests = (a.test, b.tests) }

    abbrev pub OtherTyped : Option Making → Type 0
    OtherTyped None = Unit {0}
    OtherTyped (Some b) = MakingTyped b

    -- an `else` keeps types
    other-typed : (other : Option Making) → OtherTyped other → (of number : ℕ) (here : Here) (s : Counters) → Sits f base s (other_made base names i other of number here s) → KeepsTypes f s (other_made base names i other of number here s)
    other-typed None hb of number here s sits = each-nothing (typing f) s
    other-typed (Some b) hb of number here s sits = body_of_choice-typed b hb of number here s sits

    -- a `present` keeps types
    pub present-typed : (arms : List ArmWalk) (other : Option Making) → AllByRecursion ArmWalkTyped arms → OtherTyped other → MakingTyped (present base names i arms other)
    present-typed arms other ha ho here s sits =
        let t = past_choice s in
        let bodies = arms_made arms s.choices 0 here t in
        let u = after t bodies.parts in
        let last_body = other_made base names i other s.choices (length arms) here u in
        let own : Choice = record { block = here.block; conds = bodies.tests; other = is_some other } in
        let both = behind-choice (standing f base) s own (joined bodies.parts last_body) sits in
        let a = arms-typed arms ha s.choices 0 here t (each-left (standing f base) t bodies.parts last_body both.1) in
        let b = other-typed other ho s.choices (length arms) here u (each-right (standing f base) t bodies.parts last_body both.1) in
        choice-first (typing f) s own (joined bodies.parts last_body) a.tests (each-joined (typing f) t bodies.parts last_body a.parts b)

    -- ---- `automaton`

    -- the tests of moves are bool
    moves-typed : (ms : List MoveWalk) → AllByRecursion MoveWalkTyped ms → (guard body : ℕ) (states : List ℕ) (here : Here) (s : Counters) → Sits f base s (moves_made base names i ms guard body states here s).parts → StateTypes f s (moves_made base names i ms guard body states here s)
    moves-typed [] hs guard body states here s sits = record { parts = each-nothing (typing f) s; moves = tt }
    moves-typed (m ∷ ms) hs guard body states here s sits =
        let inside = condition_place m.strong guard body here in
        let test = m.test inside s in
        let t = after s test.parts in
        let rest = moves_made base names i ms guard body states here t in
        let a = hs.0.test inside s (each-left (standing f base) s test.parts rest.parts sits) in
        let b = moves-typed ms hs.1 guard body states here t (each-right (standing f base) s test.parts rest.parts sits) in
        record { parts = each-joined (typing f) s test.parts rest.parts a.parts b.parts; moves = (a.test, b.moves) }

    -- a state keeps types
    pub state-typed : (name : Name) (body : Making) (moves : List MoveWalk) → MakingTyped body → AllByRecursion MoveWalkTyped moves → StateWalkTyped (record { name = name; walk = state_made base names i body moves })
    state-typed name body moves hb hm of number states here s sits =
        let t = past_block s in
        let u = past_block t in
        let below_body = in_block (s.blocks + 1) here.hybrid here in
        let inside = body below_body u in
        let v = after u inside in
        let rest = moves_made base names i moves s.blocks (s.blocks + 1) states here v in
        let guard_block = inner_block here (Guard of number) here.hybrid in
        let body_block = inner_block here (StateOf of number) here.hybrid in
        let first = behind-block (standing f base) s guard_block (joined (one_block body_block) (joined inside rest.parts)) sits in
        let second = behind-block (standing f base) t body_block (joined inside rest.parts) first.1 in
        let a = hb below_body u (each-left (standing f base) u inside rest.parts second.1) in
        let b = moves-typed moves hm s.blocks (s.blocks + 1) states here v (each-right (standing f base) u inside rest.parts second.1) in
        record {
          parts = block-first (typing f) s guard_block (joined (one_block body_block) (joined inside rest.parts)) tt
              (block-first (typing f) t body_block (joined inside rest.parts) tt (each-joined (typing f) u inside rest.parts a b.parts));
          moves = b.moves;
        }

    -- states keep types
    states-typed : (ws : List StateWalk) → AllByRecursion StateWalkTyped ws → (of number : ℕ) (all : List ℕ) (here : Here) (s : Counters) → Sits f base s (states_made ws of number all here s).parts → StatesTypes f s (states_made ws of number all here s)
    states-typed [] hs of number all here s sits = record { parts = each-nothing (typing f) s; states = tt }
    states-typed (w ∷ ws) hs of number all here s sits =
        let first = w.walk of number all here s in
        let t = after s first.parts in
        let rest = states_made ws of (number + 1) all here t in
        let a = hs.0 of number all here s (each-left (standing f base) s first.parts rest.parts sits) in
        let b = states-typed ws hs.1 of (number + 1) all here t (each-right (standing f base) s first.parts rest.parts sits) in
        record { parts = each-joined (typing f) s first.parts rest.parts a.parts b.parts; states = (a.moves, b.states) }

    -- there are as many states as walks
    states-length : (ws : List StateWalk) (of number : ℕ) (all : List ℕ) (here : Here) (s : Counters) → length (states_made ws of number all here s).states ≡ length ws
    states-length [] of number all here s = refl
    states-length (w ∷ ws) of number all here s = let e = states-length ws of (number + 1) all here (after s (w.walk of number all here s).parts) in omega (arith, e)

    -- an automaton that has a state keeps types
    pub automaton-typed : (states : List StateWalk) → 0 < length states → AllByRecursion StateWalkTyped states → MakingTyped (automaton base names i states)
    automaton-typed states some hs here s sits =
        let t = past_automaton s in
        let made = states_made states s.automata 0 (state_names states) here t in
        let own : Auto = record { block = here.block; states = made.states } in
        let both = behind-automaton (standing f base) s own made.parts sits in
        let a = states-typed states hs s.automata 0 (state_names states) here t both.1 in
        let count = states-length states s.automata 0 (state_names states) here t in
        automaton-first (typing f) s own made.parts (record { some = omega (arith, count, some); states = a.states }) a.parts

    -- locals and equations keep types
    pub body-typed : VariablesTyped → (locals : List Name) (eqs : List Making) → AllByRecursion MakingTyped eqs → MakingTyped (body_made base names i locals eqs)
    body-typed z locals eqs he here s sits =
        let first = names_made base names i locals here s in
        let rest = in_turn eqs here (after s first) in
        each-joined (typing f) s first rest (names-typed z locals here s (each-left (standing f base) s first rest sits)) (in_turn-typed eqs he here (after s first) (each-right (standing f base) s first rest sits))
