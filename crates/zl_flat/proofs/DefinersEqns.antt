-- The definers that the walks of equations make: own ones of their names, and those of calls; those of one place are never
-- active together.
use Rattle.std.proofs.Common.{◌≡◌, inl, ℕ, suc, ◌+◌, Bool, true, false, if◌then◌else◌, nat_eq, is_some, List, [], ◌∷◌, map, length, slice_get, Option, Some, None, refl, sym, ap, subst, ◌∙◌, arith}
use Rattle.std.specs.List.{AllByRecursion}
use Rattle.zl_value.specs.declared.position.Pos.{Pos}
use Rattle.zl_value.specs.declared.value.Ty.{Ty}
use Rattle.zl_value.specs.declared.value.Ty.TheVariants.{Bool as BoolTy, Zero}
use Rattle.zl_value.specs.declared.rule.Rule.TheVariants as rule
use Rattle.zl_ast.specs.declared.name.Name.{Name}
use Rattle.zl_ast.specs.declared.scope.VarInfo.{VarInfo}
use Rattle.zl_ast.specs.declared.scope.VarClass.TheVariants as class
use Rattle.zl_ast.specs.Names.{among, with_id, with_ids, ids_of, repeats, broken_if}
use Rattle.zl_ast.specs.NamesDefined.{Outline, entry, first_places, nothing as no_outline, both as both_outlines, together, clashing, with_broken, list_from, under, StateOutline, state_among, states_among, state_names as outline_names, automaton_outline, one_defined, left_outline, other_outline}
use Rattle.zl_meaning.specs.FlatForm.{FlatForm, kind_of, place_call, IsWithin, Same}
use Rattle.zl_meaning.specs.Single.{OfChoice, OfAutomaton, definer_block, is_start}
use Rattle.zl_meaning.specs.declared.block.BlockKind.{BlockKind}
use Rattle.zl_meaning.specs.declared.block.BlockKind.TheVariants.{Arm as ArmOf, Guard, State as StateOf, Reset}
use Rattle.zl_meaning.specs.declared.place.Definer.TheVariants.{Plain, Start}
use Rattle.zl_meaning.specs.declared.occurrence.Form.TheVariants.{Up as UpOf, Fired}
use Rattle.zl_flat.specs.declared.here.Here.{Here}
use Rattle.zl_flat.specs.declared.here.Root.{Root}
use Rattle.zl_flat.specs.declared.given.Given.{Given}
use Rattle.zl_flat.specs.Parts.{Parts, Counters, nothing, joined, one_block, one_place, some_definers, one_site, after, past_block, past_occ, past_hidden, past_site, past_choice, past_automaton}
use Rattle.zl_flat.specs.Variables.{variable_of, is_first}
use Rattle.zl_flat.specs.Instances.{Instance, in_body, in_block, inner_block, place_here, occ_here, site_here}
use Rattle.zl_flat.specs.Expressions.{Walk}
use Rattle.zl_flat.specs.Equations.{Making, in_turn, Testing, test_all, place_number, place_type, given, derivative, plain_definers, right_roots, StateWalk, states_made, state_names, ArmWalk, arms_made, body_of_choice, ResetWalk, start_definers, MoveWalk, name_made, names_made, crossing, event, tested, plain, resets_made, start_made, der, init, other_made, present, automaton, reset, condition_place, moves_made, state_made, arm_made, body_made}
use Rattle.zl_flat.proofs.RulesKept.{none-right, IsVariable}
use Rattle.zl_flat.proofs.DefinersNames.{or-left, or-right, one-among, has-with_id}
use Rattle.zl_flat.proofs.DefinersOutlines.{HasEntries, HasName, IsSound, name-left, name-right, name-under, sound-others, names-apart}
use Rattle.zl_flat.proofs.DefinersDeclared.{not-repeated}
use Rattle.zl_flat.proofs.DefinersSpread.{Clear, Spaced, Never, Defines, defines-flat, defines-joined, never-first, never-last, defines-hidden, defines-occ, defines-site}
use Rattle.zl_flat.proofs.DefinersExprs.{WalkDefines, defines-nothing}
use Rattle.zl_flat.proofs.DefinersOwn.{inner-within, inner-kind, ArePlaced, IsOwn, IsOwnInBody, own-named, own-wider, body-named, own-clear, bodies-clear, defines-more, defines-choice, defines-automaton, defines-block, defines-definers}
use Rattle.std.proofs.lemmas.Bool.{eq-eqb}
use Rattle.zl_meaning.specs.declared.place.Definer.{Definer}
use Rattle.zl_meaning.specs.declared.place.DerArm.{DerArm}

-- it holds of the entries of two lists, one by one
abbrev pub Pairwise : {X Y : Type 0} → (X → Y → Type 0) → List X → List Y → Type 0
Pairwise R [] [] = Unit {0}
Pairwise R (x ∷ xs) (y ∷ ys) = R x y × Pairwise R xs ys
Pairwise R _ _ = ⊥

-- a place holds no definers
place-free : (b : Bool) (ty : Ty) (name : ℕ) (at : Pos) (here : Here) → (if b then one_place (place_here here ty name at) else nothing).definers ≡ []
unfolding one_place nothing
place-free true ty name at here = refl
place-free false ty name at here = refl

module _ (f : FlatForm) (base : ℕ) (i : Instance) where
  -- what is made by names of this outline, in a copy whose variables are placed
  abbrev pub MakingDefines : Making → Outline → Type 0
  MakingDefines m o = (here : Here) (s : Counters) → ArePlaced f i here.call → Defines f base here.call (IsOwn f i o here.block) s (m here s)

  -- a condition makes no definers but those of calls
  abbrev pub TestingDefines : Testing → Type 0
  TestingDefines t = (here : Here) (s : Counters) → Defines f base here.call Never s (t here s).parts

  -- an arm makes its definers in its body, and so does a state
  abbrev pub ArmWalkDefines : ArmWalk → Outline → Type 0
  ArmWalkDefines w o = (of number : ℕ) (here : Here) (s : Counters) → ArePlaced f i here.call → Defines f base here.call (IsOwnInBody f i o here.block (ArmOf of) number (number + 1)) s (w of number here s).parts

  abbrev pub StateWalkDefines : StateWalk → Outline → Type 0
  StateWalkDefines w o = (of number : ℕ) (states : List ℕ) (here : Here) (s : Counters) → ArePlaced f i here.call → Defines f base here.call (IsOwnInBody f i o here.block (StateOf of) number (number + 1)) s (w.walk of number states here s).parts

  pub record ResetWalkDefines (w : ResetWalk) : Type 0 where
    pub event : TestingDefines w.event
    pub value : WalkDefines f base w.value

  pub record MoveWalkDefines (m : MoveWalk) : Type 0 where
    pub test : TestingDefines m.test

  -- ---- one behind the other

  -- equations of one list that break no rule of names
  pub in_turn-defines : (valued started : List ℕ) (ms : List Making) (os : List Outline) → IsSound (IsVariable i) (list_from valued started os) → AllByRecursion HasEntries os → Pairwise MakingDefines ms os → MakingDefines (in_turn ms) (list_from valued started os)
  in_turn-defines valued started [] [] sound has h here s placed = defines-nothing f base (IsOwn f i no_outline here.block) here s
  in_turn-defines valued started [] (o ∷ os) sound has h here s placed = absurd h
  in_turn-defines valued started (m ∷ ms) [] sound has h here s placed = absurd h
  in_turn-defines valued started (m ∷ ms) (o ∷ os) sound has h here s placed =
      let first = m here s in
      let whole = list_from valued started (o ∷ os) in
      let front = with_broken o (first_places (clashing valued started o) [] o.entries) in
      let rest = list_from (with_ids valued o.valued) (with_ids started o.started) os in
      defines-joined f base here.call (IsOwn f i o here.block) (IsOwn f i rest here.block) (IsOwn f i whole here.block) s first (in_turn ms here (after s first))
      (own-named f i o whole (λ b id n. name-left front rest b id n) here.block) (own-named f i rest whole (λ b id n. name-right front rest b id n) here.block)
      (own-clear f i here.call placed o rest here.block here.block (names-apart (IsVariable i) valued started o os sound has.0 has.1))
      (h.0 here s placed) (in_turn-defines (with_ids valued o.valued) (with_ids started o.started) ms os (sound-others (IsVariable i) valued started o os sound) has.1 h.1 here (after s first) placed)

  -- `up`s one behind the other
  test_all-define : (ts : List Testing) → AllByRecursion TestingDefines ts → (here : Here) (s : Counters) → Defines f base here.call Never s (test_all ts here s).parts
  test_all-define [] hs here s = defines-nothing f base Never here s
  test_all-define (t ∷ ts) hs here s = let first = (t here s).parts in never-last f base here.call Never s first (test_all ts here (after s first)).parts (hs.0 here s) (test_all-define ts hs.1 here (after s first))

  module _ (names : List (List ℕ)) where
    -- ---- names

    -- names that are declared
    name-defines : (x : Name) (here : Here) (s : Counters) → Defines f base here.call Never s (name_made base names i x here s)
    name-defines x here s = defines-flat f base here.call Never s (name_made base names i x here s) (place-free (is_first i.infos x) (place_type (variable_of i.variables x.id)) x.id x.at here)

    names-define : (xs : List Name) (here : Here) (s : Counters) → Defines f base here.call Never s (names_made base names i xs here s)
    names-define [] here s = defines-nothing f base Never here s
    names-define (x ∷ xs) here s = let first = name_made base names i x here s in never-last f base here.call Never s first (names_made base names i xs here (after s first)) (name-defines x here s) (names-define xs here (after s first))

    -- ---- conditions

    -- an `up`
    pub crossing-defines : (at : Pos) (x : Walk) → WalkDefines f base x → TestingDefines (crossing base names i at x)
    crossing-defines at x hx here s =
        let t = past_site (past_occ s) in
        let arg = x here t in
        defines-occ f base here.call Never s (occ_here here Zero at (UpOf s.sites)) (joined (one_site (site_here here arg.root.occ at)) arg.parts) (defines-site f base here.call Never (past_occ s) (site_here here arg.root.occ at) arg.parts (hx here t))

    -- an event
    pub event-defines : (at : Pos) (ts : List Testing) → AllByRecursion TestingDefines ts → TestingDefines (event base names i at ts)
    event-defines at ts hs here s =
        let ups = test_all ts here (past_hidden s) in
        defines-hidden f base here.call Never s (occ_here here BoolTy at (Fired ups.tests)) ups.parts (test_all-define ts hs here (past_hidden s))

    -- a condition in parentheses
    pub tested-defines : (x : Walk) → WalkDefines f base x → TestingDefines (tested base names i x)
    tested-defines x hx here s = hx here s

    -- ---- plain equations

    -- the place of a variable that is there
    same-number : (x : Name) (h : IsVariable i x.id) → place_number (variable_of i.variables x.id) ≡ h.variable.place
    same-number x h = ap place_number h.is

    -- a definer here of a name
    own-here : (o : Outline) (here : Here) (x : Name) (definer : Definer) → ArePlaced f i here.call → IsVariable i x.id → definer_block definer ≡ here.block → HasName o (is_start definer) x.id →
        (place_call f (place_number (variable_of i.variables x.id)) ≡ here.call) × IsOwn f i o here.block (given (place_number (variable_of i.variables x.id)) definer)
    own-here o here x definer placed known block named = (
      ap (place_call f) (same-number x known) ∙ placed.called x.id known.variable known.is,
      record { id = x.id; variable = known.variable; is = known.is; place = same-number x known; named = named; within = subst (IsWithin f here.block) (sym block) Same },
    )

    -- the definers of the names on the left are own ones
    plain-own : (o : Outline) (here : Here) → ArePlaced f i here.call → (xs : List Name) (rs : List Root) → AllByRecursion (λ (x : Name). IsVariable i x.id × HasName o false x.id) xs →
        AllByRecursion (λ g. (place_call f g.place ≡ here.call) × IsOwn f i o here.block g) (plain_definers i here xs rs)
    plain-own o here placed [] rs h = tt
    plain-own o here placed (x ∷ xs) [] h = tt
    plain-own o here placed (x ∷ xs) (r ∷ rs) h = (own-here o here x (Plain here.block r.occ) placed h.0.0 refl h.0.1, plain-own o here placed xs rs h.1)

    -- a definer is clear of those of other places
    plain-differ : (here : Here) (g : Given) (xs : List Name) (rs : List Root) → AllByRecursion (λ (x : Name). g.place ≡ place_number (variable_of i.variables x.id) → ⊥) xs → AllByRecursion (Clear f g) (plain_definers i here xs rs)
    plain-differ here g [] rs h = tt
    plain-differ here g (x ∷ xs) [] h = tt
    plain-differ here g (x ∷ xs) (r ∷ rs) h = (λ e starts. absurd (h.0 e), plain-differ here g xs rs h.1)

    -- names that differ from one have other places
    others-differ : (call : Option ℕ) → ArePlaced f i call → (x : Name) → IsVariable i x.id → (xs : List Name) → AllByRecursion (λ (y : Name). IsVariable i y.id) xs → AllByRecursion (λ (y : Name). x.id ≡ y.id → ⊥) xs →
        AllByRecursion (λ (y : Name). place_number (variable_of i.variables x.id) ≡ place_number (variable_of i.variables y.id) → ⊥) xs
    others-differ call placed x known [] h k = tt
    others-differ call placed x known (y ∷ xs) h k =
        (λ e. k.0 (placed.differ x.id y.id known.variable h.0.variable known.is h.0.is (sym (same-number x known) ∙ e ∙ same-number y h.0)), others-differ call placed x known xs h.1 k.1)

    -- the definers of names that do not repeat are spaced
    plain-spaced : (here : Here) → ArePlaced f i here.call → (seen : List ℕ) (xs : List Name) (rs : List Root) → repeats rule.DefinedTwice seen xs ≡ [] → AllByRecursion (λ (x : Name). IsVariable i x.id) xs → Spaced f (plain_definers i here xs rs)
    plain-spaced here placed seen [] rs h known = tt
    plain-spaced here placed seen (x ∷ xs) [] h known = tt
    plain-spaced here placed seen (x ∷ xs) (r ∷ rs) h known =
        let more = none-right (broken_if (among seen x.id) rule.DefinedTwice x.at) (repeats rule.DefinedTwice (with_id seen x.id) xs) h in (
          plain-differ here (given (place_number (variable_of i.variables x.id)) (Plain here.block r.occ)) xs rs
              (others-differ here.call placed x known.0 xs known.1 (not-repeated rule.DefinedTwice (with_id seen x.id) xs more x.id (has-with_id seen x.id))),
          plain-spaced here placed (with_id seen x.id) xs rs more known.1,
        )

    -- the names on the left are variables, and names of the outline
    left-named : (o : Outline) (xs : List Name) → ((id : ℕ) → among (ids_of xs) id ≡ true → HasName o false id) → AllByRecursion (λ (v : VarInfo). IsVariable i v.name) (map (entry class.Top) xs) →
        AllByRecursion (λ (x : Name). IsVariable i x.id × HasName o false x.id) xs
    left-named o [] named h = tt
    left-named o (x ∷ xs) named h =
        ((h.0, named x.id (or-left (nat_eq x.id x.id) (among (ids_of xs) x.id) (eq-eqb x.id x.id refl))), left-named o xs (λ id k. named id (or-right (nat_eq id x.id) (among (ids_of xs) id) k)) h.1)

    left-known : (xs : List Name) → AllByRecursion (λ (v : VarInfo). IsVariable i v.name) (map (entry class.Top) xs) → AllByRecursion (λ (x : Name). IsVariable i x.id) xs
    left-known [] h = tt
    left-known (x ∷ xs) h = (h.0, left-known xs h.1)

    -- names, an expression, and definers of the names
    named-defines : (P : Given → Type 0) (first e : Parts) (definers : List Given) (here : Here) (s : Counters) → Defines f base here.call Never s first → Defines f base here.call Never (after s first) e →
        AllByRecursion (λ g. (place_call f g.place ≡ here.call) × P g) definers → Spaced f definers → Defines f base here.call P s (joined first (joined e (some_definers definers)))
    named-defines P first e definers here s hf he own spaced =
        never-first f base here.call P s first (joined e (some_definers definers)) hf
        (never-first f base here.call P (after s first) e (some_definers definers) he (defines-definers f base here.call P (after (after s first) e) definers own spaced))

    -- a plain equation
    pub plain-defines : (left : List Name) (right : Walk) → WalkDefines f base right → IsSound (IsVariable i) (left_outline left) → MakingDefines (plain base names i left right) (left_outline left)
    plain-defines left right hr sound here s placed =
        let o = left_outline left in
        let first = names_made base names i left (in_body i here) s in
        let e = right here (after s first) in
        named-defines (IsOwn f i o here.block) first e.parts (plain_definers i here left (right_roots left e)) here s
        (names-define left (in_body i here) s) (hr here (after s first))
        (plain-own o here placed left (right_roots left e) (left-named o left (λ id k. inl k) sound.known))
        (plain-spaced here placed [] left (right_roots left e) sound.kept (left-known left sound.known))

    -- an `init`
    pub init-defines : (x : Name) (value : Walk) → WalkDefines f base value → IsSound (IsVariable i) (one_defined x false true) → MakingDefines (init base names i x value) (one_defined x false true)
    init-defines x value hr sound here s placed =
        let o = one_defined x false true in
        let first = name_made base names i x (in_body i here) s in
        let e = value here (after s first) in
        let known = sound.known in
        named-defines (IsOwn f i o here.block) first e.parts (given (place_number (variable_of i.variables x.id)) (Start here.block e.root.occ) ∷ []) here s
        (name-defines x (in_body i here) s) (hr here (after s first))
        (own-here o here x (Start here.block e.root.occ) placed known.0 refl (inl (one-among x.id)), tt) (tt, tt)

    -- ---- `der`

    -- the reset arms of a `der`
    resets-define : (rs : List ResetWalk) → AllByRecursion ResetWalkDefines rs → (here : Here) (s : Counters) → Defines f base here.call Never s (resets_made base names i rs here s).parts
    resets-define [] hs here s = defines-nothing f base Never here s
    resets-define (r ∷ rs) hs here s =
        let test = r.event here s in
        let t = after s test.parts in
        let value = r.value here t in
        let u = after t value.parts in
        let rest = resets_made base names i rs here u in
        never-last f base here.call Never s test.parts (joined value.parts rest.parts) (hs.0.event here s) (never-last f base here.call Never t value.parts rest.parts (hs.0.value here t) (resets-define rs hs.1 here u))

    abbrev pub StartDefines : Option Walk → Type 0
    StartDefines None = Unit {0}
    StartDefines (Some x) = WalkDefines f base x

    start-defines : (start : Option Walk) → StartDefines start → (here : Here) (s : Counters) → Defines f base here.call Never s (start_made base names i start here s).parts
    start-defines None h here s = defines-nothing f base Never here s
    start-defines (Some x) h here s = h here s

    -- the `init` behind a `der`
    start-own : (x : Name) (here : Here) → ArePlaced f i here.call → IsVariable i x.id → (start : Option Walk) (s : Counters) →
        AllByRecursion (λ g. (place_call f g.place ≡ here.call) × IsOwn f i (one_defined x true (is_some start)) here.block g) (start_definers (place_number (variable_of i.variables x.id)) here (start_made base names i start here s).value)
    start-own x here placed known None s = tt
    start-own x here placed known (Some e) s = (own-here (one_defined x true true) here x (Start here.block (e here s).root.occ) placed known refl (inl (one-among x.id)), tt)

    -- a `der` and its `init` are clear of each other
    start-spaced : (p slope : ℕ) (resets : List DerArm) (here : Here) (start : Option ℕ) → Spaced f (given p (derivative here.block slope resets) ∷ start_definers p here start)
    start-spaced p slope resets here None = (tt, tt)
    start-spaced p slope resets here (Some e) = ((λ same starts. absurd (cc), tt), (tt, tt))

    -- a `der`
    pub der-defines : (x : Name) (slope : Walk) (start : Option Walk) (resets : List ResetWalk) → WalkDefines f base slope → StartDefines start → AllByRecursion ResetWalkDefines resets → IsSound (IsVariable i) (one_defined x true (is_some start)) →
        MakingDefines (der base names i x slope start resets) (one_defined x true (is_some start))
    der-defines x slope start resets hslope hstart hresets sound here s placed =
        let o = one_defined x true (is_some start) in
        let P = IsOwn f i o here.block in
        let first = name_made base names i x (in_body i here) s in
        let p = place_number (variable_of i.variables x.id) in
        let t = after s first in
        let e = slope here t in
        let u = after t e.parts in
        let begin = start_made base names i start here u in
        let v = after u begin.parts in
        let arms = resets_made base names i resets here v in
        let definers = given p (derivative here.block e.root.occ arms.arms) ∷ start_definers p here begin.value in
        let known = sound.known in
        never-first f base here.call P s first (joined e.parts (joined begin.parts (joined arms.parts (some_definers definers)))) (name-defines x (in_body i here) s)
        (never-first f base here.call P t e.parts (joined begin.parts (joined arms.parts (some_definers definers))) (hslope here t)
        (named-defines P begin.parts arms.parts definers here u (start-defines start hstart here u) (resets-define resets hresets here v)
        (own-here o here x (derivative here.block e.root.occ arms.arms) placed known.0 refl (inl (one-among x.id)), start-own x here placed known.0 start u)
        (start-spaced p e.root.occ arms.arms here begin.value)))

    -- ---- blocks

    -- a `reset` block
    pub reset-defines : (eqs : List Making) (os : List Outline) (c : Testing) → IsSound (IsVariable i) (list_from [] [] os) → AllByRecursion HasEntries os → Pairwise MakingDefines eqs os → TestingDefines c → MakingDefines (reset base names i eqs c) (list_from [] [] os)
    reset-defines eqs os c sound has heqs hc here s placed =
        let o = list_from [] [] os in
        let P = IsOwn f i o here.block in
        let b = s.blocks in
        let below = in_block b here.hybrid here in
        let t = past_block s in
        let inside = in_turn eqs below t in
        let test = c here (after t inside) in
        defines-block f base here.call P s (inner_block here (Reset test.test) here.hybrid) (joined inside test.parts)
        (λ is.
        never-last f base here.call P t inside test.parts
        (defines-more f base here.call (IsOwn f i o b) P t inside (own-wider f i o here.block b (inner-within f b (Reset test.test) here.hybrid here is)) (in_turn-defines [] [] eqs os sound has heqs below t placed))
        (hc here (after t inside)))

    -- an own definer in a body stands in a body of this number
    body-own : (o : Outline) (here : Here) (kind : ℕ → BlockKind) (number b : ℕ) → IsWithin f here.block b → kind_of f b ≡ Some (kind number) → (g : Given) → IsOwn f i o b g → IsOwnInBody f i o here.block kind number (number + 1) g
    body-own o here kind number b within kind_is g h = record {
      own = own-wider f i o here.block b within g h;
      inside = record { body = b; number = number; low = omega arith; high = omega arith; kind_is = kind_is; holds = h.within };
    }

    -- a body of a choice
    body_of_choice-defines : (body : Making) (o : Outline) → MakingDefines body o → (of number : ℕ) (here : Here) (s : Counters) → ArePlaced f i here.call →
        Defines f base here.call (IsOwnInBody f i o here.block (ArmOf of) number (number + 1)) s (body_of_choice body of number here s)
    body_of_choice-defines body o hb of number here s placed =
        let P = IsOwnInBody f i o here.block (ArmOf of) number (number + 1) in
        let b = s.blocks in
        let t = past_block s in
        let inside = body (in_block b false here) t in
        defines-block f base here.call P s (inner_block here (ArmOf of number) false) inside
        (λ is. defines-more f base here.call (IsOwn f i o b) P t inside (body-own o here (ArmOf of) number b (inner-within f b (ArmOf of number) false here is) (inner-kind f b (ArmOf of number) false here is)) (hb (in_block b false here) t placed))

    -- an arm
    pub arm-defines : (c : Testing) (body : Making) (o : Outline) → TestingDefines c → MakingDefines body o → ArmWalkDefines (arm_made base names i c body) o
    arm-defines c body o hc hb of number here s placed =
        let test = c here s in
        let t = after s test.parts in
        never-first f base here.call (IsOwnInBody f i o here.block (ArmOf of) number (number + 1)) s test.parts (body_of_choice body of number here t) (hc here s) (body_of_choice-defines body o hb of number here t placed)

    -- ---- `present`

    -- no body
    no-names : (o : Outline) (b : ℕ) (kind : ℕ → BlockKind) (lo hi : ℕ) (here : Here) (s : Counters) → Defines f base here.call (IsOwnInBody f i o b kind lo hi) s nothing
    no-names o b kind lo hi here s = defines-nothing f base (IsOwnInBody f i o b kind lo hi) here s

    -- arms one behind the other
    arms-define : (ws : List ArmWalk) (os : List Outline) → Pairwise ArmWalkDefines ws os → (of number : ℕ) (here : Here) (s : Counters) → ArePlaced f i here.call →
        Defines f base here.call (IsOwnInBody f i (together os) here.block (ArmOf of) number (number + length ws)) s (arms_made ws of number here s).parts
    arms-define [] [] h of number here s placed = no-names no_outline here.block (ArmOf of) number (number + 0) here s
    arms-define [] (o ∷ os) h of number here s placed = absurd h
    arms-define (w ∷ ws) [] h of number here s placed = absurd h
    arms-define (w ∷ ws) (o ∷ os) h of number here s placed =
        let first = (w of number here s).parts in
        let b = here.block in
        let mid = number + 1 in
        let hi = number + suc (length ws) in
        let rest = together os in
        let whole = both_outlines o rest in
        defines-joined f base here.call (IsOwnInBody f i o b (ArmOf of) number mid) (IsOwnInBody f i rest b (ArmOf of) mid (mid + length ws)) (IsOwnInBody f i whole b (ArmOf of) number hi) s first (arms_made ws of mid here (after s first)).parts
        (body-named f i o whole (name-left o rest) b (ArmOf of) number mid number hi (omega arith) (omega arith))
        (body-named f i rest whole (name-right o rest) b (ArmOf of) mid (mid + length ws) number hi (omega arith) (omega arith))
        (bodies-clear f i (ArmOf of) (OfChoice of) o rest b number mid (mid + length ws))
        (h.0 of number here s placed) (arms-define ws os h.1 of mid here (after s first) placed)

    abbrev pub OtherDefines : Option Making → Option Outline → Type 0
    OtherDefines None None = Unit {0}
    OtherDefines (Some b) (Some o) = MakingDefines b o
    OtherDefines _ _ = ⊥

    -- the `else` body
    other-defines : (other : Option Making) (o : Option Outline) → OtherDefines other o → (of number : ℕ) (here : Here) (s : Counters) → ArePlaced f i here.call →
        Defines f base here.call (IsOwnInBody f i (other_outline o) here.block (ArmOf of) number (number + 1)) s (other_made base names i other of number here s)
    other-defines None None h of number here s placed = no-names no_outline here.block (ArmOf of) number (number + 1) here s
    other-defines None (Some o) h of number here s placed = absurd h
    other-defines (Some b) None h of number here s placed = absurd h
    other-defines (Some b) (Some o) h of number here s placed = body_of_choice-defines b o h of number here s placed

    -- a `present`
    pub present-defines : (arms : List ArmWalk) (os : List Outline) (other : Option Making) (o : Option Outline) → Pairwise ArmWalkDefines arms os → OtherDefines other o → MakingDefines (present base names i arms other) (both_outlines (together os) (other_outline o))
    present-defines arms os other o ha ho here s placed =
        let b = here.block in
        let of = s.choices in
        let t = past_choice s in
        let bodies = arms_made arms of 0 here t in
        let count = 0 + length arms in
        let last_body = other_made base names i other of (length arms) here (after t bodies.parts) in
        let left = together os in
        let right = other_outline o in
        let whole = both_outlines left right in
        defines-choice f base here.call (IsOwn f i whole b) s (record { block = here.block; conds = bodies.tests; other = is_some other }) (joined bodies.parts last_body)
        (defines-joined f base here.call (IsOwnInBody f i left b (ArmOf of) 0 count) (IsOwnInBody f i right b (ArmOf of) (length arms) (length arms + 1)) (IsOwn f i whole b) t bodies.parts last_body
        (λ g h. own-named f i left whole (name-left left right) b g h.own) (λ g h. own-named f i right whole (name-right left right) b g h.own)
        (λ g h j k. bodies-clear f i (ArmOf of) (OfChoice of) left right b 0 (length arms) (length arms + 1) g h
        (body-named f i left left (λ x id n. n) b (ArmOf of) 0 count 0 (length arms) (omega arith) (omega arith) g j) k)
        (arms-define arms os ha of 0 here t placed) (other-defines other o ho of (length arms) here (after t bodies.parts) placed))

    -- ---- `automaton`

    -- the moves of a state
    move-defines : (strong : Bool) (t : Testing) → TestingDefines t → (guard body : ℕ) (here : Here) (s : Counters) → Defines f base here.call Never s (t (condition_place strong guard body here) s).parts
    move-defines true t h guard body here s = h (in_block guard here.hybrid here) s
    move-defines false t h guard body here s = h (in_block body here.hybrid here) s

    moves-define : (ms : List MoveWalk) → AllByRecursion MoveWalkDefines ms → (guard body : ℕ) (states : List ℕ) (here : Here) (s : Counters) → Defines f base here.call Never s (moves_made base names i ms guard body states here s).parts
    moves-define [] hs guard body states here s = defines-nothing f base Never here s
    moves-define (m ∷ ms) hs guard body states here s =
        let test = m.test (condition_place m.strong guard body here) s in
        never-last f base here.call Never s test.parts (moves_made base names i ms guard body states here (after s test.parts)).parts (move-defines m.strong m.test hs.0.test guard body here s) (moves-define ms hs.1 guard body states here (after s test.parts))

    next-block : (s : Counters) → (past_block s).blocks ≡ s.blocks + 1
    unfolding past_block
    next-block s = refl

    -- a state
    pub state-defines : (name : Name) (body : Making) (o : Outline) (moves : List MoveWalk) → MakingDefines body o → AllByRecursion MoveWalkDefines moves → StateWalkDefines (record { name = name; walk = state_made base names i body moves }) o
    state-defines name body o moves hb hm of number states here s placed =
        let P = IsOwnInBody f i o here.block (StateOf of) number (number + 1) in
        let b = s.blocks + 1 in
        let t = past_block s in
        let u = past_block t in
        let below = in_block b here.hybrid here in
        let inside = body below u in
        let rest = moves_made base names i moves s.blocks b states here (after u inside) in
        let body_block = inner_block here (StateOf of number) here.hybrid in
        defines-block f base here.call P s (inner_block here (Guard of number) here.hybrid) (joined (one_block body_block) (joined inside rest.parts))
        (λ guard_is.
        defines-block f base here.call P t body_block (joined inside rest.parts)
        (λ body_is.
        let is = subst (λ n. slice_get f.blocks n ≡ Some body_block) (next-block s) body_is in
        never-last f base here.call P u inside rest.parts
        (defines-more f base here.call (IsOwn f i o b) P u inside (body-own o here (StateOf of) number b (inner-within f b (StateOf of number) here.hybrid here is) (inner-kind f b (StateOf of number) here.hybrid here is)) (hb below u placed))
        (moves-define moves hm s.blocks b states here (after u inside))))

    -- states one behind the other
    states-define : (ws : List StateWalk) (os : List StateOutline) (ids : List ℕ) → Pairwise (λ w (o : StateOutline). StateWalkDefines w o.outline) ws os → (of number : ℕ) (all : List ℕ) (here : Here) (s : Counters) → ArePlaced f i here.call →
        Defines f base here.call (IsOwnInBody f i (states_among ids os) here.block (StateOf of) number (number + length ws)) s (states_made ws of number all here s).parts
    states-define [] [] ids h of number all here s placed = no-names no_outline here.block (StateOf of) number (number + 0) here s
    states-define [] (o ∷ os) ids h of number all here s placed = absurd h
    states-define (w ∷ ws) [] ids h of number all here s placed = absurd h
    states-define (w ∷ ws) (o ∷ os) ids h of number all here s placed =
        let first = (w.walk of number all here s).parts in
        let b = here.block in
        let mid = number + 1 in
        let hi = number + suc (length ws) in
        let front = state_among ids o in
        let rest = states_among ids os in
        let whole = both_outlines front rest in
        defines-joined f base here.call (IsOwnInBody f i o.outline b (StateOf of) number mid) (IsOwnInBody f i rest b (StateOf of) mid (mid + length ws)) (IsOwnInBody f i whole b (StateOf of) number hi) s first (states_made ws of mid all here (after s first)).parts
        (body-named f i o.outline whole (λ x id n. name-left front rest x id n) b (StateOf of) number mid number hi (omega arith) (omega arith))
        (body-named f i rest whole (name-right front rest) b (StateOf of) mid (mid + length ws) number hi (omega arith) (omega arith))
        (bodies-clear f i (StateOf of) (OfAutomaton of) o.outline rest b number mid (mid + length ws))
        (h.0 of number all here s placed) (states-define ws os ids h.1 of mid all here (after s first) placed)

    -- an automaton
    pub automaton-defines : (states : List StateWalk) (os : List StateOutline) → Pairwise (λ w (o : StateOutline). StateWalkDefines w o.outline) states os → MakingDefines (automaton base names i states) (automaton_outline os)
    automaton-defines states os h here s placed =
        let of = s.automata in
        let t = past_automaton s in
        let all = state_names states in
        let made = states_made states of 0 all here t in
        let ids = with_ids [] (ids_of (outline_names os)) in
        let inner = states_among ids os in
        let own = IsOwnInBody f i inner here.block (StateOf of) 0 (0 + length states) in
        let P = IsOwn f i (automaton_outline os) here.block in
        defines-automaton f base here.call P s (record { block = here.block; states = made.states }) made.parts
        (defines-more f base here.call own P t made.parts (λ g k. own-named f i inner (automaton_outline os) (λ x id n. n) here.block g k.own) (states-define states os ids h of 0 all here t placed))

    -- ---- bodies

    -- locals, and then equations
    pub body-defines : (locals : List Name) (eqs : List Making) (os : List Outline) → IsSound (IsVariable i) (list_from [] [] os) → AllByRecursion HasEntries os → Pairwise MakingDefines eqs os → MakingDefines (body_made base names i locals eqs) (under locals (list_from [] [] os))
    body-defines locals eqs os sound has h here s placed =
        let o = list_from [] [] os in
        let first = names_made base names i locals here s in
        let inside = in_turn eqs here (after s first) in
        let P = IsOwn f i (under locals o) here.block in
        never-first f base here.call P s first inside (names-define locals here s)
        (defines-more f base here.call (IsOwn f i o here.block) P (after s first) inside (own-named f i o (under locals o) (name-under locals o) here.block) (in_turn-defines [] [] eqs os sound has h here (after s first) placed))
