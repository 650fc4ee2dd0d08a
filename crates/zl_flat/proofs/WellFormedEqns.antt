-- What the walk of equations makes keeps what a flat form does, but for types.
use Rattle.std.proofs.Common.{◌≡◌, ◌≢◌, ◌⊎◌, inl, inr, ℕ, zero, suc, ◌+◌, ◌<◌, ◌≤◌, Bool, true, false, if◌then◌else◌, nat_eq, is_some, List, [], ◌∷◌, length, slice_get, Option, Some, None, refl, sym, ap, subst, ◌∙◌, arith}
use Rattle.std.specs.List.{AllByRecursion, position}
use Rattle.std.specs.Option.{option_map, option_map_or, option_and_then}
use Rattle.std.proofs.lemmas.Bool.Decides.{eqb_tells}
use Rattle.std.proofs.lemmas.List.Quantifiers.{position-Some}
use Rattle.zl_value.specs.declared.position.Pos.{Pos}
use Rattle.zl_value.specs.declared.value.Ty.{Ty}
use Rattle.zl_value.specs.declared.value.Ty.TheVariants.{Bool as BoolTy, Zero}
use Rattle.zl_ast.specs.declared.name.Name.{Name}
use Rattle.zl_meaning.specs.FlatForm.{FlatForm, kind_of, IsWithin, Same, Inside}
use Rattle.zl_meaning.specs.WellFormed.{body_count, IsCalled}
use Rattle.zl_meaning.specs.declared.block.Block.{Block}
use Rattle.zl_meaning.specs.declared.block.BlockKind.{BlockKind}
use Rattle.zl_meaning.specs.declared.block.BlockKind.TheVariants.{Arm as ArmOf, Guard, State as StateOf, Reset}
use Rattle.zl_meaning.specs.declared.block.Choice.{Choice}
use Rattle.zl_meaning.specs.declared.block.Auto.{Auto}
use Rattle.zl_meaning.specs.declared.place.Definer.TheVariants.{Der}
use Rattle.zl_meaning.specs.declared.occurrence.Form.TheVariants.{Up as UpOf, Fired}
use Rattle.zl_meaning.specs.declared.occurrence.SiteInfo.{SiteInfo}
use Rattle.zl_flat.specs.declared.here.Here.{Here}
use Rattle.zl_flat.specs.declared.here.Root.{Root}
use Rattle.zl_flat.specs.declared.given.Given.{Given}
use Rattle.zl_flat.specs.Parts.{Parts, Counters, nothing, joined, one_block, one_place, some_definers, one_site, after, past_block, past_occ, past_hidden, past_site, past_choice, past_automaton}
use Rattle.zl_flat.specs.Variables.{variable_of, is_first}
use Rattle.zl_flat.specs.Instances.{Instance, in_body, in_block, inner_block, place_here, occ_here, site_here}
use Rattle.zl_flat.specs.Expressions.{Walk, Walked}
use Rattle.zl_flat.specs.Equations.{Making, in_turn, Tested, TestedAll, Testing, test_all, index_among, place_number, place_type, plain_definers, right_roots, StateMade, StateWalk, StatesMade, states_made, state_names, ArmWalk, arms_made, body_of_choice, ResetWalk, ResetsMade, start_definers, MoveWalk, name_made, names_made, crossing, event, tested, plain, resets_made, start_made, der, init, other_made, present, automaton, reset, condition_place, moves_made, state_made, arm_made, body_made}
use Rattle.zl_flat.proofs.WellFormedParts.{AllFrom, each-nothing, each-joined, each-left, each-right, each-one_place, each-some_definers, occ-first, behind-occ, hidden-first, behind-hidden, site-first, behind-site, block-first, behind-block, choice-first, behind-choice, automaton-first, behind-automaton}
use Rattle.zl_flat.proofs.WellFormedGround.{StandsIn, HasKind, ArmStands, DefinerStands, MoveStands, StateStands, ParentStands, standing, keeping, Sits, Keeps, IsHere, RootStands, here-after, here-past_occ, here-past_hidden, here-past_site, here-past_choice, here-past_automaton, here-past_block, here-in_block, occ-stands, stands-here}
use Rattle.zl_flat.proofs.WellFormedExprs.{WalkStands}

pub record TestKeeps (f : FlatForm) (here : Here) (s : Counters) (t : Tested) : Type 0 where
  pub parts : Keeps f s t.parts
  pub test : StandsIn f here.block t.test

pub record TestsKeep (f : FlatForm) (here : Here) (s : Counters) (t : TestedAll) : Type 0 where
  pub parts : Keeps f s t.parts
  pub tests : AllByRecursion (StandsIn f here.block) t.tests

-- an arm with this number, and arms from this number on
pub record ArmKeeps (f : FlatForm) (of number : ℕ) (here : Here) (s : Counters) (t : Tested) : Type 0 where
  pub parts : Keeps f s t.parts
  pub test : StandsIn f here.block t.test
  pub body : HasKind f (ArmOf of number)

pub record ArmsKeep (f : FlatForm) (of number count : ℕ) (here : Here) (s : Counters) (t : TestedAll) : Type 0 where
  pub parts : Keeps f s t.parts
  pub tests : AllByRecursion (StandsIn f here.block) t.tests
  pub bodies : (arm : ℕ) → number ≤ arm → arm < number + count → HasKind f (ArmOf of arm)

pub record ResetsKeep (f : FlatForm) (here : Here) (s : Counters) (r : ResetsMade) : Type 0 where
  pub parts : Keeps f s r.parts
  pub arms : AllByRecursion (ArmStands f here.block) r.arms

pub record StateKeeps (f : FlatForm) (count number state : ℕ) (s : Counters) (m : StateMade) : Type 0 where
  pub parts : Keeps f s m.parts
  pub moves : StateStands f count number state m.moves
  pub guard : HasKind f (Guard number state)
  pub body : HasKind f (StateOf number state)

-- its moves alone
pub record MovesKeep (f : FlatForm) (count number state : ℕ) (s : Counters) (m : StateMade) : Type 0 where
  pub parts : Keeps f s m.parts
  pub moves : StateStands f count number state m.moves

pub record StatesKeep (f : FlatForm) (count number state : ℕ) (s : Counters) (m : StatesMade) : Type 0 where
  pub parts : Keeps f s m.parts
  pub states : AllFrom (StateStands f count number) state m.states
  pub guards : (k : ℕ) → state ≤ k → k < state + length m.states → HasKind f (Guard number k)
  pub bodies : (k : ℕ) → state ≤ k → k < state + length m.states → HasKind f (StateOf number k)

-- the choice of a block has this number, and so many bodies or more
pub record IsChoiceOf (f : FlatForm) (number parent count : ℕ) : Type 0 where
  pub choice : Choice
  pub is : slice_get f.choices number ≡ Some choice
  pub block : choice.block ≡ parent
  pub some : count ≤ body_count choice

-- the automaton of a block has this number, and so many states
pub record IsAutomatonOf (f : FlatForm) (number parent count : ℕ) : Type 0 where
  pub auto : Auto
  pub is : slice_get f.automata number ≡ Some auto
  pub block : auto.block ≡ parent
  pub some : length auto.states ≡ count

kind-is : (f : FlatForm) (b : ℕ) (x : Block) → slice_get f.blocks b ≡ Some x → kind_of f b ≡ Some x.kind
kind-is f b x h = ap (option_map (λ (block : Block). block.kind)) h

lt_tells : (k n : ℕ) → (k < n) ⊎ (n ≤ k)
lt_tells k zero = inr (omega arith)
lt_tells zero (suc n) = inl (omega arith)
lt_tells (suc k) (suc n) = one_more (lt_tells k n)
  where
    one_more : (k < n) ⊎ (n ≤ k) → (suc k < suc n) ⊎ (suc n ≤ suc k)
    one_more (inl h) = inl (omega (arith, h))
    one_more (inr h) = inr (omega (arith, h))

-- a copy whose body stands in this block is walked here
pub record IsInside (f : FlatForm) (body : ℕ) (here : Here) : Type 0 where
  pub block : body < length f.blocks
  pub call : IsCalled f body here.call
  pub within : IsWithin f body here.block

-- in a block of its own a walk is still inside the copy
pub inside-in_block : (f : FlatForm) (body b : ℕ) (hybrid inner : Bool) (kind : BlockKind) (here : Here) → slice_get f.blocks b ≡ Some (inner_block here kind hybrid) → IsInside f body here → IsInside f body (in_block b inner here)
inside-in_block f body b hybrid inner kind here is h = record { block = h.block; call = h.call; within = Inside b here.block (ap (option_and_then (λ (block : Block). block.parent)) is) h.within }

-- where a copy's body stands, a walk is inside the copy
pub inside-body : (f : FlatForm) (s : Counters) (here : Here) → IsHere f s here → IsInside f here.block here
inside-body f s here h = record { block = h.block; call = h.call; within = Same }

module _ (f : FlatForm) (base : ℕ) where
  abbrev pub TestingStands : Testing → Type 0
  TestingStands t = (here : Here) (s : Counters) → IsHere f s here → Sits f base s (t here s).parts → TestKeeps f here s (t here s)

  pub record ResetWalkStands (w : ResetWalk) : Type 0 where
    pub event : TestingStands w.event
    pub value : WalkStands f base w.value

  pub test_all-stands : (ts : List Testing) → AllByRecursion TestingStands ts → (here : Here) (s : Counters) → IsHere f s here → Sits f base s (test_all ts here s).parts → TestsKeep f here s (test_all ts here s)
  test_all-stands [] hs here s h sits = record { parts = each-nothing (keeping f) s; tests = tt }
  test_all-stands (t ∷ ts) hs here s h sits =
      let first = t here s in
      let rest = test_all ts here (after s first.parts) in
      let a = hs.0 here s h (each-left (standing f base) s first.parts rest.parts sits) in
      let b = test_all-stands ts hs.1 here (after s first.parts) (here-after f s here h first.parts) (each-right (standing f base) s first.parts rest.parts sits) in
      record { parts = each-joined (keeping f) s first.parts rest.parts a.parts b.parts; tests = (a.test, b.tests) }

  -- making inside the copy of a body
  module _ (i : Instance) where
    abbrev pub MakingStands : Making → Type 0
    MakingStands m = (here : Here) (s : Counters) → IsHere f s here → IsInside f i.block here → Sits f base s (m here s) → Keeps f s (m here s)

    abbrev pub ArmWalkStands : ArmWalk → Type 0
    ArmWalkStands w = (of number : ℕ) (here : Here) (s : Counters) → IsHere f s here → IsInside f i.block here → IsChoiceOf f of here.block (number + 1) → Sits f base s (w of number here s).parts → ArmKeeps f of number here s (w of number here s)

    abbrev pub StateWalkStands : StateWalk → Type 0
    StateWalkStands w = (of number : ℕ) (states : List ℕ) (here : Here) (s : Counters) → IsHere f s here → IsInside f i.block here → IsAutomatonOf f of here.block (length states) → number < length states → Sits f base s (w.walk of number states here s).parts →
        StateKeeps f (length states) of number s (w.walk of number states here s)

    -- ---- one behind the other

    pub in_turn-stands : (ms : List Making) → AllByRecursion MakingStands ms → MakingStands (in_turn ms)
    in_turn-stands [] hs here s h inside sits = each-nothing (keeping f) s
    in_turn-stands (m ∷ ms) hs here s h inside sits =
        let first = m here s in
        let rest = in_turn ms here (after s first) in
        each-joined (keeping f) s first rest (hs.0 here s h inside (each-left (standing f base) s first rest sits))
        (in_turn-stands ms hs.1 here (after s first) (here-after f s here h first) inside (each-right (standing f base) s first rest sits))

  -- ---- names

  place-stands : (b : Bool) (ty : Ty) (name : ℕ) (at : Pos) (here : Here) (s : Counters) → here.block < length f.blocks → IsCalled f here.block here.call → Keeps f s (if b then one_place (place_here here ty name at) else nothing)
  place-stands true ty name at here s block call = each-one_place (keeping f) s (place_here here ty name at) (record { block = block; call = call })
  place-stands false ty name at here s block call = each-nothing (keeping f) s

  module _ (names : List (List ℕ)) (i : Instance) where
    pub name-stands : (x : Name) (here : Here) (s : Counters) → here.block < length f.blocks → IsCalled f here.block here.call → Keeps f s (name_made base names i x here s)
    name-stands x here s block call = place-stands (is_first i.infos x) (place_type (variable_of i.variables x.id)) x.id x.at here s block call

    pub names-stand : (xs : List Name) (here : Here) (s : Counters) → here.block < length f.blocks → IsCalled f here.block here.call → Keeps f s (names_made base names i xs here s)
    names-stand [] here s block call = each-nothing (keeping f) s
    names-stand (x ∷ xs) here s block call =
        let first = name_made base names i x here s in
        each-joined (keeping f) s first (names_made base names i xs here (after s first)) (name-stands x here s block call) (names-stand xs here (after s first) block call)

    -- ---- conditions

    same-sites : (s : Counters) (x : SiteInfo) → slice_get f.sites (past_occ s).sites ≡ Some x → slice_get f.sites s.sites ≡ Some x
    unfolding past_occ
    same-sites s x h = h

    pub crossing-stands : (at : Pos) (x : Walk) → WalkStands f base x → TestingStands (crossing base names i at x)
    crossing-stands at x hx here s h sits =
        let t = past_occ s in
        let arg = x here (past_site t) in
        let own = occ_here here Zero at (UpOf s.sites) in
        let site = site_here here arg.root.occ at in
        let both = behind-occ (standing f base) s own (joined (one_site site) arg.parts) sits in
        let inner = behind-site (standing f base) t site arg.parts both.1 in
        let a = hx here (past_site t) (here-past_site f t here (here-past_occ f s here h)) inner.1 in
        record {
          parts = occ-first (keeping f) s own (joined (one_site site) arg.parts) (occ-stands f s here h Zero at (UpOf s.sites) tt (site, same-sites s site inner.0, refl))
              (site-first (keeping f) t site arg.parts (record { block = h.block; argument = a.root }) a.parts);
          test = stands-here f s.occs here Zero at (UpOf s.sites) both.0;
        }

    pub event-stands : (at : Pos) (ts : List Testing) → AllByRecursion TestingStands ts → TestingStands (event base names i at ts)
    event-stands at ts hs here s h sits =
        let ups = test_all ts here (past_hidden s) in
        let own = occ_here here BoolTy at (Fired ups.tests) in
        let both = behind-hidden (standing f base) s own ups.parts sits in
        let a = test_all-stands ts hs here (past_hidden s) (here-past_hidden f s here h) both.1 in
        record {
          parts = hidden-first (keeping f) s own ups.parts (occ-stands f s here h BoolTy at (Fired ups.tests) a.tests tt) a.parts;
          test = stands-here f (base + s.hidden) here BoolTy at (Fired ups.tests) both.0;
        }

    pub tested-stands : (x : Walk) → WalkStands f base x → TestingStands (tested base names i x)
    tested-stands x hx here s h sits = let a = hx here s h sits in record { parts = a.parts; test = a.root }

    -- ---- plain equations

    plain_definers-stand : (here : Here) (xs : List Name) (rs : List Root) → AllByRecursion (RootStands f here.block) rs → AllByRecursion (λ (g : Given). DefinerStands f g.definer) (plain_definers i here xs rs)
    plain_definers-stand here [] rs h = tt
    plain_definers-stand here (x ∷ xs) [] h = tt
    plain_definers-stand here (x ∷ xs) (r ∷ rs) h = (h.0, plain_definers-stand here xs rs h.1)

    right_roots-stand : (b : ℕ) (xs : List Name) (e : Walked) → RootStands f b e.root → AllByRecursion (RootStands f b) e.results → AllByRecursion (RootStands f b) (right_roots xs e)
    right_roots-stand b [] e h hs = hs
    right_roots-stand b (x ∷ []) e h hs = (h, tt)
    right_roots-stand b (x ∷ y ∷ xs) e h hs = hs

    pub plain-stands : (left : List Name) (right : Walk) → WalkStands f base right → MakingStands i (plain base names i left right)
    plain-stands left right hr here s h inside sits =
        let first = names_made base names i left (in_body i here) s in
        let t = after s first in
        let e = right here t in
        let definers = plain_definers i here left (right_roots left e) in
        let rest = joined e.parts (some_definers definers) in
        let inner = each-right (standing f base) s first rest sits in
        let a = hr here t (here-after f s here h first) (each-left (standing f base) t e.parts (some_definers definers) inner) in
        each-joined (keeping f) s first rest (names-stand left (in_body i here) s inside.block inside.call)
        (each-joined (keeping f) t e.parts (some_definers definers) a.parts
        (each-some_definers (keeping f) (after t e.parts) definers (plain_definers-stand here left (right_roots left e) (right_roots-stand here.block left e a.root a.results))))

    pub init-stands : (x : Name) (value : Walk) → WalkStands f base value → MakingStands i (init base names i x value)
    init-stands x value hr here s h inside sits =
        let first = name_made base names i x (in_body i here) s in
        let t = after s first in
        let e = value here t in
        let definers = start_definers (place_number (variable_of i.variables x.id)) here (Some e.root.occ) in
        let rest = joined e.parts (some_definers definers) in
        let inner = each-right (standing f base) s first rest sits in
        let a = hr here t (here-after f s here h first) (each-left (standing f base) t e.parts (some_definers definers) inner) in
        each-joined (keeping f) s first rest (name-stands x (in_body i here) s inside.block inside.call)
        (each-joined (keeping f) t e.parts (some_definers definers) a.parts
        (each-some_definers (keeping f) (after t e.parts) definers (a.root, tt)))

    -- ---- `der`

    pub resets-stand : (rs : List ResetWalk) → AllByRecursion ResetWalkStands rs → (here : Here) (s : Counters) → IsHere f s here → Sits f base s (resets_made base names i rs here s).parts → ResetsKeep f here s (resets_made base names i rs here s)
    resets-stand [] hs here s h sits = record { parts = each-nothing (keeping f) s; arms = tt }
    resets-stand (r ∷ rs) hs here s h sits =
        let test = r.event here s in
        let t = after s test.parts in
        let value = r.value here t in
        let u = after t value.parts in
        let rest = resets_made base names i rs here u in
        let inner = each-right (standing f base) s test.parts (joined value.parts rest.parts) sits in
        let at_t = here-after f s here h test.parts in
        let a = hs.0.event here s h (each-left (standing f base) s test.parts (joined value.parts rest.parts) sits) in
        let b = hs.0.value here t at_t (each-left (standing f base) t value.parts rest.parts inner) in
        let c = resets-stand rs hs.1 here u (here-after f t here at_t value.parts) (each-right (standing f base) t value.parts rest.parts inner) in
        record {
          parts = each-joined (keeping f) s test.parts (joined value.parts rest.parts) a.parts (each-joined (keeping f) t value.parts rest.parts b.parts c.parts);
          arms = ((a.test, b.root), c.arms);
        }

    abbrev pub StartStands : Option Walk → Type 0
    StartStands None = Unit {0}
    StartStands (Some x) = WalkStands f base x

    start-stands : (start : Option Walk) → StartStands start → (p : ℕ) (here : Here) (s : Counters) → IsHere f s here → Sits f base s (start_made base names i start here s).parts →
        Keeps f s (start_made base names i start here s).parts × AllByRecursion (λ (g : Given). DefinerStands f g.definer) (start_definers p here (start_made base names i start here s).value)
    start-stands None hx p here s h sits = (each-nothing (keeping f) s, tt)
    start-stands (Some x) hx p here s h sits = let a = hx here s h sits in (a.parts, (a.root, tt))

    pub der-stands : (x : Name) (slope : Walk) (start : Option Walk) (resets : List ResetWalk) → WalkStands f base slope → StartStands start → AllByRecursion ResetWalkStands resets → MakingStands i (der base names i x slope start resets)
    der-stands x slope start resets hslope hstart hresets here s h inside sits =
        let first = name_made base names i x (in_body i here) s in
        let p = place_number (variable_of i.variables x.id) in
        let t = after s first in
        let e = slope here t in
        let u = after t e.parts in
        let begin = start_made base names i start here u in
        let v = after u begin.parts in
        let arms = resets_made base names i resets here v in
        let definers = record { place = p; definer = Der here.block e.root.occ arms.arms } ∷ start_definers p here begin.value in
        let rest4 = joined arms.parts (some_definers definers) in
        let rest3 = joined begin.parts rest4 in
        let rest2 = joined e.parts rest3 in
        let in2 = each-right (standing f base) s first rest2 sits in
        let in3 = each-right (standing f base) t e.parts rest3 in2 in
        let in4 = each-right (standing f base) u begin.parts rest4 in3 in
        let at_t = here-after f s here h first in
        let at_u = here-after f t here at_t e.parts in
        let at_v = here-after f u here at_u begin.parts in
        let a = hslope here t at_t (each-left (standing f base) t e.parts rest3 in2) in
        let b = start-stands start hstart p here u at_u (each-left (standing f base) u begin.parts rest4 in3) in
        let c = resets-stand resets hresets here v at_v (each-left (standing f base) v arms.parts (some_definers definers) in4) in
        each-joined (keeping f) s first rest2 (name-stands x (in_body i here) s inside.block inside.call)
        (each-joined (keeping f) t e.parts rest3 a.parts
        (each-joined (keeping f) u begin.parts rest4 b.0
        (each-joined (keeping f) v arms.parts (some_definers definers) c.parts
        (each-some_definers (keeping f) (after v arms.parts) definers ((a.root, c.arms), b.1)))))

    -- ---- blocks

    one-later : (s : Counters) → s.blocks < (past_block s).blocks
    unfolding past_block
    one-later s = omega arith

    pub reset-stands : (eqs : List Making) (c : Testing) → AllByRecursion (MakingStands i) eqs → TestingStands c → MakingStands i (reset base names i eqs c)
    reset-stands eqs c heqs hc here s h copy sits =
        let t = past_block s in
        let below = in_block s.blocks here.hybrid here in
        let inside = in_turn eqs below t in
        let test = c here (after t inside) in
        let own = inner_block here (Reset test.test) here.hybrid in
        let both = behind-block (standing f base) s own (joined inside test.parts) sits in
        let at_t = here-past_block f s here h in
        let at_below = here-in_block f t s.blocks here.hybrid here.hybrid (Reset test.test) here (one-later s) both.0 h.call in
        let a = in_turn-stands i eqs heqs below t at_below (inside-in_block f i.block s.blocks here.hybrid here.hybrid (Reset test.test) here both.0 copy) (each-left (standing f base) t inside test.parts both.1) in
        let b = hc here (after t inside) (here-after f t here at_t inside) (each-right (standing f base) t inside test.parts both.1) in
        block-first (keeping f) s own (joined inside test.parts) (h.before, b.test) (each-joined (keeping f) t inside test.parts a b.parts)

    pub body_of_choice-stands : (body : Making) → MakingStands i body → (of number : ℕ) (here : Here) (s : Counters) → IsHere f s here → IsInside f i.block here → IsChoiceOf f of here.block (number + 1) → Sits f base s (body_of_choice body of number here s) → Keeps f s (body_of_choice body of number here s) × HasKind f (ArmOf of number)
    body_of_choice-stands body hb of number here s h copy is sits =
        let t = past_block s in
        let below = in_block s.blocks false here in
        let inside = body below t in
        let own = inner_block here (ArmOf of number) false in
        let both = behind-block (standing f base) s own inside sits in
        let at_below = here-in_block f t s.blocks false false (ArmOf of number) here (one-later s) both.0 h.call in
        let some = is.some in
        (block-first (keeping f) s own inside (h.before, (is.choice, is.is, is.block, omega (arith, some))) (hb below t at_below (inside-in_block f i.block s.blocks false false (ArmOf of number) here both.0 copy) both.1), record { body = s.blocks; is = kind-is f s.blocks own both.0 })

    pub arm-stands : (c : Testing) (body : Making) → TestingStands c → MakingStands i body → ArmWalkStands i (arm_made base names i c body)
    arm-stands c body hc hb of number here s h copy is sits =
        let test = c here s in
        let t = after s test.parts in
        let rest = body_of_choice body of number here t in
        let a = hc here s h (each-left (standing f base) s test.parts rest sits) in
        let b = body_of_choice-stands body hb of number here t (here-after f s here h test.parts) copy is (each-right (standing f base) s test.parts rest sits) in
        record { parts = each-joined (keeping f) s test.parts rest a.parts b.0; test = a.test; body = b.1 }

    -- ---- `present`

    tests-length : (ws : List ArmWalk) (of number : ℕ) (here : Here) (s : Counters) → length (arms_made ws of number here s).tests ≡ length ws
    tests-length [] of number here s = refl
    tests-length (w ∷ ws) of number here s = let e = tests-length ws of (number + 1) here (after s (w of number here s).parts) in omega (arith, e)

    fewer : (of b m n : ℕ) → m ≤ n → IsChoiceOf f of b n → IsChoiceOf f of b m
    fewer of b m n le is = let some = is.some in record { choice = is.choice; is = is.is; block = is.block; some = omega (arith, le, some) }

    -- of the first, and of those behind it
    first_or_later : (P : ℕ → Type 0) (number count : ℕ) → P number → ((k : ℕ) → number + 1 ≤ k → k < number + 1 + count → P k) → (k : ℕ) → number ≤ k → k < number + suc count → P k
    first_or_later P number count first later k lo hi = by_equal (eqb_tells number k)
      where
        by_equal : ((nat_eq number k ≡ true) × (number ≡ k)) ⊎ ((nat_eq number k ≡ false) × (number ≢ k)) → P k
        by_equal (inl e) = subst P e.1 first
        by_equal (inr e) = let differ = e.1 in later k (omega (arith, lo, differ)) (omega (arith, hi))

    pub arms-stand : (ws : List ArmWalk) → AllByRecursion (ArmWalkStands i) ws → (of number : ℕ) (here : Here) (s : Counters) → IsHere f s here → IsInside f i.block here → IsChoiceOf f of here.block (number + length ws) → Sits f base s (arms_made ws of number here s).parts →
        ArmsKeep f of number (length ws) here s (arms_made ws of number here s)
    arms-stand [] hs of number here s h copy is sits = record { parts = each-nothing (keeping f) s; tests = tt; bodies = λ arm a b. absurd (omega (arith, a, b)) }
    arms-stand (w ∷ ws) hs of number here s h copy is sits =
        let first = w of number here s in
        let t = after s first.parts in
        let rest = arms_made ws of (number + 1) here t in
        let a = hs.0 of number here s h copy (fewer of here.block (number + 1) (number + suc (length ws)) (omega arith) is) (each-left (standing f base) s first.parts rest.parts sits) in
        let b = arms-stand ws hs.1 of (number + 1) here t (here-after f s here h first.parts) copy (fewer of here.block (number + 1 + length ws) (number + suc (length ws)) (omega arith) is) (each-right (standing f base) s first.parts rest.parts sits) in
        record {
          parts = each-joined (keeping f) s first.parts rest.parts a.parts b.parts;
          tests = (a.test, b.tests);
          bodies = λ arm lo hi. first_or_later (λ k. HasKind f (ArmOf of k)) number (length ws) a.body b.bodies arm lo hi;
        }

    abbrev pub OtherStands : Option Making → Type 0
    OtherStands None = Unit {0}
    OtherStands (Some b) = MakingStands i b

    other-stands : (other : Option Making) → OtherStands other → (choice : Choice) (of number : ℕ) (here : Here) (s : Counters) → slice_get f.choices of ≡ Some choice → choice.block ≡ here.block → choice.other ≡ is_some other → length choice.conds ≡ number →
        IsHere f s here → IsInside f i.block here → Sits f base s (other_made base names i other of number here s) → Keeps f s (other_made base names i other of number here s) × ((k : ℕ) → number ≤ k → k < body_count choice → HasKind f (ArmOf of k))
    other-stands None hb choice of number here s is block other count h copy sits = (each-nothing (keeping f) s, λ k lo hi. absurd (no_bodies choice.other k other lo hi))
      where
        no_bodies : (o : Bool) (k : ℕ) → o ≡ false → number ≤ k → k < (if o then length choice.conds + 1 else length choice.conds) → ⊥
        no_bodies true k e lo hi = cc
        no_bodies false k e lo hi = omega (arith, count, lo, hi)
    other-stands (Some b) hb choice of number here s is block other count h copy sits =
        let a = body_of_choice-stands b hb of number here s h copy (record { choice = choice; is = is; block = block; some = all_bodies choice.other other }) sits in
        (a.0, λ k lo hi. subst (λ n. HasKind f (ArmOf of n)) (the_last choice.other k other lo hi) a.1)
      where
        the_last : (o : Bool) (k : ℕ) → o ≡ true → number ≤ k → k < (if o then length choice.conds + 1 else length choice.conds) → number ≡ k
        the_last true k e lo hi = omega (arith, count, lo, hi)
        the_last false k e lo hi = cc

        all_bodies : (o : Bool) → o ≡ true → number + 1 ≤ (if o then length choice.conds + 1 else length choice.conds)
        all_bodies true e = omega (arith, count)
        all_bodies false e = cc

    at-least : (choice : Choice) → length choice.conds ≤ body_count choice
    at-least choice = by_other choice.other
      where
        by_other : (o : Bool) → length choice.conds ≤ (if o then length choice.conds + 1 else length choice.conds)
        by_other true = omega arith
        by_other false = omega arith

    arm_or_other : (P : ℕ → Type 0) (arms count : ℕ) → ((k : ℕ) → 0 ≤ k → k < 0 + arms → P k) → ((k : ℕ) → arms ≤ k → k < count → P k) → (k : ℕ) → k < count → P k
    arm_or_other P arms count in_arms behind k hi = by_order (lt_tells k arms)
      where
        by_order : (k < arms) ⊎ (arms ≤ k) → P k
        by_order (inl lt) = in_arms k (omega arith) (omega (arith, lt))
        by_order (inr le) = behind k le hi

    pub present-stands : (arms : List ArmWalk) (other : Option Making) → AllByRecursion (ArmWalkStands i) arms → OtherStands other → MakingStands i (present base names i arms other)
    present-stands arms other ha ho here s h copy sits =
        let t = past_choice s in
        let bodies = arms_made arms s.choices 0 here t in
        let u = after t bodies.parts in
        let last_body = other_made base names i other s.choices (length arms) here u in
        let own : Choice = record { block = here.block; conds = bodies.tests; other = is_some other } in
        let both = behind-choice (standing f base) s own (joined bodies.parts last_body) sits in
        let at_t = here-past_choice f s here h in
        let count = tests-length arms s.choices 0 here t in
        let least = at-least own in
        let a = arms-stand arms ha s.choices 0 here t at_t copy (record { choice = own; is = both.0; block = refl; some = omega (arith, count, least) }) (each-left (standing f base) t bodies.parts last_body both.1) in
        let b = other-stands other ho own s.choices (length arms) here u both.0 refl refl count (here-after f t here at_t bodies.parts) copy (each-right (standing f base) t bodies.parts last_body both.1) in
        choice-first (keeping f) s own (joined bodies.parts last_body) (record { block = h.block; tests = a.tests; bodies = λ arm hi. arm_or_other (λ k. HasKind f (ArmOf s.choices k)) (length arms) (body_count own) a.bodies b.1 arm hi }) (each-joined (keeping f) t bodies.parts last_body a.parts b.0)

    -- ---- `automaton`

    pub record MoveWalkStands (m : MoveWalk) : Type 0 where
      pub test : TestingStands m.test

    states-length : (ws : List StateWalk) (of number : ℕ) (all : List ℕ) (here : Here) (s : Counters) → length (states_made ws of number all here s).states ≡ length ws
    states-length [] of number all here s = refl
    states-length (w ∷ ws) of number all here s = let e = states-length ws of (number + 1) all here (after s (w.walk of number all here s).parts) in omega (arith, e)

    names-length : (ws : List StateWalk) → length (state_names ws) ≡ length ws
    names-length [] = refl
    names-length (w ∷ ws) = let e = names-length ws in omega (arith, e)

    position-below : (p : ℕ → Bool) (xs : List ℕ) (n : ℕ) → position p xs ≡ Some n → n < length xs
    position-below p xs n h = (position-Some p xs n 0 h).0

    index-below : (ids : List ℕ) (id : ℕ) → 0 < length ids → index_among ids id < length ids
    index-below ids id le = by_position (position (nat_eq id) ids) refl
      where
        by_position : (o : Option ℕ) → position (nat_eq id) ids ≡ o → option_map_or (λ n. n) o 0 < length ids
        by_position None e = le
        by_position (Some n) e = position-below (nat_eq id) ids n e

    -- where the conditions of a state's moves stand
    pub record AreBlocksOf (guard body of number : ℕ) (here : Here) (s : Counters) : Type 0 where
      pub guard_is : kind_of f guard ≡ Some (Guard of number)
      pub body_is : kind_of f body ≡ Some (StateOf of number)
      pub in_guard : IsHere f s (in_block guard here.hybrid here)
      pub in_body : IsHere f s (in_block body here.hybrid here)

    blocks-after : (guard body of number : ℕ) (here : Here) (s : Counters) (p : Parts) → AreBlocksOf guard body of number here s → AreBlocksOf guard body of number here (after s p)
    blocks-after guard body of number here s p h = record {
      guard_is = h.guard_is;
      body_is = h.body_is;
      in_guard = here-after f s (in_block guard here.hybrid here) h.in_guard p;
      in_body = here-after f s (in_block body here.hybrid here) h.in_body p;
    }

    move-stands : (strong again : Bool) (t : Testing) (target : Name) (guard body of number : ℕ) (states : List ℕ) (here : Here) (s : Counters) → 0 < length states → TestingStands t → AreBlocksOf guard body of number here s →
        Sits f base s (t (condition_place strong guard body here) s).parts →
        Keeps f s (t (condition_place strong guard body here) s).parts
        × MoveStands f (length states) of number (record { strong = strong; reset = again; cond = (t (condition_place strong guard body here) s).test; target = index_among states target.id })
    move-stands true again t target guard body of number states here s some ht is sits =
        let a = ht (in_block guard here.hybrid here) s is.in_guard sits in
        (a.parts, record { target = index-below states target.id some; block = guard; is = is.guard_is; test = a.test })
    move-stands false again t target guard body of number states here s some ht is sits =
        let a = ht (in_block body here.hybrid here) s is.in_body sits in
        (a.parts, record { target = index-below states target.id some; block = body; is = is.body_is; test = a.test })

    moves-stand : (ms : List MoveWalk) → AllByRecursion MoveWalkStands ms → (guard body of number : ℕ) (states : List ℕ) (here : Here) (s : Counters) → 0 < length states → AreBlocksOf guard body of number here s →
        Sits f base s (moves_made base names i ms guard body states here s).parts → MovesKeep f (length states) of number s (moves_made base names i ms guard body states here s)
    moves-stand [] hs guard body of number states here s some is sits = record { parts = each-nothing (keeping f) s; moves = tt }
    moves-stand (m ∷ ms) hs guard body of number states here s some is sits =
        let test = m.test (condition_place m.strong guard body here) s in
        let t = after s test.parts in
        let rest = moves_made base names i ms guard body states here t in
        let a = move-stands m.strong m.reset m.test m.target guard body of number states here s some hs.0.test is (each-left (standing f base) s test.parts rest.parts sits) in
        let b = moves-stand ms hs.1 guard body of number states here t some (blocks-after guard body of number here s test.parts is) (each-right (standing f base) s test.parts rest.parts sits) in
        record { parts = each-joined (keeping f) s test.parts rest.parts a.0 b.parts; moves = (a.1, b.moves) }

    next-block : (s : Counters) → (past_block s).blocks ≡ s.blocks + 1
    unfolding past_block
    next-block s = refl

    pub state-stands : (name : Name) (body : Making) (moves : List MoveWalk) → MakingStands i body → AllByRecursion MoveWalkStands moves → StateWalkStands i (record { name = name; walk = state_made base names i body moves })
    state-stands name body moves hb hm of number states here s h copy is below sits =
        let t = past_block s in
        let u = past_block t in
        let guard = s.blocks in
        let own_body = s.blocks + 1 in
        let below_body = in_block own_body here.hybrid here in
        let inside = body below_body u in
        let v = after u inside in
        let rest = moves_made base names i moves guard own_body states here v in
        let guard_block = inner_block here (Guard of number) here.hybrid in
        let body_block = inner_block here (StateOf of number) here.hybrid in
        let first = behind-block (standing f base) s guard_block (joined (one_block body_block) (joined inside rest.parts)) sits in
        let second = behind-block (standing f base) t body_block (joined inside rest.parts) first.1 in
        let body_is = subst (λ n. slice_get f.blocks n ≡ Some body_block) (next-block s) second.0 in
        let e = next-block s in
        let e2 = next-block t in
        let in_guard = here-in_block f u guard here.hybrid here.hybrid (Guard of number) here (omega (arith, e, e2)) first.0 h.call in
        let in_own_body = here-in_block f u own_body here.hybrid here.hybrid (StateOf of number) here (omega (arith, e, e2)) body_is h.call in
        let blocks : AreBlocksOf guard own_body of number here u = record { guard_is = kind-is f guard guard_block first.0; body_is = kind-is f own_body body_block body_is; in_guard = in_guard; in_body = in_own_body } in
        let a = hb below_body u in_own_body (inside-in_block f i.block own_body here.hybrid here.hybrid (StateOf of number) here body_is copy) (each-left (standing f base) u inside rest.parts second.1) in
        let b = moves-stand moves hm guard own_body of number states here v (omega (arith, below)) (blocks-after guard own_body of number here u inside blocks) (each-right (standing f base) u inside rest.parts second.1) in
        let some = is.some in
        let parent : ParentStands f here.block (Guard of number) = (is.auto, is.is, is.block, omega (arith, below, some)) in
        let before = h.before in
        record {
          parts = block-first (keeping f) s guard_block (joined (one_block body_block) (joined inside rest.parts)) (before, parent)
              (block-first (keeping f) t body_block (joined inside rest.parts) (omega (arith, before, e), parent) (each-joined (keeping f) u inside rest.parts a b.parts));
          moves = b.moves;
          guard = record { body = guard; is = blocks.guard_is };
          body = record { body = own_body; is = blocks.body_is };
        }

    states-stand : (ws : List StateWalk) → AllByRecursion (StateWalkStands i) ws → (of number : ℕ) (all : List ℕ) (here : Here) (s : Counters) → IsHere f s here → IsInside f i.block here → IsAutomatonOf f of here.block (length all) → number + length ws ≤ length all →
        Sits f base s (states_made ws of number all here s).parts → StatesKeep f (length all) of number s (states_made ws of number all here s)
    states-stand [] hs of number all here s h copy is le sits = record { parts = each-nothing (keeping f) s; states = tt; guards = λ k a b. absurd (omega (arith, a, b)); bodies = λ k a b. absurd (omega (arith, a, b)) }
    states-stand (w ∷ ws) hs of number all here s h copy is le sits =
        let first = w.walk of number all here s in
        let t = after s first.parts in
        let rest = states_made ws of (number + 1) all here t in
        let a = hs.0 of number all here s h copy is (omega (arith, le)) (each-left (standing f base) s first.parts rest.parts sits) in
        let b = states-stand ws hs.1 of (number + 1) all here t (here-after f s here h first.parts) copy is (omega (arith, le)) (each-right (standing f base) s first.parts rest.parts sits) in
        record {
          parts = each-joined (keeping f) s first.parts rest.parts a.parts b.parts;
          states = (a.moves, b.states);
          guards = λ k lo hi. first_or_later (λ n. HasKind f (Guard of n)) number (length rest.states) a.guard b.guards k lo hi;
          bodies = λ k lo hi. first_or_later (λ n. HasKind f (StateOf of n)) number (length rest.states) a.body b.bodies k lo hi;
        }

    pub automaton-stands : (states : List StateWalk) → AllByRecursion (StateWalkStands i) states → MakingStands i (automaton base names i states)
    automaton-stands states hs here s h copy sits =
        let t = past_automaton s in
        let all = state_names states in
        let made = states_made states s.automata 0 all here t in
        let own : Auto = record { block = here.block; states = made.states } in
        let both = behind-automaton (standing f base) s own made.parts sits in
        let count = states-length states s.automata 0 all here t in
        let named = names-length states in
        let same : length made.states ≡ length all = count ∙ sym named in
        let a = states-stand states hs s.automata 0 all here t (here-past_automaton f s here h) copy (record { auto = own; is = both.0; block = refl; some = same }) (omega (arith, named)) both.1 in
        automaton-first (keeping f) s own made.parts (record { block = h.block; states = subst (λ n. AllFrom (StateStands f n s.automata) 0 made.states) (sym same) a.states; guards = λ k hi. a.guards k (omega arith) (omega (arith, hi)); bodies = λ k hi. a.bodies k (omega arith) (omega (arith, hi)) }) a.parts

    -- ---- bodies

    pub body-stands : (locals : List Name) (eqs : List Making) → AllByRecursion (MakingStands i) eqs → MakingStands i (body_made base names i locals eqs)
    body-stands locals eqs hs here s h copy sits =
        let first = names_made base names i locals here s in
        let rest = in_turn eqs here (after s first) in
        each-joined (keeping f) s first rest (names-stand locals here s h.block h.call)
        (in_turn-stands i eqs hs here (after s first) (here-after f s here h first) copy (each-right (standing f base) s first rest sits))
