-- What the walk of equations makes stands in its context.
use Rattle.std.proofs.Common.{◌≡◌, ℕ, suc, ◌+◌, Bool, true, false, if◌then◌else◌, nat_eq, List, [], ◌∷◌, ◌++◌, slice_get, Option, Some, None, refl, sym, ap, subst, ◌∙◌, inl, inr}
use Rattle.std.specs.List.{AllByRecursion}
use Rattle.std.proofs.lemmas.Bool.{eq-eqb}
use Rattle.zl_value.specs.declared.position.Pos.{Pos}
use Rattle.zl_value.specs.declared.value.Ty.TheVariants.{Bool as BoolTy, Zero}
use Rattle.zl_value.specs.Lists.{when}
use Rattle.zl_ast.specs.declared.name.Name.{Name}
use Rattle.zl_ast.specs.Kinds as kinds
use Rattle.zl_meaning.specs.FlatForm.{FlatForm}
use Rattle.zl_meaning.specs.Uses.{Use, PartOf, DefinerOf, SlopeOf, EventOf, StartOf, ResetOf, TestOf, ArgumentOf, arm_uses, definer_uses, events_of}
use Rattle.zl_meaning.specs.Regular.{Context, Plainly, WithLast, Discrete, Hybrid, context_of_block, body_context, called_context, test_context, IsUseIn, is_event, MarksNothing}
use Rattle.zl_meaning.specs.declared.place.Definer.TheVariants.{Der}
use Rattle.zl_meaning.specs.declared.place.DerArm.{DerArm}
use Rattle.zl_meaning.specs.declared.place.PlaceInfo.{PlaceInfo}
use Rattle.zl_meaning.specs.declared.occurrence.Form.TheVariants.{Up as UpOf, Fired}
use Rattle.zl_meaning.specs.declared.occurrence.Occ.{Occ}
use Rattle.zl_flat.specs.declared.variable.Variable.{Variable}
use Rattle.zl_flat.specs.declared.here.Here.{Here}
use Rattle.zl_flat.specs.declared.here.Root.{Root}
use Rattle.zl_flat.specs.declared.given.Given.{Given}
use Rattle.zl_flat.specs.Parts.{Parts, Counters, nothing, joined, one_place, some_definers, one_occ, one_hidden, one_site, after, past_occ, past_hidden, past_site}
use Rattle.zl_flat.specs.Variables.{variable_of, is_first}
use Rattle.zl_flat.specs.Instances.{Instance, in_body, in_block, place_here, occ_here, site_here}
use Rattle.zl_flat.specs.Expressions.{Walk, Walked}
use Rattle.zl_flat.specs.Equations.{Making, in_turn, Tested, TestedAll, Testing, test_all, place_number, place_type, plain_definers, right_roots, StateMade, StateWalk, StatesMade, ArmWalk, ResetWalk, ResetsMade, StartMade, start_definers, name_made, names_made, crossing, event, tested, plain, resets_made, start_made, der, init}
use Rattle.zl_flat.proofs.WellFormedParts.{each-nothing, each-joined, each-left, each-right, each-one_place, each-some_definers, occ-first, behind-occ, hidden-first, behind-hidden, site-first, behind-site}
use Rattle.zl_flat.proofs.RulesKept.{none-left, none-right, IsVariable}
use Rattle.zl_flat.proofs.RegularGround.{flat, Suits, Assigned, assigned-map, assigned-joined, assigned-nothing, assigned-definers, assigned-place, assigned-occ_first, assigned-hidden_first, assigned-site_first, UsedSo, ArmsUsed, DefinerUsed, GivenUsed, TestUsed, SiteRegular, MovesRegular, lying, regular, Lies, IsRegularIn, AtBlock, BodyIs, IsResult, IsRoot, root-result}
use Rattle.zl_flat.proofs.RegularUses.{Free, Taken, MovesTaken, site-takes, operands-taken}
use Rattle.zl_flat.proofs.RegularExprs.{Holds, WalkIn, used-by, used, part-used, occ-regular, taken-unused}

-- ---- contexts of equations

-- where there may be states, tests and initial values, the context is that of the block
pub state-context : (h : Bool) (c : kinds.Context) → kinds.allows_state c ≡ true → Suits h c → flat c ≡ context_of_block h
state-context h kinds.combinatorial ok s = absurd (cc)
state-context h kinds.recalling ok s = absurd (cc)
state-context h kinds.discrete ok s = sym (ap context_of_block s)
state-context h kinds.hybrid ok s = sym (ap context_of_block s)

-- a test and an initial value may stand in such a body
state-use : (c : kinds.Context) (x : Context) → kinds.allows_state c ≡ true → x ≡ flat c → IsUseIn x TestOf
state-use kinds.combinatorial x ok e = absurd (cc)
state-use kinds.recalling x ok e = absurd (cc)
state-use kinds.discrete x ok e = inl e
state-use kinds.hybrid x ok e = inr e

-- a discrete block in such a body has a discrete body
pub discrete-body : (f : FlatForm) (context : ℕ → Context) (here : Here) (b : ℕ) (c : kinds.Context) → kinds.allows_state c ≡ true → BodyIs f context here c → BodyIs f context (in_block b false here) kinds.discrete
discrete-body f context here b c ok e = by_call here.call here.hybrid c ok e
  where
    by_context : (x : Context) (h : Bool) (c : kinds.Context) → kinds.allows_state c ≡ true → body_context (context_of_block h) x ≡ flat c → body_context Discrete x ≡ Discrete
    by_context Plainly h kinds.combinatorial ok e = absurd (cc)
    by_context Plainly h kinds.recalling ok e = absurd (cc)
    by_context Plainly h kinds.discrete ok e = cc
    by_context Plainly h kinds.hybrid ok e = cc
    by_context WithLast h kinds.combinatorial ok e = absurd (cc)
    by_context WithLast h kinds.recalling ok e = absurd (cc)
    by_context WithLast h kinds.discrete ok e = cc
    by_context WithLast h kinds.hybrid ok e = cc
    by_context Discrete h c ok e = refl
    by_context Hybrid h c ok e = refl

    by_call : (call : Option ℕ) (h : Bool) (c : kinds.Context) → kinds.allows_state c ≡ true → called_context context (context_of_block h) call ≡ flat c → called_context context Discrete call ≡ Discrete
    by_call None h c ok e = refl
    by_call (Some k) h c ok e = by_context (context k) h c ok e

-- ---- places of variables

-- place number `p` stands in the copy of this call
pub record PlaceIn (f : FlatForm) (call : Option ℕ) (p : ℕ) : Type 0 where
  pub place : PlaceInfo
  pub is : slice_get f.places p ≡ Some place
  pub in_copy : place.call ≡ call

-- the variables of the instance have their places in the copy of this call
abbrev pub Placed : FlatForm → Instance → Option ℕ → Type 0
Placed f i call = (id : ℕ) (v : Variable) → variable_of i.variables id ≡ Some v → PlaceIn f call v.place

-- a variable of the instance has its place there
variable-placed : (f : FlatForm) (i : Instance) (call : Option ℕ) (id : ℕ) → Placed f i call → IsVariable i id → PlaceIn f call (place_number (variable_of i.variables id))
variable-placed f i call id placed v = subst (λ o. PlaceIn f call (place_number o)) (sym v.is) (placed id v.variable v.is)

-- what is said of a place with this number is said of the place that it is
pub at-place : (f : FlatForm) (call : Option ℕ) (p : ℕ) (P : Option ℕ → Type 0) → PlaceIn f call p → P call → (place : PlaceInfo) → slice_get f.places p ≡ Some place → P place.call
at-place f call p P h g place is = subst P (sym (ap (λ (x : PlaceInfo). x.call) (the-same (sym is ∙ h.is)) ∙ h.in_copy)) g
  where
    the-same : {place x : PlaceInfo} → Some place ≡ Some x → place ≡ x
    the-same e = cc

-- ---- what is made

-- an event, and a zero-crossing of one
pub record EventHolds (f : FlatForm) (base : ℕ) (context : ℕ → Context) (s : Counters) (t : Tested) : Type 0 where
  pub test : context t.test ≡ Hybrid
  pub parts : Taken f t.test → IsRegularIn f base context s t.parts

-- a zero-crossing is no event
pub record CrossingRegular (f : FlatForm) (base : ℕ) (know : (ℕ → Context) → Type 0) (here : Here) (s : Counters) (t : Tested) : Type 0 where
  pub crossing : IsResult f here.block t.test
  pub assigned : Assigned base know s t.parts (λ context. EventHolds f base context s t)

-- zero-crossings one behind the other
pub record CrossingsHold (f : FlatForm) (base : ℕ) (context : ℕ → Context) (s : Counters) (t : TestedAll) : Type 0 where
  pub tests : AllByRecursion (λ k. context k ≡ Hybrid) t.tests
  pub parts : AllByRecursion (Taken f) t.tests → IsRegularIn f base context s t.parts

pub record CrossingsRegular (f : FlatForm) (base : ℕ) (know : (ℕ → Context) → Type 0) (here : Here) (s : Counters) (t : TestedAll) : Type 0 where
  pub crossings : AllByRecursion (IsResult f here.block) t.tests
  pub assigned : Assigned base know s t.parts (λ context. CrossingsHold f base context s t)

-- occurrence number `k` is an event here
pub record IsEvent (f : FlatForm) (here : Here) (k : ℕ) : Type 0 where
  pub occ : Occ
  pub is : slice_get f.occs k ≡ Some occ
  pub block : occ.block ≡ here.block
  pub call : occ.call ≡ here.call
  pub event : is_event occ.form ≡ true

-- an event
pub record EventRegular (f : FlatForm) (base : ℕ) (know : (ℕ → Context) → Type 0) (here : Here) (s : Counters) (t : Tested) : Type 0 where
  pub event : IsEvent f here t.test
  pub assigned : Assigned base know s t.parts (λ context. EventHolds f base context s t)

-- a condition, and an arm
pub record TestHolds (f : FlatForm) (base : ℕ) (context : ℕ → Context) (s : Counters) (t : Tested) : Type 0 where
  pub test : TestUsed f context t.test
  pub parts : Taken f t.test → IsRegularIn f base context s t.parts

-- arms one behind the other
pub record TestsHold (f : FlatForm) (base : ℕ) (context : ℕ → Context) (s : Counters) (t : TestedAll) : Type 0 where
  pub tests : AllByRecursion (TestUsed f context) t.tests
  pub parts : AllByRecursion (Taken f) t.tests → IsRegularIn f base context s t.parts

-- the reset arms of a `der`
pub record IsArm (f : FlatForm) (here : Here) (arm : DerArm) : Type 0 where
  pub event : IsEvent f here arm.event
  pub value : IsResult f here.block arm.value

-- their contexts
pub record ArmHolds (context : ℕ → Context) (arm : DerArm) : Type 0 where
  pub event : context arm.event ≡ Hybrid
  pub value : context arm.value ≡ WithLast

-- what a reset arm names is used
abbrev pub ArmTaken : FlatForm → DerArm → Type 0
ArmTaken f arm = Taken f arm.event × Taken f arm.value

-- reset arms one behind the other
pub record ResetsHold (f : FlatForm) (base : ℕ) (context : ℕ → Context) (s : Counters) (r : ResetsMade) : Type 0 where
  pub arms : AllByRecursion (ArmHolds context) r.arms
  pub parts : AllByRecursion (ArmTaken f) r.arms → IsRegularIn f base context s r.parts

pub record ResetsRegular (f : FlatForm) (base : ℕ) (know : (ℕ → Context) → Type 0) (here : Here) (s : Counters) (r : ResetsMade) : Type 0 where
  pub arms : AllByRecursion (IsArm f here) r.arms
  pub assigned : Assigned base know s r.parts (λ context. ResetsHold f base context s r)

-- a state, and the moves of one
pub record StateHolds (f : FlatForm) (base : ℕ) (context : ℕ → Context) (s : Counters) (m : StateMade) : Type 0 where
  pub moves : MovesRegular f context m.moves
  pub parts : MovesTaken f m.moves → IsRegularIn f base context s m.parts

-- states one behind the other
pub record StatesHold (f : FlatForm) (base : ℕ) (context : ℕ → Context) (s : Counters) (m : StatesMade) : Type 0 where
  pub states : AllByRecursion (MovesRegular f context) m.states
  pub parts : AllByRecursion (MovesTaken f) m.states → IsRegularIn f base context s m.parts

module _ (f : FlatForm) (base : ℕ) (know : (ℕ → Context) → Type 0) where
  -- what is made in this context where it is to stand
  abbrev pub MakesRegular : kinds.Context → Here → Counters → Parts → Type 0
  MakesRegular c here s p = Assigned base know s p (λ context. BodyIs f context here c → IsRegularIn f base context s p)

  -- a zero-crossing and an event, in a hybrid block
  abbrev pub CrossingIn : Testing → Type 0
  CrossingIn t = (here : Here) (s : Counters) → AtBlock f here → here.hybrid ≡ true → Lies f base s (t here s).parts → CrossingRegular f base know here s (t here s)

  abbrev pub EventIn : Testing → Type 0
  EventIn t = (here : Here) (s : Counters) → AtBlock f here → here.hybrid ≡ true → Lies f base s (t here s).parts → EventRegular f base know here s (t here s)

  -- a condition in this context
  abbrev pub TestingIn : kinds.Context → Testing → Type 0
  TestingIn c t = (here : Here) (s : Counters) → AtBlock f here → Suits here.hybrid c → Lies f base s (t here s).parts → Assigned base know s (t here s).parts (λ context. BodyIs f context here c → TestHolds f base context s (t here s))

  -- a reset arm
  pub record ResetIn (w : ResetWalk) : Type 0 where
    pub event : EventIn w.event
    pub value : WalkIn f base know kinds.recalling w.value

  module _ (names : List (List ℕ)) (i : Instance) where
    -- an equation, an arm, a state in this context, where the variables have their places
    abbrev pub MakingIn : kinds.Context → Making → Type 0
    MakingIn c m = (here : Here) (s : Counters) → AtBlock f here → Suits here.hybrid c → Placed f i here.call → Lies f base s (m here s) → MakesRegular c here s (m here s)

    abbrev pub ArmIn : kinds.Context → ArmWalk → Type 0
    ArmIn c w = (of number : ℕ) (here : Here) (s : Counters) → AtBlock f here → Suits here.hybrid c → Placed f i here.call → Lies f base s (w of number here s).parts →
        Assigned base know s (w of number here s).parts (λ context. BodyIs f context here c → TestHolds f base context s (w of number here s))

    abbrev pub StateIn : kinds.Context → StateWalk → Type 0
    StateIn c w = (of number : ℕ) (states : List ℕ) (here : Here) (s : Counters) → AtBlock f here → Suits here.hybrid c → Placed f i here.call → Lies f base s (w.walk of number states here s).parts →
        Assigned base know s (w.walk of number states here s).parts (λ context. BodyIs f context here c → StateHolds f base context s (w.walk of number states here s))

    -- ---- one behind the other

    -- equations one behind the other stand in their context
    pub in_turn-regular : (c : kinds.Context) (ms : List Making) → AllByRecursion (MakingIn c) ms → MakingIn c (in_turn ms)
    in_turn-regular c [] h here s hb hs placed lies = assigned-map base know s nothing (λ context. Unit {0}) (λ context. BodyIs f context here c → IsRegularIn f base context s nothing) (λ context g body. each-nothing (regular f base context) s) (assigned-nothing base know s)
    in_turn-regular c (m ∷ ms) h here s hb hs placed lies =
        let first = m here s in
        let t = after s first in
        let rest = in_turn ms here t in
        let A : (ℕ → Context) → Type 0 = λ context. BodyIs f context here c → IsRegularIn f base context s first in
        let B : (ℕ → Context) → Type 0 = λ context. BodyIs f context here c → IsRegularIn f base context t rest in
        assigned-map base know s (joined first rest) (λ context. A context × B context) (λ context. BodyIs f context here c → IsRegularIn f base context s (joined first rest))
        (λ context g body. each-joined (regular f base context) s first rest (g.0 body) (g.1 body))
        (assigned-joined base know s first rest A B (h.0 here s hb hs placed (each-left (lying f base) s first rest lies)) (in_turn-regular c ms h.1 here t hb hs placed (each-right (lying f base) s first rest lies)))

    -- ---- names

    -- places alone, which stand in no context
    abbrev pub PlacesMade : Making → Type 0
    PlacesMade m = (here : Here) (s : Counters) → Assigned base know s (m here s) (λ context. IsRegularIn f base context s (m here s))

    -- a place that is made, or none
    place-made : (b : Bool) (x : PlaceInfo) (s : Counters) → Assigned base know s (if b then one_place x else nothing) (λ context. IsRegularIn f base context s (if b then one_place x else nothing))
    place-made true x s = assigned-map base know s (one_place x) (λ context. Unit {0}) (λ context. IsRegularIn f base context s (one_place x)) (λ context g. each-one_place (regular f base context) s x tt) (assigned-place base know s x)
    place-made false x s = assigned-map base know s nothing (λ context. Unit {0}) (λ context. IsRegularIn f base context s nothing) (λ context g. each-nothing (regular f base context) s) (assigned-nothing base know s)

    -- a name that is declared or defined, and several
    pub name-regular : (x : Name) → PlacesMade (name_made base names i x)
    name-regular x here s = place-made (is_first i.infos x) (place_here here (place_type (variable_of i.variables x.id)) x.id x.at) s

    pub names-regular : (xs : List Name) → PlacesMade (names_made base names i xs)
    names-regular [] here s = assigned-map base know s nothing (λ context. Unit {0}) (λ context. IsRegularIn f base context s nothing) (λ context g. each-nothing (regular f base context) s) (assigned-nothing base know s)
    names-regular (x ∷ xs) here s =
        let first = name_made base names i x here s in
        let t = after s first in
        let rest = names_made base names i xs here t in
        assigned-map base know s (joined first rest) (λ context. IsRegularIn f base context s first × IsRegularIn f base context t rest) (λ context. IsRegularIn f base context s (joined first rest))
        (λ context g. each-joined (regular f base context) s first rest g.0 g.1)
        (assigned-joined base know s first rest (λ context. IsRegularIn f base context s first) (λ context. IsRegularIn f base context t rest) (name-regular x here s) (names-regular xs here t))

    -- ---- conditions

    -- an entry that is found twice is one
    same-occ : (a b : Occ) → Some a ≡ Some b → a ≡ b
    same-occ a b e = cc

    -- the site of a zero-crossing
    site-regular : (context : ℕ → Context) (here : Here) (n : ℕ) (arg : Root) (at : Pos) → AtBlock f here → here.hybrid ≡ true → IsRoot f here arg.occ → context arg.occ ≡ Plainly → SiteRegular f context (site_here here arg.occ at)
    site-regular context here n arg at hb hybrid r e = record {
      block = hb ∙ hybrid;
      argument = used f context here.block arg.occ here.hybrid ArgumentOf hb (root-result f here arg.occ r) e tt (root-result f here arg.occ r).value;
      marks = λ occ is. subst (λ (o : Occ). MarksNothing o.form) (same-occ r.occ occ (sym r.is ∙ is)) r.marks;
    }

    -- `up`
    pub crossing-regular : (at : Pos) (x : Walk) → WalkIn f base know kinds.combinatorial x → CrossingIn (crossing base names i at x)
    crossing-regular at x hx here s hb hybrid lies =
        let t = past_occ s in
        let u = past_site t in
        let arg = x here u in
        let own = occ_here here Zero at (UpOf s.sites) in
        let site = site_here here arg.root.occ at in
        let inner = joined (one_site site) arg.parts in
        let both = behind-occ (lying f base) s own inner lies in
        let second = behind-site (lying f base) t site arg.parts both.1 in
        let a = hx here u hb tt second.1 in
        let Q : (ℕ → Context) → Type 0 = λ context. Holds f base context here u kinds.combinatorial arg in
        record {
          crossing = record { occ = own; is = both.0; block = refl; value = refl };
          assigned = assigned-map base know s (joined (one_occ own) inner) (λ context. (context s.occs ≡ Hybrid) × Q context) (λ context. EventHolds f base context s (crossing base names i at x here s))
              (λ context g. record {
                test = g.0;
                parts = λ taken. occ-first (regular f base context) s own inner (occ-regular f context here s.occs kinds.hybrid Zero at (UpOf s.sites) hb g.0 refl (taken-unused f context here kinds.hybrid s.occs taken) tt taken)
                    (site-first (regular f base context) t site arg.parts (site-regular context here u.sites arg.root at hb hybrid a.root g.1.root)
                    (g.1.parts (taken-unused f context here kinds.combinatorial arg.root.occ (site-takes f t.sites site second.0))));
              })
              (assigned-occ_first base know s inner Q own Hybrid (assigned-site_first base know t arg.parts Q site a.assigned));
        }

    -- several
    pub crossings-regular : (ts : List Testing) → AllByRecursion CrossingIn ts → (here : Here) (s : Counters) → AtBlock f here → here.hybrid ≡ true → Lies f base s (test_all ts here s).parts → CrossingsRegular f base know here s (test_all ts here s)
    crossings-regular [] h here s hb hybrid lies = record {
      crossings = tt;
      assigned = assigned-map base know s nothing (λ context. Unit {0}) (λ context. CrossingsHold f base context s (test_all [] here s)) (λ context g. record { tests = tt; parts = λ taken. each-nothing (regular f base context) s }) (assigned-nothing base know s);
    }
    crossings-regular (x ∷ xs) h here s hb hybrid lies =
        let first = x here s in
        let t = after s first.parts in
        let rest = test_all xs here t in
        let a = h.0 here s hb hybrid (each-left (lying f base) s first.parts rest.parts lies) in
        let b = crossings-regular xs h.1 here t hb hybrid (each-right (lying f base) s first.parts rest.parts lies) in
        let A : (ℕ → Context) → Type 0 = λ context. EventHolds f base context s first in
        let B : (ℕ → Context) → Type 0 = λ context. CrossingsHold f base context t rest in
        record {
          crossings = (a.crossing, b.crossings);
          assigned = assigned-map base know s (joined first.parts rest.parts) (λ context. A context × B context) (λ context. CrossingsHold f base context s (test_all (x ∷ xs) here s))
              (λ context g. record { tests = (g.0.test, g.1.tests); parts = λ taken. each-joined (regular f base context) s first.parts rest.parts (g.0.parts taken.0) (g.1.parts taken.1) })
              (assigned-joined base know s first.parts rest.parts A B a.assigned b.assigned);
        }

    -- the zero-crossings of an event fit their use
    crossings-used : (context : ℕ → Context) (here : Here) (n : ℕ) (at : Pos) (all : List ℕ) → AtBlock f here → slice_get f.occs n ≡ Some (occ_here here BoolTy at (Fired all)) → context n ≡ Hybrid →
        (ks : List ℕ) → AllByRecursion (IsResult f here.block) ks → AllByRecursion (λ k. context k ≡ Hybrid) ks → AllByRecursion (λ k. UsedSo f context k (PartOf n)) ks
    crossings-used context here n at all hb is own [] h e = tt
    crossings-used context here n at all hb is own (k ∷ ks) h e = (part-used f context here n k BoolTy at (Fired all) hb is h.0 (e.0 ∙ sym own), crossings-used context here n at all hb is own ks h.1 e.1)

    -- an event
    pub event-regular : (at : Pos) (ts : List Testing) → AllByRecursion CrossingIn ts → EventIn (event base names i at ts)
    event-regular at ts h here s hb hybrid lies =
        let t = past_hidden s in
        let ups = test_all ts here t in
        let own = occ_here here BoolTy at (Fired ups.tests) in
        let both = behind-hidden (lying f base) s own ups.parts lies in
        let n = base + s.hidden in
        let a = crossings-regular ts h here t hb hybrid both.1 in
        let Q : (ℕ → Context) → Type 0 = λ context. CrossingsHold f base context t ups in
        record {
          event = record { occ = own; is = both.0; block = refl; call = refl; event = refl };
          assigned = assigned-map base know s (joined (one_hidden own) ups.parts) (λ context. (context n ≡ Hybrid) × Q context) (λ context. EventHolds f base context s (event base names i at ts here s))
              (λ context g. record {
                test = g.0;
                parts = λ taken. hidden-first (regular f base context) s own ups.parts
                    (occ-regular f context here n kinds.hybrid BoolTy at (Fired ups.tests) hb g.0 refl (taken-unused f context here kinds.hybrid n taken) (crossings-used context here n at ups.tests hb both.0 g.0 ups.tests a.crossings g.1.tests) taken)
                    (g.1.parts (operands-taken f n own ups.tests both.0 (λ k. refl)));
              })
              (assigned-hidden_first base know s ups.parts Q own Hybrid a.assigned);
        }

    -- an event as a test
    pub event-tests : (t : Testing) → EventIn t → TestingIn kinds.hybrid t
    event-tests t ht here s hb hs lies =
        let made = t here s in
        let a = ht here s hb hs lies in
        let e = a.event in
        assigned-map base know s made.parts (λ context. EventHolds f base context s made) (λ context. BodyIs f context here kinds.hybrid → TestHolds f base context s made)
        (λ context g body. record {
          test = used-by f context here.block made.test here.hybrid TestOf hb e.occ e.is e.block (g.test ∙ ap (λ h. test_context (context_of_block h)) (sym hs))
              (inr (ap (called_context context (context_of_block here.hybrid)) e.call ∙ body)) (e.event ∙ sym hs);
          parts = g.parts;
        }) a.assigned

    -- a condition in parentheses
    pub tested-tests : (x : Walk) → WalkIn f base know kinds.recalling x → TestingIn kinds.discrete (tested base names i x)
    tested-tests x hx here s hb hs lies =
        let e = x here s in
        let a = hx here s hb tt lies in
        let r = a.root in
        assigned-map base know s e.parts (λ context. Holds f base context here s kinds.recalling e) (λ context. BodyIs f context here kinds.discrete → TestHolds f base context s (tested base names i x here s))
        (λ context g body. record {
          test = used-by f context here.block e.root.occ here.hybrid TestOf hb r.occ r.is r.block (g.root ∙ ap (λ h. test_context (context_of_block h)) (sym hs))
              (inl (ap (called_context context (context_of_block here.hybrid)) r.call ∙ body)) (r.value ∙ sym hs);
          parts = λ taken. g.parts (taken-unused f context here kinds.recalling e.root.occ taken);
        }) a.assigned

    -- ---- plain equations

    -- what defines names by a plain equation has the context of the body
    plain-used : (context : ℕ → Context) (here : Here) (c : kinds.Context) → AtBlock f here → Placed f i here.call → BodyIs f context here c → (xs : List Name) (rs : List Root) → AllByRecursion (λ (x : Name). IsVariable i x.id) xs →
        AllByRecursion (λ (r : Root). IsResult f here.block r.occ) rs → AllByRecursion (λ (r : Root). context r.occ ≡ flat c) rs → AllByRecursion (GivenUsed f context) (plain_definers i here xs rs)
    plain-used context here c hb placed body [] rs known h e = tt
    plain-used context here c hb placed body (x ∷ xs) [] known h e = tt
    plain-used context here c hb placed body (x ∷ xs) (r ∷ rs) known h e = (
      at-place f here.call (place_number (variable_of i.variables x.id)) (λ call. UsedSo f context r.occ (DefinerOf call)) (variable-placed f i here.call x.id placed known.0)
          (used f context here.block r.occ here.hybrid (DefinerOf here.call) hb h.0 (e.0 ∙ sym body) tt h.0.value),
      plain-used context here c hb placed body xs rs known.1 h.1 e.1,
    )

    -- what holds of the root and the results holds of what the names are defined by
    right-all : (P : Root → Type 0) (xs : List Name) (e : Walked) → P e.root → AllByRecursion P e.results → AllByRecursion P (right_roots xs e)
    right-all P [] e h hs = hs
    right-all P (x ∷ []) e h hs = (h, tt)
    right-all P (x ∷ y ∷ xs) e h hs = hs

    -- a plain equation
    pub plain-regular : (c : kinds.Context) (left : List Name) (right : Walk) → AllByRecursion (λ (x : Name). IsVariable i x.id) left → WalkIn f base know c right → MakingIn c (plain base names i left right)
    plain-regular c left right known hr here s hb hs placed lies =
        let first = names_made base names i left (in_body i here) s in
        let t = after s first in
        let e = right here t in
        let roots = right_roots left e in
        let definers = plain_definers i here left roots in
        let last = some_definers definers in
        let rest = joined e.parts last in
        let a = hr here t hb hs (each-left (lying f base) t e.parts last (each-right (lying f base) s first rest lies)) in
        let P : (ℕ → Context) → Type 0 = λ context. IsRegularIn f base context s first in
        let Q : (ℕ → Context) → Type 0 = λ context. Holds f base context here t c e in
        assigned-map base know s (joined first rest) (λ context. P context × (Q context × Unit {0})) (λ context. BodyIs f context here c → IsRegularIn f base context s (joined first rest))
        (λ context g body.
        let h = g.1.0 in
        each-joined (regular f base context) s first rest g.0
        (each-joined (regular f base context) t e.parts last (h.parts (λ free. sym body))
        (each-some_definers (regular f base context) (after t e.parts) definers
        (plain-used context here c hb placed body left roots known (right-all (λ r. IsResult f here.block r.occ) left e (root-result f here e.root.occ a.root) a.results) (right-all (λ r. context r.occ ≡ flat c) left e h.root h.results)))))
        (assigned-joined base know s first rest P (λ context. Q context × Unit {0}) (names-regular left (in_body i here) s) (assigned-joined base know t e.parts last Q (λ context. Unit {0}) a.assigned (assigned-definers base know (after t e.parts) definers)))

    -- ---- `init`

    -- what an `init` names is used
    start-taken : (p k : ℕ) (here : Here) (s : Counters) → PlaceIn f here.call p → Lies f base s (some_definers (start_definers p here (Some k))) → Taken f k
    unfolding some_definers
    start-taken p k here s h lies free = no_use (nat_eq k k) (eq-eqb k k refl) (lies.definers.0 h.place k h.is free)
      where
        no_use : (b : Bool) → b ≡ true → when b (StartOf h.place.call here.block) ≡ [] → ⊥
        no_use true e g = cc
        no_use false e g = cc

    -- what an `init` names fits its use
    start-used : (context : ℕ → Context) (here : Here) (c : kinds.Context) (p k : ℕ) → kinds.allows_state c ≡ true → AtBlock f here → PlaceIn f here.call p → BodyIs f context here c → IsResult f here.block k → context k ≡ WithLast → AllByRecursion (GivenUsed f context) (start_definers p here (Some k))
    start-used context here c p k ok hb h body r e =
        (at-place f here.call p (λ call. UsedSo f context k (StartOf call here.block)) h (used f context here.block k here.hybrid (StartOf here.call here.block) hb r e (state-use c (called_context context (context_of_block here.hybrid) here.call) ok body) r.value), tt)

    -- `init`
    pub init-regular : (c : kinds.Context) (x : Name) (value : Walk) → kinds.allows_state c ≡ true → IsVariable i x.id → WalkIn f base know kinds.recalling value → MakingIn c (init base names i x value)
    init-regular c x value ok known hr here s hb hs placed lies =
        let first = name_made base names i x (in_body i here) s in
        let t = after s first in
        let e = value here t in
        let p = place_number (variable_of i.variables x.id) in
        let definers = start_definers p here (Some e.root.occ) in
        let last = some_definers definers in
        let rest = joined e.parts last in
        let inner = each-right (lying f base) s first rest lies in
        let a = hr here t hb tt (each-left (lying f base) t e.parts last inner) in
        let place = variable-placed f i here.call x.id placed known in
        let taken = start-taken p e.root.occ here (after t e.parts) place (each-right (lying f base) t e.parts last inner) in
        let P : (ℕ → Context) → Type 0 = λ context. IsRegularIn f base context s first in
        let Q : (ℕ → Context) → Type 0 = λ context. Holds f base context here t kinds.recalling e in
        assigned-map base know s (joined first rest) (λ context. P context × (Q context × Unit {0})) (λ context. BodyIs f context here c → IsRegularIn f base context s (joined first rest))
        (λ context g body.
        let h = g.1.0 in
        each-joined (regular f base context) s first rest g.0
        (each-joined (regular f base context) t e.parts last (h.parts (taken-unused f context here kinds.recalling e.root.occ taken))
        (each-some_definers (regular f base context) (after t e.parts) definers (start-used context here c p e.root.occ ok hb place body (root-result f here e.root.occ a.root) h.root))))
        (assigned-joined base know s first rest P (λ context. Q context × Unit {0}) (name-regular x (in_body i here) s) (assigned-joined base know t e.parts last Q (λ context. Unit {0}) a.assigned (assigned-definers base know (after t e.parts) definers)))

    -- ---- `der`

    -- a number that is named is used
    no-use : (k : ℕ) (of : Use) → when (nat_eq k k) of ≡ [] → ⊥
    no-use k of e = by_same (nat_eq k k) (eq-eqb k k refl) e
      where
        by_same : (b : Bool) → b ≡ true → when b of ≡ [] → ⊥
        by_same true e g = cc
        by_same false e g = cc

    -- what reset arms name is used
    arms-taken : (call : Option ℕ) (events : List ℕ) (n : ℕ) (arms : List DerArm) → ((k : ℕ) → Free f k → arm_uses k call events n arms ≡ []) → AllByRecursion (ArmTaken f) arms
    arms-taken call events n [] h = tt
    arms-taken call events n (arm ∷ arms) h =
        let by_event : (k : ℕ) → List Use = λ k. when (nat_eq arm.event k) (EventOf call) in
        let by_value : (k : ℕ) → List Use = λ k. when (nat_eq arm.value k) (ResetOf call events n) in
        let more : (k : ℕ) → List Use = λ k. arm_uses k call events (suc n) arms in (
          (
            λ free. no-use arm.event (EventOf call) (none-left (by_event arm.event) (by_value arm.event) (none-left (by_event arm.event ++ by_value arm.event) (more arm.event) (h arm.event free))),
            λ free. no-use arm.value (ResetOf call events n) (none-right (by_event arm.value) (by_value arm.value) (none-left (by_event arm.value ++ by_value arm.value) (more arm.value) (h arm.value free))),
          ),
          arms-taken call events (suc n) arms (λ k free. none-right (by_event k ++ by_value k) (more k) (h k free)),
        )

    -- what reset arms name fits its use
    arms-used : (context : ℕ → Context) (here : Here) (call : Option ℕ) (events : List ℕ) (n : ℕ) (arms : List DerArm) → AtBlock f here → here.hybrid ≡ true → AllByRecursion (IsArm f here) arms → AllByRecursion (ArmHolds context) arms → ArmsUsed f context call events n arms
    arms-used context here call events n [] hb hybrid h e = tt
    arms-used context here call events n (arm ∷ arms) hb hybrid h e =
        let a = h.0.event in
        let b = h.0.value in (
          used-by f context here.block arm.event here.hybrid (EventOf call) hb a.occ a.is a.block (e.0.event ∙ ap context_of_block (sym hybrid)) tt a.event,
          used f context here.block arm.value here.hybrid (ResetOf call events n) hb b e.0.value tt b.value,
          arms-used context here call events (suc n) arms hb hybrid h.1 e.1,
        )

    -- reset arms
    pub resets-regular : (rs : List ResetWalk) → AllByRecursion ResetIn rs → (here : Here) (s : Counters) → AtBlock f here → here.hybrid ≡ true → Lies f base s (resets_made base names i rs here s).parts → ResetsRegular f base know here s (resets_made base names i rs here s)
    resets-regular [] h here s hb hybrid lies = record {
      arms = tt;
      assigned = assigned-map base know s nothing (λ context. Unit {0}) (λ context. ResetsHold f base context s (resets_made base names i [] here s)) (λ context g. record { arms = tt; parts = λ taken. each-nothing (regular f base context) s }) (assigned-nothing base know s);
    }
    resets-regular (r ∷ rs) h here s hb hybrid lies =
        let test = r.event here s in
        let t = after s test.parts in
        let value = r.value here t in
        let u = after t value.parts in
        let rest = resets_made base names i rs here u in
        let later = joined value.parts rest.parts in
        let inner = each-right (lying f base) s test.parts later lies in
        let a = h.0.event here s hb hybrid (each-left (lying f base) s test.parts later lies) in
        let b = h.0.value here t hb tt (each-left (lying f base) t value.parts rest.parts inner) in
        let e = resets-regular rs h.1 here u hb hybrid (each-right (lying f base) t value.parts rest.parts inner) in
        let A : (ℕ → Context) → Type 0 = λ context. EventHolds f base context s test in
        let B : (ℕ → Context) → Type 0 = λ context. Holds f base context here t kinds.recalling value in
        let E : (ℕ → Context) → Type 0 = λ context. ResetsHold f base context u rest in
        record {
          arms = (record { event = a.event; value = root-result f here value.root.occ b.root }, e.arms);
          assigned = assigned-map base know s (joined test.parts later) (λ context. A context × (B context × E context)) (λ context. ResetsHold f base context s (resets_made base names i (r ∷ rs) here s))
              (λ context g. record {
                arms = (record { event = g.0.test; value = g.1.0.root }, g.1.1.arms);
                parts = λ taken. each-joined (regular f base context) s test.parts later (g.0.parts taken.0.0)
                    (each-joined (regular f base context) t value.parts rest.parts (g.1.0.parts (taken-unused f context here kinds.recalling value.root.occ taken.0.1)) (g.1.1.parts taken.1));
              })
              (assigned-joined base know s test.parts later A (λ context. B context × E context) a.assigned (assigned-joined base know t value.parts rest.parts B E b.assigned e.assigned));
        }

    -- the value of an `init` behind a `der`, if there is one
    abbrev pub StartIn : Option Walk → Type 0
    StartIn None = Unit {0}
    StartIn (Some x) = WalkIn f base know kinds.recalling x

    -- the value of an `init` behind a `der` of place number `p`
    record StartHolds (context : ℕ → Context) (here : Here) (p : ℕ) (s : Counters) (m : StartMade) : Type 0 where
      pub definers : AllByRecursion (GivenUsed f context) (start_definers p here m.value)
      pub parts : IsRegularIn f base context s m.parts

    -- that value stands in its context, and fits its use
    start-regular : (start : Option Walk) → StartIn start → (p : ℕ) (here : Here) (s u : Counters) → AtBlock f here → here.hybrid ≡ true → PlaceIn f here.call p → Lies f base s (start_made base names i start here s).parts →
        Lies f base u (some_definers (start_definers p here (start_made base names i start here s).value)) →
        Assigned base know s (start_made base names i start here s).parts (λ context. BodyIs f context here kinds.hybrid → StartHolds context here p s (start_made base names i start here s))
    start-regular None hx p here s u hb hybrid place lies given = assigned-map base know s nothing (λ context. Unit {0}) (λ context. BodyIs f context here kinds.hybrid → StartHolds context here p s (start_made base names i None here s))
        (λ context g body. record { definers = tt; parts = each-nothing (regular f base context) s }) (assigned-nothing base know s)
    start-regular (Some x) hx p here s u hb hybrid place lies given =
        let e = x here s in
        let a = hx here s hb tt lies in
        let taken = start-taken p e.root.occ here u place given in
        assigned-map base know s e.parts (λ context. Holds f base context here s kinds.recalling e) (λ context. BodyIs f context here kinds.hybrid → StartHolds context here p s (start_made base names i (Some x) here s))
        (λ context g body. record {
          definers = start-used context here kinds.hybrid p e.root.occ refl hb place body (root-result f here e.root.occ a.root) g.root;
          parts = g.parts (taken-unused f context here kinds.recalling e.root.occ taken);
        }) a.assigned

    -- of definers that lie in the form the first does, and so do the others
    first-lies : (g : Given) (gs : List Given) (s : Counters) → Lies f base s (some_definers (g ∷ gs)) → (place : PlaceInfo) (k : ℕ) → slice_get f.places g.place ≡ Some place → Free f k → definer_uses k place.call g.definer ≡ []
    unfolding some_definers
    first-lies g gs s h = h.definers.0

    others-lie : (g : Given) (gs : List Given) (s : Counters) → Lies f base s (some_definers (g ∷ gs)) → Lies f base s (some_definers gs)
    unfolding some_definers
    others-lie g gs s h = record { blocks = tt; places = tt; definers = h.definers.1; occs = tt; hidden = tt; sites = tt; choices = tt; automata = tt }

    -- `der`
    pub der-regular : (x : Name) (slope : Walk) (start : Option Walk) (resets : List ResetWalk) → IsVariable i x.id → WalkIn f base know kinds.hybrid slope → StartIn start → AllByRecursion ResetIn resets → MakingIn kinds.hybrid (der base names i x slope start resets)
    der-regular x slope start resets known hslope hstart hresets here s hb hs placed lies =
        let first = name_made base names i x (in_body i here) s in
        let p = place_number (variable_of i.variables x.id) in
        let t = after s first in
        let e = slope here t in
        let u = after t e.parts in
        let begin = start_made base names i start here u in
        let v = after u begin.parts in
        let arms = resets_made base names i resets here v in
        let w = after v arms.parts in
        let definer = Der here.block e.root.occ arms.arms in
        let own : Given = record { place = p; definer = definer } in
        let starts = start_definers p here begin.value in
        let last = some_definers (own ∷ starts) in
        let rest4 = joined arms.parts last in
        let rest3 = joined begin.parts rest4 in
        let rest2 = joined e.parts rest3 in
        let in2 = each-right (lying f base) s first rest2 lies in
        let in3 = each-right (lying f base) t e.parts rest3 in2 in
        let in4 = each-right (lying f base) u begin.parts rest4 in3 in
        let given = each-right (lying f base) v arms.parts last in4 in
        let place = variable-placed f i here.call x.id placed known in
        let a = hslope here t hb hs (each-left (lying f base) t e.parts rest3 in2) in
        let b = start-regular start hstart p here u w hb hs place (each-left (lying f base) u begin.parts rest4 in3) (others-lie own starts w given) in
        let d = resets-regular resets hresets here v hb hs (each-left (lying f base) v arms.parts last in4) in
        let taken = arms-taken place.place.call (events_of arms.arms) 0 arms.arms
        (λ k free. none-right (when (nat_eq e.root.occ k) (SlopeOf place.place.call)) (arm_uses k place.place.call (events_of arms.arms) 0 arms.arms) (first-lies own starts w given place.place k place.is free)) in
        let P : (ℕ → Context) → Type 0 = λ context. IsRegularIn f base context s first in
        let A : (ℕ → Context) → Type 0 = λ context. Holds f base context here t kinds.hybrid e in
        let B : (ℕ → Context) → Type 0 = λ context. BodyIs f context here kinds.hybrid → StartHolds context here p u begin in
        let D : (ℕ → Context) → Type 0 = λ context. ResetsHold f base context v arms in
        assigned-map base know s (joined first rest2) (λ context. P context × (A context × (B context × (D context × Unit {0})))) (λ context. BodyIs f context here kinds.hybrid → IsRegularIn f base context s (joined first rest2))
        (λ context g body.
        let h = g.1.0 in
        let begun = g.1.1.0 body in
        let reset = g.1.1.1.0 in
        each-joined (regular f base context) s first rest2 g.0
        (each-joined (regular f base context) t e.parts rest3 (h.parts (λ free. sym body))
        (each-joined (regular f base context) u begin.parts rest4 begun.parts
        (each-joined (regular f base context) v arms.parts last (reset.parts taken)
        (each-some_definers (regular f base context) w (own ∷ starts) (
          at-place f here.call p (λ call. DefinerUsed f context call definer) place (
            used f context here.block e.root.occ here.hybrid (SlopeOf here.call) hb (root-result f here e.root.occ a.root) (h.root ∙ sym body) body (root-result f here e.root.occ a.root).value,
            arms-used context here here.call (events_of arms.arms) 0 arms.arms hb hs d.arms reset.arms,
          ),
          begun.definers,
        ))))))
        (assigned-joined base know s first rest2 P (λ context. A context × (B context × (D context × Unit {0}))) (name-regular x (in_body i here) s)
        (assigned-joined base know t e.parts rest3 A (λ context. B context × (D context × Unit {0})) a.assigned
        (assigned-joined base know u begin.parts rest4 B (λ context. D context × Unit {0}) b
        (assigned-joined base know v arms.parts last D (λ context. Unit {0}) d.assigned (assigned-definers base know w (own ∷ starts))))))
