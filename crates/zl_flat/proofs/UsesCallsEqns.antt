-- What the walk of equations makes stands in their call.
use Rattle.std.proofs.Common.{◌≡◌, ◌⊎◌, inl, inr, ℕ, ◌+◌, ◌<◌, ◌≤◌, Bool, true, false, if◌then◌else◌, is_some, List, [], ◌∷◌, length, Option, Some, None, refl, sym, ap, subst, ◌∙◌, arith}
use Rattle.std.specs.List.{AllByRecursion}
use Rattle.zl_value.specs.Lists.{Has}
use Rattle.zl_value.specs.declared.position.Pos.{Pos}
use Rattle.zl_value.specs.declared.value.Ty.{Ty}
use Rattle.zl_value.specs.declared.value.Ty.TheVariants.{Bool as BoolTy, Zero}
use Rattle.zl_ast.specs.declared.name.Name.{Name}
use Rattle.zl_meaning.specs.FlatForm.{FlatForm, HasForm, place_call}
use Rattle.zl_meaning.specs.WellFormed.{named_in}
use Rattle.zl_meaning.specs.declared.block.BlockKind.TheVariants.{Arm as ArmOf, Guard, State as StateOf, Reset}
use Rattle.zl_meaning.specs.declared.block.Choice.{Choice}
use Rattle.zl_meaning.specs.declared.block.Auto.{Auto}
use Rattle.zl_meaning.specs.declared.place.Definer.{Definer}
use Rattle.zl_meaning.specs.declared.place.Definer.TheVariants.{Input, Plain, Der, Start}
use Rattle.zl_meaning.specs.declared.occurrence.Form.TheVariants.{Result, Up as UpOf, Fired}
use Rattle.zl_flat.specs.declared.variable.Variable.{Variable}
use Rattle.zl_flat.specs.declared.here.Here.{Here}
use Rattle.zl_flat.specs.declared.here.Root.{Root}
use Rattle.zl_flat.specs.declared.given.Given.{Given}
use Rattle.zl_flat.specs.Parts.{Parts, Counters, nothing, joined, one_block, one_place, some_definers, one_site, after, past_block, past_occ, past_hidden, past_site, past_choice, past_automaton}
use Rattle.zl_flat.specs.Variables.{variable_of, is_first}
use Rattle.zl_flat.specs.Instances.{Instance, in_body, in_block, in_call, inner_block, place_here, occ_here, site_here, first_root}
use Rattle.zl_flat.specs.Expressions.{Walk, Walked}
use Rattle.zl_flat.specs.Equations.{Making, in_turn, Tested, TestedAll, Testing, test_all, place_number, place_type, plain_definers, right_roots, StateWalk, states_made, state_names, ArmWalk, arms_made, body_of_choice, ResetWalk, ResetsMade, StartMade, start_definers, MoveWalk, name_made, names_made, crossing, event, tested, plain, resets_made, start_made, der, init, other_made, present, automaton, reset, condition_place, moves_made, state_made, arm_made, body_made}
use Rattle.zl_flat.proofs.WellFormedParts.{Each, each-nothing, each-joined, each-left, each-right, each-one_place, each-some_definers, occ-first, behind-occ, hidden-first, behind-hidden, site-first, behind-site, block-first, behind-block, choice-first, behind-choice, automaton-first, behind-automaton}
use Rattle.zl_flat.proofs.RulesKept.{IsVariable}
use Rattle.zl_flat.proofs.UsesBranches.{HasCall, Reaches, There, IsCall, IsNoResult}
use Rattle.zl_flat.proofs.UsesCalls.{IsNamedResult, GivenKept, IsIn, there, calling, stands-call, stands-here, RootsHere, RootsFrom, IsCallHere, IsWalk, WalkCalled}
use Rattle.zl_flat.proofs.UsesNames.{NamesKnown}

-- the definers of parts are there
the_definers : (f : FlatForm) (base : ℕ) (gs : List Given) (low : ℕ) (s : Counters) (xs : List Given) → Each (there f base gs low) s (some_definers xs) → AllByRecursion (Has gs) xs
unfolding some_definers
the_definers f base gs low s xs h = h.definers

-- the places of the variables of an instance have this call
abbrev pub VariablesHave : FlatForm → Instance → Option ℕ → Type 0
VariablesHave f i target = (id : ℕ) (v : Variable) → variable_of i.variables id ≡ Some v → place_call f v.place ≡ target

-- the result of this call has a number below this one
abbrev pub ResultBelow : FlatForm → ℕ → Option ℕ → Type 0
ResultBelow f low call = (n k : ℕ) → call ≡ Some n → HasForm f n (Result k) → k < low

-- the occurrence that a plain definer names
abbrev pub plain_occ : Definer → ℕ
plain_occ (Input n) = 0
plain_occ (Plain b k) = k
plain_occ (Der b slope resets) = 0
plain_occ (Start b k) = 0

module _ (f : FlatForm) (base : ℕ) (gs : List Given) (low : ℕ) (target : Option ℕ) where
  -- this call is `target`, and is one, whose result stands before number `low`
  abbrev pub IsAt : Option ℕ → Type 0
  IsAt call = (call ≡ target) × IsCall f call × ResultBelow f low call

  -- equations and conditions stand in this call itself
  abbrev pub MakingCalls : Here → Counters → Parts → Type 0
  MakingCalls here s p = IsAt here.call → Each (there f base gs low) s p → Each (calling f base gs) s p

  -- a condition, and what it makes, stand in this call
  pub record TestCalled (here : Here) (s : Counters) (t : Tested) : Type 0 where
    pub parts : Each (calling f base gs) s t.parts
    pub test : HasCall f here.call t.test

  -- where it is there
  abbrev pub TestCalls : Here → Counters → Tested → Type 0
  TestCalls here s t = IsAt here.call → Each (there f base gs low) s t.parts → TestCalled here s t

  -- of equations
  abbrev pub IsMaking : Making → Type 0
  IsMaking m = (here : Here) (s : Counters) → MakingCalls here s (m here s)

  -- of a condition
  abbrev pub IsTesting : Testing → Type 0
  IsTesting t = (here : Here) (s : Counters) → TestCalls here s (t here s)

  -- of an arm
  abbrev pub IsArmWalk : ArmWalk → Type 0
  IsArmWalk a = (of number : ℕ) (here : Here) (s : Counters) → MakingCalls here s (a of number here s).parts

  -- of a state
  abbrev pub IsStateWalk : StateWalk → Type 0
  IsStateWalk x = (of number : ℕ) (states : List ℕ) (here : Here) (s : Counters) → MakingCalls here s (x.walk of number states here s).parts

  -- of a reset arm
  pub record IsResetWalk (r : ResetWalk) : Type 0 where
    pub event : IsTesting r.event
    pub value : IsWalk f base gs low target r.value

  -- of the condition of a move
  pub record IsMoveWalk (m : MoveWalk) : Type 0 where
    pub test : IsTesting m.test

  -- from the call one comes to itself
  reaches : (here : Here) → IsAt here.call → IsIn f target here.call
  reaches here at = (subst (Reaches f target) (sym at.0) There, at.1)

  -- parts one behind the other
  both : (s : Counters) (p q : Parts) → (Each (there f base gs low) s p → Each (calling f base gs) s p) → (Each (there f base gs low) (after s p) q → Each (calling f base gs) (after s p) q) → Each (there f base gs low) s (joined p q) → Each (calling f base gs) s (joined p q)
  both s p q h g sits = each-joined (calling f base gs) s p q (h (each-left (there f base gs low) s p q sits)) (g (each-right (there f base gs low) s p q sits))

  -- ---- one behind the other

  -- equations one behind the other
  pub in_turn-called : (ms : List Making) → AllByRecursion IsMaking ms → IsMaking (in_turn ms)
  in_turn-called [] hs here s at sits = each-nothing (calling f base gs) s
  in_turn-called (m ∷ ms) hs here s at sits = both s (m here s) (in_turn ms here (after s (m here s))) (hs.0 here s at) (in_turn-called ms hs.1 here (after s (m here s)) at) sits

  -- conditions one behind the other stand in this call
  record TestsCalled (here : Here) (s : Counters) (t : TestedAll) : Type 0 where
    parts : Each (calling f base gs) s t.parts
    tests : AllByRecursion (HasCall f here.call) t.tests

  -- conditions one behind the other
  test_all-called : (ts : List Testing) → AllByRecursion IsTesting ts → (here : Here) (s : Counters) → IsAt here.call → Each (there f base gs low) s (test_all ts here s).parts → TestsCalled here s (test_all ts here s)
  test_all-called [] hs here s at sits = record { parts = each-nothing (calling f base gs) s; tests = tt }
  test_all-called (t ∷ ts) hs here s at sits =
      let first = t here s in
      let u = after s first.parts in
      let rest = test_all ts here u in
      let a = hs.0 here s at (each-left (there f base gs low) s first.parts rest.parts sits) in
      let b = test_all-called ts hs.1 here u at (each-right (there f base gs low) s first.parts rest.parts sits) in
      record { parts = each-joined (calling f base gs) s first.parts rest.parts a.parts b.parts; tests = (a.test, b.tests) }

  -- ---- names

  -- the place of a name, if it is made here
  place-called : (b : Bool) (ty : Ty) (name : ℕ) (at : Pos) (here : Here) (s : Counters) → Each (calling f base gs) s (if b then one_place (place_here here ty name at) else nothing)
  place-called true ty name at here s = each-one_place (calling f base gs) s (place_here here ty name at) tt
  place-called false ty name at here s = each-nothing (calling f base gs) s

  module _ (names : List (List ℕ)) (i : Instance) where
    -- a name that is declared or defined
    name-called : (x : Name) (here : Here) (s : Counters) → Each (calling f base gs) s (name_made base names i x here s)
    name-called x here s = place-called (is_first i.infos x) (place_type (variable_of i.variables x.id)) x.id x.at here s

    -- names that are declared or defined
    names-called : (xs : List Name) (here : Here) (s : Counters) → Each (calling f base gs) s (names_made base names i xs here s)
    names-called [] here s = each-nothing (calling f base gs) s
    names-called (x ∷ xs) here s =
        let first = name_made base names i x here s in
        each-joined (calling f base gs) s first (names_made base names i xs here (after s first)) (name-called x here s) (names-called xs here (after s first))

    -- ---- conditions

    -- an occurrence leaves the number of the next site
    site-number : (t : Counters) → t.sites ≡ (past_occ t).sites
    unfolding past_occ
    site-number t = refl

    -- an `up`
    pub crossing-called : (at : Pos) (x : Walk) → IsWalk f base gs low target x → IsTesting (crossing base names i at x)
    crossing-called pos x hx here s at sits =
        let t = past_occ s in
        let u = past_site t in
        let arg = x here u in
        let own = occ_here here Zero pos (UpOf s.sites) in
        let site = site_here here arg.root.occ pos in
        let one = behind-occ (there f base gs low) s own (joined (one_site site) arg.parts) sits in
        let two = behind-site (there f base gs low) t site arg.parts one.1 in
        let a = hx here u (reaches here at) two.1 in
        record {
          parts = occ-first (calling f base gs) s own (joined (one_site site) arg.parts) ((tt, tt), at.1)
              (site-first (calling f base gs) t site arg.parts (record { number = s.occs; occ = own; is = one.0.0; form = ap UpOf (site-number s); called = stands-call f here arg.root.occ a.root }) a.parts);
          test = stands-call f here s.occs (stands-here f s.occs here Zero pos (UpOf s.sites) one.0.0);
        }

    -- an event
    pub event-called : (at : Pos) (ts : List Testing) → AllByRecursion IsTesting ts → IsTesting (event base names i at ts)
    event-called pos ts hs here s at sits =
        let t = past_hidden s in
        let ups = test_all ts here t in
        let own = occ_here here BoolTy pos (Fired ups.tests) in
        let one = behind-hidden (there f base gs low) s own ups.parts sits in
        let a = test_all-called ts hs here t at one.1 in
        record {
          parts = hidden-first (calling f base gs) s own ups.parts ((a.tests, tt), at.1) a.parts;
          test = stands-call f here (base + s.hidden) (stands-here f (base + s.hidden) here BoolTy pos (Fired ups.tests) one.0);
        }

    -- a condition that is an expression
    pub tested-called : (x : Walk) → IsWalk f base gs low target x → IsTesting (tested base names i x)
    tested-called x hx here s at sits = let a = hx here s (reaches here at) sits in record { parts = a.parts; test = stands-call f here (x here s).root.occ a.root }

    -- ---- definers

    module _ (variables : VariablesHave f i target) where
      -- the place of a variable has the call in which its equation stands
      place-has : (x : Name) (here : Here) → IsVariable i x.id → IsAt here.call → here.call ≡ place_call f (place_number (variable_of i.variables x.id))
      place-has x here v at = at.0 ∙ sym (variables x.id v.variable v.is) ∙ ap (λ o. place_call f (place_number o)) (sym v.is)

      -- what stands from number `low` on isn't the result of the call
      no-result : (x : Name) (here : Here) → IsVariable i x.id → IsAt here.call → (b j : ℕ) → low ≤ j → IsNoResult f (place_call f (place_number (variable_of i.variables x.id))) (Plain b j)
      no-result x here v at b j from n k c call form e =
          let lt = at.2 n k (place-has x here v at ∙ call) form in
          let same : j ≡ k = ap plain_occ e in
          absurd (omega (arith, lt, same, from))

      -- what the roots of a plain equation are
      abbrev PlainRoot : Here → ℕ → Type 0
      PlainRoot here k = (HasCall f here.call k ⊎ IsNamedResult f gs here.call k) × (low ≤ k)

      -- each name is defined by what stands in its call
      plain-definers : (here : Here) → IsAt here.call → (xs : List Name) (rs : List Root) → NamesKnown i xs → AllByRecursion (λ (r : Root). PlainRoot here r.occ) rs →
          AllByRecursion (λ (g : Given). GivenKept f gs g) (plain_definers i here xs rs)
      plain-definers here at [] rs known h = tt
      plain-definers here at (x ∷ xs) [] known h = tt
      plain-definers here at (x ∷ xs) (r ∷ rs) known h =
          ((subst (λ c. HasCall f c r.occ ⊎ IsNamedResult f gs c r.occ) (place-has x here known.0 at) h.0.0, no-result x here known.0 at here.block r.occ h.0.1), plain-definers here at xs rs known.1 h.1)

      -- roots that stand here
      roots-plain : (here : Here) (rs : List Root) → RootsHere f here rs → RootsFrom low rs → AllByRecursion (λ (r : Root). PlainRoot here r.occ) rs
      roots-plain here [] h from = tt
      roots-plain here (r ∷ rs) h from = ((inl (stands-call f here r.occ h.0), from.0), roots-plain here rs h.1 from.1)

      -- the results of a call of which the first has a definer
      results-plain : (here : Here) (e : Walked) (c : IsCallHere f here e) (place : ℕ) → Has gs (record { place = place; definer = Plain here.block (first_root e.results).occ }) →
          (rs : List Root) → RootsHere f (in_call e.root.occ here) rs → RootsFrom low rs → AllByRecursion (λ (r : Root). PlainRoot here r.occ) rs
      results-plain here e c place named [] h from = tt
      results-plain here e c place named (r ∷ rs) h from =
          let a = h.0 in (
            (
              inr (record {
                whole = e.root.occ;
                occ = a.occ;
                is = a.is;
                call_is = a.call;
                own = c.own;
                own_is = c.own_is;
                own_call = c.own_call;
                block = a.block ∙ sym c.own_block;
                result = (first_root e.results).occ;
                form = c.form;
                place = place;
                inner = here.block;
                named = named;
              }),
              from.0,
            ),
            results-plain here e c place named rs h.1 from.1,
          )

      -- the definers of a call's results
      call-definers : (here : Here) → IsAt here.call → (xs : List Name) (e : Walked) → NamesKnown i xs → IsCallHere f here e → (rs : List Root) → e.results ≡ rs → RootsHere f (in_call e.root.occ here) rs → RootsFrom low rs → AllByRecursion (Has gs) (plain_definers i here xs rs) →
          AllByRecursion (λ (g : Given). GivenKept f gs g) (plain_definers i here xs rs)
      call-definers here at [] e known c rs is h from given = tt
      call-definers here at (x ∷ xs) e known c [] is h from given = tt
      call-definers here at (x ∷ xs) e known c (r ∷ rs) is h from given =
          let place = place_number (variable_of i.variables x.id) in
          let first : Has gs (record { place = place; definer = Plain here.block (first_root e.results).occ }) = subst (λ us. Has gs (record { place = place; definer = Plain here.block (first_root us).occ })) (sym is) given.0 in
          plain-definers here at (x ∷ xs) (r ∷ rs) known (results-plain here e c place first (r ∷ rs) h from)

      -- several names are defined by the results of the expression
      results-definers : (here : Here) → IsAt here.call → (xs : List Name) (e : Walked) → NamesKnown i xs → RootsHere f here e.results ⊎ IsCallHere f here e → RootsFrom low e.results → AllByRecursion (Has gs) (plain_definers i here xs e.results) →
          AllByRecursion (λ (g : Given). GivenKept f gs g) (plain_definers i here xs e.results)
      results-definers here at xs e known (inl h) from given = plain-definers here at xs e.results known (roots-plain here e.results h from)
      results-definers here at xs e known (inr c) from given = call-definers here at xs e known c e.results refl c.results from given

      -- the definers of a plain equation
      right-definers : (here : Here) (s : Counters) → IsAt here.call → (xs : List Name) (e : Walked) → NamesKnown i xs → WalkCalled f base gs low here s e → AllByRecursion (Has gs) (plain_definers i here xs (right_roots xs e)) →
          AllByRecursion (λ (g : Given). GivenKept f gs g) (plain_definers i here xs (right_roots xs e))
      right-definers here s at [] e known h given = tt
      right-definers here s at (x ∷ []) e known h given = plain-definers here at (x ∷ []) (e.root ∷ []) known ((inl (stands-call f here e.root.occ h.root), h.from), tt)
      right-definers here s at (x ∷ y ∷ xs) e known h given = results-definers here at (x ∷ y ∷ xs) e known h.results h.results_from given

      -- a plain equation
      pub plain-called : (left : List Name) (right : Walk) → NamesKnown i left → IsWalk f base gs low target right → IsMaking (plain base names i left right)
      plain-called left right known hr here s at sits =
          let first = names_made base names i left (in_body i here) s in
          let t = after s first in
          let e = right here t in
          let definers = plain_definers i here left (right_roots left e) in
          let rest = joined e.parts (some_definers definers) in
          let inner = each-right (there f base gs low) s first rest sits in
          let a = hr here t (reaches here at) (each-left (there f base gs low) t e.parts (some_definers definers) inner) in
          let given = the_definers f base gs low (after t e.parts) definers (each-right (there f base gs low) t e.parts (some_definers definers) inner) in
          each-joined (calling f base gs) s first rest (names-called left (in_body i here) s)
          (each-joined (calling f base gs) t e.parts (some_definers definers) a.parts
          (each-some_definers (calling f base gs) (after t e.parts) definers (right-definers here t at left e known a given)))

      -- an `init`
      pub init-called : (x : Name) (value : Walk) → IsVariable i x.id → IsWalk f base gs low target value → IsMaking (init base names i x value)
      init-called x value v hr here s at sits =
          let first = name_made base names i x (in_body i here) s in
          let t = after s first in
          let e = value here t in
          let definers = start_definers (place_number (variable_of i.variables x.id)) here (Some e.root.occ) in
          let rest = joined e.parts (some_definers definers) in
          let inner = each-right (there f base gs low) s first rest sits in
          let a = hr here t (reaches here at) (each-left (there f base gs low) t e.parts (some_definers definers) inner) in
          each-joined (calling f base gs) s first rest (name-called x (in_body i here) s)
          (each-joined (calling f base gs) t e.parts (some_definers definers) a.parts
          (each-some_definers (calling f base gs) (after t e.parts) definers ((subst (λ c. HasCall f c e.root.occ) (place-has x here v at) (stands-call f here e.root.occ a.root), λ n k b call form is. cc), tt)))

      -- ---- `der`

      -- the reset arms of a `der` stand in this call
      record ResetsCalled (here : Here) (s : Counters) (r : ResetsMade) : Type 0 where
        parts : Each (calling f base gs) s r.parts
        arms : AllByRecursion (HasCall f here.call) (named_in r.arms)

      -- the reset arms of a `der`
      resets-called : (rs : List ResetWalk) → AllByRecursion IsResetWalk rs → (here : Here) (s : Counters) → IsAt here.call → Each (there f base gs low) s (resets_made base names i rs here s).parts → ResetsCalled here s (resets_made base names i rs here s)
      resets-called [] hs here s at sits = record { parts = each-nothing (calling f base gs) s; arms = tt }
      resets-called (r ∷ rs) hs here s at sits =
          let test = r.event here s in
          let t = after s test.parts in
          let value = r.value here t in
          let u = after t value.parts in
          let rest = resets_made base names i rs here u in
          let inner = each-right (there f base gs low) s test.parts (joined value.parts rest.parts) sits in
          let a = hs.0.event here s at (each-left (there f base gs low) s test.parts (joined value.parts rest.parts) sits) in
          let b = hs.0.value here t (reaches here at) (each-left (there f base gs low) t value.parts rest.parts inner) in
          let c = resets-called rs hs.1 here u at (each-right (there f base gs low) t value.parts rest.parts inner) in
          record {
            parts = each-joined (calling f base gs) s test.parts (joined value.parts rest.parts) a.parts (each-joined (calling f base gs) t value.parts rest.parts b.parts c.parts);
            arms = (a.test, (stands-call f here value.root.occ b.root, c.arms));
          }

      -- of the `init` value behind a `der`
      abbrev pub IsStart : Option Walk → Type 0
      IsStart None = Unit {0}
      IsStart (Some x) = IsWalk f base gs low target x

      -- the `init` value has this call
      abbrev StartHas : Here → Option ℕ → Type 0
      StartHas here None = Unit {0}
      StartHas here (Some k) = HasCall f here.call k

      -- it stands in this call
      record StartCalled (here : Here) (s : Counters) (m : StartMade) : Type 0 where
        parts : Each (calling f base gs) s m.parts
        value : StartHas here m.value

      -- the `init` value behind a `der`
      start-called : (start : Option Walk) → IsStart start → (here : Here) (s : Counters) → IsAt here.call → Each (there f base gs low) s (start_made base names i start here s).parts → StartCalled here s (start_made base names i start here s)
      start-called None h here s at sits = record { parts = each-nothing (calling f base gs) s; value = tt }
      start-called (Some x) h here s at sits = let a = h here s (reaches here at) sits in record { parts = a.parts; value = stands-call f here (x here s).root.occ a.root }

      -- the definer of the `init` value
      start-definers : (x : Name) (here : Here) → IsVariable i x.id → IsAt here.call → (value : Option ℕ) → StartHas here value →
          AllByRecursion (λ (g : Given). GivenKept f gs g) (start_definers (place_number (variable_of i.variables x.id)) here value)
      start-definers x here v at None h = tt
      start-definers x here v at (Some k) h = ((subst (λ c. HasCall f c k) (place-has x here v at) h, λ n j b call form is. cc), tt)

      -- a `der`
      pub der-called : (x : Name) (slope : Walk) (start : Option Walk) (resets : List ResetWalk) → IsVariable i x.id → IsWalk f base gs low target slope → IsStart start → AllByRecursion IsResetWalk resets → IsMaking (der base names i x slope start resets)
      der-called x slope start resets v hslope hstart hresets here s at sits =
          let first = name_made base names i x (in_body i here) s in
          let p = place_number (variable_of i.variables x.id) in
          let t = after s first in
          let e = slope here t in
          let u = after t e.parts in
          let begin = start_made base names i start here u in
          let z = after u begin.parts in
          let arms = resets_made base names i resets here z in
          let own : Given = record { place = p; definer = Der here.block e.root.occ arms.arms } in
          let definers = own ∷ start_definers p here begin.value in
          let rest4 = joined arms.parts (some_definers definers) in
          let rest3 = joined begin.parts rest4 in
          let in1 = each-right (there f base gs low) s first (joined e.parts rest3) sits in
          let in2 = each-right (there f base gs low) t e.parts rest3 in1 in
          let in3 = each-right (there f base gs low) u begin.parts rest4 in2 in
          let a = hslope here t (reaches here at) (each-left (there f base gs low) t e.parts rest3 in1) in
          let b = start-called start hstart here u at (each-left (there f base gs low) u begin.parts rest4 in2) in
          let c = resets-called resets hresets here z at (each-left (there f base gs low) z arms.parts (some_definers definers) in3) in
          let own_called : AllByRecursion (HasCall f here.call) (e.root.occ ∷ named_in arms.arms) = (stands-call f here e.root.occ a.root, c.arms) in
          each-joined (calling f base gs) s first (joined e.parts rest3) (name-called x (in_body i here) s)
          (each-joined (calling f base gs) t e.parts rest3 a.parts
          (each-joined (calling f base gs) u begin.parts rest4 b.parts
          (each-joined (calling f base gs) z arms.parts (some_definers definers) c.parts
          (each-some_definers (calling f base gs) (after z arms.parts) definers
          ((subst (λ c. AllByRecursion (HasCall f c) (e.root.occ ∷ named_in arms.arms)) (place-has x here v at) own_called, λ n k b call form is. cc), start-definers x here v at begin.value b.value)))))

    -- ---- `reset`, `present`

    -- a `reset`
    pub reset-called : (eqs : List Making) (c : Testing) → AllByRecursion IsMaking eqs → IsTesting c → IsMaking (reset base names i eqs c)
    reset-called eqs c heqs hc here s at sits =
        let t = past_block s in
        let below = in_block s.blocks here.hybrid here in
        let inside = in_turn eqs below t in
        let test = c here (after t inside) in
        let own = inner_block here (Reset test.test) here.hybrid in
        let q = joined inside test.parts in
        block-first (calling f base gs) s own q tt
        (both t inside test.parts (in_turn-called eqs heqs below t at) (λ inner. (hc here (after t inside) at inner).parts) (behind-block (there f base gs low) s own q sits).1)

    -- a body of a choice
    choice_body-called : (body : Making) → IsMaking body → (of number : ℕ) → IsMaking (body_of_choice body of number)
    choice_body-called body hb of number here s at sits =
        let t = past_block s in
        let below = in_block s.blocks false here in
        let own = inner_block here (ArmOf of number) false in
        block-first (calling f base gs) s own (body below t) tt (hb below t at (behind-block (there f base gs low) s own (body below t) sits).1)

    -- an arm of a `present`
    pub arm-called : (c : Testing) (body : Making) → IsTesting c → IsMaking body → IsArmWalk (arm_made base names i c body)
    arm-called c body hc hb of number here s at sits =
        let test = c here s in
        let t = after s test.parts in
        both s test.parts (body_of_choice body of number here t) (λ inner. (hc here s at inner).parts) (choice_body-called body hb of number here t at) sits

    -- arms one behind the other
    arms-called : (ws : List ArmWalk) → AllByRecursion IsArmWalk ws → (of number : ℕ) (here : Here) (s : Counters) → MakingCalls here s (arms_made ws of number here s).parts
    arms-called [] hs of number here s at sits = each-nothing (calling f base gs) s
    arms-called (a ∷ ws) hs of number here s at sits =
        let first = (a of number here s).parts in
        both s first (arms_made ws of (number + 1) here (after s first)).parts (hs.0 of number here s at) (arms-called ws hs.1 of (number + 1) here (after s first) at) sits

    -- of the `else` body
    abbrev pub IsOther : Option Making → Type 0
    IsOther None = Unit {0}
    IsOther (Some b) = IsMaking b

    -- the `else` body, if there is one
    other-called : (other : Option Making) → IsOther other → (of number : ℕ) → IsMaking (other_made base names i other of number)
    other-called None hb of number here s at sits = each-nothing (calling f base gs) s
    other-called (Some b) hb of number here s at sits = choice_body-called b hb of number here s at sits

    -- a `present`
    pub present-called : (arms : List ArmWalk) (other : Option Making) → AllByRecursion IsArmWalk arms → IsOther other → IsMaking (present base names i arms other)
    present-called arms other ha ho here s at sits =
        let t = past_choice s in
        let bodies = arms_made arms s.choices 0 here t in
        let u = after t bodies.parts in
        let last_body = other_made base names i other s.choices (length arms) here u in
        let own : Choice = record { block = here.block; conds = bodies.tests; other = is_some other } in
        let q = joined bodies.parts last_body in
        choice-first (calling f base gs) s own q tt
        (both t bodies.parts last_body (arms-called arms ha s.choices 0 here t at) (other-called other ho s.choices (length arms) here u at) (behind-choice (there f base gs low) s own q sits).1)

    -- ---- `automaton`

    -- guard and body of a state stand in the call of the automaton
    condition-call : (strong : Bool) (guard body : ℕ) (here : Here) → (condition_place strong guard body here).call ≡ here.call
    condition-call true guard body here = refl
    condition-call false guard body here = refl

    -- the moves of a state
    moves-called : (ms : List MoveWalk) → AllByRecursion IsMoveWalk ms → (guard body : ℕ) (states : List ℕ) (here : Here) (s : Counters) → MakingCalls here s (moves_made base names i ms guard body states here s).parts
    moves-called [] hs guard body states here s at sits = each-nothing (calling f base gs) s
    moves-called (m ∷ ms) hs guard body states here s at sits =
        let place = condition_place m.strong guard body here in
        let test = (m.test place s).parts in
        both s test (moves_made base names i ms guard body states here (after s test)).parts (λ inner. (hs.0.test place s (subst IsAt (sym (condition-call m.strong guard body here)) at) inner).parts)
        (moves-called ms hs.1 guard body states here (after s test) at) sits

    -- a state of an automaton
    pub state-called : (name : Name) (body : Making) (moves : List MoveWalk) → IsMaking body → AllByRecursion IsMoveWalk moves → IsStateWalk (record { name = name; walk = state_made base names i body moves })
    state-called name body moves hb hm of number states here s at sits =
        let t = past_block s in
        let u = past_block t in
        let below = in_block (s.blocks + 1) here.hybrid here in
        let inside = body below u in
        let rest = (moves_made base names i moves s.blocks (s.blocks + 1) states here (after u inside)).parts in
        let guard_block = inner_block here (Guard of number) here.hybrid in
        let body_block = inner_block here (StateOf of number) here.hybrid in
        let q = joined inside rest in
        let one = behind-block (there f base gs low) s guard_block (joined (one_block body_block) q) sits in
        let two = behind-block (there f base gs low) t body_block q one.1 in
        block-first (calling f base gs) s guard_block (joined (one_block body_block) q) tt
        (block-first (calling f base gs) t body_block q tt
        (both u inside rest (hb below u at) (moves-called moves hm s.blocks (s.blocks + 1) states here (after u inside) at) two.1))

    -- states one behind the other
    states-called : (ws : List StateWalk) → AllByRecursion IsStateWalk ws → (of number : ℕ) (all : List ℕ) (here : Here) (s : Counters) → MakingCalls here s (states_made ws of number all here s).parts
    states-called [] hs of number all here s at sits = each-nothing (calling f base gs) s
    states-called (x ∷ ws) hs of number all here s at sits =
        let first = (x.walk of number all here s).parts in
        both s first (states_made ws of (number + 1) all here (after s first)).parts (hs.0 of number all here s at) (states-called ws hs.1 of (number + 1) all here (after s first) at) sits

    -- an automaton
    pub automaton-called : (states : List StateWalk) → AllByRecursion IsStateWalk states → IsMaking (automaton base names i states)
    automaton-called states hs here s at sits =
        let t = past_automaton s in
        let all = state_names states in
        let made = states_made states s.automata 0 all here t in
        let own : Auto = record { block = here.block; states = made.states } in
        automaton-first (calling f base gs) s own made.parts tt (states-called states hs s.automata 0 all here t at (behind-automaton (there f base gs low) s own made.parts sits).1)

    -- ---- bodies

    -- locals, and then equations
    pub body-called : (locals : List Name) (eqs : List Making) → AllByRecursion IsMaking eqs → IsMaking (body_made base names i locals eqs)
    body-called locals eqs hs here s at sits =
        let first = names_made base names i locals here s in
        both s first (in_turn eqs here (after s first)) (λ inner. names-called locals here s) (in_turn-called eqs hs here (after s first) at) sits
