-- The flat form of a program keeps calls, where the places of variables have the calls of their copies.
use Rattle.std.proofs.Common.{◌≡◌, inl, inr, ℕ, ◌+◌, ◌<◌, ◌≤◌, Bool, true, false, if◌then◌else◌, nat_eq, List, [], ◌∷◌, ◌++◌, map, length, slice_get, Option, Some, None, refl, sym, ap, subst, ◌∙◌, arith}
use Rattle.std.specs.List.{AllByRecursion}
use Rattle.std.specs.Option.{option_and_then}
use Rattle.std.proofs.lemmas.Bool.{eqb-true}
use Rattle.zl_value.specs.Lists.{listed}
use Rattle.zl_ast.specs.declared.program.Decl.{Decl}
use Rattle.zl_ast.specs.declared.program.Param.{Param}
use Rattle.zl_ast.specs.NamesRules.{built_in}
use Rattle.zl_meaning.specs.FlatForm.{FlatForm, HasForm, place_call}
use Rattle.zl_meaning.specs.Uses.{uses_of}
use Rattle.zl_meaning.specs.declared.place.Definer.{Definer}
use Rattle.zl_meaning.specs.declared.place.Definer.TheVariants.{Input, Plain, Der, Start}
use Rattle.zl_meaning.specs.declared.place.PlaceInfo.{PlaceInfo}
use Rattle.zl_meaning.specs.declared.occurrence.Form.TheVariants.{Read, Last, Result}
use Rattle.zl_meaning.specs.declared.occurrence.Occ.{Occ}
use Rattle.zl_meaning.specs.declared.occurrence.SiteInfo.{SiteInfo}
use Rattle.zl_flat.specs.declared.variable.Variable.{Variable}
use Rattle.zl_flat.specs.declared.here.Here.{Here}
use Rattle.zl_flat.specs.declared.here.Root.{Root}
use Rattle.zl_flat.specs.declared.given.Given.{Given}
use Rattle.zl_flat.specs.Operators.{value_type}
use Rattle.zl_flat.specs.Parts.{Parts, Counters, joined, some_places, some_definers, after, past_block, start}
use Rattle.zl_flat.specs.Variables.{variable_of}
use Rattle.zl_flat.specs.Instances.{Instance}
use Rattle.zl_flat.specs.Expressions.{Walk, expr_walk, exprs_walk}
use Rattle.zl_flat.specs.Equations.{Making, ResetWalk, MoveWalk, eqn_walk, eqns_walk}
use Rattle.zl_flat.specs.Expansion.{found, with_callees, variables_from, argument_definers, input_definers, param_place, body_copy, instance, decl_copy, definers_of, defined_places, form_of, result_places, main_here, main_block, main_parts, MainOf, sizes_of, main_size, main_form}
use Rattle.zl_flat.proofs.PartsNumbers.{number-from, first-of}
use Rattle.zl_flat.proofs.WellFormedParts.{AllFrom, Each, from-append, each-joined, each-left, each-right, each-some_places, each-some_definers, the_places, block-first, behind-block}
use Rattle.zl_flat.proofs.WellFormedGround.{IsPlaceAt, Sits}
use Rattle.zl_flat.proofs.WellFormedForm.{from-get, parts-sit}
use Rattle.zl_flat.proofs.WellFormedDecls.{known_after, IsMainKept}
use Rattle.zl_flat.proofs.UsesBranches.{HasCall, DefinerCalled, Reaches, There, IsCall, SiteCalled, IsNoResult, KeepsCalls}
use Rattle.zl_flat.proofs.UsesCalls.{NameCalled, OccCalled, GivenCalled, DefinerKept, GivenKept, there, calling, there-sits, there-from, stands-call, RootsHere, RootsBelow, roots-from, Returns, CopyCalled, CopyCalls, WalkCalls, LinkCalls, walk_all-called, leaf-called, chain-called, built_in-called, prefixed-called, link-called, conditional-called, flow-called, call-called}
use Rattle.zl_flat.proofs.UsesCallsEqns.{VariablesHave, plain_occ, MakingCalls, TestCalls, IsResetWalk, IsMoveWalk, IsStart, IsOther, in_turn-called, crossing-called, event-called, tested-called, plain-called, init-called, der-called, reset-called, arm-called, present-called, state-called, automaton-called, body-called}
use Rattle.zl_flat.proofs.UsesExprTrees.{Kinds, Copied, OfForms}
use Rattle.zl_flat.proofs.UsesEqnTrees.{EqnKinds, OfStart, OfOther, OfReset, OfMove, OfEquations}
use Rattle.zl_flat.proofs.UsesDecls.{roots-length, inside-of, OfDecl, decl-holds, nothing-known, has-calls, Facts, AllFacts, Copies, callees-hold}
use Rattle.zl_flat.proofs.UsesMain.{parts_of}
use Rattle.zl_flat.proofs.UsesNamed.{each-has, all-map}
use Rattle.zl_flat.proofs.UsesOnce.{IsCallOf, call-unused, main-fits}

-- in each copy of the declaration the places of its variables have the copy's call
abbrev pub VariablesCalled : FlatForm → ℕ → List (List ℕ) → Facts
VariablesCalled f base names callees sizes d = (definers : List Given) (here : Here) (s : Counters) →
    Sits f base s (body_copy base names (instance base names callees sizes d here.block s.places) d.decl definers here s).parts →
    (id : ℕ) (v : Variable) → variable_of (variables_from sizes d s.places) id ≡ Some v → place_call f v.place ≡ here.call

module _ (f : FlatForm) (base : ℕ) (gs : List Given) where
  -- what is shown of copies
  abbrev called_copies : Copied
  called_copies here roots s c = CopyCalls f base gs here roots s c

  module _ (low : ℕ) (target : Option ℕ) where
    -- what is shown of expressions
    abbrev called_exprs : Kinds
    called_exprs = record { walked = λ here s e. WalkCalls f base gs low target here s e; linked = λ here left s e. LinkCalls f base gs low target here left s e }

    -- what is shown of equations
    abbrev called : EqnKinds
    called = record {
      exprs = called_exprs;
      made = λ here s p. MakingCalls f base gs low target here s p;
      tested = λ here s t. TestCalls f base gs low target here s t;
      crossed = λ here s t. TestCalls f base gs low target here s t;
      armed = λ of number here s t. MakingCalls f base gs low target here s t.parts;
      stated = λ of number states here s m. MakingCalls f base gs low target here s m.parts;
    }

    module _ (names : List (List ℕ)) (i : Instance) (variables : VariablesHave f i target) where
      -- it holds of each form of expression
      forms-called : OfForms called_exprs called_copies base names i
      forms-called = record {
        literal = λ v at here s reach. leaf-called f base gs low target (value_type v) at _ here s reach (tt, tt);
        reading = λ v x is here s reach. leaf-called f base gs low target v.ty x.at (Read v.place) here s reach (tt, subst (λ c. Reaches f c here.call) (sym (variables x.id v is)) reach.0);
        lasting = λ v x at is here s reach. leaf-called f base gs low target v.ty at (Last v.place) here s reach (tt, subst (λ c. Reaches f c here.call) (sym (variables x.id v is)) reach.0);
        building = λ op at args hs here s. built_in-called f base gs low target names i op at args hs here s;
        calling = λ x args c is hc hs here s. call-called f base gs low target names i x args c is hc hs here s;
        prefixing = λ op at x hx here s. prefixed-called f base gs low target names i op at x hx here s;
        chaining = λ x ls hx hls here s. chain-called f base gs low target x ls hx hls here s;
        linking = λ l hx here left s. link-called f base gs low target l.op l.at l.arg hx here left s;
        flowing = λ op at x y hx hy here s. flow-called f base gs low target names i op at x y hx hy here s;
        choosing = λ at c x y hc hx hy here s. conditional-called f base gs low target names i at c x y hc hx hy here s;
      }

      -- reset arms of which it holds
      resets-too : (rs : List ResetWalk) → AllByRecursion (OfReset called) rs → AllByRecursion (IsResetWalk f base gs low target) rs
      resets-too [] h = tt
      resets-too (r ∷ rs) h = let a = h.0 in (record { event = a.event; value = a.value }, resets-too rs h.1)

      -- moves of which it holds
      moves-too : (ms : List MoveWalk) → AllByRecursion (OfMove called) ms → AllByRecursion (IsMoveWalk f base gs low target) ms
      moves-too [] h = tt
      moves-too (m ∷ ms) h = let a = h.0 in (record { test = a.test }, moves-too ms h.1)

      -- an `init` value of which it holds
      start-too : (start : Option Walk) → OfStart called start → IsStart f base gs low target names i variables start
      start-too None h = tt
      start-too (Some x) h = h

      -- an `else` body of which it holds
      other-too : (other : Option Making) → OfOther called other → IsOther f base gs low target names i other
      other-too None h = tt
      other-too (Some b) h = h

      -- it holds of each form of equation
      equations-called : OfEquations called base names i
      equations-called = record {
        crossing = λ at x hx here s. crossing-called f base gs low target names i at x hx here s;
        event = λ at ts hs here s. event-called f base gs low target names i at ts hs here s;
        testing = λ x hx here s. tested-called f base gs low target names i x hx here s;
        plain = λ left right known hr here s. plain-called f base gs low target names i variables left right known hr here s;
        der = λ x slope start resets known hslope hstart hresets here s. der-called f base gs low target names i variables x slope start resets known hslope (start-too start hstart) (resets-too resets hresets) here s;
        init = λ x value known hr here s. init-called f base gs low target names i variables x value known hr here s;
        present = λ arms other ha ho here s. present-called f base gs low target names i arms other ha (other-too other ho) here s;
        arm = λ c body hc hb of number here s. arm-called f base gs low target names i c body hc hb of number here s;
        automaton = λ states hs here s. automaton-called f base gs low target names i states hs here s;
        state = λ name body moves hb hm of number states here s. state-called f base gs low target names i name body moves hb (moves-too moves hm) of number states here s;
        reset = λ eqs c heqs hc here s. reset-called f base gs low target names i eqs c heqs hc here s;
        body = λ locals eqs known hs here s. body-called f base gs low target names i locals eqs hs here s;
      }

  -- ---- copies

  -- nothing is asked of places
  no-law : (n : ℕ) (xs : List PlaceInfo) → AllFrom (λ m x. Unit {0}) n xs
  no-law n [] = tt
  no-law n (x ∷ xs) = (tt, no-law (n + 1) xs)

  -- the call of a place that is there
  place-is : (n : ℕ) (x : PlaceInfo) → IsPlaceAt f n x → place_call f n ≡ x.call
  place-is n x h = ap (option_and_then (λ (place : PlaceInfo). place.call)) h.is ∙ h.call

  -- the result of this call has a number from this one on
  abbrev ResultFrom : ℕ → Option ℕ → Type 0
  ResultFrom first call = (n k : ℕ) → call ≡ Some n → HasForm f n (Result k) → first ≤ k

  -- each argument has the call of its parameter's place, and isn't the result of the call, which stands behind it
  arguments-called : (i : Instance) (here : Here) (first n : ℕ) (ps : List Param) (rs : List Root) → AllFrom (λ m x. IsPlaceAt f m x) n (map (param_place i here) ps) → RootsHere f here rs → RootsBelow first rs → ResultFrom first here.call →
      AllByRecursion (λ (g : Given). GivenKept f gs g) (argument_definers here n ps rs)
  arguments-called i here first n [] rs at h below from = tt
  arguments-called i here first n (p ∷ ps) [] at h below from = tt
  arguments-called i here first n (p ∷ ps) (r ∷ rs) at h below from =
      ((inl (subst (λ c. HasCall f c r.occ) (sym call) (stands-call f here r.occ h.0)), no_result), arguments-called i here first (n + 1) ps rs at.1 h.1 below.1 from)
    where
      call : place_call f n ≡ here.call
      call = place-is n (param_place i here p) at.0

      no_result : IsNoResult f (place_call f n) (Plain here.block r.occ)
      no_result m k b is form e =
          let behind = from m k (sym call ∙ is) form in
          let before = below.0 in
          let same : r.occ ≡ k = ap plain_occ e in
          absurd (omega (arith, behind, before, same))

  -- an input names nothing
  inputs-called : (n : ℕ) (ps : List Param) → AllByRecursion (λ (g : Given). GivenKept f gs g) (input_definers n ps)
  inputs-called n [] = tt
  inputs-called n (p ∷ ps) = ((tt, λ m k b is form e. cc), inputs-called (n + 1) ps)

  module _ (names : List (List ℕ)) where
    -- it holds of the copy of a body
    body_copy-called : (i : Instance) (d : Decl) (definers : List Given) (here : Here) → ((low : ℕ) → OfDecl (called low here.call) base names i d) → 0 < length d.results → (s : Counters) → IsCall f here.call → Returns f base gs here.call (body_copy base names i d definers here s).results →
        (AllFrom (λ m x. IsPlaceAt f m x) s.places (map (param_place i here) d.params) → ResultFrom s.occs here.call → AllByRecursion (λ (g : Given). GivenKept f gs g) definers) →
        Each (there f base gs s.occs) s (body_copy base names i d definers here s).parts → CopyCalled f base gs here s (body_copy base names i d definers here s)
    body_copy-called i d definers here h some s call returns given sits =
        let places = some_places (map (param_place i here) d.params) in
        let params = joined places (some_definers definers) in
        let t = after s params in
        let results = exprs_walk base names i d.results here t in
        let u = after t results.parts in
        let eqs = eqns_walk base names i d.eqs here u in
        let rest = joined results.parts eqs in
        let first = each-left (there f base gs s.occs) s params rest sits in
        let behind = each-right (there f base gs s.occs) s params rest sits in
        let at = the_places (there f base gs s.occs) s (map (param_place i here) d.params) (each-left (there f base gs s.occs) s places (some_definers definers) first) in
        let count = roots-length base names d.results i here t in
        let there_is : 0 < length results.roots = omega (arith, count, some) in
        let a = walk_all-called f base gs t.occs here.call (map (expr_walk base names i) d.results) (h t.occs).results here t (There, call) (there-from f base gs s.occs t results.parts (each-left (there f base gs s.occs) t results.parts eqs behind)) in
        let from = roots-from t.occs s.occs (number-from s params) results.roots a.from in
        let result_from = first-of (λ (r : Root). s.occs ≤ r.occ) results.roots there_is from in
        let result_below = first-of (λ (r : Root). r.occ < u.occs) results.roots there_is a.below in
        let b = in_turn-called f base gs u.occs here.call (map (eqn_walk base names i) d.eqs) (h u.occs).equations here u (refl, call, λ n k is form. let same = returns n k is form in omega (arith, same, result_below))
        (there-from f base gs s.occs u eqs (each-right (there f base gs s.occs) t results.parts eqs behind)) in
        record {
          some = there_is;
          parts = each-joined (calling f base gs) s params rest
              (each-joined (calling f base gs) s places (some_definers definers) (each-some_places (calling f base gs) s (map (param_place i here) d.params) (no-law s.places (map (param_place i here) d.params)))
              (each-some_definers (calling f base gs) (after s places) definers (given at (λ n k is form. let same = returns n k is form in omega (arith, same, result_from)))))
              (each-joined (calling f base gs) t results.parts eqs a.parts b);
          results = a.roots;
          from = from;
        }

    -- it holds of the copy of each declaration
    copies-called : Copies called_copies (VariablesCalled f base names) base names
    unfolding decl_copy
    copies-called cs sizes d kn counted kept variables all known here roots s call roots_here below returns sits =
        let i = instance base names (found cs) sizes d here.block s.places in
        let definers = argument_definers here s.places d.decl.params roots in
        let have : VariablesHave f i here.call = variables definers here s (there-sits f base gs s.occs s (body_copy base names i d.decl definers here s).parts sits) in
        let a = inside-of base names (found cs) sizes d here.block s.places kn counted kept in
        let calls = has-calls called_copies names cs i kn refl all known in
        body_copy-called i d.decl definers here (λ low. decl-holds (called low here.call) called_copies base names i kn d.decl (forms-called low here.call names i have) (equations-called low here.call names i have) calls a) counted.some s call returns
        (λ at from. arguments-called i here s.occs s.places d.decl.params roots at roots_here below from) sits

-- ---- the form

-- what is known of the variables of `main` and of the declarations before it
pub record AreVariablesCalled (f : FlatForm) (names : List (List ℕ)) (m : MainOf) : Type 0 where
  pub before : AllFacts (VariablesCalled f (main_size m).occs names) (main_size m).occs names [] [] m.before
  pub main : VariablesCalled f (main_size m).occs names (found (with_callees (main_size m).occs names [] [] m.before)) (sizes_of m) m.main

-- the entries counted from another number
unshift : {X : Type 0} (P : ℕ → X → Type 0) (m n : ℕ) (xs : List X) → AllFrom (λ j x. P (m + j) x) n xs → AllFrom P (m + n) xs
unshift P m n [] h = tt
unshift P m n (x ∷ xs) h = (h.0, subst (λ j. AllFrom P j xs) (one_more m n) (unshift P m (n + 1) xs h.1))
  where
    one_more : (m n : ℕ) → m + (n + 1) ≡ m + n + 1
    one_more m n = omega arith

-- the definers of a place are called as those that were given are
definers-called : (f : FlatForm) (all : List Given) (n : ℕ) (gs : List Given) → AllByRecursion (λ (g : Given). GivenKept f all g) gs → AllByRecursion (DefinerKept f all (place_call f n)) (definers_of n gs)
definers-called f all n [] h = tt
definers-called f all n (g ∷ gs) h = by_equal (nat_eq g.place n) refl (definers-called f all n gs h.1)
  where
    by_equal : (b : Bool) → nat_eq g.place n ≡ b → AllByRecursion (DefinerKept f all (place_call f n)) (definers_of n gs) → AllByRecursion (DefinerKept f all (place_call f n)) (if b then g.definer ∷ definers_of n gs else definers_of n gs)
    by_equal true e rest = (subst (λ j. DefinerKept f all (place_call f j) g.definer) (eqb-true g.place n e) h.0, rest)
    by_equal false e rest = rest

-- so are those of all places
places-called : (f : FlatForm) (gs : List Given) (n : ℕ) (xs : List PlaceInfo) → AllByRecursion (λ (g : Given). GivenKept f gs g) gs → AllFrom (λ m (x : PlaceInfo). AllByRecursion (DefinerKept f gs (place_call f m)) x.definers) n (defined_places gs n xs)
places-called f gs n [] h = tt
places-called f gs n (x ∷ xs) h = (definers-called f gs n gs h, places-called f gs (n + 1) xs h)

-- the result of a call that a definer names is that of a call that nothing uses
definer-called : (f : FlatForm) (gs : List Given) → ((k : ℕ) (c : IsCallOf k f.occs) (g : Given) (b n : ℕ) → slice_get gs n ≡ Some g → g.definer ≡ Plain b k → uses_of f c.number ≡ []) → (call : Option ℕ) (d : Definer) → GivenCalled f gs call d → DefinerCalled f call d
definer-called f gs unused call (Input n) h = tt
definer-called f gs unused call (Plain b k) (inl h) = inl h
definer-called f gs unused call (Plain b k) (inr h) =
    inr (record {
      whole = h.whole;
      occ = h.occ;
      is = h.is;
      call_is = h.call_is;
      own = h.own;
      own_is = h.own_is;
      own_call = h.own_call;
      block = h.block;
      unused = unused h.result (record { number = h.whole; occ = h.own; is = h.own_is; form = h.form }) (record { place = h.place; definer = Plain h.inner h.result }) h.inner h.named.index h.named.is refl;
    })
definer-called f gs unused call (Der b slope resets) h = h
definer-called f gs unused call (Start b k) h = h

-- a number behind none
none_more : (n : ℕ) → 0 + n ≡ n
none_more n = omega arith

-- so are those of one place
definers-kept : (f : FlatForm) (gs : List Given) → AllFrom (λ m (x : PlaceInfo). AllByRecursion (DefinerKept f gs (place_call f m)) x.definers) 0 f.places → (q : ℕ) (place : PlaceInfo) → slice_get f.places q ≡ Some place → AllByRecursion (DefinerKept f gs place.call) place.definers
definers-kept f gs places q place is =
    let given = subst (λ m. AllByRecursion (DefinerKept f gs (place_call f m)) place.definers) (none_more q) (from-get (λ m (x : PlaceInfo). AllByRecursion (DefinerKept f gs (place_call f m)) x.definers) 0 f.places places q place is) in
    let call_is : place_call f q ≡ place.call = ap (option_and_then (λ (x : PlaceInfo). x.call)) is in
    subst (λ c. AllByRecursion (DefinerKept f gs c) place.definers) call_is given

-- each entry has a number
from-none : (f : FlatForm) (n : ℕ) (xs : List Occ) → AllFrom (λ m x. slice_get f.occs m ≡ Some x) n xs → AllFrom (λ m x. (slice_get f.occs m ≡ Some x) × (0 ≤ m)) n xs
from-none f n [] h = tt
from-none f n (x ∷ xs) h = ((h.0, omega arith), from-none f (n + 1) xs h.1)

-- the form that is made of parts keeps calls, where each part does
parts-keep : (p : Parts) (ins outs : List ℕ) (base : ℕ) → base ≡ length p.occs → ((k : ℕ) (c : IsCallOf k (p.occs ++ p.hidden)) (g : Given) (b n : ℕ) → slice_get p.definers n ≡ Some g → g.definer ≡ Plain b k → uses_of (form_of p ins outs) c.number ≡ []) →
    Each (calling (form_of p ins outs) base p.definers) start p → KeepsCalls (form_of p ins outs)
parts-keep p ins outs base e unused h =
    let f = form_of p ins outs in
    let hidden = unshift (OccCalled f) base 0 p.hidden h.hidden in
    let all = from-append (OccCalled f) 0 p.occs p.hidden h.occs (subst (λ n. AllFrom (OccCalled f) n p.hidden) (behind (length p.occs) base e) hidden) in
    let places = places-called f p.definers 0 p.places h.definers in
    record {
      again = refl;
      parts = λ n occ is. (subst (λ m. OccCalled f m occ) (none_more n) (from-get (OccCalled f) 0 f.occs all n occ is)).0.0;
      definers = λ q place is. all-map (DefinerKept f p.definers place.call) (DefinerCalled f place.call) (λ d h. definer-called f p.definers unused place.call d h.0) place.definers (definers-kept f p.definers places q place is);
      lasts = λ k q occ is form. subst (NameCalled f occ.call) form (from-get (OccCalled f) 0 f.occs all k occ is).0.1;
      names = λ k q occ is form. subst (NameCalled f occ.call) form (from-get (OccCalled f) 0 f.occs all k occ is).0.1;
      calls = λ k occ is. (from-get (OccCalled f) 0 f.occs all k occ is).1;
      sites = λ n site is. subst (λ m. SiteCalled f m site.arg) (none_more n) (from-get (λ m (x : SiteInfo). SiteCalled f m x.arg) 0 f.sites h.sites n site is);
      results = λ q place is. all-map (DefinerKept f p.definers place.call) (IsNoResult f place.call) (λ d h. h.1) place.definers (definers-kept f p.definers places q place is);
    }
  where
    behind : (n base : ℕ) → base ≡ n → base + 0 ≡ 0 + n
    behind n base e = omega (arith, e)

-- the form of `main` keeps calls
pub main-calls : (names : List (List ℕ)) (m : MainOf) → IsMainKept names m → AreVariablesCalled (main_form names m) names m → KeepsCalls (main_form names m)
unfolding main_form main_parts past_block
main-calls names m kept variables =
    let base = (main_size m).occs in
    let cs = with_callees base names [] [] m.before in
    let sizes = sizes_of m in
    let d = m.main.decl in
    let i = instance base names (found cs) sizes m.main 0 0 in
    let here = main_here base names d in
    let p = parts_of names m in
    let ins = listed (length d.params) 0 (λ n. n) in
    let outs = result_places (variables_from sizes m.main 0) d.results in
    let f = form_of p ins outs in
    let gs = p.definers in
    let sits = parts-sit p ins outs base kept.hidden_behind in
    let all : Each (there f base gs 0) start p = record { blocks = sits.blocks; places = sits.places; definers = each-has gs; occs = from-none f 0 p.occs sits.occs; hidden = sits.hidden; sites = sits.sites; choices = sits.choices; automata = sits.automata } in
    let definers = input_definers 0 d.params in
    let copy = body_copy base names i d definers here (past_block start) in
    let inner = (behind-block (there f base gs 0) start (main_block base names d) copy.parts all).1 in
    let have : VariablesHave f i here.call = variables.main definers here (past_block start) (there-sits f base gs 0 (past_block start) copy.parts inner) in
    let callees = callees-hold (called_copies f base gs) (VariablesCalled f base names) base names (copies-called f base gs names) [] [] (built_in names) m.before tt (nothing-known names) kept.counted kept.before variables.before in
    let kn = known_after (built_in names) m.before in
    let a = inside-of base names (found cs) sizes m.main 0 0 kn kept.counted_main kept.main in
    let calls = has-calls (called_copies f base gs) names cs i kn refl callees.0 callees.1 in
    let c = body_copy-called f base gs names i d definers here
    (λ low. decl-holds (called f base gs low here.call) (called_copies f base gs) base names i kn d (forms-called f base gs low here.call names i have) (equations-called f base gs low here.call names i have) calls a)
    kept.counted_main.some (past_block start) tt (λ n k is. absurd (cc)) (λ at from. inputs-called f base gs 0 d.params) (there-from f base gs 0 (past_block start) copy.parts inner) in
    parts-keep p ins outs base kept.hidden_behind (λ k c g b n is e. call-unused base p (main-fits names m kept) ins outs k c g b n is e) (block-first (calling f base gs) start (main_block base names d) copy.parts tt c.parts)
