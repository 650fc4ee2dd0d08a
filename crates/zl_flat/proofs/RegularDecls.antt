-- What the copies of declarations and `main` make stands in its context.
use Rattle.std.proofs.Common.{◌≡◌, ℕ, ◌+◌, ◌<◌, Bool, true, false, not, ◌&&◌, if◌then◌else◌, List, [], ◌∷◌, ◌++◌, map, length, Option, Some, None, refl, sym, ap, subst, ◌∙◌, arith}
use Rattle.std.specs.List.{AllByRecursion}
use Rattle.std.specs.Option.{option_and_then}
use Rattle.zl_ast.specs.declared.scope.VarInfo.{VarInfo}
use Rattle.zl_ast.specs.declared.expr.Expr.{Expr}
use Rattle.zl_ast.specs.declared.eqn.Eqn.{Eqn}
use Rattle.zl_ast.specs.declared.program.Decl.{Decl}
use Rattle.zl_ast.specs.declared.program.DeclKind.{DeclKind}
use Rattle.zl_ast.specs.declared.program.DeclKind.TheVariants as decl
use Rattle.zl_ast.specs.declared.program.Param.{Param}
use Rattle.zl_ast.specs.Names.{among, with_id, with_ids, is_main}
use Rattle.zl_ast.specs.NamesDefined.{is_defined, eqn_outline, eqns_outline}
use Rattle.zl_ast.specs.NamesUsed.{Known, expr_uses, eqn_uses, values_uses, eqns_uses}
use Rattle.zl_ast.specs.NamesRules.{is_local, inside_of, with_visible, variables_broken, uses_broken, main_broken, decl_broken}
use Rattle.zl_ast.specs.Scopes as scope
use Rattle.zl_ast.specs.Scopes.{param_ids, first_entries, parameter}
use Rattle.zl_ast.specs.Kinds as kinds
use Rattle.zl_ast.specs.Kinds.{Declared, expr_misplaced, eqn_misplaced, exprs_misplaced, eqns_misplaced, decl_misplaced, decls_misplaced}
use Rattle.zl_meaning.specs.FlatForm.{FlatForm}
use Rattle.zl_meaning.specs.Uses.{DefinerOf}
use Rattle.zl_meaning.specs.Regular.{Context, WithLast, Discrete, Hybrid, context_of_block, body_context, called_context}
use Rattle.zl_meaning.specs.declared.place.PlaceInfo.{PlaceInfo}
use Rattle.zl_flat.specs.declared.here.Here.{Here}
use Rattle.zl_flat.specs.declared.here.Root.{Root}
use Rattle.zl_flat.specs.declared.size.Size.{Size}
use Rattle.zl_flat.specs.declared.given.Given.{Given}
use Rattle.zl_flat.specs.Parts.{Counters, joined, some_places, some_definers, after}
use Rattle.zl_flat.specs.Instances.{Copy, Callee, Instance}
use Rattle.zl_flat.specs.Expressions.{expr_walk, exprs_walk}
use Rattle.zl_flat.specs.Equations.{eqn_walk, eqns_walk}
use Rattle.zl_flat.specs.Expansion.{Scoped, Named, found, argument_definers, param_place, body_copy, instance, decl_copy}
use Rattle.zl_flat.proofs.WellFormedParts.{AllFrom, all-left, all-right, each-joined, each-left, each-right, each-some_places, each-some_definers, the_places}
use Rattle.zl_flat.proofs.WellFormedGround.{IsPlaceAt}
use Rattle.zl_flat.proofs.RulesKept.{none-left, none-right, IsVariable, Covers}
use Rattle.zl_flat.proofs.RulesKept.{covers-one}
use Rattle.zl_flat.proofs.WellFormedSizesForm.{AllMake, AreOwnNames, sized-instance}
use Rattle.zl_flat.proofs.WellFormedFirsts.{Distinct}
use Rattle.zl_flat.proofs.WellFormedCopies.{IsInOrder, kept-distinct, order-counted}
use Rattle.zl_flat.proofs.RegularGround.{flat, Suits, Assigned, nothing_known, assigned-supposed, LastOutside, assigned-map, assigned-joined, assigned-places, assigned-definers, UsedSo, GivenUsed, lying, regular, Lies, lies-sit, IsRegularIn, AtBlock, BodyIs, IsResult, IsRoot, root-result}
use Rattle.zl_flat.proofs.RegularUses.{all-map}
use Rattle.zl_flat.proofs.RegularLift.{decl-lifts}
use Rattle.zl_flat.proofs.RegularExprs.{WalkIn, AllHold, CopyHolds, CalleeRegular, walk_all-regular, used, body-unused}
use Rattle.zl_flat.proofs.RegularExprTrees.{KnowsCopies, Recalls, expr-regular}
use Rattle.zl_flat.proofs.RegularEqns.{PlaceIn, Placed, at-place, MakingIn, in_turn-regular}
use Rattle.zl_flat.proofs.RegularEqnTrees.{eqn_crossed, all_true, eqns_crossed, and-left, and-right, covers-ids, covers-none, list-named, eqn-regular}
use Rattle.zl_flat.proofs.RegularEqnTrees as tree
use Rattle.zl_flat.proofs.RegularPlaces.{copy-in_call}

-- ---- names of a declaration

-- what is visible in a declaration are variables
visible-covered : (i : Instance) (ids : List ℕ) (infos : List VarInfo) → Covers i ids → tree.Named i infos → Covers i (with_visible ids infos)
visible-covered i ids [] c h = c
visible-covered i ids (x ∷ infos) c h = visible-covered i (if not (is_local x.class) then with_id ids x.name else ids) infos (one (not (is_local x.class))) h.1
  where
    one : (b : Bool) → Covers i (if b then with_id ids x.name else ids)
    one true = covers-one (IsVariable i) ids x.name (among ids x.name) c h.0
    one false = c

-- the names that equations declare and define are those of variables, where they are seen or the variables' own
entries-named : (i : Instance) (seen : List ℕ) (vs : List VarInfo) → Covers i seen → tree.Named i (first_entries seen vs) → tree.Named i vs
entries-named i seen [] c h = tt
entries-named i seen (v ∷ vs) c h =
    let more = if is_defined v then with_id seen v.name else seen in
    let own = by_case (is_defined v) (among seen v.name) refl h in
    (own.0, entries-named i more vs (seen_too (is_defined v) own.0) own.1)
  where
    by_case : (d m : Bool) → among seen v.name ≡ m → tree.Named i ((if d && m then [] else v ∷ []) ++ first_entries (if is_defined v then with_id seen v.name else seen) vs) → IsVariable i v.name × tree.Named i (first_entries (if is_defined v then with_id seen v.name else seen) vs)
    by_case true true e g = (c v.name e, g)
    by_case true false e g = (g.0, g.1)
    by_case false m e g = (g.0, g.1)

    seen_too : (d : Bool) → IsVariable i v.name → Covers i (if d then with_id seen v.name else seen)
    seen_too true h = covers-one (IsVariable i) seen v.name (among seen v.name) c h
    seen_too false h = c

-- so are the parameters
params-named : (i : Instance) (ps : List Param) → tree.Named i (map parameter ps) → AllByRecursion (IsVariable i) (param_ids ps)
params-named i [] h = tt
params-named i (p ∷ ps) h = (h.0, params-named i ps h.1)

-- what is known of a declaration's own names, where its variables are those of the instance
pub record Inside (names : List (List ℕ)) (i : Instance) (k : Known) (d : Decl) : Type 0 where
  pub visible : List ℕ
  pub covers : Covers i visible
  pub entries : tree.Named i (eqns_outline d.eqs).entries
  pub results : values_uses (inside_of k d) d.results visible ≡ []
  pub equations : eqns_uses (inside_of k d) d.eqs visible ≡ []

-- a declaration that breaks no rule of names
pub inside-of : (names : List (List ℕ)) (i : Instance) (k : Known) (d : Decl) → tree.Named i (scope.variables d) → decl_broken names k d ≡ [] → Inside names i k d
unfolding uses_broken scope.variables
inside-of names i k d known kept =
    let visible = with_visible [] (scope.variables d) in
    let params = map parameter d.params in
    let seen = with_ids [] (param_ids d.params) in
    let entries = (eqns_outline d.eqs).entries in
    let uses = none-right (variables_broken k d) (uses_broken names (inside_of k d) d) kept in
    let values = values_uses (inside_of k d) d.results visible in
    let equations = eqns_uses (inside_of k d) d.eqs visible in
    let main = if is_main names d.name.id then main_broken visible d else [] in
    let by_params = params-named i d.params (all-left (λ (v : VarInfo). IsVariable i v.name) params (first_entries seen entries) known) in
    record {
      visible = visible;
      covers = visible-covered i [] (scope.variables d) (covers-none i) known;
      entries = entries-named i seen entries (covers-ids i (param_ids d.params) [] by_params (covers-none i)) (all-right (λ (v : VarInfo). IsVariable i v.name) params (first_entries seen entries) known);
      results = none-left values (equations ++ main) uses;
      equations = none-left equations main (none-right values (equations ++ main) uses);
    }

-- what is asked of a declaration: the rules of names and kinds, and that its events have zero-crossings
pub record IsKept (names : List (List ℕ)) (k : Known) (declared : Declared) (d : Scoped) : Type 0 where
  pub order : IsInOrder d
  pub kept : decl_broken names k d.decl ≡ []
  pub placed : decl_misplaced declared d.decl ≡ []
  pub crossed : eqns_crossed d.decl.eqs ≡ true

-- its variables differ
pub own-distinct : (names : List (List ℕ)) (k : Known) (declared : Declared) (d : Scoped) → IsKept names k declared d → Distinct d.infos
own-distinct names k declared d h = let o = h.order in subst Distinct (sym o.infos) (kept-distinct names k d.decl h.kept)

-- ---- the copy of a body

module _ (f : FlatForm) (base : ℕ) (names : List (List ℕ)) where
  -- what a copy makes in this context, where these are the definers of its parameters
  pub record BodyRegular (know : (ℕ → Context) → Type 0) (here : Here) (definers : List Given) (s : Counters) (c : kinds.Context) (w : Copy) : Type 0 where
    pub some : 0 < length w.results
    pub results : AllByRecursion (λ (r : Root). IsResult f here.block r.occ) w.results
    pub assigned : Assigned base know s w.parts (λ context. BodyIs f context here c → AllByRecursion (GivenUsed f context) definers → CopyHolds f base context s c w)

  module _ (know : (ℕ → Context) → Type 0) (i : Instance) (k : Known) (declared : Declared) (knows : KnowsCopies f base names i.callees k declared) (calm : Bool) (recalls : calm ≡ false → Recalls f know i) where
    -- its results, and its equations, stand in their context
    results-regular : (c : kinds.Context) (xs : List Expr) (visible : List ℕ) → Covers i visible → values_uses k xs visible ≡ [] → exprs_misplaced declared xs c ≡ [] → (calm ≡ true → exprs_misplaced declared xs kinds.combinatorial ≡ []) →
        AllByRecursion (WalkIn f base know c) (map (expr_walk base names i) xs)
    results-regular c [] visible v h m q = tt
    results-regular c (x ∷ xs) visible v h m q = (
      expr-regular f base know names i k declared knows calm recalls x c 1 visible v (none-left (expr_uses k x 1 visible) (values_uses k xs visible) h) (none-left (expr_misplaced declared x c) (exprs_misplaced declared xs c) m)
          (λ e. none-left (expr_misplaced declared x kinds.combinatorial) (exprs_misplaced declared xs kinds.combinatorial) (q e)),
      results-regular c xs visible v (none-right (expr_uses k x 1 visible) (values_uses k xs visible) h) (none-right (expr_misplaced declared x c) (exprs_misplaced declared xs c) m)
          (λ e. none-right (expr_misplaced declared x kinds.combinatorial) (exprs_misplaced declared xs kinds.combinatorial) (q e)),
    )

    eqs-regular : (c : kinds.Context) (es : List Eqn) (visible : List ℕ) → Covers i visible → eqns_uses k es visible ≡ [] → eqns_misplaced declared es c ≡ [] → (calm ≡ true → eqns_misplaced declared es kinds.combinatorial ≡ []) →
        AllByRecursion (λ o. tree.Named i o.entries) (map eqn_outline es) → eqns_crossed es ≡ true → AllByRecursion (MakingIn f base know names i c) (map (eqn_walk base names i) es)
    eqs-regular c [] visible v h m q l t = tt
    eqs-regular c (e ∷ es) visible v h m q l t = (
      eqn-regular f base know names i k declared knows calm recalls e c visible v (none-left (eqn_uses k e visible) (eqns_uses k es visible) h) (none-left (eqn_misplaced declared e c) (eqns_misplaced declared es c) m) l.0 (and-left (eqn_crossed e) (eqns_crossed es) t)
          (λ g. none-left (eqn_misplaced declared e kinds.combinatorial) (eqns_misplaced declared es kinds.combinatorial) (q g)),
      eqs-regular c es visible v (none-right (eqn_uses k e visible) (eqns_uses k es visible) h) (none-right (eqn_misplaced declared e c) (eqns_misplaced declared es c) m)
          (λ g. none-right (eqn_misplaced declared e kinds.combinatorial) (eqns_misplaced declared es kinds.combinatorial) (q g)) l.1 (and-right (eqn_crossed e) (eqns_crossed es) t),
    )

  -- of places nothing is asked
  all-places : (context : ℕ → Context) (n : ℕ) (xs : List PlaceInfo) → AllFrom (λ m (x : PlaceInfo). Unit {0}) n xs
  all-places context n [] = tt
  all-places context n (x ∷ xs) = (tt, all-places context (n + 1) xs)

  -- as many roots as expressions
  roots-length : (ws : List Expr) (i : Instance) (here : Here) (s : Counters) → length (exprs_walk base names i ws here s).roots ≡ length ws
  roots-length [] i here s = refl
  roots-length (w ∷ ws) i here s = let e = roots-length ws i here (after s (expr_walk base names i w here s).parts) in omega (arith, e)

  -- a copy of its body stands in its context
  pub body_copy-regular : (know : (ℕ → Context) → Type 0) (i : Instance) (k : Known) (declared : Declared) (knows : KnowsCopies f base names i.callees k declared) (calm : Bool) → (calm ≡ false → Recalls f know i) → (d : Decl) (definers : List Given) (c : kinds.Context) (visible : List ℕ) → 0 < length d.results → Covers i visible → tree.Named i (eqns_outline d.eqs).entries →
      values_uses k d.results visible ≡ [] → eqns_uses k d.eqs visible ≡ [] → exprs_misplaced declared d.results c ≡ [] → eqns_misplaced declared d.eqs c ≡ [] →
      (calm ≡ true → (exprs_misplaced declared d.results kinds.combinatorial ≡ []) × (eqns_misplaced declared d.eqs kinds.combinatorial ≡ [])) → eqns_crossed d.eqs ≡ true →
      (here : Here) (s : Counters) → AtBlock f here → Suits here.hybrid c → Placed f i here.call → Lies f base s (body_copy base names i d definers here s).parts → BodyRegular know here definers s c (body_copy base names i d definers here s)
  body_copy-regular know i k declared knows calm recalls d definers c visible some v l hr he mr me q t here s hb hs placed lies =
      let xs = map (param_place i here) d.params in
      let places = some_places xs in
      let given = some_definers definers in
      let params = joined places given in
      let u = after s params in
      let results = exprs_walk base names i d.results here u in
      let w = after u results.parts in
      let eqs = eqns_walk base names i d.eqs here w in
      let rest = joined results.parts eqs in
      let behind = each-right (lying f base) s params rest lies in
      let count = roots-length d.results i here u in
      let a = walk_all-regular f base know c (map (expr_walk base names i) d.results) (results-regular know i k declared knows calm recalls c d.results visible v hr mr (λ e. (q e).0)) here u hb hs (each-left (lying f base) u results.parts eqs behind) in
      let b = in_turn-regular f base know names i c (map (eqn_walk base names i) d.eqs) (eqs-regular know i k declared knows calm recalls c d.eqs visible v he me (λ e. (q e).1) (list-named i [] [] (map eqn_outline d.eqs) l) t) here w hb hs placed (each-right (lying f base) u results.parts eqs behind) in
      let A : (ℕ → Context) → Type 0 = λ context. AllHold f base context here u c results in
      let B : (ℕ → Context) → Type 0 = λ context. BodyIs f context here c → IsRegularIn f base context w eqs in
      let P : (ℕ → Context) → Type 0 = λ context. Unit {0} in
      record {
        some = omega (arith, count, some);
        results = all-map (λ (r : Root). IsRoot f here r.occ) (λ (r : Root). IsResult f here.block r.occ) (λ r x. root-result f here r.occ x) results.roots a.roots;
        assigned = assigned-map base know s (joined params rest) (λ context. (P context × P context) × (A context × B context))
            (λ context. BodyIs f context here c → AllByRecursion (GivenUsed f context) definers → CopyHolds f base context s c (body_copy base names i d definers here s))
            (λ context g body used. record {
              results = g.1.0.roots;
              parts = each-joined (regular f base context) s params rest
                  (each-joined (regular f base context) s places given (each-some_places (regular f base context) s xs (all-places context s.places xs)) (each-some_definers (regular f base context) (after s places) definers used))
                  (each-joined (regular f base context) u results.parts eqs (g.1.0.parts (body-unused f base know context here c body results.roots)) (g.1.1 body));
            })
            (assigned-joined base know s params rest (λ context. P context × P context) (λ context. A context × B context)
            (assigned-joined base know s places given P P (assigned-places base know s xs) (assigned-definers base know (after s places) definers))
            (assigned-joined base know u results.parts eqs A B a.assigned b));
      }

  -- ---- declarations

  -- the parameters change nothing of what can be called
  pub knows-inside : (callees : ℕ → Option Callee) (k : Known) (declared : Declared) (d : Decl) → KnowsCopies f base names callees k declared → KnowsCopies f base names callees (inside_of k d) declared
  knows-inside callees k declared d h = record { signatures = h.signatures; constants = h.constants }

  -- the arguments define the parameters, whose places stand in the copy
  arguments-used : (context : ℕ → Context) (i : Instance) (here : Here) (c : kinds.Context) → AtBlock f here → BodyIs f context here c → (n : ℕ) (ps : List Param) (rs : List Root) → AllFrom (IsPlaceAt f) n (map (param_place i here) ps) →
      AllByRecursion (λ (r : Root). IsResult f here.block r.occ) rs → AllByRecursion (λ (r : Root). context r.occ ≡ flat c) rs → AllByRecursion (GivenUsed f context) (argument_definers here n ps rs)
  arguments-used context i here c hb body n [] rs p h e = tt
  arguments-used context i here c hb body n (q ∷ ps) [] p h e = tt
  arguments-used context i here c hb body n (q ∷ ps) (r ∷ rs) p h e =
      let a = p.0 in
      let place : PlaceIn f here.call n = record { place = a.place; is = a.is; in_copy = a.call } in (
        at-place f here.call n (λ call. UsedSo f context r.occ (DefinerOf call)) place (used f context here.block r.occ here.hybrid (DefinerOf here.call) hb h.0 (e.0 ∙ sym body) tt h.0.value),
        arguments-used context i here c hb body (n + 1) ps rs p.1 h.1 e.1,
      )

  -- what may be called in combinatorial context
  abbrev pub is_calm : DeclKind → Bool
  is_calm decl.Constant = true
  is_calm decl.Function = true
  is_calm decl.Node = false
  is_calm decl.Hybrid = false

  calm-anywhere : (k : DeclKind) → is_calm k ≡ true → kinds.allows_call (Some k) kinds.combinatorial ≡ true
  calm-anywhere decl.Constant h = refl
  calm-anywhere decl.Function h = refl
  calm-anywhere decl.Node h = absurd (cc)
  calm-anywhere decl.Hybrid h = absurd (cc)

  -- the call of the copy isn't combinatorial with `last`, where the declaration isn't combinatorial
  abbrev pub copy_known : DeclKind → Option ℕ → (ℕ → Context) → Type 0
  copy_known k call context = is_calm k ≡ false → (n : ℕ) → call ≡ Some n → context n ≡ WithLast → ⊥

  -- outside calls that is so
  pub outside-known : (k : DeclKind) (context : ℕ → Context) → copy_known k None context
  outside-known k context busy n call last = cc

  -- then the places of its variables may stand behind `last`
  pub last-outside : (k : DeclKind) (call : Option ℕ) (p : ℕ) → is_calm k ≡ false → PlaceIn f call p → (context : ℕ → Context) → copy_known k call context → LastOutside f context p
  last-outside k call p busy h context known n at = known busy n (sym h.in_copy ∙ sym (ap (option_and_then (λ (x : PlaceInfo). x.call)) h.is) ∙ at)

  -- the body of a call that is combinatorial with `last` is
  with-last : (context : ℕ → Context) (here : Here) (n : ℕ) → here.call ≡ Some n → context n ≡ WithLast → called_context context (context_of_block here.hybrid) here.call ≡ WithLast
  with-last context here n call e = ap (called_context context (context_of_block here.hybrid)) call ∙ ap (body_context (context_of_block here.hybrid)) e

  -- it isn't, where the body has a context that such a declaration can have
  body-known : (k : DeclKind) (here : Here) (c : kinds.Context) → kinds.allows_call (Some k) c ≡ true → (context : ℕ → Context) → BodyIs f context here c → copy_known k here.call context
  body-known decl.Constant here c ok context body busy n call e = absurd (cc)
  body-known decl.Function here c ok context body busy n call e = absurd (cc)
  body-known decl.Node here kinds.combinatorial ok context body busy n call e = absurd (cc)
  body-known decl.Node here kinds.recalling ok context body busy n call e = absurd (cc)
  body-known decl.Node here kinds.discrete ok context body busy n call e = differ (sym (with-last context here n call e) ∙ body)
    where
      differ : WithLast ≡ Discrete → ⊥
      differ h = cc
  body-known decl.Node here kinds.hybrid ok context body busy n call e = absurd (cc)
  body-known decl.Hybrid here kinds.combinatorial ok context body busy n call e = absurd (cc)
  body-known decl.Hybrid here kinds.recalling ok context body busy n call e = absurd (cc)
  body-known decl.Hybrid here kinds.discrete ok context body busy n call e = absurd (cc)
  body-known decl.Hybrid here kinds.hybrid ok context body busy n call e = differ (sym (with-last context here n call e) ∙ body)
    where
      differ : WithLast ≡ Hybrid → ⊥
      differ h = cc

  -- so it can be called where its kind is allowed
  pub decl-regular : (cs : List (Named Callee)) (zs : List (Named Size)) (d : Scoped) (k : Known) (declared : Declared) → IsKept names k declared d → AllMake cs zs → AreOwnNames names zs → KnowsCopies f base names (found cs) k declared → CalleeRegular f base d.decl.kind (decl_copy base names (found cs) (found zs) d)
  unfolding decl_copy
  decl-regular cs zs d k declared h make own knows here roots s c ok hb hs hr lies =
      let order = h.order in
      let counted = order-counted names k d h.kept order in
      let i = instance base names (found cs) (found zs) d here.block s.places in
      let definers = argument_definers here s.places d.decl.params roots in
      let copied = copy-in_call f base names (found cs) (found zs) d definers here s (sized-instance base names cs zs d here.block s.places make own counted) order (own-distinct names k declared d h) (lies-sit f base s (body_copy base names i d.decl definers here s).parts lies) in
      let a = inside-of names i k d.decl (subst (tree.Named i) order.infos copied.named) h.kept in
      let lifted = decl-lifts declared d.decl c ok h.placed in
      let know = copy_known d.decl.kind here.call in
      let b = body_copy-regular know i (inside_of k d.decl) declared (knows-inside (found cs) k declared d.decl knows) (is_calm d.decl.kind) (λ busy id v is. last-outside d.decl.kind here.call v.place busy (copied.placed id v is)) d.decl definers c a.visible order.some a.covers a.entries a.results a.equations lifted.0 lifted.1
      (λ calm. decl-lifts declared d.decl kinds.combinatorial (calm-anywhere d.decl.kind calm) h.placed) h.crossed here s hb hs copied.placed lies in
      let xs = map (param_place i here) d.decl.params in
      let params = joined (some_places xs) (some_definers definers) in
      let results = exprs_walk base names i d.decl.results here (after s params) in
      let rest = joined results.parts (eqns_walk base names i d.decl.eqs here (after (after s params) results.parts)) in
      let places = the_places (lying f base) s xs (each-left (lying f base) s (some_places xs) (some_definers definers) (each-left (lying f base) s params rest lies)) in
      let w = body_copy base names i d.decl definers here s in
      record {
        some = b.some;
        results = b.results;
        assigned = assigned-map base nothing_known s w.parts (λ context. BodyIs f context here c → AllByRecursion (GivenUsed f context) definers → CopyHolds f base context s c w)
            (λ context. BodyIs f context here c → AllByRecursion (λ (r : Root). context r.occ ≡ flat c) roots → CopyHolds f base context s c w)
            (λ context g body e. g body (arguments-used context i here c hb body s.places d.decl.params roots places hr e))
            (assigned-supposed base know s w.parts (λ context. BodyIs f context here c) (λ context. AllByRecursion (GivenUsed f context) definers → CopyHolds f base context s c w) (body-known d.decl.kind here c ok) b.assigned);
      }
