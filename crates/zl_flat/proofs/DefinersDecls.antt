-- The definers of the copies of declarations and of `main`: those of one place are never active together.
use Rattle.std.proofs.Common.{◌≡◌, ℕ, ◌+◌, ◌<◌, ◌≤◌, Bool, true, false, if◌then◌else◌, nat_eq, List, [], ◌∷◌, map, length, Option, Some, None, refl, sym, subst, arith}
use Rattle.std.specs.List.{AllByRecursion}
use Rattle.zl_ast.specs.declared.scope.VarInfo.{VarInfo}
use Rattle.zl_ast.specs.declared.expr.Expr.{Expr}
use Rattle.zl_ast.specs.declared.eqn.Eqn.{Eqn}
use Rattle.zl_ast.specs.declared.program.Decl.{Decl}
use Rattle.zl_ast.specs.declared.program.Param.{Param}
use Rattle.zl_ast.specs.Names.{among, with_ids}
use Rattle.zl_ast.specs.NamesDefined.{list_from, eqn_outline, eqns_outline}
use Rattle.zl_ast.specs.NamesUsed.{Known}
use Rattle.zl_ast.specs.NamesRules.{declared_with, inside_of, variables_broken, uses_broken, decl_broken, decls_broken}
use Rattle.zl_ast.specs.Scopes as scope
use Rattle.zl_ast.specs.Scopes.{param_ids, first_entries, parameter}
use Rattle.zl_meaning.specs.FlatForm.{FlatForm, place_call}
use Rattle.zl_meaning.specs.declared.place.PlaceInfo.{PlaceInfo}
use Rattle.zl_flat.specs.declared.variable.Variable.{Variable}
use Rattle.zl_flat.specs.declared.here.Here.{Here}
use Rattle.zl_flat.specs.declared.here.Root.{Root}
use Rattle.zl_flat.specs.declared.size.Size.{Size}
use Rattle.zl_flat.specs.declared.given.Given.{Given}
use Rattle.zl_flat.specs.Parts.{Counters, joined, some_places, some_definers, after, past_block, start}
use Rattle.zl_flat.specs.Variables.{variable_of, variables}
use Rattle.zl_flat.specs.Sizes.{decl_size}
use Rattle.zl_flat.specs.Numbering.{decl_numbering}
use Rattle.zl_flat.specs.Instances.{Callee, Instance}
use Rattle.zl_flat.specs.Expressions.{expr_walk, exprs_walk}
use Rattle.zl_flat.specs.Equations.{eqn_walk, eqns_walk}
use Rattle.zl_flat.specs.Expansion.{Scoped, Named, found, with_name, with_callees, variables_from, argument_definers, input_definers, param_place, body_copy, instance, decl_copy, main_here, main_block, main_parts}
use Rattle.zl_flat.proofs.WellFormedParts.{AllFrom, each-left, the_places}
use Rattle.zl_flat.proofs.WellFormedGround.{IsPlaceAt, standing, Sits}
use Rattle.zl_flat.proofs.RulesKept.{none-left, none-right, IsVariable}
use Rattle.zl_flat.proofs.WellFormedDecls.{Finds, IsCounted}
use Rattle.zl_flat.proofs.DefinersNames.{has-with_ids, not-both}
use Rattle.zl_meaning.specs.Single.{is_start}
use Rattle.zl_flat.proofs.DefinersOutlines.{HasEntries, HasName, IsSound, entries-list, entry-of, sound-first, sound-others}
use Rattle.zl_flat.proofs.DefinersDeclared.{not-true, sound-decl, not-a-param}
use Rattle.zl_flat.proofs.DefinersSpread.{Clear, Spaced, Never, Any, Defines, defines-flat, defines-joined, never-first}
use Rattle.zl_flat.proofs.DefinersExprs.{WalkDefines, CalleeDefines, walk_all-define, expr-defines}
use Rattle.zl_flat.proofs.DefinersNumbers.{call-at}
use Rattle.zl_flat.proofs.DefinersOwn.{ArePlaced, IsOwn, defines-block, defines-definers}
use Rattle.zl_flat.proofs.DefinersEqns.{Pairwise, MakingDefines, in_turn-defines}
use Rattle.zl_flat.proofs.DefinersTrees.{eqn-defines}
use Rattle.zl_flat.proofs.DefinersVariables.{decl-rises, places-differ, behind-params, each-found}

-- ---- parameters

-- the definer of a parameter: its place has this number, with the copy's call, and is below `hi`
pub record IsParamAt (f : FlatForm) (call : Option ℕ) (hi number : ℕ) (g : Given) : Type 0 where
  pub place : g.place ≡ number
  pub called : place_call f number ≡ call
  pub below : number < hi

-- its place is before those of other variables
abbrev pub IsBelow : ℕ → Given → Type 0
IsBelow hi g = g.place < hi

-- the arguments define the parameters, one by one
arguments-at : (f : FlatForm) (i : Instance) (here : Here) (hi n : ℕ) (ps : List Param) (rs : List Root) → AllFrom (λ m x. IsPlaceAt f m x) n (map (param_place i here) ps) → n + length ps ≤ hi →
    AllFrom (IsParamAt f here.call hi) n (argument_definers here n ps rs)
arguments-at f i here hi n [] rs h le = tt
arguments-at f i here hi n (p ∷ ps) [] h le = tt
arguments-at f i here hi n (p ∷ ps) (r ∷ rs) h le =
    (record { place = refl; called = call-at f n (param_place i here p) h.0; below = omega (arith, le) }, arguments-at f i here hi (n + 1) ps rs h.1 (omega (arith, le)))

-- and so do the inputs
inputs-at : (f : FlatForm) (i : Instance) (here : Here) (hi n : ℕ) (ps : List Param) → AllFrom (λ m x. IsPlaceAt f m x) n (map (param_place i here) ps) → n + length ps ≤ hi →
    AllFrom (IsParamAt f here.call hi) n (input_definers n ps)
inputs-at f i here hi n [] h le = tt
inputs-at f i here hi n (p ∷ ps) h le =
    (record { place = refl; called = call-at f n (param_place i here p) h.0; below = omega (arith, le) }, inputs-at f i here hi (n + 1) ps h.1 (omega (arith, le)))

-- their places are the first ones
params-own : (f : FlatForm) (call : Option ℕ) (hi n : ℕ) (gs : List Given) → AllFrom (IsParamAt f call hi) n gs → AllByRecursion (λ g. (place_call f g.place ≡ call) × IsBelow hi g) gs
params-own f call hi n [] h = tt
params-own f call hi n (g ∷ gs) h = ((subst (λ m. place_call f m ≡ call) (sym h.0.place) h.0.called, subst (λ m. m < hi) (sym h.0.place) h.0.below), params-own f call hi (n + 1) gs h.1)

-- a parameter is clear of those behind it
params-later : (f : FlatForm) (call : Option ℕ) (hi n : ℕ) (g : Given) (gs : List Given) → g.place < n → AllFrom (IsParamAt f call hi) n gs → AllByRecursion (Clear f g) gs
params-later f call hi n g [] lt h = tt
params-later f call hi n g (k ∷ gs) lt h = (λ e starts. let same = h.0.place in absurd (omega (arith, lt, e, same)), params-later f call hi (n + 1) g gs (omega (arith, lt)) h.1)

params-spaced : (f : FlatForm) (call : Option ℕ) (hi n : ℕ) (gs : List Given) → AllFrom (IsParamAt f call hi) n gs → Spaced f gs
params-spaced f call hi n [] h = tt
params-spaced f call hi n (g ∷ gs) h = let same = h.0.place in (params-later f call hi (n + 1) g gs (omega (arith, same)) h.1, params-spaced f call hi (n + 1) gs h.1)

-- places hold no definers
places-free : (xs : List PlaceInfo) → (some_places xs).definers ≡ []
unfolding some_places
places-free xs = refl

module _ (f : FlatForm) (base : ℕ) (names : List (List ℕ)) where
  -- ---- the copy of a body

  -- the results
  results-define : (i : Instance) → ((id : ℕ) (c : Callee) → i.callees id ≡ Some c → CalleeDefines f base c) → (xs : List Expr) → AllByRecursion (WalkDefines f base) (map (expr_walk base names i) xs)
  results-define i known [] = tt
  results-define i known (x ∷ xs) = (expr-defines f base names i known x, results-define i known xs)

  -- the equations
  eqs-entries : (i : Instance) → ((id : ℕ) (c : Callee) → i.callees id ≡ Some c → CalleeDefines f base c) → (es : List Eqn) → AllByRecursion HasEntries (map eqn_outline es)
  eqs-entries i known [] = tt
  eqs-entries i known (e ∷ es) = ((eqn-defines f base names i known e).0, eqs-entries i known es)

  eqs-define : (i : Instance) → ((id : ℕ) (c : Callee) → i.callees id ≡ Some c → CalleeDefines f base c) → (valued started : List ℕ) (es : List Eqn) → IsSound (IsVariable i) (list_from valued started (map eqn_outline es)) →
      Pairwise (MakingDefines f base i) (map (eqn_walk base names i) es) (map eqn_outline es)
  eqs-define i known valued started [] h = tt
  eqs-define i known valued started (e ∷ es) h =
      let o = eqn_outline e in
      let os = map eqn_outline es in
      ((eqn-defines f base names i known e).1 (sound-first (IsVariable i) valued started o os h), eqs-define i known (with_ids valued o.valued) (with_ids started o.started) es (sound-others (IsVariable i) valued started o os h))

  -- what is asked of a copy: its names, its variables, and the definers of its parameters
  record IsCopy (i : Instance) (d : Decl) (definers : List Given) (here : Here) (s : Counters) : Type 0 where
    known : (id : ℕ) (c : Callee) → i.callees id ≡ Some c → CalleeDefines f base c
    sound : IsSound (IsVariable i) (eqns_outline d.eqs)
    placed : ArePlaced f i here.call
    behind : (o : Bool) (id : ℕ) (v : Variable) → HasName (eqns_outline d.eqs) o id → variable_of i.variables id ≡ Some v → s.places + length d.params ≤ v.place
    params : AllFrom (λ m x. IsPlaceAt f m x) s.places (map (param_place i here) d.params) → AllFrom (IsParamAt f here.call (s.places + length d.params)) s.places definers

  -- what the copy of a body makes
  copy-defines : (i : Instance) (d : Decl) (definers : List Given) (here : Here) (s : Counters) → (Sits f base s (body_copy base names i d definers here s).parts → IsCopy i d definers here s) → Defines f base here.call Any s (body_copy base names i d definers here s).parts
  copy-defines i d definers here s make before sits =
      let copy = make sits in
      let hi = s.places + length d.params in
      let places = some_places (map (param_place i here) d.params) in
      let params = joined places (some_definers definers) in
      let t = after s params in
      let results = exprs_walk base names i d.results here t in
      let u = after t results.parts in
      let eqs = eqns_walk base names i d.eqs here u in
      let os = map eqn_outline d.eqs in
      let o = eqns_outline d.eqs in
      let at = copy.params (the_places (standing f base) s (map (param_place i here) d.params) (each-left (standing f base) s places (some_definers definers) (each-left (standing f base) s params (joined results.parts eqs) sits))) in
      let Q = IsOwn f i o here.block in
      defines-joined f base here.call (IsBelow hi) Q Any s params (joined results.parts eqs) (λ g h. tt) (λ g h. tt)
      (λ g h j k e starts. let le = copy.behind (is_start h.definer) k.id k.variable k.named k.is in let same = k.place in absurd (omega (arith, j, le, e, same)))
      (never-first f base here.call (IsBelow hi) s places (some_definers definers) (defines-flat f base here.call Never s places (places-free (map (param_place i here) d.params)))
      (defines-definers f base here.call (IsBelow hi) (after s places) definers (params-own f here.call hi s.places definers at) (params-spaced f here.call hi s.places definers at)))
      (never-first f base here.call Q t results.parts eqs (walk_all-define f base (map (expr_walk base names i) d.results) (results-define i copy.known d.results) here t)
      (in_turn-defines f base i [] [] (map (eqn_walk base names i) d.eqs) os copy.sound (eqs-entries i copy.known d.eqs) (eqs-define i copy.known [] [] d.eqs copy.sound) here u copy.placed))
      before sits

  -- ---- declarations

  -- the places of the variables of a declaration are made in its copy: they have its call
  abbrev pub VariablesCalled : (ℕ → Option Callee) → (ℕ → Option Size) → Scoped → Type 0
  VariablesCalled callees sizes d = (definers : List Given) (here : Here) (s : Counters) →
      Sits f base s (body_copy base names (instance base names callees sizes d here.block s.places) d.decl definers here s).parts →
      (id : ℕ) (v : Variable) → variable_of (variables_from sizes d s.places) id ≡ Some v → place_call f v.place ≡ here.call

  -- it holds of each callee
  abbrev AllDefine : List (Named Callee) → Type 0
  AllDefine cs = AllByRecursion (λ (n : Named Callee). CalleeDefines f base n.what) cs

  found-defines : (cs : List (Named Callee)) → AllDefine cs → (id : ℕ) (c : Callee) → found cs id ≡ Some c → CalleeDefines f base c
  found-defines [] h id c is = absurd (cc)
  found-defines (x ∷ cs) h id c is = by_equal (nat_eq x.name id) is (found-defines cs h.1 id c)
    where
      same : Some x.what ≡ Some c → x.what ≡ c
      same e = cc

      by_equal : (b : Bool) → (if b then Some x.what else found cs id) ≡ Some c → (found cs id ≡ Some c → CalleeDefines f base c) → CalleeDefines f base c
      by_equal true e more = subst (CalleeDefines f base) (same e) h.0
      by_equal false e more = more e

  -- a name that equations define, or a local, has a place behind those of the parameters
  named-behind : (k : Known) (d : Scoped) (sizes : ℕ → Option Size) (n : ℕ) → d.infos ≡ scope.variables d.decl → variables_broken k d.decl ≡ [] → HasEntries (eqns_outline d.decl.eqs) → (o : Bool) (id : ℕ) (v : Variable) → HasName (eqns_outline d.decl.eqs) o id →
      variable_of (variables_from sizes d n) id ≡ Some v → n + length d.decl.params ≤ v.place
  unfolding scope.variables
  named-behind k d sizes n infos kept has o id v named is =
      let outline = eqns_outline d.decl.eqs in
      let fs = with_ids [] (param_ids d.decl.params) in
      let e = entry-of outline has o id named in
      let absent = not-a-param (λ q. Unit {0}) k d.decl kept e.0 id e.1 in
      behind-params d.infos sizes d.decl (first_entries fs outline.entries) d.types n id
      (not-true (among (param_ids d.decl.params) id) (λ m. not-both (among fs id) (has-with_ids [] (param_ids d.decl.params) id m) absent)) v
      (subst (λ vs. variable_of (variables vs d.types (decl_numbering d.infos sizes d.decl n).own) id ≡ Some v) infos is)

  -- a copy of a declaration that breaks no rule of names
  is-copy : (cs : List (Named Callee)) (sizes : ℕ → Option Size) (d : Scoped) (k : Known) → IsCounted d → AllDefine cs → variables_broken k d.decl ≡ [] → (definers : List Given) (here : Here) (s : Counters) →
      ((id : ℕ) (v : Variable) → variable_of (variables_from sizes d s.places) id ≡ Some v → place_call f v.place ≡ here.call) →
      (AllFrom (λ m x. IsPlaceAt f m x) s.places (map (param_place (instance base names (found cs) sizes d here.block s.places) here) d.decl.params) → AllFrom (IsParamAt f here.call (s.places + length d.decl.params)) s.places definers) →
      IsCopy (instance base names (found cs) sizes d here.block s.places) d.decl definers here s
  is-copy cs sizes d k counted all kept definers here s called params =
      let i = instance base names (found cs) sizes d here.block s.places in
      let own = (decl_numbering d.infos sizes d.decl s.places).own in
      let K = IsVariable i in
      let known = each-known i d.infos (each-found d.infos d.types own counted.types (counted.places sizes s.places)) in
      record {
        known = found-defines cs all;
        sound = sound-decl K k d.decl kept (subst (λ vs. AllByRecursion (λ (v : VarInfo). K v.name) vs) counted.infos known);
        placed = record { called = called; differ = places-differ s.places (decl_numbering d.infos sizes d.decl s.places).next d.infos d.types own (decl-rises d.infos sizes d.decl s.places) };
        behind = named-behind k d sizes s.places counted.infos kept (entries-list [] [] (map eqn_outline d.decl.eqs) (eqs-entries i (found-defines cs all) d.decl.eqs));
        params = params;
      }
    where
      each-known : (i : Instance) (infos : List VarInfo) → AllByRecursion (λ (x : VarInfo). Finds i.variables x.name) infos → AllByRecursion (λ (x : VarInfo). IsVariable i x.name) infos
      each-known i [] h = tt
      each-known i (x ∷ infos) h = let a = h.0 in (record { variable = a.variable; is = a.is }, each-known i infos h.1)

  -- a declaration that can be called
  decl-defines : (cs : List (Named Callee)) (sizes : ℕ → Option Size) (d : Scoped) (k : Known) → IsCounted d → AllDefine cs → variables_broken k d.decl ≡ [] → VariablesCalled (found cs) sizes d → CalleeDefines f base (decl_copy base names (found cs) sizes d)
  unfolding decl_copy
  decl-defines cs sizes d k counted all kept called here roots s =
      let i = instance base names (found cs) sizes d here.block s.places in
      let definers = argument_definers here s.places d.decl.params roots in
      copy-defines i d.decl definers here s
      (λ sits. is-copy cs sizes d k counted all kept definers here s (called definers here s sits) (λ at. arguments-at f i here (s.places + length d.decl.params) s.places d.decl.params roots at (omega arith)))

  and-one : (cs : List (Named Callee)) (id : ℕ) (c : Callee) → AllDefine cs → CalleeDefines f base c → AllDefine (with_name cs id c)
  and-one [] id c h k = (k, tt)
  and-one (x ∷ cs) id c h k = (h.0, and-one cs id c h.1 k)

  -- it holds of each declaration, with the callees and sizes of those before it
  abbrev pub AllCalled : List (Named Callee) → List (Named Size) → List Scoped → Type 0
  AllCalled cs ss [] = Unit {0}
  AllCalled cs ss (d ∷ ds) =
      VariablesCalled (found cs) (found ss) d
      × AllCalled (with_name cs d.decl.name.id (decl_copy base names (found cs) (found ss) d)) (with_name ss d.decl.name.id (decl_size d.infos (found ss) d.decl)) ds

  -- the declarations that can be called, one behind the other
  pub callees-define : (cs : List (Named Callee)) (ss : List (Named Size)) (k : Known) (ds : List Scoped) → AllDefine cs → AllByRecursion IsCounted ds → decls_broken names k (map (λ d. d.decl) ds) ≡ [] → AllCalled cs ss ds →
      AllDefine (with_callees base names cs ss ds)
  callees-define cs ss k [] all counted h called = all
  callees-define cs ss k (d ∷ ds) all counted h called =
      let one = decl_broken names k d.decl in
      let rest = decls_broken names (declared_with k d.decl) (map (λ e. e.decl) ds) in
      let kept = none-left (variables_broken k d.decl) (uses_broken names (inside_of k d.decl) d.decl) (none-left one rest h) in
      callees-define (with_name cs d.decl.name.id (decl_copy base names (found cs) (found ss) d)) (with_name ss d.decl.name.id (decl_size d.infos (found ss) d.decl)) (declared_with k d.decl) ds
      (and-one cs d.decl.name.id (decl_copy base names (found cs) (found ss) d) all (decl-defines cs (found ss) d k counted.0 all kept called.0)) counted.1 (none-right one rest h) called.1

  -- what `main` makes
  pub main-defines : (cs : List (Named Callee)) (sizes : ℕ → Option Size) (d : Scoped) (k : Known) → IsCounted d → AllDefine cs → decl_broken names k d.decl ≡ [] → VariablesCalled (found cs) sizes d → Defines f base None Any start (main_parts base names (found cs) sizes d)
  unfolding main_parts past_block
  main-defines cs sizes d k counted all h called =
      let s = past_block start in
      let here = main_here base names d.decl in
      let i = instance base names (found cs) sizes d 0 0 in
      let definers = input_definers 0 d.decl.params in
      let kept = none-left (variables_broken k d.decl) (uses_broken names (inside_of k d.decl) d.decl) h in
      defines-block f base None Any start (main_block base names d.decl) (body_copy base names i d.decl definers here s).parts
      (λ is.
      copy-defines i d.decl definers here s
      (λ sits. is-copy cs sizes d k counted all kept definers here s (called definers here s sits) (λ at. inputs-at f i here (0 + length d.decl.params) 0 d.decl.params at (omega arith))))
