-- What the copies of declarations make keeps what a flat form keeps of types, where no rule of names is broken and an
-- assignment of types meets the program's equalities.
use Rattle.std.proofs.Common.{◌≡◌, ℕ, ◌+◌, ◌<◌, Bool, true, false, ◌||◌, if◌then◌else◌, nat_eq, is_some, List, [], ◌∷◌, ◌++◌, map, length, Option, Some, None, refl, sym, ap, subst, ◌∙◌, arith}
use Rattle.std.specs.Prelude.{codes}
use Rattle.std.specs.List.{AllByRecursion}
use Rattle.std.proofs.lemmas.Bool.{eqb-true, eq-eqb}
use Rattle.zl_value.specs.declared.position.Pos.{Pos}
use Rattle.zl_value.specs.declared.rule.Rule.TheVariants as rule
use Rattle.zl_value.specs.declared.value.Ty.TheVariants.{Zero}
use Rattle.zl_value.specs.declared.op.Op.{Op}
use Rattle.zl_value.specs.declared.op.Op.TheVariants.{FloatOfInt, Truncate}
use Rattle.zl_ast.specs.declared.scope.VarInfo.{VarInfo}
use Rattle.zl_ast.specs.declared.expr.Expr.{Expr}
use Rattle.zl_ast.specs.declared.eqn.Eqn.{Eqn}
use Rattle.zl_ast.specs.declared.program.Decl.{Decl}
use Rattle.zl_ast.specs.declared.program.Param.{Param}
use Rattle.zl_ast.specs.Names.{broken_if, among, with_id, with_ids, has_text, is_main}
use Rattle.zl_ast.specs.NamesDefined.{Outline, eqn_outline, eqns_outline, first_places}
use Rattle.zl_ast.specs.NamesUsed as used
use Rattle.zl_ast.specs.NamesUsed.{Known, expr_uses, eqn_uses, values_uses, eqns_uses}
use Rattle.zl_ast.specs.NamesRules.{is_constant, place_of, is_declared, signature_of, built_in, with_constant, with_signature, declared_with, inside_of, twice, with_visible, variables_broken, uses_broken, main_broken, decl_broken, decls_broken}
use Rattle.zl_ast.specs.Scopes as scope
use Rattle.zl_ast.specs.Scopes.{param_ids, first_entries, parameter}
use Rattle.zl_ast.specs.Assignments.{Assignment, Meets, Solves}
use Rattle.zl_ast.specs.TypeEqualities as types
use Rattle.zl_ast.specs.TypeEqualities.{Signature, Table, Environment, nothing, with_entry, with_places, with_variables, with_declared, params_equalities, exprs_equalities, expr_equalities, eqn_equalities, eqns_equalities, decl_equalities, decls_equalities}
use Rattle.zl_meaning.specs.FlatForm.{FlatForm}
use Rattle.zl_meaning.specs.WellFormed.{HasType}
use Rattle.zl_meaning.specs.declared.place.PlaceInfo.{PlaceInfo}
use Rattle.zl_flat.specs.declared.variable.Variable.{Variable}
use Rattle.zl_flat.specs.declared.here.Here.{Here}
use Rattle.zl_flat.specs.declared.here.Root.{Root}
use Rattle.zl_flat.specs.declared.size.Size.{Size}
use Rattle.zl_flat.specs.declared.given.Given.{Given}
use Rattle.zl_flat.specs.Parts.{Counters, joined as joined_parts, some_places, some_definers, after}
use Rattle.zl_flat.specs.Variables.{variable_of, variables}
use Rattle.zl_flat.specs.Operators.{built_in_op}
use Rattle.zl_flat.specs.Numbering.{decl_numbering}
use Rattle.zl_flat.specs.Sizes.{decl_size}
use Rattle.zl_flat.specs.Instances.{Callee, Instance}
use Rattle.zl_flat.specs.Expressions.{expr_walk, exprs_walk}
use Rattle.zl_flat.specs.Equations.{place_type, eqn_walk, eqns_walk}
use Rattle.zl_flat.specs.Expansion.{Scoped, Named, found, with_name, with_callees, variables_from, argument_definers, input_definers, param_place, body_copy, instance, decl_copy}
use Rattle.zl_flat.proofs.WellFormedParts.{AllFrom, all-left, all-right, each-joined, each-left, each-right, each-some_places, each-some_definers, the_places}
use Rattle.zl_flat.proofs.WellFormedGround.{IsPlaceAt, standing, Sits}
use Rattle.zl_flat.proofs.RulesKept.{none-left, none-right, kept-if, IsVariable, Covers}
use Rattle.zl_flat.proofs.WellFormedDecls.{IsCounted, known_after}
use Rattle.zl_flat.proofs.RulesKept.{covers-one}
use Rattle.zl_flat.proofs.WellFormedEntries.{EntriesKnown, covers-names, all-known, list-known}
use Rattle.zl_flat.proofs.WellFormedGrammar.{IsWritten, AllWritten, expr_written, exprs_written, eqn_written, eqns_written, params_written, decl_written}
use Rattle.zl_flat.proofs.WellFormedTypes.{ArgumentsTyped, GivenTyped, typing}
use Rattle.zl_flat.proofs.WellFormedTypesExprs.{AllWalksTyped, CalleeTyped, CopyTypes, walk_all-typed}
use Rattle.zl_flat.proofs.WellFormedTypesExprTrees.{KnowsTypes, CanCallTyped, NoZero}
use Rattle.zl_flat.proofs.WellFormedTypesEqns.{MakingTyped, in_turn-typed}
use Rattle.zl_flat.proofs.WellFormedTypesEqnTrees.{value-typed, no-zero, eqn-typed}
use Rattle.zl_flat.proofs.WellFormedTypesScopes.{differ, apart-one, Apart, twice-apart, TypesOf, placed, variable-placed, none-placed, covers-all, variables-known}

-- ---- what is known

-- the places of these variables have their types
abbrev pub PlacesOf : FlatForm → List Variable → Type 0
PlacesOf f vs = (id : ℕ) (v : Variable) → variable_of vs id ≡ Some v → HasType f v.ty v.place

-- a declaration whose variables have the types that the assignment gives to their places in the text
pub record IsTypedDecl (a : Assignment) (d : Scoped) : Type 0 where
  pub types_of : TypesOf a d.infos d.types
  pub written : AllWritten (decl_written d.decl)

-- what is known of the names of declarations can be called, with the types of the assignment
pub record KnowsDecls (f : FlatForm) (base : ℕ) (names : List (List ℕ)) (cs : List (Named Callee)) (k : Known) (e : Environment) (a : Assignment) : Type 0 where
  pub texts : e.names ≡ names
  pub signatures : (id : ℕ) (s : used.Signature) → k.signature id ≡ Some s → built_in_op names id ≡ None → CanCallTyped f base (found cs) e.declared a id
  pub constants : (id : ℕ) → among k.constants id ≡ true → CanCallTyped f base (found cs) e.declared a id
  pub built_ins : (id : ℕ) (op : Op) → built_in_op names id ≡ Some op → (e.declared id ≡ None) × (k.signature id ≡ Some (1, 1))
  pub fresh : (id : ℕ) → is_declared k id ≡ false → found cs id ≡ None

-- the environment behind these declarations
abbrev pub environment_after : Environment → List Scoped → Environment
environment_after e [] = e
environment_after e (d ∷ ds) = environment_after (with_declared (with_variables e (scope.variables d.decl)) d.decl) ds

-- each parameter's variable has the type of its place in the text
abbrev pub ParamsTyped : Instance → Assignment → List Param → Type 0
ParamsTyped i a ps = AllByRecursion (λ (p : Param). place_type (variable_of i.variables p.name.id) ≡ a p.name.at) ps

module _ (f : FlatForm) (base : ℕ) (names : List (List ℕ)) where
  -- wherever the declaration is copied, the places of its variables have their types
  abbrev pub CopyPlaces : List (Named Callee) → List (Named Size) → Scoped → Type 0
  CopyPlaces cs zs d = (here : Here) (roots : List Root) (s : Counters) → Sits f base s (decl_copy base names (found cs) (found zs) d here roots s).parts → PlacesOf f (variables_from (found zs) d s.places)

  -- and so are those of each of these declarations, behind those that are known
  abbrev pub AllCopyPlaces : List (Named Callee) → List (Named Size) → List Scoped → Type 0
  AllCopyPlaces cs zs [] = Unit {0}
  AllCopyPlaces cs zs (d ∷ ds) =
      CopyPlaces cs zs d × AllCopyPlaces (with_name cs d.decl.name.id (decl_copy base names (found cs) (found zs) d)) (with_name zs d.decl.name.id (decl_size d.infos (found zs) d.decl)) ds

module _ (f : FlatForm) (base : ℕ) (names : List (List ℕ)) (a : Assignment) (nz : NoZero a) where
  -- ---- the copy of a body

  module _ (i : Instance) (k : Known) (e : Environment) (knows : KnowsTypes f base names i k e a) where
    -- each result has the type of its place
    results-typed : (xs : List Expr) (visible : List ℕ) → Covers i visible → values_uses k xs visible ≡ [] → AllWritten (exprs_written xs) → Solves (exprs_equalities e xs) a → AllWalksTyped f base (map a (map place_of xs)) (map (expr_walk base names i) xs)
    results-typed [] visible c h w m = tt
    results-typed (x ∷ xs) visible c h w m =
        let first = expr_uses k x 1 visible in
        let rest = values_uses k xs visible in (
          value-typed f base names i k e a nz knows x (a (place_of x)) visible refl c (none-left first rest h) (all-left IsWritten (expr_written x) (exprs_written xs) w) (all-left (Meets a) (expr_equalities e x) (exprs_equalities e xs) m),
          results-typed xs visible c (none-right first rest h) (all-right IsWritten (expr_written x) (exprs_written xs) w) (all-right (Meets a) (expr_equalities e x) (exprs_equalities e xs) m),
        )

    -- each equation keeps types
    eqs-typed : (xs : List Eqn) (visible : List ℕ) → Covers i visible → eqns_uses k xs visible ≡ [] → AllByRecursion (λ (o : Outline). EntriesKnown i o.entries) (map eqn_outline xs) → AllWritten (eqns_written xs) → Solves (eqns_equalities e xs) a →
        AllByRecursion (MakingTyped f base) (map (eqn_walk base names i) xs)
    eqs-typed [] visible c h l w m = tt
    eqs-typed (x ∷ xs) visible c h l w m =
        let first = eqn_uses k x visible in
        let rest = eqns_uses k xs visible in (
          eqn-typed f base names i k e a nz knows x visible c (none-left first rest h) l.0 (all-left IsWritten (eqn_written x) (eqns_written xs) w) (all-left (Meets a) (eqn_equalities e x) (eqns_equalities e xs) m),
          eqs-typed xs visible c (none-right first rest h) l.1 (all-right IsWritten (eqn_written x) (eqns_written xs) w) (all-right (Meets a) (eqn_equalities e x) (eqns_equalities e xs) m),
        )

    -- no parameter's place has the type of an `up`
    params-typed : (here : Here) (n : ℕ) (ps : List Param) → AllFrom (λ m (x : PlaceInfo). x.ty ≡ Zero → ⊥) n (map (param_place i here) ps)
    params-typed here n [] = tt
    params-typed here n (p ∷ ps) = (no-zero f base names i k e a nz knows p.name.id, params-typed here (n + 1) ps)

    -- a copy of a body keeps types, and its results have those of the declaration's results
    pub body-copy-typed : (d : Decl) (definers : List Given) (visible : List ℕ) → Covers i visible → EntriesKnown i (eqns_outline d.eqs).entries → values_uses k d.results visible ≡ [] → eqns_uses k d.eqs visible ≡ [] → AllWritten (decl_written d) → Solves (decl_equalities e d) a →
        (here : Here) (s : Counters) → (AllFrom (IsPlaceAt f) s.places (map (param_place i here) d.params) → AllByRecursion (GivenTyped f) definers) → Sits f base s (body_copy base names i d definers here s).parts →
        CopyTypes f (map a (map place_of d.results)) s (body_copy base names i d definers here s)
    body-copy-typed d definers visible c l hr he w m here s hd sits =
        let places = some_places (map (param_place i here) d.params) in
        let params = joined_parts places (some_definers definers) in
        let t = after s params in
        let results = exprs_walk base names i d.results here t in
        let u = after t results.parts in
        let eqs = eqns_walk base names i d.eqs here u in
        let rest = joined_parts results.parts eqs in
        let behind = each-right (standing f base) s params rest sits in
        let own = each-left (standing f base) s places (some_definers definers) (each-left (standing f base) s params rest sits) in
        let written = all-right IsWritten (params_written d.params) (exprs_written d.results ++ eqns_written d.eqs) w.1 in
        let met = all-right (Meets a) (params_equalities d.params) (exprs_equalities e d.results ++ eqns_equalities e d.eqs) m in
        let hw = all-left IsWritten (exprs_written d.results) (eqns_written d.eqs) written in
        let ew = all-right IsWritten (exprs_written d.results) (eqns_written d.eqs) written in
        let hm = all-left (Meets a) (exprs_equalities e d.results) (eqns_equalities e d.eqs) met in
        let em = all-right (Meets a) (exprs_equalities e d.results) (eqns_equalities e d.eqs) met in
        let b = walk_all-typed f base (map a (map place_of d.results)) (map (expr_walk base names i) d.results) (results-typed d.results visible c hr hw hm) here t (each-left (standing f base) t results.parts eqs behind) in
        let g = in_turn-typed f base (map (eqn_walk base names i) d.eqs) (eqs-typed d.eqs visible c he (list-known i [] [] (map eqn_outline d.eqs) l) ew em) here u (each-right (standing f base) t results.parts eqs behind) in
        record {
          parts = each-joined (typing f) s params rest
              (each-joined (typing f) s places (some_definers definers) (each-some_places (typing f) s (map (param_place i here) d.params) (params-typed here s.places d.params))
              (each-some_definers (typing f) (after s places) definers (hd (the_places (standing f base) s (map (param_place i here) d.params) own))))
              (each-joined (typing f) t results.parts eqs b.parts g);
          results = b.roots;
        }

  -- ---- parameters

  -- a parameter's place has the type of the parameter
  param-has-type : (i : Instance) (here : Here) (p : Param) (n : ℕ) → place_type (variable_of i.variables p.name.id) ≡ a p.name.at → IsPlaceAt f n (param_place i here p) → HasType f (a p.name.at) n
  param-has-type i here p n e h = record { place = h.place; is = h.is; typed = h.typed ∙ e }

  -- each argument has the type of the place that it defines
  arguments-typed : (i : Instance) (here inner : Here) (n : ℕ) (ps : List Param) (rs : List Root) → ParamsTyped i a ps → AllFrom (IsPlaceAt f) n (map (param_place i here) ps) → ArgumentsTyped f (map a (map (λ p. p.name.at) ps)) rs → AllByRecursion (GivenTyped f) (argument_definers inner n ps rs)
  arguments-typed i here inner n [] rs e h t = tt
  arguments-typed i here inner n (p ∷ ps) [] e h t = tt
  arguments-typed i here inner n (p ∷ ps) (r ∷ rs) e h t = let b = t.0 in (record { ty = a p.name.at; place = param-has-type i here p n e.0 h.0; definer = b.occ }, arguments-typed i here inner (n + 1) ps rs e.1 h.1 t.1)

  -- the inputs of `main` have the types of its parameters
  pub inputs-typed : (i : Instance) (here : Here) (n : ℕ) (ps : List Param) → ParamsTyped i a ps → AllFrom (IsPlaceAt f) n (map (param_place i here) ps) → AllByRecursion (GivenTyped f) (input_definers n ps)
  inputs-typed i here n [] e h = tt
  inputs-typed i here n (p ∷ ps) e h = (record { ty = a p.name.at; place = param-has-type i here p n e.0 h.0; definer = tt }, inputs-typed i here (n + 1) ps e.1 h.1)

  -- ---- a declaration's own names

  pub record InsideTyped (i : Instance) (k : Known) (e : Environment) (d : Decl) : Type 0 where
    pub knows : KnowsTypes f base names i (inside_of k d) (with_variables e (scope.variables d)) a
    pub visible : List ℕ
    pub covers : Covers i visible
    pub entries : EntriesKnown i (eqns_outline d.eqs).entries
    pub params : ParamsTyped i a d.params
    pub results : values_uses (inside_of k d) d.results visible ≡ []
    pub equations : eqns_uses (inside_of k d) d.eqs visible ≡ []

  -- no two variables of a declaration have one name
  variables-apart : (k : Known) (d : Decl) → variables_broken k d ≡ [] → Apart (scope.variables d)
  unfolding variables_broken
  variables-apart k d h =
      let outline = eqns_outline d.eqs in
      let one = broken_if (is_declared k d.name.id) rule.NameTwice d.name.at in
      let two = first_places (with_ids [] (param_ids d.params)) [] outline.entries in
      let three = twice k.constants [] (scope.variables d) in
      (twice-apart k.constants [] (scope.variables d) (none-right two three (none-right outline.broken (two ++ three) (none-right one (outline.broken ++ (two ++ three)) h)))).1

  -- the parameters are variables, and the places of the variables are found by their names
  params-have-types : (i : Instance) (vs : List VarInfo) (ps : List Param) → ((id : ℕ) (v : Variable) → variable_of i.variables id ≡ Some v → (at : Pos) → with_places nothing vs id ≡ Some at → a at ≡ v.ty) →
      EntriesKnown i (map parameter ps) → AllByRecursion (λ (v : VarInfo). with_places nothing vs v.name ≡ Some v.at) (map parameter ps) → ParamsTyped i a ps
  params-have-types i vs [] g h l = tt
  params-have-types i vs (p ∷ ps) g h l = let v = h.0 in (ap place_type v.is ∙ sym (g p.name.id v.variable v.is p.name.at l.0), params-have-types i vs ps g h.1 l.1)

  -- the names of the parameters are of variables
  param-covers : (i : Instance) (seen : List ℕ) (ps : List Param) → Covers i seen → EntriesKnown i (map parameter ps) → Covers i (with_ids seen (param_ids ps))
  param-covers i seen [] c h = c
  param-covers i seen (p ∷ ps) c h = param-covers i (with_id seen p.name.id) ps (covers-names i (p.name ∷ []) seen (h.0, tt) c) h.1

  -- what is known of a declaration's own names in a copy of it
  pub inside-typed : (cs : List (Named Callee)) (sizes : ℕ → Option Size) (d : Scoped) (block n : ℕ) (k : Known) (e : Environment) → IsCounted d → IsTypedDecl a d → KnowsDecls f base names cs k e a → decl_broken names k d.decl ≡ [] →
      PlacesOf f (variables_from sizes d n) → InsideTyped (instance base names (found cs) sizes d block n) k e d.decl
  unfolding uses_broken scope.variables
  inside-typed cs sizes d block n k e counted typed known h places =
      let i = instance base names (found cs) sizes d block n in
      let vs = scope.variables d.decl in
      let own = (decl_numbering d.infos sizes d.decl n).own in
      let apart = variables-apart k d.decl (none-left (variables_broken k d.decl) (uses_broken names (inside_of k d.decl) d.decl) h) in
      let of_decl = subst (λ ws. TypesOf a ws d.types) counted.infos typed.types_of in
      let is_own : i.variables ≡ variables vs d.types own = ap (λ ws. variables ws d.types own) counted.infos in
      let count : length own ≡ length vs = counted.places sizes n ∙ ap length counted.infos in
      let all = variables-known i a nothing vs d.types own (λ id. refl) is_own apart count of_decl in
      let of_params = all-left (λ (v : VarInfo). IsVariable i v.name) (map parameter d.decl.params) (first_entries (with_ids [] (param_ids d.decl.params)) (eqns_outline d.decl.eqs).entries) all in
      let of_eqns = all-right (λ (v : VarInfo). IsVariable i v.name) (map parameter d.decl.params) (first_entries (with_ids [] (param_ids d.decl.params)) (eqns_outline d.decl.eqs).entries) all in
      let visible = with_visible [] vs in
      let uses = none-right (variables_broken k d.decl) (uses_broken names (inside_of k d.decl) d.decl) h in
      let values = values_uses (inside_of k d.decl) d.decl.results visible in
      let equations = eqns_uses (inside_of k d.decl) d.decl.eqs visible in
      let main = if is_main names d.decl.name.id then main_broken visible d.decl else [] in
      record {
        knows = record {
          texts = known.texts;
          variables = λ id v is.
              let b = variable-placed a nothing vs d.types own id v apart of_decl (ap (λ ws. variable_of ws id) (sym is_own) ∙ is) in
              record { at = b.at; is = b.is; typed = b.typed; place = places id v is };
          others = λ id is. none-placed a nothing vs d.types own id count of_decl (ap (λ ws. variable_of ws id) (sym is_own) ∙ is);
          signatures = known.signatures;
          constants = known.constants;
          built_ins = known.built_ins;
        };
        visible = visible;
        covers = covers-all i vs all;
        entries = all-known i (with_ids [] (param_ids d.decl.params)) (eqns_outline d.decl.eqs).entries (param-covers i [] d.decl.params (λ id is. absurd (cc)) of_params) of_eqns;
        params = params-have-types i vs d.decl.params
            (λ id v is at found_at.
            let b = variable-placed a nothing vs d.types own id v apart of_decl (ap (λ ws. variable_of ws id) (sym is_own) ∙ is) in
            ap a (same at b.at (sym found_at ∙ b.is)) ∙ b.typed)
            of_params (all-left (λ (v : VarInfo). with_places nothing vs v.name ≡ Some v.at) (map parameter d.decl.params) (first_entries (with_ids [] (param_ids d.decl.params)) (eqns_outline d.decl.eqs).entries) (placed nothing vs apart));
        results = none-left values (equations ++ main) uses;
        equations = none-left equations main (none-right values (equations ++ main) uses);
      }
    where
      same : (p q : Pos) → Some p ≡ Some q → p ≡ q
      same p q e = cc

  -- ---- a declaration that can be called

  -- a declaration's copies keep types, where its arguments have the types of its parameters
  pub decl-typed : (cs : List (Named Callee)) (zs : List (Named Size)) (d : Scoped) (k : Known) (e : Environment) → IsCounted d → IsTypedDecl a d → KnowsDecls f base names cs k e a → decl_broken names k d.decl ≡ [] →
      Solves (decl_equalities (with_variables e (scope.variables d.decl)) d.decl) a → CopyPlaces f base names cs zs d →
      CalleeTyped f base (map a (map (λ p. p.name.at) d.decl.params)) (map a (map place_of d.decl.results)) (decl_copy base names (found cs) (found zs) d)
  unfolding decl_copy
  decl-typed cs zs d k e counted typed known h m places here roots s ha sits =
      let i = instance base names (found cs) (found zs) d here.block s.places in
      let b = inside-typed cs (found zs) d here.block s.places k e counted typed known h (places here roots s sits) in
      body-copy-typed i (inside_of k d.decl) (with_variables e (scope.variables d.decl)) b.knows d.decl (argument_definers here s.places d.decl.params roots) b.visible b.covers b.entries b.results b.equations typed.written m here s
      (λ at. arguments-typed i here here s.places d.decl.params roots b.params at ha) sits

  -- ---- declarations one behind the other

  -- what was found is still found with more behind it
  still-found : (cs ds : List (Named Callee)) (id : ℕ) (c : Callee) → found cs id ≡ Some c → found (cs ++ ds) id ≡ Some c
  still-found [] ds id c h = absurd (cc)
  still-found (x ∷ cs) ds id c h = by_equal (nat_eq x.name id) h (still-found cs ds id c)
    where
      by_equal : (b : Bool) → (if b then Some x.what else found cs id) ≡ Some c → (found cs id ≡ Some c → found (cs ++ ds) id ≡ Some c) → (if b then Some x.what else found (cs ++ ds) id) ≡ Some c
      by_equal true e more = e
      by_equal false e more = more e

  -- a name that isn't known yet finds what is put behind
  last-found : (cs : List (Named Callee)) (id : ℕ) (c : Callee) → found cs id ≡ None → found (with_name cs id c) id ≡ Some c
  last-found [] id c h = ap (λ b. if b then Some c else None) (eq-eqb id id refl)
  last-found (x ∷ cs) id c h = by_equal (nat_eq x.name id) h (last-found cs id c)
    where
      none : Some x.what ≡ None → ⊥
      none e = cc

      by_equal : (b : Bool) → (if b then Some x.what else found cs id) ≡ None → (found cs id ≡ None → found (with_name cs id c) id ≡ Some c) → (if b then Some x.what else found (with_name cs id c) id) ≡ Some c
      by_equal true e more = absurd (none e)
      by_equal false e more = more e

  -- another name finds what it found
  other-found : (cs : List (Named Callee)) (id q : ℕ) (c : Callee) → nat_eq id q ≡ false → found (with_name cs id c) q ≡ found cs q
  other-found [] id q c h = ap (λ b. if b then Some c else None) h
  other-found (x ∷ cs) id q c h = ap (λ o. if nat_eq x.name q then Some x.what else o) (other-found cs id q c h)

  -- ---- what is declared by this name, and what by another

  -- neither of two where one of the two is false
  neither : (b c : Bool) → (b || c) ≡ false → (b ≡ false) × (c ≡ false)
  neither true c h = absurd (cc)
  neither false c h = (refl, h)

  -- a declaration that breaks no rule of names has a name that is new
  one-known : (k : Known) (d : Decl) → decl_broken names k d ≡ [] → is_declared k d.name.id ≡ false
  unfolding variables_broken
  one-known k d h =
      let outline = eqns_outline d.eqs in
      let one = broken_if (is_declared k d.name.id) rule.NameTwice d.name.at in
      let rest = outline.broken ++ (first_places (with_ids [] (param_ids d.params)) [] outline.entries ++ twice k.constants [] (scope.variables d)) in
      kept-if (is_declared k d.name.id) rule.NameTwice d.name.at (none-left one rest (none-left (one ++ rest) (uses_broken names (inside_of k d) d) h))

  -- the first of some places, and the others
  record IsSome (ps : List Pos) : Type 0 where
    pub first : Pos
    pub more : List Pos
    pub is : ps ≡ first ∷ more

  -- a list that has a first
  some-of : (ps : List Pos) → 0 < length ps → IsSome ps
  some-of [] h = absurd (omega (arith, h))
  some-of (p ∷ ps) h = record { first = p; more = ps; is = refl }

  -- there are as many places as expressions
  places-length : (xs : List Expr) → length (map place_of xs) ≡ length xs
  places-length [] = refl
  places-length (x ∷ xs) = let e = places-length xs in omega (arith, e)

  -- the declaration itself, behind the others
  new-typed : (cs : List (Named Callee)) (t : Table Signature) (d : Decl) (c : Callee) → found cs d.name.id ≡ None → 0 < length d.results →
      CalleeTyped f base (map a (map (λ p. p.name.at) d.params)) (map a (map place_of d.results)) c → CanCallTyped f base (found (with_name cs d.name.id c)) (with_entry t d.name.id (types.signature_of d)) a d.name.id
  new-typed cs t d c free some typed =
      let params = map (λ p. p.name.at) d.params in
      let count = places-length d.results in
      let b = some-of (map place_of d.results) (omega (arith, count, some)) in
      record {
        copy = c;
        is = last-found cs d.name.id c free;
        params = params;
        first = b.first;
        more = b.more;
        declared_is = ap (λ g. if g then Some (types.signature_of d) else t d.name.id) (eq-eqb d.name.id d.name.id refl) ∙ ap (λ ps. Some (record { params = params; results = ps })) b.is;
        typed = subst (λ ps. CalleeTyped f base (map a params) (map a ps) c) b.is typed;
      }

  -- another declaration, which was known before
  old-typed : (cs : List (Named Callee)) (t : Table Signature) (d : Decl) (c : Callee) (id : ℕ) → nat_eq d.name.id id ≡ false → CanCallTyped f base (found cs) t a id → CanCallTyped f base (found (with_name cs d.name.id c)) (with_entry t d.name.id (types.signature_of d)) a id
  old-typed cs t d c id differ h = record {
    copy = h.copy;
    is = other-found cs d.name.id id c differ ∙ h.is;
    params = h.params;
    first = h.first;
    more = h.more;
    declared_is = ap (λ g. if g then Some (types.signature_of d) else t id) differ ∙ h.declared_is;
    typed = h.typed;
  }

  -- the name is that of the declaration, or another
  either-typed : (cs : List (Named Callee)) (t : Table Signature) (d : Decl) (c : Callee) (id : ℕ) → CanCallTyped f base (found (with_name cs d.name.id c)) (with_entry t d.name.id (types.signature_of d)) a d.name.id →
      (nat_eq d.name.id id ≡ false → CanCallTyped f base (found cs) t a id) → CanCallTyped f base (found (with_name cs d.name.id c)) (with_entry t d.name.id (types.signature_of d)) a id
  either-typed cs t d c id new old = by_equal (nat_eq d.name.id id) refl
    where
      by_equal : (b : Bool) → nat_eq d.name.id id ≡ b → CanCallTyped f base (found (with_name cs d.name.id c)) (with_entry t d.name.id (types.signature_of d)) a id
      by_equal true is = subst (CanCallTyped f base (found (with_name cs d.name.id c)) (with_entry t d.name.id (types.signature_of d)) a) (eqb-true d.name.id id is) new
      by_equal false is = old-typed cs t d c id is (old is)

  -- a name differs from another where that differs from it
  not-turned : (n m : ℕ) → nat_eq m n ≡ false → nat_eq n m ≡ false
  not-turned n m h = by_equal (nat_eq n m) refl
    where
      by_equal : (b : Bool) → nat_eq n m ≡ b → b ≡ false
      by_equal true is = absurd (differ (nat_eq m n) (eq-eqb m n (sym (eqb-true n m is))) h)
      by_equal false is = refl

  -- what isn't declared by now has another name, and wasn't declared before
  record IsOther (k : Known) (d : Decl) (id : ℕ) : Type 0 where
    pub named : nat_eq d.name.id id ≡ false
    pub before : is_declared k id ≡ false

  -- what is not declared behind a declaration
  still-other : (k : Known) (d : Decl) (id : ℕ) (b : Bool) → is_declared (if b then with_constant k d.name.id else with_signature k d.name.id (signature_of d)) id ≡ false → IsOther k d id
  still-other k d id true h =
      let both = neither (among (with_id k.constants d.name.id) id) (is_some (k.signature id)) h in
      let one = apart-one k.constants d.name.id id both.0 in
      record { named = not-turned d.name.id id one.1; before = ap (λ g. g || is_some (k.signature id)) one.0 ∙ both.1 }
  still-other k d id false h = by_equal (nat_eq d.name.id id) refl (neither (among k.constants id) (is_some (if nat_eq d.name.id id then Some (signature_of d) else k.signature id)) h)
    where
      by_equal : (b : Bool) → nat_eq d.name.id id ≡ b → (among k.constants id ≡ false) × (is_some (if b then Some (signature_of d) else k.signature id) ≡ false) → IsOther k d id
      by_equal true is both = absurd (differ true refl both.1)
      by_equal false is both = record { named = is; before = ap (λ g. g || is_some (k.signature id)) both.0 ∙ both.1 }

  -- no built-in function has the declaration's name
  not-built-in : (cs : List (Named Callee)) (k : Known) (e : Environment) (d : Decl) (id : ℕ) (op : Op) → KnowsDecls f base names cs k e a → is_declared k d.name.id ≡ false → built_in_op names id ≡ Some op → nat_eq d.name.id id ≡ false
  not-built-in cs k e d id op known free is = by_equal (nat_eq d.name.id id) refl
    where
      by_equal : (b : Bool) → nat_eq d.name.id id ≡ b → b ≡ false
      by_equal true same =
          let b = known.built_ins id op is in
          let both = neither (among k.constants d.name.id) (is_some (k.signature d.name.id)) free in
          absurd (differ (is_some (k.signature d.name.id)) (ap (λ n. is_some (k.signature n)) (eqb-true d.name.id id same) ∙ ap is_some b.1) both.1)
      by_equal false same = refl

  -- what is known behind one more declaration
  knows-one : (cs : List (Named Callee)) (k : Known) (e : Environment) (d : Decl) (c : Callee) (kind : Bool) → KnowsDecls f base names cs k e a → is_declared k d.name.id ≡ false →
      CanCallTyped f base (found (with_name cs d.name.id c)) (with_entry e.declared d.name.id (types.signature_of d)) a d.name.id →
      KnowsDecls f base names (with_name cs d.name.id c) (if kind then with_constant k d.name.id else with_signature k d.name.id (signature_of d)) (with_declared (with_variables e (scope.variables d)) d) a
  knows-one cs k e d c true known free new = record {
    texts = known.texts;
    signatures = λ id s is none. either-typed cs e.declared d c id new (λ g. known.signatures id s is none);
    constants = covers-one (CanCallTyped f base (found (with_name cs d.name.id c)) (with_entry e.declared d.name.id (types.signature_of d)) a) k.constants d.name.id (among k.constants d.name.id)
        (λ id is. either-typed cs e.declared d c id new (λ g. known.constants id is)) new;
    built_ins = λ id op is.
        let b = known.built_ins id op is in
        (ap (λ g. if g then Some (types.signature_of d) else e.declared id) (not-built-in cs k e d id op known free is) ∙ b.0, b.1);
    fresh = λ id is. let o = still-other k d id true is in other-found cs d.name.id id c o.named ∙ known.fresh id o.before;
  }
  knows-one cs k e d c false known free new = record {
    texts = known.texts;
    signatures = λ id s is none. either-typed cs e.declared d c id new (λ g. known.signatures id s (sym (ap (λ h. if h then Some (signature_of d) else k.signature id) g) ∙ is) none);
    constants = λ id is. either-typed cs e.declared d c id new (λ g. known.constants id is);
    built_ins = λ id op is.
        let b = known.built_ins id op is in
        let g = not-built-in cs k e d id op known free is in
        (ap (λ h. if h then Some (types.signature_of d) else e.declared id) g ∙ b.0, ap (λ h. if h then Some (signature_of d) else k.signature id) g ∙ b.1);
    fresh = λ id is. let o = still-other k d id false is in other-found cs d.name.id id c o.named ∙ known.fresh id o.before;
  }

  -- what is known behind these declarations
  pub callees-typed : (cs : List (Named Callee)) (zs : List (Named Size)) (k : Known) (e : Environment) (ds : List Scoped) → KnowsDecls f base names cs k e a → AllByRecursion IsCounted ds → AllByRecursion (IsTypedDecl a) ds →
      decls_broken names k (map (λ d. d.decl) ds) ≡ [] → Solves (decls_equalities e (map (λ d. d.decl) ds)) a → AllCopyPlaces f base names cs zs ds →
      KnowsDecls f base names (with_callees base names cs zs ds) (known_after k ds) (environment_after e ds) a
  callees-typed cs zs k e [] known counted typed h m places = known
  callees-typed cs zs k e (d ∷ ds) known counted typed h m places =
      let one = decl_broken names k d.decl in
      let rest = decls_broken names (declared_with k d.decl) (map (λ x. x.decl) ds) in
      let inside = with_variables e (scope.variables d.decl) in
      let own = decl_equalities inside d.decl in
      let others = decls_equalities (with_declared inside d.decl) (map (λ x. x.decl) ds) in
      let c = decl_copy base names (found cs) (found zs) d in
      let free = one-known k d.decl (none-left one rest h) in
      let all = counted.0 in
      callees-typed (with_name cs d.decl.name.id c) (with_name zs d.decl.name.id (decl_size d.infos (found zs) d.decl)) (declared_with k d.decl) (with_declared inside d.decl) ds
      (knows-one cs k e d.decl c (is_constant d.decl.kind) known free
      (new-typed cs e.declared d.decl c (known.fresh d.decl.name.id free) all.some (decl-typed cs zs d k e counted.0 typed.0 known (none-left one rest h) (all-left (Meets a) own others m) places.0)))
      counted.1 typed.1 (none-right one rest h) (all-right (Meets a) own others m) places.1

  -- before the first declaration
  pub nothing-known : KnowsDecls f base names [] (built_in names) (types.before_all names) a
  nothing-known = record {
    texts = refl;
    signatures = λ id s is none. absurd (not_both (has_text names id (codes "float_of_int")) (has_text names id (codes "truncate")) s is none);
    constants = λ id is. absurd (cc);
    built_ins = λ id op is. (refl, by_text (has_text names id (codes "float_of_int")) (has_text names id (codes "truncate")) op is);
    fresh = λ id is. refl;
  }
    where
      not_both : (b c : Bool) (s : used.Signature) → (if (b || c) then Some (1, 1) else None) ≡ Some s → (if b then Some FloatOfInt else (if c then Some Truncate else None)) ≡ None → ⊥
      not_both true c s h k = cc
      not_both false true s h k = cc
      not_both false false s h k = cc

      by_text : (b c : Bool) (op : Op) → (if b then Some FloatOfInt else (if c then Some Truncate else None)) ≡ Some op → if◌then◌else◌ {A = Option used.Signature} (b || c) (Some (1, 1)) None ≡ Some (1, 1)
      by_text true c op h = refl
      by_text false true op h = refl
      by_text false false op h = absurd (cc)
