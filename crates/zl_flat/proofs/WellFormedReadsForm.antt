-- In the flat form of a program reads, `last`s and definers have their places.
use Rattle.std.proofs.Common.{◌≡◌, ℕ, ◌+◌, Bool, true, false, not, ◌||◌, if◌then◌else◌, nat_eq, List, [], ◌∷◌, ◌++◌, map, Option, Some, refl, sym, subst}
use Rattle.std.specs.List.{AllByRecursion}
use Rattle.std.proofs.lemmas.Bool.{eqb-true}
use Rattle.zl_value.specs.declared.rule.Rule.TheVariants as rule
use Rattle.zl_value.specs.declared.value.Ty.{Ty}
use Rattle.zl_ast.specs.declared.scope.VarInfo.{VarInfo}
use Rattle.zl_ast.specs.declared.expr.Expr.{Expr}
use Rattle.zl_ast.specs.declared.eqn.Eqn.{Eqn}
use Rattle.zl_ast.specs.declared.program.Decl.{Decl}
use Rattle.zl_ast.specs.declared.program.Param.{Param}
use Rattle.zl_ast.specs.Names.{among, with_id, is_main, broken_if}
use Rattle.zl_ast.specs.NamesDefined.{Outline, eqn_outline, eqns_outline}
use Rattle.zl_ast.specs.NamesUsed.{Known, expr_uses, eqn_uses, values_uses, eqns_uses}
use Rattle.zl_ast.specs.NamesRules.{is_local, twice, declared_with, inside_of, with_visible, variables_broken, uses_broken, main_broken, decl_broken, decls_broken}
use Rattle.zl_ast.specs.Scopes as scope
use Rattle.zl_meaning.specs.FlatForm.{FlatForm, IsWithin, Same}
use Rattle.zl_meaning.specs.declared.place.PlaceInfo.{PlaceInfo}
use Rattle.zl_flat.specs.declared.variable.Variable.{Variable}
use Rattle.zl_flat.specs.declared.here.Here.{Here}
use Rattle.zl_flat.specs.declared.here.Root.{Root}
use Rattle.zl_flat.specs.declared.size.Size.{Size}
use Rattle.zl_flat.specs.declared.given.Given.{Given}
use Rattle.zl_flat.specs.Parts.{Counters, joined, some_places, some_definers, after}
use Rattle.zl_flat.specs.Variables.{variable_of, variables}
use Rattle.zl_flat.specs.Sizes.{decl_size}
use Rattle.zl_flat.specs.Numbering.{decl_numbering}
use Rattle.zl_flat.specs.Instances.{Callee, Instance}
use Rattle.zl_flat.specs.Expressions.{expr_walk, exprs_walk}
use Rattle.zl_flat.specs.Equations.{eqns_walk}
use Rattle.zl_flat.specs.Expansion.{Scoped, Named, found, with_name, with_callees, argument_definers, param_place, body_copy, instance, decl_copy}
use Rattle.zl_flat.proofs.WellFormedParts.{AllFrom, all-left, all-right, each-nothing, each-joined, each-left, each-some_places, each-some_definers, the_places}
use Rattle.zl_flat.proofs.WellFormedGround.{IsPlaceAt, standing, Sits}
use Rattle.zl_flat.proofs.RulesKept.{none-left, none-right, kept-if, covers-one}
use Rattle.zl_flat.proofs.DefinersDeclared.{neither-right}
use Rattle.zl_flat.proofs.WellFormedSizes.{IsSized}
use Rattle.zl_flat.proofs.WellFormedSizesForm.{AreOwnNames, KnowsBuiltIns, AllMake, built-ins-still, own-name, and-own-name, and-one-makes, sized-instance, decl-makes}
use Rattle.zl_flat.proofs.WellFormedMentions.{Mention, eqn_mentions, firsts}
use Rattle.zl_flat.proofs.WellFormedFirsts.{Distinct, HasNumber, of-firsts}
use Rattle.zl_flat.proofs.WellFormedVariables.{param_mentions, behind_results, eqns_mentions, decl-numbers}
use Rattle.zl_flat.proofs.WellFormedPlaces.{eqn-next}
use Rattle.zl_flat.proofs.WellFormedCopies.{IsInOrder, kept-twice, kept-distinct, order-counted, InfoStands, results-next, copy-variables, copy-variable}
use Rattle.zl_flat.proofs.WellFormedVisible.{EntryFine, EntriesFine, all-of-list, decl-fine}
use Rattle.zl_flat.proofs.WellFormedReads.{placing, Places, DefinerPlaced, DeclaredHere, IsOwn, CoversPlaces, both-place, CalleePlaces, WalkPlaces, walk_all-places, expr-places}
use Rattle.zl_flat.proofs.WellFormedReadsEqns.{IsNumbered, AllNumbered, MakingReads, eqn-reads}

-- ---- what is visible in the whole declaration

covers-visible : (f : FlatForm) (i : Instance) (ids : List ℕ) (infos : List VarInfo) → CoversPlaces f i i.block ids → AllByRecursion (InfoStands f i) infos → CoversPlaces f i i.block (with_visible ids infos)
covers-visible f i ids [] c h = c
covers-visible f i ids (x ∷ infos) c h = covers-visible f i (if not (is_local x.class) then with_id ids x.name else ids) infos (by_class (is_local x.class) refl) h.1
  where
    declared : is_local x.class ≡ false → DeclaredHere f i i.block x.name
    declared e =
        let a = h.0 in
        let v = a.stands in
        record { variable = a.variable; is = a.is; place = v.place; place_is = v.is; within = subst (λ b. IsWithin f b i.block) (sym (a.block e)) Same; named = a.named }

    by_class : (b : Bool) → is_local x.class ≡ b → CoversPlaces f i i.block (if not b then with_id ids x.name else ids)
    by_class true e = c
    by_class false e = covers-one (DeclaredHere f i i.block) ids x.name (among ids x.name) c (declared e)

-- no variable has the name of a constant
constants-differ : (c seen : List ℕ) (infos : List VarInfo) (types : List Ty) (own : List ℕ) → twice c seen infos ≡ [] → (id : ℕ) (v : Variable) → variable_of (variables infos types own) id ≡ Some v → among c id ≡ false
constants-differ c seen [] types own h id v is = absurd (cc)
constants-differ c seen (x ∷ infos) [] own h id v is = absurd (cc)
constants-differ c seen (x ∷ infos) (ty ∷ types) [] h id v is = absurd (cc)
constants-differ c seen (x ∷ infos) (ty ∷ types) (n ∷ own) h id v is =
    by_equal (nat_eq x.name id) refl is (λ k. constants-differ c (with_id seen x.name) infos types own (none-right (broken_if one rule.NameTwice x.at) (twice c (with_id seen x.name) infos) h) id v k)
  where
    one : Bool
    one = among seen x.name || among c x.name

    first : among c x.name ≡ false
    first = neither-right (among seen x.name) (among c x.name) (kept-if one rule.NameTwice x.at (none-left (broken_if one rule.NameTwice x.at) (twice c (with_id seen x.name) infos) h))

    by_equal : (b : Bool) → nat_eq x.name id ≡ b → (if b then Some (record { name = x.name; ty = ty; place = n }) else variable_of (variables infos types own) id) ≡ Some v → (variable_of (variables infos types own) id ≡ Some v → among c id ≡ false) → among c id ≡ false
    by_equal true e k more = subst (λ q. among c q ≡ false) (eqb-true x.name id e) first
    by_equal false e k more = more k

covers-nothing : (f : FlatForm) (i : Instance) (b : ℕ) → CoversPlaces f i b []
covers-nothing f i b id h = absurd (cc)

-- ---- the copy of a body

module _ (f : FlatForm) (base : ℕ) (names : List (List ℕ)) (i : Instance) (known : ℕ → Option Size) (sized : IsSized names i known) (k : Known) (callees : (id : ℕ) (c : Callee) → i.callees id ≡ Some c → CalleePlaces f base c)
    (stands : (id : ℕ) (v : Variable) → variable_of i.variables id ≡ Some v → IsOwn f k id v) where
  results-read : (xs : List Expr) (visible : List ℕ) → values_uses k xs visible ≡ [] → AllByRecursion (WalkPlaces f base i visible) (map (expr_walk base names i) xs)
  results-read [] visible h = tt
  results-read (x ∷ xs) visible h =
      (expr-places f base names i k callees stands x 1 visible (none-left (expr_uses k x 1 visible) (values_uses k xs visible) h), results-read xs visible (none-right (expr_uses k x 1 visible) (values_uses k xs visible) h))

  eqs-read : (es : List Eqn) (visible : List ℕ) → eqns_uses k es visible ≡ [] → AllByRecursion (λ (o : Outline). EntriesFine i.infos visible o.entries) (map eqn_outline es) →
      MakingReads f base names i known sized k callees stands visible (eqns_mentions i.infos known es) (eqns_walk base names i es)
  eqs-read [] visible h l here s n at c a sits = each-nothing (placing f) s
  eqs-read (e ∷ es) visible h l here s n at c a sits =
      let first = (eqn_mentions i.infos known e n).all in
      let next = (eqn_mentions i.infos known e n).next in
      let later = (eqns_mentions i.infos known es next).all in
      both-place f base s _ _ sits (eqn-reads f base names i known sized k callees stands e visible (none-left (eqn_uses k e visible) (eqns_uses k es visible) h) l.0 here s n at c (all-left (IsNumbered i) first later a))
      (eqs-read es visible (none-right (eqn_uses k e visible) (eqns_uses k es visible) h) l.1 here _ next (eqn-next f base names i known sized e here s n at) c (all-right (IsNumbered i) first later a))

  copy-reads : (d : Decl) (definers : List Given) (visible : List ℕ) → values_uses k d.results visible ≡ [] → eqns_uses k d.eqs visible ≡ [] → EntriesFine i.infos visible (eqns_outline d.eqs).entries →
      AllByRecursion (λ (g : Given). DefinerPlaced f g.place g.definer) definers → (here : Here) (s : Counters) → CoversPlaces f i here.block visible → AllNumbered i (eqns_mentions i.infos known d.eqs (behind_results i.infos known d s.places)).all →
      Sits f base s (body_copy base names i d definers here s).parts → Places f s (body_copy base names i d definers here s).parts
  copy-reads d definers visible hr he fine hd here s c numbered sits =
      let xs = map (param_place i here) d.params in
      let params = joined (some_places xs) (some_definers definers) in
      let t = after s params in
      let results = (exprs_walk base names i d.results here t).parts in
      let eqs = eqns_walk base names i d.eqs here (after t results) in
      let n = behind_results i.infos known d s.places in
      both-place f base s params (joined results eqs) sits
      (λ p. each-joined (placing f) s (some_places xs) (some_definers definers) (each-some_places (placing f) s xs (no_law s.places xs)) (each-some_definers (placing f) (after s (some_places xs)) definers hd))
      (λ p. both-place f base t results eqs p (walk_all-places f base i visible (map (expr_walk base names i) d.results) (results-read d.results visible hr) here t c)
      (eqs-read d.eqs visible he (all-of-list (EntryFine i.infos visible) [] [] (map eqn_outline d.eqs) fine) here (after t results) n (results-next f base names i known sized d definers here s) c numbered))
    where
      no_law : (n : ℕ) (xs : List PlaceInfo) → AllFrom (λ (n : ℕ) (x : PlaceInfo). Unit {0}) n xs
      no_law n [] = tt
      no_law n (x ∷ xs) = (tt, no_law (n + 1) xs)

-- ---- declarations

module _ (f : FlatForm) (base : ℕ) (names : List (List ℕ)) where
  -- the reads and definers of each callee have their places
  abbrev pub AllPlace : List (Named Callee) → Type 0
  AllPlace cs = AllByRecursion (λ (n : Named Callee). CalleePlaces f base n.what) cs

  found-places : (cs : List (Named Callee)) → AllPlace cs → (id : ℕ) (c : Callee) → found cs id ≡ Some c → CalleePlaces f base c
  found-places [] h id c is = absurd (cc)
  found-places (x ∷ cs) h id c is = by_equal (nat_eq x.name id) is (found-places cs h.1 id c)
    where
      same : Some x.what ≡ Some c → x.what ≡ c
      same e = cc

      by_equal : (b : Bool) → (if b then Some x.what else found cs id) ≡ Some c → (found cs id ≡ Some c → CalleePlaces f base c) → CalleePlaces f base c
      by_equal true e more = subst (CalleePlaces f base) (same e) h.0
      by_equal false e more = more e

  all-and-one : (cs : List (Named Callee)) (id : ℕ) (c : Callee) → AllPlace cs → CalleePlaces f base c → AllPlace (with_name cs id c)
  all-and-one [] id c h k = (k, tt)
  all-and-one (x ∷ cs) id c h k = (h.0, all-and-one cs id c h.1 k)

  -- what is visible in a copy of a declaration has its place
  pub scoped-covers : (cs : List (Named Callee)) (zs : List (Named Size)) (k : Known) (d : Scoped) → AllMake cs zs → AreOwnNames names zs → IsInOrder d → decl_broken names k d.decl ≡ [] → (definers : List Given) (here : Here) (s : Counters) →
      (let i = instance base names (found cs) (found zs) d here.block s.places in
      Sits f base s (body_copy base names i d.decl definers here s).parts → CoversPlaces f i here.block (with_visible [] (scope.variables d.decl)))
  scoped-covers cs zs k d make own order kept definers here s sits =
      let i = instance base names (found cs) (found zs) d here.block s.places in
      let distinct = subst Distinct (sym order.infos) (kept-distinct names k d.decl kept) in
      let sized = sized-instance base names cs zs d here.block s.places make own (order-counted names k d kept order) in
      let all = copy-variables f base names (found cs) (found zs) d definers here s sized order distinct sits in
      subst (λ vs. CoversPlaces f i here.block (with_visible [] vs)) order.infos (covers-visible f i [] d.infos (covers-nothing f i here.block) all)

  -- a copy of a declaration that breaks no rule of names, whose parameters are defined where they may be
  pub scoped-reads : (cs : List (Named Callee)) (zs : List (Named Size)) (k : Known) (d : Scoped) → AllPlace cs → AllMake cs zs → AreOwnNames names zs → IsInOrder d → decl_broken names k d.decl ≡ [] → (definers : List Given) (here : Here) (s : Counters) →
      (let i = instance base names (found cs) (found zs) d here.block s.places in
      Sits f base s (body_copy base names i d.decl definers here s).parts → AllByRecursion (λ (g : Given). DefinerPlaced f g.place g.definer) definers → Places f s (body_copy base names i d.decl definers here s).parts)
  unfolding uses_broken
  scoped-reads cs zs k d places make own order kept definers here s sits hd =
      let i = instance base names (found cs) (found zs) d here.block s.places in
      let counted = order-counted names k d kept order in
      let distinct = subst Distinct (sym order.infos) (kept-distinct names k d.decl kept) in
      let sized = sized-instance base names cs zs d here.block s.places make own counted in
      let constants = subst (λ vs. twice k.constants [] vs ≡ []) (sym order.infos) (kept-twice names k d.decl kept) in
      let stands : (id : ℕ) (v : Variable) → variable_of i.variables id ≡ Some v → IsOwn f (inside_of k d.decl) id v = λ id v is. record {
        stands = copy-variable f base names (found cs) (found zs) d definers here s sized order distinct sits id v is;
        differs = constants-differ k.constants [] d.infos d.types (decl_numbering d.infos (found zs) d.decl s.places).own constants id v is;
      } in
      let visible = with_visible [] (scope.variables d.decl) in
      let covers = scoped-covers cs zs k d make own order kept definers here s sits in
      let numbers = decl-numbers d.infos d.types (found zs) d.decl s.places order.infos distinct order.in_text order.types in
      let mentions = (eqns_mentions d.infos (found zs) d.decl.eqs (behind_results d.infos (found zs) d.decl s.places)).all in
      let numbered = of-firsts (λ (m : Mention). HasNumber i.variables m.name.id m.number) d.infos mentions
      (all-right (λ (m : Mention). HasNumber i.variables m.name.id m.number) (param_mentions s.places d.decl.params) (firsts d.infos mentions) numbers) in
      let uses = none-right (variables_broken k d.decl) (uses_broken names (inside_of k d.decl) d.decl) kept in
      let values = values_uses (inside_of k d.decl) d.decl.results visible in
      let equations = eqns_uses (inside_of k d.decl) d.decl.eqs visible in
      let main = if is_main names d.decl.name.id then main_broken visible d.decl else [] in
      copy-reads f base names i (found zs) sized (inside_of k d.decl) (found-places cs places) stands d.decl definers visible (none-left values (equations ++ main) uses) (none-left equations main (none-right values (equations ++ main) uses))
      (decl-fine d.infos d.decl order.infos distinct) hd here s covers numbered sits

  arguments-placed : (i : Instance) (here : Here) (n : ℕ) (ps : List Param) (rs : List Root) → AllFrom (IsPlaceAt f) n (map (param_place i here) ps) → AllByRecursion (λ (g : Given). DefinerPlaced f g.place g.definer) (argument_definers here n ps rs)
  arguments-placed i here n [] rs h = tt
  arguments-placed i here n (p ∷ ps) [] h = tt
  arguments-placed i here n (p ∷ ps) (r ∷ rs) h =
      let a = h.0 in
      ((a.place, a.is, subst (λ b. IsWithin f b here.block) (sym a.block) Same), arguments-placed i here (n + 1) ps rs h.1)

  -- the places of parameters are in the form
  pub params-sit : (i : Instance) (d : Decl) (definers : List Given) (here : Here) (s : Counters) → Sits f base s (body_copy base names i d definers here s).parts → AllFrom (IsPlaceAt f) s.places (map (param_place i here) d.params)
  params-sit i d definers here s sits =
      the_places (standing f base) s (map (param_place i here) d.params)
      (each-left (standing f base) s (some_places (map (param_place i here) d.params)) (some_definers definers) (each-left (standing f base) s (joined (some_places (map (param_place i here) d.params)) (some_definers definers)) _ sits))

  -- a declaration that can be called
  pub decl-reads : (cs : List (Named Callee)) (zs : List (Named Size)) (k : Known) (d : Scoped) → AllPlace cs → AllMake cs zs → AreOwnNames names zs → IsInOrder d → decl_broken names k d.decl ≡ [] → CalleePlaces f base (decl_copy base names (found cs) (found zs) d)
  unfolding decl_copy
  decl-reads cs zs k d places make own order kept here roots s sits =
      let i = instance base names (found cs) (found zs) d here.block s.places in
      let definers = argument_definers here s.places d.decl.params roots in
      scoped-reads cs zs k d places make own order kept definers here s sits (arguments-placed i here s.places d.decl.params roots (params-sit i d.decl definers here s sits))

  -- the declarations that can be called
  pub callees-read : (cs : List (Named Callee)) (zs : List (Named Size)) (k : Known) (ds : List Scoped) → AllPlace cs → AllMake cs zs → AreOwnNames names zs → KnowsBuiltIns names k → AllByRecursion IsInOrder ds → decls_broken names k (map (λ (d : Scoped). d.decl) ds) ≡ [] →
      AllPlace (with_callees base names cs zs ds)
  callees-read cs zs k [] places make own knows order kept = places
  callees-read cs zs k (d ∷ ds) places make own knows order kept =
      let one = decl_broken names k d.decl in
      let rest = decls_broken names (declared_with k d.decl) (map (λ (e : Scoped). e.decl) ds) in
      let c = decl_copy base names (found cs) (found zs) d in
      let z = decl_size d.infos (found zs) d.decl in
      let kept_one = none-left one rest kept in
      callees-read (with_name cs d.decl.name.id c) (with_name zs d.decl.name.id z) (declared_with k d.decl) ds
      (all-and-one cs d.decl.name.id c places (decl-reads cs zs k d places make own order.0 kept_one))
      (and-one-makes cs zs d.decl.name.id c z make (decl-makes base names cs zs d make own (order-counted names k d kept_one order.0)))
      (and-own-name names zs d.decl.name.id z own (own-name names k d.decl knows kept_one))
      (built-ins-still names k d.decl knows) order.1 (none-right one rest kept)
