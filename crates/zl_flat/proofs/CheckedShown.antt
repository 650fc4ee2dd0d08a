-- The flat form of each program that keeps the rules can be shown.
use Rattle.std.proofs.Common.{◌≡◌, ℕ, zero, suc, ◌+◌, ◌<◌, Bool, true, false, not, if◌then◌else◌, nat_eq, List, [], ◌∷◌, ◌++◌, map, length, slice_get, get_or, Some, refl, sym, ap, subst, ◌∙◌, arith}
use Rattle.std.specs.List.{AllByRecursion, IsDistinct}
use Rattle.std.specs.Str.{bytes_eq}
use Rattle.std.proofs.lemmas.Bool.{eq-eqb}
use Rattle.std.proofs.lemmas.Option.{slice_get_within}
use Rattle.std.proofs.lemmas.Slice.Eq.{bytes_eq-Decides}
use Rattle.zl_value.specs.Lists.{listed}
use Rattle.zl_value.specs.declared.rule.Rule.TheVariants as rule
use Rattle.zl_ast.specs.declared.scope.VarInfo.{VarInfo}
use Rattle.zl_ast.specs.declared.program.Decl.{Decl}
use Rattle.zl_ast.specs.declared.program.Param.{Param}
use Rattle.zl_ast.specs.Names.{is_main, broken_if, with_ids}
use Rattle.zl_ast.specs.NamesDefined.{eqns_outline}
use Rattle.zl_ast.specs.NamesUsed.{values_uses, eqns_uses}
use Rattle.zl_ast.specs.NamesRules.{built_in, inside_of, with_visible, variables_broken, uses_broken, main_broken, results_broken, is_hybrid}
use Rattle.zl_ast.specs.Scopes.{scopes, param_ids, parameter, first_entries, variables}
use Rattle.zl_ast.specs.Spots.{all_spots, expr_spots, eqn_spots, param_spots, decl_spots}
use Rattle.zl_ast.proofs.TreeLaws as laws
use Rattle.zl_meaning.specs.FlatForm.{FlatForm}
use Rattle.zl_meaning.specs.declared.place.PlaceInfo.{PlaceInfo}
use Rattle.zl_flat.specs.declared.here.Here.{Here}
use Rattle.zl_flat.specs.Instances.{Instance}
use Rattle.zl_flat.specs.Parts.{past_block, start}
use Rattle.zl_flat.specs.Expansion.{Scoped, scoped, found, with_sizes, with_callees, variables_from, input_definers, param_place, body_copy, instance, main_here, main_block, main_parts, MainOf, sizes_of, main_size, result_places, form_of, main_form}
use Rattle.zl_flat.specs.Shown.{IsInputAt, ShowsOutward, FormsShowOutward}
use Rattle.zl_flat.proofs.RulesKept.{none-right}
use Rattle.zl_flat.proofs.WellFormedParts.{AllFrom, all-left, all-right, behind-block}
use Rattle.zl_flat.proofs.WellFormedGround.{IsPlaceAt, standing}
use Rattle.zl_flat.proofs.WellFormedForm.{parts-sit}
use Rattle.zl_flat.proofs.WellFormedDecls.{known_after}
use Rattle.zl_flat.proofs.WellFormedFirsts.{Distinct}
use Rattle.zl_flat.proofs.WellFormedSizesForm.{built-ins-known, callees-make, main-makes}
use Rattle.zl_flat.proofs.WellFormedCopies.{kept-distinct, order-counted, all-counted}
use Rattle.zl_flat.proofs.WellFormedReadsForm.{params-sit, scoped-covers}
use Rattle.zl_flat.proofs.WellFormedReadsMain.{listed-get}
use Rattle.zl_flat.proofs.WellFormedOrder.{IsMainInOrder, scoped-decls, main-both, program-in-order}
use Rattle.zl_flat.proofs.WellFormedTypesPlaced.{parsed-order}
use Rattle.zl_flat.proofs.ShownResults.{IsKnown, AreKnown, ids-known, each-known, inputs-named, results-named, results-some}

-- ---- names that differ

not_both : {c : Bool} → c ≡ true → c ≡ false → ⊥
not_both e g = cc

-- what holds of each name of a list holds of each that is found in it
pub get-all : (P : List ℕ → Type 0) (names : List (List ℕ)) → AllByRecursion P names → (k : ℕ) → k < length names → P (get_or names k [])
get-all P [] h k lt = absurd (omega (arith, lt))
get-all P (x ∷ xs) h zero lt = h.0
get-all P (x ∷ xs) h (suc k) lt = get-all P xs h.1 k (omega (arith, lt))

-- names with the same bytes have one number
names-differ : (names : List (List ℕ)) → IsDistinct bytes_eq names → (j k : ℕ) → j < length names → k < length names → get_or names j [] ≡ get_or names k [] → j ≡ k
unfolding IsDistinct
names-differ [] h j k lj lk e = absurd (omega (arith, lj))
names-differ (x ∷ xs) h zero zero lj lk e = refl
names-differ (x ∷ xs) h zero (suc k) lj lk e = absurd (not_both ((bytes_eq-Decides x (get_or xs k [])).1 e) (get-all (λ y. bytes_eq x y ≡ false) xs h.0 k (omega (arith, lk))))
names-differ (x ∷ xs) h (suc j) zero lj lk e = absurd (not_both ((bytes_eq-Decides x (get_or xs j [])).1 (sym e)) (get-all (λ y. bytes_eq x y ≡ false) xs h.0 j (omega (arith, lj))))
names-differ (x ∷ xs) h (suc j) (suc k) lj lk e = ap suc (names-differ xs h.1 j k (omega (arith, lj)) (omega (arith, lk)) e)

-- no two parameters have one name
param-differs : (id : ℕ) (ps : List Param) (rest : List VarInfo) → AllByRecursion (λ (w : VarInfo). nat_eq id w.name ≡ false) (map parameter ps ++ rest) → (n : ℕ) (q : Param) → slice_get ps n ≡ Some q → nat_eq id q.name.id ≡ false
param-differs id [] rest h n q is = absurd (cc)
param-differs id (p ∷ ps) rest h zero q is = subst (λ (r : Param). nat_eq id r.name.id ≡ false) (same p q is) h.0
  where
    same : (a b : Param) → Some a ≡ Some b → a ≡ b
    same a b e = cc
param-differs id (p ∷ ps) rest h (suc n) q is = param-differs id ps rest h.1 n q is

params-differ : (ps : List Param) (rest : List VarInfo) → Distinct (map parameter ps ++ rest) → (m n : ℕ) (p q : Param) → slice_get ps m ≡ Some p → slice_get ps n ≡ Some q → p.name.id ≡ q.name.id → m ≡ n
params-differ [] rest h m n p q ip iq e = absurd (cc)
params-differ (x ∷ xs) rest h zero zero p q ip iq e = refl
params-differ (x ∷ xs) rest h zero (suc n) p q ip iq e = absurd (not_both (eq-eqb x.name.id q.name.id (ap (λ (r : Param). r.name.id) (same x p ip) ∙ e)) (param-differs x.name.id xs rest h.0 n q iq))
  where
    same : (a b : Param) → Some a ≡ Some b → a ≡ b
    same a b e = cc
params-differ (x ∷ xs) rest h (suc m) zero p q ip iq e = absurd (not_both (eq-eqb x.name.id p.name.id (ap (λ (r : Param). r.name.id) (same x q iq) ∙ sym e)) (param-differs x.name.id xs rest h.0 m p ip))
  where
    same : (a b : Param) → Some a ≡ Some b → a ≡ b
    same a b e = cc
params-differ (x ∷ xs) rest h (suc m) (suc n) p q ip iq e = ap suc (params-differ xs rest h.1 m n p q ip iq e)

-- ---- inputs

-- the place of a parameter has its name
record IsParamPlace (names : List (List ℕ)) (ps : List Param) (n : ℕ) (place : PlaceInfo) : Type 0 where
  pub param : Param
  pub is : slice_get ps n ≡ Some param
  pub name : place.name ≡ param.name.id
  pub known : param.name.id < length names

param-place : (names : List (List ℕ)) (f : FlatForm) (i : Instance) (here : Here) (ps : List Param) (first n : ℕ) (place : PlaceInfo) → AllFrom (IsPlaceAt f) first (map (param_place i here) ps) →
    AllByRecursion (λ p. AreKnown (length names) (param_spots p)) ps → n < length ps → slice_get f.places (first + n) ≡ Some place → IsParamPlace names ps n place
param-place names f i here [] first n place h known lt is = absurd (omega (arith, lt))
param-place names f i here (p ∷ ps) first zero place h known lt is =
    let a = h.0 in record { param = p; is = refl; name = ap (λ (x : PlaceInfo). x.name) (same place a.place (sym is ∙ (ap (slice_get f.places) (no_more first) ∙ a.is))) ∙ a.named; known = known.0.0 }
  where
    same : (a b : PlaceInfo) → Some a ≡ Some b → a ≡ b
    same a b e = cc

    no_more : (n : ℕ) → n + 0 ≡ n
    no_more n = omega arith
param-place names f i here (p ∷ ps) first (suc n) place h known lt is =
    let a = param-place names f i here ps (first + 1) n place h.1 known.1 (omega (arith, lt)) (ap (slice_get f.places) (one_more first n) ∙ is) in
    record { param = a.param; is = a.is; name = a.name; known = a.known }
  where
    one_more : (a b : ℕ) → a + 1 + b ≡ a + suc b
    one_more a b = omega arith

listed-length : (m k : ℕ) → length (listed m k (λ n. n)) ≡ m
listed-length zero k = refl
listed-length (suc m) k = ap suc (listed-length m (suc k))

-- an input is the place of its parameter
input-place : (names : List (List ℕ)) (f : FlatForm) (i : Instance) (here : Here) (ps : List Param) → f.ins ≡ listed (length ps) 0 (λ n. n) → AllFrom (IsPlaceAt f) 0 (map (param_place i here) ps) →
    AllByRecursion (λ p. AreKnown (length names) (param_spots p)) ps → (n : ℕ) (place : PlaceInfo) → IsInputAt f n place → IsParamPlace names ps n place
input-place names f i here ps ins h known n place at =
    let input = ap (λ ns. slice_get ns n) (sym ins) ∙ at.input in
    let lt = subst (λ m. n < m) (listed-length (length ps) 0) (slice_get_within (listed (length ps) 0 (λ n. n)) n at.number input) in
    param-place names f i here ps 0 n place h known lt (ap (slice_get f.places) (same (0 + n) at.number (sym (listed-get (length ps) 0 n lt) ∙ input)) ∙ at.is)
  where
    same : (a b : ℕ) → Some a ≡ Some b → a ≡ b
    same a b e = cc

-- no two inputs have one name
inputs-differ : (names : List (List ℕ)) (ps : List Param) (rest : List VarInfo) → IsDistinct bytes_eq names → Distinct (map parameter ps ++ rest) → (m n : ℕ) (a b : PlaceInfo) → IsParamPlace names ps m a → IsParamPlace names ps n b →
    get_or names a.name [] ≡ get_or names b.name [] → m ≡ n
inputs-differ names ps rest distinct differ m n a b pa pb e =
    let bytes = ap (λ id. get_or names id []) (sym pa.name) ∙ (e ∙ ap (λ id. get_or names id []) pb.name) in
    params-differ ps rest differ m n pa.param pb.param pa.is pb.is (names-differ names distinct pa.param.name.id pb.param.name.id pa.known pb.known bytes)

distinct-params : (d : Decl) → Distinct (variables d) → Distinct (map parameter d.params ++ first_entries (with_ids [] (param_ids d.params)) (eqns_outline d.eqs).entries)
unfolding variables
distinct-params d h = h

-- ---- the form of `main`

module _ (names : List (List ℕ)) (m : MainOf) (h : IsMainInOrder names m) (known : AreKnown (length names) (decl_spots m.main.decl)) (distinct : IsDistinct bytes_eq names) where
  main-shows : ShowsOutward names (main_form names m)
  unfolding main_form main_parts past_block uses_broken
  main-shows =
      let base = (main_size m).occs in
      let cs = with_callees base names [] [] m.before in
      let zs = with_sizes [] m.before in
      let sizes = sizes_of m in
      let i = instance base names (found cs) sizes m.main 0 0 in
      let d = m.main.decl in
      let here = main_here base names d in
      let p = main_parts base names (found cs) sizes m.main in
      let ins = listed (length d.params) 0 (λ n. n) in
      let outs = result_places (variables_from sizes m.main 0) d.results in
      let f = form_of p ins outs in
      let definers = input_definers 0 d.params in
      let copy = body_copy base names i d definers here (past_block start) in
      let k = known_after (built_in names) m.before in
      let counted = all-counted names (built_in names) m.before h.before h.order in
      let counted_main = order-counted names k m.main h.main h.order_main in
      let many = main-makes names m base h.before counted counted_main in
      let both = behind-block (standing f base) start (main_block base names d) copy.parts (parts-sit p ins outs base (sym many.occs)) in
      let make = callees-make base names [] [] (built_in names) m.before tt tt (built-ins-known names) counted h.before in
      let params = params-sit f base names i d definers here (past_block start) both.1 in
      let covers = scoped-covers f base names cs zs k m.main make.0 make.1 h.order_main h.main definers here (past_block start) both.1 in
      let visible = with_visible [] (variables d) in
      let uses = none-right (variables_broken k d) (uses_broken names (inside_of k d) d) h.main in
      let values = values_uses (inside_of k d) d.results visible in
      let equations = eqns_uses (inside_of k d) d.eqs visible in
      let main = if is_main names d.name.id then main_broken visible d else [] in
      let main_kept = ap (λ b. if b then main_broken visible d else []) (sym h.named) ∙ none-right equations main (none-right values (equations ++ main) uses) in
      let results = none-right (broken_if (not (is_hybrid d.kind)) rule.Main d.name.at) (results_broken visible d.results) main_kept in
      let spots_of_params = all_spots param_spots d.params in
      let spots_of_results = all_spots expr_spots d.results in
      let others = spots_of_results ++ all_spots eqn_spots d.eqs in
      let known_params = each-known (length names) param_spots d.params (all-left (λ s. IsKnown (length names) s.id) spots_of_params others known.1) in
      let known_results = each-known (length names) expr_spots d.results (all-left (λ s. IsKnown (length names) s.id) spots_of_results (all_spots eqn_spots d.eqs) (all-right (λ s. IsKnown (length names) s.id) spots_of_params others known.1)) in
      let inputs = input-place names f i here d.params refl params known_params in
      record {
        some = results-some names f i visible covers d.results h.order_main.some results known_results;
        ins = inputs-named names f i here 0 d.params params known_params;
        outs = results-named names f i visible covers d.results results known_results;
        differ = λ n q a b at_n at_q e.
            inputs-differ names d.params (first_entries (with_ids [] (param_ids d.params)) (eqns_outline d.eqs).entries) distinct (distinct-params d (kept-distinct names k d h.main)) n q a b (inputs n a at_n) (inputs q b at_q) e;
      }

-- ---- a program

each-scoped : (count : ℕ) (ds : List Scoped) → AllByRecursion (λ (d : Decl). AreKnown count (decl_spots d)) (map (λ (d : Scoped). d.decl) ds) → AllByRecursion (λ (d : Scoped). AreKnown count (decl_spots d.decl)) ds
each-scoped count [] h = tt
each-scoped count (d ∷ ds) h = (h.0, each-scoped count ds h.1)

pub forms-show-outward : FormsShowOutward
forms-show-outward p types form h flat =
    let order = parsed-order p types h.names h.typing h.parsed in
    let ds = scoped p.decls (scopes p) types in
    let count = length p.names in
    let spots = ids-known count (all_spots decl_spots p.decls) (laws.names_known p h.parsed) in
    let decls = subst (AllByRecursion (λ (d : Decl). AreKnown count (decl_spots d))) (sym (scoped-decls order.equalities p.decls types order.typed)) (each-known count decl_spots p.decls spots) in
    let known = main-both (λ (d : Scoped). AreKnown count (decl_spots d.decl)) p.names ds flat.main flat.is_main (each-scoped count ds decls) in
    subst (ShowsOutward p.names) (sym flat.is) (main-shows p.names flat.main (program-in-order p types order flat.main flat.is_main) known.1 h.parsed.facts.distinct)
