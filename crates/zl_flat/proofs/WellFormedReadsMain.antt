-- In the flat form of `main` reads, `last`s, definers, inputs and results have their places.
use Rattle.std.proofs.Common.{◌≡◌, ℕ, zero, suc, ◌+◌, ◌<◌, Bool, true, false, not, if◌then◌else◌, nat_eq, List, [], ◌∷◌, ◌++◌, map, length, slice_get, Some, None, refl, sym, ap, subst, ◌∙◌, arith}
use Rattle.std.specs.List.{AllByRecursion}
use Rattle.std.proofs.lemmas.Bool.{eqb-true}
use Rattle.std.proofs.lemmas.Option.{slice_get_within}
use Rattle.zl_value.specs.Lists.{listed}
use Rattle.zl_value.specs.declared.rule.Rule.TheVariants as rule
use Rattle.zl_ast.specs.declared.expr.Expr.{Expr, roll-Expr}
use Rattle.zl_ast.specs.declared.expr.Link.{Link}
use Rattle.zl_ast.specs.declared.expr.Expr.TheOpen.{Expr-F, Link-F}
use Rattle.zl_ast.specs.declared.expr.Expr.TheOpen as open_expr
use Rattle.zl_ast.specs.declared.expr.Expr.TheFolds.{fold-Expr, fold-Link, fold-roll-Expr, ind-Expr, map-Expr}
use Rattle.zl_ast.specs.declared.program.Param.{Param}
use Rattle.zl_ast.specs.Names.{among, is_main, broken_if}
use Rattle.zl_ast.specs.NamesUsed.{values_uses, eqns_uses}
use Rattle.zl_ast.specs.NamesRules.{built_in, inside_of, with_visible, variables_broken, uses_broken, main_broken, results_broken, variable_step, is_variable, place_of, is_hybrid}
use Rattle.zl_ast.specs.Scopes as scope
use Rattle.zl_meaning.specs.FlatForm.{FlatForm, IsWithin}
use Rattle.zl_meaning.specs.declared.place.Definer.{Definer}
use Rattle.zl_meaning.specs.declared.place.Definer.TheVariants.{Input, Plain, Der, Start}
use Rattle.zl_meaning.specs.declared.place.PlaceInfo.{PlaceInfo}
use Rattle.zl_meaning.specs.declared.occurrence.Occ.{Occ}
use Rattle.zl_flat.specs.declared.here.Here.{Here}
use Rattle.zl_flat.specs.declared.given.Given.{Given}
use Rattle.zl_flat.specs.Parts.{Parts, past_block, start}
use Rattle.zl_flat.specs.Variables.{variable_of}
use Rattle.zl_flat.specs.Instances.{Instance}
use Rattle.zl_flat.specs.Equations.{place_number}
use Rattle.zl_flat.specs.Expansion.{found, with_sizes, with_callees, variables_from, input_definers, param_place, body_copy, instance, main_here, main_block, main_parts, MainOf, sizes_of, main_size, definers_of, defined_places, result_step, result_place, result_places, form_of, main_form}
use Rattle.zl_flat.proofs.WellFormedParts.{AllFrom, from-append, all-append, block-first, behind-block}
use Rattle.zl_flat.proofs.WellFormedGround.{IsPlaceAt, standing}
use Rattle.zl_flat.proofs.RulesKept.{none-left, none-right, kept-if}
use Rattle.zl_flat.proofs.WellFormedForm.{from-get, parts-sit}
use Rattle.zl_flat.proofs.WellFormedDecls.{known_after}
use Rattle.zl_flat.proofs.WellFormedSizesForm.{built-ins-known, callees-make, main-makes}
use Rattle.zl_flat.proofs.WellFormedCopies.{order-counted, all-counted}
use Rattle.zl_flat.proofs.WellFormedReads.{placing, Places, FormPlaced, DefinerPlaced, CoversPlaces}
use Rattle.zl_flat.proofs.WellFormedOrder.{IsMainInOrder}
use Rattle.zl_flat.proofs.WellFormedVariables.{length-map}
use Rattle.zl_flat.proofs.WellFormedReadsForm.{params-sit, scoped-covers, scoped-reads, callees-read}

-- ---- main

pub listed-get : (m a j : ℕ) → j < m → slice_get (listed m a (λ n. n)) j ≡ Some (a + j)
listed-get zero a j lt = absurd (omega (arith, lt))
listed-get (suc m) a zero lt = ap Some (no_more a)
  where
    no_more : (a : ℕ) → a ≡ a + 0
    no_more a = omega arith
listed-get (suc m) a (suc j) lt = listed-get m (suc a) j (omega (arith, lt)) ∙ ap Some (one_more a j)
  where
    one_more : (a j : ℕ) → suc a + j ≡ a + suc j
    one_more a j = omega arith

-- an input that has its number
inputs-placed : (f : FlatForm) (i : Instance) (here : Here) (n : ℕ) (ps : List Param) → here.block ≡ 0 → here.call ≡ None → ((j : ℕ) → j < n + length ps → slice_get f.ins j ≡ Some j) → AllFrom (IsPlaceAt f) n (map (param_place i here) ps) →
    AllByRecursion (λ (g : Given). DefinerPlaced f g.place g.definer) (input_definers n ps)
inputs-placed f i here n [] at outside ins h = tt
inputs-placed f i here n (p ∷ ps) at outside ins h =
    let a = h.0 in
    ((ins n (omega arith), a.place, a.is, a.block ∙ at, a.call ∙ outside), inputs-placed f i here (n + 1) ps at outside (λ j lt. ins j (omega (arith, lt))) h.1)

below-places : (f : FlatForm) (n : ℕ) (xs : List PlaceInfo) → AllFrom (IsPlaceAt f) n xs → AllByRecursion (λ p. p < length f.places) (listed (length xs) n (λ n. n))
below-places f n [] h = tt
below-places f n (x ∷ xs) h =
    let a = h.0 in
    (slice_get_within f.places n a.place a.is, below-places f (suc n) xs (subst (λ k. AllFrom (IsPlaceAt f) k xs) (one_more n) h.1))
  where
    one_more : (n : ℕ) → n + 1 ≡ suc n
    one_more n = omega arith

-- ---- results that are variables

module _ (f : FlatForm) (i : Instance) (visible : List ℕ) (covers : CoversPlaces f i i.block visible) where
  abbrev IsInside : ℕ → Type 0
  IsInside p = p < length f.places

  abbrev ResultInside : Expr → Type 0
  ResultInside x = is_variable visible x ≡ true → AllByRecursion IsInside (result_place i.variables x)

  abbrev TheExpr : Type 0
  TheExpr = (e : Expr) × ResultInside e

  abbrev TheLink : Type 0
  TheLink = (l : Link) × Unit {0}

  var-inside : (id : ℕ) → among visible id ≡ true → IsInside (place_number (variable_of i.variables id))
  var-inside id h = let d = covers id h in subst (λ v. IsInside (place_number v)) (sym d.is) (slice_get_within f.places d.variable.place d.place d.place_is)

  result-layer : (x : Expr-F TheExpr TheLink) (b : Expr → Bool) (bl : Link → Bool) (p : Expr → List ℕ) (pl : Link → List ℕ) →
      (let step = map-Expr TheExpr TheLink Expr Link (λ e. e.0) (λ l. l.0) x in
      variable_step visible (map-Expr Expr Link Bool Bool b bl step) ≡ true → AllByRecursion IsInside (result_step i.variables (map-Expr Expr Link (List ℕ) (List ℕ) p pl step)))
  result-layer (open_expr.Lit v at) b bl p pl h = tt
  result-layer (open_expr.Var x) b bl p pl h = (var-inside x.id h, tt)
  result-layer (open_expr.Last x at) b bl p pl h = tt
  result-layer (open_expr.Call x args) b bl p pl h = tt
  result-layer (open_expr.Prefix op at x) b bl p pl h = tt
  result-layer (open_expr.Chain x ls) b bl p pl h = tt
  result-layer (open_expr.Flow op at x y) b bl p pl h = tt
  result-layer (open_expr.If at z x y) b bl p pl h = tt

  result-inside : (x : Expr) → ResultInside x
  unfolding is_variable result_place
  result-inside = ind-Expr ResultInside (λ l. Unit {0})
      (λ x y is.
      let step = map-Expr TheExpr TheLink Expr Link (λ e. e.0) (λ l. l.0) y in
      subst (λ z. ResultInside (roll-Expr z)) is
      (λ h.
      subst (AllByRecursion IsInside) (sym (fold-roll-Expr (List ℕ) (List ℕ) (result_step i.variables) (λ l. []) step))
      (result-layer y (fold-Expr Bool Bool (variable_step visible) (λ l. false)) (fold-Link Bool Bool (variable_step visible) (λ l. false))
      (fold-Expr (List ℕ) (List ℕ) (result_step i.variables) (λ l. [])) (fold-Link (List ℕ) (List ℕ) (result_step i.variables) (λ l. []))
      (sym (fold-roll-Expr Bool Bool (variable_step visible) (λ l. false) step) ∙ h))))
      (λ x y is. tt)

  shown : (b : Bool) → not b ≡ false → b ≡ true
  shown true e = refl
  shown false e = absurd (cc)

  results-inside : (xs : List Expr) → results_broken visible xs ≡ [] → AllByRecursion IsInside (result_places i.variables xs)
  results-inside [] h = tt
  results-inside (x ∷ xs) h =
      let one = broken_if (not (is_variable visible x)) rule.Main (place_of x) in
      let kept = kept-if (not (is_variable visible x)) rule.Main (place_of x) (none-left one (results_broken visible xs) h) in
      all-append IsInside (result_place i.variables x) (result_places i.variables xs) (result-inside x (shown (is_variable visible x) kept)) (results-inside xs (none-right one (results_broken visible xs) h))

-- ---- the form

-- a definer of this place stands in its block, or inside it; an input has its number, and no call
abbrev pub DefinerWithin : FlatForm → ℕ → PlaceInfo → Definer → Type 0
DefinerWithin f p place (Input n) = (slice_get f.ins n ≡ Some p) × (place.block ≡ 0) × (place.call ≡ None)
DefinerWithin f p place (Plain b k) = IsWithin f place.block b
DefinerWithin f p place (Der b slope resets) = IsWithin f place.block b
DefinerWithin f p place (Start b k) = IsWithin f place.block b

-- what a flat form keeps of places: a `Read` and a `Last` have their place, with its type, and definers stand where it is declared
pub record FormPlaces (f : FlatForm) : Type 0 where
  pub definers : (p : ℕ) (place : PlaceInfo) → slice_get f.places p ≡ Some place → AllByRecursion (DefinerWithin f p place) place.definers
  pub occs : (k : ℕ) (occ : Occ) → slice_get f.occs k ≡ Some occ → FormPlaced f occ.block occ.ty occ.form
  pub ins : AllByRecursion (λ p. p < length f.places) f.ins
  pub outs : AllByRecursion (λ p. p < length f.places) f.outs

same-place : (a b : PlaceInfo) → Some a ≡ Some b → a ≡ b
same-place a b e = cc

definer-within : (f : FlatForm) (p : ℕ) (place : PlaceInfo) (d : Definer) → slice_get f.places p ≡ Some place → DefinerPlaced f p d → DefinerWithin f p place d
definer-within f p place (Input n) is h =
    let same = same-place place h.1 (sym is ∙ h.2) in
    (h.0, ap (λ (x : PlaceInfo). x.block) same ∙ h.3, ap (λ (x : PlaceInfo). x.call) same ∙ h.4)
definer-within f p place (Plain b k) is h = subst (λ (x : PlaceInfo). IsWithin f x.block b) (same-place h.0 place (sym h.1 ∙ is)) h.2
definer-within f p place (Der b slope resets) is h = subst (λ (x : PlaceInfo). IsWithin f x.block b) (same-place h.0 place (sym h.1 ∙ is)) h.2
definer-within f p place (Start b k) is h = subst (λ (x : PlaceInfo). IsWithin f x.block b) (same-place h.0 place (sym h.1 ∙ is)) h.2

definers-within : (f : FlatForm) (p : ℕ) (place : PlaceInfo) (ds : List Definer) → slice_get f.places p ≡ Some place → AllByRecursion (DefinerPlaced f p) ds → AllByRecursion (DefinerWithin f p place) ds
definers-within f p place [] is h = tt
definers-within f p place (d ∷ ds) is h = (definer-within f p place d is h.0, definers-within f p place ds is h.1)

definers-placed : (f : FlatForm) (p : ℕ) (gs : List Given) → AllByRecursion (λ (g : Given). DefinerPlaced f g.place g.definer) gs → AllByRecursion (DefinerPlaced f p) (definers_of p gs)
definers-placed f p [] h = tt
definers-placed f p (g ∷ gs) h = by_equal (nat_eq g.place p) refl (definers-placed f p gs h.1)
  where
    by_equal : (b : Bool) → nat_eq g.place p ≡ b → AllByRecursion (DefinerPlaced f p) (definers_of p gs) → AllByRecursion (DefinerPlaced f p) (if b then g.definer ∷ definers_of p gs else definers_of p gs)
    by_equal true e k = (subst (λ q. DefinerPlaced f q g.definer) (eqb-true g.place p e) h.0, k)
    by_equal false e k = k

places-placed : (f : FlatForm) (gs : List Given) (n : ℕ) (xs : List PlaceInfo) → AllByRecursion (λ (g : Given). DefinerPlaced f g.place g.definer) gs → AllFrom (λ p (x : PlaceInfo). AllByRecursion (DefinerPlaced f p) x.definers) n (defined_places gs n xs)
places-placed f gs n [] h = tt
places-placed f gs n (x ∷ xs) h = (definers-placed f n gs h, places-placed f gs (n + 1) xs h)

from-any : {X : Type 0} (P : X → Type 0) (n m : ℕ) (xs : List X) → AllFrom (λ j x. P x) n xs → AllFrom (λ j x. P x) m xs
from-any P n m [] h = tt
from-any P n m (x ∷ xs) h = (h.0, from-any P (n + 1) (m + 1) xs h.1)

no-zero : (n : ℕ) → 0 + n ≡ n
no-zero n = omega arith

-- parts whose reads and definers have their places are a form that keeps them
form-places : (p : Parts) (ins outs : List ℕ) →
    (let f = form_of p ins outs in
    Places f start p → AllByRecursion (λ q. q < length f.places) ins → AllByRecursion (λ q. q < length f.places) outs → FormPlaces f)
form-places p ins outs h hi ho =
    let f = form_of p ins outs in
    let places = places-placed f p.definers 0 p.places h.definers in
    record {
      definers = λ n place is.
          definers-within f n place place.definers is
          (subst (λ q. AllByRecursion (DefinerPlaced f q) place.definers) (no-zero n) (from-get (λ q (x : PlaceInfo). AllByRecursion (DefinerPlaced f q) x.definers) 0 f.places places n place is));
      occs = λ k occ is.
          from-get (λ q (x : Occ). FormPlaced f x.block x.ty x.form) 0 (p.occs ++ p.hidden)
          (from-append (λ q (x : Occ). FormPlaced f x.block x.ty x.form) 0 p.occs p.hidden h.occs (from-any (λ (x : Occ). FormPlaced f x.block x.ty x.form) 0 (0 + length p.occs) p.hidden h.hidden)) k occ is;
      ins = hi;
      outs = ho;
    }

module _ (names : List (List ℕ)) (m : MainOf) (h : IsMainInOrder names m) where
  -- the form of `main` keeps what a flat form does of places
  pub main-places : FormPlaces (main_form names m)
  unfolding main_form main_parts past_block uses_broken
  main-places =
      let base = (main_size m).occs in
      let cs = with_callees base names [] [] m.before in
      let zs = with_sizes [] m.before in
      let sizes = sizes_of m in
      let i = instance base names (found cs) sizes m.main 0 0 in
      let d = m.main.decl in
      let here = main_here base names d in
      let p = main_parts base names (found cs) sizes m.main in
      let ins = listed (length d.params) 0 (λ n. n) in
      let outs = result_places (variables_from sizes m.main 0) d.results in
      let f = form_of p ins outs in
      let definers = input_definers 0 d.params in
      let copy = body_copy base names i d definers here (past_block start) in
      let k = known_after (built_in names) m.before in
      let counted = all-counted names (built_in names) m.before h.before h.order in
      let counted_main = order-counted names k m.main h.main h.order_main in
      let many = main-makes names m base h.before counted counted_main in
      let sits = parts-sit p ins outs base (sym many.occs) in
      let both = behind-block (standing f base) start (main_block base names d) copy.parts sits in
      let make = callees-make base names [] [] (built_in names) m.before tt tt (built-ins-known names) counted h.before in
      let places = callees-read f base names [] [] (built_in names) m.before tt tt tt (built-ins-known names) h.order h.before in
      let params = params-sit f base names i d definers here (past_block start) both.1 in
      let count = length-map (param_place i here) d.params in
      let read = scoped-reads f base names cs zs k m.main places make.0 make.1 h.order_main h.main definers here (past_block start) both.1
      (inputs-placed f i here 0 d.params refl refl (λ j lt. listed-get (length d.params) 0 j (omega (arith, lt)) ∙ ap Some (no-zero j)) params) in
      let covers = scoped-covers f base names cs zs k m.main make.0 make.1 h.order_main h.main definers here (past_block start) both.1 in
      let visible = with_visible [] (scope.variables d) in
      let uses = none-right (variables_broken k d) (uses_broken names (inside_of k d) d) h.main in
      let values = values_uses (inside_of k d) d.results visible in
      let equations = eqns_uses (inside_of k d) d.eqs visible in
      let main = if is_main names d.name.id then main_broken visible d else [] in
      let main_kept = ap (λ b. if b then main_broken visible d else []) (sym h.named) ∙ none-right equations main (none-right values (equations ++ main) uses) in
      let results = none-right (broken_if (not (is_hybrid d.kind)) rule.Main d.name.at) (results_broken visible d.results) main_kept in
      form-places p ins outs (block-first (placing f) start (main_block base names d) copy.parts tt read)
      (subst (λ n. AllByRecursion (λ q. q < length f.places) (listed n 0 (λ n. n))) count (below-places f 0 (map (param_place i here) d.params) params))
      (results-inside f i visible covers d.results results)
