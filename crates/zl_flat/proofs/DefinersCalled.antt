-- The places of the variables of `main` and of the declarations before it are made in their copies.
use Rattle.std.proofs.Common.{◌≡◌, ℕ, ◌+◌, Bool, true, false, if◌then◌else◌, nat_eq, List, [], ◌∷◌, ◌++◌, map, length, Option, Some, refl, ap, subst, arith}
use Rattle.std.specs.List.{AllByRecursion}
use Rattle.zl_value.specs.declared.value.Ty.{Ty}
use Rattle.zl_ast.specs.declared.scope.VarInfo.{VarInfo}
use Rattle.zl_ast.specs.declared.eqn.Eqn.{Eqn}
use Rattle.zl_ast.specs.declared.program.Decl.{Decl}
use Rattle.zl_ast.specs.declared.program.Param.{Param}
use Rattle.zl_ast.specs.NamesUsed.{Known}
use Rattle.zl_ast.specs.NamesRules.{built_in, declared_with, decl_broken, decls_broken}
use Rattle.zl_meaning.specs.FlatForm.{FlatForm, place_call}
use Rattle.zl_meaning.specs.declared.place.PlaceInfo.{PlaceInfo}
use Rattle.zl_flat.specs.declared.variable.Variable.{Variable}
use Rattle.zl_flat.specs.declared.here.Here.{Here}
use Rattle.zl_flat.specs.declared.size.Size.{Size}
use Rattle.zl_flat.specs.declared.given.Given.{Given}
use Rattle.zl_flat.specs.Parts.{Counters, joined, some_places, some_definers}
use Rattle.zl_flat.specs.Variables.{variable_of, variables}
use Rattle.zl_flat.specs.Sizes.{exprs_size, decl_size}
use Rattle.zl_flat.specs.Numbering as numbering
use Rattle.zl_flat.specs.Numbering.{both, a_variable, of_calls, eqn_numbering, decl_numbering}
use Rattle.zl_flat.specs.Instances.{Callee, Instance}
use Rattle.zl_flat.specs.Equations.{eqns_walk}
use Rattle.zl_flat.specs.Expansion.{Scoped, Named, found, with_name, with_sizes, with_callees, param_place, body_copy, instance, decl_copy, MainOf, sizes_of, main_size}
use Rattle.zl_flat.proofs.WellFormedParts.{AllFrom, each-left, the_places}
use Rattle.zl_flat.proofs.WellFormedGround.{IsPlaceAt, standing}
use Rattle.zl_flat.proofs.RulesKept.{none-left, none-right}
use Rattle.zl_flat.proofs.WellFormedDecls.{IsCounted, IsMainKept}
use Rattle.zl_flat.proofs.WellFormedSizes.{IsSized}
use Rattle.zl_flat.proofs.WellFormedSizesForm.{AllMake, AreOwnNames, KnowsBuiltIns, built-ins-known, built-ins-still, exprs-make, sized-instance, callees-make}
use Rattle.zl_flat.proofs.DefinersNumbers.{Numbers, MakingNumbers, joined-places, call-at, numbers-joined, numbers-nothing, numbers-calls, eqn-numbers}
use Rattle.zl_flat.proofs.DefinersVariables.{count-params}
use Rattle.zl_flat.proofs.DefinersDecls.{VariablesCalled, AllCalled}

-- the place of a variable is one of the numbers
place-of-own : (P : ℕ → Type 0) (infos : List VarInfo) (types : List Ty) (own : List ℕ) → AllByRecursion P own → (id : ℕ) (v : Variable) → variable_of (variables infos types own) id ≡ Some v → P v.place
place-of-own P [] types own h id v is = absurd (cc)
place-of-own P (x ∷ infos) [] own h id v is = absurd (cc)
place-of-own P (x ∷ infos) (ty ∷ types) [] h id v is = absurd (cc)
place-of-own P (x ∷ infos) (ty ∷ types) (n ∷ own) h id v is = by_equal (nat_eq x.name id) is (place-of-own P infos types own h.1 id v)
  where
    same : Some (record { name = x.name; ty = ty; place = n }) ≡ Some v → n ≡ v.place
    same e = cc

    by_equal : (b : Bool) → (if b then Some (record { name = x.name; ty = ty; place = n }) else variable_of (variables infos types own) id) ≡ Some v → (variable_of (variables infos types own) id ≡ Some v → P v.place) → P v.place
    by_equal true e more = subst P (same e) h.0
    by_equal false e more = more e

map-length : {X Y : Type 0} (g : X → Y) (xs : List X) → length (map g xs) ≡ length xs
map-length g [] = refl
map-length g (x ∷ xs) = let rest = map-length g xs in omega (arith, rest)

params-places : (xs : List PlaceInfo) (gs : List Given) → length (joined (some_places xs) (some_definers gs)).places ≡ length xs
unfolding some_places some_definers
params-places xs gs = let count = joined-places (some_places xs) (some_definers gs) in omega (arith, count)

module _ (f : FlatForm) (base : ℕ) (names : List (List ℕ)) where
  -- the places of the parameters
  params-called : (i : Instance) (here : Here) (n : ℕ) (ps : List Param) → AllFrom (λ m x. IsPlaceAt f m x) n (map (param_place i here) ps) → AllByRecursion (λ k. place_call f k ≡ here.call) (numbering.in_turn (map (λ p. a_variable) ps) n).own
  params-called i here n [] h = tt
  params-called i here n (p ∷ ps) h = (call-at f n (param_place i here p) h.0, params-called i here (n + 1) ps h.1)

  params-number : (i : Instance) (d : Decl) (definers : List Given) (here : Here) (s : Counters) →
      Numbers f base here.call (numbering.in_turn (map (λ p. a_variable) d.params)) s (joined (some_places (map (param_place i here) d.params)) (some_definers definers))
  params-number i d definers here s =
      let places = map (param_place i here) d.params in
      let count = count-params d.params s.places in
      let many = params-places places definers in
      let same = map-length (param_place i here) d.params in (
        omega (arith, count, many, same),
        λ sits. params-called i here s.places d.params (the_places (standing f base) s places (each-left (standing f base) s (some_places places) (some_definers definers) sits)),
      )

  module _ (i : Instance) (known : ℕ → Option Size) (sized : IsSized names i known) where
    -- equations
    eqns-number : (es : List Eqn) → MakingNumbers f base (eqns_walk base names i es) (numbering.in_turn (map (eqn_numbering i.infos known) es))
    eqns-number [] here s = numbers-nothing f base here.call s
    eqns-number (e ∷ es) here s = numbers-joined f base here.call (eqn_numbering i.infos known e) (numbering.in_turn (map (eqn_numbering i.infos known) es)) s _ _ (eqn-numbers f base names i known sized e here s) (eqns-number es here _)

    -- the copy of a body makes the places that numbering gives its variables
    copy-numbers : (d : Decl) (definers : List Given) (here : Here) (s : Counters) → Numbers f base here.call (decl_numbering i.infos known d) s (body_copy base names i d definers here s).parts
    unfolding decl_numbering
    copy-numbers d definers here s =
        let z = exprs_size i.infos known d.results in
        let n = numbering.in_turn (map (eqn_numbering i.infos known) d.eqs) in
        numbers-joined f base here.call (numbering.in_turn (map (λ p. a_variable) d.params)) (both (of_calls z) n) s _ _ (params-number i d definers here s)
        (numbers-joined f base here.call (of_calls z) n _ _ _ (numbers-calls f base here.call z _ _ (exprs-make base names i known sized d.results here _).places) (eqns-number d.eqs here _))

  -- ---- declarations

  -- a declaration
  variables-called : (cs : List (Named Callee)) (zs : List (Named Size)) (d : Scoped) → AllMake cs zs → AreOwnNames names zs → IsCounted d → VariablesCalled f base names (found cs) (found zs) d
  variables-called cs zs d h own counted definers here s sits id v is =
      let i = instance base names (found cs) (found zs) d here.block s.places in
      let numbers = copy-numbers i (found zs) (sized-instance base names cs zs d here.block s.places h own counted) d.decl definers here s in
      place-of-own (λ k. place_call f k ≡ here.call) d.infos d.types (decl_numbering d.infos (found zs) d.decl s.places).own (numbers.1 sits) id v is

  -- the declarations before `main`
  callees-called : (cs : List (Named Callee)) (zs : List (Named Size)) (k : Known) (ds : List Scoped) → AllMake cs zs → AreOwnNames names zs → KnowsBuiltIns names k → AllByRecursion IsCounted ds → decls_broken names k (map (λ d. d.decl) ds) ≡ [] →
      AllCalled f base names cs zs ds
  callees-called cs zs k [] h own known counted kept = tt
  callees-called cs zs k (d ∷ ds) h own known counted kept =
      let one = decl_broken names k d.decl in
      let rest = decls_broken names (declared_with k d.decl) (map (λ e. e.decl) ds) in
      let next = callees-make base names cs zs k (d ∷ []) h own known (counted.0, tt) (ap (λ vs. vs ++ []) (none-left one rest kept)) in (
        variables-called cs zs d h own counted.0,
        callees-called (with_name cs d.decl.name.id (decl_copy base names (found cs) (found zs) d)) (with_name zs d.decl.name.id (decl_size d.infos (found zs) d.decl)) (declared_with k d.decl) ds
            next.0 next.1 (built-ins-still names k d.decl known) counted.1 (none-right one rest kept),
      )

-- ---- main

-- the places of the variables of `main`, and of the declarations before it, are made in their copies
pub record AreVariablesCalled (f : FlatForm) (names : List (List ℕ)) (m : MainOf) : Type 0 where
  pub before : AllCalled f (main_size m).occs names [] [] m.before
  pub main : VariablesCalled f (main_size m).occs names (found (with_callees (main_size m).occs names [] [] m.before)) (sizes_of m) m.main

pub main-called : (f : FlatForm) (names : List (List ℕ)) (m : MainOf) → IsMainKept names m → AreVariablesCalled f names m
main-called f names m h =
    let base = (main_size m).occs in
    let both = callees-make base names [] [] (built_in names) m.before tt tt (built-ins-known names) h.counted h.before in
    record {
      before = callees-called f base names [] [] (built_in names) m.before tt tt (built-ins-known names) h.counted h.before;
      main = variables-called f base names (with_callees base names [] [] m.before) (with_sizes [] m.before) m.main both.0 both.1 h.counted_main;
    }
