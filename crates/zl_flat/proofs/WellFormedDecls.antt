-- What the copies of declarations and `main` make, where no rule of names is broken.
use Rattle.std.proofs.Common.{◌≡◌, ℕ, ◌+◌, ◌<◌, List, [], ◌∷◌, map, length, refl, arith}
use Rattle.std.specs.List.{AllByRecursion}
use Rattle.zl_value.specs.Lists.{listed}
use Rattle.zl_ast.specs.declared.program.Decl.{Decl}
use Rattle.zl_ast.specs.declared.program.Param.{Param}
use Rattle.zl_ast.specs.NamesRules.{built_in, decl_broken, decls_broken}
use Rattle.zl_meaning.specs.FlatForm.{FlatForm}
use Rattle.zl_flat.specs.declared.here.Here.{Here}
use Rattle.zl_flat.specs.declared.here.Root.{Root}
use Rattle.zl_flat.specs.declared.given.Given.{Given}
use Rattle.zl_flat.specs.Parts.{Counters, joined, some_places, some_definers, after, past_block, start}
use Rattle.zl_flat.specs.Instances.{Instance}
use Rattle.zl_flat.specs.Expressions.{expr_walk, exprs_walk}
use Rattle.zl_flat.specs.Equations.{eqn_walk, eqns_walk}
use Rattle.zl_flat.specs.Expansion.{found, with_callees, variables_from, argument_definers, input_definers, param_place, body_copy, instance, decl_copy, main_here, main_block, main_parts, MainOf, sizes_of, main_size, main_form, form_of, result_places}
use Rattle.zl_flat.proofs.WellFormedParts.{AllFrom, each-joined, each-left, each-right, each-some_places, each-some_definers, block-first, behind-block}
use Rattle.zl_flat.proofs.WellFormedGround.{DefinerStands, PlaceStands, standing, keeping, Sits, IsHere, RootStands, here-after}
use Rattle.zl_flat.proofs.WellFormedExprs.{CopyKeeps, walk_all-stands}
pub use Rattle.zl_flat.proofs.DeclNames.{Finds, all-found, InfosKnown, infos-known, covers-visible, IsCounted, Calls, KnowsNames, known_after}
use Rattle.zl_flat.proofs.WellFormedExprTrees.{standing_copies, forms-stand}
use Rattle.zl_flat.proofs.WellFormedEqns.{IsInside, inside-body, in_turn-stands}
use Rattle.zl_flat.proofs.WellFormedEqnTrees.{standing_eqns, equations-stand}
use Rattle.zl_flat.proofs.UsesDecls.{roots-length, inside-of, OfDecl, decl-holds, nothing-known, has-calls, no_facts, all-facts, Copies, callees-hold}
use Rattle.zl_flat.proofs.WellFormedForm.{FormStands, parts-sit, form-stands}
use Rattle.std.proofs.lemmas.Option.{slice_get_within}

module _ (f : FlatForm) (base : ℕ) (names : List (List ℕ)) where
  params-stand : (i : Instance) (here : Here) (s : Counters) (n : ℕ) (ps : List Param) → IsHere f s here → AllFrom (λ m x. PlaceStands f x) n (map (param_place i here) ps)
  params-stand i here s n [] h = tt
  params-stand i here s n (p ∷ ps) h = (record { block = h.block; call = h.call }, params-stand i here s (n + 1) ps h)

  pub body-copy-stands : (i : Instance) (d : Decl) (definers : List Given) → 0 < length d.results → OfDecl (standing_eqns f base names i) base names i d → AllByRecursion (λ (g : Given). DefinerStands f g.definer) definers →
      (here : Here) (s : Counters) → IsHere f s here → IsInside f i.block here → Sits f base s (body_copy base names i d definers here s).parts → CopyKeeps f here s (body_copy base names i d definers here s)
  body-copy-stands i d definers some kept hd here s h inside sits =
      let places = some_places (map (param_place i here) d.params) in
      let params = joined places (some_definers definers) in
      let t = after s params in
      let results = exprs_walk base names i d.results here t in
      let u = after t results.parts in
      let eqs = eqns_walk base names i d.eqs here u in
      let rest = joined results.parts eqs in
      let behind = each-right (standing f base) s params rest sits in
      let at_t = here-after f s here h params in
      let count = roots-length base names d.results i here t in
      let a = walk_all-stands f base (map (expr_walk base names i) d.results) kept.results here t at_t (each-left (standing f base) t results.parts eqs behind) in
      let b = in_turn-stands f base i (map (eqn_walk base names i) d.eqs) kept.equations here u (here-after f t here at_t results.parts) inside (each-right (standing f base) t results.parts eqs behind) in
      record {
        parts = each-joined (keeping f) s params rest
            (each-joined (keeping f) s places (some_definers definers) (each-some_places (keeping f) s (map (param_place i here) d.params) (params-stand i here s s.places d.params h))
            (each-some_definers (keeping f) (after s places) definers hd))
            (each-joined (keeping f) t results.parts eqs a.parts b);
        results = a.roots;
        some = omega (arith, count, some);
      }

  arguments-stand : (here : Here) (n : ℕ) (ps : List Param) (rs : List Root) → AllByRecursion (RootStands f here.block) rs → AllByRecursion (λ (g : Given). DefinerStands f g.definer) (argument_definers here n ps rs)
  arguments-stand here n [] rs h = tt
  arguments-stand here n (p ∷ ps) [] h = tt
  arguments-stand here n (p ∷ ps) (r ∷ rs) h = (h.0, arguments-stand here (n + 1) ps rs h.1)

  inputs-stand : (n : ℕ) (ps : List Param) → AllByRecursion (λ (g : Given). DefinerStands f g.definer) (input_definers n ps)
  inputs-stand n [] = tt
  inputs-stand n (p ∷ ps) = (tt, inputs-stand (n + 1) ps)

  pub copies-stand : Copies (standing_copies f base) no_facts base names
  unfolding decl_copy
  copies-stand cs sizes d k counted kept more all known here roots s hr h sits =
      let i = instance base names (found cs) sizes d here.block s.places in
      let a = inside-of base names (found cs) sizes d here.block s.places k counted kept in
      let holds = decl-holds (standing_eqns f base names i) (standing_copies f base) base names i k d.decl (forms-stand f base names i) (equations-stand f base names i) (has-calls (standing_copies f base) names cs i k refl all known) a in
      body-copy-stands i d.decl (argument_definers here s.places d.decl.params roots) counted.some holds (arguments-stand here s.places d.decl.params roots hr) here s h (inside-body f s here h) sits

-- ---- main

zero-past : 0 < (past_block start).blocks
unfolding past_block
zero-past = omega arith

-- what is asked of `main` and of the declarations before it: the rules of names, and that the counts are right
pub record IsMainKept (names : List (List ℕ)) (m : MainOf) : Type 0 where
  pub before : decls_broken names (built_in names) (map (λ d. d.decl) m.before) ≡ []
  pub main : decl_broken names (known_after (built_in names) m.before) m.main.decl ≡ []
  pub counted : AllByRecursion IsCounted m.before
  pub counted_main : IsCounted m.main
  pub hidden_behind : (main_size m).occs ≡ length (main_parts (main_size m).occs names (found (with_callees (main_size m).occs names [] [] m.before)) (sizes_of m) m.main).occs

module _ (names : List (List ℕ)) (m : MainOf) (h : IsMainKept names m) where
  -- the form of `main` stands: everything but types, heights, branches, and what is to be there once only
  pub main-stands : FormStands (main_form names m)
  unfolding main_form main_parts
  main-stands =
      let base = (main_size m).occs in
      let cs = with_callees base names [] [] m.before in
      let sizes = sizes_of m in
      let i = instance base names (found cs) sizes m.main 0 0 in
      let d = m.main.decl in
      let here = main_here base names d in
      let p = main_parts base names (found cs) sizes m.main in
      let ins = listed (length d.params) 0 (λ n. n) in
      let outs = result_places (variables_from sizes m.main 0) d.results in
      let f = form_of p ins outs in
      let copy = body_copy base names i d (input_definers 0 d.params) here (past_block start) in
      let sits = parts-sit p ins outs base h.hidden_behind in
      let k = known_after (built_in names) m.before in
      let callees = callees-hold (standing_copies f base) no_facts base names (copies-stand f base names) [] [] (built_in names) m.before tt (nothing-known names) h.counted h.before (all-facts base names [] [] m.before) in
      let a = inside-of base names (found cs) sizes m.main 0 0 k h.counted_main h.main in
      let kept = decl-holds (standing_eqns f base names i) (standing_copies f base) base names i k d (forms-stand f base names i) (equations-stand f base names i) (has-calls (standing_copies f base) names cs i k refl callees.0 callees.1) a in
      let both = behind-block (standing f base) start (main_block base names d) copy.parts sits in
      let at : IsHere f (past_block start) here = record { before = zero-past; block = slice_get_within f.blocks 0 (main_block base names d) both.0; call = tt } in
      let c = body-copy-stands f base names i d (input_definers 0 d.params) h.counted_main.some kept (inputs-stand f base names 0 d.params) here (past_block start) at (inside-body f (past_block start) here at) both.1 in
      form-stands p ins outs (block-first (keeping f) start (main_block base names d) copy.parts refl c.parts)
