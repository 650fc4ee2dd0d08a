-- The flat form of `main` is regular.
use Rattle.std.proofs.Common.{◌≡◌, ℕ, ◌+◌, Bool, true, false, List, [], ◌∷◌, ◌++◌, map, length, Some, refl, sym, ap, subst, ◌∙◌}
use Rattle.std.specs.List.{AllByRecursion}
use Rattle.zl_value.specs.Lists.{listed}
use Rattle.zl_ast.specs.declared.program.DeclKind.TheVariants as decl
use Rattle.zl_ast.specs.declared.program.Param.{Param}
use Rattle.zl_ast.specs.NamesUsed.{Known}
use Rattle.zl_ast.specs.NamesRules.{is_hybrid, built_in, inside_of, declared_with, decl_broken, decls_broken}
use Rattle.zl_ast.specs.Kinds as kinds
use Rattle.zl_ast.specs.Kinds.{Declared, decl_misplaced, decls_misplaced}
use Rattle.zl_meaning.specs.FlatForm.{FlatForm}
use Rattle.zl_meaning.specs.Copies.{KeepsCopies}
use Rattle.zl_meaning.specs.Regular.{Context, context_of_block, IsRegular}
use Rattle.zl_flat.specs.Parts.{past_block, start}
use Rattle.zl_flat.specs.Expansion.{Scoped, found, with_sizes, with_callees, variables_from, input_definers, body_copy, instance, main_here, main_block, main_parts, MainOf, sizes_of, main_size, main_form, form_of, result_places}
use Rattle.zl_flat.proofs.UsesBranches.{HasContexts}
use Rattle.zl_flat.proofs.WellFormedParts.{block-first, behind-block}
use Rattle.zl_flat.proofs.WellFormedDecls.{known_after}
use Rattle.zl_flat.proofs.WellFormedSizesForm.{callees-make, built-ins-known, sized-instance, main-makes}
use Rattle.zl_flat.proofs.WellFormedCopies.{IsInOrder, order-counted, all-counted}
use Rattle.zl_flat.proofs.RegularGround.{assigned-map, assigned-block_first, GivenUsed, lying, regular, lies-sit, IsRegularIn, BodyIs, block-at}
use Rattle.zl_flat.proofs.RegularLift.{decl-lifts}
use Rattle.zl_flat.proofs.RegularExprs.{CopyHolds}
use Rattle.zl_flat.proofs.RegularForm.{parts-lie, form-contexts, form-regular, context_at, found-contexts}
use Rattle.zl_flat.proofs.RegularPlaces.{copy-in_call}
use Rattle.zl_flat.proofs.RegularDecls.{IsKept, inside-of, own-distinct, knows-inside, is_calm, copy_known, outside-known, last-outside, body_copy-regular}
use Rattle.zl_flat.proofs.RegularEqnTrees as tree
use Rattle.zl_flat.proofs.RegularCallees.{declared_after, AllKept, before-regular}

-- what is asked of `main` and of the declarations before it
pub record IsMainPlaced (names : List (List ℕ)) (m : MainOf) : Type 0 where
  pub before : AllKept names (built_in names) kinds.none_declared m.before
  pub main : IsKept names (known_after (built_in names) m.before) (declared_after kinds.none_declared m.before) m.main
  pub is_hybrid : m.main.decl.kind ≡ decl.Hybrid

-- inputs name no occurrence
inputs-used : (f : FlatForm) (context : ℕ → Context) (n : ℕ) (ps : List Param) → AllByRecursion (GivenUsed f context) (input_definers n ps)
inputs-used f context n [] = tt
inputs-used f context n (p ∷ ps) = (λ place is. tt, inputs-used f context (n + 1) ps)

-- declarations that keep the rules break none, and stand in order
all-broken : (names : List (List ℕ)) (k : Known) (declared : Declared) (ds : List Scoped) → AllKept names k declared ds → decls_broken names k (map (λ (d : Scoped). d.decl) ds) ≡ []
all-broken names k declared [] h = refl
all-broken names k declared (d ∷ ds) h = let first = h.0 in both (decl_broken names k d.decl) (decls_broken names (declared_with k d.decl) (map (λ (e : Scoped). e.decl) ds)) first.kept (all-broken names (declared_with k d.decl) (kinds.declared_with declared d.decl) ds h.1)
  where
    both : {X : Type 0} (xs ys : List X) → xs ≡ [] → ys ≡ [] → xs ++ ys ≡ []
    both xs ys e g = ap (λ zs. zs ++ ys) e ∙ g

all-in-order : (names : List (List ℕ)) (k : Known) (declared : Declared) (ds : List Scoped) → AllKept names k declared ds → AllByRecursion IsInOrder ds
all-in-order names k declared [] h = tt
all-in-order names k declared (d ∷ ds) h = let first = h.0 in (first.order, all-in-order names (declared_with k d.decl) (kinds.declared_with declared d.decl) ds h.1)

module _ (names : List (List ℕ)) (m : MainOf) (h : IsMainPlaced names m) where
  -- its occurrences have contexts, it is regular with them if it keeps copies
  pub main-regular : (HasContexts (main_form names m) → KeepsCopies (main_form names m)) → IsRegular (main_form names m)
  unfolding main_form main_parts past_block
  main-regular copies =
      let base = (main_size m).occs in
      let cs = with_callees base names [] [] m.before in
      let zs = with_sizes [] m.before in
      let d = m.main.decl in
      let k = known_after (built_in names) m.before in
      let declared = declared_after kinds.none_declared m.before in
      let here = main_here base names d in
      let i = instance base names (found cs) (found zs) m.main 0 0 in
      let definers = input_definers 0 d.params in
      let p = main_parts base names (found cs) (sizes_of m) m.main in
      let ins = listed (length d.params) 0 (λ n. n) in
      let outs = result_places (variables_from (sizes_of m) m.main 0) d.results in
      let f = form_of p ins outs in
      let t = past_block start in
      let copy = body_copy base names i d definers here t in
      let own = main_block base names d in
      let broken = all-broken names (built_in names) kinds.none_declared m.before h.before in
      let counted = all-counted names (built_in names) m.before broken (all-in-order names (built_in names) kinds.none_declared m.before h.before) in
      let main = h.main in
      let counted_main = order-counted names k m.main main.kept main.order in
      let many = main-makes names m base broken counted counted_main in
      let lies = parts-lie p ins outs base (sym many.occs) in
      let both = behind-block (lying f base) start own copy.parts lies in
      let hybrid : here.hybrid ≡ true = ap is_hybrid h.is_hybrid in
      let makes = callees-make base names [] [] (built_in names) m.before tt tt (built-ins-known names) counted broken in
      let order = main.order in
      let copied = copy-in_call f base names (found cs) (found zs) m.main definers here t (sized-instance base names cs zs m.main 0 0 makes.0 makes.1 counted_main) order (own-distinct names k declared m.main main) (lies-sit f base t copy.parts both.1) in
      let a = inside-of names i k d (subst (tree.Named i) order.infos copied.named) main.kept in
      let knows = before-regular f base names m.before h.before in
      let hb = block-at f 0 own both.0 in
      let callable : kinds.allows_call (Some d.kind) kinds.hybrid ≡ true = ap (λ k. kinds.allows_call (Some k) kinds.hybrid) h.is_hybrid in
      let lifted = decl-lifts declared d kinds.hybrid callable main.placed in
      let know = copy_known f base names d.kind here.call in
      let calm = is_calm f base names d.kind in
      let busy : calm ≡ false = ap (is_calm f base names) h.is_hybrid in
      let b = body_copy-regular f base names know i (inside_of k d) declared (knows-inside f base names (found cs) k declared d knows) calm (λ e id v is. last-outside f base names d.kind here.call v.place e (copied.placed id v is)) d definers kinds.hybrid a.visible order.some a.covers a.entries a.results a.equations lifted.0 lifted.1 (λ e. absurd (differ calm e busy)) main.crossed here t hb hybrid copied.placed both.1 in
      let Q : (ℕ → Context) → Type 0 = λ context. BodyIs f context here kinds.hybrid → AllByRecursion (GivenUsed f context) definers → CopyHolds f base context t kinds.hybrid copy in
      let all = assigned-map base know start p Q (λ context. IsRegularIn f base context start p)
      (λ context g.
      let copied = g (ap context_of_block hybrid) (inputs-used f context 0 d.params) in
      block-first (regular f base context) start own copy.parts (tt, tt) copied.parts)
      (assigned-block_first base know start copy.parts Q own b.assigned) in
      let found_in = all.contexts in
      let context = context_at (found_in.occs ++ found_in.hidden) in
      let known = outside-known f base names d.kind context in
      let regular = all.holds context (found-contexts p base found_in (sym many.occs) all.fits) known in
      let contexts = form-contexts p ins outs base context regular (sym many.occs) in
      form-regular p ins outs base context regular (sym many.occs) (copies contexts)
    where
      differ : (b : Bool) → b ≡ true → b ≡ false → ⊥
      differ true e g = cc
      differ false e g = cc
