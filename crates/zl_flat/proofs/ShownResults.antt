-- Results that are variables are places with names, and so are inputs.
use Rattle.std.proofs.Common.{◌≡◌, ℕ, suc, ◌+◌, ◌<◌, Bool, true, false, not, List, [], ◌∷◌, ◌++◌, map, length, Option, Some, None, refl, sym, subst, ◌∙◌, arith}
use Rattle.std.specs.List.{AllByRecursion}
use Rattle.zl_value.specs.Lists.{listed}
use Rattle.zl_value.specs.declared.rule.Rule.TheVariants as rule
use Rattle.zl_ast.specs.declared.expr.Expr.{Expr, roll-Expr}
use Rattle.zl_ast.specs.declared.expr.Link.{Link}
use Rattle.zl_ast.specs.declared.expr.Expr.TheOpen.{Expr-F, Link-F}
use Rattle.zl_ast.specs.declared.expr.Expr.TheOpen as open_expr
use Rattle.zl_ast.specs.declared.expr.Expr.TheFolds.{fold-Expr, fold-Link, fold-roll-Expr, ind-Expr, map-Expr}
use Rattle.zl_ast.specs.declared.program.Param.{Param}
use Rattle.zl_ast.specs.Names.{among, broken_if}
use Rattle.zl_ast.specs.NamesRules.{results_broken, variable_step, is_variable, place_of}
use Rattle.zl_ast.specs.Parsed.{with_id, spot_ids}
use Rattle.zl_ast.specs.Spots.{Spot, all_spots, expr_step, link_step, expr_spots, param_spots}
use Rattle.zl_meaning.specs.FlatForm.{FlatForm}
use Rattle.zl_flat.specs.declared.here.Here.{Here}
use Rattle.zl_flat.specs.Variables.{variable_of}
use Rattle.zl_flat.specs.Instances.{Instance}
use Rattle.zl_flat.specs.Equations.{place_number}
use Rattle.zl_flat.specs.Expansion.{param_place, result_step, result_place, result_places}
use Rattle.zl_flat.specs.Shown.{IsNamed}
use Rattle.zl_flat.proofs.RulesKept.{none-left, none-right, kept-if}
use Rattle.zl_flat.proofs.WellFormedParts.{AllFrom, all-append, all-left, all-right}
use Rattle.zl_flat.proofs.WellFormedGround.{IsPlaceAt}
use Rattle.zl_flat.proofs.WellFormedReads.{CoversPlaces}

-- ---- names of a tree

-- a number, if there is one, is that of one of so many names
abbrev pub IsKnown : ℕ → Option ℕ → Type 0
IsKnown count None = Unit {0}
IsKnown count (Some id) = id < count

-- so are those of a part of a tree
abbrev pub AreKnown : ℕ → List Spot → Type 0
AreKnown count xs = AllByRecursion (λ (s : Spot). IsKnown count s.id) xs

pub ids-known : (count : ℕ) (xs : List Spot) → AllByRecursion (λ id. id < count) (spot_ids xs) → AreKnown count xs
ids-known count [] h = tt
ids-known count (x ∷ xs) h = by_id x.id h (ids-known count xs)
  where
    by_id : (o : Option ℕ) → AllByRecursion (λ id. id < count) (with_id o (spot_ids xs)) → (AllByRecursion (λ id. id < count) (spot_ids xs) → AreKnown count xs) → IsKnown count o × AreKnown count xs
    by_id None k more = (tt, more k)
    by_id (Some id) k more = (k.0, more k.1)

-- parts of known names have known names
pub each-known : {A : Type 0} (count : ℕ) (s : A → List Spot) (xs : List A) → AreKnown count (all_spots s xs) → AllByRecursion (λ x. AreKnown count (s x)) xs
each-known count s [] h = tt
each-known count s (x ∷ xs) h =
    (all-left (λ (t : Spot). IsKnown count t.id) (s x) (all_spots s xs) h, each-known count s xs (all-right (λ (t : Spot). IsKnown count t.id) (s x) (all_spots s xs) h))

module _ (names : List (List ℕ)) (f : FlatForm) where
  -- ---- inputs

  pub inputs-named : (i : Instance) (here : Here) (n : ℕ) (ps : List Param) → AllFrom (IsPlaceAt f) n (map (param_place i here) ps) → AllByRecursion (λ p. AreKnown (length names) (param_spots p)) ps →
      AllByRecursion (IsNamed names f) (listed (length ps) n (λ n. n))
  inputs-named i here n [] h known = tt
  inputs-named i here n (p ∷ ps) h known =
      let a = h.0 in (
        record { place = a.place; is = a.is; named = subst (λ id. id < length names) (sym a.named) known.0.0 },
        inputs-named i here (suc n) ps (subst (λ k. AllFrom (IsPlaceAt f) k (map (param_place i here) ps)) (one_more n) h.1) known.1,
      )
    where
      one_more : (n : ℕ) → n + 1 ≡ suc n
      one_more n = omega arith

  -- ---- results

  -- these are places with names, and there are some
  record AreSome (ps : List ℕ) : Type 0 where
    pub named : AllByRecursion (IsNamed names f) ps
    pub some : 0 < length ps

  module _ (i : Instance) (visible : List ℕ) (covers : CoversPlaces f i i.block visible) where
    abbrev ResultNamed : Expr → Type 0
    ResultNamed x = is_variable visible x ≡ true → AreKnown (length names) (expr_spots x) → AreSome (result_place i.variables x)

    abbrev TheExpr : Type 0
    TheExpr = (e : Expr) × ResultNamed e

    abbrev TheLink : Type 0
    TheLink = (l : Link) × Unit {0}

    var-named : (id : ℕ) → among visible id ≡ true → id < length names → IsNamed names f (place_number (variable_of i.variables id))
    var-named id h known =
        let d = covers id h in
        subst (λ v. IsNamed names f (place_number v)) (sym d.is) (record { place = d.place; is = d.place_is; named = subst (λ n. n < length names) (sym d.named) known })

    result-layer : (x : Expr-F TheExpr TheLink) (b : Expr → Bool) (bl : Link → Bool) (p : Expr → List ℕ) (pl : Link → List ℕ) (s : Expr → List Spot) (sl : Link → List Spot) →
        (let step = map-Expr TheExpr TheLink Expr Link (λ e. e.0) (λ l. l.0) x in
        variable_step visible (map-Expr Expr Link Bool Bool b bl step) ≡ true → AreKnown (length names) (expr_step (map-Expr Expr Link (List Spot) (List Spot) s sl step)) →
        AreSome (result_step i.variables (map-Expr Expr Link (List ℕ) (List ℕ) p pl step)))
    result-layer (open_expr.Lit v at) b bl p pl s sl h known = absurd (cc)
    result-layer (open_expr.Var x) b bl p pl s sl h known = record { named = (var-named x.id h known.0, tt); some = omega arith }
    result-layer (open_expr.Last x at) b bl p pl s sl h known = absurd (cc)
    result-layer (open_expr.Call x args) b bl p pl s sl h known = absurd (cc)
    result-layer (open_expr.Prefix op at x) b bl p pl s sl h known = absurd (cc)
    result-layer (open_expr.Chain x ls) b bl p pl s sl h known = absurd (cc)
    result-layer (open_expr.Flow op at x y) b bl p pl s sl h known = absurd (cc)
    result-layer (open_expr.If at z x y) b bl p pl s sl h known = absurd (cc)

    result-named : (x : Expr) → ResultNamed x
    unfolding is_variable result_place expr_spots
    result-named = ind-Expr ResultNamed (λ l. Unit {0})
        (λ x y is.
        let step = map-Expr TheExpr TheLink Expr Link (λ e. e.0) (λ l. l.0) y in
        subst (λ z. ResultNamed (roll-Expr z)) is
        (λ h known.
        subst AreSome (sym (fold-roll-Expr (List ℕ) (List ℕ) (result_step i.variables) (λ l. []) step))
        (result-layer y (fold-Expr Bool Bool (variable_step visible) (λ l. false)) (fold-Link Bool Bool (variable_step visible) (λ l. false))
        (fold-Expr (List ℕ) (List ℕ) (result_step i.variables) (λ l. [])) (fold-Link (List ℕ) (List ℕ) (result_step i.variables) (λ l. []))
        (fold-Expr (List Spot) (List Spot) expr_step link_step) (fold-Link (List Spot) (List Spot) expr_step link_step)
        (sym (fold-roll-Expr Bool Bool (variable_step visible) (λ l. false) step) ∙ h)
        (subst (AreKnown (length names)) (fold-roll-Expr (List Spot) (List Spot) expr_step link_step step) known))))
        (λ x y is. tt)

    shown : (b : Bool) → not b ≡ false → b ≡ true
    shown true e = refl
    shown false e = absurd (cc)

    -- one of the results, where they are these
    one : (x : Expr) (xs : List Expr) → results_broken visible (x ∷ xs) ≡ [] → AreKnown (length names) (expr_spots x) → AreSome (result_place i.variables x)
    one x xs h known = result-named x (shown (is_variable visible x) (kept-if (not (is_variable visible x)) rule.Main (place_of x) (none-left (broken_if (not (is_variable visible x)) rule.Main (place_of x)) (results_broken visible xs) h))) known

    pub results-named : (xs : List Expr) → results_broken visible xs ≡ [] → AllByRecursion (λ x. AreKnown (length names) (expr_spots x)) xs → AllByRecursion (IsNamed names f) (result_places i.variables xs)
    results-named [] h known = tt
    results-named (x ∷ xs) h known =
        all-append (IsNamed names f) (result_place i.variables x) (result_places i.variables xs) (one x xs h known.0).named
        (results-named xs (none-right (broken_if (not (is_variable visible x)) rule.Main (place_of x)) (results_broken visible xs) h) known.1)

    pub results-some : (xs : List Expr) → 0 < length xs → results_broken visible xs ≡ [] → AllByRecursion (λ x. AreKnown (length names) (expr_spots x)) xs → 0 < length (result_places i.variables xs)
    results-some [] some h known = absurd (omega (arith, some))
    results-some (x ∷ xs) some h known = longer (result_place i.variables x) (result_places i.variables xs) (one x xs h known.0).some
      where
        longer : (ps qs : List ℕ) → 0 < length ps → 0 < length (ps ++ qs)
        longer [] qs lt = absurd (omega (arith, lt))
        longer (p ∷ ps) qs lt = omega arith
