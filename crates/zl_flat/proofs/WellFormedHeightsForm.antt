-- The occurrences of the form of `main` have heights: each is higher than its parts, and than what stands in its copy.
use Rattle.std.proofs.Common.{◌≡◌, ℕ, zero, suc, ◌+◌, ◌-◌, ◌<◌, ◌≤◌, List, [], ◌∷◌, ◌++◌, map, length, slice_get, Some, refl, sym, ap, subst, ◌∙◌, arith}
use Rattle.std.specs.List.{AllByRecursion}
use Rattle.std.specs.Option.{option_map_or}
use Rattle.zl_ast.specs.declared.program.Decl.{Decl}
use Rattle.zl_ast.specs.NamesRules.{built_in}
use Rattle.zl_meaning.specs.FlatForm.{FlatForm}
use Rattle.zl_meaning.specs.WellFormed.{HasHeights}
use Rattle.zl_meaning.specs.declared.occurrence.Occ.{Occ}
use Rattle.zl_flat.specs.declared.here.Here.{Here}
use Rattle.zl_flat.specs.declared.given.Given.{Given}
use Rattle.zl_flat.specs.Parts.{Parts, Counters, joined, some_places, some_definers, after, past_block, start}
use Rattle.zl_flat.specs.Instances.{Instance}
use Rattle.zl_flat.specs.Expressions.{expr_walk, exprs_walk}
use Rattle.zl_flat.specs.Equations.{eqn_walk}
use Rattle.zl_flat.specs.Expansion.{found, with_callees, argument_definers, input_definers, param_place, body_copy, instance, decl_copy, main_here, main_block, main_parts, MainOf, sizes_of, main_size, main_form, form_of}
use Rattle.zl_flat.proofs.WellFormedParts.{AllFrom, from-append, from-left, all-stand}
use Rattle.zl_flat.proofs.WellFormedForm.{from-get}
use Rattle.zl_flat.proofs.WellFormedDecls.{IsMainKept, known_after}
use Rattle.zl_flat.proofs.UsesExprTrees.{OfForms}
use Rattle.zl_flat.proofs.UsesEqnTrees.{OfEquations}
use Rattle.zl_flat.proofs.UsesDecls.{roots-length, inside-of, OfDecl, decl-holds, nothing-known, has-calls, no_facts, all-facts, Copies, callees-hold}
use Rattle.zl_flat.proofs.WellFormedHeights.{IsBelow, LiesDeep, LieDeep, Agrees, Depths, Nothing, asking, giving, in-turn, one-and-other, block-before, places-depths, definers-depths}
use Rattle.zl_flat.proofs.WellFormedHeightsExprs.{Below, RootsLie, CopyDepths, deep_exprs, walk_all-depths, leaf-depths, chain-depths, built_in-depths, prefixed-depths, link-depths, conditional-depths, flow-depths, call-depths}
use Rattle.zl_flat.proofs.WellFormedHeightsEqns.{deep, in_turn-depths, crossing-depths, event-depths, tested-depths, plain-depths, init-depths, der-depths, reset-depths, arm-depths, present-depths, state-depths, automaton-depths, body-depths}

module _ (base : ℕ) (names : List (List ℕ)) where
  -- ---- what is kept down the trees

  forms-deep : (i : Instance) → OfForms (deep_exprs base) (CopyDepths base) base names i
  forms-deep i = record {
    literal = λ v at here s. leaf-depths base _ at _ refl here s;
    reading = λ v x is here s. leaf-depths base _ x.at _ refl here s;
    lasting = λ v x at is here s. leaf-depths base _ at _ refl here s;
    building = λ op at args hs here s. built_in-depths base names i op at args hs here s;
    calling = λ x args c is hc hs here s. call-depths base names i x args c is hc hs here s;
    prefixing = λ op at x hx here s. prefixed-depths base names i op at x hx here s;
    chaining = λ x ls hx hls here s. chain-depths base x ls hx hls here s;
    linking = λ l hx here left s d. link-depths base l.op l.at l.arg hx here left s d;
    flowing = λ op at x y hx hy here s. flow-depths base names i op at x y hx hy here s;
    choosing = λ at c x y hc hx hy here s. conditional-depths base names i at c x y hc hx hy here s;
  }

  equations-deep : (i : Instance) → OfEquations (deep base) base names i
  equations-deep i = record {
    crossing = crossing-depths base names i;
    event = event-depths base names i;
    testing = tested-depths base names i;
    plain = λ left right known hr. plain-depths base names i left right hr;
    der = λ x slope start resets known. der-depths base names i x slope start resets;
    init = λ x value known. init-depths base names i x value;
    present = present-depths base names i;
    arm = arm-depths base names i;
    automaton = automaton-depths base names i;
    state = state-depths base names i;
    reset = reset-depths base names i;
    body = λ locals eqs known. body-depths base names i locals eqs;
  }

  -- ---- declarations

  body_copy-depths : (i : Instance) (d : Decl) (definers : List Given) → OfDecl (deep base) base names i d → (here : Here) (s : Counters) (depth : ℕ) →
      Depths base s (body_copy base names i d definers here s).parts (Below here depth) (RootsLie depth (body_copy base names i d definers here s).results)
  body_copy-depths i d definers h here s depth =
      let params = joined (some_places (map (param_place i here) d.params)) (some_definers definers) in
      let t = after s params in
      let results = exprs_walk base names i d.results here t in
      giving base (λ depths a g. g.second.first)
      (in-turn base (one-and-other base (places-depths base s (map (param_place i here) d.params) (Below here depth)) (definers-depths base _ definers (Below here depth)))
      (asking base (λ depths a. a.first)
      (in-turn base (walk_all-depths base (map (expr_walk base names i) d.results) h.results here t depth)
      (asking base (λ depths a. a.first) (in_turn-depths base (map (eqn_walk base names i) d.eqs) h.equations here (after t results.parts) depth)))))

  copies-deep : Copies (CopyDepths base) no_facts base names
  unfolding decl_copy
  copies-deep cs sizes d k counted kept more all known here roots s =
      let i = instance base names (found cs) sizes d here.block s.places in
      let a = inside-of base names (found cs) sizes d here.block s.places k counted kept in
      let h = decl-holds (deep base) (CopyDepths base) base names i k d.decl (forms-deep i) (equations-deep i) (has-calls (CopyDepths base) names cs i k refl all known) a in
      let params = joined (some_places (map (param_place i here) d.decl.params)) (some_definers (argument_definers here s.places d.decl.params roots)) in
      let count = roots-length base names d.decl.results i here (after s params) in
      let some = counted.some in
      record { depths = λ depth. body_copy-depths i d.decl (argument_definers here s.places d.decl.params roots) h here s depth; some = omega (arith, count, some) }

-- ---- lists of depths

-- the entry of a list, or nothing
abbrev entry : List ℕ → ℕ → ℕ
entry xs k = option_map_or (λ n. n) (slice_get xs k) 0

-- all entries together
abbrev total : List ℕ → ℕ
total [] = 0
total (x ∷ xs) = x + total xs

entry-bound : (xs : List ℕ) (k : ℕ) → entry xs k ≤ total xs
entry-bound [] k = omega arith
entry-bound (x ∷ xs) zero = first x (total xs)
  where
    first : (x n : ℕ) → x ≤ x + n
    first x n = omega arith
entry-bound (x ∷ xs) (suc k) = later x (entry xs k) (total xs) (entry-bound xs k)
  where
    later : (x m n : ℕ) → m ≤ n → m ≤ x + n
    later x m n le = omega (arith, le)

-- what follows from a law of the entries of a list
from-map : {X : Type 0} (P Q : ℕ → X → Type 0) (n : ℕ) (xs : List X) → ((m : ℕ) (x : X) → P m x → Q m x) → AllFrom P n xs → AllFrom Q n xs
from-map P Q n [] h all = tt
from-map P Q n (x ∷ xs) h all = (h n x all.0, from-map P Q (n + 1) xs h all.1)

-- a law of numbers behind `base` is one of numbers from `base` on
from-base : {X : Type 0} (P : ℕ → X → Type 0) (base n : ℕ) (xs : List X) → AllFrom (λ m x. P (base + m) x) n xs → AllFrom P (base + n) xs
from-base P base n [] h = tt
from-base P base n (x ∷ xs) h = (h.0, subst (λ m. AllFrom P m xs) (one_more base n) (from-base P base (n + 1) xs h.1))
  where
    one_more : (base n : ℕ) → base + (n + 1) ≡ base + n + 1
    one_more base n = omega arith

behind-base : {X : Type 0} (P : ℕ → X → Type 0) (base n : ℕ) (xs : List X) → AllFrom P (base + n) xs → AllFrom (λ m x. P (base + m) x) n xs
behind-base P base n [] h = tt
behind-base P base n (x ∷ xs) h = (h.0, behind-base P base (n + 1) xs (subst (λ m. AllFrom P m xs) (one_more base n) h.1))
  where
    one_more : (base n : ℕ) → base + n + 1 ≡ base + (n + 1)
    one_more base n = omega arith

none_more : (n : ℕ) → n ≡ n + 0
none_more n = omega arith

-- the depths of two lists one behind the other agree with both
lists-agree : (base : ℕ) (os hs : List ℕ) → base ≡ length os → Agrees base (entry (os ++ hs)) start os hs
lists-agree base os hs e = record {
  occs = from-map (λ n x. slice_get (os ++ hs) n ≡ Some x) (λ n x. entry (os ++ hs) n ≡ x) 0 os (λ n x is. ap (λ o. option_map_or (λ m. m) o 0) is)
      (from-left (λ n x. slice_get (os ++ hs) n ≡ Some x) 0 os hs (all-stand [] (os ++ hs)));
  hidden = behind-base (λ n x. entry (os ++ hs) n ≡ x) base 0 hs
      (from-map (λ n x. slice_get (os ++ hs) n ≡ Some x) (λ n x. entry (os ++ hs) n ≡ x) (base + 0) hs (λ n x is. ap (λ o. option_map_or (λ m. m) o 0) is)
      (subst (λ m. AllFrom (λ n x. slice_get (os ++ hs) n ≡ Some x) m hs) (sym e ∙ none_more base) (all-stand os hs)));
}

-- ---- from depths to heights

-- each occurrence of parts that lie deep, one behind the other
all-lie : (base : ℕ) (depth : ℕ → ℕ) (p : Parts) → base ≡ length p.occs → LieDeep base depth start p → (k : ℕ) (occ : Occ) → slice_get (p.occs ++ p.hidden) k ≡ Some occ → LiesDeep depth k occ
all-lie base depth p e h k occ is =
    subst (λ m. LiesDeep depth m occ) (no_more k)
    (from-get (LiesDeep depth) 0 (p.occs ++ p.hidden)
    (from-append (LiesDeep depth) 0 p.occs p.hidden h.occs (subst (λ m. AllFrom (LiesDeep depth) m p.hidden) (behind base (length p.occs) e) (from-base (LiesDeep depth) base 0 p.hidden h.hidden))) k occ is)
  where
    no_more : (n : ℕ) → 0 + n ≡ n
    no_more n = omega arith

    behind : (b n : ℕ) → b ≡ n → b + 0 ≡ 0 + n
    behind b n g = omega (arith, g)

one-of : {X : Type 0} (P : X → Type 0) (xs : List X) → AllByRecursion P xs → (n : ℕ) (x : X) → slice_get xs n ≡ Some x → P x
one-of P [] h n x is = absurd (cc)
one-of {X = X} P (y ∷ ys) h zero x is = subst P (same y x is) h.0
  where
    same : (y x : X) → Some y ≡ Some x → y ≡ x
    same y x e = cc
one-of P (y ∷ ys) h (suc n) x is = one-of P ys h.1 n x is

-- heights are depths from below
form-heights : (f : FlatForm) (depth : ℕ → ℕ) (top : ℕ) → ((k : ℕ) → depth k < top) → ((k : ℕ) (occ : Occ) → slice_get f.occs k ≡ Some occ → LiesDeep depth k occ) → HasHeights f
form-heights f depth top bound lies = record {
  height = λ k. top - depth k;
  parts = λ whole k occ is has. let a = lies whole occ is in higher whole k (one-of (λ j. depth whole < depth j) _ a.parts has.index k has.is);
  calls = λ k call occ is called. let a = lies k occ is in higher call k (subst (λ o. IsBelow depth o (depth k)) called a.call);
}
  where
    higher : (whole k : ℕ) → depth whole < depth k → top - depth k < top - depth whole
    higher whole k lt = let lt2 = bound whole in omega (arith, lt, lt2)

-- a form made of parts that have depths has heights
form-of-heights : (base : ℕ) (p : Parts) (ins outs : List ℕ) (G : (ℕ → ℕ) → Type 0) → base ≡ length p.occs → Depths base start p Nothing G → HasHeights (form_of p ins outs)
form-of-heights base p ins outs G behind all =
    let depth = entry (all.occs ++ all.hidden) in
    form-heights (form_of p ins outs) depth (suc (total (all.occs ++ all.hidden))) (bound (all.occs ++ all.hidden))
    (all-lie base depth p behind (all.laws depth (lists-agree base all.occs all.hidden (behind ∙ sym all.occs_length)) tt))
  where
    bound : (ds : List ℕ) (k : ℕ) → entry ds k < suc (total ds)
    bound ds k = let le = entry-bound ds k in omega (arith, le)

-- ---- main

-- each occurrence of the form of `main` is higher than its parts, and each call than what stands in its arguments and its copy
pub main-heights : (names : List (List ℕ)) (m : MainOf) → IsMainKept names m → HasHeights (main_form names m)
unfolding main_form main_parts
main-heights names m h =
    let base = (main_size m).occs in
    let cs = with_callees base names [] [] m.before in
    let sizes = sizes_of m in
    let i = instance base names (found cs) sizes m.main 0 0 in
    let d = m.main.decl in
    let here = main_here base names d in
    let definers = input_definers 0 d.params in
    let k = known_after (built_in names) m.before in
    let callees = callees-hold (CopyDepths base) no_facts base names (copies-deep base names) [] [] (built_in names) m.before tt (nothing-known names) h.counted h.before (all-facts base names [] [] m.before) in
    let a = inside-of base names (found cs) sizes m.main 0 0 k h.counted_main h.main in
    let body = decl-holds (deep base) (CopyDepths base) base names i k d (forms-deep base names i) (equations-deep base names i) (has-calls (CopyDepths base) names cs i k refl callees.0 callees.1) a in
    form-of-heights base _ _ _ _ h.hidden_behind (block-before base (main_block base names d) (body_copy-depths base names i d definers body here (past_block start) 0))
