-- Where `main` stands, and what its counts say of the limits.
use Rattle.std.proofs.Common.{◌≡◌, ℕ, zero, suc, ◌+◌, ◌<◌, ◌≤◌, Bool, true, false, ◌||◌, cond, List, [], ◌∷◌, ◌++◌, map, length, take, Option, Some, None, slice_get, get_or, drop, refl, sym, ap, ◌∙◌, arith}
use Rattle.std.specs.List.{list_any, position, position_from}
use Rattle.std.specs.Option.{option_map, option_map_or}
use Rattle.std.proofs.lemmas.Grind.{common_steps}
use Rattle.std.proofs.lemmas.List.{map-append, length-append, length-map, length-take, take_all, take_more, drop_more, drop_all}
use Rattle.std.proofs.lemmas.Option.{get_or_from_slice_get, slice_get_within}
use Rattle.zl_value.specs.declared.value.Ty.{Ty}
use Rattle.zl_ast.specs.declared.scope.VarInfo.{VarInfo}
use Rattle.zl_ast.specs.declared.program.Decl.{Decl}
use Rattle.zl_ast.specs.Names.{is_main}
use Rattle.zl_flat.specs.declared.size.Size.{Size}
use Rattle.zl_flat.specs.Capped.{capped}
use Rattle.zl_flat.specs.Sizes.{plus, a_block, decl_size}
use Rattle.zl_flat.specs.Limits.{Fits, Passes}
use Rattle.zl_flat.specs.Limits.Passes.{OfPlaces, OfOccs, OfSites, OfBlocks, OfCalls}
use Rattle.zl_flat.specs.ScopedDecls.{Scoped, scoped, Named, found, with_name, with_sizes, MainOf, behind, main_of, main_size}
use Rattle.zl_expand.proofs.KnownLemmas.{first_place, position-first}
use Rattle.zl_expand.proofs.SizeSums.{capped-left, capped-right}

-- ---- a search

-- one is passed over
pub search-more : {A : Type 0} (test : A → Bool) (xs : List A) (i : ℕ) (x : A) → i < length xs → x ≡ get_or xs i x → test x ≡ false → position_from test i (drop i xs) ≡ position_from test (i + 1) (drop (i + 1) xs)
search-more test xs i x h e f =
    ap (λ ys. position_from test i ys) (drop_more xs i x h)
    ∙ ap (λ y. position_from test i (y ∷ drop (i + 1) xs)) (sym e)
    ∙ ap (λ b. cond b (Some i) (position_from test (i + 1) (drop (i + 1) xs))) f

-- one passes
pub search-here : {A : Type 0} (test : A → Bool) (xs : List A) (i : ℕ) (x : A) → i < length xs → x ≡ get_or xs i x → test x ≡ true → position_from test i (drop i xs) ≡ Some i
search-here test xs i x h e f =
    ap (λ ys. position_from test i ys) (drop_more xs i x h)
    ∙ ap (λ y. position_from test i (y ∷ drop (i + 1) xs)) (sym e)
    ∙ ap (λ b. cond b (Some i) (position_from test (i + 1) (drop (i + 1) xs))) f

-- none passes
pub search-end : {A : Type 0} (test : A → Bool) (xs : List A) (n : ℕ) → length xs ≤ n → position_from test n (drop n xs) ≡ None
search-end test xs n h = ap (λ ys. position_from test n ys) (drop_all n xs h)

-- ---- main

-- the declaration with this number, and those before it
unfoldable pub main_at : List Scoped → Option ℕ → Option MainOf
main_at ds None = None
main_at ds (Some n) = option_map (λ d. record { before = take n ds; main = d }) (slice_get ds n)

behind-option : (d : Scoped) (xs : List Scoped) (o : Option Scoped) → behind d (option_map (λ x. record { before = xs; main = x }) o) ≡ option_map (λ x. record { before = d ∷ xs; main = x }) o
behind-option d xs None = refl
behind-option d xs (Some x) = refl

behind-at : (d : Scoped) (ds : List Scoped) (n : ℕ) → behind d (main_at ds (Some n)) ≡ main_at (d ∷ ds) (Some (suc n))
unfolding main_at
behind-at d ds n = behind-option d (take n ds) (slice_get ds n)

main-step : (b : Bool) (d : Scoped) (ds : List Scoped) (m : Option MainOf) (q : Option ℕ) → m ≡ main_at ds q → cond b (Some (record { before = []; main = d })) (behind d m) ≡ main_at (d ∷ ds) (cond b (Some 0) (option_map suc q))
unfolding main_at
main-step true d ds m q e = refl
main-step false d ds m None e = ap (λ o. behind d o) e
main-step false d ds m (Some n) e = ap (λ o. behind d o) e ∙ behind-at d ds n

main-first : (names : List (List ℕ)) (ds : List Decl) (vss : List (List VarInfo)) (tss : List (List Ty)) → length vss ≡ length ds → length tss ≡ length ds → main_of names (scoped ds vss tss) ≡ main_at (scoped ds vss tss) (first_place (λ d. is_main names d.name.id) ds)
unfolding main_at first_place
main-first names [] [] tss p q = refl
main-first names [] (vs ∷ vss) tss p q = absurd (omega arith)
main-first names (d ∷ ds) [] tss p q = absurd (omega arith)
main-first names (d ∷ ds) (vs ∷ vss) [] p q = absurd (omega arith)
main-first names (d ∷ ds) (vs ∷ vss) (ts ∷ tss) p q = main-step (is_main names d.name.id) _ _ _ _ (main-first names ds vss tss (omega arith) (omega arith))

within-step : (b : Bool) (q : Option ℕ) (n k : ℕ) → ((j : ℕ) → q ≡ Some j → j < k) → cond b (Some 0) (option_map suc q) ≡ Some n → n < suc k
within-step true q n k f e = let z : 0 ≡ n = cc in omega arith
within-step false None n k f e = cc
within-step false (Some j) n k f e = let z : suc j ≡ n = cc in let h = f j refl in omega arith

first-within : {A : Type 0} (test : A → Bool) (ys : List A) (n : ℕ) → first_place test ys ≡ Some n → n < length ys
unfolding first_place
first-within test [] n e = cc
first-within test (y ∷ ys) n e = within-step (test y) (first_place test ys) n (length ys) (first-within test ys) e

-- the first that passes a test is there
pub position-within : {A : Type 0} (test : A → Bool) (ys : List A) (n : ℕ) → position test ys ≡ Some n → n < length ys
position-within test ys n e = first-within test ys n (sym (position-first test ys) ∙ e)

first-none : {A : Type 0} (test : A → Bool) (ys : List A) → first_place test ys ≡ None → list_any test ys ≡ false
unfolding first_place
first-none test [] e = refl
first-none test (y ∷ ys) e = by_test (test y) (first_place test ys) (list_any test ys) e (first-none test ys)
  where
    by_test : (b : Bool) (q : Option ℕ) (c : Bool) → cond b (Some 0) (option_map suc q) ≡ None → (q ≡ None → c ≡ false) → (b || c) ≡ false
    by_test true q c e f = cc
    by_test false None c e f = f refl
    by_test false (Some k) c e f = cc

-- one that passes a test is found
pub position-there : {A : Type 0} (test : A → Bool) (ys : List A) → position test ys ≡ None → list_any test ys ≡ true → ⊥
position-there test ys e t = let f : true ≡ false = sym t ∙ first-none test ys (sym (position-first test ys) ∙ e) in cc

-- a declaration with this number, with its variables
pub record HasScoped (ss : List Scoped) (n : ℕ) (decl : Decl) : Type 0 where
  pub one : Scoped
  pub there : slice_get ss n ≡ Some one
  pub is : one.decl ≡ decl

-- each declaration has its variables
pub scoped-there : (ds : List Decl) (vss : List (List VarInfo)) (tss : List (List Ty)) (n : ℕ) (other : Decl) → length vss ≡ length ds → length tss ≡ length ds → n < length ds → HasScoped (scoped ds vss tss) n (get_or ds n other)
scoped-there [] vss tss n other p q h = absurd (omega arith)
scoped-there (d ∷ ds) [] tss n other p q h = absurd (omega arith)
scoped-there (d ∷ ds) (vs ∷ vss) [] n other p q h = absurd (omega arith)
scoped-there (d ∷ ds) (vs ∷ vss) (ts ∷ tss) zero other p q h = record { one = record { decl = d; infos = vs; types = ts }; there = refl; is = refl }
scoped-there (d ∷ ds) (vs ∷ vss) (ts ∷ tss) (suc n) other p q h =
    let inner = scoped-there ds vss tss n other (omega arith) (omega arith) (omega arith) in
    record { one = inner.one; there = inner.there; is = inner.is }

-- a declaration with its variables is that of its number
pub scoped-decl : (ds : List Decl) (vss : List (List VarInfo)) (tss : List (List Ty)) (n : ℕ) (one : Scoped) → slice_get (scoped ds vss tss) n ≡ Some one → (d : Decl) → get_or ds n d ≡ one.decl
scoped-decl [] vss tss n one e x = cc
scoped-decl (d ∷ ds) [] tss n one e x = cc
scoped-decl (d ∷ ds) (vs ∷ vss) [] n one e x = cc
scoped-decl (d ∷ ds) (vs ∷ vss) (ts ∷ tss) zero one e x = ap (λ o. option_map_or (λ s. s.decl) o d) e
scoped-decl (d ∷ ds) (vs ∷ vss) (ts ∷ tss) (suc n) one e x = scoped-decl ds vss tss n one e x

-- the first declaration of `main`, and those before it
pub main-found : (names : List (List ℕ)) (ds : List Decl) (vss : List (List VarInfo)) (tss : List (List Ty)) (n : ℕ) (one : Scoped) → length vss ≡ length ds → length tss ≡ length ds → position (λ d. is_main names d.name.id) ds ≡ Some n → slice_get (scoped ds vss tss) n ≡ Some one → main_of names (scoped ds vss tss) ≡ Some (record { before = take n (scoped ds vss tss); main = one })
unfolding main_at
main-found names ds vss tss n one p q e there =
    main-first names ds vss tss p q
    ∙ ap (λ o. main_at (scoped ds vss tss) o) (sym (position-first (λ d. is_main names d.name.id) ds) ∙ e)
    ∙ ap (λ o. option_map (λ d. record { before = take n (scoped ds vss tss); main = d }) o) there

-- ---- the sizes of the declarations before

sizes-append : (known : List (Named Size)) (xs ys : List Scoped) → with_sizes known (xs ++ ys) ≡ with_sizes (with_sizes known xs) ys
sizes-append known [] ys = refl
sizes-append known (x ∷ xs) ys = sizes-append (with_name known x.decl.name.id (decl_size x.infos (found known) x.decl)) xs ys

take-get : {A : Type 0} (xs : List A) (n : ℕ) (x : A) → slice_get xs n ≡ Some x → take (n + 1) xs ≡ take n xs ++ x ∷ []
take-get xs n x e = take_more xs n x (slice_get_within xs n x e) ∙ ap (λ y. take n xs ++ y ∷ []) (get_or_from_slice_get xs n x x e)

-- the size of a declaration, by its number
its-size : (ss : List Scoped) (n : ℕ) (decl : Decl) (size : Size) (h : HasScoped ss n decl) → size ≡ capped (decl_size (option_map_or (λ d. d.infos) (slice_get ss n) []) (found (with_sizes [] (take n ss))) decl) → size ≡ capped (decl_size h.one.infos (found (with_sizes [] (take n ss))) h.one.decl)
its-size ss n decl size h e =
    let known = with_sizes [] (take n ss) in
    e
    ∙ ap (λ o. capped (decl_size (option_map_or (λ d. d.infos) o []) (found known) decl)) h.there
    ∙ ap (λ d. capped (decl_size h.one.infos (found known) d)) (sym h.is)

-- one declaration more
pub sizes-more : (ss : List Scoped) (n : ℕ) (decl : Decl) (sizes : List Size) (size : Size) → HasScoped ss n decl → sizes ≡ map (λ x. capped x.what) (with_sizes [] (take n ss)) → size ≡ capped (decl_size (option_map_or (λ d. d.infos) (slice_get ss n) []) (found (with_sizes [] (take n ss))) decl) → sizes ++ size ∷ [] ≡ map (λ x. capped x.what) (with_sizes [] (take (n + 1) ss))
sizes-more ss n decl sizes size h e g =
    let one = h.one in
    let known = with_sizes [] (take n ss) in
    let same = its-size ss n decl size h g in
    (λ i. e i ++ same i ∷ [])
    ∙ sym (map-append (λ x. capped x.what) known (record { name = one.decl.name.id; what = decl_size one.infos (found known) one.decl } ∷ []))
    ∙ ap (λ l. map (λ x. capped x.what) l) (sym (ap (λ l. with_sizes [] l) (take-get ss n one h.there) ∙ sizes-append [] (take n ss) (one ∷ [])))

length-sizes : (known : List (Named Size)) (ss : List Scoped) → length (with_sizes known ss) ≡ length known + length ss
length-sizes known [] = omega arith
length-sizes known (s ∷ ss) = omega (arith, length-sizes (with_name known s.decl.name.id (decl_size s.infos (found known) s.decl)) ss, length-append known (record { name = s.decl.name.id; what = decl_size s.infos (found known) s.decl } ∷ []))

-- the sizes of all declarations before are no more than these
pub sizes-whole : (ss : List Scoped) (n : ℕ) (sizes : List Size) → sizes ≡ map (λ x. capped x.what) (with_sizes [] (take n ss)) → take n sizes ≡ map (λ x. capped x.what) (with_sizes [] (take n ss))
sizes-whole ss n sizes e =
    take_all n sizes (omega (arith, ap length e, length-map (with_sizes [] (take n ss)) (λ x. capped x.what), length-sizes [] (take n ss), length-take n ss)) ∙ e

-- ---- the counts of `main`

pub main-counted : (ss : List Scoped) (n : ℕ) (decl : Decl) (block one size : Size) (h : HasScoped ss n decl) → block ≡ capped a_block → one ≡ capped (decl_size (option_map_or (λ d. d.infos) (slice_get ss n) []) (found (with_sizes [] (take n ss))) decl) → size ≡ capped (plus block one) → size ≡ capped (main_size (record { before = take n ss; main = h.one }))
unfolding main_size
main-counted ss n decl block one size h b o e =
    let mine = decl_size h.one.infos (found (with_sizes [] (take n ss))) h.one.decl in
    let same = its-size ss n decl one h o in
    e ∙ (λ i. capped (plus (b i) (same i))) ∙ capped-left a_block (capped mine) ∙ capped-right a_block mine

-- ---- limits

-- the code's counts say of each limit what the true ones say
pub fits-capped : (s t : Size) → s ≡ capped t → Fits s → Fits t
unfolding capped
fits-capped s t e h = record {
  places = omega (arith, h.places, ap (λ z. z.places) e);
  occs = omega (arith, h.occs, ap (λ z. z.occs) e);
  sites = omega (arith, h.sites, ap (λ z. z.sites) e);
  blocks = omega (arith, h.blocks, ap (λ z. z.blocks) e);
  calls = omega (arith, h.calls, ap (λ z. z.calls) e);
}

pub passes-capped : (s t : Size) → s ≡ capped t → Passes s → Passes t
unfolding capped
passes-capped s t e (OfPlaces h) = OfPlaces (omega (arith, h, ap (λ z. z.places) e))
passes-capped s t e (OfOccs h) = OfOccs (omega (arith, h, ap (λ z. z.occs) e))
passes-capped s t e (OfSites h) = OfSites (omega (arith, h, ap (λ z. z.sites) e))
passes-capped s t e (OfBlocks h) = OfBlocks (omega (arith, h, ap (λ z. z.blocks) e))
passes-capped s t e (OfCalls h) = OfCalls (omega (arith, h, ap (λ z. z.calls) e))

pub ruleset limiting = (common_steps, scoped-there, position-within, position-there)
