-- What is found by name, by the place of the name among others.
use Rattle.std.proofs.Common.{◌≡◌, ℕ, zero, suc, ◌+◌, ◌<◌, ◌≤◌, Bool, true, false, cond, nat_eq, List, [], ◌∷◌, ◌++◌, map, length, take, Option, Some, None, slice_get, is_some, refl, sym, ap, ◌∙◌, arith}
use Rattle.std.specs.List.{position, position_from}
use Rattle.std.specs.Option.{option_map, option_map_or}
use Rattle.std.proofs.lemmas.Iterator.Adapters.{position_from-zero}
use Rattle.std.proofs.lemmas.Bool.{eqb-true, eq-eqb}
use Rattle.std.proofs.lemmas.Grind.{common_steps}
use Rattle.std.proofs.lemmas.Option.{slice_get-map}
use Rattle.std.proofs.lemmas.List.{map-append, append_assoc, append-nil}
use Rattle.zl_value.specs.declared.position.Pos.{Pos}
use Rattle.zl_value.specs.declared.value.Ty.{Ty}
use Rattle.zl_ast.specs.declared.scope.VarInfo.{VarInfo}
use Rattle.zl_flat.specs.declared.size.Size.{Size}
use Rattle.zl_flat.specs.FirstPlaces.{place_in_text}
use Rattle.zl_ast.specs.declared.program.Decl.{Decl}
use Rattle.zl_flat.specs.Capped.{cap, capped}
use Rattle.zl_flat.specs.Sizes.{none, in_call, called_size, decl_size}
use Rattle.zl_flat.specs.ScopedDecls.{Scoped, scoped, Named, found, with_name, with_sizes}

-- ---- the place of a name

-- the first that passes the test, from 0
unfoldable pub first_place : {A : Type 0} → (A → Bool) → List A → Option ℕ
first_place test [] = None
first_place test (y ∷ ys) = cond (test y) (Some 0) (option_map suc (first_place test ys))

abbrev pub place : ℕ → List ℕ → Option ℕ
place id ys = first_place (nat_eq id) ys

from-here : (i : ℕ) → i ≡ i + 0
from-here i = omega arith

one-on : (i k : ℕ) → i + 1 + k ≡ i + suc k
one-on i k = omega arith

shift-step : (i : ℕ) (b : Bool) (p q : Option ℕ) → p ≡ option_map (λ k. i + 1 + k) q → cond b (Some i) p ≡ option_map (λ k. i + k) (cond b (Some 0) (option_map suc q))
shift-step i true p q e = ap (λ k. Some k) (from-here i)
shift-step i false p None e = e
shift-step i false p (Some k) e = e ∙ ap (λ n. Some n) (one-on i k)

shifted : {A : Type 0} (test : A → Bool) (i : ℕ) (ys : List A) → position_from test i ys ≡ option_map (λ k. i + k) (first_place test ys)
unfolding first_place
shifted test i [] = refl
shifted test i (y ∷ ys) = shift-step i (test y) (position_from test (i + 1) ys) (first_place test ys) (shifted test (i + 1) ys)

zero-on : (k : ℕ) → 0 + k ≡ k
zero-on k = omega arith

from-zero : (q : Option ℕ) → option_map (λ k. 0 + k) q ≡ q
from-zero None = refl
from-zero (Some k) = ap (λ n. Some n) (zero-on k)

pub position-first : {A : Type 0} (test : A → Bool) (ys : List A) → position test ys ≡ first_place test ys
position-first test ys = position_from-zero test ys ∙ shifted test 0 ys ∙ from-zero (first_place test ys)

pub position-place : (id : ℕ) (ys : List ℕ) → position (nat_eq id) ys ≡ place id ys
position-place id ys = position-first (nat_eq id) ys

-- ---- what stands there

unfoldable pub taken : {A B : Type 0} → (A → B) → List A → Option ℕ → Option B
taken f xs None = None
taken f xs (Some k) = option_map f (slice_get xs k)

taken-step : {A B : Type 0} (f : A → B) (b : Bool) (x : A) (xs : List A) (r : Option B) (q : Option ℕ) → r ≡ taken f xs q → cond b (Some (f x)) r ≡ taken f (x ∷ xs) (cond b (Some 0) (option_map suc q))
unfolding taken
taken-step f true x xs r q e = refl
taken-step f false x xs r None e = e
taken-step f false x xs r (Some k) e = e

both-ways-at : (a b : ℕ) (c d : Bool) → nat_eq a b ≡ c → nat_eq b a ≡ d → c ≡ d
both-ways-at a b true true p q = refl
both-ways-at a b false false p q = refl
both-ways-at a b true false p q = sym (eq-eqb b a (sym (eqb-true a b p))) ∙ q
both-ways-at a b false true p q = sym p ∙ eq-eqb a b (sym (eqb-true b a q))

pub both-ways : (a b : ℕ) → nat_eq a b ≡ nat_eq b a
both-ways a b = both-ways-at a b (nat_eq a b) (nat_eq b a) refl refl

pub text-place : (vs : List VarInfo) (id : ℕ) → place_in_text vs id ≡ taken (λ v. v.at) vs (place id (map (λ v. v.name) vs))
unfolding first_place taken
text-place [] id = refl
text-place (v ∷ vs) id =
    ap (λ b. cond b (Some v.at) (place_in_text vs id)) (both-ways v.name id)
    ∙ taken-step (λ v. v.at) (nat_eq id v.name) v vs (place_in_text vs id) (place id (map (λ v. v.name) vs)) (text-place vs id)

pub found-place : {A : Type 0} (xs : List (Named A)) (id : ℕ) → found xs id ≡ taken (λ x. x.what) xs (place id (map (λ x. x.name) xs))
unfolding first_place taken
found-place [] id = refl
found-place (x ∷ xs) id =
    ap (λ b. cond b (Some x.what) (found xs id)) (both-ways x.name id)
    ∙ taken-step (λ x. x.what) (nat_eq id x.name) x xs (found xs id) (place id (map (λ x. x.name) xs)) (found-place xs id)

-- ---- the names of the first declarations

unfoldable pub cut : ℕ → ℕ → Option ℕ
cut zero k = None
cut (suc n) zero = Some 0
cut (suc n) (suc k) = option_map suc (cut n k)

unfoldable pub cut_at : ℕ → Option ℕ → Option ℕ
cut_at n None = None
cut_at n (Some k) = cut n k

pub cut-within : (n k : ℕ) → k < n → cut n k ≡ Some k
unfolding cut
cut-within zero k h = absurd (omega arith)
cut-within (suc n) zero h = refl
cut-within (suc n) (suc k) h = ap (λ o. option_map suc o) (cut-within n k (omega arith))

pub cut-past : (n k : ℕ) → n ≤ k → cut n k ≡ None
unfolding cut
cut-past zero k h = refl
cut-past (suc n) zero h = absurd (omega arith)
cut-past (suc n) (suc k) h = ap (λ o. option_map suc o) (cut-past n k (omega arith))

cut-none : (q : Option ℕ) → None ≡ cut_at 0 q
unfolding cut_at cut
cut-none None = refl
cut-none (Some k) = refl

cut-step : (n : ℕ) (b : Bool) (q : Option ℕ) → cond b (Some 0) (option_map suc (cut_at n q)) ≡ cut_at (suc n) (cond b (Some 0) (option_map suc q))
unfolding cut_at cut
cut-step n true q = refl
cut-step n false None = refl
cut-step n false (Some k) = refl

none-cut : (n : ℕ) → None ≡ cut_at n None
unfolding cut_at
none-cut n = refl

-- no number is none of the first
pub uncut-none : (n : ℕ) (q : Option ℕ) → None ≡ q → cut_at n q ≡ None
unfolding cut_at
uncut-none n q e = ap (λ o. cut_at n o) (sym e)

-- nor is a number behind them
pub uncut-later : (n k : ℕ) (q : Option ℕ) → Some k ≡ q → n ≤ k → cut_at n q ≡ None
unfolding cut_at
uncut-later n k q e h = ap (λ o. cut_at n o) (sym e) ∙ cut-past n k h

pub place-take : (id n : ℕ) (ys : List ℕ) → place id (take n ys) ≡ cut_at n (place id ys)
unfolding first_place
place-take id zero ys = cut-none (place id ys)
place-take id (suc n) [] = none-cut (suc n)
place-take id (suc n) (y ∷ ys) =
    ap (λ p. cond (nat_eq id y) (Some 0) (option_map suc p)) (place-take id n ys)
    ∙ cut-step n (nat_eq id y) (place id ys)

-- ---- what a declaration's variables are

infos-at : (ds : List Decl) (vss : List (List VarInfo)) (tss : List (List Ty)) (n : ℕ) → length vss ≡ length ds → length tss ≡ length ds → option_map_or (λ d. d.infos) (slice_get (scoped ds vss tss) n) [] ≡ option_map_or (λ v. v) (slice_get vss n) []
infos-at [] [] tss n p q = refl
infos-at [] (vs ∷ vss) tss n p q = absurd (omega arith)
infos-at (d ∷ ds) [] tss n p q = refl
infos-at (d ∷ ds) (vs ∷ vss) [] n p q = absurd (omega arith)
infos-at (d ∷ ds) (vs ∷ vss) (ts ∷ tss) zero p q = refl
infos-at (d ∷ ds) (vs ∷ vss) (ts ∷ tss) (suc n) p q = infos-at ds vss tss n (omega arith) (omega arith)

types-at : (ds : List Decl) (vss : List (List VarInfo)) (tss : List (List Ty)) (n : ℕ) → length vss ≡ length ds → length tss ≡ length ds → option_map_or (λ d. d.types) (slice_get (scoped ds vss tss) n) [] ≡ option_map_or (λ v. v) (slice_get tss n) []
types-at [] vss [] n p q = refl
types-at [] vss (ts ∷ tss) n p q = absurd (omega arith)
types-at (d ∷ ds) [] tss n p q = absurd (omega arith)
types-at (d ∷ ds) (vs ∷ vss) [] n p q = absurd (omega arith)
types-at (d ∷ ds) (vs ∷ vss) (ts ∷ tss) zero p q = refl
types-at (d ∷ ds) (vs ∷ vss) (ts ∷ tss) (suc n) p q = types-at ds vss tss n (omega arith) (omega arith)

-- those of a declaration that is there
pub its-infos : (ds : List Decl) (vss : List (List VarInfo)) (tss : List (List Ty)) (n : ℕ) (vs : List VarInfo) → length vss ≡ length ds → length tss ≡ length ds → slice_get vss n ≡ Some vs → option_map_or (λ d. d.infos) (slice_get (scoped ds vss tss) n) [] ≡ vs
its-infos ds vss tss n vs p q e = infos-at ds vss tss n p q ∙ ap (λ o. option_map_or (λ v. v) o []) e

pub no-infos : (ds : List Decl) (vss : List (List VarInfo)) (tss : List (List Ty)) (n : ℕ) → length vss ≡ length ds → length tss ≡ length ds → slice_get vss n ≡ None → option_map_or (λ d. d.infos) (slice_get (scoped ds vss tss) n) [] ≡ []
no-infos ds vss tss n p q e = infos-at ds vss tss n p q ∙ ap (λ o. option_map_or (λ v. v) o []) e

pub its-types : (ds : List Decl) (vss : List (List VarInfo)) (tss : List (List Ty)) (n : ℕ) (ts : List Ty) → length vss ≡ length ds → length tss ≡ length ds → slice_get tss n ≡ Some ts → option_map_or (λ d. d.types) (slice_get (scoped ds vss tss) n) [] ≡ ts
its-types ds vss tss n ts p q e = types-at ds vss tss n p q ∙ ap (λ o. option_map_or (λ v. v) o []) e

pub no-types-there : (ds : List Decl) (vss : List (List VarInfo)) (tss : List (List Ty)) (n : ℕ) → length vss ≡ length ds → length tss ≡ length ds → slice_get tss n ≡ None → option_map_or (λ d. d.types) (slice_get (scoped ds vss tss) n) [] ≡ []
no-types-there ds vss tss n p q e = types-at ds vss tss n p q ∙ ap (λ o. option_map_or (λ v. v) o []) e

abbrev pub infos_of : List Decl → List (List VarInfo) → List (List Ty) → ℕ → List VarInfo
infos_of ds vss tss n = option_map_or (λ d. d.infos) (slice_get (scoped ds vss tss) n) []

abbrev pub types_of : List Decl → List (List VarInfo) → List (List Ty) → ℕ → List Ty
types_of ds vss tss n = option_map_or (λ d. d.types) (slice_get (scoped ds vss tss) n) []

abbrev pub names_of : List VarInfo → List ℕ
names_of vs = map (λ v. v.name) vs

-- the names of a declaration's variables, where these are those of all declarations
indexed-at : (o : Option (List VarInfo)) (ix : List ℕ) → option_map names_of o ≡ Some ix → ix ≡ names_of (option_map_or (λ v. v) o [])
indexed-at None ix e = cc
indexed-at (Some vs) ix e = sym (ap (λ o. option_map_or (λ x. x) o []) e)

unindexed-at : (o : Option (List VarInfo)) → option_map names_of o ≡ None → option_map_or (λ v. v) o [] ≡ []
unindexed-at None e = refl
unindexed-at (Some vs) e = cc

pub indexed : (ds : List Decl) (vss : List (List VarInfo)) (tss : List (List Ty)) (n : ℕ) (vars : List (List ℕ)) (ix : List ℕ) → length vss ≡ length ds → length tss ≡ length ds → vars ≡ map (λ infos. map (λ v. v.name) infos) vss → slice_get vars n ≡ Some ix → ix ≡ names_of (infos_of ds vss tss n)
indexed ds vss tss n vars ix p q v e =
    indexed-at (slice_get vss n) ix (sym (slice_get-map names_of vss n) ∙ ap (λ l. slice_get l n) (sym v) ∙ e)
    ∙ ap (λ vs. names_of vs) (sym (infos-at ds vss tss n p q))

pub unindexed : (ds : List Decl) (vss : List (List VarInfo)) (tss : List (List Ty)) (n id : ℕ) (vars : List (List ℕ)) → length vss ≡ length ds → length tss ≡ length ds → vars ≡ map (λ infos. map (λ v. v.name) infos) vss → slice_get vars n ≡ None → None ≡ position (nat_eq id) (names_of (infos_of ds vss tss n))
unindexed ds vss tss n id vars p q v e =
    ap (λ vs. position (nat_eq id) (names_of vs)) (sym (infos-at ds vss tss n p q ∙ unindexed-at (slice_get vss n) (sym (slice_get-map names_of vss n) ∙ ap (λ l. slice_get l n) (sym v) ∙ e)))

-- ---- where a variable stands in the text

there-step : (b : Bool) (x : Pos) (r : Option Pos) (q : Option ℕ) → is_some q ≡ is_some r → is_some (cond b (Some 0) (option_map suc q)) ≡ is_some (cond b (Some x) r)
there-step true x r q e = refl
there-step false x r None e = e
there-step false x r (Some k) e = e

is-there : (vs : List VarInfo) (id : ℕ) → is_some (place id (names_of vs)) ≡ is_some (place_in_text vs id)
unfolding first_place
is-there [] id = refl
is-there (v ∷ vs) id =
    there-step (nat_eq id v.name) v.at (place_in_text vs id) (place id (names_of vs)) (is-there vs id)
    ∙ ap (λ b. is_some (cond b (Some v.at) (place_in_text vs id))) (both-ways id v.name)

pub is-variable : (vs : List VarInfo) (id : ℕ) → is_some (position (nat_eq id) (names_of vs)) ≡ is_some (place_in_text vs id)
is-variable vs id = ap (λ o. is_some o) (position-place id (names_of vs)) ∙ is-there vs id

pub text-found : (vs : List VarInfo) (id k : ℕ) (v : VarInfo) → Some k ≡ position (nat_eq id) (names_of vs) → slice_get vs k ≡ Some v → Some v.at ≡ place_in_text vs id
unfolding taken
text-found vs id k v p e =
    sym (text-place vs id ∙ ap (λ o. taken (λ x. x.at) vs o) (sym (p ∙ position-place id (names_of vs))) ∙ ap (λ o. option_map (λ x. x.at) o) e)

pub text-past : (vs : List VarInfo) (id k : ℕ) → Some k ≡ position (nat_eq id) (names_of vs) → slice_get vs k ≡ None → None ≡ place_in_text vs id
unfolding taken
text-past vs id k p e =
    sym (text-place vs id ∙ ap (λ o. taken (λ x. x.at) vs o) (sym (p ∙ position-place id (names_of vs))) ∙ ap (λ o. option_map (λ x. x.at) o) e)

pub text-none : (vs : List VarInfo) (id : ℕ) → None ≡ position (nat_eq id) (names_of vs) → None ≡ place_in_text vs id
unfolding taken
text-none vs id p =
    sym (text-place vs id ∙ ap (λ o. taken (λ x. x.at) vs o) (sym (p ∙ position-place id (names_of vs))))

-- ---- the sizes of the declarations before

abbrev pub sized_to : ℕ → List Scoped → List (Named Size)
sized_to n ds = with_sizes [] (take n ds)

names-with : (known : List (Named Size)) (ds : List Scoped) → map (λ x. x.name) (with_sizes known ds) ≡ map (λ x. x.name) known ++ map (λ d. d.decl.name.id) ds
names-with known [] = sym (append-nil _)
names-with known (d ∷ ds) =
    names-with (with_name known d.decl.name.id (decl_size d.infos (found known) d.decl)) ds
    ∙ ap (λ xs. xs ++ map (λ d. d.decl.name.id) ds) (map-append (λ x. x.name) known _)
    ∙ append_assoc (map (λ x. x.name) known) (d.decl.name.id ∷ []) (map (λ d. d.decl.name.id) ds)

pub names-scoped : (ds : List Decl) (vss : List (List VarInfo)) (tss : List (List Ty)) → length vss ≡ length ds → length tss ≡ length ds → map (λ d. d.decl.name.id) (scoped ds vss tss) ≡ map (λ d. d.name.id) ds
names-scoped [] [] tss p q = refl
names-scoped [] (vs ∷ vss) tss p q = absurd (omega arith)
names-scoped (d ∷ ds) [] tss p q = absurd (omega arith)
names-scoped (d ∷ ds) (vs ∷ vss) [] p q = absurd (omega arith)
names-scoped (d ∷ ds) (vs ∷ vss) (ts ∷ tss) p q = ap (λ xs. d.name.id ∷ xs) (names-scoped ds vss tss (omega arith) (omega arith))

map-take : {A B : Type 0} (f : A → B) (n : ℕ) (xs : List A) → map f (take n xs) ≡ take n (map f xs)
map-take f zero xs = refl
map-take f (suc n) [] = refl
map-take f (suc n) (x ∷ xs) = ap (λ ys. f x ∷ ys) (map-take f n xs)

get-take : {A : Type 0} (n k : ℕ) (xs : List A) → k < n → slice_get (take n xs) k ≡ slice_get xs k
get-take zero k xs h = absurd (omega arith)
get-take (suc n) k [] h = refl
get-take (suc n) zero (x ∷ xs) h = refl
get-take (suc n) (suc k) (x ∷ xs) h = get-take n k xs (omega arith)

-- what is known of a name, by its place among the names of the declarations
known-place : (ds : List Decl) (vss : List (List VarInfo)) (tss : List (List Ty)) (n id : ℕ) → length vss ≡ length ds → length tss ≡ length ds → found (sized_to n (scoped ds vss tss)) id ≡ taken (λ x. x.what) (sized_to n (scoped ds vss tss)) (cut_at n (position (nat_eq id) (map (λ d. d.name.id) ds)))
known-place ds vss tss n id p q =
    found-place (sized_to n (scoped ds vss tss)) id
    ∙ ap (λ ys. taken (λ x. x.what) (sized_to n (scoped ds vss tss)) (place id ys)) (names-with [] (take n (scoped ds vss tss)) ∙ map-take (λ d. d.decl.name.id) n (scoped ds vss tss) ∙ ap (λ ys. take n ys) (names-scoped ds vss tss p q))
    ∙ ap (λ o. taken (λ x. x.what) (sized_to n (scoped ds vss tss)) o) (place-take id n (map (λ d. d.name.id) ds) ∙ ap (λ o. cut_at n o) (sym (position-place id (map (λ d. d.name.id) ds))))

one-more : (a : ℕ) → cap (cap a + 1) ≡ cap (a + 1)
one-more a = omega arith

same-cap : (a : ℕ) → cap (cap a) ≡ cap a
same-cap a = omega arith

capped-in_call : (s : Size) → capped (in_call (capped s)) ≡ capped (in_call s)
unfolding capped in_call
capped-in_call s = λ i. record { places = same-cap s.places i; occs = same-cap s.occs i; sites = same-cap s.sites i; blocks = same-cap s.blocks i; calls = one-more s.calls i }

called-known : (o : Option (Named Size)) (s : Size) → option_map (λ x. capped x.what) o ≡ Some s → capped (in_call s) ≡ capped (called_size (option_map (λ x. x.what) o))
called-known None s e = cc
called-known (Some x) s e = sym (ap (λ o. capped (in_call (option_map_or (λ y. y) o none))) e) ∙ capped-in_call x.what

called-unknown : (o : Option (Named Size)) → option_map (λ x. capped x.what) o ≡ None → capped none ≡ capped (called_size (option_map (λ x. x.what) o))
called-unknown None e = refl
called-unknown (Some x) e = cc

module _ (ds : List Decl) (vss : List (List VarInfo)) (tss : List (List Ty)) (n id : ℕ) (p : length vss ≡ length ds) (q : length tss ≡ length ds) where
  at-place : (o : Option ℕ) → cut_at n (position (nat_eq id) (map (λ d. d.name.id) ds)) ≡ o → capped (called_size (taken (λ x. x.what) (sized_to n (scoped ds vss tss)) o)) ≡ capped (called_size (found (sized_to n (scoped ds vss tss)) id))
  at-place o e = sym (ap (λ o. capped (called_size o)) (known-place ds vss tss n id p q ∙ ap (λ o. taken (λ x. x.what) (sized_to n (scoped ds vss tss)) o) e))

  here-cut : (k : ℕ) → Some k ≡ position (nat_eq id) (map (λ d. d.name.id) ds) → k < n → cut_at n (position (nat_eq id) (map (λ d. d.name.id) ds)) ≡ Some k
  unfolding cut_at
  here-cut k e h = ap (λ o. cut_at n o) (sym e) ∙ cut-within n k h

  its-capped : (k : ℕ) (sizes : List Size) (o : Option Size) → take n sizes ≡ map (λ x. capped x.what) (sized_to n (scoped ds vss tss)) → k < n → slice_get sizes k ≡ o → option_map (λ x. capped x.what) (slice_get (sized_to n (scoped ds vss tss)) k) ≡ o
  its-capped k sizes o s h e = sym (slice_get-map (λ x. capped x.what) (sized_to n (scoped ds vss tss)) k) ∙ ap (λ l. slice_get l k) (sym s) ∙ get-take n k sizes h ∙ e

  pub called-found : (k : ℕ) (sizes : List Size) (size : Size) → Some k ≡ position (nat_eq id) (map (λ d. d.name.id) ds) → take n sizes ≡ map (λ x. capped x.what) (sized_to n (scoped ds vss tss)) → k < n → slice_get sizes k ≡ Some size → capped (in_call size) ≡ capped (called_size (found (sized_to n (scoped ds vss tss)) id))
  unfolding taken
  called-found k sizes size e s h g = called-known (slice_get (sized_to n (scoped ds vss tss)) k) size (its-capped k sizes (Some size) s h g) ∙ at-place (Some k) (here-cut k e h)

  pub called-past : (k : ℕ) (sizes : List Size) → Some k ≡ position (nat_eq id) (map (λ d. d.name.id) ds) → take n sizes ≡ map (λ x. capped x.what) (sized_to n (scoped ds vss tss)) → k < n → slice_get sizes k ≡ None → capped none ≡ capped (called_size (found (sized_to n (scoped ds vss tss)) id))
  unfolding taken
  called-past k sizes e s h g = called-unknown (slice_get (sized_to n (scoped ds vss tss)) k) (its-capped k sizes None s h g) ∙ at-place (Some k) (here-cut k e h)

  pub called-later : (k : ℕ) → Some k ≡ position (nat_eq id) (map (λ d. d.name.id) ds) → n ≤ k → capped none ≡ capped (called_size (found (sized_to n (scoped ds vss tss)) id))
  unfolding taken cut_at
  called-later k e h = at-place None (ap (λ o. cut_at n o) (sym e) ∙ cut-past n k h)

  pub called-none : None ≡ position (nat_eq id) (map (λ d. d.name.id) ds) → capped none ≡ capped (called_size (found (sized_to n (scoped ds vss tss)) id))
  unfolding taken cut_at
  called-none e = at-place None (ap (λ o. cut_at n o) (sym e))

pub ruleset knowing = (common_steps, is-variable)
