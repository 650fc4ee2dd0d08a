-- The copy of a declaration before, by its number.
use Rattle.std.proofs.Common.{◌≡◌, ℕ, zero, suc, ◌+◌, ◌<◌, ◌≤◌, Bool, true, false, cond, nat_eq, List, [], ◌∷◌, ◌++◌, map, length, take, Option, Some, None, slice_get, refl, sym, ap, ◌∙◌, arith}
use Rattle.std.specs.List.{position}
use Rattle.std.specs.Option.{option_map}
use Rattle.std.proofs.lemmas.List.{take_all, length-append, append-nil, append_assoc, map-append, take-take, take-map, take_at}
use Rattle.zl_value.specs.declared.value.Ty.{Ty}
use Rattle.zl_ast.specs.declared.scope.VarInfo.{VarInfo}
use Rattle.zl_ast.specs.declared.program.Decl.{Decl}
use Rattle.zl_flat.specs.declared.size.Size.{Size}
use Rattle.zl_flat.specs.Capped.{capped}
use Rattle.zl_flat.specs.Sizes.{decl_size}
use Rattle.zl_flat.specs.ScopedDecls.{Scoped, scoped, Named, found, with_name, with_sizes}
use Rattle.zl_flat.specs.Instances.{Callee}
use Rattle.zl_flat.specs.Expansion.{decl_copy, with_callees}
use Rattle.zl_expand.proofs.KnownLemmas.{first_place, place, position-place, both-ways, names-scoped, found-place, taken, cut_at, place-take}

-- ---- the sizes of fewer declarations

abbrev more_sizes : List (Named Size) → Scoped → List (Named Size)
more_sizes known d = with_name known d.decl.name.id (decl_size d.infos (found known) d.decl)

length-more : (known : List (Named Size)) (d : Scoped) → length (more_sizes known d) ≡ length known + 1
length-more known d = length-append known _

-- the sizes that are known stay in front
take-known : (known : List (Named Size)) (ds : List Scoped) → take (length known) (with_sizes known ds) ≡ known
take-known known [] = take_all (length known) known (omega arith)
take-known known (d ∷ ds) =
    let more = more_sizes known d in
    let longer : length known ≤ length more = omega (arith, length-more known d) in
    sym (take-take (length known) (length more) (with_sizes more ds) longer)
    ∙ ap (λ l. take (length known) l) (take-known more ds)
    ∙ take_at known _ (length known) refl

-- the sizes of the first declarations are the first sizes
sizes-fewer : (m n : ℕ) (known : List (Named Size)) (ds : List Scoped) → m ≤ n → take (length known + m) (with_sizes known (take n ds)) ≡ with_sizes known (take m ds)
sizes-fewer zero n known ds h =
    let none : length known + 0 ≡ length known = omega arith in
    ap (λ k. take k (with_sizes known (take n ds))) none ∙ take-known known (take n ds)
sizes-fewer (suc m) zero known ds h = absurd (omega arith)
sizes-fewer (suc m) (suc n) known [] h = take_all (length known + suc m) known (omega arith)
sizes-fewer (suc m) (suc n) known (d ∷ ds) h =
    let same : length known + suc m ≡ length (more_sizes known d) + m = omega (arith, length-more known d) in
    ap (λ k. take k (with_sizes (more_sizes known d) (take n ds))) same ∙ sizes-fewer m n (more_sizes known d) ds (omega arith)

-- what is kept of the sizes of declarations serves fewer of them too
pub fewer-sized : (ds : List Scoped) (m n : ℕ) (sizes : List Size) → m ≤ n → take n sizes ≡ map (λ x. capped x.what) (with_sizes [] (take n ds)) → take m sizes ≡ map (λ x. capped x.what) (with_sizes [] (take m ds))
fewer-sized ds m n sizes h e =
    let none : m ≡ 0 + m = omega arith in
    sym (take-take m n sizes h)
    ∙ ap (λ l. take m l) e
    ∙ take-map (λ x. capped x.what) m (with_sizes [] (take n ds))
    ∙ ap (λ l. map (λ x. capped x.what) l) (ap (λ k. take k (with_sizes [] (take n ds))) none ∙ sizes-fewer m n [] ds h)

-- ---- what is found by name

front-step : {A : Type 0} (b : Bool) (y : A) (p q : Option A) (a : A) → cond b (Some y) p ≡ Some a → (p ≡ Some a → q ≡ Some a) → cond b (Some y) q ≡ Some a
front-step true y p q a e f = e
front-step false y p q a e f = f e

-- what is found stays found behind more
found-front : {A : Type 0} (xs ys : List (Named A)) (id : ℕ) (a : A) → found xs id ≡ Some a → found (xs ++ ys) id ≡ Some a
found-front [] ys id a e = cc
found-front (x ∷ xs) ys id a e = front-step (nat_eq x.name id) x.what (found xs id) (found (xs ++ ys) id) a e (found-front xs ys id a)

behind-step : {A : Type 0} (b : Bool) (y : A) (p q o : Option A) → cond b (Some y) p ≡ None → (p ≡ None → q ≡ o) → cond b (Some y) q ≡ o
behind-step true y p q o e f = cc
behind-step false y p q o e f = f e

-- one more is found where none was before
found-behind : {A : Type 0} (xs : List (Named A)) (x : Named A) (id : ℕ) (b : Bool) → found xs id ≡ None → nat_eq x.name id ≡ b → found (xs ++ x ∷ []) id ≡ cond b (Some x.what) None
found-behind [] x id b e h = ap (λ c. cond c (Some x.what) None) h
found-behind (y ∷ ys) x id b e h = behind-step (nat_eq y.name id) y.what (found ys id) (found (ys ++ x ∷ []) id) (cond b (Some x.what) None) e (λ g. found-behind ys x id b g h)

first-here : (b : Bool) (q : Option ℕ) → cond b (Some 0) (option_map suc q) ≡ Some 0 → b ≡ true
first-here true q e = refl
first-here false None e = cc
first-here false (Some k) e = let z : suc k ≡ 0 = cc in absurd (omega arith)

later-not : (b : Bool) (q : Option ℕ) (k : ℕ) → cond b (Some 0) (option_map suc q) ≡ Some (suc k) → b ≡ false
later-not true q k e = let z : 0 ≡ suc k = cc in absurd (omega arith)
later-not false q k e = refl

later-place : (b : Bool) (q : Option ℕ) (k : ℕ) → cond b (Some 0) (option_map suc q) ≡ Some (suc k) → q ≡ Some k
later-place true q k e = let z : 0 ≡ suc k = cc in absurd (omega arith)
later-place false None k e = cc
later-place false (Some j) k e = let z : suc j ≡ suc k = cc in let y : j ≡ k = omega arith in ap (λ n. Some n) y

one-less : (k n : ℕ) → suc k < suc n → k < n
one-less k n h = omega arith

some-same : {A : Type 0} (x y : A) → Some x ≡ Some y → x ≡ y
some-same x y e = cc

none-some : {A : Type 0} (x : A) → None ≡ Some x → ⊥
none-some x e = cc

none-before : (k : ℕ) → k < 0 → ⊥
none-before k h = omega arith

-- ---- the declarations that can be called

abbrev ids : List Scoped → List ℕ
ids ds = map (λ d. d.decl.name.id) ds

module _ (base : ℕ) (names : List (List ℕ)) where
  abbrev more_callees : List (Named Callee) → List (Named Size) → Scoped → List (Named Callee)
  more_callees callees sizes d = with_name callees d.decl.name.id (decl_copy base names (found callees) (found sizes) d)

  callees-front : (callees : List (Named Callee)) (sizes : List (Named Size)) (ds : List Scoped) (id : ℕ) (c : Callee) → found callees id ≡ Some c → found (with_callees base names callees sizes ds) id ≡ Some c
  callees-front callees sizes [] id c e = e
  callees-front callees sizes (d ∷ ds) id c e = callees-front (more_callees callees sizes d) (more_sizes sizes d) ds id c (found-front callees _ id c e)

  -- the first declaration with a name is the one that is called
  callee-from : (ds : List Scoped) (n k id : ℕ) (callees : List (Named Callee)) (sizes : List (Named Size)) (d : Scoped) → k < n → slice_get ds k ≡ Some d → place id (ids ds) ≡ Some k → found callees id ≡ None → found (with_callees base names callees sizes (take n ds)) id ≡ Some (decl_copy base names (found (with_callees base names callees sizes (take k ds))) (found (with_sizes sizes (take k ds))) d)
  unfolding first_place
  callee-from ds zero k id callees sizes d h e p g = absurd (none-before k h)
  callee-from [] (suc n) k id callees sizes d h e p g = absurd (none-some d e)
  callee-from (x ∷ ds) (suc n) zero id callees sizes d h e p g =
      let here : nat_eq x.decl.name.id id ≡ true = both-ways x.decl.name.id id ∙ first-here (nat_eq id x.decl.name.id) (place id (ids ds)) p in
      let same : x ≡ d = some-same x d e in
      callees-front (more_callees callees sizes x) (more_sizes sizes x) (take n ds) id (decl_copy base names (found callees) (found sizes) x) (found-behind callees _ id true g here)
      ∙ ap (λ y. Some (decl_copy base names (found callees) (found sizes) y)) same
  callee-from (x ∷ ds) (suc n) (suc k) id callees sizes d h e p g =
      let later : nat_eq x.decl.name.id id ≡ false = both-ways x.decl.name.id id ∙ later-not (nat_eq id x.decl.name.id) (place id (ids ds)) k p in
      callee-from ds n k id (more_callees callees sizes x) (more_sizes sizes x) d (one-less k n h) e (later-place (nat_eq id x.decl.name.id) (place id (ids ds)) k p) (found-behind callees _ id false g later)

  -- the declaration with this number is called by its name, if it is the first of it
  pub callee-there : (ds : List Decl) (vss : List (List VarInfo)) (tss : List (List Ty)) (n k id : ℕ) (d : Scoped) → length vss ≡ length ds → length tss ≡ length ds → k < n → slice_get (scoped ds vss tss) k ≡ Some d → Some k ≡ position (nat_eq id) (map (λ d. d.name.id) ds) → found (with_callees base names [] [] (take n (scoped ds vss tss))) id ≡ Some (decl_copy base names (found (with_callees base names [] [] (take k (scoped ds vss tss)))) (found (with_sizes [] (take k (scoped ds vss tss)))) d)
  callee-there ds vss tss n k id d p q h there e =
      callee-from (scoped ds vss tss) n k id [] [] d h there (ap (λ ys. place id ys) (names-scoped ds vss tss p q) ∙ sym (e ∙ position-place id (map (λ d. d.name.id) ds))) refl

  names-called : (callees : List (Named Callee)) (sizes : List (Named Size)) (ds : List Scoped) → map (λ x. x.name) (with_callees base names callees sizes ds) ≡ map (λ x. x.name) callees ++ ids ds
  names-called callees sizes [] = sym (append-nil _)
  names-called callees sizes (d ∷ ds) =
      names-called (more_callees callees sizes d) (more_sizes sizes d) ds
      ∙ ap (λ xs. xs ++ ids ds) (map-append (λ x. x.name) callees _)
      ∙ append_assoc (map (λ x. x.name) callees) (d.decl.name.id ∷ []) (ids ds)

  -- none of the first declarations has the name
  pub callee-missing : (ds : List Decl) (vss : List (List VarInfo)) (tss : List (List Ty)) (n id : ℕ) → length vss ≡ length ds → length tss ≡ length ds → cut_at n (position (nat_eq id) (map (λ d. d.name.id) ds)) ≡ None → found (with_callees base names [] [] (take n (scoped ds vss tss))) id ≡ None
  unfolding taken
  callee-missing ds vss tss n id p q e =
      let ss = scoped ds vss tss in
      let known = with_callees base names [] [] (take n ss) in
      found-place known id
      ∙ ap (λ ys. taken (λ x. x.what) known (place id ys)) (names-called [] [] (take n ss) ∙ sym (take-map (λ d. d.decl.name.id) n ss) ∙ ap (λ ys. take n ys) (names-scoped ds vss tss p q))
      ∙ ap (λ o. taken (λ x. x.what) known o) (place-take id n (map (λ d. d.name.id) ds) ∙ ap (λ o. cut_at n o) (sym (position-place id (map (λ d. d.name.id) ds))) ∙ e)
