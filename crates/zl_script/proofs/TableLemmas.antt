-- The names of inputs put into a table, one after another.
use Rattle.std.proofs.Common.{◌≡◌, ℕ, zero, suc, ◌+◌, ◌<◌, Bool, true, false, ◌||◌, List, [], ◌∷◌, ◌++◌, length, map, take, get_or, Some, refl, sym, ap, ap₂, ◌∙◌, arith}
use Rattle.std.specs.Prelude.{slice_get}
use Rattle.std.specs.List.{list_any, AllByRecursion, IsDistinct}
use Rattle.std.specs.Str.{bytes_eq}
use Rattle.std.proofs.lemmas.Bool.{cond-false}
use Rattle.std.proofs.lemmas.List.{map-append, take-map, take_more}
use Rattle.std.proofs.lemmas.Slice.Eq.{bytes_eq-Decides}
use Rattle.indexmap.specs.IndexSet.{insert_key}
use Rattle.zl_value.specs.declared.script.Input.{Input}

-- equality of names goes both ways
pub bytes_eq_flip : (xs ys : List ℕ) → bytes_eq xs ys ≡ bytes_eq ys xs
bytes_eq_flip xs ys = go (bytes_eq xs ys) refl (bytes_eq ys xs) refl
  where
    go : (a : Bool) → bytes_eq xs ys ≡ a → (b : Bool) → bytes_eq ys xs ≡ b → a ≡ b
    go true e true h = refl
    go false e false h = refl
    go true e false h = let back : bytes_eq ys xs ≡ true = (bytes_eq-Decides ys xs).1 (sym ((bytes_eq-Decides xs ys).0 e)) in absurd (cc)
    go false e true h = let back : bytes_eq xs ys ≡ true = (bytes_eq-Decides xs ys).1 (sym ((bytes_eq-Decides ys xs).0 h)) in absurd (cc)

slice_get-at : {X : Type 0} (xs : List X) (i : ℕ) (x : X) → i < length xs → x ≡ get_or xs i x → slice_get xs i ≡ Some x
slice_get-at [] i x within e = absurd (omega arith)
slice_get-at (y ∷ ys) zero x within e = ap Some (sym e)
slice_get-at (y ∷ ys) (suc i) x within e = slice_get-at ys i x (omega arith) e

slice_get-name : (inputs : List Input) (i : ℕ) (x : Input) → slice_get inputs i ≡ Some x → slice_get (map (λ i. i.name) inputs) i ≡ Some x.name
slice_get-name [] i x e = absurd (cc)
slice_get-name (y ∷ ys) zero x e = let is : y ≡ x = cc in ap (λ z. Some z.name) is
slice_get-name (y ∷ ys) (suc i) x e = slice_get-name ys i x e

one_of : (P : List ℕ → Type 0) (xs : List (List ℕ)) (i : ℕ) (x : List ℕ) → AllByRecursion P xs → slice_get xs i ≡ Some x → P x
one_of P [] i x all e = absurd (cc)
one_of P (y ∷ ys) zero x all e = let is : y ≡ x = cc in rw (← is) all.0
one_of P (y ∷ ys) (suc i) x all e = one_of P ys i x all.1 e

-- none of the names before a name is equal to it
before_none : (xs : List (List ℕ)) (i : ℕ) (x : List ℕ) → IsDistinct bytes_eq xs → slice_get xs i ≡ Some x → list_any (bytes_eq x) (take i xs) ≡ false
unfolding IsDistinct
before_none [] i x apart e = absurd (cc)
before_none (y ∷ ys) zero x apart e = refl
before_none (y ∷ ys) (suc i) x apart e =
    ap₂ (λ a b. a || b) (bytes_eq_flip x y ∙ one_of (λ z. bytes_eq y z ≡ false) ys i x apart.0 e) (before_none ys i x apart.1 e)

any_same : {X : Type 0} (f : X → List ℕ) (eq : X → X → Bool) → ((a b : X) → eq a b ≡ bytes_eq (f a) (f b)) → (x : X) (xs : List X)
    → list_any (eq x) xs ≡ list_any (bytes_eq (f x)) (map f xs)
any_same f eq same x [] = refl
any_same f eq same x (y ∷ ys) = ap₂ (λ a b. a || b) (same x y) (any_same f eq same x ys)

-- one more name
pub table_more : {X : Type 0} (f : X → List ℕ) (eq : X → X → Bool) → ((a b : X) → eq a b ≡ bytes_eq (f a) (f b))
    → (inputs : List Input) (i : ℕ) (input : Input) (keys new : List X) (name : X) → IsDistinct bytes_eq (map (λ i. i.name) inputs)
    → i < length inputs → input ≡ get_or inputs i input → map f keys ≡ map (λ i. i.name) (take i inputs) → f name ≡ input.name
    → new ≡ insert_key eq keys name → map f new ≡ map (λ i. i.name) (take (i + 1) inputs)
table_more f eq same inputs i input keys new name apart within is before named added =
    let absent : list_any (eq name) keys ≡ false =
    any_same f eq same name keys
    ∙ ap₂ (λ n ks. list_any (bytes_eq n) ks) named (before ∙ sym (take-map (λ i. i.name) i inputs))
    ∙ before_none (map (λ i. i.name) inputs) i input.name apart (slice_get-name inputs i input (slice_get-at inputs i input within is)) in
    ap (map f) (added ∙ cond-false (list_any (eq name) keys) keys (keys ++ name ∷ []) absent)
    ∙ map-append f keys (name ∷ [])
    ∙ ap₂ (λ ks n. ks ++ n ∷ []) before named
    ∙ sym (map-append (λ i. i.name) (take i inputs) (input ∷ []))
    ∙ ap (λ x. map (λ i. i.name) (take i inputs ++ x ∷ [])) is
    ∙ ap (map (λ i. i.name)) (sym (take_more inputs i input within))
