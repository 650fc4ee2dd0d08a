-- Lists of which each element gives something, places in lists, and errors that are handed on.
use Rattle.std.proofs.Common.{◌≡◌, ℕ, suc, ◌+◌, ◌<◌, Bool, true, false, not, cond, List, [], ◌∷◌, ◌++◌, length, map, Option, Some, None, option_map, Result, Ok, Err, refl, sym, ap, ap₂, ◌∙◌, subst, arith, one-add}
use Rattle.std.specs.Prelude.{option_and_then, slice_get, position, nat_lt}
use Rattle.std.proofs.lemmas.List.{length-map}
use Rattle.std.specs.List.{list_any, position_or_len}
use Rattle.std.specs.Result.{IsErrAnd}
use Rattle.std.proofs.lemmas.Bool.{ltb-true, or_left, or_right}
use Rattle.zl_script.specs.Lists.{each}

-- what a list gives, element by element
pub record EachFirst {X Y : Type 0} (f : X → Option Y) (x : X) (xs : List X) (ys : List Y) : Type 0 where
  pub first : Y
  pub rest : List Y
  pub at : f x ≡ Some first
  pub others : each f xs ≡ Some rest
  pub is : ys ≡ first ∷ rest

pub each_first : {X Y : Type 0} (f : X → Option Y) (x : X) (xs : List X) (ys : List Y) → each f (x ∷ xs) ≡ Some ys → EachFirst f x xs ys
each_first {X} {Y} f x xs ys e = go (f x) refl (each f xs) refl e
  where
    go : (a : Option Y) → f x ≡ a → (b : Option (List Y)) → each f xs ≡ b → option_and_then (λ y. option_map (λ zs. y ∷ zs) b) a ≡ Some ys → EachFirst f x xs ys
    go None h b k e = absurd (cc)
    go (Some y) h None k e = absurd (cc)
    go (Some y) h (Some zs) k e = record { first = y; rest = zs; at = h; others = k; is = cc }

pub each_made : {X Y : Type 0} (f : X → Option Y) (x : X) (xs : List X) (y : Y) (ys : List Y) → f x ≡ Some y → each f xs ≡ Some ys → each f (x ∷ xs) ≡ Some (y ∷ ys)
each_made f x xs y ys h k =
    ap (option_and_then (λ z. option_map (λ zs. z ∷ zs) (each f xs))) h ∙ ap (option_map (λ zs. y ∷ zs)) k

pub each_none : {X Y : Type 0} (f : X → Option Y) (xs : List X) (x : X) (ys : List X) → f x ≡ None → each f (xs ++ x ∷ ys) ≡ None
each_none f [] x ys e = ap (option_and_then (λ y. option_map (λ zs. y ∷ zs) (each f ys))) e
each_none {X} {Y} f (z ∷ zs) x ys e = go (f z) (each_none f zs x ys e)
  where
    go : (a : Option Y) → each f (zs ++ x ∷ ys) ≡ None → option_and_then (λ y. option_map (λ zs. y ∷ zs) (each f (zs ++ x ∷ ys))) a ≡ None
    go None h = refl
    go (Some y) h = ap (option_map (λ zs. y ∷ zs)) h

pub each_push : {X Y : Type 0} (f : X → Option Y) (xs : List X) (ys : List Y) (x : X) (y : Y) → each f xs ≡ Some ys → f x ≡ Some y → each f (xs ++ x ∷ []) ≡ Some (ys ++ y ∷ [])
each_push f [] ys x y e h =
    let none : ys ≡ [] = cc in
    each_made f x [] y [] h refl ∙ ap (λ zs. Some (zs ++ y ∷ [])) (sym none)
each_push f (z ∷ zs) ys x y e h =
    let parts = each_first f z zs ys e in
    each_made f z (zs ++ x ∷ []) parts.first (parts.rest ++ y ∷ []) parts.at (each_push f zs parts.rest x y parts.others h)
    ∙ ap (λ all. Some (all ++ y ∷ [])) (sym parts.is)

pub any_at : {X : Type 0} (p : X → Bool) (xs : List X) (x : X) (ys : List X) → p x ≡ true → list_any p (xs ++ x ∷ ys) ≡ true
any_at p [] x ys e = or_left (p x) (list_any p ys) e
any_at p (z ∷ zs) x ys e = or_right (p z) (list_any p (zs ++ x ∷ ys)) (any_at p zs x ys e)

-- the element at the place of the first that passes
pub record IsAt {X : Type 0} (p : X → Bool) (xs : List X) (k : ℕ) : Type 0 where
  pub item : X
  pub is : slice_get xs k ≡ Some item
  pub passes : p item ≡ true
  pub within : k < length xs

pub at_first : {X : Type 0} (p : X → Bool) (xs : List X) → position_or_len p xs < length xs → IsAt p xs (position_or_len p xs)
at_first p [] h = absurd (omega arith)
at_first {X} p (x ∷ xs) h = go (p x) refl h (at_first p xs)
  where
    go : (b : Bool) → p x ≡ b → cond (not b) (1 + position_or_len p xs) 0 < suc (length xs)
        → (position_or_len p xs < length xs → IsAt p xs (position_or_len p xs))
        → IsAt p (x ∷ xs) (cond (not b) (1 + position_or_len p xs) 0)
    go true e h further = record { item = x; is = refl; passes = e; within = omega arith }
    go false e h further =
        let rest = further (omega arith) in
        rw (one-add (position_or_len p xs)) (record { item = rest.item; is = rest.is; passes = rest.passes; within = omega (arith, rest.within) })

some_cond : (b : Bool) (a i : ℕ) → cond b (Some a) None ≡ Some i → (b ≡ true) × (a ≡ i)
some_cond true a i e = (refl, cc)
some_cond false a i e = absurd (cc)

pub at_position : {X : Type 0} (p : X → Bool) (xs : List X) (k : ℕ) → position p xs ≡ Some k → IsAt p xs k
at_position p xs k e =
    let parts = some_cond _ (position_or_len p xs) k e in
    rw (← parts.1) (at_first p xs (ltb-true _ _ parts.0))

position_or_len-map : {X Y : Type 0} (p : Y → Bool) (f : X → Y) (xs : List X) → position_or_len p (map f xs) ≡ position_or_len (λ x. p (f x)) xs
position_or_len-map p f [] = refl
position_or_len-map p f (x ∷ xs) = ap (λ n. cond (not (p (f x))) (1 + n) 0) (position_or_len-map p f xs)

-- the place in a list that is made of another
pub position_map : {X Y : Type 0} (p : Y → Bool) (f : X → Y) (xs : List X) → position p (map f xs) ≡ position (λ x. p (f x)) xs
position_map p f xs = ap₂ (λ n m. cond (nat_lt n m) (Some n) None) (position_or_len-map p f xs) (length-map xs f)

-- what holds of an error holds where it is handed on
pub handed_on : {X E : Type 0} (P : Result X E → Type 0) (r : Result X E) (e : E) → IsErrAnd r (λ y. y ≡ e) → P (Err e) → P r
handed_on P (Ok x) e h p = absurd h
handed_on P (Err y) e h p = subst (λ z. P (Err z)) (sym h) p
