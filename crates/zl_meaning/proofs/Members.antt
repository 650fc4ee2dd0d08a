-- What stands in lists that are put together, and what holds of all that stand in one.
use Rattle.std.proofs.Common.{◌≡◌, ◌⊎◌, inl, inr, ℕ, zero, suc, Bool, true, false, ◌&&◌, ◌||◌, nat_eq, List, [], ◌∷◌, ◌++◌, map, slice_get, Option, Some, refl, sym, ap, subst, ◌∙◌}
use Rattle.std.specs.List.{AllByRecursion, flat_map, list_any}
use Rattle.std.proofs.lemmas.Bool.{eqb-true, eq-eqb}
use Rattle.zl_value.specs.Lists.{Has, among, when}

-- what one list has, it has with more behind
pub has-left : {X : Type 0} (xs ys : List X) (x : X) → Has xs x → Has (xs ++ ys) x
has-left xs ys x h = record { index = h.index; is = longer xs ys h.index x h.is }
  where
    longer : {X : Type 0} (xs ys : List X) (n : ℕ) (x : X) → slice_get xs n ≡ Some x → slice_get (xs ++ ys) n ≡ Some x
    longer [] ys n x h = absurd (cc)
    longer (y ∷ xs) ys zero x h = h
    longer (y ∷ xs) ys (suc n) x h = longer xs ys n x h

-- and with one more before
pub has-later : {X : Type 0} (y : X) (ys : List X) (x : X) → Has ys x → Has (y ∷ ys) x
has-later y ys x h = record { index = suc h.index; is = h.is }

-- and with a list before
pub has-right : {X : Type 0} (xs ys : List X) (x : X) → Has ys x → Has (xs ++ ys) x
has-right [] ys x h = h
has-right (y ∷ xs) ys x h = has-later y (xs ++ ys) x (has-right xs ys x h)

-- the last of a list
pub has-last : {X : Type 0} (xs : List X) (x : X) → Has (xs ++ x ∷ []) x
has-last xs x = has-right xs (x ∷ []) x (record { index = 0; is = refl })

-- no list without entries has any
pub has-none : {X : Type 0} (x : X) → Has [] x → ⊥
has-none x h = nothing_there h.index h.is
  where
    nothing_there : {X : Type 0} {x : X} (n : ℕ) → slice_get [] n ≡ Some x → ⊥
    nothing_there n e = cc

-- it is the first of them, or one of the others
pub has-case : {X : Type 0} (y : X) (ys : List X) (x : X) → Has (y ∷ ys) x → (y ≡ x) ⊎ Has ys x
has-case y ys x h = by_index h.index h.is
  where
    the_same : Some y ≡ Some x → y ≡ x
    the_same e = cc

    by_index : (n : ℕ) → slice_get (y ∷ ys) n ≡ Some x → (y ≡ x) ⊎ Has ys x
    by_index zero e = inl (the_same e)
    by_index (suc n) e = inr (record { index = n; is = e })

-- by case
pub has-cases : {X : Type 0} (R : Type 0) (y : X) (ys : List X) (x : X) → Has (y ∷ ys) x → (y ≡ x → R) → (Has ys x → R) → R
has-cases R y ys x h first later = by_case (has-case y ys x h)
  where
    by_case : (y ≡ x) ⊎ Has ys x → R
    by_case (inl e) = first e
    by_case (inr i) = later i

-- it is there, if the test holds
pub has-when : {X : Type 0} (b : Bool) (x : X) → b ≡ true → Has (when b x) x
has-when true x h = record { index = 0; is = refl }
has-when false x h = absurd (cc)

-- what holds of all holds of one
pub all-has : {X : Type 0} (P : X → Type 0) (xs : List X) (x : X) → AllByRecursion P xs → Has xs x → P x
all-has P [] x h i = absurd (has-none x i)
all-has P (y ∷ ys) x h i = has-cases (P x) y ys x i (λ e. subst P e h.0) (λ j. all-has P ys x h.1 j)

-- what is made of an entry
pub has-flat_map : {X Y : Type 0} (g : X → List Y) (xs : List X) (x : X) (y : Y) → Has xs x → Has (g x) y → Has (flat_map g xs) y
has-flat_map g [] x y h i = absurd (has-none x h)
has-flat_map g (z ∷ zs) x y h i =
    has-cases (Has (flat_map g (z ∷ zs)) y) z zs x h (λ e. has-left (g z) (flat_map g zs) y (subst (λ u. Has (g u) y) (sym e) i)) (λ j. has-right (g z) (flat_map g zs) y (has-flat_map g zs x y j i))

-- it stands in one of two lists
pub has-append_case : {X : Type 0} (xs ys : List X) (x : X) → Has (xs ++ ys) x → Has xs x ⊎ Has ys x
has-append_case [] ys x h = inr h
has-append_case {X = X} (z ∷ xs) ys x h = by_case (λ g. has-append_case xs ys x g) (has-case z (xs ++ ys) x h)
  where
    later : Has xs x ⊎ Has ys x → Has (z ∷ xs) x ⊎ Has ys x
    later (inl g) = inl (has-later z xs x g)
    later (inr g) = inr g

    by_case : (Has (xs ++ ys) x → Has xs x ⊎ Has ys x) → (z ≡ x) ⊎ Has (xs ++ ys) x → Has (z ∷ xs) x ⊎ Has ys x
    by_case rest (inl e) = inl (record { index = 0; is = ap (λ y. Some y) e })
    by_case rest (inr g) = later (rest g)

-- it is what an entry gives
pub has-flat_map_from : {X Y : Type 0} (g : X → List Y) (xs : List X) (y : Y) → Has (flat_map g xs) y → (x : X) × Has xs x × Has (g x) y
has-flat_map_from g [] y h = absurd (has-none y h)
has-flat_map_from {X = X} {Y = Y} g (x ∷ xs) y h = by_case (λ k. has-flat_map_from g xs y k) (has-append_case (g x) (flat_map g xs) y h)
  where
    later : ((z : X) × Has xs z × Has (g z) y) → (z : X) × Has (x ∷ xs) z × Has (g z) y
    later h = (h.0, has-later x xs h.0 h.1, h.2)

    by_case : (Has (flat_map g xs) y → (z : X) × Has xs z × Has (g z) y) → Has (g x) y ⊎ Has (flat_map g xs) y → (z : X) × Has (x ∷ xs) z × Has (g z) y
    by_case rest (inl k) = (x, record { index = 0; is = refl }, k)
    by_case rest (inr k) = later (rest k)

-- it is the image of an entry
pub has-map_from : {X Y : Type 0} (g : X → Y) (xs : List X) (y : Y) → Has (map g xs) y → (x : X) × Has xs x × (g x ≡ y)
has-map_from g [] y h = absurd (has-none y h)
has-map_from {X = X} {Y = Y} g (x ∷ xs) y h = by_case (λ k. has-map_from g xs y k) (has-case (g x) (map g xs) y h)
  where
    later : ((z : X) × Has xs z × (g z ≡ y)) → (z : X) × Has (x ∷ xs) z × (g z ≡ y)
    later h = (h.0, has-later x xs h.0 h.1, h.2)

    by_case : (Has (map g xs) y → (z : X) × Has xs z × (g z ≡ y)) → (g x ≡ y) ⊎ Has (map g xs) y → (z : X) × Has (x ∷ xs) z × (g z ≡ y)
    by_case rest (inl e) = (x, record { index = 0; is = refl }, e)
    by_case rest (inr k) = later (rest k)

-- the image of an entry is there
pub has-map : {X Y : Type 0} (g : X → Y) (xs : List X) (x : X) → Has xs x → Has (map g xs) (g x)
has-map {X = X} g xs x h = record { index = h.index; is = at xs h.index h.is }
  where
    at : (zs : List X) (n : ℕ) → slice_get zs n ≡ Some x → slice_get (map g zs) n ≡ Some (g x)
    at [] n e = absurd (cc)
    at (z ∷ zs) zero e = let same : z ≡ x = cc in ap (λ y. Some (g y)) same
    at (z ∷ zs) (suc n) e = at zs n e

-- a list has each of its entries
pub each-has : {X : Type 0} (xs : List X) → AllByRecursion (Has xs) xs
each-has xs = later [] xs
  where
    behind : {X : Type 0} (xs : List X) (x : X) (ys : List X) → Has (xs ++ x ∷ ys) x
    behind xs x ys = has-right xs (x ∷ ys) x (record { index = 0; is = refl })

    regroup : {X : Type 0} (xs : List X) (x : X) (ys : List X) → (xs ++ x ∷ []) ++ ys ≡ xs ++ x ∷ ys
    regroup [] x ys = refl
    regroup (z ∷ xs) x ys = ap (λ zs. z ∷ zs) (regroup xs x ys)

    later : {X : Type 0} (xs ys : List X) → AllByRecursion (Has (xs ++ ys)) ys
    later xs [] = tt
    later xs (y ∷ ys) = (behind xs y ys, subst (λ zs. AllByRecursion (Has zs) ys) (regroup xs y ys) (later (xs ++ y ∷ []) ys))

-- what holds of all of two lists holds of all of both
pub all-append : {X : Type 0} (P : X → Type 0) (xs ys : List X) → AllByRecursion P xs → AllByRecursion P ys → AllByRecursion P (xs ++ ys)
all-append P [] ys h k = k
all-append P (x ∷ xs) ys h k = (h.0, all-append P xs ys h.1 k)

-- of all that is made of all
pub all-flat_map : {X Y : Type 0} (P : Y → Type 0) (g : X → List Y) (xs : List X) → AllByRecursion (λ x. AllByRecursion P (g x)) xs → AllByRecursion P (flat_map g xs)
all-flat_map P g [] h = tt
all-flat_map P g (x ∷ xs) h = all-append P (g x) (flat_map g xs) h.0 (all-flat_map P g xs h.1)

-- what follows from what holds of all holds of all
pub all-map : {X : Type 0} (P Q : X → Type 0) → ((x : X) → P x → Q x) → (xs : List X) → AllByRecursion P xs → AllByRecursion Q xs
all-map P Q g [] h = tt
all-map P Q g (x ∷ xs) h = (g x h.0, all-map P Q g xs h.1)

-- of the one, if the test holds
pub all-when : {X : Type 0} (P : X → Type 0) (b : Bool) (x : X) → (b ≡ true → P x) → AllByRecursion P (when b x)
all-when P true x h = (h refl, tt)
all-when P false x h = tt

-- the second of two tests
pub or-true : (b c : Bool) → c ≡ true → (b || c) ≡ true
or-true true c h = refl
or-true false c h = h

-- the first of two tests
pub or-left : (b c : Bool) → b ≡ true → (b || c) ≡ true
or-left true c h = refl
or-left false c h = absurd (cc)

-- a test of membership finds what is there
pub among-has : (k : ℕ) (ns : List ℕ) → Has ns k → among k ns ≡ true
among-has k [] h = absurd (has-none k h)
among-has k (n ∷ ns) h = has-cases (among k (n ∷ ns) ≡ true) n ns k h (λ e. ap (λ b. b || among k ns) (eq-eqb n k e)) (λ i. or-true (nat_eq n k) (among k ns) (among-has k ns i))

-- and nothing else
pub has-among : (k : ℕ) (ns : List ℕ) → among k ns ≡ true → Has ns k
has-among k [] h = absurd (cc)
has-among k (n ∷ ns) h = by_equal (nat_eq n k) refl h (has-among k ns)
  where
    by_equal : (b : Bool) → nat_eq n k ≡ b → (b || among k ns) ≡ true → (among k ns ≡ true → Has ns k) → Has (n ∷ ns) k
    by_equal true e g more = record { index = 0; is = ap (λ j. Some j) (eqb-true n k e) }
    by_equal false e g more = has-later n ns k (more g)

-- one that meets a test makes it hold of some
pub any-has : {X : Type 0} (p : X → Bool) (xs : List X) (x : X) → Has xs x → p x ≡ true → list_any p xs ≡ true
any-has p [] x h e = absurd (has-none x h)
any-has p (y ∷ ys) x h e =
    has-cases (list_any p (y ∷ ys) ≡ true) y ys x h (λ same. ap (λ b. b || list_any p ys) (ap p same ∙ e)) (λ i. or-true (p y) (list_any p ys) (any-has p ys x i e))

-- one that meets the test
pub record Found {X : Type 0} (p : X → Bool) (xs : List X) : Type 0 where
  pub element : X
  pub has : Has xs element
  pub meets : p element ≡ true

-- a test that holds of some holds of one
pub has-any : {X : Type 0} (p : X → Bool) (xs : List X) → list_any p xs ≡ true → Found p xs
has-any p [] h = absurd (cc)
has-any p (y ∷ ys) h = by_first (p y) refl h (has-any p ys)
  where
    by_first : (b : Bool) → p y ≡ b → (b || list_any p ys) ≡ true → (list_any p ys ≡ true → Found p ys) → Found p (y ∷ ys)
    by_first true e g more = record { element = y; has = record { index = 0; is = refl }; meets = e }
    by_first false e g more = let found = more g in record { element = found.element; has = has-later y ys found.element found.has; meets = found.meets }

-- both of two tests hold where the test of both does
pub both-hold : {a b : Bool} → a && b ≡ true → (a ≡ true) × (b ≡ true)
both-hold {a = true} e = (refl, e)
both-hold {a = false} e = absurd (cc)
