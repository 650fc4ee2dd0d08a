-- Lists that are made by number, and what stands in them.
use Rattle.std.specs.Prelude.{◌≡◌, ℕ, zero, suc, ◌+◌, ◌<◌, List, [], ◌∷◌, ◌++◌, length, get_or, slice_get, map, Some}
use Rattle.std.proofs.Common.{refl, ap, ◌∙◌, arith}
use Rattle.zl_value.specs.Lists.{listed}

-- one number more
pub listed_more : {X : Type 0} (n j : ℕ) (make : ℕ → X) → listed (suc n) j make ≡ listed n j make ++ make (j + n) ∷ []
listed_more zero j make = ap (λ i. make i ∷ []) (let e : j ≡ j + 0 = omega arith in e)
listed_more (suc n) j make = ap (λ xs. make j ∷ xs) (listed_more n (suc j) make ∙ ap (λ i. listed n (suc j) make ++ make i ∷ []) (let e : suc j + n ≡ j + suc n = omega arith in e))

pub length-listed : {X : Type 0} (n j : ℕ) (make : ℕ → X) → length (listed n j make) ≡ n
length-listed zero j make = refl
length-listed (suc n) j make = ap suc (length-listed n (suc j) make)

-- what stands at a place
pub get-listed : {X : Type 0} (n j : ℕ) (make : ℕ → X) (d : X) (i : ℕ) → i < n → get_or (listed n j make) i d ≡ make (j + i)
get-listed zero j make d i less = absurd (omega arith)
get-listed (suc n) j make d zero less = ap make (let e : j ≡ j + 0 = omega arith in e)
get-listed (suc n) j make d (suc i) less = get-listed n (suc j) make d i (omega arith) ∙ ap make (let e : suc j + i ≡ j + suc i = omega arith in e)

-- an entry in two forms
pub get_from : {X : Type 0} (xs : List X) (i : ℕ) (x d : X) → slice_get xs i ≡ Some x → get_or xs i d ≡ x
get_from [] i x d is = absurd cc
get_from (y ∷ xs) zero x d is = cc
get_from (y ∷ xs) (suc i) x d is = get_from xs i x d is

pub within_from : {X : Type 0} (xs : List X) (i : ℕ) (x : X) → slice_get xs i ≡ Some x → i < length xs
within_from [] i x is = absurd cc
within_from (y ∷ xs) zero x is = omega arith
within_from (y ∷ xs) (suc i) x is = let less = within_from xs i x is in omega arith

pub get_to : {X : Type 0} (xs : List X) (i : ℕ) (d : X) → i < length xs → slice_get xs i ≡ Some (get_or xs i d)
get_to [] i d less = absurd (omega arith)
get_to (y ∷ xs) zero d less = refl
get_to (y ∷ xs) (suc i) d less = get_to xs i d (omega arith)

pub get-map : {X Y : Type 0} (f : X → Y) (xs : List X) (i : ℕ) (d : X) (e : Y) → i < length xs → get_or (map f xs) i e ≡ f (get_or xs i d)
get-map f [] i d e less = absurd (omega arith)
get-map f (y ∷ xs) zero d e less = refl
get-map f (y ∷ xs) (suc i) d e less = get-map f xs i d e (omega arith)

-- the same, as a loop has it
pub listed_next : {X : Type 0} (n : ℕ) (make : ℕ → X) → listed (n + 1) 0 make ≡ listed n 0 make ++ make n ∷ []
listed_next n make = ap (λ m. listed m 0 make) (let e : n + 1 ≡ suc n = omega arith in e) ∙ listed_more n 0 make ∙ ap (λ m. listed n 0 make ++ make m ∷ []) (let e : 0 + n ≡ n = omega arith in e)
