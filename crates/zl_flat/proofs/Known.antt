-- Things that are known as others, to which they are equal: the values of functions of a tree, put together from those of its
-- parts, so that they compute.
use Rattle.std.proofs.Common.{◌≡◌, List, [], ◌∷◌, refl}

-- a thing, as another that is it
pub record Known {A : Type 0} (a : A) : Type 0 where
  pub value : A
  pub is : a ≡ value

abbrev pub no_more : {A : Type 0} → Known {A = List A} []
no_more = record { value = []; is = refl }

abbrev pub more : {A : Type 0} (x : A) (xs : List A) → Known x → Known xs → Known (x ∷ xs)
more x xs k ks = record { value = k.value ∷ ks.value; is = λ j. k.is j ∷ ks.is j }
