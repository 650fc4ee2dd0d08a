-- What stands in lists whose entries are numbered.
use Rattle.std.proofs.Common.{◌≡◌, ◌⊎◌, inl, inr, ℕ, zero, suc, ◌+◌, List, [], ◌∷◌, slice_get, Some, refl, subst, arith}
use Rattle.zl_value.specs.Lists.{Has}
use Rattle.zl_meaning.proofs.Members.{has-left, has-right, has-none, has-append_case}
use Rattle.zl_grade.specs.Numbered.{numbered}

-- what an entry gives stands in the list
pub numbered-has : {X Y : Type 0} (give : ℕ → X → List Y) (k i n : ℕ) (xs : List X) (x : X) (y : Y) → n ≡ k + i → slice_get xs i ≡ Some x → Has (give n x) y → Has (numbered give k xs) y
numbered-has give k i n [] x y e at has = absurd (cc)
numbered-has give k zero n (z ∷ xs) x y e at has =
    let same : x ≡ z = cc in
    let here : n ≡ k = omega (arith, e) in
    has-left (give k z) (numbered give (k + 1) xs) y (subst (λ m. Has (give m z) y) here (subst (λ u. Has (give n u) y) same has))
numbered-has give k (suc i) n (z ∷ xs) x y e at has =
    has-right (give k z) (numbered give (k + 1) xs) y (numbered-has give (k + 1) i n xs x y (omega (arith, e)) at has)

-- an entry of the list and its number give it
pub record FromEntry {X Y : Type 0} (give : ℕ → X → List Y) (k : ℕ) (xs : List X) (y : Y) : Type 0 where
  pub index : ℕ
  pub number : ℕ
  pub entry : X
  pub at : slice_get xs index ≡ Some entry
  pub is : number ≡ k + index
  pub has : Has (give number entry) y

-- what stands in the list is given by an entry
pub numbered-from : {X Y : Type 0} (give : ℕ → X → List Y) (k : ℕ) (xs : List X) (y : Y) → Has (numbered give k xs) y → FromEntry give k xs y
numbered-from give k [] y h = absurd (has-none y h)
numbered-from give k (x ∷ xs) y h = by_case (λ g. numbered-from give (k + 1) xs y g) (has-append_case (give k x) (numbered give (k + 1) xs) y h)
  where
    later : FromEntry give (k + 1) xs y → FromEntry give k (x ∷ xs) y
    later g = record { index = suc g.index; number = g.number; entry = g.entry; at = g.at; is = omega (arith, g.is); has = g.has }

    by_case : (Has (numbered give (k + 1) xs) y → FromEntry give (k + 1) xs y) → Has (give k x) y ⊎ Has (numbered give (k + 1) xs) y → FromEntry give k (x ∷ xs) y
    by_case rest (inl g) = record { index = 0; number = k; entry = x; at = refl; is = omega arith; has = g }
    by_case rest (inr g) = later (rest g)
