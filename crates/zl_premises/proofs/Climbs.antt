-- Weights of levels: a greater level weighs more than a chain of steps between lower ones.
use Rattle.std.specs.Prelude.{◌≡◌, ℕ, zero, suc, ◌+◌, ◌≤◌}
use Rattle.std.proofs.Common.{refl, ap, ⊎_elim, arith}

-- so many steps, of at most `w` and three each
abbrev pub climb : ℕ → ℕ → ℕ
climb w zero = suc w
climb w (suc d) = climb w d + (w + 3)

-- the weight of a level, where no chain has more than `top` steps
abbrev pub weight : ℕ → ℕ → ℕ
weight top zero = 1
weight top (suc n) = climb (weight top n) (suc (suc (suc (suc (suc top)))))

pub climb-least : (w d : ℕ) → w + (d + d) ≤ climb w d
climb-least w zero = omega arith
climb-least w (suc d) = let low = climb-least w d in omega (arith, low)

pub climb-more : (w d e : ℕ) → d ≤ e → climb w d ≤ climb w e
climb-more w d zero le = let z : d ≡ 0 = omega (arith, le) in let same = ap (λ x. climb w x) z in omega (arith, same)
climb-more w d (suc e) le =
    ⊎_elim (λ (q : d ≡ suc e). let same = ap (λ x. climb w x) q in omega (arith, same)) (λ (l : d ≤ e). let low = climb-more w d e l in omega (arith, low)) (grind (arith, le))

module _ (top : ℕ) where
  abbrev W : ℕ → ℕ
  W n = weight top n

  -- the next weight is that of a whole chain, with four steps more
  pub next-weight : (n : ℕ) → W (suc n) ≡ (((climb (W n) (suc top) + (W n + 3)) + (W n + 3)) + (W n + 3)) + (W n + 3)
  next-weight n = refl

  pub weight-next : (n : ℕ) → W n + (W n + 3) ≤ W (suc n)
  weight-next n = let low = climb-least (W n) (suc top) in let e = next-weight n in omega (arith, low, e)

  pub weight-some : (n : ℕ) → 1 ≤ W n
  weight-some zero = omega arith
  weight-some (suc n) = let low = weight-next n in omega (arith, low)

  pub weight-more : (m n : ℕ) → m ≤ n → W m ≤ W n
  weight-more m zero le = let z : m ≡ 0 = omega (arith, le) in let same = ap (λ x. W x) z in omega (arith, same)
  weight-more m (suc n) le =
      ⊎_elim (λ (q : m ≡ suc n). let same = ap (λ x. W x) q in omega (arith, same))
      (λ (l : m ≤ n). let low = weight-more m n l in let next = weight-next n in omega (arith, low, next)) (grind (arith, le))
