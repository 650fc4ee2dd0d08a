-- What is proved of the definitions of `Fraction`. This project's own.
use Rattle.std.specs.Prelude.{◌≡◌, ℕ, ◌<◌, ◌≤◌, ℤ, pos, ◌*ℤ◌, ◌↔◌, true, unsigned_abs}
use Rattle.std.specs.Int.{IsGcd}
use Rattle.zl_value.specs.Fraction.{Fraction, IsReduced, gcd, reduced, fits, greatest}

-- the fractions `n / d` and `m / e` are equal: their cross products are
abbrev pub AreEqual : ℤ → ℕ → ℤ → ℕ → Type 0
AreEqual n d m e = n *ℤ pos e ≡ m *ℤ pos d

-- some fraction that equals `n / d` has both parts in the width
pub record HasEqualInWidth (n : ℤ) (d : ℕ) : Type 0 where
  pub num : ℤ
  pub den : ℕ
  pub above : 0 < den
  pub equal : AreEqual n d num den
  pub num_width : unsigned_abs num ≤ greatest
  pub den_width : den ≤ greatest

-- each fraction has one form in lowest terms, `reduced` gives it, and it is in the width where any form is
pub record HaveLowestTerms : Type 0 where
  pub gcd : (a b : ℕ) → IsGcd a b (gcd a b)
  pub lowest : (n : ℤ) (d : ℕ) → 0 < d → IsReduced (reduced n d)
  pub equal : (n : ℤ) (d : ℕ) → 0 < d → AreEqual n d (reduced n d).num (reduced n d).den
  pub one : (a b : Fraction) → IsReduced a → IsReduced b → AreEqual a.num a.den b.num b.den → a ≡ b
  pub same : (n m : ℤ) (d e : ℕ) → 0 < d → 0 < e → AreEqual n d m e → reduced n d ≡ reduced m e
  pub kept : (a : Fraction) → IsReduced a → reduced a.num a.den ≡ a
  pub fits : (n : ℤ) (d : ℕ) → 0 < d → (fits (reduced n d) ≡ true) ↔ HasEqualInWidth n d
