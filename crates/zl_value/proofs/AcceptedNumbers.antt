-- A number times a power of ten as a fraction of the width, or none.
use Rattle.std.proofs.Common.{◌≡◌, ℕ, ◌-◌, ◌*◌, ◌^◌, ◌<◌, ◌≤◌, ℤ, pos, Bool, true, false, cond, Some, None, Ok, Err, ◌∙◌, ap, arith, refl, w64, to_z, of_z, FitsSigned, min, inl, inr}
use Rattle.std.proofs.Math.Nat.{pow-le-pow_right}
use Rattle.std.proofs.lemmas.Bool.{cases_lt, ne_eqb, le-ltb, lt-leb, and_left}
use Rattle.std.proofs.lemmas.Int.{to_z-of_z}
use Rattle.std.specs.Result.{result_ok}
use Rattle.zl_value.specs.declared.arith.Arith.TheVariants.{Range}
use Rattle.zl_value.specs.Decimal.{if_fits}
use Rattle.zl_value.specs.Fraction.{Fraction, whole, reduced, ratio, fits, fitted, fitted_ratio, greatest}

pub result_ok-fitted : (f : Fraction) → result_ok (fitted f) ≡ if_fits f
unfolding fitted
result_ok-fitted f =
    elim (fits f) as (λ (b : Bool). result_ok (cond b (Ok f) (Err Range)) ≡ cond b (Some f) None) [ true ↦ refl | false ↦ refl ]

pub result_ok-zero : result_ok (fitted (whole (pos 0))) ≡ Some (whole (pos 0))
unfolding fitted fits
result_ok-zero = refl

-- a number past the width
pub if_fits-past : (n : ℕ) → greatest < n → if_fits (whole (pos n)) ≡ None
unfolding fits
if_fits-past n past = rw (and_left _ _ (lt-leb n greatest past))

-- a product that is computed without an overflow, where it is a number of 64 bits
pub product_within : (n exponent power saturated : ℕ) (product : ℤ) → power ≡ 10 ^ exponent → saturated ≡ min (n * power) (2 ^ 128 - 1) → FitsSigned w64 (pos saturated) → product ≡ pos saturated → to_z w64 (of_z w64 product) ≡ pos (n * 10 ^ exponent)
product_within n exponent power saturated product power_is saturated_is fits_is product_is =
    let small : saturated < 2 ^ 63 = fits_is.sfits in
    let same : saturated ≡ n * 10 ^ exponent = omega (arith, ap (λ t. n * t) power_is) in
    ap (λ z. to_z w64 (of_z w64 z)) product_is ∙ to_z-of_z w64 (pos saturated) fits_is ∙ ap pos same

-- and where it isn't
pub product_past : (n exponent power saturated : ℕ) → power ≡ 10 ^ exponent → saturated ≡ min (n * power) (2 ^ 128 - 1) → (FitsSigned w64 (pos saturated) → ⊥) → greatest < n * 10 ^ exponent
product_past n exponent power saturated power_is saturated_is out =
    elim (cases_lt saturated (2 ^ 63)) [
      | inl small ↦ absurd (out (record { sfits = small }))
      | inr past ↦ omega (arith, ap (λ t. n * t) power_is)
    ]

pub power_short : (exponent : ℕ) → exponent ≤ 38 → 10 ^ exponent ≤ 10 ^ 38
power_short exponent few =
    let some : 0 < 10 = omega arith in
    pow-le-pow_right {n = 10} some few

pub fitted_ratio-positive : (n d : ℕ) → 0 < d → fitted_ratio (pos n) (pos d) ≡ fitted (reduced (pos n) d)
unfolding fitted_ratio ratio
fitted_ratio-positive n d some = rw (ne_eqb d 0 (λ h. omega arith), le-ltb d 0 (omega arith))

pub result_ok-fitted_ratio : (n exponent : ℕ) (num den : ℤ) → num ≡ pos n → den ≡ pos (10 ^ exponent) → result_ok (fitted_ratio num den) ≡ if_fits (reduced (pos n) (10 ^ exponent))
result_ok-fitted_ratio n exponent num den num_is den_is =
    let ten : 0 < 10 = omega arith in
    let none : 0 ≤ exponent = omega arith in
    let least : 10 ^ 0 ≤ 10 ^ exponent = pow-le-pow_right {n = 10} ten none in
    let some : 0 < 10 ^ exponent = omega arith in
    ap (λ z. result_ok (fitted_ratio z den)) num_is ∙ ap (λ z. result_ok (fitted_ratio (pos n) z)) den_is
    ∙ ap result_ok (fitted_ratio-positive n (10 ^ exponent) some) ∙ result_ok-fitted (reduced (pos n) (10 ^ exponent))
