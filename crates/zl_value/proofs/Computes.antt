-- The functions on fractions compute at numerals, also at long ones.
use Rattle.std.proofs.Common.{◌≡◌, refl, negsuc}
use Rattle.std.specs.Prelude.{pos, Err, Result}
use Rattle.std.specs.declared.cmp.Ordering.TheVariants.{Greater}
use Rattle.zl_value.specs.declared.arith.Arith.{Arith}
use Rattle.zl_value.specs.declared.arith.Arith.TheVariants.{Range, Division}
use Rattle.zl_value.specs.Fraction.{Fraction, over, gcd_in, gcd, reduced, add, mul, ratio, div, compare, fits, fitted, fitted_ratio}

-- two neighbours of Fibonacci's sequence, which take the most divisions
longest : gcd 1100087778366101931 679891637638612258 ≡ 1
unfolding gcd gcd_in
longest = refl

thirds : add (over (pos 1) 3) (over (negsuc 0) 12) ≡ over (pos 1) 4
unfolding add reduced gcd gcd_in
thirds = refl

long_product : mul (over (pos 1152921504606846975) 1000000007) (over (pos 1000000007) 1152921504606846976) ≡ over (pos 1152921504606846975) 1152921504606846976
unfolding mul reduced gcd gcd_in
long_product = refl

long_order : compare (over (pos 1152921504606846975) 1152921504606846976) (over (pos 1152921504606846974) 1152921504606846975) ≡ Greater
unfolding compare
long_order = refl

quotient : div (over (pos 3) 4) (over (negsuc 8) 16) ≡ over (negsuc 3) 3
unfolding div ratio reduced gcd gcd_in
quotient = refl

past_the_width : ◌≡◌ {A = Result Fraction Arith} (fitted (mul (over (pos 9223372036854775807) 1) (over (pos 2) 1))) (Err Range)
unfolding mul reduced gcd gcd_in fitted fits
past_the_width = refl

no_quotient : ◌≡◌ {A = Result Fraction Arith} (fitted_ratio (pos 1) (pos 0)) (Err Division)
unfolding fitted_ratio
no_quotient = refl
