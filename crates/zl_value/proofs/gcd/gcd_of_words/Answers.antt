use Rattle.std.proofs.Common.{arith, ap, ◌∙◌, ◌≡◌, ◌<◌, ◌*◌, ◌%◌, ◌^◌}
use Rattle.std.specs.Int.{trailing_zeros, w64}
use Rattle.std.proofs.Math.Nat.{mod-eq_of_lt}
use Rattle.zl_value.specs.Fraction.{gcd}
use Rattle.zl_value.proofs.Divisors.{gcd_bounds}
use Rattle.zl_value.proofs.Odd.{gcd_of_parts}
use Rattle.zl_value.proofs.gcd.gcd_of_words.Goals as goal

pub returns : goal.returns
returns c =
    let a = c.args.a in
    let b = c.args.b in
    let x = c.odd_part in
    let y = c.odd_part-2 in
    let parts = gcd_of_parts a b x.result y.result (trailing_zeros w64 a) (trailing_zeros w64 b) x.ensures.value y.ensures.value x.ensures.odd y.ensures.odd in
    let product : c.gcd_of_odd.result * 2 ^ c.min-shared.result ≡ gcd a b = cc in
    let fits : gcd a b < 18446744073709551616 = omega (arith, gcd_bounds a b (omega arith)) in
    ap (λ t. t % 18446744073709551616) product ∙ mod-eq_of_lt fits
