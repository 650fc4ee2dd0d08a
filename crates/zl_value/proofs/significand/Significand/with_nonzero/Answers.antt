use Rattle.std.proofs.Common.{◌≡◌, ◌*◌, refl, arith}
use Rattle.zl_value.specs.Significand.{with_zeros}
use Rattle.zl_value.proofs.Significands.{many_zeros, power_fits, front_long, front_short}
use Rattle.zl_value.proofs.significand.Significand.with_nonzero.Goals as goal

pub returns-then-self-ge-MOST_DIGITS : goal.returns-then-self-ge-MOST_DIGITS
returns-then-self-ge-MOST_DIGITS c =
    many_zeros _ _ _ c.args.self.bare c.if-self-ge-MOST_DIGITS.true c.requires.least c.requires.greatest

pub pow-requires : goal.pow-requires
pow-requires c = power_fits c.args.self.zeros c.if-self-ge-MOST_DIGITS.false

pub returns-then-front-ge-LIMIT : goal.returns-then-front-ge-LIMIT
returns-then-front-ge-LIMIT c =
    front_long _ _ _ _ _ c.pow.ensures c.saturating_mul-front.ensures c.if-front-ge-LIMIT.true c.requires.least c.requires.greatest

pub invariant_of-result : goal.invariant_of-result
invariant_of-result c =
    let front : c.saturating_mul-front.result ≡ with_zeros c.args.self.number c.args.self.zeros * 10 =
    front_short _ _ _ _ c.pow.ensures c.saturating_mul-front.ensures c.if-front-ge-LIMIT.false in
    record { short = omega arith; last = λ h. omega arith; bare = λ h. refl }

pub returns : goal.returns
returns c =
    let front : c.saturating_mul-front.result ≡ with_zeros c.args.self.number c.args.self.zeros * 10 =
    front_short _ _ _ _ c.pow.ensures c.saturating_mul-front.ensures c.if-front-ge-LIMIT.false in
    (omega arith, refl)
