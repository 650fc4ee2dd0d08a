-- Whole numbers as fractions.
use Rattle.std.proofs.Common.{◌≡◌, Bool, true, false, cond, Some, None, Ok, Err, refl, ap}
use Rattle.zl_value.specs.Fraction.{Fraction, fits, fitted}
use Rattle.zl_value.specs.declared.arith.Arith.{Arith}
use Rattle.zl_value.specs.declared.arith.Arith.TheVariants.{Range}
use Rattle.zl_value.specs.declared.value.Value.TheVariants.{F}

pub float_ok : (w f : Fraction) → Ok f ≡ fitted w → Some (F f) ≡ cond (fits w) (Some (F w)) None
unfolding fitted
float_ok w f e = go (fits w) e
  where
    go : (b : Bool) → Ok f ≡ cond b (Ok w) (Err Range) → Some (F f) ≡ cond b (Some (F w)) None
    go true e = let is : f ≡ w = cc in ap (λ g. Some (F g)) is
    go false e = absurd (cc)

pub float_err : (w : Fraction) (a : Arith) → Err a ≡ fitted w → None ≡ cond (fits w) (Some (F w)) None
unfolding fitted
float_err w a e = go (fits w) e
  where
    go : (b : Bool) → Err a ≡ cond b (Ok w) (Err Range) → None ≡ cond b (Some (F w)) None
    go true e = absurd (cc)
    go false e = refl
