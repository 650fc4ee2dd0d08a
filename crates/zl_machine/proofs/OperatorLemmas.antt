-- Answers of operators on fractions, as the calls on `Frac` give them.
use Rattle.std.specs.Prelude.{◌≡◌, Bool, true, false, if◌then◌else◌, unsigned_abs, nat_eq, Ok, Err}
use Rattle.std.proofs.Common.{refl, Option, Some, None}
use Rattle.zl_value.specs.Fraction.{Fraction, fits, fitted, fitted_div, div}
use Rattle.zl_value.specs.Operators.{Gives, Faults, within, divided_by}
use Rattle.zl_value.specs.declared.arith.Arith.TheVariants.{Range, Division}
use Rattle.zl_value.specs.declared.value.Value.{Value}
use Rattle.zl_value.specs.declared.value.Value.TheVariants.{B, I, F}
use Rattle.zl_machine.specs.Answers.{made, float_of}

fitting : (b : Bool) (f : Fraction) → made (if b then Ok f else Err Range) ≡ (if b then Gives (F f) else Faults Range)
fitting true f = refl
fitting false f = refl

pub made_fitted : (f : Fraction) → made (fitted f) ≡ within (Gives (F f))
unfolding fitted
made_fitted f = fitting (fits f) f

pub made_div : (a b : Fraction) → made (fitted_div a b) ≡ within (divided_by b.num (F (div a b)))
unfolding fitted_div fitted
made_div a b = go (nat_eq (unsigned_abs b.num) 0)
  where
    go : (t : Bool) → made (if t then Err Division else (if fits (div a b) then Ok (div a b) else Err Range)) ≡ within (if t then Faults Division else Gives (F (div a b)))
    go true = refl
    go false = fitting (fits (div a b)) (div a b)

pub float_is : (v : Option Value) (f : Fraction) → Some f ≡ float_of v → v ≡ Some (F f)
float_is None f e = absurd cc
float_is (Some (B b)) f e = absurd cc
float_is (Some (I n)) f e = absurd cc
float_is (Some (F g)) f e = cc
