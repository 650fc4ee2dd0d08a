-- Times and values that are read are numbers of the program.
use Rattle.std.proofs.Common.{◌≡◌, ℕ, suc, ◌*◌, ◌/◌, ◌<◌, ◌≤◌, ◌^◌, ℤ, pos, negsuc, Bool, true, false, ◌&&◌, cond, List, [], ◌∷◌, Option, Some, None, is_some, codes, refl, ◌∙◌, arith}
use Rattle.std.specs.Prelude.{◌==◌, option_and_then, int_lt, int_le, nat_lt}
use Rattle.std.specs.Option.{option_or}
use Rattle.std.proofs.Math.Nat.{pow-le-pow_right}
use Rattle.std.proofs.lemmas.Bool.{eqb-false, le-ltb}
use Rattle.std.specs.Str.{bytes_eq}
use Rattle.std.specs.Str.Parse.{digits_value}
use Rattle.zl_value.specs.Fraction.{Fraction, IsFrac, reduced, gcd, whole, fits}
use Rattle.zl_value.specs.Decimal.{Scaled, Parts, run, after_run, is_digits, float_parts, scaled_parts, powered, if_fits, accepted, decimal_value}
use Rattle.zl_value.specs.RatioText.{short_number, over, quotient, ratio_value}
use Rattle.zl_value.specs.Operators.{int_fits}
use Rattle.zl_value.specs.Script.{IsTime, IsOfType}
use Rattle.zl_value.specs.declared.value.Ty.{Ty}
use Rattle.zl_value.specs.declared.value.Ty.TheVariants as type
use Rattle.zl_value.specs.declared.value.Value.{Value}
use Rattle.zl_value.specs.declared.value.Value.TheVariants.{B, I, F}
use Rattle.zl_value.proofs.FractionLaws.{IsReduced-whole}
use Rattle.zl_value.proofs.Fractions.{IsReduced-reduced, IsFrac-neg}
use Rattle.zl_script.specs.declared.literal.Literal.{Literal}
use Rattle.zl_script.specs.declared.literal.Literal.TheVariants as literal
use Rattle.zl_script.specs.Numbers.{time_of, signed, is_ratio, whole_literal, fraction_literal, number_literal, signed_literal, literal_of, value_for}

some_if : {X : Type 0} (b : Bool) (x y : X) → cond b (Some x) None ≡ Some y → (b ≡ true) × (x ≡ y)
some_if true x y e = (refl, cc)
some_if false x y e = absurd (cc)

not_negative : (n d : ℕ) → int_lt (reduced (pos n) d).num (pos 0) ≡ false
unfolding reduced
not_negative n d = le-ltb (n / gcd n d) 0 (omega arith)

of_reduced : (n d : ℕ) (t : Fraction) → 0 < d → if_fits (reduced (pos n) d) ≡ Some t → IsTime t
of_reduced n d t above e =
    let parts = some_if (fits (reduced (pos n) d)) (reduced (pos n) d) t e in
    rw (← parts.1) (record { number = record { reduced = IsReduced-reduced (pos n) d above; fits = parts.0 }; start = not_negative n d })

of_whole : (n : ℕ) (t : Fraction) → if_fits (whole (pos n)) ≡ Some t → IsTime t
of_whole n t e =
    let parts = some_if (fits (whole (pos n))) (whole (pos n)) t e in
    rw (← parts.1) (record { number = record { reduced = IsReduced-whole (pos n); fits = parts.0 }; start = le-ltb n 0 (omega arith) })

of_quotient : (n d : ℕ) (t : Fraction) → quotient n d ≡ Some t → IsTime t
of_quotient n d t e = go (d == 0) refl e
  where
    go : (b : Bool) → (d == 0) ≡ b → cond b None (if_fits (reduced (pos n) d)) ≡ Some t → IsTime t
    go true h e = absurd (cc)
    go false h e = of_reduced n d t (omega (arith, eqb-false d 0 h)) e

of_over : (n : ℕ) (rest : List ℕ) (t : Fraction) → over n rest ≡ Some t → IsTime t
of_over n [] t e = of_quotient n 1 t e
of_over n (c ∷ digits) t e = go (c == 47) e
  where
    divided_by : (d : Option ℕ) → option_and_then (quotient n) d ≡ Some t → IsTime t
    divided_by None e = absurd (cc)
    divided_by (Some d) e = of_quotient n d t e

    go : (b : Bool) → cond b (option_and_then (quotient n) (short_number digits)) None ≡ Some t → IsTime t
    go true e = divided_by (short_number digits) e
    go false e = absurd (cc)

pub of_ratio : (text : List ℕ) (t : Fraction) → ratio_value text ≡ Some t → IsTime t
unfolding ratio_value
of_ratio text t e = go (short_number (run text)) e
  where
    go : (n : Option ℕ) → option_and_then (λ n. over n (after_run text)) n ≡ Some t → IsTime t
    go None e = absurd (cc)
    go (Some n) e = of_over n (after_run text) t e

of_powered : (n : ℕ) (e : ℤ) (t : Fraction) → if_fits (powered n e) ≡ Some t → IsTime t
of_powered n (pos e) t h = of_whole (n * 10 ^ e) t h
of_powered n (negsuc e) t h =
    let ten : 0 < 10 = omega arith in
    let none : 0 ≤ suc e = omega arith in
    let least : 10 ^ 0 ≤ 10 ^ suc e = pow-le-pow_right {n = 10} ten none in
    of_reduced n (10 ^ suc e) t (omega arith) h

of_accepted : (s : Scaled) (t : Fraction) → accepted s ≡ Some t → IsTime t
unfolding fits
of_accepted s t e = go (s.number == 0) e
  where
    zero_is : IsTime (whole (pos 0))
    zero_is = record { number = record { reduced = IsReduced-whole (pos 0); fits = refl }; start = refl }

    small : (b : Bool) → cond b (if_fits (powered s.number s.power)) None ≡ Some t → IsTime t
    small true e = of_powered s.number s.power t e
    small false e = absurd (cc)

    go : (b : Bool) → cond b (Some (whole (pos 0))) (cond (nat_lt s.number (10 ^ 38) && (int_le (negsuc 37) s.power && int_le s.power (pos 18))) (if_fits (powered s.number s.power)) None) ≡ Some t → IsTime t
    go true e = let is : whole (pos 0) ≡ t = cc in rw (← is) zero_is
    go false e = small (nat_lt s.number (10 ^ 38) && (int_le (negsuc 37) s.power && int_le s.power (pos 18))) e

pub of_decimal : (text : List ℕ) (t : Fraction) → decimal_value text ≡ Some t → IsTime t
unfolding decimal_value
of_decimal text t e = go (float_parts text) e
  where
    go : (p : Option Parts) → option_and_then (λ p. accepted (scaled_parts p)) p ≡ Some t → IsTime t
    go None e = absurd (cc)
    go (Some p) e = of_accepted (scaled_parts p) t e

pub time_is : (text : List ℕ) (t : Fraction) → time_of text ≡ Some t → IsTime t
time_is text t e = go (ratio_value text) refl e
  where
    go : (r : Option Fraction) → ratio_value text ≡ r → option_or r (decimal_value text) ≡ Some t → IsTime t
    go None h e = of_decimal text t e
    go (Some f) h e = of_ratio text t (h ∙ e)

-- what a value's word says is in the width, if it is there
abbrev pub IsLiteral : Literal → Type 0
IsLiteral (literal.Whole (Some n)) = int_fits n ≡ true
IsLiteral (literal.Fractional (Some f)) = IsFrac f
IsLiteral _ = Unit {0}

whole_is : (n : ℤ) → IsLiteral (literal.Whole (cond (int_fits n) (Some n) None))
whole_is n = go (int_fits n) refl
  where
    go : (b : Bool) → int_fits n ≡ b → IsLiteral (literal.Whole (cond b (Some n) None))
    go true e = e
    go false e = tt

fractional_is : (negative : Bool) (f : Option Fraction) → ((g : Fraction) → f ≡ Some g → IsTime g) → IsLiteral (fraction_literal negative f)
fractional_is negative None h = tt
fractional_is false (Some f) h = (h f refl).number
fractional_is true (Some f) h = IsFrac-neg f (h f refl).number

number_is : (negative : Bool) (text : List ℕ) (l : Literal) → number_literal negative text ≡ Some l → IsLiteral l
number_is negative text l e = digits (is_digits text) e
  where
    some : (m : Literal) → IsLiteral m → Some m ≡ Some l → IsLiteral l
    some m good e = let is : m ≡ l = cc in rw (← is) good

    pointed : (b : Bool) → cond b (Some (fraction_literal negative (decimal_value text))) None ≡ Some l → IsLiteral l
    pointed true e = some _ (fractional_is negative (decimal_value text) (of_decimal text)) e
    pointed false e = absurd (cc)

    divided_at : (b : Bool) → cond b (Some (fraction_literal negative (ratio_value text))) (cond (is_some (float_parts text)) (Some (fraction_literal negative (decimal_value text))) None) ≡ Some l → IsLiteral l
    divided_at true e = some _ (fractional_is negative (ratio_value text) (of_ratio text)) e
    divided_at false e = pointed (is_some (float_parts text)) e

    digits : (b : Bool) → cond b (Some (whole_literal negative (digits_value 10 text))) (cond (is_ratio text) (Some (fraction_literal negative (ratio_value text))) (cond (is_some (float_parts text)) (Some (fraction_literal negative (decimal_value text))) None)) ≡ Some l → IsLiteral l
    digits true e = some _ (whole_is (signed negative (digits_value 10 text))) e
    digits false e = divided_at (is_ratio text) e

signed_is : (text : List ℕ) (l : Literal) → signed_literal text ≡ Some l → IsLiteral l
signed_is [] l e = absurd (cc)
signed_is (c ∷ text) l e = go (c == 45) e
  where
    go : (b : Bool) → cond b (number_literal true text) (number_literal false (c ∷ text)) ≡ Some l → IsLiteral l
    go true e = number_is true text l e
    go false e = number_is false (c ∷ text) l e

pub literal_is : (text : List ℕ) (l : Literal) → literal_of text ≡ Some l → IsLiteral l
unfolding literal_of
literal_is text l e = first (bytes_eq text (codes "true")) e
  where
    second : (b : Bool) → cond b (Some (literal.Truth false)) (signed_literal text) ≡ Some l → IsLiteral l
    second true e = let is : literal.Truth false ≡ l = cc in rw (← is) tt
    second false e = signed_is text l e

    first : (b : Bool) → cond b (Some (literal.Truth true)) (cond (bytes_eq text (codes "false")) (Some (literal.Truth false)) (signed_literal text)) ≡ Some l → IsLiteral l
    first true e = let is : literal.Truth true ≡ l = cc in rw (← is) tt
    first false e = second (bytes_eq text (codes "false")) e

-- a value that an input takes is one of its type
pub value_is : (ty : Ty) (l : Literal) (v : Value) → IsLiteral l → value_for ty l ≡ Some v → IsOfType ty v
value_is type.Bool (literal.Truth b) v good e = let is : B b ≡ v = cc in rw (← is) tt
value_is type.Int (literal.Whole (Some n)) v good e = let is : I n ≡ v = cc in rw (← is) good
value_is type.Float (literal.Whole (Some n)) v good e =
    let parts = some_if (fits (whole n)) (F (whole n)) v e in
    rw (← parts.1) (record { reduced = IsReduced-whole n; fits = parts.0 })
value_is type.Float (literal.Fractional (Some f)) v good e = let is : F f ≡ v = cc in rw (← is) good
value_is type.Bool (literal.Whole n) v good e = absurd (cc)
value_is type.Bool (literal.Fractional f) v good e = absurd (cc)
value_is type.Int (literal.Truth b) v good e = absurd (cc)
value_is type.Int (literal.Whole None) v good e = absurd (cc)
value_is type.Int (literal.Fractional f) v good e = absurd (cc)
value_is type.Float (literal.Truth b) v good e = absurd (cc)
value_is type.Float (literal.Whole None) v good e = absurd (cc)
value_is type.Float (literal.Fractional None) v good e = absurd (cc)
value_is type.Zero l v good e = absurd (cc)
