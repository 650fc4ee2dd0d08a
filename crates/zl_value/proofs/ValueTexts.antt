-- How long the texts of numbers are, and the text of a fraction by its denominator.
use Rattle.std.proofs.Common.{◌≡◌, ℕ, ◌+◌, ◌≤◌, ◌<◌, ◌^◌, ℤ, pos, List, ◌++◌, length, codes, decimal, cond, nat_eq, sym, ◌∙◌, ap, arith, w64, to_z, of_z, rules, length-append}
use Rattle.std.proofs.lemmas.Bool.{ne_eqb}
use Rattle.std.specs.Fmt.{signed_decimal}
use Rattle.std.proofs.lemmas.Fmt.{length-decimal-le, length_signed_le}
use Rattle.std.proofs.lemmas.Int.{to_z-of_z}
use Rattle.zl_value.specs.Fraction.{Fraction}
use Rattle.zl_value.specs.ValueText.{fraction_text}
use Rattle.zl_value.specs.Room.{WritesAt}
use Rattle.zl_value.proofs.Rooms.{writes_on}
use lib.Signed.{mag}

pub length-signed_decimal-le : (z : ℤ) → mag z < 2 ^ 63 → length (signed_decimal z) ≤ 20
length-signed_decimal-le z small = length_signed_le 19 z (omega arith) small

pub length-decimal-le-nineteen : (n : ℕ) → n ≤ 9223372036854775807 → length (decimal n) ≤ 19
length-decimal-le-nineteen n small = length-decimal-le 19 n (omega arith) (omega arith) (omega arith)

-- a number of 64 bits that is passed on is the number
pub passed_on : (z : ℤ) → mag z < 2 ^ 63 → to_z w64 (of_z w64 z) ≡ z
passed_on z small = to_z-of_z w64 z (search rules)

-- a positive number of 64 bits, as its bits give it
pub passed_on-positive : (z : ℤ) (n : ℕ) → z ≡ pos n → of_z w64 z ≡ n
passed_on-positive z n is = ap (of_z w64) is

pub fraction_text-whole : (f : Fraction) → f.den ≡ 1 → fraction_text f ≡ signed_decimal f.num
fraction_text-whole f one = ap (λ d. cond (nat_eq d 1) (signed_decimal f.num) (signed_decimal f.num ++ codes "/" ++ decimal f.den)) one

pub fraction_text-parts : (f : Fraction) → (f.den ≡ 1 → ⊥) → fraction_text f ≡ signed_decimal f.num ++ codes "/" ++ decimal f.den
fraction_text-parts f more =
    ap (λ b. cond b (signed_decimal f.num) (signed_decimal f.num ++ codes "/" ++ decimal f.den)) (ne_eqb f.den 1 more)

-- the three writes of a fraction, at the numbers as they are passed on
pub fraction_written : (f : Fraction) (num den : ℤ) (old numbered barred new : List ℕ) (start end behind : ℕ) → num ≡ f.num → den ≡ pos f.den → (f.den ≡ 1 → ⊥) → WritesAt old start (signed_decimal num) numbered → end ≡ start + length (signed_decimal num) → WritesAt numbered end (codes "/") barred → behind ≡ end + 1 → WritesAt barred behind (signed_decimal den) new → behind ≤ length old → WritesAt old start (fraction_text f) new
fraction_written f num den old numbered barred new start end behind num_is den_is more first ends second follows third room =
    let front : WritesAt old start (signed_decimal num ++ codes "/") barred = writes_on first ends second (omega arith) in
    let whole : WritesAt old start (signed_decimal num ++ codes "/" ++ signed_decimal den) new =
    writes_on front (omega (arith, length-append (signed_decimal num) (codes "/"))) third room in
    let text : fraction_text f ≡ signed_decimal num ++ codes "/" ++ signed_decimal den =
    fraction_text-parts f more ∙ ap (λ z. signed_decimal z ++ codes "/" ++ decimal f.den) (sym num_is) ∙ ap (λ z. signed_decimal num ++ codes "/" ++ signed_decimal z) (sym den_is) in
    rw text whole
