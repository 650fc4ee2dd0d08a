-- What the operators make of values. This project's own, after Zélus.
use Rattle.std.specs.Prelude.{nat_eq, ℤ, pos, negsuc, ◌+ℤ◌, ◌-ℤ◌, ◌*ℤ◌, int_le, int_div, int_rem, unsigned_abs, Bool, true, false, not, ◌&&◌, ◌||◌, if◌then◌else◌, List, [], ◌∷◌, Option, Some, None}
use Rattle.std.specs.Ordering.{int_cmp, is_eq, is_ne, is_lt, is_le, is_gt, is_ge}
use Rattle.std.specs.declared.cmp.Ordering.{Ordering}
use Rattle.std.specs.declared.cmp.Ordering.TheVariants.{Less, Equal, Greater}
use Rattle.zl_value.specs.Fraction.{Fraction, add, sub, mul, div, neg, whole, compare, fits, greatest}
use Rattle.zl_value.specs.declared.arith.Arith.{Arith}
use Rattle.zl_value.specs.declared.arith.Arith.TheVariants.{Range, Division}
use Rattle.zl_value.specs.declared.value.Value.{Value}
use Rattle.zl_value.specs.declared.value.Value.TheVariants.{B, I, F}
use Rattle.zl_value.specs.declared.op.Op.{Op}
use Rattle.zl_value.specs.declared.op.Op.TheVariants.{AddInt, SubInt, MulInt, DivInt, ModInt, NegInt, AddFloat, SubFloat, MulFloat, DivFloat, NegFloat, FloatOfInt, Truncate, EqBool, NeBool, LtBool, LeBool, GtBool, GeBool, EqInt, NeInt, LtInt, LeInt, GtInt, GeInt, EqFloat, NeFloat, LtFloat, LeFloat, GtFloat, GeFloat, And, Or, Not}

-- what an operator answers: a value, why there is none, or nothing, where an operand is missing
pub data Answer : Type 0 where
  Gives : Value → Answer
  Faults : Arith → Answer
  Nothing : Answer

-- the value, if there is one
abbrev pub answered : Answer → Option Value
answered (Gives v) = Some v
answered (Faults a) = None
answered Nothing = None

abbrev pub on_ints : (ℤ → ℤ → Answer) → List Value → Answer
on_ints make (I a ∷ I b ∷ []) = make a b
on_ints make _ = Nothing

abbrev pub on_int : (ℤ → Answer) → List Value → Answer
on_int make (I a ∷ []) = make a
on_int make _ = Nothing

abbrev pub on_floats : (Fraction → Fraction → Answer) → List Value → Answer
on_floats make (F a ∷ F b ∷ []) = make a b
on_floats make _ = Nothing

abbrev pub on_float : (Fraction → Answer) → List Value → Answer
on_float make (F a ∷ []) = make a
on_float make _ = Nothing

abbrev pub on_bools : (Bool → Bool → Answer) → List Value → Answer
on_bools make (B a ∷ B b ∷ []) = make a b
on_bools make _ = Nothing

abbrev pub on_bool : (Bool → Answer) → List Value → Answer
on_bool make (B a ∷ []) = make a
on_bool make _ = Nothing

-- `false` is less than `true`
abbrev pub bool_order : Bool → Bool → Ordering
bool_order false false = Equal
bool_order false true = Less
bool_order true false = Greater
bool_order true true = Equal

-- whole numbers compared, fractions compared, bools compared
abbrev pub int_test : (Ordering → Bool) → List Value → Answer
int_test test = on_ints (λ a b. Gives (B (test (int_cmp a b))))

abbrev pub float_test : (Ordering → Bool) → List Value → Answer
float_test test = on_floats (λ a b. Gives (B (test (compare a b))))

abbrev pub bool_test : (Ordering → Bool) → List Value → Answer
bool_test test = on_bools (λ a b. Gives (B (test (bool_order a b))))

-- the value, unless the divisor is zero
abbrev pub divided_by : ℤ → Value → Answer
divided_by divisor v = if nat_eq (unsigned_abs divisor) 0 then Faults Division else Gives v

-- the exact result, whatever its size
abbrev pub exact : Op → List Value → Answer
exact AddInt = on_ints (λ a b. Gives (I (a +ℤ b)))
exact SubInt = on_ints (λ a b. Gives (I (a -ℤ b)))
exact MulInt = on_ints (λ a b. Gives (I (a *ℤ b)))
exact DivInt = on_ints (λ a b. divided_by b (I (int_div a b)))
exact ModInt = on_ints (λ a b. divided_by b (I (int_rem a b)))
exact NegInt = on_int (λ a. Gives (I (pos 0 -ℤ a)))
exact AddFloat = on_floats (λ a b. Gives (F (add a b)))
exact SubFloat = on_floats (λ a b. Gives (F (sub a b)))
exact MulFloat = on_floats (λ a b. Gives (F (mul a b)))
exact DivFloat = on_floats (λ a b. divided_by b.num (F (div a b)))
exact NegFloat = on_float (λ a. Gives (F (neg a)))
exact FloatOfInt = on_int (λ a. Gives (F (whole a)))
exact Truncate = on_float (λ a. Gives (I (int_div a.num (pos a.den))))
exact EqBool = bool_test is_eq
exact NeBool = bool_test is_ne
exact LtBool = bool_test is_lt
exact LeBool = bool_test is_le
exact GtBool = bool_test is_gt
exact GeBool = bool_test is_ge
exact EqInt = int_test is_eq
exact NeInt = int_test is_ne
exact LtInt = int_test is_lt
exact LeInt = int_test is_le
exact GtInt = int_test is_gt
exact GeInt = int_test is_ge
exact EqFloat = float_test is_eq
exact NeFloat = float_test is_ne
exact LtFloat = float_test is_lt
exact LeFloat = float_test is_le
exact GtFloat = float_test is_gt
exact GeFloat = float_test is_ge
exact And = on_bools (λ a b. Gives (B (a && b)))
exact Or = on_bools (λ a b. Gives (B (a || b)))
exact Not = on_bool (λ a. Gives (B (not a)))

-- the whole number is one of the program's: it has 64 bits, one of them for its sign
abbrev pub int_fits : ℤ → Bool
int_fits n = int_le (negsuc greatest) n && int_le n (pos greatest)

-- the value is in the width
abbrev pub value_fits : Value → Bool
value_fits (B b) = true
value_fits (I n) = int_fits n
value_fits (F f) = fits f

-- a value out of the width is none
abbrev pub within : Answer → Answer
within (Gives v) = if value_fits v then Gives v else Faults Range
within (Faults a) = Faults a
within Nothing = Nothing

-- the answer of an operator in a program: its exact result, if that is in the width
abbrev pub operate : Op → List Value → Answer
operate op values = within (exact op values)
