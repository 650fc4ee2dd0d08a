-- What the operators make of values of their types: a value of the result's type, and a fraction in lowest terms.
use Rattle.std.specs.Prelude.{◌≡◌, ℤ, pos, nat_eq, unsigned_abs, Bool, true, false, if◌then◌else◌, List, [], ◌∷◌, Option, Some, None}
use Rattle.std.proofs.Common.{refl, ap}
use Rattle.zl_value.specs.Fraction.{Fraction, IsReduced, div}
use Rattle.zl_value.specs.Script.{IsOfType}
use Rattle.zl_value.specs.Operators.{Answer, Gives, Faults, Nothing, answered, on_ints, on_int, on_floats, on_float, on_bools, on_bool, exact, within, operate, divided_by, value_fits}
use Rattle.zl_value.specs.OperatorTypes.{type_of}
use Rattle.zl_value.specs.declared.arith.Arith.TheVariants.{Range, Division}
use Rattle.zl_value.specs.declared.value.Value.{Value}
use Rattle.zl_value.specs.declared.value.Value.TheVariants.{B, I, F}
use Rattle.zl_value.specs.declared.value.Ty.{Ty}
use Rattle.zl_value.specs.declared.value.Ty.TheVariants.{Bool as BoolTy, Int, Float, Zero}
use Rattle.zl_value.specs.declared.op.Op.{Op}
use Rattle.zl_value.specs.declared.op.Op.TheVariants.{AddInt, SubInt, MulInt, DivInt, ModInt, NegInt, AddFloat, SubFloat, MulFloat, DivFloat, NegFloat, FloatOfInt, Truncate, EqBool, NeBool, LtBool, LeBool, GtBool, GeBool, EqInt, NeInt, LtInt, LeInt, GtInt, GeInt, EqFloat, NeFloat, LtFloat, LeFloat, GtFloat, GeFloat, And, Or, Not}
use Rattle.zl_value.proofs.FractionLaws.{IsReduced-whole, IsReduced-add, IsReduced-sub, IsReduced-mul, IsReduced-neg, IsReduced-div}
use Rattle.zl_meaning.proofs.WrittenForms.{true-false}

-- a value of this type; a fraction is in lowest terms
abbrev pub IsValueOf : Ty → Value → Type 0
IsValueOf BoolTy (B b) = Unit {0}
IsValueOf Zero (B b) = Unit {0}
IsValueOf Int (I n) = Unit {0}
IsValueOf Float (F x) = IsReduced x
IsValueOf _ _ = ⊥

-- nothing, or such a value
abbrev pub IsOf : Ty → Option Value → Type 0
IsOf ty None = Unit {0}
IsOf ty (Some v) = IsValueOf ty v

-- values of these types, one for each
abbrev pub AreOf : List Ty → List Value → Type 0
AreOf [] [] = Unit {0}
AreOf (ty ∷ tys) (v ∷ vs) = IsValueOf ty v × AreOf tys vs
AreOf _ _ = ⊥

-- a literal is of its type
pub literal_of : (ty : Ty) (v : Value) → IsOfType ty v → IsValueOf ty v
literal_of BoolTy (B b) h = tt
literal_of Int (I n) h = tt
literal_of Float (F x) h = h.reduced
literal_of Zero v h = absurd h
literal_of BoolTy (I n) h = absurd h
literal_of BoolTy (F n) h = absurd h
literal_of Int (B n) h = absurd h
literal_of Int (F n) h = absurd h
literal_of Float (B n) h = absurd h
literal_of Float (I n) h = absurd h

-- what an operator makes of two ints
ints_of : (ty : Ty) (make : ℤ → ℤ → Answer) → ((a b : ℤ) → IsOf ty (answered (make a b))) → (vs : List Value) → IsOf ty (answered (on_ints make vs))
ints_of ty make h (I a ∷ I b ∷ []) = h a b
ints_of ty make h _ = tt

-- of one int
int_of : (ty : Ty) (make : ℤ → Answer) → ((a : ℤ) → IsOf ty (answered (make a))) → (vs : List Value) → IsOf ty (answered (on_int make vs))
int_of ty make h (I a ∷ []) = h a
int_of ty make h _ = tt

-- of two bools
bools_of : (ty : Ty) (make : Bool → Bool → Answer) → ((a b : Bool) → IsOf ty (answered (make a b))) → (vs : List Value) → IsOf ty (answered (on_bools make vs))
bools_of ty make h (B a ∷ B b ∷ []) = h a b
bools_of ty make h _ = tt

-- of one bool
bool_of : (ty : Ty) (make : Bool → Answer) → ((a : Bool) → IsOf ty (answered (make a))) → (vs : List Value) → IsOf ty (answered (on_bool make vs))
bool_of ty make h (B a ∷ []) = h a
bool_of ty make h _ = tt

-- of two floats
floats_of : (ty : Ty) (make : Fraction → Fraction → Answer) → ((a b : Fraction) → IsReduced a → IsReduced b → IsOf ty (answered (make a b))) → (vs : List Value) → AreOf (Float ∷ Float ∷ []) vs → IsOf ty (answered (on_floats make vs))
floats_of ty make h (F a ∷ F b ∷ []) r = h a b r.0 r.1.0
floats_of ty make h _ r = tt

-- of one float
float_of : (ty : Ty) (make : Fraction → Answer) → ((a : Fraction) → IsReduced a → IsOf ty (answered (make a))) → (vs : List Value) → AreOf (Float ∷ []) vs → IsOf ty (answered (on_float make vs))
float_of ty make h (F a ∷ []) r = h a r.0
float_of ty make h _ r = tt

-- a quotient, where the divisor isn't zero
divided_of : (ty : Ty) (d : ℤ) (v : Value) → ((nat_eq (unsigned_abs d) 0 ≡ false) → IsValueOf ty v) → IsOf ty (answered (divided_by d v))
divided_of ty d v h = go (nat_eq (unsigned_abs d) 0) h
  where
    go : (t : Bool) → (t ≡ false → IsValueOf ty v) → IsOf ty (answered (if t then Faults Division else Gives v))
    go true h = tt
    go false h = h refl

-- a number that isn't equal to zero isn't zero
pub not_zero : (d : ℤ) → nat_eq (unsigned_abs d) 0 ≡ false → d ≡ pos 0 → ⊥
not_zero d e p = true-false (let x : nat_eq (unsigned_abs d) 0 ≡ true = ap (λ t. nat_eq (unsigned_abs t) 0) p in x) e

-- each operator gives a value of its result's type
pub exact_of : (op : Op) (vs : List Value) → AreOf (type_of op).operands vs → IsOf (type_of op).result (answered (exact op vs))
exact_of AddInt vs r = ints_of Int _ (λ a b. tt) vs
exact_of SubInt vs r = ints_of Int _ (λ a b. tt) vs
exact_of MulInt vs r = ints_of Int _ (λ a b. tt) vs
exact_of DivInt vs r = ints_of Int _ (λ a b. divided_of Int b _ (λ e. tt)) vs
exact_of ModInt vs r = ints_of Int _ (λ a b. divided_of Int b _ (λ e. tt)) vs
exact_of NegInt vs r = int_of Int _ (λ a. tt) vs
exact_of AddFloat vs r = floats_of Float _ (λ a b p q. IsReduced-add a b p.above q.above) vs r
exact_of SubFloat vs r = floats_of Float _ (λ a b p q. IsReduced-sub a b p.above q.above) vs r
exact_of MulFloat vs r = floats_of Float _ (λ a b p q. IsReduced-mul a b p.above q.above) vs r
exact_of DivFloat vs r = floats_of Float _ (λ a b p q. divided_of Float b.num (F (div a b)) (λ e. IsReduced-div a b p.above (not_zero b.num e))) vs r
exact_of NegFloat vs r = float_of Float _ (λ a p. IsReduced-neg a p) vs r
exact_of FloatOfInt vs r = int_of Float _ (λ a. IsReduced-whole a) vs
exact_of Truncate vs r = float_of Int _ (λ a p. tt) vs r
exact_of EqBool vs r = bools_of BoolTy _ (λ a b. tt) vs
exact_of NeBool vs r = bools_of BoolTy _ (λ a b. tt) vs
exact_of LtBool vs r = bools_of BoolTy _ (λ a b. tt) vs
exact_of LeBool vs r = bools_of BoolTy _ (λ a b. tt) vs
exact_of GtBool vs r = bools_of BoolTy _ (λ a b. tt) vs
exact_of GeBool vs r = bools_of BoolTy _ (λ a b. tt) vs
exact_of EqInt vs r = ints_of BoolTy _ (λ a b. tt) vs
exact_of NeInt vs r = ints_of BoolTy _ (λ a b. tt) vs
exact_of LtInt vs r = ints_of BoolTy _ (λ a b. tt) vs
exact_of LeInt vs r = ints_of BoolTy _ (λ a b. tt) vs
exact_of GtInt vs r = ints_of BoolTy _ (λ a b. tt) vs
exact_of GeInt vs r = ints_of BoolTy _ (λ a b. tt) vs
exact_of EqFloat vs r = floats_of BoolTy _ (λ a b p q. tt) vs r
exact_of NeFloat vs r = floats_of BoolTy _ (λ a b p q. tt) vs r
exact_of LtFloat vs r = floats_of BoolTy _ (λ a b p q. tt) vs r
exact_of LeFloat vs r = floats_of BoolTy _ (λ a b p q. tt) vs r
exact_of GtFloat vs r = floats_of BoolTy _ (λ a b p q. tt) vs r
exact_of GeFloat vs r = floats_of BoolTy _ (λ a b p q. tt) vs r
exact_of And vs r = bools_of BoolTy _ (λ a b. tt) vs
exact_of Or vs r = bools_of BoolTy _ (λ a b. tt) vs
exact_of Not vs r = bool_of BoolTy _ (λ a. tt) vs

-- and so it does where it must be in the width
within_of : (ty : Ty) (x : Answer) → IsOf ty (answered x) → IsOf ty (answered (within x))
within_of ty (Faults a) h = tt
within_of ty Nothing h = tt
within_of ty (Gives v) h = go (value_fits v)
  where
    go : (t : Bool) → IsOf ty (answered (if t then Gives v else Faults Range))
    go true = h
    go false = tt

-- each operator as it stands at instants
pub operate_of : (op : Op) (vs : List Value) → AreOf (type_of op).operands vs → IsOf (type_of op).result (answered (operate op vs))
operate_of op vs r = within_of (type_of op).result (exact op vs) (exact_of op vs r)
