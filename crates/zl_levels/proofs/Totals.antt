-- An operator whose operands are there answers by a value or by a fault.
use Rattle.std.specs.Prelude.{ℤ, nat_eq, unsigned_abs, Bool, true, false, if◌then◌else◌, List, [], ◌∷◌}
use Rattle.zl_value.specs.Fraction.{Fraction}
use Rattle.zl_value.specs.OperatorTypes.{type_of}
use Rattle.zl_value.specs.Operators.{Answer, Gives, Faults, Nothing, on_ints, on_int, on_floats, on_float, on_bools, on_bool, divided_by, exact, value_fits, within, operate}
use Rattle.zl_value.specs.declared.arith.Arith.TheVariants.{Range, Division}
use Rattle.zl_value.specs.declared.value.Ty.TheVariants.{Bool as BoolTy, Int, Float}
use Rattle.zl_value.specs.declared.value.Value.{Value}
use Rattle.zl_value.specs.declared.value.Value.TheVariants.{B, I, F}
use Rattle.zl_value.specs.declared.op.Op.{Op}
use Rattle.zl_value.specs.declared.op.Op.TheVariants.{AddInt, SubInt, MulInt, DivInt, ModInt, NegInt, AddFloat, SubFloat, MulFloat, DivFloat, NegFloat, FloatOfInt, Truncate, EqBool, NeBool, LtBool, LeBool, GtBool, GeBool, EqInt, NeInt, LtInt, LeInt, GtInt, GeInt, EqFloat, NeFloat, LtFloat, LeFloat, GtFloat, GeFloat, And, Or, Not}
use Rattle.zl_meaning.proofs.GradesKept.OfTypes.{AreOf}

-- it is a value or a fault
abbrev pub IsAnswer : Answer → Type 0
IsAnswer (Gives v) = Unit {0}
IsAnswer (Faults a) = Unit {0}
IsAnswer Nothing = ⊥

ints_answer : (make : ℤ → ℤ → Answer) → ((a b : ℤ) → IsAnswer (make a b)) → (vs : List Value) → AreOf (Int ∷ Int ∷ []) vs → IsAnswer (on_ints make vs)
ints_answer make h [] r = absurd r
ints_answer make h (v ∷ []) r = absurd r.1
ints_answer make h (I a ∷ I b ∷ []) r = h a b
ints_answer make h (I a ∷ I b ∷ c ∷ vs) r = absurd r.1.1
ints_answer make h (I a ∷ B b ∷ vs) r = absurd r.1.0
ints_answer make h (I a ∷ F b ∷ vs) r = absurd r.1.0
ints_answer make h (B a ∷ b ∷ vs) r = absurd r.0
ints_answer make h (F a ∷ b ∷ vs) r = absurd r.0

floats_answer : (make : Fraction → Fraction → Answer) → ((a b : Fraction) → IsAnswer (make a b)) → (vs : List Value) → AreOf (Float ∷ Float ∷ []) vs → IsAnswer (on_floats make vs)
floats_answer make h [] r = absurd r
floats_answer make h (v ∷ []) r = absurd r.1
floats_answer make h (F a ∷ F b ∷ []) r = h a b
floats_answer make h (F a ∷ F b ∷ c ∷ vs) r = absurd r.1.1
floats_answer make h (F a ∷ B b ∷ vs) r = absurd r.1.0
floats_answer make h (F a ∷ I b ∷ vs) r = absurd r.1.0
floats_answer make h (B a ∷ b ∷ vs) r = absurd r.0
floats_answer make h (I a ∷ b ∷ vs) r = absurd r.0

bools_answer : (make : Bool → Bool → Answer) → ((a b : Bool) → IsAnswer (make a b)) → (vs : List Value) → AreOf (BoolTy ∷ BoolTy ∷ []) vs → IsAnswer (on_bools make vs)
bools_answer make h [] r = absurd r
bools_answer make h (v ∷ []) r = absurd r.1
bools_answer make h (B a ∷ B b ∷ []) r = h a b
bools_answer make h (B a ∷ B b ∷ c ∷ vs) r = absurd r.1.1
bools_answer make h (B a ∷ F b ∷ vs) r = absurd r.1.0
bools_answer make h (B a ∷ I b ∷ vs) r = absurd r.1.0
bools_answer make h (F a ∷ b ∷ vs) r = absurd r.0
bools_answer make h (I a ∷ b ∷ vs) r = absurd r.0

int_answer : (make : ℤ → Answer) → ((a : ℤ) → IsAnswer (make a)) → (vs : List Value) → AreOf (Int ∷ []) vs → IsAnswer (on_int make vs)
int_answer make h [] r = absurd r
int_answer make h (I a ∷ []) r = h a
int_answer make h (I a ∷ b ∷ vs) r = absurd r.1
int_answer make h (B a ∷ vs) r = absurd r.0
int_answer make h (F a ∷ vs) r = absurd r.0

float_answer : (make : Fraction → Answer) → ((a : Fraction) → IsAnswer (make a)) → (vs : List Value) → AreOf (Float ∷ []) vs → IsAnswer (on_float make vs)
float_answer make h [] r = absurd r
float_answer make h (F a ∷ []) r = h a
float_answer make h (F a ∷ b ∷ vs) r = absurd r.1
float_answer make h (B a ∷ vs) r = absurd r.0
float_answer make h (I a ∷ vs) r = absurd r.0

bool_answer : (make : Bool → Answer) → ((a : Bool) → IsAnswer (make a)) → (vs : List Value) → AreOf (BoolTy ∷ []) vs → IsAnswer (on_bool make vs)
bool_answer make h [] r = absurd r
bool_answer make h (B a ∷ []) r = h a
bool_answer make h (B a ∷ b ∷ vs) r = absurd r.1
bool_answer make h (F a ∷ vs) r = absurd r.0
bool_answer make h (I a ∷ vs) r = absurd r.0

divided_answer : (d : ℤ) (v : Value) → IsAnswer (divided_by d v)
divided_answer d v = go (nat_eq (unsigned_abs d) 0)
  where
    go : (t : Bool) → IsAnswer (if t then Faults Division else Gives v)
    go true = tt
    go false = tt

exact_answer : (op : Op) (vs : List Value) → AreOf (type_of op).operands vs → IsAnswer (exact op vs)
exact_answer AddInt vs r = ints_answer _ (λ a b. tt) vs r
exact_answer SubInt vs r = ints_answer _ (λ a b. tt) vs r
exact_answer MulInt vs r = ints_answer _ (λ a b. tt) vs r
exact_answer DivInt vs r = ints_answer _ (λ a b. divided_answer b _) vs r
exact_answer ModInt vs r = ints_answer _ (λ a b. divided_answer b _) vs r
exact_answer NegInt vs r = int_answer _ (λ a. tt) vs r
exact_answer AddFloat vs r = floats_answer _ (λ a b. tt) vs r
exact_answer SubFloat vs r = floats_answer _ (λ a b. tt) vs r
exact_answer MulFloat vs r = floats_answer _ (λ a b. tt) vs r
exact_answer DivFloat vs r = floats_answer _ (λ a b. divided_answer b.num _) vs r
exact_answer NegFloat vs r = float_answer _ (λ a. tt) vs r
exact_answer FloatOfInt vs r = int_answer _ (λ a. tt) vs r
exact_answer Truncate vs r = float_answer _ (λ a. tt) vs r
exact_answer EqBool vs r = bools_answer _ (λ a b. tt) vs r
exact_answer NeBool vs r = bools_answer _ (λ a b. tt) vs r
exact_answer LtBool vs r = bools_answer _ (λ a b. tt) vs r
exact_answer LeBool vs r = bools_answer _ (λ a b. tt) vs r
exact_answer GtBool vs r = bools_answer _ (λ a b. tt) vs r
exact_answer GeBool vs r = bools_answer _ (λ a b. tt) vs r
exact_answer EqInt vs r = ints_answer _ (λ a b. tt) vs r
exact_answer NeInt vs r = ints_answer _ (λ a b. tt) vs r
exact_answer LtInt vs r = ints_answer _ (λ a b. tt) vs r
exact_answer LeInt vs r = ints_answer _ (λ a b. tt) vs r
exact_answer GtInt vs r = ints_answer _ (λ a b. tt) vs r
exact_answer GeInt vs r = ints_answer _ (λ a b. tt) vs r
exact_answer EqFloat vs r = floats_answer _ (λ a b. tt) vs r
exact_answer NeFloat vs r = floats_answer _ (λ a b. tt) vs r
exact_answer LtFloat vs r = floats_answer _ (λ a b. tt) vs r
exact_answer LeFloat vs r = floats_answer _ (λ a b. tt) vs r
exact_answer GtFloat vs r = floats_answer _ (λ a b. tt) vs r
exact_answer GeFloat vs r = floats_answer _ (λ a b. tt) vs r
exact_answer And vs r = bools_answer _ (λ a b. tt) vs r
exact_answer Or vs r = bools_answer _ (λ a b. tt) vs r
exact_answer Not vs r = bool_answer _ (λ a. tt) vs r

-- within the width too
pub operate_answer : (op : Op) (vs : List Value) → AreOf (type_of op).operands vs → IsAnswer (operate op vs)
operate_answer op vs r = by (exact op vs) (exact_answer op vs r)
  where
    in_width : (v : Value) (t : Bool) → IsAnswer (if t then Gives v else Faults Range)
    in_width v true = tt
    in_width v false = tt

    by : (x : Answer) → IsAnswer x → IsAnswer (within x)
    by (Gives v) h = in_width v (value_fits v)
    by (Faults a) h = tt
    by Nothing h = h
