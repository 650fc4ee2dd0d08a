-- What the operators make of values of their types that are in the width: such values, and a fault only where they can fault.
use Rattle.std.specs.Prelude.{◌≡◌, ◌≤◌, ◌/◌, ℤ, pos, negsuc, int_div, nat_eq, unsigned_abs, Bool, true, false, if◌then◌else◌, List, [], ◌∷◌, Option, Some, None}
use Rattle.std.specs.Option.{option_map, option_and_then}
use Rattle.std.proofs.Common.{refl, sym, ap, ◌∙◌, arith}
use Rattle.std.proofs.Math.Nat.{div-le_self}
use Rattle.std.proofs.lemmas.Int.{ints}
use Rattle.std.proofs.lemmas.Bool.Decides.{nat_tests}
use Rattle.zl_value.specs.Fraction.{Fraction, IsFrac, IsReduced, div, greatest}
use Rattle.zl_value.specs.Script.{IsOfType}
use Rattle.zl_value.specs.Operators.{Answer, Gives, Faults, Nothing, answered, on_ints, on_int, on_floats, on_float, on_bools, on_bool, exact, within, operate, divided_by, value_fits, int_fits}
use Rattle.zl_value.specs.OperatorTypes.{type_of, can_fault}
use Rattle.zl_value.specs.declared.arith.Arith.{Arith}
use Rattle.zl_value.specs.declared.arith.Arith.TheVariants.{Range, Division}
use Rattle.zl_value.specs.declared.value.Value.{Value}
use Rattle.zl_value.specs.declared.value.Value.TheVariants.{B, I, F}
use Rattle.zl_value.specs.declared.value.Ty.{Ty}
use Rattle.zl_value.specs.declared.value.Ty.TheVariants.{Bool as BoolTy, Int, Float, Zero}
use Rattle.zl_value.specs.declared.op.Op.{Op}
use Rattle.zl_value.specs.declared.op.Op.TheVariants.{AddInt, SubInt, MulInt, DivInt, ModInt, NegInt, AddFloat, SubFloat, MulFloat, DivFloat, NegFloat, FloatOfInt, Truncate, EqBool, NeBool, LtBool, LeBool, GtBool, GeBool, EqInt, NeInt, LtInt, LeInt, GtInt, GeInt, EqFloat, NeFloat, LtFloat, LeFloat, GtFloat, GeFloat, And, Or, Not}
use Rattle.zl_value.proofs.FractionLaws.{IsReduced-whole, IsReduced-add, IsReduced-sub, IsReduced-mul, IsReduced-neg, IsReduced-div}
use Rattle.zl_value.proofs.Fractions.{IsFrac-neg, num_in_width}
use Rattle.zl_codegen.specs.RunLaws.{IsHeld}

-- the value has this type, if it is in the width
abbrev IsOfWide : Ty → Value → Type 0
IsOfWide BoolTy (B b) = Unit {0}
IsOfWide Int (I n) = Unit {0}
IsOfWide Float (F x) = IsReduced x
IsOfWide _ _ = ⊥

abbrev IsWide : Ty → Answer → Type 0
IsWide ty (Gives v) = IsOfWide ty v
IsWide ty (Faults kind) = Unit {0}
IsWide ty Nothing = Unit {0}

-- values of these types, one for each
abbrev pub AreOf : List Ty → List Value → Type 0
AreOf [] [] = Unit {0}
AreOf (ty ∷ tys) (v ∷ vs) = IsOfType ty v × AreOf tys vs
AreOf _ _ = ⊥

narrow : (ty : Ty) (v : Value) → IsOfWide ty v → value_fits v ≡ true → IsOfType ty v
narrow BoolTy (B b) is fit = tt
narrow Int (I n) is fit = fit
narrow Float (F x) is fit = record { reduced = is; fits = fit }
narrow Zero v is fit = absurd is
narrow BoolTy (I n) is fit = absurd is
narrow BoolTy (F n) is fit = absurd is
narrow Int (B n) is fit = absurd is
narrow Int (F n) is fit = absurd is
narrow Float (B n) is fit = absurd is
narrow Float (I n) is fit = absurd is

ints_of : (ty : Ty) (make : ℤ → ℤ → Answer) → ((a b : ℤ) → IsWide ty (make a b)) → (vs : List Value) → IsWide ty (on_ints make vs)
ints_of ty make h (I a ∷ I b ∷ []) = h a b
ints_of ty make h _ = tt

int_of : (ty : Ty) (make : ℤ → Answer) → ((a : ℤ) → IsWide ty (make a)) → (vs : List Value) → IsWide ty (on_int make vs)
int_of ty make h (I a ∷ []) = h a
int_of ty make h _ = tt

bools_of : (ty : Ty) (make : Bool → Bool → Answer) → ((a b : Bool) → IsWide ty (make a b)) → (vs : List Value) → IsWide ty (on_bools make vs)
bools_of ty make h (B a ∷ B b ∷ []) = h a b
bools_of ty make h _ = tt

bool_of : (ty : Ty) (make : Bool → Answer) → ((a : Bool) → IsWide ty (make a)) → (vs : List Value) → IsWide ty (on_bool make vs)
bool_of ty make h (B a ∷ []) = h a
bool_of ty make h _ = tt

floats_of : (ty : Ty) (make : Fraction → Fraction → Answer) → ((a b : Fraction) → IsReduced a → IsReduced b → IsWide ty (make a b)) → (vs : List Value) → AreOf (Float ∷ Float ∷ []) vs → IsWide ty (on_floats make vs)
floats_of ty make h (F a ∷ F b ∷ []) r = h a b r.0.reduced r.1.0.reduced
floats_of ty make h _ r = tt

float_of : (ty : Ty) (make : Fraction → Answer) → ((a : Fraction) → IsReduced a → IsWide ty (make a)) → (vs : List Value) → AreOf (Float ∷ []) vs → IsWide ty (on_float make vs)
float_of ty make h (F a ∷ []) r = h a r.0.reduced
float_of ty make h _ r = tt

divided_of : (ty : Ty) (d : ℤ) (v : Value) → (nat_eq (unsigned_abs d) 0 ≡ false → IsOfWide ty v) → IsWide ty (divided_by d v)
divided_of ty d v h = go (nat_eq (unsigned_abs d) 0) h
  where
    go : (t : Bool) → (t ≡ false → IsOfWide ty v) → IsWide ty (if t then Faults Division else Gives v)
    go true h = tt
    go false h = h refl

not_zero : (d : ℤ) → nat_eq (unsigned_abs d) 0 ≡ false → d ≡ pos 0 → ⊥
not_zero d e p = let x : nat_eq (unsigned_abs d) 0 ≡ true = ap (λ t. nat_eq (unsigned_abs t) 0) p in let y : true ≡ false = sym x ∙ e in absurd cc

exact_of : (op : Op) (vs : List Value) → AreOf (type_of op).operands vs → IsWide (type_of op).result (exact op vs)
exact_of AddInt vs r = ints_of Int _ (λ a b. tt) vs
exact_of SubInt vs r = ints_of Int _ (λ a b. tt) vs
exact_of MulInt vs r = ints_of Int _ (λ a b. tt) vs
exact_of DivInt vs r = ints_of Int _ (λ a b. divided_of Int b _ (λ e. tt)) vs
exact_of ModInt vs r = ints_of Int _ (λ a b. divided_of Int b _ (λ e. tt)) vs
exact_of NegInt vs r = int_of Int _ (λ a. tt) vs
exact_of AddFloat vs r = floats_of Float _ (λ a b p q. IsReduced-add a b p.above q.above) vs r
exact_of SubFloat vs r = floats_of Float _ (λ a b p q. IsReduced-sub a b p.above q.above) vs r
exact_of MulFloat vs r = floats_of Float _ (λ a b p q. IsReduced-mul a b p.above q.above) vs r
exact_of DivFloat vs r = floats_of Float _ (λ a b p q. divided_of Float b.num (F (div a b)) (λ e. IsReduced-div a b p.above (not_zero b.num e))) vs r
exact_of NegFloat vs r = float_of Float _ (λ a p. IsReduced-neg a p) vs r
exact_of FloatOfInt vs r = int_of Float _ (λ a. IsReduced-whole a) vs
exact_of Truncate vs r = float_of Int _ (λ a p. tt) vs r
exact_of EqBool vs r = bools_of BoolTy _ (λ a b. tt) vs
exact_of NeBool vs r = bools_of BoolTy _ (λ a b. tt) vs
exact_of LtBool vs r = bools_of BoolTy _ (λ a b. tt) vs
exact_of LeBool vs r = bools_of BoolTy _ (λ a b. tt) vs
exact_of GtBool vs r = bools_of BoolTy _ (λ a b. tt) vs
exact_of GeBool vs r = bools_of BoolTy _ (λ a b. tt) vs
exact_of EqInt vs r = ints_of BoolTy _ (λ a b. tt) vs
exact_of NeInt vs r = ints_of BoolTy _ (λ a b. tt) vs
exact_of LtInt vs r = ints_of BoolTy _ (λ a b. tt) vs
exact_of LeInt vs r = ints_of BoolTy _ (λ a b. tt) vs
exact_of GtInt vs r = ints_of BoolTy _ (λ a b. tt) vs
exact_of GeInt vs r = ints_of BoolTy _ (λ a b. tt) vs
exact_of EqFloat vs r = floats_of BoolTy _ (λ a b p q. tt) vs r
exact_of NeFloat vs r = floats_of BoolTy _ (λ a b p q. tt) vs r
exact_of LtFloat vs r = floats_of BoolTy _ (λ a b p q. tt) vs r
exact_of LeFloat vs r = floats_of BoolTy _ (λ a b p q. tt) vs r
exact_of GtFloat vs r = floats_of BoolTy _ (λ a b p q. tt) vs r
exact_of GeFloat vs r = floats_of BoolTy _ (λ a b p q. tt) vs r
exact_of And vs r = bools_of BoolTy _ (λ a b. tt) vs
exact_of Or vs r = bools_of BoolTy _ (λ a b. tt) vs
exact_of Not vs r = bool_of BoolTy _ (λ a. tt) vs

within_of : (ty : Ty) (x : Answer) → IsWide ty x → IsHeld ty (answered (within x))
within_of ty (Faults a) h = tt
within_of ty Nothing h = tt
within_of ty (Gives v) h = go (value_fits v) refl
  where
    go : (t : Bool) → value_fits v ≡ t → IsHeld ty (answered (if t then Gives v else Faults Range))
    go true e = narrow ty v h e
    go false e = tt

-- what an operator answers has its type
pub operate_of : (op : Op) (vs : List Value) → AreOf (type_of op).operands vs → IsHeld (type_of op).result (answered (operate op vs))
operate_of op vs r = within_of (type_of op).result (exact op vs) (exact_of op vs r)

-- ---- No fault

-- the exact result, if there is one, is in the width
abbrev IsRight : Answer → Type 0
IsRight (Gives v) = value_fits v ≡ true
IsRight (Faults kind) = ⊥
IsRight Nothing = Unit {0}

abs-int_div : (n : ℤ) (g : _) → unsigned_abs (int_div n (pos g)) ≡ unsigned_abs n / g
abs-int_div (pos a) g = refl
abs-int_div (negsuc a) g = omega (arith, ints)

int_in : (n : ℤ) → unsigned_abs n ≤ greatest → int_fits n ≡ true
int_in (pos a) less = grind (arith, nat_tests)
int_in (negsuc a) less = grind (arith, nat_tests)

truncated : (a : Fraction) → IsFrac a → int_fits (int_div a.num (pos a.den)) ≡ true
truncated a is =
    let low : unsigned_abs a.num ≤ greatest = num_in_width a is in
    let less : unsigned_abs a.num / a.den ≤ unsigned_abs a.num = div-le_self (unsigned_abs a.num) a.den in
    int_in (int_div a.num (pos a.den)) (omega (arith, abs-int_div a.num a.den))

right_ints : (make : ℤ → ℤ → Bool) (vs : List Value) → IsRight (on_ints (λ a b. Gives (B (make a b))) vs)
right_ints make (I a ∷ I b ∷ []) = refl
right_ints make _ = tt

right_bools : (make : Bool → Bool → Bool) (vs : List Value) → IsRight (on_bools (λ a b. Gives (B (make a b))) vs)
right_bools make (B a ∷ B b ∷ []) = refl
right_bools make _ = tt

right_bool : (make : Bool → Bool) (vs : List Value) → IsRight (on_bool (λ a. Gives (B (make a))) vs)
right_bool make (B a ∷ []) = refl
right_bool make _ = tt

right_floats : (make : Fraction → Fraction → Bool) (vs : List Value) → IsRight (on_floats (λ a b. Gives (B (make a b))) vs)
right_floats make (F a ∷ F b ∷ []) = refl
right_floats make _ = tt

right_float : (make : Fraction → Value) → ((a : Fraction) → IsFrac a → value_fits (make a) ≡ true) → (vs : List Value) → AreOf (Float ∷ []) vs → IsRight (on_float (λ a. Gives (make a)) vs)
right_float make fit (F a ∷ []) r = fit a r.0
right_float make fit _ r = tt

right_of : (op : Op) (vs : List Value) → can_fault op ≡ false → AreOf (type_of op).operands vs → IsRight (exact op vs)
right_of AddInt vs e r = absurd cc
right_of SubInt vs e r = absurd cc
right_of MulInt vs e r = absurd cc
right_of DivInt vs e r = absurd cc
right_of ModInt vs e r = absurd cc
right_of NegInt vs e r = absurd cc
right_of AddFloat vs e r = absurd cc
right_of SubFloat vs e r = absurd cc
right_of MulFloat vs e r = absurd cc
right_of DivFloat vs e r = absurd cc
right_of FloatOfInt vs e r = absurd cc
right_of NegFloat vs e r = right_float _ (λ a is. (IsFrac-neg a is).fits) vs r
right_of Truncate vs e r = right_float _ truncated vs r
right_of EqBool vs e r = right_bools _ vs
right_of NeBool vs e r = right_bools _ vs
right_of LtBool vs e r = right_bools _ vs
right_of LeBool vs e r = right_bools _ vs
right_of GtBool vs e r = right_bools _ vs
right_of GeBool vs e r = right_bools _ vs
right_of EqInt vs e r = right_ints _ vs
right_of NeInt vs e r = right_ints _ vs
right_of LtInt vs e r = right_ints _ vs
right_of LeInt vs e r = right_ints _ vs
right_of GtInt vs e r = right_ints _ vs
right_of GeInt vs e r = right_ints _ vs
right_of EqFloat vs e r = right_floats _ vs
right_of NeFloat vs e r = right_floats _ vs
right_of LtFloat vs e r = right_floats _ vs
right_of LeFloat vs e r = right_floats _ vs
right_of GtFloat vs e r = right_floats _ vs
right_of GeFloat vs e r = right_floats _ vs
right_of And vs e r = right_bools _ vs
right_of Or vs e r = right_bools _ vs
right_of Not vs e r = right_bool _ vs

right_within : (x : Answer) (kind : Arith) → IsRight x → within x ≡ Faults kind → ⊥
right_within (Faults a) kind right is = absurd right
right_within Nothing kind right is = cc
right_within (Gives v) kind right is = let e : Gives v ≡ Faults kind = sym (ap (λ t. if t then Gives v else Faults Range) right) ∙ is in cc

-- an operator that can't fault has no fault
pub never_faults : (op : Op) (vs : List Value) (kind : Arith) → can_fault op ≡ false → AreOf (type_of op).operands vs → operate op vs ≡ Faults kind → ⊥
never_faults op vs kind e r is = right_within (exact op vs) kind (right_of op vs e r) is

-- ---- What is gathered

abbrev pub AllOf : List Ty → Option (List Value) → Type 0
AllOf tys None = Unit {0}
AllOf tys (Some vs) = AreOf tys vs

-- one more
pub of_next : (ty : Ty) (tys : List Ty) (v : Option Value) (vs : Option (List Value)) → IsHeld ty v → AllOf tys vs → AllOf (ty ∷ tys) (option_and_then (λ x. option_map (λ xs. x ∷ xs) vs) v)
of_next ty tys None vs p q = tt
of_next ty tys (Some v) None p q = tt
of_next ty tys (Some v) (Some vs) p q = (p, q)
