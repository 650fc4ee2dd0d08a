-- A slope that isn't in the width: what tests say of it, and what its operator answers.
use Rattle.std.specs.Prelude.{◌≡◌, ℕ, ◌≤◌, nat_le, Bool, true, false, ◌&&◌, if◌then◌else◌, List, [], ◌∷◌, ◌++◌, Option, Some, None}
use Rattle.std.proofs.Common.{refl, sym, ap, ◌∙◌, arith, ⊎_elim}
use Rattle.std.proofs.lemmas.Bool.Decides.{leb_tells}
use Rattle.zl_value.specs.Fraction.{Fraction, sub, fits}
use Rattle.zl_value.specs.Widths.{Tested, first_wide}
use Rattle.zl_value.specs.Operators.{Answer, Gives, Faults, Nothing}
use Rattle.zl_value.specs.declared.arith.Arith.TheVariants.{Range}
use Rattle.zl_value.specs.declared.position.Pos.{Pos}
use Rattle.zl_value.specs.declared.value.Fault.{Fault}
use Rattle.zl_value.specs.declared.value.Value.{Value}
use Rattle.zl_value.specs.declared.value.Value.TheVariants.{B, I, F}
use Rattle.zl_value.specs.declared.value.Ty.{Ty}
use Rattle.zl_value.specs.declared.value.Ty.TheVariants.{Bool as BoolTy, Int, Float, Zero}
use Rattle.zl_value.specs.declared.op.Op.TheVariants.{EqFloat}
use Rattle.zl_meaning.specs.State.{if_used}
use Rattle.zl_meaning.specs.Solves.{fault_of, or_later}
use Rattle.zl_meaning.specs.Slopes.{less, tested_at}
use Rattle.zl_meaning.proofs.GradesKept.OfTypes.{IsOf}
use Rattle.zl_kernel.specs.Faults.{Ranked, ranked}
use Rattle.zl_kernel.specs.Wires.{applied as worked}
use Rattle.zl_kernel.specs.declared.wire.Wire.{Wire}
use Rattle.zl_normal.proofs.Instants.Follows.{some_is}
use Rattle.zl_normal.proofs.Slopes.SlopeWires.{says_slope}

-- the first of the tests of the slopes that fails
pub wide_of_two : (xs ys : List Tested) → first_wide (xs ++ ys) ≡ or_later (first_wide xs) (first_wide ys)
wide_of_two [] ys = refl
wide_of_two (x ∷ xs) ys = by (fits x.number) (wide_of_two xs ys)
  where
    by : (b : Bool) → first_wide (xs ++ ys) ≡ or_later (first_wide xs) (first_wide ys) → (if b then first_wide (xs ++ ys) else Some (record { kind = Range; at = x.at })) ≡ or_later (if b then first_wide xs else Some (record { kind = Range; at = x.at })) (first_wide ys)
    by true e = e
    by false e = refl

-- a test fails where the slope is tested, is there and isn't in the width
pub record IsWide (used low fine : Bool) (x y : Option Value) (at : Pos) (fault : Fault) : Type 0 where
  pub on : used ≡ true
  pub graded : low ≡ true
  pub made : fine ≡ true
  pub from : Fraction
  pub to : Fraction
  pub start : x ≡ Some (F from)
  pub end : y ≡ Some (F to)
  pub wide : fits (sub to from) ≡ false
  pub is : record { kind = Range; at = at } ≡ fault

pub wide_is : (used low fine : Bool) (x y : Option Value) (at : Pos) (fault : Fault) → first_wide (if used && (low && fine) then tested_at at (less y x) else []) ≡ Some fault → IsWide used low fine x y at fault
wide_is false low fine x y at fault e = absurd cc
wide_is true false fine x y at fault e = absurd cc
wide_is true true false x y at fault e = absurd cc
wide_is true true true x None at fault e = absurd cc
wide_is true true true x (Some (B b)) at fault e = absurd cc
wide_is true true true x (Some (I b)) at fault e = absurd cc
wide_is true true true None (Some (F b)) at fault e = absurd cc
wide_is true true true (Some (B a)) (Some (F b)) at fault e = absurd cc
wide_is true true true (Some (I a)) (Some (F b)) at fault e = absurd cc
wide_is true true true (Some (F a)) (Some (F b)) at fault e = by (fits (sub b a)) refl e
  where
    by : (t : Bool) → fits (sub b a) ≡ t → (if t then None else Some (record { kind = Range; at = at })) ≡ Some fault → IsWide true true true (Some (F a)) (Some (F b)) at fault
    by true q e = absurd cc
    by false q e = record { on = refl; graded = refl; made = refl; from = a; to = b; start = refl; end = refl; wide = q; is = some_is _ _ e }

pub is_wide : (used low fine : Bool) (x y : Option Value) (at : Pos) (a b : Fraction) → used ≡ true → low ≡ true → fine ≡ true → x ≡ Some (F a) → y ≡ Some (F b) → fits (sub b a) ≡ false → first_wide (if used && (low && fine) then tested_at at (less y x) else []) ≡ Some (record { kind = Range; at = at })
is_wide used low fine x y at a b p q r s t w = rw (p, q, r, s, t) (ap (λ z. if z then None else Some (record { kind = Range; at = at })) w)

-- what has a number for its value is of type float
pub float_of : (ty : Ty) (a : Fraction) → IsOf ty (Some (F a)) → ty ≡ Float
float_of Float a of = refl
float_of BoolTy a of = absurd of
float_of Int a of = absurd of
float_of Zero a of = absurd of

pub eq_right : (p : Pos) (vs : Option (List Value)) → fault_of p (worked EqFloat vs) ≡ None
eq_right p None = refl
eq_right p (Some []) = refl
eq_right p (Some (B a ∷ vs)) = refl
eq_right p (Some (I a ∷ vs)) = refl
eq_right p (Some (F a ∷ [])) = refl
eq_right p (Some (F a ∷ B b ∷ vs)) = refl
eq_right p (Some (F a ∷ I b ∷ vs)) = refl
eq_right p (Some (F a ∷ F b ∷ [])) = refl
eq_right p (Some (F a ∷ F b ∷ v ∷ vs)) = refl

pub low_true : (n : ℕ) → n ≤ 1 → nat_le n 1 ≡ true
low_true n l = ⊎_elim (λ yes. yes.0) (λ other. absurd (let z = other.1 in omega (arith, l, z))) (leb_tells n 1)

pub true_low : (n : ℕ) → nat_le n 1 ≡ true → n ≤ 1
true_low n e = ⊎_elim (λ yes. yes.1) (λ other. absurd (let z : true ≡ false = sym e ∙ other.0 in cc)) (leb_tells n 1)

-- what a slope's operator says has a fault where what it is made from is fine and it isn't in the width
pub record SaysWide (all : Bool) (d : Fraction) (wire : Wire) (a : Ranked) : Type 0 where
  pub fine : all ≡ true
  pub wide : fits d ≡ false
  pub ord : a.ord ≡ wire.ord
  pub is : record { kind = Range; at = wire.at } ≡ a.fault

pub says_wide : (all : Bool) (d : Fraction) (wire : Wire) (a : Ranked) → ranked wire (says_slope all d) ≡ Some a → SaysWide all d wire a
says_wide false d wire a e = absurd cc
says_wide true d wire a e = by (fits d) refl e
  where
    by : (t : Bool) → fits d ≡ t → ranked wire (if t then Gives (F d) else Faults Range) ≡ Some a → SaysWide true d wire a
    by true q e = absurd cc
    by false q e = let same = some_is _ a e in record { fine = refl; wide = q; ord = ap (λ (x : Ranked). x.ord) (sym same); is = ap (λ (x : Ranked). x.fault) same }

pub wide_says : (all : Bool) (d : Fraction) (wire : Wire) → all ≡ true → fits d ≡ false → ranked wire (says_slope all d) ≡ Some (record { ord = wire.ord; fault = record { kind = Range; at = wire.at } })
wide_says all d wire p q = rw p (ap (λ t. ranked wire (if t then Gives (F d) else Faults Range)) q)

-- a guard that is open
pub gate_open : (b : Bool) (wire : Wire) (x : Answer) (a : Ranked) → ranked wire (if b then x else Nothing) ≡ Some a → b ≡ true
gate_open true wire x a e = refl
gate_open false wire x a e = absurd cc

pub used_value : (b : Bool) (o : Option Value) (v : Value) → if_used b o ≡ Some v → b ≡ true
used_value true o v e = refl
used_value false o v e = absurd cc
