-- What moves on a line, and what stands still: sums, differences, negatives, and products and quotients with what stands still.
use Rattle.std.specs.Prelude.{◌≡◌, pos, nat_eq, unsigned_abs, Bool, true, false, if◌then◌else◌, List, [], ◌∷◌, Option, Some, None}
use Rattle.std.specs.Option.{option_map, option_and_then}
use Rattle.std.proofs.Common.{refl, sym, ap, ap₂, ◌∙◌, subst}
use Rattle.zl_value.specs.Fraction.{Fraction, IsReduced, add, sub, mul, neg, div}
use Rattle.zl_value.specs.Times.{nought, unit}
use Rattle.zl_value.specs.Operators.{Gives, Faults, answered, divided_by}
use Rattle.zl_value.specs.declared.arith.Arith.TheVariants.{Division}
use Rattle.zl_value.specs.declared.value.Value.{Value}
use Rattle.zl_value.specs.declared.value.Value.TheVariants.{B, I, F}
use Rattle.zl_value.specs.declared.value.Ty.TheVariants.{Float}
use Rattle.zl_value.specs.declared.op.Op.{Op}
use Rattle.zl_value.specs.declared.op.Op.TheVariants.{AddFloat, SubFloat, MulFloat, DivFloat, NegFloat}
use Rattle.zl_value.proofs.FractionLaws.{IsReduced-whole, IsReduced-add, IsReduced-sub, IsReduced-mul, IsReduced-neg, IsReduced-div, add-zero, mul-zero, zero-mul, one-mul, sub-add, add_comm}
use Rattle.zl_value.proofs.LinearLaws.{line_sum, line_difference, line_negated, line_times, times_line, line_divided}
use Rattle.zl_meaning.specs.Moment.{InFlow}
use Rattle.zl_meaning.specs.Places.{moved}
use Rattle.zl_meaning.specs.Occurrences.{applied}
use Rattle.zl_meaning.specs.KeepsGrades.{IsMoment, StandsStill, on_line, MovesOnLine}
use Rattle.zl_meaning.proofs.WrittenForms.{at-start, at-unit}
use Rattle.zl_meaning.proofs.GradesKept.OfTypes.{IsOf, not_zero}

-- a value at each moment of a flow
abbrev pub Along : Type 0
Along = Fraction → Option Value

-- it is a number, or nowhere
abbrev pub IsFloat : Along → Type 0
IsFloat x = (s : Fraction) → IsMoment s → IsOf Float (x s)

-- it is the same at all moments, whatever it is, or a number on a straight line
pub data IsLine (x : Along) : Type 0 where
  LineStands : StandsStill x → IsLine x
  Runs : (a k : Fraction) → IsReduced a → IsReduced k → ((s : Fraction) → IsMoment s → x s ≡ Some (F (add a (mul s k)))) → IsLine x

-- of type float: nowhere, or on a line; nowhere, or one number
pub data Moves (x : Along) : Type 0 where
  Nowhere : ((s : Fraction) → IsMoment s → x s ≡ None) → Moves x
  Goes : (a k : Fraction) → IsReduced a → IsReduced k → ((s : Fraction) → IsMoment s → x s ≡ Some (F (add a (mul s k)))) → Moves x

-- nowhere, or one number
pub data Rests (x : Along) : Type 0 where
  Absent : ((s : Fraction) → IsMoment s → x s ≡ None) → Rests x
  Is : (a : Fraction) → IsReduced a → ((s : Fraction) → IsMoment s → x s ≡ Some (F a)) → Rests x

-- what moves is on a line
pub is_line : (x : Along) → Moves x → IsLine x
is_line x (Nowhere p) = LineStands (λ s m. p s m ∙ sym (p nought at-start))
is_line x (Goes a k p q e) = Runs a k p q e

-- a number that stands still rests
pub rests : (x : Along) → IsFloat x → StandsStill x → Rests x
rests x t still = go (x nought) refl
  where
    go : (v : Option Value) → x nought ≡ v → Rests x
    go None e = Absent (λ s m. still s m ∙ e)
    go (Some (F a)) e = Is a (subst (λ v. IsOf Float v) e (t nought at-start)) (λ s m. still s m ∙ e)
    go (Some (B a)) e = absurd (subst (λ v. IsOf Float v) e (t nought at-start))
    go (Some (I a)) e = absurd (subst (λ v. IsOf Float v) e (t nought at-start))

-- a number is on the line without slope
constant : (a s : Fraction) → IsReduced a → IsReduced s → a ≡ add a (mul s nought)
constant a s p q = sym (add-zero a p) ∙ ap (λ t. add a t) (sym (mul-zero s q.above))

-- what rests moves with slope 0
rests_moves : (x : Along) → Rests x → Moves x
rests_moves x (Absent p) = Nowhere p
rests_moves x (Is a p e) = Goes a nought p (IsReduced-whole (pos 0)) (λ s m. e s m ∙ ap (λ t. Some (F t)) (constant a s p m.reduced))

-- a number on a line moves
pub moves : (x : Along) → IsFloat x → IsLine x → Moves x
moves x t (LineStands still) = rests_moves x (rests x t still)
moves x t (Runs a k p q e) = Goes a k p q e

-- two operands, one operand
abbrev pub both : Option Value → Option Value → Option (List Value)
both x y = option_and_then (λ v. option_map (λ vs. v ∷ vs) (option_and_then (λ w. option_map (λ vs. w ∷ vs) (Some [])) y)) x

-- one operand
abbrev pub alone : Option Value → Option (List Value)
alone x = option_and_then (λ v. option_map (λ vs. v ∷ vs) (Some [])) x

-- what an operator makes of them in a flow
abbrev pub made : Op → Option (List Value) → Option Value
made op o = answered (applied InFlow op o)

-- it makes nothing where the first is missing
no_first : (op : Op) (x y : Option Value) → x ≡ None → made op (both x y) ≡ None
no_first op x y e = ap (λ t. made op (both t y)) e

-- or the second
no_second : (op : Op) (x y : Option Value) (v : Value) → x ≡ Some v → y ≡ None → made op (both x y) ≡ None
no_second op x y v d e = ap₂ (λ t u. made op (both t u)) d e

-- the sum of two that move
pub sum_moves : (x y : Along) → Moves x → Moves y → Moves (λ s. made AddFloat (both (x s) (y s)))
sum_moves x y (Nowhere p) q = Nowhere (λ s m. no_first AddFloat (x s) (y s) (p s m))
sum_moves x y (Goes a k p o e) (Nowhere q) = Nowhere (λ s m. no_second AddFloat (x s) (y s) _ (e s m) (q s m))
sum_moves x y (Goes a k p o e) (Goes b l q n d) =
    Goes (add a b) (add k l) (IsReduced-add a b p.above q.above) (IsReduced-add k l o.above n.above)
    (λ s m. ap₂ (λ t u. made AddFloat (both t u)) (e s m) (d s m) ∙ ap (λ t. Some (F t)) (line_sum a b k l s p q o n m.reduced))

-- the difference
pub difference_moves : (x y : Along) → Moves x → Moves y → Moves (λ s. made SubFloat (both (x s) (y s)))
difference_moves x y (Nowhere p) q = Nowhere (λ s m. no_first SubFloat (x s) (y s) (p s m))
difference_moves x y (Goes a k p o e) (Nowhere q) = Nowhere (λ s m. no_second SubFloat (x s) (y s) _ (e s m) (q s m))
difference_moves x y (Goes a k p o e) (Goes b l q n d) =
    Goes (sub a b) (sub k l) (IsReduced-sub a b p.above q.above) (IsReduced-sub k l o.above n.above)
    (λ s m. ap₂ (λ t u. made SubFloat (both t u)) (e s m) (d s m) ∙ ap (λ t. Some (F t)) (line_difference a b k l s p q o n m.reduced))

-- the negative of one that moves
pub negative_moves : (x : Along) → Moves x → Moves (λ s. made NegFloat (alone (x s)))
negative_moves x (Nowhere p) = Nowhere (λ s m. ap (λ t. made NegFloat (alone t)) (p s m))
negative_moves x (Goes a k p o e) =
    Goes (neg a) (neg k) (IsReduced-neg a p) (IsReduced-neg k o) (λ s m. ap (λ t. made NegFloat (alone t)) (e s m) ∙ ap (λ t. Some (F t)) (line_negated a k s p o m.reduced))

-- the product of one that moves and one that rests
pub product_moves : (x y : Along) → Moves x → Rests y → Moves (λ s. made MulFloat (both (x s) (y s)))
product_moves x y (Nowhere p) q = Nowhere (λ s m. no_first MulFloat (x s) (y s) (p s m))
product_moves x y (Goes a k p o e) (Absent q) = Nowhere (λ s m. no_second MulFloat (x s) (y s) _ (e s m) (q s m))
product_moves x y (Goes a k p o e) (Is c q d) =
    Goes (mul a c) (mul k c) (IsReduced-mul a c p.above q.above) (IsReduced-mul k c o.above q.above)
    (λ s m. ap₂ (λ t u. made MulFloat (both t u)) (e s m) (d s m) ∙ ap (λ t. Some (F t)) (line_times a k s c p o m.reduced q))

-- the other way round
pub product_moves_right : (x y : Along) → Rests x → Moves y → Moves (λ s. made MulFloat (both (x s) (y s)))
product_moves_right x y (Absent p) q = Nowhere (λ s m. no_first MulFloat (x s) (y s) (p s m))
product_moves_right x y (Is c p e) (Nowhere q) = Nowhere (λ s m. no_second MulFloat (x s) (y s) _ (e s m) (q s m))
product_moves_right x y (Is c p e) (Goes a k q o d) =
    Goes (mul c a) (mul c k) (IsReduced-mul c a p.above q.above) (IsReduced-mul c k p.above o.above)
    (λ s m. ap₂ (λ t u. made MulFloat (both t u)) (e s m) (d s m) ∙ ap (λ t. Some (F t)) (times_line c a k s p q o m.reduced))

-- the quotient of one that moves by one that rests
pub quotient_moves : (x y : Along) → Moves x → Rests y → Moves (λ s. made DivFloat (both (x s) (y s)))
quotient_moves x y (Nowhere p) q = Nowhere (λ s m. no_first DivFloat (x s) (y s) (p s m))
quotient_moves x y (Goes a k p o e) (Absent q) = Nowhere (λ s m. no_second DivFloat (x s) (y s) _ (e s m) (q s m))
quotient_moves x y (Goes a k p o e) (Is c q d) = go (nat_eq (unsigned_abs c.num) 0) refl
  where
    to : (s : Fraction) → IsMoment s → made DivFloat (both (x s) (y s)) ≡ answered (divided_by c.num (F (div (add a (mul s k)) c)))
    to s m = ap₂ (λ t u. made DivFloat (both t u)) (e s m) (d s m)

    go : (t : Bool) → nat_eq (unsigned_abs c.num) 0 ≡ t → Moves (λ s. made DivFloat (both (x s) (y s)))
    go true z = Nowhere (λ s m. to s m ∙ ap (λ b. answered (if b then Faults Division else Gives (F (div (add a (mul s k)) c)))) z)
    go false z =
        let apart = not_zero c.num z in
        Goes (div a c) (div k c) (IsReduced-div a c p.above apart) (IsReduced-div k c o.above apart)
        (λ s m. to s m ∙ ap (λ b. answered (if b then Faults Division else Gives (F (div (add a (mul s k)) c)))) z ∙ ap (λ t. Some (F t)) (line_divided a k s c p o m.reduced q apart))

-- what has moved since the flow began
pub moved_line : (x y : Option Value) → IsOf Float x → IsOf Float y → IsLine (λ s. moved x y s)
moved_line (Some (F a)) (Some (F k)) p q = Runs a k p q (λ s m. refl)
moved_line (Some (F a)) (Some (B k)) p q = LineStands (λ s m. refl)
moved_line (Some (F a)) (Some (I k)) p q = LineStands (λ s m. refl)
moved_line (Some (F a)) None p q = LineStands (λ s m. refl)
moved_line (Some (B a)) y p q = LineStands (λ s m. refl)
moved_line (Some (I a)) y p q = LineStands (λ s m. refl)
moved_line None y p q = LineStands (λ s m. refl)

-- what moves so moves on the line through its first two values
start_of : (a k : Fraction) → IsReduced a → IsReduced k → add a (mul nought k) ≡ a
start_of a k p q = ap (λ t. add a t) (zero-mul k q.above) ∙ add-zero a p

-- the slope of that line
slope_of : (a k : Fraction) → IsReduced a → IsReduced k → sub (add a (mul unit k)) a ≡ k
slope_of a k p q = ap (λ t. sub (add a t) a) (one-mul k q) ∙ ap (λ t. sub t a) (add_comm a k) ∙ sub-add k a q p.above

-- what moves so moves on the straight line through its first two values
pub on_its_line : (x : Along) → Moves x → MovesOnLine x
on_its_line x (Nowhere p) s m = p s m ∙ sym (ap (λ t. on_line t (x unit) s) (p nought at-start))
on_its_line x (Goes a k p o e) s m =
    let first : x nought ≡ Some (F a) = e nought at-start ∙ ap (λ t. Some (F t)) (start_of a k p o) in
    let second : x unit ≡ Some (F (add a (mul unit k))) = e unit at-unit in
    e s m ∙ ap (λ t. Some (F (add a (mul s t)))) (sym (slope_of a k p o)) ∙ sym (ap₂ (λ t u. on_line t u s) first second)
