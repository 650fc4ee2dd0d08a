-- The flow after an instant: operators that keep lines.
use Rattle.std.specs.Prelude.{◌≡◌, ℕ, zero, suc, ◌≤◌, max, nat_eq, unsigned_abs, Bool, true, false, if◌then◌else◌, [], ◌∷◌, slice_get, Some}
use Rattle.std.specs.Option.{option_map, option_and_then}
use Rattle.std.proofs.Common.{refl, sym, ap, ap₂, ◌∙◌, arith, subst}
use Rattle.std.proofs.Math.Dec.{eqb-suc-zero}
use Rattle.zl_value.specs.Fraction.{Fraction, add, sub, mul, div}
use Rattle.zl_value.specs.Times.{nought, unit}
use Rattle.zl_value.specs.Operators.{Gives, Faults, answered, exact}
use Rattle.zl_value.specs.declared.arith.Arith.TheVariants.{Division}
use Rattle.zl_value.specs.declared.value.Value.TheVariants.{F}
use Rattle.zl_value.specs.declared.value.Ty.TheVariants.{Float}
use Rattle.zl_value.specs.declared.op.Op.{Op}
use Rattle.zl_value.specs.declared.op.Op.TheVariants.{AddFloat, SubFloat, MulFloat, DivFloat}
use Rattle.zl_meaning.specs.FlatForm.{FlatForm}
use Rattle.zl_meaning.specs.Uses.{PartOf, AsPart}
use Rattle.zl_meaning.specs.State.{AtUsed, AtValue}
use Rattle.zl_meaning.specs.Moment.{InFlow}
use Rattle.zl_meaning.specs.Occurrences.{gathered, applied}
use Rattle.zl_meaning.specs.Slopes.{all_fine}
use Rattle.zl_meaning.specs.Grades.{Grading, grade_of, product_grade, quotient_grade, keeps_lines}
use Rattle.zl_meaning.specs.WellFormed.{Stands, IsWellFormed}
use Rattle.zl_meaning.specs.declared.occurrence.Form.TheVariants.{Op as Apply}
use Rattle.zl_meaning.specs.declared.occurrence.Occ.{Occ}
use Rattle.zl_meaning.proofs.WrittenForms.{at-start, at-unit}
use Rattle.zl_normal.specs.MainBlock.{IsMain}
use Rattle.zl_normal.proofs.Slopes.FlowValues.{InFlowOf, some_f, two_there, V, value_by, used_by}
use Rattle.zl_normal.proofs.Slopes.Moving.{MovesTo, Moves, number_of, fine_still, and_true}

-- the grades of operands
pub record Low (n x y : ℕ) : Type 0 where
  pub left : x ≤ 1
  pub right : y ≤ 1
  pub none : n ≡ 0 → (x ≡ 0) × (y ≡ 0)

pub low_sum : (n x y : ℕ) → n ≤ 1 → max x y ≤ n → Low n x y
low_sum n zero zero l m = record { left = omega arith; right = omega arith; none = λ e. (refl, refl) }
low_sum n zero (suc y) l m = record { left = omega arith; right = omega (arith, l, m); none = λ e. absurd (omega (arith, m, e)) }
low_sum n (suc x) zero l m = record { left = omega (arith, l, m); right = omega arith; none = λ e. absurd (omega (arith, m, e)) }
low_sum n (suc x) (suc y) l m = record { left = omega (arith, l, m); right = omega (arith, l, m); none = λ e. absurd (omega (arith, m, e)) }

pub low_product : (n x y : ℕ) → n ≤ 1 → product_grade x y ≤ n → Low n x y
low_product n zero y l m = record { left = omega arith; right = omega (arith, l, m); none = λ e. (refl, omega (arith, m, e)) }
low_product n (suc x) zero l m = let z : suc x ≤ n = subst (λ b. (if b then 0 else suc x) ≤ n) (eqb-suc-zero x) m in record { left = omega (arith, l, z); right = omega arith; none = λ e. absurd (omega (arith, z, e)) }
low_product n (suc x) (suc y) l m = let z : 2 ≤ n = subst (λ b. (if b then suc x else 2) ≤ n) (eqb-suc-zero y) (subst (λ b. (if b then suc y else (if nat_eq (suc y) 0 then suc x else 2)) ≤ n) (eqb-suc-zero x) m) in absurd (omega (arith, l, z))

pub low_quotient : (n x y : ℕ) → n ≤ 1 → quotient_grade x y ≤ n → Low n x y × (y ≡ 0)
low_quotient n x zero l m = let z : x ≤ n = m in (record { left = omega (arith, l, z); right = omega arith; none = λ e. (omega (arith, z, e), refl) }, refl)
low_quotient n x (suc y) l m = let z : 2 ≤ n = subst (λ b. (if b then x else 2) ≤ n) (eqb-suc-zero y) m in absurd (omega (arith, l, z))

-- an operator gives a number: of the operands at the start the number there, of those at moment 1 one too
pub record Carries (op : Op) (make : Fraction → Fraction → Fraction) (a p q r s : Fraction) : Type 0 where
  pub from : a ≡ make p q
  pub to : answered (exact op (F r ∷ F s ∷ [])) ≡ Some (F (make r s))

pub carries_sum : (a p q r s : Fraction) → answered (exact AddFloat (F p ∷ F q ∷ [])) ≡ Some (F a) → Carries AddFloat add a p q r s
carries_sum a p q r s e = record { from = some_f a (add p q) (sym e); to = refl }

pub carries_difference : (a p q r s : Fraction) → answered (exact SubFloat (F p ∷ F q ∷ [])) ≡ Some (F a) → Carries SubFloat sub a p q r s
carries_difference a p q r s e = record { from = some_f a (sub p q) (sym e); to = refl }

pub carries_product : (a p q r s : Fraction) → answered (exact MulFloat (F p ∷ F q ∷ [])) ≡ Some (F a) → Carries MulFloat mul a p q r s
carries_product a p q r s e = record { from = some_f a (mul p q) (sym e); to = refl }

pub carries_quotient : (a p q r s : Fraction) → s ≡ q → answered (exact DivFloat (F p ∷ F q ∷ [])) ≡ Some (F a) → Carries DivFloat div a p q r s × (nat_eq (unsigned_abs q.num) 0 ≡ false)
carries_quotient a p q r s same e = by (nat_eq (unsigned_abs q.num) 0) refl e
  where
    by : (b : Bool) → nat_eq (unsigned_abs q.num) 0 ≡ b → answered (if b then Faults Division else Gives (F (div p q))) ≡ Some (F a) → Carries DivFloat div a p q r s × (nat_eq (unsigned_abs q.num) 0 ≡ false)
    by true z e = absurd cc
    by false z e = (record { from = some_f a (div p q) (sym e); to = ap (λ (x : Fraction). answered (if nat_eq (unsigned_abs x.num) 0 then Faults Division else Gives (F (div r x)))) same ∙ ap (λ b. answered (if b then Faults Division else Gives (F (div r q)))) z ∙ ap (λ x. Some (F (div r x))) (sym same) }, z)

module _ (f : FlatForm) (g : Grading) (main : IsMain f) (formed : IsWellFormed f) (c : InFlowOf f g) where
  -- the operands of an operator that has a number at the start
  pub record Two (x y : ℕ) : Type 0 where
    pub p : Fraction
    pub q : Fraction
    pub left : V f g main c nought (AtValue x) ≡ Some (F p)
    pub right : V f g main c nought (AtValue y) ≡ Some (F q)
    pub used_left : V f g main c nought (AtUsed x) ≡ true
    pub used_right : V f g main c nought (AtUsed y) ≡ true
    pub moves_left : MovesTo f g main formed c x p
    pub moves_right : MovesTo f g main formed c y q

  pub two : (k x y b : ℕ) (occ : Occ) (op : Op) → slice_get f.occs k ≡ Some occ → occ.form ≡ Apply op (x ∷ y ∷ []) → Stands f b Float x → Stands f b Float y → grade_of c.whole x ≤ 1 → grade_of c.whole y ≤ 1 → V f g main c nought (AtUsed k) ≡ true → (a : Fraction) → V f g main c nought (AtValue k) ≡ Some (F a) → Moves f g main formed c x → Moves f g main formed c y → Two x y × (answered (applied InFlow op (gathered (V f g main c nought) (x ∷ y ∷ []))) ≡ Some (F a))
  two k x y b occ op is e sx sy lx ly on a v mx my =
      let made = sym (value_by f g main c nought at-start k occ is (Apply op (x ∷ y ∷ [])) e) ∙ v in
      let there = two_there op (V f g main c nought) x y (F a) made in
      let p = number_of f g main formed c nought at-start x sx.occ sx.is sx.typed there.0.0 there.0.1 in
      let q = number_of f g main formed c nought at-start y sy.occ sy.is sy.typed there.1.0 there.1.1 in
      let ux = used_by f g main c nought at-start x sx.occ (PartOf k) sx.is (AsPart k (Apply op (x ∷ y ∷ [])) (occ, is, e) (record { index = 0; is = refl })) on in
      let uy = used_by f g main c nought at-start y sy.occ (PartOf k) sy.is (AsPart k (Apply op (x ∷ y ∷ [])) (occ, is, e) (record { index = 1; is = refl })) on in (
        record {
          p = p.number;
          q = q.number;
          left = p.is;
          right = q.is;
          used_left = ux;
          used_right = uy;
          moves_left = mx sx.occ sx.is sx.typed lx ux p.number p.is;
          moves_right = my sy.occ sy.is sy.typed ly uy q.number q.is;
        },
        made,
      )

  -- such an operator has a number at moment 1
  pub two_end : (k x y : ℕ) (occ : Occ) (op : Op) (make : Fraction → Fraction → Fraction) → slice_get f.occs k ≡ Some occ → occ.form ≡ Apply op (x ∷ y ∷ []) → (a : Fraction) → (t : Two x y) → Carries op make a t.p t.q t.moves_left.b t.moves_right.b → V f g main c unit (AtValue k) ≡ Some (F (make t.moves_left.b t.moves_right.b))
  two_end k x y occ op make is e a t carries =
      value_by f g main c unit at-unit k occ is (Apply op (x ∷ y ∷ [])) e
      ∙ ap₂ (λ m n. answered (applied InFlow op (option_and_then (λ v. option_map (λ vs. v ∷ vs) (option_and_then (λ w. option_map (λ ws. w ∷ ws) (Some [])) n)) m))) t.moves_left.there t.moves_right.there
      ∙ carries.to

  pub two_move : (k x y : ℕ) (occ : Occ) (op : Op) (make : Fraction → Fraction → Fraction) → slice_get f.occs k ≡ Some occ → occ.form ≡ Apply op (x ∷ y ∷ []) → occ.ty ≡ Float → keeps_lines op ≡ true → (grade_of c.whole k ≡ 0 → (grade_of c.whole x ≡ 0) × (grade_of c.whole y ≡ 0)) → (a : Fraction) → V f g main c nought (AtValue k) ≡ Some (F a) → (t : Two x y) → Carries op make a t.p t.q t.moves_left.b t.moves_right.b → MovesTo f g main formed c k a
  two_move k x y occ op make is e ty keeps none a v t carries = record {
    b = make t.moves_left.b t.moves_right.b;
    there = two_end k x y occ op make is e a t carries;
    still = λ z.
        let sx = t.moves_left.still (none z).0 in
        let sy = t.moves_right.still (none z).1 in
        let same = ap₂ make sx.0 sy.0 ∙ sym carries.from in (
          same,
          fine_still f g main formed c k occ (Apply op (x ∷ y ∷ [])) is e ty a (make t.moves_left.b t.moves_right.b) v (two_end k x y occ op make is e a t carries) same
              (ap (λ b. all_fine c.fine (if b then x ∷ y ∷ [] else [])) keeps ∙ and_true _ _ sx.1 (and_true _ _ sy.1 refl)),
        );
  }
