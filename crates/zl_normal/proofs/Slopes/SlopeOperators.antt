-- The wires of slopes in a flow: operators.
use Rattle.std.specs.Prelude.{◌≡◌, ℕ, zero, suc, ◌<◌, ◌≤◌, length, nat_eq, unsigned_abs, Bool, true, false, ◌&&◌, if◌then◌else◌, List, [], ◌∷◌, slice_get, get_or, Some, None}
use Rattle.std.specs.List.{AllByRecursion}
use Rattle.std.specs.Option.{option_map, option_and_then}
use Rattle.std.proofs.Common.{refl, sym, ap, ap₂, ◌∙◌, arith}
use Rattle.zl_value.specs.Fraction.{Fraction, IsReduced, add, sub, mul, div, neg, fits}
use Rattle.zl_value.specs.Times.{nought, unit, holds}
use Rattle.zl_value.specs.Instants.{Instant}
use Rattle.zl_value.specs.Operators.{Nothing, answered, operate, exact}
use Rattle.zl_value.specs.declared.value.Value.{Value}
use Rattle.zl_value.specs.declared.value.Value.TheVariants.{B, F}
use Rattle.zl_value.specs.declared.value.Ty.TheVariants.{Float}
use Rattle.zl_value.specs.declared.op.Op.{Op}
use Rattle.zl_value.specs.declared.op.Op.TheVariants.{AddFloat, SubFloat, MulFloat, DivFloat, NegFloat, EqFloat}
use Rattle.zl_value.specs.OperatorTypes.{type_of}
use Rattle.zl_value.proofs.FractionLaws.{IsReduced-sub, IsReduced-neg, add-zero, zero-add, sub-zero, add-neg}
use Rattle.zl_value.proofs.LinearLaws.{sub_of_sums, sub_of_differences, sub_of_negatives, sub_of_products, sub_of_products_right, sub_of_quotients}
use Rattle.zl_meaning.specs.FlatForm.{FlatForm}
use Rattle.zl_meaning.specs.Uses.{PartOf, AsPart}
use Rattle.zl_meaning.specs.State.{AtPlace, AtUsed, AtValue, if_used}
use Rattle.zl_meaning.specs.History.{state_of}
use Rattle.zl_meaning.specs.Moment.{InFlow}
use Rattle.zl_meaning.specs.Occurrences.{applied}
use Rattle.zl_meaning.specs.Slopes.{all_fine, slope_fits, less, sources}
use Rattle.zl_meaning.specs.Grades.{Grading, grade_of, op_grade, keeps_lines}
use Rattle.zl_meaning.specs.WellFormed.{AllStand, Stands, IsWellFormed}
use Rattle.zl_meaning.specs.Single.{IsSingle}
use Rattle.zl_meaning.specs.declared.place.Definer.TheVariants.{Der}
use Rattle.zl_meaning.specs.declared.place.DerArm.{DerArm}
use Rattle.zl_meaning.specs.declared.place.PlaceInfo.{PlaceInfo}
use Rattle.zl_meaning.specs.declared.occurrence.Form.TheVariants.{Op as Apply}
use Rattle.zl_meaning.specs.declared.occurrence.Occ.{Occ}
use Rattle.zl_meaning.proofs.WrittenForms.{at-start, at-unit}
use Rattle.zl_kernel.specs.KernelForm.{KernelForm}
use Rattle.zl_kernel.specs.Wires.{Registers, held, turn, gathered as collected, applied as worked}
use Rattle.zl_kernel.specs.System.{flow_moment}
use Rattle.zl_kernel.specs.declared.wire.Def.TheVariants.{Op as OpWire}
use Rattle.zl_normal.specs.Evaluated.{HasGuardRanks}
use Rattle.zl_normal.specs.Wiring.{Wiring}
use Rattle.zl_normal.specs.PlaceWires.{definer_of}
use Rattle.zl_normal.specs.SlopeWires.{IsPresence, IsTested, IsSlopeMade, Negated, Sum, Difference, RightOfDifference, StillLeft, StillRight, Quotient, IsOperatorSlope, LeftOfSum, RightOfSum, LeftOfDifference, Itself}
use Rattle.zl_normal.specs.Normal.{IsNormalInFlows}
use Rattle.zl_normal.specs.MainBlock.{IsMain}
use Rattle.zl_normal.proofs.Values.Entries.{Agrees}
use Rattle.zl_normal.proofs.Slopes.FlowValues.{InFlowOf, some_f, one_there, V, value_by, used_by, fine_at}
use Rattle.zl_normal.proofs.Slopes.Moving.{number_of, reduced_of, fine_of, no_more}
use Rattle.zl_normal.proofs.Slopes.MovingOperators.{Low, low_sum, low_product, low_quotient, Carries, carries_sum, carries_difference, carries_product, carries_quotient, Two, two, two_end}
use Rattle.zl_normal.proofs.Slopes.MovingForms.{shown, shown_one}
use Rattle.zl_normal.proofs.Slopes.MovingPlaces.{moves}
use Rattle.zl_normal.proofs.Slopes.SlopeWires.{flow_wire_is, same_number, if_fine, if_fine_same, there_fine, on_two, on_one, says_slope, settled, passed_on, passed_right, quotient_says, not_zero}

-- a flow of a kernel beside one of the form
pub record BesideFlow (f : FlatForm) (g : Grading) (main : IsMain f) (c : InFlowOf f g) (k : KernelForm) (N : Wiring) : Type 0 where
  pub i : Instant Registers
  pub y : Registers
  pub wired : y ≡ turn k (flow_moment k i) y
  pub same : Agrees f N (V f g main c nought) y
  pub ders : (p b x : ℕ) (place : PlaceInfo) (arms : List DerArm) (from slope : Fraction) → slice_get f.places p ≡ Some place → definer_of place.definers ≡ Some (Der b x arms) → state_of c.j (AtPlace p) ≡ Some (F from) → state_of c.j (AtValue x) ≡ Some (F slope) → (held y (N.D p) ≡ Some (F slope)) × (fits slope ≡ true)
  pub blank : (p : ℕ) (place : PlaceInfo) → slice_get f.places p ≡ Some place → place.definers ≡ [] → V f g main c nought (AtPlace p) ≡ None

module _ (f : FlatForm) (g : Grading) (main : IsMain f) (formed : IsWellFormed f) (c : InFlowOf f g) (single : IsSingle f) (ranks : HasGuardRanks f) (k : KernelForm) (N : Wiring) (moving : IsNormalInFlows f g.occs k N) (d : BesideFlow f g main c k N) where
  -- the wire of a slope holds it where it is fine
  abbrev pub Sloped : ℕ → Type 0
  Sloped j = (occ : Occ) → slice_get f.occs j ≡ Some occ → occ.ty ≡ Float → grade_of c.whole j ≤ 1 → V f g main c nought (AtUsed j) ≡ true → (a b : Fraction) → V f g main c nought (AtValue j) ≡ Some (F a) → V f g main c unit (AtValue j) ≡ Some (F b) → held d.y (N.S j) ≡ if_fine (fine_of f g main formed c j) (sub b a)

  -- what is fine is in the width
  pub fine_fits : (j : ℕ) (occ : Occ) → slice_get f.occs j ≡ Some occ → (a b : Fraction) → V f g main c nought (AtValue j) ≡ Some (F a) → V f g main c unit (AtValue j) ≡ Some (F b) → fine_of f g main formed c j ≡ true → fits (sub b a) ≡ true
  fine_fits j occ is a b p q e = first (fits (sub b a)) _ (sym (fine_at f g main c j occ occ.form is refl ∙ ap₂ (λ x y. slope_fits (less x y) && all_fine c.fine (sources f (V f g main c nought) occ.form)) q p) ∙ e)
    where
      first : (x y : Bool) → (x && y) ≡ true → x ≡ true
      first true y e = refl
      first false y e = absurd cc

  pub open_is : (j : ℕ) (occ : Occ) → slice_get f.occs j ≡ Some occ → V f g main c nought (AtUsed j) ≡ true → (v : Value) → V f g main c nought (AtValue j) ≡ Some v → held d.y (N.w j) ≡ Some v
  open_is j occ is on v e = sym (d.same.values j (occ, is) (sym (d.same.used j (occ, is)) ∙ on)) ∙ e

  pub zero_is : held d.y N.zero ≡ Some (F nought)
  zero_is = flow_wire_is k d.i d.y d.wired N.zero _ None moving.zero

  -- the presence of an occurrence that has a number is true
  pub present_is : (j n : ℕ) → IsPresence f g.occs k N j n → (a : Fraction) → held d.y (N.w j) ≡ Some (F a) → held d.y n ≡ Some (B true)
  present_is j n present a e =
      flow_wire_is k d.i d.y d.wired n (OpWire EqFloat (N.w j ∷ N.w j ∷ [])) None present.wire
      ∙ ap₂ (λ x z. answered (worked EqFloat (option_and_then (λ v. option_map (λ vs. v ∷ vs) (option_and_then (λ w. option_map (λ ws. w ∷ ws) (Some [])) z)) x))) e e
      ∙ ap (λ b. Some (B b)) (same_number a)

  -- a slope that is tested
  tested_is : (j : ℕ) (occ : Occ) (op : Op) (ns : List ℕ) → IsTested f g.occs k N j occ op ns → (a : Fraction) → held d.y (N.w j) ≡ Some (F a) → held d.y (N.S j) ≡ answered (worked op (collected (held d.y) ns))
  tested_is j occ op ns t a e =
      flow_wire_is k d.i d.y d.wired (N.S j) (OpWire op ns) (Some t.presence) t.made.wire
      ∙ ap (λ b. if_used b (answered (worked op (collected (held d.y) ns)))) (ap (λ x. holds x) (present_is j t.presence t.present a e))

  -- two operands with their slopes
  pub record TwoSlopes (j x y : ℕ) (make : Fraction → Fraction → Fraction) (a b : Fraction) : Type 0 where
    pub t : Two f g main formed c x y
    pub a_is : a ≡ make t.p t.q
    pub b_is : b ≡ make t.moves_left.b t.moves_right.b
    pub p_reduced : IsReduced t.p
    pub q_reduced : IsReduced t.q
    pub r_reduced : IsReduced t.moves_left.b
    pub s_reduced : IsReduced t.moves_right.b
    pub left : held d.y (N.S x) ≡ if_fine (fine_of f g main formed c x) (sub t.moves_left.b t.p)
    pub right : held d.y (N.S y) ≡ if_fine (fine_of f g main formed c y) (sub t.moves_right.b t.q)
    pub left_fits : fine_of f g main formed c x ≡ true → fits (sub t.moves_left.b t.p) ≡ true
    pub right_fits : fine_of f g main formed c y ≡ true → fits (sub t.moves_right.b t.q) ≡ true
    pub left_wire : held d.y (N.w x) ≡ Some (F t.p)
    pub right_wire : held d.y (N.w y) ≡ Some (F t.q)
    pub fine : fine_of f g main formed c j ≡ (fits (sub b a) && (fine_of f g main formed c x && (fine_of f g main formed c y && true)))

  module _ (j : ℕ) (occ : Occ) (is : slice_get f.occs j ≡ Some occ) (ty : occ.ty ≡ Float) (low : grade_of c.whole j ≤ 1) (on : V f g main c nought (AtUsed j) ≡ true) (a b : Fraction) (v : V f g main c nought (AtValue j) ≡ Some (F a)) (w : V f g main c unit (AtValue j) ≡ Some (F b)) where
    pub two_slopes : (x y : ℕ) (op : Op) (make : Fraction → Fraction → Fraction) → occ.form ≡ Apply op (x ∷ y ∷ []) → keeps_lines op ≡ true → Stands f occ.block Float x → Stands f occ.block Float y → Low (grade_of c.whole j) (grade_of c.whole x) (grade_of c.whole y) → ((t : Two f g main formed c x y) → answered (exact op (F t.p ∷ F t.q ∷ [])) ≡ Some (F a) → Carries op make a t.p t.q t.moves_left.b t.moves_right.b) → Sloped x → Sloped y → TwoSlopes j x y make a b
    two_slopes x y op make e keeps sx sy l carries hx hy =
        let both = two f g main formed c j x y occ.block occ op is e sx sy l.left l.right on a v (moves f g main formed c single ranks x) (moves f g main formed c single ranks y) in
        let t = both.0 in
        let carried = carries t (shown f g main formed c op x y t.p t.q t.left t.right both.1) in
        record {
          t = t;
          a_is = carried.from;
          b_is = some_f b (make t.moves_left.b t.moves_right.b) (sym w ∙ two_end f g main formed c j x y occ op make is e a t carried);
          p_reduced = reduced_of f g main formed c nought at-start x sx.occ sx.is sx.typed t.p t.left;
          q_reduced = reduced_of f g main formed c nought at-start y sy.occ sy.is sy.typed t.q t.right;
          r_reduced = reduced_of f g main formed c unit at-unit x sx.occ sx.is sx.typed t.moves_left.b t.moves_left.there;
          s_reduced = reduced_of f g main formed c unit at-unit y sy.occ sy.is sy.typed t.moves_right.b t.moves_right.there;
          left = hx sx.occ sx.is sx.typed l.left t.used_left t.p t.moves_left.b t.left t.moves_left.there;
          right = hy sy.occ sy.is sy.typed l.right t.used_right t.q t.moves_right.b t.right t.moves_right.there;
          left_fits = fine_fits x sx.occ sx.is t.p t.moves_left.b t.left t.moves_left.there;
          right_fits = fine_fits y sy.occ sy.is t.q t.moves_right.b t.right t.moves_right.there;
          left_wire = open_is x sx.occ sx.is t.used_left (F t.p) t.left;
          right_wire = open_is y sy.occ sy.is t.used_right (F t.q) t.right;
          fine =
              fine_at f g main c j occ (Apply op (x ∷ y ∷ [])) is e
              ∙ ap₂ (λ m n. slope_fits (less m n) && all_fine c.fine (if keeps_lines op then x ∷ y ∷ [] else [])) w v
              ∙ ap (λ z. fits (sub b a) && all_fine c.fine (if z then x ∷ y ∷ [] else [])) keeps;
        }

    -- what an operator of slopes says
    pub record SaysSlope (ks : List ℕ) : Type 0 where
      pub op : Op
      pub ns : List ℕ
      pub tested : IsTested f g.occs k N j occ op ns
      pub says : worked op (collected (held d.y) ns) ≡ says_slope (all_fine c.fine ks) (sub b a)
      pub fine : fine_of f g main formed c j ≡ (fits (sub b a) && all_fine c.fine ks)

    -- an old occurrence of grade 0 has it among all grades too
    old_grade : (x : ℕ) → get_or g.occs x 3 ≡ 0 → grade_of c.whole x ≡ 0
    old_grade x e = c.form.old x (inside g.occs x e) ∙ e
      where
        inside : (l : List ℕ) (n : ℕ) → get_or l n 3 ≡ 0 → n < length l
        inside [] n e = absurd (let z : 3 ≡ 0 = e in omega (arith, z))
        inside (m ∷ l) zero e = omega arith
        inside (m ∷ l) (suc n) e = let i = inside l n e in omega (arith, i)

    -- a quotient that has a value isn't by zero
    divides : (x y : ℕ) → occ.form ≡ Apply DivFloat (x ∷ y ∷ []) → V f g main c nought (AtValue j) ≡ Some (F a) → (p q r s : Fraction) → s ≡ q → V f g main c nought (AtValue x) ≡ Some (F p) → V f g main c nought (AtValue y) ≡ Some (F q) → nat_eq (unsigned_abs q.num) 0 ≡ false
    divides x y e v p q r s same ex ey = (carries_quotient a p q r s same (shown f g main formed c DivFloat x y p q ex ey (sym (value_by f g main c nought at-start j occ is (Apply DivFloat (x ∷ y ∷ [])) e) ∙ v))).1

    pair : (op : Op) (m n : ℕ) (t u : Bool) (x y : Value) → held d.y m ≡ (if t then Some x else None) → held d.y n ≡ (if u then Some y else None) → worked op (collected (held d.y) (m ∷ n ∷ [])) ≡ (if t && (u && true) then operate op (x ∷ y ∷ []) else Nothing)
    pair op m n t u x y p q =
        ap₂ (λ s r. worked op (option_and_then (λ v. option_map (λ vs. v ∷ vs) (option_and_then (λ w. option_map (λ ws. w ∷ ws) (Some [])) r)) s)) p q
        ∙ on_two op t u x y

    single_one : (op : Op) (m : ℕ) (t : Bool) (x : Value) → held d.y m ≡ (if t then Some x else None) → worked op (collected (held d.y) (m ∷ [])) ≡ (if t && true then operate op (x ∷ []) else Nothing)
    single_one op m t x p = ap (λ s. worked op (option_and_then (λ v. option_map (λ vs. v ∷ vs) (Some [])) s)) p ∙ on_one op t x

    pub made_says : (op : Op) (ks : List ℕ) → occ.form ≡ Apply op ks → AllStand f occ.block (type_of op).operands ks → op_grade c.whole op ks ≤ grade_of c.whole j → AllByRecursion Sloped ks → IsSlopeMade f g.occs k N j occ op ks → SaysSlope ks
    made_says _ _ e st gr h (Sum x y t) =
        let l = low_sum (grade_of c.whole j) (grade_of c.whole x) (grade_of c.whole y) low gr in
        let s = two_slopes x y AddFloat add e refl st.0 st.1.0 l (λ t z. carries_sum a t.p t.q t.moves_left.b t.moves_right.b z) h.0 h.1.0 in
        let law = ap₂ sub s.b_is s.a_is ∙ sub_of_sums s.t.moves_left.b s.t.moves_right.b s.t.p s.t.q s.r_reduced s.s_reduced s.p_reduced s.q_reduced in
        record {
          op = AddFloat;
          ns = N.S x ∷ N.S y ∷ [];
          tested = t;
          says = pair AddFloat (N.S x) (N.S y) (fine_of f g main formed c x) (fine_of f g main formed c y) (F (sub s.t.moves_left.b s.t.p)) (F (sub s.t.moves_right.b s.t.q)) s.left s.right ∙ ap (λ z. says_slope (fine_of f g main formed c x && (fine_of f g main formed c y && true)) z) (sym law);
          fine = s.fine;
        }
    made_says _ _ e st gr h (Difference x y t) =
        let l = low_sum (grade_of c.whole j) (grade_of c.whole x) (grade_of c.whole y) low gr in
        let s = two_slopes x y SubFloat sub e refl st.0 st.1.0 l (λ t z. carries_difference a t.p t.q t.moves_left.b t.moves_right.b z) h.0 h.1.0 in
        let law = ap₂ sub s.b_is s.a_is ∙ sub_of_differences s.t.moves_left.b s.t.moves_right.b s.t.p s.t.q s.r_reduced s.s_reduced s.p_reduced s.q_reduced in
        record {
          op = SubFloat;
          ns = N.S x ∷ N.S y ∷ [];
          tested = t;
          says = pair SubFloat (N.S x) (N.S y) (fine_of f g main formed c x) (fine_of f g main formed c y) (F (sub s.t.moves_left.b s.t.p)) (F (sub s.t.moves_right.b s.t.q)) s.left s.right ∙ ap (λ z. says_slope (fine_of f g main formed c x && (fine_of f g main formed c y && true)) z) (sym law);
          fine = s.fine;
        }
    made_says _ _ e st gr h (RightOfDifference x y nil t) =
        let l = low_sum (grade_of c.whole j) (grade_of c.whole x) (grade_of c.whole y) low gr in
        let s = two_slopes x y SubFloat sub e refl st.0 st.1.0 l (λ t z. carries_difference a t.p t.q t.moves_left.b t.moves_right.b z) h.0 h.1.0 in
        let none = there_fine (fine_of f g main formed c x) (sub s.t.moves_left.b s.t.p) nought (sym zero_is ∙ ap (λ n. held d.y n) (sym nil) ∙ s.left) in
        let dy = sub s.t.moves_right.b s.t.q in
        let law = ap₂ sub s.b_is s.a_is ∙ sub_of_differences s.t.moves_left.b s.t.moves_right.b s.t.p s.t.q s.r_reduced s.s_reduced s.p_reduced s.q_reduced ∙ ap (λ z. sub z dy) none.1 ∙ sym (add-neg nought dy) ∙ zero-add (neg dy) (IsReduced-neg dy (IsReduced-sub s.t.moves_right.b s.t.q s.s_reduced.above s.q_reduced.above)) in
        record {
          op = NegFloat;
          ns = N.S y ∷ [];
          tested = t;
          says =
              single_one NegFloat (N.S y) (fine_of f g main formed c y) (F dy) s.right
              ∙ ap₂ (λ z q. says_slope (q && (fine_of f g main formed c y && true)) z) (sym law) (sym none.0);
          fine = s.fine;
        }
    made_says _ _ e st gr h (StillLeft x y still t) =
        let l = low_product (grade_of c.whole j) (grade_of c.whole x) (grade_of c.whole y) low gr in
        let s = two_slopes x y MulFloat mul e refl st.0 st.1.0 l (λ t z. carries_product a t.p t.q t.moves_left.b t.moves_right.b z) h.0 h.1.0 in
        let stands = s.t.moves_left.still (old_grade x still) in
        let law = ap₂ sub (s.b_is ∙ ap (λ z. mul z s.t.moves_right.b) stands.0) s.a_is ∙ sub_of_products s.t.p s.t.moves_right.b s.t.q s.p_reduced s.s_reduced s.q_reduced in
        record {
          op = MulFloat;
          ns = N.w x ∷ N.S y ∷ [];
          tested = t;
          says =
              pair MulFloat (N.w x) (N.S y) true (fine_of f g main formed c y) (F s.t.p) (F (sub s.t.moves_right.b s.t.q)) s.left_wire s.right
              ∙ ap₂ (λ z q. says_slope (q && (fine_of f g main formed c y && true)) z) (sym law) (sym stands.1);
          fine = s.fine;
        }
    made_says _ _ e st gr h (StillRight x y still t) =
        let l = low_product (grade_of c.whole j) (grade_of c.whole x) (grade_of c.whole y) low gr in
        let s = two_slopes x y MulFloat mul e refl st.0 st.1.0 l (λ t z. carries_product a t.p t.q t.moves_left.b t.moves_right.b z) h.0 h.1.0 in
        let stands = s.t.moves_right.still (old_grade y still) in
        let law = ap₂ sub (s.b_is ∙ ap (λ z. mul s.t.moves_left.b z) stands.0) s.a_is ∙ sub_of_products_right s.t.moves_left.b s.t.p s.t.q s.r_reduced s.p_reduced s.q_reduced in
        record {
          op = MulFloat;
          ns = N.S x ∷ N.w y ∷ [];
          tested = t;
          says =
              pair MulFloat (N.S x) (N.w y) (fine_of f g main formed c x) true (F (sub s.t.moves_left.b s.t.p)) (F s.t.q) s.left s.right_wire
              ∙ ap₂ (λ z q. says_slope (fine_of f g main formed c x && (q && true)) z) (sym law) (sym stands.1);
          fine = s.fine;
        }
    made_says _ _ e st gr h (Quotient x y t) =
        let l = low_quotient (grade_of c.whole j) (grade_of c.whole x) (grade_of c.whole y) low gr in
        let s = two_slopes x y DivFloat div e refl st.0 st.1.0 l.0 (λ t z. (carries_quotient a t.p t.q t.moves_left.b t.moves_right.b (t.moves_right.still l.1).0 z).0) h.0 h.1.0 in
        let stands = s.t.moves_right.still l.1 in
        let divisor = divides x y e v s.t.p s.t.q s.t.moves_left.b s.t.moves_right.b stands.0 s.t.left s.t.right in
        let law = ap₂ sub (s.b_is ∙ ap (λ z. div s.t.moves_left.b z) stands.0) s.a_is ∙ sub_of_quotients s.t.moves_left.b s.t.p s.t.q s.r_reduced s.p_reduced s.q_reduced (not_zero s.t.q divisor) in
        record {
          op = DivFloat;
          ns = N.S x ∷ N.w y ∷ [];
          tested = t;
          says =
              pair DivFloat (N.S x) (N.w y) (fine_of f g main formed c x) true (F (sub s.t.moves_left.b s.t.p)) (F s.t.q) s.left s.right_wire
              ∙ ap₂ (λ z q. if fine_of f g main formed c x && (q && true) then z else Nothing) (quotient_says (sub s.t.moves_left.b s.t.p) s.t.q (sub b a) divisor (sym law)) (sym stands.1);
          fine = s.fine;
        }
    made_says _ _ e st gr h (Negated x t) =
        let made = sym (value_by f g main c nought at-start j occ is (Apply NegFloat (x ∷ [])) e) ∙ v in
        let there = one_there NegFloat (V f g main c nought) x (F a) made in
        let p = number_of f g main formed c nought at-start x st.0.occ st.0.is st.0.typed there.0 there.1 in
        let used = used_by f g main c nought at-start x st.0.occ (PartOf j) st.0.is (AsPart j (Apply NegFloat (x ∷ [])) (occ, is, e) (record { index = 0; is = refl })) on in
        let m = moves f g main formed c single ranks x st.0.occ st.0.is st.0.typed (no_more _ _ gr low) used p.number p.is in
        let a_is : a ≡ neg p.number = some_f a (neg p.number) (sym (shown_one f g main formed c NegFloat x (F p.number) p.is made)) in
        let b_is : b ≡ neg m.b = some_f b (neg m.b) (sym w ∙ value_by f g main c unit at-unit j occ is (Apply NegFloat (x ∷ [])) e ∙ ap (λ o. answered (applied InFlow NegFloat (option_and_then (λ v. option_map (λ vs. v ∷ vs) (Some [])) o))) m.there) in
        let law = ap₂ sub b_is a_is ∙ sub_of_negatives m.b p.number (reduced_of f g main formed c unit at-unit x st.0.occ st.0.is st.0.typed m.b m.there) p.reduced in
        record {
          op = NegFloat;
          ns = N.S x ∷ [];
          tested = t;
          says =
              single_one NegFloat (N.S x) (fine_of f g main formed c x) (F (sub m.b p.number)) (h.0 st.0.occ st.0.is st.0.typed (no_more _ _ gr low) used p.number m.b p.is m.there)
              ∙ ap (λ z. says_slope (fine_of f g main formed c x && true) z) (sym law);
          fine =
              fine_at f g main c j occ (Apply NegFloat (x ∷ [])) is e
              ∙ ap₂ (λ m n. slope_fits (less m n) && all_fine c.fine (x ∷ [])) w v;
        }

    -- the slope of an operator
    pub operator_sloped : (op : Op) (ks : List ℕ) → occ.form ≡ Apply op ks → AllStand f occ.block (type_of op).operands ks → op_grade c.whole op ks ≤ grade_of c.whole j → AllByRecursion Sloped ks → IsOperatorSlope f g.occs k N j occ op ks → held d.y (N.S j) ≡ if_fine (fine_of f g main formed c j) (sub b a)
    operator_sloped _ _ e st gr h (Itself op ks made) =
        let s = made_says op ks e st gr h made in
        tested_is j occ s.op s.ns s.tested a (open_is j occ is on (F a) v)
        ∙ ap (λ x. answered x) s.says ∙ settled (all_fine c.fine ks) (sub b a) ∙ ap (λ z. if_fine z (sub b a)) (sym s.fine)
    operator_sloped _ _ e st gr h (LeftOfSum x y nil same) =
        let l = low_sum (grade_of c.whole j) (grade_of c.whole x) (grade_of c.whole y) low gr in
        let s = two_slopes x y AddFloat add e refl st.0 st.1.0 l (λ t z. carries_sum a t.p t.q t.moves_left.b t.moves_right.b z) h.0 h.1.0 in
        let dx = sub s.t.moves_left.b s.t.p in
        let none = there_fine (fine_of f g main formed c y) (sub s.t.moves_right.b s.t.q) nought (sym zero_is ∙ ap (λ n. held d.y n) (sym nil) ∙ s.right) in
        let law : sub b a ≡ dx = ap₂ sub s.b_is s.a_is ∙ sub_of_sums s.t.moves_left.b s.t.moves_right.b s.t.p s.t.q s.r_reduced s.s_reduced s.p_reduced s.q_reduced ∙ ap (λ z. add dx z) none.1 ∙ add-zero dx (IsReduced-sub s.t.moves_left.b s.t.p s.r_reduced.above s.p_reduced.above) in
        ap (λ n. held d.y n) same ∙ s.left ∙ if_fine_same (fine_of f g main formed c x) dx (sub b a) (sym law)
        ∙ passed_on (fine_of f g main formed c x) (fine_of f g main formed c y && true) (sub b a) (λ q. ap (λ z. fits z) law ∙ s.left_fits q) (ap (λ z. z && true) none.0)
        ∙ ap (λ z. if_fine z (sub b a)) (sym s.fine)
    operator_sloped _ _ e st gr h (RightOfSum x y nil same) =
        let l = low_sum (grade_of c.whole j) (grade_of c.whole x) (grade_of c.whole y) low gr in
        let s = two_slopes x y AddFloat add e refl st.0 st.1.0 l (λ t z. carries_sum a t.p t.q t.moves_left.b t.moves_right.b z) h.0 h.1.0 in
        let dy = sub s.t.moves_right.b s.t.q in
        let none = there_fine (fine_of f g main formed c x) (sub s.t.moves_left.b s.t.p) nought (sym zero_is ∙ ap (λ n. held d.y n) (sym nil) ∙ s.left) in
        let law : sub b a ≡ dy = ap₂ sub s.b_is s.a_is ∙ sub_of_sums s.t.moves_left.b s.t.moves_right.b s.t.p s.t.q s.r_reduced s.s_reduced s.p_reduced s.q_reduced ∙ ap (λ z. add z dy) none.1 ∙ zero-add dy (IsReduced-sub s.t.moves_right.b s.t.q s.s_reduced.above s.q_reduced.above) in
        ap (λ n. held d.y n) same ∙ s.right ∙ if_fine_same (fine_of f g main formed c y) dy (sub b a) (sym law)
        ∙ passed_right (fine_of f g main formed c y) (fine_of f g main formed c x) (sub b a) (λ q. ap (λ z. fits z) law ∙ s.right_fits q) none.0
        ∙ ap (λ z. if_fine z (sub b a)) (sym s.fine)
    operator_sloped _ _ e st gr h (LeftOfDifference x y nil same) =
        let l = low_sum (grade_of c.whole j) (grade_of c.whole x) (grade_of c.whole y) low gr in
        let s = two_slopes x y SubFloat sub e refl st.0 st.1.0 l (λ t z. carries_difference a t.p t.q t.moves_left.b t.moves_right.b z) h.0 h.1.0 in
        let dx = sub s.t.moves_left.b s.t.p in
        let none = there_fine (fine_of f g main formed c y) (sub s.t.moves_right.b s.t.q) nought (sym zero_is ∙ ap (λ n. held d.y n) (sym nil) ∙ s.right) in
        let law : sub b a ≡ dx = ap₂ sub s.b_is s.a_is ∙ sub_of_differences s.t.moves_left.b s.t.moves_right.b s.t.p s.t.q s.r_reduced s.s_reduced s.p_reduced s.q_reduced ∙ ap (λ z. sub dx z) none.1 ∙ sub-zero dx (IsReduced-sub s.t.moves_left.b s.t.p s.r_reduced.above s.p_reduced.above) in
        ap (λ n. held d.y n) same ∙ s.left ∙ if_fine_same (fine_of f g main formed c x) dx (sub b a) (sym law)
        ∙ passed_on (fine_of f g main formed c x) (fine_of f g main formed c y && true) (sub b a) (λ q. ap (λ z. fits z) law ∙ s.left_fits q) (ap (λ z. z && true) none.0)
        ∙ ap (λ z. if_fine z (sub b a)) (sym s.fine)
