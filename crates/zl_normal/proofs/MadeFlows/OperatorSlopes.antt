-- In the kernel that is made of a form the slopes of operators are made of those of their operands.
use Rattle.std.specs.Prelude.{◌≡◌, ℕ, Bool, true, false, not, if◌then◌else◌, List, [], ◌∷◌, slice_get, get_or, Some, None, pos}
use Rattle.std.proofs.Common.{refl, sym, ap, ◌∙◌, subst, ◌⊎◌, inl, inr}
use Rattle.std.proofs.lemmas.Bool.{and_right, and_cases, not_from_true, not-false, eqb-true, eq-eqb}
use Rattle.zl_value.specs.Fraction.{whole}
use Rattle.zl_value.specs.Lists.{Has}
use Rattle.zl_value.specs.OperatorTypes.{type_of}
use Rattle.zl_value.specs.declared.value.Value.TheVariants.{F}
use Rattle.zl_value.specs.declared.op.Op.{Op}
use Rattle.zl_value.specs.declared.op.Op.TheVariants.{AddFloat, SubFloat, MulFloat, DivFloat, NegFloat}
use Rattle.zl_meaning.specs.FlatForm.{FlatForm}
use Rattle.zl_meaning.specs.WellFormed.{IsForm, IsWellFormed}
use Rattle.zl_meaning.specs.Single.{IsSingle}
use Rattle.zl_meaning.specs.Reading.{HasNodeRanks}
use Rattle.zl_meaning.specs.declared.occurrence.Form.TheVariants.{Op as Apply}
use Rattle.zl_meaning.specs.declared.occurrence.Occ.{Occ}
use Rattle.zl_kernel.specs.KernelForm.{KernelForm}
use Rattle.zl_kernel.specs.FlowWires.{is_of_flows}
use Rattle.zl_kernel.specs.declared.wire.Def.TheVariants.{Lit as LitWire, Op as OpWire}
use Rattle.zl_normal.specs.KernelParts.{IsFlowWire}
use Rattle.zl_normal.specs.MainBlock.{IsMain}
use Rattle.zl_normal.specs.SlopeWires.{IsTested, IsSlopeMade, Negated, Sum, Difference, RightOfDifference, StillLeft, StillRight, Quotient, IsOperatorSlope, LeftOfSum, RightOfSum, LeftOfDifference, Itself}
use Rattle.zl_normal.specs.Tables.{Tables, is_float, is_graded, is_still, moves, has_made_slope}
use Rattle.zl_normal.specs.Keys.{keys}
use Rattle.zl_normal.specs.KernelOf.{Numbers, slope_def, slope_wire, wire_of, kernel_of}
use Rattle.zl_normal.specs.Layout.{IsLayout, taken_slope}
use Rattle.zl_normal.specs.Roles.{AreRoles}
use Rattle.zl_normal.specs.HasSlopes.{HasSlope, OfNegated, OfSum, OfDifference, OfProduct, OfQuotient}
use Rattle.zl_normal.specs.declared.key.Key.{Key}
use Rattle.zl_normal.specs.declared.key.Key.TheVariants.{Zero, Present, Slope}
use Rattle.zl_normal.proofs.MadeFlows.Placed.{numbered, zero_there}
use Rattle.zl_normal.proofs.MadeFlows.SlopeRoots.{operand, own_there}
use Rattle.zl_normal.proofs.MadeFlows.Named.{occ_is}
use Rattle.zl_normal.proofs.MadeFlows.Kept.{wire_at}
use Rattle.zl_normal.proofs.MadeFlows.Alone.{slope_alone, present_alone}

module _ (f : FlatForm) (grades : List ℕ) (t : Tables) (n : Numbers) (names : List (List ℕ)) (formed : IsWellFormed f) (main : IsMain f) (single : IsSingle f) (entries : HasNodeRanks f) (roles : AreRoles f t.roles) (layout : IsLayout f grades t n) where
  abbrev k : KernelForm
  k = kernel_of f grades t n names

  -- what is listed has its wire
  pub wire_there : (key : Key) → Has (keys f grades t) key → (m : ℕ) → m ≡ n.wire key → slice_get (kernel_of f grades t n names).wires m ≡ Some (wire_of f grades t n key)
  wire_there key h m same = ap (λ i. slice_get k.wires i) same ∙ wire_at f grades t n names (n.wire key) key (numbered (keys f grades t) n.wire layout.wires key h)

  pub zero_is : IsFlowWire (kernel_of f grades t n names) n.wiring.zero (LitWire (F (whole (pos 0)))) None
  zero_is = record { wire = wire_of f grades t n Zero; is = wire_there Zero (zero_there f grades t) n.wiring.zero layout.wired.zero; def_is = refl; guard_is = refl }

  -- what stands still has no slope
  pub still_slope : (a : ℕ) (occ : Occ) → slice_get f.occs a ≡ Some occ → is_still grades a ≡ true → n.wiring.S a ≡ n.wiring.zero
  still_slope a occ is still =
      layout.wired.stills a occ is (and_right (is_float occ.ty) _ (and_right (is_graded grades a) _ (not_from_true _ still))) ∙ sym layout.wired.zero

  module _ (j : ℕ) (occ : Occ) (is : slice_get f.occs j ≡ Some occ) (m : moves grades j occ ≡ true) (op : Op) (ks : List ℕ) (e : occ.form ≡ Apply op ks) where
    parts : IsForm f occ.block occ.ty (Apply op ks)
    parts = subst (λ form. IsForm f occ.block occ.ty form) e (formed.occs j occ is).form

    still_part : (i a : ℕ) → slice_get ks i ≡ Some a → is_still grades a ≡ true → n.wiring.S a ≡ n.wiring.zero
    still_part i a q still = let s = (operand f occ.block (type_of op).operands ks parts.0 i a q).1 in still_slope a s.occ s.is still

    own_key : has_made_slope grades op ks ≡ true → (key : Key) → Has (Present j ∷ Slope j ∷ []) key → Has (keys f grades t) key
    own_key own key h = own_there f grades t n formed entries layout j occ is m (Apply op ks) e own key h

    tested : has_made_slope grades op ks ≡ true → n.wiring.S j ≡ n.wire (Slope j) → (other : Op) (ns : List ℕ) → slope_def f grades t n op ks ≡ OpWire other ns → IsTested f grades k n.wiring j occ other ns
    tested own at other ns def =
        let present_there = own_key own (Present j) (record { index = 0; is = refl }) in
        let slope_listed = own_key own (Slope j) (record { index = 1; is = refl }) in
        record {
          presence = n.wire (Present j);
          present = record {
            wire = record { wire = wire_of f grades t n (Present j); is = wire_there (Present j) present_there (n.wire (Present j)) refl; def_is = refl; guard_is = refl };
            alone = present_alone f grades t n names formed main single entries roles layout j present_there;
          };
          made = record {
            wire = record {
              wire = slope_wire f grades t n j occ (Apply op ks);
              is = wire_there (Slope j) slope_listed (n.wiring.S j) at
                  ∙ ap (λ wire. Some wire) (occ_is f grades t n (λ occ. slope_wire f grades t n j occ occ.form) j occ is ∙ ap (λ form. slope_wire f grades t n j occ form) e);
              def_is = def;
              guard_is = refl;
            };
            ord = refl;
            at = refl;
            alone = subst (λ i. is_of_flows k i ≡ true) (sym at) (slope_alone f grades t n names layout j slope_listed);
          };
        }

  -- a slope that is made
  pub slope_made : (j : ℕ) (occ : Occ) → slice_get f.occs j ≡ Some occ → moves grades j occ ≡ true → (op : Op) (ks : List ℕ) → occ.form ≡ Apply op ks → HasSlope grades op ks → has_made_slope grades op ks ≡ true → n.wiring.S j ≡ n.wire (Slope j) → IsSlopeMade f grades (kernel_of f grades t n names) n.wiring j occ op ks
  slope_made j occ is m _ _ e (OfNegated a) own at = Negated a (tested j occ is m NegFloat (a ∷ []) e own at NegFloat (n.wiring.S a ∷ []) refl)
  slope_made j occ is m _ _ e (OfSum a b) own at = Sum a b (tested j occ is m AddFloat (a ∷ b ∷ []) e own at AddFloat (n.wiring.S a ∷ n.wiring.S b ∷ []) refl)
  slope_made j occ is m _ _ e (OfDifference a b) own at = by (is_still grades a) refl
    where
      def : (s : Bool) → is_still grades a ≡ s → slope_def f grades t n SubFloat (a ∷ b ∷ []) ≡ (if s then OpWire NegFloat (n.wiring.S b ∷ []) else OpWire SubFloat (n.wiring.S a ∷ n.wiring.S b ∷ []))
      def s q = ap (λ s. if s then OpWire NegFloat (n.wiring.S b ∷ []) else OpWire SubFloat (n.wiring.S a ∷ n.wiring.S b ∷ [])) q

      by : (s : Bool) → is_still grades a ≡ s → IsSlopeMade f grades k n.wiring j occ SubFloat (a ∷ b ∷ [])
      by true q =
          RightOfDifference a b (still_part j occ is m SubFloat (a ∷ b ∷ []) e 0 a refl q) (tested j occ is m SubFloat (a ∷ b ∷ []) e own at NegFloat (n.wiring.S b ∷ []) (def true q))
      by false q = Difference a b (tested j occ is m SubFloat (a ∷ b ∷ []) e own at SubFloat (n.wiring.S a ∷ n.wiring.S b ∷ []) (def false q))
  slope_made j occ is m _ _ e (OfProduct a b still) own at = by (is_still grades a) refl still
    where
      def : (s : Bool) → is_still grades a ≡ s → slope_def f grades t n MulFloat (a ∷ b ∷ []) ≡ (if s then OpWire MulFloat (n.wiring.w a ∷ n.wiring.S b ∷ []) else OpWire MulFloat (n.wiring.S a ∷ n.wiring.w b ∷ []))
      def s q = ap (λ s. if s then OpWire MulFloat (n.wiring.w a ∷ n.wiring.S b ∷ []) else OpWire MulFloat (n.wiring.S a ∷ n.wiring.w b ∷ [])) q

      by : (s : Bool) → is_still grades a ≡ s → (get_or grades a 3 ≡ 0) ⊎ (get_or grades b 3 ≡ 0) → IsSlopeMade f grades k n.wiring j occ MulFloat (a ∷ b ∷ [])
      by true q one = StillLeft a b (eqb-true (get_or grades a 3) 0 q) (tested j occ is m MulFloat (a ∷ b ∷ []) e own at MulFloat (n.wiring.w a ∷ n.wiring.S b ∷ []) (def true q))
      by false q (inl z) = let on : is_still grades a ≡ true = eq-eqb (get_or grades a 3) 0 z in absurd cc
      by false q (inr z) = StillRight a b z (tested j occ is m MulFloat (a ∷ b ∷ []) e own at MulFloat (n.wiring.S a ∷ n.wiring.w b ∷ []) (def false q))
  slope_made j occ is m _ _ e (OfQuotient a b) own at = Quotient a b (tested j occ is m DivFloat (a ∷ b ∷ []) e own at DivFloat (n.wiring.S a ∷ n.wiring.w b ∷ []) refl)

  -- a slope that is that of an operand
  slope_taken : (j : ℕ) (occ : Occ) → slice_get f.occs j ≡ Some occ → moves grades j occ ≡ true → (op : Op) (ks : List ℕ) → occ.form ≡ Apply op ks → HasSlope grades op ks → has_made_slope grades op ks ≡ false → n.wiring.S j ≡ taken_slope f grades t n op ks → IsOperatorSlope f grades k n.wiring j occ op ks
  slope_taken j occ is m _ _ e (OfNegated a) own at = absurd cc
  slope_taken j occ is m _ _ e (OfSum a b) own at = by (is_still grades b) refl
    where
      both : not (is_still grades b) ≡ true → is_still grades a ≡ true
      both b_moves = left (and_cases (not (is_still grades a)) (not (is_still grades b)) own)
        where
          left : (not (is_still grades a) ≡ false) ⊎ (not (is_still grades b) ≡ false) → is_still grades a ≡ true
          left (inl q) = not-false _ q
          left (inr q) = absurd cc

      by : (s : Bool) → is_still grades b ≡ s → IsOperatorSlope f grades k n.wiring j occ AddFloat (a ∷ b ∷ [])
      by true q = LeftOfSum a b (still_part j occ is m AddFloat (a ∷ b ∷ []) e 1 b refl q) (at ∙ ap (λ s. if s then n.wiring.S a else n.wiring.S b) q)
      by false q =
          RightOfSum a b (still_part j occ is m AddFloat (a ∷ b ∷ []) e 0 a refl (both (ap (λ b. not b) q))) (at ∙ ap (λ s. if s then n.wiring.S a else n.wiring.S b) q)
  slope_taken j occ is m _ _ e (OfDifference a b) own at = LeftOfDifference a b (still_part j occ is m SubFloat (a ∷ b ∷ []) e 1 b refl (not-false _ own)) at
  slope_taken j occ is m _ _ e (OfProduct a b still) own at = absurd cc
  slope_taken j occ is m _ _ e (OfQuotient a b) own at = absurd cc

  pub operator_slope : (j : ℕ) (occ : Occ) → slice_get f.occs j ≡ Some occ → moves grades j occ ≡ true → (op : Op) (ks : List ℕ) → occ.form ≡ Apply op ks → HasSlope grades op ks → n.wiring.S j ≡ (if has_made_slope grades op ks then n.wire (Slope j) else taken_slope f grades t n op ks) → IsOperatorSlope f grades (kernel_of f grades t n names) n.wiring j occ op ks
  operator_slope j occ is m op ks e has at = by (has_made_slope grades op ks) refl
    where
      by : (b : Bool) → has_made_slope grades op ks ≡ b → IsOperatorSlope f grades k n.wiring j occ op ks
      by true own = Itself op ks (slope_made j occ is m op ks e has own (at ∙ ap (λ b. if b then n.wire (Slope j) else taken_slope f grades t n op ks) own))
      by false own = slope_taken j occ is m op ks e has own (at ∙ ap (λ b. if b then n.wire (Slope j) else taken_slope f grades t n op ks) own)
