-- A wire that can fault has its own place in the order of faults, in a kernel that is a normal form.
use Rattle.std.specs.Prelude.{◌≡◌, ℕ, ◌+◌, ◌<◌, Bool, true, false, List, length, slice_get, Some}
use Rattle.std.proofs.Common.{refl, sym, ap, ◌∙◌, arith, subst, ◌⊎◌, inl, inr}
use Rattle.std.proofs.lemmas.Option.{slice_get_within}
use Rattle.zl_value.specs.OperatorTypes.{can_fault}
use Rattle.zl_value.specs.declared.op.Op.{Op}
use Rattle.zl_value.specs.declared.op.Op.TheVariants.{Or, Not, EqFloat}
use Rattle.zl_meaning.specs.FlatForm.{FlatForm}
use Rattle.zl_meaning.specs.declared.occurrence.Occ.{Occ}
use Rattle.zl_kernel.specs.KernelForm.{KernelForm}
use Rattle.zl_kernel.specs.FlowWires.{is_of_flows}
use Rattle.zl_kernel.specs.WellFormed.{can_fail}
use Rattle.zl_kernel.specs.declared.wire.Def.{Def}
use Rattle.zl_kernel.specs.declared.wire.Def.TheVariants.{Op as OpWire}
use Rattle.zl_kernel.specs.declared.wire.Wire.{Wire}
use Rattle.zl_normal.specs.Wiring.{Wiring}
use Rattle.zl_normal.specs.Normal.{IsOwn, IsNormalAtInstants, IsNormalInFlows}
use Rattle.zl_normal.specs.SlopeWires.{IsMade, IsSlopeMade, Negated, Sum, Difference, RightOfDifference, StillLeft, StillRight, Quotient, IsOwnSlope}

module _ (f : FlatForm) (grades : List ℕ) (k : KernelForm) (N : Wiring) (instants : IsNormalAtInstants f k N) (flows : IsNormalInFlows f grades k N) where
  -- the turn of a wire is that of the value or the slope of an occurrence
  data Turn (m ord : ℕ) : Type 0 where
    OfValue : ord < length f.occs → N.w ord ≡ m → Turn m ord
    OfSlope : (j : ℕ) → ord ≡ length f.occs + j → N.S j ≡ m → Turn m ord

  same_wire : (i m : ℕ) (a b : Wire) → slice_get k.wires i ≡ Some a → slice_get k.wires m ≡ Some b → i ≡ m → a ≡ b
  same_wire i m a b x y e = let z : slice_get k.wires m ≡ Some a = subst (λ i. slice_get k.wires i ≡ Some a) e x in cc

  slope_ord : (j : ℕ) (occ : Occ) (op : Op) (ks : List ℕ) → IsSlopeMade f grades k N j occ op ks → (wire : Wire) → slice_get k.wires (N.S j) ≡ Some wire → wire.ord ≡ length f.occs + j
  slope_ord j occ _ _ made wire is = by _ _ made
    where
      of : {op : Op} {ns : List ℕ} {guard : _} → IsMade f grades k N j occ op ns guard → wire.ord ≡ length f.occs + j
      of m = ap (λ (wire : Wire). wire.ord) (same_wire (N.S j) (N.S j) wire m.wire.wire is m.wire.is refl) ∙ m.ord

      by : (op : Op) (ks : List ℕ) → IsSlopeMade f grades k N j occ op ks → wire.ord ≡ length f.occs + j
      by _ _ (Negated a t) = of t.made
      by _ _ (Sum a b t) = of t.made
      by _ _ (Difference a b t) = of t.made
      by _ _ (RightOfDifference a b z t) = of t.made
      by _ _ (StillLeft a b z t) = of t.made
      by _ _ (StillRight a b z t) = of t.made
      by _ _ (Quotient a b t) = of t.made

  module _ (m : ℕ) (wire : Wire) (is : slice_get k.wires m ≡ Some wire) where
    turn_at : (op : Op) (ns : List ℕ) → wire.def ≡ OpWire op ns → can_fault op ≡ true → (b : Bool) → is_of_flows k m ≡ b → Turn m wire.ord
    turn_at op ns def fails false kept = by (instants.faults m wire op ns is kept def)
      where
        by : ((op ≡ Not) ⊎ (op ≡ Or)) ⊎ IsOwn f N m wire op → Turn m wire.ord
        by (inl (inl e)) = let z : can_fault Not ≡ true = subst (λ op. can_fault op ≡ true) e fails in absurd cc
        by (inl (inr e)) = let z : can_fault Or ≡ true = subst (λ op. can_fault op ≡ true) e fails in absurd cc
        by (inr own) = OfValue (slice_get_within f.occs wire.ord own.occ own.is) own.same
    turn_at op ns def fails true alone = by (flows.faults m wire op ns is alone def)
      where
        by : (op ≡ EqFloat) ⊎ IsOwnSlope f grades k N m → Turn m wire.ord
        by (inl e) = let z : can_fault EqFloat ≡ true = subst (λ op. can_fault op ≡ true) e fails in absurd cc
        by (inr own) = OfSlope own.j (slope_ord own.j own.occ own.op own.ks own.made wire (subst (λ i. slice_get k.wires i ≡ Some wire) (sym own.same) is)) own.same

    turn : (def : Def) → wire.def ≡ def → can_fail def ≡ true → Turn m wire.ord
    turn (OpWire op ns) e fails = turn_at op ns e fails (is_of_flows k m) refl
    turn def e fails = absurd cc

  -- no two have one place
  pub in_order : (m n : ℕ) (a b : Wire) → slice_get k.wires m ≡ Some a → slice_get k.wires n ≡ Some b → can_fail a.def ≡ true → can_fail b.def ≡ true → a.ord ≡ b.ord → m ≡ n
  in_order m n a b at_m at_n a_fails b_fails same = by (turn m a at_m a.def refl a_fails) (turn n b at_n b.def refl b_fails)
    where
      by : Turn m a.ord → Turn n b.ord → m ≡ n
      by (OfValue p x) (OfValue q y) = sym x ∙ ap N.w same ∙ y
      by (OfValue p x) (OfSlope j e y) = absurd (omega (arith, p, e, same))
      by (OfSlope j e x) (OfValue q y) = absurd (omega (arith, q, e, same))
      by (OfSlope i d x) (OfSlope j e y) = let one : i ≡ j = omega (arith, d, e, same) in sym x ∙ ap N.S one ∙ y
