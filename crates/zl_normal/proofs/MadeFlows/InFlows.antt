-- The kernel that is made of a form is normal in flows.
use Rattle.std.specs.Prelude.{◌≡◌, ℕ, true, false, if◌then◌else◌, List, [], ◌∷◌, map, slice_get, Some}
use Rattle.std.proofs.Common.{refl, sym, ap, ◌∙◌, subst, ◌⊎◌, inl, inr}
use Rattle.std.proofs.lemmas.Bool.{and_parts}
use Rattle.zl_value.specs.Lists.{Has}
use Rattle.zl_value.specs.declared.op.Op.{Op}
use Rattle.zl_value.specs.declared.op.Op.TheVariants.{EqFloat}
use Rattle.zl_meaning.specs.FlatForm.{FlatForm}
use Rattle.zl_meaning.specs.WellFormed.{IsWellFormed}
use Rattle.zl_meaning.specs.Single.{IsSingle}
use Rattle.zl_meaning.specs.Reading.{HasNodeRanks}
use Rattle.zl_meaning.specs.declared.occurrence.Form.{Form}
use Rattle.zl_meaning.specs.declared.occurrence.Form.TheVariants.{Op as Apply, If as IfOf}
use Rattle.zl_meaning.specs.declared.occurrence.Occ.{Occ}
use Rattle.zl_kernel.specs.KernelForm.{KernelForm}
use Rattle.zl_kernel.specs.FlowWires.{is_of_flows}
use Rattle.zl_kernel.specs.declared.wire.Def.TheVariants.{Op as OpWire}
use Rattle.zl_kernel.specs.declared.wire.Wire.{Wire}
use Rattle.zl_normal.specs.Normal.{IsNormalInFlows}
use Rattle.zl_normal.specs.KernelParts.{IsWire}
use Rattle.zl_normal.specs.MainBlock.{IsMain}
use Rattle.zl_normal.specs.SlopeWires.{IsOwnSlope}
use Rattle.zl_normal.specs.Tables.{Tables, moves, has_made_slope, has_form_slope}
use Rattle.zl_normal.specs.Keys.{value_keys, keys}
use Rattle.zl_normal.specs.KernelOf.{Numbers, value_wire, slope_wire, wire_of, kernel_of}
use Rattle.zl_normal.specs.Layout.{IsLayout, IsValueAt, IsSlopeAt, taken_slope}
use Rattle.zl_normal.specs.Roles.{AreRoles}
use Rattle.zl_normal.specs.HasSlopes.{HasSlopes}
use Rattle.zl_normal.specs.declared.key.Key.{Key}
use Rattle.zl_normal.specs.declared.key.Key.TheVariants.{Zero, Value, Present, Slope, Motion}
use Rattle.zl_normal.proofs.MadeFlows.Placed.{at_instants, numbered, value_there}
use Rattle.zl_normal.proofs.MadeFlows.Owners.{OfSloped, of_sloped}
use Rattle.zl_normal.proofs.MadeFlows.Named.{occ_is}
use Rattle.zl_normal.proofs.MadeFlows.Kept.{KeyAt, key_at, kept}
use Rattle.zl_normal.proofs.MadeFlows.OperatorSlopes.{wire_there, zero_is, slope_made}
use Rattle.zl_normal.proofs.MadeFlows.FormSlopes.{slope_is, place_slope_is}
use Rattle.zl_normal.proofs.MadeFlows.MadeMotions.{motions_are, ders_are}

module _ (f : FlatForm) (grades : List ℕ) (t : Tables) (n : Numbers) (names : List (List ℕ)) (formed : IsWellFormed f) (main : IsMain f) (single : IsSingle f) (entries : HasNodeRanks f) (roles : AreRoles f t.roles) (has : HasSlopes f grades) (layout : IsLayout f grades t n) where
  abbrev k : KernelForm
  k = kernel_of f grades t n names

  -- the value of an operator has a wire of its own
  operator_wire : (j : ℕ) (occ : Occ) → slice_get f.occs j ≡ Some occ → (op : Op) (ks : List ℕ) → occ.form ≡ Apply op ks → IsWire k (n.wiring.w j) (OpWire op (map n.wiring.w ks)) (n.wiring.G j)
  operator_wire j occ is op ks e =
      let at : n.wiring.w j ≡ n.wire (Value j) = subst (λ form. IsValueAt f grades t n j form) e (layout.wired.values j occ is) in
      let there : Has (keys f grades t) (Value j) = value_there f grades t j occ (Value j) is (subst (λ form. Has (value_keys f grades t j form) (Value j)) (sym e) (record { index = 0; is = refl })) in
      record {
        wire = value_wire f grades t n j occ (Apply op ks);
        is = wire_there f grades t n names formed main single entries roles layout (Value j) there (n.wiring.w j) at
            ∙ ap (λ wire. Some wire) (occ_is f grades t n (λ occ. value_wire f grades t n j occ occ.form) j occ is ∙ ap (λ form. value_wire f grades t n j occ form) e);
        def_is = refl;
        guard_is = refl;
        kept = subst (λ i. is_of_flows k i ≡ false) (sym at) (kept f grades t n names formed entries layout (n.wire (Value j)) (Value j) (numbered (keys f grades t) n.wire layout.wires (Value j) there) refl);
      }

  -- an operator that has a slope with a wire of its own
  own_slope : (j : ℕ) (occ : Occ) → slice_get f.occs j ≡ Some occ → moves grades j occ ≡ true → (op : Op) (ks : List ℕ) → occ.form ≡ Apply op ks → has_made_slope grades op ks ≡ true → (m : ℕ) → n.wire (Slope j) ≡ m → IsOwnSlope f grades k n.wiring m
  own_slope j occ is moving op ks e own m same =
      let at : n.wiring.S j ≡ n.wire (Slope j) = subst (λ form. IsSlopeAt f grades t n j form) e (layout.wired.slopes j occ is moving) ∙ ap (λ b. if b then n.wire (Slope j) else taken_slope f grades t n op ks) own in
      record {
        j = j;
        occ = occ;
        op = op;
        ks = ks;
        is = is;
        form = e;
        graded = has.graded j occ op ks is e moving;
        value = operator_wire j occ is op ks e;
        made = slope_made f grades t n names formed main single entries roles layout j occ is moving op ks e (has.operators j occ op ks is e moving) own at;
        same = at ∙ same;
      }

  by_form : (j : ℕ) (occ : Occ) → slice_get f.occs j ≡ Some occ → moves grades j occ ≡ true → (form : Form) → occ.form ≡ form → has_form_slope f grades form ≡ true → (m : ℕ) → n.wire (Slope j) ≡ m → (op : Op) (ns : List ℕ) → (slope_wire f grades t n j occ form).def ≡ OpWire op ns → IsOwnSlope f grades k n.wiring m
  by_form j occ is moving (Apply o ks) e own m same op ns def = own_slope j occ is moving o ks e own m same
  by_form j occ is moving (IfOf c x y) e own m same op ns def = absurd cc
  by_form j occ is moving form e own m same op ns def = absurd cc

  faults_are : (m : ℕ) (wire : Wire) (op : Op) (ns : List ℕ) → slice_get (kernel_of f grades t n names).wires m ≡ Some wire → is_of_flows (kernel_of f grades t n names) m ≡ true → wire.def ≡ OpWire op ns → (op ≡ EqFloat) ⊎ IsOwnSlope f grades (kernel_of f grades t n names) n.wiring m
  faults_are m wire op ns is alone def = by at.key refl
    where
      at : KeyAt f grades t n names m wire
      at = key_at f grades t n names m wire is

      def_of : (key : Key) → at.key ≡ key → (wire_of f grades t n key).def ≡ OpWire op ns
      def_of key e = ap (λ key. (wire_of f grades t n key).def) (sym e) ∙ ap (λ (wire : Wire). wire.def) at.wire_is ∙ def

      kept_key : (key : Key) → at.key ≡ key → at_instants key ≡ true → ⊥
      kept_key key e on =
          let q : is_of_flows k m ≡ false = kept f grades t n names formed entries layout m at.key at.is (ap (λ key. at_instants key) e ∙ on) in
          let z = alone in
          cc

      by : (key : Key) → at.key ≡ key → (op ≡ EqFloat) ⊎ IsOwnSlope f grades k n.wiring m
      by Zero e = let d = def_of Zero e in absurd cc
      by (Motion p) e = let d = def_of (Motion p) e in absurd cc
      by (Present j) e = let d : OpWire EqFloat (n.wiring.w j ∷ n.wiring.w j ∷ []) ≡ OpWire op ns = def_of (Present j) e in inl (cc)
      by (Slope j) e =
          let there : Has (keys f grades t) (Slope j) = record { index = m; is = at.is ∙ ap (λ key. Some key) e } in
          let o : OfSloped f grades t j (Slope j) = of_sloped f grades t (Slope j) j there refl in
          let both = and_parts (moves grades j o.occ) (has_form_slope f grades o.occ.form) o.own in
          let d = sym (ap (λ (wire : Wire). wire.def) (occ_is f grades t n (λ occ. slope_wire f grades t n j occ occ.form) j o.occ o.is)) ∙ def_of (Slope j) e in
          inr (by_form j o.occ o.is both.0 o.occ.form refl both.1 m (layout.wires m (Slope j) (at.is ∙ ap (λ key. Some key) e)) op ns d)
      by key e = absurd (kept_key key e refl)

  pub normal_in_flows : IsNormalInFlows f grades (kernel_of f grades t n names) n.wiring
  normal_in_flows = record {
    zero = zero_is f grades t n names formed main single entries roles layout;
    slopes = slope_is f grades t n names formed main single entries roles has layout;
    place_slopes = place_slope_is f grades t n names formed main single entries roles has layout;
    ders = ders_are f grades t n names formed main single entries roles layout;
    motions = motions_are f grades t n names;
    faults = faults_are;
  }
