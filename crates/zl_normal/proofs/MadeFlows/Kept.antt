-- In the kernel that is made of a form what is solved at instants is no wire of flows alone.
use Rattle.std.specs.Prelude.{◌≡◌, ℕ, zero, suc, ◌+◌, Bool, true, false, not, ◌&&◌, ◌||◌, if◌then◌else◌, List, [], ◌∷◌, map, slice_get, Option, Some, None}
use Rattle.std.specs.Option.{option_map}
use Rattle.std.proofs.Common.{refl, sym, ap, ◌∙◌, arith, subst, ◌⊎◌, inl, inr}
use Rattle.std.proofs.lemmas.Bool.{false_from_ne_true, and_left, and_right, or_from, not_from_true}
use Rattle.std.proofs.lemmas.Option.{slice_get-map}
use Rattle.zl_value.specs.Lists.{Has, among}
use Rattle.zl_value.specs.declared.op.Op.{Op}
use Rattle.zl_value.specs.declared.op.Op.TheVariants.{SubFloat, MulFloat, DivFloat, NegFloat}
use Rattle.zl_value.specs.OperatorTypes.{type_of}
use Rattle.zl_meaning.specs.FlatForm.{FlatForm}
use Rattle.zl_meaning.specs.WellFormed.{IsForm, IsWellFormed}
use Rattle.zl_meaning.specs.Reading.{HasNodeRanks}
use Rattle.zl_meaning.specs.declared.occurrence.Form.{Form}
use Rattle.zl_meaning.specs.declared.occurrence.Form.TheVariants.{Op as Apply, If as IfOf}
use Rattle.zl_meaning.specs.declared.occurrence.Occ.{Occ}
use Rattle.zl_meaning.proofs.Members.{among-has, has-among, has-any, Found, has-map, has-map_from, has-none, has-cases, has-right}
use Rattle.zl_kernel.specs.KernelForm.{KernelForm}
use Rattle.zl_kernel.specs.FlowWires.{operands, listed_in, reads, is_slope, is_kept, has_reader, are_slopes, is_of_flows}
use Rattle.zl_kernel.specs.declared.wire.Def.TheVariants.{Op as OpWire}
use Rattle.zl_kernel.specs.declared.wire.Wire.{Wire}
use Rattle.zl_normal.specs.Tables.{Tables, is_still, has_own_slope}
use Rattle.zl_normal.specs.Keys.{keys, value_keys, form_slope_keys}
use Rattle.zl_normal.specs.KernelOf.{Numbers, slope_def, value_wire, slope_wire, wire_of, kernel_of}
use Rattle.zl_normal.specs.Layout.{IsLayout}
use Rattle.zl_normal.specs.declared.key.Key.{Key}
use Rattle.zl_normal.specs.declared.key.Key.TheVariants.{Zero, Value, Present, Slope, Motion}
use Rattle.zl_normal.proofs.MadeFlows.Placed.{at_instants, as_slope, StandsFor, apart, numbered, value_there, slope_there}
use Rattle.zl_normal.proofs.MadeFlows.SlopeRoots.{operand, slope_named}
use Rattle.zl_normal.proofs.MadeFlows.Owners.{OfSloped, of_sloped}
use Rattle.zl_normal.proofs.MadeFlows.Named.{occ_is, named_is}

-- a wire that reads this one is no slope
pub not_all : (k : KernelForm) (i j : ℕ) (wires : List Wire) (m : ℕ) (wire : Wire) → slice_get wires m ≡ Some wire → among i (reads wire) ≡ true → (o : ℕ) → o ≡ j + m → is_slope k o ≡ false → are_slopes k i j wires ≡ false
not_all k i j [] m wire e r o s q = absurd cc
not_all k i j (x ∷ xs) zero wire e r o s q =
    let same : wire ≡ x = cc in
    let first : o ≡ j = omega arith in
    and_left (not (among i (reads x)) || is_slope k j) (are_slopes k i (suc j) xs)
    (or_from (not (among i (reads x))) (is_slope k j) (not_from_true _ (subst (λ (wire : Wire). among i (reads wire) ≡ true) same r)) (subst (λ o. is_slope k o ≡ false) first q))
not_all k i j (x ∷ xs) (suc m) wire e r o s q =
    and_right (not (among i (reads x)) || is_slope k j) (are_slopes k i (suc j) xs) (not_all k i (suc j) xs m wire e r o (omega arith) q)

module _ (f : FlatForm) (grades : List ℕ) (t : Tables) (n : Numbers) (names : List (List ℕ)) where
  -- the wire that stands for a key, and the key for which a wire stands
  pub wire_at : (m : ℕ) (key : Key) → slice_get (keys f grades t) m ≡ Some key → slice_get (kernel_of f grades t n names).wires m ≡ Some (wire_of f grades t n key)
  wire_at m key is = slice_get-map (wire_of f grades t n) (keys f grades t) m ∙ ap (λ o. option_map (wire_of f grades t n) o) is

  pub record KeyAt (m : ℕ) (wire : Wire) : Type 0 where
    pub key : Key
    pub is : slice_get (keys f grades t) m ≡ Some key
    pub wire_is : wire_of f grades t n key ≡ wire

  pub key_at : (m : ℕ) (wire : Wire) → slice_get (kernel_of f grades t n names).wires m ≡ Some wire → KeyAt m wire
  key_at m wire is = by (slice_get (keys f grades t) m) refl (sym (slice_get-map (wire_of f grades t n) (keys f grades t) m) ∙ is)
    where
      same_wire : (a b : Wire) → Some a ≡ Some b → a ≡ b
      same_wire a b e = cc

      by : (o : Option Key) → slice_get (keys f grades t) m ≡ o → option_map (wire_of f grades t n) (slice_get (keys f grades t) m) ≡ Some wire → KeyAt m wire
      by None e q = let z : None ≡ Some wire = sym (ap (λ o. option_map (wire_of f grades t n) o) e) ∙ q in absurd cc
      by (Some key) e q = record { key = key; is = e; wire_is = same_wire _ wire (sym (ap (λ o. option_map (wire_of f grades t n) o) e) ∙ q) }

  -- the slope of an operator is made of the slopes and the values of its operands
  pub slope_operands : (op : Op) (ks : List ℕ) (i : ℕ) → Has (operands (slope_def f grades t n op ks)) i → (a : ℕ) × Has ks a × ((n.wiring.S a ≡ i) ⊎ (n.wiring.w a ≡ i))
  slope_operands SubFloat (a ∷ b ∷ []) i h = by (is_still grades a) h
    where
      by : (s : Bool) → Has (operands (if s then OpWire NegFloat (n.wiring.S b ∷ []) else OpWire SubFloat (n.wiring.S a ∷ n.wiring.S b ∷ []))) i → (c : ℕ) × Has (a ∷ b ∷ []) c × ((n.wiring.S c ≡ i) ⊎ (n.wiring.w c ≡ i))
      by true h = has-cases _ (n.wiring.S b) [] i h (λ e. (b, record { index = 1; is = refl }, inl e)) (λ l. absurd (has-none i l))
      by false h =
          has-cases _ (n.wiring.S a) (n.wiring.S b ∷ []) i h (λ e. (a, record { index = 0; is = refl }, inl e))
          (λ l. has-cases _ (n.wiring.S b) [] i l (λ e. (b, record { index = 1; is = refl }, inl e)) (λ l. absurd (has-none i l)))
  slope_operands MulFloat (a ∷ b ∷ []) i h = by (is_still grades a) h
    where
      by : (s : Bool) → Has (operands (if s then OpWire MulFloat (n.wiring.w a ∷ n.wiring.S b ∷ []) else OpWire MulFloat (n.wiring.S a ∷ n.wiring.w b ∷ []))) i → (c : ℕ) × Has (a ∷ b ∷ []) c × ((n.wiring.S c ≡ i) ⊎ (n.wiring.w c ≡ i))
      by true h =
          has-cases _ (n.wiring.w a) (n.wiring.S b ∷ []) i h (λ e. (a, record { index = 0; is = refl }, inr e))
          (λ l. has-cases _ (n.wiring.S b) [] i l (λ e. (b, record { index = 1; is = refl }, inl e)) (λ l. absurd (has-none i l)))
      by false h =
          has-cases _ (n.wiring.S a) (n.wiring.w b ∷ []) i h (λ e. (a, record { index = 0; is = refl }, inl e))
          (λ l. has-cases _ (n.wiring.w b) [] i l (λ e. (b, record { index = 1; is = refl }, inr e)) (λ l. absurd (has-none i l)))
  slope_operands DivFloat (a ∷ b ∷ []) i h =
      has-cases _ (n.wiring.S a) (n.wiring.w b ∷ []) i h (λ e. (a, record { index = 0; is = refl }, inl e))
      (λ l. has-cases _ (n.wiring.w b) [] i l (λ e. (b, record { index = 1; is = refl }, inr e)) (λ l. absurd (has-none i l)))
  slope_operands op ks i h = let from = has-map_from n.wiring.S ks i h in (from.0, from.1, inl from.2)

module _ (f : FlatForm) (grades : List ℕ) (t : Tables) (n : Numbers) (names : List (List ℕ)) (formed : IsWellFormed f) (entries : HasNodeRanks f) (layout : IsLayout f grades t n) where
  abbrev k : KernelForm
  k = kernel_of f grades t n names

  same_key : (m : ℕ) (a b : Key) → slice_get (keys f grades t) m ≡ Some a → slice_get (keys f grades t) m ≡ Some b → a ≡ b
  same_key m a b x y = cc

  -- a wire that isn't named as a slope
  pub unnamed : (m : ℕ) (key : Key) → slice_get (keys f grades t) m ≡ Some key → as_slope key ≡ false → is_slope (kernel_of f grades t n names) m ≡ false
  unnamed m key is off = false_from_ne_true _ (λ e. no (named_is f grades t n names formed entries layout m e))
    where
      no : StandsFor as_slope (keys f grades t) m → ⊥
      no s = let e : as_slope key ≡ true = subst (λ key. as_slope key ≡ true) (same_key m s.key key s.is is) s.of_kind in cc

  -- a wire reads number `i`, and isn't named as a slope
  record IsRead (i : ℕ) : Type 0 where
    number : ℕ
    key : Key
    is : slice_get (keys f grades t) number ≡ Some key
    off : as_slope key ≡ false
    reads_it : among i (reads (wire_of f grades t n key)) ≡ true

  module _ (i : ℕ) (solved : StandsFor at_instants (keys f grades t) i) where
    -- the value beside a slope
    by_value : (j : ℕ) (occ : Occ) → slice_get f.occs j ≡ Some occ → (form : Form) → occ.form ≡ form → Has (value_keys f grades t j form) (Value j) → Has (reads (value_wire f grades t n j occ form)) i → IsRead i
    by_value j occ is form e has h = record {
      number = n.wire (Value j);
      key = Value j;
      is = numbered (keys f grades t) n.wire layout.wires (Value j) (value_there f grades t j occ (Value j) is (subst (λ form. Has (value_keys f grades t j form) (Value j)) (sym e) has));
      off = refl;
      reads_it = ap (λ wire. among i (reads wire)) (occ_is f grades t n _ j occ is) ∙ ap (λ form. among i (reads (value_wire f grades t n j occ form))) e ∙ among-has i (reads (value_wire f grades t n j occ form)) h;
    }

    no_slope : (a : ℕ) (occ : Occ) → slice_get f.occs a ≡ Some occ → n.wiring.S a ≡ i → IsRead i
    no_slope a occ is e = absurd (apart (keys f grades t) i solved (subst (λ m. StandsFor as_slope (keys f grades t) m) e (slope_named f grades t n formed entries layout a occ is)))

    no_presence : (j : ℕ) → Has (keys f grades t) (Present j) → n.wire (Present j) ≡ i → IsRead i
    no_presence j h e =
        let at : slice_get (keys f grades t) i ≡ Some (Present j) = subst (λ m. slice_get (keys f grades t) m ≡ Some (Present j)) e (numbered (keys f grades t) n.wire layout.wires (Present j) h) in
        let on : at_instants (Present j) ≡ true = subst (λ key. at_instants key ≡ true) (same_key i solved.key (Present j) solved.is at) solved.of_kind in
        absurd cc

    by_form : (j : ℕ) (occ : Occ) → slice_get f.occs j ≡ Some occ → has_own_slope f grades j occ ≡ true → (form : Form) → occ.form ≡ form → IsForm f occ.block occ.ty form → Has (reads (slope_wire f grades t n j occ form)) i → IsRead i
    by_form j occ is own (Apply op ks) e st h =
        has-cases (IsRead i) (n.wire (Present j)) (operands (slope_def f grades t n op ks)) i h
        (λ same. no_presence j (slope_there f grades t j occ (Present j) is own (subst (λ form. Has (form_slope_keys f grades t j form) (Present j)) (sym e) (record { index = 0; is = refl }))) same)
        (λ l. of_operand (slope_operands f grades t n names op ks i l))
      where
        of_operand : ((a : ℕ) × Has ks a × ((n.wiring.S a ≡ i) ⊎ (n.wiring.w a ≡ i))) → IsRead i
        of_operand o = by o.2
          where
            by : (n.wiring.S o.0 ≡ i) ⊎ (n.wiring.w o.0 ≡ i) → IsRead i
            by (inl q) = let s = (operand f occ.block (type_of op).operands ks st.0 o.1.index o.0 o.1.is).1 in no_slope o.0 s.occ s.is q
            by (inr q) =
                by_value j occ is (Apply op ks) e (record { index = 0; is = refl })
                (subst (λ m. Has (reads (value_wire f grades t n j occ (Apply op ks))) m) q (has-right (listed_in (n.wiring.G j)) (map n.wiring.w ks) (n.wiring.w o.0) (has-map n.wiring.w ks o.0 o.1)))
    by_form j occ is own (IfOf c x y) e st h =
        has-cases (IsRead i) (n.wiring.w c) (n.wiring.S x ∷ n.wiring.S y ∷ []) i h
        (λ q. by_value j occ is (IfOf c x y) e (record { index = 0; is = refl })
        (has-right (listed_in (n.wiring.G j)) (n.wiring.w c ∷ n.wiring.w x ∷ n.wiring.w y ∷ []) i (record { index = 0; is = ap (λ m. Some m) q })))
        (λ l. has-cases (IsRead i) (n.wiring.S x) (n.wiring.S y ∷ []) i l (λ q. no_slope x st.1.occ st.1.is q)
        (λ l. has-cases (IsRead i) (n.wiring.S y) [] i l (λ q. no_slope y st.2.occ st.2.is q) (λ l. absurd (has-none i l))))
    by_form j occ is own form e st h = absurd (has-none i h)

    by_slope : (key : Key) → as_slope key ≡ true → Has (keys f grades t) key → among i (reads (wire_of f grades t n key)) ≡ true → IsRead i
    by_slope Zero on has r = let z = r in absurd cc
    by_slope (Motion p) on has r = let z = r in absurd cc
    by_slope (Slope j) on has r =
        let o : OfSloped f grades t j (Slope j) = of_sloped f grades t (Slope j) j has refl in
        by_form j o.occ o.is o.own o.occ.form refl (formed.occs j o.occ o.is).form
        (has-among i (reads (slope_wire f grades t n j o.occ o.occ.form)) (sym (ap (λ wire. among i (reads wire)) (occ_is f grades t n _ j o.occ o.is)) ∙ r))
    by_slope key on has r = absurd cc

    -- where a wire reads it, one does that isn't named as a slope
    still_read : Found (λ (wire : Wire). among i (reads wire)) (kernel_of f grades t n names).wires → IsRead i
    still_read found = by (as_slope at.key) refl
      where
        at : KeyAt f grades t n names found.has.index found.element
        at = key_at f grades t n names found.has.index found.element found.has.is

        r : among i (reads (wire_of f grades t n at.key)) ≡ true
        r = ap (λ (wire : Wire). among i (reads wire)) at.wire_is ∙ found.meets

        by : (b : Bool) → as_slope at.key ≡ b → IsRead i
        by true on = by_slope at.key on (record { index = found.has.index; is = at.is }) r
        by false off = record { number = found.has.index; key = at.key; is = at.is; off = off; reads_it = r }

    not_alone : IsRead i → are_slopes (kernel_of f grades t n names) i 0 (kernel_of f grades t n names).wires ≡ false
    not_alone r =
        not_all (kernel_of f grades t n names) i 0 (kernel_of f grades t n names).wires r.number (wire_of f grades t n r.key) (wire_at f grades t n names r.number r.key r.is) r.reads_it r.number (omega arith) (unnamed r.number r.key r.is r.off)

  -- what is solved at instants is
  pub kept : (i : ℕ) (key : Key) → slice_get (keys f grades t) i ≡ Some key → at_instants key ≡ true → is_of_flows (kernel_of f grades t n names) i ≡ false
  unfolding is_of_flows
  kept i key is on =
      or_from (is_slope k i) _ (false_from_ne_true _ (λ e. apart (keys f grades t) i solved (named_is f grades t n names formed entries layout i e)))
      (and_right (not (is_kept k i)) _ (by (has_reader i k.wires) refl))
    where
      solved : StandsFor at_instants (keys f grades t) i
      solved = record { key = key; is = is; of_kind = on }

      by : (b : Bool) → has_reader i k.wires ≡ b → (has_reader i k.wires && are_slopes k i 0 k.wires) ≡ false
      by true e = and_right (has_reader i k.wires) _ (not_alone i solved (still_read i solved (has-any (λ (wire : Wire). among i (reads wire)) k.wires e)))
      by false e = and_left (has_reader i k.wires) _ e
