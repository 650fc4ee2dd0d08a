-- The wires of the kernel that is made of a form have ranks.
use Rattle.std.specs.Prelude.{◌≡◌, ℕ, suc, ◌+◌, ◌-◌, ◌<◌, true, List, [], ◌∷◌, map, length, slice_get, Option, Some, None, ⊤}
use Rattle.std.specs.List.{AllByRecursion}
use Rattle.std.proofs.Common.{refl, sym, ap, arith, subst, ◌⊎◌, inl, inr}
use Rattle.zl_value.specs.Lists.{Has}
use Rattle.zl_value.specs.OperatorTypes.{type_of}
use Rattle.zl_meaning.specs.FlatForm.{FlatForm}
use Rattle.zl_meaning.specs.State.{AtValue}
use Rattle.zl_meaning.specs.WellFormed.{IsForm, IsWellFormed}
use Rattle.zl_meaning.specs.Single.{IsSingle}
use Rattle.zl_meaning.specs.Reading.{ReadsForm}
use Rattle.zl_meaning.specs.declared.place.PlaceInfo.{PlaceInfo}
use Rattle.zl_meaning.specs.declared.occurrence.Form.{Form}
use Rattle.zl_meaning.specs.declared.occurrence.Form.TheVariants.{Op as Apply, If as IfOf}
use Rattle.zl_meaning.specs.declared.occurrence.Occ.{Occ}
use Rattle.zl_meaning.proofs.Members.{all-has}
use Rattle.zl_kernel.specs.FlowWires.{operands, reads}
use Rattle.zl_kernel.specs.WireRanks.{AreWireRanks}
use Rattle.zl_kernel.specs.declared.wire.Wire.{Wire}
use Rattle.zl_normal.specs.MainBlock.{IsMain}
use Rattle.zl_normal.specs.Evaluated.{HasGuardRanks}
use Rattle.zl_normal.specs.PlaceWires.{definer_of, start_of}
use Rattle.zl_normal.specs.Tables.{Tables, has_own_slope}
use Rattle.zl_normal.specs.Keys.{form_slope_keys, keys}
use Rattle.zl_normal.specs.KernelOf.{Numbers, slope_def, slope_wire, last_wire, of_occ, of_place, wire_of, kernel_of}
use Rattle.zl_normal.specs.Layout.{IsLayout}
use Rattle.zl_normal.specs.Roles.{AreRoles}
use Rattle.zl_normal.specs.declared.key.Key.{Key}
use Rattle.zl_normal.specs.declared.key.Key.TheVariants.{Step, Fresh, No, Zero, Value, Rest, Next, Other, Guard, Place, Between, Taken, Passed, Chosen, Last, Remembered, Again, Present, Slope, Motion}
use Rattle.zl_normal.proofs.MadeFlows.Placed.{slope_there}
use Rattle.zl_normal.proofs.MadeFlows.Roots.{form_reads}
use Rattle.zl_normal.proofs.MadeFlows.SlopeRoots.{operand, operand_rank}
use Rattle.zl_normal.proofs.MadeFlows.Owners.{OfSloped, of_sloped, OfLast, of_last}
use Rattle.zl_normal.proofs.MadeFlows.Named.{occ_is, place_is}
use Rattle.zl_normal.proofs.MadeFlows.Kept.{KeyAt, key_at, slope_operands}
use Rattle.zl_normal.proofs.MadeFlows.Levels.{width, level, climb, occ_rank, next_rank, last_rank, top, below_top, key_rank}
use Rattle.zl_normal.proofs.MadeFlows.LowRoots.{R as rank_of, rank_is}
use Rattle.zl_normal.proofs.MadeFlows.LowReads.{value as value_at, value_reads, rest_reads, next_reads, other_reads, guard_reads}
use Rattle.zl_normal.proofs.MadeFlows.LowSlopes.{slope_low}
use Rattle.zl_normal.proofs.MadeFlows.LowPlaces.{defined_reads, taken_reads, passed_reads, chosen_reads, last_reads, again_reads}

all_each : (P : ℕ → Type 0) (ms : List ℕ) → ((m : ℕ) → Has ms m → P m) → AllByRecursion P ms
all_each P [] h = tt
all_each P (m ∷ ms) h = (h m (record { index = 0; is = refl }), all_each P ms (λ i k. h i (record { index = suc k.index; is = k.is })))

same_length : {X Y Z : Type 0} (g : X → Y) (h : X → Z) (xs : List X) → length (map g xs) ≡ length (map h xs)
same_length g h [] = refl
same_length g h (x ∷ xs) = ap (λ m. suc m) (same_length g h xs)

module _ (f : FlatForm) (grades : List ℕ) (t : Tables) (n : Numbers) (names : List (List ℕ)) (formed : IsWellFormed f) (main : IsMain f) (single : IsSingle f) (ranks : HasGuardRanks f) (roles : AreRoles f t.roles) (layout : IsLayout f grades t n) where
  abbrev R : ℕ → ℕ
  R m = rank_of f grades t n formed ranks.entries layout m

  abbrev V : ℕ → ℕ
  V j = ranks.entries.rank (AtValue j)

  abbrev AllBelow : ℕ → List ℕ → Type 0
  AllBelow b ms = AllByRecursion (λ m. rank_of f grades t n formed ranks.entries layout m < b) ms

  -- what holds of each wire of an occurrence, of a place
  by_occ : (make : Occ → Wire) (rank : Option Occ → ℕ) (j : ℕ) → ((occ : Occ) → slice_get f.occs j ≡ Some occ → AllBelow (rank (Some occ)) (reads (make occ))) → AllBelow (rank (slice_get f.occs j)) (reads (of_occ f grades t n make j))
  by_occ make rank j h = by (slice_get f.occs j) refl
    where
      by : (o : Option Occ) → slice_get f.occs j ≡ o → AllBelow (rank (slice_get f.occs j)) (reads (of_occ f grades t n make j))
      by None e = let it : AllBelow (rank None) [] = tt in rw e it
      by (Some occ) e = let it = h occ e in rw e it

  by_place : (make : PlaceInfo → Wire) (rank : Option PlaceInfo → ℕ) (p : ℕ) → ((place : PlaceInfo) → slice_get f.places p ≡ Some place → AllBelow (rank (Some place)) (reads (make place))) → AllBelow (rank (slice_get f.places p)) (reads (of_place f grades t n make p))
  by_place make rank p h = by (slice_get f.places p) refl
    where
      by : (o : Option PlaceInfo) → slice_get f.places p ≡ o → AllBelow (rank (slice_get f.places p)) (reads (of_place f grades t n make p))
      by None e = let it : AllBelow (rank None) [] = tt in rw e it
      by (Some place) e = let it = h place e in rw e it

  reads_of : (j : ℕ) (occ : Occ) → slice_get f.occs j ≡ Some occ → ReadsForm f (λ a. ranks.entries.rank a < ranks.entries.rank (AtValue j)) (λ a. ⊤) occ.block occ.form
  reads_of j occ is = form_reads f grades t n formed ranks.entries layout (V j) j occ is refl

  value_below : (j : ℕ) (occ : Occ) → slice_get f.occs j ≡ Some occ → (b : ℕ) → V j < b → R (n.wiring.w j) < level f b
  value_below j occ is b l = let v = value_at f grades t n formed main single ranks roles layout j occ is b l in omega (arith, v)

  abbrev T : ℕ
  T = level f (suc (suc (top f ranks.entries)))

  under_slopes : (j : ℕ) (occ : Occ) → slice_get f.occs j ≡ Some occ → (r : ℕ) → R (n.wiring.w j) < T + r
  under_slopes j occ is r =
      let low = below_top f ranks.entries j occ is in
      let v = value_below j occ is (suc (suc (top f ranks.entries))) (omega (arith, low)) in
      omega (arith, v)

  lower_slope : (a : ℕ) (occ : Occ) → slice_get f.occs a ≡ Some occ → (r : ℕ) → V a < r → R (n.wiring.S a) < T + r
  lower_slope a occ is r l = let s = slope_low f grades t n formed ranks.entries layout a occ is in omega (arith, s, l)

  -- the wire of a slope
  slope_reads : (j : ℕ) (occ : Occ) → slice_get f.occs j ≡ Some occ → has_own_slope f grades j occ ≡ true → (form : Form) → occ.form ≡ form → IsForm f occ.block occ.ty form → ReadsForm f (λ a. ranks.entries.rank a < ranks.entries.rank (AtValue j)) (λ a. ⊤) occ.block form → AllBelow (T + V j) (reads (slope_wire f grades t n j occ form))
  slope_reads j occ is own (Apply op ks) e st rd = (present, all_each (λ m. R m < T + V j) (operands (slope_def f grades t n op ks)) (λ i h. of_operand i (slope_operands f grades t n names op ks i h)))
    where
      there : Has (keys f grades t) (Present j)
      there = slope_there f grades t j occ (Present j) is own (subst (λ form. Has (form_slope_keys f grades t j form) (Present j)) (sym e) (record { index = 0; is = refl }))

      present : R (n.wire (Present j)) < T + V j
      present =
          let r = rank_is f grades t n formed ranks.entries layout (Present j) there (n.wire (Present j)) refl in
          let low = below_top f ranks.entries j occ is in
          let c = climb f (suc (V j)) (suc (suc (top f ranks.entries))) (omega (arith, low)) in
          omega (arith, r, c)

      of_operand : (i : ℕ) → ((a : ℕ) × Has ks a × ((n.wiring.S a ≡ i) ⊎ (n.wiring.w a ≡ i))) → R i < T + V j
      of_operand i o = by o.2
        where
          by : (n.wiring.S o.0 ≡ i) ⊎ (n.wiring.w o.0 ≡ i) → R i < T + V j
          by (inl q) =
              let s = (operand f occ.block (type_of op).operands ks st.0 o.1.index o.0 o.1.is).1 in
              let r = operand_rank (λ k. ranks.entries.rank (AtValue k) < ranks.entries.rank (AtValue j)) ks rd o.1.index o.0 o.1.is in
              subst (λ m. R m < T + V j) q (lower_slope o.0 s.occ s.is (V j) r)
          by (inr q) =
              let s = (operand f occ.block (type_of op).operands ks st.0 o.1.index o.0 o.1.is).1 in
              subst (λ m. R m < T + V j) q (under_slopes o.0 s.occ s.is (V j))
  slope_reads j occ is own (IfOf c x y) e st rd =
      (under_slopes c st.0.occ st.0.is (V j), (lower_slope x st.1.occ st.1.is (V j) rd.1, (lower_slope y st.2.occ st.2.is (V j) rd.2, tt)))
  slope_reads j occ is own form e st rd = tt

  -- each wire reads what stands lower
  all_lower : (key : Key) → Has (keys f grades t) key → AllBelow (key_rank f ranks.entries key) (reads (wire_of f grades t n key))
  all_lower Step h = tt
  all_lower Fresh h = tt
  all_lower No h = tt
  all_lower Zero h = tt
  all_lower (Value j) h = by_occ _ (λ o. occ_rank f ranks.entries j o) j (λ occ is. value_reads f grades t n formed main single ranks roles layout j occ is occ.form (formed.occs j occ is).form (reads_of j occ is))
  all_lower (Rest j i) h = by_occ _ (λ o. level f (V j) + (width f - i)) j (λ occ is. rest_reads f grades t n formed main single ranks roles layout j i occ is occ.form refl (formed.occs j occ is).form (reads_of j occ is))
  all_lower (Next j) h = by_occ _ (λ o. next_rank f ranks.entries o) j (λ occ is. next_reads f grades t n formed main single ranks roles layout occ occ.form (formed.occs j occ is).form occ.ty)
  all_lower (Other j) h = other_reads f grades t n formed main single ranks roles layout j (slice_get t.roles j) refl
  all_lower (Guard j) h = guard_reads f grades t n formed main single ranks roles layout j (slice_get t.roles j) refl
  all_lower (Place p) h = by_place _ (λ o. key_rank f ranks.entries (Place p)) p (λ place is. defined_reads f grades t n formed main single ranks roles layout p place is (definer_of place.definers) refl)
  all_lower (Between p) h = tt
  all_lower (Taken p i) h = by_place _ (λ o. key_rank f ranks.entries (Taken p i)) p (λ place is. taken_reads f grades t n formed main single ranks roles layout p i place is _ refl)
  all_lower (Passed p i) h = by_place _ (λ o. key_rank f ranks.entries (Passed p i)) p (λ place is. passed_reads f grades t n formed main single ranks roles layout p i place is _ refl)
  all_lower (Chosen p i) h = by_place _ (λ o. key_rank f ranks.entries (Chosen p i)) p (λ place is. chosen_reads f grades t n formed main single ranks roles layout p i place is _ refl)
  all_lower (Last p) h =
      let o : OfLast f grades t p = of_last f grades t p h in
      let it : AllBelow (last_rank f ranks.entries (Some o.place)) (reads (last_wire f grades t n p o.place (start_of o.place.definers))) = last_reads f grades t n formed main single ranks roles layout p o.place o.is o.own (start_of o.place.definers) refl in
      subst (λ wire. AllBelow (last_rank f ranks.entries (slice_get f.places p)) (reads wire)) (sym (place_is f grades t n _ p o.place o.is))
      (subst (λ q. AllBelow (last_rank f ranks.entries q) (reads (last_wire f grades t n p o.place (start_of o.place.definers)))) (sym o.is) it)
  all_lower (Remembered p) h = by_place _ (λ o. 0) p (λ place is. tt)
  all_lower (Again i) h = again_reads f grades t n formed main single ranks roles layout i
  all_lower (Present j) h =
      let o : OfSloped f grades t j (Present j) = of_sloped f grades t (Present j) j h refl in
      let v = value_below j o.occ o.is (suc (V j)) (omega arith) in
      (v, (v, tt))
  all_lower (Slope j) h =
      let o : OfSloped f grades t j (Slope j) = of_sloped f grades t (Slope j) j h refl in
      let it = slope_reads j o.occ o.is o.own o.occ.form refl (formed.occs j o.occ o.is).form (reads_of j o.occ o.is) in
      subst (λ wire. AllBelow (level f (suc (suc (top f ranks.entries))) + V j) (reads wire)) (sym (occ_is f grades t n _ j o.occ o.is)) it
  all_lower (Motion p) h = tt

  below_each : (m i : ℕ) (wire : Wire) → slice_get (kernel_of f grades t n names).wires m ≡ Some wire → Has (reads wire) i → R i < R m
  below_each m i wire is h =
      let at : KeyAt f grades t n names m wire = key_at f grades t n names m wire is in
      let there : Has (keys f grades t) at.key = record { index = m; is = at.is } in
      let mine = rank_is f grades t n formed ranks.entries layout at.key there m (sym (layout.wires m at.key at.is)) in
      let reads_it : Has (reads (wire_of f grades t n at.key)) i = subst (λ (wire : Wire). Has (reads wire) i) (sym at.wire_is) h in
      let less = all-has (λ m. R m < key_rank f ranks.entries at.key) (reads (wire_of f grades t n at.key)) i (all_lower at.key there) reads_it in
      omega (arith, mine, less)

  pub made_ranks : AreWireRanks (kernel_of f grades t n names) (map (key_rank f ranks.entries) (keys f grades t))
  unfolding rank_of
  made_ranks = record {
    one_each = same_length (key_rank f ranks.entries) (wire_of f grades t n) (keys f grades t);
    lower = λ m i wire is h. below_each m i wire is h;
  }
