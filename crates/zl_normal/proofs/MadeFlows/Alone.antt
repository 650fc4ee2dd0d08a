-- In the kernel that is made of a form slopes with a wire of their own, and what they ask for, are wires of flows alone.
use Rattle.std.specs.Prelude.{◌≡◌, ℕ, suc, ◌+◌, ◌<◌, ◌≤◌, Bool, true, false, not, ◌||◌, if◌then◌else◌, nat_eq, List, [], ◌∷◌, length, slice_get, get_or, Option, Some, None}
use Rattle.std.specs.List.{list_any}
use Rattle.std.proofs.Common.{refl, sym, ap, ◌∙◌, arith, subst, ◌⊎◌, inl, inr}
use Rattle.std.proofs.lemmas.Bool.{false_from_ne_true, and_from, and_parts, or_left, or_right, or_cases, not_from_false, eqb-true}
use Rattle.std.proofs.lemmas.Option.{slice_get_cases}
use Rattle.zl_value.specs.Lists.{Has, among, when}
use Rattle.zl_value.specs.declared.script.Output.{Output}
use Rattle.zl_value.specs.declared.value.Ty.{Ty}
use Rattle.zl_meaning.specs.FlatForm.{FlatForm}
use Rattle.zl_meaning.specs.WellFormed.{IsForm, IsDefiner, IsAgain, IsWellFormed}
use Rattle.zl_meaning.specs.Single.{IsSingle}
use Rattle.zl_meaning.specs.Reading.{HasNodeRanks}
use Rattle.zl_meaning.specs.declared.place.Definer.{Definer}
use Rattle.zl_meaning.specs.declared.place.Definer.TheVariants.{Der}
use Rattle.zl_meaning.specs.declared.place.PlaceInfo.{PlaceInfo}
use Rattle.zl_meaning.specs.declared.occurrence.Form.{Form}
use Rattle.zl_meaning.specs.declared.occurrence.Form.TheVariants.{Op as Apply, If as IfOf, Pre}
use Rattle.zl_meaning.specs.declared.occurrence.Occ.{Occ}
use Rattle.zl_meaning.proofs.Members.{all-has, among-has, has-among, any-has, has-any, Found, has-map_from, has-none, has-cases, has-when, has-later}
use Rattle.zl_kernel.specs.KernelForm.{KernelForm}
use Rattle.zl_kernel.specs.FlowWires.{operands, listed_in, reads, is_slope, is_kept, has_reader, are_slopes, is_of_flows}
use Rattle.zl_kernel.specs.declared.wire.Wire.{Wire}
use Rattle.zl_kernel.specs.declared.memory.KMem.{KMem}
use Rattle.zl_kernel.specs.declared.site.KSite.{KSite}
use Rattle.zl_normal.specs.PlaceWires.{definer_of}
use Rattle.zl_normal.specs.MainBlock.{IsMain}
use Rattle.zl_normal.specs.Tables.{Tables, is_guarded, moves, has_form_slope}
use Rattle.zl_normal.specs.Keys.{joints, value_keys, form_slope_keys, keys, memories}
use Rattle.zl_normal.specs.KernelOf.{Numbers, own_slope, value_wire, slope_def, slope_wire, wire_of, derivative_memory, pre_memory, memory_of_occ, memory_of_place, memory_of, fresh_form, fresh_occ, site_of, any_again, output_of, kernel_of}
use Rattle.zl_normal.specs.Layout.{IsLayout}
use Rattle.zl_normal.specs.Roles.{AreRoles}
use Rattle.zl_normal.specs.declared.key.Key.{Key}
use Rattle.zl_normal.specs.declared.key.Key.TheVariants.{No, Value, Next, Again, Present, Slope}
use Rattle.zl_normal.specs.declared.key.Kept.{Kept}
use Rattle.zl_normal.specs.declared.key.Kept.TheVariants.{First, Before, Moving, Derivative, Pre as OfPre}
use Rattle.zl_normal.proofs.Slopes.MovingPlaces.{definer_has}
use Rattle.zl_normal.proofs.MadeFlows.Placed.{at_instants, StandsFor, numbered, no_there, value_there, slope_there, again_there}
use Rattle.zl_normal.proofs.MadeFlows.Roots.{value_solved, place_solved}
use Rattle.zl_normal.proofs.MadeFlows.Owners.{OfSloped, of_sloped}
use Rattle.zl_normal.proofs.MadeFlows.Named.{occ_is, slope_key}
use Rattle.zl_normal.proofs.MadeFlows.Kept.{wire_at, KeyAt, key_at}
use Rattle.zl_normal.proofs.MadeFlows.Reads.{key_solved as key_solved_at, fresh as fresh_at}
use Rattle.zl_normal.proofs.MadeFlows.AllReads.{all_read}

-- all wires that read this one are slopes
all_slopes : (k : KernelForm) (i j : ℕ) (wires : List Wire) → ((m : ℕ) (wire : Wire) → slice_get wires m ≡ Some wire → among i (reads wire) ≡ true → (o : ℕ) → o ≡ j + m → is_slope k o ≡ true) → are_slopes k i j wires ≡ true
all_slopes k i j [] each = refl
all_slopes k i j (x ∷ xs) each = and_from _ _ (first (among i (reads x)) refl) (all_slopes k i (suc j) xs (λ m wire is r o q. each (suc m) wire is r o (omega arith)))
  where
    first : (b : Bool) → among i (reads x) ≡ b → (not (among i (reads x)) || is_slope k j) ≡ true
    first true r = or_right (not (among i (reads x))) (is_slope k j) (each 0 x refl r j (omega arith))
    first false r = or_left (not (among i (reads x))) (is_slope k j) (not_from_false _ r)

-- what has a slope with a wire of its own has a wire
sloped_value : (f : FlatForm) (grades : List ℕ) (t : Tables) (n : Numbers) (j : ℕ) (occ : Occ) (form : Form) → has_form_slope f grades form ≡ true → Has (value_keys f grades t j form) (Value j) × ((value_wire f grades t n j occ form).slope ≡ own_slope f grades t n j occ)
sloped_value f grades t n j occ (Apply op ks) own = (record { index = 0; is = refl }, refl)
sloped_value f grades t n j occ (IfOf c x y) own = (record { index = 0; is = refl }, refl)
sloped_value f grades t n j occ form own = absurd cc

module _ (f : FlatForm) (grades : List ℕ) (t : Tables) (n : Numbers) (names : List (List ℕ)) (layout : IsLayout f grades t n) where
  abbrev made : KernelForm
  made = kernel_of f grades t n names

  -- a slope that has a wire is named
  pub is_named : (j : ℕ) → Has (keys f grades t) (Slope j) → is_slope (kernel_of f grades t n names) (n.wire (Slope j)) ≡ true
  is_named j h = or_left _ _ (or_left _ _ (any-has (λ (wire : Wire). among (n.wire (Slope j)) (listed_in wire.slope)) made.wires (wire_of f grades t n (Value j)) there names_it))
    where
      o : OfSloped f grades t j (Slope j)
      o = of_sloped f grades t (Slope j) j h refl

      v : Has (value_keys f grades t j o.occ.form) (Value j) × ((value_wire f grades t n j o.occ o.occ.form).slope ≡ own_slope f grades t n j o.occ)
      v = sloped_value f grades t n j o.occ o.occ.form (and_parts (moves grades j o.occ) (has_form_slope f grades o.occ.form) o.own).1

      there : Has made.wires (wire_of f grades t n (Value j))
      there = record { index = n.wire (Value j); is = wire_at f grades t n names (n.wire (Value j)) (Value j) (numbered (keys f grades t) n.wire layout.wires (Value j) (value_there f grades t j o.occ (Value j) o.is v.0)) }

      slope_is : (wire_of f grades t n (Value j)).slope ≡ Some (n.wire (Slope j))
      slope_is =
          ap (λ (wire : Wire). wire.slope) (occ_is f grades t n (λ occ. value_wire f grades t n j occ occ.form) j o.occ o.is)
          ∙ v.1 ∙ ap (λ b. if b then Some (n.wire (Slope j)) else None) o.own

      names_it : among (n.wire (Slope j)) (listed_in (wire_of f grades t n (Value j)).slope) ≡ true
      names_it = ap (λ s. among (n.wire (Slope j)) (listed_in s)) slope_is ∙ among-has (n.wire (Slope j)) (n.wire (Slope j) ∷ []) (record { index = 0; is = refl })

  pub slope_alone : (j : ℕ) → Has (keys f grades t) (Slope j) → is_of_flows (kernel_of f grades t n names) (n.wire (Slope j)) ≡ true
  unfolding is_of_flows
  slope_alone j h = or_left (is_slope made (n.wire (Slope j))) _ (is_named j h)

module _ (f : FlatForm) (grades : List ℕ) (t : Tables) (n : Numbers) (names : List (List ℕ)) (formed : IsWellFormed f) (main : IsMain f) (single : IsSingle f) (entries : HasNodeRanks f) (roles : AreRoles f t.roles) (layout : IsLayout f grades t n) where
  abbrev k : KernelForm
  k = kernel_of f grades t n names

  abbrev Solved : ℕ → Type 0
  Solved m = StandsFor at_instants (keys f grades t) m

  key_solved : (key : Key) → Has (keys f grades t) key → at_instants key ≡ true → Solved (n.wire key)
  key_solved key h e = key_solved_at f grades t n formed main single entries roles layout key h e

  value : (j : ℕ) (occ : Occ) → slice_get f.occs j ≡ Some occ → Solved (n.wiring.w j)
  value j occ is = value_solved f grades t n formed entries layout j occ is

  no_wire : Solved (n.wire No)
  no_wire = key_solved No (no_there f grades t) refl

  -- what memories take
  place_next : (make : PlaceInfo → KMem) (p : ℕ) → ((place : PlaceInfo) → slice_get f.places p ≡ Some place → Solved (make place).next) → (o : Option PlaceInfo) → slice_get f.places p ≡ o → Solved (memory_of_place f grades t n make o).next
  place_next make p h None is = no_wire
  place_next make p h (Some place) is = h place is

  occ_next : (make : Occ → KMem) (j : ℕ) → ((occ : Occ) → slice_get f.occs j ≡ Some occ → Solved (make occ).next) → (o : Option Occ) → slice_get f.occs j ≡ o → Solved (memory_of_occ f grades t n make o).next
  occ_next make j h None is = no_wire
  occ_next make j h (Some occ) is = h occ is

  derivative_next : (p : ℕ) (place : PlaceInfo) → slice_get f.places p ≡ Some place → (d : Option Definer) → definer_of place.definers ≡ d → Solved (derivative_memory f grades t n d).next
  derivative_next p place is (Some (Der b j arms)) e =
      let d : IsDefiner f p place (Der b j arms) = all-has (IsDefiner f p place) place.definers (Der b j arms) (formed.places p place is).definers (definer_has place.definers (Der b j arms) e) in
      value j d.2.occ d.2.is
  derivative_next p place is d e = no_wire

  pre_next : (j : ℕ) (occ : Occ) → slice_get f.occs j ≡ Some occ → (form : Form) → occ.form ≡ form → IsForm f occ.block occ.ty form → (ty : Ty) → Solved (pre_memory f grades t n j form ty).next
  pre_next j occ is (Pre x) e st ty = by (is_guarded f t x) refl
    where
      by : (b : Bool) → is_guarded f t x ≡ b → Solved (if b then n.wiring.w x else n.wire (Next j))
      by true q = value x st.occ st.is
      by false q =
          let has : Has (value_keys f grades t j (Pre x)) (Next j) = has-later (Value j) (when (not (is_guarded f t x)) (Next j)) (Next j) (has-when _ (Next j) (not_from_false _ q)) in
          key_solved (Next j) (value_there f grades t j occ (Next j) is (subst (λ form. Has (value_keys f grades t j form) (Next j)) (sym e) has)) refl
  pre_next j occ is form e st ty = no_wire

  next_solved : (kept : Kept) → Solved (memory_of f grades t n kept).next
  next_solved First = no_wire
  next_solved (Before p) = place_next _ p (λ place is. place_solved f grades t n formed entries layout p place is) (slice_get f.places p) refl
  next_solved (Moving p) = place_next _ p (λ place is. place_solved f grades t n formed entries layout p place is) (slice_get f.places p) refl
  next_solved (Derivative p) = place_next _ p (λ place is. derivative_next p place is (definer_of place.definers) refl) (slice_get f.places p) refl
  next_solved (OfPre j) = occ_next _ j (λ occ is. pre_next j occ is occ.form refl (formed.occs j occ is).form occ.ty) (slice_get f.occs j) refl

  -- what sites, outputs and `again` name
  fresh_solved : (occ : Occ) (form : Form) → IsForm f occ.block occ.ty form → Solved (fresh_form f grades t n form)
  fresh_solved occ (IfOf c x y) st = by (nat_eq x y)
    where
      by : (b : Bool) → Solved (if b then n.wiring.w c else n.wiring.fresh)
      by true = value c st.0.occ st.0.is
      by false = fresh_at f grades t n formed main single entries roles layout
  fresh_solved occ form st = fresh_at f grades t n formed main single entries roles layout

  again_solved : (ks : List ℕ) → f.again ≡ ks → Solved (any_again f grades t n ks)
  again_solved [] e = no_wire
  again_solved (j ∷ []) e = let a = all-has (IsAgain f) f.again j formed.again (subst (λ ks. Has ks j) (sym e) (record { index = 0; is = refl })) in value j a.occ a.is
  again_solved (j ∷ i ∷ ks) e =
      let has : Has (joints Again 0 (j ∷ i ∷ ks)) (Again 0) = record { index = 0; is = refl } in
      key_solved (Again 0) (again_there f grades t (Again 0) (subst (λ ks. Has (joints Again 0 ks) (Again 0)) (sym e) has)) refl

  output_solved : (p : ℕ) → Has f.outs p → Solved (n.wiring.P p)
  output_solved p h = by (slice_get_cases f.places p).1
    where
      inside : p < length f.places
      inside = all-has (λ p. p < length f.places) f.outs p formed.outs h

      by : (((x : PlaceInfo) × (p < length f.places) × (slice_get f.places p ≡ Some x) × (get_or f.places p x ≡ x)) ⊎ ((length f.places ≤ p) × (slice_get f.places p ≡ None))) → Solved (n.wiring.P p)
      by (inl x) = place_solved f grades t n formed entries layout p x.0 x.2
      by (inr past) = let q = past.0 in absurd (omega (arith, q, inside))

  abbrev outs_name : ℕ → Bool
  outs_name i = list_any (λ (out : Output). nat_eq out.«from» i) k.outs

  abbrev sites_name : ℕ → Bool
  sites_name i = list_any (λ (site : KSite). nat_eq site.value i || nat_eq site.fresh i) k.sites

  abbrev memories_name : ℕ → Bool
  memories_name i = list_any (λ (mem : KMem). nat_eq mem.next i) k.mems

  -- what is named otherwise than as a slope is solved at instants
  kept_solved : (i : ℕ) → is_kept (kernel_of f grades t n names) i ≡ true → Solved i
  kept_solved i e = by (or_cases (outs_name i || sites_name i || nat_eq k.again i) (memories_name i) e)
    where
      at : (m : ℕ) → Solved m → nat_eq m i ≡ true → Solved i
      at m s q = subst (λ m. Solved m) (eqb-true m i q) s

      an_output : Found (λ (out : Output). nat_eq out.«from» i) k.outs → Solved i
      an_output found =
          let p = has-map_from (output_of f grades t n names) f.outs found.element found.has in
          at found.element.«from» (subst (λ (out : Output). Solved out.«from») p.2 (output_solved p.0 p.1)) found.meets

      a_site : Found (λ (site : KSite). nat_eq site.value i || nat_eq site.fresh i) k.sites → Solved i
      a_site found =
          let p = has-map_from (site_of f grades t n) f.sites found.element found.has in
          let s = (formed.sites p.1.index p.0 p.1.is).argument in
          let fresh : Solved (fresh_occ f grades t n (slice_get f.occs p.0.arg)) = subst (λ o. Solved (fresh_occ f grades t n o)) (sym s.is) (fresh_solved s.occ s.occ.form (formed.occs p.0.arg s.occ s.is).form) in
          let v : Solved found.element.value = subst (λ (site : KSite). Solved site.value) p.2 (value p.0.arg s.occ s.is) in
          let w : Solved found.element.fresh = subst (λ (site : KSite). Solved site.fresh) p.2 fresh in
          either v w (or_cases (nat_eq found.element.value i) (nat_eq found.element.fresh i) found.meets)
        where
          either : Solved found.element.value → Solved found.element.fresh → (nat_eq found.element.value i ≡ true) ⊎ (nat_eq found.element.fresh i ≡ true) → Solved i
          either v w (inl a) = at found.element.value v a
          either v w (inr b) = at found.element.fresh w b

      a_memory : Found (λ (mem : KMem). nat_eq mem.next i) k.mems → Solved i
      a_memory found =
          let p = has-map_from (memory_of f grades t n) (memories f grades t) found.element found.has in
          at found.element.next (subst (λ (mem : KMem). Solved mem.next) p.2 (next_solved p.0)) found.meets

      outer : (outs_name i ≡ true) ⊎ (sites_name i ≡ true) → Solved i
      outer (inl a) = an_output (has-any (λ (out : Output). nat_eq out.«from» i) k.outs a)
      outer (inr b) = a_site (has-any (λ (site : KSite). nat_eq site.value i || nat_eq site.fresh i) k.sites b)

      front : ((outs_name i || sites_name i) ≡ true) ⊎ (nat_eq k.again i ≡ true) → Solved i
      front (inl a) = outer (or_cases (outs_name i) (sites_name i) a)
      front (inr b) = at k.again (again_solved f.again refl) b

      by : ((outs_name i || sites_name i || nat_eq k.again i) ≡ true) ⊎ (memories_name i ≡ true) → Solved i
      by (inl a) = front (or_cases (outs_name i || sites_name i) (nat_eq k.again i) a)
      by (inr b) = a_memory (has-any (λ (mem : KMem). nat_eq mem.next i) k.mems b)

  same_key : (m : ℕ) (a b : Key) → slice_get (keys f grades t) m ≡ Some a → slice_get (keys f grades t) m ≡ Some b → a ≡ b
  same_key m a b x y = cc

  module _ (j : ℕ) (listed : Has (keys f grades t) (Present j)) where
    abbrev i : ℕ
    i = n.wire (Present j)

    not_solved : Solved i → ⊥
    not_solved s =
        let same : s.key ≡ Present j = same_key i s.key (Present j) s.is (numbered (keys f grades t) n.wire layout.wires (Present j) listed) in
        let on : at_instants (Present j) ≡ true = subst (λ key. at_instants key ≡ true) same s.of_kind in
        cc

    -- what reads it is a slope
    reader_named : (m : ℕ) (wire : Wire) → slice_get (kernel_of f grades t n names).wires m ≡ Some wire → among i (reads wire) ≡ true → is_slope (kernel_of f grades t n names) m ≡ true
    reader_named m wire is r = by at.key refl
      where
        at : KeyAt f grades t n names m wire
        at = key_at f grades t n names m wire is

        there : Has (keys f grades t) at.key
        there = record { index = m; is = at.is }

        other : ((l : ℕ) → at.key ≡ Slope l → ⊥) → is_slope (kernel_of f grades t n names) m ≡ true
        other no_slope =
            let all = all_read f grades t n formed main single entries roles layout at.key there no_slope in
            let has = has-among i (reads (wire_of f grades t n at.key)) (ap (λ (wire : Wire). among i (reads wire)) at.wire_is ∙ r) in
            absurd (not_solved (all-has (λ m. StandsFor at_instants (keys f grades t) m) (reads (wire_of f grades t n at.key)) i all has))

        by : (key : Key) → at.key ≡ key → is_slope (kernel_of f grades t n names) m ≡ true
        by (Slope l) e =
            let has : Has (keys f grades t) (Slope l) = subst (λ key. Has (keys f grades t) key) e there in
            let same : n.wire (Slope l) ≡ m = layout.wires m (Slope l) (at.is ∙ ap (λ key. Some key) e) in
            subst (λ m. is_slope (kernel_of f grades t n names) m ≡ true) same (is_named f grades t n names layout l has)
        by key e = other (λ l q. let z : key ≡ Slope l = sym e ∙ q in absurd cc)

    -- the slope reads it
    is_read : has_reader i (kernel_of f grades t n names).wires ≡ true
    is_read = any-has (λ (wire : Wire). among i (reads wire)) k.wires (wire_of f grades t n (Slope j)) there reads_it
      where
        o : OfSloped f grades t j (Present j)
        o = of_sloped f grades t (Present j) j listed refl

        there : Has (kernel_of f grades t n names).wires (wire_of f grades t n (Slope j))
        there = record {
          index = n.wire (Slope j);
          is = wire_at f grades t n names (n.wire (Slope j)) (Slope j) (numbered (keys f grades t) n.wire layout.wires (Slope j) (slope_there f grades t j o.occ (Slope j) o.is o.own (slope_key f grades t j o.occ.form)));
        }

        by_form : (form : Form) → Has (form_slope_keys f grades t j form) (Present j) → among i (reads (slope_wire f grades t n j o.occ form)) ≡ true
        by_form (Apply op ks) h = among-has i (i ∷ operands (slope_def f grades t n op ks)) (record { index = 0; is = refl })
        by_form form h = absurd (has-cases ⊥ (Slope j) [] (Present j) h (λ e. cc) (λ l. has-none (Present j) l))

        reads_it : among i (reads (wire_of f grades t n (Slope j))) ≡ true
        reads_it = ap (λ (wire : Wire). among i (reads wire)) (occ_is f grades t n (λ occ. slope_wire f grades t n j occ occ.form) j o.occ o.is) ∙ by_form o.occ.form o.has

    pub present_alone : is_of_flows (kernel_of f grades t n names) (n.wire (Present j)) ≡ true
    unfolding is_of_flows
    present_alone =
        or_right (is_slope k i) _
        (and_from _ _ (not_from_false _ (false_from_ne_true (is_kept k i) (λ e. not_solved (kept_solved i e))))
        (and_from _ _ is_read (all_slopes k i 0 k.wires (λ m wire is r o q. let same : m ≡ o = omega arith in subst (λ o. is_slope k o ≡ true) same (reader_named m wire is r)))))
