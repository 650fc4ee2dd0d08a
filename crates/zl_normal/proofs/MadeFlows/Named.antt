-- What the kernel that is made of a form names as a slope.
use Rattle.std.specs.Prelude.{◌≡◌, ℕ, suc, Bool, true, false, ◌||◌, if◌then◌else◌, nat_eq, List, [], ◌∷◌, drop, slice_get, Option, Some, None}
use Rattle.std.specs.List.{list_any}
use Rattle.std.proofs.Common.{refl, sym, ap, ◌∙◌, subst, ◌⊎◌, inl, inr}
use Rattle.std.proofs.lemmas.Bool.{or_cases, eqb-true}
use Rattle.zl_value.specs.Lists.{Has, among}
use Rattle.zl_value.specs.declared.value.Ty.{Ty}
use Rattle.zl_value.specs.declared.value.Ty.TheVariants.{Float}
use Rattle.zl_meaning.specs.FlatForm.{FlatForm}
use Rattle.zl_meaning.specs.WellFormed.{IsDefiner, IsWellFormed}
use Rattle.zl_meaning.specs.Reading.{HasNodeRanks}
use Rattle.zl_meaning.specs.declared.place.Definer.{Definer}
use Rattle.zl_meaning.specs.declared.place.Definer.TheVariants.{Input, Plain, Der, Start}
use Rattle.zl_meaning.specs.declared.place.DerArm.{DerArm}
use Rattle.zl_meaning.specs.declared.place.PlaceInfo.{PlaceInfo}
use Rattle.zl_meaning.specs.declared.occurrence.Form.{Form}
use Rattle.zl_meaning.specs.declared.occurrence.Form.TheVariants.{Lit, Read, Last as LastOf, Op as Apply, If as IfOf, Arrow, Pre, Result, Up, Fired, Step as AtSteps}
use Rattle.zl_meaning.specs.declared.occurrence.Occ.{Occ}
use Rattle.zl_meaning.proofs.Members.{all-has, has-among, has-any, Found, has-map_from, has-none, has-cases}
use Rattle.zl_kernel.specs.KernelForm.{KernelForm}
use Rattle.zl_kernel.specs.FlowWires.{listed_in, is_slope}
use Rattle.zl_kernel.specs.declared.wire.Def.{Def}
use Rattle.zl_kernel.specs.declared.wire.Def.TheVariants.{Mem, If}
use Rattle.zl_kernel.specs.declared.wire.Wire.{Wire}
use Rattle.zl_kernel.specs.declared.memory.KMem.{KMem}
use Rattle.zl_kernel.specs.declared.site.KSite.{KSite}
use Rattle.zl_normal.specs.PlaceWires.{definer_of, start_of}
use Rattle.zl_normal.specs.Tables.{Tables, is_literal, has_own_slope}
use Rattle.zl_normal.specs.Keys.{keys, form_slope_keys, memories}
use Rattle.zl_normal.specs.KernelOf.{Numbers, blank, plain, joined, solved, value_wire, slope_wire, rest_wire, next_wire, other_wire, guard_wire, defined_wire, arms_of, taken_wire, passed_wire, chosen_wire, last_wire, of_occ, of_place, wire_of, moving_memory, derivative_memory, pre_memory, memory_of_occ, memory_of_place, memory_of, site_of, kernel_of}
use Rattle.zl_normal.specs.Layout.{IsLayout}
use Rattle.zl_normal.specs.declared.role.Role.{Role}
use Rattle.zl_normal.specs.declared.role.Role.TheVariants.{Branch, Both, Start as OfStart, Reset as OfReset}
use Rattle.zl_normal.specs.declared.key.Key.{Key}
use Rattle.zl_normal.specs.declared.key.Key.TheVariants.{Step, Fresh, No, Zero, Value, Rest, Next, Other, Guard, Place, Between, Taken, Passed, Chosen, Last, Remembered, Again, Present, Slope, Motion}
use Rattle.zl_normal.specs.declared.key.Kept.{Kept}
use Rattle.zl_normal.specs.declared.key.Kept.TheVariants.{First, Before, Moving, Derivative, Pre as OfPre}
use Rattle.zl_normal.proofs.Slopes.MovingPlaces.{definer_has}
use Rattle.zl_normal.proofs.MadeFlows.Placed.{as_slope, StandsFor, stands_for, slope_there}
use Rattle.zl_normal.proofs.MadeFlows.SlopeRoots.{slope_named, motion_named}
use Rattle.zl_normal.proofs.MadeFlows.Memories.{OfMoving, of_moving}

module _ (f : FlatForm) (grades : List ℕ) (t : Tables) (n : Numbers) where
  -- what holds of each wire of an occurrence, of a place
  pub occ_case : (P : Wire → Type 0) (make : Occ → Wire) (j : ℕ) → P blank → ((occ : Occ) → slice_get f.occs j ≡ Some occ → P (make occ)) → P (of_occ f grades t n make j)
  occ_case P make j none some = by (slice_get f.occs j) refl
    where
      by : (o : Option Occ) → slice_get f.occs j ≡ o → P (of_occ f grades t n make j)
      by None e = rw e none
      by (Some occ) e = let it = some occ e in rw e it

  pub place_case : (P : Wire → Type 0) (make : PlaceInfo → Wire) (p : ℕ) → P blank → ((place : PlaceInfo) → slice_get f.places p ≡ Some place → P (make place)) → P (of_place f grades t n make p)
  place_case P make p none some = by (slice_get f.places p) refl
    where
      by : (o : Option PlaceInfo) → slice_get f.places p ≡ o → P (of_place f grades t n make p)
      by None e = rw e none
      by (Some place) e = let it = some place e in rw e it

  pub occ_is : (make : Occ → Wire) (j : ℕ) (occ : Occ) → slice_get f.occs j ≡ Some occ → of_occ f grades t n make j ≡ make occ
  occ_is make j occ is = rw is refl

  pub place_is : (make : PlaceInfo → Wire) (p : ℕ) (place : PlaceInfo) → slice_get f.places p ≡ Some place → of_place f grades t n make p ≡ make place
  place_is make p place is = rw is refl

  -- a wire names no slope, or that of the occurrence whose value it is
  pub data Naming (wire : Wire) : Type 0 where
    NoSlope : wire.slope ≡ None → Naming wire
    OfValue : (j : ℕ) (occ : Occ) → slice_get f.occs j ≡ Some occ → has_own_slope f grades j occ ≡ true → wire.slope ≡ Some (n.wire (Slope j)) → Naming wire

  solved_naming : (j : ℕ) (occ : Occ) (def : Def) → slice_get f.occs j ≡ Some occ → Naming (solved f grades t n j occ def)
  solved_naming j occ def is = by (has_own_slope f grades j occ) refl
    where
      by : (b : Bool) → has_own_slope f grades j occ ≡ b → Naming (solved f grades t n j occ def)
      by true e = OfValue j occ is e (ap (λ b. if b then Some (n.wire (Slope j)) else None) e)
      by false e = NoSlope (ap (λ b. if b then Some (n.wire (Slope j)) else None) e)

  value_naming : (j : ℕ) (occ : Occ) → slice_get f.occs j ≡ Some occ → (form : Form) → Naming (value_wire f grades t n j occ form)
  value_naming j occ is (Lit v) = NoSlope refl
  value_naming j occ is (Read p) = NoSlope refl
  value_naming j occ is (LastOf p) = NoSlope refl
  value_naming j occ is (Apply op ks) = solved_naming j occ _ is
  value_naming j occ is (IfOf c x y) = solved_naming j occ _ is
  value_naming j occ is (Arrow x y) = solved_naming j occ _ is
  value_naming j occ is (Pre x) = NoSlope refl
  value_naming j occ is (Result x) = NoSlope refl
  value_naming j occ is (Up s) = NoSlope refl
  value_naming j occ is (Fired ks) = NoSlope refl
  value_naming j occ is AtSteps = NoSlope refl

  joined_naming : (w : ℕ → ℕ) (rest : ℕ) (ks : List ℕ) → (joined w rest ks).slope ≡ None
  joined_naming w rest [] = refl
  joined_naming w rest (u ∷ []) = refl
  joined_naming w rest (u ∷ v ∷ []) = refl
  joined_naming w rest (u ∷ v ∷ x ∷ us) = refl

  rest_naming : (j i : ℕ) (form : Form) → (rest_wire f grades t n j i form).slope ≡ None
  rest_naming j i (Fired ks) = joined_naming n.wiring.w (n.wire (Rest j (suc i))) (drop i ks)
  rest_naming j i form = refl

  next_naming : (form : Form) (ty : Ty) → (next_wire f grades t n form ty).slope ≡ None
  next_naming (Pre x) ty = refl
  next_naming form ty = refl

  other_naming : (r : Option Role) → (other_wire f grades t n r).slope ≡ None
  other_naming (Some (Both whole c)) = refl
  other_naming r = refl

  guard_naming : (j : ℕ) (r : Option Role) → (guard_wire f grades t n j r).slope ≡ None
  guard_naming j (Some (Branch whole c true)) = refl
  guard_naming j (Some (Branch whole c false)) = refl
  guard_naming j (Some (Both whole c)) = refl
  guard_naming j (Some (OfStart p)) = refl
  guard_naming j (Some (OfReset p arm)) = refl
  guard_naming j r = refl

  defined_naming : (p : ℕ) (place : PlaceInfo) (d : Option Definer) → (defined_wire f grades t n p place d).slope ≡ None
  defined_naming p place None = refl
  defined_naming p place (Some (Input i)) = refl
  defined_naming p place (Some (Plain b j)) = refl
  defined_naming p place (Some (Der b j arms)) = refl
  defined_naming p place (Some (Start b j)) = refl

  taken_naming : (p i : ℕ) (arms : List DerArm) → (taken_wire f grades t n p i arms).slope ≡ None
  taken_naming p i [] = refl
  taken_naming p i (arm ∷ arms) = refl

  passed_naming : (p i : ℕ) (arms : List DerArm) → (passed_wire f grades t n p i arms).slope ≡ None
  passed_naming p i [] = refl
  passed_naming p i (arm ∷ arms) = refl

  chosen_naming : (p i : ℕ) (arms : List DerArm) → (chosen_wire f grades t n p i arms).slope ≡ None
  chosen_naming p i [] = refl
  chosen_naming p i (arm ∷ arms) = refl

  last_naming : (p : ℕ) (place : PlaceInfo) (s : Option ℕ) → (last_wire f grades t n p place s).slope ≡ None
  last_naming p place None = refl
  last_naming p place (Some j) = by (is_literal f j)
    where
      by : (b : Bool) → (if b then plain place.ty (Mem (n.memory (Before p))) None else plain place.ty (If n.wiring.fresh (n.wiring.w j) (n.wire (Remembered p))) None).slope ≡ None
      by true = refl
      by false = refl

  slope_naming : (j : ℕ) (occ : Occ) (form : Form) → (slope_wire f grades t n j occ form).slope ≡ None
  slope_naming j occ (Apply op ks) = refl
  slope_naming j occ (IfOf c x y) = refl
  slope_naming j occ form = refl

  pub naming : (key : Key) → Naming (wire_of f grades t n key)
  naming Step = NoSlope refl
  naming Fresh = NoSlope refl
  naming No = NoSlope refl
  naming Zero = NoSlope refl
  naming (Value j) = occ_case Naming _ j (NoSlope refl) (λ occ is. value_naming j occ is occ.form)
  naming (Rest j i) = occ_case Naming _ j (NoSlope refl) (λ occ is. NoSlope (rest_naming j i occ.form))
  naming (Next j) = occ_case Naming _ j (NoSlope refl) (λ occ is. NoSlope (next_naming occ.form occ.ty))
  naming (Other j) = NoSlope (other_naming (slice_get t.roles j))
  naming (Guard j) = NoSlope (guard_naming j (slice_get t.roles j))
  naming (Place p) = place_case Naming _ p (NoSlope refl) (λ place is. NoSlope (defined_naming p place (definer_of place.definers)))
  naming (Between p) = NoSlope refl
  naming (Taken p i) = place_case Naming _ p (NoSlope refl) (λ place is. NoSlope (taken_naming p i (drop i (arms_of f grades t n (definer_of place.definers)))))
  naming (Passed p i) = place_case Naming _ p (NoSlope refl) (λ place is. NoSlope (passed_naming p i (drop i (arms_of f grades t n (definer_of place.definers)))))
  naming (Chosen p i) = place_case Naming _ p (NoSlope refl) (λ place is. NoSlope (chosen_naming p i (drop i (arms_of f grades t n (definer_of place.definers)))))
  naming (Last p) = place_case Naming _ p (NoSlope refl) (λ place is. NoSlope (last_naming p place (start_of place.definers)))
  naming (Remembered p) = place_case Naming _ p (NoSlope refl) (λ place is. NoSlope refl)
  naming (Again i) = NoSlope (joined_naming n.wiring.w (n.wire (Again (suc i))) (drop i f.again))
  naming (Present j) = NoSlope refl
  naming (Slope j) = occ_case Naming _ j (NoSlope refl) (λ occ is. NoSlope (slope_naming j occ occ.form))
  naming (Motion p) = NoSlope refl

  -- a memory names no slope, or moves as a place with a `der` does
  pub data MemoryNaming (mem : KMem) : Type 0 where
    Unmoved : mem.slope ≡ None → MemoryNaming mem
    OfPlace : (p : ℕ) (m : OfMoving f grades t p) → mem ≡ moving_memory f grades t n p m.place → MemoryNaming mem

  pub place_memory_still : (make : PlaceInfo → KMem) → ((place : PlaceInfo) → (make place).slope ≡ None) → (o : Option PlaceInfo) → (memory_of_place f grades t n make o).slope ≡ None
  place_memory_still make h None = refl
  place_memory_still make h (Some place) = h place

  pub derivative_still : (d : Option Definer) → (derivative_memory f grades t n d).slope ≡ None
  derivative_still (Some (Der b j arms)) = refl
  derivative_still d = refl

  pub pre_still : (j : ℕ) (form : Form) (ty : Ty) → (pre_memory f grades t n j form ty).slope ≡ None
  pre_still j (Pre x) ty = refl
  pre_still j form ty = refl

  pub occ_memory_still : (make : Occ → KMem) → ((occ : Occ) → (make occ).slope ≡ None) → (o : Option Occ) → (memory_of_occ f grades t n make o).slope ≡ None
  occ_memory_still make h None = refl
  occ_memory_still make h (Some occ) = h occ

  pub memory_naming : (kept : Kept) → Has (memories f grades t) kept → MemoryNaming (memory_of f grades t n kept)
  memory_naming First h = Unmoved refl
  memory_naming (Before p) h = Unmoved (place_memory_still _ (λ place. refl) (slice_get f.places p))
  memory_naming (Moving p) h =
      let m : OfMoving f grades t p = of_moving f grades t p h in
      OfPlace p m (ap (λ o. memory_of_place f grades t n (moving_memory f grades t n p) o) m.is)
  memory_naming (Derivative p) h = Unmoved (place_memory_still _ (λ place. derivative_still (definer_of place.definers)) (slice_get f.places p))
  memory_naming (OfPre j) h = Unmoved (occ_memory_still _ (λ occ. pre_still j occ.form occ.ty) (slice_get f.occs j))

pub slope_key : (f : FlatForm) (grades : List ℕ) (t : Tables) (j : ℕ) (form : Form) → Has (form_slope_keys f grades t j form) (Slope j)
slope_key f grades t j (Apply op ks) = record { index = 1; is = refl }
slope_key f grades t j form = record { index = 0; is = refl }

module _ (f : FlatForm) (grades : List ℕ) (t : Tables) (n : Numbers) (names : List (List ℕ)) (formed : IsWellFormed f) (entries : HasNodeRanks f) (layout : IsLayout f grades t n) where
  wire_names : (i : ℕ) (wire : Wire) → Naming f grades t n wire → among i (listed_in wire.slope) ≡ true → StandsFor as_slope (keys f grades t) i
  wire_names i wire (NoSlope s) e = let q : among i (listed_in wire.slope) ≡ false = ap (λ o. among i (listed_in o)) s in absurd cc
  wire_names i wire (OfValue j occ is own s) e =
      let q : among i (n.wire (Slope j) ∷ []) ≡ true = sym (ap (λ o. among i (listed_in o)) s) ∙ e in
      has-cases (StandsFor as_slope (keys f grades t) i) (n.wire (Slope j)) [] i (has-among i (n.wire (Slope j) ∷ []) q)
      (λ same. subst (λ m. StandsFor as_slope (keys f grades t) m) same
      (stands_for as_slope (keys f grades t) n.wire layout.wires (Slope j) (slope_there f grades t j occ (Slope j) is own (slope_key f grades t j occ.form)) refl))
      (λ none. absurd (has-none i none))

  pub place_float : (p : ℕ) (m : OfMoving f grades t p) → m.place.ty ≡ Float
  place_float p m = (all-has (IsDefiner f p m.place) m.place.definers (Der m.block m.slope m.arms) (formed.places p m.place m.is).definers (definer_has m.place.definers (Der m.block m.slope m.arms) m.der)).1

  memory_names : (i : ℕ) (mem : KMem) → MemoryNaming f grades t n mem → among i (listed_in mem.slope) ≡ true → StandsFor as_slope (keys f grades t) i
  memory_names i mem (Unmoved s) e = let q : among i (listed_in mem.slope) ≡ false = ap (λ o. among i (listed_in o)) s in absurd cc
  memory_names i mem (OfPlace p m same) e =
      let q : among i (n.wiring.D p ∷ []) ≡ true = sym (ap (λ (mem : KMem). among i (listed_in mem.slope)) same) ∙ e in
      has-cases (StandsFor as_slope (keys f grades t) i) (n.wiring.D p) [] i (has-among i (n.wiring.D p ∷ []) q)
      (λ same. subst (λ m. StandsFor as_slope (keys f grades t) m) same (motion_named f grades t n formed entries layout p m.place m.is (place_float p m)))
      (λ none. absurd (has-none i none))

  abbrev k : KernelForm
  k = kernel_of f grades t n names

  abbrev wires_name : ℕ → Bool
  wires_name i = list_any (λ (wire : Wire). among i (listed_in wire.slope)) k.wires

  abbrev memories_name : ℕ → Bool
  memories_name i = list_any (λ (mem : KMem). among i (listed_in mem.slope)) k.mems

  abbrev sites_name : ℕ → Bool
  sites_name i = list_any (λ (site : KSite). nat_eq site.slope i) k.sites

  -- what is named as a slope is one
  pub named_is : (i : ℕ) → is_slope (kernel_of f grades t n names) i ≡ true → StandsFor as_slope (keys f grades t) i
  named_is i e = by (or_cases (wires_name i || memories_name i) (sites_name i) e)
    where
      a_wire : Found (λ (wire : Wire). among i (listed_in wire.slope)) k.wires → StandsFor as_slope (keys f grades t) i
      a_wire found =
          let from = has-map_from (wire_of f grades t n) (keys f grades t) found.element found.has in
          wire_names i found.element (subst (λ wire. Naming f grades t n wire) from.2 (naming f grades t n from.0)) found.meets

      a_memory : Found (λ (mem : KMem). among i (listed_in mem.slope)) k.mems → StandsFor as_slope (keys f grades t) i
      a_memory found =
          let from = has-map_from (memory_of f grades t n) (memories f grades t) found.element found.has in
          memory_names i found.element (subst (λ mem. MemoryNaming f grades t n mem) from.2 (memory_naming f grades t n from.0 from.1)) found.meets

      a_site : Found (λ (site : KSite). nat_eq site.slope i) k.sites → StandsFor as_slope (keys f grades t) i
      a_site found =
          let from = has-map_from (site_of f grades t n) f.sites found.element found.has in
          let same : n.wiring.S from.0.arg ≡ i = ap (λ (site : KSite). site.slope) from.2 ∙ eqb-true found.element.slope i found.meets in
          let s = (formed.sites from.1.index from.0 from.1.is).argument in
          subst (λ m. StandsFor as_slope (keys f grades t) m) same (slope_named f grades t n formed entries layout from.0.arg s.occ s.is)

      front : (wires_name i ≡ true) ⊎ (memories_name i ≡ true) → StandsFor as_slope (keys f grades t) i
      front (inl a) = a_wire (has-any (λ (wire : Wire). among i (listed_in wire.slope)) k.wires a)
      front (inr b) = a_memory (has-any (λ (mem : KMem). among i (listed_in mem.slope)) k.mems b)

      by : ((wires_name i || memories_name i) ≡ true) ⊎ (sites_name i ≡ true) → StandsFor as_slope (keys f grades t) i
      by (inl a) = front (or_cases (wires_name i) (memories_name i) a)
      by (inr b) = a_site (has-any (λ (site : KSite). nat_eq site.slope i) k.sites b)
