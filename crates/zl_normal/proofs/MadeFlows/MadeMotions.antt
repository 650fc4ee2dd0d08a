-- In the kernel that is made of a form the memories that move are those of the places with a `der`, with their derivatives.
use Rattle.std.specs.Prelude.{◌≡◌, ℕ, suc, ◌+◌, Bool, true, false, List, [], ◌∷◌, ◌++◌, map, slice_get, Option, Some, None}
use Rattle.std.specs.List.{AllByRecursion}
use Rattle.std.specs.Option.{option_map, option_and_then}
use Rattle.std.proofs.Common.{refl, sym, ap, ◌∙◌, arith, subst}
use Rattle.std.proofs.lemmas.Option.{slice_get-map}
use Rattle.zl_value.specs.Lists.{Has, when}
use Rattle.zl_value.specs.declared.value.Value.{Value}
use Rattle.zl_meaning.specs.FlatForm.{FlatForm, place_call}
use Rattle.zl_meaning.specs.Uses.{AsSlope}
use Rattle.zl_meaning.specs.WellFormed.{IsDefiner, IsWellFormed}
use Rattle.zl_meaning.specs.Single.{IsSingle}
use Rattle.zl_meaning.specs.Reading.{HasNodeRanks}
use Rattle.zl_meaning.specs.declared.place.Definer.{Definer}
use Rattle.zl_meaning.specs.declared.place.Definer.TheVariants.{Input, Plain, Der, Start}
use Rattle.zl_meaning.specs.declared.place.DerArm.{DerArm}
use Rattle.zl_meaning.specs.declared.place.PlaceInfo.{PlaceInfo}
use Rattle.zl_meaning.specs.declared.occurrence.Form.{Form}
use Rattle.zl_meaning.specs.declared.occurrence.Form.TheVariants.{Pre}
use Rattle.zl_meaning.specs.declared.occurrence.Occ.{Occ}
use Rattle.zl_meaning.proofs.Members.{all-has, has-map_from}
use Rattle.zl_kernel.specs.KernelForm.{KernelForm}
use Rattle.zl_kernel.specs.declared.memory.KMem.{KMem}
use Rattle.zl_normal.specs.KernelParts.{IsMemory}
use Rattle.zl_normal.specs.MainBlock.{IsMain}
use Rattle.zl_normal.specs.PlaceWires.{definer_of, IsDer}
use Rattle.zl_normal.specs.SlopeWires.{AreMotions, Done, StillMemory, StillPlace, Moving as MovingPlace}
use Rattle.zl_normal.specs.Tables.{Tables, has_last}
use Rattle.zl_normal.specs.Keys.{each, definer_keys, motion_memories, place_memories, form_memories, occ_memories, keys, memories}
use Rattle.zl_normal.specs.KernelOf.{Numbers, moving_memory, derivative_memory, memory_of_place, memory_of, wire_of, kernel_of}
use Rattle.zl_normal.specs.Layout.{AreNumbered, IsLayout, IsPlaceAt, IsMotionAt}
use Rattle.zl_normal.specs.Roles.{AreRoles}
use Rattle.zl_normal.specs.declared.key.Key.{Key}
use Rattle.zl_normal.specs.declared.key.Key.TheVariants.{Place, Motion}
use Rattle.zl_normal.specs.declared.key.Kept.{Kept}
use Rattle.zl_normal.specs.declared.key.Kept.TheVariants.{First, Before, Moving, Derivative}
use Rattle.zl_normal.proofs.Slopes.MovingPlaces.{definer_has}
use Rattle.zl_normal.proofs.Made.Wires.{IsMade}
use Rattle.zl_normal.proofs.Made.Uses.{slope_guard}
use Rattle.zl_normal.proofs.MadeFlows.Placed.{numbered, definer_there}
use Rattle.zl_normal.proofs.MadeFlows.Memories.{motion_there}
use Rattle.zl_normal.proofs.MadeFlows.Named.{MemoryNaming, Unmoved, OfPlace, memory_naming, place_memory_still, derivative_still, pre_still, occ_memory_still}
use Rattle.zl_normal.proofs.MadeFlows.Kept.{kept}
use Rattle.zl_normal.proofs.MadeFlows.OperatorSlopes.{wire_there}

map_append : {X Y : Type 0} (g : X → Y) (xs ys : List X) → map g (xs ++ ys) ≡ map g xs ++ map g ys
map_append g [] ys = refl
map_append g (x ∷ xs) ys = ap (λ l. g x ∷ l) (map_append g xs ys)

append_again : {X : Type 0} (xs ys zs : List X) → xs ++ ys ++ zs ≡ xs ++ (ys ++ zs)
append_again [] ys zs = refl
append_again (x ∷ xs) ys zs = ap (λ l. x ∷ l) (append_again xs ys zs)

numbered_memory : (ks : List Kept) (number : Kept → ℕ) → AreNumbered ks number → (kept : Kept) → Has ks kept → slice_get ks (number kept) ≡ Some kept
numbered_memory ks number are kept h = subst (λ m. slice_get ks m ≡ Some kept) (sym (are h.index kept h.is)) h.is

module _ (f : FlatForm) (grades : List ℕ) (t : Tables) (n : Numbers) (names : List (List ℕ)) where
  abbrev k : KernelForm
  k = kernel_of f grades t n names

  abbrev Motions : List KMem → ℕ → List PlaceInfo → Type 0
  Motions mems p places = AreMotions f grades k n.wiring mems p places

  -- what doesn't move may stand behind
  none_moves : (p : ℕ) (ks : List Kept) → AllByRecursion (λ kept. (memory_of f grades t n kept).slope ≡ None) ks → Motions (map (memory_of f grades t n) ks) p []
  none_moves p [] all = Done p
  none_moves p (kept ∷ ks) all = StillMemory (memory_of f grades t n kept) (map (memory_of f grades t n) ks) p [] all.0 (none_moves p ks all.1)

  form_still : (j : ℕ) (form : Form) → AllByRecursion (λ kept. (memory_of f grades t n kept).slope ≡ None) (form_memories f grades t j form)
  form_still j (Pre x) = (occ_memory_still f grades t n _ (λ occ. pre_still f grades t n j occ.form occ.ty) (slice_get f.occs j), tt)
  form_still j form = tt

  all_after : (P : Kept → Type 0) (xs ys : List Kept) → AllByRecursion P xs → AllByRecursion P ys → AllByRecursion P (xs ++ ys)
  all_after P [] ys a b = b
  all_after P (x ∷ xs) ys a b = (a.0, all_after P xs ys a.1 b)

  occs_still : (j : ℕ) (occs : List Occ) → AllByRecursion (λ kept. (memory_of f grades t n kept).slope ≡ None) (each (occ_memories f grades t) j occs)
  occs_still j [] = tt
  occs_still j (occ ∷ occs) = all_after (λ kept. (memory_of f grades t n kept).slope ≡ None) (occ_memories f grades t j occ) (each (occ_memories f grades t) (suc j) occs) (form_still j occ.form) (occs_still (suc j) occs)

  before_still : (p : ℕ) → (memory_of f grades t n (Before p)).slope ≡ None
  before_still p = place_memory_still f grades t n _ (λ place. refl) (slice_get f.places p)

  -- the memories of a place
  by_definer : (p : ℕ) (place : PlaceInfo) (places : List PlaceInfo) → slice_get f.places p ≡ Some place → (d : Option Definer) → definer_of place.definers ≡ d → (rest : List Kept) → Motions (map (memory_of f grades t n) rest) (suc p) places → Motions (map (memory_of f grades t n) (motion_memories f grades t p d ++ rest)) p (place ∷ places)
  by_definer p place places is (Some (Der b j arms)) e rest more =
      let mem : memory_of f grades t n (Moving p) ≡ moving_memory f grades t n p place = ap (λ o. memory_of_place f grades t n (moving_memory f grades t n p) o) is in
      MovingPlace (memory_of f grades t n (Moving p)) (memory_of f grades t n (Derivative p) ∷ map (memory_of f grades t n) rest) p place places b j arms e
      (ap (λ (mem : KMem). mem.next) mem) (ap (λ (mem : KMem). mem.slope) mem) (ap (λ (mem : KMem). mem.at) mem)
      (StillMemory (memory_of f grades t n (Derivative p)) (map (memory_of f grades t n) rest) (suc p) places (place_memory_still f grades t n _ (λ place. derivative_still f grades t n (definer_of place.definers)) (slice_get f.places p)) more)
  by_definer p place places is None e rest more = StillPlace (map (memory_of f grades t n) rest) p place places (λ b a arms q. let z : None ≡ Some (Der b a arms) = sym e ∙ q in cc) more
  by_definer p place places is (Some (Input i)) e rest more = StillPlace (map (memory_of f grades t n) rest) p place places (λ b a arms q. let z : Some (Input i) ≡ Some (Der b a arms) = sym e ∙ q in cc) more
  by_definer p place places is (Some (Plain c j)) e rest more = StillPlace (map (memory_of f grades t n) rest) p place places (λ b a arms q. let z : Some (Plain c j) ≡ Some (Der b a arms) = sym e ∙ q in cc) more
  by_definer p place places is (Some (Start c j)) e rest more = StillPlace (map (memory_of f grades t n) rest) p place places (λ b a arms q. let z : Some (Start c j) ≡ Some (Der b a arms) = sym e ∙ q in cc) more

  by_last : (b : Bool) (p : ℕ) (place : PlaceInfo) (places : List PlaceInfo) → slice_get f.places p ≡ Some place → (rest : List Kept) → Motions (map (memory_of f grades t n) rest) (suc p) places → Motions (map (memory_of f grades t n) (when b (Before p) ++ (motion_memories f grades t p (definer_of place.definers) ++ rest))) p (place ∷ places)
  by_last true p place places is rest more =
      StillMemory (memory_of f grades t n (Before p)) (map (memory_of f grades t n) (motion_memories f grades t p (definer_of place.definers) ++ rest)) p (place ∷ places) (before_still p)
      (by_definer p place places is (definer_of place.definers) refl rest more)
  by_last false p place places is rest more = by_definer p place places is (definer_of place.definers) refl rest more

  of_places : (p : ℕ) (places : List PlaceInfo) → ((i : ℕ) (place : PlaceInfo) → slice_get places i ≡ Some place → (o : ℕ) → o ≡ p + i → slice_get f.places o ≡ Some place) → (tail : List Kept) → AllByRecursion (λ kept. (memory_of f grades t n kept).slope ≡ None) tail → Motions (map (memory_of f grades t n) (each (place_memories f grades t) p places ++ tail)) p places
  of_places p [] there tail stays = none_moves p tail stays
  of_places p (place ∷ places) there tail stays =
      let rest = each (place_memories f grades t) (suc p) places ++ tail in
      let more = of_places (suc p) places (λ i place is o e. there (suc i) place is o (omega arith)) tail stays in
      let one = by_last (has_last t p place) p place places (there 0 place refl p (omega arith)) rest more in
      let same : (when (has_last t p place) (Before p) ++ motion_memories f grades t p (definer_of place.definers)) ++ each (place_memories f grades t) (suc p) places ++ tail ≡ when (has_last t p place) (Before p) ++ (motion_memories f grades t p (definer_of place.definers) ++ rest) =
      append_again (when (has_last t p place) (Before p) ++ motion_memories f grades t p (definer_of place.definers)) (each (place_memories f grades t) (suc p) places) tail
      ∙ append_again (when (has_last t p place) (Before p)) (motion_memories f grades t p (definer_of place.definers)) rest in
      subst (λ ks. Motions (map (memory_of f grades t n) ks) p (place ∷ places)) (sym same) one

  -- what moves
  pub motions_are : AreMotions f grades (kernel_of f grades t n names) n.wiring (kernel_of f grades t n names).mems 0 f.places
  motions_are =
      StillMemory (memory_of f grades t n First) (map (memory_of f grades t n) (each (place_memories f grades t) 0 f.places ++ each (occ_memories f grades t) 0 f.occs)) 0 f.places refl
      (of_places 0 f.places (λ i place is o e. let same : i ≡ o = omega arith in subst (λ i. slice_get f.places i ≡ Some place) same is) (each (occ_memories f grades t) 0 f.occs) (occs_still 0 f.occs))

module _ (f : FlatForm) (grades : List ℕ) (t : Tables) (n : Numbers) (names : List (List ℕ)) (formed : IsWellFormed f) (main : IsMain f) (single : IsSingle f) (entries : HasNodeRanks f) (roles : AreRoles f t.roles) (layout : IsLayout f grades t n) where
  abbrev made : KernelForm
  made = kernel_of f grades t n names

  is_made : IsMade f grades t n (kernel_of f grades t n names)
  is_made = record {
    formed = formed;
    main = main;
    single = single;
    roles = roles;
    layout = layout;
    wires = refl;
    mems = refl;
    sites = refl;
    again = refl;
    kept = kept f grades t n names formed entries layout;
  }

  memory_there : (kept : Kept) → Has (memories f grades t) kept → slice_get (kernel_of f grades t n names).mems (n.memory kept) ≡ Some (memory_of f grades t n kept)
  memory_there kept h = slice_get-map (memory_of f grades t n) (memories f grades t) (n.memory kept) ∙ ap (λ o. option_map (memory_of f grades t n) o) (numbered_memory (memories f grades t) n.memory layout.memories kept h)

  module _ (p : ℕ) (place : PlaceInfo) (is : slice_get f.places p ≡ Some place) (b a : ℕ) (arms : List DerArm) (e : definer_of place.definers ≡ Some (Der b a arms)) where
    definer : IsDefiner f p place (Der b a arms)
    definer = all-has (IsDefiner f p place) place.definers (Der b a arms) (formed.places p place is).definers (definer_has place.definers (Der b a arms) e)

    der_key : (key : Key) → Has (definer_keys f grades t p place.call (Some (Der b a arms))) key → Has (keys f grades t) key
    der_key key h = definer_there f grades t p place key is (subst (λ d. Has (definer_keys f grades t p place.call d) key) (sym e) h)

    place_at : n.wiring.P p ≡ n.wire (Place p)
    place_at = subst (λ d. IsPlaceAt f grades t n p place.call d) e (layout.wired.places p place is)

    motion_at : n.wiring.D p ≡ n.wire (Motion p)
    motion_at = subst (λ d. IsMotionAt f grades t n p d) e (layout.wired.motions p place is definer.1)

    -- its derivative
    der_is : (slope : ℕ) → slope ≡ n.wiring.D p → IsDer f (kernel_of f grades t n names) n.wiring place a slope
    der_is slope same =
        let derivative : memory_of f grades t n (Derivative p) ≡ derivative_memory f grades t n (Some (Der b a arms)) = ap (λ o. memory_of_place f grades t n (λ place. derivative_memory f grades t n (definer_of place.definers)) o) is ∙ ap (λ d. derivative_memory f grades t n d) e in
        let called : place_call f p ≡ place.call = ap (λ o. option_and_then (λ (place : PlaceInfo). place.call) o) is in
        record {
          wire = wire_of f grades t n (Motion p);
          is = wire_there f grades t n names formed main single entries roles layout (Motion p) (der_key (Motion p) (record { index = 2; is = refl })) slope (same ∙ motion_at);
          m = n.memory (Derivative p);
          def = refl;
          free = refl;
          mem = record {
            mem = derivative_memory f grades t n (Some (Der b a arms));
            is = memory_there (Derivative p) (motion_there f grades t p place (Derivative p) is (subst (λ d. Has (motion_memories f grades t p d) (Derivative p)) (sym e) (record { index = 1; is = refl }))) ∙ ap (λ mem. Some mem) derivative;
            start_is = refl;
            next_is = refl;
            slope_is = refl;
          };
          there = (definer.2.occ, definer.2.is);
          guard = slope_guard f grades t n made is_made a definer.2.occ definer.2.is place.call (AsSlope p b arms place.call (place, is, definer_has place.definers (Der b a arms) e) called);
        }

  -- places with a `der` have different wires
  same_place : (q p : ℕ) → Has (keys f grades t) (Place q) → Has (keys f grades t) (Place p) → n.wire (Place q) ≡ n.wire (Place p) → q ≡ p
  same_place q p hq hp e =
      let at : slice_get (keys f grades t) (n.wire (Place p)) ≡ Some (Place q) = subst (λ m. slice_get (keys f grades t) m ≡ Some (Place q)) e (numbered (keys f grades t) n.wire layout.wires (Place q) hq) in
      let here = numbered (keys f grades t) n.wire layout.wires (Place p) hp in
      cc

  pub ders_are : (p : ℕ) (place : PlaceInfo) (b a m slope : ℕ) (arms : List DerArm) (start : Option Value) → slice_get f.places p ≡ Some place → definer_of place.definers ≡ Some (Der b a arms) → IsMemory (kernel_of f grades t n names) m start (n.wiring.P p) (Some slope) → (slope ≡ n.wiring.D p) × IsDer f (kernel_of f grades t n names) n.wiring place a slope
  ders_are p place b a m slope arms start is e memory =
      let from = has-map_from (memory_of f grades t n) (memories f grades t) memory.mem (record { index = m; is = memory.is }) in
      by (subst (λ mem. MemoryNaming f grades t n mem) from.2 (memory_naming f grades t n from.0 from.1))
    where
      by : MemoryNaming f grades t n memory.mem → (slope ≡ n.wiring.D p) × IsDer f (kernel_of f grades t n names) n.wiring place a slope
      by (Unmoved s) = let z : None ≡ Some slope = sym s ∙ memory.slope_is in absurd cc
      by (OfPlace q o same) =
          let next : n.wiring.P q ≡ n.wiring.P p = sym (ap (λ (mem : KMem). mem.next) same) ∙ memory.next_is in
          let moved : Some (n.wiring.D q) ≡ Some slope = sym (ap (λ (mem : KMem). mem.slope) same) ∙ memory.slope_is in
          let one : q ≡ p = same_place q p (der_key q o.place o.is o.block o.slope o.arms o.der (Place q) (record { index = 0; is = refl })) (der_key p place is b a arms e (Place p) (record { index = 0; is = refl }))
          (sym (place_at q o.place o.is o.block o.slope o.arms o.der) ∙ next ∙ place_at p place is b a arms e) in
          let slope_is : slope ≡ n.wiring.D p = let d : n.wiring.D q ≡ n.wiring.D p = ap n.wiring.D one in cc in
          (slope_is, der_is p place is b a arms e slope slope_is)
