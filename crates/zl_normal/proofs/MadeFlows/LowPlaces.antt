-- The wires of places read what stands lower, and so do those of what demands a step.
use Rattle.std.specs.Prelude.{◌≡◌, ℕ, zero, suc, ◌+◌, ◌-◌, ◌<◌, ◌≤◌, Bool, true, false, not, if◌then◌else◌, List, [], ◌∷◌, ◌++◌, drop, length, slice_get, get_or, Option, Some, None, ⊤}
use Rattle.std.specs.List.{AllByRecursion}
use Rattle.std.proofs.Common.{refl, sym, ap, ◌∙◌, arith, subst}
use Rattle.std.proofs.lemmas.Option.{slice_get_within}
use Rattle.zl_value.specs.Lists.{Has}
use Rattle.zl_value.specs.declared.value.Ty.{Ty}
use Rattle.zl_meaning.specs.FlatForm.{FlatForm}
use Rattle.zl_meaning.specs.State.{AtPlace, AtValue}
use Rattle.zl_meaning.specs.WellFormed.{Stands, IsDefiner, IsAgain, IsWellFormed}
use Rattle.zl_meaning.specs.Single.{IsSingle}
use Rattle.zl_meaning.specs.Reading.{ReadsArm, ReadsDefiner}
use Rattle.zl_meaning.specs.declared.place.Definer.{Definer}
use Rattle.zl_meaning.specs.declared.place.Definer.TheVariants.{Input, Plain, Der, Start}
use Rattle.zl_meaning.specs.declared.place.DerArm.{DerArm}
use Rattle.zl_meaning.specs.declared.place.PlaceInfo.{PlaceInfo}
use Rattle.zl_meaning.proofs.Members.{all-has, or-true}
use Rattle.zl_kernel.specs.FlowWires.{listed_in, reads}
use Rattle.zl_kernel.specs.declared.wire.Def.TheVariants.{Mem, If}
use Rattle.zl_normal.specs.Wiring.{call_guard}
use Rattle.zl_normal.specs.MainBlock.{IsMain}
use Rattle.zl_normal.specs.Evaluated.{HasGuardRanks}
use Rattle.zl_normal.specs.PlaceWires.{definer_of, start_of}
use Rattle.zl_normal.specs.Tables.{Tables, is_literal, is_computed, has_last, asks_itself}
use Rattle.zl_normal.specs.Keys.{definer_keys, arm_keys, keys}
use Rattle.zl_normal.specs.KernelOf.{Numbers, joined, plain, by_arms, before_arm, defined_wire, arms_of, taken_wire, passed_wire, chosen_wire, last_wire}
use Rattle.zl_normal.specs.Layout.{IsLayout}
use Rattle.zl_normal.specs.Roles.{AreRoles}
use Rattle.zl_normal.specs.declared.key.Key.{Key}
use Rattle.zl_normal.specs.declared.key.Key.TheVariants.{Step, Between, Passed, Chosen, Remembered, Again}
use Rattle.zl_normal.specs.declared.key.Kept.TheVariants.{Before}
use Rattle.zl_normal.proofs.Slopes.MovingPlaces.{definer_has}
use Rattle.zl_normal.proofs.MadeFlows.Placed.{step_there, definer_there, remembered_there, again_there}
use Rattle.zl_normal.proofs.MadeFlows.Roots.{plain_stands, plain_rank}
use Rattle.zl_normal.proofs.MadeFlows.Guards.{arm_there}
use Rattle.zl_normal.proofs.MadeFlows.Reads.{ArmAt, arm_at, dropped_here, dropped_next, arm_here, before_here, joint_there, start_has, dropped_has}
use Rattle.zl_normal.proofs.MadeFlows.AllReads.{arm_stands}
use Rattle.zl_normal.proofs.MadeFlows.Levels.{width, again_width, arms_width, level, climb_even, below_highest, der_arms, event_rank, start_rank, top, below_top, key_rank}
use Rattle.zl_normal.proofs.MadeFlows.LowRoots.{R as rank_of, last_low, value_low, place_reads, place_starts}
use Rattle.zl_normal.proofs.MadeFlows.LowGuards.{key_rank_is, arm_rank, taken_low, called_low}
use Rattle.zl_normal.proofs.MadeFlows.LowReads.{all_reads, value as value_at, fresh as fresh_at, joined_reads}

module _ (f : FlatForm) (grades : List ℕ) (t : Tables) (n : Numbers) (formed : IsWellFormed f) (main : IsMain f) (single : IsSingle f) (ranks : HasGuardRanks f) (roles : AreRoles f t.roles) (layout : IsLayout f grades t n) where
  abbrev R : ℕ → ℕ
  R m = rank_of f grades t n formed ranks.entries layout m

  abbrev V : ℕ → ℕ
  V j = ranks.entries.rank (AtValue j)

  abbrev P : ℕ → ℕ
  P p = ranks.entries.rank (AtPlace p)

  abbrev AllBelow : ℕ → List ℕ → Type 0
  AllBelow b ms = AllByRecursion (λ m. rank_of f grades t n formed ranks.entries layout m < b) ms

  key_is : (key : Key) → Has (keys f grades t) key → (m : ℕ) → m ≡ n.wire key → R m ≡ key_rank f ranks.entries key
  key_is key h m e = key_rank_is f grades t n formed main single ranks roles layout key h m e

  step : R n.wiring.step ≡ 0
  step = key_is Step (step_there f grades t) n.wiring.step layout.wired.step

  value : (c : ℕ) (ty : Ty) (j : ℕ) → Stands f c ty j → (b : ℕ) → V j < b → R (n.wiring.w j) + 1 ≤ level f b
  value c ty j s b l = value_at f grades t n formed main single ranks roles layout j s.occ s.is b l

  under_call : (p : ℕ) (place : PlaceInfo) → slice_get f.places p ≡ Some place → (ms : List ℕ) → AllBelow (level f (P p) + width f + 1) ms → AllBelow (level f (P p) + width f + 1) (listed_in (call_guard n.wiring place.call) ++ ms)
  under_call p place is ms all =
      all_reads f grades t n formed main single ranks roles layout (level f (P p)) (level f (P p) + width f + 1) (omega arith) (call_guard n.wiring place.call) ms
      (called_low f grades t n formed main single ranks roles layout place.block place.call (formed.places p place is).call (P p) (place_reads f grades t n formed ranks.entries layout p place is).1) all

  place_last : (p : ℕ) (place : PlaceInfo) → slice_get f.places p ≡ Some place → asks_itself (definer_of place.definers) ≡ true → R (n.wiring.L p) ≤ level f (P p)
  place_last p place is asks =
      last_low f grades t n formed ranks.entries layout p place is (or-true (get_or t.lasts p false) (asks_itself (definer_of place.definers)) asks) (P p) (place_starts f grades t n formed ranks.entries layout p place is)

  arm_key : (p i : ℕ) (place : PlaceInfo) → slice_get f.places p ≡ Some place → (arm : DerArm) → ArmAt i place arm → (key : Key) → Has (arm_keys f grades t p i arm) key → R (n.wire key) ≡ key_rank f ranks.entries key
  arm_key p i place is arm a key h = key_is key (arm_there f grades t n formed main single ranks.entries roles layout p place is a.block a.slope a.arms a.der i arm a.at key h) (n.wire key) refl

  arms_read : (p : ℕ) (place : PlaceInfo) → slice_get f.places p ≡ Some place → (b slope : ℕ) (arms : List DerArm) → definer_of place.definers ≡ Some (Der b slope arms) → AllByRecursion (ReadsArm (λ a. ranks.entries.rank a < ranks.entries.rank (AtPlace p))) arms
  arms_read p place is b slope arms e =
      (all-has (ReadsDefiner (λ a. ranks.entries.rank a < ranks.entries.rank (AtPlace p)) (λ a. ⊤) p) place.definers (Der b slope arms) (place_reads f grades t n formed ranks.entries layout p place is).2 (definer_has place.definers (Der b slope arms) e)).3

  events_read : (b : ℕ) (arms : List DerArm) → AllByRecursion (ReadsArm (λ a. ranks.entries.rank a < b)) arms → AllByRecursion (λ (arm : DerArm). ranks.entries.rank (AtValue arm.event) < b) arms
  events_read b [] all = tt
  events_read b (arm ∷ arms) all = (all.0.0, events_read b arms all.1)

  arm_inside : (p i : ℕ) (place : PlaceInfo) → slice_get f.places p ≡ Some place → (arm : DerArm) → ArmAt i place arm → i < width f
  arm_inside p i place is arm a =
      let inside = slice_get_within a.arms i arm a.at in
      let wide : length (der_arms (definer_of place.definers)) ≤ width f = arms_width f p place is in
      let count : length (der_arms (definer_of place.definers)) ≡ length a.arms = ap (λ d. length (der_arms d)) a.der in
      omega (arith, inside, wide, count)

  abbrev E : ℕ → ℕ
  E p = event_rank f ranks.entries (slice_get f.places p)

  event_low : (p i : ℕ) (place : PlaceInfo) → slice_get f.places p ≡ Some place → (arm : DerArm) → ArmAt i place arm → R (n.wiring.w arm.event) ≤ level f (E p) + width f
  event_low p i place is arm a =
      let s = (arm_stands f grades t n formed main single ranks.entries roles layout p i place is arm a).0 in
      let v = value_low f grades t n formed ranks.entries layout arm.event s.occ s.is in
      let h = below_highest (λ j. ranks.entries.rank (AtValue j)) a.arms i arm a.at in
      let same = arm_rank f grades t n formed main single ranks roles layout p place is a.block a.slope a.arms a.der in
      let up = climb_even f (V arm.event) (E p) (omega (arith, h, same)) in
      omega (arith, v, up)

  before_low : (p i : ℕ) (place : PlaceInfo) → slice_get f.places p ≡ Some place → (arm : DerArm) → ArmAt i place arm → R (before_arm f grades t n p i) < level f (E p) + width f + 1 + i
  before_low p zero place is arm a = let s = step in omega (arith, s)
  before_low p (suc i) place is arm a =
      let b = before_here a.arms i arm a.at in
      let k = arm_key p i place is b.0 (record { block = a.block; slope = a.slope; arms = a.arms; der = a.der; at = b.1 }) (Passed p i) (record { index = 1; is = refl }) in
      omega (arith, k)

  by_arms_low : (p i : ℕ) (place : PlaceInfo) → slice_get f.places p ≡ Some place → (b slope : ℕ) (arms : List DerArm) → definer_of place.definers ≡ Some (Der b slope arms) → (rest : List DerArm) → drop i arms ≡ rest → R (by_arms f grades t n p i rest) ≤ level f (P p) + (width f - i)
  by_arms_low p i place is b slope arms e [] q = let l = place_last p place is (ap (λ d. asks_itself d) e) in omega (arith, l)
  by_arms_low p i place is b slope arms e (arm ∷ rest) q =
      let k = arm_key p i place is arm (record { block = b; slope = slope; arms = arms; der = e; at = arm_here arms i arm rest q }) (Chosen p i) (record { index = 2; is = refl }) in
      omega (arith, k)

  pub defined_reads : (p : ℕ) (place : PlaceInfo) → slice_get f.places p ≡ Some place → (d : Option Definer) → definer_of place.definers ≡ d → AllBelow (level f (ranks.entries.rank (AtPlace p)) + width f + 1) (reads (defined_wire f grades t n p place d))
  defined_reads p place is None e = let l = place_last p place is (ap (λ d. asks_itself d) e) in under_call p place is (n.wiring.L p ∷ []) (omega (arith, l), tt)
  defined_reads p place is (Some (Input i)) e = under_call p place is [] tt
  defined_reads p place is (Some (Plain b j)) e =
      let v = value b place.ty j (plain_stands f grades t n formed ranks.entries layout p place is b j e) (P p) (plain_rank f grades t n formed ranks.entries layout p place is b j e) in
      under_call p place is (n.wiring.w j ∷ []) (omega (arith, v), tt)
  defined_reads p place is (Some (Der b j arms)) e =
      let between = definer_there f grades t p place (Between p) is (subst (λ d. Has (definer_keys f grades t p place.call d) (Between p)) (sym e) (record { index = 1; is = refl })) in
      let k = key_is (Between p) between (n.wire (Between p)) refl in
      let s = step in
      let a = by_arms_low p 0 place is b j arms e arms refl in
      under_call p place is (n.wiring.step ∷ by_arms f grades t n p 0 arms ∷ n.wire (Between p) ∷ []) (omega (arith, s), (omega (arith, a), (omega (arith, k), tt)))
  defined_reads p place is (Some (Start b j)) e = tt

  pub taken_reads : (p i : ℕ) (place : PlaceInfo) → slice_get f.places p ≡ Some place → (arms : List DerArm) → drop i (arms_of f grades t n (definer_of place.definers)) ≡ arms → AllBelow (level f (event_rank f ranks.entries (slice_get f.places p)) + width f + 1 + i) (reads (taken_wire f grades t n p i arms))
  taken_reads p i place is [] q = tt
  taken_reads p i place is (arm ∷ rest) q =
      let a = arm_at f grades t n i place (definer_of place.definers) refl arm rest q in
      let v = event_low p i place is arm a in
      (before_low p i place is arm a, (omega (arith, v), tt))

  pub passed_reads : (p i : ℕ) (place : PlaceInfo) → slice_get f.places p ≡ Some place → (arms : List DerArm) → drop i (arms_of f grades t n (definer_of place.definers)) ≡ arms → AllBelow (level f (event_rank f ranks.entries (slice_get f.places p)) + width f + 1 + i) (reads (passed_wire f grades t n p i arms))
  passed_reads p i place is [] q = tt
  passed_reads p i place is (arm ∷ rest) q =
      let a = arm_at f grades t n i place (definer_of place.definers) refl arm rest q in
      let v = event_low p i place is arm a in
      (before_low p i place is arm a, (omega (arith, v), tt))

  pub chosen_reads : (p i : ℕ) (place : PlaceInfo) → slice_get f.places p ≡ Some place → (arms : List DerArm) → drop i (arms_of f grades t n (definer_of place.definers)) ≡ arms → AllBelow (level f (ranks.entries.rank (AtPlace p)) + (width f - i)) (reads (chosen_wire f grades t n p i arms))
  chosen_reads p i place is [] q = tt
  chosen_reads p i place is (arm ∷ rest) q =
      let a = arm_at f grades t n i place (definer_of place.definers) refl arm rest q in
      let later : drop i a.arms ≡ arm ∷ rest = sym (ap (λ d. drop i (arms_of f grades t n d)) a.der) ∙ q in
      let reads_arms = arms_read p place is a.block a.slope a.arms a.der in
      let tk = taken_low f grades t n formed main single ranks roles layout p place is a.block a.slope a.arms a.der i arm a.at (P p) (events_read (P p) a.arms reads_arms) in
      let v = value _ _ arm.value (arm_stands f grades t n formed main single ranks.entries roles layout p i place is arm a).1 (P p) (all-has (ReadsArm (λ a. ranks.entries.rank a < ranks.entries.rank (AtPlace p))) a.arms arm reads_arms (record { index = i; is = a.at })).1 in
      let b = by_arms_low p (suc i) place is a.block a.slope a.arms a.der rest (dropped_next a.arms i arm rest later) in
      let inside = arm_inside p i place is arm a in
      (omega (arith, tk), (omega (arith, v), (omega (arith, b, inside), tt)))

  pub last_reads : (p : ℕ) (place : PlaceInfo) → slice_get f.places p ≡ Some place → has_last t p place ≡ true → (s : Option ℕ) → start_of place.definers ≡ s → AllBelow (start_rank f ranks.entries s) (reads (last_wire f grades t n p place s))
  last_reads p place is own None e = tt
  last_reads p place is own (Some j) e = by (is_literal f j) refl
    where
      by : (b : Bool) → is_literal f j ≡ b → AllBelow (level f (V j) + width f + 1) (reads (if b then plain place.ty (Mem (n.memory (Before p))) None else plain place.ty (If n.wiring.fresh (n.wiring.w j) (n.wire (Remembered p))) None))
      by true q = tt
      by false q =
          let h = start_has place.definers j e in
          let s : IsDefiner f p place (Start h.0 j) = all-has (IsDefiner f p place) place.definers (Start h.0 j) (formed.places p place is).definers h.1 in
          let v = value_low f grades t n formed ranks.entries layout j s.1.occ s.1.is in
          let computed : is_computed f (start_of place.definers) ≡ true = ap (λ s. is_computed f s) e ∙ ap (λ b. not b) q in
          let r = key_is (Remembered p) (remembered_there f grades t p place is own computed) (n.wire (Remembered p)) refl in
          (fresh_at f grades t n formed main single ranks roles layout (level f (V j) + width f + 1) (omega arith), (omega (arith, v), (omega (arith, r), tt)))

  pub again_reads : (i : ℕ) → AllBelow (level f (suc (top f ranks.entries)) + (width f - i)) (reads (joined n.wiring.w (n.wire (Again (suc i))) (drop i f.again)))
  again_reads i =
      joined_reads f grades t n formed main single ranks roles layout (level f (suc (top f ranks.entries)) + (width f - i)) (n.wire (Again (suc i))) (drop i f.again)
      (λ u h.
      let a = all-has (IsAgain f) f.again u formed.again (dropped_has f grades t n formed main single ranks.entries roles layout f.again i u h) in
      let low = below_top f ranks.entries u a.occ a.is in
      let v = value_at f grades t n formed main single ranks roles layout u a.occ a.is (suc (top f ranks.entries)) (omega (arith, low)) in
      omega (arith, v))
      (λ u v x us q.
      let next = dropped_next f.again i u (v ∷ x ∷ us) q in
      let r = key_is (Again (suc i)) (again_there f grades t (Again (suc i)) (joint_there Again 0 f.again (suc i) v x us next (suc i) (omega arith))) (n.wire (Again (suc i))) refl in
      let inside = slice_get_within f.again (suc i) v (dropped_here f.again (suc i) v (x ∷ us) next) in
      let wide = again_width f in
      omega (arith, r, inside, wide))
