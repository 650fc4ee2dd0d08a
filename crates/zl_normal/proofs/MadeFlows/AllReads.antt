-- In the kernel that is made of a form all wires but those of slopes read what is solved at instants: wires of places, and all.
use Rattle.std.specs.Prelude.{◌≡◌, ℕ, zero, suc, Bool, true, false, not, if◌then◌else◌, List, [], ◌∷◌, ◌++◌, drop, slice_get, get_or, Option, Some, None}
use Rattle.std.specs.List.{AllByRecursion}
use Rattle.std.proofs.Common.{refl, sym, ap, ◌∙◌, arith, subst}
use Rattle.zl_value.specs.Lists.{Has}
use Rattle.zl_value.specs.declared.value.Ty.{Ty}
use Rattle.zl_meaning.specs.FlatForm.{FlatForm}
use Rattle.zl_meaning.specs.WellFormed.{Stands, IsDefiner, IsResetArm, IsAgain, IsWellFormed}
use Rattle.zl_meaning.specs.Single.{IsSingle}
use Rattle.zl_meaning.specs.Reading.{HasNodeRanks}
use Rattle.zl_meaning.specs.declared.place.Definer.{Definer}
use Rattle.zl_meaning.specs.declared.place.Definer.TheVariants.{Input, Plain, Der, Start}
use Rattle.zl_meaning.specs.declared.place.DerArm.{DerArm}
use Rattle.zl_meaning.specs.declared.place.PlaceInfo.{PlaceInfo}
use Rattle.zl_meaning.proofs.Members.{all-has, or-true}
use Rattle.zl_kernel.specs.FlowWires.{listed_in, reads}
use Rattle.zl_kernel.specs.declared.wire.Def.TheVariants.{Mem, If}
use Rattle.zl_kernel.specs.declared.wire.Wire.{Wire}
use Rattle.zl_normal.specs.Wiring.{call_guard}
use Rattle.zl_normal.specs.PlaceWires.{definer_of, start_of}
use Rattle.zl_normal.specs.MainBlock.{IsMain}
use Rattle.zl_normal.specs.Tables.{Tables, is_literal, is_computed, has_last, asks_itself}
use Rattle.zl_normal.specs.Keys.{definer_keys, arm_keys, keys}
use Rattle.zl_normal.specs.KernelOf.{Numbers, joined, plain, by_arms, before_arm, defined_wire, arms_of, taken_wire, passed_wire, chosen_wire, last_wire, wire_of}
use Rattle.zl_normal.specs.Layout.{IsLayout}
use Rattle.zl_normal.specs.Roles.{AreRoles}
use Rattle.zl_normal.specs.declared.key.Key.{Key}
use Rattle.zl_normal.specs.declared.key.Key.TheVariants.{Step, Fresh, No, Zero, Value, Rest, Next, Other, Guard, Place, Between, Taken, Passed, Chosen, Last, Remembered, Again, Present, Slope, Motion}
use Rattle.zl_normal.specs.declared.key.Kept.TheVariants.{Before}
use Rattle.zl_normal.proofs.Slopes.MovingPlaces.{definer_has}
use Rattle.zl_normal.proofs.MadeFlows.Placed.{at_instants, StandsFor, definer_there, remembered_there, again_there}
use Rattle.zl_normal.proofs.MadeFlows.Roots.{last_solved, plain_stands}
use Rattle.zl_normal.proofs.MadeFlows.Owners.{OfSloped, of_sloped, OfLast, of_last}
use Rattle.zl_normal.proofs.MadeFlows.Named.{occ_case, place_case, place_is}
use Rattle.zl_normal.proofs.MadeFlows.Guards.{arm_there, called_solved}
use Rattle.zl_normal.proofs.MadeFlows.Reads.{ArmAt, arm_at, dropped_next, arm_here, before_here, joint_there, start_has, all_reads as all_reads_at, value as value_at, key_solved as key_solved_at, step as step_at, fresh as fresh_at, value_reads, joined_reads, rest_reads, next_reads, other_reads, guard_reads, dropped_has}

module _ (f : FlatForm) (grades : List ℕ) (t : Tables) (n : Numbers) (formed : IsWellFormed f) (main : IsMain f) (single : IsSingle f) (entries : HasNodeRanks f) (roles : AreRoles f t.roles) (layout : IsLayout f grades t n) where
  abbrev Solved : ℕ → Type 0
  Solved m = StandsFor at_instants (keys f grades t) m

  abbrev ReadsSolved : Wire → Type 0
  ReadsSolved wire = AllByRecursion Solved (reads wire)

  key_solved : (key : Key) → Has (keys f grades t) key → at_instants key ≡ true → Solved (n.wire key)
  key_solved key h e = key_solved_at f grades t n formed main single entries roles layout key h e

  step : Solved n.wiring.step
  step = step_at f grades t n formed main single entries roles layout

  fresh : Solved n.wiring.fresh
  fresh = fresh_at f grades t n formed main single entries roles layout

  value : (b : ℕ) (ty : Ty) (j : ℕ) → Stands f b ty j → Solved (n.wiring.w j)
  value b ty j s = value_at f grades t n formed main single entries roles layout j s.occ s.is

  -- the wires of a place
  under_call : (p : ℕ) (place : PlaceInfo) → slice_get f.places p ≡ Some place → (ms : List ℕ) → AllByRecursion Solved ms → AllByRecursion Solved (listed_in (call_guard n.wiring place.call) ++ ms)
  under_call p place is ms all =
      all_reads_at f grades t n formed main single entries roles layout (call_guard n.wiring place.call) ms (called_solved f grades t n formed main single entries roles layout place.block place.call (formed.places p place is).call) all

  place_last : (p : ℕ) (place : PlaceInfo) → slice_get f.places p ≡ Some place → asks_itself (definer_of place.definers) ≡ true → Solved (n.wiring.L p)
  place_last p place is asks = last_solved f grades t n formed entries layout p place is (or-true (get_or t.lasts p false) (asks_itself (definer_of place.definers)) asks)

  arm_key : (p i : ℕ) (place : PlaceInfo) → slice_get f.places p ≡ Some place → (arm : DerArm) → ArmAt i place arm → (key : Key) → Has (arm_keys f grades t p i arm) key → at_instants key ≡ true → Solved (n.wire key)
  arm_key p i place is arm a key h e = key_solved key (arm_there f grades t n formed main single entries roles layout p place is a.block a.slope a.arms a.der i arm a.at key h) e

  pub arm_stands : (p i : ℕ) (place : PlaceInfo) → slice_get f.places p ≡ Some place → (arm : DerArm) → (a : ArmAt i place arm) → IsResetArm f a.block arm
  arm_stands p i place is arm a =
      let d : IsDefiner f p place (Der a.block a.slope a.arms) = all-has (IsDefiner f p place) place.definers (Der a.block a.slope a.arms) (formed.places p place is).definers (definer_has place.definers (Der a.block a.slope a.arms) a.der) in
      all-has (IsResetArm f a.block) a.arms arm d.3 (record { index = i; is = a.at })

  before_solved : (p i : ℕ) (place : PlaceInfo) → slice_get f.places p ≡ Some place → (arm : DerArm) → ArmAt i place arm → Solved (before_arm f grades t n p i)
  before_solved p zero place is arm a = step
  before_solved p (suc i) place is arm a =
      let b = before_here a.arms i arm a.at in
      arm_key p i place is b.0 (record { block = a.block; slope = a.slope; arms = a.arms; der = a.der; at = b.1 }) (Passed p i) (record { index = 1; is = refl }) refl

  asks_der : (d : Option Definer) (b slope : ℕ) (arms : List DerArm) → d ≡ Some (Der b slope arms) → asks_itself d ≡ true
  asks_der d b slope arms e = ap (λ d. asks_itself d) e

  by_arms_solved : (p i : ℕ) (place : PlaceInfo) → slice_get f.places p ≡ Some place → (b slope : ℕ) (arms : List DerArm) → definer_of place.definers ≡ Some (Der b slope arms) → (rest : List DerArm) → drop i arms ≡ rest → Solved (by_arms f grades t n p i rest)
  by_arms_solved p i place is b slope arms e [] q = place_last p place is (asks_der _ b slope arms e)
  by_arms_solved p i place is b slope arms e (arm ∷ rest) q =
      arm_key p i place is arm (record { block = b; slope = slope; arms = arms; der = e; at = arm_here arms i arm rest q }) (Chosen p i) (record { index = 2; is = refl }) refl

  defined_reads : (p : ℕ) (place : PlaceInfo) → slice_get f.places p ≡ Some place → (d : Option Definer) → definer_of place.definers ≡ d → ReadsSolved (defined_wire f grades t n p place d)
  defined_reads p place is None e = under_call p place is (n.wiring.L p ∷ []) (place_last p place is (ap (λ d. asks_itself d) e), tt)
  defined_reads p place is (Some (Input i)) e = under_call p place is [] tt
  defined_reads p place is (Some (Plain b j)) e = under_call p place is (n.wiring.w j ∷ []) (value b place.ty j (plain_stands f grades t n formed entries layout p place is b j e), tt)
  defined_reads p place is (Some (Der b j arms)) e =
      let between = definer_there f grades t p place (Between p) is (subst (λ d. Has (definer_keys f grades t p place.call d) (Between p)) (sym e) (record { index = 1; is = refl })) in
      under_call p place is (n.wiring.step ∷ by_arms f grades t n p 0 arms ∷ n.wire (Between p) ∷ []) (step, (by_arms_solved p 0 place is b j arms e arms refl, (key_solved (Between p) between refl, tt)))
  defined_reads p place is (Some (Start b j)) e = tt

  taken_reads : (p i : ℕ) (place : PlaceInfo) → slice_get f.places p ≡ Some place → (arms : List DerArm) → drop i (arms_of f grades t n (definer_of place.definers)) ≡ arms → ReadsSolved (taken_wire f grades t n p i arms)
  taken_reads p i place is [] q = tt
  taken_reads p i place is (arm ∷ rest) q =
      let a = arm_at f grades t n i place (definer_of place.definers) refl arm rest q in
      (before_solved p i place is arm a, (value _ _ arm.event (arm_stands p i place is arm a).0, tt))

  passed_reads : (p i : ℕ) (place : PlaceInfo) → slice_get f.places p ≡ Some place → (arms : List DerArm) → drop i (arms_of f grades t n (definer_of place.definers)) ≡ arms → ReadsSolved (passed_wire f grades t n p i arms)
  passed_reads p i place is [] q = tt
  passed_reads p i place is (arm ∷ rest) q =
      let a = arm_at f grades t n i place (definer_of place.definers) refl arm rest q in
      (before_solved p i place is arm a, (value _ _ arm.event (arm_stands p i place is arm a).0, tt))

  chosen_reads : (p i : ℕ) (place : PlaceInfo) → slice_get f.places p ≡ Some place → (arms : List DerArm) → drop i (arms_of f grades t n (definer_of place.definers)) ≡ arms → ReadsSolved (chosen_wire f grades t n p i arms)
  chosen_reads p i place is [] q = tt
  chosen_reads p i place is (arm ∷ rest) q =
      let a = arm_at f grades t n i place (definer_of place.definers) refl arm rest q in
      let q' : drop i a.arms ≡ arm ∷ rest = sym (ap (λ d. drop i (arms_of f grades t n d)) a.der) ∙ q in (
        arm_key p i place is arm a (Taken p i) (record { index = 0; is = refl }) refl,
        (value _ _ arm.value (arm_stands p i place is arm a).1, (by_arms_solved p (suc i) place is a.block a.slope a.arms a.der rest (dropped_next a.arms i arm rest q'), tt)),
      )

  last_reads : (p : ℕ) (place : PlaceInfo) → slice_get f.places p ≡ Some place → has_last t p place ≡ true → (s : Option ℕ) → start_of place.definers ≡ s → ReadsSolved (last_wire f grades t n p place s)
  last_reads p place is own None e = tt
  last_reads p place is own (Some j) e = by (is_literal f j) refl
    where
      by : (b : Bool) → is_literal f j ≡ b → ReadsSolved (if b then plain place.ty (Mem (n.memory (Before p))) None else plain place.ty (If n.wiring.fresh (n.wiring.w j) (n.wire (Remembered p))) None)
      by true q = tt
      by false q =
          let h = start_has place.definers j e in
          let s : IsDefiner f p place (Start h.0 j) = all-has (IsDefiner f p place) place.definers (Start h.0 j) (formed.places p place is).definers h.1 in
          let computed : is_computed f (start_of place.definers) ≡ true = ap (λ s. is_computed f s) e ∙ ap (λ b. not b) q in
          (fresh, (value _ _ j s.1, (key_solved (Remembered p) (remembered_there f grades t p place is own computed) refl, tt)))

  again_reads : (i : ℕ) → ReadsSolved (joined n.wiring.w (n.wire (Again (suc i))) (drop i f.again))
  again_reads i =
      joined_reads f grades t n formed main single entries roles layout (n.wire (Again (suc i))) (drop i f.again)
      (λ u h. let a = all-has (IsAgain f) f.again u formed.again (dropped_has f grades t n formed main single entries roles layout f.again i u h) in value_at f grades t n formed main single entries roles layout u a.occ a.is)
      (λ u v x us q.
      key_solved (Again (suc i)) (again_there f grades t (Again (suc i)) (joint_there Again 0 f.again (suc i) v x us (dropped_next f.again i u (v ∷ x ∷ us) q) (suc i) (omega arith))) refl)

  -- all that is no slope
  pub all_read : (key : Key) → Has (keys f grades t) key → ((j : ℕ) → key ≡ Slope j → ⊥) → AllByRecursion (StandsFor at_instants (keys f grades t)) (reads (wire_of f grades t n key))
  all_read Step h other = tt
  all_read Fresh h other = tt
  all_read No h other = tt
  all_read Zero h other = tt
  all_read (Value j) h other = occ_case f grades t n ReadsSolved _ j tt (λ occ is. value_reads f grades t n formed main single entries roles layout j occ is occ.form (formed.occs j occ is).form)
  all_read (Rest j i) h other = occ_case f grades t n ReadsSolved _ j tt (λ occ is. rest_reads f grades t n formed main single entries roles layout j i occ is occ.form refl (formed.occs j occ is).form)
  all_read (Next j) h other = occ_case f grades t n ReadsSolved _ j tt (λ occ is. next_reads f grades t n formed main single entries roles layout occ occ.form (formed.occs j occ is).form occ.ty)
  all_read (Other j) h other = other_reads f grades t n formed main single entries roles layout j (slice_get t.roles j) refl
  all_read (Guard j) h other = guard_reads f grades t n formed main single entries roles layout j (slice_get t.roles j) refl
  all_read (Place p) h other = place_case f grades t n ReadsSolved _ p tt (λ place is. defined_reads p place is (definer_of place.definers) refl)
  all_read (Between p) h other = tt
  all_read (Taken p i) h other = place_case f grades t n ReadsSolved _ p tt (λ place is. taken_reads p i place is _ refl)
  all_read (Passed p i) h other = place_case f grades t n ReadsSolved _ p tt (λ place is. passed_reads p i place is _ refl)
  all_read (Chosen p i) h other = place_case f grades t n ReadsSolved _ p tt (λ place is. chosen_reads p i place is _ refl)
  all_read (Last p) h other =
      let o : OfLast f grades t p = of_last f grades t p h in
      let it : ReadsSolved (last_wire f grades t n p o.place (start_of o.place.definers)) = last_reads p o.place o.is o.own (start_of o.place.definers) refl in
      subst (λ wire. ReadsSolved wire) (sym (place_is f grades t n _ p o.place o.is)) it
  all_read (Remembered p) h other = place_case f grades t n ReadsSolved _ p tt (λ place is. tt)
  all_read (Again i) h other = again_reads i
  all_read (Present j) h other =
      let o : OfSloped f grades t j (Present j) = of_sloped f grades t (Present j) j h refl in
      let s = value_at f grades t n formed main single entries roles layout j o.occ o.is in
      (s, (s, tt))
  all_read (Slope j) h other = absurd (other j refl)
  all_read (Motion p) h other = tt
