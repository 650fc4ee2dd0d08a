-- What occurrences read, and what decides whether they are evaluated, as lists.
use Rattle.std.specs.Prelude.{◌≡◌, ℕ, zero, suc, ◌+◌, ◌<◌, ◌≤◌, Bool, List, [], ◌∷◌, ◌++◌, length, slice_get, Option, Some, None}
use Rattle.std.specs.List.{AllByRecursion, flat_map}
use Rattle.std.specs.Option.{option_and_then}
use Rattle.std.proofs.Common.{refl, sym, subst, ⊎_elim, arith}
use Rattle.std.proofs.lemmas.Option.{slice_get_within}
use Rattle.zl_value.specs.Lists.{Has}
use Rattle.zl_meaning.specs.FlatForm.{FlatForm, HasForm, call_of}
use Rattle.zl_meaning.specs.Uses.{Use, PartOf, BranchOf, DefinerOf, SlopeOf, EventOf, StartOf, ResetOf, TestOf, ArgumentOf, AgainOf, IsUse, AsPart, AsBranch, AsDefiner, AsSlope, AsEvent, AsStart, AsReset, AsTest, AsArgument, AsAgain, events_of, uses_of}
use Rattle.zl_meaning.specs.Branches.{IsPart, Under, Is, Part, Called}
use Rattle.zl_meaning.specs.WellFormed.{IsWellFormed, IsCalled}
use Rattle.zl_meaning.specs.Depends.{Thing, PlaceThing, BlockThing, OccReads, Name, LastOf, LastBlock, Part as ReadsPart}
use Rattle.zl_meaning.specs.declared.place.Definer.{Definer}
use Rattle.zl_meaning.specs.declared.place.Definer.TheVariants.{Input, Plain, Der, Start}
use Rattle.zl_meaning.specs.declared.place.PlaceInfo.{PlaceInfo}
use Rattle.zl_meaning.specs.declared.occurrence.Form.{Form}
use Rattle.zl_meaning.specs.declared.occurrence.Form.TheVariants.{Lit, Read, Last, Op as Apply, If, Arrow, Pre, Result, Up, Fired, Step}
use Rattle.zl_meaning.specs.declared.occurrence.Occ.{Occ}
use Rattle.zl_meaning.proofs.Greatest.{most_below, below-most}
use Rattle.zl_meaning.proofs.LevelLists.{each}
use Rattle.zl_meaning.proofs.LevelTurns.{IsDecidedBy, ByCondition, ByEvent}
use Rattle.zl_meaning.proofs.Members.{all-append, all-flat_map, all-map, has-left, has-right, has-later, has-flat_map}
use Rattle.zl_meaning.proofs.Standing.{part-of-form, steady-part, branch-part, part-used}
use Rattle.zl_meaning.proofs.UseCases.{use-of-listed, listed-of-use}
use Rattle.zl_meaning.proofs.ValueOrder.{Needs, OfPart, OfStart, made_of, needs-made, made-needs, has-form}

-- the block of an `init` value
abbrev start_block : Definer → List Thing
start_block (Input n) = []
start_block (Plain b j) = []
start_block (Der b slope arms) = []
start_block (Start b j) = BlockThing b ∷ []

abbrev start_blocks : Option PlaceInfo → List Thing
start_blocks None = []
start_blocks (Some x) = flat_map start_block x.definers

module _ (f : FlatForm) where
  -- what an occurrence of this form reads beside what it is made of
  abbrev own_reads : Form → List Thing
  own_reads (Read p) = PlaceThing p ∷ []
  own_reads (Last p) = start_blocks (slice_get f.places p)
  own_reads form = []

  abbrev reads_by : (ℕ → List Thing) → Option Occ → List Thing
  reads_by below None = []
  reads_by below (Some occ) = own_reads occ.form ++ flat_map below (made_of f occ.form)

  -- what occurrence number `k` reads, in at most `n` steps
  abbrev pub reads : ℕ → ℕ → List Thing
  reads zero k = []
  reads (suc n) k = reads_by (reads n) (slice_get f.occs k)

  onward : (k j : ℕ) → Needs f k j → (thing : Thing) → OccReads f j thing → OccReads f k thing
  onward k j (OfPart form there h) thing r = ReadsPart k j form thing there h r
  onward k j (OfStart p b there has) thing r = LastOf k p b j thing there has r

  own-sound : (k : ℕ) (form : Form) → HasForm f k form → AllByRecursion (OccReads f k) (own_reads form)
  own-sound k (Read p) there = (Name k p there, tt)
  own-sound k (Last p) there = by_place (slice_get f.places p) refl
    where
      by_definer : (x : PlaceInfo) → slice_get f.places p ≡ Some x → (d : Definer) → Has x.definers d → AllByRecursion (OccReads f k) (start_block d)
      by_definer x is (Start b j) h = (LastBlock k p b j there (x, is, h), tt)
      by_definer x is (Input n) h = tt
      by_definer x is (Plain b j) h = tt
      by_definer x is (Der b slope arms) h = tt

      by_place : (x : Option PlaceInfo) → slice_get f.places p ≡ x → AllByRecursion (OccReads f k) (start_blocks x)
      by_place None is = tt
      by_place (Some x) is = all-flat_map (OccReads f k) start_block x.definers (each (λ d. AllByRecursion (OccReads f k) (start_block d)) x.definers (by_definer x is))
  own-sound k (Lit x) there = tt
  own-sound k (Apply op ks) there = tt
  own-sound k (If c x y) there = tt
  own-sound k (Arrow x y) there = tt
  own-sound k (Pre x) there = tt
  own-sound k (Result x) there = tt
  own-sound k (Up site) there = tt
  own-sound k (Fired ks) there = tt
  own-sound k Step there = tt

  -- all that is listed is read
  pub reads-sound : (n k : ℕ) → AllByRecursion (OccReads f k) (reads n k)
  reads-sound zero k = tt
  reads-sound (suc n) k = by_occ (slice_get f.occs k) refl (reads-sound n)
    where
      by_occ : (o : Option Occ) → slice_get f.occs k ≡ o → ((j : ℕ) → AllByRecursion (OccReads f j) (reads n j)) → AllByRecursion (OccReads f k) (reads_by (reads n) o)
      by_occ None is below = tt
      by_occ (Some occ) is below =
          all-append (OccReads f k) (own_reads occ.form) (flat_map (reads n) (made_of f occ.form)) (own-sound k occ.form (occ, is, refl))
          (all-flat_map (OccReads f k) (reads n) (made_of f occ.form) (each (λ j. AllByRecursion (OccReads f k) (reads n j)) (made_of f occ.form)
          (λ j h. all-map (OccReads f j) (OccReads f k) (onward k j (needs-made f k j occ is h)) (reads n j) (below j))))

  own-in : (n k : ℕ) (form : Form) (thing : Thing) → HasForm f k form → Has (own_reads form) thing → Has (reads (suc n) k) thing
  own-in n k form thing there h =
      subst (λ o. Has (reads_by (reads n) o) thing) (sym there.1)
      (has-left (own_reads there.0.form) (flat_map (reads n) (made_of f there.0.form)) thing (subst (λ x. Has (own_reads x) thing) (sym there.2) h))

  made-in : (n k j : ℕ) (thing : Thing) → Needs f k j → Has (reads n j) thing → Has (reads (suc n) k) thing
  made-in n k j thing needs h =
      let o = has-form f k j needs in
      subst (λ x. Has (reads_by (reads n) x) thing) (sym o.1)
      (has-right (own_reads o.0.form) (flat_map (reads n) (made_of f o.0.form)) thing (has-flat_map (reads n) (made_of f o.0.form) j thing (made-needs f k j o.0 o.1 needs) h))

  -- and all that is read is listed, where the steps are at most as many as an order of the values says
  module _ (order : ℕ → ℕ) (grows : (k j : ℕ) → Needs f k j → order j < order k) where
    pub reads-whole : (n k : ℕ) (thing : Thing) → order k < n → OccReads f k thing → Has (reads n k) thing
    reads-whole zero k thing low r = absurd (omega (arith, low))
    reads-whole (suc n) k _ low (Name _ p there) = own-in n k (Read p) (PlaceThing p) there (record { index = 0; is = refl })
    reads-whole (suc n) k thing low (LastOf _ p b j _ there has r) =
        let less = grows k j (OfStart p b there has) in made-in n k j thing (OfStart p b there has) (reads-whole n j thing (omega (arith, less, low)) r)
    reads-whole (suc n) k _ low (LastBlock _ p b j there has) =
        own-in n k (Last p) (BlockThing b) there
        (subst (λ x. Has (start_blocks x) (BlockThing b)) (sym has.1) (has-flat_map start_block has.0.definers (Start b j) (BlockThing b) has.2 (record { index = 0; is = refl })))
    reads-whole (suc n) k thing low (ReadsPart _ j form _ there h r) =
        let less = grows k j (OfPart form there h) in made-in n k j thing (OfPart form there h) (reads-whole n j thing (omega (arith, less, low)) r)

  -- ---- what decides whether an occurrence is evaluated

  abbrev decided_by : (ℕ → List ℕ) → Use → List ℕ
  decided_by above (PartOf whole) = above whole
  decided_by above (BranchOf whole c side) = c ∷ above whole
  decided_by above (ResetOf call events arm) = events
  decided_by above (DefinerOf call) = []
  decided_by above (SlopeOf call) = []
  decided_by above (EventOf call) = []
  decided_by above (StartOf call b) = []
  decided_by above TestOf = []
  decided_by above ArgumentOf = []
  decided_by above AgainOf = []

  abbrev decided_outside : (ℕ → List ℕ) → Option ℕ → List ℕ
  decided_outside above None = []
  decided_outside above (Some call) = above call

  -- the conditions and events above occurrence number `k`, in at most `n` steps
  abbrev pub conditions : ℕ → ℕ → List ℕ
  conditions zero k = []
  conditions (suc n) k = flat_map (decided_by (conditions n)) (uses_of f k) ++ decided_outside (conditions n) (call_of f k)

  decided-part : (k whole : ℕ) → IsPart f k whole → (t : ℕ) → IsDecidedBy f whole t → IsDecidedBy f k t
  decided-part k whole part t (ByCondition w side under) = ByCondition w side (Part k whole part under)
  decided-part k whole part t (ByEvent call all arm under h) = ByEvent call all arm (Part k whole part under) h

  decided-call : (k call : ℕ) → call_of f k ≡ Some call → (t : ℕ) → IsDecidedBy f call t → IsDecidedBy f k t
  decided-call k call at t (ByCondition w side under) = ByCondition w side (Called k call at under)
  decided-call k call at t (ByEvent of all arm under h) = ByEvent of all arm (Called k call at under) h

  module _ (above : ℕ → List ℕ) (sound : (j : ℕ) → AllByRecursion (IsDecidedBy f j) (above j)) (k : ℕ) where
    from-part : (whole : ℕ) → IsPart f k whole → AllByRecursion (IsDecidedBy f k) (above whole)
    from-part whole part = all-map (IsDecidedBy f whole) (IsDecidedBy f k) (decided-part k whole part) (above whole) (sound whole)

    from-use : (of : Use) → IsUse f k of → AllByRecursion (IsDecidedBy f k) (decided_by above of)
    from-use _ (AsPart whole form there h) = from-part whole (part-of-form f k whole form there (steady-part form k h))
    from-use _ (AsBranch whole c x y side there e) = (ByCondition whole side (Is k (AsBranch whole c x y side there e)), from-part whole (branch-part f side k whole c x y there e))
    from-use _ (AsReset p b slope m arms arm call has there e at) =
        each (IsDecidedBy f k) (events_of arms) (λ t h. ByEvent call (events_of arms) m (Is k (AsReset p b slope m arms arm call has there e at)) h)
    from-use _ (AsDefiner p b call has at) = tt
    from-use _ (AsSlope p b resets call has at) = tt
    from-use _ (AsEvent p b slope resets arm call has h e at) = tt
    from-use _ (AsStart p b call has at) = tt
    from-use _ (AsTest test) = tt
    from-use _ (AsArgument n site is e) = tt
    from-use _ (AsAgain h) = tt

    from-call : (call : Option ℕ) → call_of f k ≡ call → AllByRecursion (IsDecidedBy f k) (decided_outside above call)
    from-call None at = tt
    from-call (Some call) at = all-map (IsDecidedBy f call) (IsDecidedBy f k) (decided-call k call at) (above call) (sound call)

    from-all : AllByRecursion (IsDecidedBy f k) (flat_map (decided_by above) (uses_of f k) ++ decided_outside above (call_of f k))
    from-all =
        all-append (IsDecidedBy f k) (flat_map (decided_by above) (uses_of f k)) (decided_outside above (call_of f k))
        (all-flat_map (IsDecidedBy f k) (decided_by above) (uses_of f k) (each (λ of. AllByRecursion (IsDecidedBy f k) (decided_by above of)) (uses_of f k) (λ of h. from-use of (use-of-listed f k of h))))
        (from-call (call_of f k) refl)

  -- all that is listed decides it
  pub conditions-sound : (n k : ℕ) → AllByRecursion (IsDecidedBy f k) (conditions n k)
  conditions-sound zero k = tt
  conditions-sound (suc n) k = from-all (conditions n) (conditions-sound n) k

  use-in : (n k t : ℕ) (of : Use) → IsUse f k of → Has (decided_by (conditions n) of) t → Has (conditions (suc n) k) t
  use-in n k t of is h =
      has-left (flat_map (decided_by (conditions n)) (uses_of f k)) (decided_outside (conditions n) (call_of f k)) t
      (has-flat_map (decided_by (conditions n)) (uses_of f k) of t (listed-of-use f k of is) h)

  part-in-list : (n k whole t : ℕ) → IsPart f k whole → Has (conditions n whole) t → Has (conditions (suc n) k) t
  part-in-list n k whole t part h =
      ⊎_elim (λ (u : IsUse f k (PartOf whole)). use-in n k t (PartOf whole) u h)
      (λ (u : (c : ℕ) × (side : Bool) × IsUse f k (BranchOf whole c side)). use-in n k t (BranchOf whole u.0 u.1) u.2 (has-later u.0 (conditions n whole) t h))
      (part-used f k whole part)

  call-in-list : (n k call t : ℕ) → call_of f k ≡ Some call → Has (conditions n call) t → Has (conditions (suc n) k) t
  call-in-list n k call t at h =
      has-right (flat_map (decided_by (conditions n)) (uses_of f k)) (decided_outside (conditions n) (call_of f k)) t (subst (λ o. Has (decided_outside (conditions n) o) t) (sym at) h)

  module _ (well : IsWellFormed f) where
    abbrev height : ℕ → ℕ
    height = well.heights.height

    -- more than every height
    abbrev pub top : ℕ
    top = suc (most_below height (length f.occs))

    part-higher : (k whole n : ℕ) → IsPart f k whole → top ≤ suc n + height k → (top ≤ n + height whole) × (height whole < top)
    part-higher k whole n part low =
        let more = well.heights.parts whole k part.occ part.is part.part in
        let most = below-most height (length f.occs) whole (slice_get_within f.occs whole part.occ part.is) in
        (omega (arith, low, more), omega (arith, most))

    call-higher : (k call n : ℕ) → call_of f k ≡ Some call → top ≤ suc n + height k → (top ≤ n + height call) × (height call < top)
    call-higher k call n at low = by_occ (slice_get f.occs k) refl at
      where
        of_occ : (occ : Occ) → slice_get f.occs k ≡ Some occ → occ.call ≡ Some call → IsCalled f occ.block (Some call) → (top ≤ n + height call) × (height call < top)
        of_occ occ is e there =
            let more = well.heights.calls k call occ is e in
            let most = below-most height (length f.occs) call (slice_get_within f.occs call there.0 there.1) in
            (omega (arith, low, more), omega (arith, most))

        by_occ : (o : Option Occ) → slice_get f.occs k ≡ o → option_and_then (λ (occ : Occ). occ.call) o ≡ Some call → (top ≤ n + height call) × (height call < top)
        by_occ None is e = absurd (cc)
        by_occ (Some occ) is e = of_occ occ is e (subst (IsCalled f occ.block) e (well.occs k occ is).call)

    -- a use that decides by this condition or event is listed for all that stands under it
    under-in : (of : Use) (t : ℕ) → ((above : ℕ → List ℕ) → Has (decided_by above of) t) → (n k : ℕ) → top ≤ n + height k → height k < top → Under f of k → Has (conditions n k) t
    under-in of t own zero k low high under = absurd (omega (arith, low, high))
    under-in of t own (suc n) k low high (Is _ is) = use-in n k t of is (own (conditions n))
    under-in of t own (suc n) k low high (Part _ whole part under) =
        let up = part-higher k whole n part low in part-in-list n k whole t part (under-in of t own n whole up.0 up.1 under)
    under-in of t own (suc n) k low high (Called _ call at under) =
        let up = call-higher k call n at low in call-in-list n k call t at (under-in of t own n call up.0 up.1 under)

    -- and all that decides it is listed
    pub conditions-whole : (k t : ℕ) → height k < top → IsDecidedBy f k t → Has (conditions top k) t
    conditions-whole k t high (ByCondition whole side under) =
        under-in (BranchOf whole t side) t (λ above. record { index = 0; is = refl }) top k (omega arith) high under
    conditions-whole k t high (ByEvent call all arm under h) = under-in (ResetOf call all arm) t (λ above. h) top k (omega arith) high under
