-- The guards of occurrences by their uses, in the kernel that is made of a form.
use Rattle.std.specs.Prelude.{◌≡◌, ℕ, true, false, List, [], ◌∷◌, slice_get, Some}
use Rattle.std.specs.List.{AllByRecursion}
use Rattle.std.specs.Option.{option_and_then}
use Rattle.std.proofs.Common.{refl, sym, ap, ◌∙◌, arith, subst}
use Rattle.zl_value.specs.Lists.{Has}
use Rattle.zl_meaning.specs.FlatForm.{FlatForm, HasDefiner, call_of, place_call}
use Rattle.zl_meaning.specs.Uses.{Use, PartOf, BranchOf, DefinerOf, SlopeOf, EventOf, StartOf, ResetOf, ArgumentOf, AgainOf, IsUse, AsPart, events_of, uses_of}
use Rattle.zl_meaning.specs.declared.place.Definer.{Definer}
use Rattle.zl_meaning.specs.declared.place.Definer.TheVariants.{Der}
use Rattle.zl_meaning.specs.declared.occurrence.Occ.{Occ}
use Rattle.zl_meaning.proofs.UseCases.{use-of-listed}
use Rattle.zl_kernel.specs.KernelForm.{KernelForm}
use Rattle.zl_normal.specs.Wiring.{call_guard}
use Rattle.zl_normal.specs.FormWires.{IsOcc, IsCall}
use Rattle.zl_normal.specs.UseGuards.{IsPartOf, IsGuardFor, IsGuardBy, Unused as NoUse, Once, OfCall as BesideCall, OfBranches}
use Rattle.zl_normal.specs.Tables.{Tables}
use Rattle.zl_normal.specs.KernelOf.{Numbers}
use Rattle.zl_normal.specs.Layout.{IsGuardAt}
use Rattle.zl_normal.specs.Roles.{IsRole, IsResetValue, Alone, OfCall}
use Rattle.zl_normal.specs.declared.role.Role.{Role}
use Rattle.zl_normal.specs.declared.role.Role.TheVariants.{Unused, Part, Branch, Both, Definer as OfDefiner, Slope as OfSlope, Event as OfEvent, Start as OfStart, Reset as OfReset, Argument, Again as OfAgain}
use Rattle.zl_normal.specs.declared.key.Key.TheVariants.{Taken}
use Rattle.zl_normal.proofs.Made.Wires.{IsMade}
use Rattle.zl_normal.proofs.Made.Uses.{has_role, unused_guard}
use Rattle.zl_normal.proofs.Made.UnderGuards.{branch_of, yes_guard, no_guard, both_guard, start_guard, reset_guard}
use Rattle.zl_normal.proofs.Made.Namings.{one_definer}
use Rattle.zl_normal.proofs.Made.Lasts.{call_is}
use Rattle.zl_normal.proofs.Made.Arms.{events_part, taken}
use Rattle.zl_normal.proofs.Made.Places.{called}

module _ (f : FlatForm) (grades : List ℕ) (t : Tables) (n : Numbers) (k : KernelForm) (made : IsMade f grades t n k) where
  -- the call of an occurrence, of a place, is an occurrence
  pub occ_called : (j : ℕ) (occ : Occ) → slice_get f.occs j ≡ Some occ → IsCall f (call_of f j)
  occ_called j occ is = subst (λ call. IsCall f call) (sym (ap (λ o. option_and_then (λ (x : Occ). x.call) o) is)) (called f occ.block occ.call (made.formed.occs j occ is).call)

  place_called : (p : ℕ) (d : Definer) → HasDefiner f p d → IsCall f (place_call f p)
  place_called p d has = subst (λ call. IsCall f call) (sym (call_is f p has.0 has.1)) (called f has.0.block has.0.call (made.formed.places p has.0 has.1).call)

  module _ (j : ℕ) (occ : Occ) (is : slice_get f.occs j ≡ Some occ) where
    abbrev By : List Use → Type 0
    By us = IsGuardBy f k n.wiring occ.call (n.wiring.G j) us

    listed_use : (us : List Use) → uses_of f j ≡ us → (of : Use) → Has us of → IsUse f j of
    listed_use us e of h = use-of-listed f j of (subst (λ l. Has l of) (sym e) h)

    once : (of : Use) → uses_of f j ≡ of ∷ [] → IsGuardFor f k n.wiring of (n.wiring.G j) → IsGuardBy f k n.wiring occ.call (n.wiring.G j) (uses_of f j)
    once of e guard = subst (λ us. IsGuardBy f k n.wiring occ.call (n.wiring.G j) us) (sym e) (Once of guard)

    whole_there : (whole : ℕ) → IsUse f j (PartOf whole) → IsOcc f whole
    whole_there _ (AsPart whole form has h) = (has.0, has.1)

    of_reset : (p i : ℕ) → slice_get t.roles j ≡ Some (OfReset p i) → (d : IsResetValue f j p i) → IsGuardFor f k n.wiring (ResetOf (place_call f p) (events_of d.resets) i) (n.wiring.G j)
    of_reset p i at d =
        let der = one_definer f made.main made.single p (Der d.block d.slope d.resets) d.has refl in (
          place_called p (Der d.block d.slope d.resets) d.has,
          subst (λ call. AllByRecursion (IsPartOf f k n.wiring call) (events_of d.resets)) (sym (call_is f p d.has.0 d.has.1)) (events_part f grades t n k made p d.has.0 d.has.1 d.block d.slope d.resets der),
          (
            n.wire (Taken p i),
            taken f grades t n k made p d.has.0 d.has.1 d.block d.slope d.resets der i d.resets 0 i refl d.arm d.is (omega arith),
            reset_guard f grades t n k made j occ is p i at,
          ),
        )

    by : (role : Role) → slice_get t.roles j ≡ Some role → IsRole f j role → IsGuardAt f grades t n j role → IsGuardBy f k n.wiring occ.call (n.wiring.G j) (uses_of f j)
    by Unused at e guard =
        subst (λ us. IsGuardBy f k n.wiring occ.call (n.wiring.G j) us) (sym e)
        (NoUse (called f occ.block occ.call (made.formed.occs j occ is).call) (guard ∙ ap (λ o. call_guard n.wiring (option_and_then (λ (x : Occ). x.call) o)) is))
    by (Part whole) at (Alone e) guard = once (PartOf whole) e (whole_there whole (listed_use _ e (PartOf whole) (record { index = 0; is = refl })), guard)
    by (Part whole) at (OfCall e form unused) guard =
        subst (λ us. IsGuardBy f k n.wiring occ.call (n.wiring.G j) us) (sym e)
        (BesideCall whole (call_of f whole) ((form.0, form.1), guard)
        (occ_called whole form.0 form.1, guard ∙ unused_guard f grades t n k made whole form.0 form.1 unused))
    by (Branch whole c true) at e guard =
        let branch = branch_of f grades t n k made j whole c true (listed_use _ e (BranchOf whole c true) (record { index = 0; is = refl })) in
        once (BranchOf whole c true) e (branch, yes_guard f grades t n k made j occ is whole c at branch)
    by (Branch whole c false) at e guard =
        let branch = branch_of f grades t n k made j whole c false (listed_use _ e (BranchOf whole c false) (record { index = 0; is = refl })) in
        once (BranchOf whole c false) e (branch, no_guard f grades t n k made j occ is whole c at)
    by (Both whole c) at e guard =
        let branch = branch_of f grades t n k made j whole c true (listed_use _ e (BranchOf whole c true) (record { index = 0; is = refl })) in
        subst (λ us. IsGuardBy f k n.wiring occ.call (n.wiring.G j) us) (sym e) (OfBranches whole c branch (both_guard f grades t n k made j occ is whole c at))
    by (OfDefiner p) at d guard = once (DefinerOf (place_call f p)) d.uses (place_called p _ d.has, guard)
    by (OfSlope p) at d guard = once (SlopeOf (place_call f p)) d.uses (place_called p _ d.has, guard)
    by (OfEvent p) at d guard = once (EventOf (place_call f p)) d.uses (place_called p _ d.has, guard)
    by (OfStart p) at d guard = once (StartOf (place_call f p) 0) d.uses (refl, place_called p _ d.has, start_guard f grades t n k made j occ is p at)
    by (OfReset p i) at d guard = once (ResetOf (place_call f p) (events_of d.resets) i) d.uses (of_reset p i at d)
    by Argument at e guard = once ArgumentOf e guard
    by OfAgain at e guard = once AgainOf e guard

    pub guard_wires : IsGuardBy f k n.wiring occ.call (n.wiring.G j) (uses_of f j)
    guard_wires =
        let r = has_role f grades t n k made j occ is in
        by r.role r.at r.is (made.layout.wired.guards j r.role r.at)
