-- A `last` is evaluated only where the call of its place is, by the guards of a normal form.
use Rattle.std.specs.Prelude.{◌≡◌, ℕ, Bool, true, false, ◌&&◌, List, [], ◌∷◌, Option, Some, None, IfSome}
use Rattle.std.specs.Option.{option_and_then}
use Rattle.std.proofs.Common.{refl, sym, ap, ◌∙◌, subst}
use Rattle.zl_value.specs.Lists.{Has}
use Rattle.zl_meaning.specs.FlatForm.{FlatForm}
use Rattle.zl_meaning.specs.Uses.{Use, PartOf, BranchOf, DefinerOf, SlopeOf, EventOf, StartOf, ResetOf, TestOf, ArgumentOf, AgainOf, IsUse, uses_of}
use Rattle.zl_meaning.specs.declared.place.PlaceInfo.{PlaceInfo}
use Rattle.zl_meaning.specs.declared.occurrence.Occ.{Occ}
use Rattle.zl_meaning.proofs.UseCases.{use-of-listed, listed-of-use}
use Rattle.zl_kernel.specs.KernelForm.{KernelForm}
use Rattle.zl_kernel.specs.Wires.{Registers, held, is_open, turn, Moment}
use Rattle.zl_normal.specs.Wiring.{Wiring, call_guard}
use Rattle.zl_normal.specs.FormWires.{IsOcc, IsCall}
use Rattle.zl_normal.specs.UseGuards.{IsGuardFor, IsGuardBy, Unused, Once, OfCall, OfBranches}
use Rattle.zl_normal.specs.Evaluated.{owner_of, IsOnlyWith, Itself, ByUses, ByCall, Outside, KeepsLasts}
use Rattle.zl_normal.specs.Normal.{IsNormalAtInstants}
use Rattle.zl_normal.proofs.Wires.Solved.{under_is, but_is, either_is}
use Rattle.zl_normal.proofs.Instants.Follows.{some_is, LastsCalled}

both_true : (a b : Bool) → (a && b) ≡ true → a ≡ true
both_true true b e = refl
both_true false b e = absurd cc

none_in : (of : Use) → Has [] of → ⊥
none_in of has = absurd cc

module _ (f : FlatForm) (k : KernelForm) (N : Wiring) (normal : IsNormalAtInstants f k N) (m : Moment) (r : Registers) (wired : r ≡ turn k m r) where
  -- the guard of what is used implies that of the owner of the used_so
  abbrev Owned : Option ℕ → ℕ → Type 0
  Owned g by = IsOcc f by × (is_open (held r) g ≡ true → is_open (held r) (N.G by) ≡ true)

  called : (g call : Option ℕ) → IsCall f call → (is_open (held r) g ≡ true → is_open (held r) (call_guard N call) ≡ true) → (by : ℕ) → call ≡ Some by → Owned g by
  called g None there opens by e = absurd cc
  called g (Some call) there opens by e = subst (λ x. Owned g x) (some_is call by e) (there, opens)

  under : (g h : Option ℕ) (b : Bool) → is_open (held r) g ≡ (is_open (held r) h && b) → is_open (held r) g ≡ true → is_open (held r) h ≡ true
  under g h b e o = both_true (is_open (held r) h) b (sym e ∙ o)

  same : (g h : Option ℕ) → g ≡ h → is_open (held r) g ≡ true → is_open (held r) h ≡ true
  same g h e o = ap (λ x. is_open (held r) x) (sym e) ∙ o

  owned : (of : Use) (g : Option ℕ) → IsGuardFor f k N of g → (by : ℕ) → owner_of of ≡ Some by → Owned g by
  owned (PartOf whole) g is by e = called g (Some whole) is.0 (same g (N.G whole) is.1) by e
  owned (BranchOf whole c true) g is by e = called g (Some whole) is.0.there (under g (N.G whole) _ (under_is k m r wired tt (N.G whole) (N.w c) g is.1)) by e
  owned (BranchOf whole c false) g is by e = called g (Some whole) is.0.there (under g (N.G whole) _ (but_is k m r wired tt (N.G whole) (N.w c) g is.1)) by e
  owned (DefinerOf call) g is by e = called g call is.0 (same g (call_guard N call) is.1) by e
  owned (SlopeOf call) g is by e = called g call is.0 (same g (call_guard N call) is.1) by e
  owned (EventOf call) g is by e = called g call is.0 (same g (call_guard N call) is.1) by e
  owned (StartOf call block) g is by e = called g call is.1 (under g (call_guard N call) _ (under_is k m r wired tt (call_guard N call) N.fresh g is.2)) by e
  owned (ResetOf call events arm) g is by e = called g call is.0 (under g (call_guard N call) _ (under_is k m r wired tt (call_guard N call) is.2.0 g is.2.2)) by e
  owned TestOf g is by e = absurd is
  owned ArgumentOf g is by e = absurd cc
  owned AgainOf g is by e = absurd cc

  -- the guard of what is used implies that of an owner of one of its uses
  by_uses : (j : ℕ) (call g : Option ℕ) (uses : List Use) → uses_of f j ≡ uses → IsGuardBy f k N call g uses → (of : Use) → IsUse f j of → (by : Use → ℕ) → ((used_so : Use) → IsUse f j used_so → owner_of used_so ≡ Some (by used_so)) → (used_so : Use) × IsUse f j used_so × Owned g (by used_so)
  by_uses j call g _ e (Unused there same) of is by owns = absurd (none_in of (subst (λ l. Has l of) e (listed-of-use f j of is)))
  by_uses j call g _ e (Once used_so guard) of is by owns =
      let used : IsUse f j used_so = use-of-listed f j used_so (subst (λ l. Has l used_so) (sym e) (record { index = 0; is = refl })) in
      (used_so, used, owned used_so g guard (by used_so) (owns used_so used))
  by_uses j call g _ e (OfCall whole of_call guard also) of is by owns =
      let used : IsUse f j (PartOf whole) = use-of-listed f j (PartOf whole) (subst (λ l. Has l (PartOf whole)) (sym e) (record { index = 0; is = refl })) in
      (PartOf whole, used, owned (PartOf whole) g guard (by (PartOf whole)) (owns (PartOf whole) used))
  by_uses j call g _ e (OfBranches whole c branch either) of is by owns =
      let used : IsUse f j (BranchOf whole c true) = use-of-listed f j (BranchOf whole c true) (subst (λ l. Has l (BranchOf whole c true)) (sym e) (record { index = 0; is = refl })) in (
        BranchOf whole c true,
        used,
        called g (Some whole) branch.there (under g (N.G whole) _ (either_is k m r wired tt (N.G whole) (N.w c) g either)) (by (BranchOf whole c true)) (owns (BranchOf whole c true) used),
      )

  by_call : (j : ℕ) (call g : Option ℕ) (uses : List Use) → uses_of f j ≡ uses → IsGuardBy f k N call g uses → ((of : Use) → IsUse f j of → ⊥) → (by : ℕ) → call ≡ Some by → Owned g by
  by_call j call g _ e (Unused there is) none by of = called g call there (same g (call_guard N call) is) by of
  by_call j call g _ e (Once used_so guard) none by of = absurd (none used_so (use-of-listed f j used_so (subst (λ l. Has l used_so) (sym e) (record { index = 0; is = refl }))))
  by_call j call g _ e (OfCall whole of_call guard also) none by of = absurd (none (PartOf whole) (use-of-listed f j (PartOf whole) (subst (λ l. Has l (PartOf whole)) (sym e) (record { index = 0; is = refl }))))
  by_call j call g _ e (OfBranches whole c branch either) none by of = absurd (none (BranchOf whole c true) (use-of-listed f j (BranchOf whole c true) (subst (λ l. Has l (BranchOf whole c true)) (sym e) (record { index = 0; is = refl }))))

  -- what is evaluated only with a call
  opens : (call j : ℕ) → IsOnlyWith f call j → IsOcc f j → is_open (held r) (N.G j) ≡ true → is_open (held r) (N.G call) ≡ true
  opens call _ Itself there o = o
  opens call _ (ByUses j of by is owns inner) there o =
      let u = by_uses j there.0.call (N.G j) (uses_of f j) refl (normal.guards j there.0 there.1) of is by owns in
      opens call (by u.0) (inner u.0 u.1) u.2.0 (u.2.1 o)
  opens call _ (ByCall j by unused of inner) there o =
      let same_call : there.0.call ≡ Some by = ap (λ x. option_and_then (λ (occ : Occ). occ.call) x) (sym there.1) ∙ of in
      let u = by_call j there.0.call (N.G j) (uses_of f j) refl (normal.guards j there.0 there.1) unused by same_call in
      opens call by inner u.0 (u.1 o)
  opens call j (Outside _ occ is unused outer) there o = open_outside occ.call outer (unused_guard (uses_of f call) refl (normal.guards call occ is))
    where
      -- the guard of what nothing uses is that of its call
      unused_guard : (uses : List Use) → uses_of f call ≡ uses → IsGuardBy f k N occ.call (N.G call) uses → N.G call ≡ call_guard N occ.call
      unused_guard [] e (Unused of_call same) = same
      unused_guard (of ∷ uses) e guard = absurd (unused of (use-of-listed f call of (subst (λ l. Has l of) (sym e) (record { index = 0; is = refl }))))

      open_outside : (outer : Option ℕ) → IfSome outer (λ by. by ≡ j) → N.G call ≡ call_guard N outer → is_open (held r) (N.G call) ≡ true
      open_outside None is_none e = ap (λ g. is_open (held r) g) e
      open_outside (Some by) same e = ap (λ g. is_open (held r) g) (e ∙ ap (λ x. N.G x) same) ∙ o

  pub lasts_called : KeepsLasts f → LastsCalled f k N r
  lasts_called keeps j p occ place at form is o = by place.call refl
    where
      by : (call : Option ℕ) → place.call ≡ call → is_open (held r) (call_guard N call) ≡ true
      by None e = refl
      by (Some call) e = opens call j (keeps j p call (occ, at, form) (ap (λ x. option_and_then (λ (place : PlaceInfo). place.call) x) is ∙ e)) (occ, at) o
