-- The guards of occurrences in the kernel that is made of a form, by how they are used.
use Rattle.std.specs.Prelude.{◌≡◌, ℕ, ◌<◌, true, false, List, [], ◌∷◌, slice_get, get_or, Option, Some, None}
use Rattle.std.proofs.Common.{refl, sym, ap, ◌∙◌, subst}
use Rattle.std.proofs.lemmas.Option.{slice_get_within, slice_get-get_or}
use Rattle.zl_value.specs.Lists.{Has}
use Rattle.zl_meaning.specs.FlatForm.{FlatForm, HasForm, call_of, place_call}
use Rattle.zl_meaning.specs.Uses.{Use, PartOf, BranchOf, DefinerOf, SlopeOf, EventOf, StartOf, ResetOf, ArgumentOf, AgainOf, IsUse, IsUnused, uses_of}
use Rattle.zl_meaning.specs.declared.occurrence.Form.TheVariants.{Result}
use Rattle.zl_meaning.specs.declared.occurrence.Occ.{Occ}
use Rattle.zl_meaning.proofs.Members.{has-cases, has-none}
use Rattle.zl_meaning.proofs.UseCases.{use-of-listed, listed-of-use}
use Rattle.zl_kernel.specs.KernelForm.{KernelForm}
use Rattle.zl_normal.specs.Wiring.{call_guard}
use Rattle.zl_normal.specs.Tables.{Tables}
use Rattle.zl_normal.specs.KernelOf.{Numbers}
use Rattle.zl_normal.specs.Layout.{IsGuardAt}
use Rattle.zl_normal.specs.Roles.{IsRole, Alone, OfCall}
use Rattle.zl_normal.specs.declared.role.Role.{Role}
use Rattle.zl_normal.specs.declared.role.Role.TheVariants.{Unused, Part, Branch, Both, Definer, Slope, Event, Start, Reset, Argument, Again}
use Rattle.zl_normal.proofs.Made.Wires.{IsMade}

module _ (f : FlatForm) (j : ℕ) where
  -- occurrence number `j`, which is for this, is used so
  abbrev pub Fits : Role → Use → Type 0
  Fits (Part w) (PartOf whole) = w ≡ whole
  Fits (Part w) (DefinerOf call) = HasForm f w (Result j) × IsUnused f w × (call_of f w ≡ call)
  Fits (Branch w c side) (BranchOf whole condition s) = (w ≡ whole) × (c ≡ condition) × (side ≡ s)
  Fits (Both w c) (BranchOf whole condition s) = (w ≡ whole) × (c ≡ condition)
  Fits (Definer p) (DefinerOf call) = place_call f p ≡ call
  Fits (Slope p) (SlopeOf call) = place_call f p ≡ call
  Fits (Event p) (EventOf call) = place_call f p ≡ call
  Fits (Start p) (StartOf call b) = place_call f p ≡ call
  Fits (Reset p i) (ResetOf call events m) = i ≡ m
  Fits Argument ArgumentOf = Unit {0}
  Fits Again AgainOf = Unit {0}
  Fits role of = ⊥

  -- the one use
  pub sole : (u : Use) → uses_of f j ≡ u ∷ [] → (of : Use) → Has (uses_of f j) of → u ≡ of
  sole u e of h = has-cases (u ≡ of) u [] of (subst (λ l. Has l of) e h) (λ s. s) (λ i. absurd (has-none of i))

  fits_one : (role : Role) (u : Use) → Fits role u → uses_of f j ≡ u ∷ [] → (of : Use) → Has (uses_of f j) of → Fits role of
  fits_one role u fit e of h = subst (λ v. Fits role v) (sole u e of h) fit

  fits_two : (role : Role) (u v : Use) → Fits role u → Fits role v → uses_of f j ≡ u ∷ v ∷ [] → (of : Use) → Has (uses_of f j) of → Fits role of
  fits_two role u v fit also e of h =
      has-cases (Fits role of) u (v ∷ []) of (subst (λ l. Has l of) e h) (λ s. subst (λ x. Fits role x) s fit)
      (λ i. has-cases (Fits role of) v [] of i (λ s. subst (λ x. Fits role x) s also) (λ l. absurd (has-none of l)))

  fits_listed : (role : Role) → IsRole f j role → (of : Use) → Has (uses_of f j) of → Fits role of
  fits_listed Unused e of h = absurd (has-none of (subst (λ l. Has l of) e h))
  fits_listed (Part w) (Alone e) of h = fits_one (Part w) (PartOf w) refl e of h
  fits_listed (Part w) (OfCall e form unused) of h = fits_two (Part w) (PartOf w) (DefinerOf (call_of f w)) refl (form, unused, refl) e of h
  fits_listed (Branch w c side) e of h = fits_one (Branch w c side) (BranchOf w c side) (refl, refl, refl) e of h
  fits_listed (Both w c) e of h = fits_two (Both w c) (BranchOf w c true) (BranchOf w c false) (refl, refl) (refl, refl) e of h
  fits_listed (Definer p) d of h = fits_one (Definer p) (DefinerOf (place_call f p)) refl d.uses of h
  fits_listed (Slope p) d of h = fits_one (Slope p) (SlopeOf (place_call f p)) refl d.uses of h
  fits_listed (Event p) d of h = fits_one (Event p) (EventOf (place_call f p)) refl d.uses of h
  fits_listed (Start p) d of h = fits_one (Start p) (StartOf (place_call f p) 0) refl d.uses of h
  fits_listed (Reset p i) d of h = fits_one (Reset p i) _ refl d.uses of h
  fits_listed Argument e of h = fits_one Argument ArgumentOf tt e of h
  fits_listed Again e of h = fits_one Again AgainOf tt e of h

  pub fits : (role : Role) → IsRole f j role → (of : Use) → IsUse f j of → Fits role of
  fits role is of used = fits_listed role is of (listed-of-use f j of used)

  -- what is used has a use
  unused_lists : (us : List Use) → uses_of f j ≡ us → IsUnused f j → us ≡ []
  unused_lists [] e unused = refl
  unused_lists (u ∷ us) e unused = absurd (unused u (use-of-listed f j u (subst (λ l. Has l u) (sym e) (record { index = 0; is = refl }))))

  nothing_more : (u : Use) (us : List Use) → uses_of f j ≡ u ∷ us → IsUnused f j → ⊥
  nothing_more u us e unused = let none = unused_lists (u ∷ us) e unused in cc

  -- what nothing uses is for nothing
  pub for_nothing : (role : Role) → IsRole f j role → IsUnused f j → role ≡ Unused
  for_nothing Unused e unused = refl
  for_nothing (Part w) (Alone e) unused = absurd (nothing_more _ _ e unused)
  for_nothing (Part w) (OfCall e form of) unused = absurd (nothing_more _ _ e unused)
  for_nothing (Branch w c side) e unused = absurd (nothing_more _ _ e unused)
  for_nothing (Both w c) e unused = absurd (nothing_more _ _ e unused)
  for_nothing (Definer p) d unused = absurd (nothing_more _ _ d.uses unused)
  for_nothing (Slope p) d unused = absurd (nothing_more _ _ d.uses unused)
  for_nothing (Event p) d unused = absurd (nothing_more _ _ d.uses unused)
  for_nothing (Start p) d unused = absurd (nothing_more _ _ d.uses unused)
  for_nothing (Reset p i) d unused = absurd (nothing_more _ _ d.uses unused)
  for_nothing Argument e unused = absurd (nothing_more _ _ e unused)
  for_nothing Again e unused = absurd (nothing_more _ _ e unused)

module _ (f : FlatForm) (grades : List ℕ) (t : Tables) (n : Numbers) (k : KernelForm) (made : IsMade f grades t n k) where
  -- the role of an occurrence
  pub record HasRole (j : ℕ) : Type 0 where
    pub role : Role
    pub at : slice_get t.roles j ≡ Some role
    pub is : IsRole f j role

  pub has_role : (j : ℕ) (occ : Occ) → slice_get f.occs j ≡ Some occ → HasRole j
  has_role j occ is = record { role = get_or t.roles j Unused; at = at; is = made.roles.each j (get_or t.roles j Unused) at }
    where
      at : slice_get t.roles j ≡ Some (get_or t.roles j Unused)
      at = slice_get-get_or t.roles j Unused (subst (λ m. j < m) (sym made.roles.size) (slice_get_within f.occs j occ is))

  -- what it is for decides its guard
  by_role : (j : ℕ) (occ : Occ) → slice_get f.occs j ≡ Some occ → (of : Use) → IsUse f j of → (P : Type 0) → ((role : Role) → Fits f j role of → IsGuardAt f grades t n j role → P) → P
  by_role j occ is of used P go =
      let r = has_role j occ is in
      go r.role (fits f j r.role r.is of used) (made.layout.wired.guards j r.role r.at)

  -- what nothing uses has the guard of its call
  pub unused_guard : (j : ℕ) (occ : Occ) → slice_get f.occs j ≡ Some occ → IsUnused f j → n.wiring.G j ≡ call_guard n.wiring (call_of f j)
  unused_guard j occ is unused =
      let r = has_role j occ is in
      let same = for_nothing f j r.role r.is unused in
      made.layout.wired.guards j Unused (r.at ∙ ap (λ role. Some role) same)

  -- a part has that of its whole
  pub part_guard : (j : ℕ) (occ : Occ) → slice_get f.occs j ≡ Some occ → (whole : ℕ) → IsUse f j (PartOf whole) → n.wiring.G j ≡ n.wiring.G whole
  part_guard j occ is whole used = by_role j occ is (PartOf whole) used (n.wiring.G j ≡ n.wiring.G whole) by
    where
      by : (role : Role) → Fits f j role (PartOf whole) → IsGuardAt f grades t n j role → n.wiring.G j ≡ n.wiring.G whole
      by (Part w) fit at = at ∙ ap (λ i. n.wiring.G i) fit
      by role fit at = absurd fit

  -- what a definer names has that of the place's call
  pub definer_guard : (j : ℕ) (occ : Occ) → slice_get f.occs j ≡ Some occ → (call : Option ℕ) → IsUse f j (DefinerOf call) → n.wiring.G j ≡ call_guard n.wiring call
  definer_guard j occ is call used = by_role j occ is (DefinerOf call) used (n.wiring.G j ≡ call_guard n.wiring call) by
    where
      by : (role : Role) → Fits f j role (DefinerOf call) → IsGuardAt f grades t n j role → n.wiring.G j ≡ call_guard n.wiring call
      by (Part w) fit at = at ∙ unused_guard w fit.0.0 fit.0.1 fit.1 ∙ ap (λ c. call_guard n.wiring c) fit.2
      by (Definer p) fit at = at ∙ ap (λ c. call_guard n.wiring c) fit
      by role fit at = absurd fit

  pub slope_guard : (j : ℕ) (occ : Occ) → slice_get f.occs j ≡ Some occ → (call : Option ℕ) → IsUse f j (SlopeOf call) → n.wiring.G j ≡ call_guard n.wiring call
  slope_guard j occ is call used = by_role j occ is (SlopeOf call) used (n.wiring.G j ≡ call_guard n.wiring call) by
    where
      by : (role : Role) → Fits f j role (SlopeOf call) → IsGuardAt f grades t n j role → n.wiring.G j ≡ call_guard n.wiring call
      by (Slope p) fit at = at ∙ ap (λ c. call_guard n.wiring c) fit
      by role fit at = absurd fit

  pub event_guard : (j : ℕ) (occ : Occ) → slice_get f.occs j ≡ Some occ → (call : Option ℕ) → IsUse f j (EventOf call) → n.wiring.G j ≡ call_guard n.wiring call
  event_guard j occ is call used = by_role j occ is (EventOf call) used (n.wiring.G j ≡ call_guard n.wiring call) by
    where
      by : (role : Role) → Fits f j role (EventOf call) → IsGuardAt f grades t n j role → n.wiring.G j ≡ call_guard n.wiring call
      by (Event p) fit at = at ∙ ap (λ c. call_guard n.wiring c) fit
      by role fit at = absurd fit

  -- the argument of a site and what demands a step have none
  pub argument_guard : (j : ℕ) (occ : Occ) → slice_get f.occs j ≡ Some occ → IsUse f j ArgumentOf → n.wiring.G j ≡ None
  argument_guard j occ is used = by_role j occ is ArgumentOf used (n.wiring.G j ≡ None) by
    where
      by : (role : Role) → Fits f j role ArgumentOf → IsGuardAt f grades t n j role → n.wiring.G j ≡ None
      by Argument fit at = at
      by role fit at = absurd fit

  pub again_guard : (j : ℕ) (occ : Occ) → slice_get f.occs j ≡ Some occ → IsUse f j AgainOf → n.wiring.G j ≡ None
  again_guard j occ is used = by_role j occ is AgainOf used (n.wiring.G j ≡ None) by
    where
      by : (role : Role) → Fits f j role AgainOf → IsGuardAt f grades t n j role → n.wiring.G j ≡ None
      by Again fit at = at
      by role fit at = absurd fit
