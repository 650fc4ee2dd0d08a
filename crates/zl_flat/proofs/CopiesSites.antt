-- No argument of a site stands in an `init` value or in a reset value.
use Rattle.std.proofs.Common.{◌≡◌, ◌⊎◌, inl, inr, ℕ, Bool, true, false, List, [], ◌∷◌, slice_get, Option, Some, refl, sym, ap, subst, ◌∙◌}
use Rattle.std.specs.Option.{option_map}
use Rattle.zl_value.specs.Lists.{Has}
use Rattle.zl_meaning.specs.FlatForm.{FlatForm, HasForm, call_of}
use Rattle.zl_meaning.specs.Uses.{Use, PartOf, BranchOf, DefinerOf, StartOf, ResetOf, ArgumentOf, parts, IsUse, AsPart, AsBranch, AsArgument, uses_of}
use Rattle.zl_meaning.specs.Branches.{IsPart, Under, Is, Part, Called}
use Rattle.zl_meaning.specs.Copies.{IsByDefiner, IsApart, InStart, InReset}
use Rattle.zl_meaning.specs.Single.{IsOneUse, Unused, Once, OfCall, OfBranches}
use Rattle.zl_meaning.specs.Regular.{Context, Hybrid, context_of_block, is_hybrid_block, part_context, IsAllowed}
use Rattle.zl_meaning.specs.declared.occurrence.Form.{Form}
use Rattle.zl_meaning.specs.declared.occurrence.Form.TheVariants.{Lit, Read, Last, Op as Apply, If, Arrow, Pre, Result, Up, Fired, Step}
use Rattle.zl_meaning.specs.declared.occurrence.Occ.{Occ}
use Rattle.zl_meaning.proofs.Members.{has-none, has-cases}
use Rattle.zl_meaning.proofs.UseCases.{listed-of-use}
use Rattle.zl_flat.proofs.UsesBranches.{HasCall, IsOfUnused, KeepsCalls, IsCalm, calm-branch, calm-part, HasContexts, of-two, of-one, the-call, part-call}
use Rattle.zl_flat.proofs.CopiesCalls.{definer-call}

-- ---- uses as a part

-- a use as a part of occurrence number `n`
data IsUseAsPart (n : ℕ) : Use → Type 0 where
  Whole : IsUseAsPart n (PartOf n)
  Branch : (c : ℕ) (side : Bool) → IsUseAsPart n (BranchOf n c side)

-- a part is used so
record UsedAsPart (f : FlatForm) (k n : ℕ) : Type 0 where
  of : Use
  use_is : IsUse f k of
  part : IsUseAsPart n of

-- one of three
has-three : (R : Type 0) (x y z k : ℕ) → Has (x ∷ y ∷ z ∷ []) k → (x ≡ k → R) → (y ≡ k → R) → (z ≡ k → R) → R
has-three R x y z k h first second third = has-cases R x (y ∷ z ∷ []) k h first (λ i. has-cases R y (z ∷ []) k i second (λ j. has-cases R z [] k j third (λ l. absurd (has-none k l))))

-- a part is used as one
used-as-part : (f : FlatForm) (k n : ℕ) → IsPart f k n → UsedAsPart f k n
used-as-part f k n h = by_form h.occ.form refl h.part
  where
    whole : (form : Form) → h.occ.form ≡ form → HasForm f n form
    whole form e = (h.occ, h.is, e)

    by_form : (form : Form) → h.occ.form ≡ form → Has (parts form) k → UsedAsPart f k n
    by_form (If c x y) e has =
        has-three (UsedAsPart f k n) c x y k has
        (λ g. record { of = PartOf n; use_is = AsPart n (If c x y) (whole (If c x y) e) (record { index = 0; is = ap Some g }); part = Whole })
        (λ g. record { of = BranchOf n c true; use_is = AsBranch n c x y true (whole (If c x y) e) (sym g); part = Branch c true })
        (λ g. record { of = BranchOf n c false; use_is = AsBranch n c x y false (whole (If c x y) e) (sym g); part = Branch c false })
    by_form (Lit v) e has = record { of = PartOf n; use_is = AsPart n (Lit v) (whole (Lit v) e) has; part = Whole }
    by_form (Read p) e has = record { of = PartOf n; use_is = AsPart n (Read p) (whole (Read p) e) has; part = Whole }
    by_form (Last p) e has = record { of = PartOf n; use_is = AsPart n (Last p) (whole (Last p) e) has; part = Whole }
    by_form (Apply op ks) e has = record { of = PartOf n; use_is = AsPart n (Apply op ks) (whole (Apply op ks) e) has; part = Whole }
    by_form (Arrow x y) e has = record { of = PartOf n; use_is = AsPart n (Arrow x y) (whole (Arrow x y) e) has; part = Whole }
    by_form (Pre x) e has = record { of = PartOf n; use_is = AsPart n (Pre x) (whole (Pre x) e) has; part = Whole }
    by_form (Result x) e has = record { of = PartOf n; use_is = AsPart n (Result x) (whole (Result x) e) has; part = Whole }
    by_form (Up s) e has = record { of = PartOf n; use_is = AsPart n (Up s) (whole (Up s) e) has; part = Whole }
    by_form (Fired ks) e has = record { of = PartOf n; use_is = AsPart n (Fired ks) (whole (Fired ks) e) has; part = Whole }
    by_form Step e has = record { of = PartOf n; use_is = AsPart n Step (whole Step e) has; part = Whole }

-- ---- arguments of sites

-- an argument of a site has no other use
only-argument : (f : FlatForm) (k : ℕ) (us : List Use) (u : Use) → IsOneUse f k us → Has us ArgumentOf → Has us u → u ≡ ArgumentOf
only-argument f k us u Unused h i = absurd (has-none ArgumentOf h)
only-argument f k us u (Once of) h i = sym (of-one of u i) ∙ of-one of ArgumentOf h
only-argument f k us u (OfCall whole form unused) h i = absurd (of-two ⊥ (PartOf whole) (DefinerOf (call_of f whole)) ArgumentOf h (λ e. cc) (λ e. cc))
only-argument f k us u (OfBranches whole condition p form) h i = absurd (of-two ⊥ (BranchOf whole condition true) (BranchOf whole condition false) ArgumentOf h (λ e. cc) (λ e. cc))

-- an argument of a site is no part
not-part : (n : ℕ) → IsUseAsPart n ArgumentOf → ⊥
not-part n h = by_use ArgumentOf h refl
  where
    by_use : (u : Use) → IsUseAsPart n u → u ≡ ArgumentOf → ⊥
    by_use _ Whole e = cc
    by_use _ (Branch c side) e = cc

-- no `up` is combinatorial
calm-not-hybrid : (c : Context) → IsCalm c → c ≡ Hybrid → ⊥
calm-not-hybrid c h e = subst IsCalm e h

module _ (f : FlatForm) (keeps : KeepsCalls f) (contexts : HasContexts f) (once : (k : ℕ) (occ : Occ) → slice_get f.occs k ≡ Some occ → IsOneUse f k (uses_of f k))
    (calm_inside : (k c : ℕ) (occ : Occ) → slice_get f.occs k ≡ Some occ → occ.call ≡ Some c → IsCalm (contexts.context c) → IsCalm (contexts.context k)) where
  -- the contexts of occurrences
  abbrev context : ℕ → Context
  context = contexts.context

  -- occurrence number `k` is there, and is calm
  record CalmThere (k : ℕ) : Type 0 where
    occ : Occ
    is : slice_get f.occs k ≡ Some occ
    calm : IsCalm (context k)

  -- a part of what is calm is calm
  calm-use : (k n : ℕ) (occ whole : Occ) (of : Use) → slice_get f.occs k ≡ Some occ → slice_get f.occs n ≡ Some whole → IsUse f k of → IsUseAsPart n of → IsCalm (context n) → IsCalm (context k)
  calm-use k n occ whole _ is there u Whole h =
      let a = contexts.occs k occ is in
      let w = contexts.occs n whole there in
      let block = context_of_block (is_hybrid_block f occ.block) in
      subst IsCalm (sym (a.contexts (PartOf n) u ∙ ap (part_context block (context n)) (ap (option_map (λ (o : Occ). o.form)) there))) (calm-part block (context n) whole.form h w.allowed)
  calm-use k n occ whole _ is there u (Branch c side) h = let a = contexts.occs k occ is in subst IsCalm (sym (a.contexts (BranchOf n c side) u)) (calm-branch (context n))

  -- so is one that is there as a part
  calm-part-of : (k n : ℕ) → IsPart f k n → IsCalm (context n) → CalmThere k
  calm-part-of k n part h = by_call (part-call f keeps k n part)
    where
      at : (occ : Occ) → slice_get f.occs k ≡ Some occ → CalmThere k
      at occ is = let u = used-as-part f k n part in record { occ = occ; is = is; calm = calm-use k n occ part.occ u.of is part.is u.use_is u.part h }

      by_call : HasCall f part.occ.call k ⊎ HasCall f (Some n) k → CalmThere k
      by_call (inl a) = at a.occ a.is
      by_call (inr a) = at a.occ a.is

  -- a value that is calm and that a definer names, and what stands under it
  module _ (of : Use) (call : Option ℕ) (by : IsByDefiner of call) (calm_use : (k : ℕ) (occ : Occ) → slice_get f.occs k ≡ Some occ → IsUse f k of → IsCalm (context k)) (no_argument : of ≡ ArgumentOf → ⊥) where
    -- it is there
    value-there : (k : ℕ) → IsUse f k of → CalmThere k
    value-there k u = by_call (definer-call f keeps k of call u by)
      where
        by_call : HasCall f call k ⊎ IsOfUnused f call k → CalmThere k
        by_call (inl a) = record { occ = a.occ; is = a.is; calm = calm_use k a.occ a.is u }
        by_call (inr a) = record { occ = a.occ; is = a.is; calm = calm_use k a.occ a.is u }

    -- what stands under it is calm
    calm-under : (k : ℕ) → Under f of k → CalmThere k
    calm-under k (Is j u) = value-there k u
    calm-under k (Part j n part under) = let a = calm-under n under in calm-part-of k n part a.calm
    calm-under k (Called j c e under) =
        let a = the-call f k c e in
        let b = calm-under c under in
        record { occ = a.occ; is = a.is; calm = calm_inside k c a.occ a.is a.call_is b.calm }

    -- what is used as an argument has no other use
    argument-alone : (k : ℕ) (u : Use) → CalmThere k → IsUse f k ArgumentOf → IsUse f k u → u ≡ ArgumentOf
    argument-alone k u at argument h = only-argument f k (uses_of f k) u (once k at.occ at.is) (listed-of-use f k ArgumentOf argument) (listed-of-use f k u h)

    -- one number has one occurrence
    same-call : (a b : Occ) (o : Option Occ) → o ≡ Some a → o ≡ Some b → a.call ≡ b.call
    same-call a b o h g = cc

    -- the argument of a site doesn't stand in the copy of a calm call
    no-argument-called : (k c : ℕ) → HasCall f (Some c) k → IsCalm (context c) → IsUse f k ArgumentOf → ⊥
    no-argument-called k c own h (AsArgument n site is e) =
        let s = keeps.sites n site is in
        let arg = s.called in
        let at = contexts.occs s.number s.occ s.is in
        let there : slice_get f.occs k ≡ Some arg.occ = ap (slice_get f.occs) (sym e) ∙ arg.is in
        let call : s.occ.call ≡ Some c = sym arg.call_is ∙ same-call arg.occ own.occ (slice_get f.occs k) there own.is ∙ own.call_is in
        calm-not-hybrid (context s.number) (calm_inside s.number c s.occ s.is call h) (subst (IsAllowed (context s.number)) s.form at.allowed)

    -- no argument of a site stands under the value
    pub no-argument : (k : ℕ) → Under f of k → IsUse f k ArgumentOf → ⊥
    no-argument k (Is j u) argument = no_argument (argument-alone k of (value-there k u) argument u)
    no-argument k (Part j n part under) argument =
        let a = calm-under k (Part j n part under) in
        let u = used-as-part f k n part in
        not-part n (subst (IsUseAsPart n) (argument-alone k u.of a argument u.use_is) u.part)
    no-argument k (Called j c e under) argument = let b = calm-under c under in no-argument-called k c (the-call f k c e) b.calm argument

  -- no argument of a site stands in an `init` value or in a reset value
  pub sites-apart : (k : ℕ) → IsApart f k → IsUse f k ArgumentOf → ⊥
  sites-apart k (InStart call b under) argument =
      no-argument (StartOf call b) call refl (λ j occ is u. let a = contexts.occs j occ is in subst IsCalm (sym (a.contexts (StartOf call b) u)) tt) (λ e. cc) k under argument
  sites-apart k (InReset call events arm under) argument =
      no-argument (ResetOf call events arm) call refl (λ j occ is u. let a = contexts.occs j occ is in subst IsCalm (sym (a.contexts (ResetOf call events arm) u)) tt) (λ e. cc) k under argument
