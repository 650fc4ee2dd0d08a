-- What stands in the copy of a call, other than the argument of a site, is evaluated only with that call.
use Rattle.std.specs.Prelude.{◌≡◌, ◌⊎◌, ℕ, zero, suc, ◌-◌, ◌<◌, List, [], ◌∷◌, length, slice_get, Option, Some, None, IfSome}
use Rattle.std.specs.Option.{option_map, option_and_then}
use Rattle.std.proofs.Common.{refl, sym, ap, ◌∙◌, subst, ⊎_elim, inl, inr, arith}
use Rattle.std.proofs.lemmas.Option.{slice_get_within}
use Rattle.zl_value.specs.Lists.{Has}
use Rattle.zl_meaning.specs.FlatForm.{FlatForm, HasForm, CalledIn, Here, CalledIn.Inside as Further, call_of, place_call}
use Rattle.zl_meaning.specs.Uses.{Use, PartOf, BranchOf, DefinerOf, SlopeOf, EventOf, StartOf, ResetOf, TestOf, ArgumentOf, AgainOf, IsUse, IsUnused, uses_of}
use Rattle.zl_meaning.specs.Branches.{IsPart}
use Rattle.zl_meaning.specs.Copies.{IsByDefiner, IsOfUnused}
use Rattle.zl_meaning.specs.Regular.{Context, Plainly, WithLast, Discrete, context_of_block, body_context, called_context, branch_context, part_context, use_context, form_in, is_hybrid_block, IsAllowed, IsRegular}
use Rattle.zl_meaning.specs.WellFormed.{IsWellFormed, IsCalled}
use Rattle.zl_meaning.specs.declared.occurrence.Form.{Form}
use Rattle.zl_meaning.specs.declared.occurrence.Form.TheVariants.{Lit, Read, Last, Op as Apply, If, Arrow, Pre, Result, Up, Fired, Step}
use Rattle.zl_meaning.specs.declared.occurrence.Occ.{Occ}
use Rattle.zl_meaning.specs.declared.place.PlaceInfo.{PlaceInfo}
use Rattle.zl_meaning.proofs.Greatest.{most_below, below-most}
use Rattle.zl_meaning.proofs.UseCases.{use-of-listed}
use Rattle.zl_meaning.proofs.WrittenForms.{some-same}
use Rattle.zl_meaning.proofs.GradesKept.UsesSay.{none-listed, whole-of-part, whole-of-branch}
use Rattle.zl_normal.specs.Evaluated.{owner_of, IsOnlyWith, Itself, ByUses, ByCall, Outside, KeepsLasts}
use Rattle.zl_normal.specs.MainBlock.{IsMain}
use Rattle.zl_premises.specs.Lasts.{HasLastsInCopies}
use Rattle.zl_premises.proofs.CalmCopies.{IsCalm, CalmCall, IsThere, has_call, again_called, event_slope, reset_slope, no_slope, no_start}
use Rattle.zl_premises.proofs.Untested.{no_test}

-- combinatorial without `last`: so are the arguments of sites
abbrev IsPlain : Context → Type 0
IsPlain c = c ≡ Plainly

plain_calm : (c : Context) → IsPlain c → IsCalm c
plain_calm c e = subst (λ x. IsCalm x) (sym e) tt

plain_body : (block c : Context) → IsPlain c → IsPlain (body_context block c)
plain_body block c e = ap (λ x. body_context block x) e

plain_branch : (c : Context) → IsPlain c → IsPlain (branch_context c)
plain_branch c e = ap (λ x. branch_context x) e

-- all that is a part there is plain
plain_part : (block c : Context) (form : Form) → IsAllowed c form → IsPlain c → IsPlain (part_context block c (Some form))
plain_part block c (Arrow x y) a e = absurd (let z : Plainly ≡ Discrete = sym e ∙ a in let g : ⊥ = cc in g)
plain_part block c (Pre x) a e = absurd (let z : Plainly ≡ Discrete = sym e ∙ a in let g : ⊥ = cc in g)
plain_part block c (Result x) a e = plain_body block c e
plain_part block c (Lit v) a e = e
plain_part block c (Read v) a e = e
plain_part block c (Last v) a e = e
plain_part block c (Apply op ks) a e = e
plain_part block c (If x y z) a e = e
plain_part block c (Up v) a e = e
plain_part block c (Fired v) a e = e
plain_part block c Step a e = absurd a

-- `last` stands nowhere there
last_not_plain : (c : Context) (p : ℕ) → IsAllowed c (Last p) → IsPlain c → ⊥
last_not_plain c p (inl a) e = let z : Plainly ≡ WithLast = sym e ∙ a in let g : ⊥ = cc in g
last_not_plain c p (inr a) e = let z : Plainly ≡ Discrete = sym e ∙ a in let g : ⊥ = cc in g

abbrev or_none : Option ℕ → ℕ
or_none None = 0
or_none (Some n) = n

-- what stands in the copy of a call has a call, which is that one or stands in its copy
record IsCalledIn (f : FlatForm) (call k : ℕ) : Type 0 where
  pub inner : ℕ
  pub is : call_of f k ≡ Some inner
  pub further : (inner ≡ call) ⊎ CalledIn f call inner

called_in : (f : FlatForm) (call k : ℕ) → CalledIn f call k → IsCalledIn f call k
called_in f call _ (Here k e) = record { inner = call; is = e; further = inl refl }
called_in f call _ (Further k inner e rest) = record { inner = inner; is = e; further = inr rest }

-- what stands in it is an occurrence, and so is what stands beside it
called_there : (f : FlatForm) (call k : ℕ) → CalledIn f call k → IsThere f k
called_there f call k inside = let r = called_in f call k inside in has_call f k r.inner r.is

called_with : (f : FlatForm) (call k inner : ℕ) → call_of f k ≡ Some inner → (inner ≡ call) ⊎ CalledIn f call inner → CalledIn f call k
called_with f call k inner e (inl same) = Here k (e ∙ ap (λ n. Some n) same)
called_with f call k inner e (inr rest) = Further k inner e rest

-- so is the call of a place
place_there : (f : FlatForm) → IsWellFormed f → (p call : ℕ) → place_call f p ≡ Some call → IsThere f call
place_there f well p call at = by (slice_get f.places p) refl at
  where
    by : (entry : Option PlaceInfo) → slice_get f.places p ≡ entry → option_and_then (λ (place : PlaceInfo). place.call) entry ≡ Some call → IsThere f call
    by None is e = absurd cc
    by (Some place) is e = let called = subst (λ o. IsCalled f place.block o) e (well.places p place is).call in (called.0, called.1)

module _ (f : FlatForm) (well : IsWellFormed f) (main : IsMain f) (regular : IsRegular f) (call : ℕ) (named : IsUnused f call → call_of f call ≡ None → ⊥) where
  abbrev Only : ℕ → Type 0
  Only = IsOnlyWith f call

  abbrev Plain : ℕ → Type 0
  Plain k = IsPlain (regular.context k)

  -- the owner of the use is evaluated only with the call
  record IsOwned (of : Use) : Type 0 where
    pub owner : ℕ
    pub is : owner_of of ≡ Some owner
    pub only : Only owner

  -- of one that stands in the copy, all that is higher and stands there is known
  module _ (k : ℕ) (occ : Occ) (is : slice_get f.occs k ≡ Some occ) (plain_not : Plain k → ⊥) (at : IsCalledIn f call k) (above : (k_above : ℕ) → IsThere f k_above → well.heights.height k < well.heights.height k_above → (Plain k_above → ⊥) → CalledIn f call k_above → Only k_above) where
    abbrev block : Context
    block = context_of_block (is_hybrid_block f occ.block)

    context_is : (of : Use) → IsUse f k of → regular.context k ≡ use_context regular.context (form_in f) block of
    context_is of used = (regular.occs k occ is).contexts of used

    refuse : (of : Use) → IsUse f k of → IsPlain (use_context regular.context (form_in f) block of) → ⊥
    refuse of used e = plain_not (context_is of used ∙ e)

    -- its call
    own_call : occ.call ≡ Some at.inner
    own_call = sym (ap (option_and_then (λ (o : Occ). o.call)) is) ∙ at.is

    inner_only : (Plain at.inner → ⊥) → Only at.inner
    inner_only not = ⊎_elim (λ same. subst Only (sym same) Itself) further at.further
      where
        further : CalledIn f call at.inner → Only at.inner
        further rest = above at.inner (called_there f call at.inner rest) (well.heights.calls k at.inner occ is own_call) not rest

    -- a whole
    whole_only : (whole : ℕ) → IsPart f k whole → (Plain whole → ⊥) → Only whole
    whole_only whole part not = ⊎_elim outside (λ inner. let same : at.inner ≡ whole = some-same (sym at.is ∙ inner) in subst Only same (inner_only (λ e. not (subst Plain same e)))) (regular.copies.parts k whole part)
      where
        outside : call_of f k ≡ call_of f whole → Only whole
        outside same = above whole (part.occ, part.is) (well.heights.parts whole k part.occ part.is part.part) not (called_with f call whole at.inner (sym same ∙ at.is) at.further)

    -- a definer of a place in the copy of a call that isn't plain
    module _ (of : Use) (own : Option ℕ) (used : IsUse f k of) (by : IsByDefiner of own) (owns : owner_of of ≡ own) (not : (c : ℕ) → own ≡ Some c → Plain c → ⊥) where
      owned_as : (c : ℕ) → own ≡ Some c → Only c → IsOwned of
      owned_as c e only = record { owner = c; is = owns ∙ e; only = only }

      owned_inside : call_of f k ≡ own → IsOwned of
      owned_inside same = let e : own ≡ Some at.inner = sym same ∙ at.is in owned_as at.inner e (inner_only (not at.inner e))

      -- the result of `call` itself, which nothing uses
      owned_outside : IsUnused f call → (c : Option ℕ) → own ≡ c → call_of f call ≡ c → IsOwned of
      owned_outside unused None e is_call = absurd (named unused is_call)
      owned_outside unused (Some c) e is_call =
          let there = has_call f call c is_call in
          let same : (there.0).call ≡ Some c = sym (ap (option_and_then (λ (o : Occ). o.call)) there.1) ∙ is_call in
          owned_as c e (Outside c there.0 there.1 unused (subst (λ o. IfSome o (λ outer. outer ≡ c)) (sym same) refl))

      -- the result of a call that stands in the copy
      owned_between : CalledIn f call at.inner → call_of f at.inner ≡ own → IsOwned of
      owned_between rest outer =
          let r = called_in f call at.inner rest in
          let e : own ≡ Some r.inner = sym outer ∙ r.is in
          let there = called_there f call at.inner rest in
          let low = well.heights.calls k at.inner occ is own_call in
          let high = well.heights.calls at.inner r.inner there.0 there.1 (sym (ap (option_and_then (λ (o : Occ). o.call)) there.1) ∙ r.is) in
          owned_as r.inner e (⊎_elim (λ same. subst Only (sym same) Itself) (λ further. above r.inner (called_there f call r.inner further) (omega (arith, low, high)) (not r.inner e) further) r.further)

      of_unused : IsOfUnused f own k → IsOwned of
      of_unused u =
          let same : at.inner ≡ u.whole = some-same (sym at.is ∙ u.of) in
          ⊎_elim (λ e. let whole : u.whole ≡ call = sym same ∙ e in owned_outside (subst (λ n. IsUnused f n) whole u.unused) own refl (subst (λ n. call_of f n ≡ own) whole u.outer))
          (λ rest. owned_between rest (subst (λ n. call_of f n ≡ own) (sym same) u.outer)) at.further

      owned_by_definer : IsOwned of
      owned_by_definer = ⊎_elim owned_inside of_unused (regular.copies.definers k of own used by)

    -- what is called in a plain copy is plain
    not_called : (of : Use) (own : Option ℕ) → IsUse f k of → use_context regular.context (form_in f) block of ≡ called_context regular.context block own → (c : ℕ) → own ≡ Some c → Plain c → ⊥
    not_called of own used same c e plain =
        refuse of used (same ∙ ap (λ o. called_context regular.context block o) e ∙ plain_body block (regular.context c) plain)

    calm_in : (own : Option ℕ) (c : ℕ) → own ≡ Some c → Plain c → CalmCall f well main regular own
    calm_in own c e plain = subst (λ o. CalmCall f well main regular o) (sym e) (plain_calm (regular.context c) plain)

    no_der : (own : Option ℕ) → (slope : ℕ) × IsThere f slope × IsUse f slope (SlopeOf own) → (c : ℕ) → own ≡ Some c → Plain c → ⊥
    no_der own der c e plain = no_slope f well main regular der.0 own der.2 der.1.0 der.1.1 (calm_in own c e plain)

    owned : (of : Use) → IsUse f k of → IsOwned of
    owned (PartOf whole) used =
        let part = whole-of-part f k whole used in
        record {
          owner = whole;
          is = refl;
          only = whole_only whole part (λ e.
              refuse (PartOf whole) used (subst (λ form. IsPlain (part_context block (regular.context whole) form)) (sym (ap (option_map (λ (z : Occ). z.form)) part.is))
              (plain_part block (regular.context whole) part.occ.form (regular.occs whole part.occ part.is).allowed e)));
        }
    owned (BranchOf whole c side) used = record {
      owner = whole;
      is = refl;
      only = whole_only whole (whole-of-branch f k whole c side used) (λ e. refuse (BranchOf whole c side) used (plain_branch (regular.context whole) e));
    }
    owned (DefinerOf own) used = owned_by_definer (DefinerOf own) own used refl refl (not_called (DefinerOf own) own used refl)
    owned (SlopeOf own) used = owned_by_definer (SlopeOf own) own used refl refl (not_called (SlopeOf own) own used refl)
    owned (EventOf own) used = owned_by_definer (EventOf own) own used refl refl (no_der own (event_slope f well k own used))
    owned (StartOf own b) used = owned_by_definer (StartOf own b) own used refl refl (λ c e plain. no_start f well main regular k b own used occ is (calm_in own c e plain))
    owned (ResetOf own events arm) used = owned_by_definer (ResetOf own events arm) own used refl refl (no_der own (reset_slope f well k own events arm used))
    owned TestOf used = absurd (no_test f main well k used)
    owned ArgumentOf used = absurd (refuse ArgumentOf used refl)
    owned AgainOf used = absurd (again_called f well k at.inner used at.is)

    only_with : Only k
    only_with = by_uses (uses_of f k) refl
      where
        by_uses : (us : List Use) → uses_of f k ≡ us → Only k
        by_uses [] e =
            let unused = none-listed f k e in
            ByCall k at.inner unused at.is
            (inner_only (λ plain. plain_not ((regular.occs k occ is).unused unused ∙ ap (λ o. called_context regular.context block o) own_call ∙ plain_body block (regular.context at.inner) plain)))
        by_uses (u ∷ us) e =
            ByUses k u (λ of. or_none (owner_of of)) (use-of-listed f k u (subst (λ l. Has l u) (sym e) (record { index = 0; is = refl })))
            (λ of used. let o = owned of used in o.is ∙ ap (λ x. Some (or_none x)) (sym o.is))
            (λ of used. let o = owned of used in subst (λ x. Only x) (ap (λ x. or_none x) (sym o.is)) o.only)

  -- by height
  abbrev highest : ℕ
  highest = most_below well.heights.height (length f.occs)

  upward : (n k : ℕ) → IsThere f k → highest - well.heights.height k < n → (Plain k → ⊥) → CalledIn f call k → Only k
  upward zero k there l not inside = absurd (omega (arith, l))
  upward (suc n) k there l not inside =
      only_with k there.0 there.1 not (called_in f call k inside)
      (λ higher is low not_higher inside_higher.
      let most = below-most well.heights.height (length f.occs) higher (slice_get_within f.occs higher is.0 is.1) in
      upward n higher is (omega (arith, l, low, most)) not_higher inside_higher)

  last_only : (k p : ℕ) → HasForm f k (Last p) → CalledIn f call k → Only k
  last_only k p form inside =
      upward (suc (highest - well.heights.height k)) k (form.0, form.1) (omega arith)
      (last_not_plain (regular.context k) p (subst (λ x. IsAllowed (regular.context k) x) form.2 (regular.occs k form.0 form.1).allowed)) inside

pub lasts_are_kept : (f : FlatForm) → IsWellFormed f → IsMain f → IsRegular f → HasLastsInCopies f → KeepsLasts f
lasts_are_kept f well main regular copies k p call form at = by there.0.call refl (uses_of f call) refl
  where
    inside : CalledIn f call k
    inside = copies k p call form at

    -- the call is an occurrence
    there : IsThere f call
    there = place_there f well p call at

    outer_is : (own : Option ℕ) → there.0.call ≡ own → call_of f call ≡ own
    outer_is own e = ap (option_and_then (λ (o : Occ). o.call)) there.1 ∙ e

    by : (own : Option ℕ) → there.0.call ≡ own → (us : List Use) → uses_of f call ≡ us → IsOnlyWith f call k
    by None e [] none = Outside k there.0 there.1 (none-listed f call none) (subst (λ o. IfSome o (λ outer. outer ≡ k)) (sym e) tt)
    by None e (u ∷ us) some =
        last_only f well main regular call (λ unused _. unused u (use-of-listed f call u (subst (λ l. Has l u) (sym some) (record { index = 0; is = refl })))) k p form inside
    by (Some outer) e us _ =
        last_only f well main regular call (λ unused none. let z : None ≡ Some outer = sym none ∙ outer_is (Some outer) e in let g : ⊥ = cc in g) k p form inside
