-- At an instant of a form of the main block alone, what stands in a discrete or hybrid context is evaluated, and what stands in
-- the copy of a call only with that call.
use Rattle.std.specs.Prelude.{◌≡◌, ℕ, zero, suc, ◌-◌, ◌<◌, true, ◌&&◌, List, [], ◌∷◌, length, slice_get, Option, Some, None}
use Rattle.std.specs.Option.{option_map, option_and_then}
use Rattle.std.proofs.Common.{refl, sym, ap, ◌∙◌, subst, inl, inr, ⊎_elim, arith}
use Rattle.std.proofs.lemmas.Option.{slice_get_within}
use Rattle.zl_value.specs.Lists.{Has}
use Rattle.zl_meaning.specs.FlatForm.{FlatForm, CalledIn, Here, Inside, call_of}
use Rattle.zl_meaning.specs.Uses.{Use, PartOf, BranchOf, DefinerOf, SlopeOf, EventOf, StartOf, ResetOf, TestOf, ArgumentOf, AgainOf, IsUse, AsSlope, AsEvent, AsAgain, IsUnused, uses_of}
use Rattle.zl_meaning.specs.Branches.{IsPart}
use Rattle.zl_meaning.specs.Copies.{IsByDefiner, IsOfUnused}
use Rattle.zl_meaning.specs.State.{Node, State, AtControl, AtUsed, is_active}
use Rattle.zl_meaning.specs.Moment.{Moment, is_called}
use Rattle.zl_meaning.specs.Occurrences.{asks, is_asked, used_of}
use Rattle.zl_meaning.specs.Equation.{equation}
use Rattle.zl_meaning.specs.Regular.{Context, Plainly, WithLast, Discrete, Hybrid, context_of_block, is_hybrid_block, body_context, called_context, branch_context, part_context, form_in, use_context, IsAllowed, IsRegular}
use Rattle.zl_meaning.specs.WellFormed.{IsCalled, IsAgain, IsWellFormed}
use Rattle.zl_meaning.specs.declared.occurrence.Form.{Form}
use Rattle.zl_meaning.specs.declared.occurrence.Form.TheVariants.{Lit, Read, Last, Op as Apply, If, Arrow, Pre, Result, Up, Fired, Step}
use Rattle.zl_meaning.specs.declared.occurrence.Occ.{Occ}
use Rattle.zl_meaning.proofs.Greatest.{most_below, below-most}
use Rattle.zl_meaning.proofs.Members.{all-has, has-any, both-hold}
use Rattle.zl_meaning.proofs.UseCases.{use-of-listed}
use Rattle.zl_meaning.proofs.WrittenForms.{some-same}
use Rattle.zl_meaning.proofs.GradesKept.Outer.{definer-in-copy}
use Rattle.zl_meaning.proofs.GradesKept.UsesSay.{none-listed, whole-of-part, whole-of-branch, slope-stands, asked-by}
use Rattle.zl_levels.specs.MainForm.{IsMainForm}
use Rattle.zl_levels.specs.Standing.{IsStanding, HasStandingCalls}
use Rattle.zl_levels.proofs.Untested.{no_test}

not_plainly : IsStanding Plainly → ⊥
not_plainly (inl p) = let z : Plainly ≡ Discrete = p in let g : ⊥ = cc in g
not_plainly (inr p) = let z : Plainly ≡ Hybrid = p in let g : ⊥ = cc in g

not_last : IsStanding WithLast → ⊥
not_last (inl p) = let z : WithLast ≡ Discrete = p in let g : ⊥ = cc in g
not_last (inr p) = let z : WithLast ≡ Hybrid = p in let g : ⊥ = cc in g

standing_body : (block c : Context) → IsStanding (body_context block c) → IsStanding c
standing_body block Plainly s = absurd (not_plainly s)
standing_body block WithLast s = absurd (not_last s)
standing_body block Discrete s = inl refl
standing_body block Hybrid s = inr refl

no_branch : (c : Context) → IsStanding (branch_context c) → ⊥
no_branch Plainly s = not_plainly s
no_branch WithLast s = not_last s
no_branch Discrete s = not_last s
no_branch Hybrid s = not_plainly s

standing_part : (block c : Context) (form : Form) → IsAllowed c form → IsStanding (part_context block c (Some form)) → IsStanding c
standing_part block c (Arrow x y) a m = inl a
standing_part block c (Pre x) a m = inl a
standing_part block c (Result x) a m = standing_body block c m
standing_part block c (Lit v) a m = m
standing_part block c (Read v) a m = m
standing_part block c (Last v) a m = m
standing_part block c (Apply op ks) a m = m
standing_part block c (If x y z) a m = m
standing_part block c (Up v) a m = m
standing_part block c (Fired v) a m = m
standing_part block c Step a m = absurd a

-- the body of a call that stands so
abbrev pub CallStands : (ℕ → Context) → Option ℕ → Type 0
CallStands context None = Unit {0}
CallStands context (Some c) = IsStanding (context c)

pub standing_called : (context : ℕ → Context) (block : Context) (call : Option ℕ) → IsStanding (called_context context block call) → CallStands context call
standing_called context block None s = tt
standing_called context block (Some c) s = standing_body block (context c) s

module _ (f : FlatForm) (w : IsWellFormed f) (main : IsMainForm f) (regular : IsRegular f) where
  -- the call of a `der` stands so
  pub der_stands : (k : ℕ) (call : Option ℕ) → IsUse f k (SlopeOf call) → (occ : Occ) → slice_get f.occs k ≡ Some occ → CallStands regular.context call
  der_stands k call named occ is = standing_called regular.context (context_of_block (is_hybrid_block f occ.block)) call (inr ((regular.occs k occ is).equations (SlopeOf call) named))

  pub start_stands : (k b : ℕ) (call : Option ℕ) → IsUse f k (StartOf call b) → (occ : Occ) → slice_get f.occs k ≡ Some occ → CallStands regular.context call
  start_stands k b call named occ is = standing_called regular.context (context_of_block (is_hybrid_block f occ.block)) call ((regular.occs k occ is).equations (StartOf call b) named)

  abbrev highest : ℕ
  highest = most_below w.heights.height (length f.occs)

  lower_call : (k c : ℕ) → call_of f k ≡ Some c → (o : Occ) × (slice_get f.occs c ≡ Some o) × (w.heights.height k < w.heights.height c)
  lower_call k c at = by (slice_get f.occs k) refl at
    where
      there : (occ : Occ) → slice_get f.occs k ≡ Some occ → occ.call ≡ Some c → (o : Occ) × (slice_get f.occs c ≡ Some o) × (w.heights.height k < w.heights.height c)
      there occ is e =
          let stands : IsCalled f occ.block (Some c) = subst (IsCalled f occ.block) e (w.occs k occ is).call in
          (stands.0, stands.1, w.heights.calls k c occ is e)

      by : (o : Option Occ) → slice_get f.occs k ≡ o → option_and_then (λ (occ : Occ). occ.call) o ≡ Some c → (o : Occ) × (slice_get f.occs c ≡ Some o) × (w.heights.height k < w.heights.height c)
      by None is e = absurd cc
      by (Some occ) is e = there occ is e

  lower_called : (c k : ℕ) → CalledIn f c k → (o : Occ) × (slice_get f.occs c ≡ Some o) × (w.heights.height k < w.heights.height c)
  lower_called c k (Here _ e) = lower_call k c e
  lower_called c k (Inside _ d e inner) =
      let a = (lower_call k d e).2 in
      let x = lower_called c d inner in
      let b = x.2 in
      (x.0, x.1, omega (arith, a, b))

  module _ (m : Moment) (s : State) (solves : (a : Node) → s a ≡ equation f m s a) (active : is_active (s (AtControl 0)) ≡ true) where
    pub used_is : (k : ℕ) (occ : Occ) → slice_get f.occs k ≡ Some occ → s (AtUsed k) ≡ is_asked m s occ.call (uses_of f k)
    unfolding equation
    used_is k occ is =
        solves (AtUsed k) ∙ ap (λ o. used_of f m s k o) is
        ∙ ap (λ t. t && is_asked m s occ.call (uses_of f k)) (ap (λ b. is_active (s (AtControl b))) (main.occs k occ is) ∙ active)

    -- what a named asks for is evaluated
    pub used_by : (k : ℕ) (occ : Occ) → slice_get f.occs k ≡ Some occ → (of : Use) → IsUse f k of → asks m s of ≡ true → s (AtUsed k) ≡ true
    used_by k occ is of named e = used_is k occ is ∙ asked-by f k m s occ.call of named e

    module _ (k : ℕ) (occ : Occ) (is : slice_get f.occs k ≡ Some occ) (stands : IsStanding (regular.context k)) (above : (j : ℕ) (o : Occ) → slice_get f.occs j ≡ Some o → w.heights.height k < w.heights.height j → IsStanding (regular.context j) → s (AtUsed j) ≡ true) where
      called : (call : Option ℕ) → CallStands regular.context call → ((c : ℕ) → call ≡ Some c → CalledIn f c k) → is_called s call ≡ true
      called None t inner = refl
      called (Some c) t inner = let x = lower_called c k (inner c refl) in above c x.0 x.1 x.2 t

      by_definer : (of : Use) (call : Option ℕ) → IsUse f k of → IsByDefiner of call → CallStands regular.context call → is_called s call ≡ true
      by_definer of call named by t = called call t (λ c e. definer-in-copy f w regular k c of call named by e)

      context_is : (of : Use) → IsUse f k of → IsStanding (use_context regular.context (form_in f) (context_of_block (is_hybrid_block f occ.block)) of)
      context_is of named = subst (λ c. IsStanding c) ((regular.occs k occ is).contexts of named) stands

      of_event : (call : Option ℕ) → IsUse f k (EventOf call) → CallStands regular.context call
      of_event call (AsEvent p b slope resets arm _ has _ _ at) =
          let named : IsUse f slope (SlopeOf call) = AsSlope p b resets call has at in
          let there = slope-there slope call named in
          der_stands slope call named there.0 there.1
        where
          slope-there : (j : ℕ) (c : Option ℕ) → IsUse f j (SlopeOf c) → (o : Occ) × (slice_get f.occs j ≡ Some o)
          slope-there j c named = let z = slope-stands f j w c named in (z.1.occ, z.1.is)

      asked : (of : Use) → IsUse f k of → asks m s of ≡ true
      asked (PartOf whole) named =
          let part = whole-of-part f k whole named in
          let block = context_of_block (is_hybrid_block f occ.block) in
          let t = subst (λ form. IsStanding (part_context block (regular.context whole) form)) (ap (λ o. option_map (λ (z : Occ). z.form) o) part.is) (context_is (PartOf whole) named) in
          above whole part.occ part.is (w.heights.parts whole k part.occ part.is part.part) (standing_part block (regular.context whole) part.occ.form (regular.occs whole part.occ part.is).allowed t)
      asked (BranchOf whole c side) named = absurd (no_branch (regular.context whole) (context_is (BranchOf whole c side) named))
      asked (DefinerOf call) named = by_definer (DefinerOf call) call named refl (standing_called regular.context _ call (context_is (DefinerOf call) named))
      asked (SlopeOf call) named = by_definer (SlopeOf call) call named refl (der_stands k call named occ is)
      asked (EventOf call) named = by_definer (EventOf call) call named refl (of_event call named)
      asked (StartOf call b) named = absurd (not_last (context_is (StartOf call b) named))
      asked (ResetOf call events arm) named = absurd (not_last (context_is (ResetOf call events arm) named))
      asked TestOf named = absurd (no_test f main w k named)
      asked ArgumentOf named = refl
      asked AgainOf named = refl

      is_used : s (AtUsed k) ≡ true
      is_used = by (uses_of f k) refl
        where
          by : (us : List Use) → uses_of f k ≡ us → s (AtUsed k) ≡ true
          by [] e =
              used_is k occ is ∙ ap (λ us. is_asked m s occ.call us) e
              ∙ called occ.call (standing_called regular.context _ occ.call (subst (λ c. IsStanding c) ((regular.occs k occ is).unused (none-listed f k e)) stands)) (λ c q. Here k (ap (option_and_then (λ (o : Occ). o.call)) is ∙ q))
          by (u ∷ us) e =
              let named = use-of-listed f k u (subst (λ l. Has l u) (sym e) (record { index = 0; is = refl })) in
              used_by k occ is u named (asked u named)

    upward : (n k : ℕ) (occ : Occ) → slice_get f.occs k ≡ Some occ → highest - w.heights.height k < n → IsStanding (regular.context k) → s (AtUsed k) ≡ true
    upward zero k occ is l stands = absurd (omega (arith, l))
    upward (suc n) k occ is l stands =
        is_used k occ is stands
        (λ j o at low t. let most = below-most w.heights.height (length f.occs) j (slice_get_within f.occs j o at) in upward n j o at (omega (arith, l, low, most)) t)

    -- what stands in a discrete or hybrid context is evaluated
    pub standing_used : (k : ℕ) (occ : Occ) → slice_get f.occs k ≡ Some occ → IsStanding (regular.context k) → s (AtUsed k) ≡ true
    standing_used k occ is stands = upward (suc (highest - w.heights.height k)) k occ is (omega arith) stands

    -- a call that stands so is evaluated
    pub call_on : (b : ℕ) (call : Option ℕ) → IsCalled f b call → CallStands regular.context call → is_called s call ≡ true
    call_on b None there stands = refl
    call_on b (Some c) there stands = standing_used c there.0 there.1 stands

    -- ---- with its call
    module _ (steady : HasStandingCalls f regular) (c : ℕ) where
      same_call : (call : Option ℕ) → call ≡ Some c → is_called s call ≡ true → s (AtUsed c) ≡ true
      same_call call e t = sym (ap (λ o. is_called s o) e) ∙ t

      module _ (k : ℕ) (at : call_of f k ≡ Some c) (above : (j : ℕ) → IsPart f k j → call_of f j ≡ Some c → s (AtUsed j) ≡ true → s (AtUsed c) ≡ true) where
        by_whole : (whole : ℕ) → IsPart f k whole → s (AtUsed whole) ≡ true → s (AtUsed c) ≡ true
        by_whole whole part on =
            ⊎_elim (λ same. above whole part (sym same ∙ at) on)
            (λ inner. subst (λ j. s (AtUsed j) ≡ true) (some-same (sym inner ∙ at)) on)
            (regular.copies.parts k whole part)

        unused_called : (whole : ℕ) → IsUnused f whole → call_of f k ≡ Some whole → is_called s (call_of f whole) ≡ true → s (AtUsed whole) ≡ true
        unused_called whole unused of on =
            let there = lower_call k whole of in
            used_is whole there.0 there.1 ∙ by there.0 there.1 (uses_of f whole) refl
          where
            by : (o : Occ) → slice_get f.occs whole ≡ Some o → (us : List Use) → uses_of f whole ≡ us → is_asked m s o.call (uses_of f whole) ≡ true
            by o is [] e = ap (λ us. is_asked m s o.call us) e ∙ ap (λ x. is_called s x) (sym (ap (option_and_then (λ (y : Occ). y.call)) is)) ∙ on
            by o is (u ∷ us) e = absurd (unused u (use-of-listed f whole u (subst (λ l. Has l u) (sym e) (record { index = 0; is = refl }))))

        by_place : (of : Use) (call : Option ℕ) → IsUse f k of → IsByDefiner of call → is_called s call ≡ true → s (AtUsed c) ≡ true
        by_place of call named by on =
            ⊎_elim (λ own. same_call call (sym own ∙ at) on)
            (λ (u : IsOfUnused f call k).
            subst (λ j. s (AtUsed j) ≡ true) (some-same (sym u.of ∙ at)) (unused_called u.whole u.unused u.of (ap (λ x. is_called s x) u.outer ∙ on)))
            (regular.copies.definers k of call named by)

        by_use : (of : Use) → IsUse f k of → asks m s of ≡ true → s (AtUsed c) ≡ true
        by_use (PartOf whole) named on = by_whole whole (whole-of-part f k whole named) on
        by_use (BranchOf whole d side) named on = by_whole whole (whole-of-branch f k whole d side named) (both-hold on).0
        by_use (DefinerOf call) named on = by_place (DefinerOf call) call named refl on
        by_use (SlopeOf call) named on = by_place (SlopeOf call) call named refl on
        by_use (EventOf call) named on = by_place (EventOf call) call named refl on
        by_use (StartOf call b) named on = by_place (StartOf call b) call named refl (both-hold on).0
        by_use (ResetOf call events arm) named on = by_place (ResetOf call events arm) call named refl (both-hold on).0
        by_use TestOf named on = absurd (no_test f main w k named)
        by_use ArgumentOf named on = let there = lower_call k c at in standing_used c there.0 there.1 (steady.sites k c named (Here k at))
        by_use AgainOf named on = absurd (of_again named)
          where
            of_again : IsUse f k AgainOf → ⊥
            of_again (AsAgain h) =
                let again : IsAgain f k = all-has (IsAgain f) f.again k w.again h in
                let none : call_of f k ≡ None = ap (option_and_then (λ (o : Occ). o.call)) again.is ∙ again.call in
                let z : None ≡ Some c = sym none ∙ at in
                let g : ⊥ = cc in
                g

        with_call : (occ : Occ) → slice_get f.occs k ≡ Some occ → s (AtUsed k) ≡ true → s (AtUsed c) ≡ true
        with_call occ is on = by (uses_of f k) refl (sym (used_is k occ is) ∙ on)
          where
            by : (us : List Use) → uses_of f k ≡ us → is_asked m s occ.call (uses_of f k) ≡ true → s (AtUsed c) ≡ true
            by [] e t = same_call occ.call (sym (ap (option_and_then (λ (o : Occ). o.call)) is) ∙ at) (ap (λ us. is_asked m s occ.call us) (sym e) ∙ t)
            by (u ∷ us) e t =
                let found = has-any (asks m s) (u ∷ us) (ap (λ l. is_asked m s occ.call l) (sym e) ∙ t) in
                by_use found.element (use-of-listed f k found.element (subst (λ l. Has l found.element) (sym e) found.has)) found.meets

      owned : (n k : ℕ) (occ : Occ) → slice_get f.occs k ≡ Some occ → highest - w.heights.height k < n → call_of f k ≡ Some c → s (AtUsed k) ≡ true → s (AtUsed c) ≡ true
      owned zero k occ is l at on = absurd (omega (arith, l))
      owned (suc n) k occ is l at on =
          with_call k at
          (λ j part at_j on_j.
          let low = w.heights.parts j k part.occ part.is part.part in
          let most = below-most w.heights.height (length f.occs) j (slice_get_within f.occs j part.occ part.is) in
          owned n j part.occ part.is (omega (arith, l, low, most)) at_j on_j)
          occ is on

      pub with_own : (k : ℕ) → call_of f k ≡ Some c → s (AtUsed k) ≡ true → s (AtUsed c) ≡ true
      with_own k at on = by (slice_get f.occs k) refl
        where
          by : (o : Option Occ) → slice_get f.occs k ≡ o → s (AtUsed c) ≡ true
          by None is = absurd (let z : None ≡ Some c = sym (ap (option_and_then (λ (y : Occ). y.call)) is) ∙ at in let g : ⊥ = cc in g)
          by (Some occ) is = owned (suc (highest - w.heights.height k)) k occ is (omega arith) at on

    -- what stands in the copy of a call is evaluated only with it
    pub with_called : HasStandingCalls f regular → (c k : ℕ) → CalledIn f c k → s (AtUsed k) ≡ true → s (AtUsed c) ≡ true
    with_called steady c k (Here _ e) on = with_own steady c k e on
    with_called steady c k (Inside _ d e inner) on = with_called steady c d inner (with_own steady d k e on)
