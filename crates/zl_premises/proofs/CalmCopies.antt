-- In combinatorial contexts, with `last` or without, all that is called is combinatorial: so no `init` stands in a copy there.
use Rattle.std.specs.Prelude.{◌≡◌, ℕ, zero, suc, ◌-◌, ◌<◌, Bool, true, false, List, [], ◌∷◌, length, slice_get, Option, Some, None}
use Rattle.std.specs.Option.{option_map, option_and_then}
use Rattle.std.proofs.Common.{refl, sym, ap, ◌∙◌, subst, ⊎_elim, inl, inr, arith}
use Rattle.std.proofs.lemmas.Option.{slice_get_within}
use Rattle.zl_value.specs.Lists.{Has}
use Rattle.zl_meaning.specs.FlatForm.{FlatForm, call_of}
use Rattle.zl_meaning.specs.Uses.{Use, PartOf, BranchOf, DefinerOf, SlopeOf, EventOf, StartOf, ResetOf, TestOf, ArgumentOf, AgainOf, IsUse, AsSlope, AsEvent, AsStart, AsReset, AsAgain, uses_of}
use Rattle.zl_meaning.specs.Branches.{IsPart, Under, Is, Part, Called}
use Rattle.zl_meaning.specs.Copies.{IsByDefiner, IsOfUnused}
use Rattle.zl_meaning.specs.Regular.{Context, Plainly, WithLast, Discrete, Hybrid, context_of_block, body_context, called_context, branch_context, part_context, use_context, form_in, is_hybrid_block, IsAllowed, IsRegular}
use Rattle.zl_meaning.specs.WellFormed.{IsWellFormed, IsAgain, named_in}
use Rattle.zl_meaning.specs.declared.place.Definer.TheVariants.{Der, Start}
use Rattle.zl_meaning.specs.declared.occurrence.Form.{Form}
use Rattle.zl_meaning.specs.declared.occurrence.Form.TheVariants.{Lit, Read, Last, Op as Apply, If, Arrow, Pre, Result, Up, Fired, Step}
use Rattle.zl_meaning.specs.declared.occurrence.Occ.{Occ}
use Rattle.zl_meaning.proofs.Greatest.{most_below, below-most}
use Rattle.zl_meaning.proofs.LevelLists.{named-value}
use Rattle.zl_meaning.proofs.Members.{all-has, has-later}
use Rattle.zl_meaning.proofs.Standing.{IsUsedIn, definer-in, part-in, part-used}
use Rattle.zl_meaning.proofs.UseCases.{use-of-listed}
use Rattle.zl_meaning.proofs.WrittenForms.{some-same}
use Rattle.zl_meaning.proofs.GradesKept.UsesSay.{none-listed, slope-stands, whole-of-part, whole-of-branch}
use Rattle.zl_normal.specs.MainBlock.{IsMain}
use Rattle.zl_premises.specs.Guards.{KeepsInits}
use Rattle.zl_premises.proofs.Untested.{no_test}

-- combinatorial, with `last` or without
abbrev pub IsCalm : Context → Type 0
IsCalm Plainly = Unit {0}
IsCalm WithLast = Unit {0}
IsCalm Discrete = ⊥
IsCalm Hybrid = ⊥

-- the body of a call is calm exactly where the call is
pub calm_body : (block c : Context) → IsCalm c → IsCalm (body_context block c)
calm_body block Plainly h = tt
calm_body block WithLast h = tt
calm_body block Discrete h = absurd h
calm_body block Hybrid h = absurd h

calm_of_body : (hybrid : Bool) (c : Context) → IsCalm (body_context (context_of_block hybrid) c) → IsCalm c
calm_of_body hybrid Plainly h = tt
calm_of_body hybrid WithLast h = tt
calm_of_body true Discrete h = h
calm_of_body false Discrete h = h
calm_of_body true Hybrid h = h
calm_of_body false Hybrid h = h

calm_branch : (c : Context) → IsCalm (branch_context c)
calm_branch Plainly = tt
calm_branch WithLast = tt
calm_branch Discrete = tt
calm_branch Hybrid = tt

calm_part : (block c : Context) (form : Form) → IsAllowed c form → IsCalm c → IsCalm (part_context block c (Some form))
calm_part block c (Arrow x y) a h = absurd (subst IsCalm a h)
calm_part block c (Pre x) a h = absurd (subst IsCalm a h)
calm_part block c (Result x) a h = calm_body block c h
calm_part block c (Lit v) a h = h
calm_part block c (Read p) a h = h
calm_part block c (Last p) a h = h
calm_part block c (Apply op ks) a h = h
calm_part block c (If x y z) a h = h
calm_part block c (Up s) a h = h
calm_part block c (Fired ks) a h = h
calm_part block c Step a h = absurd a

-- number `k` is an occurrence
abbrev pub IsThere : FlatForm → ℕ → Type 0
IsThere f k = (occ : Occ) × (slice_get f.occs k ≡ Some occ)

-- what has a call is one
pub has_call : (f : FlatForm) (k call : ℕ) → call_of f k ≡ Some call → IsThere f k
has_call f k call at = by (slice_get f.occs k) refl at
  where
    by : (entry : Option Occ) → slice_get f.occs k ≡ entry → option_and_then (λ (o : Occ). o.call) entry ≡ Some call → IsThere f k
    by None is e = absurd cc
    by (Some occ) is e = (occ, is)

-- so is a part, and what an `init` or a reset arm names
part_there : (f : FlatForm) → IsWellFormed f → (k whole : ℕ) → IsPart f k whole → IsThere f k
part_there f well k whole part = let stands = part-in f well k whole part in (stands.1.occ, stands.1.is)

start_there : (f : FlatForm) → IsWellFormed f → (k b : ℕ) (call : Option ℕ) → IsUse f k (StartOf call b) → IsThere f k
start_there f well k b call (AsStart p _ _ has at) =
    let stands = definer-in f well p k (Start b k) has (record { index = 0; is = refl }) in (stands.2.1.occ, stands.2.1.is)

reset_there : (f : FlatForm) → IsWellFormed f → (k : ℕ) (call : Option ℕ) (events : List ℕ) (arm : ℕ) → IsUse f k (ResetOf call events arm) → IsThere f k
reset_there f well k call _ _ (AsReset p b slope n arms arm _ has is e at) =
    let stands = definer-in f well p arm.value (Der b slope arms) has (has-later slope (named_in arms) arm.value (named-value arms arm (record { index = n; is = is }))) in
    (stands.2.1.occ, ap (λ n. slice_get f.occs n) (sym e) ∙ stands.2.1.is)

-- nothing of `again` has a call
pub again_called : (f : FlatForm) → IsWellFormed f → (k call : ℕ) → IsUse f k AgainOf → call_of f k ≡ Some call → ⊥
again_called f well k call (AsAgain h) at =
    let again : IsAgain f k = all-has (IsAgain f) f.again k well.again h in
    let none : call_of f k ≡ None = ap (option_and_then (λ (o : Occ). o.call)) again.is ∙ again.call in
    let z : None ≡ Some call = sym none ∙ at in
    let g : ⊥ = cc in
    g

-- the `der` of an event, and of a reset value, has a derivative in the same copy
pub event_slope : (f : FlatForm) → IsWellFormed f → (k : ℕ) (own : Option ℕ) → IsUse f k (EventOf own) → (slope : ℕ) × IsThere f slope × IsUse f slope (SlopeOf own)
event_slope f well k own (AsEvent p b slope resets arm _ has in_arms e at_place) =
    let used = AsSlope p b resets own has at_place in let stands = (slope-stands f slope well own used).1 in (slope, (stands.occ, stands.is), used)

pub reset_slope : (f : FlatForm) → IsWellFormed f → (k : ℕ) (own : Option ℕ) (events : List ℕ) (arm : ℕ) → IsUse f k (ResetOf own events arm) → (slope : ℕ) × IsThere f slope × IsUse f slope (SlopeOf own)
reset_slope f well k own _ _ (AsReset p b slope n resets arm _ has in_arms e at_place) =
    let used = AsSlope p b resets own has at_place in let stands = (slope-stands f slope well own used).1 in (slope, (stands.occ, stands.is), used)

module _ (f : FlatForm) (well : IsWellFormed f) (main : IsMain f) (regular : IsRegular f) where
  abbrev C : ℕ → Context
  C = regular.context

  abbrev Calm : ℕ → Type 0
  Calm k = IsCalm (C k)

  abbrev pub CalmCall : Option ℕ → Type 0
  CalmCall None = ⊥
  CalmCall (Some call) = Calm call

  calm_called : (block : Context) (call : Option ℕ) → CalmCall call → IsCalm (called_context C block call)
  calm_called block None h = absurd h
  calm_called block (Some call) h = calm_body block (C call) h

  calm_call : (hybrid : Bool) (call : Option ℕ) → IsCalm (called_context C (context_of_block hybrid) call) → CalmCall call
  calm_call true None h = h
  calm_call false None h = h
  calm_call hybrid (Some call) h = calm_of_body hybrid (C call) h

  -- no `der` stands in the copy of a calm call, and no `init`
  pub no_slope : (slope : ℕ) (call : Option ℕ) → IsUse f slope (SlopeOf call) → (occ : Occ) → slice_get f.occs slope ≡ Some occ → CalmCall call → ⊥
  no_slope slope call used occ is h =
      let hybrid = (regular.occs slope occ is).equations (SlopeOf call) used in
      subst IsCalm hybrid (calm_called (context_of_block (is_hybrid_block f occ.block)) call h)

  pub no_start : (k b : ℕ) (call : Option ℕ) → IsUse f k (StartOf call b) → (occ : Occ) → slice_get f.occs k ≡ Some occ → CalmCall call → ⊥
  no_start k b call used occ is h =
      let calm = calm_called (context_of_block (is_hybrid_block f occ.block)) call h in
      ⊎_elim (λ e. subst IsCalm e calm) (λ e. subst IsCalm e calm) ((regular.occs k occ is).equations (StartOf call b) used)

  module _ (call : ℕ) (calm : Calm call) where
    module _ (k : ℕ) (occ : Occ) (is : slice_get f.occs k ≡ Some occ) (at : call_of f k ≡ Some call) (above : (whole : ℕ) → IsPart f k whole → call_of f whole ≡ Some call → Calm whole) where
      abbrev hybrid : Bool
      hybrid = is_hybrid_block f occ.block

      context_is : (of : Use) → IsUse f k of → IsCalm (use_context C (form_in f) (context_of_block hybrid) of) → Calm k
      context_is of used h = subst (λ c. IsCalm c) (sym ((regular.occs k occ is).contexts of used)) h

      calm_whole : (whole : ℕ) → IsPart f k whole → Calm whole
      calm_whole whole part =
          ⊎_elim (λ same. above whole part (sym same ∙ at)) (λ inner. subst Calm (some-same (sym at ∙ inner)) calm) (regular.copies.parts k whole part)

      -- what nothing uses is calm only in a calm copy
      of_unused : (own : Option ℕ) → IsOfUnused f own k → CalmCall own
      of_unused own u =
          let there = (regular.copies.calls k u.whole u.of).1 in
          let calm_there : Calm u.whole = subst Calm (some-same (sym at ∙ u.of)) calm in
          let in_body = subst (λ c. IsCalm c) ((regular.occs u.whole there.0 there.1).unused u.unused) calm_there in
          subst CalmCall (sym (ap (option_and_then (λ (o : Occ). o.call)) there.1) ∙ u.outer) (calm_call (is_hybrid_block f there.0.block) there.0.call in_body)

      named_calm : (of : Use) (own : Option ℕ) → IsUse f k of → IsByDefiner of own → CalmCall own
      named_calm of own used by = ⊎_elim (λ same. subst CalmCall (sym at ∙ same) calm) (λ u. of_unused own u) (regular.copies.definers k of own used by)

      used_calm : (of : Use) → IsUse f k of → Calm k
      used_calm (PartOf whole) used =
          let part = whole-of-part f k whole used in
          context_is (PartOf whole) used (subst (λ form. IsCalm (part_context (context_of_block hybrid) (C whole) form)) (sym (ap (option_map (λ (z : Occ). z.form)) part.is))
          (calm_part (context_of_block hybrid) (C whole) part.occ.form (regular.occs whole part.occ part.is).allowed (calm_whole whole part)))
      used_calm (BranchOf whole c side) used = context_is (BranchOf whole c side) used (calm_branch (C whole))
      used_calm (DefinerOf own) used = context_is (DefinerOf own) used (calm_called (context_of_block hybrid) own (named_calm (DefinerOf own) own used refl))
      used_calm (SlopeOf own) used = context_is (SlopeOf own) used (calm_called (context_of_block hybrid) own (named_calm (SlopeOf own) own used refl))
      used_calm (EventOf own) used = let der = event_slope f well k own used in absurd (no_slope der.0 own der.2 der.1.0 der.1.1 (named_calm (EventOf own) own used refl))
      used_calm (StartOf own b) used = context_is (StartOf own b) used tt
      used_calm (ResetOf own events arm) used = context_is (ResetOf own events arm) used tt
      used_calm TestOf used = absurd (no_test f main well k used)
      used_calm ArgumentOf used = context_is ArgumentOf used tt
      used_calm AgainOf used = absurd (again_called f well k call used at)

      calm_one : Calm k
      calm_one = by (uses_of f k) refl
        where
          own : occ.call ≡ Some call
          own = sym (ap (option_and_then (λ (o : Occ). o.call)) is) ∙ at

          by : (us : List Use) → uses_of f k ≡ us → Calm k
          by [] e = subst (λ c. IsCalm c) (sym ((regular.occs k occ is).unused (none-listed f k e))) (calm_called (context_of_block hybrid) occ.call (subst CalmCall (sym own) calm))
          by (u ∷ us) e = used_calm u (use-of-listed f k u (subst (λ l. Has l u) (sym e) (record { index = 0; is = refl })))

    abbrev highest : ℕ
    highest = most_below well.heights.height (length f.occs)

    upward : (n k : ℕ) (occ : Occ) → slice_get f.occs k ≡ Some occ → highest - well.heights.height k < n → call_of f k ≡ Some call → Calm k
    upward zero k occ is l at = absurd (omega (arith, l))
    upward (suc n) k occ is l at =
        calm_one k occ is at
        (λ whole part at_whole.
        let low = well.heights.parts whole k part.occ part.is part.part in
        let most = below-most well.heights.height (length f.occs) whole (slice_get_within f.occs whole part.occ part.is) in
        upward n whole part.occ part.is (omega (arith, l, low, most)) at_whole)

    -- what stands in the copy of a calm call is calm
    pub copy_calm : (k : ℕ) → call_of f k ≡ Some call → Calm k
    copy_calm k at = let there = has_call f k call at in upward (suc (highest - well.heights.height k)) k there.0 there.1 (omega arith) at

  -- a part of what is calm is calm
  part_calm : (k whole : ℕ) → IsPart f k whole → Calm whole → Calm k
  part_calm k whole part up = by_part (part-used f k whole part)
    where
      there : IsThere f k
      there = part_there f well k whole part

      block : Context
      block = context_of_block (is_hybrid_block f there.0.block)

      context_is : (of : Use) → IsUse f k of → IsCalm (use_context C (form_in f) block of) → Calm k
      context_is of used h = subst (λ c. IsCalm c) (sym ((regular.occs k there.0 there.1).contexts of used)) h

      by_part : IsUsedIn f k whole → Calm k
      by_part (inl used) =
          context_is (PartOf whole) used (subst (λ form. IsCalm (part_context block (C whole) form)) (sym (ap (option_map (λ (z : Occ). z.form)) part.is))
          (calm_part block (C whole) part.occ.form (regular.occs whole part.occ part.is).allowed up))
      by_part (inr u) = context_is (BranchOf whole u.0 u.1) u.2 (calm_branch (C whole))

  -- what stands under a calm use is calm
  calm_under : (of : Use) → ((k : ℕ) → IsUse f k of → Calm k) → (k : ℕ) → Under f of k → Calm k
  calm_under of first _ (Is k used) = first k used
  calm_under of first _ (Called k call at under) = copy_calm call (calm_under of first call under) k at
  calm_under of first _ (Part k whole part under) = part_calm k whole part (calm_under of first whole under)

  pub keeps_inits : KeepsInits f
  keeps_inits k b call used = record {
    branches = λ whole c side under. refuse (calm_under (BranchOf whole c side) (λ j used_so. first (BranchOf whole c side) j used_so (part_there f well j whole (whole-of-branch f j whole c side used_so)) (λ block. calm_branch (C whole))) call under);
    resets = λ own events arm under. refuse (calm_under (ResetOf own events arm) (λ j used_so. first (ResetOf own events arm) j used_so (reset_there f well j own events arm used_so) (λ block. tt)) call under);
  }
    where
      there : IsThere f k
      there = start_there f well k b (Some call) used

      refuse : Calm call → ⊥
      refuse calm = no_start k b (Some call) used there.0 there.1 calm

      first : (of : Use) (j : ℕ) → IsUse f j of → IsThere f j → ((block : Context) → IsCalm (use_context C (form_in f) block of)) → Calm j
      first of j used_so at h = subst (λ c. IsCalm c) (sym ((regular.occs j at.0 at.1).contexts of used_so)) (h (context_of_block (is_hybrid_block f at.0.block)))
