-- Where the main block is fresh no reset value is evaluated, and nothing that stands in one.
use Rattle.std.specs.Prelude.{◌≡◌, ℕ, suc, ◌<◌, nat_eq, Bool, true, false, not, ◌&&◌, if◌then◌else◌, List, [], ◌∷◌, length, slice_get, Option, Some, None}
use Rattle.std.specs.List.{AllByRecursion, list_any}
use Rattle.std.specs.Option.{option_map, option_and_then}
use Rattle.std.proofs.Common.{refl, sym, ap, ◌∙◌, subst, ⊎_elim, arith}
use Rattle.std.proofs.lemmas.Option.{slice_get_within}
use Rattle.zl_value.specs.Fraction.{Fraction}
use Rattle.zl_value.specs.Lists.{Has, among}
use Rattle.zl_value.specs.Times.{holds}
use Rattle.zl_value.specs.Instants.{Kind, Step, Left}
use Rattle.zl_value.specs.Operators.{answered}
use Rattle.zl_value.specs.declared.value.Ty.TheVariants.{Zero}
use Rattle.zl_value.specs.declared.value.Value.{Value}
use Rattle.zl_value.specs.declared.value.Value.TheVariants.{B}
use Rattle.zl_meaning.specs.FlatForm.{FlatForm, call_of}
use Rattle.zl_meaning.specs.Uses.{Use, PartOf, BranchOf, DefinerOf, EventOf, ResetOf, IsUse, AsEvent, AsReset, IsUnused, uses_of, events_of}
use Rattle.zl_meaning.specs.Branches.{Under, Is, Part, Called}
use Rattle.zl_meaning.specs.State.{Node, State, AtControl, AtUsed, AtValue, is_active}
use Rattle.zl_meaning.specs.Moment.{Moment, is_fresh, is_at_step, is_called, decide_by, decide, is_number}
use Rattle.zl_meaning.specs.History.{Instant, History}
use Rattle.zl_meaning.specs.Occurrences.{gathered, any_holds, fired_answer, answer, value_of, asks, is_asked, used_of}
use Rattle.zl_meaning.specs.Equation.{equation}
use Rattle.zl_meaning.specs.Solves.{mode_of, moment_of}
use Rattle.zl_meaning.specs.Single.{IsSingle, IsOneUse, Unused, Once, OfCall, OfBranches}
use Rattle.zl_meaning.specs.Regular.{is_event, IsRegular}
use Rattle.zl_meaning.specs.WellFormed.{Stands, IsForm, IsDefiner, IsResetArm, IsWellFormed}
use Rattle.zl_meaning.specs.declared.place.Definer.TheVariants.{Der}
use Rattle.zl_meaning.specs.declared.place.DerArm.{DerArm}
use Rattle.zl_meaning.specs.declared.occurrence.Form.{Form}
use Rattle.zl_meaning.specs.declared.occurrence.Form.TheVariants.{Lit, Read, Last, Op as Apply, If, Arrow, Pre, Result, Up, Fired, Step as AtAStep}
use Rattle.zl_meaning.specs.declared.occurrence.Occ.{Occ}
use Rattle.zl_meaning.proofs.Members.{all-has, has-any, has-case, has-none, both-hold, each-has}
use Rattle.zl_meaning.proofs.Standing.{part-used}
use Rattle.zl_meaning.proofs.UseCases.{use-of-listed, listed-of-use}
use Rattle.zl_meaning.proofs.WrittenForms.{true-false}
use Rattle.zl_levels.specs.MainForm.{IsMainForm}
use Rattle.zl_levels.specs.Standing.{HasStandingCalls}
use Rattle.zl_levels.proofs.Standing.{used_is, with_own}

-- an event is one of some sites
fired_form : (form : Form) → is_event form ≡ true → (ks : List ℕ) × (form ≡ Fired ks)
fired_form (Fired ks) e = (ks, refl)
fired_form (Lit v) e = true-false e refl
fired_form (Read v) e = true-false e refl
fired_form (Last v) e = true-false e refl
fired_form (Apply op ks) e = true-false e refl
fired_form (If x y z) e = true-false e refl
fired_form (Arrow x y) e = true-false e refl
fired_form (Pre x) e = true-false e refl
fired_form (Result x) e = true-false e refl
fired_form (Up x) e = true-false e refl
fired_form AtAStep e = true-false e refl

never : (kind : Kind) (a fresh : Bool) → fresh ≡ true → (is_at_step (mode_of kind) && (a && not fresh)) ≡ false
never Left a fresh e = refl
never Step true true e = refl
never Step false true e = refl
never Step a false e = true-false e refl

less_not : (n d : ℕ) → n < d → nat_eq d n ≡ false
less_not n d l = grind (arith, l)

-- a reset value; a part or a branch, and its whole
abbrev IsReset : Use → Bool
IsReset (ResetOf call events arm) = true
IsReset _ = false

abbrev is_part : Use → Bool
is_part (PartOf whole) = true
is_part (BranchOf whole c side) = true
is_part _ = false

abbrev whole_of : Use → ℕ
whole_of (PartOf whole) = whole
whole_of (BranchOf whole c side) = whole
whole_of _ = 0

module _ (f : FlatForm) (w : IsWellFormed f) (main : IsMainForm f) (single : IsSingle f) (regular : IsRegular f) (steady : HasStandingCalls f regular) (h : History) (i : Instant) (passed : Fraction) (s : State) where
  abbrev m : Moment
  m = moment_of f h passed i

  module _ (solves : (a : Node) → s a ≡ equation f m s a) (active : is_active (s (AtControl 0)) ≡ true) (fresh : is_fresh m s 0 ≡ true) where
    value_at : (k : ℕ) (occ : Occ) → slice_get f.occs k ≡ Some occ → s (AtValue k) ≡ answered (answer f m s occ.block occ.form)
    unfolding equation
    value_at k occ is =
        solves (AtValue k) ∙ ap (λ o. value_of f m s o) is
        ∙ ap (λ t. if t then answered (answer f m s occ.block occ.form) else None) (ap (λ c. is_active (s (AtControl c))) (main.occs k occ is) ∙ active)

    up_false : (b k : ℕ) → Stands f b Zero k → s (AtValue k) ≡ Some (B false)
    up_false b k stands =
        let up = (w.occs k stands.occ stands.is).crossing stands.typed in
        value_at k stands.occ stands.is
        ∙ ap (λ form. answered (answer f m s stands.occ.block form)) up.1
        ∙ ap (λ t. Some (B t)) (never i.kind (among up.0 m.fired) (is_fresh m s stands.occ.block) (ap (λ c. is_fresh m s c) (main.occs k stands.occ stands.is) ∙ fresh))

    ups_false : (b : ℕ) (ks : List ℕ) → AllByRecursion (Stands f b Zero) ks → (vs : List Value) × (gathered s ks ≡ Some vs) × (list_any (λ v. holds (Some v)) vs ≡ false)
    ups_false b [] all = ([], refl, refl)
    ups_false b (j ∷ ks) all =
        let rest = ups_false b ks all.1 in (
          B false ∷ rest.0,
          ap (λ o. option_and_then (λ v. option_map (λ vs. v ∷ vs) (gathered s ks)) o) (up_false b j all.0) ∙ ap (λ o. option_map (λ vs. B false ∷ vs) o) rest.1,
          rest.2,
        )

    fired_false : (kind : Kind) (b : ℕ) (ks : List ℕ) → AllByRecursion (Stands f b Zero) ks → answered (fired_answer (mode_of kind) s ks) ≡ Some (B false)
    fired_false Left b ks all = refl
    fired_false Step b ks all = let u = ups_false b ks all in ap (λ o. answered (any_holds o)) u.1 ∙ ap (λ t. Some (B t)) u.2

    event_false : (k : ℕ) (occ : Occ) (call : Option ℕ) → slice_get f.occs k ≡ Some occ → IsUse f k (EventOf call) → s (AtValue k) ≡ Some (B false)
    event_false k occ call is named =
        let form = fired_form occ.form ((regular.occs k occ is).tests (EventOf call) named) in
        let parts : IsForm f occ.block occ.ty (Fired form.0) = subst (λ x. IsForm f occ.block occ.ty x) form.1 (w.occs k occ is).form in
        value_at k occ is ∙ ap (λ x. answered (answer f m s occ.block x)) form.1 ∙ fired_false i.kind occ.block form.0 parts.0

    decided : (xs : List DerArm) → AllByRecursion (λ (x : DerArm). s (AtValue x.event) ≡ Some (B false)) xs → decide s (events_of xs) ≡ Some (length xs)
    decided [] all = refl
    decided (x ∷ xs) all = ap (λ v. decide_by v (decide s (events_of xs))) all.0 ∙ ap (λ o. option_map (λ n. suc n) o) (decided xs all.1)

    all_map : (P : DerArm → Type 0) (xs ys : List DerArm) → AllByRecursion (Has xs) ys → ((x : DerArm) → Has xs x → P x) → AllByRecursion P ys
    all_map P xs [] each make = tt
    all_map P xs (y ∷ ys) each make = (make y each.0, all_map P xs ys each.1 make)

    -- a reset value isn't asked for
    no_reset_value : (k : ℕ) (call : Option ℕ) (events : List ℕ) (arm : ℕ) → IsUse f k (ResetOf call events arm) → asks m s (ResetOf call events arm) ≡ true → ⊥
    no_reset_value k call events arm (AsReset p b slope _ resets the _ has at value own) on =
        let place = has.0 in
        let definer : IsDefiner f p place (Der b slope resets) = all-has (IsDefiner f p place) place.definers (Der b slope resets) (w.places p place has.1).definers has.2 in
        let number = decided resets (all_map (λ (x : DerArm). s (AtValue x.event) ≡ Some (B false)) resets resets (each-has resets)
        (λ x among.
        let stands : IsResetArm f b x = all-has (IsResetArm f b) resets x definer.3 among in
        event_false x.event stands.0.occ call stands.0.is (AsEvent p b slope resets x call has among refl own))) in
        let is = (both-hold (both-hold on).1).1 in
        true-false (ap (λ o. is_number arm o) (sym number) ∙ is) (less_not arm (length resets) (slice_get_within resets arm the at))

    other_use : (call : Option ℕ) (events : List ℕ) (arm : ℕ) (u : Use) → IsReset u ≡ false → u ≡ ResetOf call events arm → ⊥
    other_use call events arm u other e = true-false (ap (λ x. IsReset x) e) other

    module _ (call : Option ℕ) (events : List ℕ) (arm : ℕ) where
      -- what is used so isn't evaluated
      direct : (k : ℕ) (us : List Use) → IsOneUse f k us → Has us (ResetOf call events arm) → IsUse f k (ResetOf call events arm) → list_any (asks m s) us ≡ true → ⊥
      direct k _ Unused has named on = has-none _ has
      direct k _ (Once of) has named on =
          let found = has-any (asks m s) (of ∷ []) on in
          let a : of ≡ ResetOf call events arm = ⊎_elim (λ e. e) (λ e. absurd (has-none _ e)) (has-case of [] (ResetOf call events arm) has) in
          let b : of ≡ found.element = ⊎_elim (λ e. e) (λ e. absurd (has-none _ e)) (has-case of [] found.element found.has) in
          no_reset_value k call events arm named (subst (λ u. asks m s u ≡ true) (sym b ∙ a) found.meets)
      direct k _ (OfCall whole form unused) has named on =
          ⊎_elim (λ e. other_use call events arm (PartOf whole) refl e)
          (λ e. ⊎_elim (λ g. other_use call events arm (DefinerOf (call_of f whole)) refl g) (λ g. has-none _ g) (has-case (DefinerOf (call_of f whole)) [] (ResetOf call events arm) e))
          (has-case (PartOf whole) (DefinerOf (call_of f whole) ∷ []) (ResetOf call events arm) has)
      direct k _ (OfBranches whole c p form) has named on =
          ⊎_elim (λ e. other_use call events arm (BranchOf whole c true) refl e)
          (λ e. ⊎_elim (λ g. other_use call events arm (BranchOf whole c false) refl g) (λ g. has-none _ g) (has-case (BranchOf whole c false) [] (ResetOf call events arm) e))
          (has-case (BranchOf whole c true) (BranchOf whole c false ∷ []) (ResetOf call events arm) has)

    unused_on : (whole : ℕ) (occ : Occ) → slice_get f.occs whole ≡ Some occ → IsUnused f whole → is_called s (call_of f whole) ≡ true → s (AtUsed whole) ≡ true
    unused_on whole occ is unused on = used_is f w main regular m s solves active whole occ is ∙ by (uses_of f whole) refl
      where
        by : (us : List Use) → uses_of f whole ≡ us → is_asked m s occ.call (uses_of f whole) ≡ true
        by [] e = ap (λ us. is_asked m s occ.call us) e ∙ ap (λ x. is_called s x) (sym (ap (option_and_then (λ (y : Occ). y.call)) is)) ∙ on
        by (u ∷ us) e = absurd (unused u (use-of-listed f whole u (subst (λ l. Has l u) (sym e) (record { index = 0; is = refl }))))

    -- nor is a part, if its whole isn't
    module _ (k whole : ℕ) (outer : s (AtUsed whole) ≡ true → ⊥) (u : Use) (part : is_part u ≡ true) (of_whole : whole_of u ≡ whole) (idle : asks m s u ≡ true → ⊥) where
      clash : (v : Use) → is_part v ≡ false → v ≡ u → ⊥
      clash v other e = true-false (ap (λ x. is_part x) e ∙ part) other

      same_whole : (v : Use) → v ≡ u → s (AtUsed (whole_of v)) ≡ true → ⊥
      same_whole v e on = outer (subst (λ j. s (AtUsed j) ≡ true) (ap (λ x. whole_of x) e ∙ of_whole) on)

      part_idle : (us : List Use) → IsOneUse f k us → Has us u → list_any (asks m s) us ≡ true → ⊥
      part_idle _ Unused has on = has-none _ has
      part_idle _ (Once of) has on =
          let found = has-any (asks m s) (of ∷ []) on in
          let a : of ≡ u = ⊎_elim (λ e. e) (λ e. absurd (has-none _ e)) (has-case of [] u has) in
          let b : of ≡ found.element = ⊎_elim (λ e. e) (λ e. absurd (has-none _ e)) (has-case of [] found.element found.has) in
          idle (subst (λ x. asks m s x ≡ true) (sym b ∙ a) found.meets)
      part_idle _ (OfCall other form unused) has on =
          let found = has-any (asks m s) (PartOf other ∷ DefinerOf (call_of f other) ∷ []) on in
          let a : PartOf other ≡ u =
          ⊎_elim (λ e. e)
          (λ e. absurd (⊎_elim (λ g. clash (DefinerOf (call_of f other)) refl g) (λ g. has-none _ g) (has-case (DefinerOf (call_of f other)) [] u e)))
          (has-case (PartOf other) (DefinerOf (call_of f other) ∷ []) u has) in
          ⊎_elim (λ e. same_whole (PartOf other) a (subst (λ x. asks m s x ≡ true) (sym e) found.meets))
          (λ e. ⊎_elim
          (λ g. same_whole (PartOf other) a (unused_on other form.0 form.1 unused (subst (λ x. asks m s x ≡ true) (sym g) found.meets)))
          (λ g. has-none _ g) (has-case (DefinerOf (call_of f other)) [] found.element e))
          (has-case (PartOf other) (DefinerOf (call_of f other) ∷ []) found.element found.has)
      part_idle _ (OfBranches other c p form) has on =
          let found = has-any (asks m s) (BranchOf other c true ∷ BranchOf other c false ∷ []) on in
          ⊎_elim (λ a. from (BranchOf other c true) a found.element found.has found.meets)
          (λ e. ⊎_elim (λ a. from (BranchOf other c false) a found.element found.has found.meets) (λ g. has-none _ g) (has-case (BranchOf other c false) [] u e))
          (has-case (BranchOf other c true) (BranchOf other c false ∷ []) u has)
        where
          from : (v : Use) → v ≡ u → (x : Use) → Has (BranchOf other c true ∷ BranchOf other c false ∷ []) x → asks m s x ≡ true → ⊥
          from v e x has_x meets = outer (subst (λ j. s (AtUsed j) ≡ true) (by v e) (used x has_x meets))
            where
              used : (x : Use) → Has (BranchOf other c true ∷ BranchOf other c false ∷ []) x → asks m s x ≡ true → s (AtUsed other) ≡ true
              used x h t =
                  ⊎_elim (λ e. (both-hold (subst (λ y. asks m s y ≡ true) (sym e) t)).0)
                  (λ q. ⊎_elim (λ e. (both-hold (subst (λ y. asks m s y ≡ true) (sym e) t)).0) (λ g. absurd (has-none _ g)) (has-case (BranchOf other c false) [] x q))
                  (has-case (BranchOf other c true) (BranchOf other c false ∷ []) x h)

              by : (v : Use) → v ≡ u → other ≡ whole
              by v e =
                  ⊎_elim (λ a. ap (λ x. whole_of x) a ∙ of_whole)
                  (λ q. ⊎_elim (λ a. ap (λ x. whole_of x) a ∙ of_whole) (λ g. absurd (has-none _ g)) (has-case (BranchOf other c false) [] u q))
                  (has-case (BranchOf other c true) (BranchOf other c false ∷ []) u has)

    asked_any : (c : Option ℕ) (us : List Use) (x : Use) → Has us x → is_asked m s c us ≡ true → list_any (asks m s) us ≡ true
    asked_any c [] x has on = absurd (has-none x has)
    asked_any c (u ∷ us) x has on = on

    -- its uses ask for what is evaluated
    uses_ask : (k : ℕ) (u : Use) → IsUse f k u → s (AtUsed k) ≡ true → (IsOneUse f k (uses_of f k)) × (list_any (asks m s) (uses_of f k) ≡ true)
    unfolding equation
    uses_ask k u named on = by (slice_get f.occs k) refl
      where
        by : (o : Option Occ) → slice_get f.occs k ≡ o → (IsOneUse f k (uses_of f k)) × (list_any (asks m s) (uses_of f k) ≡ true)
        by None is = true-false on (solves (AtUsed k) ∙ ap (λ o. used_of f m s k o) is)
        by (Some occ) is = (single.uses k occ is, asked_any occ.call (uses_of f k) u (listed-of-use f k u named) (sym (used_is f w main regular m s solves active k occ is) ∙ on))

    -- nothing that stands in a reset value is evaluated
    pub idle_under : (call : Option ℕ) (events : List ℕ) (arm k : ℕ) → Under f (ResetOf call events arm) k → s (AtUsed k) ≡ true → ⊥
    idle_under call events arm k (Is _ named) on =
        let u = uses_ask k (ResetOf call events arm) named on in
        direct call events arm k (uses_of f k) u.0 (listed-of-use f k (ResetOf call events arm) named) named u.1
    idle_under call events arm k (Part _ whole part under) on =
        let outer : s (AtUsed whole) ≡ true → ⊥ = idle_under call events arm whole under in
        ⊎_elim
        (λ (named : IsUse f k (PartOf whole)).
        let u = uses_ask k (PartOf whole) named on in part_idle k whole outer (PartOf whole) refl refl (λ t. outer t) (uses_of f k) u.0 (listed-of-use f k (PartOf whole) named) u.1)
        (λ (named : (c : ℕ) × (side : Bool) × IsUse f k (BranchOf whole c side)).
        let u = uses_ask k (BranchOf whole named.0 named.1) named.2 on in
        part_idle k whole outer (BranchOf whole named.0 named.1) refl refl (λ t. outer (both-hold t).0) (uses_of f k) u.0 (listed-of-use f k (BranchOf whole named.0 named.1) named.2) u.1)
        (part-used f k whole part)
    idle_under call events arm k (Called _ c at under) on = idle_under call events arm c under (with_own f w main regular m s solves active steady c k at on)
