-- The flow after an instant: what is evaluated at its start is evaluated at moment 1.
use Rattle.std.specs.Prelude.{◌≡◌, ℕ, zero, suc, ◌<◌, Bool, true, false, ◌&&◌, ◌||◌, List, [], ◌∷◌, slice_get, Option, Some, None, ⊤}
use Rattle.std.specs.List.{AllByRecursion, list_any}
use Rattle.std.proofs.Common.{refl, sym, ap, ◌∙◌, arith, subst}
use Rattle.zl_value.specs.Lists.{Has}
use Rattle.zl_value.specs.Times.{nought, unit}
use Rattle.zl_value.specs.declared.value.Value.{Value}
use Rattle.zl_value.specs.declared.value.Value.TheVariants.{B, I, F}
use Rattle.zl_value.specs.declared.value.Ty.TheVariants.{Bool as BoolTy}
use Rattle.zl_meaning.specs.FlatForm.{FlatForm}
use Rattle.zl_meaning.specs.Uses.{Use, PartOf, BranchOf, DefinerOf, SlopeOf, EventOf, StartOf, ResetOf, TestOf, ArgumentOf, AgainOf, IsUse, AsPart, uses_of}
use Rattle.zl_meaning.specs.State.{AtUsed, AtValue}
use Rattle.zl_meaning.specs.Moment.{is_called, decide, is_number}
use Rattle.zl_meaning.specs.Occurrences.{asks, is_asked, takes, used_of}
use Rattle.zl_meaning.specs.Reading.{ReadsCall, ReadsUse, ReadsAsked, ReadsUsed}
use Rattle.zl_meaning.specs.Grades.{Grading}
use Rattle.zl_meaning.specs.WellFormed.{Stands, IsForm, IsWellFormed}
use Rattle.zl_meaning.specs.declared.occurrence.Form.TheVariants.{If}
use Rattle.zl_meaning.specs.declared.occurrence.Occ.{Occ}
use Rattle.zl_meaning.specs.Equation.{equation}
use Rattle.zl_meaning.proofs.Members.{all-has}
use Rattle.zl_meaning.proofs.UseCases.{use-of-listed}
use Rattle.zl_meaning.proofs.WrittenForms.{at-start, at-unit}
use Rattle.zl_meaning.proofs.GradesKept.UsesSay.{if-of-branch}
use Rattle.zl_normal.specs.Evaluated.{HasGuardRanks}
use Rattle.zl_normal.specs.MainBlock.{IsMain}
use Rattle.zl_normal.proofs.Values.Entries.{used_if}
use Rattle.zl_normal.proofs.Slopes.FlowValues.{InFlowOf, V, M, live_then, used_by}
use Rattle.zl_normal.proofs.Slopes.Moving.{same_test}

first_of : (a b : Bool) → (a && b) ≡ true → a ≡ true
first_of true b e = refl
first_of false b e = absurd cc

second_of : (a b : Bool) → (a && b) ≡ true → b ≡ true
second_of true b e = e
second_of false b e = absurd cc

never : (a b : Bool) → (a && (false && b)) ≡ true → ⊥
never true b e = absurd cc
never false b e = absurd cc

neither : (a : Bool) → (a && false) ≡ true → ⊥
neither true e = absurd cc
neither false e = absurd cc

both : (a b : Bool) → a ≡ true → b ≡ true → (a && b) ≡ true
both a b p q = rw (p, q) refl

-- a bool that takes a side is there
taken : (side : Bool) (x : Option Value) → takes side x ≡ true → (b : Bool) × (x ≡ Some (B b))
taken true (Some (B b)) e = (b, refl)
taken false (Some (B b)) e = (b, refl)
taken true (Some (I n)) e = absurd cc
taken true (Some (F n)) e = absurd cc
taken true None e = absurd cc
taken false (Some (I n)) e = absurd cc
taken false (Some (F n)) e = absurd cc
taken false None e = absurd cc

any_too : (p q : Use → Bool) (us : List Use) → ((u : Use) → Has us u → p u ≡ true → q u ≡ true) → list_any p us ≡ true → list_any q us ≡ true
any_too p q [] each e = absurd cc
any_too p q (u ∷ us) each e = by (p u) refl e (λ r. any_too p q us (λ v has. each v (record { index = suc has.index; is = has.is })) r)
  where
    or_true : (a : Bool) → (a || true) ≡ true
    or_true true = refl
    or_true false = refl

    by : (b : Bool) → p u ≡ b → (b || list_any p us) ≡ true → (list_any p us ≡ true → list_any q us ≡ true) → (q u || list_any q us) ≡ true
    by true h r rest = ap (λ b. b || list_any q us) (each u (record { index = 0; is = refl }) h)
    by false h r rest = ap (λ b. q u || b) (rest r) ∙ or_true (q u)

module _ (f : FlatForm) (g : Grading) (main : IsMain f) (formed : IsWellFormed f) (c : InFlowOf f g) (ranks : HasGuardRanks f) where
  abbrev pub Stays : ℕ → Type 0
  Stays k = V f g main c nought (AtUsed k) ≡ true → V f g main c unit (AtUsed k) ≡ true

  module _ (n : ℕ) (below : (k : ℕ) → ranks.entries.rank (AtUsed k) < n → Stays k) where
    call_stays : (call : Option ℕ) → ReadsCall (λ b. ranks.entries.rank b < n) call → is_called (V f g main c nought) call ≡ true → is_called (V f g main c unit) call ≡ true
    call_stays None rd e = refl
    call_stays (Some k) rd e = below k rd e

    asks_stays : (k : ℕ) (of : Use) → IsUse f k of → ReadsUse (λ b. ranks.entries.rank b < n) (λ b. ⊤) of → asks (M f g main c nought) (V f g main c nought) of ≡ true → asks (M f g main c unit) (V f g main c unit) of ≡ true
    asks_stays k (PartOf whole) is rd e = below whole rd e
    asks_stays k (BranchOf whole x side) is rd e =
        let on = first_of _ _ e in
        let t = taken side (V f g main c nought (AtValue x)) (second_of _ _ e) in
        let of = if-of-branch f k whole x side is in
        let stands : Stands f of.2.0.block BoolTy x = (subst (λ y. IsForm f of.2.0.block of.2.0.ty y) of.2.2 (formed.occs whole of.2.0 of.2.1).form).0 in
        let used = used_by f g main c nought at-start x stands.occ (PartOf whole) stands.is (AsPart whole (If x of.0 of.1) of.2 (record { index = 0; is = refl })) on in
        both _ _ (below whole rd.0 on) (ap (λ v. takes side v) (same_test f g main formed c x stands.occ stands.is stands.typed used (B t.0) t.1 ∙ sym t.1) ∙ second_of _ _ e)
    asks_stays k (DefinerOf call) is rd e = call_stays call rd e
    asks_stays k (SlopeOf call) is rd e = call_stays call rd e
    asks_stays k (EventOf call) is rd e = call_stays call rd e
    asks_stays k (StartOf call b) is rd e = absurd (neither _ e)
    asks_stays k (ResetOf call events arm) is rd e = absurd (never (is_called (V f g main c nought) call) (is_number arm (decide (V f g main c nought) events)) e)
    asks_stays k TestOf is rd e = absurd cc
    asks_stays k ArgumentOf is rd e = refl
    asks_stays k AgainOf is rd e = refl

    read_at : (us : List Use) (of : Use) → AllByRecursion (ReadsUse (λ b. ranks.entries.rank b < n) (λ b. ⊤)) us → Has us of → ReadsUse (λ b. ranks.entries.rank b < n) (λ b. ⊤) of
    read_at us of all has = all-has _ us of all has

    asked_stays : (k : ℕ) (call : Option ℕ) (us : List Use) → ((of : Use) → Has us of → IsUse f k of) → ReadsAsked (λ b. ranks.entries.rank b < n) (λ b. ⊤) call us → is_asked (M f g main c nought) (V f g main c nought) call us ≡ true → is_asked (M f g main c unit) (V f g main c unit) call us ≡ true
    asked_stays k call [] uses rd e = call_stays call rd e
    asked_stays k call (u ∷ us) uses rd e = any_too _ _ (u ∷ us) (λ v has p. asks_stays k v (uses v has) (read_at (u ∷ us) v rd has) p) e

  -- nothing is evaluated where no occurrence stands
  absent : (j : ℕ) → slice_get f.occs j ≡ None → V f g main c nought (AtUsed j) ≡ true → ⊥
  unfolding equation
  absent j at e = let z : false ≡ true = sym (c.solves nought at-start (AtUsed j) ∙ ap (λ o. used_of f (M f g main c nought) (V f g main c nought) j o) at) ∙ e in absurd (let w = z in cc)

  used_below : (n k : ℕ) → ranks.entries.rank (AtUsed k) < n → (occ : Occ) → slice_get f.occs k ≡ Some occ → Stays k
  used_below zero k low occ is = absurd (omega (arith, low))
  used_below (suc n) k low occ is = λ e.
      let reads : ReadsUsed f (λ b. ranks.entries.rank b < ranks.entries.rank (AtUsed k)) (λ b. ⊤) k (Some occ) = subst (λ x. ReadsUsed f (λ b. ranks.entries.rank b < ranks.entries.rank (AtUsed k)) (λ b. ⊤) k x) is (ranks.entries.lower (AtUsed k)) in
      used_if f main (M f g main c unit) (V f g main c unit) (c.solves unit at-unit) (live_then f g main c unit) k occ is
      ∙ asked_stays (ranks.entries.rank (AtUsed k)) (λ j less. by j (slice_get f.occs j) refl (λ x at. used_below n j (omega (arith, low, less)) x at)) k occ.call (uses_of f k) (λ of has. use-of-listed f k of has) reads.1
      (sym (used_if f main (M f g main c nought) (V f g main c nought) (c.solves nought at-start) (live_then f g main c nought) k occ is) ∙ e)
    where
      by : (j : ℕ) (o : Option Occ) → slice_get f.occs j ≡ o → ((x : Occ) → slice_get f.occs j ≡ Some x → Stays j) → Stays j
      by j (Some x) at each = each x at
      by j None at each = λ e. absurd (absent j at e)

  -- what is evaluated stays so
  pub stays : (k : ℕ) (occ : Occ) → slice_get f.occs k ≡ Some occ → Stays k
  stays k occ is = used_below (suc (ranks.entries.rank (AtUsed k))) k (omega arith) occ is
