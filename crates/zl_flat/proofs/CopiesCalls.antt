-- In a form that keeps calls parts, results, calls, definers and names stand in the copies that they belong to.
use Rattle.std.proofs.Common.{◌≡◌, ◌⊎◌, inl, inr, ℕ, List, [], ◌∷◌, Option, Some, refl, sym, ap, subst, ◌∙◌}
use Rattle.std.specs.Option.{option_and_then}
use Rattle.zl_value.specs.Lists.{Has}
use Rattle.zl_meaning.specs.FlatForm.{FlatForm, HasForm, HasDefiner, CalledIn, Here, Inside, call_of, place_call}
use Rattle.zl_meaning.specs.Uses.{Use, IsUse, AsPart, AsBranch, AsDefiner, AsSlope, AsEvent, AsStart, AsReset, AsTest, AsArgument, AsAgain}
use Rattle.zl_meaning.specs.Branches.{IsPart}
use Rattle.zl_meaning.specs.WellFormed.{named_in, named_by}
use Rattle.zl_meaning.specs.Copies.{IsByDefiner}
use Rattle.zl_meaning.specs.Copies as copies
use Rattle.zl_meaning.specs.declared.place.Definer.{Definer}
use Rattle.zl_meaning.specs.declared.place.Definer.TheVariants.{Plain, Der, Start}
use Rattle.zl_meaning.specs.declared.place.DerArm.{DerArm}
use Rattle.zl_meaning.specs.declared.place.PlaceInfo.{PlaceInfo}
use Rattle.zl_meaning.specs.declared.occurrence.Form.TheVariants.{Read, Result}
use Rattle.zl_meaning.specs.declared.occurrence.Occ.{Occ}
use Rattle.zl_meaning.proofs.Members.{has-none, has-cases, has-later}
use Rattle.zl_meaning.proofs.UseCases.{listed-of-use}
use Rattle.zl_flat.proofs.UsesBranches.{HasCall, IsOfUnused, Reaches, There, Outer, IsCall, KeepsCalls, the-call, part-call, result-call, named-call}

-- what a reset arm of a `der` names
record ArmNamed (resets : List DerArm) (arm : DerArm) : Type 0 where
  event : Has (named_in resets) arm.event
  value : Has (named_in resets) arm.value

-- each reset arm names its event and its value
arm-named : (resets : List DerArm) (arm : DerArm) → Has resets arm → ArmNamed resets arm
arm-named [] arm h = absurd (has-none arm h)
arm-named (r ∷ rs) arm h = has-cases (ArmNamed (r ∷ rs) arm) r rs arm h (λ e. subst (ArmNamed (r ∷ rs)) e first) (λ i. later (arm-named rs arm i))
  where
    first : ArmNamed (r ∷ rs) r
    first = record { event = record { index = 0; is = refl }; value = record { index = 1; is = refl } }

    later : ArmNamed rs arm → ArmNamed (r ∷ rs) arm
    later a = record {
      event = has-later r.event (r.value ∷ named_in rs) arm.event (has-later r.value (named_in rs) arm.event a.event);
      value = has-later r.event (r.value ∷ named_in rs) arm.value (has-later r.value (named_in rs) arm.value a.value);
    }

-- what comes outwards from a call to this one stands in its copy
pub reaches-called : (f : FlatForm) (target call : Option ℕ) (c k : ℕ) → Reaches f target call → target ≡ Some c → call_of f k ≡ call → CalledIn f c k
reaches-called f target call c k There e own = Here k (own ∙ e)
reaches-called f target _ c k (Outer d occ is more) e own = Inside k d own (reaches-called f target occ.call c d more e (ap (option_and_then (λ (o : Occ). o.call)) is))

module _ (f : FlatForm) (keeps : KeepsCalls f) where
  -- the call of an occurrence that has this one
  pub call-of : (k : ℕ) (call : Option ℕ) → HasCall f call k → call_of f k ≡ call
  call-of k call h = ap (option_and_then (λ (o : Occ). o.call)) h.is ∙ h.call_is

  -- a part stands in the copy in which its whole does, or is an argument or the result of that call
  pub parts-called : (k whole : ℕ) → IsPart f k whole → (call_of f k ≡ call_of f whole) ⊎ (call_of f k ≡ Some whole)
  parts-called k whole h = by_case (part-call f keeps k whole h)
    where
      by_case : HasCall f h.occ.call k ⊎ HasCall f (Some whole) k → (call_of f k ≡ call_of f whole) ⊎ (call_of f k ≡ Some whole)
      by_case (inl a) = inl (call-of k h.occ.call a ∙ sym (ap (option_and_then (λ (o : Occ). o.call)) h.is))
      by_case (inr a) = inr (call-of k (Some whole) a)

  -- the result of a call stands in its copy
  pub results-called : (k whole : ℕ) → HasForm f whole (Result k) → call_of f k ≡ Some whole
  results-called k whole h = call-of k (Some whole) (result-call f keeps k whole h.0 h.1 h.2)

  -- a call is one
  pub calls-called : (k call : ℕ) → call_of f k ≡ Some call → (result : ℕ) × HasForm f call (Result result)
  calls-called k call e = let own = the-call f k call e in subst (IsCall f) own.call_is (keeps.calls k own.occ own.is)

  -- what a definer of a place names
  of-definer : (p k : ℕ) (d : Definer) (c call : Option ℕ) → HasDefiner f p d → Has (named_by d) k → place_call f p ≡ c → c ≡ call → HasCall f call k ⊎ IsOfUnused f call k
  of-definer p k d c call h named at same =
      let place_is : place_call f p ≡ h.0.call = ap (option_and_then (λ (place : PlaceInfo). place.call)) h.1 in
      subst (λ o. HasCall f o k ⊎ IsOfUnused f o k) (sym place_is ∙ at ∙ same) (named-call f keeps p k h.0 d h.1 h.2 named)

  -- what a definer names has the call of its place, or is a result of a call that has
  pub definer-call : (k : ℕ) (of : Use) (call : Option ℕ) → IsUse f k of → IsByDefiner of call → HasCall f call k ⊎ IsOfUnused f call k
  definer-call k _ call (AsPart whole form is has) by = absurd by
  definer-call k _ call (AsBranch whole c x y side is e) by = absurd by
  definer-call k _ call (AsDefiner p b c has at) by = of-definer p k (Plain b k) c call has (record { index = 0; is = refl }) at by
  definer-call k _ call (AsSlope p b resets c has at) by = of-definer p k (Der b k resets) c call has (record { index = 0; is = refl }) at by
  definer-call k _ call (AsEvent p b slope resets arm c has among same at) by =
      let named = arm-named resets arm among in
      of-definer p k (Der b slope resets) c call has (has-later slope (named_in resets) k (subst (Has (named_in resets)) same named.event)) at by
  definer-call k _ call (AsStart p b c has at) by = of-definer p k (Start b k) c call has (record { index = 0; is = refl }) at by
  definer-call k _ call (AsReset p b slope n resets arm c has is same at) by =
      let named = arm-named resets arm (record { index = n; is = is }) in
      of-definer p k (Der b slope resets) c call has (has-later slope (named_in resets) k (subst (Has (named_in resets)) same named.value)) at by
  definer-call k _ call (AsTest test) by = absurd by
  definer-call k _ call (AsArgument n site is e) by = absurd by
  definer-call k _ call (AsAgain has) by = absurd by

  -- what a definer names stands in the copy in which its place does, or is a result of a call that stands there
  pub definers-called : (k : ℕ) (of : Use) (call : Option ℕ) → IsUse f k of → IsByDefiner of call → (call_of f k ≡ call) ⊎ copies.IsOfUnused f call k
  definers-called k of call u by = by_case (definer-call k of call u by)
    where
      by_case : HasCall f call k ⊎ IsOfUnused f call k → (call_of f k ≡ call) ⊎ copies.IsOfUnused f call k
      by_case (inl a) = inl (call-of k call a)
      by_case (inr a) = inr (record {
        whole = a.whole;
        of = call-of k (Some a.whole) (record { occ = a.occ; is = a.is; call_is = a.call_is });
        outer = call-of a.whole call (record { occ = a.own; is = a.own_is; call_is = a.own_call });
        unused = λ other u. has-none other (subst (λ us. Has us other) a.unused (listed-of-use f a.whole other u));
      })

  -- a name stands in the copy of its place
  pub names-called : (k p call : ℕ) → HasForm f k (Read p) → place_call f p ≡ Some call → CalledIn f call k
  names-called k p call h at = reaches-called f (place_call f p) h.0.call call k (keeps.names k p h.0 h.1 h.2) at (ap (option_and_then (λ (o : Occ). o.call)) h.1)
