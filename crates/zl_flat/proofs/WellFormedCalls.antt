-- What a definer names stands in the copy of its place's call, where a form keeps calls.
use Rattle.std.proofs.Common.{◌≡◌, inl, inr, ℕ, ◌∷◌, slice_get, Option, Some, None, ap, ◌∙◌}
use Rattle.std.specs.List.{AllByRecursion}
use Rattle.std.specs.Option.{option_and_then}
use Rattle.zl_meaning.specs.FlatForm.{FlatForm, CalledIn, Here, Inside, call_of}
use Rattle.zl_meaning.specs.WellFormed.{named_in, IsInCopy}
use Rattle.zl_meaning.specs.declared.place.Definer.{Definer}
use Rattle.zl_meaning.specs.declared.place.Definer.TheVariants.{Input, Plain, Der, Start}
use Rattle.zl_meaning.specs.declared.place.PlaceInfo.{PlaceInfo}
use Rattle.zl_meaning.specs.declared.occurrence.Occ.{Occ}
use Rattle.zl_flat.proofs.UsesNamed.{all-map}
use Rattle.zl_flat.proofs.UsesBranches.{HasCall, DefinerCalled, KeepsCalls}

module _ (f : FlatForm) where
  -- the call of an occurrence that has this one
  pub has-call : (k : ℕ) (call : Option ℕ) → HasCall f call k → call_of f k ≡ call
  has-call k call h = ap (option_and_then (λ (o : Occ). o.call)) h.is ∙ h.call_is

  -- what has a call stands in its copy
  stands-in : (call k : ℕ) → HasCall f (Some call) k → CalledIn f call k
  stands-in call k h = Here k (has-call k (Some call) h)

  -- so does what a definer names
  definer-in : (call : ℕ) (d : Definer) → DefinerCalled f (Some call) d → IsInCopy f (Some call) d
  definer-in call (Input n) h = tt
  definer-in call (Plain b k) (inl h) = (stands-in call k h, tt)
  definer-in call (Plain b k) (inr h) =
      (Inside k h.whole (has-call k (Some h.whole) (record { occ = h.occ; is = h.is; call_is = h.call_is })) (stands-in call h.whole (record { occ = h.own; is = h.own_is; call_is = h.own_call })), tt)
  definer-in call (Der b slope resets) h = all-map (HasCall f (Some call)) (CalledIn f call) (stands-in call) (slope ∷ named_in resets) h
  definer-in call (Start b k) h = (stands-in call k h, tt)

  -- outside calls nothing is asked
  in-copy : (call : Option ℕ) (d : Definer) → DefinerCalled f call d → IsInCopy f call d
  in-copy None d h = tt
  in-copy (Some call) d h = definer-in call d h

  -- so do those of each place
  pub places-in_copy : KeepsCalls f → (p : ℕ) (place : PlaceInfo) → slice_get f.places p ≡ Some place → AllByRecursion (IsInCopy f place.call) place.definers
  places-in_copy keeps p place is = all-map (DefinerCalled f place.call) (IsInCopy f place.call) (in-copy place.call) place.definers (keeps.definers p place is)
