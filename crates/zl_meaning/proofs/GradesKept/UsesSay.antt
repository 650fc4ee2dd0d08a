-- What a use says of an occurrence: its whole, the condition of its `if`, its type.
use Rattle.std.specs.Option.{option_and_then}
use Rattle.std.specs.Prelude.{List, Some, slice_get}
use Rattle.std.proofs.Common.{◌≡◌, ℕ, Bool, true, [], ◌∷◌, Option, subst, ap}
use Rattle.zl_value.specs.Lists.{Has}
use Rattle.zl_value.specs.declared.value.Ty.TheVariants.{Float}
use Rattle.zl_meaning.specs.FlatForm.{FlatForm, HasForm}
use Rattle.zl_meaning.specs.Uses.{PartOf, BranchOf, SlopeOf, ArgumentOf, IsUse, AsPart, AsBranch, AsSlope, AsArgument, IsUnused, uses_of, AsDefiner, DefinerOf, Use}
use Rattle.zl_meaning.specs.Branches.{IsPart}
use Rattle.zl_meaning.specs.WellFormed.{Stands, IsDefiner, IsWellFormed}
use Rattle.zl_meaning.specs.declared.occurrence.Form.TheVariants.{If}
use Rattle.zl_meaning.specs.declared.place.Definer.TheVariants.{Plain, Der}
use Rattle.zl_meaning.specs.declared.place.DerArm.{DerArm}
use Rattle.zl_meaning.specs.declared.place.PlaceInfo.{PlaceInfo}
use Rattle.zl_meaning.specs.Moment.{Moment}
use Rattle.zl_meaning.specs.State.{State}
use Rattle.zl_meaning.specs.Occurrences.{asks, is_asked}
use Rattle.zl_meaning.proofs.Members.{all-has, any-has, has-none}
use Rattle.zl_meaning.proofs.UseCases.{listed-of-use}
use Rattle.zl_meaning.proofs.Standing.{part-of-form, steady-part, branch-part}

module _ (f : FlatForm) (k : ℕ) where
  -- a list without uses says that there are none
  pub none-listed : uses_of f k ≡ [] → IsUnused f k
  none-listed e of is = has-none of (subst (λ us. Has us of) e (listed-of-use f k of is))

  -- the whole of a part, of a branch
  pub whole-of-part : (whole : ℕ) → IsUse f k (PartOf whole) → IsPart f k whole
  whole-of-part whole (AsPart _ form there h) = part-of-form f k whole form there (steady-part form k h)

  pub whole-of-branch : (whole condition : ℕ) (side : Bool) → IsUse f k (BranchOf whole condition side) → IsPart f k whole
  whole-of-branch whole condition side (AsBranch _ _ x y _ there e) = branch-part f side k whole condition x y there e

  -- the whole of a branch is an `if` with this condition
  pub if-of-branch : (whole condition : ℕ) (side : Bool) → IsUse f k (BranchOf whole condition side) → (x : ℕ) × (y : ℕ) × HasForm f whole (If condition x y)
  if-of-branch whole condition side (AsBranch _ _ x y _ there e) = (x, y, there)

  -- what asks for it asks, if it is one of its uses
  pub asked-by : (m : Moment) (s : State) (call : Option ℕ) (of : Use) → IsUse f k of → asks m s of ≡ true → is_asked m s call (uses_of f k) ≡ true
  asked-by m s call of is e = some (uses_of f k) (listed-of-use f k of is)
    where
      some : (us : List Use) → Has us of → is_asked m s call us ≡ true
      some [] h = absurd (has-none of h)
      some (u ∷ us) h = any-has (asks m s) (u ∷ us) of h e

  -- what a plain definer of a place names is used by it, and so is a derivative
  pub plain-used : (p b : ℕ) (place : PlaceInfo) → slice_get f.places p ≡ Some place → Has place.definers (Plain b k) → IsUse f k (DefinerOf place.call)
  plain-used p b place is has = AsDefiner p b place.call (place, is, has) (ap (option_and_then (λ (x : PlaceInfo). x.call)) is)

  pub slope-used : (p b : ℕ) (place : PlaceInfo) (arms : List DerArm) → slice_get f.places p ≡ Some place → Has place.definers (Der b k arms) → IsUse f k (SlopeOf place.call)
  slope-used p b place arms is has = AsSlope p b arms place.call (place, is, has) (ap (option_and_then (λ (x : PlaceInfo). x.call)) is)

  module _ (well : IsWellFormed f) where
    -- a derivative is of type float, and so is the argument of a site
    pub slope-stands : (call : Option ℕ) → IsUse f k (SlopeOf call) → (b : ℕ) × Stands f b Float k
    slope-stands call (AsSlope p b resets _ has at) =
        let definer : IsDefiner f p has.0 (Der b k resets) = all-has (IsDefiner f p has.0) has.0.definers (Der b k resets) (well.places p has.0 has.1).definers has.2 in
        (b, definer.2)

    pub argument-stands : IsUse f k ArgumentOf → (b : ℕ) × Stands f b Float k
    argument-stands (AsArgument n site is e) = (site.block, subst (λ j. Stands f site.block Float j) e (well.sites n site is).argument)
