-- What stands in which copy of a body, in the forms that expansion makes.
use Rattle.std.specs.Prelude.{◌≡◌, ◌⊎◌, ℕ, List, slice_get, Option, Some}
use Rattle.zl_meaning.specs.FlatForm.{FlatForm, HasForm, CalledIn, call_of, place_call}
use Rattle.zl_meaning.specs.Uses.{Use, PartOf, BranchOf, DefinerOf, SlopeOf, EventOf, StartOf, ResetOf, TestOf, ArgumentOf, AgainOf, IsUse, IsUnused}
use Rattle.zl_meaning.specs.Branches.{IsPart, Under}
use Rattle.zl_meaning.specs.WellFormed.{IsDeclared}
use Rattle.zl_meaning.specs.declared.occurrence.Form.TheVariants.{Read, Result}
use Rattle.zl_meaning.specs.declared.occurrence.Occ.{Occ}

-- a definer of a place with this call names the occurrence so
abbrev pub IsByDefiner : Use → Option ℕ → Type 0
IsByDefiner (DefinerOf call) place = call ≡ place
IsByDefiner (SlopeOf call) place = call ≡ place
IsByDefiner (EventOf call) place = call ≡ place
IsByDefiner (StartOf call b) place = call ≡ place
IsByDefiner (ResetOf call events arm) place = call ≡ place
IsByDefiner (PartOf whole) place = ⊥
IsByDefiner (BranchOf whole condition side) place = ⊥
IsByDefiner TestOf place = ⊥
IsByDefiner ArgumentOf place = ⊥
IsByDefiner AgainOf place = ⊥

-- occurrence number `k` stands in the copy of a call that has this call and that nothing uses
pub record IsOfUnused (f : FlatForm) (call : Option ℕ) (k : ℕ) : Type 0 where
  pub whole : ℕ
  pub of : call_of f k ≡ Some whole
  pub outer : call_of f whole ≡ call
  pub unused : IsUnused f whole

-- what stands under an `init` value or under a reset value
pub data IsApart (f : FlatForm) (k : ℕ) : Type 0 where
  InStart : (call : Option ℕ) (b : ℕ) → Under f (StartOf call b) k → IsApart f k
  InReset : (call : Option ℕ) (events : List ℕ) (arm : ℕ) → Under f (ResetOf call events arm) k → IsApart f k

-- a part stands in the copy in which its whole does, or is an argument or the result of that call; a call is one; what a
-- definer names stands in the copy in which its place does, or is a result of a call that stands there; a name stands in the
-- copy and in the block of its place; no argument of a site, and nothing of `again`, stands in an `init` value or a reset value
pub record KeepsCopies (f : FlatForm) : Type 0 where
  pub parts : (k whole : ℕ) → IsPart f k whole → (call_of f k ≡ call_of f whole) ⊎ (call_of f k ≡ Some whole)
  pub results : (k whole : ℕ) → HasForm f whole (Result k) → call_of f k ≡ Some whole
  pub calls : (k call : ℕ) → call_of f k ≡ Some call → (result : ℕ) × HasForm f call (Result result)
  pub definers : (k : ℕ) (of : Use) (call : Option ℕ) → IsUse f k of → IsByDefiner of call → (call_of f k ≡ call) ⊎ IsOfUnused f call k
  pub names : (k p call : ℕ) → HasForm f k (Read p) → place_call f p ≡ Some call → CalledIn f call k
  pub declared : (k p : ℕ) (occ : Occ) → slice_get f.occs k ≡ Some occ → occ.form ≡ Read p → IsDeclared f occ.block p
  pub sites : (k : ℕ) → IsApart f k → IsUse f k ArgumentOf → ⊥
  pub again : (k : ℕ) → IsApart f k → IsUse f k AgainOf → ⊥
