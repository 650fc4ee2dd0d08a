-- The claims of a form on its occurrences, one by one as the form has its entries. The first claim on an occurrence gives its role.
use Rattle.std.specs.Prelude.{ℕ, ◌+◌, Bool, true, false, if◌then◌else◌, nat_eq, List, [], ◌∷◌, ◌++◌, map, slice_get, slice_set, Option, Some}
use Rattle.std.specs.List.{flat_map}
use Rattle.zl_meaning.specs.FlatForm.{FlatForm}
use Rattle.zl_meaning.specs.Uses.{parts}
use Rattle.zl_meaning.specs.declared.place.Definer.{Definer as TheDefiner}
use Rattle.zl_meaning.specs.declared.place.Definer.TheVariants.{Input, Plain, Der, Start as Init}
use Rattle.zl_meaning.specs.declared.place.DerArm.{DerArm}
use Rattle.zl_meaning.specs.declared.place.PlaceInfo.{PlaceInfo}
use Rattle.zl_meaning.specs.declared.occurrence.Form.{Form}
use Rattle.zl_meaning.specs.declared.occurrence.Form.TheVariants.{If}
use Rattle.zl_meaning.specs.declared.occurrence.Occ.{Occ}
use Rattle.zl_meaning.specs.declared.occurrence.SiteInfo.{SiteInfo}
use Rattle.zl_normal.specs.declared.role.Role.{Role}
use Rattle.zl_normal.specs.declared.role.Role.TheVariants.{Unused, Part, Branch, Both, Definer, Slope, Event, Start, Reset, Argument, Again}

-- a claim that occurrence number `occ` has this role
pub record Claim : Type 0 where
  pub occ : ℕ
  pub role : Role

abbrev pub claim : ℕ → Role → Claim
claim k role = record { occ = k; role = role }

-- it is an occurrence, and has no role
abbrev pub is_free : Option Role → Bool
is_free (Some Unused) = true
is_free _ = false

-- the roles after one more claim
abbrev pub claimed : Claim → List Role → List Role
claimed c roles = if is_free (slice_get roles c.occ) then slice_set roles c.occ c.role else roles

abbrev pub claim_all : List Claim → List Role → List Role
claim_all [] roles = roles
claim_all (c ∷ cs) roles = claim_all cs (claimed c roles)

-- the claims of the entries of a list, of which the first has the number `n`
abbrev pub numbered : {X : Type 0} → (ℕ → X → List Claim) → ℕ → List X → List Claim
numbered claims n [] = []
numbered claims n (x ∷ xs) = claims n x ++ numbered claims (n + 1) xs

abbrev pub part_claim : ℕ → ℕ → Claim
part_claim whole k = claim k (Part whole)

abbrev pub branch_claims : ℕ → ℕ → ℕ → ℕ → List Claim
branch_claims whole c x y =
    if nat_eq x y then claim x (Both whole c) ∷ [] else claim x (Branch whole c true) ∷ claim y (Branch whole c false) ∷ []

abbrev pub form_claims : ℕ → Form → List Claim
form_claims k (If c x y) = part_claim k c ∷ branch_claims k c x y
form_claims k form = map (part_claim k) (parts form)

abbrev pub occ_claims : ℕ → Occ → List Claim
occ_claims k occ = form_claims k occ.form

abbrev pub occs_claims : ℕ → List Occ → List Claim
occs_claims n occs = numbered occ_claims n occs

abbrev pub arm_claims : ℕ → ℕ → DerArm → List Claim
arm_claims p n arm = claim arm.event (Event p) ∷ claim arm.value (Reset p n) ∷ []

abbrev pub arms_claims : ℕ → ℕ → List DerArm → List Claim
arms_claims p n arms = numbered (arm_claims p) n arms

abbrev pub definer_claims : ℕ → TheDefiner → List Claim
definer_claims p (Input n) = []
definer_claims p (Plain b k) = claim k (Definer p) ∷ []
definer_claims p (Der b slope arms) = claim slope (Slope p) ∷ arms_claims p 0 arms
definer_claims p (Init b k) = claim k (Start p) ∷ []

abbrev pub place_claims : ℕ → PlaceInfo → List Claim
place_claims p place = flat_map (definer_claims p) place.definers

abbrev pub places_claims : ℕ → List PlaceInfo → List Claim
places_claims n places = numbered place_claims n places

abbrev pub site_claim : SiteInfo → Claim
site_claim site = claim site.arg Argument

abbrev pub again_claim : ℕ → Claim
again_claim k = claim k Again

-- the claims that don't come from occurrences
abbrev pub other_claims : FlatForm → List Claim
other_claims f = places_claims 0 f.places ++ (map site_claim f.sites ++ map again_claim f.again)
