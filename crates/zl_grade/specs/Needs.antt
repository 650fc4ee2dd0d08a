-- The grades that are needed of occurrences, one by one as the form has its entries.
use Rattle.std.specs.Prelude.{◌≡◌, ℕ, ◌<◌, ◌≤◌, nat_lt, Bool, false, if◌then◌else◌, List, [], ◌∷◌, ◌++◌, get_or, map, Option, Some, None}
use Rattle.std.specs.List.{flat_map}
use Rattle.zl_value.specs.Lists.{Has}
use Rattle.zl_meaning.specs.FlatForm.{FlatForm}
use Rattle.zl_meaning.specs.Grades.{Grading, grade_of, keeps_lines}
use Rattle.zl_meaning.specs.declared.occurrence.Form.{Form}
use Rattle.zl_meaning.specs.declared.occurrence.Form.TheVariants.{Lit, Read, Last, Op as Apply, If, Arrow, Pre, Result, Up, Fired, Step}
use Rattle.zl_meaning.specs.declared.occurrence.Occ.{Occ}
use Rattle.zl_meaning.specs.declared.occurrence.SiteInfo.{SiteInfo}
use Rattle.zl_meaning.specs.declared.place.Definer.{Definer}
use Rattle.zl_meaning.specs.declared.place.Definer.TheVariants.{Input, Plain, Der, Start}
use Rattle.zl_meaning.specs.declared.place.PlaceInfo.{PlaceInfo}
use Rattle.zl_grade.specs.Numbered.{numbered}
use Rattle.zl_grade.specs.declared.needs.Need.{Need}

-- occurrence number `k` has this grade at most
abbrev pub need : ℕ → ℕ → Need
need k limit = record { occ = k; limit = limit }

-- it stands still
abbrev pub still : ℕ → Need
still k = need k 0

-- what is needed of the parts of a graded occurrence
abbrev pub form_needs : Form → List Need
form_needs (Lit v) = []
form_needs (Read p) = []
form_needs (Last p) = []
form_needs (Apply op ks) = if keeps_lines op then [] else map still ks
form_needs (If c x y) = still c ∷ []
form_needs (Arrow x y) = []
form_needs (Pre x) = []
form_needs (Result x) = []
form_needs (Up s) = []
form_needs (Fired ks) = []
form_needs Step = []

abbrev pub occ_needs : List Bool → ℕ → Occ → List Need
occ_needs marks k occ = if get_or marks k false then form_needs occ.form else []

-- a derivative stands still
abbrev pub definer_needs : Definer → List Need
definer_needs (Input n) = []
definer_needs (Plain b k) = []
definer_needs (Der b slope resets) = still slope ∷ []
definer_needs (Start b k) = []

abbrev pub place_needs : PlaceInfo → List Need
place_needs place = flat_map definer_needs place.definers

-- the argument of an `up` moves on a straight line
abbrev pub site_need : SiteInfo → Need
site_need site = need site.arg 1

abbrev pub needs_of : FlatForm → List Bool → List Need
needs_of f marks = numbered (occ_needs marks) 0 f.occs ++ (flat_map place_needs f.places ++ map site_need f.sites)

-- the occurrence has a greater grade than that
abbrev pub IsOver : Grading → Need → Type 0
IsOver g one = one.limit < grade_of g one.occ

-- number `k` is the first that has a greater grade than one of the list says
pub record IsFirstOver (g : Grading) (needs : List Need) (k : ℕ) : Type 0 where
  pub one : Need
  pub is : Has needs one
  pub number : one.occ ≡ k
  pub over : IsOver g one
  pub before : (other : Need) → Has needs other → IsOver g other → k ≤ other.occ

-- the lesser of this number and one that was found before
abbrev pub least : Option ℕ → ℕ → ℕ
least None number = number
least (Some before) number = if nat_lt before number then before else number

-- this is the first that has a greater one, or none has
abbrev pub IsFirst : Grading → List Need → Option ℕ → Type 0
IsFirst g needs None = (one : Need) → Has needs one → IsOver g one → ⊥
IsFirst g needs (Some k) = IsFirstOver g needs k
