-- Which node reads the grade of which, link by link as the form has its entries.
use Rattle.std.specs.Prelude.{ℕ, List, [], ◌∷◌, ◌++◌, map}
use Rattle.std.specs.List.{flat_map}
use Rattle.zl_meaning.specs.FlatForm.{FlatForm}
use Rattle.zl_meaning.specs.declared.occurrence.Form.{Form}
use Rattle.zl_meaning.specs.declared.occurrence.Form.TheVariants.{Lit, Read, Last, Op as Apply, If, Arrow, Pre, Result, Up, Fired, Step}
use Rattle.zl_meaning.specs.declared.occurrence.Occ.{Occ as Occurrence}
use Rattle.zl_meaning.specs.declared.place.Definer.{Definer}
use Rattle.zl_meaning.specs.declared.place.Definer.TheVariants.{Input, Plain, Der, Start}
use Rattle.zl_meaning.specs.declared.place.PlaceInfo.{PlaceInfo}
use Rattle.zl_grade.specs.Numbered.{numbered}
use Rattle.zl_grade.specs.declared.node.Link.{Link}
use Rattle.zl_grade.specs.declared.node.Node.{Node}
use Rattle.zl_grade.specs.declared.node.Node.TheVariants.{Occ, Place}

-- `to` reads the grade of `from`
abbrev pub link : Node → Node → Link
link from to = record { from = from; to = to }

-- occurrence number `k` reads its part `j`
abbrev pub part_link : ℕ → ℕ → Link
part_link k j = link (Occ j) (Occ k)

abbrev pub form_links : ℕ → Form → List Link
form_links k (Lit v) = []
form_links k (Read p) = link (Place p) (Occ k) ∷ []
form_links k (Last p) = []
form_links k (Apply op ks) = map (part_link k) ks
form_links k (If c x y) = part_link k x ∷ part_link k y ∷ []
form_links k (Arrow x y) = part_link k y ∷ []
form_links k (Pre x) = []
form_links k (Result x) = part_link k x ∷ []
form_links k (Up s) = []
form_links k (Fired ks) = []
form_links k Step = []

abbrev pub occ_links : ℕ → Occurrence → List Link
occ_links k occ = form_links k occ.form

-- place number `p` reads its plain definers
abbrev pub definer_links : ℕ → Definer → List Link
definer_links p (Input n) = []
definer_links p (Plain b k) = link (Occ k) (Place p) ∷ []
definer_links p (Der b slope resets) = []
definer_links p (Start b k) = []

abbrev pub place_links : ℕ → PlaceInfo → List Link
place_links p place = flat_map (definer_links p) place.definers

abbrev pub links_of : FlatForm → List Link
links_of f = numbered occ_links 0 f.occs ++ numbered place_links 0 f.places
