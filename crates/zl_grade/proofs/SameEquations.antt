-- Where the nodes that it reads have the same grades, a node's equation gives the same.
use Rattle.std.proofs.Common.{◌≡◌, ℕ, max, Bool, true, false, List, [], ◌∷◌, get_or, slice_get, Option, Some, None, refl, ap, arith}
use Rattle.std.proofs.Common.{ap₂}
use Rattle.std.specs.List.{flat_map}
use Rattle.zl_value.specs.Lists.{Has}
use Rattle.zl_value.specs.declared.op.Op.{Op}
use Rattle.zl_value.specs.declared.op.Op.TheVariants.{AddFloat, SubFloat, MulFloat, DivFloat, NegFloat}
use Rattle.zl_meaning.specs.FlatForm.{FlatForm}
use Rattle.zl_meaning.specs.Grades.{Grading, grade_of, product_grade, quotient_grade, op_grade, form_grade, if_graded, greatest_grade}
use Rattle.zl_meaning.specs.declared.occurrence.Form.{Form}
use Rattle.zl_meaning.specs.declared.occurrence.Form.TheVariants.{Read, Op as Apply, If, Arrow, Result}
use Rattle.zl_meaning.specs.declared.occurrence.Occ.{Occ as Occurrence}
use Rattle.zl_meaning.specs.declared.place.Definer.{Definer}
use Rattle.zl_meaning.specs.declared.place.Definer.TheVariants.{Input, Plain, Der, Start}
use Rattle.zl_meaning.specs.declared.place.PlaceInfo.{PlaceInfo}
use Rattle.zl_meaning.proofs.Members.{has-left, has-right, has-later, has-map}
use Rattle.zl_grade.specs.Equations.{grade_at, given_occ, given_place, given}
use Rattle.zl_grade.specs.Links.{link, part_link, form_links, occ_links, definer_links, place_links, links_of}
use Rattle.zl_grade.specs.Numbered.{numbered}
use Rattle.zl_grade.specs.declared.node.Link.{Link}
use Rattle.zl_grade.specs.declared.node.Node.{Node}
use Rattle.zl_grade.specs.declared.node.Node.TheVariants.{Occ, Place}
use Rattle.zl_grade.proofs.NumberedEntries.{numbered-has}

-- the links of an occurrence and of a place are links of the form
pub links_of_occ : (f : FlatForm) (k : ℕ) (occ : Occurrence) (l : Link) → slice_get f.occs k ≡ Some occ → Has (form_links k occ.form) l → Has (links_of f) l
links_of_occ f k occ l is has = has-left (numbered occ_links 0 f.occs) (numbered place_links 0 f.places) l (numbered-has occ_links 0 k k f.occs occ l (omega arith) is has)

pub links_of_place : (f : FlatForm) (p : ℕ) (place : PlaceInfo) (l : Link) → slice_get f.places p ≡ Some place → Has (place_links p place) l → Has (links_of f) l
links_of_place f p place l is has = has-right (numbered occ_links 0 f.occs) (numbered place_links 0 f.places) l (numbered-has place_links 0 p p f.places place l (omega arith) is has)

module _ (g h : Grading) where
  -- both have the same grade there
  abbrev Same : Node → Type 0
  Same m = grade_at g m ≡ grade_at h m

  op_same : (op : Op) (ks : List ℕ) → ((j : ℕ) → Has ks j → grade_of g j ≡ grade_of h j) → op_grade g op ks ≡ op_grade h op ks
  op_same AddFloat (a ∷ b ∷ []) all = ap₂ (λ x y. max x y) (all a (record { index = 0; is = refl })) (all b (record { index = 1; is = refl }))
  op_same SubFloat (a ∷ b ∷ []) all = ap₂ (λ x y. max x y) (all a (record { index = 0; is = refl })) (all b (record { index = 1; is = refl }))
  op_same MulFloat (a ∷ b ∷ []) all = ap₂ (λ x y. product_grade x y) (all a (record { index = 0; is = refl })) (all b (record { index = 1; is = refl }))
  op_same DivFloat (a ∷ b ∷ []) all = ap₂ (λ x y. quotient_grade x y) (all a (record { index = 0; is = refl })) (all b (record { index = 1; is = refl }))
  op_same NegFloat (a ∷ []) all = all a (record { index = 0; is = refl })
  op_same op ks all = refl

  form_same : (k : ℕ) (form : Form) → ((m : Node) → Has (form_links k form) (link m (Occ k)) → Same m) → form_grade g form ≡ form_grade h form
  form_same k (Read p) all = all (Place p) (record { index = 0; is = refl })
  form_same k (Result x) all = all (Occ x) (record { index = 0; is = refl })
  form_same k (Apply op ks) all = op_same op ks (λ j has. all (Occ j) (has-map (part_link k) ks j has))
  form_same k (If c x y) all = ap₂ (λ a b. max a b) (all (Occ x) (record { index = 0; is = refl })) (all (Occ y) (record { index = 1; is = refl }))
  form_same k (Arrow x y) all = all (Occ y) (record { index = 0; is = refl })
  form_same k form all = refl

  definers_same : (p : ℕ) (ds : List Definer) → ((m : Node) → Has (flat_map (definer_links p) ds) (link m (Place p)) → Same m) → greatest_grade g ds ≡ greatest_grade h ds
  definers_same p [] all = refl
  definers_same p (Input n ∷ ds) all = ap (λ x. max 0 x) (definers_same p ds all)
  definers_same p (Plain b k ∷ ds) all =
      ap₂ (λ x y. max (if_graded x) y) (all (Occ k) (record { index = 0; is = refl })) (definers_same p ds (λ m has. all m (has-later (link (Occ k) (Place p)) (flat_map (definer_links p) ds) (link m (Place p)) has)))
  definers_same p (Der b slope arms ∷ ds) all = ap (λ x. max 1 x) (definers_same p ds all)
  definers_same p (Start b k ∷ ds) all = ap (λ x. max 0 x) (definers_same p ds all)

  -- a node's equation, if what it reads has the same grade
  pub given_same : (f : FlatForm) (marks : List Bool) (node : Node) → ((m : Node) → Has (links_of f) (link m node) → Same m) → given f marks g node ≡ given f marks h node
  given_same f marks (Occ k) all = by_case (get_or marks k false) (slice_get f.occs k) refl
    where
      by_case : (b : Bool) (o : Option Occurrence) → slice_get f.occs k ≡ o → given_occ g b o ≡ given_occ h b o
      by_case false o is = refl
      by_case true None is = refl
      by_case true (Some occ) is = form_same k occ.form (λ m has. all m (links_of_occ f k occ (link m (Occ k)) is has))
  given_same f marks (Place p) all = by_case (slice_get f.places p) refl
    where
      by_case : (o : Option PlaceInfo) → slice_get f.places p ≡ o → given_place g o ≡ given_place h o
      by_case None is = refl
      by_case (Some place) is = definers_same p place.definers (λ m has. all m (links_of_place f p place (link m (Place p)) is has))
