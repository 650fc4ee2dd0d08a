-- Places that lead to themselves depend on themselves, and those that lead to such a block by the hub depend on it.
use Rattle.std.proofs.Common.{◌≡◌, ◌⊎◌, inl, inr, ℕ, ◌<◌, Bool, true, false, List, get_or, sym, ◌∙◌, subst}
use Rattle.zl_value.specs.declared.position.Pos.{Pos}
use Rattle.zl_meaning.specs.FlatForm.{FlatForm}
use Rattle.zl_meaning.specs.Depends as depends
use Rattle.zl_meaning.specs.Depends.{Thing, PlaceThing, BlockThing, Depends, DependsAtOnce, LeadsTo, IsInCircle, IsOnCircle}
use Rattle.zl_causal.specs.declared.node.Node.TheVariants.{Place, Leads}
use Rattle.zl_causal.specs.Nodes.{number_of, node_of}
use Rattle.zl_causal.specs.FormLinks.{links_of}
use Rattle.zl_causal.specs.Edges.{Way}
use Rattle.zl_graph.specs.Circles.{AreCircles}
use Rattle.zl_causal.specs.Ranking.{NoPlace}
use Rattle.zl_causal.specs.Refused.{IsCircleAt, IsMarked, IsFirstMarked}
use Rattle.zl_causal.proofs.NodeNumbers.{way_along, along_way}
use Rattle.zl_causal.proofs.WaysOfForms.{LeadsBack, way-trans, dependency_way, leads_way, way_leads}
use Rattle.zl_causal.proofs.Meanings.{way_depends}

-- a dependency is a way, but where `init` values lead back
pub depends_way : (f : FlatForm) (a b : Thing) → Depends f a b → Way f (node_of a) (node_of b) ⊎ LeadsBack f a b
depends_way f a b (depends.AtOnce c d step) = dependency_way f a b step
depends_way f a b (depends.By c m e step rest) = both (dependency_way f a m step) (depends_way f m b rest)
  where
    both : Way f (node_of a) (node_of m) ⊎ LeadsBack f a m → Way f (node_of m) (node_of b) ⊎ LeadsBack f m b → Way f (node_of a) (node_of b) ⊎ LeadsBack f a b
    both (inl first) (inl second) = inl (way-trans f (node_of a) (node_of m) (node_of b) first second)
    both (inl first) (inr back) = inl (subst (λ t. Way f (node_of a) (node_of t)) (back.1 ∙ sym back.2) first)
    both (inr back) (inl second) = inl (subst (λ t. Way f (node_of t) (node_of b)) (back.2 ∙ sym back.1) second)
    both (inr back) (inr more) = inr (more.0, back.1 ∙ sym back.2 ∙ more.1, more.2, more.3)

module _ (f : FlatForm) (numbers : List ℕ) (marks : List Bool) (circles : AreCircles (links_of f) numbers marks) where
  pub marked_circle : (p : ℕ) → IsMarked marks p → IsInCircle f p
  marked_circle p (inl e) = way_depends f (PlaceThing p) (PlaceThing p) (along_way f (Place p) (Place p) (circles.sound (number_of (Place p)) e))
  marked_circle p (inr e) = depends.AtOnce (PlaceThing p) (PlaceThing p) (depends.PlaceOnItself p (way_leads f p p (along_way f (Leads p) (Leads p) (circles.sound (number_of (Leads p)) e))))

  pub circle_marked : (p : ℕ) → IsInCircle f p → IsMarked marks p
  circle_marked p h = by_case (depends_way f (PlaceThing p) (PlaceThing p) h)
    where
      by_case : Way f (Place p) (Place p) ⊎ LeadsBack f (PlaceThing p) (PlaceThing p) → IsMarked marks p
      by_case (inl way) = inl (circles.full (number_of (Place p)) (way_along f (Place p) (Place p) way))
      by_case (inr back) =
          let e = back.1 in
          let same : p ≡ back.0 = cc in
          inr (subst (λ q. get_or marks (number_of (Leads q)) false ≡ true) (sym same) (circles.full (number_of (Leads back.0)) (way_along f (Leads back.0) (Leads back.0) (leads_way f back.0 back.0 back.3))))

  pub none_before : (n p : ℕ) → NoPlace marks n → p < n → IsInCircle f p → ⊥
  none_before n p none l h = by_case (circle_marked p h)
    where
      by_case : IsMarked marks p → ⊥
      by_case (inl e) = none.place p l e
      by_case (inr e) = none.leads p l e

  pub first_circle : (at : Pos) → IsFirstMarked marks f.places at → IsCircleAt f at
  first_circle at h = record {
    place = h.place;
    info = h.info;
    is = h.is;
    stands = h.stands;
    first = inl (record { holds = marked_circle h.place h.holds; before = λ q l. none_before h.place q h.before l });
  }
