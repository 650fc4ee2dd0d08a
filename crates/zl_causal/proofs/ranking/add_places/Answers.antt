use Rattle.std.proofs.Common.{◌++◌, ◌∷◌, [], subst, sym, ap, ◌∙◌}
use Rattle.zl_causal.specs.declared.node.Node.TheVariants.{Place, Hub}
use Rattle.zl_causal.specs.Nodes.{link_of}
use Rattle.zl_causal.specs.Refused.{HasPlaces}
use Rattle.zl_causal.proofs.HubLinks.{places_more}
use Rattle.zl_causal.proofs.ranking.add_places.Goals as goal

pub loop-index-preserved : goal.loop-index-preserved
loop-index-preserved c =
    let added = c.in_ok-add_link.ensures ∙ ap (λ p. c.loop-index.links.items ++ link_of Hub (Place p) ∷ []) c.in_ok-p.ensures in
    subst (HasPlaces _ c.args.links.now.items) (sym added) (places_more c.loop-index.index c.args.links.now.items c.loop-index.links.items c.loop-index.invariant)
