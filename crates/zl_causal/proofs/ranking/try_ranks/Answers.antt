use Rattle.std.proofs.Common.{◌∙◌, ap, subst, List, Option}
use Rattle.std.specs.Prelude.{IfSome}
use Rattle.zl_value.specs.declared.position.Pos.{Pos}
use Rattle.zl_meaning.specs.FlatForm.{FlatForm}
use Rattle.zl_meaning.specs.declared.place.PlaceInfo.{PlaceInfo}
use Rattle.zl_graph.specs.declared.graph.Link.{Link}
use Rattle.zl_causal.specs.FormLinks.{links_of}
use Rattle.zl_graph.specs.Circles.{AreCircles}
use Rattle.zl_causal.specs.Refused.{IsFirstMarked}
use Rattle.zl_causal.proofs.Circling.{first_circle}
use Rattle.zl_causal.proofs.ranking.try_ranks.Goals as goal

pub returns-in-Some : goal.returns-in-Some
returns-in-Some c =
    let f = c.args.flat.now in
    let numbers = c.in_ok-circles.circles.numbers in
    let marks = c.in_ok-circles.circles.marks in
    let circles : AreCircles (links_of f) numbers marks = subst (λ (ls : List Link). AreCircles ls numbers marks) (c.as_slice.ensures.value ∙ c.in_ok-links.ensures) c.in_ok-circles.ensures in
    let here : IsFirstMarked marks c.as_slice-2.result.now c.in-Some.at = subst (λ (o : Option Pos). IfSome o (IsFirstMarked marks c.as_slice-2.result.now)) c.in-Some.is c.in_ok-at.ensures.first in
    first_circle f numbers marks circles c.in-Some.at
    (subst (λ (ps : List PlaceInfo). IsFirstMarked marks ps c.in-Some.at) (c.as_slice-2.ensures ∙ ap (λ (g : FlatForm). g.places) c.flat.view_is) here)
