use Rattle.std.proofs.Common.{◌∙◌, ap, subst, ℕ, List, Option, length}
use Rattle.std.specs.Prelude.{IfSome}
use Rattle.zl_value.specs.declared.position.Pos.{Pos}
use Rattle.zl_meaning.specs.FlatForm.{FlatForm}
use Rattle.zl_meaning.specs.declared.place.PlaceInfo.{PlaceInfo}
use Rattle.zl_graph.specs.declared.graph.Link.{Link}
use Rattle.zl_causal.specs.FormLinks.{links_of}
use Rattle.zl_graph.specs.Circles.{AreCircles}
use Rattle.zl_causal.specs.Refused.{IsFirstMarked, HasBlocks, HasPlaces}
use Rattle.zl_meaning.specs.WellFormed.{IsWellFormed}
use Rattle.zl_causal.specs.Ranking.{NoPlace}
use Rattle.zl_causal.proofs.ThroughHub.{through_circle, not_none}
use Rattle.zl_causal.proofs.ranking.ranked_by_blocks.Goals as goal

pub returns : goal.returns
returns c =
    let f = c.args.flat.now in
    let numbers = c.args.circles.now.numbers in
    let marks = c.args.circles.now.marks in
    let some = c.add_blocks.new.links.items in
    let all = c.add_places.new.links.items in
    let through = c.in_ok-through.through.marks in
    let blocks : HasBlocks marks (length f.blocks) (links_of f) some =
    subst (λ (n : ℕ). HasBlocks marks n (links_of f) some) (c.len-2.ensures ∙ ap (λ (g : FlatForm). length g.blocks) c.flat.view_is)
    (subst (λ (ls : List Link). HasBlocks marks c.len-2.result ls some) c.requires.links c.in_ok-add_blocks.ensures) in
    let places : HasPlaces (length f.places) some all =
    subst (λ (n : ℕ). HasPlaces n some all) (c.len-3.ensures ∙ ap (λ (g : FlatForm). length g.places) c.flat.view_is) c.in_ok-add_places.ensures in
    let hub : AreCircles all c.in_ok-through.through.numbers through = subst (λ (ls : List Link). AreCircles ls c.in_ok-through.through.numbers through) c.as_slice.ensures.value c.in_ok-through.ensures in
    let here : IsFirstMarked through c.as_slice-2.result.now c.in-Some.at = subst (λ (o : Option Pos). IfSome o (IsFirstMarked through c.as_slice-2.result.now)) c.in-Some.is c.in_ok-at.ensures.first in
    through_circle f numbers c.in_ok-through.through.numbers marks through some all c.requires.circles c.requires.places blocks places hub c.in-Some.at
    (subst (λ (ps : List PlaceInfo). IsFirstMarked through ps c.in-Some.at) (c.as_slice-2.ensures ∙ ap (λ (g : FlatForm). g.places) c.flat.view_is) here)

pub unreachable-requires : goal.unreachable-requires
unreachable-requires c =
    let f = c.args.flat.now in
    let numbers = c.args.circles.now.numbers in
    let marks = c.args.circles.now.marks in
    let some = c.add_blocks.new.links.items in
    let all = c.add_places.new.links.items in
    let through = c.in_ok-through.through.marks in
    let blocks : HasBlocks marks (length f.blocks) (links_of f) some =
    subst (λ (n : ℕ). HasBlocks marks n (links_of f) some) (c.len-2.ensures ∙ ap (λ (g : FlatForm). length g.blocks) c.flat.view_is)
    (subst (λ (ls : List Link). HasBlocks marks c.len-2.result ls some) c.requires.links c.in_ok-add_blocks.ensures) in
    let places : HasPlaces (length f.places) some all =
    subst (λ (n : ℕ). HasPlaces n some all) (c.len-3.ensures ∙ ap (λ (g : FlatForm). length g.places) c.flat.view_is) c.in_ok-add_places.ensures in
    let hub : AreCircles all c.in_ok-through.through.numbers through = subst (λ (ls : List Link). AreCircles ls c.in_ok-through.through.numbers through) c.as_slice.ensures.value c.in_ok-through.ensures in
    let free : NoPlace through (length f.places) =
    subst (λ (ps : List PlaceInfo). NoPlace through (length ps)) (c.as_slice-2.ensures ∙ ap (λ (g : FlatForm). g.places) c.flat.view_is) (c.in_ok-at.ensures.none c.in_default.is) in
    let well : IsWellFormed f = subst IsWellFormed c.flat.view_is c.flat.invariant in
    let b = c.in_ok-has_block.ensures.some c.if-not-branch.false in
    not_none f numbers c.in_ok-through.through.numbers marks through some all c.requires.circles c.requires.places blocks places hub well free b.0 b.1
