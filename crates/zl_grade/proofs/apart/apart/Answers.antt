use Rattle.std.proofs.Common.{◌∙◌, List, length, sym, ap, subst}
use Rattle.zl_meaning.specs.FlatForm.{FlatForm}
use Rattle.zl_meaning.specs.WellFormed.{IsWellFormed}
use Rattle.zl_meaning.specs.declared.occurrence.Occ.{Occ}
use Rattle.zl_meaning.specs.declared.place.PlaceInfo.{PlaceInfo}
use Rattle.zl_grade.specs.Children.{HasCalls}
use Rattle.zl_grade.specs.Closed.{IsClosed}
use Rattle.zl_grade.specs.Reached.{Reach, IsListed}
use Rattle.zl_grade.specs.Apart.{set_values}
use Rattle.zl_grade.proofs.AllApart.{all_apart, has_calls, listed_none}
use Rattle.zl_grade.proofs.Reaching.{Adds, adds_all}
use Rattle.zl_grade.proofs.apart.apart.Goals as goal

pub of-requires : goal.of-requires
of-requires c =
    let well : IsWellFormed c.args.flat.now = subst IsWellFormed c.flat.view_is c.flat.invariant in
    let occs = c.as_slice-occs.ensures ∙ ap (λ (f : FlatForm). f.occs) c.flat.view_is in
    subst (λ (os : List Occ). HasCalls os) (sym occs) (has_calls c.args.flat.now well)

pub close-requires-clause-count : goal.close-requires-clause-count
close-requires-clause-count c =
    let first = c.in_ok-reached.reached in
    ap (λ (r : Reach). length r.marks) c.in_ok-add_places.ensures ∙ (adds_all first (set_values c.as_slice.result.now)).size ∙ c.in_ok-reached.ensures.count

pub close-requires-clause-listed : goal.close-requires-clause-listed
close-requires-clause-listed c =
    let first = c.in_ok-reached.reached in
    let start : IsListed first = listed_none first c.in_ok-reached.ensures.marks c.in_ok-reached.ensures.order in
    subst IsListed (sym c.in_ok-add_places.ensures) ((adds_all first (set_values c.as_slice.result.now)).listed start)

pub returns : goal.returns
returns c =
    let f = c.args.flat.now in
    let first = c.in_ok-reached.reached in
    let old = c.add_places.new.reached in
    let new = c.close.new.reached in
    let well : IsWellFormed f = subst IsWellFormed c.flat.view_is c.flat.invariant in
    let occs = c.as_slice-occs.ensures ∙ ap (λ (g : FlatForm). g.occs) c.flat.view_is in
    let places = c.as_slice.ensures ∙ ap (λ (g : FlatForm). g.places) c.flat.view_is in
    let added : Adds first (set_values c.as_slice.result.now) old = subst (Adds first (set_values c.as_slice.result.now)) (sym c.in_ok-add_places.ensures) (adds_all first (set_values c.as_slice.result.now)) in
    let set : Adds first (set_values f.places) old = subst (λ (ps : List PlaceInfo). Adds first (set_values ps) old) places added in
    let closed : IsClosed f.occs old new = subst (λ (os : List Occ). IsClosed os old new) (c.in_ok-children.ensures.same ∙ occs) c.in_ok-close.ensures in
    all_apart f well first old new (c.in_ok-reached.ensures.count ∙ ap (λ (os : List Occ). length os) occs) c.in_ok-reached.ensures.marks set closed
