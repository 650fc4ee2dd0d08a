use Rattle.std.proofs.Common.{◌≡◌, ◌≤◌, Bool, List, length, get_or, replicate, false, ap, sym, subst, ◌∙◌}
use Rattle.std.proofs.lemmas.List.{drop_all}
use Rattle.zl_meaning.specs.FlatForm.{FlatForm}
use Rattle.zl_meaning.specs.WellFormed.{IsWellFormed}
use Rattle.zl_meaning.specs.declared.occurrence.Occ.{Occ}
use Rattle.zl_normal.specs.GuardRoots.{marked_lasts}
use Rattle.zl_normal.proofs.LastMarks.{lasts_marked}
use Rattle.zl_normal.proofs.guards.lasts_of.Goals as goal

pub returns : goal.returns
returns c =
    let f : FlatForm = c.args.flat.now in
    let well : IsWellFormed f = subst IsWellFormed c.flat.view_is c.flat.invariant in
    let occs = c.as_slice-occ-items.ensures ∙ ap (λ (g : FlatForm). g.occs) c.flat.view_is in
    let len = c.len.ensures ∙ ap (λ (g : FlatForm). length g.places) c.flat.view_is in
    let start : c.in_ok-lasts.lasts.items ≡ replicate (length f.places) false = c.in_ok-lasts.ensures.items_if_clones_equal (λ a e. e) ∙ ap (λ n. replicate n false) len in
    let past : length f.occs ≤ c.loop-occ.occ-index = subst (λ (os : List Occ). length os ≤ c.loop-occ.occ-index) occs c.loop-occ-test.false in
    let all : c.loop-occ.lasts.items ≡ marked_lasts f.occs (replicate (length f.places) false) =
    sym (ap (λ os. marked_lasts os c.loop-occ.lasts.items) (drop_all c.loop-occ.occ-index f.occs past)) ∙ c.loop-occ.invariant ∙ ap (λ marks. marked_lasts f.occs marks) start in
    λ j p has. ap (λ (marks : List Bool). get_or marks p false) all ∙ lasts_marked f well j p has
