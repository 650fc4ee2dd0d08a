use Rattle.std.proofs.Common.{◌∙◌, ap, subst, length, ℕ}
use Rattle.zl_meaning.specs.FlatForm.{FlatForm}
use Rattle.zl_causal.specs.Ranking.{ArePlaceNumbers, AreBlockNumbers}
use Rattle.zl_causal.proofs.RankLaws.{are_ranks}
use Rattle.zl_causal.proofs.ranking.ranks_by.Goals as goal

pub returns : goal.returns
returns c =
    let numbers = c.args.circles.now.numbers in
    are_ranks c.args.flat.now numbers c.in_ok-places.places.items c.in_ok-blocks.blocks.items c.args.circles.now.marks c.requires.circles c.requires.places c.requires.blocks
    (subst (λ (n : ℕ). ArePlaceNumbers numbers n c.in_ok-places.places.items) (c.len.ensures ∙ ap (λ (f : FlatForm). length f.places) c.flat.view_is) c.in_ok-places.ensures)
    (subst (λ (n : ℕ). AreBlockNumbers numbers n c.in_ok-blocks.blocks.items) (c.len-2.ensures ∙ ap (λ (f : FlatForm). length f.blocks) c.flat.view_is) c.in_ok-blocks.ensures)
