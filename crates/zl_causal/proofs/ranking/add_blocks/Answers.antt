use Rattle.std.proofs.Common.{subst, ℕ}
use Rattle.zl_causal.specs.Refused.{IsBlockAdded}
use Rattle.zl_causal.proofs.HubLinks.{blocks_more}
use Rattle.zl_causal.proofs.ranking.add_blocks.Goals as goal

pub loop-index-preserved : goal.loop-index-preserved
loop-index-preserved c =
    blocks_more c.args.circles.now.marks c.loop-index.index c.args.links.now.items c.loop-index.links.items c.add_block.new.links.items c.loop-index.invariant
    (subst (λ (b : ℕ). IsBlockAdded c.args.circles.now.marks b c.loop-index.links.items c.add_block.new.links.items) c.in_ok-b.ensures c.in_ok-add_block.ensures)
