use Rattle.std.proofs.Common.{◌≡◌, ◌++◌, drop}
use Rattle.zl_causal.specs.FormLinks as spec
use Rattle.zl_causal.proofs.links.add_blocks.Given as goal

abbrev pub invariant-loop-block : goal.invariant-loop-block
invariant-loop-block l = l.links.items ++ spec.blocks_links l.b (drop l.block-index l.blocks) ≡ l.initial.links.items ++ spec.blocks_links 0 l.blocks
