-- One entry more.
use Rattle.std.proofs.Common.{rules}
use Rattle.zl_codegen.proofs.Ranked.{entry_more}
use Rattle.zl_codegen.proofs.entry.entries.Goals as goal

pub loop-i-preserved : goal.loop-i-preserved
loop-i-preserved c = entry_more c.args.ranks.now c.loop-i.i c.loop-i.entries.items _ c.push.new.self.items c.loop-i.invariant c.in_ok-push.ensures.items c.in_ok-wire.ensures (search rules) (search rules)
