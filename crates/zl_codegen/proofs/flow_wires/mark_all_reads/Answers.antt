-- What one wire more reads.
use Rattle.std.proofs.Common.{rules, ◌∙◌}
use Rattle.zl_codegen.proofs.MarkTests.{reads_more}
use Rattle.zl_codegen.proofs.flow_wires.mark_all_reads.Goals as goal

pub loop-i-preserved : goal.loop-i-preserved
loop-i-preserved c = reads_more c.args.wires.now c.loop-i.i c.index-wires-i.result c.loop-i.marks c.mark_reads.new.marks (search rules) c.index-wires-i.is c.mark_reads.ensures ∙ c.loop-i.invariant
