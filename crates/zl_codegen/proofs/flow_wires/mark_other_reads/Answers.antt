-- What one wire more reads, unless it is named as a slope.
use Rattle.std.specs.Prelude.{◌≡◌}
use Rattle.std.proofs.Common.{rules, ◌∙◌}
use Rattle.zl_codegen.specs.Needs.{is_marked}
use Rattle.zl_codegen.proofs.MarkTests.{others_more}
use Rattle.zl_codegen.proofs.flow_wires.mark_other_reads.Goals as goal

pub loop-i-preserved : goal.loop-i-preserved
loop-i-preserved c =
    let slope : c.is_marked-slope.result ≡ is_marked c.args.slopes.now c.loop-i.i = search rules in
    others_more c.args.slopes.now c.args.wires.now c.loop-i.i c.index-wires-i.result c.is_marked-slope.result c.loop-i.marks c.mark_unless.new.marks (search rules) c.index-wires-i.is slope c.mark_unless.ensures ∙ c.loop-i.invariant
