use Rattle.std.proofs.Common.{◌∙◌}
use Rattle.zl_lines.proofs.ShownLemmas.{text_more, below_names, name_at}
use Rattle.zl_lines.proofs.pieces.append_outputs.Goals as goal

pub loop-k-preserved : goal.loop-k-preserved
loop-k-preserved c =
    let m = c.args.machine.now in
    let below = below_names m.code.outs c.args.names.now c.loop-k.k c.requires.names c.loop-k-test.true in
    let named = name_at m.code.outs c.args.names.now c.loop-k.k _ _ c.bytes.ensures c.index-names-k.is c.requires.names in
    c.in_ok-append_shown.ensures
    ∙ text_more m.regs m.code.outs c.loop-k.k c.bytes.result.now c.output.result c.args.line.now.items c.loop-k.line.items below named c.output.ensures c.loop-k.invariant
