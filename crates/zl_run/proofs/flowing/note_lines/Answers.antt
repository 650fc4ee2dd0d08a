use Rattle.zl_crossing.specs.Courses.{IsLine}
use Rattle.zl_machine.specs.Calls.{site_line}
use Rattle.zl_run.proofs.FiringLemmas.{noted, each_more}
use Rattle.zl_run.proofs.flowing.note_lines.Goals as goal

pub loop-k-preserved : goal.loop-k-preserved
loop-k-preserved c =
    let m = c.args.machine.now in
    let one = noted c.loop-k.lines _ _ c.loop-k.k c.line_at.result (λ n. site_line m n) c.loop-k.invariant.0 c.loop-k.invariant.1 c.requires.rooms c.loop-k-test.true c.line_at.ensures.line in
    (one.0, one.1, each_more (λ n. IsLine (site_line m n)) c.loop-k.k c.loop-k.invariant.2 c.line_at.ensures.kept)
