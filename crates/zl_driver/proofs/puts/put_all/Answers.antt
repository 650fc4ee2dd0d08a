use Rattle.std.proofs.Common.{ℕ, subst}
use Rattle.zl_outside.specs.Counts.{Rose}
use Rattle.zl_outside.specs.Pieces.{GrowsInPart}
use Rattle.zl_driver.proofs.PutLemmas.{writes_cut}
use Rattle.zl_driver.proofs.puts.put_all.Goals as goal

pub returns-in-Err : goal.returns-in-Err
returns-in-Err g c = record {
  ok = tt;
  kept = tt;
  failed = writes_cut (g.K.Sink.stands_for c.args.sink.now) (g.K.Sink.stands_for c.loop-line.sink) (g.K.Sink.stands_for c.put.new.self)
      c.args.lines.now c.loop-line.line-index c.line-item.result c.loop-line-test.true c.line-item.is c.loop-line.invariant.grown
      (subst (GrowsInPart (g.K.Sink.stands_for c.loop-line.sink) (g.K.Sink.stands_for c.put.new.self)) c.bytes.ensures c.in-Err.ensures.failed);
  cause = subst (λ (before : ℕ). Rose before (g.K.Sink.faults c.put.new.self)) c.loop-line.invariant.kept c.in-Err.ensures.cause;
}
