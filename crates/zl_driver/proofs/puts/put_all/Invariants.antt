use Rattle.zl_driver.proofs.PutLemmas.{ArePut}
use Rattle.zl_driver.proofs.puts.put_all.Given as goal

abbrev pub invariant-loop-line : goal.invariant-loop-line
invariant-loop-line g l =
    ArePut (g.K.Sink.stands_for l.fn.sink) (g.K.Sink.stands_for l.sink) (g.K.Sink.faults l.fn.sink) (g.K.Sink.faults l.sink) l.lines l.line-index
