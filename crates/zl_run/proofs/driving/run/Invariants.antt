-- A run stands at an instant of one of its code's histories, and the lines before that instant are put.
use Rattle.zl_run.specs.Looping.{AtInstant}
use Rattle.zl_run.proofs.Measure.{left_to_run}
use Rattle.zl_run.proofs.driving.run.Given as goal

abbrev pub invariant-loop-again : goal.invariant-loop-again
invariant-loop-again g l = AtInstant l.code l.script (g.K.Sink.stands_for l.fn.sink) (g.K.Sink.stands_for l.sink) (g.K.Sink.faults l.fn.sink) (g.K.Sink.faults l.sink) l.line l.outcome l.track l.machine

abbrev pub decreases-loop-again : goal.decreases-loop-again
decreases-loop-again g l = left_to_run l.script l.track
