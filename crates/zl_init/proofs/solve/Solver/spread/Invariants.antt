use Rattle.std.proofs.Common.{◌-◌, ◌^◌}
use Rattle.zl_init.specs.Solve.{Narrows, Anything}
use Rattle.zl_init.proofs.solve.Solver.spread.Given as goal

abbrev pub invariant-loop-self : goal.invariant-loop-self
invariant-loop-self l = Narrows Anything l.initial.self l.self

-- the count of marks fits a word
abbrev pub decreases-loop-self : goal.decreases-loop-self
decreases-loop-self l = 2 ^ 64 - l.self.spread
