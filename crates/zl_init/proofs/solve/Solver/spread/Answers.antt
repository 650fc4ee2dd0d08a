use Rattle.zl_init.specs.Solve.{Anything}
use Rattle.zl_init.proofs.SolveLemmas.{narrows_on, excludes_on}
use Rattle.zl_init.proofs.solve.Solver.spread.Goals as goal

pub returns-then-not-branch-clause-refused : goal.returns-then-not-branch-clause-refused
returns-then-not-branch-clause-refused c = λ _. excludes_on Anything c.args.self.now c.loop-self.self c.loop-self.invariant (c.in_ok-spread_next.ensures.refused c.if-not-branch.true)

pub loop-self-preserved : goal.loop-self-preserved
loop-self-preserved c = narrows_on Anything c.args.self.now c.loop-self.self c.spread_next.new.self c.loop-self.invariant (c.in_ok-spread_next.ensures.fits c.if-not-branch.false)
