use Rattle.zl_ast.specs.Levels.{Levels, Grants}
use Rattle.zl_init.proofs.SolveLemmas.{if_ok, narrows_on, excludes_on}
use Rattle.zl_init.proofs.solve.Solver.take.Goals as goal

pub returns-then-branch-clause-fits : goal.returns-then-branch-clause-fits
returns-then-branch-clause-fits c = if_ok c.spread.result c.spread.ensures.fits (λ fits more yes. narrows_on (λ (levels : Levels). Grants levels c.args.requirement.node c.args.requirement.asked) c.args.self.now c.note.new.self c.spread.new.self (c.in_ok-note.ensures.fits c.if-branch.true) (more yes))

pub returns-then-branch-clause-refused : goal.returns-then-branch-clause-refused
returns-then-branch-clause-refused c = if_ok c.spread.result c.spread.ensures.refused (λ fits none not. excludes_on (λ (levels : Levels). Grants levels c.args.requirement.node c.args.requirement.asked) c.args.self.now c.note.new.self (c.in_ok-note.ensures.fits c.if-branch.true) (none not))

pub returns-else-branch-clause-refused : goal.returns-else-branch-clause-refused
returns-else-branch-clause-refused c = λ _. c.in_ok-note.ensures.refused c.if-branch.false
