use Rattle.std.proofs.Common.{refl, sym, ◌∙◌}
use Rattle.zl_init.proofs.SolveLemmas.{if_ok_and, ask_fits, ask_refused}
use Rattle.zl_init.proofs.solve.Solver.ask.Goals as goal

pub returns-clause-fits : goal.returns-clause-fits
returns-clause-fits c = if_ok_and c.mark.result c.mark.ensures.marked c.mark.ensures.fits (λ fits marked is yes. ask_fits c.args.self.now (record { marks = c.mark.new.self; followers = c.args.self.now.followers; spread = c.args.self.now.spread }) c.args.node c.args.mark c.requires marked refl refl (sym is ∙ yes))

pub returns-clause-refused : goal.returns-clause-refused
returns-clause-refused c = if_ok_and c.mark.result c.mark.ensures.marked c.mark.ensures.fits (λ fits marked is not. ask_refused c.args.self.now (record { marks = c.mark.new.self; followers = c.args.self.now.followers; spread = c.args.self.now.spread }) c.args.node c.args.mark marked (sym is ∙ not))
