use Rattle.std.proofs.Common.{refl, sym, ◌∙◌}
use Rattle.zl_init.proofs.SolveLemmas.{if_ok_and, follow_open, follow_late, follow_refused}
use Rattle.zl_init.proofs.solve.Solver.follow.Goals as goal

pub returns-then-not-is_late-clause-fits : goal.returns-then-not-is_late-clause-fits
returns-then-not-is_late-clause-fits c = λ _. follow_open c.args.self.now (record { marks = c.args.self.now.marks; followers = c.add.new.self; spread = c.args.self.now.spread }) c.args.leader c.args.node c.requires c.in_ok-add.ensures (sym c.is_late.ensures ∙ c.if-not-is_late.true) refl refl

pub returns-clause-fits : goal.returns-clause-fits
returns-clause-fits c = if_ok_and c.mark.result c.mark.ensures.marked c.mark.ensures.fits (λ fits marked is yes. follow_late c.args.self.now (record { marks = c.mark.new.self; followers = c.add.new.self; spread = c.args.self.now.spread }) c.args.leader c.args.node c.requires c.in_ok-add.ensures (sym c.is_late.ensures ∙ c.if-not-is_late.false) marked refl (sym is ∙ yes))

pub returns-clause-refused : goal.returns-clause-refused
returns-clause-refused c = if_ok_and c.mark.result c.mark.ensures.marked c.mark.ensures.fits (λ fits marked is not. follow_refused c.args.self.now (record { marks = c.mark.new.self; followers = c.add.new.self; spread = c.args.self.now.spread }) c.args.leader c.args.node (sym c.is_late.ensures ∙ c.if-not-is_late.false) marked (sym is ∙ not))
