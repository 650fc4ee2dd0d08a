use Rattle.std.proofs.Common.{List, refl, sym, subst, ◌+◌, ◌∙◌}
use Rattle.zl_value.specs.declared.position.Pos.{Pos}
use Rattle.zl_init.specs.Marks.{MadeLate}
use Rattle.zl_init.proofs.SolveLemmas.{if_ok, next_late, next_early}
use Rattle.zl_init.proofs.solve.Solver.spread_next.Goals as goal

pub returns-in-Some-clause-fits : goal.returns-in-Some-clause-fits
returns-in-Some-clause-fits c = if_ok c.mark_late.result c.mark_late.ensures.made (λ fits made yes. next_late c.args.self.now (record { marks = c.mark_late.new.self; followers = c.args.self.now.followers; spread = c.args.self.now.spread + 1 }) c.in-Some.leader c.requires.spread c.requires.left (sym c.late-next.ensures.entry ∙ c.in-Some.is) c.in-Some.ensures.late (subst (λ (ps : List Pos). MadeLate ps c.args.self.now.marks c.mark_late.new.self) c.of.ensures (made yes)) refl refl)

pub returns-in-None-clause-fits : goal.returns-in-None-clause-fits
returns-in-None-clause-fits c = λ _. next_early c.args.self.now (record { marks = c.args.self.now.marks; followers = c.args.self.now.followers; spread = c.args.self.now.spread + 1 }) c.requires.spread c.requires.left (sym c.late-next.ensures.entry ∙ c.in-None.is) refl refl refl
