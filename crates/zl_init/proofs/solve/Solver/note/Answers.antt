use Rattle.std.proofs.Common.{◌≡◌, true, false, IfOk, subst, sym}
use Rattle.zl_ast.specs.declared.constraint.Asked.{Asked}
use Rattle.zl_ast.specs.Levels.{Grants}
use Rattle.zl_init.specs.Solve.{Narrows, Excludes}
use Rattle.zl_init.proofs.solve.Solver.note.Goals as goal

pub returns-in-Early-clause-fits : goal.returns-in-Early-clause-fits
returns-in-Early-clause-fits c = subst (λ (a : Asked). IfOk c.ask.result (λ fits. fits ≡ true → Narrows (λ levels. Grants levels c.args.node a) c.args.self.now c.ask.new.self)) (sym c.in-Early.is) c.ask.ensures.fits

pub returns-in-Early-clause-refused : goal.returns-in-Early-clause-refused
returns-in-Early-clause-refused c = subst (λ (a : Asked). IfOk c.ask.result (λ fits. fits ≡ false → Excludes (λ levels. Grants levels c.args.node a) c.args.self.now)) (sym c.in-Early.is) c.ask.ensures.refused

pub returns-in-Late-clause-fits : goal.returns-in-Late-clause-fits
returns-in-Late-clause-fits c = subst (λ (a : Asked). IfOk c.ask-in-Late.result (λ fits. fits ≡ true → Narrows (λ levels. Grants levels c.args.node a) c.args.self.now c.ask-in-Late.new.self)) (sym c.in-Late.is) c.ask-in-Late.ensures.fits

pub returns-in-Late-clause-refused : goal.returns-in-Late-clause-refused
returns-in-Late-clause-refused c = subst (λ (a : Asked). IfOk c.ask-in-Late.result (λ fits. fits ≡ false → Excludes (λ levels. Grants levels c.args.node a) c.args.self.now)) (sym c.in-Late.is) c.ask-in-Late.ensures.refused

pub returns-in-LateWhere-clause-fits : goal.returns-in-LateWhere-clause-fits
returns-in-LateWhere-clause-fits c = subst (λ (a : Asked). IfOk c.follow.result (λ fits. fits ≡ true → Narrows (λ levels. Grants levels c.args.node a) c.args.self.now c.follow.new.self)) (sym c.in-LateWhere.is) c.follow.ensures.fits

pub returns-in-LateWhere-clause-refused : goal.returns-in-LateWhere-clause-refused
returns-in-LateWhere-clause-refused c = subst (λ (a : Asked). IfOk c.follow.result (λ fits. fits ≡ false → Excludes (λ levels. Grants levels c.args.node a) c.args.self.now)) (sym c.in-LateWhere.is) c.follow.ensures.refused
