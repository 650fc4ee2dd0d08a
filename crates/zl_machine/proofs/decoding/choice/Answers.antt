-- The five statements are a choice.
use Rattle.std.proofs.Common.{arith, refl, sym, ◌∙◌}
use Rattle.zl_machine.proofs.Taking.{choice_at}
use Rattle.zl_machine.proofs.decoding.choice.Goals as goal

pub returns : goal.returns
returns c =
    (omega (arith, c.if-i-lt5.false), λ lits. choice_at c.args.stmts.now c.args.i _ _ _ _ _ c.in_ok-cond.cond c.in_ok-yes.yes.to c.in_ok-no.no.to c.in_ok-yes.yes.from c.in_ok-no.no.from (omega (arith, c.if-i-lt5.false)) c.requires (sym c.index-stmts-i-2.is ∙ c.in_ok-cond.ensures) (sym c.index-stmts-i-3.is ∙ c.in_ok-yes.ensures) (sym c.index-stmts-i-else-not-is_fi.is ∙ c.if-not-is_else.ensures refl) (sym c.index-stmts-i-4.is ∙ c.in_ok-no.ensures) (sym c.index-stmts-i.is ∙ c.if-not-is_fi.ensures refl) (omega (arith, c.if-yes-no.false)) lits)
