-- One guard more is closed.
use Rattle.std.specs.Prelude.{◌++◌}
use Rattle.std.proofs.Common.{rules, sym, ap, ◌∙◌}
use Rattle.zl_codegen.proofs.Chains.{close_at}
use Rattle.zl_codegen.proofs.guards.close.Goals as goal

pub loop-i-preserved : goal.loop-i-preserved
loop-i-preserved c rest = c.in_ok-close_one.ensures _ ∙ ap (λ s. c.loop-i.out.items ++ s) (sym (close_at c.args.guards.now c.loop-i.i rest (search rules))) ∙ c.loop-i.invariant rest
