use Rattle.zl_value.proofs.Fractions.{add_neg}
use Rattle.zl_value.proofs.frac.Frac.sub.Goals as goal

pub returns-clause-value : goal.returns-clause-value
returns-clause-value c = let turned = add_neg c.args.self c.args.other in cc
