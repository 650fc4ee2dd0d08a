use Rattle.zl_expand.proofs.NumberingSums.{pass-exact}
use Rattle.zl_expand.proofs.numbering.pass_exprs.Goals as goal

pub returns : goal.returns
returns c = pass-exact c.args.places.now c.pass.new.self c.exprs_size.result _ c.exprs_size.ensures c.pass.ensures
