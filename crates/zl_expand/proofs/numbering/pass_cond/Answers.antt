use Rattle.zl_expand.proofs.NumberingSums.{pass-exact}
use Rattle.zl_expand.proofs.numbering.pass_cond.Goals as goal

pub returns : goal.returns
returns c = pass-exact c.args.places.now c.pass.new.self c.cond_size.result _ c.cond_size.ensures c.pass.ensures
