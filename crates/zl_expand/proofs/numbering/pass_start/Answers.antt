use Rattle.zl_expand.proofs.NumberingSums.{pass-exact}
use Rattle.zl_expand.proofs.numbering.pass_start.Goals as goal

pub returns : goal.returns
returns c = pass-exact c.args.places.now c.pass.new.self c.start_size.result _ c.start_size.ensures c.pass.ensures
