use Rattle.zl_expand.proofs.NumberingSums.{pass-exact}
use Rattle.zl_expand.proofs.numbering.pass_resets.Goals as goal

pub returns : goal.returns
returns c = pass-exact c.args.places.now c.pass.new.self c.resets_size.result _ c.resets_size.ensures c.pass.ensures
