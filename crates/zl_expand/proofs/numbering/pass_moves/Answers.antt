use Rattle.zl_expand.proofs.NumberingSums.{pass-exact}
use Rattle.zl_expand.proofs.numbering.pass_moves.Goals as goal

pub returns : goal.returns
returns c = pass-exact c.args.places.now c.pass.new.self c.moves_size.result _ c.moves_size.ensures c.pass.ensures
