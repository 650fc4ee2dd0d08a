use Rattle.std.proofs.Common.{rules}
use Rattle.zl_flat.specs.Sizes as spec
use Rattle.zl_expand.specs.KeptDecls.{infos_in, known_in}
use Rattle.zl_expand.proofs.SizeSums.{sum-step}
use Rattle.zl_expand.proofs.eqn_size.ups_size.Goals as goal

pub loop-up-preserved : goal.loop-up-preserved
loop-up-preserved c = sum-step (spec.up_size (infos_in c.args.known.now) (known_in c.args.known.now)) c.args.ups.now c.loop-up.up-index c.up-item.result c.loop-up.size c.up_size.result c.plus-size.result _ (search rules) (search rules) (search rules) (search rules) c.loop-up.invariant.0
