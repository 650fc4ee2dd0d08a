use Rattle.std.proofs.Common.{rules}
use Rattle.zl_flat.specs.Sizes as spec
use Rattle.zl_expand.specs.KeptDecls.{infos_in, known_in}
use Rattle.zl_expand.proofs.SizeSums.{sum-step}
use Rattle.zl_expand.proofs.eqn_size.resets_size.Goals as goal

pub loop-reset-preserved : goal.loop-reset-preserved
loop-reset-preserved c = sum-step (spec.reset_arm_size (infos_in c.args.known.now) (known_in c.args.known.now)) c.args.resets.now c.loop-reset.reset-index c.reset-item.result c.loop-reset.size c.reset_size.result c.plus-size.result _ (search rules) (search rules) (search rules) (search rules) c.loop-reset.invariant.0
