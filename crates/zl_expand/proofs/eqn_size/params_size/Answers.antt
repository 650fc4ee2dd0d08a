use Rattle.std.proofs.Common.{rules}
use Rattle.zl_flat.specs.Sizes as spec
use Rattle.zl_expand.proofs.SizeSums.{repeated-step}
use Rattle.zl_expand.proofs.eqn_size.params_size.Goals as goal

pub loop-param-preserved : goal.loop-param-preserved
loop-param-preserved c = repeated-step spec.a_place c.args.params.now c.loop-param._param-index c.loop-param.size c.plus-size.result _ (search rules) (search rules) c.loop-param.invariant.0
