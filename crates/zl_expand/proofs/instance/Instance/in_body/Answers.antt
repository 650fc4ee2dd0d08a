use Rattle.std.proofs.Common.{rules}
use Rattle.zl_expand.specs.Kept.{instance_in}
use Rattle.zl_expand.proofs.instance.Instance.in_body.Goals as goal

pub returns : goal.returns
unfolding instance_in
returns c = search rules
