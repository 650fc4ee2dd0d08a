-- What a walk makes, by forms.
use Rattle.std.proofs.Common.{◌≡◌, refl}
use Rattle.zl_expand.specs.declared.instance.Instance.{Instance as TheInstance}
use Rattle.zl_expand.specs.Kept.{infos_in, instance_in}
use Rattle.zl_expand.proofs.PartsLaws.{parts_laws}
use Rattle.zl_expand.proofs.RoomLaws.{room_laws}
use Rattle.zl_flat.proofs.ExprSteps.{walk_steps}
use Rattle.zl_flat.proofs.EqnSteps.{make_steps}

pub instance-infos : (i : TheInstance) → (instance_in i).infos ≡ infos_in i.known.now
unfolding instance_in
instance-infos i = refl

pub ruleset walking = (instance-infos, parts_laws, walk_steps, make_steps)

-- and how many there are
pub ruleset roomy = (walking, room_laws)
