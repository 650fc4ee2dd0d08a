use Rattle.std.proofs.Common.{◌≡◌, drop}
use Rattle.zl_normal.specs.Claims as spec
use Rattle.zl_normal.proofs.roles.claim_arms.Given as goal

abbrev pub invariant-loop-arm : goal.invariant-loop-arm
invariant-loop-arm l = spec.claim_all (spec.arms_claims l.p l.n (drop l.arm-index l.arms)) l.roles.items ≡ spec.claim_all (spec.arms_claims l.p 0 l.arms) l.initial.roles.items
