use Rattle.std.proofs.Common.{◌≡◌, map, drop}
use Rattle.zl_normal.specs.Claims as spec
use Rattle.zl_normal.proofs.roles.claim_again.Given as goal

abbrev pub invariant-loop-k : goal.invariant-loop-k
invariant-loop-k l = spec.claim_all (map spec.again_claim (drop l.k-index l.again)) l.roles.items ≡ spec.claim_all (map spec.again_claim l.again) l.initial.roles.items
