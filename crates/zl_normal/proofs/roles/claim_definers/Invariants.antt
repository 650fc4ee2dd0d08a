use Rattle.std.proofs.Common.{◌≡◌, drop}
use Rattle.std.specs.List.{flat_map}
use Rattle.zl_normal.specs.Claims as spec
use Rattle.zl_normal.proofs.roles.claim_definers.Given as goal

abbrev pub invariant-loop-definer : goal.invariant-loop-definer
invariant-loop-definer l = spec.claim_all (flat_map (spec.definer_claims l.p) (drop l.definer-index l.definers)) l.roles.items ≡ spec.claim_all (flat_map (spec.definer_claims l.p) l.definers) l.initial.roles.items
