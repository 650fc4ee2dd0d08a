use Rattle.std.proofs.Common.{◌≡◌, drop}
use Rattle.zl_normal.specs.Claims as spec
use Rattle.zl_normal.proofs.roles.claim_occs.Given as goal

abbrev pub invariant-loop-occ : goal.invariant-loop-occ
invariant-loop-occ l = spec.claim_all (spec.occs_claims l.k (drop l.occ-index l.occs)) l.roles.items ≡ spec.claim_all (spec.occs_claims 0 l.occs) l.initial.roles.items
