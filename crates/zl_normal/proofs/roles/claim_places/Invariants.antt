use Rattle.std.proofs.Common.{◌≡◌, drop}
use Rattle.zl_normal.specs.Claims as spec
use Rattle.zl_normal.proofs.roles.claim_places.Given as goal

abbrev pub invariant-loop-place : goal.invariant-loop-place
invariant-loop-place l = spec.claim_all (spec.places_claims l.p (drop l.place-index l.places)) l.roles.items ≡ spec.claim_all (spec.places_claims 0 l.places) l.initial.roles.items
