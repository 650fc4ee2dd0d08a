use Rattle.std.proofs.Common.{◌≡◌, map, drop}
use Rattle.zl_normal.specs.Claims as spec
use Rattle.zl_normal.proofs.roles.claim_sites.Given as goal

abbrev pub invariant-loop-site : goal.invariant-loop-site
invariant-loop-site l = spec.claim_all (map spec.site_claim (drop l.site-index l.sites)) l.roles.items ≡ spec.claim_all (map spec.site_claim l.sites) l.initial.roles.items
