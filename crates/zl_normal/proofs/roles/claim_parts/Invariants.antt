use Rattle.std.proofs.Common.{◌≡◌, map, drop}
use Rattle.zl_normal.specs.Claims as spec
use Rattle.zl_normal.proofs.roles.claim_parts.Given as goal

abbrev pub invariant-loop-part : goal.invariant-loop-part
invariant-loop-part l = spec.claim_all (map (spec.part_claim l.whole) (drop l.part-index l.parts)) l.roles.items ≡ spec.claim_all (map (spec.part_claim l.whole) l.parts) l.initial.roles.items
