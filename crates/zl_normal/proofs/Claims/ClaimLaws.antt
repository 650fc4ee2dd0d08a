-- Laws of claims that are put together.
use Rattle.std.proofs.Common.{◌≡◌, List, [], ◌∷◌, ◌++◌, refl}
use Rattle.std.proofs.lemmas.Grind.{common_steps}
use Rattle.std.proofs.lemmas.List.{append_assoc, append-nil}
use Rattle.zl_normal.specs.declared.role.Role.{Role}
use Rattle.zl_normal.specs.Claims.{Claim, claimed, claim_all}

pub claim_all-append : (cs ds : List Claim) (roles : List Role) → claim_all (cs ++ ds) roles ≡ claim_all ds (claim_all cs roles)
claim_all-append [] ds roles = refl
claim_all-append (c ∷ cs) ds roles = claim_all-append cs ds (claimed c roles)

pub ruleset claiming = (common_steps, append-nil, append_assoc, claim_all-append)
