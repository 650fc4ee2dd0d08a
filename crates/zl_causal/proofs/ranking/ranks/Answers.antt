use Rattle.std.proofs.Common.{subst}
use Rattle.zl_meaning.proofs.OneInstant.{ranks_give_one_instant}
use Rattle.zl_causal.specs.Refused.{IsRanked}
use Rattle.zl_causal.proofs.ranking.ranks.Goals as goal

pub returns-in-Ok-Causal-clause-one : goal.returns-in-Ok-Causal-clause-one
returns-in-Ok-Causal-clause-one c =
    ranks_give_one_instant c.args.flat.now c.is_well_formed.ensures c.in-Ok-Causal.ranks.places.items c.in-Ok-Causal.ranks.blocks.items (subst (IsRanked c.args.flat.now) c.in-Ok-Causal.field-0-is c.in-Ok-Causal.ensures)
