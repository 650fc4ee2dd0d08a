use Rattle.std.specs.Prelude.{[], ◌∷◌}
use Rattle.std.proofs.Common.{refl}
use Rattle.zl_meaning.specs.Causality.{HasRanks}
use Rattle.zl_meaning.specs.Worked.FeedbackThroughDeclarations.{form}
use Rattle.zl_meaning.proofs.CausalRanks.{causal-of-ranks}
use Rattle.zl_meaning.proofs.LevelCheck.{ranks-of-lists}
use Rattle.zl_meaning.proofs.worked.feedback_is_causal.Goals as goal

ranks : HasRanks form
ranks =
    ranks-of-lists form
    -- of places and of blocks
    (5 ∷ 10 ∷ 2 ∷ 8 ∷ 7 ∷ 5 ∷ []) (0 ∷ 3 ∷ 3 ∷ [])
    -- of values and of uses
    (6 ∷ 4 ∷ 9 ∷ 3 ∷ 11 ∷ 1 ∷ 7 ∷ 6 ∷ 6 ∷ 1 ∷ 1 ∷ 8 ∷ 9 ∷ 1 ∷ 4 ∷ 1 ∷ 9 ∷ 8 ∷ 4 ∷ 2 ∷ 2 ∷ [])
    (1 ∷ 1 ∷ 2 ∷ 2 ∷ 2 ∷ 2 ∷ 1 ∷ 2 ∷ 2 ∷ 2 ∷ 3 ∷ 3 ∷ 2 ∷ 3 ∷ 4 ∷ 3 ∷ 2 ∷ 3 ∷ 4 ∷ 2 ∷ 2 ∷ [])
    (record { places = refl; blocks = refl; values = refl; uses = refl }) refl refl

pub returns : goal.returns
returns c = causal-of-ranks form ranks
