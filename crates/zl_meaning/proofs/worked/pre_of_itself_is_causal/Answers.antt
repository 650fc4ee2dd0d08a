use Rattle.std.specs.Prelude.{[], ◌∷◌}
use Rattle.std.proofs.Common.{refl}
use Rattle.zl_meaning.specs.Causality.{HasRanks}
use Rattle.zl_meaning.specs.Worked.CausalForms.{counts}
use Rattle.zl_meaning.proofs.CausalRanks.{causal-of-ranks}
use Rattle.zl_meaning.proofs.LevelCheck.{ranks-of-lists}
use Rattle.zl_meaning.proofs.worked.pre_of_itself_is_causal.Goals as goal

ranks : HasRanks counts
ranks =
    ranks-of-lists counts
    -- of places and of blocks
    (4 ∷ []) (0 ∷ [])
    -- of values and of uses
    (5 ∷ 1 ∷ 3 ∷ 1 ∷ 5 ∷ 2 ∷ 1 ∷ [])
    (1 ∷ 2 ∷ 1 ∷ 3 ∷ 4 ∷ 2 ∷ 3 ∷ [])
    (record { places = refl; blocks = refl; values = refl; uses = refl }) refl refl

pub returns : goal.returns
returns c = causal-of-ranks counts ranks
