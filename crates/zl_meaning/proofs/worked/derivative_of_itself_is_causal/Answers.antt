use Rattle.std.specs.Prelude.{[], ◌∷◌}
use Rattle.std.proofs.Common.{refl}
use Rattle.zl_meaning.specs.Causality.{HasRanks}
use Rattle.zl_meaning.specs.Worked.CausalForms.{grows}
use Rattle.zl_meaning.proofs.CausalRanks.{causal-of-ranks}
use Rattle.zl_meaning.proofs.LevelCheck.{ranks-of-lists}
use Rattle.zl_meaning.proofs.worked.derivative_of_itself_is_causal.Goals as goal

ranks : HasRanks grows
ranks =
    ranks-of-lists grows
    -- of places and of blocks
    (2 ∷ []) (0 ∷ [])
    -- of values and of uses
    (3 ∷ 3 ∷ 1 ∷ [])
    (1 ∷ 1 ∷ 1 ∷ [])
    (record { places = refl; blocks = refl; values = refl; uses = refl }) refl refl

pub returns : goal.returns
returns c = causal-of-ranks grows ranks
