use Rattle.std.specs.Prelude.{[], ◌∷◌}
use Rattle.std.proofs.Common.{refl}
use Rattle.zl_meaning.specs.Causality.{HasRanks}
use Rattle.zl_meaning.specs.Worked.CausalForms.{leaves}
use Rattle.zl_meaning.proofs.CausalRanks.{causal-of-ranks}
use Rattle.zl_meaning.proofs.LevelCheck.{ranks-of-lists}
use Rattle.zl_meaning.proofs.worked.until_of_its_body_is_causal.Goals as goal

ranks : HasRanks leaves
ranks =
    ranks-of-lists leaves
    -- of places and of blocks
    (3 ∷ []) (0 ∷ 1 ∷ 1 ∷ 1 ∷ 1 ∷ [])
    -- of values and of uses
    (4 ∷ 2 ∷ 4 ∷ 2 ∷ [])
    (1 ∷ 2 ∷ 2 ∷ 2 ∷ [])
    (record { places = refl; blocks = refl; values = refl; uses = refl }) refl refl

pub returns : goal.returns
returns c = causal-of-ranks leaves ranks
