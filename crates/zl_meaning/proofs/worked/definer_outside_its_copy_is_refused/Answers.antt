use Rattle.std.specs.Prelude.{◌≡◌, ℕ, Some, None}
use Rattle.std.proofs.Common.{refl}
use Rattle.zl_meaning.specs.FlatForm.{CalledIn, Here, Inside}
use Rattle.zl_meaning.specs.Worked.DefinerOutsideItsCopy.{form}
use Rattle.zl_meaning.proofs.worked.definer_outside_its_copy_is_refused.Goals as goal

-- the definer has no call at all
not_called : (call k : ℕ) → k ≡ 0 → CalledIn form call k → ⊥
not_called call k e (Here _ is) = cc
not_called call k e (Inside _ inner is outer) = cc

pub returns : goal.returns
returns c = λ well. not_called 1 0 refl (well.places 0 _ refl).copies.0.0
