use Rattle.std.specs.Prelude.{◌≡◌, ℕ, Some, None}
use Rattle.std.proofs.Common.{refl}
use Rattle.zl_meaning.specs.FlatForm.{CalledIn, Here, Inside}
use Rattle.zl_meaning.specs.Worked.DefinerOutsideABranch.{form}
use Rattle.zl_meaning.proofs.worked.definer_outside_a_branch_is_refused.Goals as goal

-- the definer has no call at all
not_called : (call k : ℕ) → k ≡ 1 → CalledIn form call k → ⊥
not_called call k e (Here _ is) = cc
not_called call k e (Inside _ inner is outer) = cc

pub returns : goal.returns
returns c = λ well. not_called 6 1 refl (well.places 2 _ refl).copies.0.0
