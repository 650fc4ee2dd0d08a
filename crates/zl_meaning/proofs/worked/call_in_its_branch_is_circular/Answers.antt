use Rattle.std.specs.Prelude.{◌∷◌, [], true}
use Rattle.std.proofs.Common.{refl}
use Rattle.zl_value.specs.declared.op.Op.TheVariants.{GtFloat}
use Rattle.zl_meaning.specs.Uses.{AsBranch}
use Rattle.zl_meaning.specs.Branches.{Is}
use Rattle.zl_meaning.specs.Depends.{PlaceThing, Name, Part, DependsAtOnce, PlaceOnValue, PlaceOnCondition, AtOnce, By}
use Rattle.zl_meaning.specs.declared.place.Definer.TheVariants.{Plain}
use Rattle.zl_meaning.specs.declared.occurrence.Form.TheVariants.{Op as Apply, If, Result}
use Rattle.zl_meaning.specs.Worked.CircularForms.{calls}
use Rattle.zl_meaning.proofs.worked.call_in_its_branch_is_circular.Goals as goal

-- `y` on `z`, which the condition reads
on_condition : DependsAtOnce calls (PlaceThing 2) (PlaceThing 0)
on_condition =
    PlaceOnCondition 2 5 1 3 true (PlaceThing 0) refl (Is 5 (AsBranch 1 3 5 9 true (_, refl, refl) refl))
    (Part 3 2 (Apply GtFloat (2 ∷ 4 ∷ [])) (PlaceThing 0) (_, refl, refl) (record { index = 0; is = refl }) (Name 2 0 (_, refl, refl)))

-- `z` on `y`, by the call
on_result : DependsAtOnce calls (PlaceThing 0) (PlaceThing 2)
on_result =
    PlaceOnValue 0 1 (Plain 0 1) (PlaceThing 2) (_, refl, record { index = 0; is = refl }) (record { index = 0; is = refl })
    (Part 1 5 (If 3 5 9) (PlaceThing 2) (_, refl, refl) (record { index = 1; is = refl })
    (Part 5 7 (Result 7) (PlaceThing 2) (_, refl, refl) (record { index = 0; is = refl }) (Name 7 2 (_, refl, refl))))

pub returns : goal.returns
returns c = By (PlaceThing 2) (PlaceThing 0) (PlaceThing 2) on_condition (AtOnce (PlaceThing 0) (PlaceThing 2) on_result)
