use Rattle.std.proofs.Common.{refl}
use Rattle.zl_meaning.specs.Depends.{PlaceThing, BlockThing, Name, DependsAtOnce, PlaceOnDefiner, BodyOnTest, AtOnce, By}
use Rattle.zl_meaning.specs.declared.place.Definer.TheVariants.{Plain}
use Rattle.zl_meaning.specs.Worked.CircularForms.{leaves}
use Rattle.zl_meaning.proofs.worked.unless_of_its_body_is_circular.Goals as goal

-- `b` on the body of A, where it is defined
on_body : DependsAtOnce leaves (PlaceThing 0) (BlockThing 2)
on_body = PlaceOnDefiner 0 2 (Plain 2 1) (_, refl, record { index = 0; is = refl }) refl

-- that body on `b`, by the test
on_test : DependsAtOnce leaves (BlockThing 2) (PlaceThing 0)
on_test =
    BodyOnTest 2 0 0 2 (PlaceThing 0) refl
    (record { auto = _; is = refl; state = 0; moves = _; in_state = refl; move = _; among = record { index = 0; is = refl }; strong = refl; test = refl })
    (Name 2 0 (_, refl, refl))

pub returns : goal.returns
returns c = By (PlaceThing 0) (BlockThing 2) (PlaceThing 0) on_body (AtOnce (BlockThing 2) (PlaceThing 0) on_test)
