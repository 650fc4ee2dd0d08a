use Rattle.std.specs.Prelude.{◌≡◌, Some, None, get_or}
use Rattle.std.proofs.Common.{refl, ap}
use Rattle.zl_meaning.specs.Equation.{equation, turn}
use Rattle.zl_meaning.specs.Worked.{HasTwoInstants}
use Rattle.zl_meaning.specs.Worked.DefinerOutsideItsCopy.{form, evaluated, left_out}
use Rattle.zl_meaning.proofs.worked.definer_outside_its_copy_is_two.Goals as goal

some_none : {X : Type 0} {x : X} → Some x ≡ None → ⊥
some_none p = cc

two : HasTwoInstants form evaluated left_out
unfolding turn equation
two = record { one_solves = refl; other_solves = refl; differ = λ p. some_none (ap (λ t. get_or t.places 0 None) p) }

pub returns : goal.returns
returns c = two
