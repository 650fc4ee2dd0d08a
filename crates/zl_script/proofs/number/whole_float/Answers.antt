use Rattle.std.proofs.Common.{ap, ◌∙◌, w64}
use Rattle.std.proofs.lemmas.Int.{to_z-of_z}
use Rattle.zl_value.specs.Fraction.{whole, fitted}
use Rattle.zl_script.proofs.NumberLemmas.{float_ok, float_err}
use Rattle.zl_script.proofs.number.whole_float.Goals as goal

pub returns-in-Ok : goal.returns-in-Ok
returns-in-Ok c =
    float_ok (whole c.args.number) c.in-Ok.number (c.in-Ok.ensures.value ∙ ap (λ n. fitted (whole n)) (to_z-of_z w64 c.args.number c.ranges.number))

pub returns-in-Err : goal.returns-in-Err
returns-in-Err c =
    float_err (whole c.args.number) c.in-Err.field-0 (c.in-Err.ensures.value ∙ ap (λ n. fitted (whole n)) (to_z-of_z w64 c.args.number c.ranges.number))
