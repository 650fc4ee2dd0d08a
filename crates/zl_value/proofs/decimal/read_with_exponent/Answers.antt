use Rattle.std.proofs.Common.{◌++◌, length, FitsSigned, sym, ◌∙◌, rules}
use Rattle.std.specs.Int.{w128}
use Rattle.std.proofs.lemmas.Int.{to_z-of_z}
use Rattle.zl_value.specs.Decimal.{exponent_of}
use Rattle.zl_value.proofs.Decimals.{with_counted}
use Rattle.zl_value.proofs.decimal.read_with_exponent.Goals as goal

pub returns-clause-value : goal.returns-clause-value
returns-clause-value c =
    let fits : FitsSigned w128 c.in_ok-read_exponent.field-0 = search rules in
    with_counted (exponent_of c.args.exponent.now) c.in_ok-read_exponent.field-0 c.read_parts.result
    (λ e. record { digits = c.args.before.now ++ c.args.behind.now; behind = length c.args.behind.now; exponent = e })
    c.in_ok-read_exponent.ensures.value
    (λ x is. c.read_parts.ensures.value x (is ∙ sym (to_z-of_z w128 c.in_ok-read_exponent.field-0 fits)))
