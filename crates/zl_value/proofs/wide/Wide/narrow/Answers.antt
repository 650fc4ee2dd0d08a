use Rattle.std.proofs.Common.{arith, ap, ◌∙◌, ◌≡◌}
use Rattle.std.proofs.lemmas.Int.{ints, to_z-of_z, fits_signed_from_abs}
use Rattle.std.specs.Prelude.{pos}
use Rattle.std.specs.Result.{result_ok}
use mir.Syntax.{w128}
use Rattle.zl_value.specs.Decimal.{if_fits}
use Rattle.zl_value.specs.Fraction.{reduced, fitted}
use Rattle.zl_value.proofs.WideNumbers.{result_ok-fitted}
use Rattle.zl_value.proofs.wide.Wide.narrow.Goals as goal

pub returns-clause-value : goal.returns-clause-value
returns-clause-value c =
    let n = c.self.inside.num in
    let d = c.self.inside.den in
    let wide = to_z-of_z w128 c.signed.result (fits_signed_from_abs w128 c.signed.result (omega (arith, ints, c.signed.ensures, c.self.invariant.1))) in
    let made : c.reduce.result ≡ fitted (reduced (pos n) d) = c.reduce.ensures.value ∙ ap (λ x. fitted (reduced x d)) (wide ∙ c.signed.ensures) in
    c.ok.ensures.value ∙ ap result_ok made ∙ result_ok-fitted (reduced (pos n) d) ∙ ap if_fits c.self.view_is
