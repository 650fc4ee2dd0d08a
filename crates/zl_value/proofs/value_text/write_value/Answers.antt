use Rattle.std.proofs.Common.{w64, arith, rules, FitsSigned}
use Rattle.zl_value.proofs.ValueTexts.{length-signed_decimal-le, passed_on}
use Rattle.zl_value.proofs.value_text.write_value.Goals as goal

pub write_number-requires : goal.write_number-requires
write_number-requires c =
    let fits : FitsSigned w64 c.in-I.n = search rules in
    rw (passed_on c.in-I.n fits.sfits) (omega (arith, length-signed_decimal-le c.in-I.n fits.sfits))

pub returns-in-I-clause-short : goal.returns-in-I-clause-short
returns-in-I-clause-short c =
    let fits : FitsSigned w64 c.in-I.n = search rules in
    rw c.in-I.is (omega (arith, length-signed_decimal-le c.in-I.n fits.sfits))
