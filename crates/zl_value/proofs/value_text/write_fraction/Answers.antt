use Rattle.std.proofs.Common.{◌≡◌, ℕ, w64, pos, to_z, of_z, ◌∙◌, arith, length-append}
use Rattle.zl_value.proofs.ValueTexts.{length-signed_decimal-le, length-decimal-le-nineteen, passed_on, passed_on-positive, fraction_text-whole, fraction_text-parts, fraction_written}
use Rattle.zl_value.proofs.value_text.write_fraction.Goals as goal

pub write_number-end-requires : goal.write_number-end-requires
write_number-end-requires c =
    rw (passed_on c.num.result c.num.type_inv) (omega (arith, length-signed_decimal-le c.num.result c.num.type_inv))

pub returns-then-den-eq1-clause-short : goal.returns-then-den-eq1-clause-short
returns-then-den-eq1-clause-short c =
    let one : c.args.value.den ≡ 1 = omega (arith, passed_on-positive c.den-den.result c.args.value.den c.den-den.ensures.value) in
    rw (fraction_text-whole c.args.value one, ← c.num.ensures.value) (omega (arith, length-signed_decimal-le c.num.result c.num.type_inv))

pub write_bytes-behind-requires : goal.write_bytes-behind-requires
write_bytes-behind-requires c =
    omega (arith, rw (passed_on c.num.result c.num.type_inv) at c.write_number-end.ensures.end, length-signed_decimal-le c.num.result c.num.type_inv)

pub write_number-requires : goal.write_number-requires
write_number-requires c =
    let den_is : to_z w64 (of_z w64 c.den-den.result) ≡ pos c.args.value.den = passed_on c.den-den.result c.den-den.type_inv ∙ c.den-den.ensures.value in
    rw den_is (omega (arith, rw (passed_on c.num.result c.num.type_inv) at c.write_number-end.ensures.end, length-signed_decimal-le c.num.result c.num.type_inv, length-decimal-le-nineteen c.args.value.den c.den-den.ensures.width))

pub returns-clause-short : goal.returns-clause-short
returns-clause-short c =
    let more : c.args.value.den ≡ 1 → ⊥ = omega (arith, passed_on-positive c.den-den.result c.args.value.den c.den-den.ensures.value) in
    rw (fraction_text-parts c.args.value more, ← c.num.ensures.value)
    (omega (arith, length-append {A = ℕ}, length-signed_decimal-le c.num.result c.num.type_inv, length-decimal-le-nineteen c.args.value.den c.den-den.ensures.width))

pub returns-clause-written : goal.returns-clause-written
returns-clause-written c =
    let more : c.args.value.den ≡ 1 → ⊥ = omega (arith, passed_on-positive c.den-den.result c.args.value.den c.den-den.ensures.value) in
    fraction_written c.args.value _ _ _ _ _ _ _ _ _
    (passed_on c.num.result c.num.type_inv ∙ c.num.ensures.value)
    (passed_on c.den-den.result c.den-den.type_inv ∙ c.den-den.ensures.value)
    more c.write_number-end.ensures.written c.write_number-end.ensures.end
    c.write_bytes-behind.ensures.written c.write_bytes-behind.ensures.end
    c.write_number.ensures.written
    (omega (arith, rw (passed_on c.num.result c.num.type_inv) at c.write_number-end.ensures.end, length-signed_decimal-le c.num.result c.num.type_inv))
