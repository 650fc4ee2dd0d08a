use Rattle.std.proofs.Common.{◌<◌, ◌≤◌, length, min, Some, sym, ◌∙◌, ap, arith}
use Rattle.std.proofs.lemmas.Bool.{eqb-false}
use Rattle.std.specs.Char.{is_ascii_digit}
use Rattle.std.specs.List.{prefix_len}
use Rattle.std.specs.Option.{option_map}
use Rattle.zl_value.specs.Significand.{most}
use Rattle.zl_value.proofs.Decimals.{all_digits, unsigned_number-whole}
use Rattle.zl_value.proofs.decimal.read_unsigned.Goals as goal

pub counted_value-requires : goal.counted_value-requires
counted_value-requires c =
    let whole : length c.args.text.now ≤ prefix_len is_ascii_digit c.args.text.now = omega arith in
    all_digits c.args.text.now whole

pub returns : goal.returns
returns c =
    let some : 0 < length c.args.text.now = omega (arith, eqb-false (length c.args.text.now) 0 (sym c.is_empty.ensures ∙ c.if-is_empty.false)) in
    let whole : length c.args.text.now ≤ prefix_len is_ascii_digit c.args.text.now = omega arith in
    ap Some c.counted_value.ensures ∙ sym (ap (option_map (λ n. min n most)) (unsigned_number-whole c.args.text.now some whole))
