use Rattle.std.proofs.Common.{length, chars, ap, ◌∙◌, arith}
use Rattle.std.proofs.lemmas.List.{length-drop}
use Rattle.zl_lexer.specs.Lengths.{fraction_len}
use Rattle.zl_lexer.proofs.FormLemmas.{int_is_next, float_is_next}
use Rattle.zl_lexer.proofs.TextLemmas.{chars_fit, fraction_fits}
use Rattle.zl_lexer.proofs.front.number.Goals as goal

pub returns-then-fraction-eq0 : goal.returns-then-fraction-eq0
returns-then-fraction-eq0 c =
    int_is_next c.args.first (chars c.args.rest.now) c.digits_len-digits.result c.fraction_len-fraction.result c.requires
    c.digits_len-digits.ensures.value
    (c.fraction_len-fraction.ensures ∙ ap fraction_len c.skip.ensures)
    c.if-fraction-eq0.true

pub returns-else-fraction-eq0 : goal.returns-else-fraction-eq0
returns-else-fraction-eq0 c =
    float_is_next c.args.first (chars c.args.rest.now) c.digits_len-digits.result c.fraction_len-fraction.result c.requires
    c.digits_len-digits.ensures.value
    (c.fraction_len-fraction.ensures ∙ ap fraction_len c.skip.ensures)
    c.if-fraction-eq0.false

pub overflow_add-result-else-fraction-eq0-2 : goal.overflow_add-result-else-fraction-eq0-2
overflow_add-result-else-fraction-eq0-2 c =
    omega (
      arith,
      c.digits_len-digits.ensures.within,
      c.fraction_len-fraction.ensures,
      fraction_fits (chars c.skip.result.now),
      ap length c.skip.ensures,
      length-drop c.digits_len-digits.result (chars c.args.rest.now),
      chars_fit c.args.rest.now c.utf8.rest,
    )
