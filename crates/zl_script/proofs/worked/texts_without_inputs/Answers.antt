use Rattle.std.proofs.Common.{refl}
use lib.Utf8.{encode}
use Rattle.std.specs.Str.{chars, is_utf8}
use Rattle.zl_value.specs.Fraction.{gcd_in, gcd, reduced, compare, fits}
use Rattle.zl_value.specs.Decimal.{decimal_value}
use Rattle.zl_value.specs.RatioText.{ratio_value}
use Rattle.zl_script.specs.Cut.{lines_of, words_of}
use Rattle.zl_script.specs.Items.{items}
use Rattle.zl_script.specs.Assignments.{sets_of}
use Rattle.zl_script.specs.Parsed.{at_lines, parsed}
use Rattle.zl_script.specs.Faults.{out_of_order, input_fault}
use Rattle.zl_script.specs.Answer.{reading}
use Rattle.zl_script.proofs.worked.texts_without_inputs.Goals as goal

pub returns-clause-comment : goal.returns-clause-comment
unfolding encode chars is_utf8 gcd_in gcd reduced compare fits decimal_value ratio_value lines_of words_of items sets_of at_lines parsed out_of_order input_fault reading
returns-clause-comment c = refl

pub returns-clause-lines : goal.returns-clause-lines
unfolding encode chars is_utf8 gcd_in gcd reduced compare fits decimal_value ratio_value lines_of words_of items sets_of at_lines parsed out_of_order input_fault reading
returns-clause-lines c = refl

pub returns-clause-horizon : goal.returns-clause-horizon
unfolding encode chars is_utf8 gcd_in gcd reduced compare fits decimal_value ratio_value lines_of words_of items sets_of at_lines parsed out_of_order input_fault reading
returns-clause-horizon c = (refl, refl, refl)

pub returns-clause-steps : goal.returns-clause-steps
unfolding encode chars is_utf8 gcd_in gcd reduced compare fits decimal_value ratio_value lines_of words_of items sets_of at_lines parsed out_of_order input_fault reading
returns-clause-steps c = (refl, refl)

pub returns-clause-order : goal.returns-clause-order
unfolding encode chars is_utf8 gcd_in gcd reduced compare fits decimal_value ratio_value lines_of words_of items sets_of at_lines parsed out_of_order input_fault reading
returns-clause-order c = (refl, refl)
