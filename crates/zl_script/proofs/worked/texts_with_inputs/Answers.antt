use Rattle.std.proofs.Common.{◌≡◌, true, refl, arith}
use lib.Utf8.{encode}
use Rattle.std.specs.Str.{chars, is_utf8}
use Rattle.unicode_ident.specs.Ident.{is_xid_start, is_xid_continue}
use Rattle.unicode_ident.proofs.IdentLemmas.{is_xid_start-ascii, is_xid_continue-ascii}
use Rattle.zl_value.specs.Fraction.{gcd_in, gcd, reduced, compare, fits, neg}
use Rattle.zl_value.specs.Decimal.{decimal_value}
use Rattle.zl_value.specs.RatioText.{ratio_value}
use Rattle.zl_script.specs.Cut.{lines_of, words_of}
use Rattle.zl_script.specs.Items.{items}
use Rattle.zl_script.specs.Numbers.{literal_of}
use Rattle.zl_script.specs.Assignments.{sets_of}
use Rattle.zl_script.specs.Parsed.{at_lines, parsed}
use Rattle.zl_script.specs.Faults.{out_of_order, input_fault}
use Rattle.zl_script.specs.Answer.{reading}
use Rattle.zl_script.proofs.worked.texts_with_inputs.Goals as goal

-- the letters of the names
starts_v : is_xid_start 118 ≡ true
starts_v = is_xid_start-ascii 118 (omega arith)

starts_n : is_xid_start 110 ≡ true
starts_n = is_xid_start-ascii 110 (omega arith)

starts_b : is_xid_start 98 ≡ true
starts_b = is_xid_start-ascii 98 (omega arith)

starts_q : is_xid_start 113 ≡ true
starts_q = is_xid_start-ascii 113 (omega arith)

starts_i : is_xid_start 105 ≡ true
starts_i = is_xid_start-ascii 105 (omega arith)

continues_n : is_xid_continue 110 ≡ true
continues_n = is_xid_continue-ascii 110 (omega arith)

pub returns-clause-sets : goal.returns-clause-sets
unfolding encode chars is_utf8 gcd_in gcd reduced compare fits neg decimal_value ratio_value lines_of words_of items literal_of sets_of at_lines parsed out_of_order input_fault reading
returns-clause-sets c = rw (starts_n, starts_b, starts_v) refl

pub returns-clause-misset : goal.returns-clause-misset
unfolding encode chars is_utf8 gcd_in gcd reduced compare fits neg decimal_value ratio_value lines_of words_of items literal_of sets_of at_lines parsed out_of_order input_fault reading
returns-clause-misset c = (rw starts_q refl, rw starts_v refl, rw starts_v refl, rw starts_n refl, rw starts_b refl)

pub returns-clause-words : goal.returns-clause-words
unfolding encode chars is_utf8 gcd_in gcd reduced compare fits neg decimal_value ratio_value lines_of words_of items literal_of sets_of at_lines parsed out_of_order input_fault reading
returns-clause-words c = (rw starts_v refl, rw (starts_i, continues_n) refl)

pub returns-clause-given : goal.returns-clause-given
unfolding encode chars is_utf8 gcd_in gcd reduced compare fits neg decimal_value ratio_value lines_of words_of items literal_of sets_of at_lines parsed out_of_order input_fault reading
returns-clause-given c = (rw starts_v refl, rw (starts_v, starts_b) refl)

pub returns-clause-earlier : goal.returns-clause-earlier
unfolding encode chars is_utf8 gcd_in gcd reduced compare fits neg decimal_value ratio_value lines_of words_of items literal_of sets_of at_lines parsed out_of_order input_fault reading
returns-clause-earlier c = (rw starts_q refl, rw starts_q refl, rw starts_v refl)
