use Rattle.std.proofs.Common.{sym, arith}
use Rattle.zl_script.specs.Answer.{reading, IsReading}
use Rattle.zl_script.proofs.AnswerLemmas.{reading_long, reading_err, reading_ok}
use Rattle.zl_script.proofs.FitsLemmas.{answer_fits}
use Rattle.zl_script.proofs.ListLemmas.{handed_on}
use Rattle.zl_script.proofs.reading.read_script.Goals as goal

pub returns-then-text-gt-LONGEST_SCRIPT-clause-reading : goal.returns-then-text-gt-LONGEST_SCRIPT-clause-reading
returns-then-text-gt-LONGEST_SCRIPT-clause-reading c = sym (reading_long c.args.inputs.now c.args.text.now c.if-text-gt-LONGEST_SCRIPT.true)

pub returns-in_err-parsed-clause-reading : goal.returns-in_err-parsed-clause-reading
returns-in_err-parsed-clause-reading c =
    handed_on (IsReading (reading c.args.inputs.now c.args.text.now)) c.from_residual-in_err-parsed.result c.in_err-parsed.field-0.0
    c.from_residual-in_err-parsed.ensures.1
    (reading_err c.args.inputs.now c.args.text.now c.in_err-parsed.field-0.0 (omega arith) c.in_err-parsed.ensures)

pub returns-clause-reading : goal.returns-clause-reading
returns-clause-reading c =
    reading_ok c.args.inputs.now c.args.text.now c.in_ok-parsed.parsed c.checked.result (omega arith) c.in_ok-parsed.ensures c.checked.ensures

pub returns-clause-fits : goal.returns-clause-fits
returns-clause-fits c =
    answer_fits c.args.inputs.now c.args.text.now c.checked.result
    (reading_ok c.args.inputs.now c.args.text.now c.in_ok-parsed.parsed c.checked.result (omega arith) c.in_ok-parsed.ensures c.checked.ensures)
