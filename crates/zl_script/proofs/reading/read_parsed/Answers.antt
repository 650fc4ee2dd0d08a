use Rattle.std.proofs.Common.{sym, ap, ◌∙◌}
use Rattle.zl_script.specs.Cut.{lines_of, words_of}
use Rattle.zl_script.specs.Items.{items}
use Rattle.zl_script.specs.Parsed.{at_lines, made, parsed, IsParsed}
use Rattle.zl_script.proofs.ListLemmas.{handed_on}
use Rattle.zl_script.proofs.ReadLemmas.{parsed_end, parsed_stop, parsed_some, made_err}
use Rattle.zl_script.proofs.reading.read_parsed.Goals as goal

pub returns-in-Err : goal.returns-in-Err
returns-in-Err c = parsed_end c.args.inputs.now c.args.text.now c.in-Err.line c.in-Err.ensures.items c.in-Err.ensures.end

pub returns-in_default : goal.returns-in_default
returns-in_default c =
    parsed_stop c.args.inputs.now c.args.text.now (record { line = c.in-Ok.found.line; words = words_of c.in-Ok.found.words.now })
    (items c.in-Ok.found.next (lines_of c.in-Ok.found.rest.now)) c.in-Ok.ensures.items (sym c.in_default.is ∙ c.read_horizon.ensures)

pub returns-in_err-lines : goal.returns-in_err-lines
returns-in_err-lines c =
    handed_on (IsParsed (parsed c.args.inputs.now c.args.text.now)) c.from_residual.result c.in_err-lines.field-0.0 c.from_residual.ensures.1
    (made_err (parsed c.args.inputs.now c.args.text.now) c.in-Ok.found.line c.in-Some.horizon c.split_steps-steps.result.0
    (at_lines c.args.inputs.now (items c.split_steps-steps.result.2 (lines_of c.split_steps-steps.result.1.now))) c.in_err-lines.field-0.0
    (parsed_some c.args.inputs.now c.args.text.now (record { line = c.in-Ok.found.line; words = words_of c.in-Ok.found.words.now })
    (items c.in-Ok.found.next (lines_of c.in-Ok.found.rest.now)) c.in-Some.horizon c.in-Ok.ensures.items (sym c.in-Some.is ∙ c.read_horizon.ensures)
    ∙ c.split_steps-steps.ensures.steps c.args.inputs.now c.in-Ok.found.line c.in-Some.horizon)
    c.in_err-lines.ensures)

pub returns : goal.returns
returns c =
    parsed_some c.args.inputs.now c.args.text.now (record { line = c.in-Ok.found.line; words = words_of c.in-Ok.found.words.now })
    (items c.in-Ok.found.next (lines_of c.in-Ok.found.rest.now)) c.in-Some.horizon c.in-Ok.ensures.items (sym c.in-Some.is ∙ c.read_horizon.ensures)
    ∙ c.split_steps-steps.ensures.steps c.args.inputs.now c.in-Ok.found.line c.in-Some.horizon
    ∙ ap (made c.in-Ok.found.line c.in-Some.horizon c.split_steps-steps.result.0) c.in_ok-lines.ensures
