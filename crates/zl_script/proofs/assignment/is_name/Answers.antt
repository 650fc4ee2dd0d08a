use Rattle.std.proofs.Common.{◌&&◌, sym, ap, ◌∙◌}
use Rattle.std.proofs.lemmas.Str.{is_utf8-from_IsUtf8}
use Rattle.zl_lexer.specs.Words.{is_identifier}
use Rattle.zl_script.proofs.TextLemmas.{is_utf8-not}
use Rattle.zl_script.proofs.assignment.is_name.Goals as goal

pub returns-in-Ok : goal.returns-in-Ok
returns-in-Ok c =
    c.is_identifier.ensures ∙ ap is_identifier c.in-Ok.ensures.cases.0
    ∙ sym (ap (λ b. b && is_identifier c.args.text.now) (is_utf8-from_IsUtf8 c.args.text.now c.in-Ok.ensures.cases.1))

pub returns-in-Err : goal.returns-in-Err
returns-in-Err c = sym (ap (λ b. b && is_identifier c.args.text.now) (is_utf8-not c.args.text.now c.in-Err.ensures.cases.0))
