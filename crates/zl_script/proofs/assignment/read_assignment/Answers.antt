use Rattle.std.proofs.Common.{Some, None, sym, ◌∙◌}
use Rattle.std.proofs.lemmas.List.{nil_from_length}
use Rattle.zl_script.proofs.AssignmentLemmas.{assigned, unassigned}
use Rattle.zl_script.proofs.assignment.read_assignment.Goals as goal

pub returns-in-Some-read_literal : goal.returns-in-Some-read_literal
returns-in-Some-read_literal c =
    assigned c.args.word.now c.split_at.result.0.now c.split_at.result.1.now c.in-Some.value.now c.name_len.result _ (Some c.in-Some-read_literal.value)
    c.name_len.ensures.value c.split_at.ensures.front c.split_at.ensures.back c.in-Some.ensures.cases.0
    (sym c.is_name.ensures ∙ c.if-not-is_name.false) c.in-Some-read_literal.ensures

pub returns-in-None-read_literal : goal.returns-in-None-read_literal
returns-in-None-read_literal c =
    assigned c.args.word.now c.split_at.result.0.now c.split_at.result.1.now c.in-Some.value.now c.name_len.result _ None
    c.name_len.ensures.value c.split_at.ensures.front c.split_at.ensures.back c.in-Some.ensures.cases.0
    (sym c.is_name.ensures ∙ c.if-not-is_name.false) c.in-None-read_literal.ensures

pub returns-in-None : goal.returns-in-None
returns-in-None c = unassigned c.args.word.now c.split_at.result.1.now c.name_len.result c.name_len.ensures.value c.split_at.ensures.back (nil_from_length c.split_at.result.1.now c.in-None.ensures.cases)
