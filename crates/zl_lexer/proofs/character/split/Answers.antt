use Rattle.std.proofs.Common.{◌≡◌, [], length, sym, ap, ◌∙◌, rules}
use Rattle.std.specs.Str.{chars}
use Rattle.std.proofs.lemmas.List.{nil_from_length}
use Rattle.std.proofs.lemmas.Str.{chars_past_char, chars-nil}
use Rattle.zl_lexer.proofs.character.split.Goals as goal

pub returns-in-Some-clause-characters : goal.returns-in-Some-clause-characters
returns-in-Some-clause-characters c = chars_past_char c.args.text.now c.as_str.result.now c.in-Some.first c.utf8.text (search rules)

pub returns-in-None-clause-characters : goal.returns-in-None-clause-characters
returns-in-None-clause-characters c =
    let ended = c.in-None.ensures.steps in
    let empty : c.args.text.now ≡ [] = nil_from_length c.args.text.now (ap length (sym c.chars-characters.ensures.rest) ∙ ended.0.0) in
    ap chars empty ∙ chars-nil
