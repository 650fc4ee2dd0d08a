use Rattle.std.proofs.Common.{sym, ◌∙◌, Global}
use Rattle.std.specs.String.{string_bytes}
use Rattle.zl_cli.proofs.Reports.{two_words, check_words, three_words, run_words}
use Rattle.zl_cli.proofs.command.command_of.Goals as goal

pub returns-then-eq : goal.returns-then-eq
returns-then-eq c =
    check_words (string_bytes {Z = Global}) c.args.words.now c.verb-item.result c.file-item.result c.as_str.result.now c.as_str-then-eq.result.now
    (two_words (string_bytes {Z = Global}) c.args.words.now c.verb-item.result c.file-item.result
    c.in-len2.len_at_least c.in-len2.len_below c.verb-item.is c.file-item.is)
    c.as_str.ensures.value (sym c.eq.ensures ∙ c.if-eq.true) c.as_str-then-eq.ensures.value

pub returns-then-eq-2 : goal.returns-then-eq-2
returns-then-eq-2 c =
    run_words (string_bytes {Z = Global}) c.args.words.now c.verb-item-then-words-lt4.result c.file-item-then-words-lt4.result c.script-item.result
    c.as_str-in-len3.result.now c.as_str-then-eq-2.result.now c.as_str-then-eq-2-2.result.now
    (three_words (string_bytes {Z = Global}) c.args.words.now c.verb-item-then-words-lt4.result c.file-item-then-words-lt4.result c.script-item.result
    c.in-len3.len_at_least c.in-len3.len_below c.verb-item-then-words-lt4.is c.file-item-then-words-lt4.is c.script-item.is)
    c.as_str-in-len3.ensures.value (sym c.eq-in-len3.ensures ∙ c.if-eq-2.true) c.as_str-then-eq-2.ensures.value c.as_str-then-eq-2-2.ensures.value
