use Rattle.std.proofs.Common.{◌≡◌, ◌<◌, ℕ, true, List, ◌∷◌, length, take, drop, sym, ap, ◌∙◌, arith}
use Rattle.std.proofs.lemmas.Bool.{eqb-true, eqb-false}
use Rattle.std.specs.List.{prefix_len}
use Rattle.zl_script.specs.Cut.{words_of, is_blank, goes_on}
use Rattle.zl_script.proofs.CutLemmas.{words-none, words-blank, words-word, goes_on-behind, word-some}
use Rattle.zl_script.proofs.cut.next_word.Goals as goal

pub returns-then-is_empty-clause-words : goal.returns-then-is_empty-clause-words
returns-then-is_empty-clause-words c =
    let line : List ℕ = c.args.line.now in
    let is : c.split_at.result.1.now ≡ drop (prefix_len is_blank line) line =
    c.split_at.ensures.back ∙ ap (λ n. drop n line) c.blank_len.ensures.value in
    words-none line (ap length (sym is) ∙ eqb-true (length c.split_at.result.1.now) 0 (sym c.is_empty.ensures ∙ c.if-is_empty.true))

begins : (c : goal.After-split_at-2) → goes_on c.split_at.result.1.now ≡ true
begins c =
    let line : List ℕ = c.args.line.now in
    let is : c.split_at.result.1.now ≡ drop (prefix_len is_blank line) line =
    c.split_at.ensures.back ∙ ap (λ n. drop n line) c.blank_len.ensures.value in
    let some : 0 < length (drop (prefix_len is_blank line) line) =
    omega (arith, ap length is, eqb-false (length c.split_at.result.1.now) 0 (sym c.is_empty.ensures ∙ c.if-is_empty.false)) in
    ap goes_on is ∙ goes_on-behind line some

pub returns-clause-words : goal.returns-clause-words
returns-clause-words c =
    let line : List ℕ = c.args.line.now in
    let text : List ℕ = c.split_at.result.1.now in
    let n : ℕ = c.word_len.result in
    words-blank line
    ∙ ap words_of (sym (c.split_at.ensures.back ∙ ap (λ n. drop n line) c.blank_len.ensures.value))
    ∙ words-word text (begins c)
    ∙ ap (λ k. take k text ∷ words_of (drop k text)) (sym c.word_len.ensures.value)
    ∙ ap (λ w. w ∷ words_of (drop n text)) (sym c.split_at-2.ensures.front)
    ∙ ap (λ rest. c.split_at-2.result.0.now ∷ words_of rest) (sym c.split_at-2.ensures.back)

pub returns-clause-shorter : goal.returns-clause-shorter
returns-clause-shorter c =
    omega (arith, word-some c.split_at.result.1.now (begins c), c.word_len.ensures.value, c.split_at.ensures.back_len, c.split_at-2.ensures.back_len)
