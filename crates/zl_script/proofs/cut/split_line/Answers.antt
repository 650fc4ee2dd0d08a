use Rattle.std.proofs.Common.{◌≡◌, ◌<◌, ◌+◌, ℕ, List, ◌∷◌, length, take, drop, sym, ap, ◌∙◌, arith}
use Rattle.std.proofs.lemmas.Bool.{eqb-true, eqb-false}
use Rattle.std.proofs.lemmas.List.{take_rest}
use Rattle.std.specs.List.{prefix_len}
use Rattle.zl_script.specs.Cut.{lines_of}
use Rattle.zl_script.proofs.CutLemmas.{in_line, lines-none, lines-one, lines-more, lines-empty}
use Rattle.zl_script.proofs.cut.split_line.Goals as goal

pub returns-then-is_empty-clause-lines : goal.returns-then-is_empty-clause-lines
returns-then-is_empty-clause-lines c =
    lines-none c.args.text.now (eqb-true (length c.args.text.now) 0 (sym c.is_empty.ensures ∙ c.if-is_empty.true))

pub returns-then-end-text-clause-lines : goal.returns-then-end-text-clause-lines
returns-then-end-text-clause-lines c =
    let some : 0 < length c.args.text.now =
    omega (arith, eqb-false (length c.args.text.now) 0 (sym c.is_empty.ensures ∙ c.if-is_empty.false)) in
    let all : prefix_len in_line c.args.text.now ≡ length c.args.text.now = sym c.line_len-end.ensures.value ∙ c.if-end-text.true in
    lines-one c.args.text.now some all ∙ ap (λ ls. c.args.text.now ∷ ls) (sym lines-empty)

pub returns-clause-lines : goal.returns-clause-lines
returns-clause-lines c =
    let text : List ℕ = c.args.text.now in
    let n : ℕ = c.line_len-end.result in
    let is : prefix_len in_line text ≡ n = sym c.line_len-end.ensures.value in
    let more : prefix_len in_line text < length text = omega arith in
    lines-more text more
    ∙ ap (λ k. take k text ∷ lines_of (drop (k + 1) text)) is
    ∙ ap (λ rest. take n text ∷ lines_of rest) (sym (take_rest text (n + 1)))
