-- The lines at times read one after another, and what stands before them.
use Rattle.std.proofs.Common.{◌≡◌, ℕ, ◌+◌, List, [], ◌∷◌, ◌++◌, length, Some, None, Result, Ok, Err, refl, sym, ap, ◌∙◌, append_assoc}
use Rattle.std.proofs.lemmas.List.{append-nil}
use Rattle.zl_value.specs.Fraction.{Fraction}
use Rattle.zl_value.specs.declared.script.Input.{Input}
use Rattle.zl_script.specs.declared.answer.ScriptAnswer.{ScriptAnswer}
use Rattle.zl_script.specs.declared.answer.ScriptAnswer.TheVariants as answer
use Rattle.zl_script.specs.declared.at_line.AtLine.{AtLine}
use Rattle.zl_script.specs.declared.parsed.Parsed.{Parsed}
use Rattle.zl_script.specs.Cut.{lines_of}
use Rattle.zl_script.specs.Items.{Item, items}
use Rattle.zl_script.specs.Grammar.{horizon_of, at_of}
use Rattle.zl_script.specs.Lists.{if_ok}
use Rattle.zl_script.specs.Numbers.{most_steps}
use Rattle.zl_script.specs.Parsed.{with_line, at_lines, made, behind_horizon, with_horizon, parsed_items, parsed, IsParsed}

again : {X E : Type 0} (front : List X) (x : X) (r : Result (List X) E) → if_ok (λ ls. front ++ ls) (if_ok (λ ls. x ∷ ls) r) ≡ if_ok (λ ls. (front ++ x ∷ []) ++ ls) r
again front x (Ok ls) = ap Ok (sym (append_assoc front (x ∷ []) ls))
again front x (Err e) = refl

pub lines_start : (lines : List AtLine) (r : Result (List AtLine) ℕ) → lines ≡ [] → r ≡ if_ok (λ ls. lines ++ ls) r
lines_start lines (Ok ls) e = ap (λ (front : List AtLine). Ok (front ++ ls)) (sym e)
lines_start lines (Err n) e = refl

lines_step : (inputs : List Input) (i : Item) (is : List Item) → at_lines inputs (i ∷ is) ≡ with_line i.line (at_of inputs i.line i.words) (at_lines inputs is)
unfolding at_lines
lines_step inputs i is = refl

pub lines_more : (inputs : List Input) (all : Result (List AtLine) ℕ) (lines new : List AtLine) (here is : List Item) (i : Item) (l : AtLine)
    → all ≡ if_ok (λ ls. lines ++ ls) (at_lines inputs here) → here ≡ i ∷ is → Some l ≡ at_of inputs i.line i.words
    → new ≡ lines ++ l ∷ [] → all ≡ if_ok (λ ls. new ++ ls) (at_lines inputs is)
lines_more inputs all lines new here is i l e at_i h pushed =
    e ∙ ap (λ is. if_ok (λ ls. lines ++ ls) (at_lines inputs is)) at_i
    ∙ ap (if_ok (λ ls. lines ++ ls)) (lines_step inputs i is ∙ ap (λ o. with_line i.line o (at_lines inputs is)) (sym h))
    ∙ again lines l (at_lines inputs is)
    ∙ ap (λ front. if_ok (λ ls. front ++ ls) (at_lines inputs is)) (sym pushed)

pub lines_stop : (inputs : List Input) (all : Result (List AtLine) ℕ) (lines : List AtLine) (here is : List Item) (i : Item)
    → all ≡ if_ok (λ ls. lines ++ ls) (at_lines inputs here) → here ≡ i ∷ is → None ≡ at_of inputs i.line i.words → all ≡ Err i.line
lines_stop inputs all lines here is i e at_i h =
    e ∙ ap (λ is. if_ok (λ ls. lines ++ ls) (at_lines inputs is)) at_i
    ∙ ap (if_ok (λ ls. lines ++ ls)) (lines_step inputs i is ∙ ap (λ o. with_line i.line o (at_lines inputs is)) (sym h))

pub lines_end : (inputs : List Input) (all : Result (List AtLine) ℕ) (lines : List AtLine) (here : List Item)
    → all ≡ if_ok (λ ls. lines ++ ls) (at_lines inputs here) → here ≡ [] → all ≡ Ok lines
unfolding at_lines
lines_end inputs all lines here e none =
    e ∙ ap (λ is. if_ok (λ ls. lines ++ ls) (at_lines inputs is)) none ∙ ap Ok (append-nil lines)

-- ---- the steps

pub steps_end : (inputs : List Input) (line : ℕ) (horizon : Fraction) (here : List Item)
    → here ≡ [] → behind_horizon inputs line horizon here ≡ made line horizon most_steps (at_lines inputs here)
unfolding at_lines
steps_end inputs line horizon here none =
    ap (behind_horizon inputs line horizon) none ∙ ap (λ is. made line horizon most_steps (at_lines inputs is)) (sym none)

-- ---- the horizon

pub parsed_end : (inputs : List Input) (text : List ℕ) (n : ℕ) → items 1 (lines_of text) ≡ [] → n ≡ 1 + length (lines_of text) → parsed inputs text ≡ Err n
unfolding parsed
parsed_end inputs text n none is = ap (parsed_items inputs (1 + length (lines_of text))) none ∙ ap Err (sym is)

pub parsed_stop : (inputs : List Input) (text : List ℕ) (i : Item) (is : List Item) → items 1 (lines_of text) ≡ i ∷ is → None ≡ horizon_of i.words → parsed inputs text ≡ Err i.line
unfolding parsed
parsed_stop inputs text i is at_i e =
    ap (parsed_items inputs (1 + length (lines_of text))) at_i ∙ ap (with_horizon inputs i.line is) (sym e)

pub parsed_some : (inputs : List Input) (text : List ℕ) (i : Item) (is : List Item) (horizon : Fraction) → items 1 (lines_of text) ≡ i ∷ is → Some horizon ≡ horizon_of i.words
    → parsed inputs text ≡ behind_horizon inputs i.line horizon is
unfolding parsed
parsed_some inputs text i is horizon at_i e =
    ap (parsed_items inputs (1 + length (lines_of text))) at_i ∙ ap (with_horizon inputs i.line is) (sym e)

pub made_err : (wanted : Result Parsed ℕ) (line : ℕ) (horizon : Fraction) (steps : ℕ) (lines : Result (List AtLine) ℕ) (e : ScriptAnswer)
    → wanted ≡ made line horizon steps lines → IsParsed {X = List AtLine} lines (Err e) → IsParsed {X = Parsed} wanted (Err e)
made_err wanted line horizon steps lines (answer.Syntax n) is h = is ∙ ap (made line horizon steps) h
made_err wanted line horizon steps lines answer.Memory is h = tt
made_err wanted line horizon steps lines (answer.Size n) is h = absurd h
made_err wanted line horizon steps lines (answer.Order n) is h = absurd h
made_err wanted line horizon steps lines (answer.Input n) is h = absurd h
made_err wanted line horizon steps lines (answer.Missing n) is h = absurd h
