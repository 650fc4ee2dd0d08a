-- A text that is a script but for its order and its inputs: the line of its horizon, perhaps one of its steps, and lines
-- at times. This project's own.
use Rattle.std.specs.Prelude.{◌≡◌, ℕ, ◌+◌, List, [], ◌∷◌, length, Option, Some, None, Result, Ok, Err}
use Rattle.zl_value.specs.Fraction.{Fraction}
use Rattle.zl_value.specs.declared.script.Input.{Input}
use Rattle.zl_script.specs.declared.answer.ScriptAnswer.{ScriptAnswer}
use Rattle.zl_script.specs.declared.answer.ScriptAnswer.TheVariants as answer
use Rattle.zl_script.specs.declared.at_line.AtLine.{AtLine}
use Rattle.zl_script.specs.declared.parsed.Parsed.{Parsed}
use Rattle.zl_script.specs.Cut.{lines_of}
use Rattle.zl_script.specs.Lists.{if_ok}
use Rattle.zl_script.specs.Items.{Item, items}
use Rattle.zl_script.specs.Grammar.{horizon_of, steps_of, at_of}
use Rattle.zl_script.specs.Numbers.{most_steps}

-- an item that is a line at a time, before others, or the first item that is none
abbrev pub with_line : ℕ → Option AtLine → Result (List AtLine) ℕ → Result (List AtLine) ℕ
with_line n None lines = Err n
with_line n (Some line) lines = if_ok (λ ls. line ∷ ls) lines

-- the lines at times, or the number of the first line that is none
unfoldable pub at_lines : List Input → List Item → Result (List AtLine) ℕ
at_lines inputs [] = Ok []
at_lines inputs (i ∷ is) = with_line i.line (at_of inputs i.line i.words) (at_lines inputs is)

abbrev pub made : ℕ → Fraction → ℕ → Result (List AtLine) ℕ → Result Parsed ℕ
made line horizon steps lines =
    if_ok (λ ls. record { line = line; horizon = horizon; steps = steps; lines = ls }) lines

-- behind the horizon: the steps, if they stand there, and the lines at times
abbrev pub with_steps : List Input → ℕ → Fraction → Item → List Item → Option ℕ → Result Parsed ℕ
with_steps inputs line horizon i is (Some steps) = made line horizon steps (at_lines inputs is)
with_steps inputs line horizon i is None = made line horizon most_steps (at_lines inputs (i ∷ is))

abbrev pub behind_horizon : List Input → ℕ → Fraction → List Item → Result Parsed ℕ
behind_horizon inputs line horizon [] = made line horizon most_steps (Ok [])
behind_horizon inputs line horizon (i ∷ is) = with_steps inputs line horizon i is (steps_of i.words)

abbrev pub with_horizon : List Input → ℕ → List Item → Option Fraction → Result Parsed ℕ
with_horizon inputs line is None = Err line
with_horizon inputs line is (Some horizon) = behind_horizon inputs line horizon is

-- the parts of a text, or the number of the first line that isn't as it must be; `last` is the number behind the lines
abbrev pub parsed_items : List Input → ℕ → List Item → Result Parsed ℕ
parsed_items inputs last [] = Err last
parsed_items inputs last (i ∷ is) = with_horizon inputs i.line is (horizon_of i.words)

unfoldable pub parsed : List Input → List ℕ → Result Parsed ℕ
parsed inputs text = parsed_items inputs (1 + length (lines_of text)) (items 1 (lines_of text))

-- a call answers with the parts, with the line that isn't as it must be, or for want of memory
abbrev pub IsParsed : {X : Type 0} → Result X ℕ → Result X ScriptAnswer → Type 0
IsParsed wanted (Ok x) = wanted ≡ Ok x
IsParsed wanted (Err answer.Memory) = Unit {0}
IsParsed wanted (Err (answer.Syntax line)) = wanted ≡ Err line
IsParsed wanted (Err other) = ⊥
