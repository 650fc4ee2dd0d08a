-- The script that a text is for given inputs, or why it is none. This project's own.
use Rattle.std.specs.Prelude.{◌≡◌, ℕ, if◌then◌else◌, nat_le, List, [], map, length, Option, Some, None, option_map, Result, Ok, Err, unwrap_or}
use Rattle.std.specs.Option.{option_or}
use Rattle.zl_value.specs.declared.script.Input.{Input}
use Rattle.zl_value.specs.declared.script.Script.{Script}
use Rattle.zl_value.specs.declared.script.ScriptLine.{ScriptLine}
use Rattle.zl_script.specs.declared.answer.ScriptAnswer.{ScriptAnswer}
use Rattle.zl_script.specs.declared.answer.ScriptAnswer.TheVariants as answer
use Rattle.zl_script.specs.declared.at_line.AtLine.{AtLine}
use Rattle.zl_script.specs.declared.parsed.Parsed.{Parsed}
use Rattle.zl_script.specs.Faults.{out_of_order, input_fault, missing_at}
use Rattle.zl_script.specs.Parsed.{parsed}

abbrev pub longest_script : ℕ
longest_script = 1048576

-- what is at fault in lines that are as they must be: their order, else a name or a value, else that one of n inputs isn't
-- given
abbrev pub refusal : ℕ → Parsed → Option ScriptAnswer
refusal n p =
    option_or (option_map answer.Order (out_of_order p.horizon None p.lines))
    (option_or (option_map answer.Input (input_fault p.lines))
    (option_map answer.Missing (missing_at n p.line p.lines)))

abbrev pub script_line : AtLine → ScriptLine
script_line l = record { time = l.time; sets = unwrap_or l.sets [] }

-- what the lines say
abbrev pub script_of : Parsed → Script
script_of p = record { horizon = p.horizon; steps = p.steps; lines = map script_line p.lines }

abbrev pub unless_refused : Parsed → Option ScriptAnswer → Result Script ScriptAnswer
unless_refused p None = Ok (script_of p)
unless_refused p (Some a) = Err a

abbrev pub checked : ℕ → Result Parsed ℕ → Result Script ScriptAnswer
checked n (Err line) = Err (answer.Syntax line)
checked n (Ok p) = unless_refused p (refusal n p)

-- the script that the text is for these inputs, or the first thing that is at fault
unfoldable pub reading : List Input → List ℕ → Result Script ScriptAnswer
reading inputs text = if nat_le (length text) longest_script then checked (length inputs) (parsed inputs text) else Err (answer.Size 1)

-- a call answers with the reading, or for want of memory
abbrev pub IsReading : Result Script ScriptAnswer → Result Script ScriptAnswer → Type 0
IsReading wanted (Err answer.Memory) = Unit {0}
IsReading wanted result = result ≡ wanted
