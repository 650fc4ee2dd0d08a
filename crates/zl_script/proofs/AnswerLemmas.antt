-- The answers of a reading.
use Rattle.std.proofs.Common.{◌≡◌, ℕ, ◌<◌, ◌≤◌, List, length, Result, Ok, Err, sym, ap, ◌∙◌, subst}
use Rattle.std.proofs.lemmas.Bool.{cond-true, cond-false, le-leb, lt-leb}
use Rattle.zl_value.specs.declared.script.Input.{Input}
use Rattle.zl_value.specs.declared.script.Script.{Script}
use Rattle.zl_script.specs.declared.answer.ScriptAnswer.{ScriptAnswer}
use Rattle.zl_script.specs.declared.answer.ScriptAnswer.TheVariants as answer
use Rattle.zl_script.specs.declared.parsed.Parsed.{Parsed}
use Rattle.zl_script.specs.Answer.{longest_script, refusal, unless_refused, checked, reading, IsReading}
use Rattle.zl_script.specs.Parsed.{parsed, IsParsed}

pub reading_long : (inputs : List Input) (text : List ℕ) → longest_script < length text → reading inputs text ≡ Err (answer.Size 1)
unfolding reading
reading_long inputs text long = cond-false _ _ _ (lt-leb _ _ long)

reading_short : (inputs : List Input) (text : List ℕ) → length text ≤ longest_script → reading inputs text ≡ checked (length inputs) (parsed inputs text)
unfolding reading
reading_short inputs text short = cond-true _ _ _ (le-leb _ _ short)

-- the lines aren't as they must be
pub reading_err : (inputs : List Input) (text : List ℕ) (e : ScriptAnswer) → length text ≤ longest_script → IsParsed {X = Parsed} (parsed inputs text) (Err e)
    → IsReading (reading inputs text) (Err e)
reading_err inputs text (answer.Syntax n) short h = sym (reading_short inputs text short ∙ ap (checked (length inputs)) h)
reading_err inputs text answer.Memory short h = tt
reading_err inputs text (answer.Size n) short h = absurd h
reading_err inputs text (answer.Order n) short h = absurd h
reading_err inputs text (answer.Input n) short h = absurd h
reading_err inputs text (answer.Missing n) short h = absurd h

-- they are, and are looked at
pub reading_ok : (inputs : List Input) (text : List ℕ) (p : Parsed) (result : Result Script ScriptAnswer) → length text ≤ longest_script → parsed inputs text ≡ Ok p
    → IsReading (unless_refused p (refusal (length inputs) p)) result → IsReading (reading inputs text) result
reading_ok inputs text p result short e h =
    subst (λ w. IsReading w result) (sym (reading_short inputs text short ∙ ap (checked (length inputs)) e)) h
