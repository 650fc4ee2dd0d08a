-- Worked texts. They show what a script is, and hold the definitions to it. This project's own.
use Rattle.std.specs.Prelude.{◌≡◌, ℕ, pos, negsuc, true, List, [], ◌∷◌, codes, Result, Ok, Err}
use Rattle.zl_value.specs.Fraction.{Fraction, over, whole}
use Rattle.zl_value.specs.declared.script.Input.{Input as TheInput}
use Rattle.zl_value.specs.declared.script.Script.{Script}
use Rattle.zl_value.specs.declared.script.ScriptLine.{ScriptLine}
use Rattle.zl_value.specs.declared.value.Ty.TheVariants.{Bool as BoolTy, Int, Float}
use Rattle.zl_value.specs.declared.value.Value.TheVariants.{B, I, F}
use Rattle.zl_script.specs.declared.answer.ScriptAnswer.{ScriptAnswer}
use Rattle.zl_script.specs.declared.answer.ScriptAnswer.TheVariants.{Syntax, Order, Input, Missing}
use Rattle.zl_script.specs.Answer.{reading}

-- the text is this script for a program without inputs, or is refused so
abbrev pub Reads : List ℕ → Result Script ScriptAnswer → Type 0
Reads text answer = reading [] text ≡ answer

-- a script whose lines set nothing
abbrev pub quiet : Fraction → ℕ → List Fraction → Result Script ScriptAnswer
quiet horizon steps times = Ok (record { horizon = horizon; steps = steps; lines = lines times })
  where
    lines : List Fraction → List ScriptLine
    lines [] = []
    lines (t ∷ times) = record { time = t; sets = [] } ∷ lines times

-- a comment with a carriage return, and a last line without a line feed
abbrev pub Comment : Type 0
Comment = Reads (codes "# c\r\nhorizon 15e-1") (quiet (over (pos 3) 2) 1000000 [])

-- steps with zeros before them, and lines in order
abbrev pub Lines : Type 0
Lines = Reads (codes "horizon 2\n\nsteps 007\nat 0\n\tat 1/2 \n") (quiet (whole (pos 2)) 7 (whole (pos 0) ∷ over (pos 1) 2 ∷ []))

-- no bytes have no horizon, and neither have comments; a line that comes before it is at fault
abbrev pub NoHorizon : Type 0
NoHorizon =
    Reads [] (Err (Syntax 1))
    × Reads (codes "# c\n\n") (Err (Syntax 3))
    × Reads (codes "# c\nat 0\nhorizon 1") (Err (Syntax 2))

-- no steps, and too many
abbrev pub Steps : Type 0
Steps = Reads (codes "horizon 1\nsteps 0") (Err (Syntax 2)) × Reads (codes "horizon 1\nsteps 1000001") (Err (Syntax 2))

-- two lines at one time, and one behind the horizon
abbrev pub OutOfOrder : Type 0
OutOfOrder = Reads (codes "horizon 1\nat 1/2\nat 1/2") (Err (Order 3)) × Reads (codes "horizon 1\nat 2") (Err (Order 2))

-- a float `v`, an int `n` and a bool `b`
abbrev pub three_inputs : List TheInput
three_inputs =
    record { name = codes "v"; ty = Float } ∷ record { name = codes "n"; ty = Int } ∷ record { name = codes "b"; ty = BoolTy } ∷ []

-- the text is this script for a program with these inputs, or is refused so
abbrev pub ReadsForThree : List ℕ → Result Script ScriptAnswer → Type 0
ReadsForThree text answer = reading three_inputs text ≡ answer

-- the inputs by their names, in the order of the line; a line needn't set all, but that at 0
abbrev pub Sets : Type 0
Sets =
    ReadsForThree (codes "horizon 1\nat 0 n=-3 b=true v=-6/4\nat 1 v=2")
    (Ok (record {
      horizon = whole (pos 1);
      steps = 1000000;
      lines =
          record {
            time = whole (pos 0);
            sets =
                record { input = 1; value = I (negsuc 2) } ∷ record { input = 2; value = B true }
                ∷ record { input = 0; value = F (over (negsuc 2) 2) } ∷ [];
          }
          ∷ record { time = whole (pos 1); sets = record { input = 0; value = F (whole (pos 2)) } ∷ [] } ∷ [];
    }))

-- a name that is no input's, a name twice, and values that a type doesn't take
abbrev pub Misset : Type 0
Misset =
    ReadsForThree (codes "horizon 1\nat 0 q=1") (Err (Input 2))
    × ReadsForThree (codes "horizon 1\nat 0 v=1 v=1") (Err (Input 2))
    × ReadsForThree (codes "horizon 1\nat 0 v=true") (Err (Input 2))
    × ReadsForThree (codes "horizon 1\nat 0 n=1.") (Err (Input 2))
    × ReadsForThree (codes "horizon 1\nat 0 b=1") (Err (Input 2))

-- a divisor of zero isn't a value, a reserved word isn't a name
abbrev pub NoAssignment : Type 0
NoAssignment =
    ReadsForThree (codes "horizon 1\nat 0 v=1/0") (Err (Syntax 2))
    × ReadsForThree (codes "horizon 1\nat 0 in=1") (Err (Syntax 2))

-- inputs that aren't given: at the line of the horizon where no line is at 0
abbrev pub NotGiven : Type 0
NotGiven =
    ReadsForThree (codes "# c\nhorizon 1\nat 1 v=1") (Err (Missing 2))
    × ReadsForThree (codes "horizon 1\n\nat 0 v=1 b=false") (Err (Missing 3))

-- a fault of the form comes before one of the order, that before one of an input, and that before one that is missing
abbrev pub Earlier : Type 0
Earlier =
    ReadsForThree (codes "horizon 1\nat 2\nat 0 q") (Err (Syntax 3))
    × ReadsForThree (codes "horizon 1\nat 0 q=1\nat 0") (Err (Order 3))
    × ReadsForThree (codes "horizon 1\nat 0\nat 1 v=true") (Err (Input 3))
