-- The lines of a script. This project's own.
use Rattle.std.specs.Prelude.{ℕ, if◌then◌else◌, List, [], ◌∷◌, codes, Option, Some, None, option_and_then, option_map}
use Rattle.std.specs.Str.{bytes_eq}
use Rattle.zl_value.specs.Fraction.{Fraction}
use Rattle.zl_value.specs.declared.script.Input.{Input}
use Rattle.zl_script.specs.declared.at_line.AtLine.{AtLine}
use Rattle.zl_script.specs.Assignments.{assignments_of, sets_of}
use Rattle.zl_script.specs.Numbers.{time_of, step_count}

-- the words behind the first, if that is the keyword
abbrev pub behind : List ℕ → List (List ℕ) → Option (List (List ℕ))
behind keyword [] = None
behind keyword (word ∷ words) = if bytes_eq word keyword then Some words else None

-- the word, if there is one alone
abbrev pub single : List (List ℕ) → Option (List ℕ)
single (word ∷ []) = Some word
single _ = None

-- `horizon` and a time
abbrev pub horizon_of : List (List ℕ) → Option Fraction
horizon_of words = option_and_then time_of (option_and_then single (behind (codes "horizon") words))

-- `steps` and how many
abbrev pub steps_of : List (List ℕ) → Option ℕ
steps_of words = option_and_then step_count (option_and_then single (behind (codes "steps") words))

-- a time and assignments, on line n; its sets are none where a name or a value is at fault
abbrev pub timed : List Input → ℕ → List (List ℕ) → Fraction → Option AtLine
timed inputs n words time =
    option_map (λ given. record { line = n; time = time; sets = sets_of inputs given }) (assignments_of words)

abbrev pub behind_at : List Input → ℕ → List (List ℕ) → Option AtLine
behind_at inputs n [] = None
behind_at inputs n (time ∷ words) = option_and_then (timed inputs n words) (time_of time)

-- `at`, a time and assignments
abbrev pub at_of : List Input → ℕ → List (List ℕ) → Option AtLine
at_of inputs n words = option_and_then (behind_at inputs n) (behind (codes "at") words)
