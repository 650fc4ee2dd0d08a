-- What is at fault in a script whose lines are as they must be. This project's own.
use Rattle.std.specs.Prelude.{ℕ, Bool, true, not, ◌&&◌, ◌==◌, if◌then◌else◌, List, [], ◌∷◌, unsigned_abs, Option, Some, None, is_some}
use Rattle.std.specs.List.{list_all, list_any}
use Rattle.zl_value.specs.Fraction.{Fraction}
use Rattle.zl_value.specs.Lists.{listed}
use Rattle.zl_value.specs.Order.{below}
use Rattle.zl_value.specs.declared.script.Set.{Set}
use Rattle.zl_script.specs.declared.at_line.AtLine.{AtLine}

-- a time is later than the one before it, if there is one
abbrev pub is_later : Option Fraction → Fraction → Bool
is_later None time = true
is_later (Some before) time = below before time

-- the first line out of order, behind a line of this time
unfoldable pub out_of_order : Fraction → Option Fraction → List AtLine → Option ℕ
out_of_order horizon before [] = None
out_of_order horizon before (l ∷ ls) =
    if is_later before l.time && not (below horizon l.time) then out_of_order horizon (Some l.time) ls else Some l.line

-- the first line in which a name or a value is at fault
unfoldable pub input_fault : List AtLine → Option ℕ
input_fault [] = None
input_fault (l ∷ ls) = if is_some l.sets then input_fault ls else Some l.line

-- an input is set
abbrev pub is_set : List Set → ℕ → Bool
is_set sets n = list_any (λ s. s.input == n) sets

-- the first n inputs are set
abbrev pub all_set : List Set → ℕ → Bool
all_set sets n = list_all (is_set sets) (listed n 0 (λ k. k))

-- the same of sets that may be missing, which is a fault of its own
abbrev pub sets_all : Option (List Set) → ℕ → Bool
sets_all None n = true
sets_all (Some sets) n = all_set sets n

abbrev pub is_start : Fraction → Bool
is_start time = unsigned_abs time.num == 0

-- the line at which not all n inputs are given: the one at time 0, if the first line is, else that of the horizon
abbrev pub missing_at : ℕ → ℕ → List AtLine → Option ℕ
missing_at n line [] = if n == 0 then None else Some line
missing_at n line (l ∷ ls) =
    if is_start l.time then (if sets_all l.sets n then None else Some l.line)
    else (if n == 0 then None else Some line)
