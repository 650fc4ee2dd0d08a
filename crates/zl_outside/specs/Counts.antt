-- Counts of calls and of faults.
use Rattle.std.specs.Prelude.{ℕ, ◌+◌, ◌-◌, ◌^◌, ◌≤◌, min, List, count_by}
use Rattle.std.specs.Str.{bytes_eq}

-- one more, but a count stays at the greatest u64
abbrev pub raised : ℕ → ℕ
raised count = min (count + 1) (2 ^ 64 - 1)

-- the count rose, or it stands at the greatest u64
abbrev pub Rose : ℕ → ℕ → Type 0
Rose before now = raised before ≤ now

-- how many of the failed calls named the file
abbrev pub count_of : List ℕ → List (List ℕ) → ℕ
count_of name failed = count_by (λ other. bytes_eq other name) failed
