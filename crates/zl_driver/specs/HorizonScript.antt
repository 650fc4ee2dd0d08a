-- Scripts that give a horizon and no more. This project's own.
use Rattle.std.specs.Prelude.{ℕ, ◌-◌, Bool, true, ◌&&◌, ◌==◌, if◌then◌else◌, nat_le, List, length, slice_index, take, drop, codes, Option, Some, None}
use Rattle.std.specs.Str.{bytes_eq}
use Rattle.zl_value.specs.Fraction.{Fraction}
use Rattle.zl_value.specs.RatioText.{ratio_value}

-- the longest script
abbrev pub longest_script : ℕ
longest_script = 1048576

-- a text without the line feed at its end, if one stands there
abbrev pub without_line_end : List ℕ → List ℕ
without_line_end text = if slice_index text (length text - 1) == 10 then take (length text - 1) text else text

-- the horizon of a script that is `horizon`, one space, and digits or digits over digits, with or without a line feed
-- at its end
abbrev pub horizon_of : List ℕ → Option Fraction
horizon_of script =
    if nat_le (length script) longest_script && bytes_eq (take 8 script) (codes "horizon ")
    then ratio_value (without_line_end (drop 8 script)) else None
