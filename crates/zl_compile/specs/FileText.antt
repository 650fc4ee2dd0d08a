-- What text a file is. The greatest size is this project's own.
use Rattle.std.specs.Prelude.{ℕ, ◌≤◌, List, length, take}
use Rattle.std.specs.Str.{IsUtf8, chars}
use Rattle.std.specs.Str.Lossy.{utf8_valid_len}
use Rattle.zl_value.specs.declared.position.Pos.{Pos}
use Rattle.zl_lexer.specs.Positions.{first_place, behind}

-- the most bytes of a file
abbrev pub longest_file : ℕ
longest_file = 1048576

-- the first place of a file
abbrev pub file_start : Pos
file_start = record { line = 1; column = 1 }

-- the place behind the characters before the first byte that isn't UTF-8
abbrev pub utf8_end : List ℕ → Pos
utf8_end bytes = (behind first_place (chars (take (utf8_valid_len bytes) bytes))).at

-- the bytes are text, and not too many
abbrev pub IsText : List ℕ → Type 0
IsText bytes = (length bytes ≤ longest_file) × IsUtf8 bytes
