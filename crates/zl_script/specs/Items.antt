-- The lines of a text that say something, with their numbers. This project's own.
use Rattle.std.specs.Prelude.{ℕ, ◌+◌, Bool, true, ◌&&◌, ◌==◌, if◌then◌else◌, List, [], ◌∷◌, slice_index}
use Rattle.std.specs.Str.{is_utf8}
use Rattle.zl_script.specs.Cut.{without_return, words_of}

-- a line by its number, from 1, and its words; a line that isn't UTF-8 has none
pub record Item : Type 0 where
  pub line : ℕ
  pub words : List (List ℕ)

-- a line without words says nothing, and neither does a comment: its first word begins with `#`
abbrev pub is_silent : List (List ℕ) → Bool
is_silent [] = true
is_silent (word ∷ words) = slice_index word 0 == 35

abbrev pub is_skipped : List ℕ → Bool
is_skipped line = is_utf8 line && is_silent (words_of line)

abbrev pub item_of : ℕ → List ℕ → Item
item_of n line = record { line = n; words = if is_utf8 line then words_of line else [] }

-- the lines that aren't skipped, of lines of which the first is that of number n
unfoldable pub items : ℕ → List (List ℕ) → List Item
items n [] = []
items n (line ∷ lines) =
    if is_skipped (without_return line) then items (n + 1) lines
    else item_of n (without_return line) ∷ items (n + 1) lines
