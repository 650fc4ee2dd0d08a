-- How a text is cut into lines and words. This project's own.
use Rattle.std.specs.Prelude.{ℕ, ◌-◌, Bool, false, not, ◌||◌, ◌==◌, if◌then◌else◌, List, [], ◌∷◌, length, take, slice_index}

-- the pieces, with this byte before the first of them
abbrev pub with_front : ℕ → List (List ℕ) → List (List ℕ)
with_front c [] = (c ∷ []) ∷ []
with_front c (piece ∷ pieces) = (c ∷ piece) ∷ pieces

-- the lines of a text: they end with line feeds; a last line without one counts, an empty rest doesn't
unfoldable pub lines_of : List ℕ → List (List ℕ)
lines_of [] = []
lines_of (c ∷ text) = if c == 10 then [] ∷ lines_of text else with_front c (lines_of text)

-- a line without the carriage return at its end, if one stands there
abbrev pub without_return : List ℕ → List ℕ
without_return line = if slice_index line (length line - 1) == 13 then take (length line - 1) line else line

-- spaces and tabs separate words
abbrev pub is_blank : ℕ → Bool
is_blank c = c == 32 || c == 9

-- a text goes on with a word
abbrev pub goes_on : List ℕ → Bool
goes_on [] = false
goes_on (c ∷ text) = not (is_blank c)

-- the words of a line
unfoldable pub words_of : List ℕ → List (List ℕ)
words_of [] = []
words_of (c ∷ text) =
    if is_blank c then words_of text
    else (if goes_on text then with_front c (words_of text) else (c ∷ []) ∷ words_of text)
