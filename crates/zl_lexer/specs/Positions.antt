-- White space, and places in a text. This project's own.
use Rattle.std.specs.Prelude.{◌≡◌, ℕ, ◌+◌, ◌<◌, ◌⊎◌, Bool, ◌||◌, ◌==◌, if◌then◌else◌, List, [], ◌∷◌}
use Rattle.std.specs.Char.{len_utf8}
use Rattle.zl_value.specs.declared.position.Pos.{Pos}
use Rattle.zl_lexer.specs.declared.place.Place.{Place}

-- space, tab, carriage return and line feed
abbrev pub is_white : ℕ → Bool
is_white c = c == 32 || c == 9 || c == 13 || c == 10

-- the place behind a character: a line ends with a line feed, and a column counts characters
abbrev pub pos_after : Pos → ℕ → Pos
pos_after at c =
    if c == 10 then record { line = at.line + 1; column = 1 } else record { line = at.line; column = at.column + 1 }

-- where a text begins
abbrev pub first_place : Place
first_place = record { byte = 0; at = record { line = 1; column = 1 } }

-- the place behind a character, which takes one to four bytes
abbrev pub place_after : Place → ℕ → Place
place_after p c = record { byte = p.byte + len_utf8 c; at = pos_after p.at c }

-- the place behind these characters
abbrev pub behind : Place → List ℕ → Place
behind p [] = p
behind p (c ∷ text) = behind (place_after p c) text

-- a place stands before another one
abbrev pub Before : Pos → Pos → Type 0
Before a b = (a.line < b.line) ⊎ ((a.line ≡ b.line) × (a.column < b.column))
