-- Names, as in Unicode's UAX 31 with `_` as a first character too, and the list of a text's distinct names.
use Rattle.std.specs.Prelude.{ℕ, Bool, false, not, ◌&&◌, ◌||◌, ◌==◌, if◌then◌else◌, List, [], ◌∷◌, ◌++◌, filter}
use Rattle.std.specs.List.{list_all, list_any, position_or_len}
use Rattle.std.specs.Str.{bytes_eq}
use Rattle.unicode_ident.specs.Ident.{is_xid_start, is_xid_continue}

abbrev pub is_name_start : ℕ → Bool
is_name_start c = is_xid_start c || c == 95

-- the whole text has the form of a name or of a reserved word
abbrev pub is_name : List ℕ → Bool
is_name [] = false
is_name (c ∷ text) = is_name_start c && list_all is_xid_continue text

-- each name of a list once, where it stands first
unfoldable pub firsts : List (List ℕ) → List (List ℕ)
firsts [] = []
firsts (name ∷ names) = name ∷ filter (λ other. not (bytes_eq name other)) (firsts names)

-- the number of a name in a list: how many others stand before it
abbrev pub number_of : List (List ℕ) → List ℕ → ℕ
number_of names name = position_or_len (bytes_eq name) names

-- a list with this name at its end, unless the list has it
abbrev pub with_name : List (List ℕ) → List ℕ → List (List ℕ)
with_name names name = if list_any (bytes_eq name) names then names else names ++ name ∷ []
