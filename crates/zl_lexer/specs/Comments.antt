-- Comments run from `(*` to their `*)`, and nest. The two marks don't overlap: `(*)` opens a comment and closes none.
-- After OCaml and Zélus.
use Rattle.std.specs.Prelude.{ℕ, ◌+◌, Bool, false, ◌&&◌, ◌==◌, if◌then◌else◌, List, [], ◌∷◌, Option, Some, None, option_map, zero, suc}

-- the two characters `(*`
abbrev pub opens : ℕ → ℕ → Bool
opens c d = c == 40 && d == 42

-- the two characters `*)`
abbrev pub closes : ℕ → ℕ → Bool
closes c d = c == 42 && d == 41

-- a comment begins here
abbrev pub opens_comment : List ℕ → Bool
opens_comment (c ∷ d ∷ text) = opens c d
opens_comment text = false

-- the mark that closes a comment begins here
abbrev pub closes_comment : List ℕ → Bool
closes_comment (c ∷ d ∷ text) = closes c d
closes_comment text = false

-- Inside so many comments: how many characters stand up to the end of the mark that closes the outermost of them.
-- `None` where it isn't closed.
unfoldable pub len_to_close : ℕ → List ℕ → Option ℕ
len_to_close zero text = Some 0
len_to_close (suc depth) [] = None
len_to_close (suc depth) (c ∷ []) = None
len_to_close (suc depth) (c ∷ d ∷ text) =
    if opens c d then option_map (λ n. n + 2) (len_to_close (suc (suc depth)) text)
    else (if closes c d then option_map (λ n. n + 2) (len_to_close depth text)
    else option_map (λ n. n + 1) (len_to_close (suc depth) (d ∷ text)))

-- how many characters the comment has that begins here, its marks included
abbrev pub comment_len : List ℕ → Option ℕ
comment_len (c ∷ d ∷ text) = option_map (λ n. n + 2) (len_to_close 1 text)
comment_len text = None
