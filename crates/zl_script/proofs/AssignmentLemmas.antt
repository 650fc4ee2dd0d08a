-- The name and the value of a word.
use Rattle.std.proofs.Common.{◌≡◌, ℕ, ◌+◌, Bool, true, false, ◌&&◌, cond, List, [], ◌∷◌, take, drop, Option, None, option_map, refl, sym, ap, ap₂, ◌∙◌}
use Rattle.std.specs.Str.{is_utf8}
use Rattle.std.proofs.lemmas.List.{drop-drop}
use Rattle.zl_lexer.specs.Words.{is_identifier}
use Rattle.zl_script.specs.declared.literal.Literal.{Literal}
use Rattle.zl_script.specs.Assignments.{Assignment, name_len, assignment_of}
use Rattle.zl_script.specs.Numbers.{literal_of}

abbrev named : List ℕ → Literal → Assignment
named name value = record { name = name; value = value }

behind_sign : (word rest value : List ℕ) (n c : ℕ) → rest ≡ drop n word → rest ≡ c ∷ value → value ≡ drop (n + 1) word
behind_sign word rest value n c back is = ap (drop 1) (sym is) ∙ ap (drop 1) back ∙ drop-drop 1 n word

-- the value behind a name and `=`
pub assigned : (word name rest value : List ℕ) (n c : ℕ) (v : Option Literal) → n ≡ name_len word → name ≡ take n word → rest ≡ drop n word → rest ≡ c ∷ value
    → (is_utf8 name && is_identifier name) ≡ true → v ≡ literal_of value → option_map (named name) v ≡ assignment_of word
assigned word name rest value n c v n_is name_is back is good v_is =
    let name_at : name ≡ take (name_len word) word = name_is ∙ ap (λ k. take k word) n_is in
    let value_at : value ≡ drop (name_len word + 1) word = behind_sign word rest value n c back is ∙ ap (λ k. drop (k + 1) word) n_is in
    let fine : (is_utf8 (take (name_len word) word) && is_identifier (take (name_len word) word)) ≡ true = ap (λ m. is_utf8 m && is_identifier m) (sym name_at) ∙ good in
    ap₂ (λ m w. option_map (named m) w) name_at (v_is ∙ ap literal_of value_at)
    ∙ sym (ap (λ b. cond b (option_map (named (take (name_len word) word)) (literal_of (drop (name_len word + 1) word))) None) fine)

-- without `=` there is no value
pub unassigned : (word rest : List ℕ) (n : ℕ) → n ≡ name_len word → rest ≡ drop n word → rest ≡ [] → None ≡ assignment_of word
unfolding literal_of
unassigned word rest n n_is back none =
    go (is_utf8 (take (name_len word) word) && is_identifier (take (name_len word) word)) (literal_of (drop (name_len word + 1) word)) (ap literal_of empty)
  where
    empty : drop (name_len word + 1) word ≡ []
    empty = ap (λ k. drop (k + 1) word) (sym n_is) ∙ sym (drop-drop 1 n word) ∙ ap (drop 1) (sym back ∙ none)

    go : (b : Bool) (v : Option Literal) → v ≡ None → None ≡ cond b (option_map (named (take (name_len word) word)) v) None
    go false v e = refl
    go true v e = sym (ap (option_map (named (take (name_len word) word))) e)
