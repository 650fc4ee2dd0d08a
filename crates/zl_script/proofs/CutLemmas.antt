-- The first line of a text and the first word of a line.
use Rattle.std.proofs.Common.{◌≡◌, ℕ, suc, ◌+◌, ◌<◌, Bool, true, false, not, cond, List, [], ◌∷◌, length, take, drop, refl, sym, ap, ◌∙◌, arith, one-add, add-one}
use Rattle.std.specs.Prelude.{◌==◌}
use Rattle.std.proofs.lemmas.List.{nil_from_length}
use Rattle.std.specs.List.{prefix_len}
use Rattle.zl_script.specs.Cut.{with_front, lines_of, is_blank, goes_on, words_of}

abbrev pub in_line : ℕ → Bool
in_line c = not (c == 10)

abbrev pub in_word : ℕ → Bool
in_word c = not (is_blank c)

-- a text without a line feed is one line
pub lines-one : (text : List ℕ) → 0 < length text → prefix_len in_line text ≡ length text → lines_of text ≡ text ∷ []
unfolding lines_of
lines-one [] some all = absurd (omega arith)
lines-one (c ∷ []) some all = at_end (c == 10) refl
  where
    at_end : (b : Bool) → c == 10 ≡ b → cond b ([] ∷ []) ((c ∷ []) ∷ []) ≡ (c ∷ []) ∷ []
    at_end true e = absurd (omega (arith, sym all ∙ ap (λ b. cond (not b) (1 + 0) 0) e))
    at_end false e = refl
lines-one (c ∷ d ∷ text) some all = at_front (c == 10) refl (lines-one (d ∷ text) (omega arith))
  where
    at_front : (b : Bool) → c == 10 ≡ b → (prefix_len in_line (d ∷ text) ≡ length (d ∷ text) → lines_of (d ∷ text) ≡ (d ∷ text) ∷ [])
        → cond b ([] ∷ lines_of (d ∷ text)) (with_front c (lines_of (d ∷ text))) ≡ (c ∷ d ∷ text) ∷ []
    at_front true e further = absurd (omega (arith, sym all ∙ ap (λ b. cond (not b) (1 + prefix_len in_line (d ∷ text)) 0) e))
    at_front false e further =
        let rest : prefix_len in_line (d ∷ text) ≡ length (d ∷ text) =
        omega (arith, sym (ap (λ b. cond (not b) (1 + prefix_len in_line (d ∷ text)) 0) e) ∙ all) in
        ap (with_front c) (further rest)

-- a text up to its first line feed is a line
pub lines-more : (text : List ℕ) → prefix_len in_line text < length text
    → lines_of text ≡ take (prefix_len in_line text) text ∷ lines_of (drop (prefix_len in_line text + 1) text)
unfolding lines_of
lines-more [] some = absurd (omega arith)
lines-more (c ∷ text) some = at_front (c == 10) refl (lines-more text)
  where
    n : ℕ
    n = prefix_len in_line text

    at_front : (b : Bool) → c == 10 ≡ b → (prefix_len in_line text < length text → lines_of text ≡ take (prefix_len in_line text) text ∷ lines_of (drop (prefix_len in_line text + 1) text))
        → cond b ([] ∷ lines_of text) (with_front c (lines_of text))
        ≡ take (cond (not b) (1 + prefix_len in_line text) 0) (c ∷ text) ∷ lines_of (drop (cond (not b) (1 + prefix_len in_line text) 0 + 1) (c ∷ text))
    at_front true e further = refl
    at_front false e further =
        let rest : prefix_len in_line text < length text =
        omega (arith, some, ap (λ b. cond (not b) (1 + prefix_len in_line text) 0) e) in
        rw (one-add (prefix_len in_line text), add-one (suc (prefix_len in_line text)))
        (rw (add-one (prefix_len in_line text)) at (ap (with_front c) (further rest)))

-- blanks at the front of a line hold no word
pub words-blank : (line : List ℕ) → words_of line ≡ words_of (drop (prefix_len is_blank line) line)
unfolding words_of
words-blank [] = refl
words-blank (c ∷ line) = at_front (is_blank c) refl (words-blank line)
  where
    at_front : (b : Bool) → is_blank c ≡ b → words_of line ≡ words_of (drop (prefix_len is_blank line) line)
        → words_of (c ∷ line) ≡ words_of (drop (cond b (1 + prefix_len is_blank line) 0) (c ∷ line))
    at_front true e further =
        rw (one-add (prefix_len is_blank line)) (ap (λ b. cond b (words_of line) (cond (goes_on line) (with_front c (words_of line)) ((c ∷ []) ∷ words_of line))) e ∙ further)
    at_front false e further = refl

-- what stands behind the blanks begins with a word
pub goes_on-behind : (line : List ℕ) → 0 < length (drop (prefix_len is_blank line) line) → goes_on (drop (prefix_len is_blank line) line) ≡ true
goes_on-behind [] some = absurd (omega arith)
goes_on-behind (c ∷ line) some = at_front (is_blank c) refl some (goes_on-behind line)
  where
    at_front : (b : Bool) → is_blank c ≡ b → 0 < length (drop (cond b (1 + prefix_len is_blank line) 0) (c ∷ line))
        → (0 < length (drop (prefix_len is_blank line) line) → goes_on (drop (prefix_len is_blank line) line) ≡ true)
        → goes_on (drop (cond b (1 + prefix_len is_blank line) 0) (c ∷ line)) ≡ true
    at_front true e more further =
        rw (one-add (prefix_len is_blank line)) (further (rw (one-add (prefix_len is_blank line)) at more))
    at_front false e more further = ap not e

-- the first word of a line that begins with one
pub words-word : (line : List ℕ) → goes_on line ≡ true
    → words_of line ≡ take (prefix_len in_word line) line ∷ words_of (drop (prefix_len in_word line) line)
unfolding words_of
words-word [] e = absurd (cc)
words-word (c ∷ line) e = at_front (is_blank c) refl (with_rest (goes_on line) refl (words-word line))
  where
    ends : (line : List ℕ) → goes_on line ≡ false → prefix_len in_word line ≡ 0
    ends [] h = refl
    ends (d ∷ ds) h = ap (λ b. cond b (1 + prefix_len in_word ds) 0) h

    with_rest : (b : Bool) → goes_on line ≡ b
        → (goes_on line ≡ true → words_of line ≡ take (prefix_len in_word line) line ∷ words_of (drop (prefix_len in_word line) line))
        → cond b (with_front c (words_of line)) ((c ∷ []) ∷ words_of line)
        ≡ (c ∷ take (prefix_len in_word line) line) ∷ words_of (drop (prefix_len in_word line) line)
    with_rest true h further = ap (with_front c) (further h)
    with_rest false h further = let none : prefix_len in_word line ≡ 0 = ends line h in rw none refl

    at_front : (b : Bool) → is_blank c ≡ b
        → cond (goes_on line) (with_front c (words_of line)) ((c ∷ []) ∷ words_of line)
        ≡ (c ∷ take (prefix_len in_word line) line) ∷ words_of (drop (prefix_len in_word line) line)
        → cond b (words_of line) (cond (goes_on line) (with_front c (words_of line)) ((c ∷ []) ∷ words_of line))
        ≡ take (cond (not b) (1 + prefix_len in_word line) 0) (c ∷ line) ∷ words_of (drop (cond (not b) (1 + prefix_len in_word line) 0) (c ∷ line))
    at_front true h further = absurd (let f : not true ≡ true = sym (ap not h) ∙ e in cc)
    at_front false h further = rw (one-add (prefix_len in_word line)) further

-- it isn't empty
pub word-some : (line : List ℕ) → goes_on line ≡ true → 0 < prefix_len in_word line
word-some [] e = absurd (cc)
word-some (c ∷ line) e =
    let here : prefix_len in_word (c ∷ line) ≡ 1 + prefix_len in_word line = ap (λ b. cond b (1 + prefix_len in_word line) 0) e in
    omega (arith, here)

pub lines-none : (text : List ℕ) → length text ≡ 0 → lines_of text ≡ []
unfolding lines_of
lines-none [] e = refl
lines-none (c ∷ text) e = absurd (omega arith)

pub words-none : (line : List ℕ) → length (drop (prefix_len is_blank line) line) ≡ 0 → words_of line ≡ []
unfolding words_of
words-none line e = words-blank line ∙ ap words_of (nil_from_length (drop (prefix_len is_blank line) line) e)

pub lines-empty : lines_of [] ≡ []
unfolding lines_of
lines-empty = refl
