-- Properties of the characters of a text.
use Rattle.std.proofs.Common.{◌≡◌, ℕ, zero, suc, ◌+◌, ◌-◌, ◌<◌, ◌≤◌, Bool, true, false, ◌||◌, ◌==◌, cond, List, [], ◌∷◌, length, drop, IsUtf8, chars, refl, sym, ◌∙◌, ap, arith}
use Rattle.std.specs.List.{prefix_len}
use Rattle.std.specs.Char.{is_ascii_digit}
use Rattle.std.proofs.lemmas.List.{length-drop}
use Rattle.std.proofs.lemmas.Str.{encodes-chars, length-le-encodes}
use Rattle.zl_lexer.specs.Lengths.{with_mark, signed_len, exponent_len, fraction_len}

-- no more characters than bytes
pub chars_fit : (text : List ℕ) → IsUtf8 text → length (chars text) ≤ length text
chars_fit text utf8 = omega (arith, length-le-encodes (chars text), ap length (encodes-chars text utf8))

-- one character is passed of those that are left
pub drop_next : (n i : ℕ) (here : List ℕ) (c : ℕ) (rest all : List ℕ) → drop (n - i) here ≡ all → here ≡ c ∷ rest → i < n → drop (n - (i + 1)) rest ≡ all
drop_next n i here c rest all same is h =
    let less : suc (n - (i + 1)) ≡ n - i = omega arith in
    ap (λ k. drop k (c ∷ rest)) less ∙ ap (drop (n - i)) (sym is) ∙ same

-- all are passed
pub drop_done : (n i : ℕ) (here all : List ℕ) → drop (n - i) here ≡ all → n ≤ i → here ≡ all
drop_done n i here all same h = let none : 0 ≡ n - i = omega arith in ap (λ k. drop k here) none ∙ same

drop_none : (n : ℕ) → drop {A = ℕ} n [] ≡ []
drop_none zero = refl
drop_none (suc n) = refl

-- or no character is left
pub drop_ends : (n : ℕ) (here all : List ℕ) → drop n here ≡ all → here ≡ [] → here ≡ all
drop_ends n here all same is = is ∙ sym (drop_none n) ∙ ap (drop n) (sym is) ∙ same

prefix_fits : (p : ℕ → Bool) (text : List ℕ) → prefix_len p text ≤ length text
prefix_fits p [] = omega arith
prefix_fits p (c ∷ text) = fits_at (p c) (prefix_fits p text)
  where
    fits_at : {n m : ℕ} (b : Bool) → n ≤ m → cond b (1 + n) 0 ≤ suc m
    fits_at true h = omega (arith, h)
    fits_at false h = omega arith

either_fits : (b : Bool) (m n most : ℕ) → m ≤ most → n ≤ most → cond b m n ≤ most
either_fits true m n most h k = h
either_fits false m n most h k = k

mark_fits : (n : ℕ) → with_mark n ≤ n + 1
mark_fits n = either_fits (n == 0) 0 (n + 1) (n + 1) (omega arith) (omega arith)

signed_fits : (text : List ℕ) → signed_len text ≤ length text
signed_fits [] = omega arith
signed_fits (c ∷ text) =
    either_fits (c == 43 || c == 45) (with_mark (prefix_len is_ascii_digit text)) (prefix_len is_ascii_digit (c ∷ text)) (length (c ∷ text))
    (omega (arith, mark_fits (prefix_len is_ascii_digit text), prefix_fits is_ascii_digit text)) (prefix_fits is_ascii_digit (c ∷ text))

exponent_fits : (text : List ℕ) → exponent_len text ≤ length text
exponent_fits [] = omega arith
exponent_fits (c ∷ text) =
    either_fits (c == 101 || c == 69) (with_mark (signed_len text)) 0 (length (c ∷ text))
    (omega (arith, mark_fits (signed_len text), signed_fits text)) (omega arith)

-- what is behind the first digits of a number is no longer than the text there
pub fraction_fits : (text : List ℕ) → fraction_len text ≤ length text
fraction_fits [] = omega arith
fraction_fits (c ∷ text) =
    let digits = prefix_len is_ascii_digit text in
    either_fits (c == 46) (1 + digits + exponent_len (drop digits text)) (exponent_len (c ∷ text)) (length (c ∷ text))
    (omega (arith, prefix_fits is_ascii_digit text, exponent_fits (drop digits text), length-drop digits text)) (exponent_fits (c ∷ text))
