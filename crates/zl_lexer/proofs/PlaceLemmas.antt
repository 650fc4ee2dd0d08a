-- Properties of places: which bytes stand before them, and their order.
use Rattle.std.proofs.Common.{◌≡◌, ℕ, zero, suc, ◌+◌, ◌-◌, ◌<◌, ◌≤◌, Bool, true, false, ◌==◌, cond, List, [], ◌∷◌, ◌++◌, length, take, drop, encode_utf8_all, inl, inr, refl, sym, subst, ◌∙◌, ap, arith}
use Rattle.std.specs.Char.{len_utf8}
use Rattle.std.specs.List.{prefix_len}
use Rattle.std.proofs.Math.Utf8.{encode}
use Rattle.std.proofs.lemmas.List.{length-append, length-drop, take-append-drop, drop-drop, drop_at, take_at, take_all}
use Rattle.std.proofs.lemmas.Str.{encodes-append, length-encode, len_utf8_bounds}
use Rattle.zl_value.specs.declared.position.Pos.{Pos}
use Rattle.zl_lexer.specs.declared.place.Place.{Place}
use Rattle.zl_lexer.specs.Positions.{is_white, pos_after, first_place, place_after, behind, Before}

-- the bytes of the characters
pub byte-behind : (p : Place) (text : List ℕ) → (behind p text).byte ≡ p.byte + length (encode_utf8_all text)
byte-behind p [] = omega arith
byte-behind p (c ∷ text) =
    byte-behind (place_after p c) text ∙ omega (arith, length-append (encode c) (encode_utf8_all text), length-encode c)

pub Before-trans : (a b c : Pos) → Before a b → Before b c → Before a c
Before-trans a b c (inl h) (inl k) = inl (omega arith)
Before-trans a b c (inl h) (inr k) = inl (omega (arith, k.0))
Before-trans a b c (inr h) (inl k) = inl (omega (arith, h.0))
Before-trans a b c (inr h) (inr k) = inr (h.0 ∙ k.0, omega (arith, h.1, k.1))

pub Before-pos_after : (a : Pos) (c : ℕ) → Before a (pos_after a c)
Before-pos_after a c = before_at a (c == 10)
  where
    before_at : (a : Pos) (b : Bool) → Before a (cond b (record { line = a.line + 1; column = 1 }) (record { line = a.line; column = a.column + 1 }))
    before_at a true = inl (omega arith)
    before_at a false = inr (refl, omega arith)

-- a place is before that behind some characters
pub Before-behind : (p : Place) (text : List ℕ) → 0 < length text → Before p.at (behind p text).at
Before-behind p [] h = absurd (omega arith)
Before-behind p (c ∷ []) h = Before-pos_after p.at c
Before-behind p (c ∷ d ∷ text) h =
    Before-trans p.at (pos_after p.at c) (behind (place_after p c) (d ∷ text)).at (Before-pos_after p.at c) (Before-behind (place_after p c) (d ∷ text) (omega arith))

-- line and column are at most one more than the bytes
pub record IsLow (p : Place) : Type 0 where
  pub line : p.at.line ≤ p.byte + 1
  pub column : p.at.column ≤ p.byte + 1

IsLow-place_after : (p : Place) (c : ℕ) → IsLow p → IsLow (place_after p c)
IsLow-place_after p c h = low_at p c (c == 10) h
  where
    low_at : (p : Place) (c : ℕ) (b : Bool) → IsLow p → IsLow (record { byte = p.byte + len_utf8 c; at = cond b (record { line = p.at.line + 1; column = 1 }) (record { line = p.at.line; column = p.at.column + 1 }) })
    low_at p c true h = record { line = omega (arith, h.line, (len_utf8_bounds c).0); column = omega arith }
    low_at p c false h = record { line = omega (arith, h.line); column = omega (arith, h.column, (len_utf8_bounds c).0) }

pub IsLow-behind : (p : Place) (text : List ℕ) → IsLow p → IsLow (behind p text)
IsLow-behind p [] h = h
IsLow-behind p (c ∷ text) h = IsLow-behind (place_after p c) text (IsLow-place_after p c h)

-- where the characters of the rest are the bytes of the text from a place on
pub record IsRest (text : List ℕ) (at : ℕ) (rest : List ℕ) : Type 0 where
  pub within : at ≤ length text
  pub left : drop at text ≡ encode_utf8_all rest

encode-parts : (n : ℕ) (rest : List ℕ) → encode_utf8_all rest ≡ encode_utf8_all (take n rest) ++ encode_utf8_all (drop n rest)
encode-parts n rest = ap encode_utf8_all (sym (take-append-drop n rest)) ∙ encodes-append (take n rest) (drop n rest)

pub IsRest-fits : (text : List ℕ) (at n : ℕ) (rest : List ℕ) → IsRest text at rest → at + length (encode_utf8_all (take n rest)) ≤ length text
IsRest-fits text at n rest h =
    omega (arith, h.within, length-drop at text, ap length h.left, ap length (encode-parts n rest), length-append (encode_utf8_all (take n rest)) (encode_utf8_all (drop n rest)))

pub IsRest-drop : (text : List ℕ) (at n : ℕ) (rest : List ℕ) → IsRest text at rest → IsRest text (at + length (encode_utf8_all (take n rest))) (drop n rest)
IsRest-drop text at n rest h = record {
  within = IsRest-fits text at n rest h;
  left =
      sym (drop-drop (length (encode_utf8_all (take n rest))) at text)
      ∙ ap (drop (length (encode_utf8_all (take n rest)))) (h.left ∙ encode-parts n rest)
      ∙ drop_at (encode_utf8_all (take n rest)) (encode_utf8_all (drop n rest)) _ refl;
}

-- the bytes of the first characters
pub IsRest-take : (text : List ℕ) (at n : ℕ) (rest : List ℕ) → IsRest text at rest
    → take (length (encode_utf8_all (take n rest))) (drop at text) ≡ encode_utf8_all (take n rest)
IsRest-take text at n rest h =
    ap (take (length (encode_utf8_all (take n rest)))) (h.left ∙ encode-parts n rest)
    ∙ take_at (encode_utf8_all (take n rest)) (encode_utf8_all (drop n rest)) _ refl

-- So many characters of a text are passed, and so many are still to be passed: the place and what stands there.
pub record IsPast (start : Place) (text : List ℕ) (len left : ℕ) (p : Place) (rest : List ℕ) : Type 0 where
  pub place : behind p (take left rest) ≡ behind start (take len text)
  pub rest_is : drop left rest ≡ drop len text
  pub bytes : p.byte + length (encode_utf8_all rest) ≤ 1048576
  pub low : IsLow p

-- the next character
pub past_next : (start : Place) (text : List ℕ) (len left less : ℕ) (p q : Place) (here : List ℕ) (c : ℕ) (rest : List ℕ)
    → IsPast start text len left p here → here ≡ c ∷ rest → left ≡ suc less → q ≡ place_after p c → IsPast start text len less q rest
past_next start text len left less p q here c rest i is more is_q =
    let at = subst (λ n. IsPast start text len n p (c ∷ rest)) more (subst (IsPast start text len left p) is i) in
    subst (λ x. IsPast start text len less x rest) (sym is_q) (record {
      place = at.place;
      rest_is = at.rest_is;
      bytes = omega (arith, at.bytes, length-append (encode c) (encode_utf8_all rest), length-encode c);
      low = IsLow-place_after p c at.low;
    })

pub next_fits : (start : Place) (text : List ℕ) (len left : ℕ) (p : Place) (here : List ℕ) (c : ℕ) (rest : List ℕ)
    → IsPast start text len left p here → here ≡ c ∷ rest → p.byte + len_utf8 c ≤ 1048576
next_fits start text len left p here c rest i is =
    let at = subst (IsPast start text len left p) is i in
    omega (arith, at.bytes, length-append (encode c) (encode_utf8_all rest), length-encode c)

pub record IsAllPast (start : Place) (text : List ℕ) (len : ℕ) (p : Place) (rest : List ℕ) : Type 0 where
  pub place : p ≡ behind start (take len text)
  pub rest_is : rest ≡ drop len text

pub past_none : (start : Place) (text : List ℕ) (len left : ℕ) → left ≡ len → start.byte + length (encode_utf8_all text) ≤ 1048576 → start.at.line ≤ start.byte + 1
    → start.at.column ≤ start.byte + 1 → IsPast start text len left start text
past_none start text len left all bytes line column = record { place = ap (λ n. behind start (take n text)) all; rest_is = ap (λ n. drop n text) all; bytes = bytes; low = record { line = line; column = column } }

-- all are passed
pub past_all : (start : Place) (text : List ℕ) (len left : ℕ) (p : Place) (rest : List ℕ) → IsPast start text len left p rest → left ≡ 0
    → IsAllPast start text len p rest
past_all start text len left p rest i none =
    let at = subst (λ n. IsPast start text len n p rest) none i in
    all_at rest at
  where
    all_at : (rest : List ℕ) → IsPast start text len 0 p rest → IsAllPast start text len p rest
    all_at [] at = record { place = at.place; rest_is = at.rest_is }
    all_at (c ∷ rest) at = record { place = at.place; rest_is = at.rest_is }

-- or no character is left
pub past_end : (start : Place) (text : List ℕ) (len left : ℕ) (p : Place) (rest : List ℕ) → IsPast start text len left p rest → rest ≡ []
    → IsAllPast start text len p rest
past_end start text len left p rest i is =
    let at = subst (IsPast start text len left p) is i in
    subst (IsAllPast start text len p) (sym is) (end_at left at)
  where
    end_at : (n : ℕ) → IsPast start text len n p [] → IsAllPast start text len p []
    end_at zero at = record { place = at.place; rest_is = at.rest_is }
    end_at (suc n) at = record { place = at.place; rest_is = at.rest_is }

-- the end of a text, which has no more characters than this
pub end_is : (text : List ℕ) (n : ℕ) (end : Place) → length text ≤ n → end ≡ behind first_place (take n text) → end.at ≡ (behind first_place text).at
end_is text n end h e = ap (λ (p : Place). p.at) (e ∙ ap (behind first_place) (take_all n text h))

-- a text that begins with white space has one more of it than the text behind
pub white_more : (here : List ℕ) (c : ℕ) (rest : List ℕ) → here ≡ c ∷ rest → is_white c ≡ true → prefix_len is_white here ≡ suc (prefix_len is_white rest)
white_more here c rest is e =
    ap (prefix_len is_white) is ∙ ap (λ b. cond b (1 + prefix_len is_white rest) 0) e ∙ omega arith

pub white_ends : (here : List ℕ) (c : ℕ) (rest : List ℕ) → here ≡ c ∷ rest → is_white c ≡ false → prefix_len is_white here ≡ 0
white_ends here c rest is e = ap (prefix_len is_white) is ∙ ap (λ b. cond b (1 + prefix_len is_white rest) 0) e

-- a place whose bytes are those of a text that are no longer left, and those before it
abbrev pub by_rest : ℕ → ℕ → ℕ → Pos → Place
by_rest byte all left at = record { byte = byte + (all - left); at = at }

pub by_rest_first : (p : Place) (all : ℕ) → p ≡ by_rest p.byte all all p.at
by_rest_first p all = let same : p.byte ≡ p.byte + (all - all) = omega arith in ap (λ n. made n) same
  where
    made : ℕ → Place
    made n = record { byte = n; at = p.at }

pub place_by_rest : (byte all here left : ℕ) (at to : Pos) (c : ℕ) → here ≡ len_utf8 c + left → here ≤ all → to ≡ pos_after at c
    → by_rest byte all left to ≡ place_after (by_rest byte all here at) c
place_by_rest byte all here left at to c size within is_to =
    let bytes : byte + (all - left) ≡ byte + (all - here) + len_utf8 c = omega arith in
    ap (λ n. made n to) bytes ∙ ap (made (byte + (all - here) + len_utf8 c)) is_to
  where
    made : ℕ → Pos → Place
    made n x = record { byte = n; at = x }

-- the bytes that a character takes
pub char_bytes : (here left : List ℕ) (c : ℕ) → here ≡ encode c ++ left → length here ≡ len_utf8 c + length left
char_bytes here left c is = omega (arith, ap length is, length-append (encode c) left, length-encode c)
