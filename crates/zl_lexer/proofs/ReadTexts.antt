-- Texts of ASCII without comments are read by computation: a function gives the tokens of such a text, and why they are these.
use Rattle.std.proofs.Common.{◌≡◌, ℕ, zero, suc, ◌+◌, ◌<◌, Bool, true, false, ◌&&◌, ◌||◌, ◌==◌, nat_lt, nat_le, nat_eq, cond, MatchBool, List, [], ◌∷◌, length, take, drop, Option, Some, None, refl, sym, subst, ◌∙◌, ap₂, arith}
use Rattle.std.specs.Prelude.{pos, negsuc, unsigned_abs}
use Rattle.std.specs.List.{prefix_len, list_all}
use Rattle.std.specs.Str.{IsAscii}
use Rattle.std.specs.Char.{is_ascii_digit, is_ascii_alphabetic, is_ascii_alphanumeric}
use Rattle.std.proofs.Math.Utf8.{encode}
use Rattle.std.proofs.lemmas.Bool.{and_parts, ltb-true, eqb-true, leb-true}
use Rattle.std.proofs.lemmas.Int.{ints}
use Rattle.std.proofs.lemmas.Str.{chars-IsAscii, IsUtf8-from_ascii}
use Rattle.unicode_ident.specs.Ident.{is_xid_continue}
use Rattle.unicode_ident.proofs.IdentLemmas.{is_xid_continue-ascii}
use Rattle.zl_value.specs.declared.position.Pos.{Pos}
use Rattle.zl_value.specs.Decimal.{decimal_value}
use Rattle.zl_value.specs.Fraction.{gcd, gcd_in, fits, reduced}
use Rattle.zl_lexer.specs.declared.front.Form.{Form}
use Rattle.zl_lexer.specs.declared.front.Form.TheVariants as form
use Rattle.zl_lexer.specs.declared.front.Front.{Front}
use Rattle.zl_lexer.specs.declared.front.Front.TheVariants as front
use Rattle.zl_lexer.specs.declared.place.Place.{Place}
use Rattle.zl_lexer.specs.declared.token.Sign.{Sign}
use Rattle.zl_lexer.specs.declared.token.Token.{Token}
use Rattle.zl_lexer.specs.declared.token.TokenKind.{TokenKind}
use Rattle.zl_lexer.specs.declared.token.TokenKind.TheVariants as kind
use Rattle.zl_lexer.specs.Comments.{opens_comment, comment_len}
use Rattle.zl_lexer.specs.Facts.{IsKind, AreTokens}
use Rattle.zl_lexer.specs.Lengths.{fraction_len}
use Rattle.zl_lexer.specs.Names.{is_name_start}
use Rattle.zl_lexer.specs.Positions.{is_white, first_place}
use Rattle.zl_lexer.specs.Signs.{sign_of, long_sign}
use Rattle.zl_lexer.specs.Tokens.{IsNext, Begins, comment_front, Kind, kind_of, numbered_kind, IsLexed}
use Rattle.zl_lexer.proofs.ClassLemmas.{name_start_ascii}
use Rattle.zl_lexer.proofs.DigitLemmas.{digits}
use Rattle.zl_lexer.proofs.FormLemmas.{name_next, int_is_next, float_is_next, long_next, short_next}
use Rattle.zl_lexer.proofs.LoopLemmas.{IsReadTo, at_start, passed_on, added, taken, ended, are_tokens}

-- ---- one token

-- a character below 128 that begins a name
abbrev begins : ℕ → Bool
begins c = is_ascii_alphabetic c || c == 95

-- or goes on with one
abbrev goes_on : ℕ → Bool
goes_on c = is_ascii_alphanumeric c || (c == 95)

abbrev is_low : ℕ → Bool
is_low c = nat_lt c 128

pub name_len : (text : List ℕ) → list_all is_low text ≡ true → prefix_len is_xid_continue text ≡ prefix_len goes_on text
name_len [] low = refl
name_len (c ∷ text) low =
    let parts = and_parts (is_low c) (list_all is_low text) low in
    ap₂ (λ b n. cond b (1 + n) 0) (is_xid_continue-ascii c (ltb-true c 128 parts.0)) (name_len text parts.1)

-- what is next, if it was found
record Next (text : List ℕ) : Type 0 where
  size : ℕ
  form : Form
  is : IsNext text (front.Token size form)

abbrev sign_here : (c : ℕ) (rest : List ℕ) → is_name_start c ≡ false → is_ascii_digit c ≡ false → (long short : Option Sign) → long_sign c rest ≡ long → sign_of (c ∷ []) ≡ short → Option (Next (c ∷ rest))
sign_here c rest no_name no_digit (Some s) short e f = Some (record { size = 2; form = form.Sign s; is = long_next c rest s no_name no_digit e })
sign_here c rest no_name no_digit None (Some s) e f = Some (record { size = 1; form = form.Sign s; is = short_next c rest s no_name no_digit e f })
sign_here c rest no_name no_digit None None e f = None

abbrev number_here : (c : ℕ) (rest : List ℕ) → is_ascii_digit c ≡ true → (d f : ℕ) → d ≡ digits rest → f ≡ fraction_len (drop d rest) → Option (Next (c ∷ rest))
number_here c rest e d zero is more = Some (record { size = 1 + d; form = form.Int; is = int_is_next c rest d zero e is more refl })
number_here c rest e d (suc f) is more =
    Some (record { size = 1 + d + suc f; form = form.Float; is = float_is_next c rest d (suc f) e is more (λ h. absurd (omega (arith, h))) })

abbrev no_name_here : (c : ℕ) (rest : List ℕ) → is_name_start c ≡ false → (digit : Bool) → is_ascii_digit c ≡ digit → Option (Next (c ∷ rest))
no_name_here c rest no_name true e = number_here c rest e (digits rest) (fraction_len (drop (digits rest) rest)) refl refl
no_name_here c rest no_name false e = sign_here c rest no_name e (long_sign c rest) (sign_of (c ∷ [])) refl refl

abbrev next_here : (c : ℕ) (rest : List ℕ) → c < 128 → list_all is_low rest ≡ true → (name : Bool) → begins c ≡ name → Option (Next (c ∷ rest))
next_here c rest low all true e =
    Some (record {
      size = 1 + prefix_len goes_on rest;
      form = form.Name;
      is = subst (λ n. IsNext (c ∷ rest) (front.Token (1 + n) form.Name)) (name_len rest all) (name_next c rest (name_start_ascii c low ∙ e));
    })
next_here c rest low all false e = no_name_here c rest (name_start_ascii c low ∙ e) (is_ascii_digit c) refl

-- ---- what stands at the front

record Found (text : List ℕ) : Type 0 where
  front : Front
  begins : Begins text front

abbrev as_found : (c : ℕ) (rest : List ℕ) → is_white c ≡ false → opens_comment (c ∷ rest) ≡ false → Option (Next (c ∷ rest)) → Option (Found (c ∷ rest))
as_found c rest no_white no_comment None = None
as_found c rest no_white no_comment (Some n) =
    let found : Front = front.Token n.size n.form in
    Some (record {
      front = found;
      begins = subst (λ b. MatchBool b (found ≡ front.Passed 1) (MatchBool (opens_comment (c ∷ rest)) (found ≡ comment_front (comment_len (c ∷ rest))) (IsNext (c ∷ rest) found))) (sym no_white)
          (subst (λ b. MatchBool b (found ≡ comment_front (comment_len (c ∷ rest))) (IsNext (c ∷ rest) found)) (sym no_comment) n.is);
    })

abbrev found_here : (c : ℕ) (rest : List ℕ) → list_all is_low (c ∷ rest) ≡ true → (white comment : Bool) → is_white c ≡ white → opens_comment (c ∷ rest) ≡ comment → Option (Found (c ∷ rest))
found_here c rest low true comment e f =
    Some (record {
      front = front.Passed 1;
      begins = subst (λ b. MatchBool b (front.Passed 1 ≡ front.Passed 1) (MatchBool (opens_comment (c ∷ rest)) (front.Passed 1 ≡ comment_front (comment_len (c ∷ rest))) (IsNext (c ∷ rest) (front.Passed 1)))) (sym e) refl;
    })
found_here c rest low false true e f = None
found_here c rest low false false e f =
    let parts = and_parts (is_low c) (list_all is_low rest) low in
    as_found c rest e f (next_here c rest (ltb-true c 128 parts.0) parts.1 (begins c) refl)

-- ---- the kind of a token

-- whether a number is one of the program's is tried
abbrev kind_within : ℕ → TokenKind → Bool
kind_within count (kind.Name n) = nat_lt n count
kind_within count (kind.Int (pos n)) = nat_le n 9223372036854775807
kind_within count (kind.Int (negsuc n)) = false
kind_within count (kind.Float f) = nat_lt 0 f.den && (nat_eq (gcd (unsigned_abs f.num) f.den) 1 && fits f)
kind_within count (kind.Word w) = true
kind_within count (kind.Sign s) = true

pub kind_is_within : (count : ℕ) (k : TokenKind) → kind_within count k ≡ true → IsKind count k
kind_is_within count (kind.Name n) e = ltb-true n count e
kind_is_within count (kind.Int (pos n)) e = let below = leb-true n 9223372036854775807 e in (grind (arith, ints), grind (arith, ints))
kind_is_within count (kind.Int (negsuc n)) e = absurd (cc)
kind_is_within count (kind.Float f) e =
    let one = and_parts (nat_lt 0 f.den) (nat_eq (gcd (unsigned_abs f.num) f.den) 1 && fits f) e in
    let two = and_parts (nat_eq (gcd (unsigned_abs f.num) f.den) 1) (fits f) one.1 in
    record { reduced = record { above = ltb-true 0 f.den one.0; lowest = eqb-true _ 1 two.0 }; fits = two.1 }
kind_is_within count (kind.Word w) e = tt
kind_is_within count (kind.Sign s) e = tt

-- ---- the text

-- The tokens of a text.
pub record TokensOf (text : List ℕ) : Type 0 where
  pub tokens : List Token
  pub names : List (List ℕ)
  pub end : Pos
  pub lexed : IsLexed text tokens names end
  pub facts : AreTokens tokens names end

pub low-drop : (n : ℕ) (text : List ℕ) → list_all is_low text ≡ true → list_all is_low (drop n text) ≡ true
low-drop zero text e = e
low-drop (suc n) [] e = e
low-drop (suc n) (c ∷ text) e = low-drop n text (and_parts (is_low c) (list_all is_low text) e).1

module _ (text : List ℕ) where
  -- what reads on from a place, where the text was read up to there
  abbrev Reading : Type 0
  Reading = (p : Place) (rest : List ℕ) (tokens : List Token) (names : List (List ℕ)) → list_all is_low rest ≡ true → IsReadTo text p rest tokens names → Option (TokensOf text)

  -- a token of this kind, if it has one, is taken
  abbrev take_known : Reading → (p : Place) (rest : List ℕ) (tokens : List Token) (names : List (List ℕ)) → list_all is_low rest ≡ true → IsReadTo text p rest tokens names
      → (n : ℕ) (f : Form) → Begins rest (front.Token n f) → (k : Kind) → kind_of f (take n rest) ≡ Some k
      → (b : Bool) → kind_within (length (added names k)) (numbered_kind names k) ≡ b → Option (TokensOf text)
  take_known on p rest tokens names low h n f begins k e true good =
      on _ _ _ _ (low-drop n rest low) (taken text p rest tokens names n f k h begins e (kind_is_within (length (added names k)) (numbered_kind names k) good))
  take_known on p rest tokens names low h n f begins k e false good = None

  abbrev take_kind : Reading → (p : Place) (rest : List ℕ) (tokens : List Token) (names : List (List ℕ)) → list_all is_low rest ≡ true → IsReadTo text p rest tokens names
      → (n : ℕ) (f : Form) → Begins rest (front.Token n f) → (k : Option Kind) → kind_of f (take n rest) ≡ k → Option (TokensOf text)
  take_kind on p rest tokens names low h n f begins None e = None
  take_kind on p rest tokens names low h n f begins (Some k) e =
      take_known on p rest tokens names low h n f begins k e (kind_within (length (added names k)) (numbered_kind names k)) refl

  -- what was found at the front is passed or taken
  abbrev read_on : Reading → (p : Place) (rest : List ℕ) (tokens : List Token) (names : List (List ℕ)) → list_all is_low rest ≡ true → IsReadTo text p rest tokens names
      → (f : Front) → Begins rest f → Option (TokensOf text)
  read_on on p rest tokens names low h front.End begins = None
  read_on on p rest tokens names low h (front.Passed n) begins = on _ _ _ _ (low-drop n rest low) (passed_on text p rest tokens names n h begins)
  read_on on p rest tokens names low h (front.Token n f) begins = take_kind on p rest tokens names low h n f begins (kind_of f (take n rest)) refl
  read_on on p rest tokens names low h front.Bad begins = None

  abbrev read_found : Reading → (p : Place) (rest : List ℕ) (tokens : List Token) (names : List (List ℕ)) → list_all is_low rest ≡ true → IsReadTo text p rest tokens names
      → Option (Found rest) → Option (TokensOf text)
  read_found on p rest tokens names low h None = None
  read_found on p rest tokens names low h (Some f) = read_on on p rest tokens names low h f.front f.begins

  -- at most so many pieces of the text are read
  unfoldable pub reading : ℕ → Reading
  reading zero p rest tokens names low h = None
  reading (suc n) p [] tokens names low h =
      Some (record { tokens = tokens; names = names; end = p.at; lexed = ended text p [] tokens names h refl; facts = are_tokens text p [] tokens names h })
  reading (suc n) p (c ∷ rest) tokens names low h =
      read_found (reading n) p (c ∷ rest) tokens names low h (found_here c rest low (is_white c) (opens_comment (c ∷ rest)) refl refl)

pub is_ascii : (text : List ℕ) → list_all is_low text ≡ true → IsAscii text
is_ascii [] low i = omega arith
is_ascii (c ∷ text) low zero = ltb-true c 128 (and_parts (is_low c) (list_all is_low text) low).0
is_ascii (c ∷ text) low (suc i) = is_ascii text (and_parts (is_low c) (list_all is_low text) low).1 i

-- the tokens of a text, if it is one of these, with all that this computes by
unfoldable pub tokens_of : (text : List ℕ) → list_all is_low text ≡ true → Option (TokensOf text)
unfolding reading encode decimal_value gcd gcd_in fits reduced
tokens_of text low = reading text (suc (length text)) first_place text [] [] low (at_start text text (IsUtf8-from_ascii text (is_ascii text low)) (sym (chars-IsAscii text (is_ascii text low))))
