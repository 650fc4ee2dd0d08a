-- The steps of reading a text, in the values that the loop has.
use Rattle.std.proofs.Common.{◌≡◌, ℕ, ◌+◌, ◌-◌, ◌<◌, ◌≤◌, Bool, true, false, cond, MatchBool, List, [], ◌∷◌, ◌++◌, length, take, drop, Option, Some, None, option_map, encode_utf8_all, refl, sym, subst, ◌∙◌, ap, arith}
use Rattle.std.specs.List.{prefix_len}
use Rattle.std.specs.Str.{chars, IsUtf8, IsCharBoundary}
use Rattle.std.proofs.Math.Utf8.{scalars}
use Rattle.std.proofs.lemmas.List.{length-drop}
use Rattle.std.proofs.lemmas.Str.{IsCharBoundary-from_drop, chars-encodes}
use Rattle.zl_lexer.specs.declared.front.Form.{Form}
use Rattle.zl_lexer.specs.declared.front.Front.TheVariants as front
use Rattle.zl_lexer.specs.declared.place.Place.{Place}
use Rattle.zl_lexer.specs.declared.token.LexAnswer.TheVariants as answer
use Rattle.zl_lexer.specs.declared.token.Token.{Token}
use Rattle.zl_lexer.specs.declared.token.TokenKind.{TokenKind}
use Rattle.zl_lexer.specs.Comments.{opens_comment, comment_len}
use Rattle.zl_lexer.specs.Facts.{IsKind}
use Rattle.zl_lexer.specs.Positions.{is_white, first_place, place_after, behind}
use Rattle.zl_lexer.specs.Tokens.{HasForm, IsNext, Begins, comment_front, Kind, Named, Known, kind_of, numbered_kind, with_kind, StopsAt}
use Rattle.zl_lexer.proofs.FormLemmas.{one_more}
use Rattle.zl_lexer.proofs.FrontLemmas.{token_longest, token_fits}
use Rattle.zl_lexer.proofs.LoopLemmas.{IsReadTo, at_start, passed_on, added, taken, refused, behind_front, scalars-take}
use Rattle.zl_lexer.proofs.PlaceLemmas.{byte-behind, IsRest, IsRest-take}

pub started : (text rest : List ℕ) (p : Place) (tokens : List Token) (names : List (List ℕ)) → IsUtf8 text → rest ≡ chars text → p ≡ first_place
    → tokens ≡ [] → names ≡ [] → IsReadTo text p rest tokens names
started text rest p tokens names utf8 e is_p is_tokens is_names =
    subst (λ q. IsReadTo text q rest tokens names) (sym is_p)
    (subst (λ ts. IsReadTo text first_place rest ts names) (sym is_tokens)
    (subst (λ ns. IsReadTo text first_place rest [] ns) (sym is_names) (at_start text rest utf8 e)))

-- the characters that are left are within the text
pub bytes_fit : (text : List ℕ) (p : Place) (rest : List ℕ) (tokens : List Token) (names : List (List ℕ)) → IsReadTo text p rest tokens names
    → length text ≤ 1048576 → p.byte + length (encode_utf8_all rest) ≤ 1048576
bytes_fit text p rest tokens names h small = omega (arith, h.rest_is.within, length-drop p.byte text, ap length h.rest_is.left)

pub passed_step : (text : List ℕ) (p q : Place) (rest back : List ℕ) (tokens : List Token) (names : List (List ℕ)) (n : ℕ)
    → IsReadTo text p rest tokens names → Begins rest (front.Passed n) → back ≡ drop n rest → q ≡ behind p (take n rest)
    → IsReadTo text q back tokens names
passed_step text p q rest back tokens names n h b is_back is_q =
    subst (λ t. IsReadTo text q t tokens names) (sym is_back)
    (subst (λ x. IsReadTo text x (drop n rest) tokens names) (sym is_q) (passed_on text p rest tokens names n h b))

white_begins : (c : ℕ) (rest : List ℕ) → is_white c ≡ true → Begins (c ∷ rest) (front.Passed 1)
white_begins c rest e =
    subst (λ b. MatchBool b (front.Passed 1 ≡ front.Passed 1)
    (MatchBool (opens_comment (c ∷ rest)) (front.Passed 1 ≡ comment_front (comment_len (c ∷ rest))) (IsNext (c ∷ rest) (front.Passed 1)))) (sym e) refl

all_white : (text : List ℕ) (p : Place) (rest : List ℕ) (tokens : List Token) (names : List (List ℕ)) → IsReadTo text p rest tokens names
    → IsReadTo text (behind p (take (prefix_len is_white rest) rest)) (drop (prefix_len is_white rest) rest) tokens names
all_white text p [] tokens names h = h
all_white text p (c ∷ rest) tokens names h =
    all_at (is_white c) refl (λ e. all_white text (place_after p c) rest tokens names (passed_on text p (c ∷ rest) tokens names 1 h (white_begins c rest e)))
  where
    all_at : (b : Bool) → is_white c ≡ b
        → (is_white c ≡ true → IsReadTo text (behind (place_after p c) (take (prefix_len is_white rest) rest)) (drop (prefix_len is_white rest) rest) tokens names)
        → IsReadTo text (behind p (take (cond b (1 + prefix_len is_white rest) 0) (c ∷ rest))) (drop (cond b (1 + prefix_len is_white rest) 0) (c ∷ rest)) tokens names
    all_at false e further = h
    all_at true e further =
        subst (λ n. IsReadTo text (behind p (take n (c ∷ rest))) (drop n (c ∷ rest)) tokens names) (sym (one_more (prefix_len is_white rest))) (further e)

-- white space is passed
pub white_step : (text : List ℕ) (p q : Place) (rest back : List ℕ) (tokens : List Token) (names : List (List ℕ)) → IsReadTo text p rest tokens names
    → back ≡ drop (prefix_len is_white rest) rest → q ≡ behind p (take (prefix_len is_white rest) rest) → IsReadTo text q back tokens names
white_step text p q rest back tokens names h is_back is_q =
    subst (λ t. IsReadTo text q t tokens names) (sym is_back)
    (subst (λ x. IsReadTo text x (drop (prefix_len is_white rest) rest) tokens names) (sym is_q) (all_white text p rest tokens names h))

-- and no more characters are left than before
pub no_more : (rest back last : List ℕ) (n : ℕ) → length back < length rest → last ≡ drop n back → length last < length rest
no_more rest back last n h is = omega (arith, h, ap length is, length-drop n back)

-- characters are left where some are passed
pub fewer : (rest back : List ℕ) (n : ℕ) → 0 < n → n ≤ length rest → back ≡ drop n rest → length back < length rest
fewer rest back n some within is_back = omega (arith, ap length is_back, length-drop n rest)

-- a place between two characters
boundary : (text : List ℕ) (at : ℕ) (rest : List ℕ) → IsRest text at rest → scalars rest ≡ true → IsCharBoundary text at
boundary text at rest h scalar = IsCharBoundary-from_drop text at h.within (rest, (scalar, sym h.left))

pub boundary_here : (text : List ℕ) (p : Place) (rest : List ℕ) (tokens : List Token) (names : List (List ℕ)) → IsReadTo text p rest tokens names → IsCharBoundary text p.byte
boundary_here text p rest tokens names h = boundary text p.byte rest h.rest_is h.scalar

-- the bytes of a token
pub record IsWord (text : List ℕ) (p q : Place) (rest : List ℕ) (n : ℕ) (f : Form) : Type 0 where
  pub start : p.byte ≤ q.byte
  pub end : IsCharBoundary text q.byte
  pub characters : chars (take (q.byte - p.byte) (drop p.byte text)) ≡ take n rest
  pub form : HasForm (take n rest) f

pub word_step : (text : List ℕ) (p q : Place) (rest : List ℕ) (tokens : List Token) (names : List (List ℕ)) (n : ℕ) (f : Form)
    → IsReadTo text p rest tokens names → Begins rest (front.Token n f) → q ≡ behind p (take n rest) → IsWord text p q rest n f
word_step text p q rest tokens names n f h b is_q =
    let next = behind_front text p rest n h.rest_is h.scalar h.low (token_fits rest n f b) in
    let size : q.byte ≡ p.byte + length (encode_utf8_all (take n rest)) = ap (λ (x : Place). x.byte) is_q ∙ byte-behind p (take n rest) in
    let more : q.byte - p.byte ≡ length (encode_utf8_all (take n rest)) = omega arith in
    record {
      start = omega arith;
      end = subst (λ (x : Place). IsCharBoundary text x.byte) (sym is_q) (boundary text (behind p (take n rest)).byte (drop n rest) next.rest_is next.scalar);
      characters =
          ap chars (ap (λ k. take k (drop p.byte text)) more ∙ IsRest-take text p.byte n rest h.rest_is)
          ∙ chars-encodes (take n rest) (scalars-take n rest h.scalar);
      form = (token_longest rest n f b).form;
    }

pub word_is : (text : List ℕ) (p q : Place) (rest word : List ℕ) (n : ℕ) (f : Form) → IsWord text p q rest n f
    → word ≡ take (q.byte - p.byte) (drop p.byte text) → chars word ≡ take n rest
word_is text p q rest word n f w is = ap chars is ∙ w.characters

pub word_form : (text : List ℕ) (p q : Place) (rest word : List ℕ) (n : ℕ) (f : Form) → IsWord text p q rest n f
    → word ≡ take (q.byte - p.byte) (drop p.byte text) → HasForm (chars word) f
word_form text p q rest word n f w is = subst (λ t. HasForm t f) (sym (word_is text p q rest word n f w is)) w.form

some_kind : (names : List (List ℕ)) (o : Option Kind) (kind : TokenKind) → Some kind ≡ option_map (numbered_kind names) o
    → (k : Kind) × (o ≡ Some k) × (kind ≡ numbered_kind names k) × (with_kind names o ≡ added names k)
some_kind names None kind e = absurd (cc)
some_kind names (Some (Named name)) kind e = (Named name, refl, cc, refl)
some_kind names (Some (Known k)) kind e = (Known k, refl, cc, refl)

no_kind : (names : List (List ℕ)) (o : Option Kind) → None ≡ option_map (numbered_kind names) o → o ≡ None
no_kind names None e = refl
no_kind names (Some k) e = absurd (cc)

pub token_step : (text : List ℕ) (p q : Place) (rest word back : List ℕ) (tokens more : List Token) (names longer : List (List ℕ)) (n : ℕ) (f : Form) (kind : TokenKind)
    → IsReadTo text p rest tokens names → Begins rest (front.Token n f) → word ≡ take n rest → back ≡ drop n rest → q ≡ behind p word
    → Some kind ≡ option_map (numbered_kind names) (kind_of f word) → longer ≡ with_kind names (kind_of f word) → IsKind (length longer) kind
    → more ≡ tokens ++ record { kind = kind; start = p.byte; end = q.byte; at = p.at } ∷ [] → IsReadTo text q back more longer
token_step text p q rest word back tokens more names longer n f kind h b is_word is_back is_q is_kind is_names good is_tokens =
    let known = some_kind names (kind_of f word) kind is_kind in
    let place : q ≡ behind p (take n rest) = is_q ∙ ap (behind p) is_word in
    let here : kind_of f (take n rest) ≡ Some known.0 = ap (kind_of f) (sym is_word) ∙ known.1 in
    let names_are : longer ≡ added names known.0 = is_names ∙ known.3 in
    let fine : IsKind (length (added names known.0)) (numbered_kind names known.0) =
    subst (λ j. IsKind (length (added names known.0)) j) known.2 (subst (λ ns. IsKind (length ns) kind) names_are good) in
    let all = taken text p rest tokens names n f known.0 h b here fine in
    let tokens_are : tokens ++ record { kind = numbered_kind names known.0; start = p.byte; end = (behind p (take n rest)).byte; at = p.at } ∷ [] ≡ more =
    ap (λ (j : TokenKind). tokens ++ record { kind = j; start = p.byte; end = (behind p (take n rest)).byte; at = p.at } ∷ []) (sym known.2)
    ∙ ap (λ (x : Place). tokens ++ record { kind = kind; start = p.byte; end = x.byte; at = p.at } ∷ []) (sym place) ∙ sym is_tokens in
    subst (λ t. IsReadTo text q t more longer) (sym is_back)
    (subst (λ x. IsReadTo text x (drop n rest) more longer) (sym place)
    (subst (λ ns. IsReadTo text (behind p (take n rest)) (drop n rest) more ns) (sym names_are)
    (subst (λ ts. IsReadTo text (behind p (take n rest)) (drop n rest) ts (added names known.0)) tokens_are all)))

pub refused_step : (text : List ℕ) (p : Place) (rest word : List ℕ) (tokens : List Token) (names : List (List ℕ)) (n : ℕ) (f : Form)
    → IsReadTo text p rest tokens names → Begins rest (front.Token n f) → word ≡ take n rest → None ≡ option_map (numbered_kind names) (kind_of f word)
    → StopsAt text (answer.Literal p.at)
refused_step text p rest word tokens names n f h b is_word e =
    refused text p rest tokens names n f h b (ap (kind_of f) (sym is_word) ∙ no_kind names (kind_of f word) e)
