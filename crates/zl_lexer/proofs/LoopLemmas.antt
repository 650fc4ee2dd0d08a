-- Steps of reading a text: what is known between two tokens.
use Rattle.std.proofs.Common.{◌≡◌, ℕ, zero, suc, ◌+◌, ◌≤◌, true, List, [], ◌∷◌, ◌++◌, length, take, drop, map, Some, None, Result, Ok, Err, encode_utf8_all, refl, sym, subst, ◌∙◌, ap, append_assoc, arith}
use Rattle.std.specs.List.{AllByRecursion, list_any, IsDistinct}
use Rattle.std.specs.Str.{chars, IsUtf8, bytes_eq}
use Rattle.std.proofs.Math.Utf8.{scalars}
use Rattle.std.proofs.lemmas.Bool.{and_parts, and_from}
use Rattle.std.proofs.lemmas.List.{append-nil, map-append, length-take-le}
use Rattle.std.proofs.lemmas.List.Elements.{filter_map-append}
use Rattle.std.proofs.lemmas.Str.{encodes-chars, scalars-chars, length-le-encodes}
use Rattle.zl_value.specs.declared.position.Pos.{Pos}
use Rattle.zl_lexer.specs.declared.front.Form.{Form}
use Rattle.zl_lexer.specs.declared.front.Front.TheVariants as front
use Rattle.zl_lexer.specs.declared.place.Place.{Place}
use Rattle.zl_lexer.specs.declared.token.LexAnswer.{LexAnswer}
use Rattle.zl_lexer.specs.declared.token.LexAnswer.TheVariants as answer
use Rattle.zl_lexer.specs.declared.token.Token.{Token}
use Rattle.zl_lexer.specs.declared.token.TokenKind.{TokenKind}
use Rattle.zl_lexer.specs.declared.token.TokenKind.TheVariants as kind
use Rattle.zl_lexer.specs.Facts.{InOrder, IsKind, AreTokens}
use Rattle.zl_lexer.specs.Names.{firsts, with_name}
use Rattle.zl_lexer.specs.Positions.{first_place, behind, Before}
use Rattle.zl_lexer.specs.Tokens.{Begins, Kind, Named, Known, kind_of, Lexeme, lexeme, Reads, ends, passes, takes, refuses, stops, name_of, names_in, numbered_kind, numbered, IsLexed, StopsAt}
use Rattle.zl_lexer.proofs.FrontLemmas.{Fits, passed_fits, token_fits}
use Rattle.zl_lexer.proofs.NameLemmas.{firsts-push, IsDistinct-firsts, number_of-with_name, number_of_added, stays, is_there, length-with_name}
use Rattle.zl_lexer.proofs.PlaceLemmas.{byte-behind, Before-trans, Before-behind, IsLow, IsLow-behind, IsRest, IsRest-drop}

-- the name of a token is in the list
abbrev pub IsKnown : List (List ℕ) → Kind → Type 0
IsKnown names (Named name) = list_any (bytes_eq name) names ≡ true
IsKnown names (Known k) = Unit {0}

-- What is known at a place between two tokens: these were read, and what stands here is read on.
pub record IsReadTo (text : List ℕ) (p : Place) (rest : List ℕ) (tokens : List Token) (names : List (List ℕ)) : Type 0 where
  pub lexemes : List Lexeme
  pub reads : (ls : List Lexeme) (r : Result Pos LexAnswer) → Reads p rest ls r → Reads first_place (chars text) (lexemes ++ ls) r
  pub names_are : names ≡ firsts (names_in lexemes)
  pub tokens_are : tokens ≡ map (numbered names) lexemes
  pub known : AllByRecursion (λ l. IsKnown names l.kind) lexemes
  pub rest_is : IsRest text p.byte rest
  pub scalar : scalars rest ≡ true
  pub low : IsLow p
  pub few : length names ≤ p.byte
  pub kinds : AllByRecursion (λ t. IsKind (length names) t.kind) tokens
  pub in_order : InOrder tokens p.at

firsts_nil : [] ≡ firsts []
unfolding firsts
firsts_nil = refl

pub at_start : (text rest : List ℕ) → IsUtf8 text → rest ≡ chars text → IsReadTo text first_place rest [] []
at_start text rest utf8 e = record {
  lexemes = [];
  reads = λ ls r h. subst (λ t. Reads first_place t ls r) e h;
  names_are = firsts_nil;
  tokens_are = refl;
  known = tt;
  rest_is = record { within = omega arith; left = sym (ap encode_utf8_all e ∙ encodes-chars text utf8) };
  scalar = ap scalars e ∙ scalars-chars text utf8;
  low = record { line = omega arith; column = omega arith };
  few = omega arith;
  kinds = tt;
  in_order = tt;
}

all-push : {X : Type 0} (P : X → Type 0) (xs : List X) (x : X) → AllByRecursion P xs → P x → AllByRecursion P (xs ++ x ∷ [])
all-push P [] x h here = (here, tt)
all-push P (y ∷ xs) x h here = (h.0, all-push P xs x h.1 here)

all-more : {X : Type 0} (P Q : X → Type 0) (xs : List X) → ((x : X) → P x → Q x) → AllByRecursion P xs → AllByRecursion Q xs
all-more P Q [] more h = tt
all-more P Q (x ∷ xs) more h = (more x h.0, all-more P Q xs more h.1)

pub in_order_later : (ts : List Token) (a b : Pos) → Before a b → InOrder ts a → InOrder ts b
in_order_later [] a b before h = tt
in_order_later (t ∷ ts) a b before h = (Before-trans t.at a b h.0 before, h.1, in_order_later ts a b before h.2)

pub in_order_push : (ts : List Token) (t : Token) (end : Pos) → InOrder ts t.at → Before t.at end → InOrder (ts ++ t ∷ []) end
in_order_push [] t end h before = (before, tt, tt)
in_order_push (u ∷ ts) t end h before =
    (Before-trans u.at t.at end h.0 before, all-push (λ v. Before u.at v.at) ts t h.1 h.0, in_order_push ts t end h.2 before)

pub scalars-take : (n : ℕ) (rest : List ℕ) → scalars rest ≡ true → scalars (take n rest) ≡ true
scalars-take zero [] e = e
scalars-take zero (c ∷ rest) e = refl
scalars-take (suc n) [] e = e
scalars-take (suc n) (c ∷ rest) e = let parts = and_parts _ (scalars rest) e in and_from _ _ parts.0 (scalars-take n rest parts.1)

scalars-drop : (n : ℕ) (rest : List ℕ) → scalars rest ≡ true → scalars (drop n rest) ≡ true
scalars-drop zero rest e = e
scalars-drop (suc n) [] e = e
scalars-drop (suc n) (c ∷ rest) e = scalars-drop n rest (and_parts _ (scalars rest) e).1

pub kind_more : (m n : ℕ) (k : TokenKind) → m ≤ n → IsKind m k → IsKind n k
kind_more m n (kind.Name i) h k = omega (arith, k)
kind_more m n (kind.Int z) h k = k
kind_more m n (kind.Float f) h k = k
kind_more m n (kind.Word w) h k = tt
kind_more m n (kind.Sign s) h k = tt

-- the place behind what stands at the front
pub record IsBehind (text : List ℕ) (p q : Place) (rest : List ℕ) (n : ℕ) : Type 0 where
  pub rest_is : IsRest text q.byte (drop n rest)
  pub scalar : scalars (drop n rest) ≡ true
  pub low : IsLow q
  pub byte : p.byte + n ≤ q.byte
  pub later : Before p.at q.at

pub behind_front : (text : List ℕ) (p : Place) (rest : List ℕ) (n : ℕ) → IsRest text p.byte rest → scalars rest ≡ true → IsLow p → Fits n rest
    → IsBehind text p (behind p (take n rest)) rest n
behind_front text p rest n is scalar low fits =
    let size : length (take n rest) ≡ n = length-take-le n rest fits.within in
    record {
      rest_is = subst (λ b. IsRest text b (drop n rest)) (sym (byte-behind p (take n rest))) (IsRest-drop text p.byte n rest is);
      scalar = scalars-drop n rest scalar;
      low = IsLow-behind p (take n rest) low;
      byte = omega (arith, byte-behind p (take n rest), length-le-encodes (take n rest), size);
      later = Before-behind p (take n rest) (omega (arith, size, fits.some));
    }

-- white space or a comment is passed
pub passed_on : (text : List ℕ) (p : Place) (rest : List ℕ) (tokens : List Token) (names : List (List ℕ)) (n : ℕ)
    → IsReadTo text p rest tokens names → Begins rest (front.Passed n) → IsReadTo text (behind p (take n rest)) (drop n rest) tokens names
passed_on text p rest tokens names n h b =
    let next = behind_front text p rest n h.rest_is h.scalar h.low (passed_fits rest n b) in
    record {
      lexemes = h.lexemes;
      reads = λ ls r k. h.reads ls r (passes n b k);
      names_are = h.names_are;
      tokens_are = h.tokens_are;
      known = h.known;
      rest_is = next.rest_is;
      scalar = next.scalar;
      low = next.low;
      few = omega (arith, h.few, next.byte);
      kinds = h.kinds;
      in_order = in_order_later tokens p.at (behind p (take n rest)).at next.later h.in_order;
    }

-- what one more token does to the list of names
abbrev pub added : List (List ℕ) → Kind → List (List ℕ)
added names (Named name) = with_name names name
added names (Known k) = names

record IsAdded (names : List (List ℕ)) (ls : List Lexeme) (l : Lexeme) : Type 0 where
  names_are : names ≡ firsts (names_in ls) → added names l.kind ≡ firsts (names_in (ls ++ l ∷ []))
  same_kind : numbered_kind (added names l.kind) l.kind ≡ numbered_kind names l.kind
  here : IsKnown (added names l.kind) l.kind
  known : (k : Kind) → IsKnown names k → IsKnown (added names l.kind) k
  same : (k : Kind) → IsKnown names k → numbered_kind (added names l.kind) k ≡ numbered_kind names k
  longer : length names ≤ length (added names l.kind)
  few : length (added names l.kind) ≤ length names + 1

known-with_name : (names : List (List ℕ)) (name : List ℕ) (k : Kind) → IsKnown names k → IsKnown (with_name names name) k
known-with_name names name (Named other) h = stays names other name h
known-with_name names name (Known k) h = tt

same-with_name : (names : List (List ℕ)) (name : List ℕ) (k : Kind) → IsKnown names k → numbered_kind (with_name names name) k ≡ numbered_kind names k
same-with_name names name (Named other) h = ap kind.Name (number_of-with_name names other name h)
same-with_name names name (Known k) h = refl

is_added : (names : List (List ℕ)) (ls : List Lexeme) (k : Kind) (start end : Place) → IsAdded names ls (record { kind = k; start = start; end = end })
is_added names ls (Named name) start end =
    record {
      names_are = λ e.
          ap (λ ns. with_name ns name) e ∙ sym (firsts-push (names_in ls) name)
          ∙ ap firsts (sym (filter_map-append (λ l. name_of l.kind) ls (record { kind = Named name; start = start; end = end } ∷ [])));
      same_kind = ap kind.Name (number_of_added names name);
      here = is_there names name;
      known = known-with_name names name;
      same = same-with_name names name;
      longer = (length-with_name names name).0;
      few = (length-with_name names name).1;
    }
is_added names ls (Known k) start end =
    record {
      names_are = λ e.
          e ∙ ap firsts (sym (append-nil (names_in ls)) ∙ sym (filter_map-append (λ l. name_of l.kind) ls (record { kind = Known k; start = start; end = end } ∷ [])));
      same_kind = refl;
      here = tt;
      known = λ k h. h;
      same = λ k h. refl;
      longer = omega arith;
      few = omega arith;
    }

same_tokens : (names more : List (List ℕ)) (ls : List Lexeme) → ((k : Kind) → IsKnown names k → numbered_kind more k ≡ numbered_kind names k)
    → AllByRecursion (λ l. IsKnown names l.kind) ls → map (numbered names) ls ≡ map (numbered more) ls
same_tokens names more [] same h = refl
same_tokens names more (l ∷ ls) same h =
    ap (λ k. record { kind = k; start = l.start.byte; end = l.end.byte; at = l.start.at } ∷ map (numbered names) ls) (sym (same l.kind h.0))
    ∙ ap (λ ts. numbered more l ∷ ts) (same_tokens names more ls same h.1)

-- a token is taken
pub taken : (text : List ℕ) (p : Place) (rest : List ℕ) (tokens : List Token) (names : List (List ℕ)) (n : ℕ) (f : Form) (k : Kind)
    → IsReadTo text p rest tokens names → Begins rest (front.Token n f) → kind_of f (take n rest) ≡ Some k
    → IsKind (length (added names k)) (numbered_kind names k)
    → IsReadTo text (behind p (take n rest)) (drop n rest)
    (tokens ++ record { kind = numbered_kind names k; start = p.byte; end = (behind p (take n rest)).byte; at = p.at } ∷ []) (added names k)
taken text p rest tokens names n f k h b e good =
    let next = behind_front text p rest n h.rest_is h.scalar h.low (token_fits rest n f b) in
    let l : Lexeme = lexeme p (take n rest) k in
    let more = is_added names h.lexemes k p (behind p (take n rest)) in
    let token : Token = record { kind = numbered_kind names k; start = p.byte; end = (behind p (take n rest)).byte; at = p.at } in
    record {
      lexemes = h.lexemes ++ l ∷ [];
      reads = λ ls r j.
          subst (λ all. Reads first_place (chars text) all r) (sym (append_assoc h.lexemes (l ∷ []) ls)) (h.reads (l ∷ ls) r (takes n f k b e j));
      names_are = more.names_are h.names_are;
      tokens_are =
          ap (λ ts. ts ++ token ∷ []) (h.tokens_are ∙ same_tokens names (added names k) h.lexemes more.same h.known)
          ∙ ap (λ j. map (numbered (added names k)) h.lexemes ++ record { kind = j; start = p.byte; end = (behind p (take n rest)).byte; at = p.at } ∷ []) (sym more.same_kind)
          ∙ sym (map-append (numbered (added names k)) h.lexemes (l ∷ []));
      known = all-push (λ l. IsKnown (added names k) l.kind) h.lexemes l (all-more (λ l. IsKnown names l.kind) (λ l. IsKnown (added names k) l.kind) h.lexemes (λ l. more.known l.kind) h.known) more.here;
      rest_is = next.rest_is;
      scalar = next.scalar;
      low = next.low;
      few = omega (arith, h.few, next.byte, more.few, (token_fits rest n f b).some);
      kinds = all-push (λ t. IsKind (length (added names k)) t.kind) tokens token
          (all-more (λ t. IsKind (length names) t.kind) (λ t. IsKind (length (added names k)) t.kind) tokens (λ t. kind_more (length names) (length (added names k)) t.kind more.longer) h.kinds) good;
      in_order = in_order_push tokens token (behind p (take n rest)).at h.in_order next.later;
    }

-- the text is at its end
pub ended : (text : List ℕ) (p : Place) (rest : List ℕ) (tokens : List Token) (names : List (List ℕ)) → IsReadTo text p rest tokens names
    → Begins rest front.End → IsLexed text tokens names p.at
ended text p rest tokens names h b = record {
  lexemes = h.lexemes;
  reads = subst (λ ls. Reads first_place (chars text) ls (Ok p.at)) (append-nil h.lexemes) (h.reads [] (Ok p.at) (ends b));
  distinct = h.names_are;
  tokens_are = h.tokens_are;
}

pub are_tokens : (text : List ℕ) (p : Place) (rest : List ℕ) (tokens : List Token) (names : List (List ℕ)) → IsReadTo text p rest tokens names
    → AreTokens tokens names p.at
are_tokens text p rest tokens names h = record {
  in_order = h.in_order;
  kinds = h.kinds;
  distinct = subst (IsDistinct bytes_eq) (sym h.names_are) (IsDistinct-firsts (names_in h.lexemes));
}

-- or no token begins here
pub stopped : (text : List ℕ) (p : Place) (rest : List ℕ) (tokens : List Token) (names : List (List ℕ)) → IsReadTo text p rest tokens names
    → Begins rest front.Bad → StopsAt text (answer.BadToken p.at)
stopped text p rest tokens names h b = (h.lexemes ++ [], h.reads [] (Err (answer.BadToken p.at)) (stops b))

-- or a number is refused
pub refused : (text : List ℕ) (p : Place) (rest : List ℕ) (tokens : List Token) (names : List (List ℕ)) (n : ℕ) (f : Form) → IsReadTo text p rest tokens names
    → Begins rest (front.Token n f) → kind_of f (take n rest) ≡ None → StopsAt text (answer.Literal p.at)
refused text p rest tokens names n f h b e = (h.lexemes ++ [], h.reads [] (Err (answer.Literal p.at)) (refuses n f b e))
