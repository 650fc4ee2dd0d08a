-- The tokens of a text: white space and comments are passed, and else the longest form is the next token. After OCaml and
-- Zélus.
use Rattle.std.specs.Prelude.{◌≡◌, ℕ, ◌<◌, ◌≤◌, true, List, [], ◌∷◌, length, take, drop, map, Option, Some, None, is_some, option_map, Result, Ok, Err, MatchBool, encode_utf8_all}
use Rattle.std.specs.Option.{option_map_or}
use Rattle.std.specs.List.{filter_map}
use Rattle.std.specs.Str.{chars}
use Rattle.zl_value.specs.declared.position.Pos.{Pos}
use Rattle.zl_value.specs.Decimal.{is_digits, float_parts}
use Rattle.zl_lexer.specs.declared.front.Form.{Form}
use Rattle.zl_lexer.specs.declared.front.Form.TheVariants as form
use Rattle.zl_lexer.specs.declared.front.Front.{Front}
use Rattle.zl_lexer.specs.declared.front.Front.TheVariants as front
use Rattle.zl_lexer.specs.declared.place.Place.{Place}
use Rattle.zl_lexer.specs.declared.token.LexAnswer.{LexAnswer}
use Rattle.zl_lexer.specs.declared.token.LexAnswer.TheVariants as answer
use Rattle.zl_lexer.specs.declared.token.Sign.{Sign}
use Rattle.zl_lexer.specs.declared.token.Token.{Token}
use Rattle.zl_lexer.specs.declared.token.TokenKind.{TokenKind}
use Rattle.zl_lexer.specs.declared.token.TokenKind.TheVariants as kind
use Rattle.zl_lexer.specs.Comments.{opens_comment, comment_len}
use Rattle.zl_lexer.specs.Names.{is_name, firsts, number_of, with_name}
use Rattle.zl_lexer.specs.Numbers.{int_kind, float_kind}
use Rattle.zl_lexer.specs.Positions.{is_white, first_place, behind}
use Rattle.zl_lexer.specs.Signs.{sign_of}
use Rattle.zl_lexer.specs.Words.{word_of}

-- The whole text has the form of a token.
pub data HasForm : List ℕ → Form → Type 0 where
  -- a name or a reserved word
  named : {text : List ℕ} → is_name text ≡ true → HasForm text form.Name
  -- one or more digits
  int : {text : List ℕ} → is_digits text ≡ true → HasForm text form.Int
  -- digits, `.`, zero or more digits and an optional exponent, or digits and an exponent
  float : {text : List ℕ} → is_some (float_parts text) ≡ true → HasForm text form.Float
  sign : {text : List ℕ} {s : Sign} → sign_of text ≡ Some s → HasForm text (form.Sign s)

-- the first n characters are the longest front of the text that has the form of a token
pub record IsLongest (text : List ℕ) (n : ℕ) (f : Form) : Type 0 where
  pub within : n ≤ length text
  pub form : HasForm (take n text) f
  pub longest : (m : ℕ) (other : Form) → n < m → m ≤ length text → HasForm (take m text) other → ⊥

-- what stands at the front of a text where neither white space nor a comment does
pub data IsNext : List ℕ → Front → Type 0 where
  longest : {text : List ℕ} {n : ℕ} {f : Form} → IsLongest text n f → IsNext text (front.Token n f)
  -- no front of the text has the form of a token
  nothing : {text : List ℕ} → ((n : ℕ) (f : Form) → HasForm (take n text) f → ⊥) → IsNext text front.Bad

-- a comment that isn't closed is a bad token
abbrev pub comment_front : Option ℕ → Front
comment_front None = front.Bad
comment_front (Some n) = front.Passed n

-- what stands at the front of a text
abbrev pub Begins : List ℕ → Front → Type 0
Begins [] f = f ≡ front.End
Begins (c ∷ text) f =
    MatchBool (is_white c) (f ≡ front.Passed 1)
    (MatchBool (opens_comment (c ∷ text)) (f ≡ comment_front (comment_len (c ∷ text)))
    (IsNext (c ∷ text) f))

-- what a token is, before the names have their numbers
pub data Kind : Type 0 where
  Named : List ℕ → Kind
  Known : TokenKind → Kind

-- a name, unless it is reserved
abbrev pub name_kind : List ℕ → Kind
name_kind name = option_map_or (λ w. Known (kind.Word w)) (word_of name) (Named name)

-- what a text of this form is; `None` where it is a number that is refused
abbrev pub kind_of : Form → List ℕ → Option Kind
kind_of form.Name text = Some (name_kind (encode_utf8_all text))
kind_of form.Int text = option_map Known (int_kind text)
kind_of form.Float text = option_map Known (float_kind text)
kind_of (form.Sign s) text = Some (Known (kind.Sign s))

-- a token before the names have their numbers
pub record Lexeme : Type 0 where
  pub kind : Kind
  pub start : Place
  pub end : Place

abbrev pub lexeme : Place → List ℕ → Kind → Lexeme
lexeme p text k = record { kind = k; start = p; end = behind p text }

-- From a place on, the text is these tokens up to its end, or these up to the first place where none begins.
pub data Reads : Place → List ℕ → List Lexeme → Result Pos LexAnswer → Type 0 where
  ends : {p : Place} {text : List ℕ} → Begins text front.End → Reads p text [] (Ok p.at)
  passes : {p : Place} {text : List ℕ} {ls : List Lexeme} {r : Result Pos LexAnswer} (n : ℕ)
      → Begins text (front.Passed n) → Reads (behind p (take n text)) (drop n text) ls r → Reads p text ls r
  takes : {p : Place} {text : List ℕ} {ls : List Lexeme} {r : Result Pos LexAnswer} (n : ℕ) (f : Form) (k : Kind)
      → Begins text (front.Token n f) → kind_of f (take n text) ≡ Some k
      → Reads (behind p (take n text)) (drop n text) ls r → Reads p text (lexeme p (take n text) k ∷ ls) r
  refuses : {p : Place} {text : List ℕ} (n : ℕ) (f : Form)
      → Begins text (front.Token n f) → kind_of f (take n text) ≡ None → Reads p text [] (Err (answer.Literal p.at))
  stops : {p : Place} {text : List ℕ} → Begins text front.Bad → Reads p text [] (Err (answer.BadToken p.at))

abbrev pub name_of : Kind → Option (List ℕ)
name_of (Named text) = Some text
name_of (Known k) = None

-- the names among the tokens, in order
abbrev pub names_in : List Lexeme → List (List ℕ)
names_in ls = filter_map (λ l. name_of l.kind) ls

abbrev pub numbered_kind : List (List ℕ) → Kind → TokenKind
numbered_kind names (Named text) = kind.Name (number_of names text)
numbered_kind names (Known k) = k

-- the distinct names so far, with the name of one more token, if it is one
abbrev pub with_kind : List (List ℕ) → Option Kind → List (List ℕ)
with_kind names (Some (Named text)) = with_name names text
with_kind names (Some (Known k)) = names
with_kind names None = names

-- a token with the number of its name
abbrev pub numbered : List (List ℕ) → Lexeme → Token
numbered names l =
    record { kind = numbered_kind names l.kind; start = l.start.byte; end = l.end.byte; at = l.start.at }

-- The text is these tokens, with these distinct names in order of first appearance, and ends at this place.
pub record IsLexed (text : List ℕ) (tokens : List Token) (names : List (List ℕ)) (end : Pos) : Type 0 where
  pub lexemes : List Lexeme
  pub reads : Reads first_place (chars text) lexemes (Ok end)
  pub distinct : names ≡ firsts (names_in lexemes)
  pub tokens_are : tokens ≡ map (numbered names) lexemes

-- The text is tokens up to a place at which none begins, or at which a number is refused.
abbrev pub StopsAt : List ℕ → LexAnswer → Type 0
StopsAt text a = (lexemes : List Lexeme) × Reads first_place (chars text) lexemes (Err a)
