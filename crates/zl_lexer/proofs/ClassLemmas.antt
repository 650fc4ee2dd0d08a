-- Properties of characters: no character begins two forms.
use Rattle.std.proofs.Common.{◌≡◌, ℕ, ◌<◌, Bool, true, false, not, ◌&&◌, ◌||◌, ◌==◌, nat_lt, cond, List, [], ◌∷◌, length, Option, Some, refl, sym, subst, ◌∙◌, ap, arith}
use Rattle.std.specs.Map.{lookup}
use Rattle.std.specs.List.{list_all}
use Rattle.std.specs.Str.{bytes_eq}
use Rattle.std.specs.Char.{is_ascii_digit, is_ascii_alphabetic}
use Rattle.std.proofs.lemmas.Bool.{and_parts, not-true, ltb-true}
use Rattle.std.proofs.lemmas.Slice.Eq.{bytes_eq-Decides}
use Rattle.unicode_ident.proofs.IdentLemmas.{is_xid_start-ascii}
use Rattle.zl_lexer.specs.declared.token.Sign.{Sign}
use Rattle.zl_lexer.specs.Names.{is_name_start}
use Rattle.zl_lexer.specs.Signs.{signs, sign_of}

found_at : {X : Type 0} (p : List ℕ → Bool) (text key : List ℕ) (v x : X) (other : Option X) (rest b : Bool)
    → bytes_eq text key ≡ b → (p key && rest) ≡ true → (other ≡ Some x → rest ≡ true → p text ≡ true)
    → cond b (Some v) other ≡ Some x → p text ≡ true
found_at p text key v x other rest true is all further e =
    subst (λ k. p k ≡ true) (sym ((bytes_eq-Decides text key).0 is)) (and_parts (p key) rest all).0
found_at p text key v x other rest false is all further e = further e (and_parts (p key) rest all).1

-- a text that is a key of a table passes each test that all keys pass
pub found_key : {X : Type 0} (p : List ℕ → Bool) (table : List (List ℕ × X)) (text : List ℕ) (x : X)
    → list_all (λ e. p e.0) table ≡ true → lookup (bytes_eq text) table ≡ Some x → p text ≡ true
found_key p [] text x all e = absurd cc
found_key p (entry ∷ table) text x all e =
    found_at p text entry.0 entry.1 x (lookup (bytes_eq text) table) (list_all (λ e. p e.0) table) (bytes_eq text entry.0) refl all
    (λ found more. found_key p table text x more found) e

-- a text of one or two characters whose first is ASCII, and neither a letter nor a digit nor `_`
abbrev pub is_plain : List ℕ → Bool
is_plain [] = false
is_plain (c ∷ text) = nat_lt c 128 && (not (is_ascii_alphabetic c || c == 95) && (not (is_ascii_digit c) && nat_lt (length text) 2))

pub record IsPlain (c : ℕ) (text : List ℕ) : Type 0 where
  pub starts_no_name : is_name_start c ≡ false
  pub is_no_digit : is_ascii_digit c ≡ false
  pub short : length text < 2

pub name_start_ascii : (c : ℕ) → c < 128 → is_name_start c ≡ (is_ascii_alphabetic c || c == 95)
name_start_ascii c low = ap (λ b. b || c == 95) (is_xid_start-ascii c low)

pub plain_sign : (c : ℕ) (text : List ℕ) (s : Sign) → sign_of (c ∷ text) ≡ Some s → IsPlain c text
plain_sign c text s e =
    let p = found_key is_plain signs (c ∷ text) s refl e in
    let a = and_parts (nat_lt c 128) _ p in
    let b = and_parts (not (is_ascii_alphabetic c || c == 95)) _ a.1 in
    let d = and_parts (not (is_ascii_digit c)) _ b.1 in
    record {
      starts_no_name = name_start_ascii c (ltb-true c 128 a.0) ∙ not-true _ b.0;
      is_no_digit = not-true _ d.0;
      short = ltb-true _ 2 d.1;
    }

pub digit_ascii : (c : ℕ) → is_ascii_digit c ≡ true → c < 128
digit_ascii c e = grind arith

-- a digit begins no name
pub digit_start : (c : ℕ) → is_ascii_digit c ≡ true → is_name_start c ≡ false
digit_start c e = name_start_ascii c (digit_ascii c e) ∙ grind arith
