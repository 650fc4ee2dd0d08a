-- The kind of a token is read from its bytes. The text of a number is ASCII, so its characters are its bytes.
use Rattle.std.proofs.Common.{◌≡◌, ℕ, ◌+◌, ◌<◌, Bool, true, false, ◌||◌, ◌==◌, nat_lt, cond, List, [], ◌∷◌, ◌++◌, take, Option, Some, None, is_some, option_map, encode_utf8_all, inl, inr, refl, sym, subst, ◌∙◌, ap, arith}
use Rattle.std.specs.List.{list_all}
use Rattle.std.specs.Char.{is_ascii_digit}
use Rattle.std.proofs.lemmas.Bool.{and_parts, and_from, or_cases, eqb-true, ltb-true, lt-ltb}
use Rattle.std.proofs.lemmas.List.{take-append-drop, take_all}
use Rattle.std.proofs.lemmas.List.Folds.{list_all-append}
use Rattle.std.proofs.lemmas.Str.{encode_ascii}
use Rattle.zl_value.specs.Decimal.{run, after_run, is_digits, float_parts}
use Rattle.zl_lexer.specs.declared.front.Form.{Form}
use Rattle.zl_lexer.specs.declared.front.Form.TheVariants as form
use Rattle.zl_lexer.specs.declared.token.TokenKind.{TokenKind}
use Rattle.zl_lexer.specs.Numbers.{int_kind, float_kind}
use Rattle.zl_lexer.specs.Tokens.{HasForm, Known, kind_of, name_kind, numbered_kind}
use Rattle.zl_lexer.proofs.ClassLemmas.{digit_ascii}
use Rattle.zl_lexer.proofs.DigitLemmas.{digits, digits_are, is_signed, is_exponent, ends_or_exponent, is_tail, is_fraction, float_some}
use Rattle.zl_lexer.proofs.FormLemmas.{one_more, form_at}

abbrev pub all_ascii : List ℕ → Bool
all_ascii text = list_all (λ c. nat_lt c 128) text

pub ascii_bytes : (text : List ℕ) → all_ascii text ≡ true → encode_utf8_all text ≡ text
ascii_bytes [] e = refl
ascii_bytes (c ∷ text) e =
    let parts = and_parts (nat_lt c 128) (all_ascii text) e in
    ap (λ bytes. bytes ++ encode_utf8_all text) (encode_ascii c (ltb-true c 128 parts.0)) ∙ ap (λ rest. c ∷ rest) (ascii_bytes text parts.1)

cons_ascii : (c : ℕ) (text : List ℕ) → c < 128 → all_ascii text ≡ true → all_ascii (c ∷ text) ≡ true
cons_ascii c text h e = and_from _ _ (lt-ltb c 128 h) e

run_ascii : (text : List ℕ) → all_ascii (run text) ≡ true
run_ascii [] = refl
run_ascii (c ∷ text) = run_at c text (is_ascii_digit c) refl (run_ascii text)
  where
    run_at : (c : ℕ) (text : List ℕ) (b : Bool) → is_ascii_digit c ≡ b → all_ascii (run text) ≡ true → all_ascii (take (cond b (1 + digits text) 0) (c ∷ text)) ≡ true
    run_at c text false e all = refl
    run_at c text true e all = ap (λ n. all_ascii (take n (c ∷ text))) (one_more (digits text)) ∙ cons_ascii c (run text) (digit_ascii c e) all

split_ascii : (text : List ℕ) → all_ascii (after_run text) ≡ true → all_ascii text ≡ true
split_ascii text e =
    ap all_ascii (sym (take-append-drop (digits text) text)) ∙ list_all-append (λ c. nat_lt c 128) (run text) (after_run text) ∙ and_from _ _ (run_ascii text) e

digits_ascii : (text : List ℕ) → is_digits text ≡ true → all_ascii text ≡ true
digits_ascii text e =
    ap all_ascii (sym (take_all (digits text) text (omega (arith, (digits_are text e).1)))) ∙ run_ascii text

one_of : (c a b : ℕ) → a < 128 → b < 128 → (c == a || c == b) ≡ true → c < 128
one_of c a b la lb e = elim (or_cases (c == a) (c == b) e) [
  | inl is ↦ omega (arith, eqb-true c a is)
  | inr is ↦ omega (arith, eqb-true c b is)
]

signed_ascii : (text : List ℕ) → is_signed text ≡ true → all_ascii text ≡ true
signed_ascii [] e = refl
signed_ascii (c ∷ text) e = signed_at c text (c == 43 || c == 45) refl e
  where
    signed_at : (c : ℕ) (text : List ℕ) (b : Bool) → (c == 43 || c == 45) ≡ b → cond b (is_digits text) (is_digits (c ∷ text)) ≡ true → all_ascii (c ∷ text) ≡ true
    signed_at c text true is e = cons_ascii c text (one_of c 43 45 (omega arith) (omega arith) is) (digits_ascii text e)
    signed_at c text false is e = digits_ascii (c ∷ text) e

exponent_ascii : (text : List ℕ) → is_exponent text ≡ true → all_ascii text ≡ true
exponent_ascii [] e = refl
exponent_ascii (c ∷ text) e = exponent_at c text (c == 101 || c == 69) refl e
  where
    exponent_at : (c : ℕ) (text : List ℕ) (b : Bool) → (c == 101 || c == 69) ≡ b → cond b (is_signed text) false ≡ true → all_ascii (c ∷ text) ≡ true
    exponent_at c text true is e = cons_ascii c text (one_of c 101 69 (omega arith) (omega arith) is) (signed_ascii text e)
    exponent_at c text false is e = absurd (cc)

ending_ascii : (text : List ℕ) → ends_or_exponent text ≡ true → all_ascii text ≡ true
ending_ascii [] e = refl
ending_ascii (c ∷ text) e = exponent_ascii (c ∷ text) e

fraction_ascii : (text : List ℕ) → is_fraction text ≡ true → all_ascii text ≡ true
fraction_ascii [] e = refl
fraction_ascii (c ∷ text) e = fraction_at c text (c == 46) refl e
  where
    fraction_at : (c : ℕ) (text : List ℕ) (b : Bool) → (c == 46) ≡ b → cond b (is_tail text) (is_exponent (c ∷ text)) ≡ true → all_ascii (c ∷ text) ≡ true
    fraction_at c text true is e = cons_ascii c text (omega (arith, eqb-true c 46 is)) (split_ascii text (ending_ascii (after_run text) e))
    fraction_at c text false is e = exponent_ascii (c ∷ text) e

pub int_bytes : (text : List ℕ) → is_digits text ≡ true → encode_utf8_all text ≡ text
int_bytes text e = ascii_bytes text (digits_ascii text e)

pub float_bytes : (text : List ℕ) → is_some (float_parts text) ≡ true → encode_utf8_all text ≡ text
float_bytes text e =
    let parts = and_parts (is_digits (run text)) (is_fraction (after_run text)) (sym (float_some text) ∙ e) in
    ascii_bytes text (split_ascii text (fraction_ascii (after_run text) parts.1))

same_known : (names : List (List ℕ)) (o : Option TokenKind) → option_map (numbered_kind names) (option_map Known o) ≡ o
same_known names None = refl
same_known names (Some k) = refl

-- the kind of a number that is read from its bytes
pub float_kind_of : (names : List (List ℕ)) (f : Form) (text bytes : List ℕ) (k : Option TokenKind) → f ≡ form.Float → HasForm text f
    → bytes ≡ encode_utf8_all text → k ≡ float_kind bytes → k ≡ option_map (numbered_kind names) (kind_of f text)
float_kind_of names f text bytes k is h b e =
    let same : encode_utf8_all text ≡ text = float_bytes text (form_at (subst (HasForm text) is h)) in
    e ∙ ap float_kind (b ∙ same) ∙ sym (same_known names (float_kind text)) ∙ ap (λ g. option_map (numbered_kind names) (kind_of g text)) (sym is)

-- the kind of a whole number that is read from its bytes
pub int_kind_of : (names : List (List ℕ)) (f : Form) (text bytes : List ℕ) (k : Option TokenKind) → f ≡ form.Int → HasForm text f
    → bytes ≡ encode_utf8_all text → k ≡ int_kind bytes → k ≡ option_map (numbered_kind names) (kind_of f text)
int_kind_of names f text bytes k is h b e =
    let same : encode_utf8_all text ≡ text = int_bytes text (form_at (subst (HasForm text) is h)) in
    e ∙ ap int_kind (b ∙ same) ∙ sym (same_known names (int_kind text)) ∙ ap (λ g. option_map (numbered_kind names) (kind_of g text)) (sym is)

-- these bytes are digits
pub int_digits : (f : Form) (text bytes : List ℕ) → f ≡ form.Int → HasForm text f → bytes ≡ encode_utf8_all text → is_digits bytes ≡ true
int_digits f text bytes is h b =
    let all : is_digits text ≡ true = form_at (subst (HasForm text) is h) in
    ap is_digits (b ∙ int_bytes text all) ∙ all

-- the kind of a name that is read from its bytes
pub name_kind_of : (f : Form) (text bytes : List ℕ) → f ≡ form.Name → bytes ≡ encode_utf8_all text → Some (name_kind bytes) ≡ kind_of f text
name_kind_of f text bytes is b = ap (λ t. Some (name_kind t)) b ∙ ap (λ g. kind_of g text) (sym is)
