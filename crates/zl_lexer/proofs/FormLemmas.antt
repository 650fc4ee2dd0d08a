-- Properties of the forms of tokens: which form is the longest at the front of a text, and that there is one at most.
use Rattle.std.proofs.Common.{◌≡◌, ℕ, zero, suc, ◌+◌, ◌<◌, ◌≤◌, Bool, true, false, cond, List, [], ◌∷◌, length, take, drop, Some, None, is_some, refl, sym, subst, ◌∙◌, ap, arith}
use Rattle.std.specs.List.{prefix_len, list_all}
use Rattle.std.specs.Char.{is_ascii_digit}
use Rattle.std.proofs.lemmas.Bool.{and_parts, and_from, eqb-true, cond-true}
use Rattle.std.proofs.lemmas.List.{take_all, length-take-le}
use Rattle.std.proofs.lemmas.List.Sums.{prefix_len-le-length}
use Rattle.unicode_ident.specs.Ident.{is_xid_continue}
use Rattle.zl_value.specs.Decimal.{run, after_run, is_digits, float_parts}
use Rattle.zl_lexer.specs.declared.front.Form.{Form}
use Rattle.zl_lexer.specs.declared.front.Form.TheVariants as form
use Rattle.zl_lexer.specs.declared.front.Front.TheVariants as front
use Rattle.zl_lexer.specs.declared.token.Sign.{Sign}
use Rattle.zl_lexer.specs.Lengths.{fraction_len}
use Rattle.zl_lexer.specs.Names.{is_name, is_name_start}
use Rattle.zl_lexer.specs.Signs.{sign_of, long_sign}
use Rattle.zl_lexer.specs.Tokens.{HasForm, named, int, float, sign, IsNext, longest, nothing}
use Rattle.zl_lexer.proofs.ClassLemmas.{IsPlain, plain_sign, digit_start}
use Rattle.zl_lexer.proofs.DigitLemmas.{digits, digits_are, is_float, float_some, longest_float, longest_digits}

-- what a form says of a text
abbrev pub FormAt : Form → List ℕ → Type 0
FormAt form.Name text = is_name text ≡ true
FormAt form.Int text = is_digits text ≡ true
FormAt form.Float text = is_some (float_parts text) ≡ true
FormAt (form.Sign s) text = sign_of text ≡ Some s

pub form_at : {text : List ℕ} {f : Form} → HasForm text f → FormAt f text
form_at (named e) = e
form_at (int e) = e
form_at (float e) = e
form_at (sign e) = e

-- a text of digits begins with a digit
pub digits_first : (c : ℕ) (text : List ℕ) → is_digits (c ∷ text) ≡ true → is_ascii_digit c ≡ true
digits_first c text e = first_digit (is_ascii_digit c) (1 + digits text) (length text) (eqb-true _ _ e)
  where
    first_digit : (b : Bool) (n l : ℕ) → cond b n 0 ≡ suc l → b ≡ true
    first_digit true n l e = refl
    first_digit false n l e = absurd (omega arith)

pub float_first : (c : ℕ) (text : List ℕ) → is_some (float_parts (c ∷ text)) ≡ true → is_ascii_digit c ≡ true
float_first c text e =
    let whole : is_float (c ∷ text) ≡ true = sym (float_some (c ∷ text)) ∙ e in
    run_first c text (is_ascii_digit c) refl (and_parts (is_digits (run (c ∷ text))) _ whole).0
  where
    run_first : (c : ℕ) (text : List ℕ) (b : Bool) → is_ascii_digit c ≡ b → is_digits (take (cond b (1 + digits text) 0) (c ∷ text)) ≡ true → b ≡ true
    run_first c text true is e = refl
    run_first c text false is e = absurd (cc)

-- which characters begin a form
abbrev pub Starts : Form → ℕ → List ℕ → Type 0
Starts form.Name c text = (is_name_start c ≡ true) × (list_all is_xid_continue text ≡ true)
Starts form.Int c text = is_ascii_digit c ≡ true
Starts form.Float c text = is_ascii_digit c ≡ true
Starts (form.Sign s) c text = IsPlain c text

pub starts : (f : Form) (c : ℕ) (text : List ℕ) → FormAt f (c ∷ text) → Starts f c text
starts form.Name c text e = and_parts _ _ e
starts form.Int c text e = digits_first c text e
starts form.Float c text e = float_first c text e
starts (form.Sign s) c text e = plain_sign c text s e

-- no form is empty
pub not_empty : (f : Form) → FormAt f [] → ⊥
not_empty form.Name e = absurd (cc)
not_empty form.Int e = absurd (cc)
not_empty form.Float e = absurd (cc)
not_empty (form.Sign s) e = absurd (cc)

-- a front of a text with a form is not empty
pub front_has_first : (f : Form) (m : ℕ) (text : List ℕ) → FormAt f (take m text) → 0 < m
front_has_first f zero text e = absurd (not_empty f e)
front_has_first f (suc m) text e = omega arith

-- digits alone are no number with a point or an exponent
pub no_float : (text : List ℕ) → is_digits text ≡ true → is_some (float_parts text) ≡ true → ⊥
no_float text e h =
    let whole : is_float (take (length text) text) ≡ true = ap is_float (take_all (length text) text (omega arith)) ∙ sym (float_some text) ∙ h in
    let low = (longest_float text).longest (length text) (omega arith) whole in
    absurd (omega (arith, low.0, (digits_are text e).1))

-- a text has one form
pub one_form : (f g : Form) (text : List ℕ) → FormAt f text → FormAt g text → f ≡ g
one_form f g [] a b = absurd (not_empty f a)
one_form f g (c ∷ text) a b = one_start f g c text a b (starts f c text a) (starts g c text b)
  where
    some_same : (s t : Sign) → Some s ≡ Some t → s ≡ t
    some_same s t e = cc

    one_start : (f g : Form) (c : ℕ) (text : List ℕ) → FormAt f (c ∷ text) → FormAt g (c ∷ text) → Starts f c text → Starts g c text → f ≡ g
    one_start form.Name form.Name c text a b x y = refl
    one_start form.Name form.Int c text a b x y = let no : is_name_start c ≡ false = digit_start c y in absurd (cc (no, x.0))
    one_start form.Name form.Float c text a b x y = let no : is_name_start c ≡ false = digit_start c y in absurd (cc (no, x.0))
    one_start form.Name (form.Sign s) c text a b x y = absurd (cc (y.starts_no_name, x.0))
    one_start form.Int form.Name c text a b x y = let no : is_name_start c ≡ false = digit_start c x in absurd (cc (no, y.0))
    one_start form.Int form.Int c text a b x y = refl
    one_start form.Int form.Float c text a b x y = absurd (no_float (c ∷ text) a b)
    one_start form.Int (form.Sign s) c text a b x y = absurd (cc (y.is_no_digit, x))
    one_start form.Float form.Name c text a b x y = let no : is_name_start c ≡ false = digit_start c x in absurd (cc (no, y.0))
    one_start form.Float form.Int c text a b x y = absurd (no_float (c ∷ text) b a)
    one_start form.Float form.Float c text a b x y = refl
    one_start form.Float (form.Sign s) c text a b x y = absurd (cc (y.is_no_digit, x))
    one_start (form.Sign s) form.Name c text a b x y = absurd (cc (x.starts_no_name, y.0))
    one_start (form.Sign s) form.Int c text a b x y = absurd (cc (x.is_no_digit, y))
    one_start (form.Sign s) form.Float c text a b x y = absurd (cc (x.is_no_digit, y))
    one_start (form.Sign s) (form.Sign t) c text a b x y = ap form.Sign (some_same s t (sym a ∙ b))

pub one_more : (n : ℕ) → 1 + n ≡ suc n
one_more n = omega arith

-- names go as far as characters that continue a name
pub list_all-front : (p : ℕ → Bool) (xs : List ℕ) → list_all p (take (prefix_len p xs) xs) ≡ true
list_all-front p [] = refl
list_all-front p (x ∷ xs) = front_at p x xs (p x) refl (list_all-front p xs)
  where
    front_at : (p : ℕ → Bool) (x : ℕ) (xs : List ℕ) (b : Bool) → p x ≡ b → list_all p (take (prefix_len p xs) xs) ≡ true
        → list_all p (take (cond b (1 + prefix_len p xs) 0) (x ∷ xs)) ≡ true
    front_at p x xs false e all = refl
    front_at p x xs true e all =
        ap (λ n. list_all p (take n (x ∷ xs))) (one_more (prefix_len p xs)) ∙ and_from (p x) (list_all p (take (prefix_len p xs) xs)) e all

pub prefix_len-most : (p : ℕ → Bool) (m : ℕ) (xs : List ℕ) → m ≤ length xs → list_all p (take m xs) ≡ true → m ≤ prefix_len p xs
prefix_len-most p zero xs below e = omega arith
prefix_len-most p (suc m) [] below e = absurd (omega arith)
prefix_len-most p (suc m) (x ∷ xs) below e =
    let parts = and_parts (p x) (list_all p (take m xs)) e in
    let low = prefix_len-most p m xs (omega arith) parts.1 in
    omega (arith, low, cond-true (p x) (1 + prefix_len p xs) 0 parts.0)

-- the longest form, from one that is there and from how far the others go
longest_from : (f : Form) (n : ℕ) (text : List ℕ) → n ≤ length text → HasForm (take n text) f
    → ((m : ℕ) (g : Form) → m ≤ length text → FormAt g (take m text) → m ≤ n) → IsNext text (front.Token n f)
longest_from f n text within here most = longest (record {
  within = within;
  form = here;
  longest = λ m g above below h. absurd (omega (arith, most m g below (form_at h)));
})

-- a name is as long as its characters go
pub name_next : (c : ℕ) (rest : List ℕ) → is_name_start c ≡ true → IsNext (c ∷ rest) (front.Token (1 + prefix_len is_xid_continue rest) form.Name)
name_next c rest e =
    longest_from form.Name (1 + prefix_len is_xid_continue rest) (c ∷ rest)
    (omega (arith, prefix_len-le-length is_xid_continue rest))
    (named (ap (λ n. is_name (take n (c ∷ rest))) (one_more (prefix_len is_xid_continue rest)) ∙ and_from _ _ e (list_all-front is_xid_continue rest)))
    (most c rest e)
  where
    at_most : (g : Form) (c : ℕ) (rest : List ℕ) (m : ℕ) → is_name_start c ≡ true → m ≤ length rest → Starts g c (take m rest) → suc m ≤ 1 + prefix_len is_xid_continue rest
    at_most form.Name c rest m e below s = omega (arith, prefix_len-most is_xid_continue m rest below s.1)
    at_most form.Int c rest m e below s = absurd (cc (digit_start c s))
    at_most form.Float c rest m e below s = absurd (cc (digit_start c s))
    at_most (form.Sign t) c rest m e below s = absurd (cc (s.starts_no_name))

    most : (c : ℕ) (rest : List ℕ) → is_name_start c ≡ true → (m : ℕ) (g : Form) → m ≤ length (c ∷ rest) → FormAt g (take m (c ∷ rest)) → m ≤ 1 + prefix_len is_xid_continue rest
    most c rest e zero g below h = omega arith
    most c rest e (suc m) g below h = at_most g c rest m e (omega arith) (starts g c (take m rest) h)

-- how far a number goes that begins with a digit
number_most : (c : ℕ) (rest : List ℕ) → is_ascii_digit c ≡ true → (m : ℕ) (g : Form) → m ≤ length (c ∷ rest)
    → FormAt g (take m (c ∷ rest)) → m ≤ digits (c ∷ rest) + fraction_len (after_run (c ∷ rest))
number_most c rest e zero g below h = omega arith
number_most c rest e (suc m) g below h = at_most g c rest m e below h (starts g c (take m rest) h)
  where
    at_most : (g : Form) (c : ℕ) (rest : List ℕ) (m : ℕ) → is_ascii_digit c ≡ true → suc m ≤ length (c ∷ rest) → FormAt g (take (suc m) (c ∷ rest))
        → Starts g c (take m rest) → suc m ≤ digits (c ∷ rest) + fraction_len (after_run (c ∷ rest))
    at_most form.Name c rest m e below h s = absurd (cc (digit_start c e, s.0))
    at_most form.Int c rest m e below h s = omega (arith, (longest_digits (c ∷ rest)).longest (suc m) (omega arith) below h)
    at_most form.Float c rest m e below h s = omega (arith, ((longest_float (c ∷ rest)).longest (suc m) below (sym (float_some (take (suc m) (c ∷ rest))) ∙ h)).1)
    at_most (form.Sign t) c rest m e below h s = absurd (cc (s.is_no_digit))

digits_more : (c : ℕ) (rest : List ℕ) → is_ascii_digit c ≡ true → digits (c ∷ rest) ≡ 1 + digits rest
digits_more c rest e = cond-true (is_ascii_digit c) (1 + digits rest) 0 e

after_more : (c : ℕ) (rest : List ℕ) → is_ascii_digit c ≡ true → after_run (c ∷ rest) ≡ drop (digits rest) rest
after_more c rest e = ap (λ n. drop n (c ∷ rest)) (digits_more c rest e ∙ one_more (digits rest))

pub int_next : (c : ℕ) (rest : List ℕ) → is_ascii_digit c ≡ true → fraction_len (drop (digits rest) rest) ≡ 0
    → IsNext (c ∷ rest) (front.Token (1 + digits rest) form.Int)
int_next c rest e none =
    let size = digits_more c rest e in
    let nothing_more : fraction_len (after_run (c ∷ rest)) ≡ 0 = ap fraction_len (after_more c rest e) ∙ none in
    subst (λ n. IsNext (c ∷ rest) (front.Token n form.Int)) size (
    longest_from form.Int (digits (c ∷ rest)) (c ∷ rest) (longest_digits (c ∷ rest)).within
    (int ((longest_digits (c ∷ rest)).passes (omega arith)))
    (λ m g below h. omega (arith, number_most c rest e m g below h)))

pub float_next : (c : ℕ) (rest : List ℕ) → is_ascii_digit c ≡ true → (fraction_len (drop (digits rest) rest) ≡ 0 → ⊥)
    → IsNext (c ∷ rest) (front.Token (1 + digits rest + fraction_len (drop (digits rest) rest)) form.Float)
float_next c rest e some =
    let n : ℕ = digits (c ∷ rest) + fraction_len (after_run (c ∷ rest)) in
    let more : fraction_len (after_run (c ∷ rest)) ≡ fraction_len (drop (digits rest) rest) = ap fraction_len (after_more c rest e) in
    let size : digits (c ∷ rest) + fraction_len (after_run (c ∷ rest)) ≡ 1 + digits rest + fraction_len (drop (digits rest) rest) =
    omega (arith, more, digits_more c rest e) in
    let whole = longest_float (c ∷ rest) in
    subst (λ k. IsNext (c ∷ rest) (front.Token k form.Float)) size (
    longest_from form.Float (digits (c ∷ rest) + fraction_len (after_run (c ∷ rest))) (c ∷ rest) whole.within
    (float (float_some (take (digits (c ∷ rest) + fraction_len (after_run (c ∷ rest))) (c ∷ rest)) ∙ whole.passes (omega (arith, digits_more c rest e)) (omega (arith, more, some))))
    (number_most c rest e))

-- the same of lengths that are known by equations
pub int_is_next : (c : ℕ) (rest : List ℕ) (d f : ℕ) → is_ascii_digit c ≡ true → d ≡ digits rest → f ≡ fraction_len (drop d rest) → f ≡ 0
    → IsNext (c ∷ rest) (front.Token (1 + d) form.Int)
int_is_next c rest d f e is more none =
    subst (λ k. IsNext (c ∷ rest) (front.Token (1 + k) form.Int)) (sym is)
    (int_next c rest e (ap (λ k. fraction_len (drop k rest)) (sym is) ∙ sym more ∙ none))

pub float_is_next : (c : ℕ) (rest : List ℕ) (d f : ℕ) → is_ascii_digit c ≡ true → d ≡ digits rest → f ≡ fraction_len (drop d rest) → (f ≡ 0 → ⊥)
    → IsNext (c ∷ rest) (front.Token (1 + d + f) form.Float)
float_is_next c rest d f e is more some =
    let same : fraction_len (drop (digits rest) rest) ≡ f = ap (λ k. fraction_len (drop k rest)) (sym is) ∙ sym more in
    let size : 1 + digits rest + fraction_len (drop (digits rest) rest) ≡ 1 + d + f = omega (arith, same, is) in
    subst (λ k. IsNext (c ∷ rest) (front.Token k form.Float)) size (float_next c rest e (λ none. some (sym same ∙ none)))

-- what stands at a character that begins neither a name nor a number is a sign
only_sign : (c : ℕ) (text : List ℕ) (g : Form) → is_name_start c ≡ false → is_ascii_digit c ≡ false → FormAt g (c ∷ text) → (s : Sign) × (sign_of (c ∷ text) ≡ Some s) × IsPlain c text
only_sign c text form.Name no_name no_digit h = absurd (cc ((starts form.Name c text h).0))
only_sign c text form.Int no_name no_digit h = absurd (cc (starts form.Int c text h))
only_sign c text form.Float no_name no_digit h = absurd (cc (starts form.Float c text h))
only_sign c text (form.Sign s) no_name no_digit h = (s, h, plain_sign c text s h)

sign_most : (c : ℕ) (rest : List ℕ) → is_name_start c ≡ false → is_ascii_digit c ≡ false → (m : ℕ) (g : Form) → m ≤ length (c ∷ rest)
    → FormAt g (take m (c ∷ rest)) → m ≤ 2
sign_most c rest no_name no_digit zero g below h = omega arith
sign_most c rest no_name no_digit (suc m) g below h =
    omega (arith, (only_sign c (take m rest) g no_name no_digit h).2.short, length-take-le m rest (omega arith))

short_most : (c : ℕ) (rest : List ℕ) → is_name_start c ≡ false → is_ascii_digit c ≡ false → long_sign c rest ≡ None → (m : ℕ) (g : Form) → m ≤ length (c ∷ rest)
    → FormAt g (take m (c ∷ rest)) → m ≤ 1
short_most c rest no_name no_digit none zero g below h = omega arith
short_most c rest no_name no_digit none (suc zero) g below h = omega arith
short_most c [] no_name no_digit none (suc (suc m)) g below h = absurd (omega arith)
short_most c (d ∷ rest) no_name no_digit none (suc (suc zero)) g below h =
    let found = only_sign c (d ∷ []) g no_name no_digit h in absurd (cc (none, found.1))
short_most c (d ∷ rest) no_name no_digit none (suc (suc (suc m))) g below h =
    absurd (omega (arith, sign_most c (d ∷ rest) no_name no_digit (suc (suc (suc m))) g below h))

pub long_next : (c : ℕ) (rest : List ℕ) (s : Sign) → is_name_start c ≡ false → is_ascii_digit c ≡ false → long_sign c rest ≡ Some s
    → IsNext (c ∷ rest) (front.Token 2 (form.Sign s))
long_next c [] s no_name no_digit e = absurd (cc)
long_next c (d ∷ rest) s no_name no_digit e =
    longest_from (form.Sign s) 2 (c ∷ d ∷ rest) (omega arith) (sign e) (sign_most c (d ∷ rest) no_name no_digit)

pub short_next : (c : ℕ) (rest : List ℕ) (s : Sign) → is_name_start c ≡ false → is_ascii_digit c ≡ false → long_sign c rest ≡ None
    → sign_of (c ∷ []) ≡ Some s → IsNext (c ∷ rest) (front.Token 1 (form.Sign s))
short_next c rest s no_name no_digit none e =
    longest_from (form.Sign s) 1 (c ∷ rest) (omega arith) (sign e) (short_most c rest no_name no_digit none)

pub bad_next : (c : ℕ) (rest : List ℕ) → is_name_start c ≡ false → is_ascii_digit c ≡ false → long_sign c rest ≡ None
    → sign_of (c ∷ []) ≡ None → IsNext (c ∷ rest) front.Bad
bad_next c rest no_name no_digit none short = nothing (λ m g h. never c rest no_name no_digit none short m g (form_at h))
  where
    never_long : (c d : ℕ) (rest : List ℕ) (s : Sign) → sign_of (c ∷ d ∷ []) ≡ None → sign_of (c ∷ d ∷ rest) ≡ Some s → length (d ∷ rest) < 2 → ⊥
    never_long c d [] s none found short = absurd (cc (none, found))
    never_long c d (e ∷ rest) s none found short = absurd (omega arith)

    never : (c : ℕ) (rest : List ℕ) → is_name_start c ≡ false → is_ascii_digit c ≡ false → long_sign c rest ≡ None → sign_of (c ∷ []) ≡ None
        → (m : ℕ) (g : Form) → FormAt g (take m (c ∷ rest)) → ⊥
    never c rest no_name no_digit none short zero g h = not_empty g h
    never c rest no_name no_digit none short (suc zero) g h =
        let found = only_sign c [] g no_name no_digit h in absurd (cc (short, found.1))
    never c [] no_name no_digit none short (suc (suc m)) g h =
        let found = only_sign c [] g no_name no_digit h in absurd (cc (short, found.1))
    never c (d ∷ rest) no_name no_digit none short (suc (suc m)) g h =
        let found = only_sign c (d ∷ take m rest) g no_name no_digit h in never_long c d (take m rest) found.0 none found.1 found.2.short
