-- Properties of the forms of numbers: how far the longest front of a text goes that passes a test.
use Rattle.std.proofs.Common.{◌≡◌, ℕ, zero, suc, ◌+◌, ◌-◌, ◌<◌, ◌≤◌, min, Bool, true, false, ◌&&◌, ◌||◌, ◌==◌, cond, List, [], ◌∷◌, length, take, drop, Option, Some, None, is_some, option_map, pos, ◌-ℤ◌, ◌++◌, inl, inr, refl, sym, subst, ◌∙◌, ap, arith}
use Rattle.std.specs.List.{prefix_len}
use Rattle.std.specs.Char.{is_ascii_digit}
use Rattle.std.specs.Str.Parse.{digits_value}
use Rattle.std.proofs.lemmas.Bool.{and_parts, and_from, cases_lt, eqb-true, eq-eqb, ne_eqb, cond-true, cond-false}
use Rattle.std.proofs.lemmas.List.{length-take, length-take-le, length-drop, drop-take, take-take, drop_all}
use Rattle.std.proofs.lemmas.List.Sums.{prefix_len-le-length}
use Rattle.zl_value.specs.Decimal.{run, after_run, is_digits, unsigned_number, signed_number, exponent_of, behind_point, behind_digits, float_parts}
use Rattle.zl_lexer.specs.Lengths.{with_mark, signed_len, exponent_len, fraction_len}

-- n is the length of the longest front of the text that passes, or 0 where none does
pub record IsLongestPass (test : List ℕ → Bool) (text : List ℕ) (n : ℕ) : Type 0 where
  pub within : n ≤ length text
  pub passes : 0 < n → test (take n text) ≡ true
  pub longest : (m : ℕ) → 0 < m → m ≤ length text → test (take m text) ≡ true → m ≤ n

pub prefix_len-take : {X : Type 0} (p : X → Bool) (m : ℕ) (xs : List X) → prefix_len p (take m xs) ≡ min m (prefix_len p xs)
prefix_len-take p zero xs = omega arith
prefix_len-take p (suc m) [] = omega arith
prefix_len-take p (suc m) (x ∷ xs) = elim (p x) as (λ b. cond b (1 + prefix_len p (take m xs)) 0 ≡ min (suc m) (cond b (1 + prefix_len p xs) 0)) [
  | true ↦ omega (arith, prefix_len-take p m xs)
  | false ↦ omega arith
]

abbrev pub digits : List ℕ → ℕ
digits text = prefix_len is_ascii_digit text

pub digits_are : (text : List ℕ) → is_digits text ≡ true → (0 < length text) × (digits text ≡ length text)
digits_are [] e = absurd cc
digits_are (c ∷ text) e = (omega arith, eqb-true _ _ e)

pub are_digits : (text : List ℕ) → 0 < length text → digits text ≡ length text → is_digits text ≡ true
are_digits [] l e = absurd (omega arith)
are_digits (c ∷ text) l e = eq-eqb _ _ e

pub longest_digits : (text : List ℕ) → IsLongestPass is_digits text (digits text)
longest_digits text =
    let bound = prefix_len-le-length is_ascii_digit text in
    record {
      within = bound;
      passes = λ above. are_digits (take (digits text) text) (omega (arith, length-take-le (digits text) text bound)) (prefix_len-take is_ascii_digit (digits text) text ∙ omega (arith, length-take-le (digits text) text bound));
      longest = λ m above below e. omega (arith, (digits_are (take m text) e).1, prefix_len-take is_ascii_digit m text, length-take-le m text below);
    }

pub with_mark_above : (n : ℕ) → 0 < n → with_mark n ≡ suc n
with_mark_above n above = cond-false (n == 0) 0 (n + 1) (ne_eqb n 0 (λ e. omega arith)) ∙ omega arith

marked_passes : (test outer : List ℕ → Bool) (c : ℕ) (rest : List ℕ) (n : ℕ) → ((t : List ℕ) → outer (c ∷ t) ≡ test t)
    → IsLongestPass test rest n → 0 < with_mark n → outer (take (with_mark n) (c ∷ rest)) ≡ true
marked_passes test outer c rest zero same h above = absurd (omega arith)
marked_passes test outer c rest (suc n) same h above =
    ap (λ k. outer (take k (c ∷ rest))) (with_mark_above (suc n) (omega arith)) ∙ same (take (suc n) rest) ∙ h.passes (omega arith)

marked_longest : (test outer : List ℕ → Bool) (c : ℕ) (rest : List ℕ) (n m : ℕ) → ((t : List ℕ) → outer (c ∷ t) ≡ test t)
    → test [] ≡ false → IsLongestPass test rest n → 0 < m → m ≤ length (c ∷ rest) → outer (take m (c ∷ rest)) ≡ true → m ≤ with_mark n
marked_longest test outer c rest n zero same nothing h above below e = absurd (omega arith)
marked_longest test outer c rest n (suc zero) same nothing h above below e =
    let none : test [] ≡ true = sym (same []) ∙ e in absurd (cc)
marked_longest test outer c rest n (suc (suc m)) same nothing h above below e =
    let low : suc m ≤ n = h.longest (suc m) (omega arith) (omega arith) (sym (same (take (suc m) rest)) ∙ e) in
    omega (arith, with_mark_above n (omega arith))

marked_within : (n l : ℕ) → n ≤ l → with_mark n ≤ suc l
marked_within zero l h = omega arith
marked_within (suc n) l h = omega (arith, with_mark_above (suc n) (omega arith))

-- behind one more character
pub marked : (test outer : List ℕ → Bool) (c : ℕ) (rest : List ℕ) (n : ℕ) → ((t : List ℕ) → outer (c ∷ t) ≡ test t)
    → test [] ≡ false → IsLongestPass test rest n → IsLongestPass outer (c ∷ rest) (with_mark n)
marked test outer c rest n same nothing h = record {
  within = marked_within n (length rest) h.within;
  passes = marked_passes test outer c rest n same h;
  longest = λ m above below e. marked_longest test outer c rest n m same nothing h above below e;
}

-- where no text that begins with this character passes
pub none_passes : (outer : List ℕ → Bool) (c : ℕ) (rest : List ℕ) → ((t : List ℕ) → outer (c ∷ t) ≡ false) → IsLongestPass outer (c ∷ rest) 0
none_passes outer c rest never = record {
  within = omega arith;
  passes = λ above. absurd (omega arith);
  longest = λ m above below e. none_longest outer c rest never m above e;
}
  where
    none_longest : (outer : List ℕ → Bool) (c : ℕ) (rest : List ℕ) → ((t : List ℕ) → outer (c ∷ t) ≡ false) → (m : ℕ) → 0 < m → outer (take m (c ∷ rest)) ≡ true → m ≤ 0
    none_longest outer c rest never zero above e = omega arith
    none_longest outer c rest never (suc m) above e = let no : outer (c ∷ take m rest) ≡ false = never (take m rest) in absurd (cc)

-- where one test is the other at each text that begins with this character
pub same_passes : (test outer : List ℕ → Bool) (c : ℕ) (rest : List ℕ) (n : ℕ) → ((t : List ℕ) → outer (c ∷ t) ≡ test (c ∷ t))
    → IsLongestPass test (c ∷ rest) n → IsLongestPass outer (c ∷ rest) n
same_passes test outer c rest n same h = record {
  within = h.within;
  passes = λ above. same_at test outer c rest same n above ∙ h.passes above;
  longest = λ m above below e. h.longest m above below (sym (same_at test outer c rest same m above) ∙ e);
}
  where
    same_at : (test outer : List ℕ → Bool) (c : ℕ) (rest : List ℕ) → ((t : List ℕ) → outer (c ∷ t) ≡ test (c ∷ t)) → (m : ℕ) → 0 < m → outer (take m (c ∷ rest)) ≡ test (take m (c ∷ rest))
    same_at test outer c rest same zero above = absurd (omega arith)
    same_at test outer c rest same (suc m) above = same (take m rest)

-- the tests
abbrev pub is_signed : List ℕ → Bool
is_signed [] = false
is_signed (c ∷ text) = cond (c == 43 || c == 45) (is_digits text) (is_digits (c ∷ text))

abbrev pub is_exponent : List ℕ → Bool
is_exponent [] = false
is_exponent (c ∷ text) = cond (c == 101 || c == 69) (is_signed text) false

abbrev pub ends_or_exponent : List ℕ → Bool
ends_or_exponent [] = true
ends_or_exponent (c ∷ text) = is_exponent (c ∷ text)

abbrev pub is_tail : List ℕ → Bool
is_tail text = ends_or_exponent (after_run text)

abbrev pub is_fraction : List ℕ → Bool
is_fraction [] = false
is_fraction (c ∷ text) = cond (c == 46) (is_tail text) (is_exponent (c ∷ text))

abbrev pub is_float : List ℕ → Bool
is_float text = is_digits (run text) && is_fraction (after_run text)

-- they are those of the definitions
some_map : {X Y : Type 0} (f : X → Y) (o : Option X) → is_some (option_map f o) ≡ is_some o
some_map f None = refl
some_map f (Some x) = refl

some_cond : {X : Type 0} (b : Bool) (o p : Option X) → is_some (cond b o p) ≡ cond b (is_some o) (is_some p)
some_cond true o p = refl
some_cond false o p = refl

some_if : {X : Type 0} (b : Bool) (x : X) → is_some (cond b (Some x) None) ≡ b
some_if true x = refl
some_if false x = refl

unsigned_some : (text : List ℕ) → is_some (unsigned_number text) ≡ is_digits text
unsigned_some text = some_if (is_digits text) (digits_value 10 text)

signed_cases : (a b x y : Bool) → cond a x (cond b x y) ≡ cond (b || a) x y
signed_cases true true x y = refl
signed_cases true false x y = refl
signed_cases false true x y = refl
signed_cases false false x y = refl

cond_same : {X : Type 0} (b : Bool) (x y z w : X) → x ≡ z → y ≡ w → cond b x y ≡ cond b z w
cond_same true x y z w e h = e
cond_same false x y z w e h = h

signed_some : (text : List ℕ) → is_some (signed_number text) ≡ is_signed text
signed_some [] = refl
signed_some (c ∷ text) =
    some_cond (c == 45) (option_map (λ n. pos 0 -ℤ pos n) (unsigned_number text)) (cond (c == 43) (option_map pos (unsigned_number text)) (option_map pos (unsigned_number (c ∷ text))))
    ∙ cond_same (c == 45) _ _ (is_digits text) (cond (c == 43) (is_digits text) (is_digits (c ∷ text)))
    (some_map (λ n. pos 0 -ℤ pos n) (unsigned_number text) ∙ unsigned_some text)
    (some_cond (c == 43) (option_map pos (unsigned_number text)) (option_map pos (unsigned_number (c ∷ text)))
    ∙ cond_same (c == 43) _ _ (is_digits text) (is_digits (c ∷ text)) (some_map pos (unsigned_number text) ∙ unsigned_some text) (some_map pos (unsigned_number (c ∷ text)) ∙ unsigned_some (c ∷ text)))
    ∙ signed_cases (c == 45) (c == 43) (is_digits text) (is_digits (c ∷ text))

exponent_some : (text : List ℕ) → is_some (exponent_of text) ≡ is_exponent text
exponent_some [] = refl
exponent_some (c ∷ text) = some_cond (c == 101 || c == 69) (signed_number text) None ∙ cond_same (c == 101 || c == 69) _ _ (is_signed text) false (signed_some text) refl

point_some : (before behind text : List ℕ) → is_some (behind_point before behind text) ≡ ends_or_exponent text
point_some before behind [] = refl
point_some before behind (c ∷ text) =
    some_map (λ e. record { digits = before ++ behind; behind = length behind; exponent = e }) (exponent_of (c ∷ text)) ∙ exponent_some (c ∷ text)

fraction_some : (before text : List ℕ) → is_some (behind_digits before text) ≡ is_fraction text
fraction_some before [] = refl
fraction_some before (c ∷ text) =
    some_cond (c == 46) (behind_point before (run text) (after_run text)) (option_map (λ e. record { digits = before; behind = 0; exponent = e }) (exponent_of (c ∷ text)))
    ∙ cond_same (c == 46) _ _ (is_tail text) (is_exponent (c ∷ text)) (point_some before (run text) (after_run text))
    (some_map (λ e. record { digits = before; behind = 0; exponent = e }) (exponent_of (c ∷ text)) ∙ exponent_some (c ∷ text))

and_cond : (a b : Bool) → cond a b false ≡ (a && b)
and_cond true b = refl
and_cond false b = refl

pub float_some : (text : List ℕ) → is_some (float_parts text) ≡ is_float text
float_some text =
    some_cond (is_digits (run text)) (behind_digits (run text) (after_run text)) None
    ∙ cond_same (is_digits (run text)) _ _ (is_fraction (after_run text)) false (fraction_some (run text) (after_run text)) refl
    ∙ and_cond (is_digits (run text)) (is_fraction (after_run text))

-- how far they go
longest_signed : (text : List ℕ) → IsLongestPass is_signed text (signed_len text)
longest_signed [] = record { within = omega arith; passes = λ above. absurd (omega arith); longest = λ m above below e. omega arith }
longest_signed (c ∷ text) = longest_signed_at c text (c == 43 || c == 45) refl
  where
    longest_signed_at : (c : ℕ) (text : List ℕ) (b : Bool) → (c == 43 || c == 45) ≡ b
        → IsLongestPass is_signed (c ∷ text) (cond b (with_mark (digits text)) (digits (c ∷ text)))
    longest_signed_at c text true e = marked is_digits is_signed c text (digits text) (λ t. cond-true _ _ _ e) refl (longest_digits text)
    longest_signed_at c text false e = same_passes is_digits is_signed c text (digits (c ∷ text)) (λ t. cond-false _ _ _ e) (longest_digits (c ∷ text))

pub longest_exponent : (text : List ℕ) → IsLongestPass is_exponent text (exponent_len text)
longest_exponent [] = record { within = omega arith; passes = λ above. absurd (omega arith); longest = λ m above below e. omega arith }
longest_exponent (c ∷ text) = longest_exponent_at c text (c == 101 || c == 69) refl
  where
    longest_exponent_at : (c : ℕ) (text : List ℕ) (b : Bool) → (c == 101 || c == 69) ≡ b
        → IsLongestPass is_exponent (c ∷ text) (cond b (with_mark (signed_len text)) 0)
    longest_exponent_at c text true e = marked is_signed is_exponent c text (signed_len text) (λ t. cond-true _ _ _ e) refl (longest_signed text)
    longest_exponent_at c text false e = none_passes is_exponent c text (λ t. cond-false _ _ _ e)

-- a front with digits and more has the digits of the text, and a front of what stands behind them
front_run : (text : List ℕ) (m : ℕ) → digits text ≤ m → run (take m text) ≡ run text
front_run text m h =
    ap (λ k. take k (take m text)) (prefix_len-take is_ascii_digit m text ∙ omega arith) ∙ take-take (digits text) m text h

front_after : (text : List ℕ) (m : ℕ) → after_run (take (digits text + m) text) ≡ take m (after_run text)
front_after text m =
    ap (λ k. drop k (take (digits text + m) text)) (prefix_len-take is_ascii_digit (digits text + m) text ∙ omega arith) ∙ drop-take (digits text) m text

-- a front of the digits has nothing behind them
front_of_run : (text : List ℕ) (m : ℕ) → m ≤ digits text → after_run (take m text) ≡ []
front_of_run text m h =
    drop_all _ (take m text) (omega (arith, prefix_len-take is_ascii_digit m text, length-take m text))

tail_len : List ℕ → ℕ
tail_len text = digits text + exponent_len (after_run text)

tail_is : (text : List ℕ) → suc (tail_len text) ≡ 1 + digits text + exponent_len (after_run text)
unfolding tail_len
tail_is text = omega arith

tail_passes : (text : List ℕ) → is_tail (take (tail_len text) text) ≡ true
unfolding tail_len
tail_passes text = ap ends_or_exponent (front_after text (exponent_len (after_run text))) ∙ tail_ends (after_run text) (longest_exponent (after_run text))
  where
    tail_at : (text : List ℕ) (n : ℕ) → (0 < n → is_exponent (take n text) ≡ true) → ends_or_exponent (take n text) ≡ true
    tail_at text zero h = refl
    tail_at [] (suc n) h = refl
    tail_at (c ∷ text) (suc n) h = h (omega arith)

    tail_ends : (text : List ℕ) → IsLongestPass is_exponent text (exponent_len text) → ends_or_exponent (take (exponent_len text) text) ≡ true
    tail_ends text h = tail_at text (exponent_len text) h.passes

tail_longest : (text : List ℕ) (m : ℕ) → m ≤ length text → is_tail (take m text) ≡ true → m ≤ tail_len text
unfolding tail_len
tail_longest text m below e = elim (cases_lt (digits text) m) [
  | inl lt ↦ (
      let size : digits text + (m - digits text) ≡ m = omega arith in
      let shown : ends_or_exponent (take (m - digits text) (after_run text)) ≡ true =
      sym (ap ends_or_exponent (front_after text (m - digits text))) ∙ ap (λ k. is_tail (take k text)) size ∙ e in
      let low = tail_more (after_run text) (m - digits text) (longest_exponent (after_run text)) (omega arith) (omega (arith, length-drop (digits text) text)) shown in
      omega (arith, low))
  | inr ge ↦ omega arith
]
  where
    tail_more : (text : List ℕ) (m : ℕ) → IsLongestPass is_exponent text (exponent_len text) → 0 < m → m ≤ length text → ends_or_exponent (take m text) ≡ true → m ≤ exponent_len text
    tail_more text zero h above below e = absurd (omega arith)
    tail_more [] (suc m) h above below e = absurd (omega arith)
    tail_more (c ∷ text) (suc m) h above below e = h.longest (suc m) above below e

longest_fraction : (text : List ℕ) → IsLongestPass is_fraction text (fraction_len text)
longest_fraction [] = record { within = omega arith; passes = λ above. absurd (omega arith); longest = λ m above below e. omega arith }
longest_fraction (c ∷ text) = longest_fraction_at c text (c == 46) refl
  where
    tail_front : (c : ℕ) (text : List ℕ) → (c == 46) ≡ true → (m : ℕ) → 0 < m → m ≤ suc (length text) → is_fraction (take m (c ∷ text)) ≡ true → m ≤ 1 + tail_len text
    tail_front c text e zero above below h = absurd (omega arith)
    tail_front c text e (suc m) above below h = omega (arith, tail_longest text m (omega arith) (sym (cond-true _ _ _ e) ∙ h))

    longest_fraction_at : (c : ℕ) (text : List ℕ) (b : Bool) → (c == 46) ≡ b
        → IsLongestPass is_fraction (c ∷ text) (cond b (1 + digits text + exponent_len (after_run text)) (exponent_len (c ∷ text)))
    longest_fraction_at c text false e = same_passes is_exponent is_fraction c text (exponent_len (c ∷ text)) (λ t. cond-false _ _ _ e) (longest_exponent (c ∷ text))
    longest_fraction_at c text true e =
        let size : suc (tail_len text) ≡ 1 + digits text + exponent_len (after_run text) = tail_is text in
        subst (IsLongestPass is_fraction (c ∷ text)) size (record {
          within = omega (arith, (longest_exponent (after_run text)).within, length-drop (digits text) text, prefix_len-le-length is_ascii_digit text, size);
          passes = λ above. cond-true _ _ _ e ∙ tail_passes text;
          longest = λ m above below h. omega (arith, tail_front c text e m above below h);
        })

-- digits and what makes them a number with a point or an exponent
pub record IsLongestFloat (text : List ℕ) : Type 0 where
  pub within : digits text + fraction_len (after_run text) ≤ length text
  pub passes : 0 < digits text → 0 < fraction_len (after_run text) → is_float (take (digits text + fraction_len (after_run text)) text) ≡ true
  pub longest : (m : ℕ) → m ≤ length text → is_float (take m text) ≡ true → (digits text < m) × (m ≤ digits text + fraction_len (after_run text))

pub longest_float : (text : List ℕ) → IsLongestFloat text
longest_float text =
    let behind = longest_fraction (after_run text) in
    let n : ℕ = fraction_len (after_run text) in
    record {
      within = omega (arith, behind.within, length-drop (digits text) text, prefix_len-le-length is_ascii_digit text);
      passes = λ above more. and_from _ _
          (ap is_digits (front_run text (digits text + n) (omega arith)) ∙ (longest_digits text).passes above)
          (ap is_fraction (front_after text n) ∙ behind.passes more);
      longest = λ m below e. float_longest text m below (and_parts (is_digits (run (take m text))) (is_fraction (after_run (take m text))) e).1;
    }
  where
    float_longest : (text : List ℕ) (m : ℕ) → m ≤ length text → is_fraction (after_run (take m text)) ≡ true → (digits text < m) × (m ≤ digits text + fraction_len (after_run text))
    float_longest text m below e = elim (cases_lt (digits text) m) [
      | inl lt ↦ (
          let size : digits text + (m - digits text) ≡ m = omega arith in
          let shown : is_fraction (take (m - digits text) (after_run text)) ≡ true =
          sym (ap is_fraction (front_after text (m - digits text))) ∙ ap (λ k. is_fraction (after_run (take k text))) size ∙ e in
          let low = (longest_fraction (after_run text)).longest (m - digits text) (omega arith) (omega (arith, length-drop (digits text) text)) shown in
          (lt, omega (arith, low)))
      | inr ge ↦ (let none : is_fraction (after_run (take m text)) ≡ false = ap is_fraction (front_of_run text m ge) in absurd (cc))
    ]
