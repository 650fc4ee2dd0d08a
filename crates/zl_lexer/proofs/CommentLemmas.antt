-- Steps inside a comment.
use Rattle.std.proofs.Common.{◌≡◌, ℕ, zero, suc, ◌+◌, ◌-◌, ◌<◌, ◌≤◌, Bool, true, false, ◌&&◌, ◌==◌, cond, List, [], ◌∷◌, length, drop, Option, Some, None, option_map, refl, sym, subst, ◌∙◌, ap, arith}
use Rattle.zl_lexer.specs.Comments.{opens_comment, closes_comment, len_to_close}

-- inside so many comments, behind so many characters of a text that begins inside one
pub record IsInside (text : List ℕ) (depth passed : ℕ) (rest : List ℕ) : Type 0 where
  pub within : passed + length rest ≡ length text
  pub few : depth ≤ passed + 1
  pub same : option_map (λ n. n + passed) (len_to_close depth rest) ≡ len_to_close 1 text

-- no mark begins with another character
pub opens_none : (c : ℕ) (rest : List ℕ) → (c == 40) ≡ false → opens_comment (c ∷ rest) ≡ false
opens_none c [] e = refl
opens_none c (d ∷ rest) e = ap (λ b. b && d == 42) e

pub closes_none : (c : ℕ) (rest : List ℕ) → (c == 42) ≡ false → closes_comment (c ∷ rest) ≡ false
closes_none c [] e = refl
closes_none c (d ∷ rest) e = ap (λ b. b && d == 41) e

map_map : (o : Option ℕ) (a b c : ℕ) → a + b ≡ c → option_map (λ n. n + b) (option_map (λ n. n + a) o) ≡ option_map (λ n. n + c) o
map_map None a b c e = refl
map_map (Some n) a b c e = ap Some (omega arith)

map_zero : (o : Option ℕ) → option_map (λ n. n + 0) o ≡ o
map_zero None = refl
map_zero (Some n) = ap Some (omega arith)

pub at_first : (text : List ℕ) → IsInside text 1 0 text
at_first text = record { within = omega arith; few = omega arith; same = map_zero (len_to_close 1 text) }

-- what one character leads to
abbrev after_mark : ℕ → List ℕ → Bool → Bool → Option ℕ
after_mark depth rest opened closed =
    cond opened (option_map (λ n. n + 2) (len_to_close (suc (suc depth)) (drop 1 rest)))
    (cond closed (option_map (λ n. n + 2) (len_to_close depth (drop 1 rest))) (option_map (λ n. n + 1) (len_to_close (suc depth) rest)))

step : (depth c : ℕ) (rest : List ℕ) → len_to_close (suc depth) (c ∷ rest) ≡ after_mark depth rest (opens_comment (c ∷ rest)) (closes_comment (c ∷ rest))
unfolding len_to_close
step depth c [] = refl
step depth c (d ∷ rest) = refl

step_at : (text : List ℕ) (depth passed c : ℕ) (rest : List ℕ) (a b : Bool) → IsInside text (suc depth) passed (c ∷ rest)
    → opens_comment (c ∷ rest) ≡ a → closes_comment (c ∷ rest) ≡ b → option_map (λ n. n + passed) (after_mark depth rest a b) ≡ len_to_close 1 text
step_at text depth passed c rest a b i is_a is_b =
    ap (option_map (λ n. n + passed)) (sym (step depth c rest ∙ ap (λ x. after_mark depth rest x (closes_comment (c ∷ rest))) is_a ∙ ap (after_mark depth rest a) is_b))
    ∙ i.same

two_open : (c : ℕ) (rest : List ℕ) → opens_comment (c ∷ rest) ≡ true → length rest ≡ length (drop 1 rest) + 1
two_open c [] e = absurd (cc)
two_open c (d ∷ rest) e = omega arith

two_close : (c : ℕ) (rest : List ℕ) → closes_comment (c ∷ rest) ≡ true → length rest ≡ length (drop 1 rest) + 1
two_close c [] e = absurd (cc)
two_close c (d ∷ rest) e = omega arith

-- one more comment opens
pub opened : (text here : List ℕ) (depth passed c : ℕ) (rest back : List ℕ) → IsInside text depth passed here → here ≡ c ∷ rest → 0 < depth
    → opens_comment (c ∷ rest) ≡ true → back ≡ drop 1 rest → IsInside text (depth + 1) (passed + 2) back
opened text here zero passed c rest back i is h e is_back = absurd (omega arith)
opened text here (suc depth) passed c rest back i is h e is_back =
    let at = subst (IsInside text (suc depth) passed) is i in
    subst (IsInside text (suc depth + 1) (passed + 2)) (sym is_back) (record {
      within = omega (arith, at.within, two_open c rest e);
      few = omega (arith, at.few);
      same =
          ap (λ k. option_map (λ n. n + (passed + 2)) (len_to_close k (drop 1 rest))) (omega arith)
          ∙ sym (map_map (len_to_close (suc (suc depth)) (drop 1 rest)) 2 passed (passed + 2) (omega arith))
          ∙ step_at text depth passed c rest true (closes_comment (c ∷ rest)) at e refl;
    })

-- a comment closes
pub closed : (text here : List ℕ) (depth passed c : ℕ) (rest back : List ℕ) → IsInside text depth passed here → here ≡ c ∷ rest → 0 < depth
    → opens_comment (c ∷ rest) ≡ false → closes_comment (c ∷ rest) ≡ true → back ≡ drop 1 rest → IsInside text (depth - 1) (passed + 2) back
closed text here zero passed c rest back i is h shut e is_back = absurd (omega arith)
closed text here (suc depth) passed c rest back i is h shut e is_back =
    let at = subst (IsInside text (suc depth) passed) is i in
    subst (IsInside text (suc depth - 1) (passed + 2)) (sym is_back) (record {
      within = omega (arith, at.within, two_close c rest e);
      few = omega (arith, at.few);
      same =
          ap (λ k. option_map (λ n. n + (passed + 2)) (len_to_close k (drop 1 rest))) (omega arith)
          ∙ sym (map_map (len_to_close depth (drop 1 rest)) 2 passed (passed + 2) (omega arith))
          ∙ step_at text depth passed c rest false true at shut e;
    })

-- a character that begins no mark
pub passed_one : (text here : List ℕ) (depth passed c : ℕ) (rest : List ℕ) → IsInside text depth passed here → here ≡ c ∷ rest → 0 < depth
    → opens_comment (c ∷ rest) ≡ false → closes_comment (c ∷ rest) ≡ false → IsInside text depth (passed + 1) rest
passed_one text here zero passed c rest i is h shut none = absurd (omega arith)
passed_one text here (suc depth) passed c rest i is h shut none =
    let at = subst (IsInside text (suc depth) passed) is i in
    record {
      within = omega (arith, at.within);
      few = omega (arith, at.few);
      same =
          sym (map_map (len_to_close (suc depth) rest) 1 passed (passed + 1) (omega arith))
          ∙ step_at text depth passed c rest false false at shut none;
    }

nothing_left : (depth : ℕ) → len_to_close (suc depth) [] ≡ None
unfolding len_to_close
nothing_left depth = refl

-- at the end of the text none is closed
pub unclosed : (text here : List ℕ) (depth passed : ℕ) → IsInside text depth passed here → here ≡ [] → 0 < depth → None ≡ len_to_close 1 text
unclosed text here zero passed i is h = absurd (omega arith)
unclosed text here (suc depth) passed i is h =
    ap (option_map (λ n. n + passed)) (sym (ap (len_to_close (suc depth)) is ∙ nothing_left depth)) ∙ i.same

all_closed : (rest : List ℕ) (passed : ℕ) → Some passed ≡ option_map (λ n. n + passed) (len_to_close 0 rest)
unfolding len_to_close
all_closed rest passed = ap Some (omega arith)

-- the first comment is closed
pub closed_first : (text here : List ℕ) (depth passed : ℕ) → IsInside text depth passed here → depth ≡ 0 → Some passed ≡ len_to_close 1 text
closed_first text here depth passed i is =
    all_closed here passed ∙ ap (λ d. option_map (λ n. n + passed) (len_to_close d here)) (sym is) ∙ i.same
