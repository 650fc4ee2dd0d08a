-- How much of a text what stands at its front takes.
use Rattle.std.proofs.Common.{◌≡◌, ℕ, zero, suc, ◌+◌, ◌<◌, ◌≤◌, Bool, true, false, cond, List, [], ◌∷◌, length, Option, Some, None, option_map, refl, sym, subst, ◌∙◌, ap, arith}
use Rattle.std.specs.Prelude.{MatchBool}
use Rattle.zl_lexer.specs.declared.front.Form.{Form}
use Rattle.zl_lexer.specs.declared.front.Front.{Front}
use Rattle.zl_lexer.specs.declared.front.Front.TheVariants as front
use Rattle.zl_lexer.specs.Comments.{opens, closes, opens_comment, len_to_close, comment_len}
use Rattle.zl_lexer.specs.Positions.{is_white}
use Rattle.zl_lexer.specs.Tokens.{IsLongest, IsNext, longest, nothing, comment_front, Begins}
use Rattle.zl_lexer.proofs.FormLemmas.{form_at, front_has_first}

map_some : (k : ℕ) (o : Option ℕ) (n : ℕ) → option_map (λ m. m + k) o ≡ Some n → (m : ℕ) × (o ≡ Some m) × (m + k ≡ n)
map_some k None n e = absurd (cc)
map_some k (Some m) n e = (m, refl, cc)

-- a comment ends within the text
len_to_close-le : (depth : ℕ) (text : List ℕ) (n : ℕ) → len_to_close depth text ≡ Some n → n ≤ length text
unfolding len_to_close
len_to_close-le zero text n e = let none : 0 ≡ n = cc in omega arith
len_to_close-le (suc depth) [] n e = absurd (cc)
len_to_close-le (suc depth) (c ∷ []) n e = absurd (cc)
len_to_close-le (suc depth) (c ∷ d ∷ text) n e =
    close_at depth d text n (opens c d) (closes c d) (λ m. len_to_close-le (suc (suc depth)) text m) (λ m. len_to_close-le depth text m) (λ m. len_to_close-le (suc depth) (d ∷ text) m) e
  where
    close_at : (depth d : ℕ) (text : List ℕ) (n : ℕ) (a b : Bool) → ((m : ℕ) → len_to_close (suc (suc depth)) text ≡ Some m → m ≤ length text)
        → ((m : ℕ) → len_to_close depth text ≡ Some m → m ≤ length text) → ((m : ℕ) → len_to_close (suc depth) (d ∷ text) ≡ Some m → m ≤ length (d ∷ text))
        → cond a (option_map (λ m. m + 2) (len_to_close (suc (suc depth)) text)) (cond b (option_map (λ m. m + 2) (len_to_close depth text)) (option_map (λ m. m + 1) (len_to_close (suc depth) (d ∷ text)))) ≡ Some n
        → n ≤ suc (suc (length text))
    close_at depth d text n true b deeper less same e = let h = map_some 2 (len_to_close (suc (suc depth)) text) n e in omega (arith, h.2, deeper h.0 h.1)
    close_at depth d text n false true deeper less same e = let h = map_some 2 (len_to_close depth text) n e in omega (arith, h.2, less h.0 h.1)
    close_at depth d text n false false deeper less same e = let h = map_some 1 (len_to_close (suc depth) (d ∷ text)) n e in omega (arith, h.2, same h.0 h.1)

-- something is taken, and no more than there is
pub record Fits (n : ℕ) (text : List ℕ) : Type 0 where
  pub some : 0 < n
  pub within : n ≤ length text

comment_fits : (text : List ℕ) (n : ℕ) → comment_len text ≡ Some n → Fits n text
comment_fits [] n e = absurd (cc)
comment_fits (c ∷ []) n e = absurd (cc)
comment_fits (c ∷ d ∷ text) n e =
    let h = map_some 2 (len_to_close 1 text) n e in
    record { some = omega (arith, h.2); within = omega (arith, h.2, len_to_close-le 1 text h.0 h.1) }

-- what is next is no white space
next_passes_none : {text : List ℕ} {g : Front} → IsNext text g → (n : ℕ) → g ≡ front.Passed n → ⊥
next_passes_none (longest h) n e = absurd (cc)
next_passes_none (nothing h) n e = absurd (cc)

pub passed_fits : (text : List ℕ) (n : ℕ) → Begins text (front.Passed n) → Fits n text
passed_fits [] n b = absurd (cc)
passed_fits (c ∷ text) n b = fits_at c text n (is_white c) (opens_comment (c ∷ text)) (comment_len (c ∷ text)) refl b
  where
    same : (n m : ℕ) → front.Passed n ≡ front.Passed m → n ≡ m
    same n m e = cc

    fits_at : (c : ℕ) (text : List ℕ) (n : ℕ) (a b : Bool) (o : Option ℕ) → comment_len (c ∷ text) ≡ o
        → MatchBool a (front.Passed n ≡ front.Passed 1) (MatchBool b (front.Passed n ≡ comment_front o) (IsNext (c ∷ text) (front.Passed n))) → Fits n (c ∷ text)
    fits_at c text n true b o is h = let one = same n 1 h in record { some = omega (arith, one); within = omega (arith, one) }
    fits_at c text n false true None is h = absurd (cc)
    fits_at c text n false true (Some m) is h = comment_fits (c ∷ text) n (is ∙ ap Some (sym (same n m h)))
    fits_at c text n false false o is h = absurd (next_passes_none h n refl)

next_is : {text : List ℕ} {g : Front} → IsNext text g → (n : ℕ) (f : Form) → g ≡ front.Token n f → IsLongest text n f
next_is {text} (longest {n = m} {f = h} k) n f e =
    let size : m ≡ n = cc in
    let same : h ≡ f = cc in
    subst (λ x. IsLongest text x f) size (subst (λ x. IsLongest text m x) same k)
next_is (nothing h) n f e = absurd (cc)

pub token_longest : (text : List ℕ) (n : ℕ) (f : Form) → Begins text (front.Token n f) → IsLongest text n f
token_longest [] n f b = absurd (cc)
token_longest (c ∷ text) n f b = longest_at c text n f (is_white c) (opens_comment (c ∷ text)) (comment_len (c ∷ text)) b
  where
    longest_at : (c : ℕ) (text : List ℕ) (n : ℕ) (f : Form) (a b : Bool) (o : Option ℕ)
        → MatchBool a (front.Token n f ≡ front.Passed 1) (MatchBool b (front.Token n f ≡ comment_front o) (IsNext (c ∷ text) (front.Token n f))) → IsLongest (c ∷ text) n f
    longest_at c text n f true b o h = absurd (cc)
    longest_at c text n f false true None h = absurd (cc)
    longest_at c text n f false true (Some m) h = absurd (cc)
    longest_at c text n f false false o h = next_is h n f refl

pub token_fits : (text : List ℕ) (n : ℕ) (f : Form) → Begins text (front.Token n f) → Fits n text
token_fits text n f b =
    let h = token_longest text n f b in record { some = front_has_first f n text (form_at h.form); within = h.within }
