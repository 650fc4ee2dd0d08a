-- A text has one reading at most.
use Rattle.std.proofs.Common.{◌≡◌, ℕ, Bool, true, false, List, [], ◌∷◌, take, drop, map, Option, Some, None, Result, Ok, Err, inl, inr, refl, sym, subst, ◌∙◌, ap}
use Rattle.std.specs.Prelude.{MatchBool}
use Rattle.std.proofs.lemmas.Bool.{cases_order}
use Rattle.zl_value.specs.declared.position.Pos.{Pos}
use Rattle.zl_lexer.specs.declared.front.Form.{Form}
use Rattle.zl_lexer.specs.declared.front.Front.{Front}
use Rattle.zl_lexer.specs.declared.front.Front.TheVariants as front
use Rattle.zl_lexer.specs.declared.place.Place.{Place}
use Rattle.zl_lexer.specs.declared.token.LexAnswer.{LexAnswer}
use Rattle.zl_lexer.specs.declared.token.LexAnswer.TheVariants as answer
use Rattle.zl_lexer.specs.declared.token.Token.{Token}
use Rattle.zl_lexer.specs.Comments.{opens_comment}
use Rattle.zl_lexer.specs.Names.{firsts}
use Rattle.zl_lexer.specs.Positions.{is_white, behind}
use Rattle.zl_lexer.specs.Tokens.{IsLongest, IsNext, longest, nothing, Begins, Kind, kind_of, Lexeme, lexeme, Reads, ends, passes, takes, refuses, stops, names_in, numbered, IsLexed, StopsAt}
use Rattle.zl_lexer.proofs.FormLemmas.{FormAt, form_at, one_form}

one_length : (text : List ℕ) (n m : ℕ) (f g : Form) → IsLongest text n f → IsLongest text m g → n ≡ m
one_length text n m f g a b = elim (cases_order n m) [
  | inl same ↦ same
  | inr (inl less) ↦ absurd (a.longest m g less b.within b.form)
  | inr (inr more) ↦ absurd (b.longest n f more a.within a.form)
]

one_longest : (text : List ℕ) (n m : ℕ) (f g : Form) → IsLongest text n f → IsLongest text m g → front.Token n f ≡ front.Token m g
one_longest text n m f g a b =
    let size = one_length text n m f g a b in
    let same : f ≡ g = one_form f g (take n text) (form_at a.form) (subst (λ k. FormAt g (take k text)) (sym size) (form_at b.form)) in
    cc (size, same)

one_next : {text : List ℕ} {f g : Front} → IsNext text f → IsNext text g → f ≡ g
one_next {text} (longest {n = n} {f = f} a) (longest {n = m} {f = g} b) = one_longest text n m f g a b
one_next (longest {n = n} {f = f} a) (nothing b) = absurd (b n f a.form)
one_next (nothing a) (longest {n = n} {f = f} b) = absurd (a n f b.form)
one_next (nothing a) (nothing b) = refl

matched : {X : Type 0} (b : Bool) (P Q R S : Type 0) → MatchBool b P Q → MatchBool b R S → (P → R → X) → (Q → S → X) → X
matched true P Q R S h k yes_both no_both = yes_both h k
matched false P Q R S h k yes_both no_both = no_both h k

-- one thing stands at the front of a text
pub one_front : (text : List ℕ) (f g : Front) → Begins text f → Begins text g → f ≡ g
one_front [] f g a b = a ∙ sym b
one_front (c ∷ text) f g a b =
    matched (is_white c) _ _ _ _ a b (λ h k. h ∙ sym k)
    (λ h k. matched (opens_comment (c ∷ text)) _ _ _ _ h k (λ x y. x ∙ sym y) (λ x y. one_next x y))

-- what a reading says once it is known what stands at the front
AfterToken : Option Kind → Place → List ℕ → ℕ → List Lexeme → Result Pos LexAnswer → Type 0
AfterToken None p text n ls r = (ls ≡ []) × (r ≡ Err (answer.Literal p.at))
AfterToken (Some k) p text n ls r =
    (rest : List Lexeme) × (ls ≡ lexeme p (take n text) k ∷ rest) × Reads (behind p (take n text)) (drop n text) rest r

After : Front → Place → List ℕ → List Lexeme → Result Pos LexAnswer → Type 0
After front.End p text ls r = (ls ≡ []) × (r ≡ Ok p.at)
After (front.Passed n) p text ls r = Reads (behind p (take n text)) (drop n text) ls r
After (front.Token n f) p text ls r = AfterToken (kind_of f (take n text)) p text n ls r
After front.Bad p text ls r = (ls ≡ []) × (r ≡ Err (answer.BadToken p.at))

inverted : {p : Place} {text : List ℕ} {ls : List Lexeme} {r : Result Pos LexAnswer} → Reads p text ls r → (f : Front) × Begins text f × After f p text ls r
unfolding After AfterToken
inverted (ends b) = (front.End, b, (refl, refl))
inverted (passes n b h) = (front.Passed n, b, h)
inverted {p} {text} {ls} {r} (takes {ls = rest} n f k b e h) =
    (front.Token n f, b, subst (λ o. AfterToken o p text n (lexeme p (take n text) k ∷ rest) r) (sym e) (rest, refl, h))
inverted {p} {text} {ls} {r} (refuses n f b e) =
    (front.Token n f, b, subst (λ o. AfterToken o p text n [] (Err (answer.Literal p.at))) (sym e) (refl, refl))
inverted (stops b) = (front.Bad, b, (refl, refl))

after : {p : Place} {text : List ℕ} {ls : List Lexeme} {r : Result Pos LexAnswer} (f : Front) → Begins text f → Reads p text ls r → After f p text ls r
after {p} {text} {ls} {r} f b h =
    let known = inverted h in subst (λ g. After g p text ls r) (one_front text known.0 f known.1 b) known.2

-- from a place on, a text has one list of tokens, up to one place
pub one_reading : {p : Place} {text : List ℕ} {ls ms : List Lexeme} {r s : Result Pos LexAnswer}
    → Reads p text ls r → Reads p text ms s → (ls ≡ ms) × (r ≡ s)
unfolding After AfterToken
one_reading {ms = ms} {s = s} (ends b) k =
    let known = after front.End b k in (sym known.0, sym known.1)
one_reading (passes n b h) k = one_reading h (after (front.Passed n) b k)
one_reading {p} {text} {ms = ms} {s = s} (takes n f k b e h) other =
    let known = subst (λ o. AfterToken o p text n ms s) e (after (front.Token n f) b other) in
    let both = one_reading h known.2 in
    (ap (λ rest. lexeme p (take n text) k ∷ rest) both.0 ∙ sym known.1, both.1)
one_reading {p} {text} {ms = ms} {s = s} (refuses n f b e) other =
    let known = subst (λ o. AfterToken o p text n ms s) e (after (front.Token n f) b other) in (sym known.0, sym known.1)
one_reading (stops b) k =
    let known = after front.Bad b k in (sym known.0, sym known.1)

-- a text has one list of tokens
pub one_list : (text : List ℕ) (ts us : List Token) (ms ns : List (List ℕ)) (d e : Pos) → IsLexed text ts ms d → IsLexed text us ns e
    → (ts ≡ us) × (ms ≡ ns) × (d ≡ e)
one_list text ts us ms ns d e a b =
    let both = one_reading a.reads b.reads in
    let names : ms ≡ ns = a.distinct ∙ ap (λ ls. firsts (names_in ls)) both.0 ∙ sym b.distinct in
    let place : d ≡ e = ok_same d e (Ok d) refl both.1 in
    let tokens : ts ≡ us =
    a.tokens_are ∙ ap (λ names. map (numbered names) a.lexemes) names ∙ ap (λ ls. map (numbered ns) ls) both.0 ∙ sym b.tokens_are in
    (tokens, names, place)
  where
    ok_same : (d e : Pos) (r : Result Pos LexAnswer) → r ≡ Ok d → r ≡ Ok e → d ≡ e
    ok_same d e r h k = cc

-- or one place at which it stops
pub one_stop : (text : List ℕ) (a b : LexAnswer) → StopsAt text a → StopsAt text b → a ≡ b
one_stop text a b x y = err_same a b (Err a) refl (one_reading x.1 y.1).1
  where
    err_same : (a b : LexAnswer) (r : Result Pos LexAnswer) → r ≡ Err a → r ≡ Err b → a ≡ b
    err_same a b r h k = cc

-- and not both
pub never_both : (text : List ℕ) (ts : List Token) (ns : List (List ℕ)) (e : Pos) (a : LexAnswer) → IsLexed text ts ns e → StopsAt text a → ⊥
never_both text ts ns e a x y = apart e a (one_reading x.reads y.1).1
  where
    apart : (e : Pos) (a : LexAnswer) → Ok e ≡ Err a → ⊥
    apart e a h = absurd (cc)
