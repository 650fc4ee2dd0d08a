-- Readers and phrases that agree: what is read is a phrase, and each phrase is read.
use Rattle.std.proofs.Common.{◌≡◌, ℕ, zero, suc, ◌≤◌, Bool, true, false, List, [], ◌∷◌, length, Option, Some, None, Result, Ok, Err, arith, refl, ap, sym, ◌∙◌, subst}
use denote.Enum.Bare.{same_true, true_same}
use Rattle.zl_lexer.specs.contracts.token.Word.{the_type as word_type}
use Rattle.zl_lexer.specs.contracts.token.Sign.{the_type as sign_type}
use Rattle.zl_lexer.specs.declared.token.Token.{Token}
use Rattle.zl_lexer.specs.declared.token.TokenKind.{TokenKind}
use Rattle.zl_lexer.specs.declared.token.TokenKind.TheVariants as kind
use Rattle.zl_lexer.specs.declared.token.Sign.TheVariants as sign
use Rattle.zl_value.specs.declared.position.Pos.{Pos}
use Rattle.zl_ast.specs.Phrases.{Phrase, Nothing, Takes, takes, NotNext, Finds, finds, NoneNext, IsName, ListOf, Maybe, Passes, ToClose, IsTuple, listed}
use Rattle.zl_ast.specs.Phrases as phrases
use Rattle.zl_ast.specs.Reading.{Fault, Reader, ◌>>=◌, nothing, same_mark, next_is, next_in, take_at, take, find_at, find, name_at, name, inside, others_at, others, list_of, maybe_at, maybe, pass_at, pass, to_close_at, to_close}

-- An answer that isn't a fault is as P says.
pub data Only {A : Type 0} (P : A → Type 0) : Result A Fault → Type 0 where
  is : {x : A} → P x → Only P (Ok x)
  fault : {f : Fault} → Only P (Err f)

infixl 10 ◌then◌
pub ◌then◌ : {A B : Type 0} {P : A → Type 0} {Q : B → Type 0} {r : Result A Fault} {f : A → Result B Fault} →
    Only P r → ((x : A) → P x → Only Q (f x)) → Only Q (r >>= f)
unfolding ◌>>=◌
(is {x = x} p) then k = k x p
fault then k = fault

infixl 10 ◌then_is◌
pub ◌then_is◌ : {A : Type 0} {P Q : A → Type 0} {r : Result A Fault} → Only P r → ((x : A) → P x → Q x) → Only Q r
(is {x = x} p) then_is k = is (k x p)
fault then_is k = fault

pub at_ok : {A : Type 0} {P : A → Type 0} {r : Result A Fault} {x : A} → Only P r → r ≡ Ok x → P x
at_ok {P = P} (is {x = y} p) e = let h : y ≡ _ = cc in subst P h p
at_ok fault e = cc

-- What is read next is x, and the rest of the reading gives z.
pub gives : {A B : Type 0} {r : Result A Fault} {x : A} (f : A → Result B Fault) {z : Result B Fault} → r ≡ Ok x → f x ≡ z → (r >>= f) ≡ z
unfolding ◌>>=◌
gives f e h = ap (λ r. r >>= f) e ∙ h

abbrev pub Sound : {A : Type 0} → Phrase A → Reader A → Type 0
Sound X read = (ts : List Token) → Only (λ y. X ts y.0 y.1) (read ts)

abbrev pub Complete : {A : Type 0} → Phrase A → Reader A → Type 0
Complete {A = A} X read = (ts : List Token) (x : A) (rest : List Token) → X ts x rest → read ts ≡ Ok (x, rest)

-- a phrase leaves no more tokens than there were
abbrev pub Shrinks : {A : Type 0} → Phrase A → Type 0
Shrinks {A = A} X = (ts : List Token) (x : A) (rest : List Token) → X ts x rest → length rest ≤ length ts

pub record Agrees {A : Type 0} (X : Phrase A) (read : Reader A) : Type 0 where
  pub sound : Sound X read
  pub complete : Complete X read

pub nothing_agrees : {A : Type 0} → Agrees {A = A} Nothing nothing
nothing_agrees = record { sound = λ ts. fault; complete = λ ts x rest h. elim h [ ] }

-- ---- words and signs

abbrev pub IsMark : TokenKind → Type 0
IsMark (kind.Word w) = Unit {0}
IsMark (kind.Sign s) = Unit {0}
IsMark _ = ⊥

pub mark_is : (k j : TokenKind) → IsMark k → same_mark k j ≡ true → j ≡ k
mark_is (kind.Word w) (kind.Word v) m e = sym (ap kind.Word (same_true word_type tt w v e))
mark_is (kind.Sign s) (kind.Sign r) m e = sym (ap kind.Sign (same_true sign_type tt s r e))
mark_is (kind.Word w) _ m e = cc
mark_is (kind.Sign s) _ m e = cc
mark_is (kind.Name id) _ m e = absurd m
mark_is (kind.Int i) _ m e = absurd m
mark_is (kind.Float f) _ m e = absurd m

mark_same : (k : TokenKind) → IsMark k → same_mark k k ≡ true
mark_same (kind.Word w) m = true_same word_type w w refl
mark_same (kind.Sign s) m = true_same sign_type s s refl
mark_same (kind.Name id) m = absurd m
mark_same (kind.Int i) m = absurd m
mark_same (kind.Float f) m = absurd m

pub is_same : (k j : TokenKind) → IsMark k → j ≡ k → same_mark k j ≡ true
is_same k j m e = ap (same_mark k) e ∙ mark_same k m

pub not_same : (k j : TokenKind) → IsMark k → (j ≡ k → ⊥) → same_mark k j ≡ false
not_same k j m h = go (same_mark k j) refl
  where
    go : (b : Bool) → same_mark k j ≡ b → same_mark k j ≡ false
    go true e = absurd (h (mark_is k j m e))
    go false e = e

take_at_sound : (k : TokenKind) (t : Token) (ts : List Token) → IsMark k → (b : Bool) → same_mark k t.kind ≡ b → Only (λ y. Takes k (t ∷ ts) y.0 y.1) (take_at b t ts)
take_at_sound k t ts m true e = is (takes t (mark_is k t.kind m e))
take_at_sound k t ts m false e = fault

pub take_sound : (k : TokenKind) → IsMark k → (ts : List Token) → Only (λ y. Takes k ts y.0 y.1) (take k ts)
unfolding take
take_sound k m [] = fault
take_sound k m (t ∷ ts) = take_at_sound k t ts m (same_mark k t.kind) refl

pub take_complete : {k : TokenKind} {ts rest : List Token} {at : Pos} → IsMark k → Takes k ts at rest → take k ts ≡ Ok (at, rest)
unfolding take
take_complete {k = k} m (takes t {ts = ts} e) = ap (λ b. take_at b t ts) (is_same k t.kind m e)

pub next_true : {k : TokenKind} {ts rest : List Token} {at : Pos} → IsMark k → Takes k ts at rest → next_is k ts ≡ true
unfolding next_is
next_true {k = k} m (takes t {ts = ts} e) = is_same k t.kind m e

pub next_false : (k : TokenKind) (ts : List Token) → IsMark k → NotNext k ts → next_is k ts ≡ false
unfolding next_is
next_false k [] m h = refl
next_false k (t ∷ ts) m h = not_same k t.kind m h

pub not_next : (k : TokenKind) (ts : List Token) → IsMark k → next_is k ts ≡ false → NotNext k ts
unfolding next_is
not_next k [] m e = tt
not_next k (t ∷ ts) m e = λ h. let g = is_same k t.kind m h in cc

pub none_next : {A : Type 0} (table : TokenKind → Option A) (ts : List Token) → next_in table ts ≡ None → NoneNext table ts
unfolding next_in
none_next table [] e = tt
none_next table (t ∷ ts) e = e

pub next_none : {A : Type 0} (table : TokenKind → Option A) (ts : List Token) → NoneNext table ts → next_in table ts ≡ None
unfolding next_in
next_none table [] h = refl
next_none table (t ∷ ts) h = h

pub next_some : {A : Type 0} {table : TokenKind → Option A} {ts rest : List Token} {a : A} {at : Pos} → Finds table ts a at rest → next_in table ts ≡ Some a
unfolding next_in
next_some (finds t a e) = e

find_at_sound : {A : Type 0} (table : TokenKind → Option A) (t : Token) (ts : List Token) (o : Option A) → table t.kind ≡ o → Only (λ y. Finds table (t ∷ ts) y.0.0 y.0.1 y.1) (find_at o t ts)
find_at_sound table t ts (Some a) e = is (finds t a e)
find_at_sound table t ts None e = fault

pub find_sound : {A : Type 0} (table : TokenKind → Option A) (ts : List Token) → Only (λ y. Finds table ts y.0.0 y.0.1 y.1) (find table ts)
unfolding find
find_sound table [] = fault
find_sound table (t ∷ ts) = find_at_sound table t ts (table t.kind) refl

pub find_complete : {A : Type 0} {table : TokenKind → Option A} {ts rest : List Token} {a : A} {at : Pos} → Finds table ts a at rest → find table ts ≡ Ok ((a, at), rest)
unfolding find
find_complete (finds t {ts = ts} a e) = ap (λ o. find_at o t ts) e

name_at_sound : (t : Token) (ts : List Token) (k : TokenKind) → t.kind ≡ k → Only (λ y. IsName (t ∷ ts) y.0 y.1) (name_at k t ts)
name_at_sound t ts (kind.Name id) e = is (phrases.name id (takes t e))
name_at_sound t ts _ e = fault

pub name_sound : Sound IsName name
unfolding name
name_sound [] = fault
name_sound (t ∷ ts) = name_at_sound t ts t.kind refl

name_taken : {id : ℕ} {ts rest : List Token} {at : Pos} → Takes (kind.Name id) ts at rest → name ts ≡ Ok (record { id = id; at = at }, rest)
unfolding name
name_taken (takes t {ts = ts} e) = ap (λ k. name_at k t ts) e

pub name_complete : Complete IsName name
name_complete _ _ _ (phrases.name id h) = name_taken h

pub name_agrees : Agrees IsName name
name_agrees = record { sound = name_sound; complete = name_complete }

-- ---- inside a construct

inside_zero : {A : Type 0} (P : A × List Token → Type 0) (read : Reader A) (ts : List Token) → Only P (inside zero read ts)
unfolding inside
inside_zero P read ts = fault

-- no construct may be opened there
pub none_inside : {A B : Type 0} {Q : B → Type 0} (f : A × List Token → Result B Fault) (read : Reader A) (ts : List Token) → Only Q (inside zero read ts >>= f)
none_inside f read ts = inside_zero (λ y. ⊥) read ts then λ x h. absurd h

pub inside_sound : {A : Type 0} {P : A × List Token → Type 0} (n : ℕ) (read : Reader A) (ts : List Token) → Only P (read ts) → Only P (inside (suc n) read ts)
unfolding inside
inside_sound n read ts h = h

pub inside_complete : {A : Type 0} (n : ℕ) (read : Reader A) (ts : List Token) {y : A × List Token} → read ts ≡ Ok y → inside (suc n) read ts ≡ Ok y
unfolding inside
inside_complete n read ts h = h

-- ---- lists

pub taken_less : {k : TokenKind} {ts rest : List Token} {at : Pos} → Takes k ts at rest → suc (length rest) ≤ length ts
taken_less (takes t e) = omega arith

module _ {A : Type 0} (k : TokenKind) (m : IsMark k) (X : Phrase A) (read : Reader A) (agrees : Agrees X read) (shrinks : Shrinks X) where
  -- x, and { separator X } behind it
  others_at_sound : (most : ℕ) (t : Token) (ts us : List Token) (x : A) → X us x (t ∷ ts) → length ts ≤ most → (b : Bool) → same_mark k t.kind ≡ b →
      ((vs ws : List Token) (y : A) → X vs y ws → length ws ≤ most → Only (λ z. ListOf k X vs (y ∷ z.0) z.1) (others k read most ws)) →
      Only (λ y. ListOf k X us (x ∷ y.0) y.1) (others_at b read (others k read most) t ts)
  unfolding next_is
  others_at_sound most t ts us x h le false e again = is (phrases.last h (not_next k (t ∷ ts) m e))
  others_at_sound most t ts us x h le true e again =
      agrees.sound ts then λ y hy. again ts y.1 y.0 hy (let s = shrinks _ _ _ hy in omega arith) then λ z hz.
      is (phrases.more h (takes t (mark_is k t.kind m e)) hz)

  -- { separator X } behind x
  others_sound : (most : ℕ) (ts us : List Token) (x : A) → X us x ts → length ts ≤ most → Only (λ y. ListOf k X us (x ∷ y.0) y.1) (others k read most ts)
  unfolding others
  others_sound zero [] us x h le = is (phrases.last h tt)
  others_sound zero (t ∷ ts) us x h le = absurd (omega arith)
  others_sound (suc most) [] us x h le = is (phrases.last h tt)
  others_sound (suc most) (t ∷ ts) us x h le =
      others_at_sound most t ts us x h (omega arith) (same_mark k t.kind) refl (λ vs ws y hy lw. others_sound most ws vs y hy lw)

  list_sound : Sound (ListOf k X) (list_of k read)
  unfolding list_of
  list_sound ts = agrees.sound ts then λ x h. others_sound (length x.1) x.1 ts x.0 h (omega arith) then λ xs hs. is hs

  others_none : (most : ℕ) (ts : List Token) → NotNext k ts → others k read most ts ≡ Ok ([], ts)
  unfolding others
  others_none zero ts h = refl
  others_none (suc most) [] h = refl
  others_none (suc most) (t ∷ ts) h = ap (λ b. others_at b read (others k read most) t ts) (not_same k t.kind m h)

  others_step : {ts us vs rest : List Token} {at : Pos} {x : A} {xs : List A} (most : ℕ) → Takes k ts at us → read us ≡ Ok (x, vs) →
      others k read most vs ≡ Ok (xs, rest) → others k read (suc most) ts ≡ Ok (x ∷ xs, rest)
  unfolding others
  others_step most (takes t {ts = ts} e) h again =
      ap (λ b. others_at b read (others k read most) t ts) (is_same k t.kind m e) ∙ gives _ h (gives _ again refl)

  others_complete : (most : ℕ) (ts : List Token) (at : Pos) (us : List Token) (xs : List A) (rest : List Token) →
      Takes k ts at us → ListOf k X us xs rest → length ts ≤ most → others k read most ts ≡ Ok (xs, rest)
  others_complete zero ts at us xs rest t hs le = absurd (let a = taken_less t in omega arith)
  others_complete (suc most) _ _ _ _ _ t (phrases.last {rest = rest} h n) le = others_step most t (agrees.complete _ _ _ h) (others_none most rest n)
  others_complete (suc most) _ _ _ _ _ t (phrases.more {ts = us} {us = vs} h t' hs) le =
      let a = taken_less t in
      let b = shrinks _ _ _ h in
      others_step most t (agrees.complete _ _ _ h) (others_complete most _ _ _ _ _ t' hs (omega arith))

  list_complete : Complete (ListOf k X) (list_of k read)
  unfolding list_of
  list_complete _ _ _ (phrases.last {rest = rest} h n) = gives _ (agrees.complete _ _ _ h) (gives _ (others_none (length rest) rest n) refl)
  list_complete _ _ _ (phrases.more {us = us} h t hs) =
      gives _ (agrees.complete _ _ _ h) (gives _ (others_complete (length us) _ _ _ _ _ t hs (omega arith)) refl)

  pub list_agrees : Agrees (ListOf k X) (list_of k read)
  list_agrees = record { sound = list_sound; complete = list_complete }

-- ---- what may be there

maybe_at_sound : {A : Type 0} (k : TokenKind) → IsMark k → (X : Phrase A) (read : Reader A) → Sound X read → (ts : List Token) (b : Bool) → next_is k ts ≡ b →
    Only (λ y. Maybe k X ts y.0 y.1) (maybe_at b k read ts)
maybe_at_sound k m X read s ts true e = take_sound k m ts then λ o ho. s o.1 then λ x hx. is (phrases.present ho hx)
maybe_at_sound k m X read s ts false e = is (phrases.absent (not_next k ts m e))

maybe_complete : {A : Type 0} (k : TokenKind) → IsMark k → (X : Phrase A) (read : Reader A) → Complete X read → Complete (Maybe k X) (maybe k read)
unfolding maybe
maybe_complete k m X read c _ _ _ (phrases.absent {ts = ts} n) = ap (λ b. maybe_at b k read ts) (next_false k ts m n)
maybe_complete k m X read c _ _ _ (phrases.present {ts = ts} t h) =
    ap (λ b. maybe_at b k read ts) (next_true m t) ∙ gives _ (take_complete m t) (gives _ (c _ _ _ h) refl)

pub maybe_agrees : {A : Type 0} (k : TokenKind) → IsMark k → (X : Phrase A) (read : Reader A) → Agrees X read → Agrees (Maybe k X) (maybe k read)
unfolding maybe
maybe_agrees k m X read a = record {
  sound = λ ts. maybe_at_sound k m X read a.sound ts (next_is k ts) refl;
  complete = maybe_complete k m X read a.complete;
}

pass_at_sound : (k : TokenKind) → IsMark k → (ts : List Token) (b : Bool) → next_is k ts ≡ b → Passes k ts (pass_at b ts)
unfolding next_is
pass_at_sound k m [] true e = cc
pass_at_sound k m (t ∷ ts) true e = phrases.with_it (takes t (mark_is k t.kind m e))
pass_at_sound k m ts false e = phrases.without (not_next k ts m e)

pub pass_sound : (k : TokenKind) → IsMark k → (ts : List Token) → Passes k ts (pass k ts)
unfolding pass
pass_sound k m ts = pass_at_sound k m ts (next_is k ts) refl

passed : {k : TokenKind} {ts rest : List Token} {at : Pos} → Takes k ts at rest → pass_at true ts ≡ rest
passed (takes t e) = refl

pub pass_complete : {k : TokenKind} {ts rest : List Token} → IsMark k → Passes k ts rest → pass k ts ≡ rest
unfolding pass
pass_complete {k = k} m (phrases.without {ts = ts} n) = ap (λ b. pass_at b ts) (next_false k ts m n)
pass_complete m (phrases.with_it {ts = ts} t) = ap (λ b. pass_at b ts) (next_true m t) ∙ passed t

-- ---- up to a closing parenthesis

-- no phrase of this form begins with this mark
abbrev pub NeverFirst : {A : Type 0} → TokenKind → Phrase A → Type 0
NeverFirst {A = A} k X = (ts : List Token) (x : A) (rest : List Token) → X ts x rest → NotNext k ts

module _ {A : Type 0} (X : Phrase A) (read : Reader A) (agrees : Agrees X read) (shrinks : Shrinks X) where
  to_close_at_sound : (ts : List Token) (b : Bool) → Only (λ y. ToClose X ts y.0 y.1) (to_close_at b read ts)
  to_close_at_sound ts true = take_sound (kind.Sign sign.Close) tt ts then λ c hc. is (phrases.empty hc)
  to_close_at_sound ts false =
      (list_agrees (kind.Sign sign.Comma) tt X read agrees shrinks).sound ts then λ xs hxs.
      take_sound (kind.Sign sign.Close) tt xs.1 then λ c hc. is (phrases.items hxs hc)

  first_of_list : (k : TokenKind) → NeverFirst k X → (s : TokenKind) (ts : List Token) (xs : List A) (rest : List Token) → ListOf s X ts xs rest → NotNext k ts
  first_of_list k n s _ _ _ (phrases.last h _) = n _ _ _ h
  first_of_list k n s _ _ _ (phrases.more h _ _) = n _ _ _ h

  to_close_complete : NeverFirst (kind.Sign sign.Close) X → Complete (ToClose X) (to_close read)
  unfolding to_close
  to_close_complete n _ _ _ (phrases.empty {ts = ts} c) = ap (λ b. to_close_at b read ts) (next_true tt c) ∙ gives _ (take_complete tt c) refl
  to_close_complete n _ _ _ (phrases.items {ts = ts} hs c) =
      ap (λ b. to_close_at b read ts) (next_false (kind.Sign sign.Close) ts tt (first_of_list _ n _ _ _ _ hs)) ∙
      gives _ ((list_agrees (kind.Sign sign.Comma) tt X read agrees shrinks).complete _ _ _ hs) (gives _ (take_complete tt c) refl)

  pub to_close_agrees : NeverFirst (kind.Sign sign.Close) X → Agrees (ToClose X) (to_close read)
  unfolding to_close
  to_close_agrees n = record { sound = λ ts. to_close_at_sound ts (next_is (kind.Sign sign.Close) ts); complete = to_close_complete n }
