-- Loops that read a list, one element each turn: what was read before stands at the front of what reading gives for the rest.
use Rattle.std.proofs.Common.{◌≡◌, ℕ, zero, suc, ◌-◌, ◌+◌, ◌<◌, true, false, List, [], ◌∷◌, ◌++◌, length, Result, Ok, Err, arith, refl, sym, ap, subst, ◌∙◌, append_assoc}
use Rattle.std.proofs.lemmas.List.{append-nil}
use Rattle.zl_lexer.specs.declared.token.Token.{Token}
use Rattle.zl_lexer.specs.declared.token.TokenKind.{TokenKind}
use Rattle.zl_value.specs.declared.position.Pos.{Pos}
use Rattle.zl_ast.specs.Reading.{Fault, Reader, ◌>>=◌, same_mark, next_is, others_at, others, list_of}
use Rattle.zl_parser.specs.declared.stop.Stop.{Stop}
use Rattle.zl_parser.specs.declared.stop.Stop.TheVariants as stop
use Rattle.zl_parser.specs.Giving.{Fails, with_front, IsBehind}

-- nothing more is read
pub ended : {A : Type 0} (front : List A) (rest : List Token) (read whole : Result (List A × List Token) Fault) →
    read ≡ Ok ([], rest) → with_front front read ≡ whole → whole ≡ Ok (front, rest)
unfolding ◌>>=◌
ended front rest read whole e h = sym h ∙ ap (with_front front) e ∙ ap (λ xs. Ok (xs, rest)) (append-nil front)

-- reading stops
pub failed : {A : Type 0} (e : Stop) (front : List A) (read whole : Result (List A × List Token) Fault) →
    Fails e read → with_front front read ≡ whole → Fails e whole
unfolding ◌>>=◌
failed stop.Memory front read whole f h = tt
failed (stop.Parse left) front read whole f h = sym h ∙ ap (with_front front) f
failed (stop.Deep left) front read whole f h = sym h ∙ ap (with_front front) f

one_before : {A : Type 0} (front : List A) (x : A) (more : Result (List A × List Token) Fault) →
    with_front (front ++ x ∷ []) more ≡ with_front front (more >>= λ xs. Ok (x ∷ xs.0, xs.1))
unfolding ◌>>=◌
one_before front x (Ok xs) = ap (λ ys. Ok (ys, xs.1)) (append_assoc front (x ∷ []) xs.0)
one_before front x (Err e) = refl

-- one more was read
pub went_on : {A : Type 0} (front : List A) (x : A) (read more whole : Result (List A × List Token) Fault) →
    read ≡ (more >>= λ xs. Ok (x ∷ xs.0, xs.1)) → with_front front read ≡ whole → with_front (front ++ x ∷ []) more ≡ whole
went_on front x read more whole e h = one_before front x more ∙ sym (ap (with_front front) e) ∙ h

pub one_turn : (turn end : ℕ) → turn < end → end - turn ≡ suc (end - (turn + 1))
one_turn turn end h = omega arith

-- ---- { separator X }

pub others_done : {A : Type 0} (separator : TokenKind) (p : Reader A) (turn end : ℕ) (rest : List Token) → end - turn ≡ 0 →
    others separator p (end - turn) rest ≡ Ok ([], rest)
unfolding others
others_done separator p turn end rest e = ap (λ k. others separator p k rest) e

pub others_end : {A : Type 0} (separator : TokenKind) (p : Reader A) (most : ℕ) (rest : List Token) →
    next_is separator rest ≡ false → others separator p most rest ≡ Ok ([], rest)
unfolding others next_is
others_end separator p zero rest e = refl
others_end separator p (suc most) [] e = refl
others_end separator p (suc most) (t ∷ ts) e = ap (λ b. others_at b p (others separator p most) t ts) e

step_at : {A : Type 0} (separator : TokenKind) (p : Reader A) (most : ℕ) (t : Token) (ts : List Token) →
    same_mark separator t.kind ≡ true → others separator p (suc most) (t ∷ ts) ≡ (p ts >>= λ x. others separator p most x.1 >>= λ xs. Ok (x.0 ∷ xs.0, xs.1))
unfolding others
step_at separator p most t ts e = ap (λ b. others_at b p (others separator p most) t ts) e

next_is_at : (separator : TokenKind) (t : Token) (ts : List Token) → next_is separator (t ∷ ts) ≡ same_mark separator t.kind
unfolding next_is
next_is_at separator t ts = refl

pub others_step : {A : Type 0} (separator : TokenKind) (p : Reader A) (turn end : ℕ) (rest behind : List Token) (at : Pos) → turn < end → IsBehind separator rest at behind →
    others separator p (end - turn) rest ≡ (p behind >>= λ x. others separator p (end - (turn + 1)) x.1 >>= λ xs. Ok (x.0 ∷ xs.0, xs.1))
others_step separator p turn end rest behind at lt h =
    ap (λ k. others separator p k rest) (one_turn turn end lt) ∙ ap (others separator p (suc (end - (turn + 1)))) h.tokens
    ∙ step_at separator p (end - (turn + 1)) h.first behind (sym (next_is_at separator h.first behind) ∙ sym (ap (next_is separator) h.tokens) ∙ h.is_next)

pub bound_fails : {A B : Type 0} (e : Stop) (r : Result (A × List Token) Fault) (f : A × List Token → Result B Fault) → Fails e r → Fails e (r >>= f)
unfolding ◌>>=◌
bound_fails stop.Memory r f h = tt
bound_fails (stop.Parse left) r f h = ap (λ q. q >>= f) h
bound_fails (stop.Deep left) r f h = ap (λ q. q >>= f) h

-- a list that is read from here on
module _ {A : Type 0} (separator : TokenKind) (p : Reader A) (front : List A) (whole : Result (List A × List Token) Fault) where
  pub list_begins : (ts : List Token) (x : A) (after : List Token) → p ts ≡ Ok (x, after) → with_front front (list_of separator p ts) ≡ whole →
      with_front (front ++ x ∷ []) (others separator p (length after) after) ≡ whole
  unfolding list_of ◌>>=◌
  list_begins ts x after e h = went_on front x (list_of separator p ts) (others separator p (length after) after) whole (ap (λ r. r >>= λ y. others separator p (length y.1) y.1 >>= λ xs. Ok (y.0 ∷ xs.0, xs.1)) e) h

  pub list_done : (turn end : ℕ) (rest : List Token) → end - turn ≡ 0 → with_front front (others separator p (end - turn) rest) ≡ whole → whole ≡ Ok (front, rest)
  list_done turn end rest e h = ended front rest _ whole (others_done separator p turn end rest e) h

  pub list_ends : (most : ℕ) (rest : List Token) → next_is separator rest ≡ false → with_front front (others separator p most rest) ≡ whole → whole ≡ Ok (front, rest)
  list_ends most rest e h = ended front rest _ whole (others_end separator p most rest e) h

  pub list_fails : (e : Stop) (turn end : ℕ) (rest behind : List Token) (at : Pos) → turn < end → IsBehind separator rest at behind → Fails e (p behind) →
      with_front front (others separator p (end - turn) rest) ≡ whole → Fails e whole
  list_fails e turn end rest behind at lt b f h = failed e front _ whole (subst (Fails e) (sym (others_step separator p turn end rest behind at lt b)) (bound_fails e (p behind) _ f)) h

  pub list_goes_on : (turn end : ℕ) (rest behind : List Token) (at : Pos) (x : A) (after : List Token) → turn < end → IsBehind separator rest at behind → p behind ≡ Ok (x, after) →
      with_front front (others separator p (end - turn) rest) ≡ whole → with_front (front ++ x ∷ []) (others separator p (end - (turn + 1)) after) ≡ whole
  unfolding ◌>>=◌
  list_goes_on turn end rest behind at x after lt b e h =
      went_on front x (others separator p (end - turn) rest) (others separator p (end - (turn + 1)) after) whole
      (others_step separator p turn end rest behind at lt b ∙ ap (λ r. r >>= λ y. others separator p (end - (turn + 1)) y.1 >>= λ xs. Ok (y.0 ∷ xs.0, xs.1)) e) h

pub list_stops : {A : Type 0} (separator : TokenKind) (p : Reader A) (e : Stop) (ts : List Token) → Fails e (p ts) → Fails e (list_of separator p ts)
unfolding list_of
list_stops separator p e ts f = bound_fails e (p ts) _ f
