-- The loops over the alternatives of a move, and over the moves of a state.
use Rattle.std.proofs.Common.{◌≡◌, ℕ, zero, suc, ◌-◌, ◌+◌, ◌<◌, Bool, true, false, List, [], ◌∷◌, ◌++◌, Some, None, Result, Ok, Err, refl, sym, ap, subst, ◌∙◌, append_assoc}
use Rattle.zl_lexer.specs.declared.token.Token.{Token}
use Rattle.zl_lexer.specs.declared.token.TokenKind.TheVariants as kind
use Rattle.zl_lexer.specs.declared.token.Word.TheVariants as word
use Rattle.zl_value.specs.declared.position.Pos.{Pos}
use Rattle.zl_ast.specs.declared.eqn.Move.{Move}
use Rattle.zl_ast.specs.Operators.{move_word}
use Rattle.zl_ast.specs.Reading.{Fault, ◌>>=◌, next_is, next_in}
use Rattle.zl_ast.specs.ReadingEquations.{alt, alts_at, alts, move_from, moves_at, moves}
use Rattle.zl_parser.specs.declared.stop.Stop.{Stop}
use Rattle.zl_parser.specs.Giving.{Fails, with_front, IsBehind}
use Rattle.zl_parser.specs.Levels.{IsNext}
use Rattle.zl_parser.proofs.Loops.{ended, failed, went_on, one_turn, bound_fails}
use Rattle.zl_parser.proofs.Links.{found}

-- ---- {"else" alt}

module _ (n : ℕ) (strong : Bool) where
  alts_done : (turn end : ℕ) (rest : List Token) → end - turn ≡ 0 → alts n strong (end - turn) rest ≡ Ok ([], rest)
  unfolding alts
  alts_done turn end rest e = ap (λ k. alts n strong k rest) e

  alts_end : (most : ℕ) (rest : List Token) → next_is (kind.Word word.Else) rest ≡ false → alts n strong most rest ≡ Ok ([], rest)
  unfolding alts next_is
  alts_end zero rest e = refl
  alts_end (suc most) [] e = refl
  alts_end (suc most) (t ∷ ts) e = ap (λ b. alts_at b n strong (alts n strong most) t ts) e

  alt_at : (most : ℕ) (t : Token) (ts : List Token) → next_is (kind.Word word.Else) (t ∷ ts) ≡ true →
      alts n strong (suc most) (t ∷ ts) ≡ (alt n strong t.at ts >>= λ m. alts n strong most m.1 >>= λ ms. Ok (m.0 ∷ ms.0, ms.1))
  unfolding alts next_is
  alt_at most t ts e = ap (λ b. alts_at b n strong (alts n strong most) t ts) e

  alts_step : (turn end : ℕ) (rest behind : List Token) (at : Pos) → turn < end → IsBehind (kind.Word word.Else) rest at behind →
      alts n strong (end - turn) rest ≡ (alt n strong at behind >>= λ m. alts n strong (end - (turn + 1)) m.1 >>= λ ms. Ok (m.0 ∷ ms.0, ms.1))
  alts_step turn end rest behind at lt h =
      ap (λ k. alts n strong k rest) (one_turn turn end lt) ∙ ap (alts n strong (suc (end - (turn + 1)))) h.tokens
      ∙ alt_at (end - (turn + 1)) h.first behind (sym (ap (next_is (kind.Word word.Else)) h.tokens) ∙ h.is_next)
      ∙ ap (λ q. alt n strong q behind >>= λ m. alts n strong (end - (turn + 1)) m.1 >>= λ ms. Ok (m.0 ∷ ms.0, ms.1)) h.place

  module _ (front : List Move) (whole : Result (List Move × List Token) Fault) where
    pub alternatives_done : (turn end : ℕ) (rest : List Token) → end - turn ≡ 0 → with_front front (alts n strong (end - turn) rest) ≡ whole → whole ≡ Ok (front, rest)
    alternatives_done turn end rest e h = ended front rest _ whole (alts_done turn end rest e) h

    pub alternatives_end : (most : ℕ) (rest : List Token) → next_is (kind.Word word.Else) rest ≡ false → with_front front (alts n strong most rest) ≡ whole → whole ≡ Ok (front, rest)
    alternatives_end most rest e h = ended front rest _ whole (alts_end most rest e) h

    pub alternative_fails : (e : Stop) (turn end : ℕ) (rest behind : List Token) (at : Pos) → turn < end → IsBehind (kind.Word word.Else) rest at behind → Fails e (alt n strong at behind) →
        with_front front (alts n strong (end - turn) rest) ≡ whole → Fails e whole
    alternative_fails e turn end rest behind at lt b f h = failed e front _ whole (subst (Fails e) (sym (alts_step turn end rest behind at lt b)) (bound_fails e (alt n strong at behind) _ f)) h

    pub alternatives_go_on : (turn end : ℕ) (rest behind : List Token) (at : Pos) (x : Move) (after : List Token) → turn < end → IsBehind (kind.Word word.Else) rest at behind →
        alt n strong at behind ≡ Ok (x, after) → with_front front (alts n strong (end - turn) rest) ≡ whole → with_front (front ++ x ∷ []) (alts n strong (end - (turn + 1)) after) ≡ whole
    unfolding ◌>>=◌
    alternatives_go_on turn end rest behind at x after lt b e h =
        went_on front x (alts n strong (end - turn) rest) (alts n strong (end - (turn + 1)) after) whole
        (alts_step turn end rest behind at lt b ∙ ap (λ r. r >>= λ m. alts n strong (end - (turn + 1)) m.1 >>= λ ms. Ok (m.0 ∷ ms.0, ms.1)) e) h

-- ---- {move}

several_before : {A : Type 0} (front xs : List A) (more : Result (List A × List Token) Fault) →
    with_front (front ++ xs) more ≡ with_front front (more >>= λ ys. Ok (xs ++ ys.0, ys.1))
unfolding ◌>>=◌
several_before front xs (Ok ys) = ap (λ zs. Ok (zs, ys.1)) (append_assoc front xs ys.0)
several_before front xs (Err e) = refl

module _ (n : ℕ) where
  moves_done : (turn end : ℕ) (rest : List Token) → end - turn ≡ 0 → moves n (end - turn) rest ≡ Ok ([], rest)
  unfolding moves
  moves_done turn end rest e = ap (λ k. moves n k rest) e

  moves_end : (most : ℕ) (rest : List Token) → next_in move_word rest ≡ None → moves n most rest ≡ Ok ([], rest)
  unfolding moves next_in
  moves_end zero rest e = refl
  moves_end (suc most) [] e = refl
  moves_end (suc most) (t ∷ ts) e = ap (λ o. moves_at o n (moves n most) t ts) e

  move_at : (most : ℕ) (t : Token) (ts : List Token) (strong : Bool) → move_word t.kind ≡ Some strong →
      moves n (suc most) (t ∷ ts) ≡ (move_from n strong t.at ts >>= λ ms. moves n most ms.1 >>= λ os. Ok (ms.0 ++ os.0, os.1))
  unfolding moves
  move_at most t ts strong e = ap (λ o. moves_at o n (moves n most) t ts) e

  moves_step : (turn end : ℕ) (rest behind : List Token) (strong : Bool) (at : Pos) → turn < end → IsNext move_word rest strong at behind →
      moves n (end - turn) rest ≡ (move_from n strong at behind >>= λ ms. moves n (end - (turn + 1)) ms.1 >>= λ os. Ok (ms.0 ++ os.0, os.1))
  moves_step turn end rest behind strong at lt h =
      let f = found move_word rest strong at behind h.found in
      ap (λ k. moves n k rest) (one_turn turn end lt) ∙ ap (moves n (suc (end - (turn + 1)))) f.tokens ∙ move_at (end - (turn + 1)) f.first behind strong f.stands
      ∙ ap (λ q. move_from n strong q behind >>= λ ms. moves n (end - (turn + 1)) ms.1 >>= λ os. Ok (ms.0 ++ os.0, os.1)) f.place

  module _ (front : List Move) (whole : Result (List Move × List Token) Fault) where
    pub moves_are_done : (turn end : ℕ) (rest : List Token) → end - turn ≡ 0 → with_front front (moves n (end - turn) rest) ≡ whole → whole ≡ Ok (front, rest)
    moves_are_done turn end rest e h = ended front rest _ whole (moves_done turn end rest e) h

    pub moves_are_over : (most : ℕ) (rest : List Token) → next_in move_word rest ≡ None → with_front front (moves n most rest) ≡ whole → whole ≡ Ok (front, rest)
    moves_are_over most rest e h = ended front rest _ whole (moves_end most rest e) h

    pub move_fails : (e : Stop) (turn end : ℕ) (rest behind : List Token) (strong : Bool) (at : Pos) → turn < end → IsNext move_word rest strong at behind → Fails e (move_from n strong at behind) →
        with_front front (moves n (end - turn) rest) ≡ whole → Fails e whole
    move_fails e turn end rest behind strong at lt b f h =
        failed e front _ whole (subst (Fails e) (sym (moves_step turn end rest behind strong at lt b)) (bound_fails e (move_from n strong at behind) _ f)) h

    pub moves_go_on : (turn end : ℕ) (rest behind : List Token) (strong : Bool) (at : Pos) (xs : List Move) (after : List Token) → turn < end → IsNext move_word rest strong at behind →
        move_from n strong at behind ≡ Ok (xs, after) → with_front front (moves n (end - turn) rest) ≡ whole → with_front (front ++ xs) (moves n (end - (turn + 1)) after) ≡ whole
    unfolding ◌>>=◌
    moves_go_on turn end rest behind strong at xs after lt b e h =
        several_before front xs (moves n (end - (turn + 1)) after)
        ∙ sym (ap (with_front front) (moves_step turn end rest behind strong at lt b ∙ ap (λ r. r >>= λ ms. moves n (end - (turn + 1)) ms.1 >>= λ os. Ok (ms.0 ++ os.0, os.1)) e)) ∙ h
