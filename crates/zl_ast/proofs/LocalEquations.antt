-- The same for equations.
use Rattle.std.proofs.Common.{◌≡◌, ℕ, zero, suc, ◌≤◌, Bool, true, false, List, [], ◌∷◌, ◌++◌, length, Option, Some, None, Ok, arith, refl, ap}
use Rattle.zl_lexer.specs.declared.token.Token.{Token}
use Rattle.zl_lexer.specs.declared.token.TokenKind.{TokenKind}
use Rattle.zl_lexer.specs.declared.token.TokenKind.TheVariants as kind
use Rattle.zl_lexer.specs.declared.token.Word.TheVariants as word
use Rattle.zl_lexer.specs.declared.token.Sign.TheVariants as sign
use Rattle.zl_value.specs.declared.position.Pos.{Pos}
use Rattle.zl_ast.specs.declared.eqn.Eqn.{Eqn}
use Rattle.zl_ast.specs.declared.eqn.Eqn.TheVariants as eqn_tree
use Rattle.zl_ast.specs.declared.eqn.Move.{Move}
use Rattle.zl_ast.specs.Operators.{move_word, entry_word}
use Rattle.zl_ast.specs.Reading.{Reader, ◌>>=◌, nothing, same_mark, next_is, name, list_of, maybe, pass, to_close}
use Rattle.zl_ast.specs.ReadingExpressions.{read_expr}
use Rattle.zl_ast.specs.ReadingEquations.{less, expr_below, up, event, cond_at, cond, reset_arm, alt, alts_at, alts, move_from, moves_at, moves, state_end_at, state_end, locals, do_ends, do_eqs_at, do_eqs, body, arm, state, eqn_at, eqn, read_eqs}
use Rattle.zl_ast.proofs.OneDeeper.{further}
use Rattle.zl_ast.proofs.Local.{behind_tail, one_behind, reached_ok, reached_parse, alike, bad_alike, reached, goes_on, Nearby, NearbyAfter, NearbyAt, after, reaches, reaches_at, take_local, find_local, name_local, nothing_local, inside_local, same_behind, fuelled_local, list_local, maybe_local, to_close_local, pass_local, tuple_local, expr_local, below_local}

up_local : (n : ℕ) → Nearby (up n)
unfolding up
up_local n all us vs f h =
    goes_on _ _ (take_local (kind.Word word.Up) all us vs f h) (λ ws us vs u e he.
    goes_on _ _ (take_local (kind.Sign sign.Open) ws us vs e (behind_tail e ws he)) (λ ws us vs o e he.
    goes_on _ _ (inside_local n (expr_below n) (below_local n) ws us vs e he) (λ ws us vs x e he.
    goes_on _ _ (take_local (kind.Sign sign.Close) ws us vs e he) (λ ws us vs c e he. alike _ e (behind_tail e ws he)))))

event_local : (n : ℕ) → Nearby (event n)
event_local n = list_local (kind.Sign sign.Bar) (up n) (up_local n)

cond_at_local : (b : Bool) (n : ℕ) → Nearby (cond_at b n)
cond_at_local true n all us vs f h =
    goes_on _ _ (take_local (kind.Sign sign.Open) all us vs f h) (λ ws us vs o e he.
    goes_on _ _ (inside_local n (expr_below n) (below_local n) ws us vs e he) (λ ws us vs x e he.
    goes_on _ _ (take_local (kind.Sign sign.Close) ws us vs e he) (λ ws us vs c e he. alike _ e (behind_tail e ws he))))
cond_at_local false n all us vs f h = goes_on _ _ (event_local n all us vs f h) (λ ws us vs ups e he. alike _ e he)

cond_local : (n : ℕ) → Nearby (cond n)
unfolding cond next_is
cond_local n all us vs (t ∷ f) h = cond_at_local (next_is (kind.Sign sign.Open) (t ∷ f)) n all us vs (t ∷ f) h
cond_local n all us vs [] h = reached (reaches (cond_at (next_is (kind.Sign sign.Open) us) n) (after (cond_at (next_is (kind.Sign sign.Open) us) n) (cond_at_local (next_is (kind.Sign sign.Open) us) n)) us)

reset_arm_local : (n : ℕ) → Nearby (reset_arm n)
unfolding reset_arm
reset_arm_local n all us vs f h =
    goes_on _ _ (event_local n all us vs f h) (λ ws us vs ups e he. goes_on _ _ (take_local (kind.Sign sign.Arrow) ws us vs e he) (λ ws us vs a e he.
    goes_on _ _ (expr_local n ws us vs e (behind_tail e ws he)) (λ ws us vs x e he. alike _ e he)))

alt_local : (n : ℕ) (strong : Bool) (at : Pos) → Nearby (alt n strong at)
unfolding alt
alt_local n strong at all us vs f h =
    goes_on _ _ (cond_local n all us vs f h) (λ ws us vs c e he. goes_on _ _ (find_local entry_word ws us vs e he) (λ ws us vs w e he.
    goes_on _ _ (name_local ws us vs e (behind_tail e ws he)) (λ ws us vs x e he. alike _ e he)))

alts_at_local : (n : ℕ) (strong : Bool) (b : Bool) (again : Reader (List Move)) → Nearby again → NearbyAt (alts_at b n strong again)
alts_at_local n strong true again l all us vs t f h =
    goes_on _ _ (alt_local n strong t.at all us vs f (further h)) (λ ws us vs m e he. goes_on _ _ (l ws us vs e he) (λ ws us vs ms e he. alike _ e he))
alts_at_local n strong false again l all us vs t f h = alike [] (t ∷ f) h

alts_near : (n : ℕ) (strong : Bool) (most : ℕ) → Nearby (alts n strong most)
unfolding alts
alts_near n strong zero all us vs f h = alike [] f h
alts_near n strong (suc most) all us vs (t ∷ f) h = alts_at_local n strong (same_mark (kind.Word word.Else) t.kind) (alts n strong most) (alts_near n strong most) all us vs t f h
alts_near n strong (suc most) all [] vs [] h = reached (reached_ok ([], []) (omega arith))
alts_near n strong (suc most) all (u ∷ us) vs [] h =
    reached (reaches_at (alts_at (same_mark (kind.Word word.Else) u.kind) n strong (alts n strong most)) (alts_at_local n strong (same_mark (kind.Word word.Else) u.kind) (alts n strong most) (alts_near n strong most)) u us)

alts_at_enough : (n : ℕ) (strong : Bool) (b : Bool) (again more : Reader (List Move)) (t : Token) (ts : List Token) → ((us : List Token) → length us ≤ length ts → again us ≡ more us) →
    alts_at b n strong again t ts ≡ alts_at b n strong more t ts
alts_at_enough n strong true again more t ts e = same_behind _ _ (reaches (alt n strong t.at) (after (alt n strong t.at) (alt_local n strong t.at)) ts) (λ m lm. ap (λ r. r >>= λ ms. Ok (m.0 ∷ ms.0, ms.1)) (e m.1 lm))
alts_at_enough n strong false again more t ts e = refl

alts_enough : (n : ℕ) (strong : Bool) (m k : ℕ) (ts : List Token) → length ts ≤ m → length ts ≤ k → alts n strong m ts ≡ alts n strong k ts
unfolding alts
alts_enough n strong zero zero ts le le' = refl
alts_enough n strong zero (suc k) [] le le' = refl
alts_enough n strong (suc m) zero [] le le' = refl
alts_enough n strong (suc m) (suc k) [] le le' = refl
alts_enough n strong zero (suc k) (t ∷ ts) le le' = absurd (omega arith)
alts_enough n strong (suc m) zero (t ∷ ts) le le' = absurd (omega arith)
alts_enough n strong (suc m) (suc k) (t ∷ ts) le le' =
    alts_at_enough n strong (same_mark (kind.Word word.Else) t.kind) (alts n strong m) (alts n strong k) t ts (λ us lu. alts_enough n strong m k us (omega arith) (omega arith))

move_from_local : (n : ℕ) (strong : Bool) (at : Pos) → Nearby (move_from n strong at)
unfolding move_from
move_from_local n strong at all us vs f h =
    goes_on _ _ (alt_local n strong at all us vs f h) (λ ws us vs m e he.
    goes_on _ _ (fuelled_local (alts n strong) (record { enough = alts_enough n strong; near = alts_near n strong }) ws us vs e he) (λ ws us vs ms e he. alike _ e he))

moves_at_local : (n : ℕ) (o : Option Bool) (again : Reader (List Move)) → Nearby again → NearbyAt (moves_at o n again)
moves_at_local n (Some strong) again l all us vs t f h =
    goes_on _ _ (move_from_local n strong t.at all us vs f (further h)) (λ ws us vs ms e he. goes_on _ _ (l ws us vs e he) (λ ws us vs os e he. alike _ e he))
moves_at_local n None again l all us vs t f h = alike [] (t ∷ f) h

moves_near : (n most : ℕ) → Nearby (moves n most)
unfolding moves
moves_near n zero all us vs f h = alike [] f h
moves_near n (suc most) all us vs (t ∷ f) h = moves_at_local n (move_word t.kind) (moves n most) (moves_near n most) all us vs t f h
moves_near n (suc most) all [] vs [] h = reached (reached_ok ([], []) (omega arith))
moves_near n (suc most) all (u ∷ us) vs [] h = reached (reaches_at (moves_at (move_word u.kind) n (moves n most)) (moves_at_local n (move_word u.kind) (moves n most) (moves_near n most)) u us)

moves_at_enough : (n : ℕ) (o : Option Bool) (again more : Reader (List Move)) (t : Token) (ts : List Token) → ((us : List Token) → length us ≤ length ts → again us ≡ more us) →
    moves_at o n again t ts ≡ moves_at o n more t ts
moves_at_enough n (Some strong) again more t ts e =
    same_behind _ _ (reaches (move_from n strong t.at) (after (move_from n strong t.at) (move_from_local n strong t.at)) ts) (λ ms lm. ap (λ r. r >>= λ os. Ok (ms.0 ++ os.0, os.1)) (e ms.1 lm))
moves_at_enough n None again more t ts e = refl

moves_enough : (n m k : ℕ) (ts : List Token) → length ts ≤ m → length ts ≤ k → moves n m ts ≡ moves n k ts
unfolding moves
moves_enough n zero zero ts le le' = refl
moves_enough n zero (suc k) [] le le' = refl
moves_enough n (suc m) zero [] le le' = refl
moves_enough n (suc m) (suc k) [] le le' = refl
moves_enough n zero (suc k) (t ∷ ts) le le' = absurd (omega arith)
moves_enough n (suc m) zero (t ∷ ts) le le' = absurd (omega arith)
moves_enough n (suc m) (suc k) (t ∷ ts) le le' =
    moves_at_enough n (move_word t.kind) (moves n m) (moves n k) t ts (λ us lu. moves_enough n m k us (omega arith) (omega arith))

state_end_at_local : (n : ℕ) (b : Bool) → Nearby (state_end_at b n)
state_end_at_local n true all us vs f h = goes_on _ _ (take_local (kind.Word word.Done) all us vs f h) (λ ws us vs d e he. alike [] e (behind_tail e ws he))
state_end_at_local n false all us vs f h =
    goes_on _ _ (find_local move_word all us vs f h) (λ ws us vs w e he. goes_on _ _ (move_from_local n w.0 w.1 ws us vs e (behind_tail e ws he)) (λ ws us vs ms e he.
    goes_on _ _ (fuelled_local (moves n) (record { enough = moves_enough n; near = moves_near n }) ws us vs e he) (λ ws us vs os e he. alike _ e he)))

state_end_local : (n : ℕ) → Nearby (state_end n)
unfolding state_end next_is
state_end_local n all us vs (t ∷ f) h = state_end_at_local n (next_is (kind.Word word.Done) (t ∷ f)) all us vs (t ∷ f) h
state_end_local n all us vs [] h =
    reached (reaches (state_end_at (next_is (kind.Word word.Done) us) n) (after (state_end_at (next_is (kind.Word word.Done) us) n) (state_end_at_local n (next_is (kind.Word word.Done) us))) us)

locals_local : Nearby locals
unfolding locals
locals_local all us vs f h =
    goes_on _ _ (list_local (kind.Sign sign.Comma) name name_local all us vs f h) (λ ws us vs xs e he.
    goes_on _ _ (take_local (kind.Word word.In) ws us vs e he) (λ ws us vs i e he. alike xs e (behind_tail e ws he)))

maybe_locals_local : Nearby (maybe (kind.Word word.Local) locals)
maybe_locals_local = maybe_local (kind.Word word.Local) locals (after locals locals_local)

-- an equation that may have an "end"
to_end : (x : Eqn) → Nearby (λ ts. Ok (x, pass (kind.Word word.End) ts))
to_end x = pass_local (kind.Word word.End) (λ ts. Ok (x, ts)) (λ all us vs f h. alike x f h)

module _ (p : Reader (List Eqn)) (l : NearbyAfter p) where
  do_at_local : (b : Bool) → NearbyAfter (do_eqs_at b p)
  do_at_local true all us vs f h = alike [] f (behind_tail f all h)
  do_at_local false all us vs f h = l all us vs f h

  do_local : NearbyAfter (do_eqs p)
  unfolding do_eqs do_ends
  do_local all us vs (t ∷ f) h = do_at_local (do_ends (t ∷ f)) all us vs (t ∷ f) h
  do_local all us vs [] h = reached (reaches (do_eqs_at (do_ends us) p) (do_at_local (do_ends us)) us)

  module _ (n : ℕ) where
    body_local : Nearby (body n p)
    unfolding body
    body_local all us vs f h =
        goes_on _ _ (maybe_locals_local all us vs f h) (λ ws us vs x e he. goes_on _ _ (take_local (kind.Word word.Do) ws us vs e he) (λ ws us vs d e he.
        goes_on _ _ (inside_local n (do_eqs p) do_local ws us vs e he) (λ ws us vs es e he.
        goes_on _ _ (take_local (kind.Word word.Done) ws us vs e he) (λ ws us vs d e he. alike _ e (behind_tail e ws he)))))

    arm_local : Nearby (arm n p)
    unfolding arm
    arm_local all us vs f h =
        goes_on _ _ (cond_local n all us vs f h) (λ ws us vs c e he. goes_on _ _ (take_local (kind.Sign sign.Arrow) ws us vs e he) (λ ws us vs a e he.
        goes_on _ _ (body_local ws us vs e (behind_tail e ws he)) (λ ws us vs b e he. alike _ e he)))

    state_local : Nearby (state n p)
    unfolding state
    state_local all us vs f h =
        goes_on _ _ (name_local all us vs f h) (λ ws us vs x e he. goes_on _ _ (take_local (kind.Sign sign.Arrow) ws us vs e he) (λ ws us vs a e he.
        goes_on _ _ (maybe_locals_local ws us vs e (behind_tail e ws he)) (λ ws us vs y e he.
        goes_on _ _ (take_local (kind.Word word.Do) ws us vs e he) (λ ws us vs d e he.
        goes_on _ _ (inside_local n (do_eqs p) do_local ws us vs e he) (λ ws us vs es e he.
        goes_on _ _ (state_end_local (less n) ws us vs e he) (λ ws us vs ms e he. alike _ e he))))))

    -- an equation that begins with this token, of this kind
    eqn_at_local : (k : TokenKind) → NearbyAt (λ t ts. eqn_at n p (t ∷ ts) t.at ts k)
    unfolding eqn_at
    eqn_at_local (kind.Name id) all us vs t f h =
        goes_on _ _ (take_local (kind.Sign sign.Equal) all us vs f (further h)) (λ ws us vs q e he.
        goes_on _ _ (expr_local n ws us vs e (behind_tail e ws he)) (λ ws us vs x e he. alike _ e he))
    eqn_at_local (kind.Sign sign.Open) all us vs t f h =
        goes_on _ _ (tuple_local n all us vs (t ∷ f) h) (λ ws us vs xs e he. goes_on _ _ (take_local (kind.Sign sign.Equal) ws us vs e he) (λ ws us vs q e he.
        goes_on _ _ (name_local ws us vs e (behind_tail e ws he)) (λ ws us vs g e he. goes_on _ _ (take_local (kind.Sign sign.Open) ws us vs e he) (λ ws us vs o e he.
        goes_on _ _ (inside_local n (to_close (expr_below n)) (to_close_local (expr_below n) (below_local n)) ws us vs e he) (λ ws us vs args e he. alike _ e he)))))
    eqn_at_local (kind.Word word.Der) all us vs t f h =
        goes_on _ _ (name_local all us vs f (further h)) (λ ws us vs x e he. goes_on _ _ (take_local (kind.Sign sign.Equal) ws us vs e he) (λ ws us vs q e he.
        goes_on _ _ (expr_local n ws us vs e (behind_tail e ws he)) (λ ws us vs s e he.
        goes_on _ _ (maybe_local (kind.Word word.Init) (read_expr n) (after (read_expr n) (expr_local n)) ws us vs e he) (λ ws us vs i e he.
        goes_on _ _ (maybe_local (kind.Word word.Reset) (list_of (kind.Sign sign.Bar) (reset_arm n)) (after (list_of (kind.Sign sign.Bar) (reset_arm n)) (list_local (kind.Sign sign.Bar) (reset_arm n) (reset_arm_local n))) ws us vs e he) (λ ws us vs r e he. alike _ e he)))))
    eqn_at_local (kind.Word word.Init) all us vs t f h =
        goes_on _ _ (name_local all us vs f (further h)) (λ ws us vs x e he. goes_on _ _ (take_local (kind.Sign sign.Equal) ws us vs e he) (λ ws us vs q e he.
        goes_on _ _ (expr_local n ws us vs e (behind_tail e ws he)) (λ ws us vs v e he. alike _ e he)))
    eqn_at_local (kind.Word word.Present) all us vs t f h =
        goes_on _ _ (pass_local (kind.Sign sign.Bar) (list_of (kind.Sign sign.Bar) (arm n p)) (list_local (kind.Sign sign.Bar) (arm n p) arm_local) all us vs f (further h)) (λ ws us vs a e he.
        goes_on _ _ (maybe_local (kind.Word word.Else) (body n p) (after (body n p) body_local) ws us vs e he) (λ ws us vs b e he. to_end (eqn_tree.Present t.at a b) ws us vs e he))
    eqn_at_local (kind.Word word.Automaton) all us vs t f h =
        goes_on _ _ (pass_local (kind.Sign sign.Bar) (list_of (kind.Sign sign.Bar) (state n p)) (list_local (kind.Sign sign.Bar) (state n p) state_local) all us vs f (further h)) (λ ws us vs s e he. to_end (eqn_tree.Automaton t.at s) ws us vs e he)
    eqn_at_local (kind.Word word.Reset) all us vs t f h =
        goes_on _ _ (inside_local n p l all us vs f (one_behind t f all h)) (λ ws us vs es e he.
        goes_on _ _ (take_local (kind.Word word.Every) ws us vs e he) (λ ws us vs q e he.
        goes_on _ _ (cond_local (less n) ws us vs e (behind_tail e ws he)) (λ ws us vs c e he. alike _ e he)))
    eqn_at_local _ all us vs t f h = bad_alike t f h

    eqn_local : Nearby (eqn n p)
    unfolding eqn
    eqn_local all us vs (t ∷ f) h = eqn_at_local t.kind all us vs t f h
    eqn_local all [] vs [] h = reached (reached_parse 0 (omega arith))
    eqn_local all (u ∷ us) vs [] h = reached (reaches_at (λ t ts. eqn_at n p (t ∷ ts) t.at ts u.kind) (eqn_at_local u.kind) u us)

pub eqs_local : (n : ℕ) → Nearby (read_eqs n)
unfolding read_eqs
eqs_local zero = list_local (kind.Word word.And) (eqn zero nothing) (eqn_local nothing nothing_local zero)
eqs_local (suc n) = list_local (kind.Word word.And) (eqn (suc n) (read_eqs n)) (eqn_local (read_eqs n) (after (read_eqs n) (eqs_local n)) (suc n))
