-- The reading of equations agrees with their grammar.
use Rattle.std.proofs.Common.{◌≡◌, ℕ, zero, suc, ◌≤◌, Bool, true, false, List, [], ◌∷◌, ◌++◌, length, Option, Some, None, Result, Ok, arith, refl, ap, ◌∙◌}
use Rattle.zl_lexer.specs.declared.token.Token.{Token}
use Rattle.zl_lexer.specs.declared.token.TokenKind.{TokenKind}
use Rattle.zl_lexer.specs.declared.token.TokenKind.TheVariants as kind
use Rattle.zl_lexer.specs.declared.token.Word.TheVariants as word
use Rattle.zl_lexer.specs.declared.token.Sign.TheVariants as sign
use Rattle.zl_value.specs.declared.position.Pos.{Pos}
use Rattle.zl_ast.specs.declared.name.Name.{Name}
use Rattle.zl_ast.specs.declared.eqn.Eqn.{Eqn}
use Rattle.zl_ast.specs.declared.eqn.Eqn.TheVariants as eqn_tree
use Rattle.zl_ast.specs.declared.eqn.Up.{Up}
use Rattle.zl_ast.specs.declared.eqn.Move.{Move}
use Rattle.zl_ast.specs.Phrases.{Phrase, Nothing, Takes, takes, NotNext, Finds, finds, NoneNext, IsName, ListOf, Maybe, Passes, ToClose, IsTuple, listed}
use Rattle.zl_ast.specs.Phrases as phrases
use Rattle.zl_ast.specs.Operators.{move_word, entry_word}
use Rattle.zl_ast.specs.Expressions.{IsExpr}
use Rattle.zl_ast.specs.Equations.{IsUp, IsEvent, IsCond, IsResetArm, IsAlt, MoreAlts, IsMove, MoreMoves, IsStateEnd, IsLocals, ends_do, DoEqs, BodyOf, ArmOf, StateOf, EqnOf, IsEqs}
use Rattle.zl_ast.specs.Equations as q
use Rattle.zl_ast.specs.Reading.{Fault, Reader, ◌>>=◌, nothing, same_mark, next_is, take, name, list_of, maybe, pass, to_close, tuple}
use Rattle.zl_ast.specs.ReadingExpressions.{read_expr}
use Rattle.zl_ast.specs.ReadingEquations.{up, event, cond_at, cond, reset_arm, alt, alts_at, alts, move_from, moves_at, moves, state_end_at, state_end, locals, do_ends, do_eqs_at, do_eqs, body, arm, state, eqn_at, eqn, read_eqs}
use Rattle.zl_ast.specs.Spots.{all_spots, one_name, expr_spots, up_spots, reset_arm_spots, eqn_spots, arm_spots, state_spots}
use Rattle.zl_ast.proofs.Passages.{Within, no_longer, names_within, found_unkept}
use Rattle.zl_ast.proofs.PassagesOfExpressions.{nothing_within, expr_within}
use Rattle.zl_ast.proofs.PassagesOfEquations.{up_within, cond_within, reset_arm_within, alts_within, arm_within, state_within, eqn_within, eqs_within}
use Rattle.zl_ast.proofs.FirstTokens.{FirstIs, Begins, first_taken, first_name, never_first, begins_list}
use Rattle.zl_ast.proofs.AgreeingExpressions.{shrinks_of, expr_agrees, close_never_first}
use Rattle.zl_ast.proofs.Readers.{Only, is, fault, ◌then◌, ◌then_is◌, gives, Sound, Complete, Shrinks, Agrees, nothing_agrees, mark_is, is_same, not_same, take_sound, take_complete, next_true, next_false, not_next, find_sound, find_complete, name_sound, name_complete, name_agrees, none_inside, inside_sound, inside_complete, list_agrees, maybe_agrees, pass_sound, pass_complete, to_close_agrees}

-- ---- names in parentheses

name_shrinks : Shrinks IsName
name_shrinks = shrinks_of one_name IsName names_within

names_agree : Agrees (ListOf (kind.Sign sign.Comma) IsName) (list_of (kind.Sign sign.Comma) name)
names_agree = list_agrees (kind.Sign sign.Comma) tt IsName name name_agrees name_shrinks

pub tuple_zero : {B : Type 0} {Q : B → Type 0} (f : List Name × List Token → Result B Fault) (ts : List Token) → Only Q (tuple zero ts >>= f)
unfolding tuple
tuple_zero f ts =
    let h : Only (λ y. ⊥) (tuple zero ts) = take_sound (kind.Sign sign.Open) tt ts then λ o ho. none_inside _ name o.1 in
    h then λ x p. absurd p

pub tuple_sound : (n : ℕ) (ts : List Token) → Only (λ y. IsTuple ts y.0 y.1) (tuple (suc n) ts)
unfolding tuple
tuple_sound n ts =
    take_sound (kind.Sign sign.Open) tt ts then λ o ho. inside_sound n name o.1 (name_sound o.1) then λ x hx.
    take_sound (kind.Sign sign.Comma) tt x.1 then λ c hc. names_agree.sound c.1 then λ xs hxs.
    take_sound (kind.Sign sign.Close) tt xs.1 then λ d hd. is (phrases.tuple ho hx hc hxs hd)

pub tuple_complete : (n : ℕ) → Complete IsTuple (tuple (suc n))
unfolding tuple
tuple_complete n _ _ _ (phrases.tuple o x c xs d) =
    gives _ (take_complete tt o) (gives _ (inside_complete n name _ (name_complete _ _ _ x)) (gives _ (take_complete tt c)
    (gives _ (names_agree.complete _ _ _ xs) (gives _ (take_complete tt d) refl))))

-- ---- conditions

up_sound : (n : ℕ) → Sound (IsUp n) (up n)
unfolding up
up_sound zero ts = take_sound (kind.Word word.Up) tt ts then λ u hu. take_sound (kind.Sign sign.Open) tt u.1 then λ o ho. none_inside _ nothing o.1
up_sound (suc n) ts =
    take_sound (kind.Word word.Up) tt ts then λ u hu. take_sound (kind.Sign sign.Open) tt u.1 then λ o ho.
    inside_sound n (read_expr n) o.1 ((expr_agrees n).sound o.1) then λ x hx. take_sound (kind.Sign sign.Close) tt x.1 then λ c hc. is (q.up hu ho hx hc)

up_complete : (n : ℕ) → Complete (IsUp n) (up n)
unfolding up
up_complete _ _ _ _ (q.up {n = n} u o x c) =
    gives _ (take_complete tt u) (gives _ (take_complete tt o) (gives _ (inside_complete n (read_expr n) _ ((expr_agrees n).complete _ _ _ x)) (gives _ (take_complete tt c) refl)))

up_agrees : (n : ℕ) → Agrees (IsUp n) (up n)
up_agrees n = record { sound = up_sound n; complete = up_complete n }

event_agrees : (n : ℕ) → Agrees (IsEvent n) (event n)
event_agrees n = list_agrees (kind.Sign sign.Bar) tt (IsUp n) (up n) (up_agrees n) (shrinks_of up_spots (IsUp n) (up_within n))

abbrev starts_up : TokenKind → Bool
starts_up (kind.Word word.Up) = true
starts_up _ = false

begins_up : (n : ℕ) → Begins starts_up (IsUp n)
begins_up _ _ _ _ (q.up u _ _ _) = first_taken starts_up refl u

not_open : (n : ℕ) (ts : List Token) (ups : List Up) (rest : List Token) → IsEvent n ts ups rest → next_is (kind.Sign sign.Open) ts ≡ false
not_open n ts ups rest h = next_false (kind.Sign sign.Open) ts tt (never_first starts_up (kind.Sign sign.Open) refl ts (begins_list starts_up (IsUp n) (begins_up n) _ ts ups rest h))

cond_at_sound : (n : ℕ) (ts : List Token) (b : Bool) → Only (λ y. IsCond n ts y.0 y.1) (cond_at b n ts)
cond_at_sound n ts false = (event_agrees n).sound ts then λ ups h. is (q.event h)
cond_at_sound zero ts true = take_sound (kind.Sign sign.Open) tt ts then λ o ho. none_inside _ nothing o.1
cond_at_sound (suc n) ts true =
    take_sound (kind.Sign sign.Open) tt ts then λ o ho. inside_sound n (read_expr n) o.1 ((expr_agrees n).sound o.1) then λ x hx.
    take_sound (kind.Sign sign.Close) tt x.1 then λ c hc. is (q.test ho hx hc)

cond_complete : (n : ℕ) → Complete (IsCond n) (cond n)
unfolding cond
cond_complete n _ _ _ (q.event {ts = ts} h) = ap (λ b. cond_at b n ts) (not_open n _ _ _ h) ∙ gives _ ((event_agrees n).complete _ _ _ h) refl
cond_complete _ _ _ _ (q.test {n = n} {ts = ts} o x c) =
    ap (λ b. cond_at b (suc n) ts) (next_true tt o) ∙
    gives _ (take_complete tt o) (gives _ (inside_complete n (read_expr n) _ ((expr_agrees n).complete _ _ _ x)) (gives _ (take_complete tt c) refl))

pub cond_agrees : (n : ℕ) → Agrees (IsCond n) (cond n)
unfolding cond
cond_agrees n = record { sound = λ ts. cond_at_sound n ts (next_is (kind.Sign sign.Open) ts); complete = cond_complete n }

reset_arm_complete : (n : ℕ) → Complete (IsResetArm n) (reset_arm n)
unfolding reset_arm
reset_arm_complete n _ _ _ (q.reset_arm h a x) = gives _ ((event_agrees n).complete _ _ _ h) (gives _ (take_complete tt a) (gives _ ((expr_agrees n).complete _ _ _ x) refl))

reset_arm_agrees : (n : ℕ) → Agrees (IsResetArm n) (reset_arm n)
unfolding reset_arm
reset_arm_agrees n = record {
  sound = λ ts. (event_agrees n).sound ts then λ ups hu. take_sound (kind.Sign sign.Arrow) tt ups.1 then λ a ha. (expr_agrees n).sound a.1 then λ x hx. is (q.reset_arm hu ha hx);
  complete = reset_arm_complete n;
}

-- ---- moves

alt_complete : (n : ℕ) (strong : Bool) (at : Pos) → Complete (IsAlt n strong at) (alt n strong at)
unfolding alt
alt_complete n strong at _ _ _ (q.alt c w x) = gives _ ((cond_agrees n).complete _ _ _ c) (gives _ (find_complete w) (gives _ (name_complete _ _ _ x) refl))

alt_agrees : (n : ℕ) (strong : Bool) (at : Pos) → Agrees (IsAlt n strong at) (alt n strong at)
unfolding alt
alt_agrees n strong at = record {
  sound = λ ts. (cond_agrees n).sound ts then λ c hc. find_sound entry_word c.1 then λ w hw. name_sound w.1 then λ x hx. is (q.alt hc hw hx);
  complete = alt_complete n strong at;
}

alt_shrinks : (n : ℕ) (strong : Bool) (at : Pos) → Shrinks (IsAlt n strong at)
alt_shrinks n strong at _ _ _ (q.alt c w x) =
    let a = no_longer (cond_within n _ _ _ c) in
    let b = no_longer (found_unkept w) in
    let d = name_shrinks _ _ _ x in
    omega arith

taken_less : {k : TokenKind} {ts rest : List Token} {at : Pos} → Takes k ts at rest → suc (length rest) ≤ length ts
taken_less (takes t e) = omega arith

found_less : {A : Type 0} {table : TokenKind → Option A} {ts rest : List Token} {a : A} {at : Pos} → Finds table ts a at rest → suc (length rest) ≤ length ts
found_less (finds t a h) = omega arith

abbrev else_word : TokenKind
else_word = kind.Word word.Else

module _ (n : ℕ) (strong : Bool) where
  alts_at_sound : (most : ℕ) (t : Token) (ts : List Token) → length ts ≤ most → (b : Bool) → same_mark else_word t.kind ≡ b →
      ((vs : List Token) → length vs ≤ most → Only (λ y. MoreAlts n strong vs y.0 y.1) (alts n strong most vs)) →
      Only (λ y. MoreAlts n strong (t ∷ ts) y.0 y.1) (alts_at b n strong (alts n strong most) t ts)
  unfolding next_is
  alts_at_sound most t ts le false h again = is (q.no_alts (not_next else_word (t ∷ ts) tt h))
  alts_at_sound most t ts le true h again =
      (alt_agrees n strong t.at).sound ts then λ m hm. again m.1 (let s = alt_shrinks n strong t.at _ _ _ hm in omega arith) then λ ms hms.
      is (q.more_alts (takes t (mark_is else_word t.kind tt h)) hm hms)

  alts_sound : (most : ℕ) (ts : List Token) → length ts ≤ most → Only (λ y. MoreAlts n strong ts y.0 y.1) (alts n strong most ts)
  unfolding alts
  alts_sound zero [] le = is (q.no_alts tt)
  alts_sound zero (t ∷ ts) le = absurd (omega arith)
  alts_sound (suc most) [] le = is (q.no_alts tt)
  alts_sound (suc most) (t ∷ ts) le = alts_at_sound most t ts (omega arith) (same_mark else_word t.kind) refl (λ vs lv. alts_sound most vs lv)

  alts_none : (most : ℕ) (ts : List Token) → NotNext else_word ts → alts n strong most ts ≡ Ok ([], ts)
  unfolding alts
  alts_none zero ts h = refl
  alts_none (suc most) [] h = refl
  alts_none (suc most) (t ∷ ts) h = ap (λ b. alts_at b n strong (alts n strong most) t ts) (not_same else_word t.kind tt h)

  alts_step : (most : ℕ) {ts us vs rest : List Token} {at : Pos} {m : Move} {ms : List Move} → Takes else_word ts at us → alt n strong at us ≡ Ok (m, vs) →
      alts n strong most vs ≡ Ok (ms, rest) → alts n strong (suc most) ts ≡ Ok (m ∷ ms, rest)
  unfolding alts
  alts_step most (takes t {ts = ts} e) h again =
      ap (λ b. alts_at b n strong (alts n strong most) t ts) (is_same else_word t.kind tt e) ∙ gives _ h (gives _ again refl)

  alts_complete : (most : ℕ) (ts : List Token) (ms : List Move) (rest : List Token) → MoreAlts n strong ts ms rest → length ts ≤ most → alts n strong most ts ≡ Ok (ms, rest)
  alts_complete most _ _ _ (q.no_alts {ts = ts} h) le = alts_none most ts h
  alts_complete zero _ _ _ (q.more_alts e h hs) le = absurd (let a = taken_less e in omega arith)
  alts_complete (suc most) _ _ _ (q.more_alts {at = at} e h hs) le =
      let a = taken_less e in
      let b = alt_shrinks n strong at _ _ _ h in
      alts_step most e ((alt_agrees n strong at).complete _ _ _ h) (alts_complete most _ _ _ hs (omega arith))

-- a move behind its first word
data MoveFrom (n : ℕ) (strong : Bool) (at : Pos) : List Token → List Move → List Token → Type 0 where
  from : {ts us rest : List Token} {m : Move} {ms : List Move} → IsAlt n strong at ts m us → MoreAlts n strong us ms rest → MoveFrom n strong at ts (m ∷ ms) rest

move_from_complete : (n : ℕ) (strong : Bool) (at : Pos) {ts us rest : List Token} {m : Move} {ms : List Move} → IsAlt n strong at ts m us → MoreAlts n strong us ms rest →
    move_from n strong at ts ≡ Ok (m ∷ ms, rest)
unfolding move_from
move_from_complete n strong at {us = us} h hs =
    gives _ ((alt_agrees n strong at).complete _ _ _ h) (gives _ (alts_complete n strong (length us) _ _ _ hs (omega arith)) refl)

move_from_sound : (n : ℕ) (strong : Bool) (at : Pos) → Sound (MoveFrom n strong at) (move_from n strong at)
unfolding move_from
move_from_sound n strong at ts = (alt_agrees n strong at).sound ts then λ m hm. alts_sound n strong (length m.1) m.1 (omega arith) then λ ms hms. is (from hm hms)

whole_move : {n : ℕ} {strong : Bool} {at : Pos} {ts us rest : List Token} {ms : List Move} → Finds move_word ts strong at us → MoveFrom n strong at us ms rest → IsMove n ts ms rest
whole_move w (from h hs) = q.move w h hs

move_shorter : (n : ℕ) (ts : List Token) (ms : List Move) (rest : List Token) → IsMove n ts ms rest → suc (length rest) ≤ length ts
move_shorter n _ _ _ (q.move {at = at} {strong = strong} w h hs) =
    let a = found_less w in
    let b = alt_shrinks n strong at _ _ _ h in
    let c = no_longer (alts_within n strong _ _ _ hs) in
    omega arith

module _ (n : ℕ) where
  moves_at_sound : (most : ℕ) (t : Token) (ts : List Token) → length ts ≤ most → (o : Option Bool) → move_word t.kind ≡ o →
      ((vs : List Token) → length vs ≤ most → Only (λ y. MoreMoves n vs y.0 y.1) (moves n most vs)) →
      Only (λ y. MoreMoves n (t ∷ ts) y.0 y.1) (moves_at o n (moves n most) t ts)
  moves_at_sound most t ts le None h again = is (q.no_moves h)
  moves_at_sound most t ts le (Some strong) h again =
      move_from_sound n strong t.at ts then λ ms hms.
      let w : IsMove n (t ∷ ts) ms.0 ms.1 = whole_move (finds t strong h) hms in
      again ms.1 (let s = move_shorter n _ _ _ w in omega arith) then λ os hos. is (q.more_moves w hos)

  moves_sound : (most : ℕ) (ts : List Token) → length ts ≤ most → Only (λ y. MoreMoves n ts y.0 y.1) (moves n most ts)
  unfolding moves
  moves_sound zero [] le = is (q.no_moves tt)
  moves_sound zero (t ∷ ts) le = absurd (omega arith)
  moves_sound (suc most) [] le = is (q.no_moves tt)
  moves_sound (suc most) (t ∷ ts) le = moves_at_sound most t ts (omega arith) (move_word t.kind) refl (λ vs lv. moves_sound most vs lv)

  moves_none : (most : ℕ) (ts : List Token) → NoneNext move_word ts → moves n most ts ≡ Ok ([], ts)
  unfolding moves
  moves_none zero ts h = refl
  moves_none (suc most) [] h = refl
  moves_none (suc most) (t ∷ ts) h = ap (λ o. moves_at o n (moves n most) t ts) h

  moves_step : (most : ℕ) {ts us vs rest : List Token} {strong : Bool} {at : Pos} {ms os : List Move} → Finds move_word ts strong at us → move_from n strong at us ≡ Ok (ms, vs) →
      moves n most vs ≡ Ok (os, rest) → moves n (suc most) ts ≡ Ok (ms ++ os, rest)
  unfolding moves
  moves_step most (finds t {ts = ts} strong w) h again = ap (λ o. moves_at o n (moves n most) t ts) w ∙ gives _ h (gives _ again refl)

  one_move : (most : ℕ) {ts us rest : List Token} {ms os : List Move} → IsMove n ts ms us → moves n most us ≡ Ok (os, rest) → moves n (suc most) ts ≡ Ok (ms ++ os, rest)
  one_move most (q.move {at = at} {strong = strong} w h hs) again = moves_step most w (move_from_complete n strong at h hs) again

  moves_complete : (most : ℕ) (ts : List Token) (ms : List Move) (rest : List Token) → MoreMoves n ts ms rest → length ts ≤ most → moves n most ts ≡ Ok (ms, rest)
  moves_complete most _ _ _ (q.no_moves {ts = ts} h) le = moves_none most ts h
  moves_complete zero _ _ _ (q.more_moves h hs) le = absurd (let a = move_shorter n _ _ _ h in omega arith)
  moves_complete (suc most) _ _ _ (q.more_moves h hs) le =
      let a = move_shorter n _ _ _ h in
      one_move most h (moves_complete most _ _ _ hs (omega arith))

  state_end_at_sound : (ts : List Token) (b : Bool) → Only (λ y. IsStateEnd n ts y.0 y.1) (state_end_at b n ts)
  state_end_at_sound ts true = take_sound (kind.Word word.Done) tt ts then λ d hd. is (q.done hd)
  state_end_at_sound ts false =
      find_sound move_word ts then λ w hw. move_from_sound n w.0.0 w.0.1 w.1 then λ ms hms. moves_sound (length ms.1) ms.1 (omega arith) then λ os hos.
      is (q.moves (whole_move hw hms) hos)

  found_not_done : {ts rest : List Token} {strong : Bool} {at : Pos} → Finds move_word ts strong at rest → next_is (kind.Word word.Done) ts ≡ false
  found_not_done (finds t {ts = ts} strong w) = next_false (kind.Word word.Done) (t ∷ ts) tt (λ h. let g = ap move_word h in cc)

  first_move : {ts us rest : List Token} {ms os : List Move} → IsMove n ts ms us → moves n (length us) us ≡ Ok (os, rest) → state_end n ts ≡ Ok (ms ++ os, rest)
  unfolding state_end
  first_move (q.move {at = at} {ts = ts} {strong = strong} w h hs) again =
      ap (λ b. state_end_at b n ts) (found_not_done w) ∙ gives _ (find_complete w) (gives _ (move_from_complete n strong at h hs) (gives _ again refl))

  state_end_complete : Complete (IsStateEnd n) (state_end n)
  unfolding state_end
  state_end_complete _ _ _ (q.done {ts = ts} h) = ap (λ b. state_end_at b n ts) (next_true tt h) ∙ gives _ (take_complete tt h) refl
  state_end_complete _ _ _ (q.moves {us = us} h hs) = first_move h (moves_complete (length us) _ _ _ hs (omega arith))

  state_end_agrees : Agrees (IsStateEnd n) (state_end n)
  unfolding state_end
  state_end_agrees = record { sound = λ ts. state_end_at_sound ts (next_is (kind.Word word.Done) ts); complete = state_end_complete }

locals_complete : Complete IsLocals locals
unfolding locals
locals_complete _ _ _ (q.locals hs i) = gives _ (names_agree.complete _ _ _ hs) (gives _ (take_complete tt i) refl)

locals_agree : Agrees IsLocals locals
unfolding locals
locals_agree = record {
  sound = λ ts. names_agree.sound ts then λ xs hxs. take_sound (kind.Word word.In) tt xs.1 then λ i hi. is (q.locals hxs hi);
  complete = locals_complete;
}

maybe_locals_agree : Agrees (Maybe (kind.Word word.Local) IsLocals) (maybe (kind.Word word.Local) locals)
maybe_locals_agree = maybe_agrees (kind.Word word.Local) tt IsLocals locals locals_agree

-- ---- first tokens of equations

abbrev starts_eqn : TokenKind → Bool
starts_eqn (kind.Name id) = true
starts_eqn (kind.Sign sign.Open) = true
starts_eqn (kind.Word word.Der) = true
starts_eqn (kind.Word word.Init) = true
starts_eqn (kind.Word word.Present) = true
starts_eqn (kind.Word word.Automaton) = true
starts_eqn (kind.Word word.Reset) = true
starts_eqn _ = false

eqn_ends_not : (k : TokenKind) → starts_eqn k ≡ true → ends_do k ≡ false
eqn_ends_not (kind.Word word.Done) h = cc
eqn_ends_not (kind.Word word.Until) h = cc
eqn_ends_not (kind.Word word.Unless) h = cc
eqn_ends_not _ h = refl

first_tuple : (ts : List Token) (xs : List Name) (rest : List Token) → IsTuple ts xs rest → FirstIs starts_eqn ts
first_tuple _ _ _ (phrases.tuple o _ _ _ _) = first_taken starts_eqn refl o

begins_eqn : (Inside : Phrase (List Eqn)) (n : ℕ) → Begins starts_eqn (EqnOf Inside n)
begins_eqn Inside n _ _ _ (q.one x _ _) = first_name starts_eqn (λ id. refl) x
begins_eqn Inside n _ _ _ (q.several xs _ _ _ _) = first_tuple _ _ _ xs
begins_eqn Inside n _ _ _ (q.der w _ _ _ _ _) = first_taken starts_eqn refl w
begins_eqn Inside n _ _ _ (q.start w _ _ _) = first_taken starts_eqn refl w
begins_eqn Inside n _ _ _ (q.present_of w _ _ _ _) = first_taken starts_eqn refl w
begins_eqn Inside n _ _ _ (q.automaton w _ _ _) = first_taken starts_eqn refl w
begins_eqn Inside n _ _ _ (q.reset w _ _ _) = first_taken starts_eqn refl w

begins_eqs : (n : ℕ) → Begins starts_eqn (IsEqs n)
unfolding IsEqs
begins_eqs zero = begins_list starts_eqn (EqnOf Nothing zero) (begins_eqn Nothing zero) (kind.Word word.And)
begins_eqs (suc n) = begins_list starts_eqn (EqnOf (IsEqs n) (suc n)) (begins_eqn (IsEqs n) (suc n)) (kind.Word word.And)

go_on : (ts : List Token) → FirstIs starts_eqn ts → do_ends ts ≡ false
unfolding do_ends
go_on [] h = refl
go_on (t ∷ ts) h = eqn_ends_not t.kind h

-- ---- equations

module _ (Inside : Phrase (List Eqn)) (eqs : Reader (List Eqn)) (agrees : Agrees Inside eqs) (within : Within (all_spots eqn_spots) Inside) (begins : Begins starts_eqn Inside) where
  do_eqs_at_sound : (ts : List Token) (b : Bool) → do_ends ts ≡ b → Only (λ y. DoEqs Inside ts y.0 y.1) (do_eqs_at b eqs ts)
  unfolding do_ends
  do_eqs_at_sound [] true h = cc
  do_eqs_at_sound (t ∷ ts) true h = is (q.no_eqs t h)
  do_eqs_at_sound ts false h = agrees.sound ts then_is λ x hx. q.some_eqs hx

  do_eqs_sound : Sound (DoEqs Inside) (do_eqs eqs)
  unfolding do_eqs
  do_eqs_sound ts = do_eqs_at_sound ts (do_ends ts) refl

  do_eqs_complete : Complete (DoEqs Inside) (do_eqs eqs)
  unfolding do_eqs do_ends
  do_eqs_complete _ _ _ (q.no_eqs t {ts = ts} h) = ap (λ b. do_eqs_at b eqs (t ∷ ts)) h
  do_eqs_complete _ _ _ (q.some_eqs {ts = ts} h) = ap (λ b. do_eqs_at b eqs ts) (go_on ts (begins _ _ _ h)) ∙ agrees.complete _ _ _ h

  body_sound : (n : ℕ) → Sound (BodyOf Inside n) (body n eqs)
  unfolding body
  body_sound zero ts = maybe_locals_agree.sound ts then λ l hl. take_sound (kind.Word word.Do) tt l.1 then λ d hd. none_inside _ (do_eqs eqs) d.1
  body_sound (suc n) ts =
      maybe_locals_agree.sound ts then λ l hl. take_sound (kind.Word word.Do) tt l.1 then λ d hd. inside_sound n (do_eqs eqs) d.1 (do_eqs_sound d.1) then λ es hes.
      take_sound (kind.Word word.Done) tt es.1 then λ e he. is (q.body_of hl hd hes he)

  body_complete : (n : ℕ) → Complete (BodyOf Inside n) (body n eqs)
  unfolding body
  body_complete _ _ _ _ (q.body_of {n = n} l d es e) =
      gives _ (maybe_locals_agree.complete _ _ _ l) (gives _ (take_complete tt d) (gives _ (inside_complete n (do_eqs eqs) _ (do_eqs_complete _ _ _ es))
      (gives _ (take_complete tt e) refl)))

  body_agrees : (n : ℕ) → Agrees (BodyOf Inside n) (body n eqs)
  body_agrees n = record { sound = body_sound n; complete = body_complete n }

  arm_complete : (n : ℕ) → Complete (ArmOf Inside n) (arm n eqs)
  unfolding arm
  arm_complete n _ _ _ (q.arm_of c a b) = gives _ ((cond_agrees n).complete _ _ _ c) (gives _ (take_complete tt a) (gives _ (body_complete n _ _ _ b) refl))

  arm_agrees : (n : ℕ) → Agrees (ArmOf Inside n) (arm n eqs)
  unfolding arm
  arm_agrees n = record {
    sound = λ ts. (cond_agrees n).sound ts then λ c hc. take_sound (kind.Sign sign.Arrow) tt c.1 then λ a ha. body_sound n a.1 then λ b hb. is (q.arm_of hc ha hb);
    complete = arm_complete n;
  }

  arms_agree : (n : ℕ) → Agrees (ListOf (kind.Sign sign.Bar) (ArmOf Inside n)) (list_of (kind.Sign sign.Bar) (arm n eqs))
  arms_agree n = list_agrees (kind.Sign sign.Bar) tt (ArmOf Inside n) (arm n eqs) (arm_agrees n) (shrinks_of arm_spots (ArmOf Inside n) (arm_within Inside within n))

  state_sound : (n : ℕ) → Sound (StateOf Inside n) (state n eqs)
  unfolding state
  state_sound zero ts =
      name_sound ts then λ x hx. take_sound (kind.Sign sign.Arrow) tt x.1 then λ a ha. maybe_locals_agree.sound a.1 then λ l hl.
      take_sound (kind.Word word.Do) tt l.1 then λ d hd. none_inside _ (do_eqs eqs) d.1
  state_sound (suc n) ts =
      name_sound ts then λ x hx. take_sound (kind.Sign sign.Arrow) tt x.1 then λ a ha. maybe_locals_agree.sound a.1 then λ l hl.
      take_sound (kind.Word word.Do) tt l.1 then λ d hd. inside_sound n (do_eqs eqs) d.1 (do_eqs_sound d.1) then λ es hes.
      (state_end_agrees n).sound es.1 then λ ms hms. is (q.state_of hx ha hl hd hes hms)

  state_complete : (n : ℕ) → Complete (StateOf Inside n) (state n eqs)
  unfolding state
  state_complete _ _ _ _ (q.state_of {n = n} x a l d es ms) =
      gives _ (name_complete _ _ _ x) (gives _ (take_complete tt a) (gives _ (maybe_locals_agree.complete _ _ _ l) (gives _ (take_complete tt d)
      (gives _ (inside_complete n (do_eqs eqs) _ (do_eqs_complete _ _ _ es)) (gives _ ((state_end_agrees n).complete _ _ _ ms) refl)))))

  states_agree : (n : ℕ) → Agrees (ListOf (kind.Sign sign.Bar) (StateOf Inside n)) (list_of (kind.Sign sign.Bar) (state n eqs))
  states_agree n =
      list_agrees (kind.Sign sign.Bar) tt (StateOf Inside n) (state n eqs) (record { sound = state_sound n; complete = state_complete n })
      (shrinks_of state_spots (StateOf Inside n) (state_within Inside within n))

  starts_agree : (n : ℕ) → Agrees (Maybe (kind.Word word.Init) (IsExpr n)) (maybe (kind.Word word.Init) (read_expr n))
  starts_agree n = maybe_agrees (kind.Word word.Init) tt (IsExpr n) (read_expr n) (expr_agrees n)

  resets_agree : (n : ℕ) → Agrees (Maybe (kind.Word word.Reset) (ListOf (kind.Sign sign.Bar) (IsResetArm n))) (maybe (kind.Word word.Reset) (list_of (kind.Sign sign.Bar) (reset_arm n)))
  resets_agree n =
      maybe_agrees (kind.Word word.Reset) tt _ _
      (list_agrees (kind.Sign sign.Bar) tt (IsResetArm n) (reset_arm n) (reset_arm_agrees n) (shrinks_of reset_arm_spots (IsResetArm n) (reset_arm_within n)))

  elses_agree : (n : ℕ) → Agrees (Maybe (kind.Word word.Else) (BodyOf Inside n)) (maybe (kind.Word word.Else) (body n eqs))
  elses_agree n = maybe_agrees (kind.Word word.Else) tt (BodyOf Inside n) (body n eqs) (body_agrees n)

  args_agree : (n : ℕ) → Agrees (ToClose (IsExpr n)) (to_close (read_expr n))
  args_agree n = to_close_agrees (IsExpr n) (read_expr n) (expr_agrees n) (shrinks_of expr_spots (IsExpr n) (expr_within n)) (close_never_first n)

  several_sound : (n : ℕ) (t : Token) (ts : List Token) → Only (λ y. EqnOf Inside n (t ∷ ts) y.0 y.1) (eqn_at n eqs (t ∷ ts) t.at ts (kind.Sign sign.Open))
  unfolding eqn_at
  several_sound zero t ts = tuple_zero _ (t ∷ ts)
  several_sound (suc n) t ts =
      tuple_sound n (t ∷ ts) then λ xs hxs. take_sound (kind.Sign sign.Equal) tt xs.1 then λ e he. name_sound e.1 then λ f hf.
      take_sound (kind.Sign sign.Open) tt f.1 then λ o ho. inside_sound n (to_close (read_expr n)) o.1 ((args_agree n).sound o.1) then λ as_ has.
      is (q.several hxs he hf ho has)

  reset_sound : (n : ℕ) (t : Token) (ts : List Token) → t.kind ≡ kind.Word word.Reset → Only (λ y. EqnOf Inside n (t ∷ ts) y.0 y.1) (eqn_at n eqs (t ∷ ts) t.at ts (kind.Word word.Reset))
  unfolding eqn_at
  reset_sound zero t ts h = none_inside _ eqs ts
  reset_sound (suc n) t ts h =
      inside_sound n eqs ts (agrees.sound ts) then λ es hes. take_sound (kind.Word word.Every) tt es.1 then λ e he. (cond_agrees n).sound e.1 then λ c hc.
      is (q.reset (takes t h) hes he hc)

  eqn_at_sound : (n : ℕ) (t : Token) (ts : List Token) (k : TokenKind) → t.kind ≡ k → Only (λ y. EqnOf Inside n (t ∷ ts) y.0 y.1) (eqn_at n eqs (t ∷ ts) t.at ts k)
  unfolding eqn_at
  eqn_at_sound n t ts (kind.Name id) h =
      take_sound (kind.Sign sign.Equal) tt ts then λ e he. (expr_agrees n).sound e.1 then λ x hx. is (q.one (phrases.name id (takes t h)) he hx)
  eqn_at_sound n t ts (kind.Sign sign.Open) h = several_sound n t ts
  eqn_at_sound n t ts (kind.Word word.Der) h =
      name_sound ts then λ x hx. take_sound (kind.Sign sign.Equal) tt x.1 then λ e he. (expr_agrees n).sound e.1 then λ s hs.
      (starts_agree n).sound s.1 then λ i hi. (resets_agree n).sound i.1 then λ r hr. is (q.der (takes t h) hx he hs hi hr)
  eqn_at_sound n t ts (kind.Word word.Init) h =
      name_sound ts then λ x hx. take_sound (kind.Sign sign.Equal) tt x.1 then λ e he. (expr_agrees n).sound e.1 then λ v hv. is (q.start (takes t h) hx he hv)
  eqn_at_sound n t ts (kind.Word word.Present) h =
      (arms_agree n).sound (pass (kind.Sign sign.Bar) ts) then λ a ha. (elses_agree n).sound a.1 then λ b hb.
      is (q.present_of (takes t h) (pass_sound (kind.Sign sign.Bar) tt ts) ha hb (pass_sound (kind.Word word.End) tt b.1))
  eqn_at_sound n t ts (kind.Word word.Automaton) h =
      (states_agree n).sound (pass (kind.Sign sign.Bar) ts) then λ s hs.
      is (q.automaton (takes t h) (pass_sound (kind.Sign sign.Bar) tt ts) hs (pass_sound (kind.Word word.End) tt s.1))
  eqn_at_sound n t ts (kind.Word word.Reset) h = reset_sound n t ts h
  eqn_at_sound n t ts _ h = fault

  eqn_sound : (n : ℕ) → Sound (EqnOf Inside n) (eqn n eqs)
  unfolding eqn
  eqn_sound n [] = fault
  eqn_sound n (t ∷ ts) = eqn_at_sound n t ts t.kind refl

  eqn_first : (n : ℕ) {k : TokenKind} {ts rest : List Token} {at : Pos} → Takes k ts at rest → eqn n eqs ts ≡ eqn_at n eqs ts at rest k
  unfolding eqn
  eqn_first n (takes t {ts = ts} e) = ap (eqn_at n eqs (t ∷ ts) t.at ts) e

  eqn_name : (n : ℕ) {ts rest : List Token} {x : Name} {z : Result (Eqn × List Token) Fault} → IsName ts x rest →
      (take (kind.Sign sign.Equal) rest >>= λ q. read_expr n q.1 >>= λ y. Ok (eqn_tree.Plain (x ∷ []) y.0, y.1)) ≡ z → eqn n eqs ts ≡ z
  unfolding eqn_at
  eqn_name n (phrases.name id h) e = eqn_first n h ∙ e

  first_open : {ts rest : List Token} {xs : List Name} → IsTuple ts xs rest → (at : Pos) × (us : List Token) × Takes (kind.Sign sign.Open) ts at us
  first_open (phrases.tuple {us = us} {at = at} o _ _ _ _) = (at, us, o)

  eqn_complete : (n : ℕ) → Complete (EqnOf Inside n) (eqn n eqs)
  unfolding eqn_at
  eqn_complete n _ _ _ (q.one x e h) = eqn_name n x (gives _ (take_complete tt e) (gives _ ((expr_agrees n).complete _ _ _ h) refl))
  eqn_complete _ _ _ _ (q.several {n = n} xs e f o args) =
      let first = first_open xs in
      eqn_first (suc n) first.2 ∙
      gives _ (tuple_complete n _ _ _ xs) (gives _ (take_complete tt e) (gives _ (name_complete _ _ _ f) (gives _ (take_complete tt o)
      (gives _ (inside_complete n (to_close (read_expr n)) _ ((args_agree n).complete _ _ _ args)) refl))))
  eqn_complete n _ _ _ (q.der w x e s i r) =
      eqn_first n w ∙
      gives _ (name_complete _ _ _ x) (gives _ (take_complete tt e) (gives _ ((expr_agrees n).complete _ _ _ s) (gives _ ((starts_agree n).complete _ _ _ i)
      (gives _ ((resets_agree n).complete _ _ _ r) refl))))
  eqn_complete n _ _ _ (q.start w x e v) =
      eqn_first n w ∙ gives _ (name_complete _ _ _ x) (gives _ (take_complete tt e) (gives _ ((expr_agrees n).complete _ _ _ v) refl))
  eqn_complete n _ _ _ (q.present_of {at = at} {arms = arms} {other = other} w b as_ o e) =
      eqn_first n w ∙
      gives _ (ap (list_of (kind.Sign sign.Bar) (arm n eqs)) (pass_complete tt b) ∙ (arms_agree n).complete _ _ _ as_)
      (gives _ ((elses_agree n).complete _ _ _ o) (ap (λ us. Ok (eqn_tree.Present at arms other, us)) (pass_complete tt e)))
  eqn_complete n _ _ _ (q.automaton {at = at} {states = states} w b ss e) =
      eqn_first n w ∙
      gives _ (ap (list_of (kind.Sign sign.Bar) (state n eqs)) (pass_complete tt b) ∙ (states_agree n).complete _ _ _ ss)
      (ap (λ us. Ok (eqn_tree.Automaton at states, us)) (pass_complete tt e))
  eqn_complete _ _ _ _ (q.reset {n = n} w es e c) =
      eqn_first (suc n) w ∙
      gives _ (inside_complete n eqs _ (agrees.complete _ _ _ es)) (gives _ (take_complete tt e) (gives _ ((cond_agrees n).complete _ _ _ c) refl))

  pub eqn_agrees : (n : ℕ) → Agrees (EqnOf Inside n) (eqn n eqs)
  eqn_agrees n = record { sound = eqn_sound n; complete = eqn_complete n }

nothing_begins : {A : Type 0} (test : TokenKind → Bool) → Begins {A = A} test Nothing
nothing_begins test ts x rest h = elim h [ ]

pub eqs_agree : (n : ℕ) → Agrees (IsEqs n) (read_eqs n)
unfolding IsEqs read_eqs
eqs_agree zero =
    list_agrees (kind.Word word.And) tt (EqnOf Nothing zero) (eqn zero nothing) (eqn_agrees Nothing nothing nothing_agrees (nothing_within (all_spots eqn_spots)) (nothing_begins starts_eqn) zero)
    (shrinks_of eqn_spots (EqnOf Nothing zero) (eqn_within Nothing (nothing_within (all_spots eqn_spots)) zero))
eqs_agree (suc n) =
    list_agrees (kind.Word word.And) tt (EqnOf (IsEqs n) (suc n)) (eqn (suc n) (read_eqs n)) (eqn_agrees (IsEqs n) (read_eqs n) (eqs_agree n) (eqs_within n) (begins_eqs n) (suc n))
    (shrinks_of eqn_spots (EqnOf (IsEqs n) (suc n)) (eqn_within (IsEqs n) (eqs_within n) (suc n)))
