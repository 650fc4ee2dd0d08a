-- The same for equations, declarations and programs.
use Rattle.std.proofs.Common.{◌≡◌, ℕ, zero, suc, ◌+◌, ◌-◌, ◌≤◌, Bool, true, false, List, [], ◌∷◌, length, drop, slice_get, Option, Some, None, Result, Ok, Err, arith, refl, ap, subst}
use Rattle.zl_lexer.specs.declared.token.Token.{Token}
use Rattle.zl_lexer.specs.declared.token.TokenKind.{TokenKind}
use Rattle.zl_lexer.specs.declared.token.TokenKind.TheVariants as kind
use Rattle.zl_lexer.specs.declared.token.Word.TheVariants as word
use Rattle.zl_lexer.specs.declared.token.Sign.TheVariants as sign
use Rattle.zl_value.specs.declared.position.Pos.{Pos}
use Rattle.zl_ast.specs.declared.name.Name.{Name}
use Rattle.zl_ast.specs.declared.eqn.Eqn.{Eqn}
use Rattle.zl_ast.specs.declared.eqn.Move.{Move}
use Rattle.zl_ast.specs.declared.program.DeclKind.{DeclKind}
use Rattle.zl_ast.specs.declared.program.DeclKind.TheVariants as declared
use Rattle.zl_ast.specs.Operators.{move_word, entry_word, decl_word, type_name}
use Rattle.zl_ast.specs.Declarations.{tuple_next}
use Rattle.zl_ast.specs.DeepTokens.{opens, OpensAt, StopsWithin, DeepTokens}
use Rattle.zl_ast.specs.Reading.{Fault, parse, deep, Reader, ◌>>=◌, nothing, same_mark, next_is, next_in, name, inside, maybe, pass, to_close, tuple}
use Rattle.zl_ast.specs.ReadingEquations.{expr_below, up, event, cond_at, cond, reset_arm, alt, alts_at, alts, move_from, moves_at, moves, state_end_at, state_end, locals, do_ends, do_eqs_at, do_eqs, body, arm, state, eqn_at, eqn, read_eqs}
use Rattle.zl_ast.specs.ReadingDeclarations.{type_of, param, result_at, result, where_part, function, unmarked_at, decl_at, decl, decls, read_program}
use Rattle.zl_ast.proofs.Faults.{ok, ◌next◌, take_sized, name_bounded, cond_bounded, state_end_bounded, do_bounded, eqs_bounded, param_bounded, Inside, none, bad as bad_inside, too_many, ◌after◌}
use Rattle.zl_ast.proofs.OneDeeper.{Tail, here, later, tail_less, further, drop_tail, Deeper, alike, bad, past, Under, ◌on◌, ◌took◌, takes, finds, name_under, Ready, inside_under, list_under, maybe_under, pass_tail, to_close_ready, alike_ready, expr_under, below_ready}

tuple_under : (n : ℕ) → Under (tuple n) (tuple (suc n))
unfolding tuple
tuple_under n all ts h =
    takes (kind.Sign sign.Open) tt all ts h took λ o t is ho. inside_under n name name (alike_ready n name name_bounded name_under) all t o.1 (ap opens is) ho on λ ws x hx.
    takes (kind.Sign sign.Comma) tt ws x.1 hx took λ c d isc hc. list_under (kind.Sign sign.Comma) name name name_under ws c.1 (further hc) on λ vs xs hxs.
    takes (kind.Sign sign.Close) tt vs xs.1 hxs took λ e f ise he. alike (x.0 ∷ xs.0, e.1) (further he)

up_under : (n : ℕ) → Under (up n) (up (suc n))
unfolding up
up_under n all ts h =
    takes (kind.Word word.Up) tt all ts h took λ u t isu hu. takes (kind.Sign sign.Open) tt all u.1 (further hu) took λ o d is ho.
    inside_under n (expr_below n) (expr_below (suc n)) (below_ready n) all d o.1 (ap opens is) ho on λ ws x hx. takes (kind.Sign sign.Close) tt ws x.1 hx took λ c f isc hc. alike (_, c.1) (further hc)

event_under : (n : ℕ) → Under (event n) (event (suc n))
event_under n = list_under (kind.Sign sign.Bar) (up n) (up (suc n)) (up_under n)

cond_at_under : (b : Bool) (n : ℕ) → Under (cond_at b n) (cond_at b (suc n))
cond_at_under true n all ts h =
    takes (kind.Sign sign.Open) tt all ts h took λ o t is ho. inside_under n (expr_below n) (expr_below (suc n)) (below_ready n) all t o.1 (ap opens is) ho on λ ws x hx.
    takes (kind.Sign sign.Close) tt ws x.1 hx took λ c d isc hc. alike (_, c.1) (further hc)
cond_at_under false n all ts h = event_under n all ts h on λ ws ups hups. alike (_, ups.1) hups

cond_under : (n : ℕ) → Under (cond n) (cond (suc n))
unfolding cond
cond_under n all ts h = cond_at_under (next_is (kind.Sign sign.Open) ts) n all ts h

reset_arm_under : (n : ℕ) → Under (reset_arm n) (reset_arm (suc n))
unfolding reset_arm
reset_arm_under n all ts h =
    event_under n all ts h on λ ws ups hups. takes (kind.Sign sign.Arrow) tt ws ups.1 hups took λ a t is ha. expr_under n ws a.1 (further ha) on λ vs x hx. alike (_, x.1) hx

alt_under : (n : ℕ) (strong : Bool) (at : Pos) → Under (alt n strong at) (alt (suc n) strong at)
unfolding alt
alt_under n strong at all ts h =
    cond_under n all ts h on λ ws c hc. finds entry_word ws c.1 hc took λ w t is hw. name_under ws w.1 (further hw) on λ vs x hx. alike (_, x.1) hx

alts_at_under : (n : ℕ) (strong : Bool) (b : Bool) (again more : Reader (List Move)) → Under again more → (all : List Token) (t : Token) (ts : List Token) → Tail (t ∷ ts) all → Deeper all (alts_at b n strong again t ts) (alts_at b (suc n) strong more t ts)
alts_at_under n strong true again more u all t ts h = alt_under n strong t.at all ts (further h) on λ ws m hm. u ws m.1 hm on λ vs ms hms. alike (_, ms.1) hms
alts_at_under n strong false again more u all t ts h = alike ([], t ∷ ts) h

alts_under : (n : ℕ) (strong : Bool) (most : ℕ) → Under (alts n strong most) (alts (suc n) strong most)
unfolding alts
alts_under n strong zero all ts h = alike ([], ts) h
alts_under n strong (suc most) all [] h = alike ([], []) h
alts_under n strong (suc most) all (t ∷ ts) h = alts_at_under n strong (same_mark (kind.Word word.Else) t.kind) (alts n strong most) (alts (suc n) strong most) (alts_under n strong most) all t ts h

move_from_under : (n : ℕ) (strong : Bool) (at : Pos) → Under (move_from n strong at) (move_from (suc n) strong at)
unfolding move_from
move_from_under n strong at all ts h = alt_under n strong at all ts h on λ ws m hm. alts_under n strong (length m.1) ws m.1 hm on λ vs ms hms. alike (_, ms.1) hms

moves_at_under : (n : ℕ) (o : Option Bool) (again more : Reader (List Move)) → Under again more → (all : List Token) (t : Token) (ts : List Token) → Tail (t ∷ ts) all → Deeper all (moves_at o n again t ts) (moves_at o (suc n) more t ts)
moves_at_under n (Some strong) again more u all t ts h = move_from_under n strong t.at all ts (further h) on λ ws ms hms. u ws ms.1 hms on λ vs os hos. alike (_, os.1) hos
moves_at_under n None again more u all t ts h = alike ([], t ∷ ts) h

moves_under : (n most : ℕ) → Under (moves n most) (moves (suc n) most)
unfolding moves
moves_under n zero all ts h = alike ([], ts) h
moves_under n (suc most) all [] h = alike ([], []) h
moves_under n (suc most) all (t ∷ ts) h = moves_at_under n (move_word t.kind) (moves n most) (moves (suc n) most) (moves_under n most) all t ts h

state_end_at_under : (n : ℕ) (b : Bool) → Under (state_end_at b n) (state_end_at b (suc n))
state_end_at_under n true all ts h = takes (kind.Word word.Done) tt all ts h took λ d t is hd. alike ([], d.1) (further hd)
state_end_at_under n false all ts h =
    finds move_word all ts h took λ w t is hw. move_from_under n w.0.0 w.0.1 all w.1 (further hw) on λ ws ms hms. moves_under n (length ms.1) ws ms.1 hms on λ vs os hos. alike (_, os.1) hos

state_end_under : (n : ℕ) → Under (state_end n) (state_end (suc n))
unfolding state_end
state_end_under n all ts h = state_end_at_under n (next_is (kind.Word word.Done) ts) all ts h

locals_under : Under locals locals
unfolding locals
locals_under all ts h = list_under (kind.Sign sign.Comma) name name name_under all ts h on λ ws xs hxs. takes (kind.Word word.In) tt ws xs.1 hxs took λ i t is hi. alike (xs.0, i.1) (further hi)

maybe_locals_under : Under (maybe (kind.Word word.Local) locals) (maybe (kind.Word word.Local) locals)
maybe_locals_under = maybe_under (kind.Word word.Local) tt locals locals locals_under

do_at_under : (p q : Reader (List Eqn)) → Under p q → (b : Bool) → Under (do_eqs_at b p) (do_eqs_at b q)
do_at_under p q u true all ts h = alike ([], ts) h
do_at_under p q u false all ts h = u all ts h

do_under : (p q : Reader (List Eqn)) → Under p q → Under (do_eqs p) (do_eqs q)
unfolding do_eqs
do_under p q u all ts h = do_at_under p q u (do_ends ts) all ts h

do_ready : (n : ℕ) (p q : Reader (List Eqn)) → Ready n p q → Ready n (do_eqs p) (do_eqs q)
do_ready zero p q r = do_bounded q r
do_ready (suc n) p q u = do_under p q u

body_under : (n : ℕ) (p q : Reader (List Eqn)) → Ready n p q → Under (body n p) (body (suc n) q)
unfolding body
body_under n p q r all ts h =
    maybe_locals_under all ts h on λ ws l hl. takes (kind.Word word.Do) tt ws l.1 hl took λ d t is hd.
    inside_under n (do_eqs p) (do_eqs q) (do_ready n p q r) ws t d.1 (ap opens is) hd on λ vs es hes. takes (kind.Word word.Done) tt vs es.1 hes took λ e f ise he. alike (_, e.1) (further he)

arm_under : (n : ℕ) (p q : Reader (List Eqn)) → Ready n p q → Under (arm n p) (arm (suc n) q)
unfolding arm
arm_under n p q r all ts h =
    cond_under n all ts h on λ ws c hc. takes (kind.Sign sign.Arrow) tt ws c.1 hc took λ a t is ha. body_under n p q r ws a.1 (further ha) on λ vs b hb. alike (_, b.1) hb

-- what stands behind a construct that may not be opened isn't read
state_under : (n : ℕ) (p q : Reader (List Eqn)) → Ready n p q → Under (state n p) (state (suc n) q)
unfolding state inside ◌>>=◌
state_under zero p q r all ts h =
    name_under all ts h on λ ws x hx. takes (kind.Sign sign.Arrow) tt ws x.1 hx took λ a t isa ha. maybe_locals_under ws a.1 (further ha) on λ vs l hl.
    takes (kind.Word word.Do) tt vs l.1 hl took λ d f is hd. past f d.1 (ap opens is) hd
    (do_bounded q r (length d.1) d.1 (omega arith) next λ es les. state_end_bounded zero (length d.1) es.1 les next λ ms lms. ok (_, ms.1) lms)
state_under (suc n) p q u all ts h =
    name_under all ts h on λ ws x hx. takes (kind.Sign sign.Arrow) tt ws x.1 hx took λ a t isa ha. maybe_locals_under ws a.1 (further ha) on λ vs l hl.
    takes (kind.Word word.Do) tt vs l.1 hl took λ d f is hd. inside_under (suc n) (do_eqs p) (do_eqs q) (do_under p q u) vs f d.1 (ap opens is) hd on λ us es hes.
    state_end_under n us es.1 hes on λ rs ms hms. alike (_, ms.1) hms

block_under : (n : ℕ) (p q : Reader (List Eqn)) → Ready n p q → (whole : List Token) (at : Pos) (all : List Token) (t : Token) (ts : List Token) → t.kind ≡ kind.Word word.Reset → Tail (t ∷ ts) all →
    Deeper all (eqn_at n p whole at ts (kind.Word word.Reset)) (eqn_at (suc n) q whole at ts (kind.Word word.Reset))
unfolding eqn_at inside ◌>>=◌
block_under zero p q r whole at all t ts is h =
    past t ts (ap opens is) h (r (length ts) ts (omega arith) next λ es les. take_sized (kind.Word word.Every) (length ts) es.1 les next λ e le. cond_bounded zero (length ts) e.1 (omega arith) next λ c lc. ok (_, c.1) lc)
block_under (suc n) p q u whole at all t ts is h =
    inside_under (suc n) p q u all t ts (ap opens is) h on λ ws es hes. takes (kind.Word word.Every) tt ws es.1 hes took λ e d ise he. cond_under n ws e.1 (further he) on λ vs c hc. alike (_, c.1) hc

module _ (n : ℕ) (p q : Reader (List Eqn)) (r : Ready n p q) where
  eqn_at_under : (whole : List Token) (at : Pos) (all : List Token) (t : Token) (ts : List Token) (k : TokenKind) → t.kind ≡ k → Tail whole all → Tail (t ∷ ts) all → Deeper all (eqn_at n p whole at ts k) (eqn_at (suc n) q whole at ts k)
  unfolding eqn_at
  eqn_at_under whole at all t ts (kind.Name id) is w h = takes (kind.Sign sign.Equal) tt all ts (further h) took λ e d ise he. expr_under n all e.1 (further he) on λ ws x hx. alike (_, x.1) hx
  eqn_at_under whole at all t ts (kind.Sign sign.Open) is w h =
      tuple_under n all whole w on λ ws xs hxs. takes (kind.Sign sign.Equal) tt ws xs.1 hxs took λ e d ise he. name_under ws e.1 (further he) on λ vs f hf.
      takes (kind.Sign sign.Open) tt vs f.1 hf took λ o g iso ho. inside_under n (to_close (expr_below n)) (to_close (expr_below (suc n))) (to_close_ready n _ _ (below_ready n)) vs g o.1 (ap opens iso) ho on λ us args hargs. alike (_, args.1) hargs
  eqn_at_under whole at all t ts (kind.Word word.Der) is w h =
      name_under all ts (further h) on λ ws x hx. takes (kind.Sign sign.Equal) tt ws x.1 hx took λ e d ise he. expr_under n ws e.1 (further he) on λ vs s hs.
      maybe_under (kind.Word word.Init) tt _ _ (expr_under n) vs s.1 hs on λ us i hi.
      maybe_under (kind.Word word.Reset) tt _ _ (list_under (kind.Sign sign.Bar) _ _ (reset_arm_under n)) us i.1 hi on λ rs r hr. alike (_, r.1) hr
  eqn_at_under whole at all t ts (kind.Word word.Init) is w h =
      name_under all ts (further h) on λ ws x hx. takes (kind.Sign sign.Equal) tt ws x.1 hx took λ e d ise he. expr_under n ws e.1 (further he) on λ vs v hv. alike (_, v.1) hv
  eqn_at_under whole at all t ts (kind.Word word.Present) is w h =
      list_under (kind.Sign sign.Bar) (arm n p) (arm (suc n) q) (arm_under n p q r) all (pass (kind.Sign sign.Bar) ts) (pass_tail (kind.Sign sign.Bar) ts (further h)) on λ ws a ha.
      maybe_under (kind.Word word.Else) tt (body n p) (body (suc n) q) (body_under n p q r) ws a.1 ha on λ vs b hb. alike (_, pass (kind.Word word.End) b.1) (pass_tail (kind.Word word.End) b.1 hb)
  eqn_at_under whole at all t ts (kind.Word word.Automaton) is w h =
      list_under (kind.Sign sign.Bar) (state n p) (state (suc n) q) (state_under n p q r) all (pass (kind.Sign sign.Bar) ts) (pass_tail (kind.Sign sign.Bar) ts (further h)) on λ ws s hs.
      alike (_, pass (kind.Word word.End) s.1) (pass_tail (kind.Word word.End) s.1 hs)
  eqn_at_under whole at all t ts (kind.Word word.Reset) is w h = block_under n p q r whole at all t ts is h
  eqn_at_under whole at all t ts _ is w h = bad (suc (length ts)) (tail_less h)

  eqn_under : Under (eqn n p) (eqn (suc n) q)
  unfolding eqn
  eqn_under all [] h = bad 0 (omega arith)
  eqn_under all (t ∷ ts) h = eqn_at_under (t ∷ ts) t.at all t ts t.kind refl h h

eqs_under : (n : ℕ) → Under (read_eqs n) (read_eqs (suc n))
unfolding read_eqs
eqs_under zero = list_under (kind.Word word.And) (eqn zero nothing) (eqn (suc zero) (read_eqs zero)) (eqn_under zero nothing (read_eqs zero) (eqs_bounded zero))
eqs_under (suc n) = list_under (kind.Word word.And) (eqn (suc n) (read_eqs n)) (eqn (suc (suc n)) (read_eqs (suc n))) (eqn_under (suc n) (read_eqs n) (read_eqs (suc n)) (eqs_under n))

-- ---- declarations

type_under : Under type_of type_of
unfolding type_of
type_under all ts h = finds type_name all ts h took λ w t is hw. alike (_, w.1) (further hw)

param_under : Under param param
unfolding param
param_under all ts h = name_under all ts h on λ ws x hx. maybe_under (kind.Sign sign.Colon) tt type_of type_of type_under ws x.1 hx on λ vs ty hty. alike (_, ty.1) hty

result_at_under : (n : ℕ) (b : Bool) → Under (result_at b n) (result_at b (suc n))
result_at_under n true all ts h = tuple_under n all ts h on λ ws xs hxs. alike (_, xs.1) hxs
result_at_under n false all ts h = expr_under n all ts h on λ ws x hx. alike (_, x.1) hx

result_under : (n : ℕ) → Under (result n) (result (suc n))
unfolding result
result_under n all ts h = result_at_under n (tuple_next ts) all ts h

where_under : (n : ℕ) → Under (where_part n) (where_part (suc n))
unfolding where_part
where_under n all ts h = eqs_under n all (pass (kind.Word word.Rec) ts) (pass_tail (kind.Word word.Rec) ts h)

function_under : (n : ℕ) (k : DeclKind) (x : Name) → Under (function n k x) (function (suc n) k x)
function_under n k x all ts h =
    takes (kind.Sign sign.Open) tt all ts h took λ o t is ho. inside_under n (to_close param) (to_close param) (to_close_ready n param param (alike_ready n param param_bounded param_under)) all t o.1 (ap opens is) ho on λ ws ps hps.
    takes (kind.Sign sign.Equal) tt ws ps.1 hps took λ e d ise he. result_under n ws e.1 (further he) on λ vs r hr.
    maybe_under (kind.Word word.Where) tt (where_part n) (where_part (suc n)) (where_under n) vs r.1 hr on λ us es hes. alike (_, es.1) hes

unmarked_under : (n : ℕ) (b : Bool) (x : Name) → Under (unmarked_at b n x) (unmarked_at b (suc n) x)
unmarked_under n true x all ts h = takes (kind.Sign sign.Equal) tt all ts h took λ e d is he. expr_under n all e.1 (further he) on λ ws v hv. alike (_, v.1) hv
unmarked_under n false x all ts h = function_under n declared.Function x all ts h

decl_at_under : (n : ℕ) (o : Option DeclKind) → Under (decl_at o n) (decl_at o (suc n))
decl_at_under n (Some k) all ts h = name_under all (drop 1 ts) (drop_tail h) on λ ws x hx. function_under n k x.0 ws x.1 hx
decl_at_under n None all ts h = name_under all ts h on λ ws x hx. unmarked_under n (next_is (kind.Sign sign.Equal) x.1) x.0 ws x.1 hx

decl_under : (n : ℕ) → Under (decl n) (decl (suc n))
unfolding decl
decl_under n all ts h = takes (kind.Word word.Let) tt all ts h took λ l t is hl. decl_at_under n (next_in decl_word l.1) all l.1 (further hl)

-- ---- programs

-- The same of what is read to the end of the tokens.
data Ended {A : Type 0} (all : List Token) : Result A Fault → Result A Fault → Type 0 where
  whole : (x : A) → Ended all (Ok x) (Ok x)
  wrong : (left : ℕ) → left ≤ length all → Ended all (Err (parse left)) (Err (parse left))
  beyond : {s : Result A Fault} (t : Token) (us : List Token) → opens t.kind ≡ true → Tail (t ∷ us) all → Inside (length us) s → Ended all (Err (deep (suc (length us)))) s

wider_inside : {A : Type 0} {n m : ℕ} {r : Result A Fault} → n ≤ m → Inside n r → Inside m r
wider_inside le (none x) = none x
wider_inside le (bad_inside left h) = bad_inside left (omega arith)
wider_inside le (too_many left one h) = too_many left one (omega arith)

second_inside : {A : Type 0} {all : List Token} {r s : Result A Fault} → Ended all r s → Inside (length all) s
second_inside (whole x) = none x
second_inside (wrong left h) = bad_inside left h
second_inside (beyond t us o h z) = let k = tail_less h in wider_inside (omega arith) z

infixl 10 ◌then◌
◌then◌ : {A B : Type 0} {all : List Token} {r s : Result (A × List Token) Fault} {f g : A × List Token → Result B Fault} →
    Deeper all r s → ((ws : List Token) (x : A × List Token) → Tail x.1 ws → Ended ws (f x) (g x)) → Ended all (r >>= f) (s >>= g)
unfolding ◌>>=◌
◌then◌ {all = all} (alike y h) k = k all y h
(bad left h) then k = wrong left h
(past t us o h z) then k = beyond t us o h (z after λ x lx. wider_inside lx (second_inside (k x.1 x here)))

gathered : {A B : Type 0} {n : ℕ} {r : Result A Fault} (f : A → B) → Inside n r → Inside n (r >>= λ x. Ok (f x))
unfolding ◌>>=◌
gathered f (none x) = none (f x)
gathered f (bad_inside left le) = bad_inside left le
gathered f (too_many left one le) = too_many left one le

together : {A B : Type 0} {all : List Token} {r s : Result A Fault} (f : A → B) → Ended all r s → Ended all (r >>= λ x. Ok (f x)) (s >>= λ x. Ok (f x))
unfolding ◌>>=◌
together f (whole x) = whole (f x)
together f (wrong left h) = wrong left h
together f (beyond t us o h z) = beyond t us o h (gathered f z)

decls_ended : (n most : ℕ) (all ts : List Token) → Tail ts all → Ended all (decls n most ts) (decls (suc n) most ts)
unfolding decls
decls_ended n most all [] h = whole []
decls_ended n zero all (t ∷ ts) h = wrong (suc (length ts)) (tail_less h)
decls_ended n (suc most) all (t ∷ ts) h = decl_under n all (t ∷ ts) h then λ ws d hd. together (λ ds. d.0 ∷ ds) (decls_ended n most ws d.1 hd)

program_ended : (n : ℕ) (ts : List Token) → Ended ts (read_program n ts) (read_program (suc n) ts)
unfolding read_program
program_ended n ts = decls_ended n (length ts) ts ts here

parse_stays : {A : Type 0} {all : List Token} {r s : Result A Fault} (left : ℕ) → Ended all r s → r ≡ Err (parse left) → s ≡ Err (parse left)
parse_stays left (whole x) e = cc
parse_stays left (wrong k h) e = e
parse_stays left (beyond t us o h z) e = cc

-- A token that can't follow can't follow however deep a program may be nested.
pub parse_at_any_depth : (k n : ℕ) (ts : List Token) (left : ℕ) → read_program n ts ≡ Err (parse left) → read_program (k + n) ts ≡ Err (parse left)
parse_at_any_depth zero n ts left e = let eq : n ≡ zero + n = omega arith in subst (λ m. read_program m ts ≡ Err (parse left)) eq e
parse_at_any_depth (suc k) n ts left e =
    let eq : suc (k + n) ≡ suc k + n = omega arith in
    subst (λ m. read_program m ts ≡ Err (parse left)) eq (parse_stays left (program_ended (k + n) ts) (parse_at_any_depth k n ts left e))

-- the first token of a tail, by its number
tail_at : (t : Token) (us ts : List Token) → Tail (t ∷ us) ts → slice_get ts (length ts - suc (length us)) ≡ Some t
tail_at t us _ here = let e : zero ≡ suc (length us) - suc (length us) = omega arith in subst (λ i. slice_get (t ∷ us) i ≡ Some t) e refl
tail_at t us _ (later {t = v} {ts = ts} h) =
    let k = tail_less h in
    let e : suc (length ts - suc (length us)) ≡ suc (length ts) - suc (length us) = omega arith in
    subst (λ i. slice_get (v ∷ ts) i ≡ Some t) e (tail_at t us ts h)

stops_within : {A : Type 0} {n m : ℕ} {r : Result A Fault} → n ≤ m → Inside n r → StopsWithin m r
stops_within le (none x) = tt
stops_within le (bad_inside left h) = omega arith
stops_within le (too_many left one h) = omega arith

deep_at : {A : Type 0} (all : List Token) (left : ℕ) {r s : Result A Fault} → Ended all r s → r ≡ Err (deep left) → OpensAt all (length all - left) × StopsWithin (length all - suc (length all - left)) s
deep_at all left (whole x) e = cc
deep_at all left (wrong k h) e = cc
deep_at all left (beyond t us o h z) e =
    let is : suc (length us) ≡ left = cc in
    let k = tail_less h in
    (record { opening = t; found = subst (λ l. slice_get all (length all - l) ≡ Some t) is (tail_at t us all h); opens_it = o }, stops_within (omega arith) z)

-- A token that opens a construct too many opens one, and with one construct more reading takes it.
pub deep_tokens : DeepTokens
deep_tokens n left ts e = deep_at ts left (program_ended n ts) e
