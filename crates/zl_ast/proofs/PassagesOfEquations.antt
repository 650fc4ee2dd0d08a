-- What equations and declarations keep of their tokens.
use Rattle.std.proofs.Common.{◌≡◌, ℕ, zero, suc, Bool, List, [], ◌∷◌, ◌++◌, map, Some, None, refl, ap, sym, ◌∙◌, append_assoc}
use Rattle.zl_lexer.specs.declared.token.Token.{Token}
use Rattle.zl_value.specs.declared.position.Pos.{Pos}
use Rattle.zl_ast.specs.declared.name.Name.{Name}
use Rattle.zl_ast.specs.declared.expr.Expr.TheVariants as tree
use Rattle.zl_ast.specs.declared.eqn.Eqn.{Eqn}
use Rattle.zl_ast.specs.declared.eqn.Move.{Move}
use Rattle.zl_ast.specs.declared.program.Decl.{Decl}
use Rattle.zl_ast.specs.Phrases.{Phrase, Nothing, listed}
use Rattle.zl_ast.specs.Equations.{IsUp, IsEvent, IsCond, IsResetArm, IsAlt, MoreAlts, IsMove, MoreMoves, IsStateEnd, IsLocals, DoEqs, BodyOf, ArmOf, StateOf, EqnOf, IsEqs, body}
use Rattle.zl_ast.specs.Equations as q
use Rattle.zl_ast.specs.Declarations.{IsTypeName, IsParam, IsResult, IsWhere, IsKind, IsDecl, IsDecls}
use Rattle.zl_ast.specs.Declarations as d
use Rattle.zl_ast.specs.Spots as spots
use Rattle.zl_ast.specs.Spots.{Spot, place, named, joined, all_spots, some_spots, one_name, expr_spots, up_spots, cond_spots, reset_arm_spots, move_spots, eqn_spots, arm_spots, body_spots, state_spots, param_spots, decl_spots}
use Rattle.zl_ast.proofs.Passages.{Passage, spot_marks, here, ◌▸◌, moved, resorted, a_left, Within, skipped, placed, found, found_unkept, a_name, a_list, a_maybe, a_pass, a_tuple, names_within, up_to_close, append_none, some_listed}
use Rattle.zl_ast.proofs.PassagesOfExpressions.{nothing_within, expr_within}
use Rattle.zl_ast.proofs.SpotsOf.{spots-Var, spots-Call, spots-Plain, spots-Der, spots-Start, spots-Present, spots-Automaton, spots-Reset, spots-arm, spots-body, spots-state}

pub up_within : (n : ℕ) → Within up_spots (IsUp n)
up_within _ _ _ _ (q.up {n = n} u o h c) = placed spots.occurrence refl u ▸ (skipped o ▸ moved (append_none _) (expr_within n _ _ _ h ▸ skipped c))

pub event_within : (n : ℕ) → Within (all_spots up_spots) (IsEvent n)
event_within n = a_list up_spots (up_within n)

pub cond_within : (n : ℕ) → Within cond_spots (IsCond n)
cond_within n _ _ _ (q.event h) = event_within n _ _ _ h
cond_within _ _ _ _ (q.test {n = n} o h c) = placed spots.other_thing refl o ▸ moved (append_none _) (expr_within n _ _ _ h ▸ skipped c)

pub reset_arm_within : (n : ℕ) → Within reset_arm_spots (IsResetArm n)
reset_arm_within n _ _ _ (q.reset_arm h a x) = event_within n _ _ _ h ▸ (skipped a ▸ expr_within n _ _ _ x)

-- behind the first word of a move, whose place it keeps
alt_within : (n : ℕ) (strong : Bool) (at : Pos) (ts : List Token) (m : Move) (rest : List Token) → IsAlt n strong at ts m rest →
    Passage (cond_spots m.cond ++ one_name m.target) ts rest × (m.at ≡ at)
alt_within n strong at _ _ _ (q.alt c w x) = (cond_within n _ _ _ c ▸ (found_unkept w ▸ a_name spots.bare_name x), refl)

with_place : (m : Move) {at : Pos} {ts us : List Token} → Passage (place spots.other_thing at ∷ (cond_spots m.cond ++ one_name m.target)) ts us → m.at ≡ at → Passage (move_spots m) ts us
with_place m p h = moved (ap (λ a. place spots.other_thing a ∷ (cond_spots m.cond ++ one_name m.target)) (sym h)) p

pub alts_within : (n : ℕ) (strong : Bool) → Within (all_spots move_spots) (MoreAlts n strong)
alts_within n strong _ _ _ (q.no_alts {ts = ts} _) = here ts
alts_within n strong _ _ _ (q.more_alts {m = m} e h hs) =
    let a = alt_within n strong _ _ _ _ h in
    with_place m (placed spots.other_thing refl e ▸ a.0) a.1 ▸ alts_within n strong _ _ _ hs

pub move_within : (n : ℕ) → Within (all_spots move_spots) (IsMove n)
move_within n _ _ _ (q.move {strong = strong} {m = m} w h hs) =
    let a = alt_within n strong _ _ _ _ h in
    with_place m (found spots.other_thing (λ id. refl) w ▸ a.0) a.1 ▸ alts_within n strong _ _ _ hs

joined_append : {A : Type 0} (s : A → List Spot) (xs ys : List A) → all_spots s xs ++ all_spots s ys ≡ all_spots s (xs ++ ys)
joined_append s [] ys = refl
joined_append s (x ∷ xs) ys = append_assoc (s x) (all_spots s xs) (all_spots s ys) ∙ ap (λ zs. s x ++ zs) (joined_append s xs ys)

pub moves_within : (n : ℕ) → Within (all_spots move_spots) (MoreMoves n)
moves_within n _ _ _ (q.no_moves {ts = ts} _) = here ts
moves_within n _ _ _ (q.more_moves {ms = ms} {others = others} h hs) = moved (joined_append move_spots ms others) (move_within n _ _ _ h ▸ moves_within n _ _ _ hs)

pub state_end_within : (n : ℕ) → Within (all_spots move_spots) (IsStateEnd n)
state_end_within n _ _ _ (q.done h) = skipped h
state_end_within n _ _ _ (q.moves {ms = ms} {others = others} h hs) = moved (joined_append move_spots ms others) (move_within n _ _ _ h ▸ moves_within n _ _ _ hs)

pub locals_within : Within (all_spots one_name) IsLocals
locals_within _ _ _ (q.locals hs i) = moved (append_none _) (a_list one_name names_within _ _ _ hs ▸ skipped i)

module _ (Inside : Phrase (List Eqn)) (within : Within (all_spots eqn_spots) Inside) where
  pub do_eqs_within : Within (all_spots eqn_spots) (DoEqs Inside)
  do_eqs_within _ _ _ (q.no_eqs t {ts = ts} _) = here (t ∷ ts)
  do_eqs_within _ _ _ (q.some_eqs h) = within _ _ _ h

  pub body_within : (n : ℕ) → Within body_spots (BodyOf Inside n)
  body_within n _ _ _ (q.body_of {names = names} {es = es} l o h e) =
      moved (sym (spots-body (listed names) es))
      (moved (some_listed one_name names) (a_maybe (all_spots one_name) locals_within _ _ _ l) ▸ (skipped o ▸ moved (append_none _) (do_eqs_within _ _ _ h ▸ skipped e)))

  pub arm_within : (n : ℕ) → Within arm_spots (ArmOf Inside n)
  arm_within n _ _ _ (q.arm_of c a b) = moved (sym (spots-arm _ _)) (cond_within n _ _ _ c ▸ (skipped a ▸ body_within n _ _ _ b))

  pub state_within : (n : ℕ) → Within state_spots (StateOf Inside n)
  state_within _ _ _ _ (q.state_of {n = n} {names = names} {es = es} {ms = ms} x a l o h e) =
      moved (sym (spots-state _ _ ms))
      (a_name spots.bare_name x ▸ (skipped a ▸
      (moved (sym (spots-body (listed names) es)) (moved (some_listed one_name names) (a_maybe (all_spots one_name) locals_within _ _ _ l) ▸ (skipped o ▸ do_eqs_within _ _ _ h)) ▸
      state_end_within n _ _ _ e)))

  pub eqn_within : (n : ℕ) → Within eqn_spots (EqnOf Inside n)
  eqn_within n _ _ _ (q.one x e h) = moved (sym (spots-Plain _ _)) (a_name spots.equation x ▸ (skipped e ▸ expr_within n _ _ _ h))
  eqn_within _ _ _ _ (q.several {n = n} xs e f o args) =
      moved (sym (spots-Plain _ _)) (a_left _ _ _ (a_tuple _ _ _ xs) ▸ (skipped e ▸ moved (sym (spots-Call _ _)) (a_name spots.occurrence f ▸ (skipped o ▸ up_to_close expr_spots (expr_within n) _ _ _ args))))
  eqn_within n _ _ _ (q.der {resets = resets} w x e s i r) =
      moved (sym (spots-Der _ _ _ _ (listed resets)))
      (placed spots.equation refl w ▸ (a_name spots.bare_name x ▸ (skipped e ▸ (expr_within n _ _ _ s ▸ (a_maybe expr_spots (expr_within n) _ _ _ i ▸
      moved (some_listed reset_arm_spots resets) (a_maybe (all_spots reset_arm_spots) (a_list reset_arm_spots (reset_arm_within n)) _ _ _ r))))))
  eqn_within n _ _ _ (q.start w x e v) = moved (sym (spots-Start _ _ _)) (placed spots.equation refl w ▸ (a_name spots.bare_name x ▸ (skipped e ▸ expr_within n _ _ _ v)))
  eqn_within n _ _ _ (q.present_of w b arms o e) =
      moved (sym (spots-Present _ _ _))
      (placed spots.equation refl w ▸ (a_pass b ▸ (a_list arm_spots (arm_within n) _ _ _ arms ▸ moved (append_none _) (a_maybe body_spots (body_within n) _ _ _ o ▸ a_pass e))))
  eqn_within n _ _ _ (q.automaton w b states e) =
      moved (sym (spots-Automaton _ _)) (placed spots.equation refl w ▸ (a_pass b ▸ moved (append_none _) (a_list state_spots (state_within n) _ _ _ states ▸ a_pass e)))
  eqn_within _ _ _ _ (q.reset {n = n} w h e c) = moved (sym (spots-Reset _ _ _)) (placed spots.equation refl w ▸ (within _ _ _ h ▸ (skipped e ▸ cond_within n _ _ _ c)))

pub eqs_within : (n : ℕ) → Within (all_spots eqn_spots) (IsEqs n)
unfolding IsEqs
eqs_within zero = a_list eqn_spots (eqn_within Nothing (nothing_within (all_spots eqn_spots)) zero)
eqs_within (suc n) = a_list eqn_spots (eqn_within (IsEqs n) (eqs_within n) (suc n))

-- ---- declarations

pub type_within : Within (λ ty. []) IsTypeName
type_within _ _ _ (d.named h) = found_unkept h

pub param_within : Within param_spots IsParam
param_within _ _ _ (d.param {ty = None} x h) = a_name spots.bare_name x ▸ a_maybe (λ ty. []) type_within _ _ _ h
param_within _ _ _ (d.param {ty = Some ty} x h) = a_name spots.bare_name x ▸ a_maybe (λ ty. []) type_within _ _ _ h

vars_spots : (xs : List Name) → spot_marks (all_spots one_name xs) ≡ spot_marks (all_spots expr_spots (map tree.Var xs))
vars_spots [] = refl
vars_spots (x ∷ xs) =
    ap (λ zs. record { id = Some x.id; at = x.at } ∷ zs) (vars_spots xs) ∙ ap (λ zs. spot_marks (zs ++ all_spots expr_spots (map tree.Var xs))) (sym (spots-Var x))

pub result_within : (n : ℕ) → Within (all_spots expr_spots) (IsResult n)
result_within n _ _ _ (d.value _ h) = moved (sym (append_none _)) (expr_within n _ _ _ h)
result_within n _ _ _ (d.names {xs = xs} h) = resorted (vars_spots xs) (a_tuple _ _ _ h)

pub where_within : (n : ℕ) → Within (all_spots eqn_spots) (IsWhere n)
where_within n _ _ _ (d.where_eqs p h) = a_pass p ▸ eqs_within n _ _ _ h

kind_within : Within (λ k. []) IsKind
kind_within _ _ _ (d.function {ts = ts} _) = here ts
kind_within _ _ _ (d.marked h) = found_unkept h

pub decl_within : (n : ℕ) → Within decl_spots (IsDecl n)
decl_within n _ _ _ (d.constant l x e h) = skipped l ▸ (a_name spots.bare_name x ▸ (skipped e ▸ moved (sym (append_none _) ∙ sym (append_none _)) (expr_within n _ _ _ h)))
decl_within _ _ _ _ (d.function_of {n = n} {es = es} l k x o ps e r w) =
    skipped l ▸ (kind_within _ _ _ k ▸ (a_name spots.bare_name x ▸ (skipped o ▸ (up_to_close param_spots param_within _ _ _ ps ▸ (skipped e ▸
    (result_within (suc n) _ _ _ r ▸ moved (some_listed eqn_spots es) (a_maybe (all_spots eqn_spots) (where_within (suc n)) _ _ _ w)))))))

pub decls_within : (n : ℕ) (ts : List Token) (ds : List Decl) → IsDecls n ts ds → Passage (all_spots decl_spots ds) ts []
decls_within n _ _ d.no_decls = here []
decls_within n _ _ (d.some_decls h hs) = decl_within n _ _ _ h ▸ decls_within n _ _ hs
