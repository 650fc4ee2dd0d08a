-- The reading of programs agrees with their grammar, so tokens have at most one tree.
use Rattle.std.proofs.Common.{◌≡◌, ℕ, zero, suc, ◌≤◌, Bool, true, false, List, [], ◌∷◌, length, drop, Option, Some, None, Ok, arith, refl, ap, sym, ◌∙◌}
use Rattle.zl_lexer.specs.declared.token.Token.{Token}
use Rattle.zl_lexer.specs.declared.token.TokenKind.{TokenKind}
use Rattle.zl_lexer.specs.declared.token.TokenKind.TheVariants as kind
use Rattle.zl_lexer.specs.declared.token.Word.TheVariants as word
use Rattle.zl_lexer.specs.declared.token.Sign.TheVariants as sign
use Rattle.zl_value.specs.declared.position.Pos.{Pos}
use Rattle.zl_ast.specs.declared.name.Name.{Name}
use Rattle.zl_ast.specs.declared.expr.Expr.{Expr}
use Rattle.zl_ast.specs.declared.eqn.Eqn.{Eqn}
use Rattle.zl_ast.specs.declared.program.Decl.{Decl}
use Rattle.zl_ast.specs.declared.program.DeclKind.{DeclKind}
use Rattle.zl_ast.specs.declared.program.DeclKind.TheVariants as declared
use Rattle.zl_ast.specs.declared.program.Param.{Param}
use Rattle.zl_ast.specs.Phrases.{Phrase, Nothing, Takes, takes, NotNext, Finds, finds, NoneNext, IsName, ListOf, Maybe, Passes, ToClose, IsTuple, listed}
use Rattle.zl_ast.specs.Phrases as phrases
use Rattle.zl_ast.specs.Operators.{type_name, decl_word}
use Rattle.zl_ast.specs.Declarations.{IsTypeName, IsParam, tuple_next, is_open, is_name, is_comma, IsResult, IsWhere, IsKind, IsDecl, IsDecls}
use Rattle.zl_ast.specs.Declarations as d
use Rattle.zl_ast.specs.Reading.{next_is, next_in, name, maybe, pass, to_close}
use Rattle.zl_ast.specs.ReadingEquations.{read_eqs}
use Rattle.zl_ast.specs.ReadingDeclarations.{type_of, param, result_at, result, where_part, function, unmarked_at, decl_at, decl, decls, read_program}
use Rattle.zl_ast.specs.Spots.{param_spots}
use Rattle.zl_ast.proofs.Passages.{kept_taken}
use Rattle.zl_ast.proofs.PassagesOfEquations.{param_within, decl_within}
use Rattle.zl_ast.proofs.FirstTokens.{Begins, first_name, never_first}
use Rattle.zl_ast.proofs.AgreeingExpressions.{shrinks_of, expr_agrees}
use Rattle.zl_ast.proofs.AgreeingEquations.{tuple_zero, tuple_sound, tuple_complete, eqs_agree}
use Rattle.zl_ast.proofs.Readers.{Only, is, fault, ◌then◌, ◌then_is◌, at_ok, gives, Sound, Complete, Agrees, take_sound, take_complete, next_true, next_false, none_next, next_none, next_some, find_sound, find_complete, name_sound, name_complete, none_inside, inside_sound, inside_complete, maybe_agrees, pass_sound, pass_complete, to_close_agrees}

-- ---- parameters and results

type_complete : Complete IsTypeName type_of
unfolding type_of
type_complete _ _ _ (d.named h) = gives _ (find_complete h) refl

type_agrees : Agrees IsTypeName type_of
unfolding type_of
type_agrees = record { sound = λ ts. find_sound type_name ts then λ w hw. is (d.named hw); complete = type_complete }

maybe_type_agrees : Agrees (Maybe (kind.Sign sign.Colon) IsTypeName) (maybe (kind.Sign sign.Colon) type_of)
maybe_type_agrees = maybe_agrees (kind.Sign sign.Colon) tt IsTypeName type_of type_agrees

param_complete : Complete IsParam param
unfolding param
param_complete _ _ _ (d.param x ty) = gives _ (name_complete _ _ _ x) (gives _ (maybe_type_agrees.complete _ _ _ ty) refl)

param_agrees : Agrees IsParam param
unfolding param
param_agrees = record { sound = λ ts. name_sound ts then λ x hx. maybe_type_agrees.sound x.1 then λ ty hty. is (d.param hx hty); complete = param_complete }

begins_param : Begins is_name IsParam
begins_param _ _ _ (d.param x _) = first_name is_name (λ id. refl) x

params_agree : Agrees (ToClose IsParam) (to_close param)
params_agree =
    to_close_agrees IsParam param param_agrees (shrinks_of param_spots IsParam param_within) (λ ts x rest h. never_first is_name (kind.Sign sign.Close) refl ts (begins_param ts x rest h))

result_at_sound : (n : ℕ) (ts : List Token) (b : Bool) → tuple_next ts ≡ b → Only (λ y. IsResult n ts y.0 y.1) (result_at b n ts)
result_at_sound n ts false h = (expr_agrees n).sound ts then λ x hx. is (d.value h hx)
result_at_sound zero ts true h = tuple_zero _ ts
result_at_sound (suc n) ts true h = tuple_sound n ts then λ xs hxs. is (d.names hxs)

opens_tuple : (ts : List Token) (xs : List Name) (rest : List Token) → IsTuple ts xs rest → tuple_next ts ≡ true
opens_tuple _ _ _ (phrases.tuple (takes o ho) (phrases.name id (takes x hx)) (takes c hc) _ _) =
    let a = ap is_open ho in
    let b = ap is_name hx in
    let e = ap is_comma hc in
    rw (a, b, e)

result_complete : (n : ℕ) → Complete (IsResult n) (result n)
unfolding result
result_complete n _ _ _ (d.value {ts = ts} h x) = ap (λ b. result_at b n ts) h ∙ gives _ ((expr_agrees n).complete _ _ _ x) refl
result_complete _ _ _ _ (d.names {n = n} {ts = ts} xs) = ap (λ b. result_at b (suc n) ts) (opens_tuple _ _ _ xs) ∙ gives _ (tuple_complete n _ _ _ xs) refl

result_agrees : (n : ℕ) → Agrees (IsResult n) (result n)
unfolding result
result_agrees n = record { sound = λ ts. result_at_sound n ts (tuple_next ts) refl; complete = result_complete n }

where_complete : (n : ℕ) → Complete (IsWhere n) (where_part n)
unfolding where_part
where_complete n _ _ _ (d.where_eqs p h) = ap (read_eqs n) (pass_complete tt p) ∙ (eqs_agree n).complete _ _ _ h

where_agrees : (n : ℕ) → Agrees (IsWhere n) (where_part n)
unfolding where_part
where_agrees n = record {
  sound = λ ts. (eqs_agree n).sound (pass (kind.Word word.Rec) ts) then_is λ es h. d.where_eqs (pass_sound (kind.Word word.Rec) tt ts) h;
  complete = where_complete n;
}

maybe_where_agrees : (n : ℕ) → Agrees (Maybe (kind.Word word.Where) (IsWhere n)) (maybe (kind.Word word.Where) (where_part n))
maybe_where_agrees n = maybe_agrees (kind.Word word.Where) tt (IsWhere n) (where_part n) (where_agrees n)

-- ---- declarations

function_sound : (n : ℕ) (k : DeclKind) (x : Name) (ts us vs ws : List Token) (at : Pos) → Takes (kind.Word word.Let) ts at us → IsKind us k vs → IsName vs x ws →
    Only (λ y. IsDecl n ts y.0 y.1) (function n k x ws)
function_sound zero k x ts us vs ws at l hk hx = take_sound (kind.Sign sign.Open) tt ws then λ o ho. none_inside _ (to_close param) o.1
function_sound (suc n) k x ts us vs ws at l hk hx =
    take_sound (kind.Sign sign.Open) tt ws then λ o ho. inside_sound n (to_close param) o.1 (params_agree.sound o.1) then λ ps hps.
    take_sound (kind.Sign sign.Equal) tt ps.1 then λ e he. (result_agrees (suc n)).sound e.1 then λ r hr. (maybe_where_agrees (suc n)).sound r.1 then λ w hw.
    is (d.function_of l hk hx ho hps he hr hw)

function_complete : (n : ℕ) (k : DeclKind) (x : Name) {ws xs ys zs os rest : List Token} {at equal_at : Pos} {params : List Param} {results : List Expr} {es : Option (List Eqn)} →
    Takes (kind.Sign sign.Open) ws at xs → ToClose IsParam xs params ys → Takes (kind.Sign sign.Equal) ys equal_at zs → IsResult (suc n) zs results os →
    Maybe (kind.Word word.Where) (IsWhere (suc n)) os es rest →
    function (suc n) k x ws ≡ Ok (record { kind = k; name = x; params = params; results = results; eqs = listed es }, rest)
function_complete n k x o ps e r w =
    gives _ (take_complete tt o) (gives _ (inside_complete n (to_close param) _ (params_agree.complete _ _ _ ps)) (gives _ (take_complete tt e)
    (gives _ ((result_agrees (suc n)).complete _ _ _ r) (gives _ ((maybe_where_agrees (suc n)).complete _ _ _ w) refl))))

unmarked_at_sound : (n : ℕ) (b : Bool) (x : Name) (ts us ws : List Token) (at : Pos) → Takes (kind.Word word.Let) ts at us → NoneNext decl_word us → IsName us x ws →
    Only (λ y. IsDecl n ts y.0 y.1) (unmarked_at b n x ws)
unmarked_at_sound n true x ts us ws at l hk hx =
    take_sound (kind.Sign sign.Equal) tt ws then λ e he. (expr_agrees n).sound e.1 then λ v hv. is (d.constant l hx he hv)
unmarked_at_sound n false x ts us ws at l hk hx = function_sound n declared.Function x ts us us ws at l (d.function hk) hx

found_behind : {A : Type 0} (table : TokenKind → Option A) (a : A) (ts : List Token) → next_in table ts ≡ Some a → (at : Pos) × Finds table ts a at (drop 1 ts)
unfolding next_in
found_behind table a [] h = cc
found_behind table a (t ∷ ts) h = (t.at, finds t a h)

decl_at_sound : (n : ℕ) (ts us : List Token) (at : Pos) → Takes (kind.Word word.Let) ts at us → (o : Option DeclKind) → next_in decl_word us ≡ o →
    Only (λ y. IsDecl n ts y.0 y.1) (decl_at o n us)
decl_at_sound n ts us at l None h =
    name_sound us then λ x hx. unmarked_at_sound n (next_is (kind.Sign sign.Equal) x.1) x.0 ts us x.1 at l (none_next decl_word us h) hx
decl_at_sound n ts us at l (Some k) h =
    let w = found_behind decl_word k us h in
    name_sound (drop 1 us) then λ x hx. function_sound n k x.0 ts us (drop 1 us) x.1 at l (d.marked w.1) hx

decl_sound : (n : ℕ) → Sound (IsDecl n) (decl n)
unfolding decl
decl_sound n ts = take_sound (kind.Word word.Let) tt ts then λ l hl. decl_at_sound n ts l.1 l.0 hl (next_in decl_word l.1) refl

name_unmarked : {ts rest : List Token} {x : Name} → IsName ts x rest → next_in decl_word ts ≡ None
unfolding next_in
name_unmarked (phrases.name id (takes t h)) = ap decl_word h

found_drop : {A : Type 0} {table : TokenKind → Option A} {ts rest : List Token} {a : A} {at : Pos} → Finds table ts a at rest → drop 1 ts ≡ rest
found_drop (finds t a h) = refl

open_not_equal : {ts rest : List Token} {at : Pos} → Takes (kind.Sign sign.Open) ts at rest → next_is (kind.Sign sign.Equal) ts ≡ false
open_not_equal (takes t {ts = ts} h) = next_false (kind.Sign sign.Equal) (t ∷ ts) tt (λ e. let g = ap is_open (sym h ∙ e) in cc)

decl_at_complete : (n : ℕ) {us vs ws xs ys zs os rest : List Token} {at equal_at : Pos} {k : DeclKind} {x : Name} {params : List Param} {results : List Expr} {es : Option (List Eqn)} →
    IsKind us k vs → IsName vs x ws → Takes (kind.Sign sign.Open) ws at xs → ToClose IsParam xs params ys → Takes (kind.Sign sign.Equal) ys equal_at zs →
    IsResult (suc n) zs results os → Maybe (kind.Word word.Where) (IsWhere (suc n)) os es rest →
    decl_at (next_in decl_word us) (suc n) us ≡ Ok (record { kind = k; name = x; params = params; results = results; eqs = listed es }, rest)
decl_at_complete n {ws = ws} {x = x} (d.function {ts = us} h) hx o ps e r w =
    ap (λ q. decl_at q (suc n) us) (next_none decl_word us h) ∙
    gives _ (name_complete _ _ _ hx) (ap (λ b. unmarked_at b (suc n) x ws) (open_not_equal o) ∙ function_complete n declared.Function x o ps e r w)
decl_at_complete n {x = x} (d.marked {ts = us} {k = k} h) hx o ps e r w =
    ap (λ q. decl_at q (suc n) us) (next_some h) ∙
    gives _ (ap name (found_drop h) ∙ name_complete _ _ _ hx) (function_complete n k x o ps e r w)

decl_complete : (n : ℕ) → Complete (IsDecl n) (decl n)
unfolding decl
decl_complete n _ _ _ (d.constant {us = us} {vs = vs} {x = x} l hx e v) =
    gives _ (take_complete tt l) (ap (λ q. decl_at q n us) (name_unmarked hx) ∙
    gives _ (name_complete _ _ _ hx) (ap (λ b. unmarked_at b n x vs) (next_true tt e) ∙
    gives _ (take_complete tt e) (gives _ ((expr_agrees n).complete _ _ _ v) refl)))
decl_complete _ _ _ _ (d.function_of {n = n} l k hx o ps e r w) = gives _ (take_complete tt l) (decl_at_complete n k hx o ps e r w)

pub decl_agrees : (n : ℕ) → Agrees (IsDecl n) (decl n)
decl_agrees n = record { sound = decl_sound n; complete = decl_complete n }

-- ---- programs

decl_shorter : (n : ℕ) (ts : List Token) (x : Decl) (rest : List Token) → IsDecl n ts x rest → suc (length rest) ≤ length ts
decl_shorter n ts x rest h = let p = kept_taken (decl_within n ts x rest h) in omega arith

decls_sound : (n most : ℕ) (ts : List Token) → Only (λ ds. IsDecls n ts ds) (decls n most ts)
unfolding decls
decls_sound n most [] = is d.no_decls
decls_sound n zero (t ∷ ts) = fault
decls_sound n (suc most) (t ∷ ts) = decl_sound n (t ∷ ts) then λ x hx. decls_sound n most x.1 then λ ds hds. is (d.some_decls hx hds)

decls_complete : (n most : ℕ) (ts : List Token) (ds : List Decl) → IsDecls n ts ds → length ts ≤ most → decls n most ts ≡ Ok ds
unfolding decls
decls_complete n most _ _ d.no_decls le = refl
decls_complete n most [] _ (d.some_decls h hs) le = absurd (let a = decl_shorter n _ _ _ h in omega arith)
decls_complete n zero (t ∷ ts) _ (d.some_decls h hs) le = absurd (omega arith)
decls_complete n (suc most) (t ∷ ts) _ (d.some_decls {us = us} h hs) le =
    let a = decl_shorter n _ _ _ h in
    gives _ (decl_complete n _ _ _ h) (gives _ (decls_complete n most us _ hs (omega arith)) refl)

pub program_sound : (n : ℕ) (ts : List Token) (ds : List Decl) → read_program n ts ≡ Ok ds → IsDecls n ts ds
unfolding read_program
program_sound n ts ds h = at_ok (decls_sound n (length ts) ts) h

pub program_complete : (n : ℕ) (ts : List Token) (ds : List Decl) → IsDecls n ts ds → read_program n ts ≡ Ok ds
unfolding read_program
program_complete n ts ds h = decls_complete n (length ts) ts ds h (omega arith)

pub one_tree_at : (n : ℕ) (ts : List Token) (ds es : List Decl) → IsDecls n ts ds → IsDecls n ts es → ds ≡ es
one_tree_at n ts ds es h k =
    let a = program_complete n ts ds h in
    let b = program_complete n ts es k in
    cc
