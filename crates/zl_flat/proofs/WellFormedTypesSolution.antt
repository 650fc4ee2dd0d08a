-- Where no parameter is written with the type of an `up`, equalities of types that can be met can be met without it.
use Rattle.std.proofs.Common.{◌≡◌, ℕ, Bool, true, false, if◌then◌else◌, List, [], ◌∷◌, ◌++◌, map, Option, Some, None, sym, ap, subst}
use Rattle.std.specs.Prelude.{codes}
use Rattle.std.specs.List.{AllByRecursion}
use Rattle.zl_value.specs.declared.position.Pos.{Pos}
use Rattle.zl_value.specs.declared.value.Ty.{Ty}
use Rattle.zl_value.specs.declared.value.Ty.TheVariants.{Bool as BoolTy, Int, Float, Zero}
use Rattle.zl_value.specs.declared.value.Value.{Value}
use Rattle.zl_value.specs.declared.value.Value.TheVariants.{B, I, F}
use Rattle.zl_ast.specs.declared.name.Name.{Name}
use Rattle.zl_ast.specs.declared.operator.Prefix.{Prefix}
use Rattle.zl_ast.specs.declared.operator.Prefix.TheVariants as prefix
use Rattle.zl_ast.specs.declared.operator.Infix.{Infix}
use Rattle.zl_ast.specs.declared.operator.Infix.TheVariants as infix_op
use Rattle.zl_ast.specs.declared.constraint.Side.{Side}
use Rattle.zl_ast.specs.declared.constraint.Side.TheVariants as side
use Rattle.zl_ast.specs.declared.constraint.Equality.{Equality}
use Rattle.zl_ast.specs.declared.expr.Expr.{Expr, roll-Expr}
use Rattle.zl_ast.specs.declared.expr.Link.{Link, roll-Link}
use Rattle.zl_ast.specs.declared.expr.Expr.TheOpen.{Expr-F, Link-F}
use Rattle.zl_ast.specs.declared.expr.Expr.TheOpen as open_expr
use Rattle.zl_ast.specs.declared.expr.Expr.TheFolds.{fold-roll-Expr, fold-roll-Link, ind-Expr, map-Expr, map-Link}
use Rattle.zl_ast.specs.declared.eqn.Eqn.{Eqn, roll-Eqn}
use Rattle.zl_ast.specs.declared.eqn.Arm.{Arm, roll-Arm}
use Rattle.zl_ast.specs.declared.eqn.Body.{Body, roll-Body}
use Rattle.zl_ast.specs.declared.eqn.State.{State, roll-State}
use Rattle.zl_ast.specs.declared.eqn.Cond.{Cond}
use Rattle.zl_ast.specs.declared.eqn.Cond.TheVariants.{Event, Test}
use Rattle.zl_ast.specs.declared.eqn.Up.{Up}
use Rattle.zl_ast.specs.declared.eqn.ResetArm.{ResetArm}
use Rattle.zl_ast.specs.declared.eqn.Move.{Move}
use Rattle.zl_ast.specs.declared.eqn.Eqn.TheOpen.{Eqn-F, Arm-F, Body-F, State-F}
use Rattle.zl_ast.specs.declared.eqn.Eqn.TheOpen as open_eqn
use Rattle.zl_ast.specs.declared.eqn.Eqn.TheFolds.{fold-roll-Eqn, fold-roll-Arm, fold-roll-Body, fold-roll-State, ind-Eqn, map-Eqn, map-Arm, map-Body, map-State}
use Rattle.zl_ast.specs.declared.program.Decl.{Decl}
use Rattle.zl_ast.specs.declared.program.Param.{Param}
use Rattle.zl_ast.specs.Names.{has_text}
use Rattle.zl_ast.specs.Scopes as scope
use Rattle.zl_ast.specs.Assignments.{Assignment, side_type, Solves, joined}
use Rattle.zl_ast.specs.TypeEqualities as types
use Rattle.zl_ast.specs.TypeEqualities.{Signature, Environment, Part, LinkPart, same_pairs, same_as_found, from_to, first_result, built_in_call, call_equalities, infix_equalities, type_of_all, prefix_equalities, links_equalities, all_equalities, places, read_place, expr_part, link_part, expr_equalities, exprs_equalities, names_equalities, several_equalities, sides_equalities, called, results_of, der_places, up_equalities, ups_equalities, cond_equalities, start_equalities, reset_arm_equalities, moves_equalities, eqn_equalities, arm_equalities, body_equalities, state_equalities, eqns_equalities, annotation, params_equalities, with_variables, with_declared, decl_equalities, decls_equalities}
use Rattle.zl_flat.proofs.WellFormedParts.{all-append, all-left, all-right}
use Rattle.zl_flat.proofs.WellFormedGrammar.{IsWritten, AllWritten, annotated, exprs_written, eqns_written, params_written, decl_written, decls_written}
use Rattle.zl_flat.proofs.WellFormedTypesExprTrees.{NoZero}

-- ---- no equality fixes the type of an `up`

abbrev pub IsFree : Side → Type 0
IsFree (side.Fixed BoolTy) = Unit {0}
IsFree (side.Fixed Int) = Unit {0}
IsFree (side.Fixed Float) = Unit {0}
IsFree (side.Fixed Zero) = ⊥
IsFree (side.SameAs p) = Unit {0}

abbrev pub IsFreeOne : Equality → Type 0
IsFreeOne q = IsFree q.side

abbrev pub AllFree : List Equality → Type 0
AllFree qs = AllByRecursion IsFreeOne qs

-- two lists of which none does
both : (xs ys : List Equality) → AllFree xs → AllFree ys → AllFree (xs ++ ys)
both xs ys h k = all-append IsFreeOne xs ys h k

-- lists of which none does, one behind the other
joined-free : {X : Type 0} (g : X → List Equality) (xs : List X) → ((x : X) → AllFree (g x)) → AllFree (joined (map g xs))
joined-free g [] h = tt
joined-free g (x ∷ xs) h = both (g x) (joined (map g xs)) (h x) (joined-free g xs h)

pairs-free : (at : Pos) (ps qs : List Pos) → AllFree (same_pairs at ps qs)
pairs-free at [] qs = tt
pairs-free at (p ∷ ps) [] = tt
pairs-free at (p ∷ ps) (q ∷ qs) = (tt, pairs-free at ps qs)

found-free : (at node : Pos) (o : Option Pos) → AllFree (same_as_found at node o)
found-free at node None = tt
found-free at node (Some p) = (tt, tt)

-- ---- expressions

infix-free : (op : Infix) (left at right : Pos) → AllFree (infix_equalities (type_of_all op) left at right)
infix-free infix_op.Or left at right = (tt, (tt, (tt, tt)))
infix-free infix_op.And left at right = (tt, (tt, (tt, tt)))
infix-free infix_op.Equal left at right = (tt, (tt, tt))
infix-free infix_op.Unequal left at right = (tt, (tt, tt))
infix-free infix_op.Less left at right = (tt, (tt, tt))
infix-free infix_op.AtMost left at right = (tt, (tt, tt))
infix-free infix_op.Greater left at right = (tt, (tt, tt))
infix-free infix_op.AtLeast left at right = (tt, (tt, tt))
infix-free infix_op.Plus left at right = (tt, (tt, (tt, tt)))
infix-free infix_op.Minus left at right = (tt, (tt, (tt, tt)))
infix-free infix_op.PlusDot left at right = (tt, (tt, (tt, tt)))
infix-free infix_op.MinusDot left at right = (tt, (tt, (tt, tt)))
infix-free infix_op.Star left at right = (tt, (tt, (tt, tt)))
infix-free infix_op.Slash left at right = (tt, (tt, (tt, tt)))
infix-free infix_op.Mod left at right = (tt, (tt, (tt, tt)))
infix-free infix_op.StarDot left at right = (tt, (tt, (tt, tt)))
infix-free infix_op.SlashDot left at right = (tt, (tt, (tt, tt)))

prefix-free : (op : Prefix) (at x : Pos) → AllFree (prefix_equalities op at x)
prefix-free prefix.Minus at x = (tt, (tt, tt))
prefix-free prefix.MinusDot at x = (tt, (tt, tt))
prefix-free prefix.Not at x = (tt, (tt, tt))
prefix-free prefix.Pre at x = (tt, tt)

literal-free : (v : Value) → IsFree (side.Fixed (types.type_of v))
literal-free (B b) = tt
literal-free (I n) = tt
literal-free (F r) = tt

fixed-free : (at : Pos) (t : Ty) (ps : List Pos) → IsFree (side.Fixed t) → AllFree (map (types.fixed at t) ps)
fixed-free at t [] h = tt
fixed-free at t (p ∷ ps) h = (h, fixed-free at t ps h)

built_in-free : (names : List (List ℕ)) (x : Name) (args : List Pos) → AllFree (built_in_call names x args)
built_in-free names x args = by_text (has_text names x.id (codes "float_of_int")) (has_text names x.id (codes "truncate"))
  where
    one : (t u : Ty) → IsFree (side.Fixed t) → IsFree (side.Fixed u) → AllFree (from_to t u x.at args)
    one t u h k = both (map (types.fixed x.at t) args) (types.fixed x.at u x.at ∷ []) (fixed-free x.at t args h) (k, tt)

    by_text : (b c : Bool) → AllFree (if b then from_to Int Float x.at args else (if c then from_to Float Int x.at args else []))
    by_text true c = one Int Float tt tt
    by_text false true = one Float Int tt tt
    by_text false false = tt

call-free : (e : Environment) (x : Name) (args : List Pos) (s : Option Signature) → AllFree (call_equalities e x args s)
call-free e x args None = built_in-free e.names x args
call-free e x args (Some s) = both (same_pairs x.at args s.params) (same_as_found x.at x.at (first_result (Some s))) (pairs-free x.at args s.params) (found-free x.at x.at (first_result (Some s)))

module _ (e : Environment) where
  abbrev ExprFree : Expr → Type 0
  ExprFree x = AllFree (expr_part e x).equalities

  abbrev LinkFree : Link → Type 0
  LinkFree l = AllFree (link_part e l).right.equalities

  abbrev TheExpr : Type 0
  TheExpr = (x : Expr) × ExprFree x

  abbrev TheLink : Type 0
  TheLink = (l : Link) × LinkFree l

  args-free : (xs : List TheExpr) → AllFree (all_equalities (map (expr_part e) (map (λ x. x.0) xs)))
  args-free [] = tt
  args-free (x ∷ xs) = both (expr_part e x.0).equalities (all_equalities (map (expr_part e) (map (λ x. x.0) xs))) x.1 (args-free xs)

  links-free : (left : Pos) (ls : List TheLink) → AllFree (links_equalities left (map (link_part e) (map (λ l. l.0) ls)))
  links-free left [] = tt
  links-free left (l ∷ ls) =
      let p = link_part e l.0 in
      let more = links_equalities p.at (map (link_part e) (map (λ l. l.0) ls)) in
      both (infix_equalities (type_of_all p.op) left p.at p.right.at) (p.right.equalities ++ more) (infix-free p.op left p.at p.right.at) (both p.right.equalities more l.1 (links-free p.at ls))

  expr-layer : (y : Expr-F TheExpr TheLink) → AllFree (types.expr_step e (map-Expr Expr Link Part LinkPart (expr_part e) (link_part e) (map-Expr TheExpr TheLink Expr Link (λ x. x.0) (λ l. l.0) y))).equalities
  expr-layer (open_expr.Lit v at) = (literal-free v, tt)
  expr-layer (open_expr.Var x) = found-free x.at x.at (read_place e x)
  expr-layer (open_expr.Last x at) = found-free at at (e.variables x.id)
  expr-layer (open_expr.Call x args) =
      let parts = map (expr_part e) (map (λ x. x.0) args) in
      both (call_equalities e x (places parts) (e.declared x.id)) (all_equalities parts) (call-free e x (places parts) (e.declared x.id)) (args-free args)
  expr-layer (open_expr.Prefix op at x) = let p = expr_part e x.0 in both (prefix_equalities op at p.at) p.equalities (prefix-free op at p.at) x.1
  expr-layer (open_expr.Chain x ls) = let p = expr_part e x.0 in both p.equalities (links_equalities p.at (map (link_part e) (map (λ l. l.0) ls))) x.1 (links-free p.at ls)
  expr-layer (open_expr.Flow op at x y) =
      let p = expr_part e x.0 in
      let q = expr_part e y.0 in
      both p.equalities (types.same at at p.at ∷ types.same at at q.at ∷ q.equalities) x.1 (tt, (tt, y.1))
  expr-layer (open_expr.If at z x y) =
      let o = expr_part e z.0 in
      let p = expr_part e x.0 in
      let q = expr_part e y.0 in
      (tt, (tt, (tt, both o.equalities (p.equalities ++ q.equalities) z.1 (both p.equalities q.equalities x.1 y.1))))

  expr-free : (x : Expr) → ExprFree x
  unfolding expr_part link_part
  expr-free = ind-Expr ExprFree LinkFree
      (λ x y is. subst (λ z. ExprFree (roll-Expr z)) is (subst (λ (p : Part). AllFree p.equalities) (sym (fold-roll-Expr Part LinkPart (types.expr_step e) (types.link_step e) (map-Expr TheExpr TheLink Expr Link (λ x. x.0) (λ l. l.0) y))) (expr-layer y)))
      (λ x y is. subst (λ z. LinkFree (roll-Link z)) is (subst (λ (p : LinkPart). AllFree p.right.equalities) (sym (fold-roll-Link Part LinkPart (types.expr_step e) (types.link_step e) (map-Link TheExpr TheLink Expr Link (λ x. x.0) (λ l. l.0) y))) y.arg.1))

  -- ---- equations

  names-free : (at : Pos) (xs : List Name) (rs : List Pos) → AllFree (names_equalities e at xs rs)
  names-free at [] rs = tt
  names-free at (x ∷ xs) [] = tt
  names-free at (x ∷ xs) (r ∷ rs) = both (same_as_found at r (e.variables x.id)) (names_equalities e at xs rs) (found-free at r (e.variables x.id)) (names-free at xs rs)

  several-free : (left : List Name) (c : Option Name) → AllFree (several_equalities e left c)
  several-free left None = tt
  several-free left (Some g) = names-free g.at left (results_of (e.declared g.id))

  sides-free : (left : List Name) (right : Expr) → AllFree (sides_equalities e left right)
  sides-free [] right = several-free [] (called right)
  sides-free (x ∷ []) right = found-free x.at _ (e.variables x.id)
  sides-free (x ∷ y ∷ xs) right = several-free (x ∷ y ∷ xs) (called right)

  ups-free : (us : List Up) → AllFree (ups_equalities e us)
  ups-free us = joined-free (up_equalities e) us (λ u. (tt, expr-free u.arg))

  cond-free : (z : Cond) → AllFree (cond_equalities e z)
  cond-free (Event us) = ups-free us
  cond-free (Test at x) = (tt, expr-free x)

  start-free : (start : Option Expr) → AllFree (start_equalities e start)
  start-free None = tt
  start-free (Some x) = expr-free x

  moves-free : (zs : List Move) → AllFree (moves_equalities e zs)
  moves-free zs = joined-free (λ (z : Move). cond_equalities e z.cond) zs (λ z. cond-free z.cond)

  resets-free : (rs : List ResetArm) → AllFree (joined (map (reset_arm_equalities e) rs))
  resets-free rs = joined-free (reset_arm_equalities e) rs (λ r. both (ups_equalities e r.event) (expr_equalities e r.value) (ups-free r.event) (expr-free r.value))

  abbrev TheEqn : Type 0
  TheEqn = (x : Eqn) × AllFree (eqn_equalities e x)

  abbrev TheArm : Type 0
  TheArm = (x : Arm) × AllFree (arm_equalities e x)

  abbrev TheBody : Type 0
  TheBody = (x : Body) × AllFree (body_equalities e x)

  abbrev TheState : Type 0
  TheState = (x : State) × AllFree (state_equalities e x)

  each-free : {X : Type 0} (g : X → List Equality) (xs : List ((x : X) × AllFree (g x))) → AllFree (joined (map g (map (λ x. x.0) xs)))
  each-free g [] = tt
  each-free g (x ∷ xs) = both (g x.0) (joined (map g (map (λ x. x.0) xs))) x.1 (each-free g xs)

  eqn-layer : (y : Eqn-F TheEqn TheArm TheBody TheState) →
      AllFree (types.eqn_step e (map-Eqn Eqn Arm Body State (List Equality) (List Equality) (List Equality) (List Equality) (eqn_equalities e) (arm_equalities e) (body_equalities e) (state_equalities e) (map-Eqn TheEqn TheArm TheBody TheState Eqn Arm Body State (λ x. x.0) (λ x. x.0) (λ x. x.0) (λ x. x.0) y)))
  eqn-layer (open_eqn.Plain left right) = both (sides_equalities e left right) (expr_equalities e right) (sides-free left right) (expr-free right)
  eqn-layer (open_eqn.Der at x slope start resets) =
      let more = start_equalities e start ++ joined (map (reset_arm_equalities e) resets) in
      both (map (types.fixed at Float) (der_places (e.variables x.id) slope start resets)) (expr_equalities e slope ++ more) (fixed-free at Float (der_places (e.variables x.id) slope start resets) tt)
      (both (expr_equalities e slope) more (expr-free slope) (both (start_equalities e start) (joined (map (reset_arm_equalities e) resets)) (start-free start) (resets-free resets)))
  eqn-layer (open_eqn.Start at x value) = both (same_as_found at _ (e.variables x.id)) (expr_equalities e value) (found-free at _ (e.variables x.id)) (expr-free value)
  eqn-layer (open_eqn.Present at arms None) = both (joined (map (arm_equalities e) (map (λ x. x.0) arms))) [] (each-free (arm_equalities e) arms) tt
  eqn-layer (open_eqn.Present at arms (Some b)) = both (joined (map (arm_equalities e) (map (λ x. x.0) arms))) (body_equalities e b.0) (each-free (arm_equalities e) arms) b.1
  eqn-layer (open_eqn.Automaton at states) = each-free (state_equalities e) states
  eqn-layer (open_eqn.Reset at eqs z) = both (joined (map (eqn_equalities e) (map (λ x. x.0) eqs))) (cond_equalities e z) (each-free (eqn_equalities e) eqs) (cond-free z)

  eqn-free : (x : Eqn) → AllFree (eqn_equalities e x)
  unfolding eqn_equalities arm_equalities body_equalities state_equalities
  eqn-free = ind-Eqn (λ x. AllFree (eqn_equalities e x)) (λ x. AllFree (arm_equalities e x)) (λ x. AllFree (body_equalities e x)) (λ x. AllFree (state_equalities e x))
      (λ x y is. subst (λ z. AllFree (eqn_equalities e (roll-Eqn z))) is
      (subst AllFree (sym (fold-roll-Eqn (List Equality) (List Equality) (List Equality) (List Equality) (types.eqn_step e) (types.arm_step e) (types.body_step e) (types.state_step e) (map-Eqn TheEqn TheArm TheBody TheState Eqn Arm Body State (λ x. x.0) (λ x. x.0) (λ x. x.0) (λ x. x.0) y))) (eqn-layer y)))
      (λ x y is. subst (λ z. AllFree (arm_equalities e (roll-Arm z))) is
      (subst AllFree (sym (fold-roll-Arm (List Equality) (List Equality) (List Equality) (List Equality) (types.eqn_step e) (types.arm_step e) (types.body_step e) (types.state_step e) (map-Arm TheEqn TheArm TheBody TheState Eqn Arm Body State (λ x. x.0) (λ x. x.0) (λ x. x.0) (λ x. x.0) y)))
      (both (cond_equalities e y.cond) (body_equalities e y.body.0) (cond-free y.cond) y.body.1)))
      (λ x y is. subst (λ z. AllFree (body_equalities e (roll-Body z))) is
      (subst AllFree (sym (fold-roll-Body (List Equality) (List Equality) (List Equality) (List Equality) (types.eqn_step e) (types.arm_step e) (types.body_step e) (types.state_step e) (map-Body TheEqn TheArm TheBody TheState Eqn Arm Body State (λ x. x.0) (λ x. x.0) (λ x. x.0) (λ x. x.0) y)))
      (each-free (eqn_equalities e) y.eqs)))
      (λ x y is. subst (λ z. AllFree (state_equalities e (roll-State z))) is
      (subst AllFree (sym (fold-roll-State (List Equality) (List Equality) (List Equality) (List Equality) (types.eqn_step e) (types.arm_step e) (types.body_step e) (types.state_step e) (map-State TheEqn TheArm TheBody TheState Eqn Arm Body State (λ x. x.0) (λ x. x.0) (λ x. x.0) (λ x. x.0) y)))
      (both (body_equalities e y.body.0) (moves_equalities e y.moves) y.body.1 (moves-free y.moves))))

-- ---- declarations

annotation-free : (at : Pos) (ty : Option Ty) → IsWritten (annotated ty) → AllFree (annotation at ty)
annotation-free at None w = tt
annotation-free at (Some BoolTy) w = (tt, tt)
annotation-free at (Some Int) w = (tt, tt)
annotation-free at (Some Float) w = (tt, tt)
annotation-free at (Some Zero) w = absurd w

params-free : (ps : List Param) → AllWritten (params_written ps) → AllFree (params_equalities ps)
params-free [] w = tt
params-free (p ∷ ps) w = both (annotation p.name.at p.ty) (params_equalities ps) (annotation-free p.name.at p.ty w.0) (params-free ps w.1)

decl-free : (e : Environment) (d : Decl) → AllWritten (decl_written d) → AllFree (decl_equalities e d)
decl-free e d w =
    both (params_equalities d.params) (exprs_equalities e d.results ++ eqns_equalities e d.eqs) (params-free d.params (all-left IsWritten (params_written d.params) (exprs_written d.results ++ eqns_written d.eqs) w.1))
    (both (exprs_equalities e d.results) (eqns_equalities e d.eqs) (joined-free (expr_equalities e) d.results (expr-free e)) (joined-free (eqn_equalities e) d.eqs (eqn-free e)))

-- no equality of a program fixes the type of an `up`, if no parameter is written with it
pub decls-free : (e : Environment) (ds : List Decl) → AllWritten (decls_written ds) → AllFree (decls_equalities e ds)
decls-free e [] w = tt
decls-free e (d ∷ ds) w =
    let inside = with_variables e (scope.variables d) in
    both (decl_equalities inside d) (decls_equalities (with_declared inside d) ds) (decl-free inside d (all-left IsWritten (decl_written d) (decls_written ds) w)) (decls-free (with_declared inside d) ds (all-right IsWritten (decl_written d) (decls_written ds) w))

-- ---- assignments

-- int in place of the type of an `up`
abbrev pub other_type : Ty → Ty
other_type BoolTy = BoolTy
other_type Int = Int
other_type Float = Float
other_type Zero = Int

abbrev pub without_zero : Assignment → Assignment
without_zero a p = other_type (a p)

-- it is another type
not-zero : (t : Ty) → other_type t ≡ Zero → ⊥
not-zero BoolTy h = cc
not-zero Int h = cc
not-zero Float h = cc
not-zero Zero h = cc

-- it gives no place the type of an `up`
pub without-zero : (a : Assignment) → NoZero (without_zero a)
without-zero a p h = not-zero (a p) h

-- an equality is met in place of it
meets-without : (a : Assignment) (node : Pos) (s : Side) → IsFree s → a node ≡ side_type a s → without_zero a node ≡ side_type (without_zero a) s
meets-without a node (side.Fixed BoolTy) h m = ap other_type m
meets-without a node (side.Fixed Int) h m = ap other_type m
meets-without a node (side.Fixed Float) h m = ap other_type m
meets-without a node (side.Fixed Zero) h m = absurd h
meets-without a node (side.SameAs p) h m = ap other_type m

-- so are all
pub solves-without : (a : Assignment) (qs : List Equality) → AllFree qs → Solves qs a → Solves qs (without_zero a)
solves-without a [] h m = tt
solves-without a (q ∷ qs) h m = (meets-without a q.node q.side h.0 m.0, solves-without a qs h.1 m.1)
