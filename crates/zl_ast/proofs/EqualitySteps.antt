-- What the definitions of the equalities of types compute to at a node.
use Rattle.std.proofs.Common.{◌≡◌, List, Option, ap}
use Rattle.zl_ast.specs.declared.name.Name.{Name}
use Rattle.zl_ast.specs.declared.expr.Expr.{Expr, roll-Expr}
use Rattle.zl_ast.specs.declared.expr.Link.{Link, roll-Link}
use Rattle.zl_ast.specs.declared.expr.Expr.TheOpen.{Expr-F, Link-F}
use Rattle.zl_ast.specs.declared.expr.Expr.TheFolds.{map-Expr, map-Link, fold-roll-Expr, fold-roll-Link}
use Rattle.zl_ast.specs.declared.eqn.Eqn.{Eqn, roll-Eqn}
use Rattle.zl_ast.specs.declared.eqn.Arm.{Arm, roll-Arm}
use Rattle.zl_ast.specs.declared.eqn.Body.{Body, roll-Body}
use Rattle.zl_ast.specs.declared.eqn.State.{State, roll-State}
use Rattle.zl_ast.specs.declared.eqn.Eqn.TheOpen.{Eqn-F, Arm-F, Body-F, State-F}
use Rattle.zl_ast.specs.declared.eqn.Eqn.TheFolds.{map-Eqn, map-Arm, map-Body, map-State, fold-roll-Eqn, fold-roll-Arm, fold-roll-Body, fold-roll-State}
use Rattle.zl_ast.specs.declared.expr.Expr.TheFolds.{fold-Link}
use Rattle.std.specs.Prelude.{None}
use Rattle.zl_ast.specs.declared.constraint.Equality.{Equality}
use Rattle.zl_ast.specs.TypeEqualities.{Environment, Part, LinkPart, expr_step, link_step, expr_part, link_part, called_step, called, eqn_step, arm_step, body_step, state_step, eqn_equalities, arm_equalities, body_equalities, state_equalities}

pub part-Expr : (e : Environment) (x : Expr-F Expr Link) → expr_part e (roll-Expr x) ≡ (expr_step e) (map-Expr Expr Link Part LinkPart (expr_part e) (link_part e) x)
unfolding expr_part link_part
part-Expr e x = fold-roll-Expr Part LinkPart (expr_step e) (link_step e) x

pub part-Link : (e : Environment) (x : Link-F Expr Link) → link_part e (roll-Link x) ≡ (link_step e) (map-Link Expr Link Part LinkPart (expr_part e) (link_part e) x)
unfolding expr_part link_part
part-Link e x = fold-roll-Link Part LinkPart (expr_step e) (link_step e) x

pub part-Expr-at : (e : Environment) (x : Expr-F Expr Link) → (expr_part e (roll-Expr x)).at ≡ ((expr_step e) (map-Expr Expr Link Part LinkPart (expr_part e) (link_part e) x)).at
unfolding expr_part link_part
part-Expr-at e x = ap (λ u. u.at) (fold-roll-Expr Part LinkPart (expr_step e) (link_step e) x)

pub part-Expr-equalities : (e : Environment) (x : Expr-F Expr Link) → (expr_part e (roll-Expr x)).equalities ≡ ((expr_step e) (map-Expr Expr Link Part LinkPart (expr_part e) (link_part e) x)).equalities
unfolding expr_part link_part
part-Expr-equalities e x = ap (λ u. u.equalities) (fold-roll-Expr Part LinkPart (expr_step e) (link_step e) x)

pub part-Link-op : (e : Environment) (x : Link-F Expr Link) → (link_part e (roll-Link x)).op ≡ ((link_step e) (map-Link Expr Link Part LinkPart (expr_part e) (link_part e) x)).op
unfolding expr_part link_part
part-Link-op e x = ap (λ u. u.op) (fold-roll-Link Part LinkPart (expr_step e) (link_step e) x)

pub part-Link-at : (e : Environment) (x : Link-F Expr Link) → (link_part e (roll-Link x)).at ≡ ((link_step e) (map-Link Expr Link Part LinkPart (expr_part e) (link_part e) x)).at
unfolding expr_part link_part
part-Link-at e x = ap (λ u. u.at) (fold-roll-Link Part LinkPart (expr_step e) (link_step e) x)

pub part-Link-right : (e : Environment) (x : Link-F Expr Link) → (link_part e (roll-Link x)).right ≡ ((link_step e) (map-Link Expr Link Part LinkPart (expr_part e) (link_part e) x)).right
unfolding expr_part link_part
part-Link-right e x = ap (λ u. u.right) (fold-roll-Link Part LinkPart (expr_step e) (link_step e) x)

pub called-roll : (x : Expr-F Expr Link) → called (roll-Expr x) ≡ called_step (map-Expr Expr Link (Option Name) (Option Name) called (fold-Link (Option Name) (Option Name) called_step (λ l. None)) x)
unfolding called
called-roll x = fold-roll-Expr (Option Name) (Option Name) called_step (λ l. None) x

pub equalities-Eqn : (e : Environment) (x : Eqn-F Eqn Arm Body State) → eqn_equalities e (roll-Eqn x) ≡ (eqn_step e) (map-Eqn Eqn Arm Body State (List Equality) (List Equality) (List Equality) (List Equality) (eqn_equalities e) (arm_equalities e) (body_equalities e) (state_equalities e) x)
unfolding eqn_equalities arm_equalities body_equalities state_equalities
equalities-Eqn e x = fold-roll-Eqn (List Equality) (List Equality) (List Equality) (List Equality) (eqn_step e) (arm_step e) (body_step e) (state_step e) x

pub equalities-Arm : (e : Environment) (x : Arm-F Eqn Arm Body State) → arm_equalities e (roll-Arm x) ≡ (arm_step e) (map-Arm Eqn Arm Body State (List Equality) (List Equality) (List Equality) (List Equality) (eqn_equalities e) (arm_equalities e) (body_equalities e) (state_equalities e) x)
unfolding eqn_equalities arm_equalities body_equalities state_equalities
equalities-Arm e x = fold-roll-Arm (List Equality) (List Equality) (List Equality) (List Equality) (eqn_step e) (arm_step e) (body_step e) (state_step e) x

pub equalities-Body : (e : Environment) (x : Body-F Eqn Arm Body State) → body_equalities e (roll-Body x) ≡ (body_step e) (map-Body Eqn Arm Body State (List Equality) (List Equality) (List Equality) (List Equality) (eqn_equalities e) (arm_equalities e) (body_equalities e) (state_equalities e) x)
unfolding eqn_equalities arm_equalities body_equalities state_equalities
equalities-Body e x = fold-roll-Body (List Equality) (List Equality) (List Equality) (List Equality) (eqn_step e) (arm_step e) (body_step e) (state_step e) x

pub equalities-State : (e : Environment) (x : State-F Eqn Arm Body State) → state_equalities e (roll-State x) ≡ (state_step e) (map-State Eqn Arm Body State (List Equality) (List Equality) (List Equality) (List Equality) (eqn_equalities e) (arm_equalities e) (body_equalities e) (state_equalities e) x)
unfolding eqn_equalities arm_equalities body_equalities state_equalities
equalities-State e x = fold-roll-State (List Equality) (List Equality) (List Equality) (List Equality) (eqn_step e) (arm_step e) (body_step e) (state_step e) x

pub ruleset equality_steps = (part-Expr, part-Link, part-Expr-at, part-Expr-equalities, part-Link-op, part-Link-at, part-Link-right, called-roll, equalities-Eqn, equalities-Arm, equalities-Body, equalities-State)
