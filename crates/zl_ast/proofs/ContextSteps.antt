-- What the definitions of the rule of contexts compute to at a node.
use Rattle.std.proofs.Common.{◌≡◌, ap}
use Rattle.zl_ast.specs.declared.expr.Expr.{Expr, roll-Expr}
use Rattle.zl_ast.specs.declared.expr.Link.{Link, roll-Link}
use Rattle.zl_ast.specs.declared.expr.Expr.TheOpen.{Expr-F, Link-F}
use Rattle.zl_ast.specs.declared.expr.Expr.TheFolds.{map-Expr, map-Link, fold-roll-Expr, fold-roll-Link}
use Rattle.zl_ast.specs.declared.eqn.Eqn.{Eqn, roll-Eqn}
use Rattle.zl_ast.specs.declared.eqn.Arm.{Arm, roll-Arm}
use Rattle.zl_ast.specs.declared.eqn.Body.{Body, roll-Body}
use Rattle.zl_ast.specs.declared.eqn.State.{State, roll-State}
use Rattle.zl_ast.specs.declared.eqn.Eqn.TheOpen.{Eqn-F, Arm-F, Body-F, State-F}
use Rattle.zl_ast.specs.declared.eqn.Eqn.TheFolds.{map-Eqn, map-Arm, map-Body, map-State, fold-roll-Eqn, fold-roll-Arm, fold-roll-Body, fold-roll-State}
use Rattle.zl_ast.specs.Kinds.{Context, Declared, Misplaced, expr_step, link_step, expr_misplaced, link_misplaced, eqn_step, arm_step, body_step, state_step, eqn_misplaced, arm_misplaced, body_misplaced, state_misplaced}

pub misplaced-Expr : (known : Declared) (x : Expr-F Expr Link) (c : Context) → expr_misplaced known (roll-Expr x) c ≡ (expr_step known) (map-Expr Expr Link Misplaced Misplaced (expr_misplaced known) (link_misplaced known) x) c
unfolding expr_misplaced link_misplaced
misplaced-Expr known x c = ap (λ u. u c) (fold-roll-Expr Misplaced Misplaced (expr_step known) (link_step known) x)

pub misplaced-Link : (known : Declared) (x : Link-F Expr Link) (c : Context) → link_misplaced known (roll-Link x) c ≡ (link_step known) (map-Link Expr Link Misplaced Misplaced (expr_misplaced known) (link_misplaced known) x) c
unfolding expr_misplaced link_misplaced
misplaced-Link known x c = ap (λ u. u c) (fold-roll-Link Misplaced Misplaced (expr_step known) (link_step known) x)

pub misplaced-Eqn : (known : Declared) (x : Eqn-F Eqn Arm Body State) (c : Context) → eqn_misplaced known (roll-Eqn x) c ≡ (eqn_step known) (map-Eqn Eqn Arm Body State Misplaced Misplaced Misplaced Misplaced (eqn_misplaced known) (arm_misplaced known) (body_misplaced known) (state_misplaced known) x) c
unfolding eqn_misplaced arm_misplaced body_misplaced state_misplaced
misplaced-Eqn known x c = ap (λ u. u c) (fold-roll-Eqn Misplaced Misplaced Misplaced Misplaced (eqn_step known) (arm_step known) (body_step known) (state_step known) x)

pub misplaced-Arm : (known : Declared) (x : Arm-F Eqn Arm Body State) (c : Context) → arm_misplaced known (roll-Arm x) c ≡ (arm_step known) (map-Arm Eqn Arm Body State Misplaced Misplaced Misplaced Misplaced (eqn_misplaced known) (arm_misplaced known) (body_misplaced known) (state_misplaced known) x) c
unfolding eqn_misplaced arm_misplaced body_misplaced state_misplaced
misplaced-Arm known x c = ap (λ u. u c) (fold-roll-Arm Misplaced Misplaced Misplaced Misplaced (eqn_step known) (arm_step known) (body_step known) (state_step known) x)

pub misplaced-Body : (known : Declared) (x : Body-F Eqn Arm Body State) (c : Context) → body_misplaced known (roll-Body x) c ≡ (body_step known) (map-Body Eqn Arm Body State Misplaced Misplaced Misplaced Misplaced (eqn_misplaced known) (arm_misplaced known) (body_misplaced known) (state_misplaced known) x) c
unfolding eqn_misplaced arm_misplaced body_misplaced state_misplaced
misplaced-Body known x c = ap (λ u. u c) (fold-roll-Body Misplaced Misplaced Misplaced Misplaced (eqn_step known) (arm_step known) (body_step known) (state_step known) x)

pub misplaced-State : (known : Declared) (x : State-F Eqn Arm Body State) (c : Context) → state_misplaced known (roll-State x) c ≡ (state_step known) (map-State Eqn Arm Body State Misplaced Misplaced Misplaced Misplaced (eqn_misplaced known) (arm_misplaced known) (body_misplaced known) (state_misplaced known) x) c
unfolding eqn_misplaced arm_misplaced body_misplaced state_misplaced
misplaced-State known x c = ap (λ u. u c) (fold-roll-State Misplaced Misplaced Misplaced Misplaced (eqn_step known) (arm_step known) (body_step known) (state_step known) x)

pub ruleset context_steps = (misplaced-Expr, misplaced-Link, misplaced-Eqn, misplaced-Arm, misplaced-Body, misplaced-State)
