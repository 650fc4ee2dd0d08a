-- What the definitions of the constraints on levels compute to at a node.
use Rattle.std.proofs.Common.{◌≡◌, ℕ, Bool, ap}
use Rattle.zl_value.specs.declared.position.Pos.{Pos}
use Rattle.zl_ast.specs.declared.expr.Expr.{Expr, roll-Expr}
use Rattle.zl_ast.specs.declared.expr.Link.{Link, roll-Link}
use Rattle.zl_ast.specs.declared.expr.Expr.TheOpen.{Expr-F, Link-F}
use Rattle.zl_ast.specs.declared.expr.Expr.TheFolds.{map-Expr, map-Link, para-roll-Expr, para-roll-Link}
use Rattle.zl_ast.specs.declared.eqn.Eqn.{Eqn, roll-Eqn}
use Rattle.zl_ast.specs.declared.eqn.Arm.{Arm, roll-Arm}
use Rattle.zl_ast.specs.declared.eqn.Body.{Body, roll-Body}
use Rattle.zl_ast.specs.declared.eqn.State.{State, roll-State}
use Rattle.zl_ast.specs.declared.eqn.Eqn.TheOpen.{Eqn-F, Arm-F, Body-F, State-F}
use Rattle.zl_ast.specs.declared.eqn.Eqn.TheFolds.{map-Eqn, map-Arm, map-Body, map-State, fold-roll-Eqn, fold-roll-Arm, fold-roll-Body, fold-roll-State}
use Rattle.zl_ast.specs.Anchored.{Given, eqn_given, arm_given, body_given, state_given}
use Rattle.zl_ast.specs.Anchored as anchored
use Rattle.zl_ast.specs.Initialised.{Known, Constraints, Setting, Needs, BodyNeeds, expr_step, link_step, expr_constraints, link_constraints, eqn_step, arm_step, body_step, state_step, eqn_needs, arm_needs, body_needs, state_needs}

pub given-Eqn : (x : Eqn-F Eqn Arm Body State) → eqn_given (roll-Eqn x) ≡ anchored.eqn_step (map-Eqn Eqn Arm Body State Given Given Given Given eqn_given arm_given body_given state_given x)
unfolding eqn_given arm_given body_given state_given
given-Eqn x = fold-roll-Eqn Given Given Given Given anchored.eqn_step anchored.arm_step anchored.body_step anchored.state_step x

pub given-Arm : (x : Arm-F Eqn Arm Body State) → arm_given (roll-Arm x) ≡ anchored.arm_step (map-Arm Eqn Arm Body State Given Given Given Given eqn_given arm_given body_given state_given x)
unfolding eqn_given arm_given body_given state_given
given-Arm x = fold-roll-Arm Given Given Given Given anchored.eqn_step anchored.arm_step anchored.body_step anchored.state_step x

pub given-Body : (x : Body-F Eqn Arm Body State) → body_given (roll-Body x) ≡ anchored.body_step (map-Body Eqn Arm Body State Given Given Given Given eqn_given arm_given body_given state_given x)
unfolding eqn_given arm_given body_given state_given
given-Body x = fold-roll-Body Given Given Given Given anchored.eqn_step anchored.arm_step anchored.body_step anchored.state_step x

pub given-State : (x : State-F Eqn Arm Body State) → state_given (roll-State x) ≡ anchored.state_step (map-State Eqn Arm Body State Given Given Given Given eqn_given arm_given body_given state_given x)
unfolding eqn_given arm_given body_given state_given
given-State x = fold-roll-State Given Given Given Given anchored.eqn_step anchored.arm_step anchored.body_step anchored.state_step x

pub given-Eqn-defined : (x : Eqn-F Eqn Arm Body State) → (eqn_given (roll-Eqn x)).defined ≡ (anchored.eqn_step (map-Eqn Eqn Arm Body State Given Given Given Given eqn_given arm_given body_given state_given x)).defined
unfolding eqn_given arm_given body_given state_given
given-Eqn-defined x = ap (λ u. u.defined) (fold-roll-Eqn Given Given Given Given anchored.eqn_step anchored.arm_step anchored.body_step anchored.state_step x)

pub given-Eqn-started : (x : Eqn-F Eqn Arm Body State) → (eqn_given (roll-Eqn x)).started ≡ (anchored.eqn_step (map-Eqn Eqn Arm Body State Given Given Given Given eqn_given arm_given body_given state_given x)).started
unfolding eqn_given arm_given body_given state_given
given-Eqn-started x = ap (λ u. u.started) (fold-roll-Eqn Given Given Given Given anchored.eqn_step anchored.arm_step anchored.body_step anchored.state_step x)

pub given-Eqn-anchored : (x : Eqn-F Eqn Arm Body State) → (eqn_given (roll-Eqn x)).anchored ≡ (anchored.eqn_step (map-Eqn Eqn Arm Body State Given Given Given Given eqn_given arm_given body_given state_given x)).anchored
unfolding eqn_given arm_given body_given state_given
given-Eqn-anchored x = ap (λ u. u.anchored) (fold-roll-Eqn Given Given Given Given anchored.eqn_step anchored.arm_step anchored.body_step anchored.state_step x)

pub given-Eqn-settled : (x : Eqn-F Eqn Arm Body State) → (eqn_given (roll-Eqn x)).settled ≡ (anchored.eqn_step (map-Eqn Eqn Arm Body State Given Given Given Given eqn_given arm_given body_given state_given x)).settled
unfolding eqn_given arm_given body_given state_given
given-Eqn-settled x = ap (λ u. u.settled) (fold-roll-Eqn Given Given Given Given anchored.eqn_step anchored.arm_step anchored.body_step anchored.state_step x)

pub given-Arm-defined : (x : Arm-F Eqn Arm Body State) → (arm_given (roll-Arm x)).defined ≡ (anchored.arm_step (map-Arm Eqn Arm Body State Given Given Given Given eqn_given arm_given body_given state_given x)).defined
unfolding eqn_given arm_given body_given state_given
given-Arm-defined x = ap (λ u. u.defined) (fold-roll-Arm Given Given Given Given anchored.eqn_step anchored.arm_step anchored.body_step anchored.state_step x)

pub given-Arm-started : (x : Arm-F Eqn Arm Body State) → (arm_given (roll-Arm x)).started ≡ (anchored.arm_step (map-Arm Eqn Arm Body State Given Given Given Given eqn_given arm_given body_given state_given x)).started
unfolding eqn_given arm_given body_given state_given
given-Arm-started x = ap (λ u. u.started) (fold-roll-Arm Given Given Given Given anchored.eqn_step anchored.arm_step anchored.body_step anchored.state_step x)

pub given-Arm-anchored : (x : Arm-F Eqn Arm Body State) → (arm_given (roll-Arm x)).anchored ≡ (anchored.arm_step (map-Arm Eqn Arm Body State Given Given Given Given eqn_given arm_given body_given state_given x)).anchored
unfolding eqn_given arm_given body_given state_given
given-Arm-anchored x = ap (λ u. u.anchored) (fold-roll-Arm Given Given Given Given anchored.eqn_step anchored.arm_step anchored.body_step anchored.state_step x)

pub given-Arm-settled : (x : Arm-F Eqn Arm Body State) → (arm_given (roll-Arm x)).settled ≡ (anchored.arm_step (map-Arm Eqn Arm Body State Given Given Given Given eqn_given arm_given body_given state_given x)).settled
unfolding eqn_given arm_given body_given state_given
given-Arm-settled x = ap (λ u. u.settled) (fold-roll-Arm Given Given Given Given anchored.eqn_step anchored.arm_step anchored.body_step anchored.state_step x)

pub given-Body-defined : (x : Body-F Eqn Arm Body State) → (body_given (roll-Body x)).defined ≡ (anchored.body_step (map-Body Eqn Arm Body State Given Given Given Given eqn_given arm_given body_given state_given x)).defined
unfolding eqn_given arm_given body_given state_given
given-Body-defined x = ap (λ u. u.defined) (fold-roll-Body Given Given Given Given anchored.eqn_step anchored.arm_step anchored.body_step anchored.state_step x)

pub given-Body-started : (x : Body-F Eqn Arm Body State) → (body_given (roll-Body x)).started ≡ (anchored.body_step (map-Body Eqn Arm Body State Given Given Given Given eqn_given arm_given body_given state_given x)).started
unfolding eqn_given arm_given body_given state_given
given-Body-started x = ap (λ u. u.started) (fold-roll-Body Given Given Given Given anchored.eqn_step anchored.arm_step anchored.body_step anchored.state_step x)

pub given-Body-anchored : (x : Body-F Eqn Arm Body State) → (body_given (roll-Body x)).anchored ≡ (anchored.body_step (map-Body Eqn Arm Body State Given Given Given Given eqn_given arm_given body_given state_given x)).anchored
unfolding eqn_given arm_given body_given state_given
given-Body-anchored x = ap (λ u. u.anchored) (fold-roll-Body Given Given Given Given anchored.eqn_step anchored.arm_step anchored.body_step anchored.state_step x)

pub given-Body-settled : (x : Body-F Eqn Arm Body State) → (body_given (roll-Body x)).settled ≡ (anchored.body_step (map-Body Eqn Arm Body State Given Given Given Given eqn_given arm_given body_given state_given x)).settled
unfolding eqn_given arm_given body_given state_given
given-Body-settled x = ap (λ u. u.settled) (fold-roll-Body Given Given Given Given anchored.eqn_step anchored.arm_step anchored.body_step anchored.state_step x)

pub given-State-defined : (x : State-F Eqn Arm Body State) → (state_given (roll-State x)).defined ≡ (anchored.state_step (map-State Eqn Arm Body State Given Given Given Given eqn_given arm_given body_given state_given x)).defined
unfolding eqn_given arm_given body_given state_given
given-State-defined x = ap (λ u. u.defined) (fold-roll-State Given Given Given Given anchored.eqn_step anchored.arm_step anchored.body_step anchored.state_step x)

pub given-State-started : (x : State-F Eqn Arm Body State) → (state_given (roll-State x)).started ≡ (anchored.state_step (map-State Eqn Arm Body State Given Given Given Given eqn_given arm_given body_given state_given x)).started
unfolding eqn_given arm_given body_given state_given
given-State-started x = ap (λ u. u.started) (fold-roll-State Given Given Given Given anchored.eqn_step anchored.arm_step anchored.body_step anchored.state_step x)

pub given-State-anchored : (x : State-F Eqn Arm Body State) → (state_given (roll-State x)).anchored ≡ (anchored.state_step (map-State Eqn Arm Body State Given Given Given Given eqn_given arm_given body_given state_given x)).anchored
unfolding eqn_given arm_given body_given state_given
given-State-anchored x = ap (λ u. u.anchored) (fold-roll-State Given Given Given Given anchored.eqn_step anchored.arm_step anchored.body_step anchored.state_step x)

pub given-State-settled : (x : State-F Eqn Arm Body State) → (state_given (roll-State x)).settled ≡ (anchored.state_step (map-State Eqn Arm Body State Given Given Given Given eqn_given arm_given body_given state_given x)).settled
unfolding eqn_given arm_given body_given state_given
given-State-settled x = ap (λ u. u.settled) (fold-roll-State Given Given Given Given anchored.eqn_step anchored.arm_step anchored.body_step anchored.state_step x)

pub constraints-Expr : (k : Known) (x : Expr-F Expr Link) (free : ℕ → Bool) → expr_constraints k (roll-Expr x) free ≡ (expr_step k) (map-Expr Expr Link (Expr × Constraints) (Link × (Pos → Constraints)) (λ y. (y, expr_constraints k y)) (λ y. (y, link_constraints k y)) x) free
unfolding expr_constraints link_constraints
constraints-Expr k x free = ap (λ u. u free) (para-roll-Expr Constraints (Pos → Constraints) (expr_step k) (link_step k) x)

pub constraints-Link : (k : Known) (x : Link-F Expr Link) (left : Pos) (free : ℕ → Bool) → link_constraints k (roll-Link x) left free ≡ (link_step k) (map-Link Expr Link (Expr × Constraints) (Link × (Pos → Constraints)) (λ y. (y, expr_constraints k y)) (λ y. (y, link_constraints k y)) x) left free
unfolding expr_constraints link_constraints
constraints-Link k x left free = ap (λ u. u left free) (para-roll-Link Constraints (Pos → Constraints) (expr_step k) (link_step k) x)

pub needs-Body-locals : (k : Known) (x : Body-F Eqn Arm Body State) → (body_needs k (roll-Body x)).locals ≡ ((body_step k) (map-Body Eqn Arm Body State Needs Needs BodyNeeds Needs (eqn_needs k) (arm_needs k) (body_needs k) (state_needs k) x)).locals
unfolding eqn_needs arm_needs body_needs state_needs
needs-Body-locals k x = ap (λ u. u.locals) (fold-roll-Body Needs Needs BodyNeeds Needs (eqn_step k) (arm_step k) (body_step k) (state_step k) x)

pub needs-Body-equations : (k : Known) (x : Body-F Eqn Arm Body State) → (body_needs k (roll-Body x)).equations ≡ ((body_step k) (map-Body Eqn Arm Body State Needs Needs BodyNeeds Needs (eqn_needs k) (arm_needs k) (body_needs k) (state_needs k) x)).equations
unfolding eqn_needs arm_needs body_needs state_needs
needs-Body-equations k x = ap (λ u. u.equations) (fold-roll-Body Needs Needs BodyNeeds Needs (eqn_step k) (arm_step k) (body_step k) (state_step k) x)

pub needs-Eqn : (k : Known) (x : Eqn-F Eqn Arm Body State) (s : Setting) → eqn_needs k (roll-Eqn x) s ≡ (eqn_step k) (map-Eqn Eqn Arm Body State Needs Needs BodyNeeds Needs (eqn_needs k) (arm_needs k) (body_needs k) (state_needs k) x) s
unfolding eqn_needs arm_needs body_needs state_needs
needs-Eqn k x s = ap (λ u. u s) (fold-roll-Eqn Needs Needs BodyNeeds Needs (eqn_step k) (arm_step k) (body_step k) (state_step k) x)

pub needs-Arm : (k : Known) (x : Arm-F Eqn Arm Body State) (s : Setting) → arm_needs k (roll-Arm x) s ≡ (arm_step k) (map-Arm Eqn Arm Body State Needs Needs BodyNeeds Needs (eqn_needs k) (arm_needs k) (body_needs k) (state_needs k) x) s
unfolding eqn_needs arm_needs body_needs state_needs
needs-Arm k x s = ap (λ u. u s) (fold-roll-Arm Needs Needs BodyNeeds Needs (eqn_step k) (arm_step k) (body_step k) (state_step k) x)

pub needs-Body : (k : Known) (x : Body-F Eqn Arm Body State) → body_needs k (roll-Body x) ≡ (body_step k) (map-Body Eqn Arm Body State Needs Needs BodyNeeds Needs (eqn_needs k) (arm_needs k) (body_needs k) (state_needs k) x)
unfolding eqn_needs arm_needs body_needs state_needs
needs-Body k x = fold-roll-Body Needs Needs BodyNeeds Needs (eqn_step k) (arm_step k) (body_step k) (state_step k) x

pub needs-State : (k : Known) (x : State-F Eqn Arm Body State) (s : Setting) → state_needs k (roll-State x) s ≡ (state_step k) (map-State Eqn Arm Body State Needs Needs BodyNeeds Needs (eqn_needs k) (arm_needs k) (body_needs k) (state_needs k) x) s
unfolding eqn_needs arm_needs body_needs state_needs
needs-State k x s = ap (λ u. u s) (fold-roll-State Needs Needs BodyNeeds Needs (eqn_step k) (arm_step k) (body_step k) (state_step k) x)

pub ruleset given_steps = (given-Eqn, given-Arm, given-Body, given-State, given-Eqn-defined, given-Eqn-started, given-Eqn-anchored, given-Eqn-settled, given-Arm-defined, given-Arm-started, given-Arm-anchored, given-Arm-settled, given-Body-defined, given-Body-started, given-Body-anchored, given-Body-settled, given-State-defined, given-State-started, given-State-anchored, given-State-settled)

pub ruleset constraint_steps = (constraints-Expr, constraints-Link, needs-Body-locals, needs-Body-equations, needs-Eqn, needs-Arm, needs-Body, needs-State)
