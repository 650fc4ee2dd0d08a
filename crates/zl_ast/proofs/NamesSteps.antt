-- What the definitions of the rules of names, and of the places of expressions, compute to at a node.
use Rattle.std.proofs.Common.{◌≡◌, ℕ, Bool, List, ap}
use Rattle.zl_value.specs.declared.position.Pos.{Pos}
use Rattle.zl_ast.specs.declared.expr.Expr.{Expr, roll-Expr}
use Rattle.zl_ast.specs.declared.expr.Link.{Link, roll-Link}
use Rattle.zl_ast.specs.declared.expr.Expr.TheOpen.{Expr-F, Link-F}
use Rattle.zl_ast.specs.declared.expr.Expr.TheFolds.{map-Expr, map-Link, fold-roll-Expr, fold-roll-Link}
use Rattle.zl_ast.specs.declared.eqn.Eqn.{Eqn, roll-Eqn}
use Rattle.zl_ast.specs.declared.eqn.Arm.{Arm, roll-Arm}
use Rattle.zl_ast.specs.declared.eqn.Body.{Body, roll-Body}
use Rattle.zl_ast.specs.declared.eqn.State.{State, roll-State}
use Rattle.zl_ast.specs.declared.eqn.Eqn.TheOpen.{Eqn-F, Arm-F, Body-F, State-F}
use Rattle.zl_ast.specs.declared.eqn.Eqn.TheFolds.{map-Eqn, map-Arm, map-Body, map-State, fold-roll-Eqn, fold-roll-Arm, fold-roll-Body, fold-roll-State}
use Rattle.zl_ast.specs.declared.expr.Expr.TheFolds.{fold-Link}
use Rattle.std.specs.Prelude.{false}
use Rattle.zl_ast.specs.NamesDefined.{Outline, StateOutline, eqn_outline, arm_outline, body_outline, state_outline}
use Rattle.zl_ast.specs.NamesDefined as defined
use Rattle.zl_ast.specs.NamesUsed.{Known, Uses, BodyUses, expr_uses, link_uses, eqn_uses, arm_uses, body_uses, state_uses}
use Rattle.zl_ast.specs.NamesUsed as used
use Rattle.zl_ast.specs.NamesRules.{place_step, place_of, variable_step, is_variable}

pub outline-Eqn : (x : Eqn-F Eqn Arm Body State) → eqn_outline (roll-Eqn x) ≡ defined.eqn_step (map-Eqn Eqn Arm Body State Outline Outline Outline StateOutline eqn_outline arm_outline body_outline state_outline x)
unfolding eqn_outline arm_outline body_outline state_outline
outline-Eqn x = fold-roll-Eqn Outline Outline Outline StateOutline defined.eqn_step defined.arm_step defined.body_step defined.state_step x

pub outline-Arm : (x : Arm-F Eqn Arm Body State) → arm_outline (roll-Arm x) ≡ defined.arm_step (map-Arm Eqn Arm Body State Outline Outline Outline StateOutline eqn_outline arm_outline body_outline state_outline x)
unfolding eqn_outline arm_outline body_outline state_outline
outline-Arm x = fold-roll-Arm Outline Outline Outline StateOutline defined.eqn_step defined.arm_step defined.body_step defined.state_step x

pub outline-Body : (x : Body-F Eqn Arm Body State) → body_outline (roll-Body x) ≡ defined.body_step (map-Body Eqn Arm Body State Outline Outline Outline StateOutline eqn_outline arm_outline body_outline state_outline x)
unfolding eqn_outline arm_outline body_outline state_outline
outline-Body x = fold-roll-Body Outline Outline Outline StateOutline defined.eqn_step defined.arm_step defined.body_step defined.state_step x

pub outline-State : (x : State-F Eqn Arm Body State) → state_outline (roll-State x) ≡ defined.state_step (map-State Eqn Arm Body State Outline Outline Outline StateOutline eqn_outline arm_outline body_outline state_outline x)
unfolding eqn_outline arm_outline body_outline state_outline
outline-State x = fold-roll-State Outline Outline Outline StateOutline defined.eqn_step defined.arm_step defined.body_step defined.state_step x

pub outline-Eqn-entries : (x : Eqn-F Eqn Arm Body State) → (eqn_outline (roll-Eqn x)).entries ≡ (defined.eqn_step (map-Eqn Eqn Arm Body State Outline Outline Outline StateOutline eqn_outline arm_outline body_outline state_outline x)).entries
unfolding eqn_outline arm_outline body_outline state_outline
outline-Eqn-entries x = ap (λ u. u.entries) (fold-roll-Eqn Outline Outline Outline StateOutline defined.eqn_step defined.arm_step defined.body_step defined.state_step x)

pub outline-Eqn-valued : (x : Eqn-F Eqn Arm Body State) → (eqn_outline (roll-Eqn x)).valued ≡ (defined.eqn_step (map-Eqn Eqn Arm Body State Outline Outline Outline StateOutline eqn_outline arm_outline body_outline state_outline x)).valued
unfolding eqn_outline arm_outline body_outline state_outline
outline-Eqn-valued x = ap (λ u. u.valued) (fold-roll-Eqn Outline Outline Outline StateOutline defined.eqn_step defined.arm_step defined.body_step defined.state_step x)

pub outline-Eqn-started : (x : Eqn-F Eqn Arm Body State) → (eqn_outline (roll-Eqn x)).started ≡ (defined.eqn_step (map-Eqn Eqn Arm Body State Outline Outline Outline StateOutline eqn_outline arm_outline body_outline state_outline x)).started
unfolding eqn_outline arm_outline body_outline state_outline
outline-Eqn-started x = ap (λ u. u.started) (fold-roll-Eqn Outline Outline Outline StateOutline defined.eqn_step defined.arm_step defined.body_step defined.state_step x)

pub outline-Eqn-broken : (x : Eqn-F Eqn Arm Body State) → (eqn_outline (roll-Eqn x)).broken ≡ (defined.eqn_step (map-Eqn Eqn Arm Body State Outline Outline Outline StateOutline eqn_outline arm_outline body_outline state_outline x)).broken
unfolding eqn_outline arm_outline body_outline state_outline
outline-Eqn-broken x = ap (λ u. u.broken) (fold-roll-Eqn Outline Outline Outline StateOutline defined.eqn_step defined.arm_step defined.body_step defined.state_step x)

pub outline-Arm-entries : (x : Arm-F Eqn Arm Body State) → (arm_outline (roll-Arm x)).entries ≡ (defined.arm_step (map-Arm Eqn Arm Body State Outline Outline Outline StateOutline eqn_outline arm_outline body_outline state_outline x)).entries
unfolding eqn_outline arm_outline body_outline state_outline
outline-Arm-entries x = ap (λ u. u.entries) (fold-roll-Arm Outline Outline Outline StateOutline defined.eqn_step defined.arm_step defined.body_step defined.state_step x)

pub outline-Arm-valued : (x : Arm-F Eqn Arm Body State) → (arm_outline (roll-Arm x)).valued ≡ (defined.arm_step (map-Arm Eqn Arm Body State Outline Outline Outline StateOutline eqn_outline arm_outline body_outline state_outline x)).valued
unfolding eqn_outline arm_outline body_outline state_outline
outline-Arm-valued x = ap (λ u. u.valued) (fold-roll-Arm Outline Outline Outline StateOutline defined.eqn_step defined.arm_step defined.body_step defined.state_step x)

pub outline-Arm-started : (x : Arm-F Eqn Arm Body State) → (arm_outline (roll-Arm x)).started ≡ (defined.arm_step (map-Arm Eqn Arm Body State Outline Outline Outline StateOutline eqn_outline arm_outline body_outline state_outline x)).started
unfolding eqn_outline arm_outline body_outline state_outline
outline-Arm-started x = ap (λ u. u.started) (fold-roll-Arm Outline Outline Outline StateOutline defined.eqn_step defined.arm_step defined.body_step defined.state_step x)

pub outline-Arm-broken : (x : Arm-F Eqn Arm Body State) → (arm_outline (roll-Arm x)).broken ≡ (defined.arm_step (map-Arm Eqn Arm Body State Outline Outline Outline StateOutline eqn_outline arm_outline body_outline state_outline x)).broken
unfolding eqn_outline arm_outline body_outline state_outline
outline-Arm-broken x = ap (λ u. u.broken) (fold-roll-Arm Outline Outline Outline StateOutline defined.eqn_step defined.arm_step defined.body_step defined.state_step x)

pub outline-Body-entries : (x : Body-F Eqn Arm Body State) → (body_outline (roll-Body x)).entries ≡ (defined.body_step (map-Body Eqn Arm Body State Outline Outline Outline StateOutline eqn_outline arm_outline body_outline state_outline x)).entries
unfolding eqn_outline arm_outline body_outline state_outline
outline-Body-entries x = ap (λ u. u.entries) (fold-roll-Body Outline Outline Outline StateOutline defined.eqn_step defined.arm_step defined.body_step defined.state_step x)

pub outline-Body-valued : (x : Body-F Eqn Arm Body State) → (body_outline (roll-Body x)).valued ≡ (defined.body_step (map-Body Eqn Arm Body State Outline Outline Outline StateOutline eqn_outline arm_outline body_outline state_outline x)).valued
unfolding eqn_outline arm_outline body_outline state_outline
outline-Body-valued x = ap (λ u. u.valued) (fold-roll-Body Outline Outline Outline StateOutline defined.eqn_step defined.arm_step defined.body_step defined.state_step x)

pub outline-Body-started : (x : Body-F Eqn Arm Body State) → (body_outline (roll-Body x)).started ≡ (defined.body_step (map-Body Eqn Arm Body State Outline Outline Outline StateOutline eqn_outline arm_outline body_outline state_outline x)).started
unfolding eqn_outline arm_outline body_outline state_outline
outline-Body-started x = ap (λ u. u.started) (fold-roll-Body Outline Outline Outline StateOutline defined.eqn_step defined.arm_step defined.body_step defined.state_step x)

pub outline-Body-broken : (x : Body-F Eqn Arm Body State) → (body_outline (roll-Body x)).broken ≡ (defined.body_step (map-Body Eqn Arm Body State Outline Outline Outline StateOutline eqn_outline arm_outline body_outline state_outline x)).broken
unfolding eqn_outline arm_outline body_outline state_outline
outline-Body-broken x = ap (λ u. u.broken) (fold-roll-Body Outline Outline Outline StateOutline defined.eqn_step defined.arm_step defined.body_step defined.state_step x)

pub outline-State-name : (x : State-F Eqn Arm Body State) → (state_outline (roll-State x)).name ≡ (defined.state_step (map-State Eqn Arm Body State Outline Outline Outline StateOutline eqn_outline arm_outline body_outline state_outline x)).name
unfolding eqn_outline arm_outline body_outline state_outline
outline-State-name x = ap (λ u. u.name) (fold-roll-State Outline Outline Outline StateOutline defined.eqn_step defined.arm_step defined.body_step defined.state_step x)

pub outline-State-targets : (x : State-F Eqn Arm Body State) → (state_outline (roll-State x)).targets ≡ (defined.state_step (map-State Eqn Arm Body State Outline Outline Outline StateOutline eqn_outline arm_outline body_outline state_outline x)).targets
unfolding eqn_outline arm_outline body_outline state_outline
outline-State-targets x = ap (λ u. u.targets) (fold-roll-State Outline Outline Outline StateOutline defined.eqn_step defined.arm_step defined.body_step defined.state_step x)

pub outline-State-outline : (x : State-F Eqn Arm Body State) → (state_outline (roll-State x)).outline ≡ (defined.state_step (map-State Eqn Arm Body State Outline Outline Outline StateOutline eqn_outline arm_outline body_outline state_outline x)).outline
unfolding eqn_outline arm_outline body_outline state_outline
outline-State-outline x = ap (λ u. u.outline) (fold-roll-State Outline Outline Outline StateOutline defined.eqn_step defined.arm_step defined.body_step defined.state_step x)

pub place-roll : (x : Expr-F Expr Link) → place_of (roll-Expr x) ≡ place_step (map-Expr Expr Link Pos Pos place_of (fold-Link Pos Pos place_step (λ l. l.at)) x)
unfolding place_of
place-roll x = fold-roll-Expr Pos Pos place_step (λ l. l.at) x

pub place-link : (x : Link-F Expr Link) → fold-Link Pos Pos place_step (λ l. l.at) (roll-Link x) ≡ x.at
place-link x = fold-roll-Link Pos Pos place_step (λ l. l.at) x

pub uses-Expr : (k : Known) (x : Expr-F Expr Link) (n : ℕ) (visible : List ℕ) → expr_uses k (roll-Expr x) n visible ≡ (used.expr_step k) (map-Expr Expr Link (ℕ → Uses) Uses (expr_uses k) (link_uses k) x) n visible
unfolding expr_uses link_uses
uses-Expr k x n visible = ap (λ u. u n visible) (fold-roll-Expr (ℕ → Uses) Uses (used.expr_step k) (used.link_step k) x)

pub uses-Link : (k : Known) (x : Link-F Expr Link) (visible : List ℕ) → link_uses k (roll-Link x) visible ≡ (used.link_step k) (map-Link Expr Link (ℕ → Uses) Uses (expr_uses k) (link_uses k) x) visible
unfolding expr_uses link_uses
uses-Link k x visible = ap (λ u. u visible) (fold-roll-Link (ℕ → Uses) Uses (used.expr_step k) (used.link_step k) x)

pub uses-Body-locals : (k : Known) (x : Body-F Eqn Arm Body State) → (body_uses k (roll-Body x)).locals ≡ ((used.body_step k) (map-Body Eqn Arm Body State Uses Uses BodyUses Uses (eqn_uses k) (arm_uses k) (body_uses k) (state_uses k) x)).locals
unfolding eqn_uses arm_uses body_uses state_uses
uses-Body-locals k x = ap (λ u. u.locals) (fold-roll-Body Uses Uses BodyUses Uses (used.eqn_step k) (used.arm_step k) (used.body_step k) (used.state_step k) x)

pub uses-Body-equations : (k : Known) (x : Body-F Eqn Arm Body State) → (body_uses k (roll-Body x)).equations ≡ ((used.body_step k) (map-Body Eqn Arm Body State Uses Uses BodyUses Uses (eqn_uses k) (arm_uses k) (body_uses k) (state_uses k) x)).equations
unfolding eqn_uses arm_uses body_uses state_uses
uses-Body-equations k x = ap (λ u. u.equations) (fold-roll-Body Uses Uses BodyUses Uses (used.eqn_step k) (used.arm_step k) (used.body_step k) (used.state_step k) x)

pub uses-Eqn : (k : Known) (x : Eqn-F Eqn Arm Body State) (visible : List ℕ) → eqn_uses k (roll-Eqn x) visible ≡ (used.eqn_step k) (map-Eqn Eqn Arm Body State Uses Uses BodyUses Uses (eqn_uses k) (arm_uses k) (body_uses k) (state_uses k) x) visible
unfolding eqn_uses arm_uses body_uses state_uses
uses-Eqn k x visible = ap (λ u. u visible) (fold-roll-Eqn Uses Uses BodyUses Uses (used.eqn_step k) (used.arm_step k) (used.body_step k) (used.state_step k) x)

pub uses-Arm : (k : Known) (x : Arm-F Eqn Arm Body State) (visible : List ℕ) → arm_uses k (roll-Arm x) visible ≡ (used.arm_step k) (map-Arm Eqn Arm Body State Uses Uses BodyUses Uses (eqn_uses k) (arm_uses k) (body_uses k) (state_uses k) x) visible
unfolding eqn_uses arm_uses body_uses state_uses
uses-Arm k x visible = ap (λ u. u visible) (fold-roll-Arm Uses Uses BodyUses Uses (used.eqn_step k) (used.arm_step k) (used.body_step k) (used.state_step k) x)

pub uses-Body : (k : Known) (x : Body-F Eqn Arm Body State) → body_uses k (roll-Body x) ≡ (used.body_step k) (map-Body Eqn Arm Body State Uses Uses BodyUses Uses (eqn_uses k) (arm_uses k) (body_uses k) (state_uses k) x)
unfolding eqn_uses arm_uses body_uses state_uses
uses-Body k x = fold-roll-Body Uses Uses BodyUses Uses (used.eqn_step k) (used.arm_step k) (used.body_step k) (used.state_step k) x

pub uses-State : (k : Known) (x : State-F Eqn Arm Body State) (visible : List ℕ) → state_uses k (roll-State x) visible ≡ (used.state_step k) (map-State Eqn Arm Body State Uses Uses BodyUses Uses (eqn_uses k) (arm_uses k) (body_uses k) (state_uses k) x) visible
unfolding eqn_uses arm_uses body_uses state_uses
uses-State k x visible = ap (λ u. u visible) (fold-roll-State Uses Uses BodyUses Uses (used.eqn_step k) (used.arm_step k) (used.body_step k) (used.state_step k) x)

pub variable-roll : (visible : List ℕ) (x : Expr-F Expr Link) → is_variable visible (roll-Expr x) ≡ variable_step visible (map-Expr Expr Link Bool Bool (is_variable visible) (fold-Link Bool Bool (variable_step visible) (λ l. false)) x)
unfolding is_variable
variable-roll visible x = fold-roll-Expr Bool Bool (variable_step visible) (λ l. false) x

pub ruleset outline_steps = (outline-Eqn, outline-Arm, outline-Body, outline-State, outline-Eqn-entries, outline-Eqn-valued, outline-Eqn-started, outline-Eqn-broken, outline-Arm-entries, outline-Arm-valued, outline-Arm-started, outline-Arm-broken, outline-Body-entries, outline-Body-valued, outline-Body-started, outline-Body-broken, outline-State-name, outline-State-targets, outline-State-outline)

pub ruleset rolled_places = (place-roll, place-link)

pub ruleset uses_steps = (uses-Expr, uses-Link, uses-Body-locals, uses-Body-equations, uses-Eqn, uses-Arm, uses-Body, uses-State, variable-roll)
