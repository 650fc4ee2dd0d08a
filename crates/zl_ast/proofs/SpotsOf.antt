-- The spots of each form of an expression and of an equation.
use Rattle.std.proofs.Common.{◌≡◌, List, [], ◌∷◌, ◌++◌, map, Option, Some, None, ap, sym, ◌∙◌}
use Rattle.zl_value.specs.declared.position.Pos.{Pos}
use Rattle.zl_value.specs.declared.value.Value.{Value}
use Rattle.zl_ast.specs.declared.name.Name.{Name}
use Rattle.zl_ast.specs.declared.expr.Expr.{Expr}
use Rattle.zl_ast.specs.declared.expr.Expr.TheVariants as tree
use Rattle.zl_ast.specs.declared.expr.Expr.TheOpen as open_expr
use Rattle.zl_ast.specs.declared.expr.Expr.TheFolds.{fold-roll-Expr, fold-roll-Link}
use Rattle.zl_ast.specs.declared.expr.Link.{Link}
use Rattle.zl_ast.specs.declared.operator.Infix.{Infix}
use Rattle.zl_ast.specs.declared.operator.Prefix.{Prefix}
use Rattle.zl_ast.specs.declared.operator.FlowOp.{FlowOp}
use Rattle.zl_ast.specs.declared.eqn.Eqn.{Eqn}
use Rattle.zl_ast.specs.declared.eqn.Eqn.TheVariants as eqn
use Rattle.zl_ast.specs.declared.eqn.Eqn.TheOpen as open_eqn
use Rattle.zl_ast.specs.declared.eqn.Eqn.TheFolds.{fold-roll-Eqn, fold-roll-Arm, fold-roll-Body, fold-roll-State}
use Rattle.zl_ast.specs.declared.eqn.Cond.{Cond}
use Rattle.zl_ast.specs.declared.eqn.ResetArm.{ResetArm}
use Rattle.zl_ast.specs.declared.eqn.Move.{Move}
use Rattle.zl_ast.specs.declared.eqn.Arm.{Arm}
use Rattle.zl_ast.specs.declared.eqn.Body.{Body}
use Rattle.zl_ast.specs.declared.eqn.State.{State}
use Rattle.zl_ast.specs.Expressions.{link}
use Rattle.zl_ast.specs.Equations.{arm, body, state}
use Rattle.zl_ast.specs.Spots.{Spot, occurrence, equation, bare_name, place, named, joined, all_spots, some_spots, one_name, left_spots, expr_step, link_step, expr_spots, link_spots, cond_spots, reset_arm_spots, move_spots, eqn_step, arm_step, body_step, state_step, eqn_spots, arm_spots, body_spots, state_spots}

pub spots-Lit : (v : Value) (at : Pos) → expr_spots (tree.Lit v at) ≡ place occurrence at ∷ []
unfolding expr_spots
spots-Lit v at = ap expr_spots (sym (tree.rolls-Lit v at)) ∙ fold-roll-Expr (List Spot) (List Spot) expr_step link_step (open_expr.Lit v at)

pub spots-Var : (x : Name) → expr_spots (tree.Var x) ≡ named occurrence x ∷ []
unfolding expr_spots
spots-Var x = ap expr_spots (sym (tree.rolls-Var x)) ∙ fold-roll-Expr (List Spot) (List Spot) expr_step link_step (open_expr.Var x)

pub spots-Last : (x : Name) (at : Pos) → expr_spots (tree.Last x at) ≡ place occurrence at ∷ named bare_name x ∷ []
unfolding expr_spots
spots-Last x at = ap expr_spots (sym (tree.rolls-Last x at)) ∙ fold-roll-Expr (List Spot) (List Spot) expr_step link_step (open_expr.Last x at)

pub spots-Call : (x : Name) (xs : List Expr) → expr_spots (tree.Call x xs) ≡ named occurrence x ∷ joined (map expr_spots xs)
unfolding expr_spots
spots-Call x xs = ap expr_spots (sym (tree.rolls-Call x xs)) ∙ fold-roll-Expr (List Spot) (List Spot) expr_step link_step (open_expr.Call x xs)

pub spots-Prefix : (op : Prefix) (at : Pos) (x : Expr) → expr_spots (tree.Prefix op at x) ≡ place occurrence at ∷ expr_spots x
unfolding expr_spots
spots-Prefix op at x = ap expr_spots (sym (tree.rolls-Prefix op at x)) ∙ fold-roll-Expr (List Spot) (List Spot) expr_step link_step (open_expr.Prefix op at x)

pub spots-Chain : (x : Expr) (ls : List Link) → expr_spots (tree.Chain x ls) ≡ expr_spots x ++ joined (map link_spots ls)
unfolding expr_spots link_spots
spots-Chain x ls = ap expr_spots (sym (tree.rolls-Chain x ls)) ∙ fold-roll-Expr (List Spot) (List Spot) expr_step link_step (open_expr.Chain x ls)

pub spots-Flow : (op : FlowOp) (at : Pos) (x y : Expr) → expr_spots (tree.Flow op at x y) ≡ expr_spots x ++ (place occurrence at ∷ expr_spots y)
unfolding expr_spots
spots-Flow op at x y = ap expr_spots (sym (tree.rolls-Flow op at x y)) ∙ fold-roll-Expr (List Spot) (List Spot) expr_step link_step (open_expr.Flow op at x y)

pub spots-If : (at : Pos) (c x y : Expr) → expr_spots (tree.If at c x y) ≡ place occurrence at ∷ (expr_spots c ++ (expr_spots x ++ expr_spots y))
unfolding expr_spots
spots-If at c x y = ap expr_spots (sym (tree.rolls-If at c x y)) ∙ fold-roll-Expr (List Spot) (List Spot) expr_step link_step (open_expr.If at c x y)

pub spots-link : (op : Infix) (at : Pos) (x : Expr) → link_spots (link op at x) ≡ place occurrence at ∷ expr_spots x
unfolding expr_spots link_spots
spots-link op at x = fold-roll-Link (List Spot) (List Spot) expr_step link_step (record { op = op; at = at; arg = x })

pub spots-Plain : (left : List Name) (right : Expr) → eqn_spots (eqn.Plain left right) ≡ left_spots left ++ expr_spots right
unfolding eqn_spots
spots-Plain left right = ap eqn_spots (sym (eqn.rolls-Plain left right)) ∙ fold-roll-Eqn (List Spot) (List Spot) (List Spot) (List Spot) eqn_step arm_step body_step state_step (open_eqn.Plain left right)

pub spots-Der : (at : Pos) (x : Name) (slope : Expr) (start : Option Expr) (resets : List ResetArm) →
    eqn_spots (eqn.Der at x slope start resets) ≡ place equation at ∷ named bare_name x ∷ (expr_spots slope ++ (some_spots expr_spots start ++ all_spots reset_arm_spots resets))
unfolding eqn_spots
spots-Der at x slope start resets =
    ap eqn_spots (sym (eqn.rolls-Der at x slope start resets)) ∙
    fold-roll-Eqn (List Spot) (List Spot) (List Spot) (List Spot) eqn_step arm_step body_step state_step (open_eqn.Der at x slope start resets)

pub spots-Start : (at : Pos) (x : Name) (v : Expr) → eqn_spots (eqn.Start at x v) ≡ place equation at ∷ named bare_name x ∷ expr_spots v
unfolding eqn_spots
spots-Start at x v = ap eqn_spots (sym (eqn.rolls-Start at x v)) ∙ fold-roll-Eqn (List Spot) (List Spot) (List Spot) (List Spot) eqn_step arm_step body_step state_step (open_eqn.Start at x v)

pub spots-Present : (at : Pos) (arms : List Arm) (other : Option Body) → eqn_spots (eqn.Present at arms other) ≡ place equation at ∷ (all_spots arm_spots arms ++ some_spots body_spots other)
unfolding eqn_spots arm_spots body_spots
spots-Present at arms None =
    ap eqn_spots (sym (eqn.rolls-Present at arms None)) ∙ fold-roll-Eqn (List Spot) (List Spot) (List Spot) (List Spot) eqn_step arm_step body_step state_step (open_eqn.Present at arms None)
spots-Present at arms (Some b) =
    ap eqn_spots (sym (eqn.rolls-Present at arms (Some b))) ∙ fold-roll-Eqn (List Spot) (List Spot) (List Spot) (List Spot) eqn_step arm_step body_step state_step (open_eqn.Present at arms (Some b))

pub spots-Automaton : (at : Pos) (states : List State) → eqn_spots (eqn.Automaton at states) ≡ place equation at ∷ all_spots state_spots states
unfolding eqn_spots state_spots
spots-Automaton at states =
    ap eqn_spots (sym (eqn.rolls-Automaton at states)) ∙ fold-roll-Eqn (List Spot) (List Spot) (List Spot) (List Spot) eqn_step arm_step body_step state_step (open_eqn.Automaton at states)

pub spots-Reset : (at : Pos) (eqs : List Eqn) (c : Cond) → eqn_spots (eqn.Reset at eqs c) ≡ place equation at ∷ (all_spots eqn_spots eqs ++ cond_spots c)
unfolding eqn_spots
spots-Reset at eqs c =
    ap eqn_spots (sym (eqn.rolls-Reset at eqs c)) ∙ fold-roll-Eqn (List Spot) (List Spot) (List Spot) (List Spot) eqn_step arm_step body_step state_step (open_eqn.Reset at eqs c)

pub spots-arm : (c : Cond) (b : Body) → arm_spots (arm c b) ≡ cond_spots c ++ body_spots b
unfolding arm_spots body_spots
spots-arm c b = fold-roll-Arm (List Spot) (List Spot) (List Spot) (List Spot) eqn_step arm_step body_step state_step (record { cond = c; body = b })

pub spots-body : (locals : List Name) (eqs : List Eqn) → body_spots (body locals eqs) ≡ all_spots one_name locals ++ all_spots eqn_spots eqs
unfolding body_spots eqn_spots
spots-body locals eqs = fold-roll-Body (List Spot) (List Spot) (List Spot) (List Spot) eqn_step arm_step body_step state_step (record { locals = locals; eqs = eqs })

pub spots-state : (x : Name) (b : Body) (moves : List Move) → state_spots (state x b moves) ≡ named bare_name x ∷ (body_spots b ++ all_spots move_spots moves)
unfolding state_spots body_spots
spots-state x b moves = fold-roll-State (List Spot) (List Spot) (List Spot) (List Spot) eqn_step arm_step body_step state_step (record { name = x; body = b; moves = moves })
