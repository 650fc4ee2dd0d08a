-- A fold of a tree, by the tree's form.
use Rattle.std.proofs.Common.{◌≡◌, List, map, Option, Some, None, sym, ap, ◌∙◌}
use Rattle.zl_value.specs.declared.position.Pos.{Pos}
use Rattle.zl_value.specs.declared.value.Value.{Value}
use Rattle.zl_ast.specs.declared.name.Name.{Name}
use Rattle.zl_ast.specs.declared.operator.Prefix.{Prefix}
use Rattle.zl_ast.specs.declared.operator.FlowOp.{FlowOp}
use Rattle.zl_ast.specs.declared.expr.Expr.{Expr}
use Rattle.zl_ast.specs.declared.expr.Expr.TheVariants as tree
use Rattle.zl_ast.specs.declared.expr.Expr.TheOpen.{Expr-F, Link-F}
use Rattle.zl_ast.specs.declared.expr.Expr.TheOpen as open_expr
use Rattle.zl_ast.specs.declared.expr.Expr.TheFolds.{fold-Expr, fold-Link, fold-roll-Expr, fold-roll-Link}
use Rattle.zl_ast.specs.declared.expr.Link.{Link}
use Rattle.zl_ast.specs.declared.eqn.Eqn.{Eqn}
use Rattle.zl_ast.specs.declared.eqn.Eqn.TheVariants as eqn
use Rattle.zl_ast.specs.declared.eqn.Eqn.TheOpen.{Eqn-F, Arm-F, Body-F, State-F}
use Rattle.zl_ast.specs.declared.eqn.Eqn.TheOpen as open_eqn
use Rattle.zl_ast.specs.declared.eqn.Eqn.TheFolds.{fold-Eqn, fold-Arm, fold-Body, fold-State, fold-roll-Eqn, fold-roll-Arm, fold-roll-Body, fold-roll-State}
use Rattle.zl_ast.specs.declared.eqn.Cond.{Cond}
use Rattle.zl_ast.specs.declared.eqn.ResetArm.{ResetArm}
use Rattle.zl_ast.specs.declared.eqn.Arm.{Arm}
use Rattle.zl_ast.specs.declared.eqn.Body.{Body}
use Rattle.zl_ast.specs.declared.eqn.State.{State}

module _ (A L : Type 0) (s : Expr-F A L → A) (t : Link-F A L → L) where
  pub fold-lit : (v : Value) (at : Pos) → fold-Expr A L s t (tree.Lit v at) ≡ s (open_expr.Lit v at)
  fold-lit v at = ap (fold-Expr A L s t) (sym (tree.rolls-Lit v at)) ∙ fold-roll-Expr A L s t (open_expr.Lit v at)

  pub fold-var : (x : Name) → fold-Expr A L s t (tree.Var x) ≡ s (open_expr.Var x)
  fold-var x = ap (fold-Expr A L s t) (sym (tree.rolls-Var x)) ∙ fold-roll-Expr A L s t (open_expr.Var x)

  pub fold-last : (x : Name) (at : Pos) → fold-Expr A L s t (tree.Last x at) ≡ s (open_expr.Last x at)
  fold-last x at = ap (fold-Expr A L s t) (sym (tree.rolls-Last x at)) ∙ fold-roll-Expr A L s t (open_expr.Last x at)

  pub fold-call : (f : Name) (args : List Expr) → fold-Expr A L s t (tree.Call f args) ≡ s (open_expr.Call f (map (fold-Expr A L s t) args))
  fold-call f args = ap (fold-Expr A L s t) (sym (tree.rolls-Call f args)) ∙ fold-roll-Expr A L s t (open_expr.Call f args)

  pub fold-prefix : (op : Prefix) (at : Pos) (x : Expr) → fold-Expr A L s t (tree.Prefix op at x) ≡ s (open_expr.Prefix op at (fold-Expr A L s t x))
  fold-prefix op at x = ap (fold-Expr A L s t) (sym (tree.rolls-Prefix op at x)) ∙ fold-roll-Expr A L s t (open_expr.Prefix op at x)

  pub fold-chain : (x : Expr) (ls : List Link) → fold-Expr A L s t (tree.Chain x ls) ≡ s (open_expr.Chain (fold-Expr A L s t x) (map (fold-Link A L s t) ls))
  fold-chain x ls = ap (fold-Expr A L s t) (sym (tree.rolls-Chain x ls)) ∙ fold-roll-Expr A L s t (open_expr.Chain x ls)

  pub fold-flow : (op : FlowOp) (at : Pos) (x y : Expr) → fold-Expr A L s t (tree.Flow op at x y) ≡ s (open_expr.Flow op at (fold-Expr A L s t x) (fold-Expr A L s t y))
  fold-flow op at x y = ap (fold-Expr A L s t) (sym (tree.rolls-Flow op at x y)) ∙ fold-roll-Expr A L s t (open_expr.Flow op at x y)

  pub fold-if : (at : Pos) (c x y : Expr) → fold-Expr A L s t (tree.If at c x y) ≡ s (open_expr.If at (fold-Expr A L s t c) (fold-Expr A L s t x) (fold-Expr A L s t y))
  fold-if at c x y = ap (fold-Expr A L s t) (sym (tree.rolls-If at c x y)) ∙ fold-roll-Expr A L s t (open_expr.If at c x y)

module _ (A R B S : Type 0) (f : Eqn-F A R B S → A) (g : Arm-F A R B S → R) (h : Body-F A R B S → B) (k : State-F A R B S → S) where
  pub fold-plain : (left : List Name) (right : Expr) → fold-Eqn A R B S f g h k (eqn.Plain left right) ≡ f (open_eqn.Plain left right)
  fold-plain left right = ap (fold-Eqn A R B S f g h k) (sym (eqn.rolls-Plain left right)) ∙ fold-roll-Eqn A R B S f g h k (open_eqn.Plain left right)

  pub fold-der : (at : Pos) (x : Name) (slope : Expr) (start : Option Expr) (resets : List ResetArm) → fold-Eqn A R B S f g h k (eqn.Der at x slope start resets) ≡ f (open_eqn.Der at x slope start resets)
  fold-der at x slope start resets = ap (fold-Eqn A R B S f g h k) (sym (eqn.rolls-Der at x slope start resets)) ∙ fold-roll-Eqn A R B S f g h k (open_eqn.Der at x slope start resets)

  pub fold-start : (at : Pos) (x : Name) (value : Expr) → fold-Eqn A R B S f g h k (eqn.Start at x value) ≡ f (open_eqn.Start at x value)
  fold-start at x value = ap (fold-Eqn A R B S f g h k) (sym (eqn.rolls-Start at x value)) ∙ fold-roll-Eqn A R B S f g h k (open_eqn.Start at x value)

  pub fold-automaton : (at : Pos) (states : List State) → fold-Eqn A R B S f g h k (eqn.Automaton at states) ≡ f (open_eqn.Automaton at (map (fold-State A R B S f g h k) states))
  fold-automaton at states = ap (fold-Eqn A R B S f g h k) (sym (eqn.rolls-Automaton at states)) ∙ fold-roll-Eqn A R B S f g h k (open_eqn.Automaton at states)

  pub fold-reset : (at : Pos) (eqs : List Eqn) (c : Cond) → fold-Eqn A R B S f g h k (eqn.Reset at eqs c) ≡ f (open_eqn.Reset at (map (fold-Eqn A R B S f g h k) eqs) c)
  fold-reset at eqs c = ap (fold-Eqn A R B S f g h k) (sym (eqn.rolls-Reset at eqs c)) ∙ fold-roll-Eqn A R B S f g h k (open_eqn.Reset at eqs c)

  pub fold-present : (at : Pos) (arms : List Arm) → fold-Eqn A R B S f g h k (eqn.Present at arms None) ≡ f (open_eqn.Present at (map (fold-Arm A R B S f g h k) arms) None)
  fold-present at arms = ap (fold-Eqn A R B S f g h k) (sym (eqn.rolls-Present at arms None)) ∙ fold-roll-Eqn A R B S f g h k (open_eqn.Present at arms None)

  pub fold-present_else : (at : Pos) (arms : List Arm) (b : Body) → fold-Eqn A R B S f g h k (eqn.Present at arms (Some b)) ≡ f (open_eqn.Present at (map (fold-Arm A R B S f g h k) arms) (Some (fold-Body A R B S f g h k b)))
  fold-present_else at arms b = ap (fold-Eqn A R B S f g h k) (sym (eqn.rolls-Present at arms (Some b))) ∙ fold-roll-Eqn A R B S f g h k (open_eqn.Present at arms (Some b))

pub ruleset tree_folds = (fold-lit, fold-var, fold-last, fold-call, fold-prefix, fold-chain, fold-flow, fold-if, fold-roll-Link, fold-plain, fold-der, fold-start, fold-automaton, fold-reset, fold-present, fold-present_else, fold-roll-Arm, fold-roll-Body, fold-roll-State)
