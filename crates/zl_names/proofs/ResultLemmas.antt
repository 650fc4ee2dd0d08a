-- The place of a result, and whether it is a variable, by its form.
use Rattle.std.proofs.Common.{◌≡◌, ℕ, Bool, false, List, [], ◌∷◌, map, refl, sym, ap, ◌∙◌}
use Rattle.std.proofs.lemmas.Grind.{common_steps}
use Rattle.zl_value.specs.declared.position.Pos.{Pos}
use Rattle.zl_value.specs.declared.value.Value.{Value}
use Rattle.zl_ast.specs.declared.name.Name.{Name}
use Rattle.zl_ast.specs.declared.operator.Prefix.{Prefix}
use Rattle.zl_ast.specs.declared.operator.FlowOp.{FlowOp}
use Rattle.zl_ast.specs.declared.expr.Expr.{Expr}
use Rattle.zl_ast.specs.declared.expr.Expr.TheVariants as tree
use Rattle.zl_ast.specs.declared.expr.Expr.TheOpen as open_expr
use Rattle.zl_ast.specs.declared.expr.Expr.TheFolds.{fold-Link, fold-roll-Expr, fold_out-Link}
use Rattle.zl_ast.specs.declared.expr.Link.{Link, out-Link}
use Rattle.zl_ast.specs.Names.{among}
use Rattle.zl_ast.specs.NamesRules.{place_of, place_step, last_place, is_variable, variable_step}
use Rattle.zl_names.proofs.EarliestLemmas.{earliest-append, earliest-none}

pub variable-lit : (visible : List ℕ) (v : Value) (at : Pos) → is_variable visible (tree.Lit v at) ≡ false
unfolding is_variable
variable-lit visible v at = ap (is_variable visible) (sym (tree.rolls-Lit v at)) ∙ fold-roll-Expr Bool Bool (variable_step visible) (λ l. false) (open_expr.Lit v at)

pub variable-var : (visible : List ℕ) (x : Name) → is_variable visible (tree.Var x) ≡ among visible x.id
unfolding is_variable
variable-var visible x = ap (is_variable visible) (sym (tree.rolls-Var x)) ∙ fold-roll-Expr Bool Bool (variable_step visible) (λ l. false) (open_expr.Var x)

pub variable-last : (visible : List ℕ) (x : Name) (at : Pos) → is_variable visible (tree.Last x at) ≡ false
unfolding is_variable
variable-last visible x at = ap (is_variable visible) (sym (tree.rolls-Last x at)) ∙ fold-roll-Expr Bool Bool (variable_step visible) (λ l. false) (open_expr.Last x at)

pub variable-call : (visible : List ℕ) (f : Name) (args : List Expr) → is_variable visible (tree.Call f args) ≡ false
unfolding is_variable
variable-call visible f args = ap (is_variable visible) (sym (tree.rolls-Call f args)) ∙ fold-roll-Expr Bool Bool (variable_step visible) (λ l. false) (open_expr.Call f args)

pub variable-prefix : (visible : List ℕ) (op : Prefix) (at : Pos) (x : Expr) → is_variable visible (tree.Prefix op at x) ≡ false
unfolding is_variable
variable-prefix visible op at x = ap (is_variable visible) (sym (tree.rolls-Prefix op at x)) ∙ fold-roll-Expr Bool Bool (variable_step visible) (λ l. false) (open_expr.Prefix op at x)

pub variable-chain : (visible : List ℕ) (x : Expr) (ls : List Link) → is_variable visible (tree.Chain x ls) ≡ false
unfolding is_variable
variable-chain visible x ls = ap (is_variable visible) (sym (tree.rolls-Chain x ls)) ∙ fold-roll-Expr Bool Bool (variable_step visible) (λ l. false) (open_expr.Chain x ls)

pub variable-flow : (visible : List ℕ) (op : FlowOp) (at : Pos) (x y : Expr) → is_variable visible (tree.Flow op at x y) ≡ false
unfolding is_variable
variable-flow visible op at x y = ap (is_variable visible) (sym (tree.rolls-Flow op at x y)) ∙ fold-roll-Expr Bool Bool (variable_step visible) (λ l. false) (open_expr.Flow op at x y)

pub variable-if : (visible : List ℕ) (at : Pos) (c x y : Expr) → is_variable visible (tree.If at c x y) ≡ false
unfolding is_variable
variable-if visible at c x y = ap (is_variable visible) (sym (tree.rolls-If at c x y)) ∙ fold-roll-Expr Bool Bool (variable_step visible) (λ l. false) (open_expr.If at c x y)

pub ruleset result_steps = (common_steps, earliest-append, earliest-none, variable-lit, variable-var, variable-last, variable-call, variable-prefix, variable-chain, variable-flow, variable-if)
