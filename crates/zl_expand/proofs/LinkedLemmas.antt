-- A chain of no operator is its first operand.
use Rattle.std.proofs.Common.{◌≡◌, ◌<◌, Bool, true, false, List, [], ◌∷◌, map, length, refl, sym, ap, ◌∙◌, subst, arith}
use Rattle.std.proofs.lemmas.Grind.{common_steps}
use Rattle.zl_value.specs.declared.position.Pos.{Pos}
use Rattle.zl_value.specs.declared.value.Value.{Value}
use Rattle.zl_ast.specs.declared.name.Name.{Name}
use Rattle.zl_ast.specs.declared.operator.Prefix.{Prefix}
use Rattle.zl_ast.specs.declared.operator.FlowOp.{FlowOp}
use Rattle.zl_ast.specs.declared.expr.Expr.{Expr}
use Rattle.zl_ast.specs.declared.expr.Expr.TheVariants as tree
use Rattle.zl_ast.specs.declared.expr.Expr.TheOpen as open_expr
use Rattle.zl_ast.specs.declared.expr.Expr.TheFolds.{fold-roll-Expr, fold-Link}
use Rattle.zl_ast.specs.declared.expr.Link.{Link}
use Rattle.zl_flat.specs.Expressions.{expr_walk}
use Rattle.zl_flat.proofs.ExprSteps.{walk-chain}
use Rattle.zl_flat.proofs.PartsLaws.{joined-nothing}
use Rattle.zl_expand.specs.Linked.{is_linked, linked_step, some_link, AreSame}

-- ---- by forms

pub linked-lit : (v : Value) (at : Pos) → is_linked (tree.Lit v at) ≡ true
unfolding is_linked
linked-lit v at = ap is_linked (sym (tree.rolls-Lit v at)) ∙ fold-roll-Expr Bool Bool linked_step (λ l. true) (open_expr.Lit v at)

pub linked-var : (x : Name) → is_linked (tree.Var x) ≡ true
unfolding is_linked
linked-var x = ap is_linked (sym (tree.rolls-Var x)) ∙ fold-roll-Expr Bool Bool linked_step (λ l. true) (open_expr.Var x)

pub linked-last : (x : Name) (at : Pos) → is_linked (tree.Last x at) ≡ true
unfolding is_linked
linked-last x at = ap is_linked (sym (tree.rolls-Last x at)) ∙ fold-roll-Expr Bool Bool linked_step (λ l. true) (open_expr.Last x at)

pub linked-call : (x : Name) (xs : List Expr) → is_linked (tree.Call x xs) ≡ true
unfolding is_linked
linked-call x xs = ap is_linked (sym (tree.rolls-Call x xs)) ∙ fold-roll-Expr Bool Bool linked_step (λ l. true) (open_expr.Call x xs)

pub linked-prefix : (op : Prefix) (at : Pos) (x : Expr) → is_linked (tree.Prefix op at x) ≡ true
unfolding is_linked
linked-prefix op at x = ap is_linked (sym (tree.rolls-Prefix op at x)) ∙ fold-roll-Expr Bool Bool linked_step (λ l. true) (open_expr.Prefix op at x)

pub linked-flow : (op : FlowOp) (at : Pos) (x y : Expr) → is_linked (tree.Flow op at x y) ≡ true
unfolding is_linked
linked-flow op at x y = ap is_linked (sym (tree.rolls-Flow op at x y)) ∙ fold-roll-Expr Bool Bool linked_step (λ l. true) (open_expr.Flow op at x y)

pub linked-if : (at : Pos) (c x y : Expr) → is_linked (tree.If at c x y) ≡ true
unfolding is_linked
linked-if at c x y = ap is_linked (sym (tree.rolls-If at c x y)) ∙ fold-roll-Expr Bool Bool linked_step (λ l. true) (open_expr.If at c x y)

linked-chain : (x : Expr) (ls : List Link) → is_linked (tree.Chain x ls) ≡ some_link (map (fold-Link Bool Bool linked_step (λ l. true)) ls)
unfolding is_linked
linked-chain x ls = ap is_linked (sym (tree.rolls-Chain x ls)) ∙ fold-roll-Expr Bool Bool linked_step (λ l. true) (open_expr.Chain x ls)

-- a chain that is linked has an operator
pub chain-some : (x : Expr) (ls : List Link) → is_linked (tree.Chain x ls) ≡ true → 0 < length ls
chain-some x [] h = let e : false ≡ true = sym (linked-chain x []) ∙ h in absurd (cc)
chain-some x (l ∷ ls) h = omega arith

-- and one with an operator is linked
pub chain-linked : (x : Expr) (ls : List Link) → 0 < length ls → is_linked (tree.Chain x ls) ≡ true
chain-linked x [] h = absurd (omega (arith, h))
chain-linked x (l ∷ ls) h = linked-chain x (l ∷ ls)

-- ---- what is the same

pub same-itself : (x : Expr) → AreSame x x
same-itself x = record { parts = λ base names i here s. refl; root = λ base names i here s. refl }

-- a chain of no operator is what its operand is
pub same-chain : (e x y : Expr) (ls : List Link) → e ≡ tree.Chain x ls → ls ≡ [] → AreSame x y → AreSame e y
same-chain e x y ls is none h = subst (λ z. AreSame z y) (sym (is ∙ ap (λ ks. tree.Chain x ks) none)) (record {
  parts = λ base names i here s. ap (λ w. w.parts) (walk-chain base names i here s x []) ∙ (joined-nothing (expr_walk base names i x here s).parts ∙ h.parts base names i here s);
  root = λ base names i here s. ap (λ w. w.root) (walk-chain base names i here s x []) ∙ h.root base names i here s;
})

pub ruleset linking = (common_steps, linked-lit, linked-var, linked-last, linked-call, linked-prefix, linked-flow, linked-if, chain-linked, same-itself, same-chain)
