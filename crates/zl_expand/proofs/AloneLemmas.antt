-- An expression that is no call has one result, itself.
use Rattle.std.proofs.Common.{◌≡◌, ℕ, List, [], ◌∷◌, Option, Some, None, refl, subst, sym}
use Rattle.zl_value.specs.declared.position.Pos.{Pos}
use Rattle.zl_value.specs.declared.value.Value.{Value}
use Rattle.zl_ast.specs.declared.name.Name.{Name}
use Rattle.zl_ast.specs.declared.operator.Prefix.{Prefix}
use Rattle.zl_ast.specs.declared.operator.FlowOp.{FlowOp}
use Rattle.zl_ast.specs.declared.operator.FlowOp.TheVariants as flow
use Rattle.zl_ast.specs.declared.expr.Expr.{Expr}
use Rattle.zl_ast.specs.declared.expr.Expr.TheVariants as tree
use Rattle.zl_ast.specs.declared.expr.Link.{Link}
use Rattle.zl_flat.specs.declared.variable.Variable.{Variable}
use Rattle.zl_flat.specs.declared.here.Here.{Here}
use Rattle.zl_flat.specs.Parts.{Counters}
use Rattle.zl_flat.specs.Variables.{variable_of}
use Rattle.zl_flat.specs.Instances.{Instance}
use Rattle.zl_flat.specs.Expressions.{Walk, Walked, last_of, flow_walk, expr_walk}
use Rattle.zl_flat.proofs.ExprSteps.{walk-lit, walk-last, walk-prefix, walk-chain, walk-flow, walk-if}
use Rattle.zl_expand.proofs.WalkLaws.{roomy}

abbrev IsAlone : Walked → Type 0
IsAlone w = w.results ≡ w.root ∷ []

module _ (base : ℕ) (names : List (List ℕ)) (i : Instance) (here : Here) (s : Counters) where
  last-of-alone : (o : Option Variable) (at : Pos) → IsAlone (last_of o here at s)
  last-of-alone None at = refl
  last-of-alone (Some v) at = refl

  flow-of-alone : (op : FlowOp) (at : Pos) (x y : Walk) → IsAlone (flow_walk base names i op at x y here s)
  flow-of-alone flow.Arrow at x y = refl
  flow-of-alone flow.Fby at x y = refl

  pub alone-lit : (v : Value) (at : Pos) → (expr_walk base names i (tree.Lit v at) here s).results ≡ (expr_walk base names i (tree.Lit v at) here s).root ∷ []
  alone-lit v at = subst IsAlone (sym (walk-lit base names i here s v at)) refl

  pub alone-last : (x : Name) (at : Pos) → (expr_walk base names i (tree.Last x at) here s).results ≡ (expr_walk base names i (tree.Last x at) here s).root ∷ []
  alone-last x at = subst IsAlone (sym (walk-last base names i here s x at)) (last-of-alone (variable_of i.variables x.id) at)

  pub alone-prefix : (op : Prefix) (at : Pos) (x : Expr) → (expr_walk base names i (tree.Prefix op at x) here s).results ≡ (expr_walk base names i (tree.Prefix op at x) here s).root ∷ []
  alone-prefix op at x = subst IsAlone (sym (walk-prefix base names i here s op at x)) refl

  pub alone-chain : (x : Expr) (ls : List Link) → (expr_walk base names i (tree.Chain x ls) here s).results ≡ (expr_walk base names i (tree.Chain x ls) here s).root ∷ []
  alone-chain x ls = subst IsAlone (sym (walk-chain base names i here s x ls)) refl

  pub alone-flow : (op : FlowOp) (at : Pos) (x y : Expr) → (expr_walk base names i (tree.Flow op at x y) here s).results ≡ (expr_walk base names i (tree.Flow op at x y) here s).root ∷ []
  alone-flow op at x y = subst IsAlone (sym (walk-flow base names i here s op at x y)) (flow-of-alone op at (expr_walk base names i x) (expr_walk base names i y))

  pub alone-if : (at : Pos) (c x y : Expr) → (expr_walk base names i (tree.If at c x y) here s).results ≡ (expr_walk base names i (tree.If at c x y) here s).root ∷ []
  alone-if at c x y = subst IsAlone (sym (walk-if base names i here s at c x y)) refl

pub ruleset alone = (roomy, alone-lit, alone-last, alone-prefix, alone-chain, alone-flow, alone-if)
