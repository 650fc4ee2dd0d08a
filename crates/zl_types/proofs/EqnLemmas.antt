-- The equalities of an equation, by its form.
use Rattle.std.proofs.Common.{◌≡◌, List, [], ◌∷◌, ◌++◌, map, Option, Some, None, refl, sym, ap, ◌∙◌, append_assoc, ℕ, ◌≤◌, length, drop}
use Rattle.std.proofs.lemmas.Grind.{common_steps}
use Rattle.std.proofs.lemmas.List.{append-nil, map-append, at_drop_all}
use Rattle.zl_value.specs.declared.position.Pos.{Pos}
use Rattle.zl_value.specs.declared.value.Ty.TheVariants as ty
use Rattle.zl_value.specs.declared.value.Value.{Value}
use Rattle.zl_ast.specs.declared.constraint.Equality.{Equality}
use Rattle.zl_ast.specs.declared.name.Name.{Name}
use Rattle.zl_ast.specs.declared.operator.Prefix.{Prefix}
use Rattle.zl_ast.specs.declared.operator.FlowOp.{FlowOp}
use Rattle.zl_ast.specs.declared.expr.Expr.{Expr}
use Rattle.zl_ast.specs.declared.expr.Expr.TheVariants as tree
use Rattle.zl_ast.specs.declared.expr.Expr.TheOpen as open_expr
use Rattle.zl_ast.specs.declared.expr.Expr.TheFolds.{fold-roll-Expr}
use Rattle.zl_ast.specs.declared.expr.Link.{Link}
use Rattle.zl_ast.specs.declared.eqn.Eqn.{Eqn}
use Rattle.zl_ast.specs.declared.eqn.Eqn.TheVariants as eqn
use Rattle.zl_ast.specs.declared.eqn.Eqn.TheOpen as open_eqn
use Rattle.zl_ast.specs.declared.eqn.Eqn.TheFolds.{fold-roll-Eqn, fold_out-Arm, fold_out-Body, fold_out-State}
use Rattle.zl_ast.specs.declared.eqn.Cond.{Cond}
use Rattle.zl_ast.specs.declared.eqn.ResetArm.{ResetArm}
use Rattle.zl_ast.specs.declared.eqn.Arm.{Arm, out-Arm}
use Rattle.zl_ast.specs.declared.eqn.Body.{Body, out-Body}
use Rattle.zl_ast.specs.declared.eqn.State.{State, out-State}
use Rattle.zl_ast.specs.Assignments.{joined}
use Rattle.zl_ast.specs.NamesRules.{place_of}
use Rattle.zl_ast.specs.TypeEqualities.{Environment, fixed, same_as_found, der_places, called, called_step, expr_equalities, sides_equalities, cond_equalities, start_equalities, names_equalities, reset_arm_equalities, moves_equalities, other_equalities, eqn_step, arm_step, body_step, state_step, eqn_equalities, arm_equalities, body_equalities, state_equalities, eqns_equalities}

pub called-lit : (v : Value) (at : Pos) → called (tree.Lit v at) ≡ None
unfolding called
called-lit v at = ap called (sym (tree.rolls-Lit v at)) ∙ fold-roll-Expr (Option Name) (Option Name) called_step (λ l. None) (open_expr.Lit v at)

pub called-var : (x : Name) → called (tree.Var x) ≡ None
unfolding called
called-var x = ap called (sym (tree.rolls-Var x)) ∙ fold-roll-Expr (Option Name) (Option Name) called_step (λ l. None) (open_expr.Var x)

pub called-last : (x : Name) (at : Pos) → called (tree.Last x at) ≡ None
unfolding called
called-last x at = ap called (sym (tree.rolls-Last x at)) ∙ fold-roll-Expr (Option Name) (Option Name) called_step (λ l. None) (open_expr.Last x at)

pub called-call : (f : Name) (args : List Expr) → called (tree.Call f args) ≡ Some f
unfolding called
called-call f args = ap called (sym (tree.rolls-Call f args)) ∙ fold-roll-Expr (Option Name) (Option Name) called_step (λ l. None) (open_expr.Call f args)

pub called-prefix : (op : Prefix) (at : Pos) (x : Expr) → called (tree.Prefix op at x) ≡ None
unfolding called
called-prefix op at x = ap called (sym (tree.rolls-Prefix op at x)) ∙ fold-roll-Expr (Option Name) (Option Name) called_step (λ l. None) (open_expr.Prefix op at x)

pub called-chain : (x : Expr) (ls : List Link) → called (tree.Chain x ls) ≡ None
unfolding called
called-chain x ls = ap called (sym (tree.rolls-Chain x ls)) ∙ fold-roll-Expr (Option Name) (Option Name) called_step (λ l. None) (open_expr.Chain x ls)

pub called-flow : (op : FlowOp) (at : Pos) (x y : Expr) → called (tree.Flow op at x y) ≡ None
unfolding called
called-flow op at x y = ap called (sym (tree.rolls-Flow op at x y)) ∙ fold-roll-Expr (Option Name) (Option Name) called_step (λ l. None) (open_expr.Flow op at x y)

pub called-if : (at : Pos) (c x y : Expr) → called (tree.If at c x y) ≡ None
unfolding called
called-if at c x y = ap called (sym (tree.rolls-If at c x y)) ∙ fold-roll-Expr (Option Name) (Option Name) called_step (λ l. None) (open_expr.If at c x y)

module _ (e : Environment) where
  pub equation-plain : (left : List Name) (right : Expr) → eqn_equalities e (eqn.Plain left right) ≡ sides_equalities e left right ++ expr_equalities e right
  unfolding eqn_equalities state_equalities
  equation-plain left right =
      ap (eqn_equalities e) (sym (eqn.rolls-Plain left right))
      ∙ fold-roll-Eqn (List Equality) (List Equality) (List Equality) (List Equality) (eqn_step e) (arm_step e) (body_step e) (state_step e) (open_eqn.Plain left right)

  pub equation-der : (at : Pos) (x : Name) (slope : Expr) (start : Option Expr) (resets : List ResetArm) → eqn_equalities e (eqn.Der at x slope start resets) ≡ map (fixed at ty.Float) (der_places (e.variables x.id) slope start resets) ++ (expr_equalities e slope ++ (start_equalities e start ++ joined (map (reset_arm_equalities e) resets)))
  unfolding eqn_equalities state_equalities
  equation-der at x slope start resets =
      ap (eqn_equalities e) (sym (eqn.rolls-Der at x slope start resets))
      ∙ fold-roll-Eqn (List Equality) (List Equality) (List Equality) (List Equality) (eqn_step e) (arm_step e) (body_step e) (state_step e) (open_eqn.Der at x slope start resets)

  pub equation-start : (at : Pos) (x : Name) (value : Expr) → eqn_equalities e (eqn.Start at x value) ≡ same_as_found at (place_of value) (e.variables x.id) ++ expr_equalities e value
  unfolding eqn_equalities state_equalities
  equation-start at x value =
      ap (eqn_equalities e) (sym (eqn.rolls-Start at x value))
      ∙ fold-roll-Eqn (List Equality) (List Equality) (List Equality) (List Equality) (eqn_step e) (arm_step e) (body_step e) (state_step e) (open_eqn.Start at x value)

  pub equation-automaton : (at : Pos) (states : List State) → eqn_equalities e (eqn.Automaton at states) ≡ joined (map (state_equalities e) states)
  unfolding eqn_equalities state_equalities
  equation-automaton at states =
      ap (eqn_equalities e) (sym (eqn.rolls-Automaton at states))
      ∙ fold-roll-Eqn (List Equality) (List Equality) (List Equality) (List Equality) (eqn_step e) (arm_step e) (body_step e) (state_step e) (open_eqn.Automaton at states)

  pub equation-reset : (at : Pos) (eqs : List Eqn) (c : Cond) → eqn_equalities e (eqn.Reset at eqs c) ≡ eqns_equalities e eqs ++ cond_equalities e c
  unfolding eqn_equalities state_equalities
  equation-reset at eqs c =
      ap (eqn_equalities e) (sym (eqn.rolls-Reset at eqs c))
      ∙ fold-roll-Eqn (List Equality) (List Equality) (List Equality) (List Equality) (eqn_step e) (arm_step e) (body_step e) (state_step e) (open_eqn.Reset at eqs c)

  pub equation-present : (at : Pos) (arms : List Arm) (other : Option Body) → eqn_equalities e (eqn.Present at arms other) ≡ joined (map (arm_equalities e) arms) ++ other_equalities e other
  unfolding eqn_equalities arm_equalities body_equalities
  equation-present at arms None =
      ap (eqn_equalities e) (sym (eqn.rolls-Present at arms None))
      ∙ fold-roll-Eqn (List Equality) (List Equality) (List Equality) (List Equality) (eqn_step e) (arm_step e) (body_step e) (state_step e) (open_eqn.Present at arms None)
  equation-present at arms (Some b) =
      ap (eqn_equalities e) (sym (eqn.rolls-Present at arms (Some b)))
      ∙ fold-roll-Eqn (List Equality) (List Equality) (List Equality) (List Equality) (eqn_step e) (arm_step e) (body_step e) (state_step e) (open_eqn.Present at arms (Some b))

  pub names-none : (at : Pos) (names : List Name) → names_equalities e at names [] ≡ []
  names-none at [] = refl
  names-none at (x ∷ names) = refl

  pub names-over : (at : Pos) (names : List Name) (results : List Pos) (i : ℕ) → length results ≤ i → names_equalities e at names (drop i results) ≡ []
  names-over at names results i over = at_drop_all (names_equalities e at names) results i over ∙ names-none at names

  pub equation-arm : (a : Arm) → arm_equalities e a ≡ cond_equalities e (out-Arm a).cond ++ body_equalities e (out-Arm a).body
  unfolding arm_equalities body_equalities
  equation-arm a = fold_out-Arm (List Equality) (List Equality) (List Equality) (List Equality) (eqn_step e) (arm_step e) (body_step e) (state_step e) a

  pub equation-body : (b : Body) → body_equalities e b ≡ eqns_equalities e (out-Body b).eqs
  unfolding eqn_equalities body_equalities
  equation-body b = fold_out-Body (List Equality) (List Equality) (List Equality) (List Equality) (eqn_step e) (arm_step e) (body_step e) (state_step e) b

  pub equation-state : (s : State) → state_equalities e s ≡ body_equalities e (out-State s).body ++ moves_equalities e (out-State s).moves
  unfolding body_equalities state_equalities
  equation-state s = fold_out-State (List Equality) (List Equality) (List Equality) (List Equality) (eqn_step e) (arm_step e) (body_step e) (state_step e) s

pub ruleset eqn_steps = (common_steps, append_assoc, append-nil, map-append, names-none, names-over, called-lit, called-var, called-last, called-call, called-prefix, called-chain, called-flow, called-if, equation-plain, equation-der, equation-start, equation-present, equation-automaton, equation-reset, equation-arm, equation-body, equation-state)
