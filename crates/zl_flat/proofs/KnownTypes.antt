-- The equalities of types of a program, part by part.
use Rattle.std.proofs.Common.{◌≡◌, List, [], ◌∷◌, ◌++◌, map, Option, Some, None, refl, ◌∙◌}
use Rattle.zl_value.specs.declared.position.Pos.{Pos}
use Rattle.zl_value.specs.declared.value.Value.{Value}
use Rattle.zl_value.specs.declared.value.Ty.TheVariants as ty
use Rattle.zl_ast.specs.declared.constraint.Equality.{Equality}
use Rattle.zl_ast.specs.declared.name.Name.{Name}
use Rattle.zl_ast.specs.declared.operator.Infix.{Infix}
use Rattle.zl_ast.specs.declared.operator.Prefix.{Prefix}
use Rattle.zl_ast.specs.declared.operator.FlowOp.{FlowOp}
use Rattle.zl_ast.specs.declared.expr.Expr.{Expr}
use Rattle.zl_ast.specs.declared.expr.Expr.TheVariants as tree
use Rattle.zl_ast.specs.declared.expr.Expr.TheOpen as open_expr
use Rattle.zl_ast.specs.declared.expr.Expr.TheFolds.{fold-roll-Link}
use Rattle.zl_ast.specs.declared.expr.Link.{Link, out-Link}
use Rattle.zl_ast.specs.declared.eqn.Eqn.{Eqn}
use Rattle.zl_ast.specs.declared.eqn.Eqn.TheVariants as eqn
use Rattle.zl_ast.specs.declared.eqn.Eqn.TheFolds.{fold-roll-Arm, fold-roll-Body, fold-roll-State}
use Rattle.zl_ast.specs.declared.eqn.Cond.{Cond}
use Rattle.zl_ast.specs.declared.eqn.Cond.TheVariants as cond
use Rattle.zl_ast.specs.declared.eqn.Up.{Up}
use Rattle.zl_ast.specs.declared.eqn.ResetArm.{ResetArm}
use Rattle.zl_ast.specs.declared.eqn.Move.{Move}
use Rattle.zl_ast.specs.declared.eqn.Arm.{Arm}
use Rattle.zl_ast.specs.declared.eqn.Body.{Body}
use Rattle.zl_ast.specs.declared.eqn.State.{State}
use Rattle.zl_ast.specs.Assignments.{joined}
use Rattle.zl_ast.specs.Expressions.{link}
use Rattle.zl_ast.specs.Equations.{body, arm, state}
use Rattle.zl_ast.specs.NamesRules.{place_of, last_place}
use Rattle.zl_ast.specs.TypeEqualities.{Environment, Part, LinkPart, fixed, same_as_found, found, expr_step, link_step, expr_part, link_part, expr_equalities, start_places, reset_places, up_equalities, cond_equalities, start_equalities, reset_arm_equalities, moves_equalities, eqn_step, arm_step, body_step, state_step, eqn_equalities, arm_equalities, body_equalities, state_equalities}
use Rattle.zl_ast.proofs.PlaceLemmas.{place-lit, place-var, place-call, place-prefix, place-chain, place-flow}
use Rattle.zl_flat.proofs.Known.{Known, no_more, more}
use Rattle.zl_flat.proofs.StructParts.{link-at}
use Rattle.zl_flat.proofs.TreeFolds.{fold-lit, fold-var, fold-call, fold-prefix, fold-chain, fold-flow, fold-plain, fold-der, fold-start, fold-automaton, fold-reset, fold-present}

-- ---- places

abbrev pub at_lit : (v : Value) (at : Pos) → Known (place_of (tree.Lit v at))
at_lit v at = record { value = at; is = place-lit v at }

abbrev pub at_var : (x : Name) → Known (place_of (tree.Var x))
at_var x = record { value = x.at; is = place-var x }

abbrev pub at_call : (f : Name) (args : List Expr) → Known (place_of (tree.Call f args))
at_call f args = record { value = f.at; is = place-call f args }

abbrev pub at_prefix : (op : Prefix) (at : Pos) (x : Expr) → Known (place_of (tree.Prefix op at x))
at_prefix op at x = record { value = at; is = place-prefix op at x }

abbrev pub at_flow : (op : FlowOp) (at : Pos) (x y : Expr) → Known (place_of (tree.Flow op at x y))
at_flow op at x y = record { value = at; is = place-flow op at x y }

abbrev pub at_link : (op : Infix) (at : Pos) (x : Expr) → Known (out-Link (link op at x)).at
at_link op at x = record { value = at; is = link-at op at x }

abbrev pub at_chain : (x : Expr) (ls : List Link) → Known (place_of x) → Known (map (λ l. (out-Link l).at) ls) → Known (place_of (tree.Chain x ls))
at_chain x ls k ks = record { value = last_place k.value ks.value; is = place-chain x ls ∙ (λ j. last_place (k.is j) (ks.is j)) }

abbrev pub at_start : (x : Expr) → Known (place_of x) → Known (start_places (Some x))
at_start x k = record { value = k.value ∷ []; is = λ j. k.is j ∷ [] }

abbrev pub at_no_start : Known (start_places None)
at_no_start = record { value = []; is = refl }

module _ (e : Environment) where
  -- ---- expressions

  pub part-lit : (v : Value) (at : Pos) → expr_part e (tree.Lit v at) ≡ expr_step e (open_expr.Lit v at)
  unfolding expr_part link_part
  part-lit v at = fold-lit Part LinkPart (expr_step e) (link_step e) v at

  pub part-var : (x : Name) → expr_part e (tree.Var x) ≡ expr_step e (open_expr.Var x)
  unfolding expr_part link_part
  part-var x = fold-var Part LinkPart (expr_step e) (link_step e) x

  pub part-call : (f : Name) (args : List Expr) → expr_part e (tree.Call f args) ≡ expr_step e (open_expr.Call f (map (expr_part e) args))
  unfolding expr_part link_part
  part-call f args = fold-call Part LinkPart (expr_step e) (link_step e) f args

  pub part-prefix : (op : Prefix) (at : Pos) (x : Expr) → expr_part e (tree.Prefix op at x) ≡ expr_step e (open_expr.Prefix op at (expr_part e x))
  unfolding expr_part link_part
  part-prefix op at x = fold-prefix Part LinkPart (expr_step e) (link_step e) op at x

  pub part-chain : (x : Expr) (ls : List Link) → expr_part e (tree.Chain x ls) ≡ expr_step e (open_expr.Chain (expr_part e x) (map (link_part e) ls))
  unfolding expr_part link_part
  part-chain x ls = fold-chain Part LinkPart (expr_step e) (link_step e) x ls

  pub part-flow : (op : FlowOp) (at : Pos) (x y : Expr) → expr_part e (tree.Flow op at x y) ≡ expr_step e (open_expr.Flow op at (expr_part e x) (expr_part e y))
  unfolding expr_part link_part
  part-flow op at x y = fold-flow Part LinkPart (expr_step e) (link_step e) op at x y

  pub part-link : (op : Infix) (at : Pos) (x : Expr) → link_part e (link op at x) ≡ link_step e (record { op = op; at = at; arg = expr_part e x })
  unfolding expr_part link_part
  part-link op at x = fold-roll-Link Part LinkPart (expr_step e) (link_step e) (record { op = op; at = at; arg = x })

  abbrev pub of_lit : (v : Value) (at : Pos) → Known (expr_part e (tree.Lit v at))
  of_lit v at = record { value = expr_step e (open_expr.Lit v at); is = part-lit v at }

  abbrev pub of_var : (x : Name) → Known (expr_part e (tree.Var x))
  of_var x = record { value = expr_step e (open_expr.Var x); is = part-var x }

  abbrev pub of_call : (f : Name) (args : List Expr) → Known (map (expr_part e) args) → Known (expr_part e (tree.Call f args))
  of_call f args k = record { value = expr_step e (open_expr.Call f k.value); is = part-call f args ∙ (λ j. expr_step e (open_expr.Call f (k.is j))) }

  abbrev pub of_prefix : (op : Prefix) (at : Pos) (x : Expr) → Known (expr_part e x) → Known (expr_part e (tree.Prefix op at x))
  of_prefix op at x k = record { value = expr_step e (open_expr.Prefix op at k.value); is = part-prefix op at x ∙ (λ j. expr_step e (open_expr.Prefix op at (k.is j))) }

  abbrev pub of_chain : (x : Expr) (ls : List Link) → Known (expr_part e x) → Known (map (link_part e) ls) → Known (expr_part e (tree.Chain x ls))
  of_chain x ls k ks = record { value = expr_step e (open_expr.Chain k.value ks.value); is = part-chain x ls ∙ (λ j. expr_step e (open_expr.Chain (k.is j) (ks.is j))) }

  abbrev pub of_flow : (op : FlowOp) (at : Pos) (x y : Expr) → Known (expr_part e x) → Known (expr_part e y) → Known (expr_part e (tree.Flow op at x y))
  of_flow op at x y k l = record {
    value = expr_step e (open_expr.Flow op at k.value l.value);
    is = part-flow op at x y ∙ (λ j. expr_step e (open_expr.Flow op at (k.is j) (l.is j)));
  }

  abbrev pub of_link : (op : Infix) (at : Pos) (x : Expr) → Known (expr_part e x) → Known (link_part e (link op at x))
  of_link op at x k = record { value = record { op = op; at = at; right = k.value }; is = part-link op at x ∙ (λ j. record { op = op; at = at; right = k.is j }) }

  abbrev pub of_value : (x : Expr) → Known (expr_part e x) → Known (expr_equalities e x)
  of_value x k = record { value = k.value.equalities; is = λ j. (k.is j).equalities }

  -- ---- conditions

  abbrev pub of_up : (at : Pos) (x : Expr) → Known (place_of x) → Known (expr_part e x) → Known (up_equalities e (record { at = at; arg = x }))
  of_up at x p k = record { value = fixed at ty.Float p.value ∷ k.value.equalities; is = λ j. fixed at ty.Float (p.is j) ∷ (k.is j).equalities }

  abbrev pub of_event : (us : List Up) → Known (map (up_equalities e) us) → Known (cond_equalities e (cond.Event us))
  of_event us k = record { value = joined k.value; is = λ j. joined (k.is j) }

  abbrev pub of_reset_arm : (us : List Up) (x : Expr) → Known (map (up_equalities e) us) → Known (expr_part e x) → Known (reset_arm_equalities e (record { event = us; value = x }))
  of_reset_arm us x k l = record { value = joined k.value ++ l.value.equalities; is = λ j. joined (k.is j) ++ (l.is j).equalities }

  abbrev pub of_start : (x : Expr) → Known (expr_part e x) → Known (start_equalities e (Some x))
  of_start x k = record { value = k.value.equalities; is = λ j. (k.is j).equalities }

  abbrev pub of_no_start : Known (start_equalities e None)
  of_no_start = record { value = []; is = refl }

  -- ---- equations

  pub type-plain : (x : Name) (right : Expr) → eqn_equalities e (eqn.Plain (x ∷ []) right) ≡ same_as_found x.at (place_of right) (e.variables x.id) ++ expr_equalities e right
  unfolding eqn_equalities arm_equalities body_equalities state_equalities
  type-plain x right = fold-plain (List Equality) (List Equality) (List Equality) (List Equality) (eqn_step e) (arm_step e) (body_step e) (state_step e) (x ∷ []) right

  pub type-der : (at : Pos) (x : Name) (slope : Expr) (start : Option Expr) (resets : List ResetArm) → eqn_equalities e (eqn.Der at x slope start resets)
      ≡ map (fixed at ty.Float) (found (e.variables x.id) ++ (place_of slope ∷ (start_places start ++ reset_places resets)))
      ++ (expr_equalities e slope ++ (start_equalities e start ++ joined (map (reset_arm_equalities e) resets)))
  unfolding eqn_equalities arm_equalities body_equalities state_equalities
  type-der at x slope start resets = fold-der (List Equality) (List Equality) (List Equality) (List Equality) (eqn_step e) (arm_step e) (body_step e) (state_step e) at x slope start resets

  pub type-init : (at : Pos) (x : Name) (value : Expr) → eqn_equalities e (eqn.Start at x value) ≡ same_as_found at (place_of value) (e.variables x.id) ++ expr_equalities e value
  unfolding eqn_equalities arm_equalities body_equalities state_equalities
  type-init at x value = fold-start (List Equality) (List Equality) (List Equality) (List Equality) (eqn_step e) (arm_step e) (body_step e) (state_step e) at x value

  pub type-automaton : (at : Pos) (states : List State) → eqn_equalities e (eqn.Automaton at states) ≡ joined (map (state_equalities e) states)
  unfolding eqn_equalities arm_equalities body_equalities state_equalities
  type-automaton at states = fold-automaton (List Equality) (List Equality) (List Equality) (List Equality) (eqn_step e) (arm_step e) (body_step e) (state_step e) at states

  pub type-reset : (at : Pos) (eqs : List Eqn) (c : Cond) → eqn_equalities e (eqn.Reset at eqs c) ≡ joined (map (eqn_equalities e) eqs) ++ cond_equalities e c
  unfolding eqn_equalities arm_equalities body_equalities state_equalities
  type-reset at eqs c = fold-reset (List Equality) (List Equality) (List Equality) (List Equality) (eqn_step e) (arm_step e) (body_step e) (state_step e) at eqs c

  pub type-present : (at : Pos) (arms : List Arm) → eqn_equalities e (eqn.Present at arms None) ≡ joined (map (arm_equalities e) arms) ++ []
  unfolding eqn_equalities arm_equalities body_equalities state_equalities
  type-present at arms = fold-present (List Equality) (List Equality) (List Equality) (List Equality) (eqn_step e) (arm_step e) (body_step e) (state_step e) at arms

  pub type-arm : (c : Cond) (b : Body) → arm_equalities e (arm c b) ≡ cond_equalities e c ++ body_equalities e b
  unfolding eqn_equalities arm_equalities body_equalities state_equalities
  type-arm c b = fold-roll-Arm (List Equality) (List Equality) (List Equality) (List Equality) (eqn_step e) (arm_step e) (body_step e) (state_step e) (record { cond = c; body = b })

  pub type-body : (locals : List Name) (eqs : List Eqn) → body_equalities e (body locals eqs) ≡ joined (map (eqn_equalities e) eqs)
  unfolding eqn_equalities arm_equalities body_equalities state_equalities
  type-body locals eqs = fold-roll-Body (List Equality) (List Equality) (List Equality) (List Equality) (eqn_step e) (arm_step e) (body_step e) (state_step e) (record { locals = locals; eqs = eqs })

  pub type-state : (name : Name) (b : Body) (moves : List Move) → state_equalities e (state name b moves) ≡ body_equalities e b ++ moves_equalities e moves
  unfolding eqn_equalities arm_equalities body_equalities state_equalities
  type-state name b moves = fold-roll-State (List Equality) (List Equality) (List Equality) (List Equality) (eqn_step e) (arm_step e) (body_step e) (state_step e) (record { name = name; body = b; moves = moves })

  abbrev pub of_plain : (x : Name) (right : Expr) → Known (place_of right) → Known (expr_part e right) → Known (eqn_equalities e (eqn.Plain (x ∷ []) right))
  of_plain x right p k = record {
    value = same_as_found x.at p.value (e.variables x.id) ++ k.value.equalities;
    is = type-plain x right ∙ (λ j. same_as_found x.at (p.is j) (e.variables x.id) ++ (k.is j).equalities);
  }

  abbrev pub of_der : (at : Pos) (x : Name) (slope : Expr) (start : Option Expr) (resets : List ResetArm)
      → Known (place_of slope) → Known (start_places start) → Known (reset_places resets)
      → Known (expr_part e slope) → Known (start_equalities e start) → Known (map (reset_arm_equalities e) resets) → Known (eqn_equalities e (eqn.Der at x slope start resets))
  of_der at x slope start resets p q r k l m = record {
    value = map (fixed at ty.Float) (found (e.variables x.id) ++ (p.value ∷ (q.value ++ r.value))) ++ (k.value.equalities ++ (l.value ++ joined m.value));
    is = type-der at x slope start resets
        ∙ (λ j. map (fixed at ty.Float) (found (e.variables x.id) ++ (p.is j ∷ (q.is j ++ r.is j))) ++ ((k.is j).equalities ++ (l.is j ++ joined (m.is j))));
  }

  abbrev pub of_init : (at : Pos) (x : Name) (value : Expr) → Known (place_of value) → Known (expr_part e value) → Known (eqn_equalities e (eqn.Start at x value))
  of_init at x value p k = record {
    value = same_as_found at p.value (e.variables x.id) ++ k.value.equalities;
    is = type-init at x value ∙ (λ j. same_as_found at (p.is j) (e.variables x.id) ++ (k.is j).equalities);
  }

  abbrev pub of_automaton : (at : Pos) (states : List State) → Known (map (state_equalities e) states) → Known (eqn_equalities e (eqn.Automaton at states))
  of_automaton at states k = record { value = joined k.value; is = type-automaton at states ∙ (λ j. joined (k.is j)) }

  abbrev pub of_reset : (at : Pos) (eqs : List Eqn) (c : Cond) → Known (map (eqn_equalities e) eqs) → Known (cond_equalities e c) → Known (eqn_equalities e (eqn.Reset at eqs c))
  of_reset at eqs c k l = record { value = joined k.value ++ l.value; is = type-reset at eqs c ∙ (λ j. joined (k.is j) ++ l.is j) }

  abbrev pub of_present : (at : Pos) (arms : List Arm) → Known (map (arm_equalities e) arms) → Known (eqn_equalities e (eqn.Present at arms None))
  of_present at arms k = record { value = joined k.value ++ []; is = type-present at arms ∙ (λ j. joined (k.is j) ++ []) }

  abbrev pub of_arm : (c : Cond) (b : Body) → Known (cond_equalities e c) → Known (body_equalities e b) → Known (arm_equalities e (arm c b))
  of_arm c b k l = record { value = k.value ++ l.value; is = type-arm c b ∙ (λ j. k.is j ++ l.is j) }

  abbrev pub of_body : (locals : List Name) (eqs : List Eqn) → Known (map (eqn_equalities e) eqs) → Known (body_equalities e (body locals eqs))
  of_body locals eqs k = record { value = joined k.value; is = type-body locals eqs ∙ (λ j. joined (k.is j)) }

  abbrev pub of_state : (name : Name) (b : Body) (moves : List Move) → Known (body_equalities e b) → Known (map (λ (m : Move). cond_equalities e m.cond) moves) → Known (state_equalities e (state name b moves))
  of_state name b moves k l = record { value = k.value ++ joined l.value; is = type-state name b moves ∙ (λ j. k.is j ++ joined (l.is j)) }

pub ruleset known_places = (no_more, more, at_lit, at_var, at_call, at_prefix, at_flow, at_link, at_chain, at_start, at_no_start)

pub ruleset known_types = (known_places, of_lit, of_var, of_call, of_prefix, of_chain, of_flow, of_link, of_value, of_up, of_event, of_reset_arm, of_start, of_no_start, of_plain, of_der, of_init, of_automaton, of_reset, of_present, of_arm, of_body, of_state)
