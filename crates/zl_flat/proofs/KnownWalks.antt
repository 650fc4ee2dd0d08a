-- The walk of a tree, part by part, as a function that computes: the walk of a whole is that of its parts put together.
use Rattle.std.proofs.Common.{◌≡◌, ℕ, List, map, Bool, Option, Some, None, refl, ◌∙◌}
use Rattle.zl_value.specs.declared.position.Pos.{Pos}
use Rattle.zl_value.specs.declared.value.Value.{Value}
use Rattle.zl_ast.specs.declared.name.Name.{Name}
use Rattle.zl_ast.specs.declared.operator.Infix.{Infix}
use Rattle.zl_ast.specs.declared.operator.Prefix.{Prefix}
use Rattle.zl_ast.specs.declared.operator.FlowOp.{FlowOp}
use Rattle.zl_ast.specs.declared.expr.Expr.{Expr}
use Rattle.zl_ast.specs.declared.expr.Expr.TheVariants as tree
use Rattle.zl_ast.specs.declared.expr.Expr.TheFolds.{fold-roll-Link}
use Rattle.zl_ast.specs.declared.expr.Link.{Link}
use Rattle.zl_ast.specs.declared.eqn.Eqn.{Eqn}
use Rattle.zl_ast.specs.declared.eqn.Eqn.TheVariants as eqn
use Rattle.zl_ast.specs.declared.eqn.Eqn.TheFolds.{fold-roll-Arm, fold-roll-Body, fold-roll-State}
use Rattle.zl_ast.specs.declared.eqn.Arm.{Arm}
use Rattle.zl_ast.specs.declared.eqn.Body.{Body}
use Rattle.zl_ast.specs.declared.eqn.State.{State}
use Rattle.zl_ast.specs.declared.eqn.Cond.{Cond}
use Rattle.zl_ast.specs.declared.eqn.Cond.TheVariants as cond
use Rattle.zl_ast.specs.declared.eqn.Up.{Up}
use Rattle.zl_ast.specs.declared.eqn.ResetArm.{ResetArm}
use Rattle.zl_ast.specs.declared.eqn.Move.{Move}
use Rattle.zl_ast.specs.Expressions.{link}
use Rattle.zl_ast.specs.Equations.{body, arm, state}
use Rattle.zl_meaning.specs.declared.occurrence.Form.TheVariants.{Lit}
use Rattle.zl_flat.specs.Variables.{variable_of}
use Rattle.zl_flat.specs.Instances.{Instance}
use Rattle.zl_flat.specs.Operators.{value_type, built_in_op}
use Rattle.zl_flat.specs.Expressions.{Walk, LinkWalk, leaf, chain, call_or_built_in, read, prefixed, flow_walk, expr_step, link_step, expr_walk, link_walk}
use Rattle.zl_flat.specs.Equations.{Making, ArmWalk, StateWalk, first_at, crossing, event, plain, der, init, start_walk, present, automaton, reset, up_walk, event_walk, cond_walk, reset_arm_walk, move_walk, arm_made, body_made, state_made, eqn_step, arm_step, body_step, state_step, eqn_walk, arm_walk, body_walk, one_state_walk}
use Rattle.zl_flat.proofs.Known.{Known, no_more, more}
use Rattle.zl_flat.proofs.ExprSteps.{walk-lit, walk-var, walk-call, walk-prefix, walk-chain, walk-flow}
use Rattle.zl_flat.proofs.EqnSteps.{make-plain, make-der, make-start, make-automaton, make-reset, make-present}

module _ (base : ℕ) (names : List (List ℕ)) (i : Instance) where
  -- ---- expressions

  abbrev pub lit : (v : Value) (at : Pos) → Known (expr_walk base names i (tree.Lit v at))
  lit v at = record { value = λ here s. leaf here (value_type v) at (Lit v) s; is = λ j here s. walk-lit base names i here s v at j }

  abbrev pub var : (x : Name) → Known (expr_walk base names i (tree.Var x))
  var x = record { value = read base names i (variable_of i.variables x.id) x; is = λ j here s. walk-var base names i here s x j }

  abbrev pub call : (f : Name) (args : List Expr) → Known (map (expr_walk base names i) args) → Known (expr_walk base names i (tree.Call f args))
  call f args k = record {
    value = call_or_built_in base names i (built_in_op names f.id) f k.value;
    is = (λ j here s. walk-call base names i here s f args j) ∙ (λ j. call_or_built_in base names i (built_in_op names f.id) f (k.is j));
  }

  abbrev pub prefix : (op : Prefix) (at : Pos) (x : Expr) → Known (expr_walk base names i x) → Known (expr_walk base names i (tree.Prefix op at x))
  prefix op at x k = record {
    value = prefixed base names i op at k.value;
    is = (λ j here s. walk-prefix base names i here s op at x j) ∙ (λ j. prefixed base names i op at (k.is j));
  }

  abbrev pub chained : (x : Expr) (ls : List Link) → Known (expr_walk base names i x) → Known (map (link_walk base names i) ls) → Known (expr_walk base names i (tree.Chain x ls))
  chained x ls k ks = record {
    value = chain k.value ks.value;
    is = (λ j here s. walk-chain base names i here s x ls j) ∙ (λ j. chain (k.is j) (ks.is j));
  }

  abbrev pub flow : (op : FlowOp) (at : Pos) (x y : Expr) → Known (expr_walk base names i x) → Known (expr_walk base names i y) → Known (expr_walk base names i (tree.Flow op at x y))
  flow op at x y k l = record {
    value = flow_walk base names i op at k.value l.value;
    is = (λ j here s. walk-flow base names i here s op at x y j) ∙ (λ j. flow_walk base names i op at (k.is j) (l.is j));
  }

  -- an operator with its right operand
  pub walk-linked : (op : Infix) (at : Pos) (x : Expr) → link_walk base names i (link op at x) ≡ link_step base names i (record { op = op; at = at; arg = expr_walk base names i x })
  unfolding expr_walk link_walk
  walk-linked op at x = fold-roll-Link Walk LinkWalk (expr_step base names i) (link_step base names i) (record { op = op; at = at; arg = x })

  abbrev pub linked : (op : Infix) (at : Pos) (x : Expr) → Known (expr_walk base names i x) → Known (link_walk base names i (link op at x))
  linked op at x k = record {
    value = link_step base names i (record { op = op; at = at; arg = k.value });
    is = walk-linked op at x ∙ (λ j. link_step base names i (record { op = op; at = at; arg = k.is j }));
  }

  -- ---- conditions

  abbrev pub up : (at : Pos) (x : Expr) → Known (expr_walk base names i x) → Known (up_walk base names i (record { at = at; arg = x }))
  up at x k = record { value = crossing base names i at k.value; is = λ j. crossing base names i at (k.is j) }

  abbrev pub event_of : (us : List Up) → Known (map (up_walk base names i) us) → Known (event_walk base names i us)
  event_of us k = record { value = event base names i (first_at us) k.value; is = λ j. event base names i (first_at us) (k.is j) }

  abbrev pub on_event : (us : List Up) → Known (event_walk base names i us) → Known (cond_walk base names i (cond.Event us))
  on_event us k = record { value = k.value; is = k.is }

  abbrev pub reset_by : (us : List Up) (x : Expr) → Known (event_walk base names i us) → Known (expr_walk base names i x) → Known (reset_arm_walk base names i (record { event = us; value = x }))
  reset_by us x k l = record { value = record { event = k.value; value = l.value }; is = λ j. record { event = k.is j; value = l.is j } }

  abbrev pub move : (strong again : Bool) (at : Pos) (c : Cond) (target : Name) → Known (cond_walk base names i c)
      → Known (move_walk base names i (record { strong = strong; reset = again; at = at; cond = c; target = target }))
  move strong again at c target k = record {
    value = record { strong = strong; reset = again; test = k.value; target = target };
    is = λ j. record { strong = strong; reset = again; test = k.is j; target = target };
  }

  -- ---- equations

  abbrev pub makes_plain : (left : List Name) (x : Expr) → Known (expr_walk base names i x) → Known (eqn_walk base names i (eqn.Plain left x))
  makes_plain left x k = record {
    value = plain base names i left k.value;
    is = (λ j here s. make-plain base names i here s left x j) ∙ (λ j. plain base names i left (k.is j));
  }

  abbrev pub begins : (x : Expr) → Known (expr_walk base names i x) → Known (start_walk base names i (Some x))
  begins x k = record { value = Some k.value; is = λ j. Some (k.is j) }

  abbrev pub begins_not : Known (start_walk base names i None)
  begins_not = record { value = None; is = refl }

  abbrev pub makes_der : (at : Pos) (x : Name) (slope : Expr) (start : Option Expr) (resets : List ResetArm)
      → Known (expr_walk base names i slope) → Known (start_walk base names i start) → Known (map (reset_arm_walk base names i) resets)
      → Known (eqn_walk base names i (eqn.Der at x slope start resets))
  makes_der at x slope start resets k l m = record {
    value = der base names i x k.value l.value m.value;
    is = (λ j here s. make-der base names i here s at x slope start resets j) ∙ (λ j. der base names i x (k.is j) (l.is j) (m.is j));
  }

  abbrev pub makes_init : (at : Pos) (x : Name) (value : Expr) → Known (expr_walk base names i value) → Known (eqn_walk base names i (eqn.Start at x value))
  makes_init at x value k = record {
    value = init base names i x k.value;
    is = (λ j here s. make-start base names i here s at x value j) ∙ (λ j. init base names i x (k.is j));
  }

  abbrev pub makes_automaton : (at : Pos) (states : List State) → Known (map (one_state_walk base names i) states) → Known (eqn_walk base names i (eqn.Automaton at states))
  makes_automaton at states k = record {
    value = automaton base names i k.value;
    is = (λ j here s. make-automaton base names i here s at states j) ∙ (λ j. automaton base names i (k.is j));
  }

  abbrev pub makes_reset : (at : Pos) (eqs : List Eqn) (c : Cond) → Known (map (eqn_walk base names i) eqs) → Known (cond_walk base names i c)
      → Known (eqn_walk base names i (eqn.Reset at eqs c))
  makes_reset at eqs c k l = record {
    value = reset base names i k.value l.value;
    is = (λ j here s. make-reset base names i here s at eqs c j) ∙ (λ j. reset base names i (k.is j) (l.is j));
  }

  abbrev pub makes_present : (at : Pos) (arms : List Arm) → Known (map (arm_walk base names i) arms) → Known (eqn_walk base names i (eqn.Present at arms None))
  makes_present at arms k = record {
    value = present base names i k.value None;
    is = (λ j here s. make-present base names i here s at arms None j) ∙ (λ j. present base names i (k.is j) None);
  }

  -- ---- bodies

  pub walk-body : (locals : List Name) (eqs : List Eqn) → body_walk base names i (body locals eqs) ≡ body_made base names i locals (map (eqn_walk base names i) eqs)
  unfolding eqn_walk arm_walk body_walk one_state_walk
  walk-body locals eqs = fold-roll-Body Making ArmWalk Making StateWalk (eqn_step base names i) (arm_step base names i) (body_step base names i) (state_step base names i) (record { locals = locals; eqs = eqs })

  abbrev pub makes_body : (locals : List Name) (eqs : List Eqn) → Known (map (eqn_walk base names i) eqs) → Known (body_walk base names i (body locals eqs))
  makes_body locals eqs k = record {
    value = body_made base names i locals k.value;
    is = walk-body locals eqs ∙ (λ j. body_made base names i locals (k.is j));
  }

  pub walk-arm : (c : Cond) (b : Body) → arm_walk base names i (arm c b) ≡ arm_made base names i (cond_walk base names i c) (body_walk base names i b)
  unfolding eqn_walk arm_walk body_walk one_state_walk
  walk-arm c b = fold-roll-Arm Making ArmWalk Making StateWalk (eqn_step base names i) (arm_step base names i) (body_step base names i) (state_step base names i) (record { cond = c; body = b })

  abbrev pub makes_arm : (c : Cond) (b : Body) → Known (cond_walk base names i c) → Known (body_walk base names i b) → Known (arm_walk base names i (arm c b))
  makes_arm c b k l = record {
    value = arm_made base names i k.value l.value;
    is = walk-arm c b ∙ (λ j. arm_made base names i (k.is j) (l.is j));
  }

  pub walk-state : (name : Name) (b : Body) (moves : List Move) → one_state_walk base names i (state name b moves) ≡ record { name = name; walk = state_made base names i (body_walk base names i b) (map (move_walk base names i) moves) }
  unfolding eqn_walk arm_walk body_walk one_state_walk
  walk-state name b moves = fold-roll-State Making ArmWalk Making StateWalk (eqn_step base names i) (arm_step base names i) (body_step base names i) (state_step base names i) (record { name = name; body = b; moves = moves })

  abbrev pub makes_state : (name : Name) (b : Body) (moves : List Move) → Known (body_walk base names i b) → Known (map (move_walk base names i) moves)
      → Known (one_state_walk base names i (state name b moves))
  makes_state name b moves k l = record {
    value = record { name = name; walk = state_made base names i k.value l.value };
    is = walk-state name b moves ∙ (λ j. record { name = name; walk = state_made base names i (k.is j) (l.is j) });
  }

pub ruleset known_walks = (no_more, more, lit, var, call, prefix, chained, flow, linked, up, event_of, on_event, reset_by, move, makes_plain, begins, begins_not, makes_der, makes_init, makes_automaton, makes_reset, makes_present, makes_body, makes_arm, makes_state)
