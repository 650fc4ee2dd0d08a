-- The constraints on levels are drawn from the spots of a tree.
use Rattle.std.specs.Prelude.{not, ◌&&◌, if◌then◌else◌}
use Rattle.std.proofs.Common.{◌≡◌, ℕ, Bool, true, false, List, [], ◌∷◌, ◌++◌, map, Option, Some, None, refl, sym, subst, append_assoc}
use Rattle.std.specs.List.{AllByRecursion}
use Rattle.zl_value.specs.declared.position.Pos.{Pos}
use Rattle.zl_ast.specs.declared.constraint.Asked.{Asked}
use Rattle.zl_ast.specs.declared.constraint.Asked.TheVariants as asked
use Rattle.zl_ast.specs.declared.constraint.Requirement.{Requirement}
use Rattle.zl_ast.specs.declared.name.Name.{Name}
use Rattle.zl_ast.specs.declared.operator.Prefix.{Prefix}
use Rattle.zl_ast.specs.declared.operator.Prefix.TheVariants as prefix_op
use Rattle.zl_ast.specs.declared.operator.FlowOp.{FlowOp}
use Rattle.zl_ast.specs.declared.operator.FlowOp.TheVariants as flow_op
use Rattle.zl_ast.specs.declared.expr.Expr.{Expr, roll-Expr}
use Rattle.zl_ast.specs.declared.expr.Link.{Link, roll-Link, out-Link}
use Rattle.zl_ast.specs.declared.expr.Expr.TheOpen.{Expr-F, Link-F}
use Rattle.zl_ast.specs.declared.expr.Expr.TheOpen as open_expr
use Rattle.zl_ast.specs.declared.expr.Expr.TheFolds.{fold-roll-Expr, fold-roll-Link, para-roll-Expr, para-roll-Link, ind-Expr, map-Expr, map-Link}
use Rattle.zl_ast.specs.declared.eqn.Eqn.{Eqn, roll-Eqn}
use Rattle.zl_ast.specs.declared.eqn.Arm.{Arm, roll-Arm}
use Rattle.zl_ast.specs.declared.eqn.Body.{Body, roll-Body}
use Rattle.zl_ast.specs.declared.eqn.State.{State, roll-State}
use Rattle.zl_ast.specs.declared.eqn.Cond.{Cond}
use Rattle.zl_ast.specs.declared.eqn.Cond.TheVariants.{Event, Test}
use Rattle.zl_ast.specs.declared.eqn.Up.{Up}
use Rattle.zl_ast.specs.declared.eqn.ResetArm.{ResetArm}
use Rattle.zl_ast.specs.declared.eqn.Move.{Move}
use Rattle.zl_ast.specs.declared.eqn.Eqn.TheOpen.{Eqn-F, Arm-F, Body-F, State-F}
use Rattle.zl_ast.specs.declared.eqn.Eqn.TheOpen as open_eqn
use Rattle.zl_ast.specs.declared.eqn.Eqn.TheFolds.{fold-roll-Eqn, fold-roll-Arm, fold-roll-Body, fold-roll-State, ind-Eqn, map-Eqn, map-Arm, map-Body, map-State}
use Rattle.zl_ast.specs.declared.program.Decl.{Decl}
use Rattle.zl_ast.specs.declared.program.Param.{Param}
use Rattle.zl_ast.specs.Names.{among, is_built_in}
use Rattle.zl_ast.specs.NamesRules.{place_of}
use Rattle.zl_ast.specs.InOrder.{RequirementsRise}
use Rattle.zl_ast.specs.Spots.{Spot, expr_spots, link_spots}
use Rattle.zl_ast.specs.Spots as spots
use Rattle.zl_ast.specs.Initialised as levels
use Rattle.zl_ast.specs.Initialised.{Known, ask, ask_each, late_where_each, Constraints, Part, LinkPart, node, last_needs, call_constraints, prefix_constraints, flow_constraints, each_constraints, links_constraints, last_constraints, expr_constraints, link_constraints, exprs_constraints, Setting, Needs, BodyNeeds, free_in, all_free, in_arm, within, in_reset, all_needs, is_place, defined_needs, unsettled, all_unsettled, each_defined, left_needs, ups_constraints, cond_constraints, start_constraints, resets_constraints, moves_constraints, inside_body, eqn_needs, arm_needs, body_needs, state_needs}
use Rattle.zl_ast.proofs.Drawn.{Drawn, none, again, pass, before_spots, ◌◂◌, before_it, all_at, drawn_rises}
use Rattle.zl_ast.proofs.TreeLaws.{places_grow}

abbrev pub AreDrawn : List Requirement → List Spot → Type 0
AreDrawn rs ss = Drawn (λ r. r.at) rs ss

-- all of them stand at the place
abbrev pub AllAt : Pos → List Requirement → Type 0
AllAt p rs = AllByRecursion (λ r. r.at ≡ p) rs

both_at : (p : Pos) (xs ys : List Requirement) → AllAt p xs → AllAt p ys → AllAt p (xs ++ ys)
both_at p [] ys h k = k
both_at p (x ∷ xs) ys h k = (h.0, both_at p xs ys h.1 k)

each_at : (p : Pos) (a : Asked) (nodes : List Pos) → AllAt p (ask_each p a nodes)
each_at p a [] = tt
each_at p a (q ∷ qs) = (refl, each_at p a qs)

late_at : (p : Pos) (parts : List Pos) → AllAt p (late_where_each p parts)
late_at p [] = tt
late_at p (q ∷ qs) = (refl, late_at p qs)

call_at : (b : Bool) (p : Pos) (parts : List Pos) → AllAt p (call_constraints b p parts)
call_at true p parts = late_at p parts
call_at false p parts = (refl, each_at p asked.Early parts)

prefix_at : (op : Prefix) (p x : Pos) → AllAt p (prefix_constraints op p x)
prefix_at prefix_op.Minus p x = (refl, tt)
prefix_at prefix_op.MinusDot p x = (refl, tt)
prefix_at prefix_op.Not p x = (refl, tt)
prefix_at prefix_op.Pre p x = (refl, (refl, tt))

flow_at : (op : FlowOp) (p x y : Pos) → AllAt p (flow_constraints op p x y)
flow_at flow_op.Arrow p x y = (refl, tt)
flow_at flow_op.Fby p x y = (refl, (refl, tt))

read_drawn : (o : Option Pos) (x : Name) → AreDrawn (levels.read_constraint o x.at ∷ []) (spots.named spots.occurrence x ∷ [])
read_drawn None x = again refl none
read_drawn (Some p) x = again refl none

last_at : (o : Option Pos) (p : Pos) → AllAt p (last_needs o p)
last_at None p = tt
last_at (Some q) p = (refl, tt)

-- ---- expressions

module _ (k : Known) where
  abbrev pub ExprDrawn : Expr → Type 0
  ExprDrawn x = (free : ℕ → Bool) → AreDrawn (expr_constraints k x free) (expr_spots x)

  abbrev pub LinkDrawn : Link → Type 0
  LinkDrawn l = (left : Pos) (free : ℕ → Bool) → AreDrawn (link_constraints k l left free) (link_spots l)

  abbrev TheExpr : Type 0
  TheExpr = (x : Expr) × ExprDrawn x

  abbrev TheLink : Type 0
  TheLink = (l : Link) × LinkDrawn l

  abbrev parts : List Expr → List Part
  parts xs = map (λ x. (x, expr_constraints k x)) xs

  abbrev link_parts : List Link → List LinkPart
  link_parts ls = map (λ l. (l, link_constraints k l)) ls

  args_drawn : (xs : List TheExpr) (free : ℕ → Bool) → AreDrawn (each_constraints (parts (map (λ x. x.0) xs)) free) (spots.joined (map expr_spots (map (λ x. x.0) xs)))
  args_drawn [] free = none
  args_drawn (x ∷ xs) free = x.1 free ◂ args_drawn xs free

  links_drawn : (left : Pos) (ls : List TheLink) (free : ℕ → Bool) → AreDrawn (links_constraints left (link_parts (map (λ l. l.0) ls)) free) (spots.joined (map link_spots (map (λ l. l.0) ls)))
  links_drawn left [] free = none
  links_drawn left (l ∷ ls) free = l.1 left free ◂ links_drawn (out-Link l.0).at ls free

  abbrev expr_trees : Expr-F TheExpr TheLink → Expr-F Expr Link
  expr_trees y = map-Expr TheExpr TheLink Expr Link (λ x. x.0) (λ l. l.0) y

  abbrev link_trees : Link-F TheExpr TheLink → Link-F Expr Link
  link_trees y = map-Link TheExpr TheLink Expr Link (λ x. x.0) (λ l. l.0) y

  abbrev expr_below : Expr-F TheExpr TheLink → Constraints
  expr_below y = levels.expr_step k (map-Expr Expr Link Part LinkPart (λ x. (x, expr_constraints k x)) (λ l. (l, link_constraints k l)) (expr_trees y))

  abbrev link_below : Link-F TheExpr TheLink → Pos → Constraints
  link_below y = levels.link_step k (map-Link Expr Link Part LinkPart (λ x. (x, expr_constraints k x)) (λ l. (l, link_constraints k l)) (link_trees y))

  expr_layer : (y : Expr-F TheExpr TheLink) (free : ℕ → Bool) →
      AreDrawn (expr_below y free) (spots.expr_step (map-Expr Expr Link (List Spot) (List Spot) expr_spots link_spots (expr_trees y)))
  expr_layer (open_expr.Lit v at) free = again refl none
  expr_layer (open_expr.Var x) free = read_drawn (k.place x.id) x
  expr_layer (open_expr.Last x at) free = before_it (last_needs (k.place x.id) at) (last_at (k.place x.id) at) (again refl none)
  expr_layer (open_expr.Call f args) free =
      before_it (call_constraints (is_built_in k.names f.id) f.at (map node (parts (map (λ x. x.0) args)))) (call_at (is_built_in k.names f.id) f.at (map node (parts (map (λ x. x.0) args)))) (pass (args_drawn args free))
  expr_layer (open_expr.Prefix op at x) free = before_it (prefix_constraints op at (place_of x.0)) (prefix_at op at (place_of x.0)) (pass (x.1 free))
  expr_layer (open_expr.Chain x ls) free = x.1 free ◂ links_drawn (place_of x.0) ls free
  expr_layer (open_expr.Flow op at x y) free =
      x.1 free ◂ before_it (flow_constraints op at (place_of x.0) (place_of y.0)) (flow_at op at (place_of x.0) (place_of y.0)) (pass (y.1 free))
  expr_layer (open_expr.If at c x y) free = again refl (again refl (again refl (pass (c.1 free ◂ (x.1 free ◂ y.1 free)))))

  link_layer : (y : Link-F TheExpr TheLink) (left : Pos) (free : ℕ → Bool) →
      AreDrawn (link_below y left free) (spots.link_step (map-Link Expr Link (List Spot) (List Spot) expr_spots link_spots (link_trees y)))
  link_layer l left free = again refl (again refl (pass (l.arg.1 free)))

  pub expr_drawn : (x : Expr) → ExprDrawn x
  unfolding expr_constraints link_constraints expr_spots link_spots
  expr_drawn = ind-Expr ExprDrawn LinkDrawn
      (λ x y is. subst (λ z. ExprDrawn (roll-Expr z)) is (λ free.
      subst (λ cs. AreDrawn (cs free) (expr_spots (roll-Expr (expr_trees y)))) (sym (para-roll-Expr Constraints (Pos → Constraints) (levels.expr_step k) (levels.link_step k) (expr_trees y)))
      (subst (AreDrawn (expr_below y free)) (sym (fold-roll-Expr (List Spot) (List Spot) spots.expr_step spots.link_step (expr_trees y))) (expr_layer y free))))
      (λ x y is. subst (λ z. LinkDrawn (roll-Link z)) is (λ left free.
      subst (λ cs. AreDrawn (cs left free) (link_spots (roll-Link (link_trees y)))) (sym (para-roll-Link Constraints (Pos → Constraints) (levels.expr_step k) (levels.link_step k) (link_trees y)))
      (subst (AreDrawn (link_below y left free)) (sym (fold-roll-Link (List Spot) (List Spot) spots.expr_step spots.link_step (link_trees y))) (link_layer y left free))))

  exprs_drawn : (xs : List Expr) (free : ℕ → Bool) → AreDrawn (exprs_constraints k xs free) (spots.all_spots expr_spots xs)
  exprs_drawn [] free = none
  exprs_drawn (x ∷ xs) free = expr_drawn x free ◂ exprs_drawn xs free

  -- ---- equations

  never_at : (b : Bool) (p : Pos) → AllAt p (if b then ask p p asked.Never ∷ [] else [])
  never_at true p = (refl, tt)
  never_at false p = tt

  unsettled_at : (x : Name) → AllAt x.at (unsettled k x)
  unsettled_at x = never_at (is_place (k.place x.id) x.at && not (among k.settled x.id)) x.at

  unsettled_drawn : (x : Name) → AreDrawn (unsettled k x) (spots.one_name x)
  unsettled_drawn x = all_at {ss = []} (unsettled k x) (unsettled_at x)

  all_unsettled_drawn : (xs : List Name) → AreDrawn (all_unsettled k xs) (spots.all_spots spots.one_name xs)
  all_unsettled_drawn [] = none
  all_unsettled_drawn (x ∷ xs) = unsettled_drawn x ◂ all_unsettled_drawn xs

  defined_at : (o : Option Pos) (b : Bool) (p e : Pos) → AllAt p (defined_needs o b p e)
  defined_at o false p e = (refl, tt)
  defined_at None true p e = tt
  defined_at (Some q) true p e = (refl, tt)

  each_defined_at : (own : List ℕ) (p e : Pos) (xs : List Name) → AllAt p (each_defined k own p e xs)
  each_defined_at own p e [] = tt
  each_defined_at own p e (x ∷ xs) =
      both_at p (defined_needs (k.place x.id) (among own x.id) p e) (each_defined k own p e xs) (defined_at (k.place x.id) (among own x.id) p e) (each_defined_at own p e xs)

  left_drawn : (left : List Name) (e : Pos) (own : List ℕ) → AreDrawn (left_needs k left e own) (spots.left_spots left)
  left_drawn [] e own = none
  left_drawn (x ∷ xs) e own =
      before_it (each_defined k own x.at e (x ∷ xs)) (each_defined_at own x.at e (x ∷ xs)) (all_at {ss = []} (unsettled k x) (unsettled_at x) ◂ all_unsettled_drawn xs)

  ups_drawn : (us : List Up) (free : ℕ → Bool) → AreDrawn (ups_constraints k us free) (spots.all_spots spots.up_spots us)
  ups_drawn [] free = none
  ups_drawn (u ∷ us) free = again refl (pass (expr_drawn u.arg free ◂ ups_drawn us free))

  cond_drawn : (c : Cond) (free : ℕ → Bool) → AreDrawn (cond_constraints k c free) (spots.cond_spots c)
  cond_drawn (Event us) free = ups_drawn us free
  cond_drawn (Test at x) free = again refl (pass (expr_drawn x free))

  start_drawn : (start : Option Expr) (free : ℕ → Bool) → AreDrawn (start_constraints k start free) (spots.some_spots expr_spots start)
  start_drawn None free = none
  start_drawn (Some x) free = expr_drawn x free

  resets_drawn : (rs : List ResetArm) (free : ℕ → Bool) → AreDrawn (resets_constraints k rs free) (spots.all_spots spots.reset_arm_spots rs)
  resets_drawn [] free = none
  resets_drawn (r ∷ rs) free =
      subst (AreDrawn (resets_constraints k (r ∷ rs) free)) (sym (append_assoc (spots.all_spots spots.up_spots r.event) (expr_spots r.value) (spots.all_spots spots.reset_arm_spots rs)))
      (ups_drawn r.event free ◂ (expr_drawn r.value all_free ◂ resets_drawn rs free))

  moves_drawn : (ms : List Move) (free : ℕ → Bool) → AreDrawn (moves_constraints k ms free) (spots.all_spots spots.move_spots ms)
  moves_drawn [] free = none
  moves_drawn (m ∷ ms) free = pass (before_spots (spots.one_name m.target) (cond_drawn m.cond free)) ◂ moves_drawn ms free

  abbrev EqnDrawn : Eqn → Type 0
  EqnDrawn x = (s : Setting) → AreDrawn (eqn_needs k x s) (spots.eqn_spots x)

  abbrev ArmDrawn : Arm → Type 0
  ArmDrawn a = (s : Setting) → AreDrawn (arm_needs k a s) (spots.arm_spots a)

  abbrev BodyDrawn : Body → Type 0
  BodyDrawn b = (s : Setting) → AreDrawn (inside_body k (body_needs k b) s) (spots.body_spots b)

  abbrev StateDrawn : State → Type 0
  StateDrawn t = (s : Setting) → AreDrawn (state_needs k t s) (spots.state_spots t)

  abbrev TheEqn : Type 0
  TheEqn = (x : Eqn) × EqnDrawn x

  abbrev TheArm : Type 0
  TheArm = (a : Arm) × ArmDrawn a

  abbrev TheBody : Type 0
  TheBody = (b : Body) × BodyDrawn b

  abbrev TheState : Type 0
  TheState = (t : State) × StateDrawn t

  eqs_drawn : (es : List TheEqn) (s : Setting) → AreDrawn (all_needs (map (eqn_needs k) (map (λ x. x.0) es)) s) (spots.joined (map spots.eqn_spots (map (λ x. x.0) es)))
  eqs_drawn [] s = none
  eqs_drawn (x ∷ es) s = x.1 s ◂ eqs_drawn es s

  arms_drawn : (es : List TheArm) (s : Setting) → AreDrawn (all_needs (map (arm_needs k) (map (λ x. x.0) es)) s) (spots.joined (map spots.arm_spots (map (λ x. x.0) es)))
  arms_drawn [] s = none
  arms_drawn (x ∷ es) s = x.1 s ◂ arms_drawn es s

  states_drawn : (es : List TheState) (s : Setting) → AreDrawn (all_needs (map (state_needs k) (map (λ x. x.0) es)) s) (spots.joined (map spots.state_spots (map (λ x. x.0) es)))
  states_drawn [] s = none
  states_drawn (x ∷ es) s = x.1 s ◂ states_drawn es s

  abbrev Ss : Type 0
  Ss = List Spot

  -- the trees of a layer
  abbrev eqn_trees : Eqn-F TheEqn TheArm TheBody TheState → Eqn-F Eqn Arm Body State
  eqn_trees y = map-Eqn TheEqn TheArm TheBody TheState Eqn Arm Body State (λ x. x.0) (λ a. a.0) (λ b. b.0) (λ s. s.0) y

  abbrev arm_trees : Arm-F TheEqn TheArm TheBody TheState → Arm-F Eqn Arm Body State
  arm_trees y = map-Arm TheEqn TheArm TheBody TheState Eqn Arm Body State (λ x. x.0) (λ a. a.0) (λ b. b.0) (λ s. s.0) y

  abbrev body_trees : Body-F TheEqn TheArm TheBody TheState → Body-F Eqn Arm Body State
  body_trees y = map-Body TheEqn TheArm TheBody TheState Eqn Arm Body State (λ x. x.0) (λ a. a.0) (λ b. b.0) (λ s. s.0) y

  abbrev state_trees : State-F TheEqn TheArm TheBody TheState → State-F Eqn Arm Body State
  state_trees y = map-State TheEqn TheArm TheBody TheState Eqn Arm Body State (λ x. x.0) (λ a. a.0) (λ b. b.0) (λ s. s.0) y

  abbrev eqn_below : Eqn-F TheEqn TheArm TheBody TheState → Needs
  eqn_below y = levels.eqn_step k (map-Eqn Eqn Arm Body State Needs Needs BodyNeeds Needs (eqn_needs k) (arm_needs k) (body_needs k) (state_needs k) (eqn_trees y))

  eqn_layer : (y : Eqn-F TheEqn TheArm TheBody TheState) (s : Setting) →
      AreDrawn (eqn_below y s) (spots.eqn_step (map-Eqn Eqn Arm Body State Ss Ss Ss Ss spots.eqn_spots spots.arm_spots spots.body_spots spots.state_spots (eqn_trees y)))
  eqn_layer (open_eqn.Plain left right) s = left_drawn left (place_of right) s.own ◂ expr_drawn right (free_in s)
  eqn_layer (open_eqn.Der at x slope start resets) s =
      let nodes = place_of slope ∷ (levels.start_places start ++ levels.reset_places resets) in
      before_it (ask_each at asked.Early nodes) (each_at at asked.Early nodes)
      (pass (unsettled_drawn x ◂ (expr_drawn slope (free_in s) ◂ (start_drawn start (free_in s) ◂ resets_drawn resets (free_in s)))))
  eqn_layer (open_eqn.Start at x value) s = again refl (pass (unsettled_drawn x ◂ expr_drawn value (free_in s)))
  eqn_layer (open_eqn.Present at arms None) s = pass (arms_drawn arms s ◂ none)
  eqn_layer (open_eqn.Present at arms (Some b)) s = pass (arms_drawn arms s ◂ b.1 (in_arm s))
  eqn_layer (open_eqn.Automaton at states) s = pass (states_drawn states s)
  eqn_layer (open_eqn.Reset at eqs c) s = pass (eqs_drawn eqs (in_reset s) ◂ cond_drawn c (free_in s))

  pub eqn_drawn : (x : Eqn) → EqnDrawn x
  unfolding eqn_needs arm_needs body_needs state_needs spots.eqn_spots spots.arm_spots spots.body_spots spots.state_spots
  eqn_drawn = ind-Eqn EqnDrawn ArmDrawn BodyDrawn StateDrawn
      (λ x y is. subst (λ z. EqnDrawn (roll-Eqn z)) is (λ s.
      subst (λ ns. AreDrawn (ns s) (spots.eqn_spots (roll-Eqn (eqn_trees y))))
      (sym (fold-roll-Eqn Needs Needs BodyNeeds Needs (levels.eqn_step k) (levels.arm_step k) (levels.body_step k) (levels.state_step k) (eqn_trees y)))
      (subst (AreDrawn (eqn_below y s))
      (sym (fold-roll-Eqn Ss Ss Ss Ss spots.eqn_step spots.arm_step spots.body_step spots.state_step (eqn_trees y))) (eqn_layer y s))))
      (λ x y is. subst (λ z. ArmDrawn (roll-Arm z)) is (λ s.
      subst (λ ns. AreDrawn (ns s) (spots.arm_spots (roll-Arm (arm_trees y))))
      (sym (fold-roll-Arm Needs Needs BodyNeeds Needs (levels.eqn_step k) (levels.arm_step k) (levels.body_step k) (levels.state_step k) (arm_trees y)))
      (subst (AreDrawn (cond_constraints k y.cond (free_in s) ++ inside_body k (body_needs k y.body.0) (in_arm s)))
      (sym (fold-roll-Arm Ss Ss Ss Ss spots.eqn_step spots.arm_step spots.body_step spots.state_step (arm_trees y))) (cond_drawn y.cond (free_in s) ◂ y.body.1 (in_arm s)))))
      (λ x y is. subst (λ z. BodyDrawn (roll-Body z)) is (λ s.
      subst (λ ns. AreDrawn (inside_body k ns s) (spots.body_spots (roll-Body (body_trees y))))
      (sym (fold-roll-Body Needs Needs BodyNeeds Needs (levels.eqn_step k) (levels.arm_step k) (levels.body_step k) (levels.state_step k) (body_trees y)))
      (subst (AreDrawn (all_unsettled k y.locals ++ all_needs (map (eqn_needs k) (map (λ x. x.0) y.eqs)) (within y.locals s)))
      (sym (fold-roll-Body Ss Ss Ss Ss spots.eqn_step spots.arm_step spots.body_step spots.state_step (body_trees y))) (all_unsettled_drawn y.locals ◂ eqs_drawn y.eqs (within y.locals s)))))
      (λ x y is. subst (λ z. StateDrawn (roll-State z)) is (λ s.
      subst (λ ns. AreDrawn (ns s) (spots.state_spots (roll-State (state_trees y))))
      (sym (fold-roll-State Needs Needs BodyNeeds Needs (levels.eqn_step k) (levels.arm_step k) (levels.body_step k) (levels.state_step k) (state_trees y)))
      (subst (AreDrawn (inside_body k (body_needs k y.body.0) s ++ moves_constraints k y.moves (free_in (within (body_needs k y.body.0).locals s))))
      (sym (fold-roll-State Ss Ss Ss Ss spots.eqn_step spots.arm_step spots.body_step spots.state_step (state_trees y))) (pass (y.body.1 s ◂ moves_drawn y.moves (free_in (within (body_needs k y.body.0).locals s)))))))

  eqns_drawn : (es : List Eqn) (s : Setting) → AreDrawn (levels.eqns_needs k es s) (spots.all_spots spots.eqn_spots es)
  eqns_drawn [] s = none
  eqns_drawn (x ∷ es) s = eqn_drawn x s ◂ eqns_drawn es s

-- ---- declarations

params_drawn : (ps : List Param) → AreDrawn (levels.params_needs ps) (spots.all_spots spots.param_spots ps)
params_drawn [] = none
params_drawn (p ∷ ps) = again refl (pass (params_drawn ps))

decl_drawn : (names : List (List ℕ)) (d : Decl) → AreDrawn (levels.decl_requirements names d) (spots.decl_spots d)
unfolding levels.decl_requirements levels.decl_parts
decl_drawn names d =
    let k = levels.known_in names d in
    let s = levels.setting_of d in
    before_it (ask_each d.name.at asked.Early (map place_of d.results)) (each_at d.name.at asked.Early (map place_of d.results))
    (pass (params_drawn d.params ◂ (exprs_drawn k d.results (free_in s) ◂ eqns_drawn k d.eqs s)))

decls_drawn : (names : List (List ℕ)) (ds : List Decl) → AreDrawn (levels.decls_requirements names ds) (spots.all_spots spots.decl_spots ds)
decls_drawn names [] = none
decls_drawn names (d ∷ ds) = decl_drawn names d ◂ decls_drawn names ds

-- The constraints on levels of a parsed tree are in the order of their places.
pub requirements_rise : RequirementsRise
requirements_rise p h = drawn_rises (levels.requirements p) (spots.all_spots spots.decl_spots p.decls) (decls_drawn p.names p.decls) (places_grow p h).0
