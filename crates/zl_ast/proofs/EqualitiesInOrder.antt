-- The equalities of types are drawn from the spots of a tree.
use Rattle.std.specs.Prelude.{if◌then◌else◌, codes}
use Rattle.std.proofs.Common.{◌≡◌, ℕ, Bool, true, false, List, [], ◌∷◌, ◌++◌, map, Option, Some, None, refl, ap, sym, ◌∙◌, subst}
use Rattle.std.specs.List.{AllByRecursion}
use Rattle.zl_value.specs.declared.position.Pos.{Pos}
use Rattle.zl_value.specs.declared.value.Ty.{Ty}
use Rattle.zl_value.specs.declared.value.Ty.TheVariants as ty
use Rattle.zl_ast.specs.declared.constraint.Equality.{Equality}
use Rattle.zl_ast.specs.declared.name.Name.{Name}
use Rattle.zl_ast.specs.declared.operator.Prefix.{Prefix}
use Rattle.zl_ast.specs.declared.operator.Prefix.TheVariants as prefix_op
use Rattle.zl_ast.specs.declared.expr.Expr.{Expr, roll-Expr}
use Rattle.zl_ast.specs.declared.expr.Link.{Link, roll-Link}
use Rattle.zl_ast.specs.declared.expr.Expr.TheOpen.{Expr-F, Link-F}
use Rattle.zl_ast.specs.declared.expr.Expr.TheOpen as open_expr
use Rattle.zl_ast.specs.declared.expr.Expr.TheFolds.{fold-Expr, fold-Link, fold-roll-Expr, fold-roll-Link, ind-Expr, map-Expr, map-Link}
use Rattle.zl_ast.specs.Spots.{Spot, occurrence, place, named, expr_spots, link_spots}
use Rattle.zl_ast.specs.declared.eqn.Eqn.{Eqn, roll-Eqn}
use Rattle.zl_ast.specs.declared.eqn.Arm.{Arm, roll-Arm}
use Rattle.zl_ast.specs.declared.eqn.Body.{Body, roll-Body}
use Rattle.zl_ast.specs.declared.eqn.State.{State, roll-State}
use Rattle.zl_ast.specs.declared.eqn.Cond.{Cond}
use Rattle.zl_ast.specs.declared.eqn.Cond.TheVariants.{Event, Test}
use Rattle.zl_ast.specs.declared.eqn.Up.{Up}
use Rattle.zl_ast.specs.declared.eqn.ResetArm.{ResetArm}
use Rattle.zl_ast.specs.declared.eqn.Move.{Move}
use Rattle.zl_ast.specs.declared.eqn.Eqn.TheOpen.{Eqn-F, Arm-F, Body-F, State-F}
use Rattle.zl_ast.specs.declared.eqn.Eqn.TheOpen as open_eqn
use Rattle.zl_ast.specs.declared.eqn.Eqn.TheFolds.{fold-roll-Eqn, fold-roll-Arm, fold-roll-Body, fold-roll-State, ind-Eqn, map-Eqn, map-Arm, map-Body, map-State}
use Rattle.zl_ast.specs.declared.program.Decl.{Decl}
use Rattle.zl_ast.specs.declared.program.Param.{Param}
use Rattle.zl_ast.specs.NamesRules.{place_of}
use Rattle.zl_ast.specs.Assignments.{joined}
use Rattle.zl_ast.specs.Scopes.{variables}
use Rattle.zl_ast.specs.InOrder.{EqualitiesRise}
use Rattle.zl_ast.specs.Spots as spots
use Rattle.zl_ast.specs.Names.{has_text}
use Rattle.zl_ast.specs.TypeEqualities as types
use Rattle.zl_ast.specs.TypeEqualities.{Environment, Signature, Part, LinkPart, fixed, same_pairs, found, same_as_found, prefix_equalities, type_of_all, infix_equalities, both_same, first_result, from_to, built_in_call, call_equalities, all_equalities, links_equalities, read_place, expr_part, link_part, expr_equalities, called_step, called, results_of, names_equalities, several_equalities, sides_equalities, der_places, ups_equalities, cond_equalities, start_equalities, reset_arm_equalities, moves_equalities, eqn_equalities, arm_equalities, body_equalities, state_equalities}
use Rattle.zl_ast.proofs.Drawn.{Drawn, none, again, pass, behind_spots, before_spots, ◌◂◌, before_it, all_at, drawn_rises}
use Rattle.zl_ast.proofs.TreeLaws.{places_grow}

abbrev pub AreDrawn : List Equality → List Spot → Type 0
AreDrawn es ss = Drawn (λ e. e.at) es ss

-- all of them stand at the place
abbrev pub AllAt : Pos → List Equality → Type 0
AllAt p es = AllByRecursion (λ e. e.at ≡ p) es

both_at : (p : Pos) (xs ys : List Equality) → AllAt p xs → AllAt p ys → AllAt p (xs ++ ys)
both_at p [] ys h k = k
both_at p (x ∷ xs) ys h k = (h.0, both_at p xs ys h.1 k)

found_at : (p node : Pos) (place : Option Pos) → AllAt p (same_as_found p node place)
found_at p node None = tt
found_at p node (Some q) = (refl, tt)

pairs_at : (p : Pos) (ps qs : List Pos) → AllAt p (same_pairs p ps qs)
pairs_at p [] qs = tt
pairs_at p (a ∷ ps) [] = tt
pairs_at p (a ∷ ps) (b ∷ qs) = (refl, pairs_at p ps qs)

fixed_at : (p : Pos) (t : Ty) (nodes : List Pos) → AllAt p (map (fixed p t) nodes)
fixed_at p t [] = tt
fixed_at p t (q ∷ qs) = (refl, fixed_at p t qs)

prefix_at : (op : Prefix) (p x : Pos) → AllAt p (prefix_equalities op p x)
prefix_at prefix_op.Minus p x = (refl, (refl, tt))
prefix_at prefix_op.MinusDot p x = (refl, (refl, tt))
prefix_at prefix_op.Not p x = (refl, (refl, tt))
prefix_at prefix_op.Pre p x = (refl, tt)

infix_at : (o : Option Ty) (left p right : Pos) → AllAt p (infix_equalities o left p right)
infix_at None left p right = (refl, (refl, tt))
infix_at (Some t) left p right = (refl, (refl, (refl, tt)))

built_in_at : (names : List (List ℕ)) (f : Name) (args : List Pos) → AllAt f.at (built_in_call names f args)
built_in_at names f args = by_test (has_text names f.id (codes "float_of_int")) (has_text names f.id (codes "truncate"))
  where
    by_test : (a b : Bool) → AllAt f.at (if a then from_to ty.Int ty.Float f.at args else (if b then from_to ty.Float ty.Int f.at args else []))
    by_test true b = both_at f.at (map (fixed f.at ty.Int) args) _ (fixed_at f.at ty.Int args) (refl, tt)
    by_test false true = both_at f.at (map (fixed f.at ty.Float) args) _ (fixed_at f.at ty.Float args) (refl, tt)
    by_test false false = tt

call_at : (e : Environment) (f : Name) (args : List Pos) (s : Option Signature) → AllAt f.at (call_equalities e f args s)
call_at e f args None = built_in_at e.names f args
call_at e f args (Some s) = both_at f.at (same_pairs f.at args s.params) _ (pairs_at f.at args s.params) (found_at f.at f.at (first_result (Some s)))

-- ---- expressions

-- an operator with its right operand, and the spots of both
pub record LinkDrawn (l : LinkPart) (ss : List Spot) : Type 0 where
  pub behind : List Spot
  pub is : ss ≡ place occurrence l.at ∷ behind
  pub drawn : AreDrawn l.right.equalities behind

module _ (e : Environment) where
  abbrev pub ExprDrawn : Expr → Type 0
  ExprDrawn x = AreDrawn (expr_part e x).equalities (expr_spots x)

  abbrev pub LinkTreeDrawn : Link → Type 0
  LinkTreeDrawn l = LinkDrawn (link_part e l) (link_spots l)

  abbrev TheExpr : Type 0
  TheExpr = (x : Expr) × ExprDrawn x

  abbrev TheLink : Type 0
  TheLink = (l : Link) × LinkTreeDrawn l

  abbrev parts : List TheExpr → List Part
  parts xs = map (expr_part e) (map (λ x. x.0) xs)

  abbrev link_parts : List TheLink → List LinkPart
  link_parts ls = map (link_part e) (map (λ l. l.0) ls)

  args_drawn : (xs : List TheExpr) → AreDrawn (all_equalities (parts xs)) (spots.joined (map expr_spots (map (λ x. x.0) xs)))
  args_drawn [] = none
  args_drawn (x ∷ xs) = x.1 ◂ args_drawn xs

  one_link : (left : Pos) (l : LinkPart) (ss : List Spot) (others : List Equality) (ts : List Spot) → LinkDrawn l ss → AreDrawn others ts →
      AreDrawn (infix_equalities (type_of_all l.op) left l.at l.right.at ++ (l.right.equalities ++ others)) (ss ++ ts)
  one_link left l ss others ts d more =
      subst (λ us. AreDrawn (infix_equalities (type_of_all l.op) left l.at l.right.at ++ (l.right.equalities ++ others)) (us ++ ts)) (sym d.is)
      (before_it (infix_equalities (type_of_all l.op) left l.at l.right.at) (infix_at (type_of_all l.op) left l.at l.right.at) (pass (d.drawn ◂ more)))

  links_drawn : (left : Pos) (ls : List TheLink) → AreDrawn (links_equalities left (link_parts ls)) (spots.joined (map link_spots (map (λ l. l.0) ls)))
  links_drawn left [] = none
  links_drawn left (l ∷ ls) = one_link left (link_part e l.0) (link_spots l.0) _ _ l.1 (links_drawn (link_part e l.0).at ls)

  abbrev expr_layer_part : Expr-F TheExpr TheLink → Part
  expr_layer_part x = types.expr_step e (map-Expr Expr Link Part LinkPart (expr_part e) (link_part e) (map-Expr TheExpr TheLink Expr Link (λ x. x.0) (λ l. l.0) x))

  abbrev expr_layer_spots : Expr-F TheExpr TheLink → List Spot
  expr_layer_spots x = spots.expr_step (map-Expr Expr Link (List Spot) (List Spot) expr_spots link_spots (map-Expr TheExpr TheLink Expr Link (λ x. x.0) (λ l. l.0) x))

  expr_layer : (x : Expr-F TheExpr TheLink) → AreDrawn (expr_layer_part x).equalities (expr_layer_spots x)
  expr_layer (open_expr.Lit v at) = again refl none
  expr_layer (open_expr.Var x) = all_at (same_as_found x.at x.at (read_place e x)) (found_at x.at x.at (read_place e x))
  expr_layer (open_expr.Last x at) = all_at (same_as_found at at (e.variables x.id)) (found_at at at (e.variables x.id))
  expr_layer (open_expr.Call f args) = before_it _ (call_at e f (types.places (parts args)) (e.declared f.id)) (pass (args_drawn args))
  expr_layer (open_expr.Prefix op at x) = before_it (prefix_equalities op at (expr_part e x.0).at) (prefix_at op at (expr_part e x.0).at) (pass x.1)
  expr_layer (open_expr.Chain x ls) = x.1 ◂ links_drawn (expr_part e x.0).at ls
  expr_layer (open_expr.Flow op at x y) = x.1 ◂ again refl (again refl (pass y.1))
  expr_layer (open_expr.If at c x y) = again refl (again refl (again refl (pass (c.1 ◂ (x.1 ◂ y.1)))))

  pub expr_drawn : (x : Expr) → ExprDrawn x
  unfolding expr_part link_part expr_spots link_spots
  expr_drawn = ind-Expr ExprDrawn LinkTreeDrawn
      (λ x y is. subst (λ z. ExprDrawn (roll-Expr z)) is
      (subst (λ p. AreDrawn p.equalities (expr_spots (roll-Expr (map-Expr TheExpr TheLink Expr Link (λ x. x.0) (λ l. l.0) y))))
      (sym (fold-roll-Expr Part LinkPart (types.expr_step e) (types.link_step e) (map-Expr TheExpr TheLink Expr Link (λ x. x.0) (λ l. l.0) y)))
      (subst (AreDrawn (expr_layer_part y).equalities)
      (sym (fold-roll-Expr (List Spot) (List Spot) spots.expr_step spots.link_step (map-Expr TheExpr TheLink Expr Link (λ x. x.0) (λ l. l.0) y))) (expr_layer y))))
      (λ x y is. subst (λ z. LinkTreeDrawn (roll-Link z)) is
      (subst (λ p. LinkDrawn p (link_spots (roll-Link (map-Link TheExpr TheLink Expr Link (λ x. x.0) (λ l. l.0) y))))
      (sym (fold-roll-Link Part LinkPart (types.expr_step e) (types.link_step e) (map-Link TheExpr TheLink Expr Link (λ x. x.0) (λ l. l.0) y)))
      (record {
        behind = expr_spots y.arg.0;
        is = fold-roll-Link (List Spot) (List Spot) spots.expr_step spots.link_step (map-Link TheExpr TheLink Expr Link (λ x. x.0) (λ l. l.0) y);
        drawn = y.arg.1;
      })))

  pub exprs_drawn : (xs : List Expr) → AreDrawn (types.exprs_equalities e xs) (spots.all_spots expr_spots xs)
  exprs_drawn [] = none
  exprs_drawn (x ∷ xs) = expr_drawn x ◂ exprs_drawn xs

-- ---- equations

-- the expression's first spot is this name
abbrev pub StartsWith : Name → List Spot → Type 0
StartsWith f ss = (behind : List Spot) × (ss ≡ named occurrence f ∷ behind)

-- a call starts with the name that it calls
abbrev CallStarts : Expr → Type 0
CallStarts x = (f : Name) → called x ≡ Some f → StartsWith f (expr_spots x)

call_layer : (x : Expr-F ((x : Expr) × CallStarts x) ((l : Link) × Unit {0})) (f : Name) → called_step (map-Expr Expr Link (Option Name) (Option Name) (fold-Expr (Option Name) (Option Name) called_step (λ l. None)) (fold-Link (Option Name) (Option Name) called_step (λ l. None)) (map-Expr ((x : Expr) × CallStarts x) ((l : Link) × Unit {0}) Expr Link (λ x. x.0) (λ l. l.0) x)) ≡ Some f →
    StartsWith f (spots.expr_step (map-Expr Expr Link (List Spot) (List Spot) expr_spots link_spots (map-Expr ((x : Expr) × CallStarts x) ((l : Link) × Unit {0}) Expr Link (λ x. x.0) (λ l. l.0) x)))
call_layer (open_expr.Lit v at) f e = cc
call_layer (open_expr.Var x) f e = cc
call_layer (open_expr.Last x at) f e = cc
call_layer (open_expr.Call g args) f e = let same : g ≡ f = cc in (_, ap (λ h. named occurrence h ∷ spots.joined (map expr_spots (map (λ x. x.0) args))) same)
call_layer (open_expr.Prefix op at x) f e = cc
call_layer (open_expr.Chain x ls) f e = cc
call_layer (open_expr.Flow op at x y) f e = cc
call_layer (open_expr.If at c x y) f e = cc

call_starts : (x : Expr) → CallStarts x
unfolding called expr_spots link_spots
call_starts = ind-Expr CallStarts (λ l. Unit {0})
    (λ x y is. subst (λ z. CallStarts (roll-Expr z)) is
    (λ f e. subst (StartsWith f)
    (sym (fold-roll-Expr (List Spot) (List Spot) spots.expr_step spots.link_step (map-Expr ((x : Expr) × CallStarts x) ((l : Link) × Unit {0}) Expr Link (λ x. x.0) (λ l. l.0) y)))
    (call_layer y f (sym (fold-roll-Expr (Option Name) (Option Name) called_step (λ l. None) (map-Expr ((x : Expr) × CallStarts x) ((l : Link) × Unit {0}) Expr Link (λ x. x.0) (λ l. l.0) y)) ∙ e))))
    (λ x y is. tt)

module _ (e : Environment) where
  names_at : (p : Pos) (xs : List Name) (rs : List Pos) → AllAt p (names_equalities e p xs rs)
  names_at p [] rs = tt
  names_at p (x ∷ xs) [] = tt
  names_at p (x ∷ xs) (r ∷ rs) = both_at p (same_as_found p r (e.variables x.id)) (names_equalities e p xs rs) (found_at p r (e.variables x.id)) (names_at p xs rs)

  several_drawn : (left : List Name) (right : Expr) (o : Option Name) → called right ≡ o → AreDrawn (several_equalities e left o ++ expr_equalities e right) (expr_spots right)
  several_drawn left right None is = expr_drawn e right
  several_drawn left right (Some f) is =
      let start = call_starts right f is in
      let drawn = subst (AreDrawn (expr_equalities e right)) start.1 (expr_drawn e right) in
      subst (AreDrawn (several_equalities e left (Some f) ++ expr_equalities e right)) (sym start.1)
      (before_it (several_equalities e left (Some f)) (names_at f.at left (results_of (e.declared f.id))) drawn)

  plain_drawn : (left : List Name) (right : Expr) → AreDrawn (sides_equalities e left right ++ expr_equalities e right) (spots.left_spots left ++ expr_spots right)
  plain_drawn [] right = several_drawn [] right (called right) refl
  plain_drawn (x ∷ []) right =
      before_it (same_as_found x.at (place_of right) (e.variables x.id)) (found_at x.at (place_of right) (e.variables x.id)) (pass (expr_drawn e right))
  plain_drawn (x ∷ y ∷ xs) right = behind_spots (spots.left_spots (x ∷ y ∷ xs)) (several_drawn (x ∷ y ∷ xs) right (called right) refl)

  ups_drawn : (us : List Up) → AreDrawn (ups_equalities e us) (spots.all_spots spots.up_spots us)
  ups_drawn [] = none
  ups_drawn (u ∷ us) = again refl (pass (expr_drawn e u.arg)) ◂ ups_drawn us

  cond_drawn : (c : Cond) → AreDrawn (cond_equalities e c) (spots.cond_spots c)
  cond_drawn (Event us) = ups_drawn us
  cond_drawn (Test at x) = again refl (pass (expr_drawn e x))

  start_drawn : (start : Option Expr) → AreDrawn (start_equalities e start) (spots.some_spots expr_spots start)
  start_drawn None = none
  start_drawn (Some x) = expr_drawn e x

  resets_drawn : (rs : List ResetArm) → AreDrawn (joined (map (reset_arm_equalities e) rs)) (spots.all_spots spots.reset_arm_spots rs)
  resets_drawn [] = none
  resets_drawn (r ∷ rs) = (ups_drawn r.event ◂ expr_drawn e r.value) ◂ resets_drawn rs

  moves_drawn : (ms : List Move) → AreDrawn (moves_equalities e ms) (spots.all_spots spots.move_spots ms)
  moves_drawn [] = none
  moves_drawn (m ∷ ms) = pass (before_spots (spots.one_name m.target) (cond_drawn m.cond)) ◂ moves_drawn ms

  abbrev EqnDrawn : Eqn → Type 0
  EqnDrawn x = AreDrawn (eqn_equalities e x) (spots.eqn_spots x)

  abbrev ArmDrawn : Arm → Type 0
  ArmDrawn a = AreDrawn (arm_equalities e a) (spots.arm_spots a)

  abbrev BodyDrawn : Body → Type 0
  BodyDrawn b = AreDrawn (body_equalities e b) (spots.body_spots b)

  abbrev StateDrawn : State → Type 0
  StateDrawn s = AreDrawn (state_equalities e s) (spots.state_spots s)

  abbrev TheEqn : Type 0
  TheEqn = (x : Eqn) × EqnDrawn x

  abbrev TheArm : Type 0
  TheArm = (a : Arm) × ArmDrawn a

  abbrev TheBody : Type 0
  TheBody = (b : Body) × BodyDrawn b

  abbrev TheState : Type 0
  TheState = (s : State) × StateDrawn s

  eqs_drawn : (es : List TheEqn) → AreDrawn (joined (map (eqn_equalities e) (map (λ x. x.0) es))) (spots.joined (map spots.eqn_spots (map (λ x. x.0) es)))
  eqs_drawn [] = none
  eqs_drawn (x ∷ es) = x.1 ◂ eqs_drawn es

  arms_drawn : (es : List TheArm) → AreDrawn (joined (map (arm_equalities e) (map (λ x. x.0) es))) (spots.joined (map spots.arm_spots (map (λ x. x.0) es)))
  arms_drawn [] = none
  arms_drawn (x ∷ es) = x.1 ◂ arms_drawn es

  states_drawn : (es : List TheState) → AreDrawn (joined (map (state_equalities e) (map (λ x. x.0) es))) (spots.joined (map spots.state_spots (map (λ x. x.0) es)))
  states_drawn [] = none
  states_drawn (x ∷ es) = x.1 ◂ states_drawn es

  abbrev Es : Type 0
  Es = List Equality

  abbrev Ss : Type 0
  Ss = List Spot

  -- the trees of a layer
  abbrev eqn_trees : Eqn-F TheEqn TheArm TheBody TheState → Eqn-F Eqn Arm Body State
  eqn_trees y = map-Eqn TheEqn TheArm TheBody TheState Eqn Arm Body State (λ x. x.0) (λ a. a.0) (λ b. b.0) (λ s. s.0) y

  abbrev arm_trees : Arm-F TheEqn TheArm TheBody TheState → Arm-F Eqn Arm Body State
  arm_trees y = map-Arm TheEqn TheArm TheBody TheState Eqn Arm Body State (λ x. x.0) (λ a. a.0) (λ b. b.0) (λ s. s.0) y

  abbrev body_trees : Body-F TheEqn TheArm TheBody TheState → Body-F Eqn Arm Body State
  body_trees y = map-Body TheEqn TheArm TheBody TheState Eqn Arm Body State (λ x. x.0) (λ a. a.0) (λ b. b.0) (λ s. s.0) y

  abbrev state_trees : State-F TheEqn TheArm TheBody TheState → State-F Eqn Arm Body State
  state_trees y = map-State TheEqn TheArm TheBody TheState Eqn Arm Body State (λ x. x.0) (λ a. a.0) (λ b. b.0) (λ s. s.0) y

  eqn_layer : (y : Eqn-F TheEqn TheArm TheBody TheState) →
      AreDrawn (types.eqn_step e (map-Eqn Eqn Arm Body State Es Es Es Es (eqn_equalities e) (arm_equalities e) (body_equalities e) (state_equalities e) (eqn_trees y)))
      (spots.eqn_step (map-Eqn Eqn Arm Body State Ss Ss Ss Ss spots.eqn_spots spots.arm_spots spots.body_spots spots.state_spots (eqn_trees y)))
  eqn_layer (open_eqn.Plain left right) = plain_drawn left right
  eqn_layer (open_eqn.Der at x slope start resets) =
      before_it (map (fixed at ty.Float) (der_places (e.variables x.id) slope start resets)) (fixed_at at ty.Float (der_places (e.variables x.id) slope start resets))
      (pass (pass (expr_drawn e slope ◂ (start_drawn start ◂ resets_drawn resets))))
  eqn_layer (open_eqn.Start at x value) =
      before_it (same_as_found at (place_of value) (e.variables x.id)) (found_at at (place_of value) (e.variables x.id)) (pass (pass (expr_drawn e value)))
  eqn_layer (open_eqn.Present at arms None) = pass (arms_drawn arms ◂ none)
  eqn_layer (open_eqn.Present at arms (Some b)) = pass (arms_drawn arms ◂ b.1)
  eqn_layer (open_eqn.Automaton at states) = pass (states_drawn states)
  eqn_layer (open_eqn.Reset at eqs c) = pass (eqs_drawn eqs ◂ cond_drawn c)

  pub eqn_drawn : (x : Eqn) → EqnDrawn x
  unfolding eqn_equalities arm_equalities body_equalities state_equalities spots.eqn_spots spots.arm_spots spots.body_spots spots.state_spots
  eqn_drawn = ind-Eqn EqnDrawn ArmDrawn BodyDrawn StateDrawn
      (λ x y is. subst (λ z. EqnDrawn (roll-Eqn z)) is
      (subst (λ es. AreDrawn es (spots.eqn_spots (roll-Eqn (eqn_trees y))))
      (sym (fold-roll-Eqn Es Es Es Es (types.eqn_step e) (types.arm_step e) (types.body_step e) (types.state_step e) (eqn_trees y)))
      (subst (AreDrawn (types.eqn_step e (map-Eqn Eqn Arm Body State Es Es Es Es (eqn_equalities e) (arm_equalities e) (body_equalities e) (state_equalities e) (eqn_trees y))))
      (sym (fold-roll-Eqn Ss Ss Ss Ss spots.eqn_step spots.arm_step spots.body_step spots.state_step (eqn_trees y))) (eqn_layer y))))
      (λ x y is. subst (λ z. ArmDrawn (roll-Arm z)) is
      (subst (λ es. AreDrawn es (spots.arm_spots (roll-Arm (arm_trees y))))
      (sym (fold-roll-Arm Es Es Es Es (types.eqn_step e) (types.arm_step e) (types.body_step e) (types.state_step e) (arm_trees y)))
      (subst (AreDrawn (cond_equalities e y.cond ++ body_equalities e y.body.0))
      (sym (fold-roll-Arm Ss Ss Ss Ss spots.eqn_step spots.arm_step spots.body_step spots.state_step (arm_trees y))) (cond_drawn y.cond ◂ y.body.1))))
      (λ x y is. subst (λ z. BodyDrawn (roll-Body z)) is
      (subst (λ es. AreDrawn es (spots.body_spots (roll-Body (body_trees y))))
      (sym (fold-roll-Body Es Es Es Es (types.eqn_step e) (types.arm_step e) (types.body_step e) (types.state_step e) (body_trees y)))
      (subst (AreDrawn (joined (map (eqn_equalities e) (map (λ x. x.0) y.eqs))))
      (sym (fold-roll-Body Ss Ss Ss Ss spots.eqn_step spots.arm_step spots.body_step spots.state_step (body_trees y))) (behind_spots (spots.all_spots spots.one_name y.locals) (eqs_drawn y.eqs)))))
      (λ x y is. subst (λ z. StateDrawn (roll-State z)) is
      (subst (λ es. AreDrawn es (spots.state_spots (roll-State (state_trees y))))
      (sym (fold-roll-State Es Es Es Es (types.eqn_step e) (types.arm_step e) (types.body_step e) (types.state_step e) (state_trees y)))
      (subst (AreDrawn (body_equalities e y.body.0 ++ moves_equalities e y.moves))
      (sym (fold-roll-State Ss Ss Ss Ss spots.eqn_step spots.arm_step spots.body_step spots.state_step (state_trees y))) (pass (y.body.1 ◂ moves_drawn y.moves)))))

  eqns_drawn : (es : List Eqn) → AreDrawn (types.eqns_equalities e es) (spots.all_spots spots.eqn_spots es)
  eqns_drawn [] = none
  eqns_drawn (x ∷ es) = eqn_drawn x ◂ eqns_drawn es

-- ---- declarations

annotation_at : (p : Pos) (o : Option Ty) → AllAt p (types.annotation p o)
annotation_at p None = tt
annotation_at p (Some t) = (refl, tt)

params_drawn : (ps : List Param) → AreDrawn (types.params_equalities ps) (spots.all_spots spots.param_spots ps)
params_drawn [] = none
params_drawn (p ∷ ps) = all_at {ss = []} (types.annotation p.name.at p.ty) (annotation_at p.name.at p.ty) ◂ params_drawn ps

decls_drawn : (e : Environment) (ds : List Decl) → AreDrawn (types.decls_equalities e ds) (spots.all_spots spots.decl_spots ds)
decls_drawn e [] = none
decls_drawn e (d ∷ ds) =
    let inside = types.with_variables e (variables d) in
    pass (params_drawn d.params ◂ (exprs_drawn inside d.results ◂ eqns_drawn inside d.eqs)) ◂ decls_drawn (types.with_declared inside d) ds

-- The equalities of types of a parsed tree are in the order of their places.
pub equalities_rise : EqualitiesRise
equalities_rise p h = drawn_rises (types.equalities p) (spots.all_spots spots.decl_spots p.decls) (decls_drawn (types.before_all p.names) p.decls) (places_grow p h).0
