-- The walk of an expression makes no body of a choice or automaton twice.
use Rattle.std.proofs.Common.{◌≡◌, ℕ, ◌+◌, List, [], ◌∷◌, map, Option, Some, None, refl, sym, subst}
use Rattle.std.specs.List.{AllByRecursion}
use Rattle.zl_value.specs.declared.position.Pos.{Pos}
use Rattle.zl_value.specs.declared.value.Ty.TheVariants.{Int}
use Rattle.zl_value.specs.declared.op.Op.{Op}
use Rattle.zl_value.specs.OperatorTypes.{type_of}
use Rattle.zl_ast.specs.declared.name.Name.{Name}
use Rattle.zl_ast.specs.declared.operator.FlowOp.{FlowOp}
use Rattle.zl_ast.specs.declared.operator.FlowOp.TheVariants as flow
use Rattle.zl_ast.specs.declared.expr.Expr.{Expr, roll-Expr}
use Rattle.zl_ast.specs.declared.expr.Link.{Link, roll-Link}
use Rattle.zl_ast.specs.declared.expr.Expr.TheOpen.{Expr-F, Link-F}
use Rattle.zl_ast.specs.declared.expr.Expr.TheOpen as open_expr
use Rattle.zl_ast.specs.declared.expr.Expr.TheFolds.{fold-roll-Expr, fold-roll-Link, ind-Expr, map-Expr, map-Link}
use Rattle.zl_meaning.specs.declared.occurrence.Form.TheVariants.{Lit, Read, Last, Op as Apply, If, Arrow, Pre, Result}
use Rattle.zl_flat.specs.declared.variable.Variable.{Variable}
use Rattle.zl_flat.specs.declared.here.Here.{Here}
use Rattle.zl_flat.specs.declared.here.Root.{Root}
use Rattle.zl_flat.specs.Parts.{Counters, joined, one_occ, one_hidden, after, past_occ, past_hidden}
use Rattle.zl_flat.specs.Variables.{variable_of}
use Rattle.zl_flat.specs.Instances.{Callee, Instance, in_call, occ_here, callee, first_root, root_occs}
use Rattle.zl_flat.specs.Operators.{value_type, built_in_op, infix_form, prefix_form, prefix_type}
use Rattle.zl_flat.specs.Expressions as walk
use Rattle.zl_flat.specs.Expressions.{Walk, Walked, walk_all, leaf, LinkWalk, links, chain, last_of, call, built_in, call_or_built_in, read, prefixed, arrow, followed, flow_walk, conditional, expr_walk, link_walk}
use Rattle.zl_flat.proofs.WellFormedOnce.{Once, once-joined, once-nothing, once-one_occ, occ-once, hidden-once}

abbrev pub WalkOnce : Walk → Type 0
WalkOnce w = (here : Here) (s : Counters) → Once s (w here s).parts

abbrev pub LinkOnce : LinkWalk → Type 0
LinkOnce l = (here : Here) (left : Root) (s : Counters) → Once s (l here left s).parts

abbrev pub CalleeOnce : Callee → Type 0
CalleeOnce c = (here : Here) (roots : List Root) (s : Counters) → Once s (c here roots s).parts

pub walk_all-once : (ws : List Walk) → AllByRecursion WalkOnce ws → (here : Here) (s : Counters) → Once s (walk_all ws here s).parts
walk_all-once [] h here s = once-nothing s
walk_all-once (w ∷ ws) h here s = let first = (w here s).parts in once-joined s first (walk_all ws here (after s first)).parts (h.0 here s) (walk_all-once ws h.1 here (after s first))

links-once : (ls : List LinkWalk) → AllByRecursion LinkOnce ls → (here : Here) (left : Root) (s : Counters) → Once s (links ls here left s).parts
links-once [] h here left s = once-nothing s
links-once (l ∷ ls) h here left s =
    let one = l here left s in
    once-joined s one.parts (links ls here one.root (after s one.parts)).parts (h.0 here left s) (links-once ls h.1 here one.root (after s one.parts))

module _ (base : ℕ) (names : List (List ℕ)) (i : Instance) (known : (id : ℕ) (c : Callee) → i.callees id ≡ Some c → CalleeOnce c) where
  copy-once : (o : Option Callee) (id : ℕ) → i.callees id ≡ o → (here : Here) (roots : List Root) (s : Counters) → Once s (callee o here roots s).parts
  copy-once None id e here roots s = once-nothing s
  copy-once (Some c) id e here roots s = known id c e here roots s

  call-once : (x : Name) (args : List Walk) → AllByRecursion WalkOnce args → WalkOnce (call base names i x args)
  call-once x args hs here s =
      let inside = in_call s.occs here in
      let t = past_occ s in
      let arguments = walk_all args inside t in
      let copy = callee (i.callees x.id) inside arguments.roots (after t arguments.parts) in
      let result = first_root copy.results in
      occ-once s (occ_here here result.ty x.at (Result result.occ)) (joined arguments.parts copy.parts)
      (once-joined t arguments.parts copy.parts (walk_all-once args hs inside t) (copy-once (i.callees x.id) x.id refl inside arguments.roots (after t arguments.parts)))

  applied-once : (o : Option Op) (x : Name) (args : List Walk) → AllByRecursion WalkOnce args → WalkOnce (call_or_built_in base names i o x args)
  applied-once None x args hs here s = call-once x args hs here s
  applied-once (Some op) x args hs here s =
      let arguments = walk_all args here (past_occ s) in
      occ-once s (occ_here here (type_of op).result x.at (Apply op (root_occs arguments.roots))) arguments.parts (walk_all-once args hs here (past_occ s))

  read-once : (v : Option Variable) (x : Name) → WalkOnce (read base names i v x)
  read-once None x here s = call-once x [] tt here s
  read-once (Some v) x here s = once-one_occ s (occ_here here v.ty x.at (Read v.place))

  last-once : (v : Option Variable) (at : Pos) (here : Here) (s : Counters) → Once s (last_of v here at s).parts
  last-once None at here s = once-one_occ s (occ_here here Int at (Last 0))
  last-once (Some v) at here s = once-one_occ s (occ_here here v.ty at (Last v.place))

  flow-once : (op : FlowOp) (at : Pos) (x y : Walk) → WalkOnce x → WalkOnce y → WalkOnce (flow_walk base names i op at x y)
  flow-once flow.Arrow at x y hx hy here s =
      let left = x here s in
      let t = after s left.parts in
      let right = y here (past_occ t) in
      let own = occ_here here left.root.ty at (Arrow left.root.occ right.root.occ) in
      once-joined s left.parts (joined (one_occ own) right.parts) (hx here s) (occ-once t own right.parts (hy here (past_occ t)))
  flow-once flow.Fby at x y hx hy here s =
      let left = x here s in
      let t = after s left.parts in
      let right = y here (past_hidden (past_occ t)) in
      let own = occ_here here left.root.ty at (Arrow left.root.occ (base + t.hidden)) in
      let pre = occ_here here left.root.ty at (Pre right.root.occ) in
      once-joined s left.parts (joined (one_occ own) (joined (one_hidden pre) right.parts)) (hx here s)
      (occ-once t own (joined (one_hidden pre) right.parts) (hidden-once (past_occ t) pre right.parts (hy here (past_hidden (past_occ t)))))

  abbrev pub ExprOnce : Expr → Type 0
  ExprOnce x = WalkOnce (expr_walk base names i x)

  abbrev pub LinkTreeOnce : Link → Type 0
  LinkTreeOnce l = LinkOnce (link_walk base names i l)

  abbrev TheExpr : Type 0
  TheExpr = (e : Expr) × ExprOnce e

  abbrev TheLink : Type 0
  TheLink = (l : Link) × LinkTreeOnce l

  args-once : (xs : List TheExpr) → AllByRecursion WalkOnce (map (expr_walk base names i) (map (λ e. e.0) xs))
  args-once [] = tt
  args-once (x ∷ xs) = (x.1, args-once xs)

  all-links-once : (ls : List TheLink) → AllByRecursion LinkOnce (map (link_walk base names i) (map (λ l. l.0) ls))
  all-links-once [] = tt
  all-links-once (l ∷ ls) = (l.1, all-links-once ls)

  expr-layer : (x : Expr-F TheExpr TheLink) → WalkOnce (walk.expr_step base names i (map-Expr Expr Link Walk LinkWalk (expr_walk base names i) (link_walk base names i) (map-Expr TheExpr TheLink Expr Link (λ e. e.0) (λ l. l.0) x)))
  expr-layer (open_expr.Lit v at) here s = once-one_occ s (occ_here here (value_type v) at (Lit v))
  expr-layer (open_expr.Var x) here s = read-once (variable_of i.variables x.id) x here s
  expr-layer (open_expr.Last x at) here s = last-once (variable_of i.variables x.id) at here s
  expr-layer (open_expr.Call x args) here s = applied-once (built_in_op names x.id) x (map (expr_walk base names i) (map (λ e. e.0) args)) (args-once args) here s
  expr-layer (open_expr.Prefix op at x) here s =
      let operand = expr_walk base names i x.0 here (past_occ s) in
      occ-once s (occ_here here (prefix_type op operand.root.ty) at (prefix_form op operand.root.occ)) operand.parts (x.1 here (past_occ s))
  expr-layer (open_expr.Chain x ls) here s =
      let first = expr_walk base names i x.0 here s in
      let ws = map (link_walk base names i) (map (λ l. l.0) ls) in
      once-joined s first.parts (links ws here first.root (after s first.parts)).parts (x.1 here s) (links-once ws (all-links-once ls) here first.root (after s first.parts))
  expr-layer (open_expr.Flow op at x y) here s = flow-once op at (expr_walk base names i x.0) (expr_walk base names i y.0) x.1 y.1 here s
  expr-layer (open_expr.If at z x y) here s =
      let t = past_occ s in
      let test = expr_walk base names i z.0 here t in
      let left = expr_walk base names i x.0 here (after t test.parts) in
      let right = expr_walk base names i y.0 here (after (after t test.parts) left.parts) in
      occ-once s (occ_here here left.root.ty at (If test.root.occ left.root.occ right.root.occ)) (joined test.parts (joined left.parts right.parts))
      (once-joined t test.parts (joined left.parts right.parts) (z.1 here t)
      (once-joined (after t test.parts) left.parts right.parts (x.1 here (after t test.parts)) (y.1 here (after (after t test.parts) left.parts))))

  link-layer : (l : Link-F TheExpr TheLink) → LinkOnce (walk.link_step base names i (map-Link Expr Link Walk LinkWalk (expr_walk base names i) (link_walk base names i) (map-Link TheExpr TheLink Expr Link (λ e. e.0) (λ l. l.0) l)))
  link-layer l here left s =
      let right = expr_walk base names i l.arg.0 here (past_occ s) in
      let op = infix_form l.op left.ty in
      occ-once s (occ_here here (type_of op).result l.at (Apply op (left.occ ∷ right.root.occ ∷ []))) right.parts (l.arg.1 here (past_occ s))

  pub expr-once : (x : Expr) → ExprOnce x
  unfolding expr_walk link_walk
  expr-once = ind-Expr ExprOnce LinkTreeOnce
      (λ x y is. subst (λ z. ExprOnce (roll-Expr z)) is
      (subst WalkOnce (sym (fold-roll-Expr Walk LinkWalk (walk.expr_step base names i) (walk.link_step base names i) (map-Expr TheExpr TheLink Expr Link (λ e. e.0) (λ l. l.0) y))) (expr-layer y)))
      (λ x y is. subst (λ z. LinkTreeOnce (roll-Link z)) is
      (subst LinkOnce (sym (fold-roll-Link Walk LinkWalk (walk.expr_step base names i) (walk.link_step base names i) (map-Link TheExpr TheLink Expr Link (λ e. e.0) (λ l. l.0) y))) (link-layer y)))
