-- The definers that the walk of an expression makes: they come from the calls inside it, and those of one place are never
-- active together.
use Rattle.std.proofs.Common.{◌≡◌, ℕ, ◌+◌, List, [], ◌∷◌, map, Option, Some, None, refl, sym, subst}
use Rattle.std.specs.List.{AllByRecursion}
use Rattle.zl_value.specs.declared.position.Pos.{Pos}
use Rattle.zl_value.specs.declared.value.Ty.TheVariants.{Int}
use Rattle.zl_value.specs.declared.op.Op.{Op}
use Rattle.zl_value.specs.OperatorTypes.{type_of}
use Rattle.zl_ast.specs.declared.name.Name.{Name}
use Rattle.zl_ast.specs.declared.operator.FlowOp.{FlowOp}
use Rattle.zl_ast.specs.declared.operator.FlowOp.TheVariants as flow
use Rattle.zl_ast.specs.declared.expr.Expr.{Expr, roll-Expr}
use Rattle.zl_ast.specs.declared.expr.Link.{Link, roll-Link}
use Rattle.zl_ast.specs.declared.expr.Expr.TheOpen.{Expr-F, Link-F}
use Rattle.zl_ast.specs.declared.expr.Expr.TheOpen as open_expr
use Rattle.zl_ast.specs.declared.expr.Expr.TheFolds.{fold-roll-Expr, fold-roll-Link, ind-Expr, map-Expr, map-Link}
use Rattle.zl_meaning.specs.declared.occurrence.Form.TheVariants.{Lit, Read, Last, Op as Apply, If, Arrow, Pre, Result}
use Rattle.zl_flat.specs.declared.variable.Variable.{Variable}
use Rattle.zl_flat.specs.declared.here.Here.{Here}
use Rattle.zl_flat.specs.declared.here.Root.{Root}
use Rattle.zl_flat.specs.Parts.{Counters, nothing, joined, one_occ, one_hidden, after, past_occ, past_hidden}
use Rattle.zl_flat.specs.Variables.{variable_of}
use Rattle.zl_flat.specs.Instances.{Callee, Instance, in_call, occ_here, callee, first_root, root_occs}
use Rattle.zl_flat.specs.Operators.{value_type, built_in_op, infix_form, prefix_form, prefix_type}
use Rattle.zl_flat.specs.Expressions as walk
use Rattle.zl_flat.specs.Expressions.{Walk, Walked, walk_all, leaf, LinkWalk, links, chain, last_of, call, built_in, call_or_built_in, read, prefixed, arrow, followed, flow_walk, conditional, expr_walk, link_walk}
use Rattle.zl_meaning.specs.FlatForm.{FlatForm}
use Rattle.zl_meaning.specs.declared.occurrence.Occ.{Occ}
use Rattle.zl_flat.specs.declared.given.Given.{Given}
use Rattle.zl_flat.proofs.DefinersSpread.{Never, Any, Defines, nothing-free, occ-free, defines-flat, never-last, defines-occ, defines-hidden, defines-called}

module _ (f : FlatForm) (base : ℕ) where
  -- the walk of an expression makes no definers but those of calls
  abbrev pub WalkDefines : Walk → Type 0
  WalkDefines w = (here : Here) (s : Counters) → Defines f base here.call Never s (w here s).parts

  abbrev pub LinkDefines : LinkWalk → Type 0
  LinkDefines l = (here : Here) (left : Root) (s : Counters) → Defines f base here.call Never s (l here left s).parts

  -- what is made in a call
  abbrev pub CalleeDefines : Callee → Type 0
  CalleeDefines c = (here : Here) (roots : List Root) (s : Counters) → Defines f base here.call Any s (c here roots s).parts

  -- nothing is made
  pub defines-nothing : (P : Given → Type 0) (here : Here) (s : Counters) → Defines f base here.call P s nothing
  defines-nothing P here s = defines-flat f base here.call P s nothing nothing-free

  -- an occurrence alone
  one-occ : (here : Here) (s : Counters) (x : Occ) → Defines f base here.call Never s (one_occ x)
  one-occ here s x = defines-flat f base here.call Never s (one_occ x) (occ-free x)

  -- expressions one behind the other
  pub walk_all-define : (ws : List Walk) → AllByRecursion WalkDefines ws → (here : Here) (s : Counters) → Defines f base here.call Never s (walk_all ws here s).parts
  walk_all-define [] h here s = defines-nothing Never here s
  walk_all-define (w ∷ ws) h here s = let first = (w here s).parts in never-last f base here.call Never s first (walk_all ws here (after s first)).parts (h.0 here s) (walk_all-define ws h.1 here (after s first))

  -- operators one behind the other
  links-define : (ls : List LinkWalk) → AllByRecursion LinkDefines ls → (here : Here) (left : Root) (s : Counters) → Defines f base here.call Never s (links ls here left s).parts
  links-define [] h here left s = defines-nothing Never here s
  links-define (l ∷ ls) h here left s =
      let one = l here left s in
      never-last f base here.call Never s one.parts (links ls here one.root (after s one.parts)).parts (h.0 here left s) (links-define ls h.1 here one.root (after s one.parts))

module _ (f : FlatForm) (base : ℕ) (names : List (List ℕ)) (i : Instance) (known : (id : ℕ) (c : Callee) → i.callees id ≡ Some c → CalleeDefines f base c) where
  -- the copy of a call, if the name can be called
  copy-define : (o : Option Callee) (id : ℕ) → i.callees id ≡ o → (here : Here) (roots : List Root) (s : Counters) → Defines f base here.call Any s (callee o here roots s).parts
  copy-define None id e here roots s = defines-nothing f base Any here s
  copy-define (Some c) id e here roots s = known id c e here roots s

  -- a call
  call-defines : (x : Name) (args : List Walk) → AllByRecursion (WalkDefines f base) args → WalkDefines f base (call base names i x args)
  call-defines x args hs here s =
      let inside = in_call s.occs here in
      let t = past_occ s in
      let arguments = walk_all args inside t in
      let copy = callee (i.callees x.id) inside arguments.roots (after t arguments.parts) in
      let result = first_root copy.results in
      defines-called f base here.call Any s (occ_here here result.ty x.at (Result result.occ)) arguments.parts copy.parts
      (walk_all-define f base args hs inside t) (copy-define (i.callees x.id) x.id refl inside arguments.roots (after t arguments.parts))

  -- a call, or an operator that is written as a function
  applied-defines : (o : Option Op) (x : Name) (args : List Walk) → AllByRecursion (WalkDefines f base) args → WalkDefines f base (call_or_built_in base names i o x args)
  applied-defines None x args hs here s = call-defines x args hs here s
  applied-defines (Some op) x args hs here s =
      let arguments = walk_all args here (past_occ s) in
      defines-occ f base here.call Never s (occ_here here (type_of op).result x.at (Apply op (root_occs arguments.roots))) arguments.parts (walk_all-define f base args hs here (past_occ s))

  -- a name that is read
  read-defines : (v : Option Variable) (x : Name) → WalkDefines f base (read base names i v x)
  read-defines None x here s = call-defines x [] tt here s
  read-defines (Some v) x here s = one-occ f base here s (occ_here here v.ty x.at (Read v.place))

  -- `last` of a variable
  last-defines : (v : Option Variable) (at : Pos) (here : Here) (s : Counters) → Defines f base here.call Never s (last_of v here at s).parts
  last-defines None at here s = one-occ f base here s (occ_here here Int at (Last 0))
  last-defines (Some v) at here s = one-occ f base here s (occ_here here v.ty at (Last v.place))

  -- `->` and `fby`
  flow-defines : (op : FlowOp) (at : Pos) (x y : Walk) → WalkDefines f base x → WalkDefines f base y → WalkDefines f base (flow_walk base names i op at x y)
  flow-defines flow.Arrow at x y hx hy here s =
      let left = x here s in
      let t = after s left.parts in
      let right = y here (past_occ t) in
      let own = occ_here here left.root.ty at (Arrow left.root.occ right.root.occ) in
      never-last f base here.call Never s left.parts (joined (one_occ own) right.parts) (hx here s) (defines-occ f base here.call Never t own right.parts (hy here (past_occ t)))
  flow-defines flow.Fby at x y hx hy here s =
      let left = x here s in
      let t = after s left.parts in
      let right = y here (past_hidden (past_occ t)) in
      let own = occ_here here left.root.ty at (Arrow left.root.occ (base + t.hidden)) in
      let pre = occ_here here left.root.ty at (Pre right.root.occ) in
      never-last f base here.call Never s left.parts (joined (one_occ own) (joined (one_hidden pre) right.parts)) (hx here s)
      (defines-occ f base here.call Never t own (joined (one_hidden pre) right.parts) (defines-hidden f base here.call Never (past_occ t) pre right.parts (hy here (past_hidden (past_occ t)))))

  abbrev pub ExprDefines : Expr → Type 0
  ExprDefines x = WalkDefines f base (expr_walk base names i x)

  abbrev pub LinkTreeDefines : Link → Type 0
  LinkTreeDefines l = LinkDefines f base (link_walk base names i l)

  abbrev TheExpr : Type 0
  TheExpr = (e : Expr) × ExprDefines e

  abbrev TheLink : Type 0
  TheLink = (l : Link) × LinkTreeDefines l

  -- parts of an expression
  args-define : (xs : List TheExpr) → AllByRecursion (WalkDefines f base) (map (expr_walk base names i) (map (λ e. e.0) xs))
  args-define [] = tt
  args-define (x ∷ xs) = (x.1, args-define xs)

  all-links-define : (ls : List TheLink) → AllByRecursion (LinkDefines f base) (map (link_walk base names i) (map (λ l. l.0) ls))
  all-links-define [] = tt
  all-links-define (l ∷ ls) = (l.1, all-links-define ls)

  -- one layer of an expression
  expr-layer : (x : Expr-F TheExpr TheLink) → WalkDefines f base (walk.expr_step base names i (map-Expr Expr Link Walk LinkWalk (expr_walk base names i) (link_walk base names i) (map-Expr TheExpr TheLink Expr Link (λ e. e.0) (λ l. l.0) x)))
  expr-layer (open_expr.Lit v at) here s = one-occ f base here s (occ_here here (value_type v) at (Lit v))
  expr-layer (open_expr.Var x) here s = read-defines (variable_of i.variables x.id) x here s
  expr-layer (open_expr.Last x at) here s = last-defines (variable_of i.variables x.id) at here s
  expr-layer (open_expr.Call x args) here s = applied-defines (built_in_op names x.id) x (map (expr_walk base names i) (map (λ e. e.0) args)) (args-define args) here s
  expr-layer (open_expr.Prefix op at x) here s =
      let operand = expr_walk base names i x.0 here (past_occ s) in
      defines-occ f base here.call Never s (occ_here here (prefix_type op operand.root.ty) at (prefix_form op operand.root.occ)) operand.parts (x.1 here (past_occ s))
  expr-layer (open_expr.Chain x ls) here s =
      let first = expr_walk base names i x.0 here s in
      let ws = map (link_walk base names i) (map (λ l. l.0) ls) in
      never-last f base here.call Never s first.parts (links ws here first.root (after s first.parts)).parts (x.1 here s) (links-define f base ws (all-links-define ls) here first.root (after s first.parts))
  expr-layer (open_expr.Flow op at x y) here s = flow-defines op at (expr_walk base names i x.0) (expr_walk base names i y.0) x.1 y.1 here s
  expr-layer (open_expr.If at z x y) here s =
      let t = past_occ s in
      let test = expr_walk base names i z.0 here t in
      let left = expr_walk base names i x.0 here (after t test.parts) in
      let right = expr_walk base names i y.0 here (after (after t test.parts) left.parts) in
      defines-occ f base here.call Never s (occ_here here left.root.ty at (If test.root.occ left.root.occ right.root.occ)) (joined test.parts (joined left.parts right.parts))
      (never-last f base here.call Never t test.parts (joined left.parts right.parts) (z.1 here t)
      (never-last f base here.call Never (after t test.parts) left.parts right.parts (x.1 here (after t test.parts)) (y.1 here (after (after t test.parts) left.parts))))

  link-layer : (l : Link-F TheExpr TheLink) → LinkDefines f base (walk.link_step base names i (map-Link Expr Link Walk LinkWalk (expr_walk base names i) (link_walk base names i) (map-Link TheExpr TheLink Expr Link (λ e. e.0) (λ l. l.0) l)))
  link-layer l here left s =
      let right = expr_walk base names i l.arg.0 here (past_occ s) in
      let op = infix_form l.op left.ty in
      defines-occ f base here.call Never s (occ_here here (type_of op).result l.at (Apply op (left.occ ∷ right.root.occ ∷ []))) right.parts (l.arg.1 here (past_occ s))

  -- the walk of an expression makes no definers but those of calls, and these are spaced
  pub expr-defines : (x : Expr) → ExprDefines x
  unfolding expr_walk link_walk
  expr-defines = ind-Expr ExprDefines LinkTreeDefines
      (λ x y is. subst (λ z. ExprDefines (roll-Expr z)) is
      (subst (WalkDefines f base) (sym (fold-roll-Expr Walk LinkWalk (walk.expr_step base names i) (walk.link_step base names i) (map-Expr TheExpr TheLink Expr Link (λ e. e.0) (λ l. l.0) y))) (expr-layer y)))
      (λ x y is. subst (λ z. LinkTreeDefines (roll-Link z)) is
      (subst (LinkDefines f base) (sym (fold-roll-Link Walk LinkWalk (walk.expr_step base names i) (walk.link_step base names i) (map-Link TheExpr TheLink Expr Link (λ e. e.0) (λ l. l.0) y))) (link-layer y)))
