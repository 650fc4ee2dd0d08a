-- What the walk of an expression makes.
use Rattle.std.specs.Prelude.{ℕ, ◌+◌, List, [], ◌∷◌, map, Option, Some, None}
use Rattle.zl_value.specs.declared.position.Pos.{Pos}
use Rattle.zl_value.specs.declared.value.Ty.{Ty}
use Rattle.zl_value.specs.declared.value.Ty.TheVariants.{Int}
use Rattle.zl_value.specs.declared.op.Op.{Op}
use Rattle.zl_value.specs.OperatorTypes.{type_of}
use Rattle.zl_ast.specs.declared.name.Name.{Name}
use Rattle.zl_ast.specs.declared.operator.Prefix.{Prefix}
use Rattle.zl_ast.specs.declared.operator.FlowOp.{FlowOp}
use Rattle.zl_ast.specs.declared.operator.FlowOp.TheVariants as flow
use Rattle.zl_ast.specs.declared.expr.Expr.{Expr}
use Rattle.zl_ast.specs.declared.expr.Link.{Link}
use Rattle.zl_ast.specs.declared.expr.Expr.TheOpen.{Expr-F, Link-F}
use Rattle.zl_ast.specs.declared.expr.Expr.TheOpen as open_expr
use Rattle.zl_ast.specs.declared.expr.Expr.TheFolds.{fold-Expr, fold-Link}
use Rattle.zl_meaning.specs.declared.occurrence.Form.{Form}
use Rattle.zl_meaning.specs.declared.occurrence.Form.TheVariants.{Lit, Read, Last, Op as Apply, If, Arrow, Pre, Result}
use Rattle.zl_flat.specs.declared.variable.Variable.{Variable}
use Rattle.zl_flat.specs.declared.here.Here.{Here}
use Rattle.zl_flat.specs.declared.here.Root.{Root}
use Rattle.zl_flat.specs.Parts.{Parts, Counters, nothing, joined, one_occ, one_hidden, after, past_occ, past_hidden}
use Rattle.zl_flat.specs.Variables.{variable_of}
use Rattle.zl_flat.specs.Instances.{Instance, in_call, occ_here, callee, first_root, root_occs}
use Rattle.zl_flat.specs.Operators.{value_type, infix_form, prefix_form, prefix_type, built_in_op}

-- What is made for an expression, the occurrence that it is, and the results of the call that it is, if it is one.
pub record Walked : Type 0 where
  pub parts : Parts
  pub root : Root
  pub results : List Root

abbrev pub Walk : Type 0
Walk = Here → Counters → Walked

-- What is made for expressions one behind the other, and what they are.
pub record WalkedAll : Type 0 where
  pub parts : Parts
  pub roots : List Root

abbrev pub walk_all : List Walk → Here → Counters → WalkedAll
walk_all [] here s = record { parts = nothing; roots = [] }
walk_all (w ∷ ws) here s =
    let first = w here s in
    let rest = walk_all ws here (after s first.parts) in
    record { parts = joined first.parts rest.parts; roots = first.root ∷ rest.roots }

abbrev pub one_result : Parts → ℕ → Ty → Walked
one_result parts occ ty = record { parts = parts; root = record { occ = occ; ty = ty }; results = record { occ = occ; ty = ty } ∷ [] }

-- an occurrence without parts
abbrev pub leaf : Here → Ty → Pos → Form → Counters → Walked
leaf here ty at form s = one_result (one_occ (occ_here here ty at form)) s.occs ty

-- an operator of a chain with its right operand, behind this left operand
abbrev pub LinkWalk : Type 0
LinkWalk = Here → Root → Counters → Walked

-- what is made for operators one behind the other, and what the last of them is
pub record Linked : Type 0 where
  pub parts : Parts
  pub root : Root

abbrev pub links : List LinkWalk → Here → Root → Counters → Linked
links [] here left s = record { parts = nothing; root = left }
links (l ∷ ls) here left s =
    let one = l here left s in
    let rest = links ls here one.root (after s one.parts) in
    record { parts = joined one.parts rest.parts; root = rest.root }

-- operators of one level, to be applied from the left
abbrev pub chain : Walk → List LinkWalk → Here → Counters → Walked
chain x ls here s =
    let first = x here s in
    let rest = links ls here first.root (after s first.parts) in
    one_result (joined first.parts rest.parts) rest.root.occ rest.root.ty

-- `last` of a variable
abbrev pub last_of : Option Variable → Here → Pos → Counters → Walked
last_of None here at s = leaf here Int at (Last 0) s
last_of (Some v) here at s = leaf here v.ty at (Last v.place) s

-- Hidden occurrences are numbered from `base` on: behind all others.
module _ (base : ℕ) (names : List (List ℕ)) (i : Instance) where
  -- a call: its occurrence, the arguments, and the copy of the called body
  abbrev pub call : Name → List Walk → Here → Counters → Walked
  call f args here s =
      let inside = in_call s.occs here in
      let arguments = walk_all args inside (past_occ s) in
      let copy = callee (i.callees f.id) inside arguments.roots (after (past_occ s) arguments.parts) in
      let result = first_root copy.results in
      record {
        parts = joined (one_occ (occ_here here result.ty f.at (Result result.occ))) (joined arguments.parts copy.parts);
        root = record { occ = s.occs; ty = result.ty };
        results = copy.results;
      }

  -- an operator that is written as a function
  abbrev pub built_in : Op → Pos → List Walk → Here → Counters → Walked
  built_in op at args here s =
      let arguments = walk_all args here (past_occ s) in
      one_result (joined (one_occ (occ_here here (type_of op).result at (Apply op (root_occs arguments.roots)))) arguments.parts) s.occs (type_of op).result

  abbrev pub call_or_built_in : Option Op → Name → List Walk → Here → Counters → Walked
  call_or_built_in None f args here s = call f args here s
  call_or_built_in (Some op) f args here s = built_in op f.at args here s

  -- a name that is read: a variable, or a constant, which is called
  abbrev pub read : Option Variable → Name → Here → Counters → Walked
  read None x here s = call x [] here s
  read (Some v) x here s = leaf here v.ty x.at (Read v.place) s

  abbrev pub prefixed : Prefix → Pos → Walk → Here → Counters → Walked
  prefixed op at x here s =
      let operand = x here (past_occ s) in
      let ty = prefix_type op operand.root.ty in
      one_result (joined (one_occ (occ_here here ty at (prefix_form op operand.root.occ))) operand.parts) s.occs ty

  -- `left -> right`
  abbrev pub arrow : Pos → Walk → Walk → Here → Counters → Walked
  arrow at x y here s =
      let left = x here s in
      let behind = after s left.parts in
      let right = y here (past_occ behind) in
      let form = Arrow left.root.occ right.root.occ in
      one_result (joined left.parts (joined (one_occ (occ_here here left.root.ty at form)) right.parts)) behind.occs left.root.ty

  -- `left fby right` is `left -> pre right`, of which the `pre` is hidden
  abbrev pub followed : Pos → Walk → Walk → Here → Counters → Walked
  followed at x y here s =
      let left = x here s in
      let behind = after s left.parts in
      let right = y here (past_hidden (past_occ behind)) in
      let form = Arrow left.root.occ (base + behind.hidden) in
      let pre = occ_here here left.root.ty at (Pre right.root.occ) in
      one_result (joined left.parts (joined (one_occ (occ_here here left.root.ty at form)) (joined (one_hidden pre) right.parts))) behind.occs left.root.ty

  abbrev pub flow_walk : FlowOp → Pos → Walk → Walk → Here → Counters → Walked
  flow_walk flow.Arrow at x y here s = arrow at x y here s
  flow_walk flow.Fby at x y here s = followed at x y here s

  abbrev pub conditional : Pos → Walk → Walk → Walk → Here → Counters → Walked
  conditional at c x y here s =
      let test = c here (past_occ s) in
      let yes_branch = x here (after (past_occ s) test.parts) in
      let no_branch = y here (after (after (past_occ s) test.parts) yes_branch.parts) in
      let form = If test.root.occ yes_branch.root.occ no_branch.root.occ in
      let ty = yes_branch.root.ty in
      one_result (joined (one_occ (occ_here here ty at form)) (joined test.parts (joined yes_branch.parts no_branch.parts))) s.occs ty

  abbrev pub expr_step : Expr-F Walk LinkWalk → Walk
  expr_step (open_expr.Lit v at) here s = leaf here (value_type v) at (Lit v) s
  expr_step (open_expr.Var x) here s = read (variable_of i.variables x.id) x here s
  expr_step (open_expr.Last x at) here s = last_of (variable_of i.variables x.id) here at s
  expr_step (open_expr.Call f args) here s = call_or_built_in (built_in_op names f.id) f args here s
  expr_step (open_expr.Prefix op at x) here s = prefixed op at x here s
  expr_step (open_expr.Chain x ls) here s = chain x ls here s
  expr_step (open_expr.Flow op at x y) here s = flow_walk op at x y here s
  expr_step (open_expr.If at c x y) here s = conditional at c x y here s

  abbrev pub link_step : Link-F Walk LinkWalk → LinkWalk
  link_step l here left s =
      let right = l.arg here (past_occ s) in
      let op = infix_form l.op left.ty in
      one_result (joined (one_occ (occ_here here (type_of op).result l.at (Apply op (left.occ ∷ right.root.occ ∷ [])))) right.parts) s.occs (type_of op).result

  unfoldable pub expr_walk : Expr → Walk
  expr_walk = fold-Expr Walk LinkWalk expr_step link_step

  unfoldable pub link_walk : Link → LinkWalk
  link_walk = fold-Link Walk LinkWalk expr_step link_step

  abbrev pub exprs_walk : List Expr → Here → Counters → WalkedAll
  exprs_walk xs = walk_all (map expr_walk xs)
