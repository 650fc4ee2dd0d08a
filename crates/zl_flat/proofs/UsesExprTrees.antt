-- Down an expression that breaks no rule of names: what holds of the walk of each form of expression holds of its walk.
use Rattle.std.proofs.Common.{◌≡◌, ℕ, Bool, true, false, not, ◌||◌, List, [], ◌∷◌, ◌++◌, map, length, Option, Some, None, refl, sym, subst, ◌∙◌, arith}
use Rattle.std.specs.List.{AllByRecursion}
use Rattle.zl_value.specs.declared.position.Pos.{Pos}
use Rattle.zl_value.specs.declared.rule.Rule.TheVariants as rule
use Rattle.zl_value.specs.declared.value.Value.{Value}
use Rattle.zl_value.specs.declared.op.Op.{Op}
use Rattle.zl_ast.specs.declared.name.Name.{Name}
use Rattle.zl_ast.specs.declared.operator.Prefix.{Prefix}
use Rattle.zl_ast.specs.declared.operator.FlowOp.{FlowOp}
use Rattle.zl_ast.specs.declared.expr.Expr.{Expr, roll-Expr}
use Rattle.zl_ast.specs.declared.expr.Link.{Link, roll-Link}
use Rattle.zl_ast.specs.declared.expr.Expr.TheOpen.{Expr-F, Link-F}
use Rattle.zl_ast.specs.declared.expr.Expr.TheOpen as open_expr
use Rattle.zl_ast.specs.declared.expr.Expr.TheFolds.{fold-roll-Expr, fold-roll-Link, ind-Expr, map-Expr, map-Link}
use Rattle.zl_ast.specs.Names.{broken_if, among}
use Rattle.zl_ast.specs.NamesUsed as used
use Rattle.zl_ast.specs.NamesUsed.{Known, Uses, Signature, all_uses, each_value, call_broken, expr_uses, link_uses}
use Rattle.zl_meaning.specs.declared.occurrence.Form.TheVariants.{Lit, Read, Last}
use Rattle.zl_flat.specs.declared.variable.Variable.{Variable}
use Rattle.zl_flat.specs.declared.here.Here.{Here}
use Rattle.zl_flat.specs.declared.here.Root.{Root}
use Rattle.zl_flat.specs.Parts.{Counters}
use Rattle.zl_flat.specs.Variables.{variable_of}
use Rattle.zl_flat.specs.Instances.{Copy, Callee, Instance}
use Rattle.zl_flat.specs.Operators.{value_type, built_in_op}
use Rattle.zl_flat.specs.Expressions as walk
use Rattle.zl_flat.specs.Expressions.{Walk, Walked, LinkWalk, leaf, chain, call, built_in, call_or_built_in, last_of, read, prefixed, flow_walk, conditional, expr_walk, link_walk}
use Rattle.zl_flat.proofs.RulesKept.{none-left, none-right, kept-if, IsVariable, Covers}

-- ---- what holds of walks

-- what holds of what an expression's walk makes here with these numbers, and of what a link makes behind this left operand
pub record Kinds : Type 1 where
  pub walked : Here → Counters → Walked → Type 0
  pub linked : Here → Root → Counters → Walked → Type 0

-- what holds of the copy of a called body with these arguments
abbrev pub Copied : Type 1
Copied = Here → List Root → Counters → Copy → Type 0

-- of an expression
abbrev pub OfWalk : Kinds → Walk → Type 0
OfWalk q w = (here : Here) (s : Counters) → q.walked here s (w here s)

-- of an operator with its right operand
abbrev pub OfLink : Kinds → LinkWalk → Type 0
OfLink q l = (here : Here) (left : Root) (s : Counters) → q.linked here left s (l here left s)

-- of a declaration that is called
abbrev pub OfCallee : Copied → Callee → Type 0
OfCallee r c = (here : Here) (roots : List Root) (s : Counters) → r here roots s (c here roots s)

-- it holds of each form of expression, where it holds of the expressions in it
pub record OfForms (q : Kinds) (r : Copied) (base : ℕ) (names : List (List ℕ)) (i : Instance) : Type 0 where
  pub literal : (v : Value) (at : Pos) → OfWalk q (λ here s. leaf here (value_type v) at (Lit v) s)
  pub reading : (v : Variable) (x : Name) → variable_of i.variables x.id ≡ Some v → OfWalk q (λ here s. leaf here v.ty x.at (Read v.place) s)
  pub lasting : (v : Variable) (x : Name) (at : Pos) → variable_of i.variables x.id ≡ Some v → OfWalk q (λ here s. leaf here v.ty at (Last v.place) s)
  pub building : (op : Op) (at : Pos) (args : List Walk) → AllByRecursion (OfWalk q) args → OfWalk q (built_in base names i op at args)
  pub calling : (x : Name) (args : List Walk) (c : Callee) → i.callees x.id ≡ Some c → OfCallee r c → AllByRecursion (OfWalk q) args → OfWalk q (call base names i x args)
  pub prefixing : (op : Prefix) (at : Pos) (x : Walk) → OfWalk q x → OfWalk q (prefixed base names i op at x)
  pub chaining : (x : Walk) (ls : List LinkWalk) → OfWalk q x → AllByRecursion (OfLink q) ls → OfWalk q (chain x ls)
  pub linking : (l : Link-F Walk LinkWalk) → OfWalk q l.arg → OfLink q (walk.link_step base names i l)
  pub flowing : (op : FlowOp) (at : Pos) (x y : Walk) → OfWalk q x → OfWalk q y → OfWalk q (flow_walk base names i op at x y)
  pub choosing : (at : Pos) (c x y : Walk) → OfWalk q c → OfWalk q x → OfWalk q y → OfWalk q (conditional base names i at c x y)

-- what the name stands for can be called
pub record Callable (r : Copied) (i : Instance) (id : ℕ) : Type 0 where
  pub copy : Callee
  pub is : i.callees id ≡ Some copy
  pub holds : OfCallee r copy

-- what is known of names, the instance has too
pub record HasCalls (r : Copied) (names : List (List ℕ)) (i : Instance) (k : Known) : Type 0 where
  pub signatures : (id : ℕ) (s : Signature) → k.signature id ≡ Some s → built_in_op names id ≡ None → Callable r i id
  pub constants : (id : ℕ) → among k.constants id ≡ true → Callable r i id

-- ---- trees

module _ (q : Kinds) (r : Copied) (base : ℕ) (names : List (List ℕ)) (i : Instance) (k : Known) (forms : OfForms q r base names i) (knows : HasCalls r names i k) where
  -- a call of a name that is known, or of a built-in function
  call-found : (o : Option Op) (x : Name) (args : List Walk) (results : ℕ) (s : Option Signature) → built_in_op names x.id ≡ o → k.signature x.id ≡ s → call_broken s x (length args) results ≡ [] →
      AllByRecursion (OfWalk q) args → OfWalk q (call_or_built_in base names i o x args)
  call-found (Some op) x args results s is sig h hs here t = forms.building op x.at args hs here t
  call-found None x args results None is sig h hs here t = absurd (cc)
  call-found None x args results (Some s) is sig h hs here t =
      let c = knows.signatures x.id s sig is in
      forms.calling x args c.copy c.is c.holds hs here t

  -- a variable is not missing
  not_there : (id : ℕ) → variable_of i.variables id ≡ None → IsVariable i id → ⊥
  not_there id e v = let is = v.is in differ v.variable (sym e ∙ is)
    where
      differ : (v : Variable) → None ≡ Some v → ⊥
      differ v h = cc

  -- a variable or a constant
  read-found : (v : Option Variable) (x : Name) (visible : List ℕ) (b c : Bool) → variable_of i.variables x.id ≡ v → among visible x.id ≡ b → among k.constants x.id ≡ c → not (b || c) ≡ false → Covers i visible →
      OfWalk q (read base names i v x)
  read-found (Some v) x visible b c is eb ec h covers here t = forms.reading v x is here t
  read-found None x visible true c is eb ec h covers here t = absurd (not_there x.id is (covers x.id eb))
  read-found None x visible false true is eb ec h covers here t = let c = knows.constants x.id ec in forms.calling x [] c.copy c.is c.holds tt here t
  read-found None x visible false false is eb ec h covers here t = absurd (cc)

  -- the `last` of a variable
  last-found : (v : Option Variable) (x : Name) (at : Pos) (visible : List ℕ) (b : Bool) → variable_of i.variables x.id ≡ v → among visible x.id ≡ b → not b ≡ false → Covers i visible → OfWalk q (λ here. last_of v here at)
  last-found (Some v) x at visible b is eb h covers here t = forms.lasting v x at is here t
  last-found None x at visible true is eb h covers here t = absurd (not_there x.id is (covers x.id eb))
  last-found None x at visible false is eb h covers here t = absurd (cc)

  -- of the walk of an expression that breaks no rule of names
  abbrev pub OfExpr : Expr → Type 0
  OfExpr x = (results : ℕ) (visible : List ℕ) → Covers i visible → expr_uses k x results visible ≡ [] → OfWalk q (expr_walk base names i x)

  -- of the walk of such a link
  abbrev pub OfLinkTree : Link → Type 0
  OfLinkTree l = (visible : List ℕ) → Covers i visible → link_uses k l visible ≡ [] → OfLink q (link_walk base names i l)

  -- what is known of the parts of an expression
  abbrev TheExpr : Type 0
  TheExpr = (e : Expr) × OfExpr e

  -- of its links
  abbrev TheLink : Type 0
  TheLink = (l : Link) × OfLinkTree l

  -- of the arguments of a call
  of-args : (xs : List TheExpr) (visible : List ℕ) → Covers i visible → each_value (map (expr_uses k) (map (λ e. e.0) xs)) visible ≡ [] → AllByRecursion (OfWalk q) (map (expr_walk base names i) (map (λ e. e.0) xs))
  of-args [] visible c h = tt
  of-args (x ∷ xs) visible c h =
      let first = expr_uses k x.0 1 visible in
      let rest = each_value (map (expr_uses k) (map (λ e. e.0) xs)) visible in
      (x.1 1 visible c (none-left first rest h), of-args xs visible c (none-right first rest h))

  -- of the links of a chain
  of-links : (ls : List TheLink) (visible : List ℕ) → Covers i visible → all_uses (map (link_uses k) (map (λ l. l.0) ls)) visible ≡ [] → AllByRecursion (OfLink q) (map (link_walk base names i) (map (λ l. l.0) ls))
  of-links [] visible c h = tt
  of-links (l ∷ ls) visible c h =
      let first = link_uses k l.0 visible in
      let rest = all_uses (map (link_uses k) (map (λ l. l.0) ls)) visible in
      (l.1 visible c (none-left first rest h), of-links ls visible c (none-right first rest h))

  -- lists made of one list are of one length
  same-length : {A B C : Type 0} (g : A → B) (h : A → C) (xs : List A) → length (map g xs) ≡ length (map h xs)
  same-length g h [] = refl
  same-length g h (x ∷ xs) = let e = same-length g h xs in omega (arith, e)

  -- one form of expression
  expr-layer : (x : Expr-F TheExpr TheLink) (results : ℕ) (visible : List ℕ) → Covers i visible →
      used.expr_step k (map-Expr Expr Link (ℕ → Uses) Uses (expr_uses k) (link_uses k) (map-Expr TheExpr TheLink Expr Link (λ e. e.0) (λ l. l.0) x)) results visible ≡ [] →
      OfWalk q (walk.expr_step base names i (map-Expr Expr Link Walk LinkWalk (expr_walk base names i) (link_walk base names i) (map-Expr TheExpr TheLink Expr Link (λ e. e.0) (λ l. l.0) x)))
  expr-layer (open_expr.Lit v at) results visible c h here s = forms.literal v at here s
  expr-layer (open_expr.Var x) results visible c h here s =
      read-found (variable_of i.variables x.id) x visible (among visible x.id) (among k.constants x.id) refl refl refl (kept-if (not (among visible x.id || among k.constants x.id)) rule.NameUnknown x.at h) c here s
  expr-layer (open_expr.Last x at) results visible c h here s =
      last-found (variable_of i.variables x.id) x at visible (among visible x.id) refl refl
      (kept-if (not (among visible x.id)) rule.NameUnknown x.at (none-left (broken_if (not (among visible x.id)) rule.NameUnknown x.at) (broken_if (among k.parameters x.id) rule.Last at) h)) c here s
  expr-layer (open_expr.Call x args) results visible c h here s =
      let uses = map (expr_uses k) (map (λ e. e.0) args) in
      let walks = map (expr_walk base names i) (map (λ e. e.0) args) in
      let broken = call_broken (k.signature x.id) x (length uses) results in
      let rest = each_value uses visible in
      call-found (built_in_op names x.id) x walks results (k.signature x.id) refl refl
      (subst (λ n. call_broken (k.signature x.id) x n results ≡ []) (same-length (expr_uses k) (expr_walk base names i) (map (λ e. e.0) args)) (none-left broken rest h))
      (of-args args visible c (none-right broken rest h)) here s
  expr-layer (open_expr.Prefix op at x) results visible c h here s = forms.prefixing op at (expr_walk base names i x.0) (x.1 1 visible c h) here s
  expr-layer (open_expr.Chain x ls) results visible c h here s =
      let first = expr_uses k x.0 1 visible in
      let rest = all_uses (map (link_uses k) (map (λ l. l.0) ls)) visible in
      forms.chaining (expr_walk base names i x.0) (map (link_walk base names i) (map (λ l. l.0) ls)) (x.1 1 visible c (none-left first rest h)) (of-links ls visible c (none-right first rest h)) here s
  expr-layer (open_expr.Flow op at x y) results visible c h here s =
      let first = expr_uses k x.0 1 visible in
      let rest = expr_uses k y.0 1 visible in
      forms.flowing op at (expr_walk base names i x.0) (expr_walk base names i y.0) (x.1 1 visible c (none-left first rest h)) (y.1 1 visible c (none-right first rest h)) here s
  expr-layer (open_expr.If at z x y) results visible c h here s =
      let test = expr_uses k z.0 1 visible in
      let first = expr_uses k x.0 1 visible in
      let rest = expr_uses k y.0 1 visible in
      let behind = none-right test (first ++ rest) h in
      forms.choosing at (expr_walk base names i z.0) (expr_walk base names i x.0) (expr_walk base names i y.0)
      (z.1 1 visible c (none-left test (first ++ rest) h)) (x.1 1 visible c (none-left first rest behind)) (y.1 1 visible c (none-right first rest behind)) here s

  -- a link
  link-layer : (l : Link-F TheExpr TheLink) (visible : List ℕ) → Covers i visible →
      used.link_step k (map-Link Expr Link (ℕ → Uses) Uses (expr_uses k) (link_uses k) (map-Link TheExpr TheLink Expr Link (λ e. e.0) (λ l. l.0) l)) visible ≡ [] →
      OfLink q (walk.link_step base names i (map-Link Expr Link Walk LinkWalk (expr_walk base names i) (link_walk base names i) (map-Link TheExpr TheLink Expr Link (λ e. e.0) (λ l. l.0) l)))
  link-layer l visible c h here left s = forms.linking (map-Link Expr Link Walk LinkWalk (expr_walk base names i) (link_walk base names i) (map-Link TheExpr TheLink Expr Link (λ e. e.0) (λ l. l.0) l)) (l.arg.1 1 visible c h) here left s

  -- it holds of the walk of an expression that breaks no rule of names
  pub expr-holds : (x : Expr) → OfExpr x
  unfolding expr_uses link_uses expr_walk link_walk
  expr-holds = ind-Expr OfExpr OfLinkTree
      (λ x y is.
      subst (λ z. OfExpr (roll-Expr z)) is
      (λ results visible c h.
      subst (OfWalk q) (sym (fold-roll-Expr Walk LinkWalk (walk.expr_step base names i) (walk.link_step base names i) (map-Expr TheExpr TheLink Expr Link (λ e. e.0) (λ l. l.0) y)))
      (expr-layer y results visible c
      (subst (λ (u : ℕ → Uses). u results visible ≡ []) (fold-roll-Expr (ℕ → Uses) Uses (used.expr_step k) (used.link_step k) (map-Expr TheExpr TheLink Expr Link (λ e. e.0) (λ l. l.0) y)) h))))
      (λ x y is.
      subst (λ z. OfLinkTree (roll-Link z)) is
      (λ visible c h.
      subst (OfLink q) (sym (fold-roll-Link Walk LinkWalk (walk.expr_step base names i) (walk.link_step base names i) (map-Link TheExpr TheLink Expr Link (λ e. e.0) (λ l. l.0) y)))
      (link-layer y visible c
      (subst (λ (u : Uses). u visible ≡ []) (fold-roll-Link (ℕ → Uses) Uses (used.expr_step k) (used.link_step k) (map-Link TheExpr TheLink Expr Link (λ e. e.0) (λ l. l.0) y)) h))))
