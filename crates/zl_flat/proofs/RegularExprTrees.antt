-- Down an expression that breaks no rule of names or kinds: what its walk makes stands in its context.
use Rattle.std.proofs.Common.{◌≡◌, ℕ, Bool, true, false, not, ◌||◌, List, [], ◌∷◌, ◌++◌, map, length, Option, Some, None, refl, inl, inr, sym, subst, ◌∙◌, arith}
use Rattle.std.specs.List.{AllByRecursion}
use Rattle.zl_value.specs.declared.position.Pos.{Pos}
use Rattle.zl_value.specs.declared.rule.Rule.TheVariants as rule
use Rattle.zl_value.specs.declared.op.Op.{Op}
use Rattle.zl_ast.specs.declared.name.Name.{Name}
use Rattle.zl_ast.specs.declared.expr.Expr.{Expr, roll-Expr}
use Rattle.zl_ast.specs.declared.expr.Link.{Link, roll-Link}
use Rattle.zl_ast.specs.declared.expr.Expr.TheOpen.{Expr-F, Link-F}
use Rattle.zl_ast.specs.declared.expr.Expr.TheOpen as open_expr
use Rattle.zl_ast.specs.declared.expr.Expr.TheFolds.{fold-roll-Expr, fold-roll-Link, ind-Expr, map-Expr, map-Link}
use Rattle.zl_ast.specs.declared.program.DeclKind.{DeclKind}
use Rattle.zl_ast.specs.declared.program.DeclKind.TheVariants as decl
use Rattle.zl_ast.specs.declared.operator.Prefix.{Prefix}
use Rattle.zl_ast.specs.declared.operator.Prefix.TheVariants as prefix
use Rattle.zl_ast.specs.Names.{among, broken_if}
use Rattle.zl_ast.specs.NamesUsed as used
use Rattle.zl_ast.specs.NamesUsed.{Known, Uses, Signature, all_uses, each_value, call_broken, expr_uses, link_uses}
use Rattle.zl_ast.specs.Kinds as kinds
use Rattle.zl_ast.specs.Kinds.{Declared, Misplaced, unless_allowed, all_misplaced, expr_misplaced, link_misplaced}
use Rattle.zl_meaning.specs.FlatForm.{FlatForm}
use Rattle.zl_meaning.specs.declared.occurrence.Form.TheVariants.{Lit, Read, Last}
use Rattle.zl_meaning.specs.Regular.{Context, IsAllowed}
use Rattle.zl_flat.specs.declared.variable.Variable.{Variable}
use Rattle.zl_flat.specs.Variables.{variable_of}
use Rattle.zl_flat.specs.Instances.{Callee, Instance}
use Rattle.zl_flat.specs.Operators.{value_type, built_in_op}
use Rattle.zl_flat.specs.Expressions as walk
use Rattle.zl_flat.specs.Expressions.{Walk, LinkWalk, call_or_built_in, last_of, read, expr_walk, link_walk}
use Rattle.zl_flat.proofs.RegularGround.{flat, argument-context, LastOutside}
use Rattle.zl_flat.proofs.RulesKept.{none-left, none-right, kept-if, Covers}
use Rattle.zl_flat.proofs.RegularLift.{allowed}
use Rattle.zl_flat.proofs.RegularExprs.{WalkIn, LinkIn, CalleeRegular, leaf-regular, chain-regular, built_in-regular, prefixed-regular, link-regular, conditional-regular, flow-regular, call-regular}

-- ---- what is known

-- what the name stands for can be called, and has this kind
pub record CanCopy (f : FlatForm) (base : ℕ) (callees : ℕ → Option Callee) (id : ℕ) (declared : Option DeclKind) : Type 0 where
  pub kind : DeclKind
  pub known : declared ≡ Some kind
  pub copy : Callee
  pub is : callees id ≡ Some copy
  pub stands : CalleeRegular f base kind copy

-- what is known of names can be called, and has the kinds that are declared
pub record KnowsCopies (f : FlatForm) (base : ℕ) (names : List (List ℕ)) (callees : ℕ → Option Callee) (k : Known) (declared : Declared) : Type 0 where
  pub signatures : (id : ℕ) (s : Signature) → k.signature id ≡ Some s → built_in_op names id ≡ None → CanCopy f base callees id (declared id)
  pub constants : (id : ℕ) → among k.constants id ≡ true → CanCopy f base callees id (Some decl.Constant)

-- the places of the instance's variables may stand behind `last`, where the contexts are such
abbrev pub Recalls : FlatForm → ((ℕ → Context) → Type 0) → Instance → Type 0
Recalls f know i = (id : ℕ) (v : Variable) → variable_of i.variables id ≡ Some v → (context : ℕ → Context) → know context → LastOutside f context v.place

-- The body of a calm instance is combinatorial. In that of any other the places may stand behind `last`.
module _ (f : FlatForm) (base : ℕ) (know : (ℕ → Context) → Type 0) (names : List (List ℕ)) (i : Instance) (k : Known) (declared : Declared) (knows : KnowsCopies f base names i.callees k declared) (calm : Bool) (recalls : calm ≡ false → Recalls f know i) where
  -- in a calm instance nothing is misplaced in combinatorial context
  abbrev pub Calm : Misplaced → Type 0
  Calm m = calm ≡ true → m kinds.combinatorial ≡ []

  -- where something is, it isn't calm
  pub not-calm : (calm ≡ true → ⊥) → calm ≡ false
  not-calm h = by_case calm refl
    where
      by_case : (b : Bool) → calm ≡ b → b ≡ false
      by_case true e = absurd (h e)
      by_case false e = refl

  -- then nothing is asked
  pub vacuous : (m : Misplaced) → calm ≡ false → Calm m
  vacuous m busy e = absurd (both calm e busy)
    where
      both : (b : Bool) → b ≡ true → b ≡ false → ⊥
      both true e g = cc
      both false e g = cc

  -- a call of a known name stands in its context
  call-found : (c : kinds.Context) (o : Option Op) (x : Name) (args : List Walk) (results : ℕ) (s : Option Signature) → built_in_op names x.id ≡ o → k.signature x.id ≡ s → call_broken s x (length args) results ≡ [] →
      kinds.allows_call (declared x.id) c ≡ true → AllByRecursion (WalkIn f base know c) args → WalkIn f base know c (call_or_built_in base names i o x args)
  call-found c (Some op) x args results s is sig h ok hs here t = built_in-regular f base know c names i op x.at args hs here t
  call-found c None x args results None is sig h ok hs here t = absurd (cc)
  call-found c None x args results (Some s) is sig h ok hs here t =
      let d = knows.signatures x.id s sig is in
      call-regular f base know c names i x args d.kind d.copy d.is (subst (λ o. kinds.allows_call o c ≡ true) d.known ok) d.stands hs here t

  -- so does a name that is read: a variable, or a constant
  read-found : (c : kinds.Context) (v : Option Variable) (x : Name) (visible : List ℕ) (b d : Bool) → variable_of i.variables x.id ≡ v → among visible x.id ≡ b → among k.constants x.id ≡ d → not (b || d) ≡ false → Covers i visible →
      WalkIn f base know c (read base names i v x)
  read-found c (Some v) x visible b d is eb ed h covers here t = leaf-regular f base know c v.ty x.at (Read v.place) here t refl tt tt (λ context. tt) (λ context n. tt)
  read-found c None x visible true d is eb ed h covers here t = let v = covers x.id eb in let e = v.is in absurd (no_variable v.variable (sym is ∙ e))
    where
      no_variable : (v : Variable) → None ≡ Some v → ⊥
      no_variable v h = cc
  read-found c None x visible false true is eb ed h covers here t =
      let d = knows.constants x.id ed in
      call-regular f base know c names i x [] d.kind d.copy d.is (subst (λ o. kinds.allows_call o c ≡ true) d.known refl) d.stands tt here t
  read-found c None x visible false false is eb ed h covers here t = absurd (cc)

  -- `last` stands where it is allowed
  last-allowed : (c : kinds.Context) (p : ℕ) → kinds.allows_last c ≡ true → IsAllowed (flat c) (Last p)
  last-allowed kinds.combinatorial p h = absurd (cc)
  last-allowed kinds.recalling p h = inl refl
  last-allowed kinds.discrete p h = inr refl
  last-allowed kinds.hybrid p h = absurd (cc)

  -- a `last` of a variable stands there
  last-found : (c : kinds.Context) (v : Option Variable) (x : Name) (at : Pos) (visible : List ℕ) (b : Bool) → variable_of i.variables x.id ≡ v → among visible x.id ≡ b → not b ≡ false → Covers i visible → kinds.allows_last c ≡ true → calm ≡ false →
      WalkIn f base know c (λ here. last_of v here at)
  last-found c (Some v) x at visible b is eb h covers ok busy here t = leaf-regular f base know c v.ty at (Last v.place) here t refl tt (last-allowed c v.place ok) (λ context. tt) (λ context n. recalls busy x.id v is context n)
  last-found c None x at visible true is eb h covers ok busy here t = let v = covers x.id eb in let e = v.is in absurd (no_variable v.variable (sym is ∙ e))
    where
      no_variable : (v : Variable) → None ≡ Some v → ⊥
      no_variable v h = cc
  last-found c None x at visible false is eb h covers ok busy here t = absurd (cc)

  -- what is asked where nothing is misplaced
  no-last : (at : Pos) → unless_allowed false at ≡ [] → ⊥
  no-last at h = cc

  no-flow : (at : Pos) (more : List Pos) → unless_allowed false at ++ more ≡ [] → ⊥
  no-flow at more h = cc

  -- the operand of a prefix operator is combinatorial where that is
  operand-calm : (op : Prefix) (at : Pos) (m : Misplaced) → unless_allowed (kinds.allows_prefix op kinds.combinatorial) at ++ m (kinds.operand_context op kinds.combinatorial) ≡ [] → m kinds.combinatorial ≡ []
  operand-calm prefix.Minus at m h = h
  operand-calm prefix.MinusDot at m h = h
  operand-calm prefix.Not at m h = h
  operand-calm prefix.Pre at m h = absurd (cc)

  -- what an expression makes stands in its context, where nothing in it is misplaced and its names are known
  abbrev pub ExprRegular : Expr → Type 0
  ExprRegular x = (c : kinds.Context) (results : ℕ) (visible : List ℕ) → Covers i visible → expr_uses k x results visible ≡ [] → expr_misplaced declared x c ≡ [] → Calm (expr_misplaced declared x) → WalkIn f base know c (expr_walk base names i x)

  abbrev pub LinkTreeRegular : Link → Type 0
  LinkTreeRegular l = (c : kinds.Context) (visible : List ℕ) → Covers i visible → link_uses k l visible ≡ [] → link_misplaced declared l c ≡ [] → Calm (link_misplaced declared l) → LinkIn f base know c (link_walk base names i l)

  -- what is known of the parts of an expression
  abbrev TheExpr : Type 0
  TheExpr = (e : Expr) × ExprRegular e

  abbrev TheLink : Type 0
  TheLink = (l : Link) × LinkTreeRegular l

  -- so do arguments, and operators of a chain
  args-regular : (c : kinds.Context) (xs : List TheExpr) (visible : List ℕ) → Covers i visible → each_value (map (expr_uses k) (map (λ e. e.0) xs)) visible ≡ [] → all_misplaced (map (expr_misplaced declared) (map (λ e. e.0) xs)) c ≡ [] → Calm (all_misplaced (map (expr_misplaced declared) (map (λ e. e.0) xs))) →
      AllByRecursion (WalkIn f base know c) (map (expr_walk base names i) (map (λ e. e.0) xs))
  args-regular c [] visible v h m q = tt
  args-regular c (x ∷ xs) visible v h m q =
      let first = expr_uses k x.0 1 visible in
      let rest = each_value (map (expr_uses k) (map (λ e. e.0) xs)) visible in
      let one = expr_misplaced declared x.0 c in
      let more = all_misplaced (map (expr_misplaced declared) (map (λ e. e.0) xs)) c in (
        x.1 c 1 visible v (none-left first rest h) (none-left one more m) (λ e. none-left (expr_misplaced declared x.0 kinds.combinatorial) (all_misplaced (map (expr_misplaced declared) (map (λ e. e.0) xs)) kinds.combinatorial) (q e)),
        args-regular c xs visible v (none-right first rest h) (none-right one more m) (λ e. none-right (expr_misplaced declared x.0 kinds.combinatorial) (all_misplaced (map (expr_misplaced declared) (map (λ e. e.0) xs)) kinds.combinatorial) (q e)),
      )

  all-links-regular : (c : kinds.Context) (ls : List TheLink) (visible : List ℕ) → Covers i visible → all_uses (map (link_uses k) (map (λ l. l.0) ls)) visible ≡ [] → all_misplaced (map (link_misplaced declared) (map (λ l. l.0) ls)) c ≡ [] → Calm (all_misplaced (map (link_misplaced declared) (map (λ l. l.0) ls))) →
      AllByRecursion (LinkIn f base know c) (map (link_walk base names i) (map (λ l. l.0) ls))
  all-links-regular c [] visible v h m q = tt
  all-links-regular c (l ∷ ls) visible v h m q =
      let first = link_uses k l.0 visible in
      let rest = all_uses (map (link_uses k) (map (λ l. l.0) ls)) visible in
      let one = link_misplaced declared l.0 c in
      let more = all_misplaced (map (link_misplaced declared) (map (λ l. l.0) ls)) c in (
        l.1 c visible v (none-left first rest h) (none-left one more m) (λ e. none-left (link_misplaced declared l.0 kinds.combinatorial) (all_misplaced (map (link_misplaced declared) (map (λ l. l.0) ls)) kinds.combinatorial) (q e)),
        all-links-regular c ls visible v (none-right first rest h) (none-right one more m) (λ e. none-right (link_misplaced declared l.0 kinds.combinatorial) (all_misplaced (map (link_misplaced declared) (map (λ l. l.0) ls)) kinds.combinatorial) (q e)),
      )

  -- two images of a list have the same length
  same-length : {A B C : Type 0} (g : A → B) (h : A → C) (xs : List A) → length (map g xs) ≡ length (map h xs)
  same-length g h [] = refl
  same-length g h (x ∷ xs) = let e = same-length g h xs in omega (arith, e)

  -- one layer of an expression, where its parts do
  expr-layer : (x : Expr-F TheExpr TheLink) (c : kinds.Context) (results : ℕ) (visible : List ℕ) → Covers i visible →
      used.expr_step k (map-Expr Expr Link (ℕ → Uses) Uses (expr_uses k) (link_uses k) (map-Expr TheExpr TheLink Expr Link (λ e. e.0) (λ l. l.0) x)) results visible ≡ [] →
      kinds.expr_step declared (map-Expr Expr Link Misplaced Misplaced (expr_misplaced declared) (link_misplaced declared) (map-Expr TheExpr TheLink Expr Link (λ e. e.0) (λ l. l.0) x)) c ≡ [] →
      Calm (kinds.expr_step declared (map-Expr Expr Link Misplaced Misplaced (expr_misplaced declared) (link_misplaced declared) (map-Expr TheExpr TheLink Expr Link (λ e. e.0) (λ l. l.0) x))) →
      WalkIn f base know c (walk.expr_step base names i (map-Expr Expr Link Walk LinkWalk (expr_walk base names i) (link_walk base names i) (map-Expr TheExpr TheLink Expr Link (λ e. e.0) (λ l. l.0) x)))
  expr-layer (open_expr.Lit v at) c results visible covers h m q here s = leaf-regular f base know c (value_type v) at (Lit v) here s refl tt tt (λ context. tt) (λ context n. tt)
  expr-layer (open_expr.Var x) c results visible covers h m q here s =
      read-found c (variable_of i.variables x.id) x visible (among visible x.id) (among k.constants x.id) refl refl refl (kept-if (not (among visible x.id || among k.constants x.id)) rule.NameUnknown x.at h) covers here s
  expr-layer (open_expr.Last x at) c results visible covers h m q here s =
      last-found c (variable_of i.variables x.id) x at visible (among visible x.id) refl refl
      (kept-if (not (among visible x.id)) rule.NameUnknown x.at
      (none-left (broken_if (not (among visible x.id)) rule.NameUnknown x.at) (broken_if (among k.parameters x.id) rule.Last at) h)) covers (allowed (kinds.allows_last c) at m) (not-calm (λ e. no-last at (q e))) here s
  expr-layer (open_expr.Call x args) c results visible covers h m q here s =
      let uses = map (expr_uses k) (map (λ e. e.0) args) in
      let walks = map (expr_walk base names i) (map (λ e. e.0) args) in
      let broken = call_broken (k.signature x.id) x (length uses) results in
      let rest = each_value uses visible in
      let wrong = unless_allowed (kinds.allows_call (declared x.id) c) x.at in
      let inner = kinds.argument_context (declared x.id) c in
      let more = all_misplaced (map (expr_misplaced declared) (map (λ e. e.0) args)) in
      let ok = allowed (kinds.allows_call (declared x.id) c) x.at (none-left wrong (more inner) m) in
      call-found c (built_in_op names x.id) x walks results (k.signature x.id) refl refl
      (subst (λ n. call_broken (k.signature x.id) x n results ≡ []) (same-length (expr_uses k) (expr_walk base names i) (map (λ e. e.0) args)) (none-left broken rest h)) ok
      (args-regular c args visible covers (none-right broken rest h) (subst (λ d. more d ≡ []) (argument-context (declared x.id) c ok) (none-right wrong (more inner) m))
      (λ e.
      let A = kinds.combinatorial in
      let wrong = unless_allowed (kinds.allows_call (declared x.id) A) x.at in
      let inner = kinds.argument_context (declared x.id) A in
      subst (λ d. more d ≡ []) (argument-context (declared x.id) A (allowed (kinds.allows_call (declared x.id) A) x.at (none-left wrong (more inner) (q e)))) (none-right wrong (more inner) (q e)))) here s
  expr-layer (open_expr.Prefix op at x) c results visible covers h m q here s =
      let wrong = unless_allowed (kinds.allows_prefix op c) at in
      let inner = expr_misplaced declared x.0 (kinds.operand_context op c) in
      prefixed-regular f base know c names i op at (expr_walk base names i x.0) (allowed (kinds.allows_prefix op c) at (none-left wrong inner m)) (x.1 (kinds.operand_context op c) 1 visible covers h (none-right wrong inner m) (λ e. operand-calm op at (expr_misplaced declared x.0) (q e))) here s
  expr-layer (open_expr.Chain x ls) c results visible covers h m q here s =
      let first = expr_uses k x.0 1 visible in
      let rest = all_uses (map (link_uses k) (map (λ l. l.0) ls)) visible in
      let one = expr_misplaced declared x.0 c in
      let more = all_misplaced (map (link_misplaced declared) (map (λ l. l.0) ls)) c in
      chain-regular f base know c (expr_walk base names i x.0) (map (link_walk base names i) (map (λ l. l.0) ls)) (x.1 c 1 visible covers (none-left first rest h) (none-left one more m) (λ e. none-left (expr_misplaced declared x.0 kinds.combinatorial) (all_misplaced (map (link_misplaced declared) (map (λ l. l.0) ls)) kinds.combinatorial) (q e)))
      (all-links-regular c ls visible covers (none-right first rest h) (none-right one more m) (λ e. none-right (expr_misplaced declared x.0 kinds.combinatorial) (all_misplaced (map (link_misplaced declared) (map (λ l. l.0) ls)) kinds.combinatorial) (q e))) here s
  expr-layer (open_expr.Flow op at x y) c results visible covers h m q here s =
      let first = expr_uses k x.0 1 visible in
      let rest = expr_uses k y.0 1 visible in
      let one = expr_misplaced declared x.0 kinds.discrete in
      let wrong = unless_allowed (kinds.is_discrete c) at in
      let more = expr_misplaced declared y.0 kinds.discrete in
      let behind = none-right one (wrong ++ more) m in
      let busy = not-calm (λ e. no-flow at more (none-right one (unless_allowed false at ++ more) (q e))) in
      flow-regular f base know c names i op at (expr_walk base names i x.0) (expr_walk base names i y.0) (allowed (kinds.is_discrete c) at (none-left wrong more behind))
      (x.1 kinds.discrete 1 visible covers (none-left first rest h) (none-left one (wrong ++ more) m) (vacuous (expr_misplaced declared x.0) busy)) (y.1 kinds.discrete 1 visible covers (none-right first rest h) (none-right wrong more behind) (vacuous (expr_misplaced declared y.0) busy)) here s
  expr-layer (open_expr.If at z x y) c results visible covers h m q here s =
      let test = expr_uses k z.0 1 visible in
      let first = expr_uses k x.0 1 visible in
      let rest = expr_uses k y.0 1 visible in
      let behind = none-right test (first ++ rest) h in
      let d = kinds.branch_context c in
      let a = expr_misplaced declared z.0 c in
      let b = expr_misplaced declared x.0 d in
      let e = expr_misplaced declared y.0 d in
      let later = none-right a (b ++ e) m in
      let A = kinds.combinatorial in
      let a0 = expr_misplaced declared z.0 A in
      let b0 = expr_misplaced declared x.0 A in
      let e0 = expr_misplaced declared y.0 A in
      conditional-regular f base know c names i at (expr_walk base names i z.0) (expr_walk base names i x.0) (expr_walk base names i y.0)
      (z.1 c 1 visible covers (none-left test (first ++ rest) h) (none-left a (b ++ e) m) (λ g. none-left a0 (b0 ++ e0) (q g)))
      (x.1 d 1 visible covers (none-left first rest behind) (none-left b e later) (λ g. none-left b0 e0 (none-right a0 (b0 ++ e0) (q g))))
      (y.1 d 1 visible covers (none-right first rest behind) (none-right b e later) (λ g. none-right b0 e0 (none-right a0 (b0 ++ e0) (q g)))) here s

  link-layer : (l : Link-F TheExpr TheLink) (c : kinds.Context) (visible : List ℕ) → Covers i visible →
      used.link_step k (map-Link Expr Link (ℕ → Uses) Uses (expr_uses k) (link_uses k) (map-Link TheExpr TheLink Expr Link (λ e. e.0) (λ l. l.0) l)) visible ≡ [] →
      kinds.link_step declared (map-Link Expr Link Misplaced Misplaced (expr_misplaced declared) (link_misplaced declared) (map-Link TheExpr TheLink Expr Link (λ e. e.0) (λ l. l.0) l)) c ≡ [] →
      Calm (kinds.link_step declared (map-Link Expr Link Misplaced Misplaced (expr_misplaced declared) (link_misplaced declared) (map-Link TheExpr TheLink Expr Link (λ e. e.0) (λ l. l.0) l))) →
      LinkIn f base know c (walk.link_step base names i (map-Link Expr Link Walk LinkWalk (expr_walk base names i) (link_walk base names i) (map-Link TheExpr TheLink Expr Link (λ e. e.0) (λ l. l.0) l)))
  link-layer l c visible covers h m q here left s = link-regular f base know c l.op l.at (expr_walk base names i l.arg.0) (l.arg.1 c 1 visible covers h m q) here left s

  pub expr-regular : (x : Expr) → ExprRegular x
  unfolding expr_uses link_uses expr_walk link_walk expr_misplaced link_misplaced
  expr-regular = ind-Expr ExprRegular LinkTreeRegular
      (λ x y is.
      subst (λ z. ExprRegular (roll-Expr z)) is
      (λ c results visible covers h m q.
      subst (λ w. WalkIn f base know c w) (sym (fold-roll-Expr Walk LinkWalk (walk.expr_step base names i) (walk.link_step base names i) (map-Expr TheExpr TheLink Expr Link (λ e. e.0) (λ l. l.0) y)))
      (expr-layer y c results visible covers
      (subst (λ (u : ℕ → Uses). u results visible ≡ []) (fold-roll-Expr (ℕ → Uses) Uses (used.expr_step k) (used.link_step k) (map-Expr TheExpr TheLink Expr Link (λ e. e.0) (λ l. l.0) y)) h)
      (subst (λ (u : Misplaced). u c ≡ []) (fold-roll-Expr Misplaced Misplaced (kinds.expr_step declared) (kinds.link_step declared) (map-Expr TheExpr TheLink Expr Link (λ e. e.0) (λ l. l.0) y)) m)
      (λ g. subst (λ (u : Misplaced). u kinds.combinatorial ≡ []) (fold-roll-Expr Misplaced Misplaced (kinds.expr_step declared) (kinds.link_step declared) (map-Expr TheExpr TheLink Expr Link (λ e. e.0) (λ l. l.0) y)) (q g)))))
      (λ x y is.
      subst (λ z. LinkTreeRegular (roll-Link z)) is
      (λ c visible covers h m q.
      subst (λ w. LinkIn f base know c w) (sym (fold-roll-Link Walk LinkWalk (walk.expr_step base names i) (walk.link_step base names i) (map-Link TheExpr TheLink Expr Link (λ e. e.0) (λ l. l.0) y)))
      (link-layer y c visible covers
      (subst (λ (u : Uses). u visible ≡ []) (fold-roll-Link (ℕ → Uses) Uses (used.expr_step k) (used.link_step k) (map-Link TheExpr TheLink Expr Link (λ e. e.0) (λ l. l.0) y)) h)
      (subst (λ (u : Misplaced). u c ≡ []) (fold-roll-Link Misplaced Misplaced (kinds.expr_step declared) (kinds.link_step declared) (map-Link TheExpr TheLink Expr Link (λ e. e.0) (λ l. l.0) y)) m)
      (λ g. subst (λ (u : Misplaced). u kinds.combinatorial ≡ []) (fold-roll-Link Misplaced Misplaced (kinds.expr_step declared) (kinds.link_step declared) (map-Link TheExpr TheLink Expr Link (λ e. e.0) (λ l. l.0) y)) (q g)))))
