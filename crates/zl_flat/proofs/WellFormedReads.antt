-- What an expression reads has its place in the form: it has the place's type, and stands where the place is declared.
use Rattle.std.proofs.Common.{◌≡◌, ℕ, Bool, true, false, not, ◌||◌, List, [], ◌∷◌, ◌++◌, map, length, slice_get, Option, Some, None, refl, sym, subst, ◌∙◌}
use Rattle.std.specs.List.{AllByRecursion}
use Rattle.zl_value.specs.declared.position.Pos.{Pos}
use Rattle.zl_value.specs.declared.rule.Rule.TheVariants as rule
use Rattle.zl_value.specs.declared.value.Ty.{Ty}
use Rattle.zl_value.specs.declared.op.Op.{Op}
use Rattle.zl_ast.specs.declared.name.Name.{Name}
use Rattle.zl_ast.specs.declared.operator.Prefix.{Prefix}
use Rattle.zl_ast.specs.declared.operator.Prefix.TheVariants as prefix
use Rattle.zl_ast.specs.declared.operator.FlowOp.TheVariants as flow
use Rattle.zl_ast.specs.declared.expr.Expr.{Expr, roll-Expr}
use Rattle.zl_ast.specs.declared.expr.Link.{Link, roll-Link}
use Rattle.zl_ast.specs.declared.expr.Expr.TheOpen.{Expr-F, Link-F}
use Rattle.zl_ast.specs.declared.expr.Expr.TheOpen as open_expr
use Rattle.zl_ast.specs.declared.expr.Expr.TheFolds.{fold-roll-Expr, fold-roll-Link, ind-Expr, map-Expr, map-Link}
use Rattle.zl_ast.specs.Names.{broken_if, among}
use Rattle.zl_ast.specs.NamesUsed as used
use Rattle.zl_ast.specs.NamesUsed.{Known, Uses, all_uses, each_value, call_broken, expr_uses, link_uses}
use Rattle.zl_meaning.specs.FlatForm.{FlatForm, parent_of, IsWithin, Inside}
use Rattle.zl_meaning.specs.WellFormed.{HasType, IsDeclared}
use Rattle.zl_meaning.specs.declared.place.Definer.{Definer}
use Rattle.zl_meaning.specs.declared.place.Definer.TheVariants.{Input, Plain, Der, Start}
use Rattle.zl_meaning.specs.declared.place.PlaceInfo.{PlaceInfo}
use Rattle.zl_meaning.specs.declared.occurrence.Form.{Form}
use Rattle.zl_meaning.specs.declared.occurrence.Form.TheVariants.{Read, Last}
use Rattle.zl_meaning.specs.declared.occurrence.Occ.{Occ}
use Rattle.zl_flat.specs.declared.variable.Variable.{Variable}
use Rattle.zl_flat.specs.declared.here.Here.{Here}
use Rattle.zl_flat.specs.declared.here.Root.{Root}
use Rattle.zl_flat.specs.Parts.{Parts, Counters, joined, one_occ, one_hidden, after, past_occ, past_hidden}
use Rattle.zl_flat.specs.Variables.{variable_of}
use Rattle.zl_flat.specs.Instances.{Callee, Instance, in_call, occ_here, callee}
use Rattle.zl_flat.specs.Operators.{built_in_op, prefix_form}
use Rattle.zl_flat.specs.Expressions as walk
use Rattle.zl_flat.specs.Expressions.{Walk, walk_all, LinkWalk, links, last_of, call, call_or_built_in, read, expr_walk, link_walk}
use Rattle.zl_flat.proofs.WellFormedParts.{Laws, Each, each-nothing, each-joined, each-left, each-right, each-one_occ, occ-first, behind-occ, hidden-first, behind-hidden}
use Rattle.zl_flat.proofs.WellFormedGround.{standing, Sits}
use Rattle.zl_flat.proofs.RulesKept.{none-left, none-right, kept-if}
use Rattle.zl_flat.proofs.WellFormedCopies.{VariableStands}

-- ---- the words

-- a place of which the value or the last value is read has this type, and is declared by block `b` or by one that `b` stands in
abbrev pub FormPlaced : FlatForm → ℕ → Ty → Form → Type 0
FormPlaced f b ty (Read p) = HasType f ty p × IsDeclared f b p
FormPlaced f b ty (Last p) = HasType f ty p × IsDeclared f b p
FormPlaced f b ty _ = Unit {0}

-- a definer stands where its place is declared, or inside it; an input has its number, and no call
abbrev pub DefinerPlaced : FlatForm → ℕ → Definer → Type 0
DefinerPlaced f p (Input n) = (slice_get f.ins n ≡ Some p) × (place : PlaceInfo) × (slice_get f.places p ≡ Some place) × (place.block ≡ 0) × (place.call ≡ None)
DefinerPlaced f p (Plain b k) = IsDeclared f b p
DefinerPlaced f p (Der b slope resets) = IsDeclared f b p
DefinerPlaced f p (Start b k) = IsDeclared f b p

-- the laws of reads and definers
abbrev pub placing : FlatForm → Laws
placing f = record {
  blocks = λ n x. Unit {0};
  places = λ n x. Unit {0};
  definers = λ n x. DefinerPlaced f x.place x.definer;
  occs = λ n x. FormPlaced f x.block x.ty x.form;
  hidden = λ n x. FormPlaced f x.block x.ty x.form;
  sites = λ n x. Unit {0};
  choices = λ n x. Unit {0};
  automata = λ n x. Unit {0};
}

-- what these parts read and define has its place
abbrev pub Places : FlatForm → Counters → Parts → Type 0
Places f s p = Each (placing f) s p

-- the variable of this name is declared by block `b` or by one that `b` stands in
pub record DeclaredHere (f : FlatForm) (i : Instance) (b id : ℕ) : Type 0 where
  pub variable : Variable
  pub is : variable_of i.variables id ≡ Some variable
  pub place : PlaceInfo
  pub place_is : slice_get f.places variable.place ≡ Some place
  pub within : IsWithin f place.block b
  pub named : place.name ≡ id

-- the variable of this name has a place in the form, and is no constant
pub record IsOwn (f : FlatForm) (k : Known) (id : ℕ) (v : Variable) : Type 0 where
  pub stands : VariableStands f v
  pub differs : among k.constants id ≡ false

-- so is each of these variables
abbrev pub CoversPlaces : FlatForm → Instance → ℕ → List ℕ → Type 0
CoversPlaces f i b visible = (id : ℕ) → among visible id ≡ true → DeclaredHere f i b id

-- what is declared by a block is declared for those that stand in it
pub covers-inside : (f : FlatForm) (i : Instance) (b inner : ℕ) (visible : List ℕ) → parent_of f inner ≡ Some b → CoversPlaces f i b visible → CoversPlaces f i inner visible
covers-inside f i b inner visible e c id is = let a = c id is in record { variable = a.variable; is = a.is; place = a.place; place_is = a.place_is; within = Inside inner b e a.within; named = a.named }

module _ (f : FlatForm) (base : ℕ) where
  -- ---- parts

  -- parts one behind the other, and one part before others
  pub both-place : (s : Counters) (p q : Parts) → Sits f base s (joined p q) → (Sits f base s p → Places f s p) → (Sits f base (after s p) q → Places f (after s p) q) → Places f s (joined p q)
  both-place s p q sits hp hq = each-joined (placing f) s p q (hp (each-left (standing f base) s p q sits)) (hq (each-right (standing f base) s p q sits))

  pub occ-places : (s : Counters) (x : Occ) (q : Parts) → Sits f base s (joined (one_occ x) q) → FormPlaced f x.block x.ty x.form → (Sits f base (past_occ s) q → Places f (past_occ s) q) → Places f s (joined (one_occ x) q)
  occ-places s x q sits h hq = occ-first (placing f) s x q h (hq (behind-occ (standing f base) s x q sits).1)

  pub hidden-places : (s : Counters) (x : Occ) (q : Parts) → Sits f base s (joined (one_hidden x) q) → FormPlaced f x.block x.ty x.form → (Sits f base (past_hidden s) q → Places f (past_hidden s) q) → Places f s (joined (one_hidden x) q)
  hidden-places s x q sits h hq = hidden-first (placing f) s x q h (hq (behind-hidden (standing f base) s x q sits).1)

  -- ---- walks

  -- what reads and definers of a copy, a walk and a link have, where their parts are those of the form
  abbrev pub CalleePlaces : Callee → Type 0
  CalleePlaces c = (here : Here) (roots : List Root) (s : Counters) → Sits f base s (c here roots s).parts → Places f s (c here roots s).parts

  module _ (i : Instance) (visible : List ℕ) where
    abbrev pub WalkPlaces : Walk → Type 0
    WalkPlaces w = (here : Here) (s : Counters) → CoversPlaces f i here.block visible → Sits f base s (w here s).parts → Places f s (w here s).parts

    abbrev pub LinkPlaces : LinkWalk → Type 0
    LinkPlaces l = (here : Here) (left : Root) (s : Counters) → CoversPlaces f i here.block visible → Sits f base s (l here left s).parts → Places f s (l here left s).parts

    -- expressions one behind the other
    pub walk_all-places : (ws : List Walk) → AllByRecursion WalkPlaces ws → (here : Here) (s : Counters) → CoversPlaces f i here.block visible → Sits f base s (walk_all ws here s).parts → Places f s (walk_all ws here s).parts
    walk_all-places [] hs here s c sits = each-nothing (placing f) s
    walk_all-places (w ∷ ws) hs here s c sits = both-place s _ _ sits (hs.0 here s c) (walk_all-places ws hs.1 here (after s (w here s).parts) c)

    links-places : (ls : List LinkWalk) → AllByRecursion LinkPlaces ls → (here : Here) (left : Root) (s : Counters) → CoversPlaces f i here.block visible → Sits f base s (links ls here left s).parts → Places f s (links ls here left s).parts
    links-places [] hs here left s c sits = each-nothing (placing f) s
    links-places (l ∷ ls) hs here left s c sits = let one = l here left s in both-place s _ _ sits (hs.0 here left s c) (links-places ls hs.1 here one.root (after s one.parts) c)

  module _ (names : List (List ℕ)) (i : Instance) (k : Known) (callees : (id : ℕ) (c : Callee) → i.callees id ≡ Some c → CalleePlaces c) (stands : (id : ℕ) (v : Variable) → variable_of i.variables id ≡ Some v → IsOwn f k id v) where
    copy-places : (o : Option Callee) (id : ℕ) → i.callees id ≡ o → (here : Here) (roots : List Root) (s : Counters) → Sits f base s (callee o here roots s).parts → Places f s (callee o here roots s).parts
    copy-places None id e here roots s sits = each-nothing (placing f) s
    copy-places (Some c) id e here roots s sits = callees id c e here roots s sits

    call-places : (visible : List ℕ) (x : Name) (args : List Walk) → AllByRecursion (WalkPlaces i visible) args → WalkPlaces i visible (call base names i x args)
    call-places visible x args hs here s c sits =
        let inside = in_call s.occs here in
        let t = past_occ s in
        let arguments = walk_all args inside t in
        occ-places s _ _ sits tt (λ h. both-place t _ _ h (walk_all-places i visible args hs inside t c) (copy-places (i.callees x.id) x.id refl inside arguments.roots (after t arguments.parts)))

    applied-places : (visible : List ℕ) (o : Option Op) (x : Name) (args : List Walk) → AllByRecursion (WalkPlaces i visible) args → WalkPlaces i visible (call_or_built_in base names i o x args)
    applied-places visible None x args hs here s c sits = call-places visible x args hs here s c sits
    applied-places visible (Some op) x args hs here s c sits = occ-places s _ _ sits tt (walk_all-places i visible args hs here (past_occ s) c)

    typed : (id : ℕ) (v : Variable) → variable_of i.variables id ≡ Some v → HasType f v.ty v.place
    typed id v e = let own = stands id v e in let a = own.stands in record { place = a.place; is = a.is; typed = a.typed }

    declared : (b id : ℕ) (v : Variable) → variable_of i.variables id ≡ Some v → DeclaredHere f i b id → IsDeclared f b v.place
    declared b id v e d = subst (λ (w : Variable). IsDeclared f b w.place) (same d.variable v (sym d.is ∙ e)) (d.place, d.place_is, d.within)
      where
        same : (a b : Variable) → Some a ≡ Some b → a ≡ b
        same a b e = cc

    read-places : (visible : List ℕ) (v : Option Variable) (x : Name) (b d : Bool) → variable_of i.variables x.id ≡ v → among visible x.id ≡ b → among k.constants x.id ≡ d → not (b || d) ≡ false → WalkPlaces i visible (read base names i v x)
    read-places visible None x b d e seen constant h here s c sits = call-places visible x [] tt here s c sits
    read-places visible (Some v) x true d e seen constant h here s c sits = each-one_occ (placing f) s (occ_here here v.ty x.at (Read v.place)) (typed x.id v e, declared here.block x.id v e (c x.id seen))
    read-places visible (Some v) x false true e seen constant h here s c sits = let own = stands x.id v e in absurd (differ (sym constant ∙ own.differs))
      where
        differ : true ≡ false → ⊥
        differ e = cc
    read-places visible (Some v) x false false e seen constant h here s c sits = absurd (cc)

    last-places : (visible : List ℕ) (v : Option Variable) (x : Name) (at : Pos) → variable_of i.variables x.id ≡ v → among visible x.id ≡ true → WalkPlaces i visible (λ here. last_of v here at)
    last-places visible (Some v) x at e h here s c sits = each-one_occ (placing f) s (occ_here here v.ty at (Last v.place)) (typed x.id v e, declared here.block x.id v e (c x.id h))
    last-places visible None x at e h here s c sits = let d = c x.id h in absurd (no_variable d.variable (sym e ∙ d.is))
      where
        no_variable : (v : Variable) → None ≡ Some v → ⊥
        no_variable v h = cc

    prefix-placed : (op : Prefix) (b : ℕ) (ty : Ty) (k : ℕ) → FormPlaced f b ty (prefix_form op k)
    prefix-placed prefix.Minus b ty k = tt
    prefix-placed prefix.MinusDot b ty k = tt
    prefix-placed prefix.Not b ty k = tt
    prefix-placed prefix.Pre b ty k = tt

    -- ---- down the tree

    abbrev pub ExprPlaces : Expr → Type 0
    ExprPlaces x = (results : ℕ) (visible : List ℕ) → expr_uses k x results visible ≡ [] → WalkPlaces i visible (expr_walk base names i x)

    abbrev pub LinkTreePlaces : Link → Type 0
    LinkTreePlaces l = (visible : List ℕ) → link_uses k l visible ≡ [] → LinkPlaces i visible (link_walk base names i l)

    abbrev TheExpr : Type 0
    TheExpr = (e : Expr) × ExprPlaces e

    abbrev TheLink : Type 0
    TheLink = (l : Link) × LinkTreePlaces l

    args-place : (xs : List TheExpr) (visible : List ℕ) → each_value (map (expr_uses k) (map (λ e. e.0) xs)) visible ≡ [] → AllByRecursion (WalkPlaces i visible) (map (expr_walk base names i) (map (λ e. e.0) xs))
    args-place [] visible h = tt
    args-place (x ∷ xs) visible h =
        let first = expr_uses k x.0 1 visible in
        let rest = each_value (map (expr_uses k) (map (λ e. e.0) xs)) visible in
        (x.1 1 visible (none-left first rest h), args-place xs visible (none-right first rest h))

    all-links-place : (ls : List TheLink) (visible : List ℕ) → all_uses (map (link_uses k) (map (λ l. l.0) ls)) visible ≡ [] → AllByRecursion (LinkPlaces i visible) (map (link_walk base names i) (map (λ l. l.0) ls))
    all-links-place [] visible h = tt
    all-links-place (l ∷ ls) visible h =
        let first = link_uses k l.0 visible in
        let rest = all_uses (map (link_uses k) (map (λ l. l.0) ls)) visible in
        (l.1 visible (none-left first rest h), all-links-place ls visible (none-right first rest h))

    shown : (b : Bool) → not b ≡ false → b ≡ true
    shown true e = refl
    shown false e = absurd (cc)

    expr-layer : (x : Expr-F TheExpr TheLink) (results : ℕ) (visible : List ℕ) →
        (let step = map-Expr TheExpr TheLink Expr Link (λ e. e.0) (λ l. l.0) x in
        used.expr_step k (map-Expr Expr Link (ℕ → Uses) Uses (expr_uses k) (link_uses k) step) results visible ≡ [] → WalkPlaces i visible (walk.expr_step base names i (map-Expr Expr Link Walk LinkWalk (expr_walk base names i) (link_walk base names i) step)))
    expr-layer (open_expr.Lit v at) results visible h here s c sits = each-one_occ (placing f) s _ tt
    expr-layer (open_expr.Var x) results visible h here s c sits =
        let known = among visible x.id || among k.constants x.id in
        read-places visible (variable_of i.variables x.id) x (among visible x.id) (among k.constants x.id) refl refl refl (kept-if (not known) rule.NameUnknown x.at h) here s c sits
    expr-layer (open_expr.Last x at) results visible h here s c sits =
        let unknown = broken_if (not (among visible x.id)) rule.NameUnknown x.at in
        let kept = kept-if (not (among visible x.id)) rule.NameUnknown x.at (none-left unknown (broken_if (among k.parameters x.id) rule.Last at) h) in
        last-places visible (variable_of i.variables x.id) x at refl (shown (among visible x.id) kept) here s c sits
    expr-layer (open_expr.Call x args) results visible h here s c sits =
        let uses = map (expr_uses k) (map (λ e. e.0) args) in
        let broken = call_broken (k.signature x.id) x (length uses) results in
        applied-places visible (built_in_op names x.id) x (map (expr_walk base names i) (map (λ e. e.0) args)) (args-place args visible (none-right broken (each_value uses visible) h)) here s c sits
    expr-layer (open_expr.Prefix op at x) results visible h here s c sits = occ-places s _ _ sits (prefix-placed op here.block _ _) (x.1 1 visible h here (past_occ s) c)
    expr-layer (open_expr.Chain x ls) results visible h here s c sits =
        let first = expr_uses k x.0 1 visible in
        let rest = all_uses (map (link_uses k) (map (λ l. l.0) ls)) visible in
        let one = expr_walk base names i x.0 here s in
        both-place s _ _ sits (x.1 1 visible (none-left first rest h) here s c) (links-places i visible (map (link_walk base names i) (map (λ l. l.0) ls)) (all-links-place ls visible (none-right first rest h)) here one.root (after s one.parts) c)
    expr-layer (open_expr.Flow flow.Arrow at x y) results visible h here s c sits =
        let first = expr_uses k x.0 1 visible in
        let rest = expr_uses k y.0 1 visible in
        both-place s _ _ sits (x.1 1 visible (none-left first rest h) here s c) (λ u. occ-places _ _ _ u tt (y.1 1 visible (none-right first rest h) here _ c))
    expr-layer (open_expr.Flow flow.Fby at x y) results visible h here s c sits =
        let first = expr_uses k x.0 1 visible in
        let rest = expr_uses k y.0 1 visible in
        both-place s _ _ sits (x.1 1 visible (none-left first rest h) here s c) (λ u. occ-places _ _ _ u tt (λ v. hidden-places _ _ _ v tt (y.1 1 visible (none-right first rest h) here _ c)))
    expr-layer (open_expr.If at z x y) results visible h here s c sits =
        let test = expr_uses k z.0 1 visible in
        let first = expr_uses k x.0 1 visible in
        let rest = expr_uses k y.0 1 visible in
        let behind = none-right test (first ++ rest) h in
        occ-places s _ _ sits tt
        (λ u. both-place _ _ _ u (z.1 1 visible (none-left test (first ++ rest) h) here _ c)
        (λ v. both-place _ _ _ v (x.1 1 visible (none-left first rest behind) here _ c) (y.1 1 visible (none-right first rest behind) here _ c)))

    link-layer : (l : Link-F TheExpr TheLink) (visible : List ℕ) →
        (let step = map-Link TheExpr TheLink Expr Link (λ e. e.0) (λ l. l.0) l in
        used.link_step k (map-Link Expr Link (ℕ → Uses) Uses (expr_uses k) (link_uses k) step) visible ≡ [] → LinkPlaces i visible (walk.link_step base names i (map-Link Expr Link Walk LinkWalk (expr_walk base names i) (link_walk base names i) step)))
    link-layer l visible h here left s c sits = occ-places s _ _ sits tt (l.arg.1 1 visible h here (past_occ s) c)

    -- an expression that breaks no rule of names
    pub expr-places : (x : Expr) → ExprPlaces x
    unfolding expr_uses link_uses expr_walk link_walk
    expr-places = ind-Expr ExprPlaces LinkTreePlaces
        (λ x y is.
        let step = map-Expr TheExpr TheLink Expr Link (λ e. e.0) (λ l. l.0) y in
        subst (λ z. ExprPlaces (roll-Expr z)) is
        (λ results visible h.
        subst (WalkPlaces i visible) (sym (fold-roll-Expr Walk LinkWalk (walk.expr_step base names i) (walk.link_step base names i) step))
        (expr-layer y results visible (subst (λ (u : ℕ → Uses). u results visible ≡ []) (fold-roll-Expr (ℕ → Uses) Uses (used.expr_step k) (used.link_step k) step) h))))
        (λ x y is.
        let step = map-Link TheExpr TheLink Expr Link (λ e. e.0) (λ l. l.0) y in
        subst (λ z. LinkTreePlaces (roll-Link z)) is
        (λ visible h.
        subst (LinkPlaces i visible) (sym (fold-roll-Link Walk LinkWalk (walk.expr_step base names i) (walk.link_step base names i) step))
        (link-layer y visible (subst (λ (u : Uses). u visible ≡ []) (fold-roll-Link (ℕ → Uses) Uses (used.expr_step k) (used.link_step k) step) h))))
