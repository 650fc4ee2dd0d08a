-- What the walk of an expression makes is as many as its size says.
use Rattle.std.proofs.Common.{◌≡◌, ℕ, suc, ◌+◌, Bool, true, false, if◌then◌else◌, is_some, List, [], ◌∷◌, map, Option, Some, None, refl, sym, ap, subst, ◌∙◌, arith}
use Rattle.std.proofs.lemmas.List.{length-append}
use Rattle.zl_value.specs.declared.position.Pos.{Pos}
use Rattle.zl_value.specs.declared.op.Op.{Op}
use Rattle.zl_ast.specs.declared.name.Name.{Name}
use Rattle.zl_ast.specs.declared.operator.FlowOp.TheVariants as flow
use Rattle.zl_ast.specs.declared.expr.Expr.{Expr, roll-Expr}
use Rattle.zl_ast.specs.declared.expr.Link.{Link, roll-Link}
use Rattle.zl_ast.specs.declared.expr.Expr.TheOpen.{Expr-F, Link-F}
use Rattle.zl_ast.specs.declared.expr.Expr.TheOpen as open_expr
use Rattle.zl_ast.specs.declared.expr.Expr.TheFolds.{fold-roll-Expr, fold-roll-Link, ind-Expr, map-Expr, map-Link}
use Rattle.zl_meaning.specs.declared.block.Block.{Block}
use Rattle.zl_meaning.specs.declared.block.Choice.{Choice}
use Rattle.zl_meaning.specs.declared.block.Auto.{Auto}
use Rattle.zl_meaning.specs.declared.place.PlaceInfo.{PlaceInfo}
use Rattle.zl_meaning.specs.declared.occurrence.Occ.{Occ}
use Rattle.zl_meaning.specs.declared.occurrence.SiteInfo.{SiteInfo}
use Rattle.zl_flat.specs.declared.here.Here.{Here}
use Rattle.zl_flat.specs.declared.here.Root.{Root}
use Rattle.zl_flat.specs.declared.size.Size.{Size}
use Rattle.zl_flat.specs.declared.given.Given.{Given}
use Rattle.zl_flat.specs.declared.variable.Variable.{Variable}
use Rattle.zl_flat.specs.Parts.{Parts, Counters, nothing, joined, one_block, one_place, some_definers, one_occ, one_hidden, one_site, one_choice, one_automaton, after, past_occ}
use Rattle.zl_flat.specs.Variables.{variable_of, place_in_text}
use Rattle.zl_flat.specs.Sizes as sizes
use Rattle.zl_flat.specs.Sizes.{none, plus, total, a_place, an_occ, an_up, a_block, called_size, read_size, expr_size, link_size}
use Rattle.zl_flat.specs.Instances.{Instance, in_call, callee}
use Rattle.zl_flat.specs.Operators.{built_in_op}
pub use Rattle.zl_flat.specs.Counted.{AsMany}
use Rattle.zl_flat.specs.Expressions as walk
use Rattle.zl_flat.specs.Expressions.{Walk, LinkWalk, walk_all, links, last_of, call_or_built_in, read, expr_walk, link_walk}

-- nothing is as many as none
pub many-nothing : AsMany nothing none
unfolding nothing none
many-nothing = record { places = refl; occs = refl; sites = refl; blocks = refl }

-- what is made one behind the other is as many as both
pub many-joined : (p q : Parts) (x y : Size) → AsMany p x → AsMany q y → AsMany (joined p q) (plus x y)
unfolding joined plus
many-joined p q x y h k = record {
  places = length-append p.places q.places ∙ sum h.places k.places;
  occs = length-append p.occs q.occs ∙ sum h.occs k.occs;
  sites = length-append p.sites q.sites ∙ sum h.sites k.sites;
  blocks = length-append p.blocks q.blocks ∙ sum h.blocks k.blocks;
}
  where
    sum : {a b c d : ℕ} → a ≡ c → b ≡ d → a + b ≡ c + d
    sum e g = cc

-- ---- one of a kind

-- one occurrence, place or block is as many as its size says
pub many-occ : (x : Occ) → AsMany (one_occ x) an_occ
unfolding one_occ an_occ
many-occ x = record { places = refl; occs = refl; sites = refl; blocks = refl }

pub many-place : (x : PlaceInfo) → AsMany (one_place x) a_place
unfolding one_place a_place
many-place x = record { places = refl; occs = refl; sites = refl; blocks = refl }

pub many-block : (x : Block) → AsMany (one_block x) a_block
unfolding one_block a_block
many-block x = record { places = refl; occs = refl; sites = refl; blocks = refl }

-- an `up`: an occurrence and a site before its argument
pub many-up : (x : Occ) (y : SiteInfo) (q : Parts) (z : Size) → AsMany q z → AsMany (joined (one_occ x) (joined (one_site y) q)) (plus an_up z)
unfolding joined one_occ one_site plus an_up
many-up x y q z h = record { places = none_more h.places; occs = one_more h.occs; sites = one_more h.sites; blocks = none_more h.blocks }
  where
    none_more : {a b : ℕ} → a ≡ b → a ≡ 0 + b
    none_more e = omega (arith, e)

    one_more : {a b : ℕ} → a ≡ b → suc a ≡ 1 + b
    one_more e = omega (arith, e)

-- ---- what isn't counted

-- hidden occurrences, choices, automata and definers are not counted
pub many-hidden : (x : Occ) (q : Parts) (z : Size) → AsMany q z → AsMany (joined (one_hidden x) q) z
unfolding joined one_hidden
many-hidden x q z h = record { places = h.places; occs = h.occs; sites = h.sites; blocks = h.blocks }

pub many-choice : (x : Choice) (q : Parts) (z : Size) → AsMany q z → AsMany (joined (one_choice x) q) z
unfolding joined one_choice
many-choice x q z h = record { places = h.places; occs = h.occs; sites = h.sites; blocks = h.blocks }

pub many-automaton : (x : Auto) (q : Parts) (z : Size) → AsMany q z → AsMany (joined (one_automaton x) q) z
unfolding joined one_automaton
many-automaton x q z h = record { places = h.places; occs = h.occs; sites = h.sites; blocks = h.blocks }

pub many-some_definers : (xs : List Given) → AsMany (some_definers xs) none
unfolding some_definers none
many-some_definers xs = record { places = refl; occs = refl; sites = refl; blocks = refl }

-- nothing more
pub plus-none : (z : Size) → plus z none ≡ z
unfolding plus none
plus-none z = size-eq (omega arith) (omega arith) (omega arith) (omega arith) (omega arith)
  where
    size-eq : {x y : Size} → x.places ≡ y.places → x.occs ≡ y.occs → x.sites ≡ y.sites → x.blocks ≡ y.blocks → x.calls ≡ y.calls → x ≡ y
    size-eq a b c d e = λ i. record { places = a i; occs = b i; sites = c i; blocks = d i; calls = e i }

-- nothing before
pub none-plus : (z : Size) → plus none z ≡ z
unfolding plus none
none-plus z = size-eq (omega arith) (omega arith) (omega arith) (omega arith) (omega arith)
  where
    size-eq : {x y : Size} → x.places ≡ y.places → x.occs ≡ y.occs → x.sites ≡ y.sites → x.blocks ≡ y.blocks → x.calls ≡ y.calls → x ≡ y
    size-eq a b c d e = λ i. record { places = a i; occs = b i; sites = c i; blocks = d i; calls = e i }

-- the copy that a call makes is as many as the called declaration
pub many-in_call : (p : Parts) (z : Size) → AsMany p z → AsMany p (sizes.in_call z)
unfolding sizes.in_call
many-in_call p z h = record { places = h.places; occs = h.occs; sites = h.sites; blocks = h.blocks }

-- ---- walks of expressions

-- what the walk makes anywhere is as many as this size says
abbrev pub WalkMakes : Walk → Size → Type 0
WalkMakes w z = (here : Here) (s : Counters) → AsMany (w here s).parts z

abbrev pub LinkMakes : LinkWalk → Size → Type 0
LinkMakes l z = (here : Here) (left : Root) (s : Counters) → AsMany (l here left s).parts z

-- An instance whose callees make as many as these sizes say: a built-in function is none of them, and the variables are
-- those that have a place in the text.
pub record IsSized (names : List (List ℕ)) (i : Instance) (known : ℕ → Option Size) : Type 0 where
  pub called : (id : ℕ) (here : Here) (roots : List Root) (s : Counters) → AsMany (callee (i.callees id) here roots s).parts (called_size (known id))
  pub built_in : (id : ℕ) (op : Op) → built_in_op names id ≡ Some op → known id ≡ None
  pub placed : (id : ℕ) → is_some (place_in_text i.infos id) ≡ is_some (variable_of i.variables id)

module _ (base : ℕ) (names : List (List ℕ)) (i : Instance) (known : ℕ → Option Size) (sized : IsSized names i known) where
  -- an occurrence before what it is made of
  whole-makes : (x : Occ) (q : Parts) (z : Size) → AsMany q z → AsMany (joined (one_occ x) q) (plus an_occ z)
  whole-makes x q z h = many-joined (one_occ x) q an_occ z (many-occ x) h

  behind-nothing : (q : Parts) (z : Size) → AsMany q z → AsMany (joined nothing q) z
  behind-nothing q z h = subst (AsMany (joined nothing q)) (none-plus z) (many-joined nothing q none z many-nothing h)

  read-makes : (v : Option Variable) (b : Bool) (x : Name) → b ≡ is_some v → WalkMakes (read base names i v x) (if b then an_occ else plus an_occ (called_size (known x.id)))
  read-makes None true x e here s = absurd (cc)
  read-makes None false x e here s = whole-makes _ _ (called_size (known x.id)) (behind-nothing _ (called_size (known x.id)) (sized.called x.id _ _ _))
  read-makes (Some v) true x e here s = many-occ _
  read-makes (Some v) false x e here s = absurd (cc)

  last-makes : (v : Option Variable) (at : Pos) → WalkMakes (λ here. last_of v here at) an_occ
  last-makes None at here s = many-occ _
  last-makes (Some v) at here s = many-occ _

  call-makes : (o : Option Op) (x : Name) (args : List Walk) (z : Size) → built_in_op names x.id ≡ o → ((here : Here) (s : Counters) → AsMany (walk_all args here s).parts z) →
      WalkMakes (call_or_built_in base names i o x args) (plus an_occ (plus z (called_size (known x.id))))
  call-makes None x args z e h here s =
      let inside = in_call s.occs here in
      let arguments = walk_all args inside (past_occ s) in
      let copy = callee (i.callees x.id) inside arguments.roots (after (past_occ s) arguments.parts) in
      whole-makes _ (joined arguments.parts copy.parts) (plus z (called_size (known x.id))) (many-joined arguments.parts copy.parts z (called_size (known x.id)) (h inside (past_occ s)) (sized.called x.id _ _ _))
  call-makes (Some op) x args z e h here s =
      let none_known = ap called_size (sized.built_in x.id op e) in
      whole-makes _ _ (plus z (called_size (known x.id))) (subst (AsMany _) (sym (ap (plus z) none_known ∙ plus-none z)) (h here (past_occ s)))

  abbrev pub ExprMakes : Expr → Type 0
  ExprMakes x = WalkMakes (expr_walk base names i x) (expr_size i.infos known x)

  abbrev pub LinkTreeMakes : Link → Type 0
  LinkTreeMakes l = LinkMakes (link_walk base names i l) (link_size i.infos known l)

  abbrev TheExpr : Type 0
  TheExpr = (e : Expr) × ExprMakes e

  abbrev TheLink : Type 0
  TheLink = (l : Link) × LinkTreeMakes l

  all-make : (xs : List TheExpr) (here : Here) (s : Counters) → AsMany (walk_all (map (expr_walk base names i) (map (λ e. e.0) xs)) here s).parts (total (map (expr_size i.infos known) (map (λ e. e.0) xs)))
  all-make [] here s = many-nothing
  all-make (x ∷ xs) here s = many-joined _ _ _ _ (x.1 here s) (all-make xs here (after s (expr_walk base names i x.0 here s).parts))

  links-make : (ls : List TheLink) (here : Here) (left : Root) (s : Counters) → AsMany (links (map (link_walk base names i) (map (λ l. l.0) ls)) here left s).parts (total (map (link_size i.infos known) (map (λ l. l.0) ls)))
  links-make [] here left s = many-nothing
  links-make (l ∷ ls) here left s =
      let one = link_walk base names i l.0 here left s in
      many-joined _ _ _ _ (l.1 here left s) (links-make ls here one.root (after s one.parts))

  arrow-size : (p q : Parts) (o : Occ) (x y : Size) → AsMany p x → AsMany q y → AsMany (joined p (joined (one_occ o) q)) (plus an_occ (plus x y))
  unfolding joined one_occ plus an_occ
  arrow-size p q o x y h k = record {
    places = length-append p.places q.places ∙ sum h.places k.places;
    occs = length-append p.occs (o ∷ q.occs) ∙ one_more h.occs k.occs;
    sites = length-append p.sites q.sites ∙ sum h.sites k.sites;
    blocks = length-append p.blocks q.blocks ∙ sum h.blocks k.blocks;
  }
    where
      sum : {a b c d : ℕ} → a ≡ c → b ≡ d → a + b ≡ 0 + (c + d)
      sum e g = omega (arith, e, g)

      one_more : {a b c d : ℕ} → a ≡ c → b ≡ d → a + suc b ≡ 1 + (c + d)
      one_more e g = omega (arith, e, g)

  expr-layer : (x : Expr-F TheExpr TheLink) →
      WalkMakes (walk.expr_step base names i (map-Expr Expr Link Walk LinkWalk (expr_walk base names i) (link_walk base names i) (map-Expr TheExpr TheLink Expr Link (λ e. e.0) (λ l. l.0) x)))
      (sizes.expr_step i.infos known (map-Expr Expr Link Size Size (expr_size i.infos known) (link_size i.infos known) (map-Expr TheExpr TheLink Expr Link (λ e. e.0) (λ l. l.0) x)))
  expr-layer (open_expr.Lit v at) here s = many-occ _
  expr-layer (open_expr.Var x) here s = read-makes (variable_of i.variables x.id) (is_some (place_in_text i.infos x.id)) x (sized.placed x.id) here s
  expr-layer (open_expr.Last x at) here s = last-makes (variable_of i.variables x.id) at here s
  expr-layer (open_expr.Call f args) here s = call-makes (built_in_op names f.id) f (map (expr_walk base names i) (map (λ e. e.0) args)) _ refl (all-make args) here s
  expr-layer (open_expr.Prefix op at x) here s = whole-makes _ _ _ (x.1 here (past_occ s))
  expr-layer (open_expr.Chain x ls) here s =
      let first = expr_walk base names i x.0 here s in
      many-joined _ _ _ _ (x.1 here s) (links-make ls here first.root (after s first.parts))
  expr-layer (open_expr.Flow flow.Arrow at x y) here s = arrow-size _ _ _ _ _ (x.1 here s) (y.1 here _)
  expr-layer (open_expr.Flow flow.Fby at x y) here s = arrow-size _ _ _ _ _ (x.1 here s) (many-hidden _ _ _ (y.1 here _))
  expr-layer (open_expr.If at c x y) here s = whole-makes _ _ _ (many-joined _ _ _ _ (c.1 here _) (many-joined _ _ _ _ (x.1 here _) (y.1 here _)))

  link-layer : (l : Link-F TheExpr TheLink) →
      LinkMakes (walk.link_step base names i (map-Link Expr Link Walk LinkWalk (expr_walk base names i) (link_walk base names i) (map-Link TheExpr TheLink Expr Link (λ e. e.0) (λ l. l.0) l)))
      (sizes.link_step i.infos known (map-Link Expr Link Size Size (expr_size i.infos known) (link_size i.infos known) (map-Link TheExpr TheLink Expr Link (λ e. e.0) (λ l. l.0) l)))
  link-layer l here left s = whole-makes _ _ _ (l.arg.1 here (past_occ s))

  -- the walk of an expression makes as many as its size says
  pub expr-makes : (x : Expr) → ExprMakes x
  unfolding expr_size link_size expr_walk link_walk
  expr-makes = ind-Expr ExprMakes LinkTreeMakes
      (λ x y is.
      subst (λ z. ExprMakes (roll-Expr z)) is
      (subst (λ w. WalkMakes w (expr_size i.infos known (roll-Expr (map-Expr TheExpr TheLink Expr Link (λ e. e.0) (λ l. l.0) y))))
      (sym (fold-roll-Expr Walk LinkWalk (walk.expr_step base names i) (walk.link_step base names i) (map-Expr TheExpr TheLink Expr Link (λ e. e.0) (λ l. l.0) y)))
      (subst (WalkMakes (walk.expr_step base names i (map-Expr Expr Link Walk LinkWalk (expr_walk base names i) (link_walk base names i) (map-Expr TheExpr TheLink Expr Link (λ e. e.0) (λ l. l.0) y))))
      (sym (fold-roll-Expr Size Size (sizes.expr_step i.infos known) (sizes.link_step i.infos known) (map-Expr TheExpr TheLink Expr Link (λ e. e.0) (λ l. l.0) y)))
      (expr-layer y))))
      (λ x y is.
      subst (λ z. LinkTreeMakes (roll-Link z)) is
      (subst (λ w. LinkMakes w (link_size i.infos known (roll-Link (map-Link TheExpr TheLink Expr Link (λ e. e.0) (λ l. l.0) y))))
      (sym (fold-roll-Link Walk LinkWalk (walk.expr_step base names i) (walk.link_step base names i) (map-Link TheExpr TheLink Expr Link (λ e. e.0) (λ l. l.0) y)))
      (subst (LinkMakes (walk.link_step base names i (map-Link Expr Link Walk LinkWalk (expr_walk base names i) (link_walk base names i) (map-Link TheExpr TheLink Expr Link (λ e. e.0) (λ l. l.0) y))))
      (sym (fold-roll-Link Size Size (sizes.expr_step i.infos known) (sizes.link_step i.infos known) (map-Link TheExpr TheLink Expr Link (λ e. e.0) (λ l. l.0) y)))
      (link-layer y))))
