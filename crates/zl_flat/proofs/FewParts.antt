-- What the walk of an expression makes has no more hidden occurrences than others, and no more choices or automata than blocks.
use Rattle.std.proofs.Common.{◌≡◌, ℕ, ◌+◌, ◌≤◌, List, [], ◌∷◌, map, length, Option, Some, None, sym, subst, arith}
use Rattle.std.proofs.lemmas.List.{length-append}
use Rattle.zl_value.specs.declared.position.Pos.{Pos}
use Rattle.zl_value.specs.declared.op.Op.{Op}
use Rattle.zl_ast.specs.declared.name.Name.{Name}
use Rattle.zl_ast.specs.declared.operator.FlowOp.TheVariants as flow
use Rattle.zl_ast.specs.declared.expr.Expr.{Expr, roll-Expr}
use Rattle.zl_ast.specs.declared.expr.Link.{Link, roll-Link}
use Rattle.zl_ast.specs.declared.expr.Expr.TheOpen.{Expr-F, Link-F}
use Rattle.zl_ast.specs.declared.expr.Expr.TheOpen as open_expr
use Rattle.zl_ast.specs.declared.expr.Expr.TheFolds.{fold-roll-Expr, fold-roll-Link, ind-Expr, map-Expr, map-Link}
use Rattle.zl_meaning.specs.declared.block.Block.{Block}
use Rattle.zl_meaning.specs.declared.block.Choice.{Choice}
use Rattle.zl_meaning.specs.declared.block.Auto.{Auto}
use Rattle.zl_meaning.specs.declared.place.PlaceInfo.{PlaceInfo}
use Rattle.zl_meaning.specs.declared.occurrence.Occ.{Occ}
use Rattle.zl_meaning.specs.declared.occurrence.SiteInfo.{SiteInfo}
use Rattle.zl_flat.specs.declared.here.Here.{Here}
use Rattle.zl_flat.specs.declared.here.Root.{Root}
use Rattle.zl_flat.specs.declared.given.Given.{Given}
use Rattle.zl_flat.specs.declared.variable.Variable.{Variable}
use Rattle.zl_flat.specs.Parts.{Parts, Counters, nothing, joined, one_block, one_place, some_places, some_definers, one_occ, one_hidden, one_site, one_choice, one_automaton, after, past_occ}
use Rattle.zl_flat.specs.Variables.{variable_of}
use Rattle.zl_flat.specs.Instances.{Instance, in_call, callee}
use Rattle.zl_flat.specs.Operators.{built_in_op}
use Rattle.zl_flat.specs.Expressions as walk
use Rattle.zl_flat.specs.Expressions.{Walk, LinkWalk, walk_all, links, last_of, call_or_built_in, read, expr_walk, link_walk}

-- There is room for so many hidden occurrences, choices and automata more, without that there are more of them than of the
-- occurrences that are counted and of the blocks.
pub record Spares (h c a : ℕ) (p : Parts) : Type 0 where
  pub hidden : h + length p.hidden ≤ length p.occs
  pub choices : c + length p.choices ≤ length p.blocks
  pub automata : a + length p.automata ≤ length p.blocks

-- as many as there are
abbrev pub IsFew : Parts → Type 0
IsFew p = Spares 0 0 0 p

pub few-nothing : IsFew nothing
unfolding nothing
few-nothing = record { hidden = omega arith; choices = omega arith; automata = omega arith }

-- what is made one behind the other spares what both spare
pub few-joined : (p q : Parts) (h c a j d b : ℕ) → Spares h c a p → Spares j d b q → Spares (h + j) (c + d) (a + b) (joined p q)
unfolding joined
few-joined p q h c a j d b x y = record {
  hidden = both h j _ _ _ _ _ _ (length-append p.hidden q.hidden) (length-append p.occs q.occs) x.hidden y.hidden;
  choices = both c d _ _ _ _ _ _ (length-append p.choices q.choices) (length-append p.blocks q.blocks) x.choices y.choices;
  automata = both a b _ _ _ _ _ _ (length-append p.automata q.automata) (length-append p.blocks q.blocks) x.automata y.automata;
}
  where
    both : (t u m n k l r s : ℕ) → r ≡ m + k → s ≡ n + l → t + m ≤ n → u + k ≤ l → (t + u) + r ≤ s
    both t u m n k l r s e g le ge = omega (arith, e, g, le, ge)

-- fewer are spared too
pub few-less : (p : Parts) (h c a : ℕ) → Spares h c a p → IsFew p
few-less p h c a x = record { hidden = less h _ _ x.hidden; choices = less c _ _ x.choices; automata = less a _ _ x.automata }
  where
    less : (t m n : ℕ) → t + m ≤ n → 0 + m ≤ n
    less t m n le = omega (arith, le)

-- so are few parts one behind the other
pub few-both : (p q : Parts) → IsFew p → IsFew q → IsFew (joined p q)
few-both p q x y = few-joined p q 0 0 0 0 0 0 x y

-- ---- one of a kind

-- an occurrence spares a hidden one, and a block spares a choice or an automaton
pub few-occ : (x : Occ) → Spares 1 0 0 (one_occ x)
unfolding one_occ
few-occ x = record { hidden = omega arith; choices = omega arith; automata = omega arith }

pub few-block : (x : Block) → Spares 0 1 1 (one_block x)
unfolding one_block
few-block x = record { hidden = omega arith; choices = omega arith; automata = omega arith }

pub few-place : (x : PlaceInfo) → IsFew (one_place x)
unfolding one_place
few-place x = record { hidden = omega arith; choices = omega arith; automata = omega arith }

pub few-places : (xs : List PlaceInfo) → IsFew (some_places xs)
unfolding some_places
few-places xs = record { hidden = omega arith; choices = omega arith; automata = omega arith }

pub few-definers : (xs : List Given) → IsFew (some_definers xs)
unfolding some_definers
few-definers xs = record { hidden = omega arith; choices = omega arith; automata = omega arith }

pub few-site : (x : SiteInfo) → IsFew (one_site x)
unfolding one_site
few-site x = record { hidden = omega arith; choices = omega arith; automata = omega arith }

-- a hidden occurrence, a choice and an automaton take what is spared behind them
pub few-hidden : (x : Occ) (q : Parts) → Spares 1 0 0 q → IsFew (joined (one_hidden x) q)
unfolding joined one_hidden
few-hidden x q h = let e = h.hidden in record { hidden = omega (arith, e); choices = h.choices; automata = h.automata }

pub few-choice : (x : Choice) (q : Parts) → Spares 0 1 1 q → IsFew (joined (one_choice x) q)
unfolding joined one_choice
few-choice x q h = let c = h.choices in let a = h.automata in record { hidden = h.hidden; choices = omega (arith, c); automata = omega (arith, a) }

pub few-automaton : (x : Auto) (q : Parts) → Spares 0 1 1 q → IsFew (joined (one_automaton x) q)
unfolding joined one_automaton
few-automaton x q h = let c = h.choices in let a = h.automata in record { hidden = h.hidden; choices = omega (arith, c); automata = omega (arith, a) }

-- an occurrence before what it is made of
pub few-whole : (x : Occ) (q : Parts) → IsFew q → Spares 1 0 0 (joined (one_occ x) q)
few-whole x q h = few-joined (one_occ x) q 1 0 0 0 0 0 (few-occ x) h

occ-then-hidden : (x y : Occ) (q : Parts) → IsFew q → IsFew (joined (one_occ x) (joined (one_hidden y) q))
unfolding joined one_occ one_hidden
occ-then-hidden x y q k = let e = k.hidden in record { hidden = omega (arith, e); choices = k.choices; automata = k.automata }

-- the occurrence of a `fby` spares the hidden one behind it
few-followed : (x y : Occ) (p q : Parts) → IsFew p → IsFew q → IsFew (joined p (joined (one_occ x) (joined (one_hidden y) q)))
few-followed x y p q h k = few-both p _ h (occ-then-hidden x y q k)

-- ---- walks of expressions

-- what the walk makes anywhere is few
abbrev pub WalkFew : Walk → Type 0
WalkFew w = (here : Here) (s : Counters) → IsFew (w here s).parts

abbrev pub LinkFew : LinkWalk → Type 0
LinkFew l = (here : Here) (left : Root) (s : Counters) → IsFew (l here left s).parts

-- what each copy makes is few
abbrev pub CallsFew : Instance → Type 0
CallsFew i = (id : ℕ) (here : Here) (roots : List Root) (s : Counters) → IsFew (callee (i.callees id) here roots s).parts

module _ (base : ℕ) (names : List (List ℕ)) (i : Instance) (called : CallsFew i) where
  alone : (x : Occ) → IsFew (one_occ x)
  alone x = few-less (one_occ x) 1 0 0 (few-occ x)

  whole : (x : Occ) (q : Parts) → IsFew q → IsFew (joined (one_occ x) q)
  whole x q h = few-less (joined (one_occ x) q) 1 0 0 (few-whole x q h)

  last-few : (v : Option Variable) (at : Pos) → WalkFew (λ here. last_of v here at)
  last-few None at here s = alone _
  last-few (Some v) at here s = alone _

  read-few : (v : Option Variable) (x : Name) → WalkFew (read base names i v x)
  read-few None x here s = whole _ _ (few-both _ _ few-nothing (called x.id _ _ _))
  read-few (Some v) x here s = alone _

  call-few : (o : Option Op) (x : Name) (args : List Walk) → ((here : Here) (s : Counters) → IsFew (walk_all args here s).parts) → WalkFew (call_or_built_in base names i o x args)
  call-few None x args h here s = whole _ _ (few-both _ _ (h (in_call s.occs here) (past_occ s)) (called x.id _ _ _))
  call-few (Some op) x args h here s = whole _ _ (h here (past_occ s))

  abbrev pub ExprFew : Expr → Type 0
  ExprFew x = WalkFew (expr_walk base names i x)

  abbrev pub LinkTreeFew : Link → Type 0
  LinkTreeFew l = LinkFew (link_walk base names i l)

  abbrev TheExpr : Type 0
  TheExpr = (e : Expr) × ExprFew e

  abbrev TheLink : Type 0
  TheLink = (l : Link) × LinkTreeFew l

  all-few : (xs : List TheExpr) (here : Here) (s : Counters) → IsFew (walk_all (map (expr_walk base names i) (map (λ e. e.0) xs)) here s).parts
  all-few [] here s = few-nothing
  all-few (x ∷ xs) here s = few-both _ _ (x.1 here s) (all-few xs here (after s (expr_walk base names i x.0 here s).parts))

  links-few : (ls : List TheLink) (here : Here) (left : Root) (s : Counters) → IsFew (links (map (link_walk base names i) (map (λ l. l.0) ls)) here left s).parts
  links-few [] here left s = few-nothing
  links-few (l ∷ ls) here left s =
      let one = link_walk base names i l.0 here left s in
      few-both _ _ (l.1 here left s) (links-few ls here one.root (after s one.parts))

  expr-layer : (x : Expr-F TheExpr TheLink) → WalkFew (walk.expr_step base names i (map-Expr Expr Link Walk LinkWalk (expr_walk base names i) (link_walk base names i) (map-Expr TheExpr TheLink Expr Link (λ e. e.0) (λ l. l.0) x)))
  expr-layer (open_expr.Lit v at) here s = alone _
  expr-layer (open_expr.Var x) here s = read-few (variable_of i.variables x.id) x here s
  expr-layer (open_expr.Last x at) here s = last-few (variable_of i.variables x.id) at here s
  expr-layer (open_expr.Call f args) here s = call-few (built_in_op names f.id) f (map (expr_walk base names i) (map (λ e. e.0) args)) (all-few args) here s
  expr-layer (open_expr.Prefix op at x) here s = whole _ _ (x.1 here (past_occ s))
  expr-layer (open_expr.Chain x ls) here s =
      let first = expr_walk base names i x.0 here s in
      few-both _ _ (x.1 here s) (links-few ls here first.root (after s first.parts))
  expr-layer (open_expr.Flow flow.Arrow at x y) here s = few-both _ _ (x.1 here s) (whole _ _ (y.1 here _))
  expr-layer (open_expr.Flow flow.Fby at x y) here s = few-followed _ _ _ _ (x.1 here s) (y.1 here _)
  expr-layer (open_expr.If at c x y) here s = whole _ _ (few-both _ _ (c.1 here _) (few-both _ _ (x.1 here _) (y.1 here _)))

  link-layer : (l : Link-F TheExpr TheLink) → LinkFew (walk.link_step base names i (map-Link Expr Link Walk LinkWalk (expr_walk base names i) (link_walk base names i) (map-Link TheExpr TheLink Expr Link (λ e. e.0) (λ l. l.0) l)))
  link-layer l here left s = whole _ _ (l.arg.1 here (past_occ s))

  -- the walk of an expression makes few
  pub expr-few : (x : Expr) → ExprFew x
  unfolding expr_walk link_walk
  expr-few = ind-Expr ExprFew LinkTreeFew
      (λ x y is.
      subst (λ z. ExprFew (roll-Expr z)) is
      (subst WalkFew (sym (fold-roll-Expr Walk LinkWalk (walk.expr_step base names i) (walk.link_step base names i) (map-Expr TheExpr TheLink Expr Link (λ e. e.0) (λ l. l.0) y)))
      (expr-layer y)))
      (λ x y is.
      subst (λ z. LinkTreeFew (roll-Link z)) is
      (subst LinkFew (sym (fold-roll-Link Walk LinkWalk (walk.expr_step base names i) (walk.link_step base names i) (map-Link TheExpr TheLink Expr Link (λ e. e.0) (λ l. l.0) y)))
      (link-layer y)))
