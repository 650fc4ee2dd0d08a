-- Depths for what the walk of an expression makes.
use Rattle.std.proofs.Common.{◌≡◌, ℕ, ◌+◌, ◌<◌, ◌≤◌, List, [], ◌∷◌, length, Option, Some, sym, subst, arith}
use Rattle.std.specs.List.{AllByRecursion}
use Rattle.zl_value.specs.declared.position.Pos.{Pos}
use Rattle.zl_value.specs.declared.value.Ty.{Ty}
use Rattle.zl_value.specs.declared.op.Op.{Op}
use Rattle.zl_value.specs.OperatorTypes.{type_of}
use Rattle.zl_ast.specs.declared.name.Name.{Name}
use Rattle.zl_ast.specs.declared.operator.Prefix.{Prefix}
use Rattle.zl_ast.specs.declared.operator.Prefix.TheVariants as prefix
use Rattle.zl_ast.specs.declared.operator.Infix.{Infix}
use Rattle.zl_ast.specs.declared.operator.FlowOp.{FlowOp}
use Rattle.zl_ast.specs.declared.operator.FlowOp.TheVariants as flow
use Rattle.zl_meaning.specs.Uses.{parts}
use Rattle.zl_meaning.specs.declared.occurrence.Form.{Form}
use Rattle.zl_meaning.specs.declared.occurrence.Form.TheVariants.{Op as Apply, If, Arrow, Pre, Result}
use Rattle.zl_flat.specs.declared.here.Here.{Here}
use Rattle.zl_flat.specs.declared.here.Root.{Root}
use Rattle.zl_flat.specs.Parts.{Parts, Counters, joined, one_occ, one_hidden, after, past_occ, past_hidden}
use Rattle.zl_flat.specs.Instances.{Copy, Callee, Instance, in_call, occ_here, callee, first_root, root_occs}
use Rattle.zl_flat.specs.Operators.{infix_form, prefix_form, prefix_type}
use Rattle.zl_flat.specs.Expressions.{Walk, Walked, walk_all, one_result, leaf, LinkWalk, links, chain, call, built_in, prefixed, arrow, followed, flow_walk, conditional}
use Rattle.zl_flat.proofs.UsesExprTrees.{Kinds}
use Rattle.zl_flat.proofs.WellFormedHeights.{IsBelow, LiesDeep, Depths, Both, IsAt, below-more, asking, giving, nothing-depths, in-turn, one-occ, occ-before, hidden-before}

-- ---- what a walk asks and gives

-- a walk at this depth lies below the call that it stands in
abbrev pub Below : Here → ℕ → (ℕ → ℕ) → Type 0
Below here d depth = IsBelow depth here.call d

-- these occurrences lie at this depth, or deeper
abbrev pub RootsLie : ℕ → List Root → (ℕ → ℕ) → Type 0
RootsLie d rs depth = AllByRecursion (λ (r : Root). d ≤ depth r.occ) rs

-- what an expression at this depth is lies at it, or deeper
pub record WalkGives (d : ℕ) (w : Walked) (depth : ℕ → ℕ) : Type 0 where
  pub root : d ≤ depth w.root.occ
  pub results : RootsLie d w.results depth

-- one deeper lies below the call, too
pub below-next : (here : Here) (d : ℕ) (depth : ℕ → ℕ) → Below here d depth → Below here (d + 1) depth
below-next here d depth h = below-more depth here.call d (d + 1) (omega arith) h

module _ (base : ℕ) where
  -- an expression has depths from each depth on that lies below the call
  abbrev pub WalkDepths : Walk → Type 0
  WalkDepths w = (here : Here) (s : Counters) (d : ℕ) → Depths base s (w here s).parts (Below here d) (WalkGives d (w here s))

  -- an operator of a chain lies above its left operand, too
  abbrev pub LinkDepths : LinkWalk → Type 0
  LinkDepths l = (here : Here) (left : Root) (s : Counters) (d : ℕ) → Depths base s (l here left s).parts (Both (Below here d) (λ depth. d < depth left.occ)) (WalkGives d (l here left s))

  -- so for the copy of a declaration, which has a result
  pub record CopyDepths (here : Here) (roots : List Root) (s : Counters) (c : Copy) : Type 0 where
    pub depths : (d : ℕ) → Depths base s c.parts (Below here d) (RootsLie d c.results)
    pub some : 0 < length c.results

  abbrev pub CalleeDepths : Callee → Type 0
  CalleeDepths c = (here : Here) (roots : List Root) (s : Counters) → CopyDepths here roots s (c here roots s)

  abbrev pub deep_exprs : Kinds
  deep_exprs = record {
    walked = λ here s w. (d : ℕ) → Depths base s w.parts (Below here d) (WalkGives d w);
    linked = λ here left s w. (d : ℕ) → Depths base s w.parts (Both (Below here d) (λ depth. d < depth left.occ)) (WalkGives d w);
  }

  -- ---- one behind the other

  -- expressions one behind the other, at one depth
  pub walk_all-depths : (ws : List Walk) → AllByRecursion WalkDepths ws → (here : Here) (s : Counters) (d : ℕ) → Depths base s (walk_all ws here s).parts (Below here d) (RootsLie d (walk_all ws here s).roots)
  walk_all-depths [] h here s d = nothing-depths base s (Below here d)
  walk_all-depths (w ∷ ws) h here s d =
      let t = after s (w here s).parts in
      giving base (λ depth a g. (g.first.root, g.second)) (in-turn base (h.0 here s d) (asking base (λ depth a. a.first) (walk_all-depths ws h.1 here t d)))

  -- the last operator lies at this depth, and each other below the one behind it
  links-depths : (ls : List LinkWalk) → AllByRecursion LinkDepths ls → (here : Here) (left : Root) (s : Counters) (d : ℕ) →
      Depths base s (links ls here left s).parts (Both (Below here d) (λ depth. d + length ls ≤ depth left.occ)) (λ depth. d ≤ depth (links ls here left s).root.occ)
  links-depths [] h here left s d = giving base (λ depth a g. let le = a.second in omega (arith, le)) (nothing-depths base s _)
  links-depths (l ∷ ls) h here left s d =
      let e = d + length ls in
      let one = l here left s in
      giving base (λ depth a g. g.second)
      (in-turn base (asking base (λ depth a. let le = a.second in record { first = below-more depth here.call d e (omega arith) a.first; second = omega (arith, le) }) (h.0 here left s e))
      (asking base (λ depth a. record { first = a.first.first; second = a.second.root }) (links-depths ls h.1 here one.root (after s one.parts) d)))

  -- a chain: its first operand lies below all its operators
  pub chain-depths : (x : Walk) (ls : List LinkWalk) → WalkDepths x → AllByRecursion LinkDepths ls → WalkDepths (chain x ls)
  chain-depths x ls hx hls here s d =
      let e = d + length ls in
      let first = x here s in
      giving base (λ depth a g. record { root = g.second; results = (g.second, tt) })
      (in-turn base (asking base (λ depth a. below-more depth here.call d e (omega arith) a) (hx here s e))
      (asking base (λ depth a. record { first = a.first; second = a.second.root }) (links-depths ls hls here first.root (after s first.parts) d)))

  -- ---- an occurrence, and what it is made of

  -- an occurrence that stands at this depth
  here-at : (k d : ℕ) (p : Parts) (ty : Ty) (depth : ℕ → ℕ) → depth k ≡ d → WalkGives d (one_result p k ty) depth
  here-at k d p ty depth e = record { root = omega (arith, e); results = (omega (arith, e), tt) }

  -- an occurrence above its parts and below its call lies as it should
  pub lies-deep : (depth : ℕ → ℕ) (k d : ℕ) (here : Here) (ty : Ty) (at : Pos) (form : Form) → depth k ≡ d → Below here d depth → AllByRecursion (λ j. d < depth j) (parts form) → LiesDeep depth k (occ_here here ty at form)
  lies-deep depth k d here ty at form e below deeper = record {
    parts = subst (λ n. AllByRecursion (λ j. n < depth j) (parts form)) (sym e) deeper;
    call = subst (IsBelow depth here.call) (sym e) below;
  }

  -- an occurrence without parts
  pub leaf-depths : (ty : Ty) (at : Pos) (form : Form) → [] ≡ parts form → WalkDepths (λ here s. leaf here ty at form s)
  leaf-depths ty at form none here s d =
      giving base (λ depth a e. here-at s.occs d _ ty depth e)
      (one-occ base d (λ depth a e. lies-deep depth s.occs d here ty at form e a (subst (AllByRecursion (λ j. d < depth j)) none tt)))

  -- an occurrence before what it is made of, which lies deeper
  whole-depths : {A Gives : (ℕ → ℕ) → Type 0} (ty : Ty) (at : Pos) (form : Form) (q : Parts) (here : Here) (s : Counters) (d : ℕ) →
      ((depth : ℕ → ℕ) → A depth → Below here d depth) → ((depth : ℕ → ℕ) → A depth → Gives depth → AllByRecursion (λ j. d < depth j) (parts form)) → Depths base (past_occ s) q (Below here (d + 1)) Gives →
      Depths base s (joined (one_occ (occ_here here ty at form)) q) A (WalkGives d (one_result (joined (one_occ (occ_here here ty at form)) q) s.occs ty))
  whole-depths ty at form q here s d below deeper h =
      giving base (λ depth a g. here-at s.occs d _ ty depth g.first)
      (occ-before base d (λ depth a e g. lies-deep depth s.occs d here ty at form e (below depth a) (deeper depth a g))
      (asking base (λ depth a. below-next here d depth (below depth a.first)) h))

  -- what is given deeper than this depth is deeper
  roots-deeper : (d : ℕ) (depth : ℕ → ℕ) (rs : List Root) → RootsLie (d + 1) rs depth → AllByRecursion (λ j. d < depth j) (root_occs rs)
  roots-deeper d depth [] h = tt
  roots-deeper d depth (r ∷ rs) h = let le = h.0 in (omega (arith, le), roots-deeper d depth rs h.1)

  first-deeper : (d : ℕ) (depth : ℕ → ℕ) (rs : List Root) → 0 < length rs → RootsLie (d + 1) rs depth → d < depth (first_root rs).occ
  first-deeper d depth [] some h = absurd (omega (arith, some))
  first-deeper d depth (r ∷ rs) some h = let le = h.0 in omega (arith, le)

  roots-lie : (d : ℕ) (depth : ℕ → ℕ) (rs : List Root) → RootsLie (d + 1) rs depth → RootsLie d rs depth
  roots-lie d depth [] h = tt
  roots-lie d depth (r ∷ rs) h = let le = h.0 in (omega (arith, le), roots-lie d depth rs h.1)

  root-deeper : (d : ℕ) (depth : ℕ → ℕ) (w : Walked) → WalkGives (d + 1) w depth → d < depth w.root.occ
  root-deeper d depth w h = let le = h.root in omega (arith, le)

  -- a built-in function lies above its arguments
  pub built_in-depths : (names : List (List ℕ)) (i : Instance) (op : Op) (at : Pos) (args : List Walk) → AllByRecursion WalkDepths args → WalkDepths (built_in base names i op at args)
  built_in-depths names i op at args hs here s d =
      let arguments = walk_all args here (past_occ s) in
      whole-depths (type_of op).result at (Apply op (root_occs arguments.roots)) arguments.parts here s d
      (λ depth a. a) (λ depth a g. roots-deeper d depth arguments.roots g) (walk_all-depths args hs here (past_occ s) (d + 1))

  prefix-deeper : (op : Prefix) (d k : ℕ) (depth : ℕ → ℕ) → d < depth k → AllByRecursion (λ j. d < depth j) (parts (prefix_form op k))
  prefix-deeper prefix.Minus d k depth h = (h, tt)
  prefix-deeper prefix.MinusDot d k depth h = (h, tt)
  prefix-deeper prefix.Not d k depth h = (h, tt)
  prefix-deeper prefix.Pre d k depth h = (h, tt)

  -- an operator above its operand
  pub prefixed-depths : (names : List (List ℕ)) (i : Instance) (op : Prefix) (at : Pos) (x : Walk) → WalkDepths x → WalkDepths (prefixed base names i op at x)
  prefixed-depths names i op at x hx here s d =
      let operand = x here (past_occ s) in
      whole-depths (prefix_type op operand.root.ty) at (prefix_form op operand.root.occ) operand.parts here s d
      (λ depth a. a) (λ depth a g. prefix-deeper op d operand.root.occ depth (root-deeper d depth operand g)) (hx here (past_occ s) (d + 1))

  -- an operator of a chain above both its operands
  pub link-depths : (op : Infix) (at : Pos) (x : Walk) → WalkDepths x → (here : Here) (left : Root) (s : Counters) (d : ℕ) →
      Depths base s (joined (one_occ (occ_here here (type_of (infix_form op left.ty)).result at (Apply (infix_form op left.ty) (left.occ ∷ (x here (past_occ s)).root.occ ∷ [])))) (x here (past_occ s)).parts) (Both (Below here d) (λ depth. d < depth left.occ))
      (WalkGives d (one_result (joined (one_occ (occ_here here (type_of (infix_form op left.ty)).result at (Apply (infix_form op left.ty) (left.occ ∷ (x here (past_occ s)).root.occ ∷ [])))) (x here (past_occ s)).parts) s.occs (type_of (infix_form op left.ty)).result))
  link-depths op at x hx here left s d =
      let right = x here (past_occ s) in
      whole-depths (type_of (infix_form op left.ty)).result at (Apply (infix_form op left.ty) (left.occ ∷ right.root.occ ∷ [])) right.parts here s d
      (λ depth a. a.first) (λ depth a g. (a.second, (root-deeper d depth right g, tt))) (hx here (past_occ s) (d + 1))

  -- an `if` above its test and its branches
  pub conditional-depths : (names : List (List ℕ)) (i : Instance) (at : Pos) (c x y : Walk) → WalkDepths c → WalkDepths x → WalkDepths y → WalkDepths (conditional base names i at c x y)
  conditional-depths names i at c x y hc hx hy here s d =
      let t = past_occ s in
      let test = c here t in
      let u = after t test.parts in
      let left = x here u in
      let v = after u left.parts in
      let right = y here v in
      whole-depths left.root.ty at (If test.root.occ left.root.occ right.root.occ) (joined test.parts (joined left.parts right.parts)) here s d
      (λ depth a. a) (λ depth a g. (root-deeper d depth test g.first, (root-deeper d depth left g.second.first, (root-deeper d depth right g.second.second, tt))))
      (in-turn base (hc here t (d + 1)) (in-turn base (asking base (λ depth a. a.first) (hx here u (d + 1))) (asking base (λ depth a. a.first.first) (hy here v (d + 1)))))

  -- ---- `->` and `fby`

  -- `->` above both its sides
  arrow-depths : (names : List (List ℕ)) (i : Instance) (at : Pos) (x y : Walk) → WalkDepths x → WalkDepths y → WalkDepths (arrow base names i at x y)
  arrow-depths names i at x y hx hy here s d =
      let left = x here s in
      let t = after s left.parts in
      let right = y here (past_occ t) in
      giving base (λ depth a g. record { root = g.second.root; results = g.second.results })
      (in-turn base (asking base (λ depth a. below-next here d depth a) (hx here s (d + 1)))
      (whole-depths left.root.ty at (Arrow left.root.occ right.root.occ) right.parts here t d
      (λ depth a. a.first) (λ depth a g. (root-deeper d depth left a.second, (root-deeper d depth right g, tt))) (hy here (past_occ t) (d + 1))))

  same-hidden : (t : Counters) (depth : ℕ → ℕ) (d : ℕ) → depth (base + (past_occ t).hidden) ≡ d → depth (base + t.hidden) ≡ d
  unfolding past_occ
  same-hidden t depth d e = e

  -- the hidden `pre`, before its operand
  pre-depths : (ty : Ty) (at : Pos) (y : Walk) → WalkDepths y → (here : Here) (t : Counters) (d : ℕ) →
      Depths base t (joined (one_hidden (occ_here here ty at (Pre (y here (past_hidden t)).root.occ))) (y here (past_hidden t)).parts) (Below here d) (IsAt base (base + t.hidden) d)
  pre-depths ty at y hy here t d =
      let right = y here (past_hidden t) in
      giving base (λ depth a g. g.first)
      (hidden-before base d (λ depth a e g. lies-deep depth (base + t.hidden) d here ty at (Pre right.root.occ) e a (root-deeper d depth right g, tt))
      (asking base (λ depth a. below-next here d depth a.first) (hy here (past_hidden t) (d + 1))))

  -- `fby` above its left side, and above the `pre` of its right side
  followed-depths : (names : List (List ℕ)) (i : Instance) (at : Pos) (x y : Walk) → WalkDepths x → WalkDepths y → WalkDepths (followed base names i at x y)
  followed-depths names i at x y hx hy here s d =
      let left = x here s in
      let t = after s left.parts in
      let right = y here (past_hidden (past_occ t)) in
      let pre = occ_here here left.root.ty at (Pre right.root.occ) in
      giving base (λ depth a g. record { root = g.second.root; results = g.second.results })
      (in-turn base (asking base (λ depth a. below-next here d depth a) (hx here s (d + 1)))
      (whole-depths left.root.ty at (Arrow left.root.occ (base + t.hidden)) (joined (one_hidden pre) right.parts) here t d
      (λ depth a. a.first) (λ depth a g. let e = same-hidden t depth (d + 1) g in (root-deeper d depth left a.second, (omega (arith, e), tt))) (pre-depths left.root.ty at y hy here (past_occ t) (d + 1))))

  -- `->` and `fby`
  pub flow-depths : (names : List (List ℕ)) (i : Instance) (op : FlowOp) (at : Pos) (x y : Walk) → WalkDepths x → WalkDepths y → WalkDepths (flow_walk base names i op at x y)
  flow-depths names i flow.Arrow at x y hx hy here s d = arrow-depths names i at x y hx hy here s d
  flow-depths names i flow.Fby at x y hx hy here s d = followed-depths names i at x y hx hy here s d

  -- ---- calls

  -- a call of what was found by the name
  abbrev called : Option Callee → Pos → List Walk → Walk
  called o at args here s =
      let inside = in_call s.occs here in
      let arguments = walk_all args inside (past_occ s) in
      let copy = callee o inside arguments.roots (after (past_occ s) arguments.parts) in
      let result = first_root copy.results in
      record {
        parts = joined (one_occ (occ_here here result.ty at (Result result.occ))) (joined arguments.parts copy.parts);
        root = record { occ = s.occs; ty = result.ty };
        results = copy.results;
      }

  -- what lies deeper than the call lies below it
  inside-call : (depth : ℕ → ℕ) (k d : ℕ) → depth k ≡ d → depth k < d + 1
  inside-call depth k d e = omega (arith, e)

  called-depths : (c : Callee) (at : Pos) (args : List Walk) → CalleeDepths c → AllByRecursion WalkDepths args → WalkDepths (called (Some c) at args)
  called-depths c at args hc hs here s d =
      let inside = in_call s.occs here in
      let t = past_occ s in
      let arguments = walk_all args inside t in
      let u = after t arguments.parts in
      let copy = c inside arguments.roots u in
      let result = first_root copy.results in
      giving base (λ depth a g. let e = g.first in record { root = omega (arith, e); results = roots-lie d depth copy.results g.second.second })
      (occ-before base d (λ depth a e g. lies-deep depth s.occs d here result.ty at (Result result.occ) e a (first-deeper d depth copy.results (hc inside arguments.roots u).some g.second, tt))
      (in-turn base (asking base (λ depth a. inside-call depth s.occs d a.second) (walk_all-depths args hs inside t (d + 1)))
      (asking base (λ depth a. inside-call depth s.occs d a.first.second) ((hc inside arguments.roots u).depths (d + 1)))))

  -- a call lies above its arguments and the copy
  pub call-depths : (names : List (List ℕ)) (i : Instance) (x : Name) (args : List Walk) (c : Callee) → i.callees x.id ≡ Some c → CalleeDepths c → AllByRecursion WalkDepths args → WalkDepths (call base names i x args)
  call-depths names i x args c is hc hs = subst (λ o. WalkDepths (called o x.at args)) (sym is) (called-depths c x.at args hc hs)
