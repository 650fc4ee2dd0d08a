-- What the walk of an expression uses weighs no more than what is its own, but for its root or its results.
use Rattle.std.proofs.Common.{◌≡◌, ℕ, ◌+◌, ◌<◌, ◌≤◌, List, [], ◌∷◌, length, Option, Some, refl, sym, subst, arith}
use Rattle.std.specs.List.{AllByRecursion}
use Rattle.zl_value.specs.declared.position.Pos.{Pos}
use Rattle.zl_value.specs.declared.value.Ty.{Ty}
use Rattle.zl_value.specs.declared.op.Op.{Op}
use Rattle.zl_value.specs.OperatorTypes.{type_of}
use Rattle.zl_ast.specs.declared.name.Name.{Name}
use Rattle.zl_ast.specs.declared.operator.Prefix.{Prefix}
use Rattle.zl_ast.specs.declared.operator.Prefix.TheVariants as prefix
use Rattle.zl_ast.specs.declared.operator.Infix.{Infix}
use Rattle.zl_ast.specs.declared.operator.FlowOp.{FlowOp}
use Rattle.zl_ast.specs.declared.operator.FlowOp.TheVariants as flow
use Rattle.zl_meaning.specs.declared.occurrence.Form.{Form}
use Rattle.zl_meaning.specs.declared.occurrence.Form.TheVariants.{Op as Apply, If, Arrow, Pre, Result}
use Rattle.zl_meaning.specs.declared.occurrence.Occ.{Occ}
use Rattle.zl_flat.specs.declared.here.Here.{Here}
use Rattle.zl_flat.specs.declared.here.Root.{Root}
use Rattle.zl_flat.specs.Parts.{Parts, Counters, joined, one_occ, one_hidden, after, past_occ, past_hidden}
use Rattle.zl_flat.specs.Instances.{Copy, Callee, Instance, in_call, occ_here, callee, first_root, root_occs}
use Rattle.zl_flat.specs.Operators.{infix_form, prefix_form, prefix_type}
use Rattle.zl_flat.specs.Expressions.{Walk, Walked, walk_all, one_result, leaf, LinkWalk, links, chain, call, built_in, prefixed, arrow, followed, flow_walk, conditional}
use Rattle.zl_flat.proofs.UsesCount.{total, in_roots, in_form}
use Rattle.zl_flat.proofs.UsesBalance.{Owes, relax, owes-joined, owes-nothing, owes-one_occ, owes-occ, owes-hidden}

-- less weighs less
pub total-less : (v w : ℕ → ℕ) → ((n : ℕ) → w n ≤ v n) → (ns : List ℕ) → total w ns ≤ total v ns
total-less v w le [] = omega arith
total-less v w le (n ∷ ns) = let a = le n in let b = total-less v w le ns in omega (arith, a, b)

module _ (v w : ℕ → ℕ) (base : ℕ) where
  -- what an expression's walk, a link, and the copy of a called body owe
  pub record WalkOwes (s : Counters) (e : Walked) : Type 0 where
    pub root : Owes v w base 0 (v e.root.occ) s e.parts
    pub results : Owes v w base 0 (in_roots w e.results) s e.parts

  -- a link takes the left operand, and owes its own occurrence
  abbrev pub LinkOwes : Root → Counters → Walked → Type 0
  LinkOwes left s e = Owes v w base (v left.occ) (v e.root.occ) s e.parts

  -- a copy takes the arguments, and owes its results
  pub record CopyOwes (roots : List Root) (s : Counters) (c : Copy) : Type 0 where
    pub some : 0 < length c.results
    pub parts : Owes v w base (in_roots w roots) (in_roots v c.results) s c.parts

  -- of an expression
  abbrev pub IsWalk : Walk → Type 0
  IsWalk x = (here : Here) (s : Counters) → WalkOwes s (x here s)

  -- of an operator with its right operand
  abbrev pub IsLink : LinkWalk → Type 0
  IsLink l = (here : Here) (left : Root) (s : Counters) → LinkOwes left s (l here left s)

  -- of a declaration that is called
  abbrev pub IsCallee : Callee → Type 0
  IsCallee c = (here : Here) (roots : List Root) (s : Counters) → CopyOwes roots s (c here roots s)

  -- one behind the other
  pub walk_all-owes : (ws : List Walk) → AllByRecursion IsWalk ws → (here : Here) (s : Counters) → Owes v w base 0 (in_roots v (walk_all ws here s).roots) s (walk_all ws here s).parts
  walk_all-owes [] h here s = owes-nothing v w base 0 s
  walk_all-owes (x ∷ xs) h here s =
      let first = x here s in
      let t = after s first.parts in
      let rest = walk_all xs here t in
      owes-joined v w base 0 (v first.root.occ) 0 (in_roots v rest.roots) s first.parts rest.parts (h.0 here s).root (walk_all-owes xs h.1 here t)

  -- links one behind the other
  links-owe : (ls : List LinkWalk) → AllByRecursion IsLink ls → (here : Here) (left : Root) (s : Counters) → Owes v w base (v left.occ) (v (links ls here left s).root.occ) s (links ls here left s).parts
  links-owe [] h here left s = owes-nothing v w base (v left.occ) s
  links-owe (l ∷ ls) h here left s =
      let one = l here left s in
      let t = after s one.parts in
      let rest = links ls here one.root t in
      let middle = v one.root.occ in
      relax v w base (v left.occ + middle) (middle + v rest.root.occ) (v left.occ) (v rest.root.occ) s (joined one.parts rest.parts) (omega arith)
      (owes-joined v w base (v left.occ) middle middle (v rest.root.occ) s one.parts rest.parts (h.0 here left s) (links-owe ls h.1 here one.root t))

module _ (v w : ℕ → ℕ) (base : ℕ) (le : (n : ℕ) → w n ≤ v n) where
  -- the only result of an expression is its root
  one_result-owes : (s : Counters) (p : Parts) (occ : ℕ) (ty : Ty) → Owes v w base 0 (v occ) s p → WalkOwes v w base s (one_result p occ ty)
  one_result-owes s p occ ty h = let less = le occ in record { root = h; results = relax v w base 0 (v occ) 0 (w occ + 0) s p (omega (arith, less)) h }

  -- an occurrence before what it is made of
  whole-owes : (x : Occ) (q : Parts) (ty : Ty) (s : Counters) → Owes v w base 0 (in_form v x.form) (past_occ s) q → WalkOwes v w base s (one_result (joined (one_occ x) q) s.occs ty)
  whole-owes x q ty s h =
      one_result-owes s (joined (one_occ x) q) s.occs ty
      (relax v w base 0 (v s.occs + 0) 0 (v s.occs) s (joined (one_occ x) q) (omega arith)
      (owes-occ v w base 0 0 s x q (λ pays. relax v w base 0 (in_form v x.form) 0 (in_form v x.form + 0) (past_occ s) q (omega arith) h)))

  -- ---- forms of expressions

  -- an occurrence without parts
  pub leaf-owes : (ty : Ty) (at : Pos) (form : Form) → in_form v form ≡ 0 → (here : Here) (s : Counters) → WalkOwes v w base s (leaf here ty at form s)
  leaf-owes ty at form e here s = one_result-owes s (one_occ (occ_here here ty at form)) s.occs ty (owes-one_occ v w base s (occ_here here ty at form) e)

  -- operators of one level
  pub chain-owes : (x : Walk) (ls : List LinkWalk) → IsWalk v w base x → AllByRecursion (IsLink v w base) ls → IsWalk v w base (chain x ls)
  chain-owes x ls hx hls here s =
      let first = x here s in
      let t = after s first.parts in
      let rest = links ls here first.root t in
      let middle = v first.root.occ in
      one_result-owes s (joined first.parts rest.parts) rest.root.occ rest.root.ty
      (relax v w base (0 + middle) (middle + v rest.root.occ) 0 (v rest.root.occ) s (joined first.parts rest.parts) (omega arith)
      (owes-joined v w base 0 middle middle (v rest.root.occ) s first.parts rest.parts (hx here s).root (links-owe v w base ls hls here first.root t)))

  -- an operator that is written as a function
  pub built_in-owes : (names : List (List ℕ)) (i : Instance) (op : Op) (at : Pos) (args : List Walk) → AllByRecursion (IsWalk v w base) args → IsWalk v w base (built_in base names i op at args)
  built_in-owes names i op at args hs here s =
      let arguments = walk_all args here (past_occ s) in
      whole-owes (occ_here here (type_of op).result at (Apply op (root_occs arguments.roots))) arguments.parts (type_of op).result s (walk_all-owes v w base args hs here (past_occ s))

  -- the operand of a prefix operator is its only part
  in-prefix : (op : Prefix) (n : ℕ) → in_form v (prefix_form op n) ≡ v n
  in-prefix prefix.Minus n = omega arith
  in-prefix prefix.MinusDot n = omega arith
  in-prefix prefix.Not n = omega arith
  in-prefix prefix.Pre n = omega arith

  -- a prefix operator
  pub prefixed-owes : (names : List (List ℕ)) (i : Instance) (op : Prefix) (at : Pos) (x : Walk) → IsWalk v w base x → IsWalk v w base (prefixed base names i op at x)
  prefixed-owes names i op at x hx here s =
      let t = past_occ s in
      let operand = x here t in
      let ty = prefix_type op operand.root.ty in
      let form = prefix_form op operand.root.occ in
      let e = in-prefix op operand.root.occ in
      whole-owes (occ_here here ty at form) operand.parts ty s (relax v w base 0 (v operand.root.occ) 0 (in_form v form) t operand.parts (omega (arith, e)) (hx here t).root)

  -- an operator of a chain with its right operand
  pub link-owes : (op : Infix) (at : Pos) (x : Walk) → IsWalk v w base x → (here : Here) (left : Root) (s : Counters) →
      LinkOwes v w base left s (one_result (joined (one_occ (occ_here here (type_of (infix_form op left.ty)).result at (Apply (infix_form op left.ty) (left.occ ∷ (x here (past_occ s)).root.occ ∷ [])))) (x here (past_occ s)).parts) s.occs (type_of (infix_form op left.ty)).result)
  link-owes op at x hx here left s =
      let t = past_occ s in
      let right = x here t in
      let own = occ_here here (type_of (infix_form op left.ty)).result at (Apply (infix_form op left.ty) (left.occ ∷ right.root.occ ∷ [])) in
      relax v w base (v left.occ) (v s.occs + 0) (v left.occ) (v s.occs) s (joined (one_occ own) right.parts) (omega arith)
      (owes-occ v w base (v left.occ) 0 s own right.parts (λ pays. relax v w base 0 (v right.root.occ) (v left.occ) (in_form v own.form + 0) t right.parts (omega arith) (hx here t).root))

  -- an `if`
  pub conditional-owes : (names : List (List ℕ)) (i : Instance) (at : Pos) (c x y : Walk) → IsWalk v w base c → IsWalk v w base x → IsWalk v w base y → IsWalk v w base (conditional base names i at c x y)
  conditional-owes names i at c x y hc hx hy here s =
      let t = past_occ s in
      let test = c here t in
      let u = after t test.parts in
      let left = x here u in
      let z = after u left.parts in
      let right = y here z in
      let own = occ_here here left.root.ty at (If test.root.occ left.root.occ right.root.occ) in
      let b = owes-joined v w base 0 (v left.root.occ) 0 (v right.root.occ) u left.parts right.parts (hx here u).root (hy here z).root in
      let a = owes-joined v w base 0 (v test.root.occ) (0 + 0) (v left.root.occ + v right.root.occ) t test.parts (joined left.parts right.parts) (hc here t).root b in
      whole-owes own (joined test.parts (joined left.parts right.parts)) left.root.ty s
      (relax v w base (0 + (0 + 0)) (v test.root.occ + (v left.root.occ + v right.root.occ)) 0 (in_form v own.form) t (joined test.parts (joined left.parts right.parts)) (omega arith) a)

  -- an occurrence behind its left part
  behind-owes : (x : Walk) → IsWalk v w base x → (here : Here) (s : Counters) (own : Occ) (q : Parts) (ty : Ty) →
      (Owes v w base (v (x here s).root.occ) (in_form v own.form) (past_occ (after s (x here s).parts)) q) → WalkOwes v w base s (one_result (joined (x here s).parts (joined (one_occ own) q)) (after s (x here s).parts).occs ty)
  behind-owes x hx here s own q ty h =
      let left = x here s in
      let t = after s left.parts in
      let middle = v left.root.occ in
      let b = owes-occ v w base middle 0 t own q (λ pays. relax v w base middle (in_form v own.form) middle (in_form v own.form + 0) (past_occ t) q (omega arith) h) in
      one_result-owes s (joined left.parts (joined (one_occ own) q)) t.occs ty
      (relax v w base (0 + middle) (middle + (v t.occs + 0)) 0 (v t.occs) s (joined left.parts (joined (one_occ own) q)) (omega arith)
      (owes-joined v w base 0 middle middle (v t.occs + 0) s left.parts (joined (one_occ own) q) (hx here s).root b))

  -- `left -> right`
  pub arrow-owes : (names : List (List ℕ)) (i : Instance) (at : Pos) (x y : Walk) → IsWalk v w base x → IsWalk v w base y → IsWalk v w base (arrow base names i at x y)
  arrow-owes names i at x y hx hy here s =
      let left = x here s in
      let t = past_occ (after s left.parts) in
      let right = y here t in
      let own = occ_here here left.root.ty at (Arrow left.root.occ right.root.occ) in
      behind-owes x hx here s own right.parts left.root.ty (relax v w base 0 (v right.root.occ) (v left.root.occ) (in_form v own.form) t right.parts (omega arith) (hy here t).root)

  -- an occurrence that is no hidden one leaves the number of the next hidden one
  same-hidden : (t : Counters) → v (base + (past_occ t).hidden) ≡ v (base + t.hidden)
  unfolding past_occ
  same-hidden t = refl

  -- `left fby right`
  pub followed-owes : (names : List (List ℕ)) (i : Instance) (at : Pos) (x y : Walk) → IsWalk v w base x → IsWalk v w base y → IsWalk v w base (followed base names i at x y)
  followed-owes names i at x y hx hy here s =
      let left = x here s in
      let t = after s left.parts in
      let u = past_occ t in
      let right = y here (past_hidden u) in
      let own = occ_here here left.root.ty at (Arrow left.root.occ (base + t.hidden)) in
      let pre = occ_here here left.root.ty at (Pre right.root.occ) in
      let e = same-hidden t in
      let inner = owes-hidden v w base 0 0 u pre right.parts (relax v w base 0 (v right.root.occ) 0 (in_form v pre.form + 0) (past_hidden u) right.parts (omega arith) (hy here (past_hidden u)).root) in
      behind-owes x hx here s own (joined (one_hidden pre) right.parts) left.root.ty
      (relax v w base 0 (v (base + u.hidden) + 0) (v left.root.occ) (in_form v own.form) u (joined (one_hidden pre) right.parts) (omega (arith, e)) inner)

  -- either of the two
  pub flow-owes : (names : List (List ℕ)) (i : Instance) (op : FlowOp) (at : Pos) (x y : Walk) → IsWalk v w base x → IsWalk v w base y → IsWalk v w base (flow_walk base names i op at x y)
  flow-owes names i flow.Arrow at x y hx hy here s = arrow-owes names i at x y hx hy here s
  flow-owes names i flow.Fby at x y hx hy here s = followed-owes names i at x y hx hy here s

  -- ---- calls

  -- the first root weighs no more than all
  first-less : (rs : List Root) → 0 < length rs → v (first_root rs).occ ≤ in_roots v rs
  first-less [] some = absurd (omega (arith, some))
  first-less (r ∷ rs) some = omega arith

  -- a call pays for the first result, as a plain definer names it
  call-pays : (n : ℕ) (rs : List Root) → 0 < length rs → w (first_root rs).occ ≤ v n → v (first_root rs).occ + in_roots w rs ≤ v n + in_roots v rs
  call-pays n [] some pays = absurd (omega (arith, some))
  call-pays n (r ∷ rs) some pays = let less = total-less v w le (root_occs rs) in omega (arith, pays, less)

  -- a call of what was found by the name
  abbrev called : Option Callee → Pos → List Walk → Walk
  called o at args here s =
      let inside = in_call s.occs here in
      let arguments = walk_all args inside (past_occ s) in
      let copy = callee o inside arguments.roots (after (past_occ s) arguments.parts) in
      let result = first_root copy.results in
      record {
        parts = joined (one_occ (occ_here here result.ty at (Result result.occ))) (joined arguments.parts copy.parts);
        root = record { occ = s.occs; ty = result.ty };
        results = copy.results;
      }

  -- a call whose declaration is there
  called-owes : (c : Callee) (at : Pos) (args : List Walk) → IsCallee v w base c → AllByRecursion (IsWalk v w base) args → IsWalk v w base (called (Some c) at args)
  called-owes c at args hc hs here s =
      let inside = in_call s.occs here in
      let t = past_occ s in
      let arguments = walk_all args inside t in
      let u = after t arguments.parts in
      let copy = c inside arguments.roots u in
      let result = first_root copy.results in
      let own = occ_here here result.ty at (Result result.occ) in
      let q = joined arguments.parts copy.parts in
      let takes = in_roots v arguments.roots in
      let given = in_roots w arguments.roots in
      let gives = in_roots v copy.results in
      let b = hc inside arguments.roots u in
      let a = owes-joined v w base 0 takes given gives t arguments.parts copy.parts (walk_all-owes v w base args hs inside t) b.parts in
      let less = total-less v w le (root_occs arguments.roots) in
      let first = first-less copy.results b.some in
      record {
        root = relax v w base 0 (v s.occs + 0) 0 (v s.occs) s (joined (one_occ own) q) (omega arith)
            (owes-occ v w base 0 0 s own q (λ pays. relax v w base (0 + given) (takes + gives) 0 (in_form v own.form + 0) t q (omega (arith, less, first)) a));
        results = λ pay. omega (
          arith,
          owes-occ v w base (v s.occs) (in_roots w copy.results) s own q
              (λ pays. let more = call-pays s.occs copy.results b.some pays in relax v w base (0 + given) (takes + gives) (v s.occs) (in_form v own.form + in_roots w copy.results) t q (omega (arith, less, more)) a) pay,
        );
      }

  -- a call
  pub call-owes : (names : List (List ℕ)) (i : Instance) (x : Name) (args : List Walk) (c : Callee) → i.callees x.id ≡ Some c → IsCallee v w base c → AllByRecursion (IsWalk v w base) args → IsWalk v w base (call base names i x args)
  call-owes names i x args c is hc hs = subst (λ o. IsWalk v w base (called o x.at args)) (sym is) (called-owes c x.at args hc hs)
