-- In the flat form of a program no body of a choice or automaton stands twice.
use Rattle.std.proofs.Common.{◌≡◌, ℕ, zero, suc, Bool, true, false, if◌then◌else◌, nat_eq, List, [], ◌∷◌, map, slice_get, Option, Some, refl, sym, ap, subst, ◌∙◌}
use Rattle.std.specs.List.{AllByRecursion}
use Rattle.zl_ast.specs.declared.expr.Expr.{Expr}
use Rattle.zl_ast.specs.declared.eqn.Eqn.{Eqn}
use Rattle.zl_ast.specs.declared.program.Decl.{Decl}
use Rattle.zl_meaning.specs.declared.block.Block.{Block}
use Rattle.zl_meaning.specs.declared.block.BlockKind.{BlockKind}
use Rattle.zl_meaning.specs.declared.block.BlockKind.TheVariants.{Main, Arm, Guard, State, Reset}
use Rattle.zl_meaning.specs.declared.place.PlaceInfo.{PlaceInfo}
use Rattle.zl_flat.specs.declared.here.Here.{Here}
use Rattle.zl_flat.specs.declared.size.Size.{Size}
use Rattle.zl_flat.specs.declared.given.Given.{Given}
use Rattle.zl_flat.specs.Parts.{Counters, joined, some_places, some_definers, after, past_block, start}
use Rattle.zl_flat.specs.Sizes.{decl_size}
use Rattle.zl_flat.specs.Instances.{Callee, Instance}
use Rattle.zl_flat.specs.Expressions.{expr_walk, exprs_walk}
use Rattle.zl_flat.specs.Equations.{eqn_walk, eqns_walk}
use Rattle.zl_flat.specs.Expansion.{Scoped, Named, found, with_name, with_callees, argument_definers, input_definers, param_place, body_copy, instance, decl_copy, main_here, main_block, main_parts, MainOf, sizes_of, main_size, main_form}
use Rattle.zl_flat.proofs.WellFormedOnce.{Apart, DiffersFrom, Differs, Once, once-joined, once-flat}
use Rattle.zl_flat.proofs.WellFormedOwn.{reset-once}
use Rattle.zl_flat.proofs.WellFormedOnceExprs.{WalkOnce, CalleeOnce, walk_all-once, expr-once}
use Rattle.zl_flat.proofs.WellFormedOnceEqns.{MakingOnce, in_turn-once, once-some_definers}
use Rattle.zl_flat.proofs.WellFormedOnceTrees.{eqn-once}

once-some_places : (s : Counters) (xs : List PlaceInfo) → Once s (some_places xs)
unfolding some_places
once-some_places s xs = once-flat s (some_places xs) refl

module _ (base : ℕ) (names : List (List ℕ)) where
  -- each callee of the instance makes no body twice
  abbrev Known : Instance → Type 0
  Known i = (id : ℕ) (c : Callee) → i.callees id ≡ Some c → CalleeOnce c

  results-once : (i : Instance) → Known i → (xs : List Expr) → AllByRecursion WalkOnce (map (expr_walk base names i) xs)
  results-once i known [] = tt
  results-once i known (x ∷ xs) = (expr-once base names i known x, results-once i known xs)

  eqs-once : (i : Instance) → Known i → (es : List Eqn) → AllByRecursion MakingOnce (map (eqn_walk base names i) es)
  eqs-once i known [] = tt
  eqs-once i known (e ∷ es) = (eqn-once base names i known e, eqs-once i known es)

  pub body_copy-once : (i : Instance) → Known i → (d : Decl) (definers : List Given) (here : Here) (s : Counters) → Once s (body_copy base names i d definers here s).parts
  body_copy-once i known d definers here s =
      let places = some_places (map (param_place i here) d.params) in
      let params = joined places (some_definers definers) in
      let t = after s params in
      let results = exprs_walk base names i d.results here t in
      let u = after t results.parts in
      let eqs = eqns_walk base names i d.eqs here u in
      once-joined s params (joined results.parts eqs)
      (once-joined s places (some_definers definers) (once-some_places s (map (param_place i here) d.params)) (once-some_definers (after s places) definers))
      (once-joined t results.parts eqs (walk_all-once (map (expr_walk base names i) d.results) (results-once i known d.results) here t)
      (in_turn-once (map (eqn_walk base names i) d.eqs) (eqs-once i known d.eqs) here u))

  abbrev AllOnce : List (Named Callee) → Type 0
  AllOnce cs = AllByRecursion (λ (n : Named Callee). CalleeOnce n.what) cs

  found-once : (cs : List (Named Callee)) → AllOnce cs → (id : ℕ) (c : Callee) → found cs id ≡ Some c → CalleeOnce c
  found-once [] h id c is = absurd (cc)
  found-once (x ∷ cs) h id c is = by_equal (nat_eq x.name id) is (found-once cs h.1 id c)
    where
      same : Some x.what ≡ Some c → x.what ≡ c
      same e = cc

      by_equal : (b : Bool) → (if b then Some x.what else found cs id) ≡ Some c → (found cs id ≡ Some c → CalleeOnce c) → CalleeOnce c
      by_equal true e more = subst CalleeOnce (same e) h.0
      by_equal false e more = more e

  decl-once : (cs : List (Named Callee)) (sizes : ℕ → Option Size) (d : Scoped) → AllOnce cs → CalleeOnce (decl_copy base names (found cs) sizes d)
  unfolding decl_copy
  decl-once cs sizes d h here roots s = body_copy-once (instance base names (found cs) sizes d here.block s.places) (found-once cs h) d.decl (argument_definers here s.places d.decl.params roots) here s

  and-one : (cs : List (Named Callee)) (id : ℕ) (c : Callee) → AllOnce cs → CalleeOnce c → AllOnce (with_name cs id c)
  and-one [] id c h k = (k, tt)
  and-one (x ∷ cs) id c h k = (h.0, and-one cs id c h.1 k)

  callees-once : (cs : List (Named Callee)) (ss : List (Named Size)) (ds : List Scoped) → AllOnce cs → AllOnce (with_callees base names cs ss ds)
  callees-once cs ss [] h = h
  callees-once cs ss (d ∷ ds) h =
      let c = decl_copy base names (found cs) (found ss) d in
      callees-once (with_name cs d.decl.name.id c) (with_name ss d.decl.name.id (decl_size d.infos (found ss) d.decl)) ds (and-one cs d.decl.name.id c h (decl-once cs (found ss) d h))

  parts-once : (cs : List (Named Callee)) (sizes : ℕ → Option Size) (d : Scoped) → AllOnce cs → Once start (main_parts base names (found cs) sizes d)
  unfolding main_parts
  parts-once cs sizes d h =
      let i = instance base names (found cs) sizes d 0 0 in
      let here = main_here base names d.decl in
      let definers = input_definers 0 d.decl.params in
      reset-once start (main_block base names d.decl) (body_copy base names i d.decl definers here (past_block start)).parts (λ t. tt) (body_copy-once i (found-once cs h) d.decl definers here (past_block start))

-- no two blocks of the form of `main` are the same body of one choice or automaton, whatever the program
pub main-apart : (names : List (List ℕ)) (m : MainOf) → Apart (main_form names m).blocks
unfolding main_form
main-apart names m =
    let base = (main_size m).occs in
    let p = parts-once base names (with_callees base names [] [] m.before) (sizes_of m) m.main (callees-once base names [] [] m.before tt) in
    p.apart

-- ---- the only one

-- it is a body of a choice or an automaton
abbrev pub IsBody : BlockKind → Type 0
IsBody Main = ⊥
IsBody (Arm of arm) = Unit {0}
IsBody (Guard of state) = Unit {0}
IsBody (State of state) = Unit {0}
IsBody (Reset c) = ⊥

not-itself : (k l : BlockKind) → IsBody k → k ≡ l → Differs k l → ⊥
not-itself Main l b e h = b
not-itself (Arm of arm) l b e h = h e
not-itself (Guard of state) l b e h = h e
not-itself (State of state) l b e h = h e
not-itself (Reset c) l b e h = b

same-block : (x y : Block) → Some x ≡ Some y → x ≡ y
same-block x y e = cc

none-later : (k : BlockKind) (xs : List Block) (c : ℕ) (y : Block) → DiffersFrom k xs → IsBody k → slice_get xs c ≡ Some y → k ≡ y.kind → ⊥
none-later k [] c y h b is e = absurd (cc)
none-later k (x ∷ xs) zero y h b is e = not-itself k x.kind b (e ∙ ap (λ z. z.kind) (sym (same-block x y is))) h.0
none-later k (x ∷ xs) (suc c) y h b is e = none-later k xs c y h.1 b is e

pub only-one : (xs : List Block) → Apart xs → (b c : ℕ) (x y : Block) → slice_get xs b ≡ Some x → slice_get xs c ≡ Some y → IsBody x.kind → x.kind ≡ y.kind → b ≡ c
only-one [] h b c x y is js k e = absurd (cc)
only-one (z ∷ xs) h zero zero x y is js k e = refl
only-one (z ∷ xs) h zero (suc c) x y is js k e = let same = same-block z x is in absurd (none-later z.kind xs c y h.0 (subst (λ w. IsBody w.kind) (sym same) k) js (ap (λ w. w.kind) same ∙ e))
only-one (z ∷ xs) h (suc b) zero x y is js k e = let same = same-block z y js in absurd (none-later z.kind xs b x h.0 (subst IsBody (e ∙ ap (λ w. w.kind) (sym same)) k) is (ap (λ w. w.kind) same ∙ sym e))
only-one (z ∷ xs) h (suc b) (suc c) x y is js k e = ap suc (only-one xs h.1 b c x y is js k e)
