-- What `main` expands to is few, hidden occurrences, choices and automata too, and where the places of each copy end.
use Rattle.std.proofs.Common.{◌≡◌, ℕ, zero, suc, ◌+◌, ◌<◌, ◌^◌, Bool, true, false, if◌then◌else◌, nat_eq, List, [], ◌∷◌, ◌++◌, map, length, take, slice_get, Some, sym, ap, ◌∙◌, subst, arith}
use Rattle.std.specs.List.{AllByRecursion}
use Rattle.zl_value.specs.declared.value.Ty.{Ty}
use Rattle.zl_ast.specs.declared.scope.VarInfo.{VarInfo}
use Rattle.zl_ast.specs.declared.expr.Expr.{Expr}
use Rattle.zl_ast.specs.declared.eqn.Eqn.{Eqn}
use Rattle.zl_ast.specs.declared.program.Decl.{Decl}
use Rattle.zl_ast.specs.NamesUsed.{Known}
use Rattle.zl_ast.specs.NamesRules.{built_in, declared_with, decl_broken, decls_broken}
use Rattle.zl_flat.specs.declared.here.Here.{Here}
use Rattle.zl_flat.specs.declared.here.Root.{Root}
use Rattle.zl_flat.specs.declared.size.Size.{Size}
use Rattle.zl_flat.specs.declared.given.Given.{Given}
use Rattle.zl_flat.specs.Parts.{Parts, Counters, past_block, start}
use Rattle.zl_flat.specs.Limits.{Fits}
use Rattle.zl_flat.specs.Counted.{count, NumberingsEnd}
use Rattle.zl_flat.specs.Instances.{Callee, Instance, callee}
use Rattle.zl_flat.specs.Expressions.{exprs_walk}
use Rattle.zl_flat.specs.Equations.{eqns_walk}
use Rattle.zl_flat.specs.Sizes.{decl_size}
use Rattle.zl_flat.specs.Numbering.{decl_numbering}
use Rattle.zl_flat.specs.Expansion.{Scoped, scoped, Named, found, with_name, with_sizes, with_callees, argument_definers, input_definers, body_copy, instance, decl_copy, main_here, main_block, main_parts, MainOf, sizes_of}
use Rattle.zl_flat.proofs.RulesKept.{none-left, none-right}
use Rattle.zl_flat.proofs.WellFormedParts.{all-left, all-right}
use Rattle.zl_flat.proofs.WellFormedGrammar.{IsWritten, AllWritten, eqn_written, eqns_written, exprs_written, params_written, decl_written, decls_written}
use Rattle.zl_flat.proofs.WellFormedDecls.{IsCounted}
use Rattle.zl_flat.proofs.WellFormedSizes.{AsMany}
use Rattle.zl_flat.proofs.WellFormedSizesForm.{AllMake, AreOwnNames, KnowsBuiltIns, built-ins-known, built-ins-still, own-name, and-own-name, and-one-makes, decl-makes}
use Rattle.zl_flat.proofs.FewParts.{IsFew, few-nothing, few-both, few-less, few-block, few-places, few-definers, CallsFew, expr-few}
use Rattle.zl_flat.proofs.FewPartsEqns.{MakingFew, eqn-few}
use Rattle.zl_flat.proofs.NumberingEnds.{decl-ends}

-- ---- copies

-- each copy is few
abbrev CalleeFew : Callee → Type 0
CalleeFew c = (here : Here) (roots : List Root) (s : Counters) → IsFew (c here roots s).parts

abbrev AllFew : List (Named Callee) → Type 0
AllFew cs = AllByRecursion (λ (c : Named Callee). CalleeFew c.what) cs

found-few : (cs : List (Named Callee)) → AllFew cs → (id : ℕ) (here : Here) (roots : List Root) (s : Counters) → IsFew (callee (found cs id) here roots s).parts
found-few [] h id here roots s = few-nothing
found-few (c ∷ cs) h id here roots s = by_equal (nat_eq c.name id) (found-few cs h.1 id here roots s)
  where
    by_equal : (b : Bool) → IsFew (callee (found cs id) here roots s).parts → IsFew (callee (if b then Some c.what else found cs id) here roots s).parts
    by_equal true more = h.0 here roots s
    by_equal false more = more

and-one-few : (cs : List (Named Callee)) (id : ℕ) (c : Callee) → AllFew cs → CalleeFew c → AllFew (with_name cs id c)
and-one-few [] id c h k = (k, tt)
and-one-few (x ∷ cs) id c h k = (h.0, and-one-few cs id c h.1 k)

-- the declaration was made of the tokens of a text
abbrev pub IsOfText : Scoped → Type 0
IsOfText d = AllWritten (decl_written d.decl)

module _ (base : ℕ) (names : List (List ℕ)) where
  module _ (i : Instance) (called : CallsFew i) where
    exprs-few : (xs : List Expr) (here : Here) (s : Counters) → IsFew (exprs_walk base names i xs here s).parts
    exprs-few [] here s = few-nothing
    exprs-few (x ∷ xs) here s = few-both _ _ (expr-few base names i called x here s) (exprs-few xs here _)

    eqns-few : (es : List Eqn) → AllWritten (eqns_written es) → MakingFew (eqns_walk base names i es)
    eqns-few [] w here s = few-nothing
    eqns-few (e ∷ es) w here s = few-both _ _ (eqn-few base names i called e (all-left IsWritten (eqn_written e) (eqns_written es) w) here s) (eqns-few es (all-right IsWritten (eqn_written e) (eqns_written es) w) here _)

    body_copy-few : (d : Decl) → AllWritten (decl_written d) → (definers : List Given) (here : Here) (s : Counters) → IsFew (body_copy base names i d definers here s).parts
    body_copy-few d w definers here s =
        let inside = all-right IsWritten (params_written d.params) (exprs_written d.results ++ eqns_written d.eqs) w.1 in
        few-both _ _ (few-both _ _ (few-places _) (few-definers _)) (few-both _ _ (exprs-few d.results here _) (eqns-few d.eqs (all-right IsWritten (exprs_written d.results) (eqns_written d.eqs) inside) here _))

  decl-few : (cs : List (Named Callee)) (zs : List (Named Size)) (d : Scoped) → AllFew cs → IsOfText d → CalleeFew (decl_copy base names (found cs) (found zs) d)
  unfolding decl_copy
  decl-few cs zs d h w here roots s = body_copy-few (instance base names (found cs) (found zs) d here.block s.places) (found-few cs h) d.decl w (argument_definers here s.places d.decl.params roots) here s

  callees-few : (cs : List (Named Callee)) (zs : List (Named Size)) (ds : List Scoped) → AllFew cs → AllByRecursion IsOfText ds → AllFew (with_callees base names cs zs ds)
  callees-few cs zs [] h w = h
  callees-few cs zs (d ∷ ds) h w =
      callees-few (with_name cs d.decl.name.id (decl_copy base names (found cs) (found zs) d)) (with_name zs d.decl.name.id (decl_size d.infos (found zs) d.decl)) ds
      (and-one-few cs d.decl.name.id _ h (decl-few cs zs d h w.0)) w.1

-- ---- main

-- what the walk of `main` makes is few
pub main-few : (names : List (List ℕ)) (m : MainOf) (base : ℕ) → AllByRecursion IsOfText m.before → IsOfText m.main → IsFew (main_parts base names (found (with_callees base names [] [] m.before)) (sizes_of m) m.main)
unfolding main_parts
main-few names m base before main =
    let cs = with_callees base names [] [] m.before in
    few-both _ _ (few-less _ 0 1 1 (few-block (main_block base names m.main.decl)))
    (body_copy-few base names (instance base names (found cs) (sizes_of m) m.main 0 0) (found-few cs (callees-few base names [] [] m.before tt before)) m.main.decl main (input_definers 0 m.main.decl.params) (main_here base names m.main.decl) (past_block start))

-- few parts whose counts keep the limits are below 2 ^ 20 together
pub few-count : (p : Parts) (z : Size) → IsFew p → AsMany p z → Fits z → count p < 2 ^ 20
unfolding count
few-count p z few many fits =
    let h = few.hidden in
    let c = few.choices in
    let a = few.automata in
    let e = many.places in
    let f = many.occs in
    let g = many.sites in
    let k = many.blocks in
    let le = fits.places in
    let lf = fits.occs in
    let lg = fits.sites in
    let lk = fits.blocks in
    omega (arith, h, c, a, e, f, g, k, le, lf, lg, lk)

-- each declaration was made of the tokens of a text
pub scoped-written : (ds : List Decl) (vss : List (List VarInfo)) (tss : List (List Ty)) → AllWritten (decls_written ds) → AllByRecursion IsOfText (scoped ds vss tss)
scoped-written [] vss tss w = tt
scoped-written (d ∷ ds) [] tss w = tt
scoped-written (d ∷ ds) (vs ∷ vss) [] w = tt
scoped-written (d ∷ ds) (vs ∷ vss) (ts ∷ tss) w = (all-left IsWritten (decl_written d) (decls_written ds) w, scoped-written ds vss tss (all-right IsWritten (decl_written d) (decls_written ds) w))

-- ---- where the places of a copy end

module _ (base : ℕ) (names : List (List ℕ)) where
  -- the numbers of the places of each copy end where its places do, behind declarations that are known
  ends-from : (cs : List (Named Callee)) (zs : List (Named Size)) (k : Known) (ds : List Scoped) → AllMake cs zs → AreOwnNames names zs → KnowsBuiltIns names k → AllByRecursion IsCounted ds → decls_broken names k (map (λ (d : Scoped). d.decl) ds) ≡ [] →
      (n : ℕ) (d : Scoped) → slice_get ds n ≡ Some d → (here : Here) (roots : List Root) (s : Counters) →
      (decl_numbering d.infos (found (with_sizes zs (take n ds))) d.decl s.places).next
      ≡ s.places + length (decl_copy base names (found (with_callees base names cs zs (take n ds))) (found (with_sizes zs (take n ds))) d here roots s).parts.places
  ends-from cs zs k [] make own known counted kept n d is here roots s = absurd (cc)
  ends-from cs zs k (e ∷ ds) make own known counted kept zero d is here roots s =
      let same : e ≡ d = same_some e d is in
      subst (λ x. (decl_numbering x.infos (found zs) x.decl s.places).next ≡ s.places + length (decl_copy base names (found cs) (found zs) x here roots s).parts.places) same
      ((decl-ends e.infos (found zs) e.decl).next s.places ∙ ap (λ z. s.places + z) (sym (decl-makes base names cs zs e make own counted.0 here roots s).places))
    where
      same_some : (x y : Scoped) → Some x ≡ Some y → x ≡ y
      same_some x y h = cc
  ends-from cs zs k (e ∷ ds) make own known counted kept (suc n) d is here roots s =
      let one = decl_broken names k e.decl in
      let rest = decls_broken names (declared_with k e.decl) (map (λ (x : Scoped). x.decl) ds) in
      let c = decl_copy base names (found cs) (found zs) e in
      let z = decl_size e.infos (found zs) e.decl in
      ends-from (with_name cs e.decl.name.id c) (with_name zs e.decl.name.id z) (declared_with k e.decl) ds
      (and-one-makes cs zs e.decl.name.id c z make (decl-makes base names cs zs e make own counted.0))
      (and-own-name names zs e.decl.name.id z own (own-name names k e.decl known (none-left one rest kept)))
      (built-ins-still names k e.decl known) counted.1 (none-right one rest kept) n d is here roots s

pub numberings-end : (names : List (List ℕ)) (ds : List Scoped) → AllByRecursion IsCounted ds → decls_broken names (built_in names) (map (λ (d : Scoped). d.decl) ds) ≡ [] → NumberingsEnd names ds
numberings-end names ds counted kept base n d is here roots s = ends-from base names [] [] (built_in names) ds tt tt (built-ins-known names) counted kept n d is here roots s
