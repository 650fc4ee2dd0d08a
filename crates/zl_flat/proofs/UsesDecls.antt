-- Declarations that break no rule of names: what holds of the walks of their expressions and equations, and of their copies.
use Rattle.std.proofs.Common.{◌≡◌, ℕ, Bool, true, false, ◌||◌, if◌then◌else◌, nat_eq, List, [], ◌∷◌, ◌++◌, map, length, Option, Some, None, refl, ap, subst, ◌∙◌, arith}
use Rattle.std.specs.List.{AllByRecursion}
use Rattle.std.specs.Prelude.{codes}
use Rattle.std.proofs.lemmas.Bool.{eqb-true, eq-eqb}
use Rattle.zl_value.specs.declared.op.Op.TheVariants.{FloatOfInt, Truncate}
use Rattle.zl_ast.specs.declared.scope.VarInfo.{VarInfo}
use Rattle.zl_ast.specs.declared.expr.Expr.{Expr}
use Rattle.zl_ast.specs.declared.eqn.Eqn.{Eqn}
use Rattle.zl_ast.specs.declared.program.Decl.{Decl}
use Rattle.zl_ast.specs.declared.program.Param.{Param}
use Rattle.zl_ast.specs.Names.{among, with_ids, ids_of, has_text, is_main}
use Rattle.zl_ast.specs.NamesDefined.{eqn_outline, eqns_outline}
use Rattle.zl_ast.specs.NamesUsed.{Known, Signature, expr_uses, eqn_uses, values_uses, eqns_uses}
use Rattle.zl_ast.specs.NamesRules.{is_constant, signature_of, built_in, with_constant, with_signature, declared_with, inside_of, with_visible, variables_broken, uses_broken, main_broken, decl_broken, decls_broken}
use Rattle.zl_ast.specs.Scopes as scope
use Rattle.zl_ast.specs.Scopes.{param_ids, first_entries, parameter}
use Rattle.zl_flat.specs.declared.here.Here.{Here}
use Rattle.zl_flat.specs.declared.size.Size.{Size}
use Rattle.zl_flat.specs.Parts.{Counters, after}
use Rattle.zl_flat.specs.Operators.{built_in_op}
use Rattle.zl_flat.specs.Sizes.{decl_size}
use Rattle.zl_flat.specs.Numbering.{decl_numbering}
use Rattle.zl_flat.specs.Instances.{Callee, Instance}
use Rattle.zl_flat.specs.Expressions.{expr_walk, exprs_walk}
use Rattle.zl_flat.specs.Equations.{eqn_walk}
use Rattle.zl_flat.specs.Expansion.{Scoped, Named, found, with_name, with_callees, instance, decl_copy}
use Rattle.zl_flat.proofs.WellFormedParts.{all-left, all-right}
use Rattle.zl_flat.proofs.RulesKept.{none-left, none-right, IsVariable, Covers}
use Rattle.zl_flat.proofs.RulesKept.{covers-one}
use Rattle.zl_flat.proofs.DeclNames.{all-found, InfosKnown, infos-known, covers-visible, IsCounted, Calls, KnowsNames, known_after}
use Rattle.zl_flat.proofs.UsesNames.{NamesKnown, EntriesKnown, OutlineKnown, covers-none, covers-names, first-known, list-known}
use Rattle.zl_flat.proofs.UsesExprTrees.{Copied, OfWalk, OfCallee, OfForms, Callable, HasCalls, expr-holds}
use Rattle.zl_flat.proofs.UsesEqnTrees.{EqnKinds, OfMaking, OfEquations, eqn-holds}

-- ---- what is known of a declaration's own names

-- its variables are those of the instance, and its expressions and equations break no rule of names
pub record Inside (i : Instance) (k : Known) (d : Decl) : Type 0 where
  pub visible : List ℕ
  pub covers : Covers i visible
  pub entries : EntriesKnown i (eqns_outline d.eqs).entries
  pub results : values_uses (inside_of k d) d.results visible ≡ []
  pub equations : eqns_uses (inside_of k d) d.eqs visible ≡ []

-- the parameters are variables
params-known : (i : Instance) (ps : List Param) → InfosKnown i (map parameter ps) → NamesKnown i (map (λ (p : Param). p.name) ps)
params-known i [] h = tt
params-known i (p ∷ ps) h = (h.0, params-known i ps h.1)

-- the numbers of the names of parameters
same-ids : (ps : List Param) → ids_of (map (λ (p : Param). p.name) ps) ≡ param_ids ps
same-ids [] = refl
same-ids (p ∷ ps) = ap (λ ids. p.name.id ∷ ids) (same-ids ps)

-- the variables of a declaration that breaks no rule of names are those of its copy
pub inside-of : (base : ℕ) (names : List (List ℕ)) (callees : ℕ → Option Callee) (sizes : ℕ → Option Size) (d : Scoped) (block n : ℕ) (k : Known) → IsCounted d → decl_broken names k d.decl ≡ [] → Inside (instance base names callees sizes d block n) k d.decl
unfolding uses_broken scope.variables
inside-of base names callees sizes d block n k counted h =
    let i = instance base names callees sizes d block n in
    let visible = with_visible [] (scope.variables d.decl) in
    let known = infos-known i d.infos (all-found d.infos d.types (decl_numbering d.infos sizes d.decl n).own counted.types (counted.places sizes n)) in
    let known2 = subst (InfosKnown i) counted.infos known in
    let uses = none-right (variables_broken k d.decl) (uses_broken names (inside_of k d.decl) d.decl) h in
    let values = values_uses (inside_of k d.decl) d.decl.results visible in
    let equations = eqns_uses (inside_of k d.decl) d.decl.eqs visible in
    let main = if is_main names d.decl.name.id then main_broken visible d.decl else [] in
    let seen = with_ids [] (param_ids d.decl.params) in
    let params = map parameter d.decl.params in
    let entries = (eqns_outline d.decl.eqs).entries in
    let own = map (λ (p : Param). p.name) d.decl.params in
    let held = subst (λ ids. Covers i (with_ids [] ids)) (same-ids d.decl.params)
    (covers-names i own [] (params-known i d.decl.params (all-left (λ (x : VarInfo). IsVariable i x.name) params (first_entries seen entries) known2)) (covers-none i)) in
    record {
      visible = visible;
      covers = covers-visible i [] (scope.variables d.decl) (covers-none i) known2;
      entries = first-known i seen entries held (all-right (λ (x : VarInfo). IsVariable i x.name) params (first_entries seen entries) known2);
      results = none-left values (equations ++ main) uses;
      equations = none-left equations main (none-right values (equations ++ main) uses);
    }

-- ---- the walks in a declaration

module _ (q : EqnKinds) (r : Copied) (base : ℕ) (names : List (List ℕ)) (i : Instance) (k : Known) (forms : OfForms q.exprs r base names i) (eqns : OfEquations q base names i) (knows : HasCalls r names i k) where
  -- it holds of the walks of values
  results-hold : (xs : List Expr) (visible : List ℕ) → Covers i visible → values_uses k xs visible ≡ [] → AllByRecursion (OfWalk q.exprs) (map (expr_walk base names i) xs)
  results-hold [] visible c h = tt
  results-hold (x ∷ xs) visible c h = (
    expr-holds q.exprs r base names i k forms knows x 1 visible c (none-left (expr_uses k x 1 visible) (values_uses k xs visible) h),
    results-hold xs visible c (none-right (expr_uses k x 1 visible) (values_uses k xs visible) h),
  )

  -- it holds of the walks of equations
  eqs-hold : (es : List Eqn) (visible : List ℕ) → Covers i visible → eqns_uses k es visible ≡ [] → AllByRecursion (OutlineKnown i) (map eqn_outline es) → AllByRecursion (OfMaking q) (map (eqn_walk base names i) es)
  eqs-hold [] visible c h l = tt
  eqs-hold (e ∷ es) visible c h l = (
    eqn-holds q r base names i k forms eqns knows e visible c (none-left (eqn_uses k e visible) (eqns_uses k es visible) h) l.0,
    eqs-hold es visible c (none-right (eqn_uses k e visible) (eqns_uses k es visible) h) l.1,
  )

-- it holds of the walks of a declaration's results and of its equations
pub record OfDecl (q : EqnKinds) (base : ℕ) (names : List (List ℕ)) (i : Instance) (d : Decl) : Type 0 where
  pub results : AllByRecursion (OfWalk q.exprs) (map (expr_walk base names i) d.results)
  pub equations : AllByRecursion (OfMaking q) (map (eqn_walk base names i) d.eqs)

-- inside the declaration the same names can be called
calls-inside : (r : Copied) (names : List (List ℕ)) (i : Instance) (k : Known) (d : Decl) → HasCalls r names i k → HasCalls r names i (inside_of k d)
calls-inside r names i k d h = record { signatures = h.signatures; constants = h.constants }

-- it holds of a declaration, where it holds of each form
pub decl-holds : (q : EqnKinds) (r : Copied) (base : ℕ) (names : List (List ℕ)) (i : Instance) (k : Known) (d : Decl) → OfForms q.exprs r base names i → OfEquations q base names i → HasCalls r names i k → Inside i k d → OfDecl q base names i d
decl-holds q r base names i k d forms eqns knows a =
    let inner = calls-inside r names i k d knows in
    record {
      results = results-hold q r base names i (inside_of k d) forms eqns inner d.results a.visible a.covers a.results;
      equations = eqs-hold q r base names i (inside_of k d) forms eqns inner d.eqs a.visible a.covers a.equations (list-known i [] [] (map eqn_outline d.eqs) a.entries);
    }

-- ---- declarations one behind the other

-- what was found is found behind more
still-found : (cs ds : List (Named Callee)) (id : ℕ) (c : Callee) → found cs id ≡ Some c → found (cs ++ ds) id ≡ Some c
still-found [] ds id c h = absurd (cc)
still-found (x ∷ cs) ds id c h = by_equal (nat_eq x.name id) h (still-found cs ds id c)
  where
    by_equal : (b : Bool) → (if b then Some x.what else found cs id) ≡ Some c → (found cs id ≡ Some c → found (cs ++ ds) id ≡ Some c) → (if b then Some x.what else found (cs ++ ds) id) ≡ Some c
    by_equal true e more = e
    by_equal false e more = more e

-- the name that was added is found
last-found : (cs : List (Named Callee)) (id : ℕ) (c : Callee) → Calls (found (with_name cs id c)) id
last-found [] id c = record { copy = c; is = ap (λ b. if b then Some c else None) (eq-eqb id id refl) }
last-found (x ∷ cs) id c = by_equal (nat_eq x.name id) refl (last-found cs id c)
  where
    by_equal : (b : Bool) → nat_eq x.name id ≡ b → Calls (found (with_name cs id c)) id → Calls (found (x ∷ with_name cs id c)) id
    by_equal true e h = record { copy = x.what; is = ap (λ b. if b then Some x.what else found (with_name cs id c) id) e }
    by_equal false e h = record { copy = h.copy; is = ap (λ b. if b then Some x.what else found (with_name cs id c) id) e ∙ h.is }

-- what could be called still can
still-calls : (cs ds : List (Named Callee)) (id : ℕ) → Calls (found cs) id → Calls (found (cs ++ ds)) id
still-calls cs ds id h = record { copy = h.copy; is = still-found cs ds id h.copy h.is }

-- behind one more declaration the names that are known can be called
knows-more : (names : List (List ℕ)) (cs : List (Named Callee)) (c : Callee) (k : Known) (d : Decl) (b : Bool) → KnowsNames names (found cs) k → KnowsNames names (found (with_name cs d.name.id c)) (if b then with_constant k d.name.id else with_signature k d.name.id (signature_of d))
knows-more names cs c k d true h = record {
  signatures = λ id s is none. still-calls cs (record { name = d.name.id; what = c } ∷ []) id (h.signatures id s is none);
  constants = λ id is. covers-one (Calls (found (with_name cs d.name.id c))) k.constants d.name.id (among k.constants d.name.id)
      (λ id is. still-calls cs (record { name = d.name.id; what = c } ∷ []) id (h.constants id is)) (last-found cs d.name.id c) id is;
}
knows-more names cs c k d false h = record {
  signatures = λ id s is none. by_equal id s (nat_eq d.name.id id) refl is none;
  constants = λ id is. still-calls cs (record { name = d.name.id; what = c } ∷ []) id (h.constants id is);
}
  where
    by_equal : (id : ℕ) (s : Signature) (b : Bool) → nat_eq d.name.id id ≡ b → (if b then Some (signature_of d) else k.signature id) ≡ Some s → built_in_op names id ≡ None → Calls (found (with_name cs d.name.id c)) id
    by_equal id s true e is none = subst (Calls (found (with_name cs d.name.id c))) (eqb-true d.name.id id e) (last-found cs d.name.id c)
    by_equal id s false e is none = still-calls cs (record { name = d.name.id; what = c } ∷ []) id (h.signatures id s is none)

-- before the first declaration no name is known but the built-in functions
pub nothing-known : (names : List (List ℕ)) → KnowsNames names (found []) (built_in names)
nothing-known names = record {
  signatures = λ id s is none. absurd (not_both (has_text names id (codes "float_of_int")) (has_text names id (codes "truncate")) s is none);
  constants = λ id is. absurd (cc);
}
  where
    not_both : (a b : Bool) (s : Signature) → (if (a || b) then Some (1, 1) else None) ≡ Some s → (if a then Some FloatOfInt else (if b then Some Truncate else None)) ≡ None → ⊥
    not_both true b s h k = cc
    not_both false true s h k = cc
    not_both false false s h k = cc

module _ (r : Copied) where
  -- it holds of each callee of the list
  abbrev pub OfCallees : List (Named Callee) → Type 0
  OfCallees cs = AllByRecursion (λ (n : Named Callee). OfCallee r n.what) cs

  -- it holds of the callee that is found
  found-holds : (cs : List (Named Callee)) (id : ℕ) (c : Callee) → OfCallees cs → found cs id ≡ Some c → OfCallee r c
  found-holds [] id c h is = absurd (cc)
  found-holds (x ∷ cs) id c h is = by_equal (nat_eq x.name id) is (found-holds cs id c h.1)
    where
      the_same : Some x.what ≡ Some c → x.what ≡ c
      the_same e = cc

      by_equal : (b : Bool) → (if b then Some x.what else found cs id) ≡ Some c → (found cs id ≡ Some c → OfCallee r c) → OfCallee r c
      by_equal true e more = subst (OfCallee r) (the_same e) h.0
      by_equal false e more = more e

  -- the names that are known can be called, and it holds of what is called
  pub has-calls : (names : List (List ℕ)) (cs : List (Named Callee)) (i : Instance) (k : Known) → i.callees ≡ found cs → OfCallees cs → KnowsNames names (found cs) k → HasCalls r names i k
  has-calls names cs i k e h known = record {
    signatures = λ id s is none. can id (known.signatures id s is none);
    constants = λ id is. can id (known.constants id is);
  }
    where
      can : (id : ℕ) → Calls (found cs) id → Callable r i id
      can id c = record { copy = c.copy; is = ap (λ g. g id) e ∙ c.is; holds = found-holds cs id c.copy h c.is }

  -- it holds of one more
  and-one : (cs : List (Named Callee)) (id : ℕ) (c : Callee) → OfCallees cs → OfCallee r c → OfCallees (with_name cs id c)
  and-one [] id c h k = (k, tt)
  and-one (x ∷ cs) id c h k = (h.0, and-one cs id c h.1 k)

-- what is to be known of each declaration, beside the rules of names, where these are the declarations before it
abbrev pub Facts : Type 1
Facts = (ℕ → Option Callee) → (ℕ → Option Size) → Scoped → Type 0

-- it is known of each
abbrev pub AllFacts : Facts → ℕ → List (List ℕ) → List (Named Callee) → List (Named Size) → List Scoped → Type 0
AllFacts facts base names cs ss [] = Unit {0}
AllFacts facts base names cs ss (d ∷ ds) =
    facts (found cs) (found ss) d
    × AllFacts facts base names (with_name cs d.decl.name.id (decl_copy base names (found cs) (found ss) d)) (with_name ss d.decl.name.id (decl_size d.infos (found ss) d.decl)) ds

module _ (r : Copied) (facts : Facts) (base : ℕ) (names : List (List ℕ)) where
  -- it holds of a declaration's copy, where it holds of those of the declarations before
  abbrev pub Copies : Type 0
  Copies = (cs : List (Named Callee)) (sizes : ℕ → Option Size) (d : Scoped) (k : Known) → IsCounted d → decl_broken names k d.decl ≡ [] → facts (found cs) sizes d → OfCallees r cs → KnowsNames names (found cs) k → OfCallee r (decl_copy base names (found cs) sizes d)

  -- so it holds of the copy of each
  pub callees-hold : Copies → (cs : List (Named Callee)) (ss : List (Named Size)) (k : Known) (ds : List Scoped) → OfCallees r cs → KnowsNames names (found cs) k → AllByRecursion IsCounted ds → decls_broken names k (map (λ (d : Scoped). d.decl) ds) ≡ [] →
      AllFacts facts base names cs ss ds → OfCallees r (with_callees base names cs ss ds) × KnowsNames names (found (with_callees base names cs ss ds)) (known_after k ds)
  callees-hold step cs ss k [] all known counted h more = (all, known)
  callees-hold step cs ss k (d ∷ ds) all known counted h more =
      let one = decl_broken names k d.decl in
      let rest = decls_broken names (declared_with k d.decl) (map (λ (e : Scoped). e.decl) ds) in
      let c = decl_copy base names (found cs) (found ss) d in
      callees-hold step (with_name cs d.decl.name.id c) (with_name ss d.decl.name.id (decl_size d.infos (found ss) d.decl)) (declared_with k d.decl) ds
      (and-one r cs d.decl.name.id c all (step cs (found ss) d k counted.0 (none-left one rest h) more.0 all known))
      (knows-more names cs c k d.decl (is_constant d.decl.kind) known) counted.1 (none-right one rest h) more.1

-- nothing more is to be known of declarations
abbrev pub no_facts : Facts
no_facts callees sizes d = Unit {0}

-- so it is of each
pub all-facts : (base : ℕ) (names : List (List ℕ)) (cs : List (Named Callee)) (ss : List (Named Size)) (ds : List Scoped) → AllFacts no_facts base names cs ss ds
all-facts base names cs ss [] = tt
all-facts base names cs ss (d ∷ ds) = (tt, all-facts base names (with_name cs d.decl.name.id (decl_copy base names (found cs) (found ss) d)) (with_name ss d.decl.name.id (decl_size d.infos (found ss) d.decl)) ds)

-- each result has a root
pub roots-length : (base : ℕ) (names : List (List ℕ)) (xs : List Expr) (i : Instance) (here : Here) (s : Counters) → length (exprs_walk base names i xs here s).roots ≡ length xs
roots-length base names [] i here s = refl
roots-length base names (x ∷ xs) i here s = let e = roots-length base names xs i here (after s (expr_walk base names i x here s).parts) in omega (arith, e)
