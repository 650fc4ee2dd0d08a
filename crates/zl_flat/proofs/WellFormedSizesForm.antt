-- What declarations and `main` expand to is as many as their sizes say.
use Rattle.std.proofs.Common.{◌≡◌, ℕ, Bool, true, false, ◌||◌, if◌then◌else◌, is_some, nat_eq, List, [], ◌∷◌, ◌++◌, map, length, Option, Some, None, refl, sym, subst, arith}
use Rattle.std.specs.Prelude.{codes}
use Rattle.std.specs.List.{AllByRecursion}
use Rattle.std.proofs.lemmas.Bool.{eqb-true}
use Rattle.zl_value.specs.declared.rule.Rule.TheVariants as rule
use Rattle.zl_value.specs.declared.value.Ty.{Ty}
use Rattle.zl_value.specs.declared.op.Op.{Op}
use Rattle.zl_value.specs.declared.op.Op.TheVariants.{FloatOfInt, Truncate}
use Rattle.zl_ast.specs.declared.scope.VarInfo.{VarInfo}
use Rattle.zl_ast.specs.declared.expr.Expr.{Expr}
use Rattle.zl_ast.specs.declared.eqn.Eqn.{Eqn}
use Rattle.zl_ast.specs.declared.program.Decl.{Decl}
use Rattle.zl_ast.specs.declared.program.Param.{Param}
use Rattle.zl_ast.specs.Names.{among, has_text, with_ids, broken_if}
use Rattle.zl_ast.specs.NamesDefined.{first_places, eqns_outline}
use Rattle.zl_ast.specs.NamesUsed.{Known, Signature}
use Rattle.zl_ast.specs.NamesRules.{is_constant, signature_of, built_in, with_constant, with_signature, declared_with, inside_of, is_declared, twice, variables_broken, uses_broken, decl_broken, decls_broken}
use Rattle.zl_ast.specs.Scopes as scope
use Rattle.zl_ast.specs.Scopes.{param_ids}
use Rattle.zl_flat.specs.declared.here.Here.{Here}
use Rattle.zl_flat.specs.declared.here.Root.{Root}
use Rattle.zl_flat.specs.declared.size.Size.{Size}
use Rattle.zl_flat.specs.declared.given.Given.{Given}
use Rattle.zl_flat.specs.Parts.{Counters, some_places, past_block, start}
use Rattle.zl_flat.specs.Variables.{variable_of, place_in_text, variables}
use Rattle.zl_flat.specs.Operators.{built_in_op}
use Rattle.zl_flat.specs.Sizes.{none, plus, total, a_place, called_size, exprs_size, eqns_size, decl_size}
use Rattle.zl_flat.specs.Numbering.{decl_numbering}
use Rattle.zl_flat.specs.Instances.{Callee, Instance, callee}
use Rattle.zl_flat.specs.Expressions.{exprs_walk}
use Rattle.zl_flat.specs.Equations.{eqns_walk}
use Rattle.zl_flat.specs.Expansion.{Scoped, Named, found, with_name, with_sizes, with_callees, argument_definers, input_definers, param_place, body_copy, instance, decl_copy, main_here, main_block, main_parts, MainOf, sizes_of, main_size}
use Rattle.zl_flat.proofs.PartsLaws.{places-joined, some-no_places}
use Rattle.zl_flat.proofs.RulesKept.{none-left, kept-if}
use Rattle.zl_flat.proofs.WellFormedDecls.{IsCounted, IsMainKept, known_after}
use Rattle.zl_flat.proofs.WellFormedSizes.{AsMany, many-nothing, many-joined, many-place, many-block, many-in_call, IsSized, expr-makes}
use Rattle.zl_flat.proofs.WellFormedSizesEqns.{MakingMakes, before-definers, eqn-makes}

-- ---- variables

-- the variables with a type and a place are those that have a place in the text
pub placed-as : (infos : List VarInfo) (types : List Ty) (own : List ℕ) (id : ℕ) → length types ≡ length infos → length own ≡ length infos → is_some (place_in_text infos id) ≡ is_some (variable_of (variables infos types own) id)
placed-as [] types own id t p = refl
placed-as (v ∷ infos) [] own id t p = absurd (omega (arith, t))
placed-as (v ∷ infos) (ty ∷ types) [] id t p = absurd (omega (arith, p))
placed-as (v ∷ infos) (ty ∷ types) (n ∷ own) id t p = by_equal (nat_eq v.name id) (placed-as infos types own id (omega (arith, t)) (omega (arith, p)))
  where
    by_equal : (b : Bool) → is_some (place_in_text infos id) ≡ is_some (variable_of (variables infos types own) id) →
        is_some (if b then Some v.at else place_in_text infos id) ≡ is_some (if b then Some (record { name = v.name; ty = ty; place = n }) else variable_of (variables infos types own) id)
    by_equal true e = refl
    by_equal false e = e

-- ---- built-in functions

-- the name is none of a built-in function
abbrev pub IsOwnName : List (List ℕ) → ℕ → Type 0
IsOwnName names id = built_in_op names id ≡ None

-- each built-in function is known
abbrev pub KnowsBuiltIns : List (List ℕ) → Known → Type 0
KnowsBuiltIns names k = (id : ℕ) (op : Op) → built_in_op names id ≡ Some op → is_some (k.signature id) ≡ true

-- before the first declaration each built-in function is known
pub built-ins-known : (names : List (List ℕ)) → KnowsBuiltIns names (built_in names)
built-ins-known names id op h = by_text (has_text names id (codes "float_of_int")) (has_text names id (codes "truncate")) h
  where
    by_text : (a b : Bool) → (if a then Some FloatOfInt else (if b then Some Truncate else None)) ≡ Some op → is_some {T = Signature} (if (a || b) then Some (1, 1) else None) ≡ true
    by_text true b e = refl
    by_text false true e = refl
    by_text false false e = absurd (cc)

-- and so it is behind each declaration
pub built-ins-still : (names : List (List ℕ)) (k : Known) (d : Decl) → KnowsBuiltIns names k → KnowsBuiltIns names (declared_with k d)
built-ins-still names k d h id op is = by_kind (is_constant d.kind)
  where
    by_name : (b : Bool) → is_some (k.signature id) ≡ true → is_some (if b then Some (signature_of d) else k.signature id) ≡ true
    by_name true e = refl
    by_name false e = e

    by_kind : (b : Bool) → is_some ((if b then with_constant k d.name.id else with_signature k d.name.id (signature_of d)).signature id) ≡ true
    by_kind true = h id op is
    by_kind false = by_name (nat_eq d.name.id id) (h id op is)

-- a declaration that breaks no rule of names has no name of a built-in function
pub own-name : (names : List (List ℕ)) (k : Known) (d : Decl) → KnowsBuiltIns names k → decl_broken names k d ≡ [] → IsOwnName names d.name.id
unfolding variables_broken
own-name names k d known h =
    let outline = eqns_outline d.eqs in
    let one = broken_if (is_declared k d.name.id) rule.NameTwice d.name.at in
    let rest = outline.broken ++ (first_places (with_ids [] (param_ids d.params)) [] outline.entries ++ twice k.constants [] (scope.variables d)) in
    let kept = kept-if (is_declared k d.name.id) rule.NameTwice d.name.at (none-left one rest (none-left (one ++ rest) (uses_broken names (inside_of k d) d) h)) in
    by_op (built_in_op names d.name.id) refl kept
  where
    not_declared : (a b : Bool) → (a || b) ≡ false → b ≡ true → ⊥
    not_declared true b e g = cc
    not_declared false true e g = cc
    not_declared false false e g = cc

    by_op : (o : Option Op) → built_in_op names d.name.id ≡ o → is_declared k d.name.id ≡ false → o ≡ None
    by_op None e g = refl
    by_op (Some op) e g = absurd (not_declared (among k.constants d.name.id) (is_some (k.signature d.name.id)) g (known d.name.id op e))

-- none of these names is that of a built-in function
abbrev pub AreOwnNames : List (List ℕ) → List (Named Size) → Type 0
AreOwnNames names zs = AllByRecursion (λ (z : Named Size). IsOwnName names z.name) zs

unknown : (names : List (List ℕ)) (zs : List (Named Size)) → AreOwnNames names zs → (id : ℕ) (op : Op) → built_in_op names id ≡ Some op → found zs id ≡ None
unknown names [] h id op is = refl
unknown names (z ∷ zs) h id op is = by_equal (nat_eq z.name id) refl (unknown names zs h.1 id op is)
  where
    not_both : {A : Type 0} {o : Option A} {x : A} → o ≡ None → o ≡ Some x → ⊥
    not_both e g = cc

    by_equal : (b : Bool) → nat_eq z.name id ≡ b → found zs id ≡ None → (if b then Some z.what else found zs id) ≡ None
    by_equal true e more = absurd (not_both h.0 (subst (λ n. built_in_op names n ≡ Some op) (sym (eqb-true z.name id e)) is))
    by_equal false e more = more

-- one more name that is none of a built-in function
pub and-own-name : (names : List (List ℕ)) (zs : List (Named Size)) (id : ℕ) (z : Size) → AreOwnNames names zs → IsOwnName names id → AreOwnNames names (with_name zs id z)
and-own-name names [] id z h k = (k, tt)
and-own-name names (x ∷ zs) id z h k = (h.0, and-own-name names zs id z h.1 k)

-- ---- callees

-- each copy is as many as this size says
abbrev pub CalleeMakes : Callee → Size → Type 0
CalleeMakes c z = (here : Here) (roots : List Root) (s : Counters) → AsMany (c here roots s).parts z

-- callees and sizes of the same names, one by one
abbrev pub AllMake : List (Named Callee) → List (Named Size) → Type 0
AllMake [] [] = Unit {0}
AllMake (c ∷ cs) (z ∷ zs) = (c.name ≡ z.name) × CalleeMakes c.what z.what × AllMake cs zs
AllMake _ _ = ⊥

-- the copy of a name is as many as the size of that name says
pub found-makes : (cs : List (Named Callee)) (zs : List (Named Size)) → AllMake cs zs → (id : ℕ) (here : Here) (roots : List Root) (s : Counters) → AsMany (callee (found cs id) here roots s).parts (called_size (found zs id))
found-makes [] [] h id here roots s = many-nothing
found-makes [] (z ∷ zs) h id here roots s = absurd h
found-makes (c ∷ cs) [] h id here roots s = absurd h
found-makes (c ∷ cs) (z ∷ zs) h id here roots s =
    subst (λ n. AsMany (callee (found (c ∷ cs) id) here roots s).parts (called_size (if nat_eq n id then Some z.what else found zs id))) h.0
    (by_equal (nat_eq c.name id) (found-makes cs zs h.2 id here roots s))
  where
    by_equal : (b : Bool) → AsMany (callee (found cs id) here roots s).parts (called_size (found zs id)) → AsMany (callee (if b then Some c.what else found cs id) here roots s).parts (called_size (if b then Some z.what else found zs id))
    by_equal true more = many-in_call _ _ (h.1 here roots s)
    by_equal false more = more

-- one more callee that makes as many as its size says
pub and-one-makes : (cs : List (Named Callee)) (zs : List (Named Size)) (id : ℕ) (c : Callee) (z : Size) → AllMake cs zs → CalleeMakes c z → AllMake (with_name cs id c) (with_name zs id z)
and-one-makes [] [] id c z h k = (refl, k, tt)
and-one-makes [] (y ∷ zs) id c z h k = absurd h
and-one-makes (x ∷ cs) [] id c z h k = absurd h
and-one-makes (x ∷ cs) (y ∷ zs) id c z h k = (h.0, h.1, and-one-makes cs zs id c z h.2 k)

module _ (base : ℕ) (names : List (List ℕ)) where
  -- ---- the copy of a body

  some-many : (i : Instance) (here : Here) (ps : List Param) → AsMany (some_places (map (param_place i here) ps)) (total (map (λ (p : Param). a_place) ps))
  some-many i here [] = subst (λ p. AsMany p none) (sym some-no_places) many-nothing
  some-many i here (p ∷ ps) = subst (λ q. AsMany q (plus a_place (total (map (λ (p : Param). a_place) ps)))) (places-joined (param_place i here p) (map (param_place i here) ps)) (many-joined _ _ _ _ (many-place (param_place i here p)) (some-many i here ps))

  module _ (i : Instance) (known : ℕ → Option Size) (sized : IsSized names i known) where
    -- results, equations and the copy of a body are as many as their sizes say
    pub exprs-make : (xs : List Expr) (here : Here) (s : Counters) → AsMany (exprs_walk base names i xs here s).parts (exprs_size i.infos known xs)
    exprs-make [] here s = many-nothing
    exprs-make (x ∷ xs) here s = many-joined _ _ _ _ (expr-makes base names i known sized x here s) (exprs-make xs here _)

    pub eqns-make : (es : List Eqn) → MakingMakes (eqns_walk base names i es) (eqns_size i.infos known es)
    eqns-make [] here s = many-nothing
    eqns-make (e ∷ es) here s = many-joined _ _ _ _ (eqn-makes base names i known sized e here s) (eqns-make es here _)

    pub body_copy-makes : (d : Decl) (definers : List Given) (here : Here) (s : Counters) → AsMany (body_copy base names i d definers here s).parts (decl_size i.infos known d)
    unfolding decl_size
    body_copy-makes d definers here s = many-joined _ _ _ _ (before-definers _ _ _ (some-many i here d.params)) (many-joined _ _ _ _ (exprs-make d.results here _) (eqns-make d.eqs here _))

  -- an instance of a declaration, where the callees make as many as the sizes say
  pub sized-instance : (cs : List (Named Callee)) (zs : List (Named Size)) (d : Scoped) (block n : ℕ) → AllMake cs zs → AreOwnNames names zs → IsCounted d → IsSized names (instance base names (found cs) (found zs) d block n) (found zs)
  sized-instance cs zs d block n h own counted = record {
    called = found-makes cs zs h;
    built_in = unknown names zs own;
    placed = λ id. placed-as d.infos d.types (decl_numbering d.infos (found zs) d.decl n).own id counted.types (counted.places (found zs) n);
  }

  -- a declaration that can be called makes as many as its size says
  pub decl-makes : (cs : List (Named Callee)) (zs : List (Named Size)) (d : Scoped) → AllMake cs zs → AreOwnNames names zs → IsCounted d → CalleeMakes (decl_copy base names (found cs) (found zs) d) (decl_size d.infos (found zs) d.decl)
  unfolding decl_copy
  decl-makes cs zs d h own counted here roots s =
      body_copy-makes (instance base names (found cs) (found zs) d here.block s.places) (found zs) (sized-instance cs zs d here.block s.places h own counted) d.decl (argument_definers here s.places d.decl.params roots) here s

  -- the declarations that can be called make as many as their sizes say
  pub callees-make : (cs : List (Named Callee)) (zs : List (Named Size)) (k : Known) (ds : List Scoped) → AllMake cs zs → AreOwnNames names zs → KnowsBuiltIns names k → AllByRecursion IsCounted ds → decls_broken names k (map (λ d. d.decl) ds) ≡ [] →
      AllMake (with_callees base names cs zs ds) (with_sizes zs ds) × AreOwnNames names (with_sizes zs ds)
  callees-make cs zs k [] h own known counted kept = (h, own)
  callees-make cs zs k (d ∷ ds) h own known counted kept =
      let one = decl_broken names k d.decl in
      let rest = decls_broken names (declared_with k d.decl) (map (λ e. e.decl) ds) in
      let c = decl_copy base names (found cs) (found zs) d in
      let z = decl_size d.infos (found zs) d.decl in
      callees-make (with_name cs d.decl.name.id c) (with_name zs d.decl.name.id z) (declared_with k d.decl) ds
      (and-one-makes cs zs d.decl.name.id c z h (decl-makes cs zs d h own counted.0))
      (and-own-name names zs d.decl.name.id z own (own-name names k d.decl known (none-left one rest kept)))
      (built-ins-still names k d.decl known) counted.1 (none-right one rest kept)
    where
      none-right : {X : Type 0} (xs ys : List X) → xs ++ ys ≡ [] → ys ≡ []
      none-right [] ys h = h
      none-right (x ∷ xs) ys h = cc

-- ---- main

nothing-named : (names : List (List ℕ)) → AreOwnNames names []
nothing-named names = tt

-- what `main` expands to is as many as its size says
pub main-makes : (names : List (List ℕ)) (m : MainOf) (base : ℕ) → decls_broken names (built_in names) (map (λ (d : Scoped). d.decl) m.before) ≡ [] → AllByRecursion IsCounted m.before → IsCounted m.main →
    AsMany (main_parts base names (found (with_callees base names [] [] m.before)) (sizes_of m) m.main) (main_size m)
unfolding main_parts main_size
main-makes names m base kept counted counted_main =
    let both = callees-make base names [] [] (built_in names) m.before tt (nothing-named names) (built-ins-known names) counted kept in
    let cs = with_callees base names [] [] m.before in
    let zs = with_sizes [] m.before in
    many-joined _ _ _ _ (many-block (main_block base names m.main.decl))
    (body_copy-makes base names (instance base names (found cs) (found zs) m.main 0 0) (found zs) (sized-instance base names cs zs m.main 0 0 both.0 both.1 counted_main) m.main.decl (input_definers 0 m.main.decl.params) (main_here base names m.main.decl) (past_block start))

-- what is asked of `main` and of the declarations before it follows from the rules of names and from that the variables have types and places
pub main-kept : (names : List (List ℕ)) (m : MainOf) → decls_broken names (built_in names) (map (λ (d : Scoped). d.decl) m.before) ≡ [] → decl_broken names (known_after (built_in names) m.before) m.main.decl ≡ [] →
    AllByRecursion IsCounted m.before → IsCounted m.main → IsMainKept names m
main-kept names m before main counted counted_main =
    let many = main-makes names m (main_size m).occs before counted counted_main in
    record { before = before; main = main; counted = counted; counted_main = counted_main; hidden_behind = sym many.occs }
