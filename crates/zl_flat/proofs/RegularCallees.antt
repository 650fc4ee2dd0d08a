-- The declarations before `main` can be called, each where its kind is allowed.
use Rattle.std.proofs.Common.{◌≡◌, ℕ, Bool, true, false, ◌||◌, if◌then◌else◌, nat_eq, is_some, List, [], ◌∷◌, ◌++◌, Option, Some, None, refl, sym, ap, subst, ◌∙◌}
use Rattle.std.specs.Prelude.{codes}
use Rattle.std.specs.List.{AllByRecursion}
use Rattle.std.proofs.lemmas.Bool.{eqb-true, eq-eqb}
use Rattle.std.proofs.lemmas.List.Folds.{list_any-append}
use Rattle.zl_value.specs.declared.rule.Rule.TheVariants as rule
use Rattle.zl_value.specs.declared.op.Op.TheVariants.{FloatOfInt, Truncate}
use Rattle.zl_ast.specs.declared.program.Decl.{Decl}
use Rattle.zl_ast.specs.declared.program.DeclKind.{DeclKind}
use Rattle.zl_ast.specs.declared.program.DeclKind.TheVariants as decl
use Rattle.zl_ast.specs.Names.{among, with_id, with_ids, has_text, broken_if}
use Rattle.zl_ast.specs.NamesDefined.{first_places, eqns_outline}
use Rattle.zl_ast.specs.NamesUsed.{Known, Signature}
use Rattle.zl_ast.specs.NamesRules.{is_constant, signature_of, built_in, with_constant, with_signature, declared_with, inside_of, twice, is_declared, variables_broken, uses_broken, decl_broken}
use Rattle.zl_ast.specs.Scopes as scope
use Rattle.zl_ast.specs.Scopes.{param_ids}
use Rattle.zl_ast.specs.Kinds as kinds
use Rattle.zl_ast.specs.Kinds.{Declared, decl_misplaced, decls_misplaced}
use Rattle.zl_meaning.specs.FlatForm.{FlatForm}
use Rattle.zl_flat.specs.declared.size.Size.{Size}
use Rattle.zl_flat.specs.Sizes.{decl_size}
use Rattle.zl_flat.specs.Instances.{Callee}
use Rattle.zl_flat.specs.Expansion.{Scoped, Named, found, with_name, with_callees, decl_copy}
use Rattle.zl_flat.proofs.RulesKept.{none-left, kept-if}
use Rattle.zl_flat.proofs.RulesKept.{covers-one}
use Rattle.zl_flat.proofs.WellFormedDecls.{known_after}
use Rattle.zl_flat.proofs.WellFormedSizesForm.{AllMake, AreOwnNames, KnowsBuiltIns, built-ins-known, built-ins-still, callees-make}
use Rattle.zl_flat.proofs.WellFormedCopies.{order-counted}
use Rattle.zl_flat.proofs.RegularExprs.{CalleeRegular}
use Rattle.zl_flat.proofs.RegularExprTrees.{CanCopy, KnowsCopies}
use Rattle.zl_flat.proofs.RegularDecls.{IsKept, decl-regular}

-- ---- names that are declared

-- a name is among those of a list and one more where it is in the list or that one
among-still : (ids : List ℕ) (id q : ℕ) → among ids q ≡ true → among (with_id ids id) q ≡ true
among-still ids id q h = by_case (among ids id)
  where
    or-left : (a b : Bool) → a ≡ true → (a || b) ≡ true
    or-left a b e = ap (λ c. c || b) e

    by_case : (b : Bool) → among (if b then ids else ids ++ id ∷ []) q ≡ true
    by_case true = h
    by_case false = list_any-append (nat_eq q) ids (id ∷ []) ∙ or-left (among ids q) (among (id ∷ []) q) h

-- the one is in the list with it
among-own : (ids : List ℕ) (id : ℕ) → among (with_id ids id) id ≡ true
among-own ids id = by_case (among ids id) refl
  where
    or-right : (a b : Bool) → b ≡ true → (a || b) ≡ true
    or-right true b e = refl
    or-right false b e = e

    by_case : (b : Bool) → among ids id ≡ b → among (if b then ids else ids ++ id ∷ []) id ≡ true
    by_case true e = e
    by_case false e = list_any-append (nat_eq id) ids (id ∷ []) ∙ or-right (among ids id) (among (id ∷ []) id) (ap (λ b. b || false) (eq-eqb id id refl))

-- a name that is declared is declared behind a further declaration, and so is that one's name
declared-still : (k : Known) (d : Decl) (id : ℕ) → is_declared k id ≡ true → is_declared (declared_with k d) id ≡ true
declared-still k d id h = by_kind (is_constant d.kind)
  where
    by_constant : (a b : Bool) → (a || b) ≡ true → (a ≡ true → among (with_id k.constants d.name.id) id ≡ true) → (c : Bool) → among (with_id k.constants d.name.id) id ≡ c → (c || b) ≡ true
    by_constant true b e more c is = ap (λ x. x || b) (sym is ∙ more refl)
    by_constant false b e more true is = refl
    by_constant false b e more false is = e

    by_signature : (a b c : Bool) → (a || b) ≡ true → (a || is_some (if c then Some (signature_of d) else k.signature id)) ≡ (a || (if c then true else is_some (k.signature id)))
    by_signature a b true e = refl
    by_signature a b false e = refl

    kept : (a c : Bool) → (a || is_some (k.signature id)) ≡ true → (a || (if c then true else is_some (k.signature id))) ≡ true
    kept true c e = refl
    kept false true e = refl
    kept false false e = e

    by_kind : (b : Bool) → is_declared (if b then with_constant k d.name.id else with_signature k d.name.id (signature_of d)) id ≡ true
    by_kind true = by_constant (among k.constants id) (is_some (k.signature id)) h (among-still k.constants d.name.id id) (among (with_id k.constants d.name.id) id) refl
    by_kind false = by_signature (among k.constants id) (is_some (k.signature id)) (nat_eq d.name.id id) h ∙ kept (among k.constants id) (nat_eq d.name.id id) h

declared-own : (k : Known) (d : Decl) → is_declared (declared_with k d) d.name.id ≡ true
declared-own k d = by_kind (is_constant d.kind)
  where
    or-right : (a b : Bool) → b ≡ true → (a || b) ≡ true
    or-right true b e = refl
    or-right false b e = e

    by_kind : (b : Bool) → is_declared (if b then with_constant k d.name.id else with_signature k d.name.id (signature_of d)) d.name.id ≡ true
    by_kind true = ap (λ b. b || is_some (k.signature d.name.id)) (among-own k.constants d.name.id)
    by_kind false = or-right (among k.constants d.name.id) (is_some (if nat_eq d.name.id d.name.id then Some (signature_of d) else k.signature d.name.id))
        (ap (λ b. is_some (if b then Some (signature_of d) else k.signature d.name.id)) (eq-eqb d.name.id d.name.id refl))

-- a declaration that breaks no rule of names has a new name
new-name : (names : List (List ℕ)) (k : Known) (d : Decl) → decl_broken names k d ≡ [] → is_declared k d.name.id ≡ false
unfolding variables_broken
new-name names k d h =
    let outline = eqns_outline d.eqs in
    let one = broken_if (is_declared k d.name.id) rule.NameTwice d.name.at in
    let rest = outline.broken ++ (first_places (with_ids [] (param_ids d.params)) [] outline.entries ++ twice k.constants [] (scope.variables d)) in
    kept-if (is_declared k d.name.id) rule.NameTwice d.name.at (none-left one rest (none-left (one ++ rest) (uses_broken names (inside_of k d) d) h))

-- ---- what is found by a name

-- what was found is found when one is added
found-still : {A : Type 0} (cs : List (Named A)) (id q : ℕ) (a c : A) → found cs q ≡ Some c → found (with_name cs id a) q ≡ Some c
found-still [] id q a c h = absurd (cc)
found-still {A = A} (x ∷ cs) id q a c h = by_equal (nat_eq x.name q) h (found-still cs id q a c)
  where
    by_equal : (b : Bool) → (if b then Some x.what else found cs q) ≡ Some c → (found cs q ≡ Some c → found (with_name cs id a) q ≡ Some c) → (if b then Some x.what else found (with_name cs id a) q) ≡ Some c
    by_equal true e more = e
    by_equal false e more = more e

-- the names of these are declared
abbrev AreDeclared : Known → List (Named Callee) → Type 0
AreDeclared k cs = AllByRecursion (λ (n : Named Callee). is_declared k n.name ≡ true) cs

-- a new name finds what was added
found-last : (k : Known) (cs : List (Named Callee)) (id : ℕ) (c : Callee) → AreDeclared k cs → is_declared k id ≡ false → found (with_name cs id c) id ≡ Some c
found-last k [] id c h new = ap (λ b. if b then Some c else None) (eq-eqb id id refl)
found-last k (x ∷ cs) id c h new = by_equal (nat_eq x.name id) refl (found-last k cs id c h.1 new)
  where
    not_both : (b : Bool) → b ≡ true → b ≡ false → ⊥
    not_both true e g = cc
    not_both false e g = cc

    by_equal : (b : Bool) → nat_eq x.name id ≡ b → found (with_name cs id c) id ≡ Some c → (if b then Some x.what else found (with_name cs id c) id) ≡ Some c
    by_equal true e more = absurd (not_both (is_declared k x.name) h.0 (ap (is_declared k) (eqb-true x.name id e) ∙ new))
    by_equal false e more = more

-- the names of callees are declared, with one more
are-declared : (k : Known) (d : Decl) (cs : List (Named Callee)) (c : Callee) → AreDeclared k cs → AreDeclared (declared_with k d) (with_name cs d.name.id c)
are-declared k d [] c h = (declared-own k d, tt)
are-declared k d (x ∷ cs) c h = (declared-still k d x.name h.0, are-declared k d cs c h.1)

-- ---- declarations

-- the kinds of these declarations, behind those that are declared
abbrev pub declared_after : Declared → List Scoped → Declared
declared_after declared [] = declared
declared_after declared (d ∷ ds) = declared_after (kinds.declared_with declared d.decl) ds

-- each of these keeps the rules, behind those before it
abbrev pub AllKept : List (List ℕ) → Known → Declared → List Scoped → Type 0
AllKept names k declared [] = Unit {0}
AllKept names k declared (d ∷ ds) = IsKept names k declared d × AllKept names (declared_with k d.decl) (kinds.declared_with declared d.decl) ds

-- a constant's kind
constant-kind : (k : DeclKind) → is_constant k ≡ true → Some decl.Constant ≡ Some k
constant-kind decl.Constant h = refl
constant-kind decl.Function h = absurd (cc)
constant-kind decl.Node h = absurd (cc)
constant-kind decl.Hybrid h = absurd (cc)

module _ (f : FlatForm) (base : ℕ) (names : List (List ℕ)) where
  -- what could be called can be called when one is added
  copy-still : (cs : List (Named Callee)) (id q : ℕ) (c : Callee) (o : Option DeclKind) → CanCopy f base (found cs) q o → CanCopy f base (found (with_name cs id c)) q o
  copy-still cs id q c o h = record { kind = h.kind; known = h.known; copy = h.copy; is = found-still cs id q c h.copy h.is; stands = h.stands }

  -- behind a further declaration more names are known, with their kinds
  knows-more : (cs : List (Named Callee)) (k : Known) (declared : Declared) (d : Decl) (c : Callee) → KnowsCopies f base names (found cs) k declared → AreDeclared k cs → is_declared k d.name.id ≡ false → CalleeRegular f base d.kind c →
      KnowsCopies f base names (found (with_name cs d.name.id c)) (declared_with k d) (kinds.declared_with declared d)
  unfolding kinds.declared_with
  knows-more cs k declared d c h known new stands = by_kind (is_constant d.kind) refl
    where
      last_is : found (with_name cs d.name.id c) d.name.id ≡ Some c
      last_is = found-last k cs d.name.id c known new

      not_signed : (a b : Bool) (s : Signature) → (a || b) ≡ false → b ≡ true → ⊥
      not_signed true b s e g = cc
      not_signed false true s e g = cc
      not_signed false false s e g = cc

      -- a name with another number has the kind that it had
      by_name : (id : ℕ) (s : Signature) (b : Bool) → nat_eq d.name.id id ≡ b → k.signature id ≡ Some s → CanCopy f base (found (with_name cs d.name.id c)) id (declared id) → CanCopy f base (found (with_name cs d.name.id c)) id (if b then Some d.kind else declared id)
      by_name id s true e is copied = absurd (not_signed (among k.constants d.name.id) (is_some (k.signature d.name.id)) s new (ap (λ n. is_some (k.signature n)) (eqb-true d.name.id id e) ∙ ap is_some is))
      by_name id s false e is copied = copied

      own : (o : Option DeclKind) → o ≡ Some d.kind → CanCopy f base (found (with_name cs d.name.id c)) d.name.id o
      own o e = record { kind = d.kind; known = e; copy = c; is = last_is; stands = stands }

      by_signature : (id : ℕ) (s : Signature) (b : Bool) → nat_eq d.name.id id ≡ b → (if b then Some (signature_of d) else k.signature id) ≡ Some s → (k.signature id ≡ Some s → CanCopy f base (found (with_name cs d.name.id c)) id (declared id)) →
          CanCopy f base (found (with_name cs d.name.id c)) id (if b then Some d.kind else declared id)
      by_signature id s true e is more = subst (λ n. CanCopy f base (found (with_name cs d.name.id c)) n (Some d.kind)) (eqb-true d.name.id id e) (own (Some d.kind) refl)
      by_signature id s false e is more = more is

      old : (id : ℕ) → among k.constants id ≡ true → CanCopy f base (found (with_name cs d.name.id c)) id (Some decl.Constant)
      old id is = copy-still cs d.name.id id c (Some decl.Constant) (h.constants id is)

      by_kind : (b : Bool) → is_constant d.kind ≡ b → KnowsCopies f base names (found (with_name cs d.name.id c)) (if b then with_constant k d.name.id else with_signature k d.name.id (signature_of d)) (λ id. if nat_eq d.name.id id then Some d.kind else declared id)
      by_kind true constant = record {
        signatures = λ id s is none. by_name id s (nat_eq d.name.id id) refl is (copy-still cs d.name.id id c (declared id) (h.signatures id s is none));
        constants = covers-one (λ id. CanCopy f base (found (with_name cs d.name.id c)) id (Some decl.Constant)) k.constants d.name.id (among k.constants d.name.id) old (own (Some decl.Constant) (constant-kind d.kind constant));
      }
      by_kind false constant = record {
        signatures = λ id s is none. by_signature id s (nat_eq d.name.id id) refl is (λ e. copy-still cs d.name.id id c (declared id) (h.signatures id s e none));
        constants = old;
      }

  -- before the first declaration nothing is known but built-in functions
  nothing-known : KnowsCopies f base names (found []) (built_in names) kinds.none_declared
  nothing-known = record {
    signatures = λ id s is none. absurd (not_both (has_text names id (codes "float_of_int")) (has_text names id (codes "truncate")) s is none);
    constants = λ id is. absurd (cc);
  }
    where
      not_both : (a b : Bool) (s : Signature) → (if (a || b) then Some (1, 1) else None) ≡ Some s → (if a then Some FloatOfInt else (if b then Some Truncate else None)) ≡ None → ⊥
      not_both true b s h k = cc
      not_both false true s h k = cc
      not_both false false s h k = cc

  -- so they can be called, where their kinds are allowed
  pub callees-regular : (cs : List (Named Callee)) (zs : List (Named Size)) (k : Known) (declared : Declared) (ds : List Scoped) → AllKept names k declared ds → KnowsCopies f base names (found cs) k declared → AreDeclared k cs → AllMake cs zs → AreOwnNames names zs → KnowsBuiltIns names k →
      KnowsCopies f base names (found (with_callees base names cs zs ds)) (known_after k ds) (declared_after declared ds)
  callees-regular cs zs k declared [] kept h known make own built = h
  callees-regular cs zs k declared (d ∷ ds) kept h known make own built =
      let first = kept.0 in
      let c = decl_copy base names (found cs) (found zs) d in
      let counted = order-counted names k d first.kept first.order in
      let next = callees-make base names cs zs k (d ∷ []) make own built (counted, tt) (alone (decl_broken names k d.decl) first.kept) in
      callees-regular (with_name cs d.decl.name.id c) (with_name zs d.decl.name.id (decl_size d.infos (found zs) d.decl)) (declared_with k d.decl) (kinds.declared_with declared d.decl) ds kept.1
      (knows-more cs k declared d.decl c h known (new-name names k d.decl first.kept) (decl-regular f base names cs zs d k declared first make own h))
      (are-declared k d.decl cs c known) next.0 next.1 (built-ins-still names k d.decl built)
    where
      alone : {X : Type 0} (xs : List X) → xs ≡ [] → xs ++ [] ≡ []
      alone xs e = ap (λ ys. ys ++ []) e

  -- those before `main`
  pub before-regular : (ds : List Scoped) → AllKept names (built_in names) kinds.none_declared ds → KnowsCopies f base names (found (with_callees base names [] [] ds)) (known_after (built_in names) ds) (declared_after kinds.none_declared ds)
  before-regular ds kept = callees-regular [] [] (built_in names) kinds.none_declared ds kept nothing-known tt tt tt (built-ins-known names)
