-- Which names are visible: those that are defined, and the locals inside their body.
use Rattle.std.proofs.Common.{◌≡◌, ℕ, Bool, true, false, not, ◌&&◌, ◌||◌, if◌then◌else◌, nat_eq, List, [], ◌∷◌, ◌++◌, map, refl, sym, ap, subst, ◌∙◌}
use Rattle.std.specs.List.{AllByRecursion}
use Rattle.std.proofs.lemmas.Bool.{eqb-true, eq-eqb}
use Rattle.std.proofs.lemmas.List.Folds.{list_any-append}
use Rattle.zl_ast.specs.declared.name.Name.{Name}
use Rattle.zl_ast.specs.declared.scope.VarInfo.{VarInfo}
use Rattle.zl_ast.specs.declared.scope.VarClass.{VarClass}
use Rattle.zl_ast.specs.declared.scope.VarClass.TheVariants as class
use Rattle.zl_ast.specs.declared.program.Decl.{Decl}
use Rattle.zl_ast.specs.declared.program.Param.{Param}
use Rattle.zl_ast.specs.Names.{among, with_id, with_ids, ids_of}
use Rattle.zl_ast.specs.NamesDefined.{Outline, StateOutline, entry, is_top, is_defined, free_entries, together, list_from, states_among, eqns_outline}
use Rattle.zl_ast.specs.NamesRules.{is_local, with_visible}
use Rattle.zl_ast.specs.Scopes as scope
use Rattle.zl_ast.specs.Scopes.{param_ids, first_entries, parameter}
use Rattle.zl_flat.specs.Variables.{place_in_text, is_there, is_first}
use Rattle.zl_flat.proofs.WellFormedParts.{all-left, all-right}
use Rattle.zl_flat.proofs.WellFormedFirsts.{Distinct, there, before-none, step}

-- ---- numbers among others

or-assoc : (a b c : Bool) → ((a || b) || c) ≡ (a || (b || c))
or-assoc true b c = refl
or-assoc false b c = refl

or-true : (a : Bool) → (a || true) ≡ true
or-true true = refl
or-true false = refl

or-none : (a : Bool) → a ≡ (a || false)
or-none true = refl
or-none false = refl

among-with_id : (s : List ℕ) (a q : ℕ) → among (with_id s a) q ≡ (among s q || nat_eq q a)
among-with_id s a q = by_known (among s a) refl
  where
    same : (b : Bool) → nat_eq q a ≡ b → among s a ≡ true → among s q ≡ (among s q || b)
    same true e h = ap (among s) (eqb-true q a e) ∙ (h ∙ sym (or-true (among s q)))
    same false e h = or-none (among s q)

    by_known : (b : Bool) → among s a ≡ b → among (if b then s else s ++ a ∷ []) q ≡ (among s q || nat_eq q a)
    by_known true h = same (nat_eq q a) refl h
    by_known false h = list_any-append (nat_eq q) s (a ∷ []) ∙ ap (λ c. among s q || c) (sym (or-none (nat_eq q a)))

-- a number is among some and more where it is among the ones or the others
pub among-with_ids : (s more : List ℕ) (q : ℕ) → among (with_ids s more) q ≡ (among s q || among more q)
among-with_ids s [] q = or-none (among s q)
among-with_ids s (a ∷ more) q = among-with_ids (with_id s a) more q ∙ (ap (λ c. c || among more q) (among-with_id s a q) ∙ or-assoc (among s q) (nat_eq q a) (among more q))

still-among : (s more : List ℕ) (q : ℕ) → among s q ≡ true → among (with_ids s more) q ≡ true
still-among s more q h = among-with_ids s more q ∙ ap (λ c. c || among more q) h

more-among : (s more : List ℕ) (q : ℕ) → among (with_ids [] more) q ≡ true → among (with_ids s more) q ≡ true
more-among s more q h = among-with_ids s more q ∙ (ap (λ c. among s q || c) (sym (among-with_ids [] more q) ∙ h) ∙ or-true (among s q))

one-among : (s : List ℕ) (a : ℕ) → among (with_id s a) a ≡ true
one-among s a = among-with_id s a a ∙ (ap (λ c. among s a || c) (eq-eqb a a refl) ∙ or-true (among s a))

still-among-one : (s : List ℕ) (a q : ℕ) → among s q ≡ true → among (with_id s a) q ≡ true
still-among-one s a q h = among-with_id s a q ∙ ap (λ c. c || nat_eq q a) h

-- ---- entries

-- a name that is defined is visible, and a local stands where its variable first does
pub record EntryFine (infos : List VarInfo) (visible : List ℕ) (v : VarInfo) : Type 0 where
  pub first : is_defined v ≡ false → is_there (place_in_text infos v.name) v.at ≡ true
  pub shown : is_defined v ≡ true → among visible v.name ≡ true

-- all of these entries
abbrev pub EntriesFine : List VarInfo → List ℕ → List VarInfo → Type 0
EntriesFine infos visible vs = AllByRecursion (EntryFine infos visible) vs

-- what holds of the entries of equations holds of those of each
pub all-of-list : (P : VarInfo → Type 0) (valued started : List ℕ) (os : List Outline) → AllByRecursion P (list_from valued started os).entries → AllByRecursion (λ (o : Outline). AllByRecursion P o.entries) os
all-of-list P valued started [] h = tt
all-of-list P valued started (o ∷ os) h =
    let rest = list_from (with_ids valued o.valued) (with_ids started o.started) os in
    (all-left P o.entries rest.entries h, all-of-list P (with_ids valued o.valued) (with_ids started o.started) os (all-right P o.entries rest.entries h))

-- so of arms, and of states
pub all-together : (P : VarInfo → Type 0) (os : List Outline) → AllByRecursion P (together os).entries → AllByRecursion (λ (o : Outline). AllByRecursion P o.entries) os
all-together P [] h = tt
all-together P (o ∷ os) h = (all-left P o.entries (together os).entries h, all-together P os (all-right P o.entries (together os).entries h))

pub all-states : (P : VarInfo → Type 0) (ids : List ℕ) (ss : List StateOutline) → AllByRecursion P (states_among ids ss).entries → AllByRecursion (λ (s : StateOutline). AllByRecursion P s.outline.entries) ss
all-states P ids [] h = tt
all-states P ids (s ∷ ss) h = (all-left P s.outline.entries (states_among ids ss).entries h, all-states P ids ss (all-right P s.outline.entries (states_among ids ss).entries h))

locals-first : (infos : List VarInfo) (visible : List ℕ) (xs : List Name) → EntriesFine infos visible (map (entry class.Local) xs) → AllByRecursion (λ (x : Name). is_first infos x ≡ true) xs
locals-first infos visible [] h = tt
locals-first infos visible (x ∷ xs) h = let a = h.0 in (a.first refl, locals-first infos visible xs h.1)

free-fine : (infos : List VarInfo) (visible more : List ℕ) (vs : List VarInfo) → EntriesFine infos visible (free_entries (with_ids [] more) vs) → EntriesFine infos (with_ids visible more) vs
free-fine infos visible more [] h = tt
free-fine infos visible more (v ∷ vs) h = by_held (is_defined v) (among (with_ids [] more) v.name) refl refl h (λ k. free-fine infos visible more vs k)
  where
    both_ways : {b : Bool} → b ≡ true → b ≡ false → ⊥
    both_ways e g = cc

    fewer : EntryFine infos visible v → EntryFine infos (with_ids visible more) v
    fewer a = record { first = a.first; shown = λ e. still-among visible more v.name (a.shown e) }

    by_held : (d m : Bool) → is_defined v ≡ d → among (with_ids [] more) v.name ≡ m → EntriesFine infos visible (if not (d && m) then v ∷ free_entries (with_ids [] more) vs else free_entries (with_ids [] more) vs) →
        (EntriesFine infos visible (free_entries (with_ids [] more) vs) → EntriesFine infos (with_ids visible more) vs) → EntryFine infos (with_ids visible more) v × EntriesFine infos (with_ids visible more) vs
    by_held true true d m k rest = (record { first = λ e. absurd (both_ways d e); shown = λ e. more-among visible more v.name m }, rest k)
    by_held true false d m k rest = (fewer k.0, rest k.1)
    by_held false m d e k rest = (fewer k.0, rest k.1)

-- the locals of a body are the first of their variables, and what the body's equations define is visible inside it
pub under-fine : (infos : List VarInfo) (visible : List ℕ) (xs : List Name) (vs : List VarInfo) → EntriesFine infos visible (map (entry class.Local) xs ++ free_entries (with_ids [] (ids_of xs)) vs) →
    AllByRecursion (λ (x : Name). is_first infos x ≡ true) xs × EntriesFine infos (with_ids visible (ids_of xs)) vs
under-fine infos visible xs vs h =
    let own = map (entry class.Local) xs in
    let free = free_entries (with_ids [] (ids_of xs)) vs in
    (locals-first infos visible xs (all-left (EntryFine infos visible) own free h), free-fine infos visible (ids_of xs) vs (all-right (EntryFine infos visible) own free h))

-- ---- a declaration

visible-still : (ids : List ℕ) (vs : List VarInfo) (q : ℕ) → among ids q ≡ true → among (with_visible ids vs) q ≡ true
visible-still ids [] q h = h
visible-still ids (v ∷ vs) q h = visible-still (if not (is_local v.class) then with_id ids v.name else ids) vs q (one (not (is_local v.class)))
  where
    one : (b : Bool) → among (if b then with_id ids v.name else ids) q ≡ true
    one true = still-among-one ids v.name q h
    one false = h

-- a variable that no `local` declares is visible
abbrev IsShown : List ℕ → VarInfo → Type 0
IsShown visible v = is_local v.class ≡ false → among visible v.name ≡ true

all-shown : (ids : List ℕ) (vs : List VarInfo) → AllByRecursion (IsShown (with_visible ids vs)) vs
all-shown ids [] = tt
all-shown ids (v ∷ vs) =
    let more = if not (is_local v.class) then with_id ids v.name else ids in
    ((λ e. visible-still more vs v.name (ap (λ b. among (if not b then with_id ids v.name else ids) v.name) e ∙ one-among ids v.name)), all-shown more vs)

all-there : (infos before vs : List VarInfo) → infos ≡ before ++ vs → Distinct infos → AllByRecursion (λ (v : VarInfo). is_there (place_in_text infos v.name) v.at ≡ true) vs
all-there infos before [] e d = tt
all-there infos before (v ∷ vs) e d =
    (ap (λ xs. is_there (place_in_text xs v.name) v.at) e ∙ there before v vs (before-none before v vs (subst Distinct e d)), all-there infos (before ++ v ∷ []) vs (e ∙ step before v vs) d)

defined-shown : (v : VarInfo) → is_defined v ≡ true → is_local v.class ≡ false
defined-shown v e = by_class v.class e
  where
    by_class : (c : VarClass) → is_top c ≡ true → is_local c ≡ false
    by_class class.Param e = refl
    by_class class.Top e = refl
    by_class class.Local e = absurd (cc)

firsts-fine : (infos : List VarInfo) (visible seen : List ℕ) (vs : List VarInfo) → ((q : ℕ) → among seen q ≡ true → among visible q ≡ true) →
    AllByRecursion (λ (v : VarInfo). is_there (place_in_text infos v.name) v.at ≡ true) (first_entries seen vs) → AllByRecursion (IsShown visible) (first_entries seen vs) → EntriesFine infos visible vs
firsts-fine infos visible seen [] known first shown = tt
firsts-fine infos visible seen (v ∷ vs) known first shown = by_seen (is_defined v) (among seen v.name) refl refl first shown (λ more k a b. firsts-fine infos visible more vs k a b)
  where
    both_ways : {b : Bool} → b ≡ true → b ≡ false → ⊥
    both_ways e g = cc

    and_one : among visible v.name ≡ true → (q : ℕ) → among (with_id seen v.name) q ≡ true → among visible q ≡ true
    and_one own q h = by_equal (nat_eq q v.name) (among seen q) refl refl (sym (among-with_id seen v.name q) ∙ h)
      where
        by_equal : (b s : Bool) → nat_eq q v.name ≡ b → among seen q ≡ s → (among seen q || nat_eq q v.name) ≡ true → among visible q ≡ true
        by_equal true s e k g = ap (among visible) (eqb-true q v.name e) ∙ own
        by_equal false true e k g = known q k
        by_equal false false e k g = absurd (both_ways g (ap (λ c. c || nat_eq q v.name) k ∙ e))

    by_seen : (d m : Bool) → is_defined v ≡ d → among seen v.name ≡ m →
        AllByRecursion (λ (w : VarInfo). is_there (place_in_text infos w.name) w.at ≡ true) ((if d && m then [] else v ∷ []) ++ first_entries (if d then with_id seen v.name else seen) vs) →
        AllByRecursion (IsShown visible) ((if d && m then [] else v ∷ []) ++ first_entries (if d then with_id seen v.name else seen) vs) →
        ((more : List ℕ) → ((q : ℕ) → among more q ≡ true → among visible q ≡ true) → AllByRecursion (λ (w : VarInfo). is_there (place_in_text infos w.name) w.at ≡ true) (first_entries more vs) → AllByRecursion (IsShown visible) (first_entries more vs) → EntriesFine infos visible vs) →
        EntryFine infos visible v × EntriesFine infos visible vs
    by_seen true true d m a b rest = (record { first = λ e. absurd (both_ways d e); shown = λ e. known v.name m }, rest (with_id seen v.name) (and_one (known v.name m)) a b)
    by_seen true false d m a b rest = let own = b.0 (defined-shown v d) in (record { first = λ e. absurd (both_ways d e); shown = λ e. own }, rest (with_id seen v.name) (and_one own) a.1 b.1)
    by_seen false m d e a b rest = (record { first = λ u. a.0; shown = λ u. absurd (both_ways u d) }, rest seen known a.1 b.1)

params-shown : (visible : List ℕ) (ps : List Param) → AllByRecursion (IsShown visible) (map parameter ps) → (q : ℕ) → among (param_ids ps) q ≡ true → among visible q ≡ true
params-shown visible [] h q is = absurd (cc)
params-shown visible (p ∷ ps) h q is = by_equal (nat_eq q p.name.id) refl is (params-shown visible ps h.1 q)
  where
    by_equal : (b : Bool) → nat_eq q p.name.id ≡ b → (b || among (param_ids ps) q) ≡ true → (among (param_ids ps) q ≡ true → among visible q ≡ true) → among visible q ≡ true
    by_equal true e g more = ap (among visible) (eqb-true q p.name.id e) ∙ h.0 refl
    by_equal false e g more = more g

-- in a declaration whose variables have different names, what equations define is visible, and locals are the first of their variables
pub decl-fine : (infos : List VarInfo) (d : Decl) → infos ≡ scope.variables d → Distinct infos → EntriesFine infos (with_visible [] (scope.variables d)) (eqns_outline d.eqs).entries
unfolding scope.variables
decl-fine infos d e distinct =
    let params = map parameter d.params in
    let seen = with_ids [] (param_ids d.params) in
    let entries = (eqns_outline d.eqs).entries in
    let visible = with_visible [] (scope.variables d) in
    let first = subst (λ vs. AllByRecursion (λ (v : VarInfo). is_there (place_in_text infos v.name) v.at ≡ true) vs) e (all-there infos [] infos refl distinct) in
    let shown = all-shown [] (scope.variables d) in
    firsts-fine infos visible seen entries
    (λ q h. params-shown visible d.params (all-left (IsShown visible) params (first_entries seen entries) shown) q (sym (among-with_ids [] (param_ids d.params) q) ∙ h))
    (all-right (λ (v : VarInfo). is_there (place_in_text infos v.name) v.at ≡ true) params (first_entries seen entries) first)
    (all-right (IsShown visible) params (first_entries seen entries) shown)
