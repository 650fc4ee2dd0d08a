-- The names of a declaration that breaks no rule of names: its parameters, its locals and the names that it defines.
use Rattle.std.proofs.Common.{◌≡◌, ◌⊎◌, inl, inr, ℕ, Bool, true, false, ◌&&◌, ◌||◌, if◌then◌else◌, List, [], ◌∷◌, ◌++◌, map, refl, sym, ap, ◌∙◌}
use Rattle.std.specs.List.{AllByRecursion}
use Rattle.zl_value.specs.declared.rule.Rule.{Rule}
use Rattle.zl_value.specs.declared.rule.Rule.TheVariants as rule
use Rattle.zl_ast.specs.declared.name.Name.{Name}
use Rattle.zl_ast.specs.declared.scope.VarInfo.{VarInfo}
use Rattle.zl_ast.specs.declared.program.Decl.{Decl}
use Rattle.zl_ast.specs.declared.program.Param.{Param}
use Rattle.zl_ast.specs.Names.{broken_if, among, with_id, with_ids, repeats}
use Rattle.zl_ast.specs.NamesDefined.{is_defined, first_places, eqns_outline}
use Rattle.zl_ast.specs.NamesUsed.{Known}
use Rattle.zl_ast.specs.NamesRules.{twice, is_declared, variables_broken}
use Rattle.zl_ast.specs.Scopes.{param_ids, first_entries, parameter, variables}
use Rattle.zl_flat.proofs.WellFormedParts.{all-left, all-right}
use Rattle.zl_flat.proofs.RulesKept.{none-left, none-right, kept-if}
use Rattle.zl_flat.proofs.DefinersNames.{not-both, kept-with_id, has-with_id, in-with_id, in-with_ids, Entry, entry-right, MayShare, LocalsDiffer, absent-share}
use Rattle.zl_flat.proofs.DefinersOutlines.{IsSound, none-wanted}

-- where neither holds, the one does not
pub neither-left : (a b : Bool) → (a || b) ≡ false → a ≡ false
neither-left true b h = h
neither-left false b h = refl

pub neither-right : (a b : Bool) → (a || b) ≡ false → b ≡ false
neither-right true b h = cc
neither-right false b h = h

-- what is not true is false
pub not-true : (b : Bool) → (b ≡ true → ⊥) → b ≡ false
not-true true h = absurd (h refl)
not-true false h = refl

-- where no name repeats, none of the names has a number that came before
pub not-repeated : (r : Rule) (seen : List ℕ) (xs : List Name) → repeats r seen xs ≡ [] → (id : ℕ) → among seen id ≡ true → AllByRecursion (λ (x : Name). id ≡ x.id → ⊥) xs
not-repeated r seen [] h id m = tt
not-repeated r seen (x ∷ xs) h id m =
    let one = broken_if (among seen x.id) r x.at in
    let rest = repeats r (with_id seen x.id) xs in (
      λ e. not-both (among seen x.id) (ap (among seen) (sym e) ∙ m) (kept-if (among seen x.id) r x.at (none-left one rest h)),
      not-repeated r (with_id seen x.id) xs (none-right one rest h) id (kept-with_id seen x.id id m),
    )

-- ---- variables

-- where no variable comes twice, none has a number that came before
twice-none : (c seen : List ℕ) (vs : List VarInfo) → twice c seen vs ≡ [] → (d : Bool) (id : ℕ) → among seen id ≡ true → Entry d id vs → ⊥
twice-none c seen [] h d id m k = k
twice-none c seen (v ∷ vs) h d id m (inl k) =
    let one = among seen v.name || among c v.name in
    not-both (among seen v.name) (ap (among seen) k.1 ∙ m) (neither-left (among seen v.name) (among c v.name) (kept-if one rule.NameTwice v.at (none-left (broken_if one rule.NameTwice v.at) (twice c (with_id seen v.name) vs) h)))
twice-none c seen (v ∷ vs) h d id m (inr k) =
    twice-none c (with_id seen v.name) vs (none-right (broken_if (among seen v.name || among c v.name) rule.NameTwice v.at) (twice c (with_id seen v.name) vs) h) d id (kept-with_id seen v.name id m) k

-- a defined name came before, or is a variable
in-first : (fs : List ℕ) (vs : List VarInfo) (id : ℕ) → Entry true id vs → (among fs id ≡ true) ⊎ Entry true id (first_entries fs vs)
in-first fs [] id k = absurd k
in-first fs (v ∷ vs) id k = by_case (is_defined v) (among fs v.name) refl refl k (λ gs. in-first gs vs id)
  where
    Goal : Bool → Bool → Type 0
    Goal b m = (among fs id ≡ true) ⊎ Entry true id ((if b && m then [] else v ∷ []) ++ first_entries (if b then with_id fs v.name else fs) vs)

    this : (m : Bool) → is_defined v ≡ true → among fs v.name ≡ m → v.name ≡ id → Goal true m
    this true e g n = inl (ap (among fs) (sym n) ∙ g)
    this false e g n = inr (inl (e, n))

    one : (m : Bool) → is_defined v ≡ true → among fs v.name ≡ m → among (with_id fs v.name) id ≡ true → Goal true m
    one m e g k = in-with_id (λ q. q ≡ id → Goal true m) fs v.name (λ q h n. inl (ap (among fs) (sym n) ∙ h)) (λ n. this m e g n) id k refl

    later : (b m : Bool) → (among fs id ≡ true) ⊎ Entry true id (first_entries (if b then with_id fs v.name else fs) vs) → Goal b m
    later b m (inl k) = inl k
    later b m (inr k) = inr (entry-right true id (if b && m then [] else v ∷ []) (first_entries (if b then with_id fs v.name else fs) vs) k)

    by_case : (b m : Bool) → is_defined v ≡ b → among fs v.name ≡ m → ((is_defined v ≡ true) × (v.name ≡ id)) ⊎ Entry true id vs → ((gs : List ℕ) → Entry true id vs → (among gs id ≡ true) ⊎ Entry true id (first_entries gs vs)) → Goal b m
    by_case true m e g (inl k) more = this m e g k.1
    by_case false m e g (inl k) more = absurd (not-both (is_defined v) k.0 e)
    by_case true m e g (inr k) more = behind (more (with_id fs v.name) k)
      where
        behind : (among (with_id fs v.name) id ≡ true) ⊎ Entry true id (first_entries (with_id fs v.name) vs) → Goal true m
        behind (inl k) = one m e g k
        behind (inr k) = later true m (inr k)
    by_case false m e g (inr k) more = later false m (more fs k)

-- a defined name may stand before entries of which no local has its name
share-defined : (v : VarInfo) (vs : List VarInfo) → is_defined v ≡ true → (Entry false v.name vs → ⊥) → AllByRecursion (MayShare v) vs
share-defined v [] e absent = tt
share-defined v (w ∷ vs) e absent = (λ n. (e, defined (is_defined w) refl n), share-defined v vs e (λ k. absent (inr k)))
  where
    defined : (b : Bool) → is_defined w ≡ b → v.name ≡ w.name → is_defined w ≡ true
    defined true f n = f
    defined false f n = absurd (absent (inl (f, sym n)))

-- where no variable comes twice, no local has the name of another entry, nor a number that came before
locals-differ : (c seen fs : List ℕ) (vs : List VarInfo) → twice c seen (first_entries fs vs) ≡ [] → ((q : ℕ) → among fs q ≡ true → among seen q ≡ true) →
    LocalsDiffer vs × ((id : ℕ) → Entry false id vs → among seen id ≡ false)
locals-differ c seen fs [] h within = (tt, λ id k. absurd k)
locals-differ c seen fs (v ∷ vs) h within = by_case (is_defined v) (among fs v.name) refl refl h (λ seen2 fs2. locals-differ c seen2 fs2 vs)
  where
    More : List ℕ → Type 0
    More seen2 = LocalsDiffer vs × ((id : ℕ) → Entry false id vs → among seen2 id ≡ false)

    Goal : Type 0
    Goal = (AllByRecursion (MayShare v) vs × LocalsDiffer vs) × ((id : ℕ) → ((is_defined v ≡ false) × (v.name ≡ id)) ⊎ Entry false id vs → among seen id ≡ false)

    fewer : (id : ℕ) → among (with_id seen v.name) id ≡ false → among seen id ≡ false
    fewer id e = not-true (among seen id) (λ m. not-both (among (with_id seen v.name) id) (kept-with_id seen v.name id m) e)

    unseen : (rest : List VarInfo) → twice c seen (v ∷ rest) ≡ [] → among seen v.name ≡ false
    unseen rest h =
        let one = among seen v.name || among c v.name in
        neither-left (among seen v.name) (among c v.name) (kept-if one rule.NameTwice v.at (none-left (broken_if one rule.NameTwice v.at) (twice c (with_id seen v.name) rest) h))

    dropped : is_defined v ≡ true → among fs v.name ≡ true → More seen → Goal
    dropped e g more = (
      (share-defined v vs e (λ k. not-both (among seen v.name) (within v.name g) (more.1 v.name k)), more.0),
      λ id k. in_either id k,
    )
      where
        in_either : (id : ℕ) → ((is_defined v ≡ false) × (v.name ≡ id)) ⊎ Entry false id vs → among seen id ≡ false
        in_either id (inl k) = absurd (not-both (is_defined v) e k.0)
        in_either id (inr k) = more.1 id k

    kept : is_defined v ≡ true → More (with_id seen v.name) → Goal
    kept e more = (
      (share-defined v vs e (λ k. not-both (among (with_id seen v.name) v.name) (has-with_id seen v.name) (more.1 v.name k)), more.0),
      λ id k. in_either id k,
    )
      where
        in_either : (id : ℕ) → ((is_defined v ≡ false) × (v.name ≡ id)) ⊎ Entry false id vs → among seen id ≡ false
        in_either id (inl k) = absurd (not-both (is_defined v) e k.0)
        in_either id (inr k) = fewer id (more.1 id k)

    local : among seen v.name ≡ false → twice c (with_id seen v.name) (first_entries fs vs) ≡ [] → More (with_id seen v.name) → Goal
    local new h more = ((absent-share v vs absent, more.0), λ id k. in_either id k)
      where
        in_first : (among fs v.name ≡ true) ⊎ Entry true v.name (first_entries fs vs) → ⊥
        in_first (inl k) = not-both (among seen v.name) (within v.name k) new
        in_first (inr k) = twice-none c (with_id seen v.name) (first_entries fs vs) h true v.name (has-with_id seen v.name) k

        absent : (d : Bool) → Entry d v.name vs → ⊥
        absent true k = in_first (in-first fs vs v.name k)
        absent false k = not-both (among (with_id seen v.name) v.name) (has-with_id seen v.name) (more.1 v.name k)

        in_either : (id : ℕ) → ((is_defined v ≡ false) × (v.name ≡ id)) ⊎ Entry false id vs → among seen id ≡ false
        in_either id (inl k) = ap (among seen) (sym k.1) ∙ new
        in_either id (inr k) = fewer id (more.1 id k)

    by_case : (b m : Bool) → is_defined v ≡ b → among fs v.name ≡ m → twice c seen ((if b && m then [] else v ∷ []) ++ first_entries (if b then with_id fs v.name else fs) vs) ≡ [] →
        ((seen2 fs2 : List ℕ) → twice c seen2 (first_entries fs2 vs) ≡ [] → ((q : ℕ) → among fs2 q ≡ true → among seen2 q ≡ true) → More seen2) → Goal
    by_case true true e g h more = dropped e g (more seen (with_id fs v.name) h (in-with_id (λ q. among seen q ≡ true) fs v.name within (within v.name g)))
    by_case true false e g h more =
        kept e (more (with_id seen v.name) (with_id fs v.name)
        (none-right (broken_if (among seen v.name || among c v.name) rule.NameTwice v.at) (twice c (with_id seen v.name) (first_entries (with_id fs v.name) vs)) h)
        (in-with_id (λ q. among (with_id seen v.name) q ≡ true) fs v.name (λ q k. kept-with_id seen v.name q (within q k)) (has-with_id seen v.name)))
    by_case false m e g h more =
        let behind = none-right (broken_if (among seen v.name || among c v.name) rule.NameTwice v.at) (twice c (with_id seen v.name) (first_entries fs vs)) h in
        local (unseen (first_entries fs vs) h) behind (more (with_id seen v.name) fs behind (λ q k. kept-with_id seen v.name q (within q k)))

-- ---- the declaration

-- the variables behind the parameters come once, and are none of these
behind-params : (c seen : List ℕ) (ps : List Param) (vs : List VarInfo) → twice c seen (map parameter ps ++ vs) ≡ [] → twice c (with_ids seen (param_ids ps)) vs ≡ []
behind-params c seen [] vs h = h
behind-params c seen (p ∷ ps) vs h =
    behind-params c (with_id seen p.name.id) ps vs
    (none-right (broken_if (among seen p.name.id || among c p.name.id) rule.NameTwice p.name.at) (twice c (with_id seen p.name.id) (map parameter ps ++ vs)) h)

-- what holds of each variable holds of each entry
known-first : (K : ℕ → Type 0) (fs : List ℕ) (vs : List VarInfo) → ((q : ℕ) → among fs q ≡ true → K q) → AllByRecursion (λ (v : VarInfo). K v.name) (first_entries fs vs) → AllByRecursion (λ (v : VarInfo). K v.name) vs
known-first K fs [] before h = tt
known-first K fs (v ∷ vs) before h = by_case (is_defined v) (among fs v.name) refl h (λ gs. known-first K gs vs)
  where
    by_case : (b m : Bool) → among fs v.name ≡ m → AllByRecursion (λ (w : VarInfo). K w.name) ((if b && m then [] else v ∷ []) ++ first_entries (if b then with_id fs v.name else fs) vs) →
        ((gs : List ℕ) → ((q : ℕ) → among gs q ≡ true → K q) → AllByRecursion (λ (w : VarInfo). K w.name) (first_entries gs vs) → AllByRecursion (λ (w : VarInfo). K w.name) vs) → K v.name × AllByRecursion (λ (w : VarInfo). K w.name) vs
    by_case true true g h more = let one = before v.name g in (one, more (with_id fs v.name) (in-with_id K fs v.name before one) h)
    by_case true false g h more = (h.0, more (with_id fs v.name) (in-with_id K fs v.name before h.0) h.1)
    by_case false m g h more = (h.0, more fs before h.1)

-- what holds of the parameters holds of their numbers
known-params : (K : ℕ → Type 0) (ps : List Param) → AllByRecursion (λ (v : VarInfo). K v.name) (map parameter ps) → AllByRecursion K (param_ids ps)
known-params K [] h = tt
known-params K (p ∷ ps) h = (h.0, known-params K ps h.1)

module _ (K : ℕ → Type 0) (k : Known) (d : Decl) (kept : variables_broken k d ≡ []) where
  -- what is not broken in a declaration's names
  record Unbroken : Type 0 where
    equations : (eqns_outline d.eqs).broken ≡ []
    params : first_places (with_ids [] (param_ids d.params)) [] (eqns_outline d.eqs).entries ≡ []
    once : twice k.constants [] (map parameter d.params ++ first_entries (with_ids [] (param_ids d.params)) (eqns_outline d.eqs).entries) ≡ []

  unbroken : Unbroken
  unfolding variables_broken variables
  unbroken =
      let o = eqns_outline d.eqs in
      let own = broken_if (is_declared k d.name.id) rule.NameTwice d.name.at in
      let params = first_places (with_ids [] (param_ids d.params)) [] o.entries in
      let once = twice k.constants [] (variables d) in
      let behind = none-right own (o.broken ++ (params ++ once)) kept in
      let more = none-right o.broken (params ++ once) behind in
      record { equations = none-left o.broken (params ++ once) behind; params = none-left params once more; once = none-right params once more }

  -- no local of a declaration has the name of another entry, nor of a parameter
  own-locals : LocalsDiffer (eqns_outline d.eqs).entries × ((id : ℕ) → Entry false id (eqns_outline d.eqs).entries → among (with_ids [] (param_ids d.params)) id ≡ false)
  own-locals =
      let fs = with_ids [] (param_ids d.params) in
      let vs = (eqns_outline d.eqs).entries in
      locals-differ k.constants fs fs vs (behind-params k.constants [] d.params (first_entries fs vs) unbroken.once) (λ q m. m)

  -- the equations of a declaration are sound
  pub sound-decl : AllByRecursion (λ (v : VarInfo). K v.name) (variables d) → IsSound K (eqns_outline d.eqs)
  unfolding variables
  sound-decl h =
      let fs = with_ids [] (param_ids d.params) in
      let vs = (eqns_outline d.eqs).entries in
      let params = known-params K d.params (all-left (λ (v : VarInfo). K v.name) (map parameter d.params) (first_entries fs vs) h) in
      record {
        kept = unbroken.equations;
        differ = own-locals.0;
        known = known-first K fs vs (in-with_ids K [] (param_ids d.params) (λ q m. absurd (not-both false m refl)) params) (all-right (λ (v : VarInfo). K v.name) (map parameter d.params) (first_entries fs vs) h);
      }

  -- no entry has the name of a parameter
  pub not-a-param : (e : Bool) (id : ℕ) → Entry e id (eqns_outline d.eqs).entries → among (with_ids [] (param_ids d.params)) id ≡ false
  not-a-param true id h =
      let fs = with_ids [] (param_ids d.params) in
      not-true (among fs id) (λ m. not-both false (none-wanted fs [] (eqns_outline d.eqs).entries unbroken.params id h m) refl)
  not-a-param false id h = own-locals.1 id h
