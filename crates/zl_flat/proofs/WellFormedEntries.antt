-- The names that equations declare and define are variables of a copy, where those that stand in the declaration's list are.
use Rattle.std.proofs.Common.{◌≡◌, ℕ, Bool, true, false, not, ◌&&◌, if◌then◌else◌, List, [], ◌∷◌, ◌++◌, map, refl}
use Rattle.std.specs.List.{AllByRecursion}
use Rattle.zl_ast.specs.declared.name.Name.{Name}
use Rattle.zl_ast.specs.declared.scope.VarInfo.{VarInfo}
use Rattle.zl_ast.specs.declared.scope.VarClass.{VarClass}
use Rattle.zl_ast.specs.Names.{among, with_id, with_ids, ids_of}
use Rattle.zl_ast.specs.NamesDefined.{Outline, StateOutline, entry, is_defined, free_entries, together, list_from, states_among}
use Rattle.zl_ast.specs.Scopes.{first_entries}
use Rattle.zl_flat.specs.Instances.{Instance}
use Rattle.zl_flat.proofs.WellFormedParts.{all-left, all-right}
use Rattle.zl_flat.proofs.RulesKept.{IsVariable, Covers}
use Rattle.zl_flat.proofs.RulesKept.{covers-one}

module _ (i : Instance) where
  -- the name of each of these entries is that of a variable
  abbrev pub EntriesKnown : List VarInfo → Type 0
  EntriesKnown vs = AllByRecursion (λ (v : VarInfo). IsVariable i v.name) vs

  abbrev pub NamesKnown : List Name → Type 0
  NamesKnown xs = AllByRecursion (λ (x : Name). IsVariable i x.id) xs

  -- names whose entries are known
  pub names-known : (c : VarClass) (xs : List Name) → EntriesKnown (map (entry c) xs) → NamesKnown xs
  names-known c [] h = tt
  names-known c (x ∷ xs) h = (h.0, names-known c xs h.1)

  -- a list and these names are of variables, if the list is
  pub covers-names : (xs : List Name) (visible : List ℕ) → NamesKnown xs → Covers i visible → Covers i (with_ids visible (ids_of xs))
  covers-names [] visible h c = c
  covers-names (x ∷ xs) visible h c = covers-names xs (with_id visible x.id) h.1 (covers-one (IsVariable i) visible x.id (among visible x.id) c h.0)

  -- no name
  pub covers-none : Covers i []
  covers-none id h = absurd (cc)

  -- an entry that is left or held
  free-step : (v : VarInfo) (ws : List VarInfo) (d m : Bool) → (m ≡ true → IsVariable i v.name) → EntriesKnown (if not (d && m) then v ∷ ws else ws) → IsVariable i v.name × EntriesKnown ws
  free-step v ws true true held h = (held refl, h)
  free-step v ws true false held h = (h.0, h.1)
  free-step v ws false m held h = (h.0, h.1)

  -- the entries of which some are left where locals hold the others
  pub free-known : (held : List ℕ) (vs : List VarInfo) → Covers i held → EntriesKnown (free_entries held vs) → EntriesKnown vs
  free-known held [] c h = tt
  free-known held (v ∷ vs) c h = let a = free-step v (free_entries held vs) (is_defined v) (among held v.name) (c v.name) h in (a.0, free-known held vs c a.1)

  -- the entries of each equation of a list
  pub list-known : (valued started : List ℕ) (os : List Outline) → EntriesKnown (list_from valued started os).entries → AllByRecursion (λ (o : Outline). EntriesKnown o.entries) os
  list-known valued started [] h = tt
  list-known valued started (o ∷ os) h =
      let rest = list_from (with_ids valued o.valued) (with_ids started o.started) os in
      (all-left (λ (v : VarInfo). IsVariable i v.name) o.entries rest.entries h, list-known (with_ids valued o.valued) (with_ids started o.started) os (all-right (λ (v : VarInfo). IsVariable i v.name) o.entries rest.entries h))

  -- the entries of each arm
  pub together-known : (os : List Outline) → EntriesKnown (together os).entries → AllByRecursion (λ (o : Outline). EntriesKnown o.entries) os
  together-known [] h = tt
  together-known (o ∷ os) h = (all-left (λ (v : VarInfo). IsVariable i v.name) o.entries (together os).entries h, together-known os (all-right (λ (v : VarInfo). IsVariable i v.name) o.entries (together os).entries h))

  -- the entries of each state
  pub states-known : (ids : List ℕ) (ss : List StateOutline) → EntriesKnown (states_among ids ss).entries → AllByRecursion (λ (s : StateOutline). EntriesKnown s.outline.entries) ss
  states-known ids [] h = tt
  states-known ids (s ∷ ss) h =
      (all-left (λ (v : VarInfo). IsVariable i v.name) s.outline.entries (states_among ids ss).entries h, states-known ids ss (all-right (λ (v : VarInfo). IsVariable i v.name) s.outline.entries (states_among ids ss).entries h))

  -- ---- the whole declaration

  -- an entry that is the first of its name or not
  first-step : (v : VarInfo) (rest : List VarInfo) (d m : Bool) → (m ≡ true → IsVariable i v.name) → EntriesKnown ((if d && m then [] else v ∷ []) ++ rest) → IsVariable i v.name × EntriesKnown rest
  first-step v rest true true held h = (held refl, h)
  first-step v rest true false held h = (h.0, h.1)
  first-step v rest false m held h = (h.0, h.1)

  -- all that a declaration's equations declare and define, where the first of each name are variables
  pub all-known : (seen : List ℕ) (vs : List VarInfo) → Covers i seen → EntriesKnown (first_entries seen vs) → EntriesKnown vs
  all-known seen [] c h = tt
  all-known seen (v ∷ vs) c h =
      let more = if is_defined v then with_id seen v.name else seen in
      let a = first-step v (first_entries more vs) (is_defined v) (among seen v.name) (c v.name) h in
      (a.0, all-known more vs (covers (is_defined v) a.0) a.1)
    where
      covers : (b : Bool) → IsVariable i v.name → Covers i (if b then with_id seen v.name else seen)
      covers true k = covers-one (IsVariable i) seen v.name (among seen v.name) c k
      covers false k = c
