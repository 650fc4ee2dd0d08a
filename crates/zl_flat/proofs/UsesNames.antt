-- The names that equations define are variables of the instance.
use Rattle.std.proofs.Common.{◌≡◌, ℕ, Bool, true, false, not, ◌&&◌, if◌then◌else◌, List, [], ◌∷◌, ◌++◌, map, refl}
use Rattle.std.specs.List.{AllByRecursion}
use Rattle.zl_ast.specs.declared.name.Name.{Name}
use Rattle.zl_ast.specs.declared.scope.VarInfo.{VarInfo}
use Rattle.zl_ast.specs.declared.scope.VarClass.{VarClass}
use Rattle.zl_ast.specs.Names.{among, with_id, with_ids, ids_of}
use Rattle.zl_ast.specs.NamesDefined.{Outline, StateOutline, entry, is_defined, free_entries, together, list_from, states_among}
use Rattle.zl_ast.specs.Scopes.{first_entries}
use Rattle.zl_flat.specs.Instances.{Instance}
use Rattle.zl_flat.proofs.WellFormedParts.{all-left, all-right}
use Rattle.zl_flat.proofs.RulesKept.{IsVariable, Covers}
use Rattle.zl_flat.proofs.RulesKept.{covers-one}

-- each of these names, and each of these entries, is a variable of the instance
abbrev pub NamesKnown : Instance → List Name → Type 0
NamesKnown i xs = AllByRecursion (λ (x : Name). IsVariable i x.id) xs

-- each of these entries
abbrev pub EntriesKnown : Instance → List VarInfo → Type 0
EntriesKnown i vs = AllByRecursion (λ (v : VarInfo). IsVariable i v.name) vs

-- each entry of an outline
abbrev pub OutlineKnown : Instance → Outline → Type 0
OutlineKnown i o = EntriesKnown i o.entries

-- entries made of names
pub names-known : (i : Instance) (c : VarClass) (xs : List Name) → EntriesKnown i (map (entry c) xs) → NamesKnown i xs
names-known i c [] h = tt
names-known i c (x ∷ xs) h = (h.0, names-known i c xs h.1)

-- no number is visible
pub covers-none : (i : Instance) → Covers i []
covers-none i id h = absurd (cc)

-- more names are visible
pub covers-names : (i : Instance) (xs : List Name) (visible : List ℕ) → NamesKnown i xs → Covers i visible → Covers i (with_ids visible (ids_of xs))
covers-names i [] visible h c = c
covers-names i (x ∷ xs) visible h c = covers-names i xs (with_id visible x.id) h.1 (covers-one (IsVariable i) visible x.id (among visible x.id) c h.0)

-- an entry that is left out has a number that was seen
free-step : (i : Instance) (v : VarInfo) (ws : List VarInfo) (d m : Bool) → (m ≡ true → IsVariable i v.name) → EntriesKnown i (if not (d && m) then v ∷ ws else ws) → IsVariable i v.name × EntriesKnown i ws
free-step i v ws true true seen h = (seen refl, h)
free-step i v ws true false seen h = h
free-step i v ws false m seen h = h

-- what locals leave of entries
pub free-known : (i : Instance) (held : List ℕ) (vs : List VarInfo) → Covers i held → EntriesKnown i (free_entries held vs) → EntriesKnown i vs
free-known i held [] c h = tt
free-known i held (v ∷ vs) c h = let a = free-step i v (free_entries held vs) (is_defined v) (among held v.name) (c v.name) h in (a.0, free-known i held vs c a.1)

-- so has one that came before
first-step : (i : Instance) (v : VarInfo) (ws : List VarInfo) (d m : Bool) → (m ≡ true → IsVariable i v.name) → EntriesKnown i ((if d && m then [] else v ∷ []) ++ ws) → IsVariable i v.name × EntriesKnown i ws
first-step i v ws true true seen h = (seen refl, h)
first-step i v ws true false seen h = h
first-step i v ws false m seen h = h

-- the first entries of each name
pub first-known : (i : Instance) (seen : List ℕ) (vs : List VarInfo) → Covers i seen → EntriesKnown i (first_entries seen vs) → EntriesKnown i vs
first-known i seen [] c h = tt
first-known i seen (v ∷ vs) c h =
    let more = if is_defined v then with_id seen v.name else seen in
    let a = first-step i v (first_entries more vs) (is_defined v) (among seen v.name) (c v.name) h in
    (a.0, first-known i more vs (one (is_defined v) a.0) a.1)
  where
    one : (b : Bool) → IsVariable i v.name → Covers i (if b then with_id seen v.name else seen)
    one true h = covers-one (IsVariable i) seen v.name (among seen v.name) c h
    one false h = c

-- ---- outlines

-- the outlines of a list of equations
pub list-known : (i : Instance) (valued started : List ℕ) (os : List Outline) → EntriesKnown i (list_from valued started os).entries → AllByRecursion (OutlineKnown i) os
list-known i valued started [] h = tt
list-known i valued started (o ∷ os) h =
    let rest = list_from (with_ids valued o.valued) (with_ids started o.started) os in (
      all-left (λ (v : VarInfo). IsVariable i v.name) o.entries rest.entries h,
      list-known i (with_ids valued o.valued) (with_ids started o.started) os (all-right (λ (v : VarInfo). IsVariable i v.name) o.entries rest.entries h),
    )

-- outlines together
pub together-known : (i : Instance) (os : List Outline) → EntriesKnown i (together os).entries → AllByRecursion (OutlineKnown i) os
together-known i [] h = tt
together-known i (o ∷ os) h = (
  all-left (λ (v : VarInfo). IsVariable i v.name) o.entries (together os).entries h,
  together-known i os (all-right (λ (v : VarInfo). IsVariable i v.name) o.entries (together os).entries h),
)

-- the outlines of states
pub states-known : (i : Instance) (ids : List ℕ) (ss : List StateOutline) → EntriesKnown i (states_among ids ss).entries → AllByRecursion (λ (s : StateOutline). OutlineKnown i s.outline) ss
states-known i ids [] h = tt
states-known i ids (s ∷ ss) h = (
  all-left (λ (v : VarInfo). IsVariable i v.name) s.outline.entries (states_among ids ss).entries h,
  states-known i ids ss (all-right (λ (v : VarInfo). IsVariable i v.name) s.outline.entries (states_among ids ss).entries h),
)
