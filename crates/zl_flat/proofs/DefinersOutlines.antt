-- What the outline of equations says of their definers, where no rule of names is broken.
use Rattle.std.proofs.Common.{◌≡◌, ◌⊎◌, inl, inr, ℕ, Bool, true, false, not, ◌&&◌, if◌then◌else◌, nat_eq, List, [], ◌∷◌, ◌++◌, map, refl, sym, ap, subst, ◌∙◌}
use Rattle.std.specs.List.{AllByRecursion}
use Rattle.std.proofs.lemmas.Bool.{eqb-true}
use Rattle.zl_value.specs.declared.rule.Rule.TheVariants as rule
use Rattle.zl_ast.specs.declared.name.Name.{Name}
use Rattle.zl_ast.specs.declared.scope.VarInfo.{VarInfo}
use Rattle.zl_ast.specs.declared.scope.VarClass.TheVariants as class
use Rattle.zl_ast.specs.Names.{Violation, broken_if, among, with_id, with_ids, ids_of, strangers}
use Rattle.zl_ast.specs.NamesDefined.{Outline, entry, is_defined, with_defined, first_places, with_shared, nothing, both, together, after, with_broken, clashing, list_from, free_entries, free_ids, under, StateOutline, state_among, states_among, one_defined, left_outline}
use Rattle.zl_flat.proofs.WellFormedParts.{all-left, all-right}
use Rattle.zl_flat.proofs.RulesKept.{none-left, none-right, kept-if}
use Rattle.zl_flat.proofs.DefinersNames.{either, not-both, among-split, among-left, among-right, among-one, kept-with_id, has-with_id, kept-with_ids, has-with_ids, Entry, entry-left, entry-right, LocalsDiffer, differ-left, differ-right, differ-across, entry-free, all-free, free-differ, held-entry, entry-known, free-ids, ids-free}

-- the numbers of the names that are defined by `init`, or of those that are defined other than by it
abbrev pub ids_by : Bool → Outline → List ℕ
ids_by started o = if started then o.started else o.valued

-- each name that is defined has an entry
abbrev pub HasEntries : Outline → Type 0
HasEntries o = (started : Bool) (id : ℕ) → among (ids_by started o) id ≡ true → Entry true id o.entries

-- the name is defined in this way, or is that of a local
abbrev pub HasName : Outline → Bool → ℕ → Type 0
HasName o started id = (among (ids_by started o) id ≡ true) ⊎ Entry false id o.entries

-- no rule of names is broken, no local has the name of another entry, and it holds of each name
pub record IsSound (K : ℕ → Type 0) (o : Outline) : Type 0 where
  pub kept : o.broken ≡ []
  pub differ : LocalsDiffer o.entries
  pub known : AllByRecursion (λ (v : VarInfo). K v.name) o.entries

-- ---- an entry for each name

-- no equations
pub entries-nothing : HasEntries nothing
entries-nothing true id h = absurd (cc)
entries-nothing false id h = absurd (cc)

-- the entry of a number of two lists
one-or-other : (xs ys : List ℕ) (vs ws : List VarInfo) (id : ℕ) → (among xs id ≡ true → Entry true id vs) → (among ys id ≡ true → Entry true id ws) → (among xs id ≡ true) ⊎ (among ys id ≡ true) → Entry true id (vs ++ ws)
one-or-other xs ys vs ws id h k (inl e) = entry-left true id vs ws (h e)
one-or-other xs ys vs ws id h k (inr e) = entry-right true id vs ws (k e)

-- equations one behind the other
pub entries-both : (o p : Outline) → HasEntries o → HasEntries p → HasEntries (both o p)
entries-both o p ho hp true id h = one-or-other o.started p.started o.entries p.entries id (ho true id) (hp true id) (among-split o.started p.started id h)
entries-both o p ho hp false id h = one-or-other o.valued p.valued o.entries p.entries id (ho false id) (hp false id) (among-split o.valued p.valued id h)

pub entries-together : (os : List Outline) → AllByRecursion HasEntries os → HasEntries (together os)
entries-together [] h = entries-nothing
entries-together (o ∷ os) h = entries-both o (together os) h.0 (entries-together os h.1)

-- equations of one list
pub entries-list : (valued started : List ℕ) (os : List Outline) → AllByRecursion HasEntries os → HasEntries (list_from valued started os)
entries-list valued started [] h = entries-nothing
entries-list valued started (o ∷ os) h =
    entries-both (with_broken o (first_places (clashing valued started o) [] o.entries)) (list_from (with_ids valued o.valued) (with_ids started o.started) os)
    h.0 (entries-list (with_ids valued o.valued) (with_ids started o.started) os h.1)

-- equations under locals
pub entries-under : (locals : List Name) (o : Outline) → HasEntries o → HasEntries (under locals o)
entries-under locals o h true id k =
    let held = with_ids [] (ids_of locals) in
    let free = free-ids held o.started id k in
    entry-right true id (map (entry class.Local) locals) (free_entries held o.entries) (entry-free true id held o.entries (λ e. free.1) (h true id free.0))
entries-under locals o h false id k =
    let held = with_ids [] (ids_of locals) in
    let free = free-ids held o.valued id k in
    entry-right true id (map (entry class.Local) locals) (free_entries held o.entries) (entry-free true id held o.entries (λ e. free.1) (h false id free.0))

-- the states of an automaton
pub entries-states : (ids : List ℕ) (ss : List StateOutline) → AllByRecursion (λ (s : StateOutline). HasEntries s.outline) ss → HasEntries (states_among ids ss)
entries-states ids [] h = entries-nothing
entries-states ids (s ∷ ss) h = entries-both (state_among ids s) (states_among ids ss) h.0 (entries-states ids ss h.1)

-- the names on the left of an equation
entry-left_side : (left : List Name) (id : ℕ) → among (ids_of left) id ≡ true → Entry true id (map (entry class.Top) left)
entry-left_side [] id h = absurd (cc)
entry-left_side (x ∷ left) id h = by_first (either (nat_eq id x.id) (among (ids_of left) id) h) (entry-left_side left id)
  where
    by_first : (nat_eq id x.id ≡ true) ⊎ (among (ids_of left) id ≡ true) → (among (ids_of left) id ≡ true → Entry true id (map (entry class.Top) left)) → Entry true id (map (entry class.Top) (x ∷ left))
    by_first (inl e) more = inl (refl, sym (eqb-true id x.id e))
    by_first (inr e) more = inr (more e)

pub entries-left : (left : List Name) → HasEntries (left_outline left)
entries-left left true id h = absurd (cc)
entries-left left false id h = entry-left_side left id h

-- one name that is defined
pub entries-one : (x : Name) (v s : Bool) → HasEntries (one_defined x v s)
entries-one x v true true id h = inl (refl, sym (among-one x.id id h))
entries-one x v false true id h = absurd (cc)
entries-one x true s false id h = inl (refl, sym (among-one x.id id h))
entries-one x false s false id h = absurd (cc)

-- ---- names

-- a name that one of two lists has, both have
one-of-both : (xs ys : List ℕ) (vs ws : List VarInfo) (id : ℕ) → (among xs id ≡ true) ⊎ Entry false id vs → (among (xs ++ ys) id ≡ true) ⊎ Entry false id (vs ++ ws)
one-of-both xs ys vs ws id (inl h) = inl (among-left xs ys id h)
one-of-both xs ys vs ws id (inr h) = inr (entry-left false id vs ws h)

other-of-both : (xs ys : List ℕ) (vs ws : List VarInfo) (id : ℕ) → (among ys id ≡ true) ⊎ Entry false id ws → (among (xs ++ ys) id ≡ true) ⊎ Entry false id (vs ++ ws)
other-of-both xs ys vs ws id (inl h) = inl (among-right xs ys id h)
other-of-both xs ys vs ws id (inr h) = inr (entry-right false id vs ws h)

-- a name of one of two outlines is one of both
pub name-left : (o p : Outline) (started : Bool) (id : ℕ) → HasName o started id → HasName (both o p) started id
name-left o p true id h = one-of-both o.started p.started o.entries p.entries id h
name-left o p false id h = one-of-both o.valued p.valued o.entries p.entries id h

pub name-right : (o p : Outline) (started : Bool) (id : ℕ) → HasName p started id → HasName (both o p) started id
name-right o p true id h = other-of-both o.started p.started o.entries p.entries id h
name-right o p false id h = other-of-both o.valued p.valued o.entries p.entries id h

-- a name that is defined under locals is defined outside, or is that of a local
pub name-under : (locals : List Name) (o : Outline) (started : Bool) (id : ℕ) → HasName o started id → HasName (under locals o) started id
name-under locals o started id h = by_way started h
  where
    by_held : (ids : List ℕ) (m : Bool) → among (with_ids [] (ids_of locals)) id ≡ m → among ids id ≡ true → (among (free_ids (with_ids [] (ids_of locals)) ids) id ≡ true) ⊎ Entry false id (map (entry class.Local) locals ++ free_entries (with_ids [] (ids_of locals)) o.entries)
    by_held ids true e k = inr (entry-left false id (map (entry class.Local) locals) (free_entries (with_ids [] (ids_of locals)) o.entries) (held-entry locals id e))
    by_held ids false e k = inl (ids-free (with_ids [] (ids_of locals)) ids id k e)

    by_local : Entry false id o.entries → Entry false id (map (entry class.Local) locals ++ free_entries (with_ids [] (ids_of locals)) o.entries)
    by_local k = entry-right false id (map (entry class.Local) locals) (free_entries (with_ids [] (ids_of locals)) o.entries) (entry-free false id (with_ids [] (ids_of locals)) o.entries (λ e. absurd (cc)) k)

    by_way : (b : Bool) → HasName o b id → HasName (under locals o) b id
    by_way true (inl k) = by_held o.started (among (with_ids [] (ids_of locals)) id) refl k
    by_way true (inr k) = inr (by_local k)
    by_way false (inl k) = by_held o.valued (among (with_ids [] (ids_of locals)) id) refl k
    by_way false (inr k) = inr (by_local k)

-- a name has an entry: whether that is a defined name
pub entry-of : (o : Outline) → HasEntries o → (started : Bool) (id : ℕ) → HasName o started id → (d : Bool) × Entry d id o.entries
entry-of o has started id (inl h) = (true, has started id h)
entry-of o has started id (inr h) = (false, h)

-- ---- what is sound

module _ (K : ℕ → Type 0) where
  -- what is sound in two outlines is sound in each
  pub sound-both : (o p : Outline) → IsSound K (both o p) → IsSound K o × IsSound K p
  sound-both o p h =
      let known = h.known in (
        record { kept = none-left o.broken p.broken h.kept; differ = differ-left o.entries p.entries h.differ; known = all-left (λ (v : VarInfo). K v.name) o.entries p.entries known },
        record { kept = none-right o.broken p.broken h.kept; differ = differ-right o.entries p.entries h.differ; known = all-right (λ (v : VarInfo). K v.name) o.entries p.entries known },
      )

  -- and without the violations before it
  pub sound-after : (vs : List Violation) (o : Outline) → IsSound K (after vs o) → IsSound K o
  sound-after vs o h = record { kept = none-right vs o.broken h.kept; differ = h.differ; known = h.known }

  -- and without those behind it, of which there are none
  sound-broken : (o : Outline) (vs : List Violation) → IsSound K (with_broken o vs) → IsSound K o × (vs ≡ [])
  sound-broken o vs h = (record { kept = none-left o.broken vs h.kept; differ = h.differ; known = h.known }, none-right o.broken vs h.kept)

  -- where locals break no rule, what is under them is sound
  pub sound-under : (locals : List Name) (o : Outline) → IsSound K (under locals o) → IsSound K o
  sound-under locals o h =
      let own = map (entry class.Local) locals in
      let held = with_ids [] (ids_of locals) in
      let free = free_entries held o.entries in
      record {
        kept = none-left o.broken (strangers rule.Undefined (with_defined [] o.entries) locals) h.kept;
        differ = free-differ held o.entries (λ id d m k. not-both false (differ-across false d id own free h.differ (held-entry locals id m) k).0 refl) (differ-right own free h.differ);
        known = all-free (λ (v : VarInfo). K v.name) held o.entries (λ w e m. entry-known K false w.name own (all-left (λ (v : VarInfo). K v.name) own free h.known) (held-entry locals w.name m)) (all-right (λ (v : VarInfo). K v.name) own free h.known);
      }

-- ---- two equations of one list

-- a list with shared numbers has the numbers that it had
kept-with_shared : (ids known more : List ℕ) (q : ℕ) → among ids q ≡ true → among (with_shared ids known more) q ≡ true
kept-with_shared ids known [] q h = h
kept-with_shared ids known (id ∷ more) q h = kept-with_shared (if among known id then with_id ids id else ids) known more q (by_case (among known id))
  where
    by_case : (b : Bool) → among (if b then with_id ids id else ids) q ≡ true
    by_case true = kept-with_id ids id q h
    by_case false = h

-- and those that are in both lists
has-with_shared : (ids known more : List ℕ) (q : ℕ) → among known q ≡ true → among more q ≡ true → among (with_shared ids known more) q ≡ true
has-with_shared ids known [] q h k = absurd (cc)
has-with_shared ids known (id ∷ more) q h k = by_first (either (nat_eq q id) (among more q) k) (has-with_shared (if among known id then with_id ids id else ids) known more q h)
  where
    now : (b : Bool) → among known id ≡ b → q ≡ id → among (if b then with_id ids id else ids) q ≡ true
    now true e same = subst (λ n. among (with_id ids id) n ≡ true) (sym same) (has-with_id ids id)
    now false e same = absurd (not-both (among known id) (ap (among known) (sym same) ∙ h) e)

    by_first : (nat_eq q id ≡ true) ⊎ (among more q ≡ true) → (among more q ≡ true → among (with_shared (if among known id then with_id ids id else ids) known more) q ≡ true) → among (with_shared (if among known id then with_id ids id else ids) known more) q ≡ true
    by_first (inl e) rest = kept-with_shared (if among known id then with_id ids id else ids) known more q (now (among known id) refl (eqb-true q id e))
    by_first (inr e) rest = rest e

-- a name that is defined in one way by an equation and by those before it is among the clashing
clashes : (valued started : List ℕ) (o : Outline) (b : Bool) (id : ℕ) → among (if b then started else valued) id ≡ true → among (ids_by b o) id ≡ true → among (clashing valued started o) id ≡ true
clashes valued started o true id h k = has-with_shared (with_shared [] valued o.valued) started o.started id h k
clashes valued started o false id h k = kept-with_shared (with_shared [] valued o.valued) started o.started id (has-with_shared [] valued o.valued id h k)

-- where no first place is broken, no wanted name is defined
pub none-wanted : (wanted seen : List ℕ) (vs : List VarInfo) → first_places wanted seen vs ≡ [] → (id : ℕ) → Entry true id vs → among wanted id ≡ true → among seen id ≡ true
none-wanted wanted seen [] h id k w = absurd k
none-wanted wanted seen (v ∷ vs) h id k w =
    by_case (is_defined v) (among wanted v.name) (among seen v.name) refl refl refl h k (none-wanted wanted seen vs)
  where
    here : (b c d : Bool) → is_defined v ≡ b → among wanted v.name ≡ c → among seen v.name ≡ d → (b && (c && not d)) ≡ false → (is_defined v ≡ true) × (v.name ≡ id) → among seen id ≡ true
    here true true true e f g n k = ap (among seen) (sym k.1) ∙ g
    here true true false e f g n k = absurd (not-both true refl n)
    here true false d e f g n k = absurd (not-both (among wanted id) w (ap (among wanted) (sym k.1) ∙ f))
    here false c d e f g n k = absurd (not-both (is_defined v) k.0 e)

    go : (x : Bool) → x ≡ false → first_places wanted (if x then with_id seen v.name else seen) vs ≡ [] → first_places wanted seen vs ≡ []
    go true n h = absurd (not-both true refl n)
    go false n h = h

    by_case : (b c d : Bool) → is_defined v ≡ b → among wanted v.name ≡ c → among seen v.name ≡ d →
        broken_if (b && (c && not d)) rule.DefinedTwice v.at ++ first_places wanted (if (b && (c && not d)) then with_id seen v.name else seen) vs ≡ [] →
        ((is_defined v ≡ true) × (v.name ≡ id)) ⊎ Entry true id vs → (first_places wanted seen vs ≡ [] → (id : ℕ) → Entry true id vs → among wanted id ≡ true → among seen id ≡ true) → among seen id ≡ true
    by_case b c d e f g h (inl k) more =
        here b c d e f g (kept-if (b && (c && not d)) rule.DefinedTwice v.at (none-left (broken_if (b && (c && not d)) rule.DefinedTwice v.at) (first_places wanted (if (b && (c && not d)) then with_id seen v.name else seen) vs) h)) k
    by_case b c d e f g h (inr k) more =
        more (go (b && (c && not d)) (kept-if (b && (c && not d)) rule.DefinedTwice v.at (none-left (broken_if (b && (c && not d)) rule.DefinedTwice v.at) (first_places wanted (if (b && (c && not d)) then with_id seen v.name else seen) vs) h))
        (none-right (broken_if (b && (c && not d)) rule.DefinedTwice v.at) (first_places wanted (if (b && (c && not d)) then with_id seen v.name else seen) vs) h)) id k w

-- a list of equations that breaks no rule defines no name as those before it do
list-free : (valued started : List ℕ) (os : List Outline) → (list_from valued started os).broken ≡ [] → AllByRecursion HasEntries os → (b : Bool) (id : ℕ) →
    among (if b then started else valued) id ≡ true → among (ids_by b (list_from valued started os)) id ≡ true → ⊥
list-free valued started [] h has b id k m = none_there b m
  where
    none_there : (b : Bool) → among (ids_by b nothing) id ≡ true → ⊥
    none_there true m = cc
    none_there false m = cc
list-free valued started (o ∷ os) h has b id k m =
    let places = first_places (clashing valued started o) [] o.entries in
    let rest = list_from (with_ids valued o.valued) (with_ids started o.started) os in
    by_part b k m (none-right o.broken places (none-left (o.broken ++ places) rest.broken h)) (list-free (with_ids valued o.valued) (with_ids started o.started) os (none-right (o.broken ++ places) rest.broken h) has.1 b id)
  where
    first : (b : Bool) → first_places (clashing valued started o) [] o.entries ≡ [] → among (if b then started else valued) id ≡ true → among (ids_by b o) id ≡ true → ⊥
    first b n k m = not-both (among [] id) (none-wanted (clashing valued started o) [] o.entries n id (has.0 b id m) (clashes valued started o b id k m)) refl

    by_part : (b : Bool) → among (if b then started else valued) id ≡ true → among (ids_by b (list_from valued started (o ∷ os))) id ≡ true → first_places (clashing valued started o) [] o.entries ≡ [] →
        (among (if b then with_ids started o.started else with_ids valued o.valued) id ≡ true → among (ids_by b (list_from (with_ids valued o.valued) (with_ids started o.started) os)) id ≡ true → ⊥) → ⊥
    by_part true k m n more = in_either (among-split o.started (list_from (with_ids valued o.valued) (with_ids started o.started) os).started id m)
      where
        in_either : (among o.started id ≡ true) ⊎ (among (list_from (with_ids valued o.valued) (with_ids started o.started) os).started id ≡ true) → ⊥
        in_either (inl e) = first true n k e
        in_either (inr e) = more (kept-with_ids started o.started id k) e
    by_part false k m n more = in_either (among-split o.valued (list_from (with_ids valued o.valued) (with_ids started o.started) os).valued id m)
      where
        in_either : (among o.valued id ≡ true) ⊎ (among (list_from (with_ids valued o.valued) (with_ids started o.started) os).valued id ≡ true) → ⊥
        in_either (inl e) = first false n k e
        in_either (inr e) = more (kept-with_ids valued o.valued id k) e

module _ (K : ℕ → Type 0) (valued started : List ℕ) (o : Outline) (os : List Outline) (h : IsSound K (list_from valued started (o ∷ os))) where
  -- the equations behind this one
  abbrev pub OthersBehind : Outline
  OthersBehind = list_from (with_ids valued o.valued) (with_ids started o.started) os

  -- of a list that is sound the first is, and those behind it are
  pub sound-first : IsSound K o
  sound-first =
      let places = first_places (clashing valued started o) [] o.entries in
      (sound-broken K o places (sound-both K (with_broken o places) OthersBehind h).0).0

  pub sound-others : IsSound K OthersBehind
  sound-others = (sound-both K (with_broken o (first_places (clashing valued started o) [] o.entries)) OthersBehind h).1

  -- an equation, and those behind it in its list, define no name in the same way
  pub names-apart : HasEntries o → AllByRecursion HasEntries os → (b : Bool) (id : ℕ) → HasName o b id → HasName OthersBehind b id → ⊥
  names-apart has all b id (inl j) (inl k) =
      let places = first_places (clashing valued started o) [] o.entries in
      first-or-others b (none-right o.broken places (none-left (o.broken ++ places) OthersBehind.broken h.kept)) (none-right (o.broken ++ places) OthersBehind.broken h.kept) j k
    where
      first-or-others : (b : Bool) → first_places (clashing valued started o) [] o.entries ≡ [] → OthersBehind.broken ≡ [] → among (ids_by b o) id ≡ true → among (ids_by b OthersBehind) id ≡ true → ⊥
      first-or-others true n m j k = list-free (with_ids valued o.valued) (with_ids started o.started) os m all true id (has-with_ids started o.started id j) k
      first-or-others false n m j k = list-free (with_ids valued o.valued) (with_ids started o.started) os m all false id (has-with_ids valued o.valued id j) k
  names-apart has all b id (inl j) (inr k) = not-both false (differ-across true false id o.entries OthersBehind.entries h.differ (has b id j) k).1 refl
  names-apart has all b id (inr j) k =
      let e = entry-of OthersBehind (entries-list (with_ids valued o.valued) (with_ids started o.started) os all) b id k in
      not-both false (differ-across false e.0 id o.entries OthersBehind.entries h.differ j e.1).0 refl
