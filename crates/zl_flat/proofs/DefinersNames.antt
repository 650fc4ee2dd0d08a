-- What equations that break no rule of names define: no name twice in one way, and no local's name beside it.
use Rattle.std.proofs.Common.{◌≡◌, ◌⊎◌, inl, inr, ℕ, Bool, true, false, not, ◌&&◌, ◌||◌, if◌then◌else◌, nat_eq, List, [], ◌∷◌, ◌++◌, map, refl, sym, ap, subst, ◌∙◌}
use Rattle.std.specs.List.{AllByRecursion}
use Rattle.std.proofs.lemmas.Bool.{eqb-true, eq-eqb}
use Rattle.std.proofs.lemmas.List.Folds.{list_any-append}
use Rattle.zl_ast.specs.declared.name.Name.{Name}
use Rattle.zl_ast.specs.declared.scope.VarInfo.{VarInfo}
use Rattle.zl_ast.specs.declared.scope.VarClass.TheVariants as class
use Rattle.zl_ast.specs.Names.{among, with_id, with_ids, ids_of}
use Rattle.zl_ast.specs.NamesDefined.{entry, is_defined, free_entries, free_ids}
use Rattle.zl_flat.proofs.WellFormedParts.{all-left, all-right}

-- ---- truth values

-- of two truth values of which one holds, that one
pub either : (a b : Bool) → (a || b) ≡ true → (a ≡ true) ⊎ (b ≡ true)
either true b h = inl refl
either false b h = inr h

-- one that holds is enough
pub or-left : (a b : Bool) → a ≡ true → (a || b) ≡ true
or-left a b h = ap (λ c. c || b) h

pub or-right : (a b : Bool) → b ≡ true → (a || b) ≡ true
or-right true b h = refl
or-right false b h = h

-- nothing is both true and false
pub not-both : (b : Bool) → b ≡ true → b ≡ false → ⊥
not-both true h k = cc
not-both false h k = cc

-- ---- numbers in lists

-- a number of two lists is one of the one or of the other
pub among-split : (xs ys : List ℕ) (id : ℕ) → among (xs ++ ys) id ≡ true → (among xs id ≡ true) ⊎ (among ys id ≡ true)
among-split xs ys id h = either (among xs id) (among ys id) (sym (list_any-append (nat_eq id) xs ys) ∙ h)

pub among-left : (xs ys : List ℕ) (id : ℕ) → among xs id ≡ true → among (xs ++ ys) id ≡ true
among-left xs ys id h = list_any-append (nat_eq id) xs ys ∙ or-left (among xs id) (among ys id) h

pub among-right : (xs ys : List ℕ) (id : ℕ) → among ys id ≡ true → among (xs ++ ys) id ≡ true
among-right xs ys id h = list_any-append (nat_eq id) xs ys ∙ or-right (among xs id) (among ys id) h

-- the one number of a list
pub among-one : (id q : ℕ) → among (id ∷ []) q ≡ true → q ≡ id
among-one id q h = by_first (either (nat_eq q id) false h)
  where
    by_first : (nat_eq q id ≡ true) ⊎ (false ≡ true) → q ≡ id
    by_first (inl e) = eqb-true q id e
    by_first (inr e) = absurd (cc)

-- a number is in the list of it alone
pub one-among : (id : ℕ) → among (id ∷ []) id ≡ true
one-among id = or-left (nat_eq id id) false (eq-eqb id id refl)

-- a list with one more number has the numbers that it had
pub kept-with_id : (ids : List ℕ) (id q : ℕ) → among ids q ≡ true → among (with_id ids id) q ≡ true
kept-with_id ids id q h = by_case (among ids id)
  where
    by_case : (b : Bool) → among (if b then ids else ids ++ id ∷ []) q ≡ true
    by_case true = h
    by_case false = among-left ids (id ∷ []) q h

-- and that number
pub has-with_id : (ids : List ℕ) (id : ℕ) → among (with_id ids id) id ≡ true
has-with_id ids id = by_case (among ids id) refl
  where
    by_case : (b : Bool) → among ids id ≡ b → among (if b then ids else ids ++ id ∷ []) id ≡ true
    by_case true e = e
    by_case false e = among-right ids (id ∷ []) id (one-among id)

-- what holds of the numbers of a list and of one more holds of those of the list with that one
pub in-with_id : (P : ℕ → Type 0) (ids : List ℕ) (id : ℕ) → ((q : ℕ) → among ids q ≡ true → P q) → P id → (q : ℕ) → among (with_id ids id) q ≡ true → P q
in-with_id P ids id before last q h = by_case (among ids id) h
  where
    by_part : (among ids q ≡ true) ⊎ (among (id ∷ []) q ≡ true) → P q
    by_part (inl e) = before q e
    by_part (inr e) = subst P (sym (among-one id q e)) last

    by_case : (b : Bool) → among (if b then ids else ids ++ id ∷ []) q ≡ true → P q
    by_case true e = before q e
    by_case false e = by_part (among-split ids (id ∷ []) q e)

-- a list with more numbers has the numbers that it had
pub kept-with_ids : (ids more : List ℕ) (q : ℕ) → among ids q ≡ true → among (with_ids ids more) q ≡ true
kept-with_ids ids [] q h = h
kept-with_ids ids (id ∷ more) q h = kept-with_ids (with_id ids id) more q (kept-with_id ids id q h)

-- and those numbers
pub has-with_ids : (ids more : List ℕ) (q : ℕ) → among more q ≡ true → among (with_ids ids more) q ≡ true
has-with_ids ids [] q h = absurd (cc)
has-with_ids ids (id ∷ more) q h = by_first (either (nat_eq q id) (among more q) h) (has-with_ids (with_id ids id) more q)
  where
    by_first : (nat_eq q id ≡ true) ⊎ (among more q ≡ true) → (among more q ≡ true → among (with_ids (with_id ids id) more) q ≡ true) → among (with_ids (with_id ids id) more) q ≡ true
    by_first (inl e) rest = kept-with_ids (with_id ids id) more q (subst (λ n. among (with_id ids id) n ≡ true) (sym (eqb-true q id e)) (has-with_id ids id))
    by_first (inr e) rest = rest e

-- what holds of the numbers of two lists holds of those of the list with both
pub in-with_ids : (P : ℕ → Type 0) (ids more : List ℕ) → ((q : ℕ) → among ids q ≡ true → P q) → AllByRecursion P more → (q : ℕ) → among (with_ids ids more) q ≡ true → P q
in-with_ids P ids [] before more q h = before q h
in-with_ids P ids (id ∷ ids2) before more q h = in-with_ids P (with_id ids id) ids2 (in-with_id P ids id before more.0) more.1 q h

-- ---- entries

-- one of the entries has this name, and is a name that is defined, or a local
abbrev pub Entry : Bool → ℕ → List VarInfo → Type 0
Entry defined id [] = ⊥
Entry defined id (v ∷ vs) = ((is_defined v ≡ defined) × (v.name ≡ id)) ⊎ Entry defined id vs

-- an entry of one of two lists is one of both
pub entry-left : (d : Bool) (id : ℕ) (xs ys : List VarInfo) → Entry d id xs → Entry d id (xs ++ ys)
entry-left d id [] ys h = absurd h
entry-left d id (x ∷ xs) ys (inl h) = inl h
entry-left d id (x ∷ xs) ys (inr h) = inr (entry-left d id xs ys h)

pub entry-right : (d : Bool) (id : ℕ) (xs ys : List VarInfo) → Entry d id ys → Entry d id (xs ++ ys)
entry-right d id [] ys h = h
entry-right d id (x ∷ xs) ys h = inr (entry-right d id xs ys h)

-- two entries of one name are names that are defined
abbrev pub MayShare : VarInfo → VarInfo → Type 0
MayShare v w = v.name ≡ w.name → (is_defined v ≡ true) × (is_defined w ≡ true)

-- no local has the name of another entry
abbrev pub LocalsDiffer : List VarInfo → Type 0
LocalsDiffer [] = Unit {0}
LocalsDiffer (v ∷ vs) = AllByRecursion (MayShare v) vs × LocalsDiffer vs

-- locals that differ from the entries of two lists differ from those of each
pub differ-left : (xs ys : List VarInfo) → LocalsDiffer (xs ++ ys) → LocalsDiffer xs
differ-left [] ys h = tt
differ-left (x ∷ xs) ys h = (all-left (MayShare x) xs ys h.0, differ-left xs ys h.1)

pub differ-right : (xs ys : List VarInfo) → LocalsDiffer (xs ++ ys) → LocalsDiffer ys
differ-right [] ys h = h
differ-right (x ∷ xs) ys h = differ-right xs ys h.1

-- an entry of the name of this one: both are names that are defined
shared : (v : VarInfo) (d e : Bool) (id : ℕ) (ys : List VarInfo) → is_defined v ≡ d → v.name ≡ id → AllByRecursion (MayShare v) ys → Entry e id ys → (d ≡ true) × (e ≡ true)
shared v d e id [] f n h k = absurd k
shared v d e id (y ∷ ys) f n h (inl k) = let both = h.0 (n ∙ sym k.1) in (sym f ∙ both.0, sym k.0 ∙ both.1)
shared v d e id (y ∷ ys) f n h (inr k) = shared v d e id ys f n h.1 k

-- entries of one name, one in each of two lists, are names that are defined
pub differ-across : (d e : Bool) (id : ℕ) (xs ys : List VarInfo) → LocalsDiffer (xs ++ ys) → Entry d id xs → Entry e id ys → (d ≡ true) × (e ≡ true)
differ-across d e id [] ys h j k = absurd j
differ-across d e id (x ∷ xs) ys h (inl j) k = shared x d e id ys j.0 j.1 (all-right (MayShare x) xs ys h.0) k
differ-across d e id (x ∷ xs) ys h (inr j) k = differ-across d e id xs ys h.1 j k

-- ---- under locals

-- an entry whose name the locals do not hold, if it is a defined name, is free
pub entry-free : (d : Bool) (id : ℕ) (held : List ℕ) (vs : List VarInfo) → (d ≡ true → among held id ≡ false) → Entry d id vs → Entry d id (free_entries held vs)
entry-free d id held [] free h = absurd h
entry-free d id held (v ∷ vs) free h = by_case (is_defined v) (among held v.name) refl refl h (entry-free d id held vs free)
  where
    clash : (m : Bool) → is_defined v ≡ true → among held v.name ≡ m → m ≡ true → (is_defined v ≡ d) × (v.name ≡ id) → ⊥
    clash m e g t k = not-both m t (sym g ∙ ap (among held) k.1 ∙ free (sym k.0 ∙ e))

    by_case : (b m : Bool) → is_defined v ≡ b → among held v.name ≡ m → ((is_defined v ≡ d) × (v.name ≡ id)) ⊎ Entry d id vs → (Entry d id vs → Entry d id (free_entries held vs)) →
        Entry d id (if not (b && m) then v ∷ free_entries held vs else free_entries held vs)
    by_case true true e g (inl k) more = absurd (clash true e g refl k)
    by_case true true e g (inr k) more = more k
    by_case true false e g (inl k) more = inl k
    by_case true false e g (inr k) more = inr (more k)
    by_case false m e g (inl k) more = inl k
    by_case false m e g (inr k) more = inr (more k)

-- what holds of the free entries, and of the defined names that the locals hold, holds of all
pub all-free : (P : VarInfo → Type 0) (held : List ℕ) (vs : List VarInfo) → ((w : VarInfo) → is_defined w ≡ true → among held w.name ≡ true → P w) → AllByRecursion P (free_entries held vs) → AllByRecursion P vs
all-free P held [] inside h = tt
all-free P held (v ∷ vs) inside h = by_case (is_defined v) (among held v.name) refl refl h (all-free P held vs inside)
  where
    by_case : (b m : Bool) → is_defined v ≡ b → among held v.name ≡ m → AllByRecursion P (if not (b && m) then v ∷ free_entries held vs else free_entries held vs) →
        (AllByRecursion P (free_entries held vs) → AllByRecursion P vs) → P v × AllByRecursion P vs
    by_case true true e g h more = (inside v e g, more h)
    by_case true false e g h more = (h.0, more h.1)
    by_case false m e g h more = (h.0, more h.1)

-- an entry may stand before others of which none has its name
pub absent-share : (v : VarInfo) (xs : List VarInfo) → ((d : Bool) → Entry d v.name xs → ⊥) → AllByRecursion (MayShare v) xs
absent-share v [] h = tt
absent-share v (x ∷ xs) h = (λ e. absurd (h (is_defined x) (inl (refl, sym e))), absent-share v xs (λ d k. h d (inr k)))

-- locals that differ from the free entries differ from all, if no free entry has a name that is held
pub free-differ : (held : List ℕ) (vs : List VarInfo) → ((id : ℕ) (d : Bool) → among held id ≡ true → Entry d id (free_entries held vs) → ⊥) → LocalsDiffer (free_entries held vs) → LocalsDiffer vs
free-differ held [] absent h = tt
free-differ held (v ∷ vs) absent h = by_case (is_defined v) (among held v.name) refl refl absent h (free-differ held vs)
  where
    kept : ((id : ℕ) (d : Bool) → among held id ≡ true → Entry d id (v ∷ free_entries held vs) → ⊥) → LocalsDiffer (v ∷ free_entries held vs) →
        (((id : ℕ) (d : Bool) → among held id ≡ true → Entry d id (free_entries held vs) → ⊥) → LocalsDiffer (free_entries held vs) → LocalsDiffer vs) →
        AllByRecursion (MayShare v) vs × LocalsDiffer vs
    kept absent h more =
        (all-free (MayShare v) held vs (λ w e g n. absurd (absent w.name (is_defined v) g (inl (refl, n)))) h.0, more (λ id d g k. absent id d g (inr k)) h.1)

    by_case : (b m : Bool) → is_defined v ≡ b → among held v.name ≡ m →
        ((id : ℕ) (d : Bool) → among held id ≡ true → Entry d id (if not (b && m) then v ∷ free_entries held vs else free_entries held vs) → ⊥) →
        LocalsDiffer (if not (b && m) then v ∷ free_entries held vs else free_entries held vs) →
        (((id : ℕ) (d : Bool) → among held id ≡ true → Entry d id (free_entries held vs) → ⊥) → LocalsDiffer (free_entries held vs) → LocalsDiffer vs) →
        AllByRecursion (MayShare v) vs × LocalsDiffer vs
    by_case true true e g absent h more =
        (all-free (MayShare v) held vs (λ w f k n. (e, f)) (absent-share v (free_entries held vs) (λ d k. absent v.name d g k)), more absent h)
    by_case true false e g absent h more = kept absent h more
    by_case false m e g absent h more = kept absent h more

-- each local has an entry
local-entry : (locals : List Name) → AllByRecursion (λ id. Entry false id (map (entry class.Local) locals)) (ids_of locals)
local-entry [] = tt
local-entry (x ∷ locals) = (inl (refl, refl), later (ids_of locals) (local-entry locals))
  where
    later : (ids : List ℕ) → AllByRecursion (λ id. Entry false id (map (entry class.Local) locals)) ids → AllByRecursion (λ id. Entry false id (map (entry class.Local) (x ∷ locals))) ids
    later [] h = tt
    later (id ∷ ids) h = (inr h.0, later ids h.1)

-- a number that locals hold is that of a local
pub held-entry : (locals : List Name) (id : ℕ) → among (with_ids [] (ids_of locals)) id ≡ true → Entry false id (map (entry class.Local) locals)
held-entry locals id h = in-with_ids (λ q. Entry false q (map (entry class.Local) locals)) [] (ids_of locals) (λ q e. absurd (cc)) (local-entry locals) id h

-- what holds of the names of all entries holds of the name of one
pub entry-known : (K : ℕ → Type 0) (d : Bool) (id : ℕ) (vs : List VarInfo) → AllByRecursion (λ (v : VarInfo). K v.name) vs → Entry d id vs → K id
entry-known K d id [] h k = absurd k
entry-known K d id (v ∷ vs) h (inl k) = subst K k.1 h.0
entry-known K d id (v ∷ vs) h (inr k) = entry-known K d id vs h.1 k

-- a free number is one of the numbers, and is not held
pub free-ids : (held ids : List ℕ) (id : ℕ) → among (free_ids held ids) id ≡ true → (among ids id ≡ true) × (among held id ≡ false)
free-ids held [] id h = absurd (cc)
free-ids held (x ∷ ids) id h = by_case (among held x) refl h (free-ids held ids id)
  where
    first : among held x ≡ false → (nat_eq id x ≡ true) ⊎ (among (free_ids held ids) id ≡ true) → (among (free_ids held ids) id ≡ true → (among ids id ≡ true) × (among held id ≡ false)) → (among (x ∷ ids) id ≡ true) × (among held id ≡ false)
    first g (inl e) more = (or-left (nat_eq id x) (among ids id) e, ap (among held) (eqb-true id x e) ∙ g)
    first g (inr e) more = let rest = more e in (or-right (nat_eq id x) (among ids id) rest.0, rest.1)

    by_case : (m : Bool) → among held x ≡ m → among (if not m then x ∷ free_ids held ids else free_ids held ids) id ≡ true →
        (among (free_ids held ids) id ≡ true → (among ids id ≡ true) × (among held id ≡ false)) → (among (x ∷ ids) id ≡ true) × (among held id ≡ false)
    by_case true g h more = let rest = more h in (or-right (nat_eq id x) (among ids id) rest.0, rest.1)
    by_case false g h more = first g (either (nat_eq id x) (among (free_ids held ids) id) h) more

-- a number that is not held is free
pub ids-free : (held ids : List ℕ) (id : ℕ) → among ids id ≡ true → among held id ≡ false → among (free_ids held ids) id ≡ true
ids-free held [] id h g = absurd (cc)
ids-free held (x ∷ ids) id h g = by_case (among held x) refl (either (nat_eq id x) (among ids id) h) (λ e. ids-free held ids id e g)
  where
    by_case : (m : Bool) → among held x ≡ m → (nat_eq id x ≡ true) ⊎ (among ids id ≡ true) → (among ids id ≡ true → among (free_ids held ids) id ≡ true) → among (if not m then x ∷ free_ids held ids else free_ids held ids) id ≡ true
    by_case true e (inl k) more = absurd (not-both (among held x) e (ap (among held) (sym (eqb-true id x k)) ∙ g))
    by_case true e (inr k) more = more k
    by_case false e (inl k) more = or-left (nat_eq id x) (among (free_ids held ids) id) k
    by_case false e (inr k) more = or-right (nat_eq id x) (among (free_ids held ids) id) (more k)
