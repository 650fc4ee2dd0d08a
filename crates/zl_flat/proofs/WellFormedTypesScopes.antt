-- The variables of a copy have the types that an assignment gives to their places in the text.
use Rattle.std.proofs.Common.{◌≡◌, ℕ, Bool, true, false, not, ◌||◌, if◌then◌else◌, nat_eq, List, [], ◌∷◌, ◌++◌, length, Option, Some, None, refl, sym, ap, subst, ◌∙◌, arith}
use Rattle.std.specs.List.{AllByRecursion}
use Rattle.std.proofs.lemmas.Bool.{eqb-true, eq-eqb}
use Rattle.zl_value.specs.declared.position.Pos.{Pos}
use Rattle.zl_value.specs.declared.rule.Rule.TheVariants as rule
use Rattle.zl_value.specs.declared.value.Ty.{Ty}
use Rattle.zl_ast.specs.declared.scope.VarInfo.{VarInfo}
use Rattle.zl_ast.specs.Names.{broken_if, among, with_id}
use Rattle.zl_ast.specs.NamesRules.{is_local, twice, with_visible}
use Rattle.zl_ast.specs.Assignments.{Assignment, Solves, HaveTypes, end, next}
use Rattle.zl_ast.specs.declared.constraint.Equality.{Equality}
use Rattle.zl_ast.specs.TypeEqualities.{Table, with_entry, with_places}
use Rattle.zl_flat.specs.declared.variable.Variable.{Variable}
use Rattle.zl_flat.specs.Variables.{variable_of, variables}
use Rattle.zl_flat.specs.Instances.{Instance}
use Rattle.zl_flat.proofs.RulesKept.{none-left, none-right, kept-if, IsVariable, Covers}
use Rattle.zl_flat.proofs.RulesKept.{covers-one}
use Rattle.zl_flat.proofs.WellFormedEntries.{EntriesKnown}

-- a truth is not both
pub differ : (b : Bool) → b ≡ true → b ≡ false → ⊥
differ b e d = cc

-- ---- no two of one name

-- none of these variables has this name
abbrev pub NotNamed : ℕ → List VarInfo → Type 0
NotNamed id vs = AllByRecursion (λ (v : VarInfo). nat_eq v.name id ≡ false) vs

abbrev pub Apart : List VarInfo → Type 0
Apart [] = Unit {0}
Apart (v ∷ vs) = NotNamed v.name vs × Apart vs

-- what is put behind numbers is among them
last-among : (ids : List ℕ) (id : ℕ) → among (ids ++ id ∷ []) id ≡ true
last-among [] id = ap (λ b. b || false) (eq-eqb id id refl)
last-among (x ∷ ids) id = by_equal (nat_eq id x) (last-among ids id)
  where
    by_equal : (b : Bool) → among (ids ++ id ∷ []) id ≡ true → (b || among (ids ++ id ∷ []) id) ≡ true
    by_equal true e = refl
    by_equal false e = e

-- what is among numbers is among them with one more
still-among : (ids : List ℕ) (id q : ℕ) → among ids q ≡ true → among (ids ++ id ∷ []) q ≡ true
still-among [] id q h = absurd (cc)
still-among (x ∷ ids) id q h = by_equal (nat_eq q x) h (still-among ids id q)
  where
    by_equal : (b : Bool) → (b || among ids q) ≡ true → (among ids q ≡ true → among (ids ++ id ∷ []) q ≡ true) → (b || among (ids ++ id ∷ []) q) ≡ true
    by_equal true e more = refl
    by_equal false e more = more e

-- what isn't among numbers with one more is neither among them nor that one
pub apart-one : (ids : List ℕ) (id q : ℕ) → among (with_id ids id) q ≡ false → (among ids q ≡ false) × (nat_eq q id ≡ false)
apart-one ids id q h = (by_among (among ids q) refl, by_equal (nat_eq q id) refl)
  where
    with-one : (b : Bool) → among ids id ≡ b → among (if b then ids else ids ++ id ∷ []) id ≡ true
    with-one true e = e
    with-one false e = last-among ids id

    with-old : (b : Bool) → among ids q ≡ true → among (if b then ids else ids ++ id ∷ []) q ≡ true
    with-old true e = e
    with-old false e = still-among ids id q e

    by_among : (b : Bool) → among ids q ≡ b → b ≡ false
    by_among true e = absurd (differ (among (with_id ids id) q) (with-old (among ids id) e) h)
    by_among false e = refl

    by_equal : (b : Bool) → nat_eq q id ≡ b → b ≡ false
    by_equal true e = absurd (differ (among (with_id ids id) id) (with-one (among ids id) refl) (subst (λ n. among (with_id ids id) n ≡ false) (eqb-true q id e) h))
    by_equal false e = refl

-- neither of two where one of the two is false
neither : (a b : Bool) → (a || b) ≡ false → a ≡ false
neither true b h = absurd (cc)
neither false b h = refl

-- variables that break no rule have names apart from each other, and from those seen
pub twice-apart : (constants seen : List ℕ) (vs : List VarInfo) → twice constants seen vs ≡ [] → AllByRecursion (λ (v : VarInfo). among seen v.name ≡ false) vs × Apart vs
twice-apart constants seen [] h = (tt, tt)
twice-apart constants seen (v ∷ vs) h =
    let own = broken_if (among seen v.name || among constants v.name) rule.NameTwice v.at in
    let rest = twice constants (with_id seen v.name) vs in
    let a = twice-apart constants (with_id seen v.name) vs (none-right own rest h) in
    let b = split vs a.0 in
    ((neither (among seen v.name) (among constants v.name) (kept-if (among seen v.name || among constants v.name) rule.NameTwice v.at (none-left own rest h)), b.0), (b.1, a.1))
  where
    split : (ws : List VarInfo) → AllByRecursion (λ (w : VarInfo). among (with_id seen v.name) w.name ≡ false) ws → AllByRecursion (λ (w : VarInfo). among seen w.name ≡ false) ws × NotNamed v.name ws
    split [] h = (tt, tt)
    split (w ∷ ws) h = let a = apart-one seen v.name w.name h.0 in let b = split ws h.1 in ((a.0, b.0), (a.1, b.1))

-- ---- types

-- the places of these variables have these types
abbrev pub TypesOf : Assignment → List VarInfo → List Ty → Type 0
TypesOf a [] [] = Unit {0}
TypesOf a (v ∷ vs) (t ∷ ts) = (a v.at ≡ t) × TypesOf a vs ts
TypesOf a _ _ = ⊥

-- an assignment that meets the equalities gives the types of the typing
pub have-types : (es : List Equality) (a : Assignment) (vs : List VarInfo) (ts : List Ty) → Solves es a → HaveTypes es vs ts → TypesOf a vs ts
have-types es a [] [] m end = tt
have-types es a [] (t ∷ ts) m x = elim x [ ]
have-types es a (v ∷ vs) [] m x = elim x [ ]
have-types es a (v ∷ vs) (t ∷ ts) m (next h hs) = (h a m, have-types es a vs ts m hs)

-- ---- variables by their names

-- variables of other names change nothing for a name
absent : (t : Table Pos) (vs : List VarInfo) (id : ℕ) → NotNamed id vs → with_places t vs id ≡ t id
absent t [] id h = refl
absent t (v ∷ vs) id h = absent (with_entry t v.name v.at) vs id h.1 ∙ ap (λ b. if b then Some v.at else t id) h.0

-- each variable is found by its name
pub placed : (t : Table Pos) (vs : List VarInfo) → Apart vs → AllByRecursion (λ (v : VarInfo). with_places t vs v.name ≡ Some v.at) vs
placed t [] h = tt
placed t (v ∷ vs) h = (absent (with_entry t v.name v.at) vs v.name h.0 ∙ ap (λ b. if b then Some v.at else t v.name) (eq-eqb v.name v.name refl), placed (with_entry t v.name v.at) vs h.1)

pub record PlacedAs (a : Assignment) (o : Option Pos) (ty : Ty) : Type 0 where
  pub at : Pos
  pub is : o ≡ Some at
  pub typed : a at ≡ ty

-- the variable that a name finds has the type of the place that the name finds
pub variable-placed : (a : Assignment) (t : Table Pos) (vs : List VarInfo) (ts : List Ty) (own : List ℕ) (id : ℕ) (v : Variable) → Apart vs → TypesOf a vs ts → variable_of (variables vs ts own) id ≡ Some v → PlacedAs a (with_places t vs id) v.ty
variable-placed a t [] ts own id v h ty is = absurd (cc)
variable-placed a t (x ∷ vs) [] own id v h ty is = absurd (cc)
variable-placed a t (x ∷ vs) (y ∷ ts) [] id v h ty is = absurd (cc)
variable-placed a t (x ∷ vs) (y ∷ ts) (n ∷ own) id v h ty is = by_equal (nat_eq x.name id) refl is (variable-placed a (with_entry t x.name x.at) vs ts own id v h.1 ty.1)
  where
    same : Some (record { name = x.name; ty = y; place = n }) ≡ Some v → y ≡ v.ty
    same e = cc

    found : nat_eq x.name id ≡ true → with_places (with_entry t x.name x.at) vs id ≡ Some x.at
    found e = absent (with_entry t x.name x.at) vs id (subst (λ q. NotNamed q vs) (eqb-true x.name id e) h.0) ∙ ap (λ b. if b then Some x.at else t id) e

    by_equal : (b : Bool) → nat_eq x.name id ≡ b → (if b then Some (record { name = x.name; ty = y; place = n }) else variable_of (variables vs ts own) id) ≡ Some v →
        (variable_of (variables vs ts own) id ≡ Some v → PlacedAs a (with_places (with_entry t x.name x.at) vs id) v.ty) → PlacedAs a (with_places (with_entry t x.name x.at) vs id) v.ty
    by_equal true e is more = record { at = x.at; is = found e; typed = ty.0 ∙ same is }
    by_equal false e is more = more is

-- a name that finds no variable finds no place
pub none-placed : (a : Assignment) (t : Table Pos) (vs : List VarInfo) (ts : List Ty) (own : List ℕ) (id : ℕ) → length own ≡ length vs → TypesOf a vs ts → variable_of (variables vs ts own) id ≡ None → with_places t vs id ≡ t id
none-placed a t [] ts own id l ty is = refl
none-placed a t (x ∷ vs) [] own id l ty is = absurd ty
none-placed a t (x ∷ vs) (y ∷ ts) [] id l ty is = absurd (omega (arith, l))
none-placed a t (x ∷ vs) (y ∷ ts) (n ∷ own) id l ty is = by_equal (nat_eq x.name id) refl is (none-placed a (with_entry t x.name x.at) vs ts own id (omega (arith, l)) ty.1)
  where
    none : (v : Variable) → Some v ≡ None → ⊥
    none v e = cc

    by_equal : (b : Bool) → nat_eq x.name id ≡ b → (if b then Some (record { name = x.name; ty = y; place = n }) else variable_of (variables vs ts own) id) ≡ None →
        (variable_of (variables vs ts own) id ≡ None → with_places (with_entry t x.name x.at) vs id ≡ with_entry t x.name x.at id) → with_places (with_entry t x.name x.at) vs id ≡ t id
    by_equal true e is more = absurd (none (record { name = x.name; ty = y; place = n }) is)
    by_equal false e is more = more is ∙ ap (λ b. if b then Some x.at else t id) e

-- ---- the variables of a copy

-- the names that are visible in the whole declaration are of variables
covers-visible : (i : Instance) (ids : List ℕ) (vs : List VarInfo) → Covers i ids → EntriesKnown i vs → Covers i (with_visible ids vs)
covers-visible i ids [] c h = c
covers-visible i ids (v ∷ vs) c h = covers-visible i (if not (is_local v.class) then with_id ids v.name else ids) vs (one (not (is_local v.class))) h.1
  where
    one : (b : Bool) → Covers i (if b then with_id ids v.name else ids)
    one true = covers-one (IsVariable i) ids v.name (among ids v.name) c h.0
    one false = c

-- so are those of a declaration whose variables are known
pub covers-all : (i : Instance) (vs : List VarInfo) → EntriesKnown i vs → Covers i (with_visible [] vs)
covers-all i vs h = covers-visible i [] vs (λ id e. absurd (cc)) h

-- the variables of a list with their types and places are those of the copy
pub variables-known : (i : Instance) (a : Assignment) (t : Table Pos) (vs : List VarInfo) (ts : List Ty) (own : List ℕ) → ((id : ℕ) → t id ≡ None) → i.variables ≡ variables vs ts own → Apart vs → length own ≡ length vs → TypesOf a vs ts → EntriesKnown i vs
variables-known i a t vs ts own empty e h l ty = all vs (placed t vs h)
  where
    none : (p : Pos) (o : Option Pos) → o ≡ Some p → o ≡ None → ⊥
    none p o e d = cc

    one : (x : VarInfo) → with_places t vs x.name ≡ Some x.at → (o : Option Variable) → variable_of i.variables x.name ≡ o → IsVariable i x.name
    one x p None is = absurd (none x.at (with_places t vs x.name) p (none-placed a t vs ts own x.name l ty (ap (λ ws. variable_of ws x.name) (sym e) ∙ is) ∙ empty x.name))
    one x p (Some v) is = record { variable = v; is = is }

    all : (xs : List VarInfo) → AllByRecursion (λ (x : VarInfo). with_places t vs x.name ≡ Some x.at) xs → EntriesKnown i xs
    all [] h = tt
    all (x ∷ xs) h = (one x h.0 (variable_of i.variables x.name) refl, all xs h.1)
