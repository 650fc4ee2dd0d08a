-- Where names stand at different places in the text, the first mentions are those of the variables, in their order.
use Rattle.std.proofs.Common.{◌≡◌, inl, inr, ℕ, Bool, true, false, ◌&&◌, ◌||◌, if◌then◌else◌, nat_eq, List, [], ◌∷◌, ◌++◌, length, Some, refl, sym, ap, subst, ◌∙◌, arith}
use Rattle.std.specs.List.{AllByRecursion}
use Rattle.std.proofs.lemmas.Bool.{eq-eqb, ne_eqb}
use Rattle.std.proofs.lemmas.List.Folds.{list_any-append}
use Rattle.zl_value.specs.declared.position.Pos.{Pos}
use Rattle.zl_value.specs.declared.rule.Rule.TheVariants as rule
use Rattle.zl_value.specs.declared.value.Ty.{Ty}
use Rattle.zl_ast.specs.declared.scope.VarInfo.{VarInfo}
use Rattle.zl_ast.specs.Names.{among, with_id, broken_if}
use Rattle.zl_ast.specs.NamesRules.{twice}
use Rattle.zl_ast.specs.Spots.{Sublist, end, keep, drop}
use Rattle.zl_ast.specs.Parsed.{Before, Grow}
use Rattle.zl_flat.specs.declared.variable.Variable.{Variable}
use Rattle.zl_flat.specs.Variables.{variables, variable_of, place_in_text, same_pos, is_there, is_first}
use Rattle.zl_flat.proofs.WellFormedParts.{all-append}
use Rattle.zl_flat.proofs.RulesKept.{none-left, none-right, kept-if}
use Rattle.zl_flat.proofs.WellFormedMentions.{Mention, firsts, numbers, as_entry, as_entries, places_in_text}

-- ---- names that differ

-- none of these has the number
abbrev pub NoneNamed : ℕ → List VarInfo → Type 0
NoneNamed id vs = AllByRecursion (λ (v : VarInfo). nat_eq v.name id ≡ false) vs

-- no two have the same name
abbrev pub Distinct : List VarInfo → Type 0
Distinct [] = Unit {0}
Distinct (v ∷ vs) = AllByRecursion (λ (w : VarInfo). nat_eq v.name w.name ≡ false) vs × Distinct vs

or-false : (a b : Bool) → (a || b) ≡ false → (a ≡ false) × (b ≡ false)
or-false true b e = absurd (cc)
or-false false b e = (refl, e)

among-more : (ids : List ℕ) (id q : ℕ) → among (with_id ids id) q ≡ false → (nat_eq q id ≡ false) × (among ids q ≡ false)
among-more ids id q h = by_known (among ids id) refl h
  where
    differs : among ids id ≡ true → among ids q ≡ false → nat_eq q id ≡ false
    differs known none = ne_eqb q id (λ e. both_ways (among ids id) known (ap (among ids) (sym e) ∙ none))
      where
        both_ways : (b : Bool) → b ≡ true → b ≡ false → ⊥
        both_ways true e g = cc
        both_ways false e g = cc

    by_known : (b : Bool) → among ids id ≡ b → among (if b then ids else ids ++ id ∷ []) q ≡ false → (nat_eq q id ≡ false) × (among ids q ≡ false)
    by_known true e g = (differs e g, g)
    by_known false e g =
        let split = or-false (among ids q) (nat_eq q id || false) (sym (list_any-append (nat_eq q) ids (id ∷ [])) ∙ g) in
        ((or-false (nat_eq q id) false split.1).0, split.0)

not-seen : (constants seen : List ℕ) (vs : List VarInfo) → twice constants seen vs ≡ [] → (id : ℕ) → ((q : ℕ) → among seen q ≡ false → nat_eq q id ≡ false) → AllByRecursion (λ (w : VarInfo). nat_eq w.name id ≡ false) vs
not-seen constants seen [] h id differs = tt
not-seen constants seen (v ∷ vs) h id differs =
    let one = broken_if (among seen v.name || among constants v.name) rule.NameTwice v.at in
    let rest = twice constants (with_id seen v.name) vs in
    let kept = kept-if (among seen v.name || among constants v.name) rule.NameTwice v.at (none-left one rest h) in (
      differs v.name (or-false (among seen v.name) (among constants v.name) kept).0,
      not-seen constants (with_id seen v.name) vs (none-right one rest h) id (λ q e. differs q (among-more seen v.name q e).1),
    )

eq-other-way : (a b : ℕ) → nat_eq a b ≡ false → nat_eq b a ≡ false
eq-other-way a b h = ne_eqb b a (λ e. not_both (eq-eqb a b (sym e)) h)
  where
    not_both : {c : Bool} → c ≡ true → c ≡ false → ⊥
    not_both e g = cc

all-other-way : (id : ℕ) (vs : List VarInfo) → NoneNamed id vs → AllByRecursion (λ (w : VarInfo). nat_eq id w.name ≡ false) vs
all-other-way id [] h = tt
all-other-way id (v ∷ vs) h = (eq-other-way v.name id h.0, all-other-way id vs h.1)

-- where no name is declared twice, the names differ
pub twice-distinct : (constants seen : List ℕ) (vs : List VarInfo) → twice constants seen vs ≡ [] → Distinct vs
twice-distinct constants seen [] h = tt
twice-distinct constants seen (v ∷ vs) h =
    let one = broken_if (among seen v.name || among constants v.name) rule.NameTwice v.at in
    let rest = twice constants (with_id seen v.name) vs in
    let behind = none-right one rest h in
    (all-other-way v.name vs (not-seen constants (with_id seen v.name) vs behind v.name (λ q e. (among-more seen v.name q e).0)), twice-distinct constants (with_id seen v.name) vs behind)

-- those before an entry have other names
pub before-none : (xs : List VarInfo) (v : VarInfo) (ys : List VarInfo) → Distinct (xs ++ v ∷ ys) → NoneNamed v.name xs
before-none [] v ys h = tt
before-none (x ∷ xs) v ys h = (one_of xs h.0, before-none xs v ys h.1)
  where
    one_of : (zs : List VarInfo) → AllByRecursion (λ (w : VarInfo). nat_eq x.name w.name ≡ false) (zs ++ v ∷ ys) → nat_eq x.name v.name ≡ false
    one_of [] k = k.0
    one_of (z ∷ zs) k = one_of zs k.1

-- ---- places that differ

-- no two stand at the same place
abbrev pub Apart : List VarInfo → List Mention → Type 0
Apart vs ms = AllByRecursion (λ (v : VarInfo). AllByRecursion (λ (m : Mention). same_pos v.at m.name.at ≡ false) ms) vs

-- a place before another is not the same
pub before-differs : (p q : Pos) → Before p q → same_pos p q ≡ false
before-differs p q (inl lt) = ap (λ b. b && nat_eq p.column q.column) (ne_eqb p.line q.line (λ e. omega (arith, lt, e)))
before-differs p q (inr h) = let lt = h.1 in ap (λ b. nat_eq p.line q.line && b) (ne_eqb p.column q.column (λ e. omega (arith, lt, e))) ∙ and_false (nat_eq p.line q.line)
  where
    and_false : (b : Bool) → (b && false) ≡ false
    and_false true = refl
    and_false false = refl

after-differs : (p q : Pos) → Before p q → same_pos q p ≡ false
after-differs p q (inl lt) = ap (λ b. b && nat_eq q.column p.column) (ne_eqb q.line p.line (λ e. omega (arith, lt, e)))
after-differs p q (inr h) = let lt = h.1 in ap (λ b. nat_eq q.line p.line && b) (ne_eqb q.column p.column (λ e. omega (arith, lt, e))) ∙ and_false (nat_eq q.line p.line)
  where
    and_false : (b : Bool) → (b && false) ≡ false
    and_false true = refl
    and_false false = refl

-- what holds of each entry of a list holds of each that is left of it
pub sub-all : {A : Type 0} (P : A → Type 0) {xs ys : List A} → Sublist xs ys → AllByRecursion P ys → AllByRecursion P xs
sub-all P end h = tt
sub-all P (keep s) h = (h.0, sub-all P s h.1)
sub-all P (drop s) h = sub-all P s h.1

-- places that are left of places in the order of the text are in that order
pub sub-grows : {ps qs : List Pos} → Sublist ps qs → Grow qs → Grow ps
sub-grows end h = tt
sub-grows (keep {x = p} s) h = (sub-all (Before p) s h.0, sub-grows s h.1)
sub-grows (drop s) h = sub-grows s h.1

-- mentions behind a place stand elsewhere
pub later-differ : (p : Pos) (ms : List Mention) → AllByRecursion (Before p) (places_in_text ms) → AllByRecursion (λ (m : Mention). same_pos p m.name.at ≡ false) ms
later-differ p [] h = tt
later-differ p (m ∷ ms) h = (before-differs p m.name.at h.0, later-differ p ms h.1)

entries-differ : (p : Pos) (ms : List Mention) → AllByRecursion (Before p) (places_in_text ms) → AllByRecursion (λ (v : VarInfo). same_pos v.at p ≡ false) (as_entries ms)
entries-differ p [] h = tt
entries-differ p (m ∷ ms) h = (after-differs p m.name.at h.0, entries-differ p ms h.1)

-- ---- the first of a name

not-there : (vs : List VarInfo) (id : ℕ) (at : Pos) → AllByRecursion (λ (v : VarInfo). same_pos v.at at ≡ false) vs → is_there (place_in_text vs id) at ≡ false
not-there [] id at h = refl
not-there (v ∷ vs) id at h = by_equal (nat_eq v.name id) (not-there vs id at h.1)
  where
    by_equal : (b : Bool) → is_there (place_in_text vs id) at ≡ false → is_there (if b then Some v.at else place_in_text vs id) at ≡ false
    by_equal true e = h.0
    by_equal false e = e

same-place : (at : Pos) → same_pos at at ≡ true
same-place at = ap (λ b. b && nat_eq at.column at.column) (eq-eqb at.line at.line refl) ∙ eq-eqb at.column at.column refl

-- an entry stands where the first of its name does, as the names differ
pub there : (xs : List VarInfo) (v : VarInfo) (ys : List VarInfo) → NoneNamed v.name xs → is_there (place_in_text (xs ++ v ∷ ys) v.name) v.at ≡ true
there [] v ys h = ap (λ b. is_there (if b then Some v.at else place_in_text ys v.name) v.at) (eq-eqb v.name v.name refl) ∙ same-place v.at
there (x ∷ xs) v ys h = ap (λ b. is_there (if b then Some x.at else place_in_text (xs ++ v ∷ ys) v.name) v.at) h.0 ∙ there xs v ys h.1

first-tail : (v : VarInfo) (m : Mention) (vs : List VarInfo) (ms : List Mention) → Apart vs (m ∷ ms) → Apart vs ms
first-tail v m [] ms h = tt
first-tail v m (w ∷ vs) ms h = (h.0.1, first-tail v m vs ms h.1)

first-head : (m : Mention) (vs : List VarInfo) (ms : List Mention) → Apart vs (m ∷ ms) → AllByRecursion (λ (v : VarInfo). same_pos v.at m.name.at ≡ false) vs
first-head m [] ms h = tt
first-head m (w ∷ vs) ms h = (h.0.0, first-head m vs ms h.1)

-- an entry behind some is the last of those with it
pub step : (xs : List VarInfo) (v : VarInfo) (ys : List VarInfo) → xs ++ v ∷ ys ≡ (xs ++ v ∷ []) ++ ys
step [] v ys = refl
step (x ∷ xs) v ys = ap (λ zs. x ∷ zs) (step xs v ys)

-- Of mentions in the order of the text the first of their variables are the variables among them, where those before them
-- stand elsewhere.
pub firsts-are : (vars before xs : List VarInfo) (ms : List Mention) → vars ≡ before ++ xs → Sublist xs (as_entries ms) → Apart before ms → Grow (places_in_text ms) → Distinct vars → as_entries (firsts vars ms) ≡ xs
firsts-are vars before _ [] e end a g d = refl
firsts-are vars before _ (m ∷ ms) e (keep {xs = xs} s) a g d =
    let v = as_entry m in
    let first = ap (λ vs. is_there (place_in_text vs m.name.id) m.name.at) e ∙ there before v xs (before-none before v xs (subst Distinct e d)) in
    let later : Apart (v ∷ []) ms = (later-differ m.name.at ms g.0, tt) in
    let rest = firsts-are vars (before ++ v ∷ []) xs ms (e ∙ step before v xs) s (all-append (λ (w : VarInfo). AllByRecursion (λ (n : Mention). same_pos w.at n.name.at ≡ false) ms) before (v ∷ []) (first-tail v m before ms a) later) g.1 d in
    ap (λ b. as_entries (if b then m ∷ firsts vars ms else firsts vars ms)) first ∙ ap (λ zs. v ∷ zs) rest
firsts-are vars before xs (m ∷ ms) e (drop s) a g d =
    let all = all-append (λ (w : VarInfo). same_pos w.at m.name.at ≡ false) before xs (first-head m before ms a) (sub-all (λ (w : VarInfo). same_pos w.at m.name.at ≡ false) s (entries-differ m.name.at ms g.0)) in
    let first = ap (λ vs. is_there (place_in_text vs m.name.id) m.name.at) e ∙ not-there (before ++ xs) m.name.id m.name.at all in
    ap (λ b. as_entries (if b then m ∷ firsts vars ms else firsts vars ms)) first ∙ firsts-are vars before xs ms e s (first-tail (as_entry m) m before ms a) g.1 d

-- what holds of those that are the first of their variable
pub of-firsts : (P : Mention → Type 0) (vars : List VarInfo) (ms : List Mention) → AllByRecursion P (firsts vars ms) → AllByRecursion (λ (m : Mention). is_first vars m.name ≡ true → P m) ms
of-firsts P vars [] h = tt
of-firsts P vars (m ∷ ms) h = by_first (is_first vars m.name) refl h (λ k. of-firsts P vars ms k)
  where
    by_first : (b : Bool) → is_first vars m.name ≡ b → AllByRecursion P (if b then m ∷ firsts vars ms else firsts vars ms) → (AllByRecursion P (firsts vars ms) → AllByRecursion (λ (n : Mention). is_first vars n.name ≡ true → P n) ms) → (is_first vars m.name ≡ true → P m) × AllByRecursion (λ (n : Mention). is_first vars n.name ≡ true → P n) ms
    by_first true e k more = ((λ u. k.0), more k.1)
    by_first false e k more = ((λ u. absurd (not_both e u)), more k)
      where
        not_both : {c : Bool} → c ≡ false → c ≡ true → ⊥
        not_both e g = cc

-- and the other way round
pub to-firsts : (P : Mention → Type 0) (vars : List VarInfo) (ms : List Mention) → AllByRecursion (λ (m : Mention). is_first vars m.name ≡ true → P m) ms → AllByRecursion P (firsts vars ms)
to-firsts P vars [] h = tt
to-firsts P vars (m ∷ ms) h = by_first (is_first vars m.name) refl (to-firsts P vars ms h.1)
  where
    by_first : (b : Bool) → is_first vars m.name ≡ b → AllByRecursion P (firsts vars ms) → AllByRecursion P (if b then m ∷ firsts vars ms else firsts vars ms)
    by_first true e k = (h.0 e, k)
    by_first false e k = k

-- ---- variables with these numbers

-- the variable of this name has this number
pub record HasNumber (vs : List Variable) (id number : ℕ) : Type 0 where
  pub variable : Variable
  pub is : variable_of vs id ≡ Some variable
  pub place : variable.place ≡ number

number-later : (v : Variable) (vs : List Variable) (id number : ℕ) → nat_eq v.name id ≡ false → HasNumber vs id number → HasNumber (v ∷ vs) id number
number-later v vs id number e h = record { variable = h.variable; is = ap (λ b. if b then Some v else variable_of vs id) e ∙ h.is; place = h.place }

numbers-later : (v : Variable) (vs : List Variable) (ms : List Mention) → AllByRecursion (λ (w : VarInfo). nat_eq v.name w.name ≡ false) (as_entries ms) → AllByRecursion (λ (m : Mention). HasNumber vs m.name.id m.number) ms →
    AllByRecursion (λ (m : Mention). HasNumber (v ∷ vs) m.name.id m.number) ms
numbers-later v vs [] d h = tt
numbers-later v vs (m ∷ ms) d h = (number-later v vs m.name.id m.number d.0 h.0, numbers-later v vs ms d.1 h.1)

-- variables that are these mentions have their numbers
pub have-numbers : (ms : List Mention) (types : List Ty) → length types ≡ length (as_entries ms) → Distinct (as_entries ms) → AllByRecursion (λ (m : Mention). HasNumber (variables (as_entries ms) types (numbers ms)) m.name.id m.number) ms
have-numbers [] types e d = tt
have-numbers (m ∷ ms) [] e d = absurd (omega (arith, e))
have-numbers (m ∷ ms) (ty ∷ types) e d =
    let v : Variable = record { name = m.name.id; ty = ty; place = m.number } in
    let vs = variables (as_entries ms) types (numbers ms) in (
      record { variable = v; is = ap (λ b. if b then Some v else variable_of vs m.name.id) (eq-eqb m.name.id m.name.id refl); place = refl },
      numbers-later v vs ms d.0 (have-numbers ms types (omega (arith, e)) d.1),
    )
