-- In which blocks occurrences of a well-formed form stand.
use Rattle.std.specs.Prelude.{◌≡◌, ◌⊎◌, ℕ, Bool, true, false, if◌then◌else◌, List, [], ◌∷◌, Some}
use Rattle.std.specs.List.{AllByRecursion}
use Rattle.std.proofs.Common.{refl, sym, ap, subst, inl, inr}
use Rattle.zl_value.specs.Lists.{Has}
use Rattle.zl_value.specs.OperatorTypes.{type_of}
use Rattle.zl_value.specs.declared.value.Ty.{Ty}
use Rattle.zl_value.specs.declared.value.Ty.TheVariants.{Bool as BoolTy, Zero}
use Rattle.zl_meaning.specs.FlatForm.{FlatForm, HasForm, HasDefiner}
use Rattle.zl_meaning.specs.Uses.{PartOf, BranchOf, IsUse, AsPart, AsBranch, events_of, parts, steady_parts}
use Rattle.zl_meaning.specs.Branches.{IsPart}
use Rattle.zl_meaning.specs.WellFormed.{IsWellFormed, IsForm, IsDefiner, IsResetArm, AllStand, Stands, named_in, named_by}
use Rattle.zl_meaning.specs.Depends.{IsBlockOf, read_by, read_parts}
use Rattle.zl_meaning.specs.declared.place.Definer.{Definer}
use Rattle.zl_meaning.specs.declared.place.Definer.TheVariants.{Input, Plain, Der, Start}
use Rattle.zl_meaning.specs.declared.place.DerArm.{DerArm}
use Rattle.zl_meaning.specs.declared.occurrence.Form.{Form}
use Rattle.zl_meaning.specs.declared.occurrence.Form.TheVariants.{Lit, Read, Last, Op as Apply, If, Arrow, Pre, Result, Up, Fired, Step}
use Rattle.zl_meaning.proofs.Members.{all-has, all-map, has-none, has-cases, has-later}

-- occurrence number `k` stands in block `b`
abbrev pub IsIn : FlatForm → ℕ → ℕ → Type 0
IsIn f b k = (ty : Ty) × Stands f b ty k

all-stand : (f : FlatForm) (b : ℕ) (tys : List Ty) (ks : List ℕ) → AllStand f b tys ks → AllByRecursion (IsIn f b) ks
all-stand f b [] [] all = tt
all-stand f b (ty ∷ tys) (k ∷ ks) all = ((ty, all.0), all-stand f b tys ks all.1)
all-stand f b [] (k ∷ ks) all = absurd all
all-stand f b (ty ∷ tys) [] all = absurd all

parts-in : (f : FlatForm) (b : ℕ) (ty : Ty) (form : Form) → IsForm f b ty form → AllByRecursion (IsIn f b) (parts form)
parts-in f b ty (Lit x) is = tt
parts-in f b ty (Read p) is = tt
parts-in f b ty (Last p) is = tt
parts-in f b ty (Apply op ks) is = all-stand f b (type_of op).operands ks is.0
parts-in f b ty (If c x y) is = ((BoolTy, is.0), ((ty, is.1), ((ty, is.2), tt)))
parts-in f b ty (Arrow x y) is = ((ty, is.0), ((ty, is.1), tt))
parts-in f b ty (Pre x) is = ((ty, is), tt)
parts-in f b ty (Result x) is = ((ty, is), tt)
parts-in f b ty (Up site) is = tt
parts-in f b ty (Fired ks) is = all-map (Stands f b Zero) (IsIn f b) (λ k s. (Zero, s)) ks is.0
parts-in f b ty Step is = tt

-- a part stands with its whole
pub part-in : (f : FlatForm) → IsWellFormed f → (k whole : ℕ) (part : IsPart f k whole) → IsIn f part.occ.block k
part-in f well k whole part = all-has (IsIn f part.occ.block) (parts part.occ.form) k (parts-in f part.occ.block part.occ.ty part.occ.form (well.occs whole part.occ part.is).form) part.part

-- what has a form stands in some block, and its parts stand there
pub part-of-form : (f : FlatForm) (k whole : ℕ) (form : Form) → HasForm f whole form → Has (parts form) k → IsPart f k whole
part-of-form f k whole form there h = record { occ = there.0; is = there.1; part = subst (λ form. Has (parts form) k) (sym there.2) h }

-- a part that isn't a branch is evaluated with its whole
pub steady-part : (form : Form) (k : ℕ) → Has (steady_parts form) k → Has (parts form) k
steady-part (If c x y) k h = has-cases (Has (c ∷ x ∷ y ∷ []) k) c [] k h (λ e. record { index = 0; is = ap (λ j. Some j) e }) (λ i. absurd (has-none k i))
steady-part (Lit x) k h = h
steady-part (Read p) k h = h
steady-part (Last p) k h = h
steady-part (Apply op ks) k h = h
steady-part (Arrow x y) k h = h
steady-part (Pre x) k h = h
steady-part (Result x) k h = h
steady-part (Up site) k h = h
steady-part (Fired ks) k h = h
steady-part Step k h = h

-- what is read at once is a part
pub read-part : (form : Form) (j : ℕ) → Has (read_parts form) j → Has (parts form) j
read-part (Pre x) j h = absurd (has-none j h)
read-part (Last p) j h = h
read-part (Lit x) j h = h
read-part (Read p) j h = h
read-part (Apply op ks) j h = h
read-part (If c x y) j h = h
read-part (Arrow x y) j h = h
read-part (Result x) j h = h
read-part (Up site) j h = h
read-part (Fired ks) j h = h
read-part Step j h = h

-- a branch is one
pub branch-part : (f : FlatForm) (side : Bool) (k whole c x y : ℕ) → HasForm f whole (If c x y) → k ≡ (if side then x else y) → IsPart f k whole
branch-part f true k whole c x y there e = part-of-form f k whole (If c x y) there (record { index = 1; is = ap (λ j. Some j) (sym e) })
branch-part f false k whole c x y there e = part-of-form f k whole (If c x y) there (record { index = 2; is = ap (λ j. Some j) (sym e) })

-- a whole uses it as a part that is evaluated with it, or as a branch
abbrev pub IsUsedIn : FlatForm → ℕ → ℕ → Type 0
IsUsedIn f k whole = IsUse f k (PartOf whole) ⊎ ((c : ℕ) × (side : Bool) × IsUse f k (BranchOf whole c side))

-- a part is used by its whole
pub part-used : (f : FlatForm) (k whole : ℕ) → IsPart f k whole → IsUsedIn f k whole
part-used f k whole part = by_form part.occ.form refl
  where
    steady : (form : Form) → part.occ.form ≡ form → Has (steady_parts form) k → IsUsedIn f k whole
    steady form e h = inl (AsPart whole form (part.occ, part.is, e) h)

    same : (form : Form) → part.occ.form ≡ form → Has (parts form) k
    same form e = subst (λ x. Has (parts x) k) e part.part

    by_form : (form : Form) → part.occ.form ≡ form → IsUsedIn f k whole
    by_form (If c x y) e =
        has-cases (IsUsedIn f k whole) c (x ∷ y ∷ []) k (same (If c x y) e) (λ i. steady (If c x y) e (record { index = 0; is = ap (λ j. Some j) i }))
        (λ h. has-cases (IsUsedIn f k whole) x (y ∷ []) k h (λ i. inr (c, true, AsBranch whole c x y true (part.occ, part.is, e) (sym i)))
        (λ h. has-cases (IsUsedIn f k whole) y [] k h (λ i. inr (c, false, AsBranch whole c x y false (part.occ, part.is, e) (sym i))) (λ h. absurd (has-none k h))))
    by_form (Lit x) e = steady (Lit x) e (same (Lit x) e)
    by_form (Read p) e = steady (Read p) e (same (Read p) e)
    by_form (Last p) e = steady (Last p) e (same (Last p) e)
    by_form (Apply op ks) e = steady (Apply op ks) e (same (Apply op ks) e)
    by_form (Arrow x y) e = steady (Arrow x y) e (same (Arrow x y) e)
    by_form (Pre x) e = steady (Pre x) e (same (Pre x) e)
    by_form (Result x) e = steady (Result x) e (same (Result x) e)
    by_form (Up site) e = steady (Up site) e (same (Up site) e)
    by_form (Fired ks) e = steady (Fired ks) e (same (Fired ks) e)
    by_form Step e = steady Step e (same Step e)

named-in : (f : FlatForm) (b : ℕ) (arms : List DerArm) → AllByRecursion (IsResetArm f b) arms → AllByRecursion (IsIn f b) (named_in arms)
named-in f b [] all = tt
named-in f b (arm ∷ arms) all = ((BoolTy, all.0.0), ((_, all.0.1), named-in f b arms all.1))

-- what a definer names stands in its block
pub definer-in : (f : FlatForm) → IsWellFormed f → (p k : ℕ) (d : Definer) → HasDefiner f p d → Has (named_by d) k → (b : ℕ) × IsBlockOf d b × IsIn f b k
definer-in f well p k d has named = by_definer d has named (all-has (IsDefiner f p has.0) has.0.definers d (well.places p has.0 has.1).definers has.2)
  where
    by_definer : (d : Definer) (has : HasDefiner f p d) → Has (named_by d) k → IsDefiner f p has.0 d → (b : ℕ) × IsBlockOf d b × IsIn f b k
    by_definer (Input n) has named is = absurd (has-none k named)
    by_definer (Plain b j) has named is = (b, refl, all-has (IsIn f b) (j ∷ []) k ((_, is.1), tt) named)
    by_definer (Der b slope arms) has named is = (b, refl, all-has (IsIn f b) (slope ∷ named_in arms) k ((_, is.2), named-in f b arms is.3) named)
    by_definer (Start b j) has named is = (b, refl, all-has (IsIn f b) (j ∷ []) k ((_, is.1), tt) named)

-- what a place reads of its definers is named by them
pub read-named : (d : Definer) (k : ℕ) → Has (read_by d) k → Has (named_by d) k
read-named (Input n) k h = h
read-named (Plain b j) k h = h
read-named (Der b slope arms) k h = has-later slope (named_in arms) k h
read-named (Start b j) k h = h

-- an event of reset arms is named in them
pub event-named : (arms : List DerArm) (k : ℕ) → Has (events_of arms) k → Has (named_in arms) k
event-named [] k h = absurd (has-none k h)
event-named (arm ∷ arms) k h =
    has-cases (Has (named_in (arm ∷ arms)) k) arm.event (events_of arms) k h (λ e. record { index = 0; is = ap (λ n. Some n) e })
    (λ more. has-later arm.event (arm.value ∷ named_in arms) k (has-later arm.value (named_in arms) k (event-named arms k more)))
