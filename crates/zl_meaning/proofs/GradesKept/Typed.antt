-- At a moment values have the types of what they are values of, and fractions are in lowest terms, if it was so before.
use Rattle.std.specs.Prelude.{◌≡◌, ℕ, zero, suc, ◌<◌, Bool, true, false, if◌then◌else◌, List, [], ◌∷◌, slice_get, get_or, Option, Some, None, ⊤}
use Rattle.std.specs.List.{AllByRecursion, list_any}
use Rattle.std.specs.Option.{option_map, option_and_then}
use Rattle.std.proofs.Common.{refl, sym, ap, subst, arith}
use Rattle.zl_value.specs.Fraction.{Fraction, IsReduced, mul}
use Rattle.zl_value.specs.Operators.{answered}
use Rattle.zl_value.specs.OperatorTypes.{type_of}
use Rattle.zl_value.specs.declared.value.Value.{Value}
use Rattle.zl_value.specs.declared.value.Value.TheVariants.{B, I, F}
use Rattle.zl_value.specs.declared.value.Ty.{Ty}
use Rattle.zl_value.specs.declared.value.Ty.TheVariants.{Bool as BoolTy, Float}
use Rattle.zl_value.specs.declared.op.Op.{Op}
use Rattle.zl_value.proofs.FractionLaws.{IsReduced-add, IsReduced-mul}
use Rattle.zl_meaning.specs.FlatForm.{FlatForm}
use Rattle.zl_meaning.specs.State.{Node, AtControl, AtReset, AtLater, AtEntry, AtRunning, AtStrong, AtWeak, AtPlace, AtUsed, AtValue, State, is_active, if_used, value_in}
use Rattle.zl_meaning.specs.Moment.{Mode, AtStep, AtLeft, InFlow, Moment, is_fresh, decide}
use Rattle.zl_meaning.specs.Places.{has_blank_start, started, value_before, last_of, arm_value, reset_value, moved, der_value, defined, is_present, place_of}
use Rattle.zl_meaning.specs.Uses.{events_of}
use Rattle.zl_meaning.specs.Occurrences.{gathered, given, applied, branch, any_holds, fired_answer, answer, value_of}
use Rattle.zl_meaning.specs.Equation.{equation}
use Rattle.zl_meaning.specs.Reading.{Entries, ReadsValues, ReadsLastOf, ReadsStart, ReadsArm, ReadsDefiner, ReadsPlace, ReadsForm, ReadsValue, HasNodeRanks}
use Rattle.zl_meaning.specs.WellFormed.{Stands, AllStand, IsForm, IsDefiner, IsResetArm, IsWellFormed}
use Rattle.zl_meaning.specs.declared.place.Definer.{Definer}
use Rattle.zl_meaning.specs.declared.place.Definer.TheVariants.{Input, Plain, Der, Start}
use Rattle.zl_meaning.specs.declared.place.DerArm.{DerArm}
use Rattle.zl_meaning.specs.declared.place.PlaceInfo.{PlaceInfo}
use Rattle.zl_meaning.specs.declared.occurrence.Form.{Form}
use Rattle.zl_meaning.specs.declared.occurrence.Form.TheVariants.{Lit, Read, Last, Op as Apply, If, Arrow, Pre, Result, Up, Fired, Step}
use Rattle.zl_meaning.specs.declared.occurrence.Occ.{Occ}
use Rattle.zl_meaning.proofs.GradesKept.OfTypes.{IsOf, AreOf, literal_of, exact_of, operate_of}

-- what stands at an entry is of the type of its place, or of its occurrence
abbrev pub TypedAt : FlatForm → State → Node → Type 0
TypedAt f s (AtPlace p) = (place : PlaceInfo) → slice_get f.places p ≡ Some place → IsOf place.ty (s (AtPlace p))
TypedAt f s (AtValue k) = (occ : Occ) → slice_get f.occs k ≡ Some occ → IsOf occ.ty (s (AtValue k))
TypedAt f s _ = Unit {0}

-- all that stands there is
abbrev pub IsTyped : FlatForm → State → Type 0
IsTyped f s = (a : Node) → TypedAt f s a

-- and what a moment reads beside its entries is
pub record TypedMoment (f : FlatForm) (m : Moment) : Type 0 where
  pub before : IsTyped f m.before
  pub start : IsTyped f m.start
  pub inputs : (n p : ℕ) (place : PlaceInfo) → slice_get f.ins n ≡ Some p → slice_get f.places p ≡ Some place → IsOf place.ty (get_or m.inputs n None)
  pub passed : IsReduced m.passed

-- a type of what stands at an option
of_if : (ty : Ty) (t : Bool) (x y : Option Value) → IsOf ty x → IsOf ty y → IsOf ty (if t then x else y)
of_if ty true x y p q = p
of_if ty false x y p q = q

-- what is there where it is evaluated
of_used : (ty : Ty) (t : Bool) (x : Option Value) → IsOf ty x → IsOf ty (if_used t x)
of_used ty true x p = p
of_used ty false x p = tt

-- what is given
of_given : (ty : Ty) (x : Option Value) → IsOf ty x → IsOf ty (answered (given x))
of_given ty None p = tt
of_given ty (Some v) p = p

-- of an equal type
pub of_same : {a b : Ty} (x : Option Value) → a ≡ b → IsOf a x → IsOf b x
of_same x e p = subst (λ t. IsOf t x) e p

-- a branch
of_branch : (ty : Ty) (c x y : Option Value) → IsOf ty x → IsOf ty y → IsOf ty (branch c x y)
of_branch ty (Some (B true)) x y p q = p
of_branch ty (Some (B false)) x y p q = q
of_branch ty None x y p q = tt
of_branch ty (Some (I n)) x y p q = tt
of_branch ty (Some (F n)) x y p q = tt

-- one of some events
of_events : (o : Option (List Value)) → IsOf BoolTy (answered (any_holds o))
of_events None = tt
of_events (Some vs) = tt

-- an event
of_fired : (mode : Mode) (s : State) (ks : List ℕ) → IsOf BoolTy (answered (fired_answer mode s ks))
of_fired AtStep s ks = of_events (gathered s ks)
of_fired AtLeft s ks = tt
of_fired InFlow s ks = tt

-- what has moved
of_moved : (x y : Option Value) (s : Fraction) → IsReduced s → IsOf Float x → IsOf Float y → IsOf Float (moved x y s)
of_moved (Some (F a)) (Some (F k)) s r p q = IsReduced-add a (mul s k) p.above (IsReduced-mul s k r.above q.above).above
of_moved (Some (F a)) (Some (B k)) s r p q = tt
of_moved (Some (F a)) (Some (I k)) s r p q = tt
of_moved (Some (F a)) None s r p q = tt
of_moved (Some (B a)) y s r p q = tt
of_moved (Some (I a)) y s r p q = tt
of_moved None y s r p q = tt

-- all that was gathered is of these types
AllOf : List Ty → Option (List Value) → Type 0
AllOf tys None = Unit {0}
AllOf tys (Some vs) = AreOf tys vs

-- one more
of_next : (ty : Ty) (tys : List Ty) (v : Option Value) (vs : Option (List Value)) → IsOf ty v → AllOf tys vs → AllOf (ty ∷ tys) (option_and_then (λ x. option_map (λ xs. x ∷ xs) vs) v)
unfolding AllOf
of_next ty tys None vs p q = tt
of_next ty tys (Some v) None p q = tt
of_next ty tys (Some v) (Some vs) p q = (p, q)

-- what an operator makes of what was gathered
of_applied : (mode : Mode) (op : Op) (o : Option (List Value)) → AllOf (type_of op).operands o → IsOf (type_of op).result (answered (applied mode op o))
unfolding AllOf
of_applied mode op None p = tt
of_applied AtStep op (Some vs) p = operate_of op vs p
of_applied AtLeft op (Some vs) p = operate_of op vs p
of_applied InFlow op (Some vs) p = exact_of op vs p

module _ (f : FlatForm) (w : IsWellFormed f) (m : Moment) (tm : TypedMoment f m) (s : State) where
  module _ (P : Entries) (below : (a : Node) → P a → TypedAt f s a) where
    -- the value of what stands in a block
    value_there : (b : ℕ) (ty : Ty) (k : ℕ) → Stands f b ty k → P (AtValue k) → IsOf ty (s (AtValue k))
    value_there b ty k stands p = of_same (s (AtValue k)) stands.typed (below (AtValue k) p stands.occ stands.is)

    -- the operands
    gathered_of : (b : ℕ) (tys : List Ty) (ks : List ℕ) → AllStand f b tys ks → ReadsValues P ks → AllOf tys (gathered s ks)
    unfolding AllOf
    gathered_of b [] [] stand l = tt
    gathered_of b (ty ∷ tys) (k ∷ ks) stand l = of_next ty tys (s (AtValue k)) (gathered s ks) (value_there b ty k stand.0 l.0) (gathered_of b tys ks stand.1 l.1)
    gathered_of b [] (k ∷ ks) stand l = absurd stand
    gathered_of b (ty ∷ tys) [] stand l = absurd stand

    -- what an `init` gives
    started_of : (p : ℕ) (place : PlaceInfo) (ds : List Definer) (x : Option Value) → AllByRecursion (IsDefiner f p place) ds → AllByRecursion (ReadsStart P (λ a. ⊤)) ds → IsOf place.ty x → IsOf place.ty (started m s ds x)
    started_of p place [] x are l e = e
    started_of p place (Input n ∷ ds) x are l e = started_of p place ds x are.1 l.1 e
    started_of p place (Plain b k ∷ ds) x are l e = started_of p place ds x are.1 l.1 e
    started_of p place (Der b slope arms ∷ ds) x are l e = started_of p place ds x are.1 l.1 e
    started_of p place (Start b k ∷ ds) x are l e =
        of_if place.ty (is_fresh m s b) (s (AtValue k)) (started m s ds x) (value_there b place.ty k are.0.1 l.0.1) (started_of p place ds x are.1 l.1 e)

    -- `last` of a place
    last_typed : (p : ℕ) (o : Option PlaceInfo) (place : PlaceInfo) → slice_get f.places p ≡ o → o ≡ Some place → ReadsLastOf P (λ a. ⊤) p o → IsOf place.ty (last_of m s p o)
    last_typed p None place is e l = tt
    last_typed p (Some x) place is e l =
        let same : x ≡ place = cc in
        let t : x.ty ≡ place.ty = ap (λ (y : PlaceInfo). y.ty) same in
        of_same (last_of m s p (Some x)) t
        (of_if x.ty (list_any (has_blank_start s) x.definers) None (started m s x.definers (value_before m s p x)) tt
        (started_of p x x.definers (value_before m s p x) (w.places p x is).definers l.2
        (of_if x.ty (is_fresh m s x.block) None (m.before (AtPlace p)) tt (tm.before (AtPlace p) x is))))

    -- what an occurrence answers
    answer_of : (b : ℕ) (ty : Ty) (form : Form) → IsForm f b ty form → ReadsForm f P (λ a. ⊤) b form → IsOf ty (answered (answer f m s b form))
    answer_of b ty (Lit v) is l = literal_of ty v is
    answer_of b ty (Read p) is l = of_given ty (s (AtPlace p)) (of_same (s (AtPlace p)) is.typed (below (AtPlace p) l is.place is.is))
    answer_of b ty (Last p) is l =
        of_given ty (last_of m s p (slice_get f.places p)) (of_same (last_of m s p (slice_get f.places p)) is.0.typed (last_typed p (slice_get f.places p) is.0.place refl is.0.is l))
    answer_of b ty (Apply op ks) is l = of_same (answered (applied m.mode op (gathered s ks))) is.1 (of_applied m.mode op (gathered s ks) (gathered_of b (type_of op).operands ks is.0 l))
    answer_of b ty (If c x y) is l =
        of_given ty _ (of_branch ty (s (AtValue c)) (s (AtValue x)) (s (AtValue y)) (value_there b ty x is.1 l.1) (value_there b ty y is.2 l.2))
    answer_of b ty (Arrow x y) is l = of_given ty _ (of_if ty (is_fresh m s b) (s (AtValue x)) (s (AtValue y)) (value_there b ty x is.0 l.1) (value_there b ty y is.1 l.2))
    answer_of b ty (Pre x) is l =
        of_given ty _ (of_if ty (is_fresh m s b) None (value_in m.before x) tt (of_used ty (m.before (AtUsed x)) (m.before (AtValue x)) (of_same (m.before (AtValue x)) is.typed (tm.before (AtValue x) is.occ is.is))))
    answer_of b ty (Result x) is l = of_given ty (s (AtValue x)) (value_there b ty x is l)
    answer_of b ty (Up site) is l = of_same (Some (B _)) (sym is.3) tt
    answer_of b ty (Fired ks) is l = of_same (answered (fired_answer m.mode s ks)) (sym is.1) (of_fired m.mode s ks)
    answer_of b ty Step is l = of_same (Some (B _)) (sym is) tt

    -- the value of an occurrence
    value_typed : (o : Option Occ) (occ : Occ) (k : ℕ) → slice_get f.occs k ≡ o → o ≡ Some occ → ReadsValue f P (λ a. ⊤) o → IsOf occ.ty (value_of f m s o)
    value_typed None occ k is e l = tt
    value_typed (Some x) occ k is e l =
        let same : x ≡ occ = cc in
        of_same (value_of f m s (Some x)) (ap (λ (y : Occ). y.ty) same)
        (of_if x.ty (is_active (s (AtControl x.block))) (answered (answer f m s x.block x.form)) None (answer_of x.block x.ty x.form (w.occs k x is).form l.1) tt)

    -- places
    arm_of : (b n : ℕ) (arms : List DerArm) (x : Option Value) → AllByRecursion (IsResetArm f b) arms → AllByRecursion (ReadsArm P) arms → IsOf Float x → IsOf Float (arm_value s (slice_get arms n) x)
    arm_of b n [] x are l e = e
    arm_of b zero (arm ∷ arms) x are l e = value_there b Float arm.value are.0.1 l.0.1
    arm_of b (suc n) (arm ∷ arms) x are l e = arm_of b n arms x are.1 l.1 e

    -- the value of a reset arm
    reset_value_of : (b : ℕ) (arms : List DerArm) (d : Option ℕ) (x : Option Value) → AllByRecursion (IsResetArm f b) arms → AllByRecursion (ReadsArm P) arms → IsOf Float x → IsOf Float (reset_value s arms d x)
    reset_value_of b arms None x are l e = tt
    reset_value_of b arms (Some n) x are l e = arm_of b n arms x are l e

    -- a variable with a `der`
    der_of : (mode : Mode) (b p slope : ℕ) (place : PlaceInfo) (arms : List DerArm) (x : Option Value) → slice_get f.places p ≡ Some place → place.ty ≡ Float → Stands f b Float slope → AllByRecursion (IsResetArm f b) arms → AllByRecursion (ReadsArm P) arms → IsOf Float x → IsOf Float (der_value m s mode p slope arms x)
    der_of AtStep b p slope place arms x is e stands are l v = reset_value_of b arms (decide s (events_of arms)) x are l v
    der_of AtLeft b p slope place arms x is e stands are l v =
        of_moved _ _ m.passed tm.passed (of_same (m.start (AtPlace p)) e (tm.start (AtPlace p) place is)) (of_same (m.start (AtValue slope)) stands.typed (tm.start (AtValue slope) stands.occ stands.is))
    der_of InFlow b p slope place arms x is e stands are l v =
        of_moved _ _ m.passed tm.passed (of_same (m.start (AtPlace p)) e (tm.start (AtPlace p) place is)) (of_same (m.start (AtValue slope)) stands.typed (tm.start (AtValue slope) stands.occ stands.is))

    -- what the definers of a place give
    defined_of : (p : ℕ) (place : PlaceInfo) → slice_get f.places p ≡ Some place → (ds : List Definer) (x : Option Value) → AllByRecursion (IsDefiner f p place) ds → AllByRecursion (ReadsDefiner P (λ a. ⊤) p) ds → IsOf place.ty x → IsOf place.ty (defined m s p ds x)
    defined_of p place is [] x are l e = e
    defined_of p place is (Input n ∷ ds) x are l e = tm.inputs n p place are.0.0 is
    defined_of p place is (Plain b k ∷ ds) x are l e =
        of_if place.ty (is_active (s (AtControl b))) (s (AtValue k)) (defined m s p ds x) (value_there b place.ty k are.0.1 l.0.1) (defined_of p place is ds x are.1 l.1 e)
    defined_of p place is (Der b slope arms ∷ ds) x are l e =
        of_if place.ty (is_active (s (AtControl b))) (der_value m s m.mode p slope arms x) (defined m s p ds x)
        (of_same (der_value m s m.mode p slope arms x) (sym are.0.1) (der_of m.mode b p slope place arms x is are.0.1 are.0.2 are.0.3 l.0.3 (of_same x are.0.1 e)))
        (defined_of p place is ds x are.1 l.1 e)
    defined_of p place is (Start b k ∷ ds) x are l e = defined_of p place is ds x are.1 l.1 e

    -- the value of a place
    place_typed : (p : ℕ) (o : Option PlaceInfo) (place : PlaceInfo) → slice_get f.places p ≡ o → o ≡ Some place → ReadsPlace P (λ a. ⊤) p o → IsOf place.ty (place_of m s p o)
    place_typed p None place is e l = tt
    place_typed p (Some x) place is e l =
        let same : x ≡ place = cc in
        of_same (place_of m s p (Some x)) (ap (λ (y : PlaceInfo). y.ty) same)
        (of_if x.ty (is_present s x) (defined m s p x.definers (last_of m s p (Some x))) None
        (defined_of p x is x.definers (last_of m s p (Some x)) (w.places p x is).definers l.2 (last_typed p (Some x) x is refl l.3)) tt)

  -- what stands at the moment is typed
  module _ (r : HasNodeRanks f) (solves : (a : Node) → s a ≡ equation f m s a) where
    -- by rank
    typed_below : (n : ℕ) (a : Node) → r.rank a < n → TypedAt f s a
    unfolding equation
    typed_below zero a l = absurd (omega (arith, l))
    typed_below (suc n) (AtPlace p) l = λ place is. subst (λ v. IsOf place.ty v) (sym (solves (AtPlace p))) (place_typed (λ b. r.rank b < r.rank (AtPlace p)) (λ x low. typed_below n x (omega (arith, l, low))) p (slice_get f.places p) place refl is (r.lower (AtPlace p)))
    typed_below (suc n) (AtValue k) l = λ occ is. subst (λ v. IsOf occ.ty v) (sym (solves (AtValue k))) (value_typed (λ b. r.rank b < r.rank (AtValue k)) (λ x low. typed_below n x (omega (arith, l, low))) (slice_get f.occs k) occ k refl is (r.lower (AtValue k)))
    typed_below (suc n) (AtControl b) l = tt
    typed_below (suc n) (AtReset b) l = tt
    typed_below (suc n) (AtLater b) l = tt
    typed_below (suc n) (AtEntry b) l = tt
    typed_below (suc n) (AtRunning b) l = tt
    typed_below (suc n) (AtStrong b) l = tt
    typed_below (suc n) (AtWeak b) l = tt
    typed_below (suc n) (AtUsed b) l = tt

    pub typed : IsTyped f s
    typed a = typed_below (suc (r.rank a)) a (omega arith)
