-- At an instant all values are in the width, if those before it are, the inputs, and what has moved to it.
use Rattle.std.specs.Prelude.{◌≡◌, ℕ, zero, suc, ◌<◌, Bool, true, false, if◌then◌else◌, List, [], ◌∷◌, slice_get, get_or, Option, Some, None, ⊤}
use Rattle.std.specs.List.{AllByRecursion, list_any}
use Rattle.std.proofs.Common.{refl, sym, ap, ◌∙◌, subst, arith}
use Rattle.zl_value.specs.Fraction.{Fraction}
use Rattle.zl_value.specs.Instants.{Kind, Step, Left}
use Rattle.zl_value.specs.Operators.{Answer, Gives, Faults, Nothing, answered, exact, value_fits, within}
use Rattle.zl_value.specs.Script.{IsOfType}
use Rattle.zl_value.specs.declared.arith.Arith.TheVariants.{Range}
use Rattle.zl_value.specs.declared.value.Ty.{Ty}
use Rattle.zl_value.specs.declared.value.Ty.TheVariants.{Bool as BoolTy, Int, Float, Zero}
use Rattle.zl_value.specs.declared.value.Value.{Value}
use Rattle.zl_value.specs.declared.value.Value.TheVariants.{B, I, F}
use Rattle.zl_value.specs.declared.op.Op.{Op}
use Rattle.zl_meaning.specs.FlatForm.{FlatForm}
use Rattle.zl_meaning.specs.State.{Node, State, AtControl, AtReset, AtLater, AtEntry, AtRunning, AtStrong, AtWeak, AtPlace, AtUsed, AtValue, Active, is_active, if_used, value_in}
use Rattle.zl_meaning.specs.Moment.{Moment, is_fresh, decide}
use Rattle.zl_meaning.specs.History.{Instant, History}
use Rattle.zl_meaning.specs.Places.{has_blank_start, started, value_before, last_of, arm_value, reset_value, moved, der_value, defined, is_present, place_of}
use Rattle.zl_meaning.specs.Occurrences.{gathered, given, applied, branch, any_holds, fired_answer, answer, value_of}
use Rattle.zl_meaning.specs.Equation.{equation}
use Rattle.zl_meaning.specs.Slopes.{derivative_by}
use Rattle.zl_meaning.specs.Solves.{mode_of, moment_of}
use Rattle.zl_meaning.specs.Uses.{events_of}
use Rattle.zl_meaning.specs.Reading.{Entries, ReadsLastOf, ReadsStart, ReadsArm, ReadsDefiner, ReadsPlace, ReadsForm, ReadsValue, HasNodeRanks}
use Rattle.zl_meaning.specs.WellFormed.{IsForm, IsWellFormed}
use Rattle.zl_meaning.specs.declared.place.Definer.{Definer}
use Rattle.zl_meaning.specs.declared.place.Definer.TheVariants.{Input, Plain, Der, Start}
use Rattle.zl_meaning.specs.declared.place.DerArm.{DerArm}
use Rattle.zl_meaning.specs.declared.place.PlaceInfo.{PlaceInfo}
use Rattle.zl_meaning.specs.declared.occurrence.Form.{Form}
use Rattle.zl_meaning.specs.declared.occurrence.Form.TheVariants.{Lit, Read, Last, Op as Apply, If, Arrow, Pre, Result, Up, Fired, Step as AtAStep}
use Rattle.zl_meaning.specs.declared.occurrence.Occ.{Occ}
use Rattle.zl_normal.specs.MainBlock.{InMain, IsMain}

-- nothing, or a value in the width
abbrev pub IsNarrow : Option Value → Type 0
IsNarrow None = Unit {0}
IsNarrow (Some v) = value_fits v ≡ true

abbrev pub NarrowAt : State → Node → Type 0
NarrowAt s (AtPlace p) = IsNarrow (s (AtPlace p))
NarrowAt s (AtValue k) = IsNarrow (s (AtValue k))
NarrowAt s _ = Unit {0}

abbrev pub AllNarrow : State → Type 0
AllNarrow s = (a : Node) → NarrowAt s a

abbrev pub NarrowInputs : List (Option Value) → Type 0
NarrowInputs inputs = (n : ℕ) → IsNarrow (get_or inputs n None)

pub narrow_if : (t : Bool) (x y : Option Value) → IsNarrow x → IsNarrow y → IsNarrow (if t then x else y)
narrow_if true x y p q = p
narrow_if false x y p q = q

pub narrow_used : (t : Bool) (x : Option Value) → IsNarrow x → IsNarrow (if_used t x)
narrow_used true x p = p
narrow_used false x p = tt

pub narrow_given : (x : Option Value) → IsNarrow x → IsNarrow (answered (given x))
narrow_given None p = tt
narrow_given (Some v) p = p

pub narrow_branch : (c x y : Option Value) → IsNarrow x → IsNarrow y → IsNarrow (branch c x y)
narrow_branch (Some (B true)) x y p q = p
narrow_branch (Some (B false)) x y p q = q
narrow_branch None x y p q = tt
narrow_branch (Some (I n)) x y p q = tt
narrow_branch (Some (F n)) x y p q = tt

pub narrow_literal : (ty : Ty) (v : Value) → IsOfType ty v → value_fits v ≡ true
narrow_literal BoolTy (B b) h = refl
narrow_literal Int (I n) h = h
narrow_literal Float (F x) h = h.fits
narrow_literal Zero v h = absurd h
narrow_literal BoolTy (I n) h = absurd h
narrow_literal BoolTy (F n) h = absurd h
narrow_literal Int (B n) h = absurd h
narrow_literal Int (F n) h = absurd h
narrow_literal Float (B n) h = absurd h
narrow_literal Float (I n) h = absurd h

-- an operator answers within the width
narrow_within : (x : Answer) → IsNarrow (answered (within x))
narrow_within (Faults a) = tt
narrow_within Nothing = tt
narrow_within (Gives v) = by (value_fits v) refl
  where
    by : (t : Bool) → value_fits v ≡ t → IsNarrow (answered (if t then Gives v else Faults Range))
    by true e = e
    by false e = tt

narrow_applied : (kind : Kind) (op : Op) (o : Option (List Value)) → IsNarrow (answered (applied (mode_of kind) op o))
narrow_applied kind op None = tt
narrow_applied Step op (Some vs) = narrow_within (exact op vs)
narrow_applied Left op (Some vs) = narrow_within (exact op vs)

narrow_any : (o : Option (List Value)) → IsNarrow (answered (any_holds o))
narrow_any None = tt
narrow_any (Some vs) = refl

narrow_fired : (kind : Kind) (s : State) (ks : List ℕ) → IsNarrow (answered (fired_answer (mode_of kind) s ks))
narrow_fired Step s ks = narrow_any (gathered s ks)
narrow_fired Left s ks = refl

module _ (f : FlatForm) (w : IsWellFormed f) (main : IsMain f) (h : History) (i : Instant) (passed : Fraction) where
  abbrev m : Moment
  m = moment_of f h passed i

  -- what has moved to a left end is in the width; `start` is what stands where the flow began
  abbrev pub MovesNarrow : State → Type 0
  MovesNarrow start = i.kind ≡ Left → (p slope : ℕ) (place : PlaceInfo) → slice_get f.places p ≡ Some place → derivative_by start place.definers ≡ Some slope → IsNarrow (moved (m.start (AtPlace p)) (m.start (AtValue slope)) m.passed)

  module _ (before : AllNarrow m.before) (inputs : NarrowInputs i.inputs) (start : State) (began : is_active (start (AtControl 0)) ≡ true) (moves : MovesNarrow start) (s : State) where
    module _ (P : Entries) (below : (a : Node) → P a → NarrowAt s a) where
      narrow_started : (ds : List Definer) (x : Option Value) → AllByRecursion (ReadsStart P (λ a. ⊤)) ds → IsNarrow x → IsNarrow (started m s ds x)
      narrow_started [] x l e = e
      narrow_started (Input n ∷ ds) x l e = narrow_started ds x l.1 e
      narrow_started (Plain b k ∷ ds) x l e = narrow_started ds x l.1 e
      narrow_started (Der b slope arms ∷ ds) x l e = narrow_started ds x l.1 e
      narrow_started (Start b k ∷ ds) x l e = narrow_if (is_fresh m s b) (s (AtValue k)) (started m s ds x) (below (AtValue k) l.0.1) (narrow_started ds x l.1 e)

      narrow_last : (p : ℕ) (o : Option PlaceInfo) → ReadsLastOf P (λ a. ⊤) p o → IsNarrow (last_of m s p o)
      narrow_last p None l = tt
      narrow_last p (Some x) l =
          narrow_if (list_any (has_blank_start s) x.definers) None (started m s x.definers (value_before m s p x)) tt
          (narrow_started x.definers (value_before m s p x) l.2 (narrow_if (is_fresh m s x.block) None (m.before (AtPlace p)) tt (before (AtPlace p))))

      narrow_answer : (b : ℕ) (ty : Ty) (form : Form) → IsForm f b ty form → ReadsForm f P (λ a. ⊤) b form → IsNarrow (answered (answer f m s b form))
      narrow_answer b ty (Lit v) is l = narrow_literal ty v is
      narrow_answer b ty (Read p) is l = narrow_given (s (AtPlace p)) (below (AtPlace p) l)
      narrow_answer b ty (Last p) is l = narrow_given (last_of m s p (slice_get f.places p)) (narrow_last p (slice_get f.places p) l)
      narrow_answer b ty (Apply op ks) is l = narrow_applied i.kind op (gathered s ks)
      narrow_answer b ty (If c x y) is l = narrow_given _ (narrow_branch (s (AtValue c)) (s (AtValue x)) (s (AtValue y)) (below (AtValue x) l.1) (below (AtValue y) l.2))
      narrow_answer b ty (Arrow x y) is l = narrow_given _ (narrow_if (is_fresh m s b) (s (AtValue x)) (s (AtValue y)) (below (AtValue x) l.1) (below (AtValue y) l.2))
      narrow_answer b ty (Pre x) is l = narrow_given _ (narrow_if (is_fresh m s b) None (value_in m.before x) tt (narrow_used (m.before (AtUsed x)) (m.before (AtValue x)) (before (AtValue x))))
      narrow_answer b ty (Result x) is l = narrow_given (s (AtValue x)) (below (AtValue x) l)
      narrow_answer b ty (Up site) is l = refl
      narrow_answer b ty (Fired ks) is l = narrow_fired i.kind s ks
      narrow_answer b ty AtAStep is l = refl

      narrow_value : (k : ℕ) (o : Option Occ) → slice_get f.occs k ≡ o → ReadsValue f P (λ a. ⊤) o → IsNarrow (value_of f m s o)
      narrow_value k None is l = tt
      narrow_value k (Some x) is l = narrow_if (is_active (s (AtControl x.block))) (answered (answer f m s x.block x.form)) None (narrow_answer x.block x.ty x.form (w.occs k x is).form l.1) tt

      narrow_arm : (n : ℕ) (arms : List DerArm) (x : Option Value) → AllByRecursion (ReadsArm P) arms → IsNarrow x → IsNarrow (arm_value s (slice_get arms n) x)
      narrow_arm n [] x l e = e
      narrow_arm zero (arm ∷ arms) x l e = below (AtValue arm.value) l.0.1
      narrow_arm (suc n) (arm ∷ arms) x l e = narrow_arm n arms x l.1 e

      narrow_reset : (arms : List DerArm) (d : Option ℕ) (x : Option Value) → AllByRecursion (ReadsArm P) arms → IsNarrow x → IsNarrow (reset_value s arms d x)
      narrow_reset arms None x l e = tt
      narrow_reset arms (Some n) x l e = narrow_arm n arms x l e

      narrow_der : (kind : Kind) → i.kind ≡ kind → (p slope : ℕ) (place : PlaceInfo) (arms : List DerArm) (x : Option Value) → slice_get f.places p ≡ Some place → derivative_by start place.definers ≡ Some slope → AllByRecursion (ReadsArm P) arms → IsNarrow x → IsNarrow (der_value m s (mode_of kind) p slope arms x)
      narrow_der Step k p slope place arms x is by l e = narrow_reset arms (decide s (events_of arms)) x l e
      narrow_der Left k p slope place arms x is by l e = moves k p slope place is by

      module _ (active : is_active (s (AtControl 0)) ≡ true) where
        on : (b : ℕ) (x y : Option Value) → b ≡ 0 → IsNarrow x → IsNarrow (if is_active (s (AtControl b)) then x else y)
        on b x y e p = subst (λ t. IsNarrow (if t then x else y)) (sym (ap (λ c. is_active (s (AtControl c))) e ∙ active)) p

        narrow_defined : (p : ℕ) (place : PlaceInfo) → slice_get f.places p ≡ Some place → (ds : List Definer) (x : Option Value) → AllByRecursion InMain ds → derivative_by start place.definers ≡ derivative_by start ds → AllByRecursion (ReadsDefiner P (λ a. ⊤) p) ds → IsNarrow x → IsNarrow (defined m s p ds x)
        narrow_defined p place is [] x own by l e = e
        narrow_defined p place is (Input n ∷ ds) x own by l e = inputs n
        narrow_defined p place is (Plain b k ∷ ds) x own by l e = on b (s (AtValue k)) (defined m s p ds x) own.0 (below (AtValue k) l.0.1)
        narrow_defined p place is (Der b slope arms ∷ ds) x own by l e =
            let first : derivative_by start place.definers ≡ Some slope =
            by ∙ ap (λ t. if t then Some slope else derivative_by start ds) (ap (λ c. is_active (start (AtControl c))) own.0 ∙ began) in
            on b (der_value m s m.mode p slope arms x) (defined m s p ds x) own.0 (narrow_der i.kind refl p slope place arms x is first l.0.3 e)
        narrow_defined p place is (Start b k ∷ ds) x own by l e = narrow_defined p place is ds x own.1 by l.1 e

        narrow_place : (p : ℕ) (o : Option PlaceInfo) → slice_get f.places p ≡ o → ReadsPlace P (λ a. ⊤) p o → IsNarrow (place_of m s p o)
        narrow_place p None is l = tt
        narrow_place p (Some x) is l =
            narrow_if (is_present s x) (defined m s p x.definers (last_of m s p (Some x))) None
            (narrow_defined p x is x.definers (last_of m s p (Some x)) (main.places p x is).1 refl l.2 (narrow_last p (Some x) l.3)) tt

    module _ (r : HasNodeRanks f) (solves : (a : Node) → s a ≡ equation f m s a) (active : is_active (s (AtControl 0)) ≡ true) where
      -- by rank
      narrow_below : (n : ℕ) (a : Node) → r.rank a < n → NarrowAt s a
      unfolding equation
      narrow_below zero a l = absurd (omega (arith, l))
      narrow_below (suc n) (AtPlace p) l = subst (λ v. IsNarrow v) (sym (solves (AtPlace p))) (narrow_place (λ b. r.rank b < r.rank (AtPlace p)) (λ x low. narrow_below n x (omega (arith, l, low))) active p (slice_get f.places p) refl (r.lower (AtPlace p)))
      narrow_below (suc n) (AtValue k) l = subst (λ v. IsNarrow v) (sym (solves (AtValue k))) (narrow_value (λ b. r.rank b < r.rank (AtValue k)) (λ x low. narrow_below n x (omega (arith, l, low))) k (slice_get f.occs k) refl (r.lower (AtValue k)))
      narrow_below (suc n) (AtControl b) l = tt
      narrow_below (suc n) (AtReset b) l = tt
      narrow_below (suc n) (AtLater b) l = tt
      narrow_below (suc n) (AtEntry b) l = tt
      narrow_below (suc n) (AtRunning b) l = tt
      narrow_below (suc n) (AtStrong b) l = tt
      narrow_below (suc n) (AtWeak b) l = tt
      narrow_below (suc n) (AtUsed b) l = tt

      pub all_narrow : AllNarrow s
      all_narrow a = narrow_below (suc (r.rank a)) a (omega arith)

-- the main block is active
pub main_active : (f : FlatForm) (main : IsMain f) (m : Moment) (s : State) → ((a : Node) → s a ≡ equation f m s a) → is_active (s (AtControl 0)) ≡ true
unfolding equation
main_active f main m s solves = let active : s (AtControl 0) ≡ Active = (let e = solves (AtControl 0) in let b = main.blocks in let p = main.parent in let q = main.kind in cc) in ap (λ c. is_active c) active
