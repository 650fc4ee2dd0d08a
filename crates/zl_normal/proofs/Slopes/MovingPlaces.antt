-- The flow after an instant: names of places, and so each occurrence.
use Rattle.std.specs.Prelude.{◌≡◌, ℕ, zero, suc, ◌<◌, ◌≤◌, Bool, true, false, if◌then◌else◌, List, [], ◌∷◌, slice_get, Option, Some, None, ⊤}
use Rattle.std.specs.List.{AllByRecursion}
use Rattle.std.proofs.Common.{refl, sym, ap, ap₂, ◌∙◌, arith, subst}
use Rattle.zl_value.specs.Fraction.{Fraction, add, mul}
use Rattle.zl_value.specs.Lists.{Has}
use Rattle.zl_value.specs.Times.{nought, unit}
use Rattle.zl_value.specs.declared.value.Value.{Value}
use Rattle.zl_value.specs.declared.value.Value.TheVariants.{B, I, F}
use Rattle.zl_value.specs.declared.value.Ty.TheVariants.{Bool as BoolTy, Float, Zero}
use Rattle.zl_meaning.specs.FlatForm.{FlatForm}
use Rattle.zl_meaning.specs.Uses.{PartOf, DefinerOf, AsPart}
use Rattle.zl_meaning.specs.State.{State, AtControl, AtPlace, AtUsed, AtValue, Active, is_active}
use Rattle.zl_meaning.specs.History.{state_of}
use Rattle.zl_meaning.specs.Moment.{is_called}
use Rattle.zl_meaning.specs.Places.{last_of, moved}
use Rattle.zl_meaning.specs.Slopes.{sources, plain_by, plain_of}
use Rattle.zl_meaning.specs.Grades.{Grading, grade_of, place_grade}
use Rattle.zl_meaning.specs.KeepsGrades.{IsMoment}
use Rattle.zl_meaning.specs.WellFormed.{Stands, IsForm, IsDefiner, IsCalled, IsWellFormed}
use Rattle.zl_meaning.specs.Single.{is_start, IsSingle}
use Rattle.zl_meaning.specs.Reading.{ReadsValues, ReadsForm, ReadsValue, ReadsDefiner, ReadsPlace}
use Rattle.zl_meaning.specs.declared.place.Definer.{Definer}
use Rattle.zl_meaning.specs.declared.place.Definer.TheVariants.{Input, Plain, Der, Start}
use Rattle.zl_meaning.specs.declared.place.PlaceInfo.{PlaceInfo}
use Rattle.zl_meaning.specs.declared.occurrence.Form.{Form}
use Rattle.zl_meaning.specs.declared.occurrence.Form.TheVariants.{Lit, Read, Last, Op as Apply, If, Arrow, Pre, Result, Up, Fired, Step}
use Rattle.zl_meaning.specs.declared.occurrence.Occ.{Occ}
use Rattle.zl_meaning.proofs.Members.{all-has}
use Rattle.zl_meaning.proofs.StraightLines.{answered-given}
use Rattle.zl_meaning.proofs.WrittenForms.{at-start, at-unit}
use Rattle.zl_meaning.proofs.GradesKept.UsesSay.{plain-used}
use Rattle.zl_normal.specs.Evaluated.{HasGuardRanks}
use Rattle.zl_normal.specs.PlaceWires.{definer_of}
use Rattle.zl_normal.specs.MainBlock.{InMain, IsMain}
use Rattle.zl_normal.proofs.Values.Entries.{active, place_if, defined_by}
use Rattle.zl_normal.proofs.Flows.Motions.{IsAlone, alone}
use Rattle.zl_normal.proofs.Slopes.FlowValues.{InFlowOf, some_f, V, M, live_then, value_by, used_by}
use Rattle.zl_normal.proofs.Slopes.StillUsed.{stays}
use Rattle.zl_normal.proofs.Slopes.Moving.{MovesTo, Moves, leaf, alias, last_there, no_more}
use Rattle.zl_normal.proofs.Slopes.MovingForms.{if_moves, passed_moves, operator}

-- the occurrence by which a place has its value, where its definers are active
abbrev pub plain_names : Option Definer → List ℕ
plain_names (Some (Plain b x)) = x ∷ []
plain_names _ = []

no_plain : (s : State) (definers : List Definer) → AllByRecursion (λ other. is_start other ≡ true) definers → plain_by s definers ≡ []
no_plain s [] starts = refl
no_plain s (Input n ∷ definers) starts = let z = starts.0 in absurd cc
no_plain s (Plain b a ∷ definers) starts = let z = starts.0 in absurd cc
no_plain s (Der b a arms ∷ definers) starts = let z = starts.0 in absurd cc
no_plain s (Start b a ∷ definers) starts = no_plain s definers starts.1

plain_is : (s : State) (definers : List Definer) → s (AtControl 0) ≡ Active → AllByRecursion InMain definers → IsAlone definers → plain_by s definers ≡ plain_names (definer_of definers)
plain_is s [] running all alone = refl
plain_is s (Input n ∷ definers) running all alone = no_plain s definers alone
plain_is s (Plain b a ∷ definers) running all alone = ap (λ x. if is_active (s (AtControl x)) then a ∷ [] else plain_by s definers) all.0 ∙ ap (λ c. if is_active c then a ∷ [] else plain_by s definers) running
plain_is s (Der b a arms ∷ definers) running all alone = no_plain s definers alone
plain_is s (Start b a ∷ definers) running all alone = plain_is s definers running all.1 alone

pub definer_has : (definers : List Definer) (d : Definer) → definer_of definers ≡ Some d → Has definers d
definer_has [] d e = absurd cc
definer_has (Input n ∷ definers) d e = record { index = 0; is = e }
definer_has (Plain b x ∷ definers) d e = record { index = 0; is = e }
definer_has (Der b x arms ∷ definers) d e = record { index = 0; is = e }
definer_has (Start b x ∷ definers) d e = let h = definer_has definers d e in record { index = suc h.index; is = h.is }

pub no_start : (definers : List Definer) (b x : ℕ) → definer_of definers ≡ Some (Start b x) → ⊥
no_start [] b x e = absurd cc
no_start (Input n ∷ definers) b x e = absurd cc
no_start (Plain c y ∷ definers) b x e = absurd cc
no_start (Der c y arms ∷ definers) b x e = absurd cc
no_start (Start c y ∷ definers) b x e = no_start definers b x e

called_there : (b : Bool) (x : Option Value) (v : Value) → (if b then x else None) ≡ Some v → (b ≡ true) × (x ≡ Some v)
called_there true x v e = (refl, e)
called_there false x v e = absurd cc

-- what has moved did so from a number, with a slope
pub record Moved (x y : Option Value) (a : Fraction) : Type 0 where
  pub from : Fraction
  pub slope : Fraction
  pub start : x ≡ Some (F from)
  pub derivative : y ≡ Some (F slope)
  pub is : a ≡ add from (mul nought slope)

pub moved_there : (x y : Option Value) (a : Fraction) → moved x y nought ≡ Some (F a) → Moved x y a
moved_there (Some (F z)) (Some (F d)) a e = record { from = z; slope = d; start = refl; derivative = refl; is = some_f a (add z (mul nought d)) (sym e) }
moved_there (Some (F z)) (Some (B d)) a e = absurd cc
moved_there (Some (F z)) (Some (I d)) a e = absurd cc
moved_there (Some (F z)) None a e = absurd cc
moved_there (Some (B z)) y a e = absurd cc
moved_there (Some (I z)) y a e = absurd cc
moved_there None y a e = absurd cc

module _ (f : FlatForm) (g : Grading) (main : IsMain f) (formed : IsWellFormed f) (c : InFlowOf f g) (single : IsSingle f) (ranks : HasGuardRanks f) where
  -- a place that has a value at the start has what its definer gives, then and at moment 1
  pub record AtPlaces (p : ℕ) (place : PlaceInfo) : Type 0 where
    pub called : is_called (V f g main c nought) place.call ≡ true
    pub start : V f g main c nought (AtPlace p) ≡ defined_by f main (M f g main c nought) (V f g main c nought) (c.solves nought at-start) (live_then f g main c nought) p (definer_of place.definers) (last_of (M f g main c nought) (V f g main c nought) p (Some place))
    pub end : V f g main c unit (AtPlace p) ≡ defined_by f main (M f g main c unit) (V f g main c unit) (c.solves unit at-unit) (live_then f g main c unit) p (definer_of place.definers) (last_of (M f g main c unit) (V f g main c unit) p (Some place))

  pub at_places : (p : ℕ) (place : PlaceInfo) → slice_get f.places p ≡ Some place → (v : Value) → V f g main c nought (AtPlace p) ≡ Some v → AtPlaces p place
  at_places p place is v e =
      let start = place_if f main (M f g main c nought) (V f g main c nought) (c.solves nought at-start) (live_then f g main c nought) p place is in
      let end = place_if f main (M f g main c unit) (V f g main c unit) (c.solves unit at-unit) (live_then f g main c unit) p place is in
      let called = (called_there (is_called (V f g main c nought) place.call) _ v (sym start ∙ e)).0 in
      let later = still_called place.call (formed.places p place is).call called in
      record { called = called; start = start ∙ taken _ _ called; end = end ∙ taken _ _ later }
    where
      taken : (b : Bool) (x : Option Value) → b ≡ true → (if b then x else None) ≡ x
      taken b x e = rw e refl

      still_called : (call : Option ℕ) → IsCalled f place.block call → is_called (V f g main c nought) call ≡ true → is_called (V f g main c unit) call ≡ true
      still_called None there e = refl
      still_called (Some k) there e = stays f g main formed c ranks k there.0 there.1 e

  pub sources_are : (p : ℕ) (place : PlaceInfo) → slice_get f.places p ≡ Some place → sources f (V f g main c nought) (Read p) ≡ plain_names (definer_of place.definers)
  sources_are p place is =
      ap (λ o. plain_of (V f g main c nought) o) is
      ∙ plain_is (V f g main c nought) place.definers (active f main (M f g main c nought) (V f g main c nought) (c.solves nought at-start) (live_then f g main c nought)) (main.places p place is).1 (alone f main single p place is)

  pub last_is : (s : Fraction) → IsMoment s → (p : ℕ) (place : PlaceInfo) → slice_get f.places p ≡ Some place → last_of (M f g main c s) (V f g main c s) p (Some place) ≡ (M f g main c nought).before (AtPlace p)
  last_is s m p place is = ap (λ o. last_of (M f g main c s) (V f g main c s) p o) (sym is) ∙ last_there f g main formed c s m p place is

  read_moves : (k p : ℕ) (occ : Occ) → slice_get f.occs k ≡ Some occ → occ.form ≡ Read p → occ.ty ≡ Float → grade_of c.whole k ≤ 1 → (a : Fraction) → V f g main c nought (AtValue k) ≡ Some (F a) → (place : PlaceInfo) → slice_get f.places p ≡ Some place → place.ty ≡ Float → ((b x : ℕ) → definer_of place.definers ≡ Some (Plain b x) → Moves f g main formed c x) → MovesTo f g main formed c k a
  read_moves k p occ is e ty low a v place at pty mx = by (definer_of place.definers) refl (there.start) (there.end)
    where
      from : V f g main c nought (AtValue k) ≡ V f g main c nought (AtPlace p)
      from = value_by f g main c nought at-start k occ is (Read p) e ∙ answered-given _

      to : V f g main c unit (AtValue k) ≡ V f g main c unit (AtPlace p)
      to = value_by f g main c unit at-unit k occ is (Read p) e ∙ answered-given _

      there : AtPlaces p place
      there = at_places p place at (F a) (sym from ∙ v)

      less : place_grade c.whole p ≤ grade_of c.whole k
      less = c.form.names k p occ is ty low e

      by : (d : Option Definer) → definer_of place.definers ≡ d → V f g main c nought (AtPlace p) ≡ defined_by f main (M f g main c nought) (V f g main c nought) (c.solves nought at-start) (live_then f g main c nought) p d (last_of (M f g main c nought) (V f g main c nought) p (Some place)) → V f g main c unit (AtPlace p) ≡ defined_by f main (M f g main c unit) (V f g main c unit) (c.solves unit at-unit) (live_then f g main c unit) p d (last_of (M f g main c unit) (V f g main c unit) p (Some place)) → MovesTo f g main formed c k a
      by None q start end =
          leaf f g main formed c k occ (Read p) is e ty a v (to ∙ end ∙ last_is unit at-unit p place at ∙ sym (from ∙ start ∙ last_is nought at-start p place at)) (sources_are p place at ∙ ap (λ d. plain_names d) q)
      by (Some (Input n)) q start end = leaf f g main formed c k occ (Read p) is e ty a v (to ∙ end ∙ sym (from ∙ start)) (sources_are p place at ∙ ap (λ d. plain_names d) q)
      by (Some (Plain b x)) q start end =
          let has = definer_has place.definers (Plain b x) q in
          let stands : Stands f b place.ty x = (all-has (IsDefiner f p place) place.definers (Plain b x) (formed.places p place at).definers has).1 in
          let used = used_by f g main c nought at-start x stands.occ (DefinerOf place.call) stands.is (plain-used f x p b place at has) there.called in
          let lower = c.keeps.definers p b x place at pty (no_more _ _ less low) has used in
          let below : grade_of c.whole x ≤ grade_of c.whole k = let l = less in omega (arith, lower, l) in
          alias f g main formed c k x occ stands.occ (Read p) is e ty stands.is (stands.typed ∙ pty) a v (from ∙ start) (to ∙ end) below (sources_are p place at ∙ ap (λ d. plain_names d) q)
          (mx b x q stands.occ stands.is (stands.typed ∙ pty) (no_more _ _ below low) used a (sym (from ∙ start) ∙ v))
      by (Some (Der b x arms)) q start end =
          let m = moved_there (state_of c.j (AtPlace p)) (state_of c.j (AtValue x)) a (sym (from ∙ start) ∙ v) in
          record {
            b = add m.from (mul unit m.slope);
            there = to ∙ end ∙ ap₂ (λ y z. moved y z unit) m.start m.derivative;
            still = λ z. absurd (let l = less in let h = c.moving p b x place arms at (definer_has place.definers (Der b x arms) q) in omega (arith, l, h, z));
          }
      by (Some (Start b x)) q start end = absurd (no_start place.definers b x q)

  -- each form
  module _ (n : ℕ) (below : (k : ℕ) → ranks.entries.rank (AtValue k) < n → Moves f g main formed c k) where
    all_move : (ks : List ℕ) → ReadsValues (λ a. ranks.entries.rank a < n) ks → AllByRecursion (Moves f g main formed c) ks
    all_move [] rd = tt
    all_move (k ∷ ks) rd = (below k rd.0, all_move ks rd.1)

    form_moves : (k : ℕ) (occ : Occ) (form : Form) → slice_get f.occs k ≡ Some occ → occ.form ≡ form → IsForm f occ.block occ.ty form → ReadsForm f (λ a. ranks.entries.rank a < n) (λ a. ⊤) occ.block form → occ.ty ≡ Float → grade_of c.whole k ≤ 1 → V f g main c nought (AtUsed k) ≡ true → (a : Fraction) → V f g main c nought (AtValue k) ≡ Some (F a) → MovesTo f g main formed c k a
    form_moves k occ (Lit x) is e st rd ty low on a v = leaf f g main formed c k occ (Lit x) is e ty a v (value_by f g main c unit at-unit k occ is (Lit x) e ∙ sym (value_by f g main c nought at-start k occ is (Lit x) e)) refl
    form_moves k occ (Read p) is e st rd ty low on a v =
        read_moves k p occ is e ty low a v st.place st.is (st.typed ∙ ty)
        (λ b x q. below x (plain_read p st.place st.is b x q rd))
      where
        plain_read : (p : ℕ) (place : PlaceInfo) → slice_get f.places p ≡ Some place → (b x : ℕ) → definer_of place.definers ≡ Some (Plain b x) → ranks.entries.rank (AtPlace p) < n → ranks.entries.rank (AtValue x) < n
        plain_read p place is b x q low =
            let reads : ReadsPlace (λ a. ranks.entries.rank a < ranks.entries.rank (AtPlace p)) (λ a. ⊤) p (Some place) = subst (λ o. ReadsPlace (λ a. ranks.entries.rank a < ranks.entries.rank (AtPlace p)) (λ a. ⊤) p o) is (ranks.entries.lower (AtPlace p)) in
            let one = all-has (ReadsDefiner (λ a. ranks.entries.rank a < ranks.entries.rank (AtPlace p)) (λ a. ⊤) p) place.definers (Plain b x) reads.2 (definer_has place.definers (Plain b x) q) in
            let l = one.1 in omega (arith, l, low)
    form_moves k occ (Last p) is e st rd ty low on a v =
        leaf f g main formed c k occ (Last p) is e ty a v
        (value_by f g main c unit at-unit k occ is (Last p) e ∙ answered-given _ ∙ last_there f g main formed c unit at-unit p st.0.place st.0.is
        ∙ sym (value_by f g main c nought at-start k occ is (Last p) e ∙ answered-given _ ∙ last_there f g main formed c nought at-start p st.0.place st.0.is)) refl
    form_moves k occ (Apply op ks) is e st rd ty low on a v = operator f g main formed c k occ is ty low on a v op ks e st.0 st.1 (c.form.operators k op ks occ is ty low e) (all_move ks rd)
    form_moves k occ (If x y z) is e st rd ty low on a v = if_moves f g main formed c k x y z occ is e ty low on a v (below y rd.1) (below z rd.2)
    form_moves k occ (Arrow x y) is e st rd ty low on a v =
        passed_moves f g main formed c k y 0 occ st.1.occ (Arrow x y) is e ty st.1.is (st.1.typed ∙ ty) low
        (used_by f g main c nought at-start y st.1.occ (PartOf k) st.1.is (AsPart k (Arrow x y) (occ, is, e) (record { index = 1; is = refl })) on) (record { index = 0; is = refl }) refl a v
        (value_by f g main c nought at-start k occ is (Arrow x y) e ∙ answered-given _) (value_by f g main c unit at-unit k occ is (Arrow x y) e ∙ answered-given _) (below y rd.2)
    form_moves k occ (Pre x) is e st rd ty low on a v = leaf f g main formed c k occ (Pre x) is e ty a v (value_by f g main c unit at-unit k occ is (Pre x) e ∙ sym (value_by f g main c nought at-start k occ is (Pre x) e)) refl
    form_moves k occ (Result x) is e st rd ty low on a v =
        passed_moves f g main formed c k x 0 occ st.occ (Result x) is e ty st.is (st.typed ∙ ty) low
        (used_by f g main c nought at-start x st.occ (PartOf k) st.is (AsPart k (Result x) (occ, is, e) (record { index = 0; is = refl })) on) (record { index = 0; is = refl }) refl a v
        (value_by f g main c nought at-start k occ is (Result x) e ∙ answered-given _) (value_by f g main c unit at-unit k occ is (Result x) e ∙ answered-given _) (below x rd)
    form_moves k occ (Up s) is e st rd ty low on a v = absurd (let z : Zero ≡ Float = sym st.3 ∙ ty in let w : ⊥ = cc in w)
    form_moves k occ (Fired ks) is e st rd ty low on a v = absurd (let z : BoolTy ≡ Float = sym st.1 ∙ ty in let w : ⊥ = cc in w)
    form_moves k occ Step is e st rd ty low on a v = absurd (let z : BoolTy ≡ Float = sym st ∙ ty in let w : ⊥ = cc in w)

  moves_below : (n k : ℕ) → ranks.entries.rank (AtValue k) < n → Moves f g main formed c k
  moves_below zero k low = absurd (omega (arith, low))
  moves_below (suc n) k low = λ occ is ty grade on a v.
      let reads : ReadsValue f (λ b. ranks.entries.rank b < ranks.entries.rank (AtValue k)) (λ b. ⊤) (Some occ) = subst (λ o. ReadsValue f (λ b. ranks.entries.rank b < ranks.entries.rank (AtValue k)) (λ b. ⊤) o) is (ranks.entries.lower (AtValue k)) in
      form_moves (ranks.entries.rank (AtValue k)) (λ j less. moves_below n j (omega (arith, low, less))) k occ occ.form is refl (formed.occs k occ is).form reads.1 ty grade on a v

  -- what is evaluated at the start and has a number there moves
  pub moves : (k : ℕ) → Moves f g main formed c k
  moves k = moves_below (suc (ranks.entries.rank (AtValue k))) k (omega arith)
