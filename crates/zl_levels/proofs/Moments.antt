-- At an instant what is evaluated has a value, if what is before it does: what is late may have none at the first instant alone.
use Rattle.std.specs.Prelude.{◌≡◌, ◌⊎◌, ℕ, suc, ◌<◌, Bool, true, false, not, if◌then◌else◌, List, [], ◌∷◌, length, slice_get, get_or, IsSome, Option, Some, None, ⊤, nat_eq}
use Rattle.std.specs.List.{AllByRecursion, list_any}
use Rattle.std.specs.Option.{option_map, option_and_then}
use Rattle.std.proofs.Common.{refl, sym, ap, ◌∙◌, subst, inl, inr, ⊎_elim, arith}
use Rattle.std.proofs.lemmas.Option.{slice_get_within}
use Rattle.zl_value.specs.Fraction.{Fraction}
use Rattle.zl_value.specs.Lists.{Has}
use Rattle.zl_value.specs.Times.{holds, fails}
use Rattle.zl_value.specs.Instants.{Kind, Step, Left}
use Rattle.zl_value.specs.OperatorTypes.{type_of}
use Rattle.zl_value.specs.Operators.{Answer, Gives, Faults, Nothing, answered}
use Rattle.zl_value.specs.declared.value.Ty.{Ty}
use Rattle.zl_value.specs.declared.value.Ty.TheVariants.{Bool as BoolTy, Zero}
use Rattle.zl_value.specs.declared.value.Value.{Value}
use Rattle.zl_value.specs.declared.value.Value.TheVariants.{B, I, F}
use Rattle.zl_value.specs.declared.op.Op.{Op}
use Rattle.zl_meaning.specs.FlatForm.{FlatForm, HasForm, place_call}
use Rattle.zl_meaning.specs.Uses.{Use, PartOf, BranchOf, DefinerOf, EventOf, StartOf, ResetOf, IsUse, AsPart, AsBranch, AsDefiner, AsEvent, AsStart, AsReset, steady_parts, events_of}
use Rattle.zl_meaning.specs.Branches.{Under}
use Rattle.zl_meaning.specs.State.{Node, State, AtControl, AtPlace, AtUsed, AtValue, Control, Active, Idle, Blank, is_active, is_blank, value_in}
use Rattle.zl_meaning.specs.Moment.{Moment, is_fresh, is_at_step, is_called, decide_by, decide, is_number}
use Rattle.zl_meaning.specs.History.{Instant, History}
use Rattle.zl_meaning.specs.Places.{has_blank_start, started, value_before, last_of, arm_value, reset_value, moved, der_value, defined, has_blank, is_present, place_of}
use Rattle.zl_meaning.specs.Occurrences.{gathered, given, applied, branch, any_holds, fired_answer, answer, value_of, asks}
use Rattle.zl_meaning.specs.Equation.{equation}
use Rattle.zl_meaning.specs.Solves.{mode_of, moment_of}
use Rattle.zl_meaning.specs.Single.{IsSingle, is_start}
use Rattle.zl_meaning.specs.Regular.{IsRegular}
use Rattle.zl_meaning.specs.Reading.{Entries, ReadsValues, ReadsStart, ReadsLastOf, ReadsArm, ReadsDefiner, ReadsForm, ReadsValue}
use Rattle.zl_meaning.specs.WellFormed.{Stands, AllStand, IsForm, IsDefiner, IsResetArm, IsWellFormed}
use Rattle.zl_meaning.specs.declared.place.Definer.{Definer}
use Rattle.zl_meaning.specs.declared.place.Definer.TheVariants.{Input, Plain, Der, Start}
use Rattle.zl_meaning.specs.declared.place.DerArm.{DerArm}
use Rattle.zl_meaning.specs.declared.place.PlaceInfo.{PlaceInfo}
use Rattle.zl_meaning.specs.declared.occurrence.Form.{Form}
use Rattle.zl_meaning.specs.declared.occurrence.Form.TheVariants.{Lit, Read, Last, Op as Apply, If, Arrow, Pre, Result, Up, Fired, Step as AtAStep}
use Rattle.zl_meaning.specs.declared.occurrence.Occ.{Occ}
use Rattle.zl_meaning.proofs.Members.{all-has, has-cases, has-none, each-has}
use Rattle.zl_meaning.proofs.Lines.{both}
use Rattle.zl_meaning.proofs.WrittenForms.{true-false}
use Rattle.zl_meaning.proofs.GradesKept.OfTypes.{IsOf, AreOf}
use Rattle.zl_meaning.proofs.GradesKept.Typed.{IsTyped, of_same}
use Rattle.zl_levels.specs.Levels.{Level, Early, Late, Levels, IsAtEvent, InResetValue, InArm, AllowsForm, AllowsDefiner, AreLevels}
use Rattle.zl_levels.specs.MainForm.{InMain, IsMainForm}
use Rattle.zl_levels.specs.Standing.{HasStandingCalls}
use Rattle.zl_levels.proofs.Givens.{HasStart, HasNoPlain, HasOwn, own_no_start, given_by, start_of, der_started, der_no_plain}
use Rattle.zl_levels.proofs.Standing.{CallStands, start_stands, used_by, call_on, with_called}
use Rattle.zl_levels.proofs.Untested.{no_arm}
use Rattle.zl_levels.proofs.Totals.{IsAnswer, operate_answer}

pub some_given : (x : Option Value) → IsSome x → IsSome (answered (given x))
some_given None e = e
some_given (Some v) e = refl

-- it is no fault
abbrev pub IsRight : Answer → Type 0
IsRight (Gives v) = Unit {0}
IsRight (Faults a) = ⊥
IsRight Nothing = Unit {0}

some_right : (x : Answer) → IsAnswer x → IsRight x → IsSome (answered x)
some_right (Gives v) a r = refl
some_right (Faults v) a r = absurd r
some_right Nothing a r = absurd a

-- a bool that is there
some_bool : (x : Option Value) → IsOf BoolTy x → IsSome x → (b : Bool) × (x ≡ Some (B b))
some_bool (Some (B b)) of e = (b, refl)
some_bool (Some (I b)) of e = absurd of
some_bool (Some (F b)) of e = absurd of
some_bool None of e = true-false e refl

active_not_blank : (c : Control) → is_active c ≡ true → is_blank c ≡ false
active_not_blank Active e = refl
active_not_blank Idle e = refl
active_not_blank Blank e = true-false e refl

-- the values that were gathered, each of its type
record AreGathered (s : State) (tys : List Ty) (ks : List ℕ) : Type 0 where
  pub values : List Value
  pub is : gathered s ks ≡ Some values
  pub typed : AreOf tys values

-- what is late may have no value at the first instant
abbrev pub IsOwed : Bool → Level → Type 0
IsOwed first level = first ≡ true → level ≡ Early

abbrev pub IsPlaceOwed : Bool → Levels → ℕ → PlaceInfo → Type 0
IsPlaceOwed first l p place = IsOwed first (l.place p) ⊎ HasNoPlain place.definers

some_is : (x : Option Value) → IsSome x → (v : Value) × (x ≡ Some v)
some_is (Some v) e = (v, refl)
some_is None e = true-false e refl

applied_answer : (kind : Kind) (op : Op) (vs : List Value) → AreOf (type_of op).operands vs → IsAnswer (applied (mode_of kind) op (Some vs))
applied_answer Step op vs t = operate_answer op vs t
applied_answer Left op vs t = operate_answer op vs t

module _ (f : FlatForm) (l : Levels) (first : Bool) (s : State) where
  -- what is evaluated has a value
  abbrev pub IsGivenAt : Node → Type 0
  IsGivenAt (AtPlace p) = (place : PlaceInfo) → slice_get f.places p ≡ Some place → IsPlaceOwed first l p place → is_called s place.call ≡ true → IsSome (s (AtPlace p))
  IsGivenAt (AtValue k) = IsOwed first (l.occ k) → s (AtUsed k) ≡ true → IsSome (s (AtValue k))
  IsGivenAt _ = Unit {0}

module _ (f : FlatForm) (w : IsWellFormed f) (main : IsMainForm f) (single : IsSingle f) (regular : IsRegular f) (steady : HasStandingCalls f regular) (l : Levels) (are : AreLevels f l) (h : History) (i : Instant) (passed : Fraction) (first : Bool) (s : State) where
  abbrev m : Moment
  m = moment_of f h passed i

  -- what was before the instant is there
  pub record HasPast : Type 0 where
    pub last : first ≡ false → (p : ℕ) (place : PlaceInfo) → slice_get f.places p ≡ Some place → (l.place p ≡ Early) ⊎ HasNoPlain place.definers → CallStands regular.context place.call → IsSome (m.before (AtPlace p))
    pub pre : first ≡ false → (k x : ℕ) → HasForm f k (Pre x) → IsSome (value_in m.before x)
    pub move : i.kind ≡ Left → (p b slope : ℕ) (arms : List DerArm) (place : PlaceInfo) → slice_get f.places p ≡ Some place → Has place.definers (Der b slope arms) → IsSome (moved (m.start (AtPlace p)) (m.start (AtValue slope)) m.passed)
    pub inputs : (n : ℕ) → n < length f.ins → IsSome (get_or i.inputs n None)
    pub fine : (k : ℕ) (op : Op) (ks : List ℕ) → HasForm f k (Apply op ks) → s (AtUsed k) ≡ true → IsRight (applied (mode_of i.kind) op (gathered s ks))

  module _ (past : HasPast) (idle : first ≡ true → (k : ℕ) (call : Option ℕ) (events : List ℕ) (arm : ℕ) → Under f (ResetOf call events arm) k → s (AtUsed k) ≡ true → ⊥) (typed : IsTyped f s) (solves : (a : Node) → s a ≡ equation f m s a) (active : is_active (s (AtControl 0)) ≡ true) (fresh_is : is_fresh m s 0 ≡ first) where
    -- by whether the block is fresh
    by_fresh : (b : ℕ) → b ≡ 0 → (x y : Option Value) → (first ≡ true → IsSome x) → (first ≡ false → IsSome y) → IsSome (if is_fresh m s b then x else y)
    by_fresh b e x y p q = go (is_fresh m s b) (sym (ap (λ c. is_fresh m s c) e ∙ fresh_is))
      where
        go : (t : Bool) → first ≡ t → IsSome (if t then x else y)
        go true at = p at
        go false at = q at

    now : (k : ℕ) (occ : Occ) → slice_get f.occs k ≡ Some occ → (of : Use) → IsUse f k of → asks m s of ≡ true → s (AtUsed k) ≡ true
    now k occ is of named e = used_by f w main regular m s solves active k occ is of named e

    call_is : (p : ℕ) (place : PlaceInfo) → slice_get f.places p ≡ Some place → place_call f p ≡ place.call
    call_is p place is = ap (option_and_then (λ (x : PlaceInfo). x.call)) is

    module _ (P : Entries) (below : (a : Node) → P a → IsGivenAt f l first s a) where
      -- ---- `last`
      module _ (p : ℕ) (place : PlaceInfo) (is : slice_get f.places p ≡ Some place) (on : is_called s place.call ≡ true) where
        allows : (d : Definer) → Has place.definers d → AllowsDefiner l p place.block d
        allows d has = all-has (AllowsDefiner l p place.block) place.definers d (are.definers p place is) has

        definer : (d : Definer) → Has place.definers d → IsDefiner f p place d
        definer d has = all-has (IsDefiner f p place) place.definers d (w.places p place is).definers has

        start_some : (b k : ℕ) → Has place.definers (Start b k) → b ≡ 0 → P (AtValue k) → first ≡ true → IsSome (s (AtValue k))
        start_some b k has e low at =
            let stands : Stands f b place.ty k = (definer (Start b k) has).1 in
            let named : IsUse f k (StartOf place.call b) = AsStart p b place.call (place, is, has) (call_is p place is) in
            below (AtValue k) low (λ t. allows (Start b k) has) (now k stands.occ stands.is (StartOf place.call b) named (both on (ap (λ c. is_fresh m s c) e ∙ fresh_is ∙ at)))

        started_first : first ≡ true → (ds : List Definer) (x : Option Value) → AllByRecursion (Has place.definers) ds → AllByRecursion InMain ds → AllByRecursion (ReadsStart P (λ a. ⊤)) ds → HasStart ds → IsSome (started m s ds x)
        started_first at [] x each own low some = absurd (has-none _ some.2)
        started_first at (Input n ∷ ds) x each own low some = started_first at ds x each.1 own.1 low.1 (some.0, some.1, has-cases (Has ds (Start some.0 some.1)) (Input n) ds (Start some.0 some.1) some.2 (λ e. absurd (let z : Input n ≡ Start some.0 some.1 = e in let g : ⊥ = cc in g)) (λ t. t))
        started_first at (Plain b k ∷ ds) x each own low some = started_first at ds x each.1 own.1 low.1 (some.0, some.1, has-cases (Has ds (Start some.0 some.1)) (Plain b k) ds (Start some.0 some.1) some.2 (λ e. absurd (let z : Plain b k ≡ Start some.0 some.1 = e in let g : ⊥ = cc in g)) (λ t. t))
        started_first at (Der b k arms ∷ ds) x each own low some = started_first at ds x each.1 own.1 low.1 (some.0, some.1, has-cases (Has ds (Start some.0 some.1)) (Der b k arms) ds (Start some.0 some.1) some.2 (λ e. absurd (let z : Der b k arms ≡ Start some.0 some.1 = e in let g : ⊥ = cc in g)) (λ t. t))
        started_first at (Start b k ∷ ds) x each own low some =
            by_fresh b own.0 (s (AtValue k)) (started m s ds x) (λ t. start_some b k each.0 own.0 low.0.1 at) (λ t. true-false at t)

        started_later : first ≡ false → (ds : List Definer) (x : Option Value) → AllByRecursion InMain ds → IsSome x → IsSome (started m s ds x)
        started_later at [] x own e = e
        started_later at (Input n ∷ ds) x own e = started_later at ds x own.1 e
        started_later at (Plain b k ∷ ds) x own e = started_later at ds x own.1 e
        started_later at (Der b k arms ∷ ds) x own e = started_later at ds x own.1 e
        started_later at (Start b k ∷ ds) x own e = by_fresh b own.0 (s (AtValue k)) (started m s ds x) (λ t. true-false t at) (λ t. started_later at ds x own.1 e)

        no_blank_start : (ds : List Definer) → AllByRecursion InMain ds → list_any (has_blank_start s) ds ≡ false
        no_blank_start [] own = refl
        no_blank_start (Input n ∷ ds) own = no_blank_start ds own.1
        no_blank_start (Plain b k ∷ ds) own = no_blank_start ds own.1
        no_blank_start (Der b k arms ∷ ds) own = no_blank_start ds own.1
        no_blank_start (Start b k ∷ ds) own =
            let e : is_blank (s (AtControl b)) ≡ false = active_not_blank (s (AtControl b)) (ap (λ c. is_active (s (AtControl c))) own.0 ∙ active) in
            let rest = no_blank_start ds own.1 in
            cc

        no_blank : (ds : List Definer) → AllByRecursion InMain ds → list_any (has_blank s) ds ≡ false
        no_blank [] own = refl
        no_blank (Input n ∷ ds) own = no_blank ds own.1
        no_blank (Plain b k ∷ ds) own =
            let e : is_blank (s (AtControl b)) ≡ false = active_not_blank (s (AtControl b)) (ap (λ c. is_active (s (AtControl c))) own.0 ∙ active) in
            let rest = no_blank ds own.1 in
            cc
        no_blank (Der b k arms ∷ ds) own =
            let e : is_blank (s (AtControl b)) ≡ false = active_not_blank (s (AtControl b)) (ap (λ c. is_active (s (AtControl c))) own.0 ∙ active) in
            let rest = no_blank ds own.1 in
            cc
        no_blank (Start b k ∷ ds) own =
            let e : is_blank (s (AtControl b)) ≡ false = active_not_blank (s (AtControl b)) (ap (λ c. is_active (s (AtControl c))) own.0 ∙ active) in
            let rest = no_blank ds own.1 in
            cc

        last_some : (first ≡ true → HasStart place.definers) → (l.place p ≡ Early) ⊎ HasNoPlain place.definers → CallStands regular.context place.call → ReadsLastOf P (λ a. ⊤) p (Some place) → IsSome (last_of m s p (Some place))
        last_some start early stands low =
            subst (λ t. IsSome (if t then None else started m s place.definers (value_before m s p place))) (sym (no_blank_start place.definers (main.places p place is).1))
            (go first refl)
          where
            go : (t : Bool) → first ≡ t → IsSome (started m s place.definers (value_before m s p place))
            go true at = started_first at place.definers (value_before m s p place) (each-has place.definers) (main.places p place is).1 low.2 (start at)
            go false at =
                started_later at place.definers (value_before m s p place) (main.places p place is).1
                (by_fresh place.block (main.places p place is).0 None (m.before (AtPlace p)) (λ t. true-false t at) (λ t. past.last at p place is early stands))

        -- ---- places
        arm_some : (arms : List DerArm) (b slope d : ℕ) (arm : DerArm) → Has place.definers (Der b slope arms) → i.kind ≡ Step → decide s (events_of arms) ≡ Some d → slice_get arms d ≡ Some arm → AllByRecursion (ReadsArm P) arms → IsSome (s (AtValue arm.value))
        arm_some arms b slope d arm has at number there low =
            let among : Has arms arm = record { index = d; is = there } in
            let stands : IsResetArm f b arm = all-has (IsResetArm f b) arms arm (definer (Der b slope arms) has).3 among in
            let named : IsUse f arm.value (ResetOf place.call (events_of arms) d) = AsReset p b slope d arms arm place.call (place, is, has) there refl (call_is p place is) in
            let level = all-has (λ (x : DerArm). (l.occ x.event ≡ Early) × (l.occ x.value ≡ Early)) arms arm (allows (Der b slope arms) has).1 among in
            let reads : ReadsArm P arm = all-has (ReadsArm P) arms arm low among in
            below (AtValue arm.value) reads.1 (λ t. level.1)
            (now arm.value stands.1.occ stands.1.is (ResetOf place.call (events_of arms) d) named
            (both on (both (ap (λ k. is_at_step (mode_of k)) at) (ap (λ o. is_number d o) number ∙ same_number d))))
          where
            same_number : (n : ℕ) → nat_eq n n ≡ true
            same_number n = grind arith

        start_call : HasStart place.definers → CallStands regular.context place.call
        start_call start =
            let stands : Stands f start.0 place.ty start.1 = (definer (Start start.0 start.1) start.2).1 in
            start_stands f w main regular start.1 start.0 place.call (AsStart p start.0 place.call (place, is, start.2) (call_is p place is)) stands.occ stands.is

        last_at : ReadsLastOf P (λ a. ⊤) p (Some place) → HasStart place.definers → HasNoPlain place.definers → IsSome (last_of m s p (Some place))
        last_at low start plain = last_some (λ t. start) (inr plain) (start_call start) low

        module _ (b slope : ℕ) (arms : List DerArm) (has : Has place.definers (Der b slope arms)) where
          event_some : (arm : DerArm) → Has arms arm → ReadsArm P arm → (t : Bool) × (s (AtValue arm.event) ≡ Some (B t))
          event_some arm among low =
              let stands : IsResetArm f b arm = all-has (IsResetArm f b) arms arm (definer (Der b slope arms) has).3 among in
              let named : IsUse f arm.event (EventOf place.call) = AsEvent p b slope arms arm place.call (place, is, has) among refl (call_is p place is) in
              let level = all-has (λ (x : DerArm). (l.occ x.event ≡ Early) × (l.occ x.value ≡ Early)) arms arm (allows (Der b slope arms) has).1 among in
              let there = below (AtValue arm.event) low.0 (λ t. level.0) (now arm.event stands.0.occ stands.0.is (EventOf place.call) named on) in
              some_bool (s (AtValue arm.event)) (of_same (s (AtValue arm.event)) stands.0.typed (typed (AtValue arm.event) stands.0.occ stands.0.is)) there

          decided : (xs : List DerArm) → AllByRecursion (Has arms) xs → AllByRecursion (ReadsArm P) xs → (d : ℕ) × (decide s (events_of xs) ≡ Some d)
          decided [] each low = (0, refl)
          decided (x ∷ xs) each low = let e = event_some x each.0 low.0 in by e.0 e.1 (decided xs each.1 low.1)
            where
              by : (t : Bool) → s (AtValue x.event) ≡ Some (B t) → (d : ℕ) × (decide s (events_of xs) ≡ Some d) → (d : ℕ) × (decide s (events_of (x ∷ xs)) ≡ Some d)
              by true e rest = (0, ap (λ v. decide_by v (decide s (events_of xs))) e)
              by false e rest = (suc rest.0, ap (λ v. decide_by v (decide s (events_of xs))) e ∙ ap (λ o. option_map (λ n. suc n) o) rest.1)

          der_some : AllByRecursion (ReadsArm P) arms → ReadsLastOf P (λ a. ⊤) p (Some place) → IsSome (der_value m s m.mode p slope arms (last_of m s p (Some place)))
          der_some low last = by i.kind refl
            where
              at_arm : (d : ℕ) → i.kind ≡ Step → decide s (events_of arms) ≡ Some d → (o : Option DerArm) → slice_get arms d ≡ o → IsSome (arm_value s o (last_of m s p (Some place)))
              at_arm d at number None e = last_at last (der_started f w main p place is single b slope arms has (are.given p place is)) (der_no_plain f w main p place is single b slope arms has)
              at_arm d at number (Some arm) e = arm_some arms b slope d arm has at number e low

              by : (kind : Kind) → i.kind ≡ kind → IsSome (der_value m s (mode_of kind) p slope arms (last_of m s p (Some place)))
              by Step at =
                  let d = decided arms (each-has arms) low in
                  subst (λ o. IsSome (reset_value s arms o (last_of m s p (Some place)))) (sym d.1) (at_arm d.0 at d.1 (slice_get arms d.0) refl)
              by Left at = past.move at p b slope arms place is has

        module _ (owed : IsPlaceOwed first l p place) (last : ReadsLastOf P (λ a. ⊤) p (Some place)) where
          plain_some : (b k : ℕ) → Has place.definers (Plain b k) → b ≡ 0 → P (AtValue k) → IsSome (s (AtValue k))
          plain_some b k has e low =
              let stands : Stands f b place.ty k = (definer (Plain b k) has).1 in
              let named : IsUse f k (DefinerOf place.call) = AsDefiner p b place.call (place, is, has) (call_is p place is) in
              below (AtValue k) low
              (⊎_elim (λ (o : IsOwed first (l.place p)). λ t. (allows (Plain b k) has).0 (e ∙ sym (main.places p place is).0) (o t)) (λ (plain : HasNoPlain place.definers). absurd (plain b k has)) owed)
              (now k stands.occ stands.is (DefinerOf place.call) named on)

          active_some : (b : ℕ) (x y : Option Value) → b ≡ 0 → IsSome x → IsSome (if is_active (s (AtControl b)) then x else y)
          active_some b x y e q = subst (λ t. IsSome (if t then x else y)) (sym (ap (λ c. is_active (s (AtControl c))) e ∙ active)) q

          defined_some : (ds : List Definer) → AllByRecursion (Has place.definers) ds → AllByRecursion InMain ds → ((d : Definer) → Has place.definers d → is_start d ≡ false → Has ds d) → AllByRecursion (ReadsDefiner P (λ a. ⊤) p) ds → IsSome (defined m s p ds (last_of m s p (Some place)))
          defined_some [] each own keep low =
              ⊎_elim (λ (start : HasStart place.definers). last_at last start (λ b k has. has-none (Plain b k) (keep (Plain b k) has refl)))
              (λ (o : HasOwn place.definers). absurd (has-none o.definer (keep o.definer o.has (own_no_start o.definer o.own))))
              (given_by f w main p place is (are.given p place is))
          defined_some (Input n ∷ ds) each own keep low = past.inputs n (slice_get_within f.ins n p (definer (Input n) each.0).0)
          defined_some (Plain b k ∷ ds) each own keep low = active_some b (s (AtValue k)) (defined m s p ds (last_of m s p (Some place))) own.0 (plain_some b k each.0 own.0 low.0.1)
          defined_some (Der b slope arms ∷ ds) each own keep low =
              active_some b (der_value m s m.mode p slope arms (last_of m s p (Some place))) (defined m s p ds (last_of m s p (Some place))) own.0 (der_some b slope arms each.0 low.0.3 last)
          defined_some (Start b k ∷ ds) each own keep low =
              defined_some ds each.1 own.1
              (λ d has no. has-cases (Has ds d) (Start b k) ds d (keep d has no) (λ e. true-false (sym (ap (λ x. is_start x) e)) no) (λ t. t))
              low.1

          pub place_some : AllByRecursion (ReadsDefiner P (λ a. ⊤) p) place.definers → IsSome (place_of m s p (Some place))
          place_some low =
              let present : is_present s place ≡ true =
              both (ap (λ b. is_active (s (AtControl b))) (main.places p place is).0 ∙ active) (both on (ap (λ t. not t) (no_blank place.definers (main.places p place is).1))) in
              subst (λ t. IsSome (if t then defined m s p place.definers (last_of m s p (Some place)) else None)) (sym present)
              (defined_some place.definers (each-has place.definers) (main.places p place is).1 (λ d has no. has) low)

      -- ---- occurrences
      module _ (k : ℕ) (occ : Occ) (is : slice_get f.occs k ≡ Some occ) (on : s (AtUsed k) ≡ true) (owed : IsOwed first (l.occ k)) where
        part_some : (j b : ℕ) (ty : Ty) (form : Form) → occ.form ≡ form → Has (steady_parts form) j → Stands f b ty j → P (AtValue j) → IsOwed first (l.occ j) → IsSome (s (AtValue j))
        part_some j b ty form e has stands low early = below (AtValue j) low early (now j stands.occ stands.is (PartOf k) (AsPart k form (occ, is, e) has) on)

        value_typed : (j b : ℕ) (ty : Ty) → Stands f b ty j → IsOf ty (s (AtValue j))
        value_typed j b ty stands = of_same (s (AtValue j)) stands.typed (typed (AtValue j) stands.occ stands.is)

        gather : (b : ℕ) (form : Form) → occ.form ≡ form → (tys : List Ty) (ks : List ℕ) → AllByRecursion (Has (steady_parts form)) ks → AllStand f b tys ks → ReadsValues P ks → (first ≡ true → AllByRecursion (λ j. l.occ j ≡ Early) ks) → AreGathered s tys ks
        gather b form e [] [] has stands low early = record { values = []; is = refl; typed = tt }
        gather b form e (ty ∷ tys) (j ∷ ks) has stands low early =
            let some = some_is (s (AtValue j)) (part_some j b ty form e has.0 stands.0 low.0 (λ t. (early t).0)) in
            let rest = gather b form e tys ks has.1 stands.1 low.1 (λ t. (early t).1) in
            record {
              values = some.0 ∷ rest.values;
              is = ap (λ o. option_and_then (λ v. option_map (λ vs. v ∷ vs) (gathered s ks)) o) some.1 ∙ ap (λ o. option_map (λ vs. some.0 ∷ vs) o) rest.is;
              typed = (subst (λ o. IsOf ty o) some.1 (value_typed j b ty stands.0), rest.typed);
            }
        gather b form e [] (j ∷ ks) has stands low early = absurd stands
        gather b form e (ty ∷ tys) [] has stands low early = absurd stands

        read_called : (p : ℕ) (place : PlaceInfo) → occ.form ≡ Read p → slice_get f.places p ≡ Some place → (call : Option ℕ) → place.call ≡ call → is_called s call ≡ true
        read_called p place e at None c = refl
        read_called p place e at (Some d) c = with_called f w main regular m s solves active steady d k (regular.copies.names k p d (occ, is, e) (call_is p place at ∙ c)) on

        last_stands : (p : ℕ) (place : PlaceInfo) → occ.form ≡ Last p → slice_get f.places p ≡ Some place → (call : Option ℕ) → place.call ≡ call → CallStands regular.context call
        last_stands p place e at None c = tt
        last_stands p place e at (Some d) c = steady.lasts k p d (occ, is, e) (call_is p place at ∙ c)

        not_at_event : (p : ℕ) → first ≡ true → IsAtEvent f k p → ⊥
        not_at_event p at (InResetValue call events arm u) = idle at k call events arm u on
        not_at_event p at (InArm inner of arm choice o place kind _ _ _ _ _ _) = no_arm f main inner of arm kind

        up_there : (j b : ℕ) → Stands f b Zero j → (v : Value) × (s (AtValue j) ≡ Some v)
        unfolding equation
        up_there j b stands =
            let up = (w.occs j stands.occ stands.is).crossing stands.typed in
            let on_block = ap (λ c. is_active (s (AtControl c))) (main.occs j stands.occ stands.is) ∙ active in (
              _,
              solves (AtValue j) ∙ ap (λ o. value_of f m s o) stands.is
                  ∙ ap (λ t. if t then answered (answer f m s stands.occ.block stands.occ.form) else None) on_block
                  ∙ ap (λ form. answered (answer f m s stands.occ.block form)) up.1,
            )

        fired_there : (b : ℕ) (ks : List ℕ) → AllByRecursion (Stands f b Zero) ks → (vs : List Value) × (gathered s ks ≡ Some vs)
        fired_there b [] all = ([], refl)
        fired_there b (j ∷ ks) all =
            let some = up_there j b all.0 in
            let rest = fired_there b ks all.1 in
            (some.0 ∷ rest.0, ap (λ o. option_and_then (λ v. option_map (λ vs. v ∷ vs) (gathered s ks)) o) some.1 ∙ ap (λ o. option_map (λ vs. some.0 ∷ vs) o) rest.1)

        fired_some : (kind : Kind) (b : ℕ) (ks : List ℕ) → AllByRecursion (Stands f b Zero) ks → IsSome (answered (fired_answer (mode_of kind) s ks))
        fired_some Left b ks all = refl
        fired_some Step b ks all = let there = fired_there b ks all in subst (λ o. IsSome (answered (any_holds o))) (sym there.1) refl

        branch_some : (c x y b : ℕ) (ty : Ty) → occ.form ≡ If c x y → Stands f b BoolTy c × Stands f b ty x × Stands f b ty y → P (AtValue c) × P (AtValue x) × P (AtValue y) → (first ≡ true → (l.occ c ≡ Early) × (l.occ x ≡ Early) × (l.occ y ≡ Early)) → IsSome (branch (s (AtValue c)) (s (AtValue x)) (s (AtValue y)))
        branch_some c x y b ty e stands low early =
            let some = some_bool (s (AtValue c)) (value_typed c b BoolTy stands.0) (part_some c b BoolTy (If c x y) e (record { index = 0; is = refl }) stands.0 low.0 (λ t. (early t).0)) in
            subst (λ o. IsSome (branch o (s (AtValue x)) (s (AtValue y)))) (sym some.1) (by some.0 some.1)
          where
            by : (t : Bool) → s (AtValue c) ≡ Some (B t) → IsSome (branch (Some (B t)) (s (AtValue x)) (s (AtValue y)))
            by true q = below (AtValue x) low.1 (λ t. (early t).1) (now x stands.1.occ stands.1.is (BranchOf k c true) (AsBranch k c x y true (occ, is, e) refl) (both on (ap (λ o. holds o) q)))
            by false q = below (AtValue y) low.2 (λ t. (early t).2) (now y stands.2.occ stands.2.is (BranchOf k c false) (AsBranch k c x y false (occ, is, e) refl) (both on (ap (λ o. fails o) q)))

        last_form : (p : ℕ) (place : PlaceInfo) → occ.form ≡ Last p → slice_get f.places p ≡ Some place → AllowsForm f l k (Last p) → ReadsLastOf P (λ a. ⊤) p (Some place) → IsSome (last_of m s p (Some place))
        last_form p place e at allow low =
            let stands = last_stands p place e at place.call refl in
            last_some p place at (call_on f w main regular m s solves active place.block place.call (w.places p place at).call stands)
            (λ t. ⊎_elim (λ a. start_of f w main p place at a) (λ a. absurd (not_at_event p t a)) (allow.1 (owed t))) (inl allow.0) stands low

        value_some : (form : Form) → occ.form ≡ form → AllowsForm f l k form → IsForm f occ.block occ.ty form → ReadsForm f P (λ a. ⊤) occ.block form → IsSome (answered (answer f m s occ.block form))
        value_some (Lit v) e allow of low = refl
        value_some (Read p) e allow of low = some_given (s (AtPlace p)) (below (AtPlace p) low of.place of.is (inl (λ t. allow (owed t))) (read_called p of.place e of.is of.place.call refl))
        value_some (Last p) e allow of low =
            some_given (last_of m s p (slice_get f.places p))
            (subst (λ o. IsSome (last_of m s p o)) (sym of.0.is) (last_form p of.0.place e of.0.is allow (subst (λ o. ReadsLastOf P (λ a. ⊤) p o) of.0.is low)))
        value_some (Apply op ks) e allow of low =
            let all = gather occ.block (Apply op ks) e (type_of op).operands ks (each-has ks) of.0 low (λ t. allow (owed t)) in
            some_right (applied m.mode op (gathered s ks)) (subst (λ o. IsAnswer (applied m.mode op o)) (sym all.is) (applied_answer i.kind op all.values all.typed)) (past.fine k op ks (occ, is, e) on)
        value_some (If c x y) e allow of low = some_given _ (branch_some c x y occ.block occ.ty e of low (λ t. allow (owed t)))
        value_some (Arrow x y) e allow of low =
            some_given _
            (by_fresh occ.block (main.occs k occ is) (s (AtValue x)) (s (AtValue y))
            (λ t. part_some x occ.block occ.ty (Arrow x y) e (record { index = 0; is = refl }) of.0 low.1 (λ q. allow (owed q)))
            (λ t. part_some y occ.block occ.ty (Arrow x y) e (record { index = 1; is = refl }) of.1 low.2 (λ q. true-false q t)))
        value_some (Pre x) e allow of low =
            some_given _
            (by_fresh occ.block (main.occs k occ is) None (value_in m.before x)
            (λ t. absurd (let z : Late ≡ Early = sym allow.0 ∙ owed t in let g : ⊥ = cc in g))
            (λ t. past.pre t k x (occ, is, e)))
        value_some (Result x) e allow of low = some_given (s (AtValue x)) (part_some x occ.block occ.ty (Result x) e (record { index = 0; is = refl }) of low (λ t. allow (owed t)))
        value_some (Up site) e allow of low = refl
        value_some (Fired ks) e allow of low = fired_some i.kind occ.block ks of.0
        value_some AtAStep e allow of low = refl

        pub occ_some : ReadsValue f P (λ a. ⊤) (Some occ) → IsSome (value_of f m s (Some occ))
        occ_some low =
            subst (λ t. IsSome (if t then answered (answer f m s occ.block occ.form) else None)) (sym (ap (λ c. is_active (s (AtControl c))) (main.occs k occ is) ∙ active))
            (value_some occ.form refl (are.occs k occ is) (w.occs k occ is).form low.1)
