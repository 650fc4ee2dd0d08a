-- At moment 0 of a flow a place of a hybrid block has the value that it had at the instant.
use Rattle.std.specs.Prelude.{◌≡◌, ℕ, suc, ◌+◌, ◌<◌, Bool, true, false, not, ◌&&◌, if◌then◌else◌, List, [], ◌∷◌, slice_get, Option, Some, None, ⊤}
use Rattle.std.specs.List.{AllByRecursion, list_any}
use Rattle.std.proofs.Common.{refl, sym, ap, ap₂, ◌∙◌, arith}
use Rattle.zl_value.specs.Fraction.{Fraction}
use Rattle.zl_value.specs.Times.{nought}
use Rattle.zl_value.specs.Lists.{Has}
use Rattle.zl_value.specs.declared.value.Value.{Value}
use Rattle.zl_value.specs.declared.value.Ty.TheVariants.{Float}
use Rattle.zl_meaning.specs.FlatForm.{FlatForm}
use Rattle.zl_meaning.specs.State.{Table, Node, AtControl, AtPlace, AtValue, State, state_in, is_active}
use Rattle.zl_meaning.specs.History.{Instant, History, state_of}
use Rattle.zl_meaning.specs.Moment.{Moment, is_called}
use Rattle.zl_meaning.specs.Uses.{DefinerOf, SlopeOf}
use Rattle.zl_meaning.specs.Places.{last_of, moved, der_value, defined, has_blank, is_present, place_of}
use Rattle.zl_meaning.specs.Solves.{moment_of}
use Rattle.zl_meaning.specs.Flow.{flow_moment}
use Rattle.zl_meaning.specs.Single.{definer_block, is_start}
use Rattle.zl_meaning.specs.Reading.{Entries, ReadsCall, ReadsDefiner, ReadsPlace, HasNodeRanks}
use Rattle.zl_meaning.specs.WellFormed.{Stands, IsDefiner, IsWellFormed}
use Rattle.zl_meaning.specs.Regular.{is_hybrid_block, is_event}
use Rattle.zl_meaning.specs.Grades.{Grading, IsGraded}
use Rattle.zl_meaning.specs.declared.place.Definer.{Definer}
use Rattle.zl_meaning.specs.declared.place.Definer.TheVariants.{Input, Plain, Der, Start}
use Rattle.zl_meaning.specs.declared.place.DerArm.{DerArm}
use Rattle.zl_meaning.specs.declared.place.PlaceInfo.{PlaceInfo}
use Rattle.zl_meaning.proofs.WrittenForms.{at-start}
use Rattle.zl_meaning.proofs.GradesKept.Typed.{of_same}
use Rattle.zl_meaning.proofs.GradesKept.UsedFlow.{and_first, and_second}
use Rattle.zl_meaning.proofs.GradesKept.GradeTable.{value_of_none, zero_of_up}
use Rattle.zl_meaning.proofs.GradesKept.LinearLaw.{graded_of}
use Rattle.zl_meaning.proofs.GradesKept.StartControls.{apart_blocks}
use Rattle.zl_meaning.proofs.GradesKept.AtStart.{IsStart, StartAt, active_is, flow_not_blank, flow_used, hybrid_same, last_is, made_is, made_used, none_blank, then_not_blank, moved_same}
use Rattle.zl_meaning.proofs.GradesKept.UsedAtStart.{call_same}
use Rattle.zl_meaning.proofs.GradesKept.UsesSay.{plain-used, slope-used}

-- the rest of the definers
next_there : (xs : List Definer) (j : ℕ) (d : Definer) (ds : List Definer) → ((m : ℕ) (e : Definer) → slice_get (d ∷ ds) m ≡ Some e → slice_get xs (j + m) ≡ Some e) → (m : ℕ) (e : Definer) → slice_get ds m ≡ Some e → slice_get xs (suc j + m) ≡ Some e
next_there xs j d ds there m e x = ap (λ c. slice_get xs c) (let z : suc j + m ≡ j + suc m = omega arith in z) ∙ there (suc m) e x

module _ (f : FlatForm) (g : Grading) (h : History) (i : Instant) (at : Fraction → Table) (start : IsStart f g h i at) where
  abbrev r : HasNodeRanks f
  r = start.ground.ranks

  abbrev w : IsWellFormed f
  w = start.ground.formed

  abbrev V0 : State
  V0 = state_in (at nought)

  abbrev S0 : State
  S0 = state_of i

  abbrev M0 : Moment
  M0 = flow_moment f h i nought

  abbrev N0 : Moment
  N0 = moment_of f h start.solved.passed i

  module _ (n : ℕ) (below : (a : Node) → r.rank a < n → StartAt f g h i at start a) where
    abbrev P : Entries
    P a = r.rank a < n

    abbrev Q : Entries
    Q a = ⊤

    -- whether the place has a value
    present_same : (place : PlaceInfo) → is_hybrid_block f place.block ≡ true → ReadsCall P place.call → ((c : ℕ) → place.call ≡ Some c → IsGraded f c) → is_present V0 place ≡ is_present S0 place
    present_same place hy l gr =
        ap₂ (λ x y. x && y) (ap (λ c. is_active c) (hybrid_same f g h i at start place.block hy))
        (ap₂ (λ x y. x && not y) (call_same f g h i at start n below place.call l gr) (none_blank f g h i at start V0 (flow_not_blank f g h i at start) place.definers ∙ sym (none_blank f g h i at start S0 (then_not_blank f g h i at start) place.definers)))

    module _ (p : ℕ) (place : PlaceInfo) (is : slice_get f.places p ≡ Some place) (on : is_active (V0 (AtControl place.block)) ≡ true) (called : is_called V0 place.call ≡ true) (also : is_called S0 place.call ≡ true) (old : Option Value) where
      -- what the instant's equation did with the definers before number `j`: none gave the value, or one did that isn't active in the flow
      data Seen (j : ℕ) (ds : List Definer) : Type 0 where
        Open : S0 (AtPlace p) ≡ defined N0 S0 p ds old → Seen j ds
        Closed : (m : ℕ) (d : Definer) → slice_get place.definers m ≡ Some d → m < j → is_start d ≡ false → is_active (S0 (AtControl (definer_block d))) ≡ true → Seen j ds

      -- two definers of a place aren't both active
      never : (m j : ℕ) (d e : Definer) → slice_get place.definers m ≡ Some d → slice_get place.definers j ≡ Some e → m < j → is_start d ≡ false → is_start e ≡ false → is_active (S0 (AtControl (definer_block d))) ≡ true → is_active (S0 (AtControl (definer_block e))) ≡ true → ⊥
      never m j d e a b low x y p1 p2 =
          apart_blocks f N0 S0 (made_is f g h i at start) (definer_block d) (definer_block e) (start.ground.single.definers p m j place d e is a b (λ q. let z : ⊥ = omega (arith, q, low) in z) (x ∙ sym y)) p1 p2

      -- what an active definer names
      plain_value : (b k : ℕ) → Has place.definers (Plain b k) → Stands f b place.ty k → P (AtValue k) → is_active (V0 (AtControl b)) ≡ true → V0 (AtValue k) ≡ S0 (AtValue k)
      plain_value b k has st l up =
          let used = flow_used f g h i at start k st.occ st.is (ap (λ c. is_active (V0 (AtControl c))) st.block ∙ up) (DefinerOf place.call) (plain-used f k p b place is has) called in
          let event : is_event st.occ.form ≡ false = (start.ground.regular.occs k st.occ st.is).tests (DefinerOf place.call) (plain-used f k p b place is has) in
          let value = value_of_none st.occ.form event (λ site e. (w.places p place is).value (sym st.typed ∙ zero_of_up f w start.ground.regular start.ground.starts k st.occ site st.is e)) in
          below (AtValue k) l (graded_of f g start.ground h i at start.flow start.typed nought at-start k st.occ st.is value used) used
          (made_used f g h i at start k st.occ st.is (ap (λ c. is_active (S0 (AtControl c))) st.block ∙ active_is f g h i at start b up) (DefinerOf place.call) (plain-used f k p b place is has) also)

      -- a variable has moved for no time
      der_value_is : (b slope : ℕ) (arms : List DerArm) → Has place.definers (Der b slope arms) → place.ty ≡ Float → Stands f b Float slope → is_active (V0 (AtControl b)) ≡ true → moved (S0 (AtPlace p)) (S0 (AtValue slope)) nought ≡ S0 (AtPlace p)
      der_value_is b slope arms has ty st up =
          let uses = slope-used f slope p b place arms is has in
          let used = made_used f g h i at start slope st.occ st.is (ap (λ c. is_active (S0 (AtControl c))) st.block ∙ active_is f g h i at start b up) (SlopeOf place.call) uses also in
          moved_same (S0 (AtPlace p)) (S0 (AtValue slope)) (of_same (S0 (AtPlace p)) ty (start.typed.0 (AtPlace p) place is)) (of_same (S0 (AtValue slope)) st.typed (start.typed.0 (AtValue slope) st.occ st.is)) (start.decided.slopes slope place.call uses used)

      -- what the definers give
      defined_same : (j : ℕ) (ds : List Definer) → ((m : ℕ) (d : Definer) → slice_get ds m ≡ Some d → slice_get place.definers (j + m) ≡ Some d) → AllByRecursion (IsDefiner f p place) ds → AllByRecursion (ReadsDefiner P Q p) ds → Seen j ds → defined M0 V0 p ds (last_of M0 V0 p (Some place)) ≡ S0 (AtPlace p)
      defined_same j [] there are l seen = last_is f g h i at start p place is (active_is f g h i at start place.block on)
      defined_same j (Input n ∷ ds) there are l (Open e) = sym e
      defined_same j (Input n ∷ ds) there are l (Closed m d a low x up) =
          absurd (never m j d (Input n) a (ap (λ c. slice_get place.definers c) (let z : j ≡ j + 0 = omega arith in z) ∙ there 0 (Input n) refl) low x refl up (ap (λ b. is_active (S0 (AtControl b))) (sym are.0.1) ∙ active_is f g h i at start place.block on))
      defined_same j (Start b k ∷ ds) there are l seen = defined_same (suc j) ds (next_there place.definers j (Start b k) ds there) are.1 l.1 (start_seen seen)
        where
          start_seen : Seen j (Start b k ∷ ds) → Seen (suc j) ds
          start_seen (Open e) = Open e
          start_seen (Closed m d a low x up) = Closed m d a (omega (arith, low)) x up
      defined_same j (Plain b k ∷ ds) there are l seen =
          go (is_active (V0 (AtControl b))) refl seen (is_active (S0 (AtControl b))) refl (λ s. defined_same (suc j) ds (next_there place.definers j (Plain b k) ds there) are.1 l.1 s)
        where
          here : slice_get place.definers j ≡ Some (Plain b k)
          here = ap (λ c. slice_get place.definers c) (let z : j ≡ j + 0 = omega arith in z) ∙ there 0 (Plain b k) refl

          go : (c : Bool) → is_active (V0 (AtControl b)) ≡ c → Seen j (Plain b k ∷ ds) → (d : Bool) → is_active (S0 (AtControl b)) ≡ d → (Seen (suc j) ds → defined M0 V0 p ds (last_of M0 V0 p (Some place)) ≡ S0 (AtPlace p)) → (if c then V0 (AtValue k) else defined M0 V0 p ds (last_of M0 V0 p (Some place))) ≡ S0 (AtPlace p)
          go true up (Open e) d q rest = plain_value b k (record { index = j; is = here }) are.0.1 l.0.1 up ∙ sym (e ∙ ap (λ x. if x then S0 (AtValue k) else defined N0 S0 p ds old) (active_is f g h i at start b up))
          go true up (Closed m d a low x on2) e q rest = absurd (never m j d (Plain b k) a here low x refl on2 (active_is f g h i at start b up))
          go false up (Closed m d a low x on2) e q rest = rest (Closed m d a (omega (arith, low)) x on2)
          go false up (Open e) true q rest = rest (Closed j (Plain b k) here (omega arith) refl q)
          go false up (Open e) false q rest = rest (Open (e ∙ ap (λ x. if x then S0 (AtValue k) else defined N0 S0 p ds old) q))
      defined_same j (Der b slope arms ∷ ds) there are l seen =
          go (is_active (V0 (AtControl b))) refl seen (is_active (S0 (AtControl b))) refl (λ s. defined_same (suc j) ds (next_there place.definers j (Der b slope arms) ds there) are.1 l.1 s)
        where
          here : slice_get place.definers j ≡ Some (Der b slope arms)
          here = ap (λ c. slice_get place.definers c) (let z : j ≡ j + 0 = omega arith in z) ∙ there 0 (Der b slope arms) refl

          go : (c : Bool) → is_active (V0 (AtControl b)) ≡ c → Seen j (Der b slope arms ∷ ds) → (d : Bool) → is_active (S0 (AtControl b)) ≡ d → (Seen (suc j) ds → defined M0 V0 p ds (last_of M0 V0 p (Some place)) ≡ S0 (AtPlace p)) → (if c then moved (S0 (AtPlace p)) (S0 (AtValue slope)) nought else defined M0 V0 p ds (last_of M0 V0 p (Some place))) ≡ S0 (AtPlace p)
          go true up s d q rest = der_value_is b slope arms (record { index = j; is = here }) are.0.1 are.0.2 up
          go false up (Closed m d a low x on2) e q rest = rest (Closed m d a (omega (arith, low)) x on2)
          go false up (Open e) true q rest = rest (Closed j (Der b slope arms) here (omega arith) refl q)
          go false up (Open e) false q rest = rest (Open (e ∙ ap (λ x. if x then der_value N0 S0 N0.mode p slope arms old else defined N0 S0 p ds old) q))

    -- the value of the place
    pub place_same : (p : ℕ) (place : PlaceInfo) → slice_get f.places p ≡ Some place → is_hybrid_block f place.block ≡ true → ((c : ℕ) → place.call ≡ Some c → IsGraded f c) → ReadsPlace P Q p (Some place) → V0 (AtPlace p) ≡ place_of M0 V0 p (Some place) → S0 (AtPlace p) ≡ place_of N0 S0 p (Some place) → V0 (AtPlace p) ≡ S0 (AtPlace p)
    place_same p place is hy gr l v s = go (is_present V0 place) refl
      where
        go : (b : Bool) → is_present V0 place ≡ b → V0 (AtPlace p) ≡ S0 (AtPlace p)
        go false e =
            v ∙ ap (λ b. if b then defined M0 V0 p place.definers (last_of M0 V0 p (Some place)) else None) e
            ∙ sym (s ∙ ap (λ b. if b then defined N0 S0 p place.definers (last_of N0 S0 p (Some place)) else None) (sym (present_same place hy l.1 gr) ∙ e))
        go true e =
            let on = and_first (is_active (V0 (AtControl place.block))) (is_called V0 place.call && not (list_any (has_blank V0) place.definers)) e in
            let called = and_first (is_called V0 place.call) (not (list_any (has_blank V0) place.definers)) (and_second (is_active (V0 (AtControl place.block))) (is_called V0 place.call && not (list_any (has_blank V0) place.definers)) e) in
            v ∙ ap (λ b. if b then defined M0 V0 p place.definers (last_of M0 V0 p (Some place)) else None) e
            ∙ defined_same p place is on called (sym (call_same f g h i at start n below place.call l.1 gr) ∙ called) (last_of N0 S0 p (Some place)) 0 place.definers (λ m d x. ap (λ c. slice_get place.definers c) (let z : 0 + m ≡ m = omega arith in z) ∙ x) (w.places p place is).definers l.2
            (Open (s ∙ ap (λ b. if b then defined N0 S0 p place.definers (last_of N0 S0 p (Some place)) else None) (sym (present_same place hy l.1 gr) ∙ e)))
