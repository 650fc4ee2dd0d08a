-- The linear law of grades: in a flow what has grade 0 stands still, and what has grade 1 moves on a straight line.
use Rattle.std.specs.Prelude.{◌≡◌, ℕ, zero, suc, ◌<◌, ◌≤◌, Bool, true, false, not, ◌&&◌, ◌||◌, if◌then◌else◌, List, [], ◌∷◌, slice_get, Option, Some, None, ⊤}
use Rattle.std.specs.List.{AllByRecursion, list_any}
use Rattle.std.specs.Option.{option_map, option_and_then}
use Rattle.std.proofs.Common.{refl, sym, ap, ap₂, ◌∙◌, ⊎_elim, subst, arith}
use Rattle.zl_value.specs.Fraction.{Fraction}
use Rattle.zl_value.specs.Times.{nought}
use Rattle.zl_value.specs.Lists.{Has}
use Rattle.zl_value.specs.Operators.{answered}
use Rattle.zl_value.specs.OperatorTypes.{type_of}
use Rattle.zl_value.specs.declared.value.Value.{Value}
use Rattle.zl_value.specs.declared.value.Ty.{Ty}
use Rattle.zl_value.specs.declared.value.Ty.TheVariants.{Float}
use Rattle.zl_value.specs.declared.op.Op.{Op}
use Rattle.zl_value.specs.declared.op.Op.TheVariants.{AddFloat, SubFloat, MulFloat, DivFloat, NegFloat}
use Rattle.zl_meaning.specs.FlatForm.{FlatForm, HasForm}
use Rattle.zl_meaning.specs.State.{Table, Node, AtControl, AtReset, AtLater, AtEntry, AtRunning, AtStrong, AtWeak, AtPlace, AtUsed, AtValue, State, state_in, is_active, is_blank}
use Rattle.zl_meaning.specs.History.{Instant, History, state_of}
use Rattle.zl_meaning.specs.Moment.{InFlow, Moment, is_called}
use Rattle.zl_meaning.specs.Uses.{Use, PartOf, BranchOf, DefinerOf, SlopeOf, EventOf, StartOf, ResetOf, TestOf, ArgumentOf, AgainOf, uses_of, IsUse}
use Rattle.zl_meaning.specs.Occurrences.{gathered, given, applied, answer, value_of, takes, asks, is_asked, used_of}
use Rattle.zl_meaning.specs.Places.{has_blank_start, started, last_of, moved, defined, has_blank, is_present, place_of}
use Rattle.zl_meaning.specs.Equation.{equation}
use Rattle.zl_meaning.specs.Flow.{Flow, flow_moment}
use Rattle.zl_meaning.specs.Reading.{Entries, ReadsValues, ReadsCall, ReadsDefiner, ReadsPlace, ReadsForm, ReadsValue, ReadsUse, ReadsAsked, ReadsUsed, HasNodeRanks}
use Rattle.zl_meaning.specs.WellFormed.{Stands, AllStand, IsForm, IsDefiner, IsWellFormed}
use Rattle.zl_meaning.specs.Regular.{is_value, is_event}
use Rattle.zl_meaning.specs.Grades.{Grading, grade_of, place_grade, IsGraded, op_grade, form_grade, if_graded, greatest_grade, keeps_lines}
use Rattle.zl_meaning.specs.KeepsGrades.{IsMoment, StandsStill}
use Rattle.zl_meaning.specs.declared.place.Definer.{Definer}
use Rattle.zl_meaning.specs.declared.place.Definer.TheVariants.{Input, Plain, Der, Start}
use Rattle.zl_meaning.specs.declared.place.PlaceInfo.{PlaceInfo}
use Rattle.zl_meaning.specs.declared.occurrence.Form.{Form}
use Rattle.zl_meaning.specs.declared.occurrence.Form.TheVariants.{Lit, Read, Last, Op as Apply, If, Arrow, Pre, Result, Up, Fired, Step}
use Rattle.zl_meaning.specs.declared.occurrence.Occ.{Occ}
use Rattle.zl_meaning.proofs.WrittenForms.{at-start}
use Rattle.zl_meaning.proofs.UseCases.{use-of-listed}
use Rattle.zl_meaning.proofs.GradesKept.Typed.{IsTyped, of_same}
use Rattle.zl_meaning.proofs.GradesKept.TypedRuns.{TypedHistory, flow_typed}
use Rattle.zl_meaning.proofs.GradesKept.LineKinds.{Along, IsFloat, IsLine, Moves, Rests, moves, rests, is_line, sum_moves, difference_moves, negative_moves, product_moves, product_moves_right, quotient_moves, LineStands, moved_line}
use Rattle.zl_meaning.proofs.GradesKept.StillFlow.{each, steady}
use Rattle.zl_meaning.proofs.GradesKept.UsedFlow.{used_graded, and_first, and_second}
use Rattle.zl_meaning.proofs.GradesKept.GradeTable.{value_of_none, zero_of_up, table_at, graded_le, condition_still, operand_still, Ground}
use Rattle.zl_meaning.proofs.GradesKept.KeptBy.{KeptBy, kept_branch, kept_given, kept_if, kept_more, kept_same, kept_still, left_max, max_one, plain_le, product_one, product_zero, quotient_one, right_max, zero_max}
use Rattle.zl_meaning.proofs.GradesKept.UsesSay.{asked-by, if-of-branch, plain-used}

module _ (f : FlatForm) (g : Grading) (ground : Ground f g) (h : History) (i : Instant) (at : Fraction → Table) (flow : Flow f h i at) (t : TypedHistory f (i ∷ h)) where
  abbrev r : HasNodeRanks f
  r = ground.ranks

  abbrev w : IsWellFormed f
  w = ground.formed

  abbrev M : Fraction → Moment
  M s = flow_moment f h i s

  abbrev V : Fraction → State
  V s = state_in (at s)

  -- the value of a place
  abbrev pub place_at : ℕ → Along
  place_at p s = V s (AtPlace p)

  -- the value of an occurrence
  abbrev pub value_at : ℕ → Along
  value_at k s = V s (AtValue k)

  -- all that stands in the flow is of its type
  pub typed_at : (s : Fraction) → IsMoment s → IsTyped f (V s)
  typed_at s m = flow_typed f w r h i at t flow s m

  -- each entry is kept by its grade; what is evaluated stands still
  abbrev pub KeptAt : Node → Type 0
  KeptAt (AtPlace p) = KeptBy (place_grade g p) (place_at p)
  KeptAt (AtValue k) = KeptBy (grade_of g k) (value_at k)
  KeptAt (AtUsed k) = (s : Fraction) → IsMoment s → V s (AtUsed k) ≡ V nought (AtUsed k)
  KeptAt _ = Unit {0}

  -- controls stand still
  control_still : (b : ℕ) (s : Fraction) → IsMoment s → V s (AtControl b) ≡ V nought (AtControl b)
  control_still b s m = steady f r h i at flow s nought m at-start (AtControl b) tt

  pub active_still : (b : ℕ) (s : Fraction) → IsMoment s → is_active (V s (AtControl b)) ≡ is_active (V nought (AtControl b))
  active_still b s m = ap (λ c. is_active c) (control_still b s m)

  -- what is evaluated and no event is graded
  pub graded_of : (s : Fraction) → IsMoment s → (k : ℕ) (occ : Occ) → slice_get f.occs k ≡ Some occ → is_value occ.form ≡ true → V s (AtUsed k) ≡ true → IsGraded f k
  graded_of s m k occ is value e = used_graded f r h i at flow s m w ground.regular ground.main ground.starts k occ is value e

  -- an occurrence of type float is a number, or nowhere
  pub is_floats : (b k : ℕ) → Stands f b Float k → IsFloat (value_at k)
  is_floats b k st s m = of_same (V s (AtValue k)) st.typed (typed_at s m (AtValue k) st.occ st.is)

  -- what comes by `last` is the same at all moments
  started_is : (s : Fraction) (ds : List Definer) (x : Option Value) → started (M s) (V s) ds x ≡ x
  started_is s [] x = refl
  started_is s (Input n ∷ ds) x = started_is s ds x
  started_is s (Plain b k ∷ ds) x = started_is s ds x
  started_is s (Der b slope arms ∷ ds) x = started_is s ds x
  started_is s (Start b k ∷ ds) x = started_is s ds x

  -- whether the block of an `init` is blank
  blank_start_still : (s : Fraction) → IsMoment s → (ds : List Definer) → list_any (has_blank_start (V s)) ds ≡ list_any (has_blank_start (V nought)) ds
  blank_start_still s m [] = refl
  blank_start_still s m (Input n ∷ ds) = blank_start_still s m ds
  blank_start_still s m (Plain b k ∷ ds) = blank_start_still s m ds
  blank_start_still s m (Der b slope arms ∷ ds) = blank_start_still s m ds
  blank_start_still s m (Start b k ∷ ds) = ap₂ (λ x y. is_blank x || y) (control_still b s m) (blank_start_still s m ds)

  -- and so is what `last` gives
  last_still : (p : ℕ) (o : Option PlaceInfo) → StandsStill (λ s. last_of (M s) (V s) p o)
  last_still p None s m = refl
  last_still p (Some place) s m =
      ap₂ (λ c v. if c then None else v) (blank_start_still s m place.definers) (started_is s place.definers _ ∙ sym (started_is nought place.definers _))

  module _ (n : ℕ) (kept : (a : Node) → r.rank a < n → KeptAt a) where
    abbrev P : Entries
    P a = r.rank a < n

    abbrev Q : Entries
    Q a = ⊤

    -- operators
    AllZero : List ℕ → Type 0
    AllZero ks = AllByRecursion (λ j. grade_of g j ≡ 0) ks

    -- what is gathered from operands of grade 0 stands still
    gathered_still : (ks : List ℕ) → ReadsValues P ks → AllZero ks → (s : Fraction) → IsMoment s → gathered (V s) ks ≡ gathered (V nought) ks
    unfolding AllZero
    gathered_still [] l z s m = refl
    gathered_still (k ∷ ks) l z s m =
        ap₂ (λ v vs. option_and_then (λ x. option_map (λ xs. x ∷ xs) vs) v) ((kept (AtValue k) l.0).0 z.0 s m) (gathered_still ks l.1 z.1 s m)

    -- the operands of an operator of grade 0 have grade 0
    all_zero : (b : ℕ) (op : Op) (ks : List ℕ) → AllStand f b (type_of op).operands ks → op_grade g op ks ≡ 0 → (keeps_lines op ≡ false → AllZero ks) → AllZero ks
    unfolding AllZero
    all_zero b AddFloat [] st e needs = absurd st
    all_zero b AddFloat (x ∷ []) st e needs = absurd st.1
    all_zero b AddFloat (x ∷ y ∷ []) st e needs = let z = zero_max {a = grade_of g x} {b = grade_of g y} e in (z.0, (z.1, tt))
    all_zero b AddFloat (x ∷ y ∷ u ∷ ks) st e needs = absurd st.1.1
    all_zero b SubFloat [] st e needs = absurd st
    all_zero b SubFloat (x ∷ []) st e needs = absurd st.1
    all_zero b SubFloat (x ∷ y ∷ []) st e needs = let z = zero_max {a = grade_of g x} {b = grade_of g y} e in (z.0, (z.1, tt))
    all_zero b SubFloat (x ∷ y ∷ u ∷ ks) st e needs = absurd st.1.1
    all_zero b MulFloat [] st e needs = absurd st
    all_zero b MulFloat (x ∷ []) st e needs = absurd st.1
    all_zero b MulFloat (x ∷ y ∷ []) st e needs = let z = product_zero (grade_of g x) (grade_of g y) e in (z.0, (z.1, tt))
    all_zero b MulFloat (x ∷ y ∷ u ∷ ks) st e needs = absurd st.1.1
    all_zero b DivFloat [] st e needs = absurd st
    all_zero b DivFloat (x ∷ []) st e needs = absurd st.1
    all_zero b DivFloat (x ∷ y ∷ []) st e needs =
        let q = quotient_one (grade_of g x) (grade_of g y) 0 (omega arith) (omega (arith, e)) in let z : grade_of g x ≡ 0 = (let l = q.0 in omega (arith, l)) in (z, (q.1, tt))
    all_zero b DivFloat (x ∷ y ∷ u ∷ ks) st e needs = absurd st.1.1
    all_zero b NegFloat [] st e needs = absurd st
    all_zero b NegFloat (x ∷ []) st e needs = (e, tt)
    all_zero b NegFloat (x ∷ y ∷ ks) st e needs = absurd st.1
    all_zero b op ks st e needs = needs refl

    -- what has a grade of at most 1 is on a line
    line_of : (k : ℕ) → P (AtValue k) → grade_of g k ≤ 1 → IsLine (value_at k)
    line_of k l le = (kept (AtValue k) l).1 le

    -- a number of grade at most 1 moves
    moves_of : (b k : ℕ) → Stands f b Float k → P (AtValue k) → grade_of g k ≤ 1 → Moves (value_at k)
    moves_of b k st l le = moves (value_at k) (is_floats b k st) (line_of k l le)

    -- a number of grade 0 rests
    rests_of : (b k : ℕ) → Stands f b Float k → P (AtValue k) → grade_of g k ≡ 0 → Rests (value_at k)
    rests_of b k st l e = rests (value_at k) (is_floats b k st) ((kept (AtValue k) l).0 e)

    -- an operator of operands that stand still
    op_still : (op : Op) (ks : List ℕ) → ReadsValues P ks → AllZero ks → StandsStill (λ s. answered (applied InFlow op (gathered (V s) ks)))
    op_still op ks l z s m = ap (λ o. answered (applied InFlow op o)) (gathered_still ks l z s m)

    -- an operator with a grade of at most 1
    op_line : (b : ℕ) (op : Op) (ks : List ℕ) → AllStand f b (type_of op).operands ks → ReadsValues P ks → op_grade g op ks ≤ 1 → (keeps_lines op ≡ false → AllZero ks) → IsLine (λ s. answered (applied InFlow op (gathered (V s) ks)))
    op_line b AddFloat [] st l e needs = absurd st
    op_line b AddFloat (x ∷ []) st l e needs = absurd st.1
    op_line b AddFloat (x ∷ y ∷ []) st l e needs =
        let z = max_one {a = grade_of g x} {b = grade_of g y} e in is_line _ (sum_moves (value_at x) (value_at y) (moves_of b x st.0 l.0 z.0) (moves_of b y st.1.0 l.1.0 z.1))
    op_line b AddFloat (x ∷ y ∷ u ∷ ks) st l e needs = absurd st.1.1
    op_line b SubFloat [] st l e needs = absurd st
    op_line b SubFloat (x ∷ []) st l e needs = absurd st.1
    op_line b SubFloat (x ∷ y ∷ []) st l e needs =
        let z = max_one {a = grade_of g x} {b = grade_of g y} e in is_line _ (difference_moves (value_at x) (value_at y) (moves_of b x st.0 l.0 z.0) (moves_of b y st.1.0 l.1.0 z.1))
    op_line b SubFloat (x ∷ y ∷ u ∷ ks) st l e needs = absurd st.1.1
    op_line b MulFloat [] st l e needs = absurd st
    op_line b MulFloat (x ∷ []) st l e needs = absurd st.1
    op_line b MulFloat (x ∷ y ∷ []) st l e needs =
        ⊎_elim
        (λ z. is_line _ (product_moves_right (value_at x) (value_at y) (rests_of b x st.0 l.0 z.0) (moves_of b y st.1.0 l.1.0 z.1)))
        (λ z. is_line _ (product_moves (value_at x) (value_at y) (moves_of b x st.0 l.0 z.0) (rests_of b y st.1.0 l.1.0 z.1)))
        (product_one (grade_of g x) (grade_of g y) e)
    op_line b MulFloat (x ∷ y ∷ u ∷ ks) st l e needs = absurd st.1.1
    op_line b DivFloat [] st l e needs = absurd st
    op_line b DivFloat (x ∷ []) st l e needs = absurd st.1
    op_line b DivFloat (x ∷ y ∷ []) st l e needs =
        let z = quotient_one (grade_of g x) (grade_of g y) 1 (omega arith) e in is_line _ (quotient_moves (value_at x) (value_at y) (moves_of b x st.0 l.0 z.0) (rests_of b y st.1.0 l.1.0 z.1))
    op_line b DivFloat (x ∷ y ∷ u ∷ ks) st l e needs = absurd st.1.1
    op_line b NegFloat [] st l e needs = absurd st
    op_line b NegFloat (x ∷ []) st l e needs = is_line _ (negative_moves (value_at x) (moves_of b x st.0 l.0 e))
    op_line b NegFloat (x ∷ y ∷ ks) st l e needs = absurd st.1
    op_line b op ks st l e needs = LineStands (op_still op ks l (needs refl))

    -- the answers of an occurrence with a grade up to 2
    answer_kept : (k b : ℕ) (ty : Ty) (occ : Occ) → slice_get f.occs k ≡ Some occ → (form : Form) → occ.form ≡ form → IsForm f b ty form → ReadsForm f P Q b form → grade_of g k ≤ 2 → KeptBy (form_grade g form) (λ s. answered (answer f (M s) (V s) b form))
    unfolding AllZero
    answer_kept k b ty occ is (Lit v) e st l le = kept_still _ _ (λ s m. refl)
    answer_kept k b ty occ is (Read p) e st l le = kept_given (place_grade g p) (place_at p) (kept (AtPlace p) l)
    answer_kept k b ty occ is (Last p) e st l le = kept_still _ _ (λ s m. ap (λ v. answered (given v)) (last_still p (slice_get f.places p) s m))
    answer_kept k b ty occ is (Apply op ks) e st l le =
        let needs : keeps_lines op ≡ false → AllZero ks = λ keeps. needed ks (λ j has. operand_still f w ground.regular ground.starts g ground.grades ground.fine k j op ks occ is e keeps has le) in
        (λ z. op_still op ks l (all_zero b op ks st.0 z needs), λ o. op_line b op ks st.0 l o needs)
      where
        needed : (js : List ℕ) → ((j : ℕ) → Has js j → grade_of g j ≡ 0) → AllZero js
        needed [] all = tt
        needed (j ∷ js) all = (all j (record { index = 0; is = refl }), needed js (λ x has. all x (record { index = suc has.index; is = has.is })))
    answer_kept k b ty occ is (If c x y) e st l le =
        kept_given _ _ (kept_branch _ (value_at c) (value_at x) (value_at y)
        ((kept (AtValue c) l.0).0 (condition_still f w ground.regular ground.starts g ground.grades ground.fine k c x y occ is e le))
        (kept_more (grade_of g x) _ (value_at x) (left_max (grade_of g x) (grade_of g y) _ (omega arith)) (kept (AtValue x) l.1))
        (kept_more (grade_of g y) _ (value_at y) (right_max (grade_of g x) (grade_of g y) _ (omega arith)) (kept (AtValue y) l.2)))
    answer_kept k b ty occ is (Arrow x y) e st l le = kept_given (grade_of g y) (value_at y) (kept (AtValue y) l.2)
    answer_kept k b ty occ is (Pre x) e st l le = kept_still _ _ (λ s m. refl)
    answer_kept k b ty occ is (Result x) e st l le = kept_given (grade_of g x) (value_at x) (kept (AtValue x) l)
    answer_kept k b ty occ is (Up site) e st l le = kept_still _ _ (λ s m. refl)
    answer_kept k b ty occ is (Fired ks) e st l le = kept_still _ _ (λ s m. refl)
    answer_kept k b ty occ is Step e st l le = kept_still _ _ (λ s m. refl)

    -- only a grade of at most 2 says anything
    two_if : (k : ℕ) (x : Along) → (grade_of g k ≤ 2 → KeptBy (grade_of g k) x) → KeptBy (grade_of g k) x
    two_if k x make = (λ z. (make (omega (arith, z))).0 z, λ l. (make (omega (arith, l))).1 l)

    -- the value of an occurrence
    value_kept : (k : ℕ) (o : Option Occ) → slice_get f.occs k ≡ o → ReadsValue f P Q o → KeptBy (grade_of g k) (λ s. value_of f (M s) (V s) o)
    value_kept k None is l = kept_still _ _ (λ s m. refl)
    value_kept k (Some occ) is l =
        two_if k _ (λ le.
        let e = table_at f w ground.regular ground.starts g ground.grades k occ is le in
        kept_if (grade_of g k) (λ s. is_active (V s (AtControl occ.block))) (λ s. answered (answer f (M s) (V s) occ.block occ.form)) (λ s. None) (λ s m. active_still occ.block s m)
        (λ on. subst (λ j. KeptBy j (λ s. answered (answer f (M s) (V s) occ.block occ.form))) (sym e) (answer_kept k occ.block occ.ty occ is occ.form refl (w.occs k occ is).form l.1 le))
        (λ off. kept_still _ _ (λ s m. refl)))

    -- whether an occurrence is evaluated
    call_still : (c : Option ℕ) → ReadsCall P c → (s : Fraction) → IsMoment s → is_called (V s) c ≡ is_called (V nought) c
    call_still None l s m = refl
    call_still (Some c) l s m = kept (AtUsed c) l s m

    -- whether a branch is taken: the condition of a graded `if` stands still
    takes_still : (k whole condition : ℕ) (side : Bool) → IsUse f k (BranchOf whole condition side) → P (AtUsed whole) → P (AtValue condition) → (s : Fraction) → IsMoment s → (V s (AtUsed whole) && takes side (V s (AtValue condition))) ≡ (V nought (AtUsed whole) && takes side (V nought (AtValue condition)))
    takes_still k whole condition side has l q s m = go (V nought (AtUsed whole)) refl
      where
        go : (b : Bool) → V nought (AtUsed whole) ≡ b → (V s (AtUsed whole) && takes side (V s (AtValue condition))) ≡ (V nought (AtUsed whole) && takes side (V nought (AtValue condition)))
        go false e = ap (λ x. x && takes side (V s (AtValue condition))) (kept (AtUsed whole) l s m ∙ e) ∙ sym (ap (λ x. x && takes side (V nought (AtValue condition))) e)
        go true e =
            let parts_of = if-of-branch f k whole condition side has in
            let there : HasForm f whole (If condition parts_of.0 parts_of.1) = parts_of.2 in
            let value = ap (λ form. is_value form) there.2 in
            let gr = graded_of nought at-start whole there.0 there.1 value e in
            let le = graded_le f w ground.regular ground.starts g ground.grades whole gr in
            let z = condition_still f w ground.regular ground.starts g ground.grades ground.fine whole condition parts_of.0 parts_of.1 there.0 there.1 there.2 le in
            ap₂ (λ x y. x && takes side y) (kept (AtUsed whole) l s m) ((kept (AtValue condition) q).0 z s m)

    -- whether a use asks
    asks_still : (k : ℕ) (u : Use) → IsUse f k u → ReadsUse P Q u → (s : Fraction) → IsMoment s → asks (M s) (V s) u ≡ asks (M nought) (V nought) u
    asks_still k (PartOf whole) has l s m = kept (AtUsed whole) l s m
    asks_still k (BranchOf whole condition side) has l s m = takes_still k whole condition side has l.0 l.1 s m
    asks_still k (DefinerOf call) has l s m = call_still call l s m
    asks_still k (SlopeOf call) has l s m = call_still call l s m
    asks_still k (EventOf call) has l s m = call_still call l s m
    asks_still k (StartOf call b) has l s m = ap (λ x. x && false) (call_still call l.0 s m)
    asks_still k (ResetOf call events arm) has l s m = ap (λ x. x && false) (call_still call l.0 s m)
    asks_still k TestOf has l s m = refl
    asks_still k ArgumentOf has l s m = refl
    asks_still k AgainOf has l s m = refl

    -- whether one of some uses does
    any_still : (k : ℕ) (us : List Use) → ((u : Use) → Has us u → IsUse f k u) → AllByRecursion (ReadsUse P Q) us → (s : Fraction) → IsMoment s → list_any (asks (M s) (V s)) us ≡ list_any (asks (M nought) (V nought)) us
    any_still k [] has l s m = refl
    any_still k (u ∷ us) has l s m =
        ap₂ (λ x y. x || y) (asks_still k u (has u (record { index = 0; is = refl })) l.0 s m) (any_still k us (λ v x. has v (record { index = suc x.index; is = x.is })) l.1 s m)

    -- whether anything asks for it
    asked_still : (k : ℕ) (call : Option ℕ) (us : List Use) → ((u : Use) → Has us u → IsUse f k u) → ReadsAsked P Q call us → (s : Fraction) → IsMoment s → is_asked (M s) (V s) call us ≡ is_asked (M nought) (V nought) call us
    asked_still k call [] has l s m = call_still call l s m
    asked_still k call (u ∷ us) has l s m = any_still k (u ∷ us) has l s m

    -- so whether an occurrence is evaluated stands still
    used_kept : (k : ℕ) (o : Option Occ) → ReadsUsed f P Q k o → (s : Fraction) → IsMoment s → used_of f (M s) (V s) k o ≡ used_of f (M nought) (V nought) k o
    used_kept k None l s m = refl
    used_kept k (Some occ) l s m = ap₂ (λ x y. x && y) (active_still occ.block s m) (asked_still k occ.call (uses_of f k) (use-of-listed f k) l.1 s m)

    -- places
    blank_still : (s : Fraction) → IsMoment s → (ds : List Definer) → list_any (has_blank (V s)) ds ≡ list_any (has_blank (V nought)) ds
    blank_still s m [] = refl
    blank_still s m (Input n ∷ ds) = blank_still s m ds
    blank_still s m (Plain b k ∷ ds) = ap₂ (λ x y. is_blank x || y) (control_still b s m) (blank_still s m ds)
    blank_still s m (Der b slope arms ∷ ds) = ap₂ (λ x y. is_blank x || y) (control_still b s m) (blank_still s m ds)
    blank_still s m (Start b k ∷ ds) = ap₂ (λ x y. is_blank x || y) (control_still b s m) (blank_still s m ds)

    -- whether a place has a value
    present_still : (place : PlaceInfo) → ReadsCall P place.call → (s : Fraction) → IsMoment s → is_present (V s) place ≡ is_present (V nought) place
    present_still place l s m = ap₂ (λ x y. x && y) (active_still place.block s m) (ap₂ (λ x y. x && not y) (call_still place.call l s m) (blank_still s m place.definers))

    -- an occurrence that an active definer of an evaluated place names is evaluated, and has its grade
    plain_used : (p : ℕ) (place : PlaceInfo) (b k : ℕ) → slice_get f.places p ≡ Some place → Has place.definers (Plain b k) → Stands f b place.ty k → is_called (V nought) place.call ≡ true → is_active (V nought (AtControl b)) ≡ true → V nought (AtUsed k) ≡ true
    unfolding equation
    plain_used p place b k is has st called on =
        each f r h i at flow nought at-start (AtUsed k)
        ∙ ap (λ o. used_of f (M nought) (V nought) k o) st.is
        ∙ ap₂ (λ x y. x && y) (ap (λ c. is_active (V nought (AtControl c))) st.block ∙ on) (asked-by f k (M nought) (V nought) st.occ.call (DefinerOf place.call) (plain-used f k p b place is has) called)

    -- it is graded
    pub plain_graded : (p : ℕ) (place : PlaceInfo) (b k : ℕ) → slice_get f.places p ≡ Some place → Has place.definers (Plain b k) → Stands f b place.ty k → V nought (AtUsed k) ≡ true → grade_of g k ≤ 2
    plain_graded p place b k is has st used =
        let event : is_event st.occ.form ≡ false = (ground.regular.occs k st.occ st.is).tests (DefinerOf place.call) (plain-used f k p b place is has) in
        let value = value_of_none st.occ.form event (λ site e. (w.places p place is).value (sym st.typed ∙ zero_of_up f w ground.regular ground.starts k st.occ site st.is e)) in
        graded_le f w ground.regular ground.starts g ground.grades k (graded_of nought at-start k st.occ st.is value used)

    -- what the definers of a place give
    defined_kept : (p : ℕ) (place : PlaceInfo) (n : ℕ) → slice_get f.places p ≡ Some place → is_called (V nought) place.call ≡ true → (ds : List Definer) → ((d : Definer) → Has ds d → Has place.definers d) → AllByRecursion (IsDefiner f p place) ds → AllByRecursion (ReadsDefiner P Q p) ds → greatest_grade g ds ≤ n → (last : Along) → StandsStill last → KeptBy n (λ s. defined (M s) (V s) p ds (last s))
    defined_kept p place n is called [] has are l le last still = kept_still n last still
    defined_kept p place n is called (Input j ∷ ds) has are l le last still = kept_still n _ (λ s m. refl)
    defined_kept p place n is called (Plain b k ∷ ds) has are l le last still =
        kept_if n (λ s. is_active (V s (AtControl b))) (value_at k) (λ s. defined (M s) (V s) p ds (last s)) (λ s m. active_still b s m)
        (λ on.
        let here = has (Plain b k) (record { index = 0; is = refl }) in
        let two = plain_graded p place b k is here are.0.1 (plain_used p place b k is here are.0.1 called on) in
        let e = plain_le (grade_of g k) two in
        let most = left_max (if_graded (grade_of g k)) (greatest_grade g ds) n le in
        kept_more (grade_of g k) n (value_at k) (omega (arith, e, most)) (kept (AtValue k) l.0.1))
        (λ off. defined_kept p place n is called ds (λ d x. has d (record { index = suc x.index; is = x.is })) are.1 l.1 (right_max (if_graded (grade_of g k)) (greatest_grade g ds) n le) last still)
    defined_kept p place n is called (Der b slope arms ∷ ds) has are l le last still =
        kept_if n (λ s. is_active (V s (AtControl b))) (λ s. moved (state_of i (AtPlace p)) (state_of i (AtValue slope)) s) (λ s. defined (M s) (V s) p ds (last s)) (λ s m. active_still b s m)
        (λ on.
        let most = left_max 1 (greatest_grade g ds) n le in (
          λ z. absurd (let x : ⊥ = omega (arith, z, most) in x),
          λ o. moved_line (state_of i (AtPlace p)) (state_of i (AtValue slope)) (of_same (state_of i (AtPlace p)) are.0.1 (t.0 (AtPlace p) place is)) (of_same (state_of i (AtValue slope)) are.0.2.typed (t.0 (AtValue slope) are.0.2.occ are.0.2.is)),
        ))
        (λ off. defined_kept p place n is called ds (λ d x. has d (record { index = suc x.index; is = x.is })) are.1 l.1 (right_max 1 (greatest_grade g ds) n le) last still)
    defined_kept p place n is called (Start b k ∷ ds) has are l le last still =
        defined_kept p place n is called ds (λ d x. has d (record { index = suc x.index; is = x.is })) are.1 l.1 (right_max 0 (greatest_grade g ds) n le) last still

    -- the value of a place
    place_kept : (p : ℕ) (o : Option PlaceInfo) → slice_get f.places p ≡ o → ReadsPlace P Q p o → KeptBy (place_grade g p) (λ s. place_of (M s) (V s) p o)
    place_kept p None is l = kept_still _ _ (λ s m. refl)
    place_kept p (Some place) is l =
        let e = ground.grades.places p place is in
        kept_if (place_grade g p) (λ s. is_present (V s) place) (λ s. defined (M s) (V s) p place.definers (last_of (M s) (V s) p (Some place))) (λ s. None) (λ s m. present_still place l.1 s m)
        (λ on.
        let called = and_first (is_called (V nought) place.call) (not (list_any (has_blank (V nought)) place.definers)) (and_second (is_active (V nought (AtControl place.block))) (is_called (V nought) place.call && not (list_any (has_blank (V nought)) place.definers)) on) in
        defined_kept p place (place_grade g p) is called place.definers (λ d x. x) (w.places p place is).definers l.2 (omega (arith, e)) (λ s. last_of (M s) (V s) p (Some place)) (last_still p (Some place)))
        (λ off. kept_still _ _ (λ s m. refl))

  -- by rank
  kept_below : (n : ℕ) (a : Node) → r.rank a < n → KeptAt a
  unfolding equation
  kept_below zero a l = absurd (omega (arith, l))
  kept_below (suc n) (AtPlace p) l =
      kept_same (place_grade g p) _ (place_at p) (λ s m. sym (each f r h i at flow s m (AtPlace p)))
      (place_kept (r.rank (AtPlace p)) (λ a low. kept_below n a (omega (arith, l, low))) p (slice_get f.places p) refl (r.lower (AtPlace p)))
  kept_below (suc n) (AtValue k) l =
      kept_same (grade_of g k) _ (value_at k) (λ s m. sym (each f r h i at flow s m (AtValue k)))
      (value_kept (r.rank (AtValue k)) (λ a low. kept_below n a (omega (arith, l, low))) k (slice_get f.occs k) refl (r.lower (AtValue k)))
  kept_below (suc n) (AtUsed k) l = λ s m.
      each f r h i at flow s m (AtUsed k)
      ∙ used_kept (r.rank (AtUsed k)) (λ a low. kept_below n a (omega (arith, l, low))) k (slice_get f.occs k) (r.lower (AtUsed k)) s m
      ∙ sym (each f r h i at flow nought at-start (AtUsed k))
  kept_below (suc n) (AtControl b) l = tt
  kept_below (suc n) (AtReset b) l = tt
  kept_below (suc n) (AtLater b) l = tt
  kept_below (suc n) (AtEntry b) l = tt
  kept_below (suc n) (AtRunning b) l = tt
  kept_below (suc n) (AtStrong b) l = tt
  kept_below (suc n) (AtWeak b) l = tt

  -- everything moves as its grade says
  pub kept_at : (a : Node) → KeptAt a
  kept_at a = kept_below (suc (r.rank a)) a (omega arith)
