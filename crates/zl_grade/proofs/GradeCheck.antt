-- A table of grades, and what is needed of it, checked by computation, in forms without calls whose `init` values and reset
-- values have no parts.
use Rattle.std.specs.Option.{option_and_then}
use Rattle.std.specs.List.{list_any}
use Rattle.std.specs.Prelude.{Option, None, nat_lt}
use Rattle.std.proofs.Common.{◌≡◌, ℕ, zero, suc, ◌+◌, ◌<◌, Bool, true, false, nat_eq, ◌&&◌, if◌then◌else◌, List, [], ◌∷◌, length, get_or, slice_get, Some, refl, ap, ap₂, ◌∙◌, subst, arith, ⊎_elim}
use Rattle.std.proofs.lemmas.Bool.{cases_lt, eqb-true, ltb-true, lt-ltb}
use Rattle.std.proofs.lemmas.List.{get_or_past}
use Rattle.std.proofs.lemmas.Option.{slice_get_cases}
use Rattle.zl_value.specs.Lists.{Has, among}
use Rattle.zl_meaning.specs.FlatForm.{FlatForm, call_of}
use Rattle.zl_meaning.specs.Uses.{Use, StartOf, ResetOf, IsUse, parts}
use Rattle.zl_meaning.specs.Branches.{IsPart, Under, Is, Part, Called}
use Rattle.zl_meaning.specs.Copies.{IsApart, InStart, InReset}
use Rattle.zl_meaning.specs.Grades.{Grading, AreGrades, grade_of, greatest_grade, place_grade}
use Rattle.zl_meaning.specs.GradesLaw.{AreAllowed}
use Rattle.zl_meaning.specs.declared.occurrence.Occ.{Occ}
use Rattle.zl_meaning.specs.declared.place.PlaceInfo.{PlaceInfo}
use Rattle.zl_meaning.proofs.Members.{among-has, any-has, both-hold, has-among, has-any, has-none}
use Rattle.zl_meaning.proofs.WrittenForms.{some-same, true-false}
use Rattle.zl_grade.specs.Apart.{AreApart, set_values}
use Rattle.zl_grade.specs.Equations.{given_occ}
use Rattle.zl_grade.specs.Marks.{AreMarks, HasMarks, mark_of}
use Rattle.zl_grade.specs.Needs.{IsFirstOver, IsOver, needs_of}
use Rattle.zl_grade.specs.Refused.{IsFirstOverGraded}
use Rattle.zl_grade.specs.declared.needs.Need.{Need}
use Rattle.zl_grade.proofs.MarkLaws.{graded_marked, unmarked}
use Rattle.zl_grade.proofs.Marked.{are_marks}
use Rattle.zl_grade.proofs.OutcomeLaws.{allowed, first_over_graded}
use Rattle.zl_grade.proofs.UnderValues.{apart-set, set-by-reset, set-by-start}

-- ---- lists with numbers

-- a test that holds of each entry, with its number
abbrev all_from : {X : Type 0} → (ℕ → X → Bool) → ℕ → List X → Bool
all_from test n [] = true
all_from test n (x ∷ xs) = test n x && all_from test (suc n) xs

entry-from : {X : Type 0} (test : ℕ → X → Bool) (n m k : ℕ) (xs : List X) (x : X) → all_from test n xs ≡ true → m ≡ n + k → slice_get xs k ≡ Some x → test m x ≡ true
entry-from test n m k [] x all same is = absurd (cc)
entry-from test n m zero (y ∷ xs) x all same is =
    let here : n ≡ m = omega (arith, same) in
    subst (λ j. test j x ≡ true) here (subst (λ z. test n z ≡ true) (some-same is) (both-hold all).0)
entry-from test n m (suc k) (y ∷ xs) x all same is = entry-from test (suc n) m k xs x (both-hold all).1 (omega (arith, same)) is

entry : {X : Type 0} (test : ℕ → X → Bool) (k : ℕ) (xs : List X) (x : X) → all_from test 0 xs ≡ true → slice_get xs k ≡ Some x → test k x ≡ true
entry test k xs x all is = entry-from test 0 k k xs x all (omega arith) is

-- what each entry gives, with its number
abbrev each_from : {X Y : Type 0} → (ℕ → X → Y) → ℕ → List X → List Y
each_from give n [] = []
each_from give n (x ∷ xs) = give n x ∷ each_from give (suc n) xs

each-length : {X Y : Type 0} (give : ℕ → X → Y) (n : ℕ) (xs : List X) → length (each_from give n xs) ≡ length xs
each-length give n [] = refl
each-length give n (x ∷ xs) = ap suc (each-length give (suc n) xs)

each-at : {X Y : Type 0} (give : ℕ → X → Y) (n m k : ℕ) (xs : List X) (x : X) → m ≡ n + k → slice_get xs k ≡ Some x → slice_get (each_from give n xs) k ≡ Some (give m x)
each-at give n m k [] x same is = absurd (cc)
each-at give n m zero (y ∷ xs) x same is =
    let here : n ≡ m = omega (arith, same) in
    ap (λ z. Some (give n z)) (some-same is) ∙ ap (λ j. Some (give j x)) here
each-at give n m (suc k) (y ∷ xs) x same is = each-at give (suc n) m k xs x (omega (arith, same)) is

each-of : {X Y : Type 0} (give : ℕ → X → Y) (n m k : ℕ) (xs : List X) (y : Y) → m ≡ n + k → slice_get (each_from give n xs) k ≡ Some y → (x : X) × (slice_get xs k ≡ Some x) × (give m x ≡ y)
each-of give n m k [] y same is = absurd (cc)
each-of give n m zero (x ∷ xs) y same is =
    let here : m ≡ n = omega (arith, same) in
    (x, refl, ap (λ j. give j x) here ∙ some-same is)
each-of give n m (suc k) (x ∷ xs) y same is = each-of give (suc n) m k xs y (omega (arith, same)) is

-- ---- the tests

-- an occurrence is outside calls, and has no parts if it is an `init` value or a reset value
abbrev no_call : Option ℕ → Bool
no_call None = true
no_call (Some call) = false

abbrev is_empty : List ℕ → Bool
is_empty [] = true
is_empty (k ∷ ks) = false

abbrev is_plain : List ℕ → ℕ → Occ → Bool
is_plain values k occ = no_call occ.call && (if among k values then is_empty (parts occ.form) else true)

-- such values are set apart, and what isn't is marked, if it is graded
abbrev apart_of : FlatForm → List Bool
apart_of f = each_from (λ k (occ : Occ). among k (set_values f.places)) 0 f.occs

abbrev marks_of : FlatForm → List Bool
marks_of f = each_from (λ k (occ : Occ). mark_of f.blocks occ (among k (set_values f.places))) 0 f.occs

-- the grades are those of the equations
abbrev is_fine : List Bool → Grading → ℕ → Occ → Bool
is_fine marks g k occ = nat_eq (grade_of g k) (given_occ g (get_or marks k false) (Some occ))

abbrev is_fine_place : Grading → ℕ → PlaceInfo → Bool
is_fine_place g p place = nat_eq (place_grade g p) (greatest_grade g place.definers)

-- the whole table
pub record IsChecked (f : FlatForm) (g : Grading) : Type 0 where
  pub occs_length : length g.occs ≡ length f.occs
  pub places_length : length g.places ≡ length f.places
  pub plain : all_from (is_plain (set_values f.places)) 0 f.occs ≡ true
  pub occs : all_from (is_fine (marks_of f) g) 0 f.occs ≡ true
  pub places : all_from (is_fine_place g) 0 f.places ≡ true

-- a greater grade than is needed, of occurrence number `k`, of one before it
abbrev is_over : Grading → Need → Bool
is_over g one = nat_lt one.limit (grade_of g one.occ)

abbrev is_over_at : Grading → ℕ → Need → Bool
is_over_at g k one = is_over g one && nat_eq one.occ k

abbrev is_over_before : Grading → ℕ → Need → Bool
is_over_before g k one = is_over g one && nat_lt one.occ k

-- none has a greater one; number `k` is the first that has
abbrev pub NoneIsOver : FlatForm → Grading → Type 0
NoneIsOver f g = list_any (is_over g) (needs_of f (marks_of f)) ≡ false

pub record FirstIsOver (f : FlatForm) (g : Grading) (k : ℕ) : Type 0 where
  pub here : list_any (is_over_at g k) (needs_of f (marks_of f)) ≡ true
  pub before : list_any (is_over_before g k) (needs_of f (marks_of f)) ≡ false

module _ (f : FlatForm) (g : Grading) (checked : IsChecked f g) where
  -- ---- what stands under such a value is one

  outside : (k call : ℕ) → call_of f k ≡ Some call → ⊥
  outside k call = by_entry (slice_get f.occs k) refl
    where
      none : (o : Option ℕ) → no_call o ≡ true → o ≡ Some call → ⊥
      none None t e = cc
      none (Some c) t e = cc

      by_entry : (o : Option Occ) → slice_get f.occs k ≡ o → option_and_then (λ (occ : Occ). occ.call) o ≡ Some call → ⊥
      by_entry None is e = cc
      by_entry (Some occ) is e = none occ.call (both-hold (entry (is_plain (set_values f.places)) k f.occs occ checked.plain is)).0 e

  no-part : (k whole : ℕ) → Has (set_values f.places) whole → IsPart f k whole → ⊥
  no-part k whole has part =
      let told = (both-hold (entry (is_plain (set_values f.places)) whole f.occs part.occ checked.plain part.is)).1 in
      by_parts (parts part.occ.form) (subst (λ b. (if b then is_empty (parts part.occ.form) else true) ≡ true) (among-has whole (set_values f.places) has) told) part.part
    where
      by_parts : (ks : List ℕ) → is_empty ks ≡ true → Has ks k → ⊥
      by_parts [] e h = has-none k h
      by_parts (j ∷ ks) e h = cc

  under-set : (of : Use) → ((k : ℕ) → IsUse f k of → Has (set_values f.places) k) → (k : ℕ) → Under f of k → Has (set_values f.places) k
  under-set of values _ (Is k used) = values k used
  under-set of values _ (Part k whole part under) = absurd (no-part k whole (under-set of values whole under) part)
  under-set of values _ (Called k call is under) = absurd (outside k call is)

  set-apart : (k : ℕ) → IsApart f k → Has (set_values f.places) k
  set-apart k (InStart call b under) = under-set (StartOf call b) (set-by-start f call b) k under
  set-apart k (InReset call events arm under) = under-set (ResetOf call events arm) (set-by-reset f call events arm) k under

  -- ---- the marks

  apart-is : (k : ℕ) (b : Bool) → slice_get (apart_of f) k ≡ Some b → among k (set_values f.places) ≡ b
  apart-is k b is = (each-of (λ k (occ : Occ). among k (set_values f.places)) 0 k k f.occs b (omega arith) is).2

  are-apart : AreApart f (apart_of f)
  are-apart = record {
    size = each-length (λ k (occ : Occ). among k (set_values f.places)) 0 f.occs;
    sound = λ k is. apart-set f k (has-among k (set_values f.places) (apart-is k true is));
    others = λ k is apart. true-false (among-has k (set_values f.places) (set-apart k apart)) (apart-is k false is);
  }

  has-marks : HasMarks f.blocks f.occs (apart_of f) (length f.occs) (marks_of f)
  has-marks = record {
    size = each-length (λ k (occ : Occ). mark_of f.blocks occ (among k (set_values f.places))) 0 f.occs;
    each = λ k occ is_apart low is at.
        each-at (λ k (occ : Occ). mark_of f.blocks occ (among k (set_values f.places))) 0 k k f.occs occ (omega arith) is ∙ ap (λ b. Some (mark_of f.blocks occ b)) (apart-is k is_apart at);
  }

  marks-checked : AreMarks f (marks_of f)
  marks-checked = are_marks f (apart_of f) are-apart (marks_of f) has-marks

  -- ---- the table

  fine : (k : ℕ) (occ : Occ) → slice_get f.occs k ≡ Some occ → grade_of g k ≡ given_occ g (get_or (marks_of f) k false) (Some occ)
  fine k occ is = eqb-true (grade_of g k) (given_occ g (get_or (marks_of f) k false) (Some occ)) (entry (is_fine (marks_of f) g) k f.occs occ checked.occs is)

  others-fine : (k : ℕ) → get_or (marks_of f) k false ≡ false → grade_of g k ≡ 3
  others-fine k none =
      ⊎_elim (λ there. fine k there.0 there.2 ∙ ap (λ b. given_occ g b (Some there.0)) none)
      (λ past. get_or_past g.occs k 3 (omega (arith, past.0, checked.occs_length)))
      (slice_get_cases f.occs k).1

  pub grades-checked : AreGrades f g
  grades-checked = record {
    occs_length = checked.occs_length;
    places_length = checked.places_length;
    graded = λ k occ is graded. fine k occ is ∙ ap (λ b. given_occ g b (Some occ)) (graded_marked f (marks_of f) marks-checked k graded);
    others = λ k not. others-fine k (unmarked f (marks_of f) marks-checked k not);
    places = λ p place is. eqb-true (place_grade g p) (greatest_grade g place.definers) (entry (is_fine_place g) p f.places place checked.places is);
  }

  -- ---- what is needed of it

  pub none-over : NoneIsOver f g → AreAllowed f g
  none-over none =
      allowed f (marks_of f) marks-checked g grades-checked
      (λ one has over. true-false (any-has (is_over g) (needs_of f (marks_of f)) one has (lt-ltb one.limit (grade_of g one.occ) over)) none)

  module _ (k : ℕ) (first : FirstIsOver f g k) where
    not-before : (other : Need) → Has (needs_of f (marks_of f)) other → IsOver g other → other.occ < k → ⊥
    not-before other has over less =
        true-false (any-has (is_over_before g k) (needs_of f (marks_of f)) other has (ap₂ (λ a b. a && b) (lt-ltb other.limit (grade_of g other.occ) over) (lt-ltb other.occ k less))) first.before

    is-first : IsFirstOver g (needs_of f (marks_of f)) k
    is-first =
        let found = has-any (is_over_at g k) (needs_of f (marks_of f)) first.here in
        let meets = both-hold found.meets in
        record {
          one = found.element;
          is = found.has;
          number = eqb-true found.element.occ k meets.1;
          over = ltb-true found.element.limit (grade_of g found.element.occ) meets.0;
          before = λ other has over. ⊎_elim (λ less. absurd (not-before other has over less)) (λ past. past) (cases_lt other.occ k);
        }

    pub first-over : IsFirstOverGraded f g k
    first-over = first_over_graded f (marks_of f) marks-checked g grades-checked k is-first
