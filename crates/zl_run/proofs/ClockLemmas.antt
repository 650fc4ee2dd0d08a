-- The clock after a step, and the next stop of the script.
use Rattle.std.specs.Prelude.{◌≡◌, ℕ, zero, suc, ◌+◌, ◌≤◌, Bool, true, false, not, ◌&&◌, ◌||◌, if◌then◌else◌, List, [], ◌∷◌, length, take, drop, map, Option, Some, None}
use Rattle.std.specs.List.{AllByRecursion, list_any, list_all}
use Rattle.std.proofs.Common.{refl, sym, ap, ◌∙◌, subst, arith}
use Rattle.std.proofs.lemmas.Bool.{both_ways, and_from}
use Rattle.zl_value.specs.Fraction.{Fraction, IsReduced}
use Rattle.zl_value.specs.Order.{below}
use Rattle.zl_value.specs.Times.{is_same}
use Rattle.zl_value.specs.Script.{AreAscending}
use Rattle.zl_value.specs.Stops.{stops}
use Rattle.zl_value.specs.Instants.{time_of, steps_at, one_if}
use Rattle.zl_value.specs.declared.script.ScriptLine.{ScriptLine}
use Rattle.zl_value.proofs.FractionOrder.{below-self, below_asym, same_parts, same_parts-self}
use Rattle.zl_crossing.specs.Courses.{IsNextStop}
use Rattle.zl_run.specs.Stopping.{due_in, stop_in, one_more_if}
use Rattle.zl_run.specs.Standing.{IsPassed, IsAhead}
use Rattle.zl_run.specs.Laws.{ClockSteps, StopIsNext}
use Rattle.zl_run.proofs.StopLemmas.{AreReduced, AreLater, later_lines, later_by, passed_more, ahead_later, not_same, ascending_from, reduced_from}

-- ---- lines

pub reduced_lines : (horizon : Fraction) (lines : List ScriptLine) → AllByRecursion (λ (line : ScriptLine). IsReduced line.time × (below horizon line.time ≡ false)) lines → AreReduced lines
reduced_lines horizon [] all = tt
reduced_lines horizon (line ∷ lines) all = (all.0.0, reduced_lines horizon lines all.1)

-- what `due_in` says of the first line
due_same : (t : Fraction) (line other : ScriptLine) (b : Bool) → (if b then Some line else None) ≡ Some other → b ≡ true
due_same t line other true e = refl
due_same t line other false e = absurd cc

due_other : (line : ScriptLine) (b : Bool) → (if b then Some line else None) ≡ None → b ≡ false
due_other line true e = absurd cc
due_other line false e = refl

-- no line is due: all that aren't passed are later
pub none_is_due : (t : Fraction) (here : ℕ) (lines : List ScriptLine) → IsReduced t → AreReduced lines → AreAscending lines → AllByRecursion (IsAhead t here) lines
    → due_in lines t ≡ None → AreLater t lines
none_is_due t here [] t_low low up ahead e = tt
none_is_due t here (line ∷ lines) t_low low up ahead e =
    (later_by line.time t low.0 t_low ahead.0.later (due_other line (is_same line.time t) e), later_lines t line lines t_low.above low up ahead.0.later)

-- the line that a step takes is passed
taken_lines : (t : Fraction) (here n : ℕ) (lines : List ScriptLine) (line : ScriptLine) → IsReduced t → AreReduced lines → AreAscending lines → due_in (drop n lines) t ≡ Some line
    → AllByRecursion (IsPassed t here) (take n lines) → AllByRecursion (IsAhead t here) (drop n lines)
    → AllByRecursion (IsPassed t (1 + here)) (take (suc n) lines) × AllByRecursion (IsAhead t (1 + here)) (drop (suc n) lines) × (suc n ≤ length lines)
taken_lines t here zero [] line t_low low up due passed ahead = absurd cc
taken_lines t here zero (first ∷ lines) line t_low low up due passed ahead =
    let same = same_parts first.time t (due_same t first line (is_same first.time t) due) in (
      (record { earlier = ap (below t) same ∙ below-self t; untaken = λ none. absurd (omega (arith, none)) }, tt),
      ahead_later t (1 + here) lines (later_lines t first lines t_low.above low up ahead.0.later),
      omega arith,
    )
taken_lines t here (suc n) [] line t_low low up due passed ahead = absurd cc
taken_lines t here (suc n) (first ∷ lines) line t_low low up due passed ahead =
    let rest = taken_lines t here n lines line t_low low.1 (ascending_from 1 (first ∷ lines) up) due passed.1 ahead in
    ((record { earlier = passed.0.earlier; untaken = λ none. absurd (omega (arith, none)) }, rest.0), rest.1, omega (arith, rest.2))

-- ---- after a step

pub clock_steps : ClockSteps
clock_steps c script h inputs k n ordered more is = record {
  time = is.time;
  start = is.start;
  within = is.within;
  made = omega (arith, is.made);
  few = omega (arith, more);
  here = omega (arith, is.here, one);
  fewer = omega (arith, is.fewer, one);
  passed = subst (λ m. AllByRecursion (IsPassed t m) (take (one_more_if n due) script.lines)) (sym one) lines.0;
  ahead = subst (λ m. AllByRecursion (IsAhead t m) (drop (one_more_if n due) script.lines)) (sym one) lines.1;
  index = lines.2;
  later = λ s low_s e.
      let first : one_if (true && is_same t s) ≡ 0 = ap (λ b. one_if (true && b)) (not_same t s e) in
      let rest : steps_at s h ≡ 0 = is.later s low_s e in
      omega (arith, first, rest);
}
  where
    t : Fraction
    t = time_of h

    low : AreReduced script.lines
    low = reduced_lines script.horizon script.lines ordered.lines

    due : Option ScriptLine
    due = due_in (drop n script.lines) t

    one : one_if (true && is_same t t) + steps_at t h ≡ 1 + steps_at t h
    one = ap (λ b. one_if (true && b) + steps_at t h) (same_parts-self t)

    by_due : (d : Option ScriptLine) → due ≡ d → AllByRecursion (IsPassed t (1 + steps_at t h)) (take (one_more_if n d) script.lines) × AllByRecursion (IsAhead t (1 + steps_at t h)) (drop (one_more_if n d) script.lines) × (one_more_if n d ≤ length script.lines)
    by_due None e = (
      passed_more t (steps_at t h) (take n script.lines) is.passed,
      ahead_later t (1 + steps_at t h) (drop n script.lines) (none_is_due t (steps_at t h) (drop n script.lines) is.start.number.reduced (reduced_from n script.lines low) (ascending_from n script.lines ordered.ascending) is.ahead e),
      is.index,
    )
    by_due (Some line) e =
        let m : suc n ≡ n + 1 = omega arith in
        let rest = taken_lines t (steps_at t h) n script.lines line is.start.number.reduced low ordered.ascending e is.passed is.ahead in (
          subst (λ j. AllByRecursion (IsPassed t (1 + steps_at t h)) (take j script.lines)) m rest.0,
          subst (λ j. AllByRecursion (IsAhead t (1 + steps_at t h)) (drop j script.lines)) m rest.1,
          omega (arith, rest.2),
        )

    lines : AllByRecursion (IsPassed t (1 + steps_at t h)) (take (one_more_if n due) script.lines) × AllByRecursion (IsAhead t (1 + steps_at t h)) (drop (one_more_if n due) script.lines) × (one_more_if n due ≤ length script.lines)
    lines = by_due due refl

-- ---- the next stop

pub same_turned : (a b : Fraction) → is_same a b ≡ false → is_same b a ≡ false
same_turned a b e = go (is_same b a) refl
  where
    go : (x : Bool) → is_same b a ≡ x → x ≡ false
    go false f = refl
    go true f = absurd (both_ways (is_same a b) e (ap (is_same a) (same_parts b a f) ∙ same_parts-self a))

all_split : (p : Fraction → Bool) (n : ℕ) (lines : List ScriptLine) → AllByRecursion (λ (line : ScriptLine). p line.time ≡ true) (take n lines)
    → AllByRecursion (λ (line : ScriptLine). p line.time ≡ true) (drop n lines) → list_all p (map (λ (line : ScriptLine). line.time) lines) ≡ true
all_split p zero [] before behind = refl
all_split p zero (line ∷ lines) before behind = and_from (p line.time) _ behind.0 (all_split p zero lines tt behind.1)
all_split p (suc n) [] before behind = refl
all_split p (suc n) (line ∷ lines) before behind = and_from (p line.time) _ before.0 (all_split p n lines before.1 behind)

right_of : (a b : Bool) → b ≡ true → (a || b) ≡ true
right_of true b f = refl
right_of false b f = f

any_at : (p : Fraction → Bool) (n : ℕ) (lines rest : List ScriptLine) (line : ScriptLine) → drop n lines ≡ line ∷ rest → p line.time ≡ true
    → list_any p (map (λ (line : ScriptLine). line.time) lines) ≡ true
any_at p zero [] rest line e holds = absurd cc
any_at p zero (first ∷ lines) rest line e holds =
    let same : first ≡ line = cc in
    ap (λ (x : ScriptLine). p x.time || list_any p (map (λ (l : ScriptLine). l.time) lines)) same ∙ ap (λ b. b || list_any p (map (λ (l : ScriptLine). l.time) lines)) holds
any_at p (suc n) [] rest line e holds = absurd cc
any_at p (suc n) (first ∷ lines) rest line e holds = right_of (p first.time) _ (any_at p n lines rest line e holds)

not_between : (a b : Bool) → a ≡ false → not (a && b) ≡ true
not_between a b e = rw e refl

not_between_right : (a b : Bool) → b ≡ false → not (a && b) ≡ true
not_between_right true b e = rw e refl
not_between_right false b e = refl

passed_clear : (t stop : Fraction) (here : ℕ) (lines : List ScriptLine) → AllByRecursion (IsPassed t here) lines → AllByRecursion (λ (line : ScriptLine). not (below t line.time && below line.time stop) ≡ true) lines
passed_clear t stop here [] passed = tt
passed_clear t stop here (line ∷ lines) passed = (not_between (below t line.time) (below line.time stop) passed.0.earlier, passed_clear t stop here lines passed.1)

-- no line is before the first
first_clear : (t stop : Fraction) (lines : List ScriptLine) → AreLater stop lines → AllByRecursion (λ (line : ScriptLine). not (below t line.time && below line.time stop) ≡ true) lines
first_clear t stop [] later = tt
first_clear t stop (line ∷ lines) later =
    (not_between_right (below t line.time) (below line.time stop) (below_asym stop line.time later.0), first_clear t stop lines later.1)

in_horizon : (horizon : Fraction) (n : ℕ) (lines rest : List ScriptLine) (line : ScriptLine) → AllByRecursion (λ (line : ScriptLine). IsReduced line.time × (below horizon line.time ≡ false)) lines
    → drop n lines ≡ line ∷ rest → IsReduced line.time × (below horizon line.time ≡ false)
in_horizon horizon zero [] rest line all e = absurd cc
in_horizon horizon zero (first ∷ lines) rest line all e =
    let same : first ≡ line = cc in subst (λ (x : ScriptLine). IsReduced x.time × (below horizon x.time ≡ false)) same all.0
in_horizon horizon (suc n) [] rest line all e = absurd cc
in_horizon horizon (suc n) (first ∷ lines) rest line all e = in_horizon horizon n lines rest line all.1 e

all_reduced : (horizon : Fraction) (lines : List ScriptLine) → AllByRecursion (λ (line : ScriptLine). IsReduced line.time × (below horizon line.time ≡ false)) lines
    → AllByRecursion IsReduced (map (λ (line : ScriptLine). line.time) lines)
all_reduced horizon [] all = tt
all_reduced horizon (line ∷ lines) all = (all.0.0, all_reduced horizon lines all.1)

pub stop_is_next : StopIsNext
stop_is_next script h k n ordered is none other = by_rest (drop n script.lines) refl
  where
    t : Fraction
    t = time_of h

    low : AreReduced script.lines
    low = reduced_lines script.horizon script.lines ordered.lines

    reduced : AllByRecursion IsReduced (stops script)
    reduced = (ordered.horizon, all_reduced script.horizon script.lines ordered.lines)

    by_rest : (rest : List ScriptLine) → drop n script.lines ≡ rest → IsNextStop script t (stop_in script rest)
    by_rest [] e = record {
      reduced = reduced;
      lowest = ordered.horizon;
      later = later_by script.horizon t ordered.horizon is.start.number.reduced is.within (same_turned t script.horizon other);
      is = ap (λ b. b || list_any (is_same script.horizon) (map (λ (line : ScriptLine). line.time) script.lines)) (same_parts-self script.horizon);
      clear = and_from _ _ (not_between_right (below t script.horizon) (below script.horizon script.horizon) (below-self script.horizon))
          (all_split (λ x. not (below t x && below x script.horizon)) n script.lines (passed_clear t script.horizon (steps_at t h) (take n script.lines) is.passed) (subst (AllByRecursion (λ (l : ScriptLine). not (below t l.time && below l.time script.horizon) ≡ true)) (sym e) tt));
    }
    by_rest (line ∷ rest) e =
        let inside = in_horizon script.horizon n script.lines rest line ordered.lines e in
        let ahead : AllByRecursion (IsAhead t (steps_at t h)) (line ∷ rest) = subst (AllByRecursion (IsAhead t (steps_at t h))) e is.ahead in
        let due : due_in (line ∷ rest) t ≡ None = subst (λ l. due_in l t ≡ None) e none in
        let up : AreAscending (line ∷ rest) = subst AreAscending e (ascending_from n script.lines ordered.ascending) in
        let all : AreReduced (line ∷ rest) = subst AreReduced e (reduced_from n script.lines low) in
        record {
          reduced = reduced;
          lowest = inside.0;
          later = later_by line.time t inside.0 is.start.number.reduced ahead.0.later (due_other line (is_same line.time t) due);
          is = right_of (is_same line.time script.horizon) _ (any_at (is_same line.time) n script.lines rest line e (same_parts-self line.time));
          clear = and_from _ _ (not_between_right (below t script.horizon) (below script.horizon line.time) inside.1)
              (all_split (λ x. not (below t x && below x line.time)) n script.lines (passed_clear t line.time (steps_at t h) (take n script.lines) is.passed)
              (subst (AllByRecursion (λ (l : ScriptLine). not (below t l.time && below l.time line.time) ≡ true)) (sym e)
              (not_between_right (below t line.time) (below line.time line.time) (below-self line.time), first_clear t line.time rest (later_lines line.time line rest inside.0.above all up (below-self line.time)))));
        }
