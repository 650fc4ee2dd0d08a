-- The clock after the left end of a flow.
use Rattle.std.specs.Prelude.{◌≡◌, ℕ, zero, suc, ◌<◌, Bool, true, false, not, ◌&&◌, List, [], ◌∷◌, take, drop, map, None}
use Rattle.std.specs.List.{AllByRecursion, list_all}
use Rattle.std.proofs.Common.{refl, sym, ◌∙◌, arith}
use Rattle.zl_value.specs.Fraction.{Fraction, IsReduced, IsFrac, add}
use Rattle.zl_value.specs.Order.{below}
use Rattle.zl_value.specs.Times.{nought, is_same}
use Rattle.zl_value.specs.Stops.{is_clear}
use Rattle.zl_value.specs.Instants.{Left, Instant, History, time_of, steps_at}
use Rattle.zl_value.specs.declared.script.Script.{Script}
use Rattle.zl_value.specs.declared.script.ScriptLine.{ScriptLine}
use Rattle.zl_value.proofs.FractionOrder.{below_asym, below-zero, below-add_self, le_below_trans}
use Rattle.zl_code.specs.Method.{Cells, Doing}
use Rattle.zl_run.specs.Clocks.{moved_to}
use Rattle.zl_run.specs.Stopping.{due_in}
use Rattle.zl_run.specs.Standing.{IsPassed, IsAhead, IsClockAfter}
use Rattle.zl_run.specs.Laws.{IsOrdered}
use Rattle.zl_run.specs.declared.clock.Clock.{Clock}
use Rattle.zl_run.proofs.ClockLemmas.{reduced_lines, none_is_due, same_turned}
use Rattle.zl_run.proofs.StopLemmas.{AreReduced, AreLater, later_by, reduced_from, ascending_from}

both_of : (a b : Bool) → (a && b) ≡ true → (a ≡ true) × (b ≡ true)
both_of true b e = (refl, e)
both_of false b e = absurd cc

-- what is after the start isn't before the end
not_between : (a b : Bool) → not (a && b) ≡ true → a ≡ true → b ≡ false
not_between true true e f = absurd cc
not_between true false e f = refl
not_between false b e f = absurd cc

-- passed lines are before the end, and lines that are ahead and later aren't
passed_on : (t late : Fraction) (here : ℕ) (lines : List ScriptLine) → 0 < t.den → 0 < late.den → AreReduced lines → below t late ≡ true → AllByRecursion (IsPassed t here) lines → AllByRecursion (IsPassed late 0) lines
passed_on t late here [] p q low up passed = tt
passed_on t late here (line ∷ lines) p q low up passed =
    let before : below line.time late ≡ true = le_below_trans line.time t late low.0.above p q passed.0.earlier up in
    (record { earlier = below_asym line.time late before; untaken = λ none. before }, passed_on t late here lines p q low.1 up passed.1)

ahead_still : (t late : Fraction) (lines : List ScriptLine) → AreLater t lines → AllByRecursion (λ (line : ScriptLine). not (below t line.time && below line.time late) ≡ true) lines → AllByRecursion (IsAhead late 0) lines
ahead_still t late [] later clear = tt
ahead_still t late (line ∷ lines) later clear =
    (record { later = not_between _ _ clear.0 later.0; taken = λ some. absurd (omega (arith, some)) }, ahead_still t late lines later.1 clear.1)

clear_lines : (t late : Fraction) (lines : List ScriptLine) → list_all (λ stop. not (below t stop && below stop late)) (map (λ (line : ScriptLine). line.time) lines) ≡ true
    → AllByRecursion (λ (line : ScriptLine). not (below t line.time && below line.time late) ≡ true) lines
clear_lines t late [] e = tt
clear_lines t late (line ∷ lines) e = let two = both_of _ _ e in (two.0, clear_lines t late lines two.1)

clear_from : (t late : Fraction) (n : ℕ) (lines : List ScriptLine) → AllByRecursion (λ (line : ScriptLine). not (below t line.time && below line.time late) ≡ true) lines
    → AllByRecursion (λ (line : ScriptLine). not (below t line.time && below line.time late) ≡ true) (drop n lines)
clear_from t late zero lines all = all
clear_from t late (suc n) [] all = all
clear_from t late (suc n) (line ∷ lines) all = clear_from t late n lines all.1

reduced_up_to : (n : ℕ) (lines : List ScriptLine) → AreReduced lines → AreReduced (take n lines)
reduced_up_to zero lines low = tt
reduced_up_to (suc n) [] low = tt
reduced_up_to (suc n) (line ∷ lines) low = (low.0, reduced_up_to n lines low.1)

-- the left end, with what stands there
abbrev pub left_at : Fraction → Cells → List ℕ → Doing → Instant Doing
left_at time inputs fired table = record { kind = Left; time = time; inputs = inputs; fired = fired; table = table }

module _ (script : Script) (h : History Doing) (inputs : Cells) (fired : List ℕ) (table : Doing) (k : Clock) (n : ℕ) (d : Fraction) (is_ordered : IsOrdered script) (is : IsClockAfter script h k n)
    (none : due_in (drop n script.lines) (time_of h) ≡ None) (other : is_same (time_of h) script.horizon ≡ false) (low_d : IsReduced d) (positive : below nought d ≡ true)
    (clear : is_clear script (time_of h) (add (time_of h) d) ≡ true) (kept : IsFrac (add (time_of h) d)) where
  abbrev late : Fraction
  late = add (time_of h) d

  low_t : IsReduced (time_of h)
  low_t = is.start.number.reduced

  up : below (time_of h) late ≡ true
  up = below-add_self (time_of h) d low_t low_d.above ∙ positive

  split : (not (below (time_of h) script.horizon && below script.horizon late) ≡ true) × (list_all (λ stop. not (below (time_of h) stop && below stop late)) (map (λ (line : ScriptLine). line.time) script.lines) ≡ true)
  split = both_of _ _ clear

  low : AreReduced script.lines
  low = reduced_lines script.horizon script.lines is_ordered.lines

  after_start : below nought late ≡ true
  after_start = le_below_trans nought (time_of h) late (omega arith) low_t.above kept.reduced.above (below-zero (time_of h) ∙ is.start.start) up

  ahead : AreLater (time_of h) (drop n script.lines)
  ahead = none_is_due (time_of h) (steps_at (time_of h) h) (drop n script.lines) low_t (reduced_from n script.lines low) (ascending_from n script.lines is_ordered.ascending) is.ahead none

  no_steps : steps_at late h ≡ 0
  no_steps = is.later late kept.reduced up

  pub clock_after_left : IsClockAfter script (left_at late inputs fired table ∷ h) (moved_to k late) n
  clock_after_left = record {
    time = refl;
    start = record { number = kept; start = sym (below-zero late) ∙ below_asym nought late after_start };
    within = not_between _ _ split.0 (later_by script.horizon (time_of h) is_ordered.horizon low_t is.within (same_turned (time_of h) script.horizon other));
    made = omega (arith, is.made);
    few = omega (arith, is.few);
    here = omega (arith, no_steps);
    fewer = omega (arith, no_steps);
    passed = rw no_steps (passed_on (time_of h) late (steps_at (time_of h) h) (take n script.lines) low_t.above kept.reduced.above (reduced_up_to n script.lines low) up is.passed);
    ahead = rw no_steps (ahead_still (time_of h) late (drop n script.lines) ahead (clear_from (time_of h) late n script.lines (clear_lines (time_of h) late script.lines split.1)));
    index = is.index;
    later = λ s low_s e. omega (arith, is.later s low_s (le_below_trans (time_of h) late s low_t.above kept.reduced.above low_s.above (below_asym (time_of h) late up) e));
  }
