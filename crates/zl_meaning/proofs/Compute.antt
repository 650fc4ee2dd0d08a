-- Instants and moments of flows of a written form, computed: an equation between them then holds by itself.
use Rattle.std.specs.Prelude.{ℕ, zero, suc, Bool, List, [], length}
use Rattle.std.specs.Fmt.{digits}
use Rattle.zl_value.specs.Fraction.{Fraction, gcd_in, gcd, reduced, add, sub, mul, neg, ratio, div, compare, fits}
use Rattle.zl_value.specs.Times.{nought, unit}
use Rattle.zl_value.specs.Stops.{line_for, inputs_after}
use Rattle.zl_value.specs.Instants.{Step, Left, latest_inputs, time_of, steps_at}
use Rattle.zl_value.specs.System.{Course, fired_after}
use Rattle.zl_value.specs.declared.script.Script.{Script}
use Rattle.zl_meaning.specs.FlatForm.{FlatForm}
use Rattle.zl_meaning.specs.State.{Table, empty_table}
use Rattle.zl_meaning.specs.History.{Instant, History}
use Rattle.zl_meaning.specs.Moment.{Moment}
use Rattle.zl_meaning.specs.Equation.{equation, turn}
use Rattle.zl_meaning.specs.Solves.{moment_of}
use Rattle.zl_meaning.specs.Flow.{FlowTable, flow_moment}
use Rattle.zl_meaning.specs.Slopes.{fine_turn}
use Rattle.zl_meaning.specs.System.{system_of}

-- a proof that unfolds it unfolds all that has to be computed
unfoldable pub computing : ℕ
unfolding gcd_in gcd reduced add sub mul neg ratio div compare fits digits equation turn
computing = 0

-- `n` turns from a table: what stands at a moment, once a turn changes nothing more
abbrev pub turns : FlatForm → Moment → ℕ → Table → Table
turns f m zero t = t
turns f m (suc n) t = turns f m n (turn f m t)

abbrev pub settled_on : FlatForm → History → Fraction → ℕ → Instant → Instant
settled_on f h passed n i = record i { table = turns f (moment_of f h passed i) n empty_table }

-- the step after `h`
abbrev pub step_on : FlatForm → Script → History → ℕ → Instant
step_on f script h n = settled_on f h nought n (record {
  kind = Step;
  time = time_of h;
  inputs = inputs_after (length f.ins) (line_for script (time_of h) (steps_at (time_of h) h)) (latest_inputs h);
  fired = fired_after (system_of f []) h;
  table = empty_table;
})

-- the left end of the flow after `h`, which lasts `d`
abbrev pub left_on : FlatForm → History → Fraction → ℕ → Instant
left_on f h d n = settled_on f h d n (record {
  kind = Left;
  time = add (time_of h) d;
  inputs = latest_inputs h;
  fired = fired_after (system_of f []) h;
  table = empty_table;
})

-- moment `s` of the flow after instant `i`
abbrev pub moment_on : FlatForm → History → Instant → ℕ → Fraction → Table
moment_on f h i n s = turns f (flow_moment f h i s) n i.table

-- which slopes are fine, after `n` turns from all; `t` is what stands at moment 0 of the flow, `u` at moment 1
abbrev pub fine_on : FlatForm → Table → Table → ℕ → List Bool
fine_on f t u zero = []
fine_on f t u (suc n) = fine_turn f t u (fine_on f t u n)

-- the flow after instant `i`
abbrev pub flow_on : FlatForm → History → Instant → ℕ → Course FlowTable
flow_on f h i n s = record {
  table = moment_on f h i n s;
  fine = fine_on f (moment_on f h i n nought) (moment_on f h i n unit) n;
}
