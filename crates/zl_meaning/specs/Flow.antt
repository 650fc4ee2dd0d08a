-- The flow after an instant.
use Rattle.std.specs.Prelude.{◌≡◌, Bool, false, List, [], ◌∷◌}
use Rattle.zl_value.specs.Fraction.{Fraction, IsReduced}
use Rattle.zl_value.specs.Times.{nought, unit, is_negative}
use Rattle.zl_value.specs.Crossings.{SiteValues}
use Rattle.zl_value.specs.System.{Course}
use Rattle.zl_meaning.specs.FlatForm.{FlatForm}
use Rattle.zl_meaning.specs.State.{Table, state_in}
use Rattle.zl_meaning.specs.History.{Instant, History, state_of, is_live}
use Rattle.zl_meaning.specs.Moment.{InFlow, Moment}
use Rattle.zl_meaning.specs.Equation.{turn}
use Rattle.zl_meaning.specs.Solves.{before_of, site_value}
use Rattle.zl_meaning.specs.Slopes.{fine_turn}

-- what the equations read at moment `s` of the flow after instant `i`: they look back to `i` too
abbrev pub flow_moment : FlatForm → History → Instant → Fraction → Moment
flow_moment f h i s = record {
  mode = InFlow;
  inputs = i.inputs;
  fired = [];
  live = λ b. is_live b (i ∷ h);
  before = before_of f (i ∷ h);
  start = state_of i;
  passed = s;
}

-- what the equations of moment `s` say of its entries, if at the moments of the flow they are as `at` says
abbrev pub solved_at : FlatForm → History → Instant → (Fraction → Table) → Fraction → Table
solved_at f h i at s = turn f (flow_moment f h i s) (at s)

-- `at s` is what stands at moment `s`: each entry is what its equation says
pub record Flow (f : FlatForm) (h : History) (i : Instant) (at : Fraction → Table) : Type 0 where
  pub table : (s : Fraction) → IsReduced s → is_negative s ≡ false → at s ≡ solved_at f h i at s

-- what stands at a moment of a flow of a run: its entries, and which slopes of the flow are fine
pub record FlowTable : Type 0 where
  pub table : Table
  pub fine : List Bool

-- the entries at the moments of a flow
abbrev pub tables : Course FlowTable → Fraction → Table
tables y s = (y s).table

-- what must stand at moment `s` of the flow `y` after instant `i`. Which slopes are fine is one list for the whole flow: it
-- is decided by what stands at moments 0 and 1
abbrev pub flow_solved : FlatForm → History → Instant → Course FlowTable → Fraction → FlowTable
flow_solved f h i y s = record {
  table = solved_at f h i (tables y) s;
  fine = fine_turn f (y nought).table (y unit).table (y nought).fine;
}

-- the values of the sites in a flow
abbrev pub site_values : FlatForm → (Fraction → Table) → SiteValues
site_values f at s n = site_value f (state_in (at s)) n
