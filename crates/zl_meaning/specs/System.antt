-- A flat form with its grades is a system: runs are said of it as of any other.
use Rattle.std.specs.Prelude.{ℕ, false, List, length}
use Rattle.zl_value.specs.Times.{nought, unit}
use Rattle.zl_value.specs.System.{System}
use Rattle.zl_meaning.specs.FlatForm.{FlatForm}
use Rattle.zl_meaning.specs.State.{Table, state_in}
use Rattle.zl_meaning.specs.History.{state_of}
use Rattle.zl_meaning.specs.Solves.{solved, site_value, site_fresh, instant_fault, demands}
use Rattle.zl_meaning.specs.Flow.{FlowTable, flow_solved, tables, site_values}
use Rattle.zl_meaning.specs.Slopes.{slope_fault, motions}

-- `grades` has the grade of each occurrence that has one, and 3 for the others. The equations go on without a value where
-- one is missing, so a run never lacks one
abbrev pub system_of : FlatForm → List ℕ → System Table FlowTable
system_of f grades = record {
  inputs = length f.ins;
  sites = length f.sites;
  step = λ h i. solved f h nought i;
  flow = λ h i y s. flow_solved f h i y s;
  left = λ h y d i. solved f h d i;
  fault = λ h i. instant_fault f h i;
  flow_fault = λ h i y. slope_fault f grades (y nought).table (y unit).table (y nought).fine;
  lacks = λ i. false;
  flow_lacks = λ i y. false;
  demands = λ t. demands f (state_in t);
  value = λ t n. site_value f (state_in t) n;
  fresh = λ h i n. site_fresh f h i n;
  values = λ i y. site_values f (tables y);
  motions = λ i y. motions (state_in (y nought).table) (state_of i) 0 f.places;
}
