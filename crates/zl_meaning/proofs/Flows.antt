-- The flows of a form's runs: the entries at their moments, and the list of the slopes that are fine.
use Rattle.std.specs.Prelude.{◌≡◌, ℕ, pos, List}
use Rattle.std.proofs.Common.{refl, ap}
use Rattle.zl_value.specs.Times.{nought, unit}
use Rattle.zl_value.specs.System.{Course, IsFlow}
use Rattle.zl_value.proofs.FractionLaws.{IsReduced-whole}
use Rattle.zl_meaning.specs.FlatForm.{FlatForm}
use Rattle.zl_meaning.specs.History.{Instant, History}
use Rattle.zl_meaning.specs.Flow.{Flow, FlowTable, tables}
use Rattle.zl_meaning.specs.Slopes.{fine_turn}
use Rattle.zl_meaning.specs.System.{system_of}

module _ (f : FlatForm) (grades : List ℕ) (h : History) (i : Instant) (y : Course FlowTable) (is : IsFlow (system_of f grades) h i y) where
  -- the entries are those of a flow
  pub flow_tables : Flow f h i (tables y)
  flow_tables = record { table = λ s a b. ap (λ (t : FlowTable). t.table) (is s a b) }

  pub flow_fine : (y nought).fine ≡ fine_turn f (y nought).table (y unit).table (y nought).fine
  flow_fine = ap (λ (t : FlowTable). t.fine) (is nought (IsReduced-whole (pos 0)) refl)
