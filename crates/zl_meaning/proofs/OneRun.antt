-- A form with ranks has at most one run with a script: as a system it has one step after each history, and one flow.
use Rattle.std.specs.Prelude.{◌≡◌, ℕ, pos, false, List, ◌∷◌}
use Rattle.std.proofs.Common.{refl, sym, ap, ap₂, ◌∙◌, subst}
use Rattle.zl_value.specs.Fraction.{Fraction, IsReduced}
use Rattle.zl_value.specs.Times.{nought, unit, is_negative}
use Rattle.zl_value.specs.Widths.{first_wide}
use Rattle.zl_value.specs.System.{Course, IsFlow, move_tests}
use Rattle.zl_value.specs.Runs.{StepAfter, LeftAfter}
use Rattle.zl_value.specs.OneRun.{AreAlike, Determines, HasOneRun}
use Rattle.zl_value.specs.declared.script.Script.{Script}
use Rattle.zl_value.proofs.FractionLaws.{IsReduced-whole}
use Rattle.zl_value.proofs.OneRun.{has_one_run}
use Rattle.zl_meaning.specs.FlatForm.{FlatForm}
use Rattle.zl_meaning.specs.State.{state_in}
use Rattle.zl_meaning.specs.History.{Instant, History, state_of}
use Rattle.zl_meaning.specs.Equation.{turn}
use Rattle.zl_meaning.specs.Solves.{moment_of, solved, site_value}
use Rattle.zl_meaning.specs.Flow.{FlowTable, flow_moment}
use Rattle.zl_meaning.specs.Slopes.{slope_fault, motions}
use Rattle.zl_meaning.specs.System.{system_of}
use Rattle.zl_meaning.specs.Reading.{HasNodeRanks}
use Rattle.zl_meaning.proofs.Flows.{flow_tables, flow_fine}
use Rattle.zl_meaning.proofs.OneTable.{one_table}
use Rattle.zl_meaning.proofs.OneFine.{one_fine}

module _ (f : FlatForm) (r : HasNodeRanks f) (grades : List ℕ) (script : Script) where
  -- two instants with one moment have one table
  table_same : (h : History) (passed : Fraction) (i j : Instant) → i.kind ≡ j.kind → i.inputs ≡ j.inputs → i.fired ≡ j.fired → i.table ≡ solved f h passed i → j.table ≡ solved f h passed j → i.table ≡ j.table
  table_same h passed i j a b c p q =
      let e : moment_of f h passed j ≡ moment_of f h passed i = cc in
      one_table f (moment_of f h passed i) r i.table j.table p (q ∙ ap (λ m. turn f m j.table) e)

  step_same : (h : History) (i j : Instant) → StepAfter (system_of f grades) script h i → StepAfter (system_of f grades) script h j → i.inputs ≡ j.inputs → i.fired ≡ j.fired → i.table ≡ j.table
  step_same h i j p q a b = table_same h nought i j (p.kind ∙ sym q.kind) a b p.solves q.solves

  left_same : (h : History) (i a b : Instant) (p : LeftAfter (system_of f grades) script h i a) (q : LeftAfter (system_of f grades) script h i b) → p.duration ≡ q.duration → a.inputs ≡ b.inputs → a.fired ≡ b.fired → a.table ≡ b.table
  left_same h i a b p q e c d =
      let S : Fraction → Type 0 = λ x. b.table ≡ solved f (i ∷ h) x b in
      table_same (i ∷ h) p.duration a b (p.kind ∙ sym q.kind) c d p.solves (subst S (sym e) q.solves)

  module _ (h : History) (i : Instant) (y z : Course FlowTable) (p : IsFlow (system_of f grades) h i y) (q : IsFlow (system_of f grades) h i z) where
    tables_same : (s : Fraction) → IsReduced s → is_negative s ≡ false → (y s).table ≡ (z s).table
    tables_same s a b =
        one_table f (flow_moment f h i s) r (y s).table (z s).table
        ((flow_tables f grades h i y p).table s a b) ((flow_tables f grades h i z q).table s a b)

    start_same : (y nought).table ≡ (z nought).table
    start_same = tables_same nought (IsReduced-whole (pos 0)) refl

    unit_same : (y unit).table ≡ (z unit).table
    unit_same = tables_same unit (IsReduced-whole (pos 1)) refl

    fine_same : (y nought).fine ≡ (z nought).fine
    fine_same =
        let e = start_same in
        let d = unit_same in
        one_fine f r (y nought).table (y unit).table (y nought).fine (z nought).fine
        (flow_fine f grades h i y p) (rw (e, d) (flow_fine f grades h i z q))

    flow_same : AreAlike (system_of f grades) script h i y z
    flow_same = record {
      fault =
          ap₂ (λ t u. slope_fault f grades t u (y nought).fine) start_same unit_same
          ∙ ap (λ l. slope_fault f grades (z nought).table (z unit).table l) fine_same;
      lacks = refl;
      values = λ s a b n. ap (λ t. site_value f (state_in t) n) (tables_same s a b);
      moves = λ d. ap (λ t. first_wide (move_tests i.time d (motions (state_in t) (state_of i) 0 f.places))) start_same;
      left = λ a b l m is_y is_z same c e. left_same h i a b l m same c e;
    }

  determines : Determines (system_of f grades) script
  determines = record { step = step_same; flow = λ h i y z p q. flow_same h i y z p.solves q.solves }

  pub one_run : HasOneRun (system_of f grades) script
  one_run = has_one_run (system_of f grades) script determines
