-- What the law of grades rests on, for a form whose grades are allowed, and the flow after an instant of its runs.
use Rattle.std.specs.Prelude.{◌≡◌, ◌∷◌, None}
use Rattle.zl_value.specs.Fraction.{Fraction}
use Rattle.zl_value.specs.Script.{IsScriptFor}
use Rattle.zl_value.specs.declared.script.Script.{Script}
use Rattle.zl_meaning.specs.FlatForm.{FlatForm}
use Rattle.zl_meaning.specs.State.{Table}
use Rattle.zl_meaning.specs.History.{Instant, History}
use Rattle.zl_meaning.specs.Solves.{instant_fault}
use Rattle.zl_meaning.specs.Flow.{Flow}
use Rattle.zl_meaning.specs.Run.{IsPrefix}
use Rattle.zl_meaning.specs.Inputs.{input_types}
use Rattle.zl_meaning.specs.Decided.{HasTests, HasDerivatives}
use Rattle.zl_meaning.specs.Demand.{is_demanded}
use Rattle.zl_meaning.specs.Grades.{Grading}
use Rattle.zl_meaning.specs.GradesLaw.{IsGradable, AreAllowed}
use Rattle.zl_meaning.specs.KeepsGrades.{FlowKeeps, KeepsGrades}
use Rattle.zl_meaning.proofs.LevelsOfRanks.{levels-of-ranks}
use Rattle.zl_meaning.proofs.RanksOfLevels.{ranks-of-levels}
use Rattle.zl_meaning.proofs.Beginnings.{latest-solved}
use Rattle.zl_meaning.proofs.GradesKept.TypedRuns.{prefix_typed}
use Rattle.zl_meaning.proofs.GradesKept.GradeTable.{Ground}
use Rattle.zl_meaning.proofs.GradesKept.NeverBlank.{never_blank}
use Rattle.zl_meaning.proofs.GradesKept.FlowItems.{form_keeps, definers, passes}
use Rattle.zl_meaning.proofs.GradesKept.AtStart.{IsStart}
use Rattle.zl_meaning.proofs.GradesKept.Starts.{keeps-starts}
use Rattle.zl_meaning.proofs.GradesKept.Kept.{grades_are_kept}
use Rattle.zl_premises.specs.Moving.{KeepsMoving}
use Rattle.zl_premises.proofs.Moving.{table_moves}

module _ (f : FlatForm) (g : Grading) (form : IsGradable f) (grades : AreAllowed f g) (tests : HasTests f g.occs) (slopes : HasDerivatives f g.occs) where
  ground : Ground f g
  ground = record {
    formed = form.formed;
    regular = form.regular;
    main = form.hybrid;
    single = form.single;
    starts = keeps-starts f form.formed form.regular.copies form.single;
    ranks = ranks-of-levels f form.formed (levels-of-ranks f form.formed form.ranks.of_places form.ranks.of_blocks form.ranks.grow);
    grades = grades.table;
    fine = grades.fine;
  }

  -- the flow after an instant without a fault
  pub begins : (script : Script) (h : History) (i : Instant) (at : Fraction → Table) → IsScriptFor (input_types f) script → IsPrefix f g.occs script (i ∷ h) → instant_fault f h i ≡ None → Flow f h i at → IsStart f g h i at
  begins script h i at suits prefix fine flow = record {
    ground = ground;
    flow = flow;
    typed = prefix_typed f script suits form.formed ground.ranks g.occs (i ∷ h) prefix;
    solved = latest-solved f g.occs script h i prefix;
    decided = record { blank = never_blank f form.formed ground.ranks g.occs tests script h i suits prefix fine; slopes = slopes script h i suits prefix fine };
    fine = fine;
  }

  kept : KeepsGrades f g
  kept = grades_are_kept f g form grades tests slopes

  -- the table itself is a grading by which the form keeps its grades
  by_table : (script : Script) (h : History) (i : Instant) (at : Fraction → Table) → IsScriptFor (input_types f) script → IsPrefix f g.occs script (i ∷ h) → instant_fault f h i ≡ None → Flow f h i at → FlowKeeps f g g i (is_demanded f script (i ∷ h)) at
  by_table script h i at suits prefix fine flow =
      let old = kept.flows script h i at suits prefix fine flow in
      let typed = prefix_typed f script suits form.formed ground.ranks g.occs (i ∷ h) prefix in
      record {
        still = old.still;
        still_places = old.still_places;
        still_types = old.still_types;
        lines = old.lines;
        line_places = old.line_places;
        derivatives = old.derivatives;
        arguments = old.arguments;
        derivatives_start = old.derivatives_start;
        arguments_start = old.arguments_start;
        failing_used = old.failing_used;
        failing_operands = old.failing_operands;
        others = old.others;
        definers = λ p b k place is ty le has used. definers f g ground h i at flow typed p b k place is has used;
        passes = λ k j occ is ty le has used. passes f g ground h i at flow typed k j occ is le has;
      }

  pub keeps_moving : KeepsMoving f g
  keeps_moving = record {
    grades = record { whole = g; form = form_keeps f g ground; flows = by_table };
    moving = table_moves f g grades.table;
  }
