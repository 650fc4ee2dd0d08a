-- A form of the main block alone has what the law of normal forms asks of it.
use Rattle.std.specs.Prelude.{ℕ, List}
use Rattle.zl_meaning.specs.FlatForm.{FlatForm}
use Rattle.zl_meaning.specs.Decided.{HasTests, HasDerivatives}
use Rattle.zl_meaning.specs.Grades.{Grading}
use Rattle.zl_meaning.specs.GradesLaw.{IsGradable, AreAllowed}
use Rattle.zl_meaning.proofs.LevelsOfRanks.{levels-of-ranks}
use Rattle.zl_meaning.proofs.RanksOfLevels.{ranks-of-levels}
use Rattle.zl_normal.specs.MainBlock.{IsMain}
use Rattle.zl_normal.specs.Starts.{KeepsFlows}
use Rattle.zl_normal.proofs.Runs.KeepsRuns.{normal_runs}
use Rattle.zl_premises.specs.Lasts.{HasLastsInCopies}
use Rattle.zl_premises.specs.Whole.{HasPremises, MainFormsKeepRuns}
use Rattle.zl_premises.proofs.CalmCopies.{keeps_inits}
use Rattle.zl_premises.proofs.GuardRanks.{ranks_give_guard_ranks}
use Rattle.zl_premises.proofs.Grounded.{keeps_moving}
use Rattle.zl_premises.proofs.Lasts.{lasts_are_kept}
use Rattle.zl_premises.proofs.Starting.{grades_start_right}
use Rattle.zl_premises.proofs.Untested.{no_test}
use Rattle.zl_premises.proofs.WidthRuns.{derivatives_narrow}

-- without tests each test has a value
no_tests : (f : FlatForm) (grades : List ℕ) → IsGradable f → IsMain f → HasTests f grades
no_tests f grades form main script h i suits prefix fine k used = absurd (no_test f main form.formed k used)

pub grades_keep_flows : (f : FlatForm) (g : Grading) → IsGradable f → IsMain f → AreAllowed f g → HasDerivatives f g.occs → KeepsFlows f g
grades_keep_flows f g form main grades slopes =
    let tests = no_tests f g.occs form main in
    let ranks = ranks-of-levels f form.formed (levels-of-ranks f form.formed form.ranks.of_places form.ranks.of_blocks form.ranks.grow) in
    let keeps = keeps_moving f g form grades tests slopes in
    record {
      grades = keeps.grades;
      moving = keeps.moving;
      starts = grades_start_right f g form grades tests slopes;
      derivatives = derivatives_narrow f g.occs form.formed main ranks slopes;
    }

pub main_forms_have_premises : (f : FlatForm) (g : Grading) → IsGradable f → IsMain f → AreAllowed f g → HasDerivatives f g.occs → HasLastsInCopies f → HasPremises f g
main_forms_have_premises f g form main grades slopes lasts = record {
  guards = ranks_give_guard_ranks f form.formed main form.single form.regular.copies (keeps_inits f form.formed main form.regular) form.ranks;
  lasts = lasts_are_kept f form.formed main form.regular lasts;
  flows = grades_keep_flows f g form main grades slopes;
}

pub main_forms_keep_runs : MainFormsKeepRuns
main_forms_keep_runs f g names k N form main grades slopes lasts normal script suits =
    let has = main_forms_have_premises f g form main grades slopes lasts in
    normal_runs f g names k N script main form.single has.guards has.lasts normal form.formed has.flows suits
