-- What the law of normal forms asks of a form, from what the passes find of it.
use Rattle.std.specs.Prelude.{ℕ, List}
use Rattle.zl_value.specs.Script.{IsScriptFor}
use Rattle.zl_value.specs.declared.script.Script.{Script}
use Rattle.zl_meaning.specs.FlatForm.{FlatForm}
use Rattle.zl_meaning.specs.Decided.{HasDerivatives}
use Rattle.zl_meaning.specs.Grades.{Grading}
use Rattle.zl_meaning.specs.GradesLaw.{IsGradable, AreAllowed}
use Rattle.zl_meaning.specs.Inputs.{input_types}
use Rattle.zl_kernel.specs.KernelForm.{KernelForm}
use Rattle.zl_normal.specs.Wiring.{Wiring}
use Rattle.zl_normal.specs.Evaluated.{HasGuardRanks, KeepsLasts}
use Rattle.zl_normal.specs.MainBlock.{IsMain}
use Rattle.zl_normal.specs.Starts.{KeepsFlows}
use Rattle.zl_normal.specs.Normal.{IsNormal}
use Rattle.zl_normal.specs.Laws.{KeepsRunsOf}
use Rattle.zl_premises.specs.Lasts.{HasLastsInCopies}

-- a form of the main block alone, of which grades are asked and whose grades are allowed, keeps its flows, if in its runs each
-- derivative has a value
abbrev pub GradesKeepFlows : Type 0
GradesKeepFlows = (f : FlatForm) (g : Grading) → IsGradable f → IsMain f → AreAllowed f g → HasDerivatives f g.occs → KeepsFlows f g

-- what the law of normal forms asks
pub record HasPremises (f : FlatForm) (g : Grading) : Type 0 where
  pub guards : HasGuardRanks f
  pub lasts : KeepsLasts f
  pub flows : KeepsFlows f g

-- such a form has it, if `last` of a place in the copy of a call stands in that copy
abbrev pub MainFormsHavePremises : Type 0
MainFormsHavePremises = (f : FlatForm) (g : Grading) → IsGradable f → IsMain f → AreAllowed f g → HasDerivatives f g.occs → HasLastsInCopies f → HasPremises f g

-- so its normal form keeps its runs, with each script for its inputs
abbrev pub MainFormsKeepRuns : Type 0
MainFormsKeepRuns = (f : FlatForm) (g : Grading) (names : List (List ℕ)) (k : KernelForm) (N : Wiring) → IsGradable f → IsMain f → AreAllowed f g → HasDerivatives f g.occs → HasLastsInCopies f → IsNormal f g.occs names k N → (script : Script) → IsScriptFor (input_types f) script → KeepsRunsOf f g.occs names k N script
