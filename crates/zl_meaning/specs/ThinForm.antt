-- The run of the simplest form with a flow: one variable, whose derivative is a number.
--     let hybrid main() = x where rec der x = SLOPE init START
use Rattle.std.specs.Prelude.{◌≡◌, ℕ, Bool, true, not, ◌&&◌, if◌then◌else◌, List, [], ◌∷◌, ◌++◌, get_or, None}
use Rattle.std.specs.List.{concat}
use Rattle.zl_value.specs.Fraction.{Fraction, IsFrac, add, mul, fits}
use Rattle.zl_value.specs.Lines.{instant_line, ending_line}
use Rattle.zl_value.specs.Lists.{when}
use Rattle.zl_value.specs.Script.{IsTime}
use Rattle.zl_value.specs.Times.{nought, is_same}
use Rattle.zl_value.specs.declared.arith.Arith.TheVariants.{Range}
use Rattle.zl_value.specs.declared.position.Pos.{Pos}
use Rattle.zl_value.specs.declared.script.Ending.{Ending}
use Rattle.zl_value.specs.declared.script.Ending.TheVariants.{Horizon, Fault as EndsInFault}
use Rattle.zl_value.specs.declared.script.Mark.{Mark}
use Rattle.zl_value.specs.declared.script.Mark.TheVariants.{Step, Left, Flow}
use Rattle.zl_value.specs.declared.script.Script.{Script}
use Rattle.zl_value.specs.declared.thin.Thin.{Thin}
use Rattle.zl_value.specs.declared.value.Ty.TheVariants.{Float}
use Rattle.zl_value.specs.declared.value.Value.TheVariants.{F}
use Rattle.zl_meaning.specs.FlatForm.{FlatForm}
use Rattle.zl_meaning.specs.Grades.{AreGrades}
use Rattle.zl_meaning.specs.History.{History}
use Rattle.zl_meaning.specs.Run.{IsRun}
use Rattle.zl_meaning.specs.Trace.{trace}
use Rattle.zl_meaning.specs.Worked.{block, place, occ}
use Rattle.zl_meaning.specs.declared.block.BlockKind.TheVariants.{Main}
use Rattle.zl_meaning.specs.declared.place.Definer.TheVariants.{Der, Start}
use Rattle.zl_meaning.specs.declared.occurrence.Form.TheVariants.{Lit, Read}

-- what the form says beside the variable itself: the number of its name in the file, and where the result, the derivative
-- and the initial value stand
pub record ThinText : Type 0 where
  pub name : ℕ
  pub result : Pos
  pub slope : Pos
  pub start : Pos

-- the flat form of the program
abbrev pub thin_form : Thin → ThinText → FlatForm
thin_form thin text = record {
  blocks =
      block None Main true
      ∷ [];
  places =
      place 0 None Float text.name thin.at (Der 0 1 [] ∷ Start 0 2 ∷ [])
      ∷ [];
  occs =
      occ 0 None Float text.result (Read 0)
      ∷ occ 0 None Float text.slope (Lit (F thin.slope))
      ∷ occ 0 None Float text.start (Lit (F thin.start))
      ∷ [];
  sites = [];
  choices = [];
  automata = [];
  again = [];
  ins = [];
  outs = 0 ∷ [];
}

-- its grades: the result moves, the derivative stands still, the initial value has none
abbrev pub thin_grades : List ℕ
thin_grades = 1 ∷ 0 ∷ 3 ∷ []

-- these are its grades, whatever the numbers; its one place moves
abbrev pub ThinIsGraded : Type 0
ThinIsGraded = (thin : Thin) (text : ThinText) → AreGrades (thin_form thin text) (record { occs = thin_grades; places = 1 ∷ [] })

-- a script that gives the horizon and no more
abbrev pub horizon_script : Fraction → ℕ → Script
horizon_script horizon steps = record { horizon = horizon; steps = steps; lines = [] }

-- how far the variable moves up to the horizon, and to where
abbrev pub increment : Thin → Fraction → Fraction
increment thin horizon = mul thin.slope horizon

abbrev pub arrival : Thin → Fraction → Fraction
arrival thin horizon = add thin.start (increment thin horizon)

-- the run ends at the horizon if both are in the width, else in the flow, by a fault at the variable
abbrev pub thin_run_end : Thin → Fraction → Ending
thin_run_end thin horizon =
    if fits (increment thin horizon) && fits (arrival thin horizon) then Horizon
    else EndsInFault (record { kind = Range; at = thin.at }) nought Flow

-- a flow begins before the horizon alone; it comes to the horizon if what moves stays in the width
abbrev pub thin_arrives : Thin → Fraction → Bool
thin_arrives thin horizon = not (is_same nought horizon) && (fits (increment thin horizon) && fits (arrival thin horizon))

-- the line of an instant at which the variable has this value
abbrev pub thin_line : Thin → Fraction → Mark → Fraction → List ℕ
thin_line thin time mark value = instant_line time mark (record { name = thin.name; value = F value } ∷ [])

-- the lines of the run: the first step, at time 0 with the initial value; the left end of the flow; and the end
abbrev pub thin_run_lines : Thin → Fraction → List (List ℕ)
thin_run_lines thin horizon =
    thin_line thin nought (Step 0) thin.start
    ∷ when (thin_arrives thin horizon) (thin_line thin horizon Left (arrival thin horizon))
    ++ ending_line (thin_run_end thin horizon)
    ∷ []

-- the form has a run with the script, and each run that it has ends so and prints this
pub record HasOneTrace (f : FlatForm) (grades : List ℕ) (names : List (List ℕ)) (script : Script) (ending : Ending) (text : List ℕ) : Type 0 where
  pub history : History
  pub run : IsRun f grades script history ending
  pub printed : trace f names history ending ≡ text
  pub only : (h : History) (e : Ending) → IsRun f grades script h e → (e ≡ ending) × (trace f names h e ≡ text)

-- whatever the derivative, the initial value, the horizon and the bound on steps: there is one run, with these lines
abbrev pub ThinRuns : Type 0
ThinRuns = (thin : Thin) (text : ThinText) (names : List (List ℕ)) (horizon : Fraction) (steps : ℕ) → IsFrac thin.slope → IsFrac thin.start → IsTime horizon → get_or names text.name [] ≡ thin.name → HasOneTrace (thin_form thin text) thin_grades names (horizon_script horizon steps) (thin_run_end thin horizon) (concat (thin_run_lines thin horizon))
