-- What a run needs to go on: a step where one is due, and a flow where one is.
use Rattle.std.specs.Prelude.{◌≡◌, List, ◌∷◌, length, ℕ, Option}
use Rattle.std.proofs.Common.{refl, ap₂}
use Rattle.zl_value.specs.Fraction.{Fraction}
use Rattle.zl_value.specs.Times.{nought, unit}
use Rattle.zl_value.specs.Stops.{line_for, inputs_after}
use Rattle.zl_value.specs.Loop.{Steps, Flows}
use Rattle.zl_value.specs.Instants.{Kind, Step, latest_inputs, time_of, steps_at}
use Rattle.zl_value.specs.System.{Course, fired_after, next}
use Rattle.zl_value.specs.Runs.{StepAfter, FlowAfter}
use Rattle.zl_value.specs.declared.value.Value.{Value}
use Rattle.zl_value.specs.declared.script.Script.{Script}
use Rattle.zl_meaning.specs.FlatForm.{FlatForm}
use Rattle.zl_meaning.specs.State.{Table, empty_table}
use Rattle.zl_meaning.specs.History.{Instant, History}
use Rattle.zl_meaning.specs.Equation.{turn}
use Rattle.zl_meaning.specs.Solves.{moment_of, solved}
use Rattle.zl_meaning.specs.Flow.{FlowTable, flow_moment}
use Rattle.zl_meaning.specs.System.{system_of}
use Rattle.zl_meaning.specs.Reading.{HasNodeRanks}
use Rattle.zl_meaning.proofs.OneTable.{some_table}
use Rattle.zl_meaning.proofs.OneFine.{some_fine}

-- an instant by its parts
abbrev pub instant_at : Kind → Fraction → List (Option Value) → List ℕ → Table → Instant
instant_at kind time inputs fired table = record { kind = kind; time = time; inputs = inputs; fired = fired; table = table }

pub some_instant : (f : FlatForm) → HasNodeRanks f → (h : History) (passed : Fraction) (kind : Kind) (time : Fraction) (inputs : List (Option Value)) (fired : List ℕ) → (t : Table) × (t ≡ solved f h passed (instant_at kind time inputs fired t))
some_instant f r h passed kind time inputs fired = some_table f (moment_of f h passed (instant_at kind time inputs fired empty_table)) r

-- where a step is due there is one
pub some_step : (f : FlatForm) → HasNodeRanks f → (grades : List ℕ) (script : Script) (h : History) → next (system_of f grades) script h ≡ Steps → (i : Instant) × StepAfter (system_of f grades) script h i
some_step f r grades script h due =
    let inputs = inputs_after (length f.ins) (line_for script (time_of h) (steps_at (time_of h) h)) (latest_inputs h) in
    let fired = fired_after (system_of f grades) h in
    let some = some_instant f r h nought Step (time_of h) inputs fired in (
      instant_at Step (time_of h) inputs fired some.0,
      record { due = due; kind = refl; time = refl; inputs = refl; fired = refl; solves = some.1 },
    )

-- what stands at the moments of a flow
moment_table : (f : FlatForm) → HasNodeRanks f → (h : History) (i : Instant) (s : Fraction) → (t : Table) × (t ≡ turn f (flow_moment f h i s) t)
moment_table f r h i s = some_table f (flow_moment f h i s) r

-- where a flow is due there is one
pub some_flow : (f : FlatForm) → HasNodeRanks f → (grades : List ℕ) (script : Script) (h : History) (i : Instant) → next (system_of f grades) script (i ∷ h) ≡ Flows → (y : Course FlowTable) × FlowAfter (system_of f grades) script h i y
some_flow f r grades script h i due =
    let fine = some_fine f r (moment_table f r h i nought).0 (moment_table f r h i unit).0 in (
      (λ s. record { table = (moment_table f r h i s).0; fine = fine.0 }),
      record {
        due = due;
        solves = λ s a b. ap₂ (λ t l. let x : FlowTable = record { table = t; fine = l } in x) (moment_table f r h i s).1 fine.1;
      },
    )
