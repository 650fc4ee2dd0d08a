-- What is printed of a flat form's run.
use Rattle.std.specs.Prelude.{ℕ, List, [], get_or, slice_get, Option}
use Rattle.std.specs.List.{filter_map}
use Rattle.std.specs.Option.{option_map, option_and_then}
use Rattle.zl_value.specs.Lines.{Shown}
use Rattle.zl_value.specs.Traces.{trace as trace_of}
use Rattle.zl_value.specs.declared.script.Ending.{Ending}
use Rattle.zl_meaning.specs.FlatForm.{FlatForm}
use Rattle.zl_meaning.specs.State.{Table, State, state_in, AtPlace}
use Rattle.zl_meaning.specs.History.{History}
use Rattle.zl_meaning.specs.System.{system_of}
use Rattle.zl_meaning.specs.declared.place.PlaceInfo.{PlaceInfo}

-- a place of the outputs with its name and value; `names` are the names of the file
abbrev pub shown : FlatForm → List (List ℕ) → State → ℕ → Option Shown
shown f names s p = option_and_then (λ (place : PlaceInfo). option_map (λ v. record { name = get_or names place.name []; value = v }) (s (AtPlace p))) (slice_get f.places p)

-- the outputs that have a value
abbrev pub outputs : FlatForm → List (List ℕ) → Table → List Shown
outputs f names t = filter_map (shown f names (state_in t)) f.outs

-- all that is printed of a run, whatever the grades
abbrev pub trace : FlatForm → List (List ℕ) → History → Ending → List ℕ
trace f names h ending = trace_of (system_of f []) (outputs f names) h ending
