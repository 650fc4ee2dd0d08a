-- The runs of a flat form with a script. `grades` has the grade of each occurrence that has one, and 3 for the others.
use Rattle.std.specs.Prelude.{ℕ, List}
use Rattle.zl_value.specs.Runs.{IsPrefix as IsPrefixOf, IsRun as IsRunOf}
use Rattle.zl_value.specs.declared.script.Script.{Script}
use Rattle.zl_value.specs.declared.script.Ending.{Ending}
use Rattle.zl_meaning.specs.FlatForm.{FlatForm}
use Rattle.zl_meaning.specs.History.{History}
use Rattle.zl_meaning.specs.System.{system_of}

-- the beginning of a run
abbrev pub IsPrefix : FlatForm → List ℕ → Script → History → Type 0
IsPrefix f grades script h = IsPrefixOf (system_of f grades) script h

-- a run: the whole history, with its end
abbrev pub IsRun : FlatForm → List ℕ → Script → History → Ending → Type 0
IsRun f grades script h ending = IsRunOf (system_of f grades) script h ending
