-- After which instants of a flat form's run a step is demanded.
use Rattle.std.specs.Prelude.{Bool, []}
use Rattle.zl_value.specs.System.{is_demanded as is_demanded_by}
use Rattle.zl_value.specs.declared.script.Script.{Script}
use Rattle.zl_meaning.specs.FlatForm.{FlatForm}
use Rattle.zl_meaning.specs.History.{History}
use Rattle.zl_meaning.specs.System.{system_of}

-- whatever the grades
abbrev pub is_demanded : FlatForm → Script → History → Bool
is_demanded f script h = is_demanded_by (system_of f []) script h
