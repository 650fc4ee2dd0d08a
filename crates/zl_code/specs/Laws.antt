-- What is proved of the definitions, for all codes.
use Rattle.zl_value.specs.OneRun.{HasOneRun as HasOneRunOf}
use Rattle.zl_value.specs.declared.script.Script.{Script}
use Rattle.zl_code.specs.CodeForm.{CodeForm}
use Rattle.zl_code.specs.System.{system_of}

-- a code has at most one run with a script, and two beginnings of runs are equal as far as both go
abbrev pub HasOneRun : Type 0
HasOneRun = (c : CodeForm) (script : Script) → HasOneRunOf (system_of c) script
