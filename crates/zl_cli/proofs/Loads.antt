-- How what the bytes of a file answer makes what reading it does.
use Rattle.std.proofs.Common.{◌≡◌, ℕ, List, Option, Result, Ok, Err, refl, inr}
use Rattle.std.specs.Prelude.{⊤}
use Rattle.zl_outside.specs.FileMap.{FileMap, HoldsFile}
use Rattle.zl_value.specs.declared.position.Pos.{Pos}
use Rattle.zl_value.specs.declared.rule.Rule.{Rule}
use Rattle.zl_value.specs.declared.rule.Rule.TheVariants as rule
use Rattle.zl_value.specs.declared.thin.Thin.{Thin}
use Rattle.zl_compile.specs.declared.file.Accepted.{Accepted}
use Rattle.zl_compile.specs.Accepts.{IsAccepted}
use Rattle.zl_cli.specs.declared.load.Stop.{Stop}
use Rattle.zl_cli.specs.declared.load.Stop.TheVariants as stop
use Rattle.zl_cli.specs.Files.{LoadsChecked, LoadsProgram, IsNotRun, read_cap}
use Rattle.zl_cli.specs.Loading.{GivesChecked, GivesProgram, GivesThin}

module _ (bytes : List ℕ) (a : Accepted) (accepted : IsAccepted bytes a) where
  -- a tree that breaks no rule is refused where it isn't built
  not_built : (r : Rule) (at : Pos) → GivesThin a.program (Err (stop.Refused r at)) → IsNotRun bytes r at
  not_built rule.Size at gives = absurd gives
  not_built rule.Utf8 at gives = absurd gives
  not_built rule.Token at gives = absurd gives
  not_built rule.Literal at gives = absurd gives
  not_built rule.Parse at gives = absurd gives
  not_built rule.Deep at gives = absurd gives
  not_built rule.NameUnknown at gives = absurd gives
  not_built rule.NameTwice at gives = absurd gives
  not_built rule.DefinedTwice at gives = absurd gives
  not_built rule.Undefined at gives = absurd gives
  not_built rule.Arity at gives = absurd gives
  not_built rule.Branch at gives = absurd gives
  not_built rule.Main at gives = absurd gives
  not_built rule.Last at gives = absurd gives
  not_built rule.TypeClash at gives = absurd gives
  not_built rule.TypeOpen at gives = absurd gives
  not_built rule.Kind at gives = absurd gives
  not_built rule.Init at gives = absurd gives
  not_built rule.ExpandSize at gives = absurd gives
  not_built rule.Causality at gives = absurd gives
  not_built rule.Grade at gives = absurd gives
  not_built rule.Unbuilt at gives = inr ((a, accepted, gives.0), refl, gives.1)

  -- the program of a tree that breaks no rule is that of its bytes
  pub gives_program : (r : Result Thin Stop) → GivesThin a.program r → GivesProgram bytes r
  gives_program (Ok thin) gives = (a, accepted, gives)
  gives_program (Err (stop.Refused rule at)) gives = not_built rule at gives
  gives_program (Err stop.Unread) gives = absurd gives
  gives_program (Err stop.Memory) gives = tt

module _ (told : Option FileMap) (before now : List (List ℕ)) (name bytes : List ℕ) (read : now ≡ before) (holds : HoldsFile told name read_cap bytes) where
  pub loads_checked : (r : Result ⊤ Stop) → GivesChecked bytes r → LoadsChecked told before now name r
  loads_checked (Ok _) gives = (read, (bytes, holds, gives))
  loads_checked (Err (stop.Refused rule at)) gives = (read, (bytes, holds, gives))
  loads_checked (Err stop.Unread) gives = absurd gives
  loads_checked (Err stop.Memory) gives = read

  pub loads_program : (r : Result Thin Stop) → GivesProgram bytes r → LoadsProgram told before now name r
  loads_program (Ok thin) gives = (read, (bytes, holds, gives))
  loads_program (Err (stop.Refused rule at)) gives = (read, (bytes, holds, gives))
  loads_program (Err stop.Unread) gives = absurd gives
  loads_program (Err stop.Memory) gives = read
