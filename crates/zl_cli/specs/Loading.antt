-- What the steps of reading a file answer. What reading answers is made of these.
use Rattle.std.specs.Prelude.{◌≡◌, ⊤, ℕ, List, Some, None, Result, Ok, Err}
use Rattle.zl_value.specs.declared.rule.Rule.TheVariants as rule
use Rattle.zl_value.specs.declared.thin.Thin.{Thin}
use Rattle.zl_ast.specs.declared.program.Program.{Program}
use Rattle.zl_compile.specs.Accepts.{BreaksNoRule}
use Rattle.zl_compile.specs.Breaks.{Breaks}
use Rattle.zl_compile.specs.FileText.{file_start}
use Rattle.zl_cli.specs.Files.{IsProgram, IsNotRun}
use Rattle.zl_cli.specs.ThinTree.{thin_tree}
use Rattle.zl_cli.specs.declared.load.Stop.{Stop}
use Rattle.zl_cli.specs.declared.load.Stop.TheVariants as stop

-- the bytes break no rule
abbrev pub GivesChecked : List ℕ → Result ⊤ Stop → Type 0
GivesChecked bytes (Ok _) = BreaksNoRule bytes
GivesChecked bytes (Err (stop.Refused r at)) = Breaks bytes r at
GivesChecked bytes (Err stop.Unread) = ⊥
GivesChecked bytes (Err stop.Memory) = Unit {0}

-- the bytes have a program
abbrev pub GivesProgram : List ℕ → Result Thin Stop → Type 0
GivesProgram bytes (Ok thin) = IsProgram bytes thin
GivesProgram bytes (Err (stop.Refused r at)) = IsNotRun bytes r at
GivesProgram bytes (Err stop.Unread) = ⊥
GivesProgram bytes (Err stop.Memory) = Unit {0}

-- the tree is of the form that is built
abbrev pub GivesThin : Program → Result Thin Stop → Type 0
GivesThin program (Ok thin) = thin_tree program ≡ Some thin
GivesThin program (Err (stop.Refused rule.Unbuilt at)) = (thin_tree program ≡ None) × (at ≡ file_start)
GivesThin program (Err (stop.Refused _ at)) = ⊥
GivesThin program (Err stop.Unread) = ⊥
GivesThin program (Err stop.Memory) = Unit {0}
