-- The forms of the words.
use Rattle.std.specs.Prelude.{ℕ, List}
use Rattle.zl_cli.specs.declared.command.Command.{Command}
use Rattle.zl_cli.specs.declared.command.Command.TheVariants as command
use Rattle.zl_cli.specs.Report.{IsCheck, IsRun, Asks}

-- the words are those of the command; they ask for nothing where they have no form
abbrev pub IsCommand : List (List ℕ) → Command → Type 0
IsCommand words (command.Check file) = IsCheck words file.now
IsCommand words (command.Run file script) = IsRun words file.now script.now
IsCommand words command.Other = (file : List ℕ) → Asks words file → ⊥
