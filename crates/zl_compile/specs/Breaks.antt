-- The first rule that the bytes of a file break, and where. This project's own.
use Rattle.std.specs.Prelude.{◌≡◌, ℕ, ◌<◌, ◌≤◌, List, length}
use Rattle.std.specs.Str.{IsUtf8}
use Rattle.zl_value.specs.declared.position.Pos.{Pos}
use Rattle.zl_value.specs.declared.rule.Rule.{Rule}
use Rattle.zl_value.specs.declared.rule.Rule.TheVariants as rule
use Rattle.zl_lexer.specs.declared.token.LexAnswer.TheVariants as answer
use Rattle.zl_lexer.specs.Tokens.{StopsAt}
use Rattle.zl_ast.specs.declared.program.Program.{Program}
use Rattle.zl_parser.specs.declared.answer.ParseAnswer.TheVariants as parse_answer
use Rattle.zl_compile.specs.declared.answer.CompileAnswer.{CompileAnswer}
use Rattle.zl_compile.specs.declared.answer.CompileAnswer.TheVariants.{Refused, Memory}
use Rattle.zl_compile.specs.FileText.{IsText, longest_file, file_start, utf8_end}
use Rattle.zl_compile.specs.FileTree.{IsTreeOf, StopsAtToken}
use Rattle.zl_compile.specs.FirstBroken.{IsFirstBroken}

-- the first rule that the bytes of a file break, and where
abbrev pub Breaks : List ℕ → Rule → Pos → Type 0
Breaks bytes rule.Size at = (longest_file < length bytes) × (at ≡ file_start)
Breaks bytes rule.Utf8 at = (length bytes ≤ longest_file) × (IsUtf8 bytes → ⊥) × (at ≡ utf8_end bytes)
Breaks bytes rule.Token at = IsText bytes × StopsAt bytes (answer.BadToken at)
Breaks bytes rule.Literal at = IsText bytes × StopsAt bytes (answer.Literal at)
Breaks bytes rule.Parse at = (token : ℕ) × StopsAtToken bytes (parse_answer.Parse token at)
Breaks bytes rule.Deep at = (token : ℕ) × StopsAtToken bytes (parse_answer.Deep token at)
Breaks bytes r at = (program : Program) × IsTreeOf bytes program × IsFirstBroken program r at

-- why the bytes of a file are refused: the first rule that they break, or there was no memory
abbrev pub RefusesBytes : List ℕ → CompileAnswer → Type 0
RefusesBytes bytes (Refused r at) = Breaks bytes r at
RefusesBytes bytes Memory = Unit {0}
