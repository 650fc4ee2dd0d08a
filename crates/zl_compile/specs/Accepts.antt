-- The files that break no rule.
use Rattle.std.specs.Prelude.{ℕ, List}
use Rattle.zl_ast.specs.Parsed.{IsParsed}
use Rattle.zl_compile.specs.declared.file.Accepted.{Accepted}
use Rattle.zl_compile.specs.FileTree.{IsTreeOf}
use Rattle.zl_compile.specs.Rules.{KeepsRules}

-- The bytes are text with these tokens and this tree, which keeps the rules of every stage.
pub record IsAccepted (bytes : List ℕ) (a : Accepted) : Type 0 where
  pub tree : IsTreeOf bytes a.program
  pub parsed : IsParsed a.program
  pub rules : KeepsRules a

-- the bytes of a file break no rule
abbrev pub BreaksNoRule : List ℕ → Type 0
BreaksNoRule bytes = (a : Accepted) × IsAccepted bytes a
