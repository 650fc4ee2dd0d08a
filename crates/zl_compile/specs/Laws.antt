-- What holds of all files.
use Rattle.std.specs.Prelude.{ℕ, List}
use Rattle.zl_value.specs.declared.position.Pos.{Pos}
use Rattle.zl_value.specs.declared.rule.Rule.{Rule}
use Rattle.zl_compile.specs.Accepts.{BreaksNoRule}
use Rattle.zl_compile.specs.Breaks.{Breaks}

-- a file that breaks no rule breaks none at any place
abbrev pub NeverBoth : Type 0
NeverBoth = (bytes : List ℕ) (r : Rule) (at : Pos) → BreaksNoRule bytes → Breaks bytes r at → ⊥
