-- Equations inside a construct.
use Rattle.std.specs.Prelude.{ℕ, zero, suc, List}
use Rattle.zl_ast.specs.declared.eqn.Eqn.{Eqn}
use Rattle.zl_ast.specs.Reading.{Reader, nothing}
use Rattle.zl_ast.specs.ReadingEquations.{read_eqs}

-- equations inside a construct that opens here
abbrev pub eqs_below : ℕ → Reader (List Eqn)
eqs_below zero = nothing
eqs_below (suc n) = read_eqs n
