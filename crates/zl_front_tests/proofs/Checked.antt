-- What the calls of the front say of a program, in the words of the call behind them.
use Rattle.std.proofs.Common.{◌≡◌, List, [], subst}
use Rattle.zl_value.specs.declared.value.Ty.{Ty}
use Rattle.zl_ast.specs.declared.program.Program.{Program}
use Rattle.zl_ast.specs.declared.scope.VarInfo.{VarInfo}
use Rattle.zl_ast.specs.Parsed.{IsParsed}
use Rattle.zl_ast.specs.NamesRules.{violations}
use Rattle.zl_ast.specs.Scopes.{scopes}
use Rattle.zl_ast.specs.TypeEqualities.{equalities}
use Rattle.zl_ast.specs.Assignments.{IsTyping}
use Rattle.zl_ast.specs.Kinds.{misplaced}
use Rattle.zl_flat.specs.Checked.{IsChecked}

-- a tree that keeps the rules is what expansion asks for
pub checked_by : (p : Program) (vars : List (List VarInfo)) (types : List (List Ty)) → IsParsed p → violations p ≡ [] → vars ≡ scopes p → IsTyping (equalities p) vars types → misplaced p ≡ [] → IsChecked p types
checked_by p vars types parsed names same typing placed =
    record { parsed = parsed; names = names; typing = subst (λ vs. IsTyping (equalities p) vs types) same typing; placed = placed }
