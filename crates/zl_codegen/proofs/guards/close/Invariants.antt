-- What is left of the guards leads to all.
use Rattle.std.specs.Prelude.{◌≡◌, ◌++◌, List, drop}
use Rattle.zl_code.specs.declared.stmt.Stmt.{Stmt}
use Rattle.zl_codegen.specs.Guards.{close}
use Rattle.zl_codegen.proofs.guards.close.Given as goal

abbrev pub invariant-loop-i : goal.invariant-loop-i
invariant-loop-i l =
    (rest : List Stmt) → l.out.items ++ close (drop l.i l.guards) rest ≡ l.initial.out.items ++ close l.guards rest
