-- What is left of the list leads to all.
use Rattle.std.specs.Prelude.{◌≡◌, ◌++◌, List, [], drop}
use Rattle.zl_code.specs.declared.stmt.Stmt.{Stmt}
use Rattle.zl_codegen.specs.Statements.{body}
use Rattle.zl_codegen.proofs.statements.body.Given as goal

abbrev pub invariant-loop-i : goal.invariant-loop-i
invariant-loop-i l =
    (rest : List Stmt) → l.out.items ++ body l.wires l.stepping l.marks l.left l.opened.items (drop l.i l.list) rest ≡ body l.wires l.stepping l.marks l.left [] l.list rest
