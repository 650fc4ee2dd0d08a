-- What is left of the memories leads to all.
use Rattle.std.specs.Prelude.{◌≡◌, ◌++◌, drop}
use Rattle.zl_codegen.specs.Statements.{sets}
use Rattle.zl_codegen.proofs.statements.sets.Given as goal

abbrev pub invariant-loop-i : goal.invariant-loop-i
invariant-loop-i l =
    l.out.items ++ sets l.held l.i (drop l.i l.mems) ≡ l.initial.out.items ++ sets l.held 0 l.mems
