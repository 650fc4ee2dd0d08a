-- The marks of what is left lead to all.
use Rattle.std.specs.Prelude.{◌≡◌, drop}
use Rattle.zl_codegen.specs.Needs.{marked, failing_from}
use Rattle.zl_codegen.proofs.needs.mark_failing.Given as goal

abbrev pub invariant-loop-i : goal.invariant-loop-i
invariant-loop-i l =
    marked (failing_from l.i (drop l.i l.wires)) l.marks ≡ marked (failing_from 0 l.wires) l.initial.marks
