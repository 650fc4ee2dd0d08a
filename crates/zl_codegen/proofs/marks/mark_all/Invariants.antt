-- The marks of what is left lead to all.
use Rattle.std.specs.Prelude.{◌≡◌, drop}
use Rattle.zl_codegen.specs.Needs.{marked}
use Rattle.zl_codegen.proofs.marks.mark_all.Given as goal

abbrev pub invariant-loop-i : goal.invariant-loop-i
invariant-loop-i l =
    marked (drop l.i l.ns) l.marks ≡ marked l.ns l.initial.marks
