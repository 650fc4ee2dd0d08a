-- The marks of what is left lead to all.
use Rattle.std.specs.Prelude.{◌≡◌, drop}
use Rattle.zl_codegen.specs.Needs.{marked, nexts_from}
use Rattle.zl_codegen.proofs.needs.mark_nexts.Given as goal

abbrev pub invariant-loop-i : goal.invariant-loop-i
invariant-loop-i l =
    marked (nexts_from l.held l.i (drop l.i l.mems)) l.marks ≡ marked (nexts_from l.held 0 l.mems) l.initial.marks
