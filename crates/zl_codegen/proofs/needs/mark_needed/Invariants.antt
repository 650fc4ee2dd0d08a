-- The wires from here on have marked what they need.
use Rattle.std.specs.Prelude.{◌≡◌, ◌≤◌, length, drop}
use Rattle.zl_codegen.specs.Needs.{needed}
use Rattle.zl_codegen.proofs.needs.mark_needed.Given as goal

abbrev pub invariant-loop-i : goal.invariant-loop-i
invariant-loop-i l =
    (l.i ≤ length l.list) × (l.marks ≡ needed l.wires l.out (drop l.i l.list) l.initial.marks)

abbrev pub decreases-loop-i : goal.decreases-loop-i
decreases-loop-i l = l.i
