-- What is left of the statements from here on is taken.
use Rattle.std.proofs.Common.{◌≤◌, length, drop}
use Rattle.zl_machine.specs.Building.{IsBuilt}
use Rattle.zl_machine.proofs.decoding.decode.Given as goal

abbrev pub invariant-loop-i : goal.invariant-loop-i
invariant-loop-i l = (l.i ≤ length l.stmts) × IsBuilt l.b (drop l.i l.stmts)

abbrev pub decreases-loop-i : goal.decreases-loop-i
decreases-loop-i l = l.i
