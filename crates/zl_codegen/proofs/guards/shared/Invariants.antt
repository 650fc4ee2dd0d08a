-- The guards up to here stay open.
use Rattle.std.specs.Prelude.{◌≡◌, ◌≤◌, ◌-◌, List, length, drop}
use Rattle.zl_code.specs.declared.stmt.Stmt.{Stmt}
use Rattle.zl_codegen.specs.Guards.{change}
use Rattle.zl_codegen.proofs.guards.shared.Given as goal

abbrev pub invariant-loop-same : goal.invariant-loop-same
invariant-loop-same l =
    (l.same ≤ length l.now) × (l.same ≤ length l.next) × ((rest : List Stmt) → change (drop l.same l.now) (drop l.same l.next) rest ≡ change l.now l.next rest)

abbrev pub decreases-loop-same : goal.decreases-loop-same
decreases-loop-same l = length l.now - l.same
