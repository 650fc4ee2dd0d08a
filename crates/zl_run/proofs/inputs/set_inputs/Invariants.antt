-- The sets from here on are made.
use Rattle.std.specs.Prelude.{◌≡◌, ◌≤◌, length, drop}
use Rattle.zl_run.specs.Inputs.{set_all}
use Rattle.zl_run.proofs.inputs.set_inputs.Given as goal

abbrev pub invariant-loop-k : goal.invariant-loop-k
invariant-loop-k l = (l.k ≤ length l.sets) × (l.inputs ≡ set_all (drop l.k l.sets) l.fn.inputs) × (length l.inputs ≡ length l.fn.inputs)

abbrev pub decreases-loop-k : goal.decreases-loop-k
decreases-loop-k l = l.k
