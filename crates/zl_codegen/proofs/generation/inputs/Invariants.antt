-- What was made so far.
use Rattle.std.specs.Prelude.{◌≡◌, take}
use Rattle.zl_codegen.proofs.generation.inputs.Given as goal

abbrev pub invariant-loop-i : goal.invariant-loop-i
invariant-loop-i l = l.made.items ≡ take l.i l.ins
