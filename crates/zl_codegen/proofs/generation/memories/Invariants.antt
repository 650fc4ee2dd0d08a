-- What was made so far.
use Rattle.std.specs.Prelude.{◌≡◌, map, take}
use Rattle.zl_codegen.specs.CodeOf.{memory_of}
use Rattle.zl_codegen.proofs.generation.memories.Given as goal

abbrev pub invariant-loop-i : goal.invariant-loop-i
invariant-loop-i l = l.made.items ≡ map memory_of (take l.i l.mems)
