-- What was made so far.
use Rattle.std.specs.Prelude.{◌≡◌, map, take}
use Rattle.zl_kernel.specs.declared.wire.Wire.{Wire}
use Rattle.zl_codegen.proofs.generation.types.Given as goal

abbrev pub invariant-loop-i : goal.invariant-loop-i
invariant-loop-i l = l.types.items ≡ map (λ (wire : Wire). wire.ty) (take l.i l.wires)
