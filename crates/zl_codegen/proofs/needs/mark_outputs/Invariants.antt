-- The marks of what is left lead to all.
use Rattle.std.specs.Prelude.{◌≡◌, drop, map}
use Rattle.zl_value.specs.declared.script.Output.{Output}
use Rattle.zl_codegen.specs.Needs.{marked}
use Rattle.zl_codegen.proofs.needs.mark_outputs.Given as goal

abbrev pub invariant-loop-i : goal.invariant-loop-i
invariant-loop-i l =
    marked (map (λ (out : Output). out.«from») (drop l.i l.outs)) l.marks ≡ marked (map (λ (out : Output). out.«from») l.outs) l.initial.marks
