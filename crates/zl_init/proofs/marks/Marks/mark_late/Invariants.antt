use Rattle.std.proofs.Common.{take}
use Rattle.zl_init.specs.Marks.{MadeLate}
use Rattle.zl_init.proofs.marks.Marks.mark_late.Given as goal

abbrev pub invariant-loop-place : goal.invariant-loop-place
invariant-loop-place l = MadeLate (take l.place-index l.places) l.initial.self l.self
