use Rattle.std.proofs.Common.{take}
use Rattle.zl_crossing.specs.FirstCrossing.{IsFirst}
use Rattle.zl_crossing.proofs.crossing.first.Given as goal

-- the answer for the lines that were looked at
abbrev pub invariant-loop-line : goal.invariant-loop-line
invariant-loop-line l = IsFirst (take l.line-index l.lines) l.fn.cap l.first
