use Rattle.std.proofs.Common.{◌≡◌, drop}
use Rattle.zl_script.specs.Faults.{input_fault}
use Rattle.zl_script.proofs.fault.input_fault.Given as goal

abbrev pub invariant-loop-line : goal.invariant-loop-line
invariant-loop-line l = input_fault l.lines ≡ input_fault (drop l.line-index l.lines)
