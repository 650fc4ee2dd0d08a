use Rattle.std.proofs.Common.{◌≡◌, drop, None}
use Rattle.zl_script.specs.Faults.{out_of_order}
use Rattle.zl_script.proofs.fault.out_of_order.Given as goal

abbrev pub invariant-loop-line : goal.invariant-loop-line
invariant-loop-line l = out_of_order l.horizon None l.lines ≡ out_of_order l.horizon l.before (drop l.line-index l.lines)
