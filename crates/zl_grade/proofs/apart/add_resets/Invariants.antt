use Rattle.std.proofs.Common.{◌≡◌, drop}
use Rattle.zl_grade.specs.Reached.{with_all}
use Rattle.zl_grade.specs.Apart.{values_of}
use Rattle.zl_grade.proofs.apart.add_resets.Given as goal

abbrev pub invariant-loop-arm : goal.invariant-loop-arm
invariant-loop-arm l = with_all l.reached (values_of (drop l.arm-index l.arms)) ≡ with_all l.fn.reached (values_of l.arms)
