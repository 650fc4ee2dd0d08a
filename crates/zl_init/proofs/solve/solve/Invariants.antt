use Rattle.std.proofs.Common.{take}
use Rattle.zl_init.specs.Solve.{Knows, IsSettled}
use Rattle.zl_init.proofs.solve.solve.Given as goal

abbrev pub invariant-loop-requirement : goal.invariant-loop-requirement
invariant-loop-requirement l = record {
  knows : Knows (take l.requirement-index l.requirements) l.solver;
  settled : IsSettled l.solver;
}
