use Rattle.std.proofs.Common.{take}
use Rattle.zl_types.specs.Solving.{TypesVariables}
use Rattle.zl_types.proofs.solve.variable_types.Given as goal

abbrev pub invariant-loop-var : goal.invariant-loop-var
invariant-loop-var l = TypesVariables (take l.var-index l.vars) l.fn.classes l.classes l.types.items
