use Rattle.std.proofs.Common.{take}
use Rattle.zl_types.specs.Solving.{TypesEach}
use Rattle.zl_types.proofs.solve.types_of_each.Given as goal

abbrev pub invariant-loop-vars : goal.invariant-loop-vars
invariant-loop-vars l = TypesEach (take l.vars-index l.vars-items) l.fn.classes l.classes l.decls.items
