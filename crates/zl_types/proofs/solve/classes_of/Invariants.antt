use Rattle.std.proofs.Common.{take}
use Rattle.zl_types.specs.Classes.{IsSound, Represents}
use Rattle.zl_types.proofs.solve.classes_of.Given as goal

abbrev pub invariant-loop-equality : goal.invariant-loop-equality
invariant-loop-equality l =
    record {
      sound : IsSound l.classes;
      represents : Represents (take l.equality-index l.equalities) l.classes;
    }
