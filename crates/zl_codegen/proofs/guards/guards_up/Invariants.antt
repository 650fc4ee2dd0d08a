-- What is left of the guards leads to all.
use Rattle.std.specs.Prelude.{◌≡◌, ◌++◌}
use Rattle.zl_codegen.specs.Guards.{guards_up}
use Rattle.zl_codegen.proofs.guards.guards_up.Given as goal

abbrev pub invariant-loop-room : goal.invariant-loop-room
invariant-loop-room l =
    l.guards.items ++ guards_up l.wires l.room l.next ≡ guards_up l.wires 9 l.fn.guard

abbrev pub decreases-loop-room : goal.decreases-loop-room
decreases-loop-room l = l.room
