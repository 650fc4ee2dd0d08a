-- The cells up to here have their values.
use Rattle.std.specs.Prelude.{◌≡◌, length, take, map, Some}
use Rattle.zl_machine.proofs.cells.set_values.Given as goal

abbrev pub invariant-loop-i : goal.invariant-loop-i
invariant-loop-i l =
    (length l.cells ≡ length l.values) × (take l.i l.cells ≡ map Some (take l.i l.values))
