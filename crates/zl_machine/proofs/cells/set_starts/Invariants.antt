-- The memories up to here have their start values.
use Rattle.std.specs.Prelude.{◌≡◌, length, take, map}
use Rattle.zl_code.specs.declared.code.CMem.{CMem}
use Rattle.zl_machine.proofs.cells.set_starts.Given as goal

abbrev pub invariant-loop-i : goal.invariant-loop-i
invariant-loop-i l =
    (length l.cells ≡ length l.mems) × (take l.i l.cells ≡ map (λ (mem : CMem). mem.start) (take l.i l.mems))
