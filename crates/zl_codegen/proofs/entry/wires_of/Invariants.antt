-- The wires of the entries up to here.
use Rattle.std.specs.Prelude.{◌≡◌, map, take}
use Rattle.zl_codegen.specs.Ranking.{wire_of}
use Rattle.zl_codegen.proofs.entry.wires_of.Given as goal

abbrev pub invariant-loop-i : goal.invariant-loop-i
invariant-loop-i l = l.wires.items ≡ map wire_of (take l.i l.entries)
