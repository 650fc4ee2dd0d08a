use Rattle.std.proofs.Common.{◌≤◌, length}
use Rattle.std.specs.Io.KnownBytes.{Consumes}
use Rattle.zl_outside.proofs.file_shelf.read_front.Given as goal

abbrev pub invariant-loop : goal.invariant-loop
invariant-loop g l =
    (length l.out.items ≤ l.cap) × Consumes (g.F.Read.remaining l.fn.file) (g.F.Read.remaining l.file) l.out.items
