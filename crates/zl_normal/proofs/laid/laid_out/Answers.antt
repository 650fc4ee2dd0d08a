use Rattle.zl_normal.proofs.LaidOut.{laid_out}
use Rattle.zl_normal.proofs.laid.laid_out.Goals as goal

pub returns : goal.returns
returns c =
    laid_out c.args.flat.now c.args.grades.now
    (record { tables = c.in_ok-known.known.tables; keys = c.in_ok-keys.keys; kept = c.in_ok-kept.kept; numbers = c.keep.new.tables; wires = c.in_ok-wires.wires })
    c.in_ok-numbers.numbers c.in_ok-known.known.roots.items
    c.in_ok-known.ensures c.in_ok-keys.ensures c.in_ok-kept.ensures c.in_ok-numbers.ensures
    c.in_ok-keep.ensures.wires c.in_ok-keep.ensures.memories c.in_ok-wires.ensures.wired c.in_ok-wires.ensures.tables
