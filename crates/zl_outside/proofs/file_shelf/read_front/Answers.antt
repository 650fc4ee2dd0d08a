use Rattle.std.proofs.Common.{◌≡◌, length, take, arith, rules}
use Rattle.zl_outside.proofs.KnownReads.{consumes_more, front_at_end}
use Rattle.zl_outside.proofs.file_shelf.read_front.Goals as goal

pub returns-in-Ok-eq0-clause-content : goal.returns-in-Ok-eq0-clause-content
returns-in-Ok-eq0-clause-content g c =
    let last = c.in-Ok-eq0.ensures in
    let none : length (take c.in-Ok-eq0.field-0 c.read.new.buf) ≡ 0 = omega (arith, last.bound.1) in
    front_at_end (g.F.Read.remaining c.args.file.now) (g.F.Read.remaining c.loop.file) (g.F.Read.remaining c.read.new.self) c.loop.out.items (take c.in-Ok-eq0.field-0 c.read.new.buf) c.args.cap
    c.loop.invariant.1 last.bytes.0 none (last.bytes.1 c.in-Ok-eq0.field-0-test (search rules)) c.loop.invariant.0

pub loop-preserved : goal.loop-preserved
loop-preserved g c =
    let read = c.in-Ok.ensures in
    let added = c.in_ok-extend_from_slice-in-Ok.ensures.items in (
      search rules,
      rw added (consumes_more (g.F.Read.remaining c.args.file.now) (g.F.Read.remaining c.loop.file) (g.F.Read.remaining c.read.new.self) c.loop.out.items (take c.in-Ok.count c.read.new.buf) c.loop.invariant.1 read.bytes.0),
    )
