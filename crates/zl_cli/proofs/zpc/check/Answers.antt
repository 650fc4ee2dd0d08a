use Rattle.zl_cli.proofs.Reports.{check_stopped}
use Rattle.zl_cli.proofs.zpc.check.Goals as goal

pub returns-in-Err-clause-report : goal.returns-in-Err-clause-report
returns-in-Err-clause-report g c =
    check_stopped (g.S.Shelf.told c.args.shelf.now) (g.S.Shelf.failed c.args.shelf.now) (g.S.Shelf.failed c.load_checked.new.shelf)
    c.args.file.now (g.K.Sink.stands_for c.args.sink.now) (g.K.Sink.stands_for c.stop.new.sink)
    (g.K.Sink.faults c.args.sink.now) (g.K.Sink.faults c.stop.new.sink) c.stop.result c.in-Err.why c.in-Err.ensures.checked c.stop.ensures
