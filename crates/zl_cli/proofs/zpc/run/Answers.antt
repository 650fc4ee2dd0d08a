use Rattle.std.proofs.Common.{Ok, Err, subst}
use Rattle.zl_cli.specs.declared.load.Stop.{Stop}
use Rattle.zl_cli.specs.Files.{LoadsHorizon}
use Rattle.zl_cli.specs.declared.load.Stop.TheVariants as stop
use Rattle.zl_cli.proofs.Reports.{file_stopped, script_refused, ran, ran_out, horizon_as}
use Rattle.zl_cli.proofs.zpc.run.Goals as goal

pub returns-in-Err-clause-report : goal.returns-in-Err-clause-report
returns-in-Err-clause-report g c =
    file_stopped (g.S.Shelf.told c.args.shelf.now) (g.S.Shelf.failed c.args.shelf.now) (g.S.Shelf.failed c.load_program.new.shelf)
    c.args.file.now c.args.script.now (g.K.Sink.stands_for c.args.sink.now) (g.K.Sink.stands_for c.stop.new.sink)
    (g.K.Sink.faults c.args.sink.now) (g.K.Sink.faults c.stop.new.sink) c.stop.result c.in-Err.why c.in-Err.ensures.program c.stop.ensures

pub returns-in-Ok-load_horizon-clause-report : goal.returns-in-Ok-load_horizon-clause-report
returns-in-Ok-load_horizon-clause-report g c =
    ran (g.S.Shelf.told c.args.shelf.now) (g.S.Shelf.failed c.args.shelf.now) (g.S.Shelf.failed c.load_horizon.new.shelf)
    c.args.file.now c.args.script.now (g.K.Sink.stands_for c.args.sink.now) (g.K.Sink.stands_for c.run_program.new.sink)
    (g.K.Sink.faults c.args.sink.now) (g.K.Sink.faults c.run_program.new.sink) c.run_program.result c.in-Ok.thin c.in-Ok-load_horizon.horizon
    c.in-Ok.ensures.program.1
    (horizon_as (g.S.Shelf.told c.args.shelf.now) (g.S.Shelf.told c.load_program.new.shelf) (g.S.Shelf.failed c.args.shelf.now)
    (g.S.Shelf.failed c.load_program.new.shelf) (g.S.Shelf.failed c.load_horizon.new.shelf) c.args.script.now
    (Ok c.in-Ok-load_horizon.horizon) c.load_program.ensures.told c.in-Ok.ensures.program.0 c.in-Ok-load_horizon.ensures.horizon)
    c.run_program.ensures

pub returns-in-Err-Refused-clause-report : goal.returns-in-Err-Refused-clause-report
returns-in-Err-Refused-clause-report g c =
    script_refused (g.S.Shelf.told c.args.shelf.now) (g.S.Shelf.failed c.args.shelf.now) (g.S.Shelf.failed c.load_horizon.new.shelf)
    c.args.file.now c.args.script.now (g.K.Sink.stands_for c.args.sink.now) (g.K.Sink.stands_for c.tell.new.sink)
    (g.K.Sink.faults c.args.sink.now) (g.K.Sink.faults c.tell.new.sink) c.tell.result c.in-Ok.thin c.in-Err-Refused._rule c.in-Err-Refused._at
    c.in-Ok.ensures.program.1
    (horizon_as (g.S.Shelf.told c.args.shelf.now) (g.S.Shelf.told c.load_program.new.shelf) (g.S.Shelf.failed c.args.shelf.now)
    (g.S.Shelf.failed c.load_program.new.shelf) (g.S.Shelf.failed c.load_horizon.new.shelf) c.args.script.now
    (Err (stop.Refused c.in-Err-Refused._rule c.in-Err-Refused._at)) c.load_program.ensures.told c.in-Ok.ensures.program.0
    (subst (λ (why : Stop). LoadsHorizon (g.S.Shelf.told c.load_program.new.shelf) (g.S.Shelf.failed c.load_program.new.shelf)
    (g.S.Shelf.failed c.load_horizon.new.shelf) c.args.script.now (Err why)) c.in-Err-Refused.field-0-is c.in-Err-Refused.ensures.horizon))
    c.tell.ensures

pub returns-clause-report : goal.returns-clause-report
returns-clause-report g c =
    ran_out (g.S.Shelf.told c.args.shelf.now) (g.S.Shelf.failed c.args.shelf.now) (g.S.Shelf.failed c.load_horizon.new.shelf)
    c.args.file.now c.args.script.now (g.K.Sink.stands_for c.args.sink.now) (g.K.Sink.stands_for c.tell-in-Err-Memory.new.sink)
    (g.K.Sink.faults c.args.sink.now) (g.K.Sink.faults c.tell-in-Err-Memory.new.sink) c.tell-in-Err-Memory.result
    (horizon_as (g.S.Shelf.told c.args.shelf.now) (g.S.Shelf.told c.load_program.new.shelf) (g.S.Shelf.failed c.args.shelf.now)
    (g.S.Shelf.failed c.load_program.new.shelf) (g.S.Shelf.failed c.load_horizon.new.shelf) c.args.script.now
    (Err stop.Memory) c.load_program.ensures.told c.in-Ok.ensures.program.0
    (subst (λ (why : Stop). LoadsHorizon (g.S.Shelf.told c.load_program.new.shelf) (g.S.Shelf.failed c.load_program.new.shelf)
    (g.S.Shelf.failed c.load_horizon.new.shelf) c.args.script.now (Err why)) c.in-Err-Memory.field-0-is c.in-Err-Memory.ensures.horizon))
    c.tell-in-Err-Memory.ensures
