use Rattle.std.specs.Prelude.{Result}
use Rattle.std.proofs.Common.{◌≡◌, rules, sym, ◌∙◌, subst, length, Err}
use Rattle.std.proofs.lemmas.List.{length-map}
use Rattle.zl_run.specs.Answers.{Runs}
use Rattle.zl_run.specs.declared.end.End.{End}
use Rattle.zl_run.specs.declared.end.RunAnswer.{RunAnswer}
use Rattle.zl_run.proofs.NextLemmas.{can_follow}
use Rattle.zl_run.proofs.ScriptLemmas.{types_of, are_within}
use Rattle.zl_run.proofs.StandLemmas.{first_due}
use Rattle.zl_run.proofs.RunLemmas.{ready_from, first_at, over, cut_here, ends_here, next_goes, next_at}
use Rattle.zl_run.proofs.driving.run.Goals as goal

pub step-outcome-requires-clause-sets : goal.step-outcome-requires-clause-sets
step-outcome-requires-clause-sets g c =
    let due = first_due c.args.code.now c.args.script.now c.in_ok-track.track c.args.machine.now c.requires.script c.in_ok-track.ensures c.requires.machine in
    are_within (types_of c.args.code.now.ins) c.args.script.now.horizon c.args.script.now.lines (length c.in_ok-track.track.inputs.items)
    (due.rooms.inputs ∙ sym (length-map c.args.code.now.ins _)) c.requires.script.lines

pub loop-again-init : goal.loop-again-init
loop-again-init g c =
    first_at c.args.code.now c.args.script.now (g.K.Sink.stands_for c.args.sink.now) (g.K.Sink.faults c.args.sink.now) c.args.line.now c.in_ok-track.track c.step-outcome.new.track
    c.args.machine.now c.step-outcome.new.machine c.step-outcome.result c.requires.script c.in_ok-track.ensures c.requires.machine c.step-outcome.ensures.stepped c.requires.room

pub returns-in-Err : goal.returns-in-Err
returns-in-Err g c =
    over c.args.code.now c.args.script.now (g.K.Sink.stands_for c.args.sink.now) (g.K.Sink.stands_for c.loop-again.sink) (g.K.Sink.faults c.args.sink.now) (g.K.Sink.faults c.loop-again.sink)
    c.loop-again.line c.loop-again.outcome c.loop-again.track c.loop-again.machine c.requires.script c.loop-again.invariant
    (g.K.Sink.stands_for c.put_ending.new.sink) (g.K.Sink.faults c.put_ending.new.sink) c.in-Err.ending c.put_ending.result c.in-Err.ensures c.put_ending.ensures.put c.put_ending.ensures.end

pub returns-in_err-put_instant : goal.returns-in_err-put_instant
returns-in_err-put_instant g c =
    let same : c.from_residual-in_err-put_instant.result ≡ Err c.in_err-put_instant.field-0.0 = search rules in
    subst (λ (result : Result End RunAnswer). Runs c.args.code.now c.args.script.now (g.K.Sink.stands_for c.args.sink.now) (g.K.Sink.stands_for c.put_instant.new.sink)
    (g.K.Sink.faults c.args.sink.now) (g.K.Sink.faults c.put_instant.new.sink) c.loop-again.machine result) (sym same)
    (cut_here c.args.code.now c.args.script.now (g.K.Sink.stands_for c.args.sink.now) (g.K.Sink.stands_for c.loop-again.sink) (g.K.Sink.faults c.args.sink.now) (g.K.Sink.faults c.loop-again.sink)
    c.loop-again.line c.loop-again.outcome c.loop-again.track c.loop-again.machine c.requires.script c.loop-again.invariant c.in-Ok.again (ready_from c.loop-again.outcome c.loop-again.track.clock c.in-Ok.again c.in-Ok.ensures)
    (g.K.Sink.stands_for c.put_instant.new.sink) (g.K.Sink.faults c.put_instant.new.sink) c.in_err-put_instant.field-0.0 c.in_err-put_instant.ensures.put)

pub follow-requires-clause-can : goal.follow-requires-clause-can
follow-requires-clause-can g c =
    let at = c.loop-again.invariant in
    can_follow c.args.code.now c.args.script.now c.requires.script at.history at.instant c.loop-again.track c.loop-again.machine at.stands

pub returns-in-Err-follow : goal.returns-in-Err-follow
returns-in-Err-follow g c =
    ends_here c.args.code.now c.args.script.now (g.K.Sink.stands_for c.args.sink.now) (g.K.Sink.stands_for c.loop-again.sink) (g.K.Sink.faults c.args.sink.now) (g.K.Sink.faults c.loop-again.sink)
    c.loop-again.line c.loop-again.outcome c.loop-again.track c.loop-again.machine c.requires.script c.loop-again.invariant c.in-Ok.again (ready_from c.loop-again.outcome c.loop-again.track.clock c.in-Ok.again c.in-Ok.ensures)
    (g.K.Sink.stands_for c.put_instant.new.sink) (g.K.Sink.faults c.put_instant.new.sink) c.in_ok-put_instant.ensures.put c.follow.new.track c.follow.new.machine
    (g.K.Sink.stands_for c.put_ending-in-Err-follow.new.sink) (g.K.Sink.faults c.put_ending-in-Err-follow.new.sink) c.in-Err-follow.ending c.put_ending-in-Err-follow.result
    c.in-Err-follow.ensures c.put_ending-in-Err-follow.ensures.put c.put_ending-in-Err-follow.ensures.end

pub loop-again-smaller : goal.loop-again-smaller
loop-again-smaller g c =
    (next_goes c.args.code.now c.args.script.now (g.K.Sink.stands_for c.args.sink.now) (g.K.Sink.stands_for c.loop-again.sink) (g.K.Sink.faults c.args.sink.now) (g.K.Sink.faults c.loop-again.sink)
    c.loop-again.line c.loop-again.outcome c.loop-again.track c.loop-again.machine c.requires.script c.loop-again.invariant c.in-Ok.again (ready_from c.loop-again.outcome c.loop-again.track.clock c.in-Ok.again c.in-Ok.ensures)
    (g.K.Sink.stands_for c.put_instant.new.sink) (g.K.Sink.faults c.put_instant.new.sink) c.in_ok-put_instant.ensures.put c.follow.new.track c.follow.new.machine
    c.in-Ok-follow.outcome c.in-Ok-follow.ensures).less

pub loop-again-preserved : goal.loop-again-preserved
loop-again-preserved g c =
    next_at c.args.code.now c.args.script.now (g.K.Sink.stands_for c.args.sink.now) (g.K.Sink.stands_for c.loop-again.sink) (g.K.Sink.faults c.args.sink.now) (g.K.Sink.faults c.loop-again.sink)
    c.loop-again.line c.loop-again.outcome c.loop-again.track c.loop-again.machine c.requires.script c.loop-again.invariant c.in-Ok.again (ready_from c.loop-again.outcome c.loop-again.track.clock c.in-Ok.again c.in-Ok.ensures)
    (g.K.Sink.stands_for c.put_instant.new.sink) (g.K.Sink.faults c.put_instant.new.sink) c.in_ok-put_instant.ensures.put c.follow.new.track c.follow.new.machine
    c.put_instant.new.line c.in-Ok-follow.outcome (c.put_instant.ensures.names ∙ c.loop-again.invariant.room) c.in-Ok-follow.ensures
