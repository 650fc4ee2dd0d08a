use Rattle.std.proofs.Common.{◌∙◌, ap, sym, Some}
use Rattle.zl_run.proofs.MoveLemmas.{too_late, too_far, gone}
use Rattle.zl_run.proofs.flowing.go.Goals as goal

pub returns-in-Err-clause-fails : goal.returns-in-Err-clause-fails
returns-in-Err-clause-fails c =
    too_late c.args.machine.now c.args.time c.args.duration.now c.in-Some.by _ c.in-Some.ensures.value c.in-Err.ensures.value
    ∙ ap Some (sym c.too_wide-in-Err.ensures)

pub returns-in-Ok-advance-clause-went : goal.returns-in-Ok-advance-clause-went
returns-in-Ok-advance-clause-went c =
    gone c.args.machine.now c.advance.new.self c.args.time c.args.duration.now c.in-Some.by c.in-Ok.then c.in-Some.ensures.value c.in-Ok.ensures.value c.in-Ok.ensures.kept
    c.in-Ok-advance.ensures.answer c.in-Ok-advance.ensures.after

pub returns-in-Err-advance-clause-fails : goal.returns-in-Err-advance-clause-fails
returns-in-Err-advance-clause-fails c =
    too_far c.args.machine.now c.args.time c.args.duration.now c.in-Some.by c.in-Ok.then _ c.in-Some.ensures.value c.in-Ok.ensures.value c.in-Err-advance.ensures.answer
