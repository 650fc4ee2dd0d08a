use Rattle.std.proofs.Common.{subst, refl, ◌∙◌, ap, arith, Ok, Err, length}
use Rattle.zl_value.specs.Loop.{Next}
use Rattle.zl_run.specs.Driving.{Went, is_demanded}
use Rattle.zl_run.proofs.FollowLemmas.{went_flow, steps_when, stop_later, ready_goes, sets_for}
use Rattle.zl_run.proofs.driving.follow.Goals as goal

pub returns-in-End : goal.returns-in-End
returns-in-End c =
    let mid = c.what_follows.new.track in
    let m = c.args.machine.now in
    record {
      mid = mid;
      noted = c.what_follows.ensures.noted;
      went = subst (λ (n : Next). Went n c.args.script.now mid mid m m (Err c.in-End.ending)) c.in-End.ensures.decided (refl, refl);
    }

pub returns-in-Step : goal.returns-in-Step
returns-in-Step c =
    let mid = c.what_follows.new.track in
    let m = c.args.machine.now in
    record {
      mid = mid;
      noted = c.what_follows.ensures.noted;
      went = subst (λ (n : Next). Went n c.args.script.now mid c.step.new.track m c.step.new.machine (Ok c.step.result)) c.in-Step.ensures.decided c.step.ensures.stepped;
    }

pub returns-in-Flow : goal.returns-in-Flow
returns-in-Flow c =
    let mid = c.what_follows.new.track in
    let m = c.args.machine.now in
    record {
      mid = mid;
      noted = c.what_follows.ensures.noted;
      went = subst (λ (n : Next). Went n c.args.script.now mid c.flow.new.track m c.flow.new.machine c.flow.result) c.in-Flow.ensures.decided
          (went_flow c.args.script.now mid c.flow.new.track m c.flow.new.machine c.flow.result c.flow.ensures.flowed c.flow.ensures.ready c.flow.ensures.stops);
    }

pub step-requires-clause-going : goal.step-requires-clause-going
step-requires-clause-going c = ready_goes c.args.machine.now.mode c.requires.ready

pub step-requires-clause-inputs : goal.step-requires-clause-inputs
step-requires-clause-inputs c = ap length c.what_follows.ensures.noted.inputs ∙ c.requires.can.rooms.inputs

pub step-requires-clause-sets : goal.step-requires-clause-sets
step-requires-clause-sets c = sets_for c.args.script.now c.args.track.now c.what_follows.new.track c.args.machine.now c.requires.can c.what_follows.ensures.noted

pub step-requires-clause-made : goal.step-requires-clause-made
step-requires-clause-made c =
    let t = c.args.track.now in
    let s = c.args.script.now in
    let can = c.requires.can in
    let more = steps_when s t.clock.time (is_demanded s t c.args.again c.args.machine.now) t.clock.made c.in-Step.ensures.decided can.few in
    rw c.what_follows.ensures.noted.clock (omega (arith, more, can.bound))

pub step-requires-clause-here : goal.step-requires-clause-here
step-requires-clause-here c =
    let t = c.args.track.now in
    let s = c.args.script.now in
    let can = c.requires.can in
    let more = steps_when s t.clock.time (is_demanded s t c.args.again c.args.machine.now) t.clock.made c.in-Step.ensures.decided can.few in
    rw c.what_follows.ensures.noted.clock (omega (arith, more, can.bound, can.here))

pub flow-requires-clause-ready : goal.flow-requires-clause-ready
flow-requires-clause-ready c = c.requires.ready

pub flow-requires-clause-rooms : goal.flow-requires-clause-rooms
flow-requires-clause-rooms c = ap length c.what_follows.ensures.noted.lines ∙ c.requires.can.rooms.lines

pub flow-requires-clause-later : goal.flow-requires-clause-later
flow-requires-clause-later c =
    stop_later c.args.script.now c.args.track.now c.what_follows.new.track c.args.again c.args.machine.now c.requires.can c.what_follows.ensures.noted c.in-Flow.ensures.decided
