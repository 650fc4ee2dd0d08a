-- The fault and the memories, one memory further.
use Rattle.std.specs.Prelude.{◌≡◌, ◌+◌, ◌++◌, drop, take, length, List, Option}
use Rattle.std.proofs.Common.{refl, sym, ap, ◌∙◌, arith}
use Rattle.zl_value.specs.System.{Motion}
use Rattle.zl_value.specs.declared.value.Fault.{Fault}
use Rattle.zl_code.specs.System.{motions, motion_of}
use Rattle.zl_machine.proofs.Totals.{total, total_begins, turn_to, turn_late, is_late, motions_more, there_more, all_there}
use Rattle.zl_machine.proofs.moving.move_all.Goals.{in-To, in-Late}
use Rattle.zl_machine.proofs.moving.move_all.Goals as goal

pub loop-i-init : goal.loop-i-init
loop-i-init c = record {
  room = c.requires.next;
  fault = total_begins c.args.by (motions c.args.rates.now c.args.mems.now c.args.now.now);
  there = λ e. refl;
}

pub loop-i-preserved : goal.loop-i-preserved
loop-i-preserved c =
    let rest : List Motion = motions c.args.rates.now (drop (c.loop-i.i + 1) c.args.mems.now) (drop (c.loop-i.i + 1) c.args.now.now) in
    let parts : motions c.args.rates.now (drop c.loop-i.i c.args.mems.now) (drop c.loop-i.i c.args.now.now) ≡ motion_of c.args.rates.now c.index-mems-i.result c.index-mems-i.result.slope c.index-now-i.result ++ rest = motions_more c.args.rates.now c.args.mems.now c.args.now.now c.loop-i.i c.index-mems-i.result _ c.index-now-i.result _ c.loop-i-test.true c.requires.now c.index-mems-i.is c.index-now-i.is in
    let room : length c.match-move_one.next ≡ length c.args.mems.now = c.match-move_one.auto.next ∙ c.loop-i.invariant.room in
    elim c.match-move_one.branch [
      | in-To w ↦ (
          let t = turn_to c.args.by c.loop-i.late _ _ _ rest _ _ w.in-To.there _ w.in-To.is c.move_one.ensures parts c.loop-i.invariant.fault in
          record {
            room = room;
            fault = ap (λ (late : Option Fault). total c.args.by late rest) w.late-is ∙ t.0;
            there = λ e. ap (λ xs. take (c.loop-i.i + 1) xs) w.next-is ∙ there_more c.args.rates.now c.args.by c.args.mems.now c.args.now.now c.loop-i.next c.loop-i.i c.index-mems-i.result _ c.index-now-i.result _ w.in-To.there c.loop-i-test.true c.requires.now c.loop-i.invariant.room c.index-mems-i.is c.index-now-i.is t.1 (c.loop-i.invariant.there (sym w.late-is ∙ e));
          })
      | in-Late w ↦ record {
        room = room;
        fault = ap (λ (late : Option Fault). total c.args.by late rest) (w.late-is ∙ w.earlier-late.ensures) ∙ turn_late c.args.by c.loop-i.late _ _ _ rest _ _ _ w.in-Late.is c.move_one.ensures parts c.loop-i.invariant.fault;
        there = λ e. absurd (is_late c.loop-i.late _ (sym w.earlier-late.ensures ∙ sym w.late-is ∙ e));
      }
    ]

pub returns-clause-moved : goal.returns-clause-moved
returns-clause-moved c =
    all_there c.args.rates.now c.args.by c.args.mems.now c.args.now.now c.loop-i.next c.loop-i.i c.loop-i.late (omega (arith, c.loop-i-test.false)) c.requires.now c.loop-i.invariant.room c.loop-i.invariant.there
