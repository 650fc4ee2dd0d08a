use Rattle.std.proofs.Common.{◌+◌, Bool, true, List, take, sym, ap, ◌∙◌, subst}
use Rattle.std.specs.List.{list_all}
use Rattle.std.specs.Prelude.{slice_set}
use Rattle.zl_value.specs.declared.script.Set.{Set}
use Rattle.zl_script.proofs.FaultLemmas.{AreMarks, marks_none, marks_more, marks_all}
use Rattle.zl_script.proofs.fault.all_set.Goals as goal

pub loop-set-init : goal.loop-set-init
loop-set-init c = marks_none c.args.count _ c.in_ok-given.ensures.room c.in_ok-given.ensures.none

pub loop-set-preserved : goal.loop-set-preserved
loop-set-preserved c =
    subst (λ (given : List Bool). AreMarks c.args.count (take (c.loop-set.set-index + 1) c.args.sets.now) given)
    (sym (c.mark.ensures ∙ ap (λ (s : Set). slice_set c.loop-set.given.items s.input true) c.set-item.is))
    (marks_more c.args.count c.args.sets.now c.loop-set.given.items c.loop-set.set-index c.set-item.result c.loop-set-test.true c.loop-set.invariant)

pub returns : goal.returns
returns c =
    c.are_all.ensures ∙ ap (list_all (λ b. b)) c.as_slice.ensures.value
    ∙ marks_all c.args.count c.args.sets.now c.loop-set.given.items c.loop-set.set-index c.loop-set-test.false c.loop-set.invariant
