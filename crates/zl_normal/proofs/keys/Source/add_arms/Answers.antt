use Rattle.std.proofs.Common.{◌∙◌}
use Rattle.zl_normal.proofs.KeyLists.{arms_more}
use Rattle.zl_normal.proofs.keys.Source.add_arms.Goals as goal

pub loop-i-preserved : goal.loop-i-preserved
loop-i-preserved c =
    arms_more c.args.self.now.flat.now c.args.self.now.grades.now c.args.self.now.tables.now c.args.p c.args.arms.now c.loop-i.i c.in_ok-narrow.field-0 c.loop-i.keys.items c.add_arm.new.keys.items c.loop-i-test.true c.in_ok-narrow.ensures.narrowed c.in_ok-add_arm.ensures
    ∙ c.loop-i.invariant
