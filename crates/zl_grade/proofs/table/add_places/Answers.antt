use Rattle.std.proofs.Common.{◌+◌, sym, subst}
use Rattle.zl_grade.specs.Table.{HasNumbers}
use Rattle.zl_grade.specs.declared.node.Node.TheVariants.{Place}
use Rattle.zl_grade.proofs.TableLaws.{numbers_more}
use Rattle.zl_grade.proofs.table.add_places.Goals as goal

pub loop-p-preserved : goal.loop-p-preserved
loop-p-preserved c =
    subst (HasNumbers Place (c.loop-p.p + 1) c.args.waiting.now.items) (sym c.in_ok-push.ensures.items) (numbers_more Place c.loop-p.p c.args.waiting.now.items c.loop-p.waiting.items c.loop-p.invariant)
