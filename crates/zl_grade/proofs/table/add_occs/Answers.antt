use Rattle.std.proofs.Common.{◌+◌, sym, subst}
use Rattle.zl_grade.specs.Table.{HasNumbers}
use Rattle.zl_grade.specs.declared.node.Node.TheVariants.{Occ}
use Rattle.zl_grade.proofs.TableLaws.{numbers_more}
use Rattle.zl_grade.proofs.table.add_occs.Goals as goal

pub loop-k-preserved : goal.loop-k-preserved
loop-k-preserved c =
    subst (HasNumbers Occ (c.loop-k.k + 1) c.args.waiting.now.items) (sym c.in_ok-push.ensures.items) (numbers_more Occ c.loop-k.k c.args.waiting.now.items c.loop-k.waiting.items c.loop-k.invariant)
