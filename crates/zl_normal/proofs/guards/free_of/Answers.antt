use Rattle.std.proofs.Common.{◌+◌, Bool, List, ap, sym, subst, ◌∙◌}
use Rattle.zl_normal.specs.Table.{IsTable}
use Rattle.zl_normal.specs.GuardRoots.{is_free_root}
use Rattle.zl_normal.proofs.AreTables.{more_table}
use Rattle.zl_normal.proofs.guards.free_of.Goals as goal

pub loop-j-preserved : goal.loop-j-preserved
loop-j-preserved c =
    let free = is_free_root c.args.roles.now c.args.roots.now in
    subst (λ (xs : List Bool). IsTable xs (c.loop-j.j + 1) free) (sym c.in_ok-push.ensures.items)
    (more_table c.loop-j.free.items c.loop-j.j free c.is_free_root.result c.loop-j.invariant (c.is_free_root.ensures ∙ ap free c.in_ok-narrow.ensures.narrowed))
