use Rattle.std.proofs.Common.{◌+◌, ℕ, List, Option, ap, sym, subst, ◌∙◌}
use Rattle.zl_normal.specs.Table.{IsTable}
use Rattle.zl_normal.specs.GuardRoots.{guard_by_root}
use Rattle.zl_normal.proofs.AreTables.{more_table}
use Rattle.zl_normal.proofs.wiring.Wiring.guards.Goals as goal

pub loop-j-preserved : goal.loop-j-preserved
loop-j-preserved c =
    let guard : ℕ → Option ℕ = guard_by_root c.args.self.now.flat.now c.args.self.now.tables.now c.args.self.now.keys.now c.args.values.now c.args.roots.now in
    subst (λ (gs : List (Option ℕ)). IsTable gs (c.loop-j.j + 1) guard) (sym {A = List (Option ℕ)} c.in_ok-push.ensures.items)
    (more_table c.loop-j.found.items c.loop-j.j guard c.in_ok-guard.guard c.loop-j.invariant (c.in_ok-guard.ensures ∙ ap guard c.in_ok-narrow.ensures.narrowed))
