-- The lists part here, or one is at its end.
use Rattle.std.specs.Prelude.{◌≡◌, ◌<◌, ◌≤◌, false, nat_eq, get_or, length}
use Rattle.std.proofs.Common.{rules, sym, ◌∙◌}
use Rattle.zl_codegen.proofs.Chains.{drop_end, change_end, change_at}
use Rattle.zl_codegen.proofs.guards.shared.Goals as goal

pub returns-then-same-next-clause-change : goal.returns-then-same-next-clause-change
returns-then-same-next-clause-change c rest =
    let past : length c.args.next.now ≤ c.loop-same.same = search rules in
    sym (c.loop-same.invariant.2 rest) ∙ change_end _ _ rest (drop_end c.args.next.now c.loop-same.same past)

pub returns-then-now-same-clause-change : goal.returns-then-now-same-clause-change
returns-then-now-same-clause-change c rest =
    let one : c.loop-same.same < length c.args.now.now = search rules in
    let two : c.loop-same.same < length c.args.next.now = search rules in
    let other : nat_eq (get_or c.args.now.now c.loop-same.same 0) (get_or c.args.next.now c.loop-same.same 0) ≡ false = search rules in
    sym (c.loop-same.invariant.2 rest) ∙ change_at c.args.now.now c.args.next.now c.loop-same.same rest one two other
