use Rattle.std.proofs.Common.{◌≡◌, ◌++◌, drop}
use Rattle.zl_init.specs.Kept.{shared_with}
use Rattle.zl_init.proofs.anchored.push_shared.Given as goal

abbrev pub invariant-loop-id : goal.invariant-loop-id
invariant-loop-id l = l.shared ++ shared_with l.others (drop l.id-index l.ids) ≡ l.initial.shared ++ shared_with l.others l.ids
