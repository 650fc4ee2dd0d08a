use Rattle.std.proofs.Common.{◌≡◌, drop}
use Rattle.zl_grade.specs.Reached.{with_all}
use Rattle.zl_grade.proofs.reached.Reached.add_all.Given as goal

abbrev pub invariant-loop-k : goal.invariant-loop-k
invariant-loop-k l = with_all l.self (drop l.k-index l.ks) ≡ with_all l.fn.self l.ks
