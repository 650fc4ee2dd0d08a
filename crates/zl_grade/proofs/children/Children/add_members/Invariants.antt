use Rattle.std.proofs.Common.{◌≡◌, ◌<◌, ℕ, length, Some}
use Rattle.zl_grade.specs.Children.{call_at, members, members_from}
use Rattle.zl_grade.specs.Reached.{with_all}
use Rattle.zl_grade.proofs.children.Children.add_members.Given as goal

abbrev pub invariant-loop-at : goal.invariant-loop-at
invariant-loop-at l = record {
  same : with_all l.reached (members_from l.self.occs.now l.call l.at) ≡ with_all l.fn.reached (members l.self.occs.now l.call (length l.self.occs.now));
  within : (k : ℕ) → l.at ≡ Some k → k < length l.self.occs.now;
  called : (k : ℕ) → l.at ≡ Some k → call_at l.self.occs.now k ≡ Some l.call;
}

abbrev pub decreases-loop-at : goal.decreases-loop-at
decreases-loop-at l = length (members_from l.self.occs.now l.call l.at)
