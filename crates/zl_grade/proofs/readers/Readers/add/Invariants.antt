use Rattle.std.proofs.Common.{◌≡◌, ℕ, ◌≤◌, true, length, slice_get, Some}
use Rattle.zl_grade.specs.Chains.{IsLast}
use Rattle.zl_grade.specs.Equations.{may_rise}
use Rattle.zl_grade.specs.Graded.{grading_of}
use Rattle.zl_grade.specs.declared.node.Link.{Link}
use Rattle.zl_grade.specs.declared.node.Node.{Node}
use Rattle.zl_grade.proofs.readers.Readers.add.Given as goal

abbrev pub invariant-loop-at : goal.invariant-loop-at
invariant-loop-at l = record {
  within : l.at ≤ length l.self.links.now;
  last : IsLast l.self.links.now l.at l.fn.node l.at;
  kept : (i : ℕ) (b : Node) → slice_get l.fn.nodes.items i ≡ Some b → slice_get l.nodes.items i ≡ Some b;
  all : (j : ℕ) (one : Link) → l.at ≤ j → slice_get l.self.links.now j ≡ Some one → one.from ≡ l.fn.node → may_rise (grading_of l.fn.grades) one.to l.fn.grade ≡ true → (i : ℕ) × (slice_get l.nodes.items i ≡ Some one.to);
}

abbrev pub decreases-loop-at : goal.decreases-loop-at
decreases-loop-at l = l.at
