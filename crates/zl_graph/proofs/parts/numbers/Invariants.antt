use Rattle.std.proofs.Common.{◌≡◌, ◌<◌, ℕ, length, get_or, slice_get, Some}
use Rattle.zl_graph.specs.declared.marks.Mark.TheVariants.{Done}
use Rattle.zl_graph.proofs.parts.numbers.Given as goal

abbrev pub invariant-loop-node : goal.invariant-loop-node
invariant-loop-node l = record {
  size : length l.numbers.items ≡ l.node;
  each : (v n : ℕ) → v < l.node → slice_get l.walk.marks v ≡ Some (Done n) → get_or l.numbers.items v 0 ≡ n;
}
