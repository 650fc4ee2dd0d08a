use Rattle.std.proofs.Common.{◌≡◌, ℕ, ◌<◌, ◌≤◌, length, take, slice_get, Some}
use Rattle.zl_graph.specs.declared.walk.Part.{Part}
use Rattle.zl_graph.proofs.walk.lower.Given as goal

abbrev pub invariant-loop-parts : goal.invariant-loop-parts
invariant-loop-parts l = record {
  some : 0 < length l.parts.items;
  within : length l.parts.items ≤ length l.fn.parts.items;
  is : l.parts.items ≡ take (length l.parts.items) l.fn.parts.items;
  above : (i : ℕ) (p : Part) → length l.parts.items ≤ i → slice_get l.fn.parts.items i ≡ Some p → l.position < p.first;
}

abbrev pub decreases-loop-parts : goal.decreases-loop-parts
decreases-loop-parts l = length l.parts.items
