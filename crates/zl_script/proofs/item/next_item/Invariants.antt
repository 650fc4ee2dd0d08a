use Rattle.std.proofs.Common.{◌≡◌, ◌+◌, ◌≤◌, length}
use Rattle.zl_script.specs.Cut.{lines_of}
use Rattle.zl_script.specs.Items.{items}
use Rattle.zl_script.proofs.item.next_item.Given as goal

abbrev pub invariant-loop-ended : goal.invariant-loop-ended
invariant-loop-ended l = record {
  same : items l.fn.number (lines_of l.fn.text) ≡ items l.line (lines_of l.rest);
  count : l.line + length (lines_of l.rest) ≡ l.fn.number + length (lines_of l.fn.text);
  later : l.fn.number ≤ l.line;
  within : l.line + length l.rest ≤ l.fn.number + length l.fn.text;
}

abbrev pub decreases-loop-ended : goal.decreases-loop-ended
decreases-loop-ended l = length l.rest
