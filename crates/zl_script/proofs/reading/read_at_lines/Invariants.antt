use Rattle.std.proofs.Common.{◌≡◌, ℕ, ◌+◌, ◌<◌, ◌≤◌, ◌++◌, length, slice_index}
use Rattle.zl_script.specs.Lists.{if_ok}
use Rattle.zl_script.specs.Cut.{lines_of}
use Rattle.zl_script.specs.Items.{items}
use Rattle.zl_script.specs.Parsed.{at_lines}
use Rattle.zl_script.proofs.reading.read_at_lines.Given as goal

abbrev pub invariant-loop-found : goal.invariant-loop-found
invariant-loop-found l = record {
  lines_are : at_lines l.inputs (items l.fn.number (lines_of l.fn.text))
      ≡ if_ok (λ ls. l.lines.items ++ ls) (at_lines l.inputs (items l.next (lines_of l.rest)));
  room : length l.last.items ≡ length l.inputs;
  before : (k : ℕ) → slice_index l.last.items k < l.next;
  within : l.next + length l.rest ≤ l.fn.number + length l.fn.text;
}

abbrev pub decreases-loop-found : goal.decreases-loop-found
decreases-loop-found l = length l.rest
