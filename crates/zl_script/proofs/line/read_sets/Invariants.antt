use Rattle.std.proofs.Common.{length}
use Rattle.zl_script.specs.Cut.{words_of}
use Rattle.zl_script.proofs.SetLemmas.{IsReadTo}
use Rattle.zl_script.proofs.line.read_sets.Given as goal

abbrev pub invariant-loop-word : goal.invariant-loop-word
invariant-loop-word l = IsReadTo l.inputs (words_of l.words) (words_of l.rest) l.sets.items l.faultless l.last.items l.line

abbrev pub decreases-loop-word : goal.decreases-loop-word
decreases-loop-word l = length l.rest
