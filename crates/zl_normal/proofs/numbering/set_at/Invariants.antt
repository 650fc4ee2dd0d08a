use Rattle.std.proofs.Common.{◌≡◌, ◌-◌, ℕ, suc, get_or, length}
use Rattle.zl_normal.proofs.numbering.set_at.Given as goal

abbrev pub invariant-loop-numbers : goal.invariant-loop-numbers
invariant-loop-numbers l = (i : ℕ) → get_or l.numbers.items i 0 ≡ get_or l.initial.numbers.items i 0

abbrev pub decreases-loop-numbers : goal.decreases-loop-numbers
decreases-loop-numbers l = suc l.index - length l.numbers.items
