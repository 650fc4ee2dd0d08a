use Rattle.std.proofs.Common.{◌≡◌, ◌+◌, ◌%◌}
use Rattle.zl_value.specs.Fraction.{gcd}
use Rattle.zl_value.proofs.gcd.gcd_of_odd.Given as goal

-- both parts stay odd, and have the divisors of the numbers
abbrev pub invariant-loop-x : goal.invariant-loop-x
invariant-loop-x l = (l.x % 2 ≡ 1) × (l.y % 2 ≡ 1) × (gcd l.x l.y ≡ gcd l.fn.a l.fn.b)

abbrev pub decreases-loop-x : goal.decreases-loop-x
decreases-loop-x l = l.x + l.y
