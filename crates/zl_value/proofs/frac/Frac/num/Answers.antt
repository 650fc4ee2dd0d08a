use Rattle.std.proofs.Common.{arith}
use Rattle.std.proofs.lemmas.Int.{ints}
use Rattle.zl_value.proofs.Fractions.{num_in_width, den_in_width}
use Rattle.zl_value.proofs.frac.Frac.num.Goals as goal

pub returns-clause-width : goal.returns-clause-width
returns-clause-width c = omega (arith, ints, num_in_width _ c.self.invariant, den_in_width _ c.self.invariant)
