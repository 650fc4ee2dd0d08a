use Rattle.std.proofs.Common.{arith, pos}
use Rattle.std.proofs.lemmas.Int.{ints}
use Rattle.zl_value.proofs.Fractions.{IsFrac-over, IsReduced-one}
use Rattle.zl_value.proofs.frac.Frac.zero.Goals as goal

pub of_parts-requires : goal.of_parts-requires
of_parts-requires c = IsFrac-over (pos 0) 1 (IsReduced-one (pos 0)) (omega (arith, ints)) (omega arith)
