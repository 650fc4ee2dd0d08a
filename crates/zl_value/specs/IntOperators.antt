-- The operators on two whole numbers, and an answer of whole numbers as one of values. This project's own, after Zélus.
use Rattle.std.specs.Prelude.{ℤ, Result, Ok, Err}
use Rattle.zl_value.specs.Operators.{Answer, Gives, Faults}
use Rattle.zl_value.specs.declared.arith.Arith.{Arith}
use Rattle.zl_value.specs.declared.int_operators.IntOp.{IntOp}
use Rattle.zl_value.specs.declared.int_operators.IntOp.TheVariants.{Add, Sub, Mul, Div, Mod}
use Rattle.zl_value.specs.declared.op.Op.{Op}
use Rattle.zl_value.specs.declared.op.Op.TheVariants.{AddInt, SubInt, MulInt, DivInt, ModInt}
use Rattle.zl_value.specs.declared.value.Value.TheVariants.{I}

-- the operator on values that it is
abbrev pub operator_of : IntOp → Op
operator_of Add = AddInt
operator_of Sub = SubInt
operator_of Mul = MulInt
operator_of Div = DivInt
operator_of Mod = ModInt

-- a whole number is given as a value
abbrev pub answer_of : Result ℤ Arith → Answer
answer_of (Ok n) = Gives (I n)
answer_of (Err kind) = Faults kind
