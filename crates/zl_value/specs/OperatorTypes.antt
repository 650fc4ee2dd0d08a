-- The types that the operators take and give. This project's own, after Zélus.
use Rattle.std.specs.Prelude.{Bool, true, false, List, [], ◌∷◌}
use Rattle.zl_value.specs.declared.value.Ty.{Ty}
use Rattle.zl_value.specs.declared.value.Ty.TheVariants.{Bool as BoolTy, Int, Float}
use Rattle.zl_value.specs.declared.op.Op.{Op}
use Rattle.zl_value.specs.declared.op.Op.TheVariants.{AddInt, SubInt, MulInt, DivInt, ModInt, NegInt, AddFloat, SubFloat, MulFloat, DivFloat, NegFloat, FloatOfInt, Truncate, EqBool, NeBool, LtBool, LeBool, GtBool, GeBool, EqInt, NeInt, LtInt, LeInt, GtInt, GeInt, EqFloat, NeFloat, LtFloat, LeFloat, GtFloat, GeFloat, And, Or, Not}

-- the types of an operator's operands, and of its result
pub record OperatorType : Type 0 where
  pub operands : List Ty
  pub result : Ty

-- an operator on two operands of one type, and on one operand
abbrev pub two : Ty → Ty → OperatorType
two of to = record { operands = of ∷ of ∷ []; result = to }

abbrev pub one : Ty → Ty → OperatorType
one of to = record { operands = of ∷ []; result = to }

abbrev pub type_of : Op → OperatorType
type_of AddInt = two Int Int
type_of SubInt = two Int Int
type_of MulInt = two Int Int
type_of DivInt = two Int Int
type_of ModInt = two Int Int
type_of NegInt = one Int Int
type_of AddFloat = two Float Float
type_of SubFloat = two Float Float
type_of MulFloat = two Float Float
type_of DivFloat = two Float Float
type_of NegFloat = one Float Float
type_of FloatOfInt = one Int Float
type_of Truncate = one Float Int
type_of EqBool = two BoolTy BoolTy
type_of NeBool = two BoolTy BoolTy
type_of LtBool = two BoolTy BoolTy
type_of LeBool = two BoolTy BoolTy
type_of GtBool = two BoolTy BoolTy
type_of GeBool = two BoolTy BoolTy
type_of EqInt = two Int BoolTy
type_of NeInt = two Int BoolTy
type_of LtInt = two Int BoolTy
type_of LeInt = two Int BoolTy
type_of GtInt = two Int BoolTy
type_of GeInt = two Int BoolTy
type_of EqFloat = two Float BoolTy
type_of NeFloat = two Float BoolTy
type_of LtFloat = two Float BoolTy
type_of LeFloat = two Float BoolTy
type_of GtFloat = two Float BoolTy
type_of GeFloat = two Float BoolTy
type_of And = two BoolTy BoolTy
type_of Or = two BoolTy BoolTy
type_of Not = one BoolTy BoolTy

-- the operator can be without a result: its result can leave the width, or its divisor can be zero
abbrev pub can_fault : Op → Bool
can_fault AddInt = true
can_fault SubInt = true
can_fault MulInt = true
can_fault DivInt = true
can_fault ModInt = true
can_fault NegInt = true
can_fault AddFloat = true
can_fault SubFloat = true
can_fault MulFloat = true
can_fault DivFloat = true
can_fault FloatOfInt = true
can_fault _ = false
