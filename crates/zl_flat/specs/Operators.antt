-- The operators of expressions, by the types of their operands.
use Rattle.std.specs.Prelude.{ℕ, if◌then◌else◌, List, [], ◌∷◌, Option, Some, None, codes}
use Rattle.zl_value.specs.declared.value.Ty.{Ty}
use Rattle.zl_value.specs.declared.value.Ty.TheVariants.{Bool as BoolTy, Int, Float, Zero}
use Rattle.zl_value.specs.declared.value.Value.{Value}
use Rattle.zl_value.specs.declared.value.Value.TheVariants.{B, I, F}
use Rattle.zl_value.specs.declared.op.Op.{Op}
use Rattle.zl_value.specs.declared.op.Op.TheVariants.{AddInt, SubInt, MulInt, DivInt, ModInt, NegInt, AddFloat, SubFloat, MulFloat, DivFloat, NegFloat, FloatOfInt, Truncate, EqBool, NeBool, LtBool, LeBool, GtBool, GeBool, EqInt, NeInt, LtInt, LeInt, GtInt, GeInt, EqFloat, NeFloat, LtFloat, LeFloat, GtFloat, GeFloat, And, Or, Not}
use Rattle.zl_ast.specs.declared.operator.Prefix.{Prefix}
use Rattle.zl_ast.specs.declared.operator.Prefix.TheVariants as prefix
use Rattle.zl_ast.specs.declared.operator.Infix.{Infix}
use Rattle.zl_ast.specs.declared.operator.Infix.TheVariants as infix_op
use Rattle.zl_ast.specs.Names.{has_text}
use Rattle.zl_meaning.specs.declared.occurrence.Form.{Form}
use Rattle.zl_meaning.specs.declared.occurrence.Form.TheVariants.{Op as Apply, Pre}

abbrev pub value_type : Value → Ty
value_type (B b) = BoolTy
value_type (I n) = Int
value_type (F r) = Float

-- a comparison of two values of a type, of the three that are given
abbrev pub by_type : Ty → Op → Op → Op → Op
by_type BoolTy b i f = b
by_type Int b i f = i
by_type Float b i f = f
by_type Zero b i f = b

-- an operator between two operands, of which the left has this type
abbrev pub infix_form : Infix → Ty → Op
infix_form infix_op.Or ty = Or
infix_form infix_op.And ty = And
infix_form infix_op.Equal ty = by_type ty EqBool EqInt EqFloat
infix_form infix_op.Unequal ty = by_type ty NeBool NeInt NeFloat
infix_form infix_op.Less ty = by_type ty LtBool LtInt LtFloat
infix_form infix_op.AtMost ty = by_type ty LeBool LeInt LeFloat
infix_form infix_op.Greater ty = by_type ty GtBool GtInt GtFloat
infix_form infix_op.AtLeast ty = by_type ty GeBool GeInt GeFloat
infix_form infix_op.Plus ty = AddInt
infix_form infix_op.Minus ty = SubInt
infix_form infix_op.PlusDot ty = AddFloat
infix_form infix_op.MinusDot ty = SubFloat
infix_form infix_op.Star ty = MulInt
infix_form infix_op.Slash ty = DivInt
infix_form infix_op.Mod ty = ModInt
infix_form infix_op.StarDot ty = MulFloat
infix_form infix_op.SlashDot ty = DivFloat

-- an operator before its operand, which is an occurrence
abbrev pub prefix_form : Prefix → ℕ → Form
prefix_form prefix.Minus k = Apply NegInt (k ∷ [])
prefix_form prefix.MinusDot k = Apply NegFloat (k ∷ [])
prefix_form prefix.Not k = Apply Not (k ∷ [])
prefix_form prefix.Pre k = Pre k

-- its type, where the operand has this type
abbrev pub prefix_type : Prefix → Ty → Ty
prefix_type prefix.Minus ty = Int
prefix_type prefix.MinusDot ty = Float
prefix_type prefix.Not ty = BoolTy
prefix_type prefix.Pre ty = ty

-- one of the two functions that every program has, and that are operators
abbrev pub built_in_op : List (List ℕ) → ℕ → Option Op
built_in_op names id = if has_text names id (codes "float_of_int") then Some FloatOfInt else if has_text names id (codes "truncate") then Some Truncate else None
