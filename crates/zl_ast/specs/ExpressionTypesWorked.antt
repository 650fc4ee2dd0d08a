-- Worked programs of the rules of types: expressions.
use Rattle.std.specs.Prelude.{true, [], ◌∷◌, Some, None, codes}
use Rattle.zl_value.specs.declared.value.Ty.TheVariants.{Bool, Int, Float}
use Rattle.zl_ast.specs.declared.operator.Infix.TheVariants.{And, AtLeast, AtMost, Equal, Greater, Less, Minus, MinusDot, Mod, Or, Plus, PlusDot, Slash, SlashDot, Star, StarDot, Unequal}
use Rattle.zl_ast.specs.declared.program.DeclKind.TheVariants.{Function, Node}
use Rattle.zl_ast.specs.declared.program.Program.{Program}
use Rattle.zl_ast.specs.WorkedTrees.{at, name, int, float, bool, var, last, call, minus, minus_dot, negation, before, op, chain, arrow, followed, choice, plain, init, param, declared, program}
use Rattle.zl_ast.specs.Verdicts.{KeepsTypes, Clashes}

-- ---- `+ - * / mod` take and give int

-- let f(a, b) = 1 + 2 - a * 3 / 4 mod b
abbrev pub int_operators : Program
int_operators =
    program
    (declared Function (name 0 1 5) (param (name 1 1 7) None ∷ param (name 2 1 10) None ∷ [])
    (chain (int 1 1 15)
    (op Plus 1 17 (int 2 1 19)
    ∷ op Minus 1 21
    (chain (var 1 1 23)
    (op Star 1 25 (int 3 1 27) ∷ op Slash 1 29 (int 4 1 31) ∷ op Mod 1 33 (var 2 1 37) ∷ []))
    ∷ [])
    ∷ [])
    []
    ∷ [])
    (codes "f" ∷ codes "a" ∷ codes "b" ∷ [])

-- let f(a) = a + 1.0
abbrev pub float_to_plus : Program
float_to_plus =
    program
    (declared Function (name 0 1 5) (param (name 1 1 7) None ∷ [])
    (chain (var 1 1 12) (op Plus 1 14 (float 1 1 16) ∷ []) ∷ []) []
    ∷ [])
    (codes "f" ∷ codes "a" ∷ [])

-- let f(a) = true && (a * 1)
abbrev pub int_result : Program
int_result =
    program
    (declared Function (name 0 1 5) (param (name 1 1 7) None ∷ [])
    (chain (bool true 1 12) (op And 1 17 (chain (var 1 1 21) (op Star 1 23 (int 1 1 25) ∷ [])) ∷ []) ∷ []) []
    ∷ [])
    (codes "f" ∷ codes "a" ∷ [])

-- ---- `+. -. *. /.` take and give float

-- let f(a, b) = 1.0 +. 2.0 -. a *. 3.0 /. b
abbrev pub float_operators : Program
float_operators =
    program
    (declared Function (name 0 1 5) (param (name 1 1 7) None ∷ param (name 2 1 10) None ∷ [])
    (chain (float 1 1 15)
    (op PlusDot 1 19 (float 2 1 22)
    ∷ op MinusDot 1 26
    (chain (var 1 1 29) (op StarDot 1 31 (float 3 1 34) ∷ op SlashDot 1 38 (var 2 1 41) ∷ []))
    ∷ [])
    ∷ [])
    []
    ∷ [])
    (codes "f" ∷ codes "a" ∷ codes "b" ∷ [])

-- let f(a) = a +. 1
abbrev pub int_to_plus_dot : Program
int_to_plus_dot =
    program
    (declared Function (name 0 1 5) (param (name 1 1 7) None ∷ [])
    (chain (var 1 1 12) (op PlusDot 1 14 (int 1 1 17) ∷ []) ∷ []) []
    ∷ [])
    (codes "f" ∷ codes "a" ∷ [])

-- ---- `&&`, `||` and `not` take and give bool

-- let f(a, b) = a && true || not b
abbrev pub bool_operators : Program
bool_operators =
    program
    (declared Function (name 0 1 5) (param (name 1 1 7) None ∷ param (name 2 1 10) None ∷ [])
    (chain (chain (var 1 1 15) (op And 1 17 (bool true 1 20) ∷ []))
    (op Or 1 25 (negation 1 28 (var 2 1 32)) ∷ [])
    ∷ [])
    []
    ∷ [])
    (codes "f" ∷ codes "a" ∷ codes "b" ∷ [])

-- let f(a) = a && 1
abbrev pub int_to_and : Program
int_to_and =
    program
    (declared Function (name 0 1 5) (param (name 1 1 7) None ∷ [])
    (chain (var 1 1 12) (op And 1 14 (int 1 1 17) ∷ []) ∷ []) []
    ∷ [])
    (codes "f" ∷ codes "a" ∷ [])

-- let f() = not 1
abbrev pub int_to_not : Program
int_to_not =
    program (declared Function (name 0 1 5) [] (negation 1 11 (int 1 1 15) ∷ []) [] ∷ []) (codes "f" ∷ [])

-- ---- prefix `-` takes and gives int, and `-.` float

-- let f(a, b) = x where x = - a and y = -. b
abbrev pub minus_signs : Program
minus_signs =
    program
    (declared Function (name 0 1 5) (param (name 1 1 7) None ∷ param (name 2 1 10) None ∷ []) (var 3 1 15 ∷ [])
    (plain (name 3 1 23) (minus 1 27 (var 1 1 29)) ∷ plain (name 4 1 35) (minus_dot 1 39 (var 2 1 42)) ∷ [])
    ∷ [])
    (codes "f" ∷ codes "a" ∷ codes "b" ∷ codes "x" ∷ codes "y" ∷ [])

-- let f(a) = x where x = -. a and y = - x
abbrev pub float_to_minus : Program
float_to_minus =
    program
    (declared Function (name 0 1 5) (param (name 1 1 7) None ∷ []) (var 2 1 12 ∷ [])
    (plain (name 2 1 20) (minus_dot 1 24 (var 1 1 27)) ∷ plain (name 3 1 33) (minus 1 37 (var 2 1 39)) ∷ [])
    ∷ [])
    (codes "f" ∷ codes "a" ∷ codes "x" ∷ codes "y" ∷ [])

-- let f() = -. 1
abbrev pub int_to_minus_dot : Program
int_to_minus_dot =
    program (declared Function (name 0 1 5) [] (minus_dot 1 11 (int 1 1 14) ∷ []) [] ∷ []) (codes "f" ∷ [])

-- ---- a comparison takes two operands of one type, any of the three, and gives bool

-- let f(a, b, c) = (a = 1) && (b <> 1.0) && (c < true)
abbrev pub comparisons : Program
comparisons =
    program
    (declared Function (name 0 1 5)
    (param (name 1 1 7) None ∷ param (name 2 1 10) None ∷ param (name 3 1 13) None ∷ [])
    (chain (chain (var 1 1 19) (op Equal 1 21 (int 1 1 23) ∷ []))
    (op And 1 26 (chain (var 2 1 30) (op Unequal 1 32 (float 1 1 35) ∷ []))
    ∷ op And 1 40 (chain (var 3 1 44) (op Less 1 46 (bool true 1 48) ∷ []))
    ∷ [])
    ∷ [])
    []
    ∷ [])
    (codes "f" ∷ codes "a" ∷ codes "b" ∷ codes "c" ∷ [])

-- let f(a, b, c) = (a <= 1) && (b > 1.0) && (c >= true)
abbrev pub more_comparisons : Program
more_comparisons =
    program
    (declared Function (name 0 1 5)
    (param (name 1 1 7) None ∷ param (name 2 1 10) None ∷ param (name 3 1 13) None ∷ [])
    (chain (chain (var 1 1 19) (op AtMost 1 21 (int 1 1 24) ∷ []))
    (op And 1 27 (chain (var 2 1 31) (op Greater 1 33 (float 1 1 35) ∷ []))
    ∷ op And 1 40 (chain (var 3 1 44) (op AtLeast 1 46 (bool true 1 49) ∷ []))
    ∷ [])
    ∷ [])
    []
    ∷ [])
    (codes "f" ∷ codes "a" ∷ codes "b" ∷ codes "c" ∷ [])

-- let f() = 1 < 2.0
abbrev pub int_and_float : Program
int_and_float =
    program (declared Function (name 0 1 5) [] (chain (int 1 1 11) (op Less 1 13 (float 2 1 15) ∷ []) ∷ []) [] ∷ [])
    (codes "f" ∷ [])

-- let f() = (1 < 2) + 1
abbrev pub int_of_comparison : Program
int_of_comparison =
    program
    (declared Function (name 0 1 5) []
    (chain (chain (int 1 1 12) (op Less 1 14 (int 2 1 16) ∷ [])) (op Plus 1 19 (int 1 1 21) ∷ []) ∷ []) []
    ∷ [])
    (codes "f" ∷ [])

-- ---- the condition of an `if` is bool, and its branches and it have one type

-- let f(c, a) = x where x = if c then a else 1
abbrev pub if_typed : Program
if_typed =
    program
    (declared Function (name 0 1 5) (param (name 1 1 7) None ∷ param (name 2 1 10) None ∷ []) (var 3 1 15 ∷ [])
    (plain (name 3 1 23) (choice 1 27 (var 1 1 30) (var 2 1 37) (int 1 1 44)) ∷ [])
    ∷ [])
    (codes "f" ∷ codes "c" ∷ codes "a" ∷ codes "x" ∷ [])

-- let f() = if 1 then 2 else 3
abbrev pub if_of_int : Program
if_of_int =
    program (declared Function (name 0 1 5) [] (choice 1 11 (int 1 1 14) (int 2 1 21) (int 3 1 28) ∷ []) [] ∷ [])
    (codes "f" ∷ [])

-- let f() = if true then 1 else 1.0
abbrev pub if_of_two : Program
if_of_two =
    program
    (declared Function (name 0 1 5) [] (choice 1 11 (bool true 1 14) (int 1 1 24) (float 1 1 31) ∷ []) [] ∷ [])
    (codes "f" ∷ [])

-- let f(a) = (if true then 1 else a) +. 1.0
abbrev pub if_result : Program
if_result =
    program
    (declared Function (name 0 1 5) (param (name 1 1 7) None ∷ [])
    (chain (choice 1 13 (bool true 1 16) (int 1 1 26) (var 1 1 33)) (op PlusDot 1 36 (float 1 1 39) ∷ []) ∷ [])
    []
    ∷ [])
    (codes "f" ∷ codes "a" ∷ [])

-- ---- the parts of `->` and of `fby`, and these, have one type

-- let node f(a) = a -> 1
-- let node g(b) = b fby 2.0
abbrev pub flows_typed : Program
flows_typed =
    program
    (declared Node (name 0 1 10) (param (name 1 1 12) None ∷ []) (arrow 1 19 (var 1 1 17) (int 1 1 22) ∷ []) []
    ∷ declared Node (name 2 2 10) (param (name 3 2 12) None ∷ [])
    (followed 2 19 (var 3 2 17) (float 2 2 23) ∷ []) []
    ∷ [])
    (codes "f" ∷ codes "a" ∷ codes "g" ∷ codes "b" ∷ [])

-- let node f() = 1 -> 2.0
abbrev pub arrow_of_two : Program
arrow_of_two =
    program (declared Node (name 0 1 10) [] (arrow 1 18 (int 1 1 16) (float 2 1 21) ∷ []) [] ∷ []) (codes "f" ∷ [])

-- let node f() = (1 -> 2) +. 1.0
abbrev pub arrow_result : Program
arrow_result =
    program
    (declared Node (name 0 1 10) []
    (chain (arrow 1 19 (int 1 1 17) (int 2 1 22)) (op PlusDot 1 25 (float 1 1 28) ∷ []) ∷ []) []
    ∷ [])
    (codes "f" ∷ [])

-- let node f() = 1 fby true
abbrev pub fby_of_two : Program
fby_of_two =
    program (declared Node (name 0 1 10) [] (followed 1 18 (int 1 1 16) (bool true 1 22) ∷ []) [] ∷ [])
    (codes "f" ∷ [])

-- ---- `pre e` has the type of e, and `last x` that of x

-- let node f(a) = 0 -> pre a
abbrev pub pre_typed : Program
pre_typed =
    program
    (declared Node (name 0 1 10) (param (name 1 1 12) None ∷ [])
    (arrow 1 19 (int 0 1 17) (before 1 22 (var 1 1 26)) ∷ []) []
    ∷ [])
    (codes "f" ∷ codes "a" ∷ [])

-- let node f(b) = last x +. 1.0 where init x = b
abbrev pub last_typed : Program
last_typed =
    program
    (declared Node (name 0 1 10) (param (name 1 1 12) None ∷ [])
    (chain (last 1 17 (name 2 1 22)) (op PlusDot 1 24 (float 1 1 27) ∷ []) ∷ [])
    (init 1 37 (name 2 1 42) (var 1 1 46) ∷ [])
    ∷ [])
    (codes "f" ∷ codes "b" ∷ codes "x" ∷ [])

-- let node f(a : float) = (0.0 -> pre a) + 1
abbrev pub pre_of_float : Program
pre_of_float =
    program
    (declared Node (name 0 1 10) (param (name 1 1 12) (Some Float) ∷ [])
    (chain (arrow 1 30 (float 0 1 26) (before 1 33 (var 1 1 37))) (op Plus 1 40 (int 1 1 42) ∷ []) ∷ []) []
    ∷ [])
    (codes "f" ∷ codes "a" ∷ [])

-- let node f() = last y + 1 where init y = 1.0
abbrev pub last_of_float : Program
last_of_float =
    program
    (declared Node (name 0 1 10) [] (chain (last 1 16 (name 1 1 21)) (op Plus 1 23 (int 1 1 25) ∷ []) ∷ [])
    (init 1 33 (name 1 1 38) (float 1 1 42) ∷ [])
    ∷ [])
    (codes "f" ∷ codes "y" ∷ [])

-- ---- `float_of_int` takes an int and gives a float, and `truncate` the other way

-- let f(a, b) = x where x = float_of_int(a) and y = truncate(b)
abbrev pub built_ins_typed : Program
built_ins_typed =
    program
    (declared Function (name 0 1 5) (param (name 1 1 7) None ∷ param (name 2 1 10) None ∷ []) (var 3 1 15 ∷ [])
    (plain (name 3 1 23) (call (name 4 1 27) (var 1 1 40 ∷ []))
    ∷ plain (name 5 1 47) (call (name 6 1 51) (var 2 1 60 ∷ []))
    ∷ [])
    ∷ [])
    (codes "f" ∷ codes "a" ∷ codes "b" ∷ codes "x" ∷ codes "float_of_int" ∷ codes "y" ∷ codes "truncate" ∷ [])

-- let f() = float_of_int(1.0)
abbrev pub float_to_float_of_int : Program
float_to_float_of_int =
    program (declared Function (name 0 1 5) [] (call (name 1 1 11) (float 1 1 24 ∷ []) ∷ []) [] ∷ [])
    (codes "f" ∷ codes "float_of_int" ∷ [])

-- let f() = truncate(1)
abbrev pub int_to_truncate : Program
int_to_truncate =
    program (declared Function (name 0 1 5) [] (call (name 1 1 11) (int 1 1 20 ∷ []) ∷ []) [] ∷ [])
    (codes "f" ∷ codes "truncate" ∷ [])

-- let f() = truncate(1.0) +. 1.0
abbrev pub float_of_truncate : Program
float_of_truncate =
    program
    (declared Function (name 0 1 5) []
    (chain (call (name 1 1 11) (float 1 1 20 ∷ [])) (op PlusDot 1 25 (float 1 1 28) ∷ []) ∷ []) []
    ∷ [])
    (codes "f" ∷ codes "truncate" ∷ [])

-- ---- an argument has the type of its parameter, and a call that of the result

-- let f(a, b) = a
-- let g() = f(1, 2.0)
-- a call in a later declaration gives a parameter its type too
abbrev pub calls_typed : Program
calls_typed =
    program
    (declared Function (name 0 1 5) (param (name 1 1 7) None ∷ param (name 2 1 10) None ∷ []) (var 1 1 15 ∷ []) []
    ∷ declared Function (name 3 2 5) [] (call (name 0 2 11) (int 1 2 13 ∷ float 2 2 16 ∷ []) ∷ []) []
    ∷ [])
    (codes "f" ∷ codes "a" ∷ codes "b" ∷ codes "g" ∷ [])

-- let f(a, b) = a + truncate(b)
-- let g() = f(1, 2)
abbrev pub second_argument : Program
second_argument =
    program
    (declared Function (name 0 1 5) (param (name 1 1 7) None ∷ param (name 2 1 10) None ∷ [])
    (chain (var 1 1 15) (op Plus 1 17 (call (name 3 1 19) (var 2 1 28 ∷ [])) ∷ []) ∷ []) []
    ∷ declared Function (name 4 2 5) [] (call (name 0 2 11) (int 1 2 13 ∷ int 2 2 16 ∷ []) ∷ []) []
    ∷ [])
    (codes "f" ∷ codes "a" ∷ codes "b" ∷ codes "truncate" ∷ codes "g" ∷ [])

-- let f(a) = a + 1
-- let g() = f(1) +. 1.0
abbrev pub call_result : Program
call_result =
    program
    (declared Function (name 0 1 5) (param (name 1 1 7) None ∷ [])
    (chain (var 1 1 12) (op Plus 1 14 (int 1 1 16) ∷ []) ∷ []) []
    ∷ declared Function (name 2 2 5) []
    (chain (call (name 0 2 11) (int 1 2 13 ∷ [])) (op PlusDot 2 16 (float 1 2 19) ∷ []) ∷ []) []
    ∷ [])
    (codes "f" ∷ codes "a" ∷ codes "g" ∷ [])

-- let f(a) = a
-- let g() = x where x = f(1) and y = f(1.0)
-- a declaration has one typing for all its calls
abbrev pub two_calls : Program
two_calls =
    program
    (declared Function (name 0 1 5) (param (name 1 1 7) None ∷ []) (var 1 1 12 ∷ []) []
    ∷ declared Function (name 2 2 5) [] (var 3 2 11 ∷ [])
    (plain (name 3 2 19) (call (name 0 2 23) (int 1 2 25 ∷ []))
    ∷ plain (name 4 2 32) (call (name 0 2 36) (float 1 2 38 ∷ []))
    ∷ [])
    ∷ [])
    (codes "f" ∷ codes "a" ∷ codes "g" ∷ codes "x" ∷ codes "y" ∷ [])

-- ---- the laws

pub record ExpressionTypesWorked : Type 0 where
  pub int_operators_keeps : KeepsTypes ((Int ∷ Int ∷ []) ∷ []) int_operators
  pub float_to_plus_breaks : Clashes (at 1 16) float_to_plus
  pub int_result_breaks : Clashes (at 1 23) int_result
  pub float_operators_keeps : KeepsTypes ((Float ∷ Float ∷ []) ∷ []) float_operators
  pub int_to_plus_dot_breaks : Clashes (at 1 17) int_to_plus_dot
  pub bool_operators_keeps : KeepsTypes ((Bool ∷ Bool ∷ []) ∷ []) bool_operators
  pub int_to_and_breaks : Clashes (at 1 17) int_to_and
  pub int_to_not_breaks : Clashes (at 1 15) int_to_not
  pub minus_signs_keeps : KeepsTypes ((Int ∷ Float ∷ Int ∷ Float ∷ []) ∷ []) minus_signs
  pub float_to_minus_breaks : Clashes (at 1 39) float_to_minus
  pub int_to_minus_dot_breaks : Clashes (at 1 14) int_to_minus_dot
  pub comparisons_keeps : KeepsTypes ((Int ∷ Float ∷ Bool ∷ []) ∷ []) comparisons
  pub more_comparisons_keeps : KeepsTypes ((Int ∷ Float ∷ Bool ∷ []) ∷ []) more_comparisons
  pub int_and_float_breaks : Clashes (at 1 15) int_and_float
  pub int_of_comparison_breaks : Clashes (at 1 19) int_of_comparison
  pub if_typed_keeps : KeepsTypes ((Bool ∷ Int ∷ Int ∷ []) ∷ []) if_typed
  pub if_of_int_breaks : Clashes (at 1 14) if_of_int
  pub if_of_two_breaks : Clashes (at 1 31) if_of_two
  pub if_result_breaks : Clashes (at 1 36) if_result
  pub flows_typed_keeps : KeepsTypes ((Int ∷ []) ∷ (Float ∷ []) ∷ []) flows_typed
  pub arrow_of_two_breaks : Clashes (at 1 21) arrow_of_two
  pub arrow_result_breaks : Clashes (at 1 25) arrow_result
  pub fby_of_two_breaks : Clashes (at 1 22) fby_of_two
  pub pre_typed_keeps : KeepsTypes ((Int ∷ []) ∷ []) pre_typed
  pub last_typed_keeps : KeepsTypes ((Float ∷ Float ∷ []) ∷ []) last_typed
  pub pre_of_float_breaks : Clashes (at 1 40) pre_of_float
  pub last_of_float_breaks : Clashes (at 1 42) last_of_float
  pub built_ins_typed_keeps : KeepsTypes ((Int ∷ Float ∷ Float ∷ Int ∷ []) ∷ []) built_ins_typed
  pub float_to_float_of_int_breaks : Clashes (at 1 24) float_to_float_of_int
  pub int_to_truncate_breaks : Clashes (at 1 20) int_to_truncate
  pub float_of_truncate_breaks : Clashes (at 1 25) float_of_truncate
  pub calls_typed_keeps : KeepsTypes ((Int ∷ Float ∷ []) ∷ [] ∷ []) calls_typed
  pub second_argument_breaks : Clashes (at 2 16) second_argument
  pub call_result_breaks : Clashes (at 2 16) call_result
  pub two_calls_breaks : Clashes (at 2 38) two_calls
