-- Worked programs of the rules of types: calls, equations, conditions, and variables whose type nothing fixes.
use Rattle.std.specs.Prelude.{true, [], ◌∷◌, Some, None, codes}
use Rattle.zl_value.specs.declared.value.Ty.TheVariants.{Bool, Int, Float}
use Rattle.zl_ast.specs.declared.operator.Infix.TheVariants.{Plus, PlusDot}
use Rattle.zl_ast.specs.declared.program.DeclKind.TheVariants.{Function, Node, Hybrid}
use Rattle.zl_ast.specs.declared.program.Program.{Program}
use Rattle.zl_ast.specs.Equations.{body, arm, state}
use Rattle.zl_ast.specs.WorkedTrees.{at, name, int, float, bool, var, last, call, before, op, chain, plain, plains, init, up, event, test, becomes, der, present, automaton, reset, until_then, constant, param, declared, program}
use Rattle.zl_ast.specs.Verdicts.{KeepsTypes, Clashes, StaysOpen}
use Rattle.zl_value.specs.declared.rule.Rule.TheVariants.{Kind}
use Rattle.zl_ast.specs.TypesRules.{IsTypesRefusedAt}

-- ---- a constant has one type wherever it is read

-- let k = 1
-- let g(a) = a + k
abbrev pub constant_typed : Program
constant_typed =
    program
    (constant (name 0 1 5) (int 1 1 9)
    ∷ declared Function (name 1 2 5) (param (name 2 2 7) None ∷ [])
    (chain (var 2 2 12) (op Plus 2 14 (var 0 2 16) ∷ []) ∷ []) []
    ∷ [])
    (codes "k" ∷ codes "g" ∷ codes "a" ∷ [])

-- let k = 1
-- let g() = k +. 1.0
abbrev pub constant_of_two : Program
constant_of_two =
    program
    (constant (name 0 1 5) (int 1 1 9)
    ∷ declared Function (name 1 2 5) [] (chain (var 0 2 11) (op PlusDot 2 13 (float 1 2 16) ∷ []) ∷ []) []
    ∷ [])
    (codes "k" ∷ codes "g" ∷ [])

-- ---- several names on the left have the types of the results, in their order

-- let h(a : int, b : float) = (a, b)
-- let g(x, y) = z where (z, u) = h(x, y)
abbrev pub results_typed : Program
results_typed =
    program
    (declared Function (name 0 1 5) (param (name 1 1 7) (Some Int) ∷ param (name 2 1 16) (Some Float) ∷ [])
    (var 1 1 30 ∷ var 2 1 33 ∷ []) []
    ∷ declared Function (name 3 2 5) (param (name 4 2 7) None ∷ param (name 5 2 10) None ∷ []) (var 6 2 15 ∷ [])
    (plains (name 6 2 24 ∷ name 7 2 27 ∷ []) (call (name 0 2 32) (var 4 2 34 ∷ var 5 2 37 ∷ [])) ∷ [])
    ∷ [])
    (codes "h" ∷ codes "a" ∷ codes "b" ∷ codes "g" ∷ codes "x" ∷ codes "y" ∷ codes "z" ∷ codes "u" ∷ [])

-- let h() = (a, b) where a = 1 and b = 2.0
-- let g() = x +. 1.0 where (x, y) = h()
abbrev pub results_exchanged : Program
results_exchanged =
    program
    (declared Function (name 0 1 5) [] (var 1 1 12 ∷ var 2 1 15 ∷ [])
    (plain (name 1 1 24) (int 1 1 28) ∷ plain (name 2 1 34) (float 2 1 38) ∷ [])
    ∷ declared Function (name 3 2 5) [] (chain (var 4 2 11) (op PlusDot 2 13 (float 1 2 16) ∷ []) ∷ [])
    (plains (name 4 2 27 ∷ name 5 2 30 ∷ []) (call (name 0 2 35) []) ∷ [])
    ∷ [])
    (codes "h" ∷ codes "a" ∷ codes "b" ∷ codes "g" ∷ codes "x" ∷ codes "y" ∷ [])

-- ---- both sides of an equation have one type

-- let f(a) = x + 1 where x = a
abbrev pub sides_typed : Program
sides_typed =
    program
    (declared Function (name 0 1 5) (param (name 1 1 7) None ∷ [])
    (chain (var 2 1 12) (op Plus 1 14 (int 1 1 16) ∷ []) ∷ []) (plain (name 2 1 24) (var 1 1 28) ∷ [])
    ∷ [])
    (codes "f" ∷ codes "a" ∷ codes "x" ∷ [])

-- let f() = x +. 1.0 where x = 1
abbrev pub sides_of_two : Program
sides_of_two =
    program
    (declared Function (name 0 1 5) [] (chain (var 1 1 11) (op PlusDot 1 13 (float 1 1 16) ∷ []) ∷ [])
    (plain (name 1 1 26) (int 1 1 30) ∷ [])
    ∷ [])
    (codes "f" ∷ codes "x" ∷ [])

-- ---- the variable of a derivative, and all its parts, are float

-- let hybrid f(a, b, c) = x where der x = a init b reset up(1.0) -> c
abbrev pub derivative_typed : Program
derivative_typed =
    program
    (declared Hybrid (name 0 1 12)
    (param (name 1 1 14) None ∷ param (name 2 1 17) None ∷ param (name 3 1 20) None ∷ []) (var 4 1 25 ∷ [])
    (der 1 33 (name 4 1 37) (var 1 1 41) (Some (var 2 1 48))
    (becomes (up 1 56 (float 1 1 59) ∷ []) (var 3 1 67) ∷ [])
    ∷ [])
    ∷ [])
    (codes "f" ∷ codes "a" ∷ codes "b" ∷ codes "c" ∷ codes "x" ∷ [])

-- let hybrid f() = x where der x = 1 init 0.0
abbrev pub int_slope : Program
int_slope =
    program
    (declared Hybrid (name 0 1 12) [] (var 1 1 18 ∷ [])
    (der 1 26 (name 1 1 30) (int 1 1 34) (Some (float 0 1 41)) [] ∷ [])
    ∷ [])
    (codes "f" ∷ codes "x" ∷ [])

-- let hybrid f() = x where der x = 1.0 init 0
abbrev pub int_start : Program
int_start =
    program
    (declared Hybrid (name 0 1 12) [] (var 1 1 18 ∷ [])
    (der 1 26 (name 1 1 30) (float 1 1 34) (Some (int 0 1 43)) [] ∷ [])
    ∷ [])
    (codes "f" ∷ codes "x" ∷ [])

-- let hybrid f() = x where der x = 1.0 init 0.0 reset up(1.0) -> 0
abbrev pub int_reset : Program
int_reset =
    program
    (declared Hybrid (name 0 1 12) [] (var 1 1 18 ∷ [])
    (der 1 26 (name 1 1 30) (float 1 1 34) (Some (float 0 1 43))
    (becomes (up 1 53 (float 1 1 56) ∷ []) (int 0 1 64) ∷ [])
    ∷ [])
    ∷ [])
    (codes "f" ∷ codes "x" ∷ [])

-- let hybrid f() = x + 1 where der x = 1.0 init 0.0
abbrev pub int_derivative : Program
int_derivative =
    program
    (declared Hybrid (name 0 1 12) [] (chain (var 1 1 18) (op Plus 1 20 (int 1 1 22) ∷ []) ∷ [])
    (der 1 30 (name 1 1 34) (float 1 1 38) (Some (float 0 1 47)) [] ∷ [])
    ∷ [])
    (codes "f" ∷ codes "x" ∷ [])

-- ---- an `init` has the type of its variable

-- let node f(a) = x where init x = a and x = 1
abbrev pub init_typed : Program
init_typed =
    program
    (declared Node (name 0 1 10) (param (name 1 1 12) None ∷ []) (var 2 1 17 ∷ [])
    (init 1 25 (name 2 1 30) (var 1 1 34) ∷ plain (name 2 1 40) (int 1 1 44) ∷ [])
    ∷ [])
    (codes "f" ∷ codes "a" ∷ codes "x" ∷ [])

-- let node f() = x where init x = 1.0 and x = 2
abbrev pub init_of_two : Program
init_of_two =
    program
    (declared Node (name 0 1 10) [] (var 1 1 16 ∷ [])
    (init 1 24 (name 1 1 29) (float 1 1 33) ∷ plain (name 1 1 41) (int 2 1 45) ∷ [])
    ∷ [])
    (codes "f" ∷ codes "x" ∷ [])

-- ---- the tests of a `present`, of an automaton and of a `reset` block are bool

-- let node f(a) = 1 where present (a) -> do done
abbrev pub present_typed : Program
present_typed =
    program
    (declared Node (name 0 1 10) (param (name 1 1 12) None ∷ []) (int 1 1 17 ∷ [])
    (present 1 25 (arm (test 1 33 (var 1 1 34)) (body [] []) ∷ []) None ∷ [])
    ∷ [])
    (codes "f" ∷ codes "a" ∷ [])

-- let node f(a) = 1 where automaton A -> do until (a) then A
abbrev pub until_typed : Program
until_typed =
    program
    (declared Node (name 0 1 10) (param (name 1 1 12) None ∷ []) (int 1 1 17 ∷ [])
    (automaton 1 25
    (state (name 2 1 35) (body [] []) (until_then 1 43 (test 1 49 (var 1 1 50)) (name 2 1 58) ∷ []) ∷ [])
    ∷ [])
    ∷ [])
    (codes "f" ∷ codes "a" ∷ codes "A" ∷ [])

-- let node f(a) = 1 where reset x = 1 every (a)
abbrev pub reset_typed : Program
reset_typed =
    program
    (declared Node (name 0 1 10) (param (name 1 1 12) None ∷ []) (int 1 1 17 ∷ [])
    (reset 1 25 (plain (name 2 1 31) (int 1 1 35) ∷ []) (test 1 43 (var 1 1 44)) ∷ [])
    ∷ [])
    (codes "f" ∷ codes "a" ∷ codes "x" ∷ [])

-- let node f() = 1 where present (1) -> do done
abbrev pub present_of_int : Program
present_of_int =
    program
    (declared Node (name 0 1 10) [] (int 1 1 16 ∷ [])
    (present 1 24 (arm (test 1 32 (int 1 1 33)) (body [] []) ∷ []) None ∷ [])
    ∷ [])
    (codes "f" ∷ [])

-- let node f() = 1 where automaton A -> do until (1) then A
abbrev pub until_of_int : Program
until_of_int =
    program
    (declared Node (name 0 1 10) [] (int 1 1 16 ∷ [])
    (automaton 1 24
    (state (name 1 1 34) (body [] []) (until_then 1 42 (test 1 48 (int 1 1 49)) (name 1 1 57) ∷ []) ∷ [])
    ∷ [])
    ∷ [])
    (codes "f" ∷ codes "A" ∷ [])

-- let node f() = 1 where reset x = 1 every (2)
abbrev pub reset_of_int : Program
reset_of_int =
    program
    (declared Node (name 0 1 10) [] (int 1 1 16 ∷ [])
    (reset 1 24 (plain (name 1 1 30) (int 1 1 34) ∷ []) (test 1 42 (int 2 1 43)) ∷ [])
    ∷ [])
    (codes "f" ∷ codes "x" ∷ [])

-- ---- the argument of `up` is float, in a condition and in a derivative

-- let hybrid f(a, b) = 1 where present up(a) -> do done and der x = 1.0 init 0.0 reset up(b) -> 0.0
abbrev pub up_typed : Program
up_typed =
    program
    (declared Hybrid (name 0 1 12) (param (name 1 1 14) None ∷ param (name 2 1 17) None ∷ []) (int 1 1 22 ∷ [])
    (present 1 30 (arm (event (up 1 38 (var 1 1 41) ∷ [])) (body [] []) ∷ []) None
    ∷ der 1 59 (name 3 1 63) (float 1 1 67) (Some (float 0 1 76))
    (becomes (up 1 86 (var 2 1 89) ∷ []) (float 0 1 95) ∷ [])
    ∷ [])
    ∷ [])
    (codes "f" ∷ codes "a" ∷ codes "b" ∷ codes "x" ∷ [])

-- let hybrid f() = 1 where present up(1) -> do done
abbrev pub up_of_int : Program
up_of_int =
    program
    (declared Hybrid (name 0 1 12) [] (int 1 1 18 ∷ [])
    (present 1 26 (arm (event (up 1 34 (int 1 1 37) ∷ [])) (body [] []) ∷ []) None ∷ [])
    ∷ [])
    (codes "f" ∷ [])

-- let hybrid f() = x where der x = 1.0 init 0.0 reset up(1) -> 0.0
abbrev pub reset_up_of_int : Program
reset_up_of_int =
    program
    (declared Hybrid (name 0 1 12) [] (var 1 1 18 ∷ [])
    (der 1 26 (name 1 1 30) (float 1 1 34) (Some (float 0 1 43))
    (becomes (up 1 53 (int 1 1 56) ∷ []) (float 0 1 62) ∷ [])
    ∷ [])
    ∷ [])
    (codes "f" ∷ codes "x" ∷ [])

-- ---- an annotation fixes its parameter

-- let f(a : int, b : float, c : bool) = 1
abbrev pub annotations : Program
annotations =
    program
    (declared Function (name 0 1 5)
    (param (name 1 1 7) (Some Int) ∷ param (name 2 1 16) (Some Float) ∷ param (name 3 1 27) (Some Bool) ∷ [])
    (int 1 1 39 ∷ []) []
    ∷ [])
    (codes "f" ∷ codes "a" ∷ codes "b" ∷ codes "c" ∷ [])

-- let f(a : int) = a +. 1.0
abbrev pub annotation_broken : Program
annotation_broken =
    program
    (declared Function (name 0 1 5) (param (name 1 1 7) (Some Int) ∷ [])
    (chain (var 1 1 18) (op PlusDot 1 20 (float 1 1 23) ∷ []) ∷ []) []
    ∷ [])
    (codes "f" ∷ codes "a" ∷ [])

-- ---- of two clashes the first in the text counts

-- let f() = (1 + 1.0) + (1 + true)
abbrev pub first_clash : Program
first_clash =
    program
    (declared Function (name 0 1 5) []
    (chain (chain (int 1 1 12) (op Plus 1 14 (float 1 1 16) ∷ []))
    (op Plus 1 21 (chain (int 1 1 24) (op Plus 1 26 (bool true 1 28) ∷ [])) ∷ [])
    ∷ [])
    []
    ∷ [])
    (codes "f" ∷ [])

-- ---- a variable has one type, and the first that has two is refused

-- let f(a : int, b, c) = a
abbrev pub open_parameter : Program
open_parameter =
    program
    (declared Function (name 0 1 5)
    (param (name 1 1 7) (Some Int) ∷ param (name 2 1 16) None ∷ param (name 3 1 19) None ∷ [])
    (var 1 1 24 ∷ []) []
    ∷ [])
    (codes "f" ∷ codes "a" ∷ codes "b" ∷ codes "c" ∷ [])

-- let node f() = 1 where init x = last y and init y = last x
-- what two variables say of each other gives neither a type
abbrev pub open_variable : Program
open_variable =
    program
    (declared Node (name 0 1 10) [] (int 1 1 16 ∷ [])
    (init 1 24 (name 1 1 29) (last 1 33 (name 2 1 38)) ∷ init 1 44 (name 2 1 49) (last 1 53 (name 1 1 58)) ∷ [])
    ∷ [])
    (codes "f" ∷ codes "x" ∷ codes "y" ∷ [])

-- ---- a clash comes before a variable with two types, and that before a context that is broken

-- let f(a) = pre a
abbrev pub open_before_kind : Program
open_before_kind =
    program (declared Function (name 0 1 5) (param (name 1 1 7) None ∷ []) (before 1 12 (var 1 1 16) ∷ []) [] ∷ [])
    (codes "f" ∷ codes "a" ∷ [])

-- let f(a : int) = pre a + 1.0
abbrev pub clash_before_kind : Program
clash_before_kind =
    program
    (declared Function (name 0 1 5) (param (name 1 1 7) (Some Int) ∷ [])
    (chain (before 1 18 (var 1 1 22)) (op Plus 1 24 (float 1 1 26) ∷ []) ∷ []) []
    ∷ [])
    (codes "f" ∷ codes "a" ∷ [])

-- let f(a : int) = pre a
abbrev pub kind_behind_types : Program
kind_behind_types =
    program
    (declared Function (name 0 1 5) (param (name 1 1 7) (Some Int) ∷ []) (before 1 18 (var 1 1 22) ∷ []) [] ∷ [])
    (codes "f" ∷ codes "a" ∷ [])

-- ---- the laws

pub record EquationTypesWorked : Type 0 where
  pub constant_typed_keeps : KeepsTypes ([] ∷ (Int ∷ []) ∷ []) constant_typed
  pub constant_of_two_breaks : Clashes (at 2 13) constant_of_two
  pub results_typed_keeps : KeepsTypes ((Int ∷ Float ∷ []) ∷ (Int ∷ Float ∷ Int ∷ Float ∷ []) ∷ []) results_typed
  pub results_exchanged_breaks : Clashes (at 2 35) results_exchanged
  pub sides_typed_keeps : KeepsTypes ((Int ∷ Int ∷ []) ∷ []) sides_typed
  pub sides_of_two_breaks : Clashes (at 1 30) sides_of_two
  pub derivative_typed_keeps : KeepsTypes ((Float ∷ Float ∷ Float ∷ Float ∷ []) ∷ []) derivative_typed
  pub int_slope_breaks : Clashes (at 1 34) int_slope
  pub int_start_breaks : Clashes (at 1 43) int_start
  pub int_reset_breaks : Clashes (at 1 64) int_reset
  pub int_derivative_breaks : Clashes (at 1 30) int_derivative
  pub init_typed_keeps : KeepsTypes ((Int ∷ Int ∷ []) ∷ []) init_typed
  pub init_of_two_breaks : Clashes (at 1 45) init_of_two
  pub present_typed_keeps : KeepsTypes ((Bool ∷ []) ∷ []) present_typed
  pub until_typed_keeps : KeepsTypes ((Bool ∷ []) ∷ []) until_typed
  pub reset_typed_keeps : KeepsTypes ((Bool ∷ Int ∷ []) ∷ []) reset_typed
  pub present_of_int_breaks : Clashes (at 1 33) present_of_int
  pub until_of_int_breaks : Clashes (at 1 49) until_of_int
  pub reset_of_int_breaks : Clashes (at 1 43) reset_of_int
  pub up_typed_keeps : KeepsTypes ((Float ∷ Float ∷ Float ∷ []) ∷ []) up_typed
  pub up_of_int_breaks : Clashes (at 1 37) up_of_int
  pub reset_up_of_int_breaks : Clashes (at 1 56) reset_up_of_int
  pub annotations_keeps : KeepsTypes ((Int ∷ Float ∷ Bool ∷ []) ∷ []) annotations
  pub annotation_broken_breaks : Clashes (at 1 20) annotation_broken
  pub first_clash_breaks : Clashes (at 1 16) first_clash
  pub open_parameter_breaks : StaysOpen (at 1 16) open_parameter
  pub open_variable_breaks : StaysOpen (at 1 29) open_variable
  pub open_before_kind_breaks : StaysOpen (at 1 7) open_before_kind
  pub clash_before_kind_breaks : Clashes (at 1 26) clash_before_kind
  pub kind_behind_types_refused : IsTypesRefusedAt kind_behind_types Kind (at 1 18)
