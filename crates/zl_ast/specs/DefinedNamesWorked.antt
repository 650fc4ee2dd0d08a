-- Worked programs of the rules of names: definitions, calls, states, `main`, and `last` of a parameter.
use Rattle.std.specs.Prelude.{[], ◌∷◌, Some, None, codes}
use Rattle.zl_value.specs.declared.value.Ty.TheVariants.{Int}
use Rattle.zl_value.specs.declared.rule.Rule.TheVariants.{DefinedTwice, Undefined, Arity, Branch, Main, Last}
use Rattle.zl_ast.specs.declared.operator.Infix.TheVariants.{Plus}
use Rattle.zl_ast.specs.declared.program.DeclKind.TheVariants.{Function, Node, Hybrid}
use Rattle.zl_ast.specs.declared.program.Program.{Program}
use Rattle.zl_ast.specs.Equations.{body, arm, state}
use Rattle.zl_ast.specs.WorkedTrees.{at, name, int, float, var, last, call, op, chain, plain, plains, init, test, der, present, automaton, reset, until_then, unless_continue, constant, param, declared, least_main, program}
use Rattle.zl_ast.specs.Verdicts.{KeepsNames, BreaksNames}

-- ---- a list has one equation for a name, beside an `init`

-- let node f() = x where init x = 0 and x = 1
-- let hybrid main() = m where m = 1
abbrev pub value_and_init : Program
value_and_init =
    program
    (declared Node (name 0 1 10) [] (var 1 1 16 ∷ [])
    (init 1 24 (name 1 1 29) (int 0 1 33) ∷ plain (name 1 1 39) (int 1 1 43) ∷ [])
    ∷ least_main 2 2
    ∷ [])
    (codes "f" ∷ codes "x" ∷ codes "main" ∷ codes "m" ∷ [])

-- let node f() = x where x = 1 and x = 2
-- let hybrid main() = m where m = 1
abbrev pub two_values : Program
two_values =
    program
    (declared Node (name 0 1 10) [] (var 1 1 16 ∷ [])
    (plain (name 1 1 24) (int 1 1 28) ∷ plain (name 1 1 34) (int 2 1 38) ∷ [])
    ∷ least_main 2 2
    ∷ [])
    (codes "f" ∷ codes "x" ∷ codes "main" ∷ codes "m" ∷ [])

-- let hybrid f() = x where x = 1.0 and der x = 1.0
-- let hybrid main() = m where m = 1
-- a derivative is an equation for its name
abbrev pub value_and_derivative : Program
value_and_derivative =
    program
    (declared Hybrid (name 0 1 12) [] (var 1 1 18 ∷ [])
    (plain (name 1 1 26) (float 1 1 30) ∷ der 1 38 (name 1 1 42) (float 1 1 46) None [] ∷ [])
    ∷ least_main 2 2
    ∷ [])
    (codes "f" ∷ codes "x" ∷ codes "main" ∷ codes "m" ∷ [])

-- let node f(a) = x where x = 0 and present (a) -> do y = 1 and x = 1 done
-- let hybrid main() = m where m = 1
-- a `present` counts as one, and the refusal stands at the name inside it
abbrev pub value_and_arm : Program
value_and_arm =
    program
    (declared Node (name 0 1 10) (param (name 1 1 12) None ∷ []) (var 2 1 17 ∷ [])
    (plain (name 2 1 25) (int 0 1 29)
    ∷ present 1 35
    (arm (test 1 43 (var 1 1 44))
    (body [] (plain (name 3 1 53) (int 1 1 57) ∷ plain (name 2 1 63) (int 1 1 67) ∷ []))
    ∷ [])
    None
    ∷ [])
    ∷ least_main 4 2
    ∷ [])
    (codes "f" ∷ codes "a" ∷ codes "x" ∷ codes "y" ∷ codes "main" ∷ codes "m" ∷ [])

-- let node f(a) = x where reset x = 1 and x = 2 every (a)
-- let hybrid main() = m where m = 1
-- the equations of a `reset` block are a list of their own
abbrev pub two_in_reset : Program
two_in_reset =
    program
    (declared Node (name 0 1 10) (param (name 1 1 12) None ∷ []) (var 2 1 17 ∷ [])
    (reset 1 25 (plain (name 2 1 31) (int 1 1 35) ∷ plain (name 2 1 41) (int 2 1 45) ∷ [])
    (test 1 53 (var 1 1 54))
    ∷ [])
    ∷ least_main 3 2
    ∷ [])
    (codes "f" ∷ codes "a" ∷ codes "x" ∷ codes "main" ∷ codes "m" ∷ [])

-- let node f(a) = x where reset x = 1 every (a) and x = 2
-- let hybrid main() = m where m = 1
-- and the block is one equation of the list around it
abbrev pub reset_and_value : Program
reset_and_value =
    program
    (declared Node (name 0 1 10) (param (name 1 1 12) None ∷ []) (var 2 1 17 ∷ [])
    (reset 1 25 (plain (name 2 1 31) (int 1 1 35) ∷ []) (test 1 43 (var 1 1 44))
    ∷ plain (name 2 1 51) (int 2 1 55)
    ∷ [])
    ∷ least_main 3 2
    ∷ [])
    (codes "f" ∷ codes "a" ∷ codes "x" ∷ codes "main" ∷ codes "m" ∷ [])

-- ---- a list gives a name one `init`

-- let hybrid f() = x where der x = 1.0 and init x = 0.0
-- let hybrid main() = m where m = 1
abbrev pub derivative_and_init : Program
derivative_and_init =
    program
    (declared Hybrid (name 0 1 12) [] (var 1 1 18 ∷ [])
    (der 1 26 (name 1 1 30) (float 1 1 34) None [] ∷ init 1 42 (name 1 1 47) (float 0 1 51) ∷ [])
    ∷ least_main 2 2
    ∷ [])
    (codes "f" ∷ codes "x" ∷ codes "main" ∷ codes "m" ∷ [])

-- let node f() = x where init x = 0 and init x = 1
-- let hybrid main() = m where m = 1
-- the refusal stands at the name
abbrev pub two_inits : Program
two_inits =
    program
    (declared Node (name 0 1 10) [] (var 1 1 16 ∷ [])
    (init 1 24 (name 1 1 29) (int 0 1 33) ∷ init 1 39 (name 1 1 44) (int 1 1 48) ∷ [])
    ∷ least_main 2 2
    ∷ [])
    (codes "f" ∷ codes "x" ∷ codes "main" ∷ codes "m" ∷ [])

-- let hybrid f() = x where der x = 1.0 init 0.0 and init x = 0.0
-- let hybrid main() = m where m = 1
-- the `init` of a derivative is one
abbrev pub two_forms : Program
two_forms =
    program
    (declared Hybrid (name 0 1 12) [] (var 1 1 18 ∷ [])
    (der 1 26 (name 1 1 30) (float 1 1 34) (Some (float 0 1 43)) []
    ∷ init 1 51 (name 1 1 56) (float 0 1 60)
    ∷ [])
    ∷ least_main 2 2
    ∷ [])
    (codes "f" ∷ codes "x" ∷ codes "main" ∷ codes "m" ∷ [])

-- let node f(a) = x where init x = 0 and reset init x = 1 every (a)
-- let hybrid main() = m where m = 1
-- and so is that of an equation inside
abbrev pub init_and_inside : Program
init_and_inside =
    program
    (declared Node (name 0 1 10) (param (name 1 1 12) None ∷ []) (var 2 1 17 ∷ [])
    (init 1 25 (name 2 1 30) (int 0 1 34)
    ∷ reset 1 40 (init 1 46 (name 2 1 51) (int 1 1 55) ∷ []) (test 1 63 (var 1 1 64))
    ∷ [])
    ∷ least_main 3 2
    ∷ [])
    (codes "f" ∷ codes "a" ∷ codes "x" ∷ codes "main" ∷ codes "m" ∷ [])

-- ---- a left side has no name twice

-- let g(a) = (a, b) where b = a
-- let f(a : int) = x where (x, y) = g(a)
-- let hybrid main() = m where m = 1
abbrev pub left_names : Program
left_names =
    program
    (declared Function (name 0 1 5) (param (name 1 1 7) None ∷ []) (var 1 1 13 ∷ var 2 1 16 ∷ [])
    (plain (name 2 1 25) (var 1 1 29) ∷ [])
    ∷ declared Function (name 3 2 5) (param (name 1 2 7) (Some Int) ∷ []) (var 4 2 18 ∷ [])
    (plains (name 4 2 27 ∷ name 5 2 30 ∷ []) (call (name 0 2 35) (var 1 2 37 ∷ [])) ∷ [])
    ∷ least_main 6 3
    ∷ [])
    (codes "g" ∷ codes "a" ∷ codes "b" ∷ codes "f" ∷ codes "x" ∷ codes "y" ∷ codes "main" ∷ codes "m" ∷ [])

-- let g(a) = (a, b) where b = a
-- let f(a) = x where (x, x) = g(a)
-- let hybrid main() = m where m = 1
-- the refusal stands at the second
abbrev pub left_names_twice : Program
left_names_twice =
    program
    (declared Function (name 0 1 5) (param (name 1 1 7) None ∷ []) (var 1 1 13 ∷ var 2 1 16 ∷ [])
    (plain (name 2 1 25) (var 1 1 29) ∷ [])
    ∷ declared Function (name 3 2 5) (param (name 1 2 7) None ∷ []) (var 4 2 12 ∷ [])
    (plains (name 4 2 21 ∷ name 4 2 24 ∷ []) (call (name 0 2 29) (var 1 2 31 ∷ [])) ∷ [])
    ∷ least_main 5 3
    ∷ [])
    (codes "g" ∷ codes "a" ∷ codes "b" ∷ codes "f" ∷ codes "x" ∷ codes "main" ∷ codes "m" ∷ [])

-- ---- an equation of its body defines a local

-- let node f(a) = a where
--   present (a) -> local b, c in do init b = a and present (a) -> do c = a done else do c = b done done
-- let hybrid main() = m where m = 1
-- an equation inside will do, and so will an `init`
abbrev pub local_defined_inside : Program
local_defined_inside =
    program
    (declared Node (name 0 1 10) (param (name 1 1 12) None ∷ []) (var 1 1 17 ∷ [])
    (present 2 3
    (arm (test 2 11 (var 1 2 12))
    (body (name 2 2 24 ∷ name 3 2 27 ∷ [])
    (init 2 35 (name 2 2 40) (var 1 2 44)
    ∷ present 2 50
    (arm (test 2 58 (var 1 2 59)) (body [] (plain (name 3 2 68) (var 1 2 72) ∷ [])) ∷ [])
    (Some (body [] (plain (name 3 2 87) (var 2 2 91) ∷ [])))
    ∷ []))
    ∷ [])
    None
    ∷ [])
    ∷ least_main 4 3
    ∷ [])
    (codes "f" ∷ codes "a" ∷ codes "b" ∷ codes "c" ∷ codes "main" ∷ codes "m" ∷ [])

-- let node f(a) = a where present (a) -> local b, c in do b = a done
-- let hybrid main() = m where m = 1
abbrev pub local_undefined : Program
local_undefined =
    program
    (declared Node (name 0 1 10) (param (name 1 1 12) None ∷ []) (var 1 1 17 ∷ [])
    (present 1 25
    (arm (test 1 33 (var 1 1 34))
    (body (name 2 1 46 ∷ name 3 1 49 ∷ []) (plain (name 2 1 57) (var 1 1 61) ∷ []))
    ∷ [])
    None
    ∷ [])
    ∷ least_main 4 2
    ∷ [])
    (codes "f" ∷ codes "a" ∷ codes "b" ∷ codes "c" ∷ codes "main" ∷ codes "m" ∷ [])

-- let node f(a) = a where automaton A -> local b in do until (a) then A
-- let hybrid main() = m where m = 1
abbrev pub local_of_state : Program
local_of_state =
    program
    (declared Node (name 0 1 10) (param (name 1 1 12) None ∷ []) (var 1 1 17 ∷ [])
    (automaton 1 25
    (state (name 2 1 35) (body (name 3 1 46 ∷ []) [])
    (until_then 1 54 (test 1 60 (var 1 1 61)) (name 2 1 69) ∷ [])
    ∷ [])
    ∷ [])
    ∷ least_main 4 2
    ∷ [])
    (codes "f" ∷ codes "a" ∷ codes "A" ∷ codes "b" ∷ codes "main" ∷ codes "m" ∷ [])

-- ---- a call has as many arguments as the declaration has parameters

-- let f(a, b) = a
-- let g(a) = f(a, float_of_int(a))
-- let hybrid main() = m where m = 1
abbrev pub arguments : Program
arguments =
    program
    (declared Function (name 0 1 5) (param (name 1 1 7) None ∷ param (name 2 1 10) None ∷ []) (var 1 1 15 ∷ []) []
    ∷ declared Function (name 3 2 5) (param (name 1 2 7) None ∷ [])
    (call (name 0 2 12) (var 1 2 14 ∷ call (name 4 2 17) (var 1 2 30 ∷ []) ∷ []) ∷ []) []
    ∷ least_main 5 3
    ∷ [])
    (codes "f" ∷ codes "a" ∷ codes "b" ∷ codes "g" ∷ codes "float_of_int" ∷ codes "main" ∷ codes "m" ∷ [])

-- let f(a, b) = a
-- let g(a) = f(a)
-- let hybrid main() = m where m = 1
abbrev pub too_few_arguments : Program
too_few_arguments =
    program
    (declared Function (name 0 1 5) (param (name 1 1 7) None ∷ param (name 2 1 10) None ∷ []) (var 1 1 15 ∷ []) []
    ∷ declared Function (name 3 2 5) (param (name 1 2 7) None ∷ []) (call (name 0 2 12) (var 1 2 14 ∷ []) ∷ [])
    []
    ∷ least_main 4 3
    ∷ [])
    (codes "f" ∷ codes "a" ∷ codes "b" ∷ codes "g" ∷ codes "main" ∷ codes "m" ∷ [])

-- let f(a) = a
-- let g(a) = f(a, a)
-- let hybrid main() = m where m = 1
abbrev pub too_many_arguments : Program
too_many_arguments =
    program
    (declared Function (name 0 1 5) (param (name 1 1 7) None ∷ []) (var 1 1 12 ∷ []) []
    ∷ declared Function (name 2 2 5) (param (name 1 2 7) None ∷ [])
    (call (name 0 2 12) (var 1 2 14 ∷ var 1 2 17 ∷ []) ∷ []) []
    ∷ least_main 3 3
    ∷ [])
    (codes "f" ∷ codes "a" ∷ codes "g" ∷ codes "main" ∷ codes "m" ∷ [])

-- let g(a) = truncate(a, a)
-- let hybrid main() = m where m = 1
-- a built-in function has one
abbrev pub built_in_arguments : Program
built_in_arguments =
    program
    (declared Function (name 0 1 5) (param (name 1 1 7) None ∷ [])
    (call (name 2 1 12) (var 1 1 21 ∷ var 1 1 24 ∷ []) ∷ []) []
    ∷ least_main 3 2
    ∷ [])
    (codes "g" ∷ codes "a" ∷ codes "truncate" ∷ codes "main" ∷ codes "m" ∷ [])

-- ---- a call has as many results as are wanted: one in an expression, else as many as there are names on the left

-- let h(a) = (a, b) where b = a
-- let f(a : int) = x where (x, y) = h(a)
-- let hybrid main() = m where m = 1
abbrev pub results : Program
results =
    program
    (declared Function (name 0 1 5) (param (name 1 1 7) None ∷ []) (var 1 1 13 ∷ var 2 1 16 ∷ [])
    (plain (name 2 1 25) (var 1 1 29) ∷ [])
    ∷ declared Function (name 3 2 5) (param (name 1 2 7) (Some Int) ∷ []) (var 4 2 18 ∷ [])
    (plains (name 4 2 27 ∷ name 5 2 30 ∷ []) (call (name 0 2 35) (var 1 2 37 ∷ [])) ∷ [])
    ∷ least_main 6 3
    ∷ [])
    (codes "h" ∷ codes "a" ∷ codes "b" ∷ codes "f" ∷ codes "x" ∷ codes "y" ∷ codes "main" ∷ codes "m" ∷ [])

-- let h(a) = (a, b) where b = a
-- let f(a) = x where x = h(a)
-- let hybrid main() = m where m = 1
abbrev pub two_for_one_name : Program
two_for_one_name =
    program
    (declared Function (name 0 1 5) (param (name 1 1 7) None ∷ []) (var 1 1 13 ∷ var 2 1 16 ∷ [])
    (plain (name 2 1 25) (var 1 1 29) ∷ [])
    ∷ declared Function (name 3 2 5) (param (name 1 2 7) None ∷ []) (var 4 2 12 ∷ [])
    (plain (name 4 2 20) (call (name 0 2 24) (var 1 2 26 ∷ [])) ∷ [])
    ∷ least_main 5 3
    ∷ [])
    (codes "h" ∷ codes "a" ∷ codes "b" ∷ codes "f" ∷ codes "x" ∷ codes "main" ∷ codes "m" ∷ [])

-- let h(a) = (a, b) where b = a
-- let f(a) = 1 + h(a)
-- let hybrid main() = m where m = 1
abbrev pub two_in_expression : Program
two_in_expression =
    program
    (declared Function (name 0 1 5) (param (name 1 1 7) None ∷ []) (var 1 1 13 ∷ var 2 1 16 ∷ [])
    (plain (name 2 1 25) (var 1 1 29) ∷ [])
    ∷ declared Function (name 3 2 5) (param (name 1 2 7) None ∷ [])
    (chain (int 1 2 12) (op Plus 2 14 (call (name 0 2 16) (var 1 2 18 ∷ [])) ∷ []) ∷ []) []
    ∷ least_main 4 3
    ∷ [])
    (codes "h" ∷ codes "a" ∷ codes "b" ∷ codes "f" ∷ codes "main" ∷ codes "m" ∷ [])

-- let h(a) = (a, b) where b = a
-- let f(a) = x where (x, y, z) = h(a)
-- let hybrid main() = m where m = 1
abbrev pub two_for_three_names : Program
two_for_three_names =
    program
    (declared Function (name 0 1 5) (param (name 1 1 7) None ∷ []) (var 1 1 13 ∷ var 2 1 16 ∷ [])
    (plain (name 2 1 25) (var 1 1 29) ∷ [])
    ∷ declared Function (name 3 2 5) (param (name 1 2 7) None ∷ []) (var 4 2 12 ∷ [])
    (plains (name 4 2 21 ∷ name 5 2 24 ∷ name 6 2 27 ∷ []) (call (name 0 2 32) (var 1 2 34 ∷ [])) ∷ [])
    ∷ least_main 7 3
    ∷ [])
    (codes "h"
    ∷ codes "a"
    ∷ codes "b"
    ∷ codes "f"
    ∷ codes "x"
    ∷ codes "y"
    ∷ codes "z"
    ∷ codes "main"
    ∷ codes "m"
    ∷ [])

-- let h(a) = a
-- let f(a) = x where (x, y) = h(a)
-- let hybrid main() = m where m = 1
abbrev pub one_for_two_names : Program
one_for_two_names =
    program
    (declared Function (name 0 1 5) (param (name 1 1 7) None ∷ []) (var 1 1 12 ∷ []) []
    ∷ declared Function (name 2 2 5) (param (name 1 2 7) None ∷ []) (var 3 2 12 ∷ [])
    (plains (name 3 2 21 ∷ name 4 2 24 ∷ []) (call (name 0 2 29) (var 1 2 31 ∷ [])) ∷ [])
    ∷ least_main 5 3
    ∷ [])
    (codes "h" ∷ codes "a" ∷ codes "f" ∷ codes "x" ∷ codes "y" ∷ codes "main" ∷ codes "m" ∷ [])

-- let h(a) = (a, b) where b = a
-- let f(a) = x where (x, y) = h(h(a))
-- let hybrid main() = m where m = 1
-- an argument is an expression, also where two results are wanted of its call
abbrev pub two_for_argument : Program
two_for_argument =
    program
    (declared Function (name 0 1 5) (param (name 1 1 7) None ∷ []) (var 1 1 13 ∷ var 2 1 16 ∷ [])
    (plain (name 2 1 25) (var 1 1 29) ∷ [])
    ∷ declared Function (name 3 2 5) (param (name 1 2 7) None ∷ []) (var 4 2 12 ∷ [])
    (plains (name 4 2 21 ∷ name 5 2 24 ∷ []) (call (name 0 2 29) (call (name 0 2 31) (var 1 2 33 ∷ []) ∷ []))
    ∷ [])
    ∷ least_main 6 3
    ∷ [])
    (codes "h" ∷ codes "a" ∷ codes "b" ∷ codes "f" ∷ codes "x" ∷ codes "y" ∷ codes "main" ∷ codes "m" ∷ [])

-- ---- a move goes to a state of its automaton

-- let node f(a) = a where automaton A -> do until (a) then B | B -> do unless (a) continue A
-- let hybrid main() = m where m = 1
abbrev pub moves : Program
moves =
    program
    (declared Node (name 0 1 10) (param (name 1 1 12) None ∷ []) (var 1 1 17 ∷ [])
    (automaton 1 25
    (state (name 2 1 35) (body [] []) (until_then 1 43 (test 1 49 (var 1 1 50)) (name 3 1 58) ∷ [])
    ∷ state (name 3 1 62) (body [] []) (unless_continue 1 70 (test 1 77 (var 1 1 78)) (name 2 1 90) ∷ [])
    ∷ [])
    ∷ [])
    ∷ least_main 4 2
    ∷ [])
    (codes "f" ∷ codes "a" ∷ codes "A" ∷ codes "B" ∷ codes "main" ∷ codes "m" ∷ [])

-- let node f(a) = a where automaton A -> do until (a) then B
-- let hybrid main() = m where m = 1
abbrev pub move_to_none : Program
move_to_none =
    program
    (declared Node (name 0 1 10) (param (name 1 1 12) None ∷ []) (var 1 1 17 ∷ [])
    (automaton 1 25
    (state (name 2 1 35) (body [] []) (until_then 1 43 (test 1 49 (var 1 1 50)) (name 3 1 58) ∷ []) ∷ [])
    ∷ [])
    ∷ least_main 4 2
    ∷ [])
    (codes "f" ∷ codes "a" ∷ codes "A" ∷ codes "B" ∷ codes "main" ∷ codes "m" ∷ [])

-- let node f(a) = a where automaton A -> do automaton B -> do until (a) then A end until (a) then A
-- let hybrid main() = m where m = 1
-- a state of the automaton around it is none
abbrev pub move_outwards : Program
move_outwards =
    program
    (declared Node (name 0 1 10) (param (name 1 1 12) None ∷ []) (var 1 1 17 ∷ [])
    (automaton 1 25
    (state (name 2 1 35)
    (body []
    (automaton 1 43
    (state (name 3 1 53) (body [] []) (until_then 1 61 (test 1 67 (var 1 1 68)) (name 2 1 76) ∷ [])
    ∷ [])
    ∷ []))
    (until_then 1 82 (test 1 88 (var 1 1 89)) (name 2 1 97) ∷ [])
    ∷ [])
    ∷ [])
    ∷ least_main 4 2
    ∷ [])
    (codes "f" ∷ codes "a" ∷ codes "A" ∷ codes "B" ∷ codes "main" ∷ codes "m" ∷ [])

-- ---- no two states of an automaton have one name

-- let node f(a : int) = a where automaton A -> do done end and automaton A -> do done
-- let hybrid main() = m where m = 1
-- states of two automata may
abbrev pub states_of_two : Program
states_of_two =
    program
    (declared Node (name 0 1 10) (param (name 1 1 12) (Some Int) ∷ []) (var 1 1 23 ∷ [])
    (automaton 1 31 (state (name 2 1 41) (body [] []) [] ∷ [])
    ∷ automaton 1 62 (state (name 2 1 72) (body [] []) [] ∷ [])
    ∷ [])
    ∷ least_main 3 2
    ∷ [])
    (codes "f" ∷ codes "a" ∷ codes "A" ∷ codes "main" ∷ codes "m" ∷ [])

-- let node f(a) = a where automaton A -> do done | A -> do done
-- let hybrid main() = m where m = 1
abbrev pub state_again : Program
state_again =
    program
    (declared Node (name 0 1 10) (param (name 1 1 12) None ∷ []) (var 1 1 17 ∷ [])
    (automaton 1 25 (state (name 2 1 35) (body [] []) [] ∷ state (name 2 1 50) (body [] []) [] ∷ []) ∷ [])
    ∷ least_main 3 2
    ∷ [])
    (codes "f" ∷ codes "a" ∷ codes "A" ∷ codes "main" ∷ codes "m" ∷ [])

-- ---- there is a `main`, it is hybrid, and its results are variables

-- let hybrid main(a : int) = (a, x) where x = a
-- a parameter is a variable
abbrev pub main_of_parameter : Program
main_of_parameter =
    program
    (declared Hybrid (name 0 1 12) (param (name 1 1 17) (Some Int) ∷ []) (var 1 1 29 ∷ var 2 1 32 ∷ [])
    (plain (name 2 1 41) (var 1 1 45) ∷ [])
    ∷ [])
    (codes "main" ∷ codes "a" ∷ codes "x" ∷ [])

-- let f(a) = a
-- the refusal stands at the first place of the text
abbrev pub main_missing : Program
main_missing =
    program (declared Function (name 0 1 5) (param (name 1 1 7) None ∷ []) (var 1 1 12 ∷ []) [] ∷ [])
    (codes "f" ∷ codes "a" ∷ [])

-- let node main(a) = a
abbrev pub main_of_node : Program
main_of_node =
    program (declared Node (name 0 1 10) (param (name 1 1 15) None ∷ []) (var 1 1 20 ∷ []) [] ∷ [])
    (codes "main" ∷ codes "a" ∷ [])

-- let hybrid main(a) = a + 1 + 2
-- the refusal stands at the result's last operator
abbrev pub main_of_sum : Program
main_of_sum =
    program
    (declared Hybrid (name 0 1 12) (param (name 1 1 17) None ∷ [])
    (chain (var 1 1 22) (op Plus 1 24 (int 1 1 26) ∷ op Plus 1 28 (int 2 1 30) ∷ []) ∷ []) []
    ∷ [])
    (codes "main" ∷ codes "a" ∷ [])

-- let k = 1
-- let hybrid main(a) = k
-- a constant is no variable
abbrev pub main_of_constant : Program
main_of_constant =
    program
    (constant (name 0 1 5) (int 1 1 9)
    ∷ declared Hybrid (name 1 2 12) (param (name 2 2 17) None ∷ []) (var 0 2 22 ∷ []) []
    ∷ [])
    (codes "k" ∷ codes "main" ∷ codes "a" ∷ [])

-- ---- a parameter has no `last`

-- let node f(a : int) = x where init x = a and x = last x
-- let hybrid main() = m where m = 1
abbrev pub last_of_variable : Program
last_of_variable =
    program
    (declared Node (name 0 1 10) (param (name 1 1 12) (Some Int) ∷ []) (var 2 1 23 ∷ [])
    (init 1 31 (name 2 1 36) (var 1 1 40) ∷ plain (name 2 1 46) (last 1 50 (name 2 1 55)) ∷ [])
    ∷ least_main 3 2
    ∷ [])
    (codes "f" ∷ codes "a" ∷ codes "x" ∷ codes "main" ∷ codes "m" ∷ [])

-- let node f(a) = last a
-- let hybrid main() = m where m = 1
-- the refusal stands at `last`
abbrev pub last_of_parameter : Program
last_of_parameter =
    program
    (declared Node (name 0 1 10) (param (name 1 1 12) None ∷ []) (last 1 17 (name 1 1 22) ∷ []) []
    ∷ least_main 2 2
    ∷ [])
    (codes "f" ∷ codes "a" ∷ codes "main" ∷ codes "m" ∷ [])

-- ---- the laws

pub record DefinedNamesWorked : Type 0 where
  pub value_and_init_keeps : KeepsNames value_and_init
  pub two_values_breaks : BreaksNames DefinedTwice (at 1 34) two_values
  pub value_and_derivative_breaks : BreaksNames DefinedTwice (at 1 42) value_and_derivative
  pub value_and_arm_breaks : BreaksNames DefinedTwice (at 1 63) value_and_arm
  pub two_in_reset_breaks : BreaksNames DefinedTwice (at 1 41) two_in_reset
  pub reset_and_value_breaks : BreaksNames DefinedTwice (at 1 51) reset_and_value
  pub derivative_and_init_keeps : KeepsNames derivative_and_init
  pub two_inits_breaks : BreaksNames DefinedTwice (at 1 44) two_inits
  pub two_forms_breaks : BreaksNames DefinedTwice (at 1 56) two_forms
  pub init_and_inside_breaks : BreaksNames DefinedTwice (at 1 51) init_and_inside
  pub left_names_keeps : KeepsNames left_names
  pub left_names_twice_breaks : BreaksNames DefinedTwice (at 2 24) left_names_twice
  pub local_defined_inside_keeps : KeepsNames local_defined_inside
  pub local_undefined_breaks : BreaksNames Undefined (at 1 49) local_undefined
  pub local_of_state_breaks : BreaksNames Undefined (at 1 46) local_of_state
  pub arguments_keeps : KeepsNames arguments
  pub too_few_arguments_breaks : BreaksNames Arity (at 2 12) too_few_arguments
  pub too_many_arguments_breaks : BreaksNames Arity (at 2 12) too_many_arguments
  pub built_in_arguments_breaks : BreaksNames Arity (at 1 12) built_in_arguments
  pub results_keeps : KeepsNames results
  pub two_for_one_name_breaks : BreaksNames Arity (at 2 24) two_for_one_name
  pub two_in_expression_breaks : BreaksNames Arity (at 2 16) two_in_expression
  pub two_for_three_names_breaks : BreaksNames Arity (at 2 32) two_for_three_names
  pub one_for_two_names_breaks : BreaksNames Arity (at 2 29) one_for_two_names
  pub two_for_argument_breaks : BreaksNames Arity (at 2 31) two_for_argument
  pub moves_keeps : KeepsNames moves
  pub move_to_none_breaks : BreaksNames Branch (at 1 58) move_to_none
  pub move_outwards_breaks : BreaksNames Branch (at 1 76) move_outwards
  pub states_of_two_keeps : KeepsNames states_of_two
  pub state_again_breaks : BreaksNames Branch (at 1 50) state_again
  pub main_of_parameter_keeps : KeepsNames main_of_parameter
  pub main_missing_breaks : BreaksNames Main (at 1 1) main_missing
  pub main_of_node_breaks : BreaksNames Main (at 1 10) main_of_node
  pub main_of_sum_breaks : BreaksNames Main (at 1 28) main_of_sum
  pub main_of_constant_breaks : BreaksNames Main (at 2 22) main_of_constant
  pub last_of_variable_keeps : KeepsNames last_of_variable
  pub last_of_parameter_breaks : BreaksNames Last (at 1 17) last_of_parameter
